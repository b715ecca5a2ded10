use Rattle.std.proofs.Common.{◌≡◌, ◌++◌, ◌∷◌, ◌∙◌, ℕ, List, [], Some, subst, sym, ap, refl, arith, length, append-nil}
use Rattle.std.specs.Prelude.{slice_get, cond}
use Rattle.network_replay.specs.Due.{told}
use Rattle.network_flight.specs.Steps.{Deliver, step}
use Rattle.network_flight.specs.Parcels.{parcel}
use Rattle.network_replay.specs.Routed.{trees_in}
use Rattle.network_replay.specs.Agreeing.{NetworkState, Agrees}
use Rattle.network_replay.specs.Posting.{Post}
use Rattle.network_replay.specs.Running.{Ran}
use Rattle.tree_model.specs.Networks.{ends_of}
use Rattle.network_replay.proofs.Delivered.{due, delivery_crowds, delivery_told}
use Rattle.network_replay.proofs.Runnings.{not_off, well, ran_one, one_unsaid}
use Rattle.network_replay.proofs.Shown.{due_heard, none_heard}
use Rattle.network_replay.proofs.Stepped.{none_here, nothing_there}
use Rattle.network_replay.proofs.Tellings.{written_nowhere}
use Rattle.network_replay.proofs.world.World.hand_on.Goals as goal

pub hand_over-heard-requires : goal.hand_over-heard-requires
hand_over-heard-requires g c = λ n p e. c.self.invariant.wired n p e ∙ ap (λ (m : Post). length (ends_of m.net.ends n)) (sym c.take.ensures.rest)

pub returns-in_default-clause-made : goal.returns-in_default-clause-made
returns-in_default-clause-made g c = λ q w agrees.
    let see = g.R.Router.seen in
    let i = c.self.inside in
    let old : NetworkState g.row.R.Denot =
    record {
      quarter = i.quarter;
      post = i.mail;
      names = i.names.items;
      nodes = i.nodes.items;
      trees = trees_in i.routes.items;
      words = i.words;
      delivered = i.delivered;
      trace = i.trace;
      refused = i.refused;
    } in
    let at : Agrees see q old w = subst (λ (v : NetworkState g.row.R.Denot). Agrees see q v w) (sym c.self.view_is) agrees in
    let k = c.args.place in
    let o = c.args.out.now.items in
    let none = c.in_default.ensures.none in
    let r = none_here see q old w at k none.0 in
    subst (λ (u : NetworkState g.row.R.Denot). Ran see q u.names well o o (record old { post = c.take.new.self }) (Deliver k ∷ []) w) c.self.view_is
    (ran_one q old.names see o o [] (record old { post = c.take.new.self }) (Deliver k) w (r.0, subst (λ (m : Post). Agrees see q (record old { post = m }) (step q (Deliver k) w)) (sym none.1) r.1)
    (written_nowhere q old.names w k (nothing_there see q old w at k none.0)) (sym (append-nil o)))

pub returns-then-is_full-clause-made : goal.returns-then-is_full-clause-made
returns-then-is_full-clause-made g c = λ q w agrees.
    let see = g.R.Router.seen in
    let i = c.self.inside in
    let old : NetworkState g.row.R.Denot =
    record {
      quarter = i.quarter;
      post = i.mail;
      names = i.names.items;
      nodes = i.nodes.items;
      trees = trees_in i.routes.items;
      words = i.words;
      delivered = i.delivered;
      trace = i.trace;
      refused = i.refused;
    } in
    let at : Agrees see q old w = subst (λ (v : NetworkState g.row.R.Denot). Agrees see q v w) (sym c.self.view_is) agrees in
    let k = c.args.place in
    let o = c.args.out.now.items in
    let held : c.take.new.hand.value ≡ c.bytes-bytes.result.now = grind (arith, c.bytes-bytes.ensures.bytes, c.deref.ensures) in
    let there : slice_get i.mail.flight k ≡ Some (record { end = c.in-Some.end; dst = c.in-Some.dst; bytes = c.bytes-bytes.result.now }) = c.in-Some.ensures.some
    ∙ ap (λ (bs : List ℕ). Some (parcel c.in-Some.dst bs c.in-Some.end)) held in
    let is = due see q old w at k c.in-Some.end c.in-Some.dst c.bytes-bytes.result.now c.take.new.self c.hand_over-heard.new.mail there c.take.ensures.rest in
    let put = c.hand_over-heard.ensures.put q w k is at.nodes in
    delivery_crowds see q old w at k c.in-Some.end c.in-Some.dst c.bytes-bytes.result.now c.take.new.self c.hand_over-heard.new.mail there c.take.ensures.rest put c.args.self.now.names o old
    (sym c.is_full.ensures.full ∙ c.if-is_full.true)

pub returns-in-Ok-clause-made : goal.returns-in-Ok-clause-made
returns-in-Ok-clause-made g c = λ q w agrees.
    let see = g.R.Router.seen in
    let i = c.self.inside in
    let old : NetworkState g.row.R.Denot =
    record {
      quarter = i.quarter;
      post = i.mail;
      names = i.names.items;
      nodes = i.nodes.items;
      trees = trees_in i.routes.items;
      words = i.words;
      delivered = i.delivered;
      trace = i.trace;
      refused = i.refused;
    } in
    let at : Agrees see q old w = subst (λ (v : NetworkState g.row.R.Denot). Agrees see q v w) (sym c.self.view_is) agrees in
    let k = c.args.place in
    let o = c.args.out.now.items in
    let held : c.take.new.hand.value ≡ c.bytes-bytes.result.now = grind (arith, c.bytes-bytes.ensures.bytes, c.deref.ensures) in
    let there : slice_get i.mail.flight k ≡ Some (record { end = c.in-Some.end; dst = c.in-Some.dst; bytes = c.bytes-bytes.result.now }) = c.in-Some.ensures.some
    ∙ ap (λ (bs : List ℕ). Some (parcel c.in-Some.dst bs c.in-Some.end)) held in
    let is = due see q old w at k c.in-Some.end c.in-Some.dst c.bytes-bytes.result.now c.take.new.self c.hand_over-heard.new.mail there c.take.ensures.rest in
    let put = c.hand_over-heard.ensures.put q w k is at.nodes in
    let said : c.tell.new.out.items ≡ o ++ cond i.trace (told (slice_get c.as_slice.result.now c.in-Some.end) is.item.arrival c.hand_over-heard.result) [] =
    c.in-Ok.ensures.ok is.item.arrival is.is.arrival in
    let v : NetworkState g.row.R.Denot = record old { post = c.hand_over-heard.new.mail; nodes = c.hand_over-heard.new.nodes.items; delivered = c.saturating_add-self-inside.result } in
    subst (λ (u : NetworkState g.row.R.Denot). Ran see q u.names well o c.tell.new.out.items v (Deliver k ∷ []) w) c.self.view_is
    (delivery_told see q old w at k c.in-Some.end c.in-Some.dst c.bytes-bytes.result.now c.take.new.self c.hand_over-heard.new.mail there c.take.ensures.rest put o c.tell.new.out.items v
    c.hand_over-heard.result refl (sym c.is_full.ensures.full ∙ c.if-is_full.false) at.going refl
    (c.hand_over-heard.ensures.nodes q w k is at.nodes) refl c.saturating_add-self-inside.ensures refl (c.hand_over-heard.ensures.heard q w k is at.nodes)
    (subst (λ (ns : List (List ℕ)). c.tell.new.out.items ≡ o ++ cond i.trace (told (slice_get ns c.in-Some.end) is.item.arrival c.hand_over-heard.result) []) c.as_slice.ensures.value said))

pub returns-in-Err-clause-made : goal.returns-in-Err-clause-made
returns-in-Err-clause-made g c = λ q w agrees.
    let see = g.R.Router.seen in
    let i = c.self.inside in
    let old : NetworkState g.row.R.Denot =
    record {
      quarter = i.quarter;
      post = i.mail;
      names = i.names.items;
      nodes = i.nodes.items;
      trees = trees_in i.routes.items;
      words = i.words;
      delivered = i.delivered;
      trace = i.trace;
      refused = i.refused;
    } in
    let at : Agrees see q old w = subst (λ (v : NetworkState g.row.R.Denot). Agrees see q v w) (sym c.self.view_is) agrees in
    one_unsaid q c.args.self.now.names see c.args.out.now.items c.tell.new.out.items old (Deliver c.args.place) w c.in-Err.ensures.err

pub returns-in-Err-clause-only : goal.returns-in-Err-clause-only
returns-in-Err-clause-only g c = λ e. sym (ap (λ (v : NetworkState g.row.R.Denot). v.trace) c.self.view_is) ∙ not_off c.self.inside.trace (λ off. let no = c.in-Err.ensures.only off in cc)

pub returns-in_default-clause-seen : goal.returns-in_default-clause-seen
returns-in_default-clause-seen g c = λ q w agrees.
    let see = g.R.Router.seen in
    let i = c.self.inside in
    let old : NetworkState g.row.R.Denot =
    record {
      quarter = i.quarter;
      post = i.mail;
      names = i.names.items;
      nodes = i.nodes.items;
      trees = trees_in i.routes.items;
      words = i.words;
      delivered = i.delivered;
      trace = i.trace;
      refused = i.refused;
    } in
    let at : Agrees see q old w = subst (λ (v : NetworkState g.row.R.Denot). Agrees see q v w) (sym c.self.view_is) agrees in
    let k = c.args.place in
    none_heard q w k c.args.seen.now c.requires.unseen (nothing_there see q old w at k c.in_default.ensures.none.0)

pub returns-then-is_full-clause-seen : goal.returns-then-is_full-clause-seen
returns-then-is_full-clause-seen g c = λ q w agrees.
    let see = g.R.Router.seen in
    let i = c.self.inside in
    let old : NetworkState g.row.R.Denot =
    record {
      quarter = i.quarter;
      post = i.mail;
      names = i.names.items;
      nodes = i.nodes.items;
      trees = trees_in i.routes.items;
      words = i.words;
      delivered = i.delivered;
      trace = i.trace;
      refused = i.refused;
    } in
    let at : Agrees see q old w = subst (λ (v : NetworkState g.row.R.Denot). Agrees see q v w) (sym c.self.view_is) agrees in
    let k = c.args.place in
    let held : c.take.new.hand.value ≡ c.bytes-bytes.result.now = grind (arith, c.bytes-bytes.ensures.bytes, c.deref.ensures) in
    let there : slice_get i.mail.flight k ≡ Some (record { end = c.in-Some.end; dst = c.in-Some.dst; bytes = c.bytes-bytes.result.now }) = c.in-Some.ensures.some
    ∙ ap (λ (bs : List ℕ). Some (parcel c.in-Some.dst bs c.in-Some.end)) held in
    let is = due see q old w at k c.in-Some.end c.in-Some.dst c.bytes-bytes.result.now c.take.new.self c.hand_over-heard.new.mail there c.take.ensures.rest in
    due_heard q c.take.new.self.net c.in-Some.end c.in-Some.dst c.bytes-bytes.result.now w k is c.hand_over-heard.result (c.hand_over-heard.ensures.heard q w k is at.nodes)

pub returns-in-Ok-clause-seen : goal.returns-in-Ok-clause-seen
returns-in-Ok-clause-seen g c = λ q w agrees.
    let see = g.R.Router.seen in
    let i = c.self.inside in
    let old : NetworkState g.row.R.Denot =
    record {
      quarter = i.quarter;
      post = i.mail;
      names = i.names.items;
      nodes = i.nodes.items;
      trees = trees_in i.routes.items;
      words = i.words;
      delivered = i.delivered;
      trace = i.trace;
      refused = i.refused;
    } in
    let at : Agrees see q old w = subst (λ (v : NetworkState g.row.R.Denot). Agrees see q v w) (sym c.self.view_is) agrees in
    let k = c.args.place in
    let held : c.take.new.hand.value ≡ c.bytes-bytes.result.now = grind (arith, c.bytes-bytes.ensures.bytes, c.deref.ensures) in
    let there : slice_get i.mail.flight k ≡ Some (record { end = c.in-Some.end; dst = c.in-Some.dst; bytes = c.bytes-bytes.result.now }) = c.in-Some.ensures.some
    ∙ ap (λ (bs : List ℕ). Some (parcel c.in-Some.dst bs c.in-Some.end)) held in
    let is = due see q old w at k c.in-Some.end c.in-Some.dst c.bytes-bytes.result.now c.take.new.self c.hand_over-heard.new.mail there c.take.ensures.rest in
    due_heard q c.take.new.self.net c.in-Some.end c.in-Some.dst c.bytes-bytes.result.now w k is c.hand_over-heard.result (c.hand_over-heard.ensures.heard q w k is at.nodes)

pub returns-in-Err-clause-seen : goal.returns-in-Err-clause-seen
returns-in-Err-clause-seen g c = λ q w agrees.
    let see = g.R.Router.seen in
    let i = c.self.inside in
    let old : NetworkState g.row.R.Denot =
    record {
      quarter = i.quarter;
      post = i.mail;
      names = i.names.items;
      nodes = i.nodes.items;
      trees = trees_in i.routes.items;
      words = i.words;
      delivered = i.delivered;
      trace = i.trace;
      refused = i.refused;
    } in
    let at : Agrees see q old w = subst (λ (v : NetworkState g.row.R.Denot). Agrees see q v w) (sym c.self.view_is) agrees in
    let k = c.args.place in
    let held : c.take.new.hand.value ≡ c.bytes-bytes.result.now = grind (arith, c.bytes-bytes.ensures.bytes, c.deref.ensures) in
    let there : slice_get i.mail.flight k ≡ Some (record { end = c.in-Some.end; dst = c.in-Some.dst; bytes = c.bytes-bytes.result.now }) = c.in-Some.ensures.some
    ∙ ap (λ (bs : List ℕ). Some (parcel c.in-Some.dst bs c.in-Some.end)) held in
    let is = due see q old w at k c.in-Some.end c.in-Some.dst c.bytes-bytes.result.now c.take.new.self c.hand_over-heard.new.mail there c.take.ensures.rest in
    due_heard q c.take.new.self.net c.in-Some.end c.in-Some.dst c.bytes-bytes.result.now w k is c.hand_over-heard.result (c.hand_over-heard.ensures.heard q w k is at.nodes)
