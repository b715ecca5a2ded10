use Rattle.std.proofs.Common.{◌≡◌, ◌∙◌, ◌++◌, ◌+◌, ◌<◌, ◌≤◌, ◌⊎◌, ℕ, true, false, List, length, take, get_or, ap, sym, subst, refl, arith}
use Rattle.std.proofs.Math.Seq.{take-length}
use Rattle.rsvp_base.specs.declared.session.Session.{Session}
use Rattle.style_rules.specs.Lines.{Line}
use Rattle.network_demand.specs.declared.hop_want.HopWant.{HopWant}
use Rattle.network_demand.specs.Asked.{locals_of}
use Rattle.network_demand.specs.Books.{HaveLines, HasRoom, AreInside, wants_lines}
use Rattle.network_demand.specs.Demands.{style_lines}
use Rattle.network_demand.specs.Steps.{hop_wants}
use Rattle.rsvp_base.proofs.Tables.{either}
use Rattle.tree_model.specs.Networks.{node_of}
use Rattle.rsvp_base.specs.Members.{In}
use Rattle.network_demand.specs.Fits.{taken_at, room_at}
use Rattle.network_demand.proofs.FitLaws.{wants_inside}
use Rattle.network_demand.proofs.GoalLaws.{has_room, inside, more_proper, sessions_more}
use Rattle.network_demand.proofs.Inside.{index_in}
use Rattle.network_demand.proofs.Pools.{append_none, length_replicate}
use Rattle.network_demand.proofs.Rooms.{AreLeft, left_first, left_found, left_more, left_lack}
use Rattle.network_demand.proofs.ends.charge_style.Goals as goal

pub hop_wants-requires-clause-nodes : goal.hop_wants-requires-clause-nodes
hop_wants-requires-clause-nodes g c = λ k d lt. c.requires.locals.nodes _ (index_in c.args.locals.now.wants.items k d lt)

pub charge_wants-requires-clause-inside : goal.charge_wants-requires-clause-inside
charge_wants-requires-clause-inside g c =
    let d : Session = record { group = record { 0 = 0 }; proto = 0; port = 0 } in
    let s : Session = get_or c.args.sessions.now c.loop-session.session-index d in
    subst (λ (ws : List HopWant). AreInside c.loop-session.books.items ws) (sym (c.as_slice.ensures.value ∙ c.in_ok-wants.ensures))
    (inside c.args.routing.now (locals_of c.args.locals.now) c.args.order.now c.requires.order c.requires.valid g.S.Style.kind_is s c.loop-session.books.items c.loop-session.invariant.ends)

pub charge_wants-requires-clause-room : goal.charge_wants-requires-clause-room
charge_wants-requires-clause-room g c =
    let d : Session = record { group = record { 0 = 0 }; proto = 0; port = 0 } in
    let s : Session = get_or c.args.sessions.now c.loop-session.session-index d in
    let fed = c.loop-session.invariant.fed in
    subst (λ (ws : List HopWant). HasRoom g.S.Style.kind_is s c.loop-session.books.items ws) (sym (c.as_slice.ensures.value ∙ c.in_ok-wants.ensures))
    (has_room c.args.routing.now (locals_of c.args.locals.now) c.args.order.now c.requires.order c.requires.valid fed.lines c.loop-session.books.items fed.have fed.proper g.S.Style.kind_is s
    (c.requires.locals.few_senders s))

pub find_room-requires-clause-inside : goal.find_room-requires-clause-inside
find_room-requires-clause-inside g c =
    let d : Session = record { group = record { 0 = 0 }; proto = 0; port = 0 } in
    let s : Session = get_or c.args.sessions.now c.loop-session.session-index d in
    subst (λ (ws : List HopWant). (w : HopWant) → In w ws → node_of c.args.routing.now.ends w.hop.from < c.args.routing.now.nodes)
    (sym (c.as_slice-in-loop-session.ensures.value ∙ c.in_ok-wants.ensures))
    (wants_inside c.args.routing.now (locals_of c.args.locals.now) c.args.order.now c.requires.valid c.requires.order g.S.Style.kind_is s)

pub loop-session-init : goal.loop-session-init
loop-session-init g c =
    let st = g.S.Style.kind_is in
    let net = c.args.routing.now in
    let l = locals_of c.args.locals.now in
    record {
      ends = c.requires.ends;
      fed = c.requires.fed;
      lines = λ fed have. subst (λ (ls : List Line). HaveLines ls c.args.books.now.items) (sym (append_none fed)) have;
      nodes = ap length c.in_ok-lines.ensures ∙ length_replicate c.nodes.result 1024 ∙ c.nodes.ensures.nodes;
      room = λ t. left_first st net l c.args.order.now c.nodes.result c.in_ok-lines.lines.items c.in_ok-lines.ensures;
      full = λ e found. cc;
    }

pub loop-session-preserved : goal.loop-session-preserved
loop-session-preserved g c =
    let st = g.S.Style.kind_is in
    let net = c.args.routing.now in
    let l = locals_of c.args.locals.now in
    let order = c.args.order.now in
    let ss = c.args.sessions.now in
    let i = c.loop-session.session-index in
    let d : Session = record { group = record { 0 = 0 }; proto = 0; port = 0 } in
    let s : Session = get_or ss i d in
    let new = c.charge_wants.new.books.items in
    let fed = c.loop-session.invariant.fed in
    let ws : c.as_slice.result.now ≡ hop_wants st net l s order = c.as_slice.ensures.value ∙ c.in_ok-wants.ensures in
    let again : c.as_slice-in-loop-session.result.now ≡ hop_wants st net l s order = c.as_slice-in-loop-session.ensures.value ∙ c.in_ok-wants.ensures in
    record {
      ends = c.in_ok-charge_wants.ensures.size ∙ c.loop-session.invariant.ends;
      fed = record {
        lines = fed.lines ++ wants_lines st s net (hop_wants st net l s order);
        have = subst (λ (xs : List HopWant). HaveLines (fed.lines ++ wants_lines st s net xs) new) ws (c.in_ok-charge_wants.ensures.lines fed.lines net fed.have);
        proper = more_proper net l order c.requires.order fed.lines st s fed.proper;
      };
      lines = λ more have.
          subst (λ (ls : List Line). HaveLines ls new) (sym (sessions_more st net l order ss i d s more c.loop-session-test.true refl))
          (subst (λ (xs : List HopWant). HaveLines ((more ++ style_lines st net l order (take i ss)) ++ wants_lines st s net xs) new) ws
          (c.in_ok-charge_wants.ensures.lines (more ++ style_lines st net l order (take i ss)) net (c.loop-session.invariant.lines more have)));
      nodes = c.in_ok-fits.ensures.size;
      room = λ t.
          left_more st net l order ss i d s c.loop-session.lines.items c.loop-session-test.true refl (c.loop-session.invariant.room (c.in_ok-fits.ensures.before t)) c.find_room.new.lines.items
          (subst (λ (xs : List HopWant). (n : ℕ) → taken_at true net n xs ≤ 64) again (c.in_ok-fits.ensures.next_hops t))
          (subst (λ (xs : List HopWant). (full n : ℕ) → room_at full c.find_room.new.lines.items n + taken_at false net n xs ≡ room_at full c.loop-session.lines.items n) again
          (c.in_ok-fits.ensures.lines t));
      full = λ f.
          either c.loop-session.fits
          (λ t. left_lack st net l order ss i d s c.loop-session.lines.items c.loop-session-test.true refl (c.loop-session.invariant.room t) (index_in ss i d c.loop-session-test.true)
          (subst (λ (xs : List HopWant). (n : ℕ) × ((64 < taken_at true net n xs) ⊎ ((full : ℕ) → room_at full c.loop-session.lines.items n < taken_at false net n xs))) again
          (c.in_ok-fits.ensures.less f t)))
          (λ e. c.loop-session.invariant.full e);
    }

pub returns-clause-lines : goal.returns-clause-lines
returns-clause-lines g c =
    let ss = c.args.sessions.now in
    let i = c.loop-session.session-index in
    let all : take i ss ≡ ss = ap (λ k. take k ss) (let e : i ≡ length ss = omega arith in e) ∙ take-length ss in
    λ fed have. subst (λ (xs : List Session). HaveLines (fed ++ style_lines g.S.Style.kind_is c.args.routing.now (locals_of c.args.locals.now) c.args.order.now xs) c.loop-session.books.items) all
    (c.loop-session.invariant.lines fed have)

pub returns-clause-room : goal.returns-clause-room
returns-clause-room g c =
    let st = g.S.Style.kind_is in
    let net = c.args.routing.now in
    let l = locals_of c.args.locals.now in
    let ss = c.args.sessions.now in
    let i = c.loop-session.session-index in
    let all : take i ss ≡ ss = ap (λ k. take k ss) (let e : i ≡ length ss = omega arith in e) ∙ take-length ss in (
      λ t. left_found st net l c.args.order.now ss c.loop-session.lines.items (subst (λ (xs : List Session). AreLeft st net l c.args.order.now xs c.loop-session.lines.items) all
          (c.loop-session.invariant.room t)),
      λ found. either c.loop-session.fits (λ t. t) (λ e. absurd (c.loop-session.invariant.full e found)),
    )
