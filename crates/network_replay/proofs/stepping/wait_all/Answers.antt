use Rattle.std.proofs.Common.{◌≡◌, ℕ, ◌+◌, ◌*◌, ◌<◌, ◌≤◌, ◌∙◌, List, Some, inl, inr, subst, sym, arith, refl, ap, length, add-one}
use Rattle.std.specs.Prelude.{slice_get, slice_set, map as each, fold}
use Rattle.std.proofs.lemmas.Bool.{cases_eq}
use Rattle.std.proofs.lemmas.Option.{slice_get_read}
use Rattle.router_rules.specs.Inputs.{Wait}
use Rattle.router_rules.specs.NodeConfig.{NodeConfig}
use Rattle.router_rules.specs.Rule.{sent_after}
use Rattle.network_flight.specs.Steps.{Piece, next_state, state_after, word_of_state, word_for, step}
use Rattle.network_flight.specs.Worlds.{World, Item}
use Rattle.network_flight.proofs.MadeTables.{read_each}
use Rattle.network_replay.specs.Agreeing.{IsNode}
use Rattle.network_replay.specs.Mailing.{ArePut}
use Rattle.network_replay.specs.Posting.{Post, with_post}
use Rattle.network_replay.proofs.Mailed.{nothing_put, posted_room, posted_spelt, posted_wires, put_then}
use Rattle.network_replay.proofs.Making.{as_many_nodes, copies_at}
use Rattle.network_replay.proofs.Nodes.{within, length_set, each_set, set_there, set_elsewhere, all_at}
use Rattle.network_replay.proofs.Waiting.{state_more, all_waited, waited_node, waited_put, from_here_on, sent_behind}
use Rattle.network_replay.proofs.stepping.wait_all.Goals as goal

pub wait-requires : goal.wait-requires
wait-requires g c =
    let see = g.R.Router.seen in
    let n = c.loop-n.n in
    let inv = c.loop-n.invariant in
    let old = c.index_mut.result.now in
    let lt : n < length c.loop-n.nodes.items = omega (arith, c.loop-n-test.true, c.len-n-end.ensures, inv.many, c.args.nodes.now.ok.0) in
    let here = slice_get_read c.loop-n.nodes.items _ n old refl lt c.index_mut.ensures.value in
    let le : n ≤ n = omega arith in
    let first = sym (inv.later n le) ∙ here in
    all_at (λ (p : NodeConfig). c.args.ms ≤ 2 * p.quarter) (each see.place c.args.nodes.now.items) n (see.place old) c.requires.short (read_each see.place c.args.nodes.now.items n old first)

pub loop-n-preserved : goal.loop-n-preserved
loop-n-preserved g c =
    let see = g.R.Router.seen in
    let n = c.loop-n.n in
    let inv = c.loop-n.invariant in
    let old = c.index_mut.result.now in
    let new = c.wait.new.self in
    let mail = c.loop-n.mail in
    let lt : n < length c.loop-n.nodes.items = omega (arith, c.loop-n-test.true, c.len-n-end.ensures, inv.many, c.args.nodes.now.ok.0) in
    let here = slice_get_read c.loop-n.nodes.items _ n old refl lt c.index_mut.ensures.value in
    let le : n ≤ n = omega arith in
    let first = sym (inv.later n le) ∙ here in
    let drawn : (w : World) → c.args.words.now ≡ w.words → c.word_of-word.result ≡ word_for w.words n = λ w e. c.word_of-word.ensures
    ∙ ap word_of_state (c.next_state.ensures ∙ ap next_state (inv.words ∙ ap (λ x. state_after n x) e) ∙ sym (state_more n w.words)) in
    let from : c.set_from.new.self ≡ record mail { from = n } = c.set_from.ensures.from in
    let posts : (t : ℕ) → c.wait.new.out ≡ fold with_post (record mail { from = n }) (sent_after (see.place old) (see.place old) (t + c.args.ms) (Wait c.args.ms c.word_of-word.result)
    (see.facts old t)) =
    λ t. c.wait.ensures.sent t ∙ ap (λ (m : Post). fold with_post m (sent_after (see.place old) (see.place old) (t + c.args.ms) (Wait c.args.ms c.word_of-word.result) (see.facts old t))) from in
    let fit = λ (t : ℕ). posted_spelt (record mail { from = n }) c.wait.new.out (sent_after (see.place old) (see.place old) (t + c.args.ms) (Wait c.args.ms c.word_of-word.result)
    (see.facts old t)) inv.room (posts t) c.is_full-full.ensures.range (c.wait.ensures.fit t) in
    record {
      words = c.next_state.ensures ∙ ap next_state inv.words ∙ sym (state_more n c.args.words.now) ∙ ap (λ m. state_after m c.args.words.now) (sym (add-one n));
      many = length_set c.loop-n.nodes.items n new ∙ inv.many;
      places = each_set see.place c.loop-n.nodes.items n old new here c.wait.ensures.place ∙ inv.places;
      wires = posted_wires (record mail { from = n }) c.wait.new.out (sent_after (see.place old) (see.place old) (0 + c.args.ms) (Wait c.args.ms c.word_of-word.result) (see.facts old 0)) inv.room
          (posts 0) ∙ inv.wires;
      room = posted_room (record mail { from = n }) c.wait.new.out (sent_after (see.place old) (see.place old) (0 + c.args.ms) (Wait c.args.ms c.word_of-word.result) (see.facts old 0)) inv.room
          (posts 0);
      later = λ m more. set_elsewhere c.loop-n.nodes.items n m new (λ e. omega arith) ∙ inv.later m (omega arith);
      waited = λ q w ready m r less at.
          elim (cases_eq m n) [
            | inl same ↦
                let node = waited_node q w c.args.ms see n c.word_of-word.result old (ready.nodes.all n old first) (drawn w ready.words_are) new c.wait.ensures.place c.wait.ensures.facts in
                let is : r ≡ new = set_there c.loop-n.nodes.items n new r (subst (λ j. slice_get (slice_set c.loop-n.nodes.items n new) j ≡ Some r) same at) in
                subst (λ (x : g.row.R.Denot). IsNode see q (step q (Piece c.args.ms) w) m x) (sym is) (subst (λ j. IsNode see q (step q (Piece c.args.ms) w) j new) (sym same) node)
            | inr ne ↦ inv.waited q w ready m r (omega arith) (sym (set_elsewhere c.loop-n.nodes.items n m new ne) ∙ at)
          ];
      put = λ q w ready end more.
          let one = waited_put q w c.args.ms see n c.word_of-word.result old (ready.nodes.all n old first) (drawn w ready.words_are) mail c.wait.new.out
          (inv.wires ∙ sym ready.wired) inv.room posts fit in
          let both = put_then mail c.wait.new.out end (each (λ x. x.0) (copies_at q (Piece c.args.ms) w n (see.facts old w.clock))) (sent_behind q w c.args.ms (n + 1)) one more in
          inv.put q w ready end (subst (λ (xs : List Item). ArePut mail end xs) (sym (from_here_on q w c.args.ms see n c.word_of-word.result old (ready.nodes.all n old first)
          (drawn w ready.words_are))) both);
    }

pub returns-clause-nodes : goal.returns-clause-nodes
returns-clause-nodes g c = λ q w ready.
    let inv = c.loop-n.invariant in
    record {
      many = inv.many ∙ ready.nodes.many ∙ sym (as_many_nodes q (Piece c.args.ms) w);
      all = λ m r at. let lt = within c.loop-n.nodes.items m r at in inv.waited q w ready m r (omega (arith, lt, inv.many, c.loop-n-test.false, c.len-n-end.ensures, c.args.nodes.now.ok.0)) at;
    }

pub returns-clause-put : goal.returns-clause-put
returns-clause-put g c = λ q w ready.
    let inv = c.loop-n.invariant in
    let le : length w.nodes ≤ c.loop-n.n = omega (arith, inv.many, ready.nodes.many, c.loop-n-test.false, c.len-n-end.ensures, c.args.nodes.now.ok.0) in
    let here = c.loop-n.mail in
    inv.put q w ready here (subst (λ (xs : List Item). ArePut here here xs) (sym (all_waited q w c.args.ms c.loop-n.n le)) (nothing_put here here inv.room refl))
