use Rattle.std.proofs.Common.{◌≡◌, Some, ap, subst, ◌∙◌}
use Rattle.std.specs.Prelude.{slice_get}
use Rattle.rsvp_base.specs.Table.{size}
use Rattle.style_rules.specs.Lines.{BookTable, held}
use Rattle.grown_player.proofs.Counted.{entries_counted, some_node}
use Rattle.grown_player.proofs.counting.count_at.Goals as goal

pub returns-clause-entries : goal.returns-clause-entries
returns-clause-entries g c = λ q w agrees.
    let see = g.R.Router.seen in
    let (e, there, node, by) = c.in-Some.ensures in
    let r = c.in-Some-node.node.now in
    let is = agrees.nodes.all e.node r (subst (λ n. slice_get c.args.world.now.nodes n ≡ Some r) node c.in-Some-node.ensures) in
    c.count_entries.ensures.entries w.clock ∙ entries_counted (see.place r) (see.facts r w.clock) c.in-Some.iface
    ∙ ap (λ (b : BookTable). size b) (some_node c.args.wires.now w c.args.end e (see.facts r w.clock) c.in-Some.iface there is.facts by)

pub returns-clause-held : goal.returns-clause-held
returns-clause-held g c = λ q w agrees.
    let see = g.R.Router.seen in
    let (e, there, node, by) = c.in-Some.ensures in
    let r = c.in-Some-node.node.now in
    let is = agrees.nodes.all e.node r (subst (λ n. slice_get c.args.world.now.nodes n ≡ Some r) node c.in-Some-node.ensures) in
    c.held.ensures w.clock ∙ ap held (some_node c.args.wires.now w c.args.end e (see.facts r w.clock) c.in-Some.iface there is.facts by)
