use Rattle.std.proofs.Common.{sym, subst}
use Rattle.std.specs.Prelude.{IfErr}
use Rattle.stale_state.specs.AtNodes.{ifaces_at_node}
use Rattle.stale_state.specs.Kept.{facts_of, stale_of}
use Rattle.stale_state.specs.Standing.{IsLeftOut}
use Rattle.stale_state.specs.declared.fact.Left.{Left}
use Rattle.stale_state.proofs.at_node.AtNode.add.Goals as goal

pub returns-in-Path-clause-refused : goal.returns-in-Path-clause-refused
returns-in-Path-clause-refused c =
    subst (λ (f : Left). IfErr c.add_path.result (IsLeftOut (ifaces_at_node c.args.ends.now c.args.node) (stale_of f c.args.left) (facts_of c.args.self.now))) (sym c.in-Path.is)
    (c.add_path.ensures.refused (ifaces_at_node c.args.ends.now c.args.node))

pub returns-in-Wall-clause-refused : goal.returns-in-Wall-clause-refused
returns-in-Wall-clause-refused c =
    subst (λ (f : Left). IfErr c.add_wall.result (IsLeftOut (ifaces_at_node c.args.ends.now c.args.node) (stale_of f c.args.left) (facts_of c.args.self.now))) (sym c.in-Wall.is)
    (c.add_wall.ensures.refused (ifaces_at_node c.args.ends.now c.args.node))
