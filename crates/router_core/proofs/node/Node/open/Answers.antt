use Rattle.std.proofs.Common.{◌≡◌, ap, sym, subst, ◌∙◌}
use Rattle.rsvp_base.specs.Table.{empty}
use Rattle.sent_state.specs.Lanes.{LaneMap}
use Rattle.router_state.specs.State.{IsKept, IsSaid, IsSettled, State, no_state}
use Rattle.router_state.proofs.Opening.{kept_none}
use Rattle.router_state.specs.Whole.{IsOfPlace, state_of}
use Rattle.router_rounds.specs.Steps.{AreSound}
use Rattle.router_core.proofs.node.Node.open.Goals as goal
use Rattle.router_core.proofs.node.Node.open.Goals.{In_ok-said}

module _ (c : In_ok-said) where
  silent : c.in_ok-said.said ≡ empty
  silent = c.in_ok-said.ensures

  opened : state_of c.in_ok-tables.tables empty ≡ no_state c.args.config
  opened = c.in_ok-tables.ensures.state

  made : state_of c.in_ok-tables.tables c.in_ok-said.said ≡ no_state c.args.config
  made = ap (λ (m : LaneMap). state_of c.in_ok-tables.tables m) silent ∙ opened

  kept : IsKept (no_state c.args.config)
  kept = kept_none c.args.config

  settled : IsSettled (state_of c.in_ok-tables.tables c.in_ok-said.said)
  settled = subst IsSettled (sym made) kept.settled

  told : IsSaid c.in_ok-said.said (state_of c.in_ok-tables.tables c.in_ok-said.said)
  told = subst (λ (n : State). IsSaid n.said n) (sym made) kept.said

  sound : AreSound c.in_ok-tables.tables
  sound = c.in_ok-tables.ensures.sound

  placed : IsOfPlace c.in_ok-tables.tables
  placed = c.in_ok-tables.ensures.place

pub invariant_of-result : goal.invariant_of-result
invariant_of-result c =
    let d = (goal.at.invariant_of-result c).In_ok-said in
    (sound d, (settled d, (told d, (placed d, tt))))

pub returns : goal.returns
returns c = made (goal.at.returns c).In_ok-said
