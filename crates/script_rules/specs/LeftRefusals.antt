-- Why a left-over fact was not taken.
use Rattle.std.specs.Prelude.{ℕ, ◌++◌, ◌∷◌, []}
use Rattle.rsvp_base.specs.declared.session.Session.{Session}
use Rattle.router_rules.specs.Inputs.{Stale}
use Rattle.stale_state.specs.AtNodes.{ifaces_at_node}
use Rattle.stale_state.specs.Standing.{IsAdmittedIn}
use Rattle.script_grammar.specs.Draft.{Draft}
use Rattle.script_grammar.specs.Rules.{HasRoomForFact, HasRoomForSession, IsExcessAt}
use Rattle.network_model.specs.LeftFacts.{facts_at}
use Rattle.script_grammar.specs.declared.fault.Fault.TheVariants as fault
use Rattle.script_grammar.specs.declared.stop.Stop.{Stop}
use Rattle.script_grammar.specs.declared.stop.Stop.TheVariants.{Bad, Crowded, NoMemory}

-- where reservations are admitted with it
abbrev pub IsAdmittedAt : Draft → ℕ → Stale → Type 0
IsAdmittedAt d node s = IsAdmittedIn (ifaces_at_node d.net.ends node) s (facts_at (d.stale ++ (node, s) ∷ []) node)

-- there is room for it, and an interface admits it
pub record IsLeft (d : Draft) (node : ℕ) (s : Session) (f : Stale) : Type 0 where
  pub session : HasRoomForSession d s
  pub tables : HasRoomForFact d node f
  pub admitted : IsAdmittedAt d node f

-- the first of these that does not hold
abbrev pub IsNotLeft : Draft → ℕ → Session → Stale → Stop → Type 0
IsNotLeft d node s f (Bad fault.Limit) = HasRoomForSession d s × HasRoomForFact d node f → ⊥
IsNotLeft d node s f (Bad (fault.Over much)) = HasRoomForSession d s × HasRoomForFact d node f × (IsAdmittedAt d node f → ⊥) × IsExcessAt d node f much
IsNotLeft d node s f (Bad why) = ⊥
IsNotLeft d node s f Crowded = ⊥
IsNotLeft d node s f NoMemory = Unit {0}
