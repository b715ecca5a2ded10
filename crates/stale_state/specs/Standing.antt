-- What becomes of a fact that is to be left over at a node.
use Rattle.std.specs.Prelude.{◌≡◌, ◌<◌, ◌+◌, ◌-◌, List, Result, Ok, Err, Some, length}
use Rattle.admission_book.specs.declared.refused.Refused.{Refused}
use Rattle.admission_book.specs.declared.refused.Refused.TheVariants as refused
use Rattle.rsvp_base.specs.declared.iface.Iface.{Iface}
use Rattle.style_rules.specs.Parts.{IsOfStyle}
use Rattle.router_rules.specs.Bounds.{AreWithinLimits}
use Rattle.router_rules.specs.Calls.{with_left}
use Rattle.router_rules.specs.Facts.{Facts}
use Rattle.router_rules.specs.Inputs.{Stale, StalePath, StaleResv, StaleWall}
use Rattle.resv_admission.specs.declared.placing.Placed.{Placed}
use Rattle.resv_admission.specs.declared.placing.Placed.TheVariants as placed
use Rattle.network_model.specs.Excesses.{excess_at}
use Rattle.network_model.specs.declared.excess.Excess.{Excess}
use Rattle.network_model.specs.declared.excess.Excess.TheVariants as excess
use Rattle.stale_state.specs.Tables.{AreAdmitted}
use Rattle.stale_state.specs.declared.fact.Left.{Left}
use Rattle.stale_state.specs.declared.fact.Left.TheVariants as left
use Rattle.stale_state.specs.declared.refused.LeftErr.{LeftErr}
use Rattle.stale_state.specs.declared.refused.LeftErr.TheVariants.{Full, Over, NoMemory}

-- a reservation is of its style, and its interface is there
abbrev pub CanStand : List Iface → Left → Type 0
CanStand ifaces (left.Path f) = Unit {0}
CanStand ifaces (left.Resv st f) = IsOfStyle st f.part × (f.iface < length ifaces)
CanStand ifaces (left.Wall s t w) = Unit {0}

-- a reservation is admitted; the others ask an interface for nothing
abbrev pub IsAdmittedIn : List Iface → Stale → Facts → Type 0
IsAdmittedIn ifaces (StalePath k x) f = Unit {0}
IsAdmittedIn ifaces (StaleResv st k r) f = AreAdmitted ifaces f
IsAdmittedIn ifaces (StaleWall k b) f = Unit {0}

-- it stands: the facts have it, within the limits of their tables, and it is admitted
pub record Stands (ifaces : List Iface) (s : Stale) (old new : Facts) : Type 0 where
  pub facts : new ≡ with_left s old
  pub limits : AreWithinLimits new
  pub admitted : IsAdmittedIn ifaces s new

-- why it does not, and what the interface has too little of
abbrev pub IsLeftOut : List Iface → Stale → Facts → LeftErr → Type 0
IsLeftOut ifaces s f Full = AreWithinLimits (with_left s f) → ⊥
IsLeftOut ifaces s f (Over much) = AreWithinLimits (with_left s f) × (IsAdmittedIn ifaces s (with_left s f) → ⊥) × (excess_at ifaces s (with_left s f) ≡ Some much)
IsLeftOut ifaces s f NoMemory = Unit {0}

-- what the book of an interface refuses, with the sum of the rates: what the other entries hold of the capacity, and what is wanted
abbrev pub excess_of : Iface → Refused → Excess
excess_of on (refused.Mtu most mtu) = excess.Packet most mtu
excess_of on (refused.Rate want free) = excess.Rate (on.capacity - free + want) on.capacity

-- what became of a reservation on this interface, as the answer of what is left over
abbrev pub answer_of : Iface → Placed → Result (Unit {0}) LeftErr
answer_of on placed.Taken = Ok tt
answer_of on placed.LeftOut = Err Full
answer_of on (placed.Refused why) = Err (Over (excess_of on why))
