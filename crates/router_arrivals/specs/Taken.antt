-- What came of a Resv.
use Rattle.std.specs.Prelude.{◌≡◌, ℕ, ◌≤◌, [], map as each}
use Rattle.rsvp_base.specs.Orders.{Names}
use Rattle.rsvp_base.specs.Table.{size}
use Rattle.rsvp_base.specs.declared.style.StyleKind.{StyleKind}
use Rattle.rsvp_messages.specs.Units.{ask_style, asked_units}
use Rattle.rsvp_messages.specs.declared.ask.Ask.{Ask}
use Rattle.router_rules.specs.Asking.{Taking, asked_of, errors_in_order, nothing_taken, take_units, Asker as AskerOf}
use Rattle.router_rules.specs.Facts.{Facts, resvs_of}
use Rattle.router_rules.specs.Inputs.{Change}
use Rattle.router_rules.specs.NodeConfig.{NodeConfig}
use Rattle.router_state.specs.State.{State, table_in}
use Rattle.resv_admission.specs.Standing.{parts_in}
use Rattle.resv_admission.specs.Units.{asker_at, refusal_of}
use Rattle.resv_admission.specs.declared.unit.Asker.{Asker}
use Rattle.resv_admission.specs.declared.unit.Taken.{Taken}
use Rattle.router_arrivals.specs.declared.taking.Answer.{Answer}

-- the units, one after another, of senders that match
abbrev pub taking_from : NodeConfig → ℕ → Asker → Names → Ask → Facts → Taking
taking_from p c a all ask f = take_units p (asker_at c (ask_style ask) a) f all (nothing_taken (resvs_of (ask_style ask) f) []) (asked_units ask)

-- what was done is that of the rule
pub record IsDone (p : NodeConfig) (o : AskerOf) (done : Taken) (t : Taking) : Type 0 where
  pub errors : t.errors ≡ each (refusal_of p o) done.errors
  pub left_out : t.left_out ≡ done.left_out
  pub taken : t.taken ≡ done.parts

-- the errors in the order in which they go back, what is heard, and what is to be confirmed are those of the rule
pub record IsAnswer (p : NodeConfig) (o : AskerOf) (r : Answer) (k : Change) : Type 0 where
  pub errors : errors_in_order k.errors ≡ each (refusal_of p o) r.done.errors
  pub heard : k.heard ≡ r.heard
  pub asked : k.asked ≡ asked_of o r.taken o.confirm

-- no table of reservations has more than 1,024
abbrev pub AreFew : State → Type 0
AreFew n = (st : StyleKind) → size (table_in st n) ≤ 1024

-- in each table the same parts stand under the same keys
abbrev pub AreSameParts : State → State → Type 0
AreSameParts n m = (st : StyleKind) → parts_in (table_in st m) ≡ parts_in (table_in st n)
