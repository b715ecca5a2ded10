-- Units of a Resv, one after another, as the code has them.
use Rattle.std.specs.Prelude.{◌≡◌, ℕ, ◌+◌, map as each, Some}
use Rattle.admission_book.specs.Book.{Entries}
use Rattle.resv_state.specs.Resvs.{ResvFacts}
use Rattle.resv_state.specs.declared.fact.ResvFact.{ResvFact}
use Rattle.rsvp_base.specs.Orders.{Names}
use Rattle.rsvp_base.specs.Styles.{part_unit}
use Rattle.rsvp_base.specs.Table.{changed}
use Rattle.rsvp_base.specs.declared.part.Part.{Part}
use Rattle.rsvp_base.specs.declared.style.StyleKind.{StyleKind}
use Rattle.style_rules.specs.Parts.{IsOfStyle, part_of}
use Rattle.router_rules.specs.Asking.{Blamed, Everyone, Nobody, These, Taking, names_that_match, refusal, Asker as AskerOf}
use Rattle.router_rules.specs.Facts.{Facts, with_resvs}
use Rattle.router_rules.specs.Inputs.{ErrSend}
use Rattle.router_rules.specs.NodeConfig.{NodeConfig}
use Rattle.rsvp_messages.specs.Units.{AskedUnit}
use Rattle.router_state.specs.State.{resv_at}
use Rattle.resv_admission.specs.Kept.{IsBookOf}
use Rattle.resv_admission.specs.declared.lost.Lost.{Lost}
use Rattle.resv_admission.specs.declared.lost.Lost.TheVariants as lost
use Rattle.resv_admission.specs.declared.refusals.Refusal.{Refusal}
use Rattle.resv_admission.specs.declared.unit.Asker.{Asker}
use Rattle.resv_admission.specs.declared.unit.Taken.{Taken}
use Rattle.resv_admission.specs.declared.unit.Wanted.{Wanted}

abbrev pub blamed : Lost → Blamed
blamed lost.Nobody = Nobody
blamed lost.Everyone = Everyone
blamed (lost.These names) = These names

-- a unit as the rule has it
abbrev pub asked_unit : Wanted → AskedUnit
asked_unit w = record { unit = w.unit; names = w.names; flow = w.flow }

-- who asks, at a clock
abbrev pub asker_at : ℕ → StyleKind → Asker → AskerOf
asker_at c st a = record { iface = a.iface; session = a.session; next = a.next; style = st; confirm = a.confirm; dies = c + a.left }

-- a part as it is asked for
abbrev pub asked_fact : Asker → Part → ResvFact
asked_fact a part = record { session = a.session; iface = a.iface; next = a.next; part = part; confirm = a.confirm }

-- a refusal as it goes back
abbrev pub refusal_of : NodeConfig → AskerOf → Refusal → ErrSend
refusal_of p o r = refusal p o r.in_place r.code r.value r.names r.flow

-- what a unit asks for, of those that match, is of the style and of its unit
abbrev pub IsFit : StyleKind → Names → Wanted → Type 0
IsFit st all w = (part : Part) → part_of (names_that_match w.names all) w.flow ≡ Some part → IsOfStyle st part × (part_unit st part ≡ w.unit)

-- the table, the book and what was told so far are those of the rule at a clock
pub record IsSoFar (p : NodeConfig) (c : ℕ) (st : StyleKind) (a : Asker) (f : Facts) (m : ResvFacts) (es : Entries) (done : Taken) (t : Taking) : Type 0 where
  pub table : t.table ≡ changed (resv_at c) m
  pub book : IsBookOf (with_resvs st t.table f) es
  pub errors : t.errors ≡ each (refusal_of p (asker_at c st a)) done.errors
  pub left_out : t.left_out ≡ done.left_out
  pub taken : t.taken ≡ done.parts
