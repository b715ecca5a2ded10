-- The reservations of a style that a node keeps.
use Rattle.std.specs.Prelude.{◌≡◌, ◌-◌, ℕ, cond, nat_le, option_and_then, map as each, List, Option, Some, None, refl}
use Rattle.std.specs.Option.{option_map}
use Rattle.std.specs.Coded.{Coded, code_by, coded×, coded_ℕ}
use Rattle.rsvp_base.specs.Codes.{unit_code}
use Rattle.rsvp_base.specs.Orders.{addr_code}
use Rattle.rsvp_base.specs.Table.{Table, get, table_code}
use Rattle.rsvp_base.specs.contracts.session.Session as session
use Rattle.rsvp_base.specs.declared.addr.Addr.{Addr}
use Rattle.rsvp_base.specs.declared.style.StyleKind.{StyleKind}
use Rattle.style_rules.specs.Lines.{Line, LineKey, line_keys}
use Rattle.style_rules.specs.Parts.{IsOfStyle}
use Rattle.rsvp_base.specs.Styles.{part_unit}
use Rattle.resv_state.specs.declared.fact.Held.{Held}
use Rattle.resv_state.specs.declared.fact.ResvFact.{ResvFact}
use Rattle.resv_state.specs.contracts.fact.ResvFact as fact

-- by session, next hop and unit a reservation, with the milliseconds that are left of it; and the dead that wait
abbrev pub ResvFacts : Type 0
ResvFacts = Table line_keys (ResvFact × ℕ)

pub record ResvMap : Type 0 where
  pub facts : ResvFacts
  pub dead : Table line_keys ResvFact

-- under which key a reservation of the style stands
abbrev pub resv_key : StyleKind → ResvFact → LineKey
resv_key st f = (f.session, ((f.iface, f.next), part_unit st f.part))

-- each is of the style and stands under its key
pub record AreOfStyle (st : StyleKind) (m : ResvFacts) : Type 0 where
  pub style : (k : LineKey) (e : ResvFact × ℕ) → get m k ≡ Some e → IsOfStyle st e.0.part
  pub key : (k : LineKey) (e : ResvFact × ℕ) → get m k ≡ Some e → resv_key st e.0 ≡ k

abbrev pub AreUnderTheirKeys : StyleKind → Table line_keys ResvFact → Type 0
AreUnderTheirKeys st m = (k : LineKey) (f : ResvFact) → get m k ≡ Some f → resv_key st f ≡ k

-- ---- who wants to hear that a reservation stands
-- a wish for no confirmation leaves the one that stands
abbrev pub wish_kept : Option Addr → Option Addr → Option Addr
wish_kept None was = was
wish_kept (Some a) was = Some a

-- a reservation that is asked for, with the wish that it has in place of the one of its key
abbrev pub asked_in : StyleKind → ResvFacts → ResvFact → ResvFact
asked_in st m f = record f { confirm = wish_kept f.confirm (option_and_then (λ (was : ResvFact). was.confirm) (option_map (λ (e : ResvFact × ℕ). e.0) (get m (resv_key st f)))) }

-- ---- the lines that a table stands for
abbrev pub soft_resv : StyleKind → LineKey × (ResvFact × ℕ) → Line
soft_resv st e = record { style = st; session = e.0.0; end = e.0.1.0.0; next = e.0.1.0.1; unit = e.0.1.1; part = e.1.0.part }

abbrev pub resv_lines : StyleKind → ResvFacts → List Line
resv_lines st m = each (soft_resv st) m.rows

-- ---- how a table keeps them
abbrev pub held_key : Held → LineKey
held_key h = (h.fact.session, ((h.fact.iface, h.fact.next), h.unit))

abbrev pub held_row : Held × ℕ → LineKey × (Held × ℕ)
held_row e = (held_key e.0, e)

abbrev pub dead_row : Held → LineKey × Held
dead_row h = (held_key h, h)

abbrev pub fact_of : LineKey → Held × ℕ → Option (ResvFact × ℕ)
fact_of k e = Some (e.0.fact, e.1)

abbrev pub dead_of : LineKey → Held → Option ResvFact
dead_of k h = Some h.fact

-- ---- time
-- a reservation with more left than this time has so much less left
abbrev pub later : ℕ → LineKey → ResvFact × ℕ → Option (ResvFact × ℕ)
later ms k e = cond (nat_le e.1 ms) None (Some (e.0, e.1 - ms))

-- one with at most so much left is dead
abbrev pub dead_after : ℕ → LineKey → ResvFact × ℕ → Option ResvFact
dead_after ms k e = cond (nat_le e.1 ms) (Some e.0) None

-- ---- how tables are stored as numbers
abbrev pub line_key_code : Coded LineKey
line_key_code = coded× (session.the_row).coded (coded× (coded× coded_ℕ addr_code) unit_code)

abbrev pub resv_map_code : Coded ResvMap
resv_map_code =
    code_by (ResvFacts × Table line_keys ResvFact) (coded× (table_code line_keys line_key_code (coded× (fact.the_row).coded coded_ℕ)) (table_code line_keys line_key_code (fact.the_row).coded))
    (λ m. (m.facts, m.dead)) (λ p. record { facts = p.0; dead = p.1 }) (λ _. refl)
