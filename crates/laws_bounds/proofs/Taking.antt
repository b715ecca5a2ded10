-- The units of a Resv, one by one.
use Rattle.std.specs.Prelude.{◌≡◌, ◌⊎◌, Bool, true, false, not, List, [], ◌∷◌, Option, Some, None, refl}
use Rattle.std.proofs.Common.{ap, ◌∙◌, inl, inr, ⊎_elim}
use Rattle.std.specs.Ordering.{eq_by_cmp}
use Rattle.admission_book.specs.declared.refused.Refused.{Refused}
use Rattle.rsvp_base.specs.declared.part.Part.{Part}
use Rattle.rsvp_base.specs.declared.style.Unit.{Unit as UnitOf}
use Rattle.rsvp_base.specs.Members.{In}
use Rattle.rsvp_base.specs.Orders.{Names}
use Rattle.rsvp_base.specs.Sets.{is_none}
use Rattle.rsvp_base.specs.Table.{get}
use Rattle.rsvp_base.proofs.Members.{in_left}
use Rattle.rsvp_base.proofs.Tables.{either, get-put_in_other, get-put_in_same, got_put_in, tied_same}
use Rattle.router_rules.specs.RsvpMessages.Units.{AskedUnit}
use Rattle.router_rules.specs.CutLaws.{made_of}
use Rattle.router_rules.specs.Lines.{LineKey, line_keys}
use Rattle.router_rules.specs.Parts.{has_name, part_of}
use Rattle.router_rules.specs.Asking.{Asker, Taking, book_refuses, has_entry, has_room, key_at, losses, lost, names_that_match, put_tested, put_unit, refusal, resv_state, table_with}
use Rattle.router_rules.specs.Asking.{take_unit, take_units, tell_lost, value_of}
use Rattle.router_rules.specs.Facts.{Facts, ResvState}
use Rattle.router_rules.specs.Inputs.{ErrSend}
use Rattle.router_rules.specs.NodeConfig.{NodeConfig}
use Rattle.laws_bounds.specs.AskLaws.{IsOfUnit, UnitsOneByOne}

module _ (p : NodeConfig) (o : Asker) (f : Facts) (all : Names) where
  -- what was done before the unit is put in its place
  abbrev pub told : Taking → AskedUnit → Taking
  told t u = tell_lost p o u.flow (lost o.style u.names all) t

  pub unit_by : (t : Taking) (u : AskedUnit) (part : Part) (room : Bool) (why : Option Refused) → part_of (names_that_match u.names all) u.flow ≡ Some part → has_room o u.unit part t.table ≡ room
      → book_refuses p o f u.unit part t.table ≡ why → take_unit p o f all t u ≡ put_tested p o f u.unit part room why (told t u)
  unit_by t u part room why is r w =
      ap (λ v. put_unit p o f u.unit v (told t u)) is ∙ ap (λ b. put_tested p o f u.unit part b (book_refuses p o f u.unit part t.table) (told t u)) r
      ∙ ap (λ v. put_tested p o f u.unit part room v (told t u)) w

  pub unit_taken : (t : Taking) (u : AskedUnit) (part : Part) → part_of (names_that_match u.names all) u.flow ≡ Some part → has_room o u.unit part t.table ≡ true
      → book_refuses p o f u.unit part t.table ≡ None
      → (take_unit p o f all t u).table ≡ table_with o u.unit part t.table
  unit_taken t u part is r w = ap (λ (z : Taking). z.table) (unit_by t u part true None is r w)

  pub unit_refused : (t : Taking) (u : AskedUnit) (part : Part) (why : Refused) → part_of (names_that_match u.names all) u.flow ≡ Some part → has_room o u.unit part t.table ≡ true
      → book_refuses p o f u.unit part t.table ≡ Some why
      → (take_unit p o f all t u).table ≡ t.table
  unit_refused t u part why is r w = ap (λ (z : Taking). z.table) (unit_by t u part true (Some why) is r w)

  pub unit_left_out : (t : Taking) (u : AskedUnit) (part : Part) → part_of (names_that_match u.names all) u.flow ≡ Some part → has_room o u.unit part t.table ≡ false
      → ((take_unit p o f all t u).table ≡ t.table) × ((take_unit p o f all t u).left_out ≡ true)
  unit_left_out t u part is r =
      let by = unit_by t u part false (book_refuses p o f u.unit part t.table) is r refl in
      (ap (λ (z : Taking). z.table) by, ap (λ (z : Taking). z.left_out) by)

  pub unit_of_nobody : (t : Taking) (u : AskedUnit) → part_of (names_that_match u.names all) u.flow ≡ None → (take_unit p o f all t u).table ≡ t.table
  unit_of_nobody t u is = ap (λ v. (put_unit p o f u.unit v (told t u)).table) is

  -- ---- where a reservation comes from
  unit_source : (t : Taking) (u : AskedUnit) (k : LineKey) (r : ResvState) → get (take_unit p o f all t u).table k ≡ Some r → (get t.table k ≡ Some r) ⊎ IsOfUnit o all (u ∷ []) k r
  unit_source t u k r h = by_part (part_of (names_that_match u.names all) u.flow) refl h
    where
      by_tests : (part : Part) → part_of (names_that_match u.names all) u.flow ≡ Some part → (b : Bool) (why : Option Refused) → get (put_tested p o f u.unit part b why (told t u)).table k ≡ Some r
          → (get t.table k ≡ Some r) ⊎ IsOfUnit o all (u ∷ []) k r
      by_tests part is false why h = inl h
      by_tests part is true (Some why) h = inl h
      by_tests part is true None h =
          ⊎_elim
          (λ (new : (k ≡ key_at o u.unit) × (r ≡ resv_state o part (get t.table (key_at o u.unit)))).
          let m = made_of (names_that_match u.names all) u.flow part is in
          inr (record {
            unit = u;
            asks = inl refl;
            key = new.0;
            senders = ap (λ (z : ResvState). z.part.senders) new.1 ∙ m.senders;
            flow = ap (λ (z : ResvState). z.part.flow) new.1 ∙ m.flow;
            named = ap (λ (z : ResvState). has_name z.part) new.1 ∙ ap not (ap is_none m.senders ∙ m.some);
            dies = ap (λ (z : ResvState). z.dies) new.1;
          }))
          (λ (old : get t.table k ≡ Some r). inl old)
          (got_put_in line_keys t.table (key_at o u.unit) (resv_state o part (get t.table (key_at o u.unit))) k r h)

      by_part : (w : Option Part) → part_of (names_that_match u.names all) u.flow ≡ w → get (put_unit p o f u.unit w (told t u)).table k ≡ Some r
          → (get t.table k ≡ Some r) ⊎ IsOfUnit o all (u ∷ []) k r
      by_part None is h = inl h
      by_part (Some part) is h = by_tests part is (has_room o u.unit part t.table) (book_refuses p o f u.unit part t.table) h

  of_first : (us : List AskedUnit) (u : AskedUnit) (k : LineKey) (r : ResvState) → IsOfUnit o all (u ∷ []) k r → IsOfUnit o all (u ∷ us) k r
  of_first us u k r m =
      record { unit = m.unit; asks = ⊎_elim (λ (e : m.unit ≡ u). inl e) (λ (n : ⊥). absurd n) m.asks; key = m.key; senders = m.senders; flow = m.flow; named = m.named; dies = m.dies }

  of_rest : (us : List AskedUnit) (u : AskedUnit) (k : LineKey) (r : ResvState) → IsOfUnit o all us k r → IsOfUnit o all (u ∷ us) k r
  of_rest us u k r m = record { unit = m.unit; asks = inr m.asks; key = m.key; senders = m.senders; flow = m.flow; named = m.named; dies = m.dies }

  pub units_source : (us : List AskedUnit) (t : Taking) (k : LineKey) (r : ResvState) → get (take_units p o f all t us).table k ≡ Some r → (get t.table k ≡ Some r) ⊎ IsOfUnit o all us k r
  units_source [] t k r h = inl h
  units_source (u ∷ us) t k r h =
      ⊎_elim
      (λ (old : get (take_unit p o f all t u).table k ≡ Some r).
      ⊎_elim (λ (older : get t.table k ≡ Some r). inl older) (λ (made : IsOfUnit o all (u ∷ []) k r). inr (of_first us u k r made)) (unit_source t u k r old))
      (λ (made : IsOfUnit o all us k r). inr (of_rest us u k r made))
      (units_source us (take_unit p o f all t u) k r h)

  -- ---- other keys
  unit_other : (t : Taking) (u : AskedUnit) (k : LineKey) → (k ≡ key_at o u.unit → ⊥) → get (take_unit p o f all t u).table k ≡ get t.table k
  unit_other t u k other = by_part (part_of (names_that_match u.names all) u.flow)
    where
      by_tests : (part : Part) (b : Bool) (why : Option Refused) → get (put_tested p o f u.unit part b why (told t u)).table k ≡ get t.table k
      by_tests part false why = refl
      by_tests part true (Some why) = refl
      by_tests part true None =
          get-put_in_other line_keys t.table (key_at o u.unit) (resv_state o part (get t.table (key_at o u.unit))) k
          (either (eq_by_cmp line_keys.cmp k (key_at o u.unit)) (λ tie. absurd (other (tied_same line_keys k (key_at o u.unit) tie))) (λ apart. apart))

      by_part : (w : Option Part) → get (put_unit p o f u.unit w (told t u)).table k ≡ get t.table k
      by_part None = refl
      by_part (Some part) = by_tests part (has_room o u.unit part t.table) (book_refuses p o f u.unit part t.table)

  pub units_other : (us : List AskedUnit) (t : Taking) (k : LineKey) → ((u : AskedUnit) → In u us → k ≡ key_at o u.unit → ⊥) → get (take_units p o f all t us).table k ≡ get t.table k
  units_other [] t k other = refl
  units_other (u ∷ us) t k other = units_other us (take_unit p o f all t u) k (λ v i. other v (inr i)) ∙ unit_other t u k (other u (inl refl))

  -- ---- refusals stay
  unit_errors : (t : Taking) (u : AskedUnit) (e : ErrSend) → In e t.errors → In e (take_unit p o f all t u).errors
  unit_errors t u e i = by_part (part_of (names_that_match u.names all) u.flow)
    where
      before : In e (told t u).errors
      before = in_left e t.errors (losses p o u.flow (lost o.style u.names all)) i

      by_tests : (part : Part) (b : Bool) (why : Option Refused) → In e (put_tested p o f u.unit part b why (told t u)).errors
      by_tests part false why = before
      by_tests part true (Some why) = in_left e (told t u).errors (refusal p o (has_entry o f u.unit t.table) 1 (value_of why) (Some part.senders) part.flow ∷ []) before
      by_tests part true None = before

      by_part : (w : Option Part) → In e (put_unit p o f u.unit w (told t u)).errors
      by_part None = before
      by_part (Some part) = by_tests part (has_room o u.unit part t.table) (book_refuses p o f u.unit part t.table)

  pub units_errors : (us : List AskedUnit) (t : Taking) (e : ErrSend) → In e t.errors → In e (take_units p o f all t us).errors
  units_errors [] t e i = i
  units_errors (u ∷ us) t e i = units_errors us (take_unit p o f all t u) e (unit_errors t u e i)

apart_from : (o : Asker) (u : UnitOf) (k : LineKey) → (k ≡ key_at o u → ⊥) → eq_by_cmp line_keys.cmp k (key_at o u) ≡ false
apart_from o u k other = either (eq_by_cmp line_keys.cmp k (key_at o u)) (λ tie. absurd (other (tied_same line_keys k (key_at o u) tie))) (λ apart. apart)

pub units_one_by_one : UnitsOneByOne
units_one_by_one =
    record {
      taken = unit_taken;
      refused = unit_refused;
      left_out = unit_left_out;
      nobody = unit_of_nobody;
      at = λ o u part t. get-put_in_same line_keys t (key_at o u) (resv_state o part (get t (key_at o u)));
      beside = λ o u part t k other. get-put_in_other line_keys t (key_at o u) (resv_state o part (get t (key_at o u))) k (apart_from o u k other);
      source = λ p o f all us t k r. units_source p o f all us t k r;
      others = λ p o f all us t k. units_other p o f all us t k;
      errors = λ p o f all us t e. units_errors p o f all us t e;
    }
