-- Rows of a merger: with one more request, in the end, and the room that they need.
use Rattle.std.specs.Prelude.{◌≡◌, ◌<◌, ◌≤◌, ◌⊎◌, ◌+◌, ◌++◌, ◌==◌, ℕ, Bool, true, false, cond, not, List, [], ◌∷◌, map as each, length, slice_get, Some, None, refl}
use Rattle.std.proofs.Common.{sym, ap, subst, ◌∙◌, arith, get_or, set, take, drop, inl, inr}
use Rattle.std.specs.List.{insert}
use Rattle.std.proofs.Math.Seq.{take-length}
use Rattle.std.proofs.lemmas.List.{take_more, take-append-drop}
use Rattle.rsvp_base.specs.declared.part.Part.{Part}
use Rattle.rsvp_base.specs.declared.session.Sender.{Sender}
use Rattle.rsvp_base.specs.declared.style.StyleKind.{StyleKind}
use Rattle.rsvp_base.specs.declared.style.Unit.{Unit as UnitOf}
use Rattle.rsvp_base.specs.Members.{In}
use Rattle.rsvp_base.specs.Orders.{units, senders, Names}
use Rattle.rsvp_base.specs.Rows.{AreRows, table_of, HasRowAt, LacksRowAt}
use Rattle.rsvp_base.specs.Sets.{union, IsWithin}
use Rattle.rsvp_base.specs.Table.{get, has, put_in, size, keys, changed_rows}
use Rattle.rsvp_base.proofs.Rows.{are_rows, rows_are, size_rows, get_found, get_absent, put_over, put_new, size-put_new}
use Rattle.rsvp_base.proofs.SetLaws.{union_assoc, size_within, within_union_left, within_union_right}
use Rattle.rsvp_base.proofs.Members.{in_left, in_right, in_append, in_each, to_each}
use Rattle.style_rules.specs.declared.row.Row.{Row}
use Rattle.rsvp_base.specs.Styles.{unit_of, unit_of_first, part_unit}
use Rattle.style_rules.specs.Parts.{has_name}
use Rattle.style_rules.specs.PartLaws.{same_names, union_least}
use Rattle.style_rules.specs.CutLaws.{name_some}
use Rattle.style_rules.specs.Tally.{Standing, TallyTable, stood_with, first_or_with, with_request, parts_of_tally, names_of_rows, names_of_tally, AreNamed, NamesFit}
use Rattle.style_rules.specs.TallyRows.{standing_of, tally_row}
use Rattle.style_rules.proofs.TallyRoom.{row_of_name, name_of_row, row_fits, room_after, named_after, rows_le_names}

-- ---- the first name
pub unit_first : (st : StyleKind) (ks : List Sender) (s : Sender) → slice_get ks 0 ≡ Some s → unit_of st s ≡ unit_of_first st ks
unit_first st [] s e = absurd (cc)
unit_first st (k ∷ ks) s e = let is : k ≡ s = cc in ap (unit_of st) (sym is)

rows_named : (es : List (Sender × Unit {0})) (s : Sender) → slice_get (each (λ e. e.0) es) 0 ≡ Some s → 0 < length es
rows_named [] s e = absurd (cc)
rows_named (x ∷ es) s e = omega arith

rows_unnamed : (es : List (Sender × Unit {0})) → slice_get (each (λ e. e.0) es) 0 ≡ None → length es ≡ 0
rows_unnamed [] e = refl
rows_unnamed (x ∷ es) e = absurd (cc)

pub first_named : (p : Part) (s : Sender) → slice_get (keys p.senders) 0 ≡ Some s → has_name p ≡ true
first_named p s e = ap not (name_some p.senders (rows_named p.senders.rows s e))

pub none_named : (p : Part) → slice_get (keys p.senders) 0 ≡ None → has_name p ≡ false
none_named p e = ap (λ n. not (n == 0)) (rows_unnamed p.senders.rows e)

pub with_named : (st : StyleKind) (t : TallyTable) (p : Part) (b : Bool) → has_name p ≡ true → put_in t (part_unit st p) (first_or_with (get t (part_unit st p)) p b) ≡ with_request st t p b
with_named st t p b e = sym (ap (λ c. cond c (put_in t (part_unit st p) (first_or_with (get t (part_unit st p)) p b)) t) e)

pub with_nobody : (st : StyleKind) (t : TallyTable) (p : Part) (b : Bool) → has_name p ≡ false → t ≡ with_request st t p b
with_nobody st t p b e = sym (ap (λ c. cond c (put_in t (part_unit st p) (first_or_with (get t (part_unit st p)) p b)) t) e)

-- ---- rows that are seen as a tally
module _ (xs : List Row) (up : AreRows units tally_row xs) (t : TallyTable) (is : table_of units tally_row xs up ≡ t) where
  -- what a merger's rows keep, they keep with one more request
  pub kept_rows : (st : StyleKind) (p : Part) (b : Bool) (u : UnitOf) (ys : List Row) → has_name p ≡ true → u ≡ part_unit st p → size (union (names_of_tally t) p.senders) ≤ 16
      → AreNamed st (each tally_row xs) → each tally_row ys ≡ (put_in t u (first_or_with (get t u) p b)).rows
      → AreRows units tally_row ys × (AreNamed st (each tally_row ys) × (NamesFit (each tally_row ys) × Unit {0}))
  kept_rows st p b u ys some at room named put =
      let now : each tally_row ys ≡ (put_in t (part_unit st p) (first_or_with (get t (part_unit st p)) p b)).rows = put ∙ ap (λ v. (put_in t v (first_or_with (get t v) p b)).rows) at in
      let old : AreNamed st t.rows = subst (AreNamed st) (rows_are units tally_row xs up t is) named in (
        are_rows units tally_row ys (put_in t u (first_or_with (get t u) p b)) put,
        (subst (AreNamed st) (sym now) (named_after st p some t b old), (subst NamesFit (sym now) (room_after t (part_unit st p) p b room), tt)),
      )

  -- there is room for a row of a unit that has none
  pub room_for_one : (st : StyleKind) (p : Part) (b : Bool) (u : UnitOf) (i : ℕ) → has_name p ≡ true → u ≡ part_unit st p → size (union (names_of_tally t) p.senders) ≤ 16
      → AreNamed st (each tally_row xs) → LacksRowAt units tally_row xs u i → length xs < 16
  room_for_one st p b u i some at room named lacks =
      let after = put_in t (part_unit st p) (first_or_with (get t (part_unit st p)) p b) in
      let all = named_after st p some t b (subst (AreNamed st) (rows_are units tally_row xs up t is) named) in
      let fewer = rows_le_names st after all in
      let few = room_after t (part_unit st p) p b room in
      let one : size after ≡ size t + 1 = size-put_new units tally_row xs up t is (part_unit st p) (first_or_with (get t (part_unit st p)) p b) i
      (subst (λ v. LacksRowAt units tally_row xs v i) at lacks) in
      let same = size_rows units tally_row xs up t is in
      omega (arith, fewer, few, one, same)

  pub row_room : (k : UnitOf) (i : ℕ) (d : Row) (p : Part) → HasRowAt units tally_row xs k i → size (union (names_of_tally t) p.senders) ≤ 16 → size (union (get_or xs i d).part.senders p.senders) ≤ 16
  row_room k i d p h room = row_fits t k (standing_of (get_or xs i d)) p.senders (get_found units tally_row xs up t is k i d h) room

  -- the row that is put in place of the unit's
  pub stood_row : (k : UnitOf) (i : ℕ) (d row : Row) (p : Part) (b : Bool) → HasRowAt units tally_row xs k i → row.unit ≡ (get_or xs i d).unit
      → standing_of row ≡ stood_with (standing_of (get_or xs i d)) p b
      → each tally_row (set xs i row) ≡ (put_in t k (first_or_with (get t k) p b)).rows
  stood_row k i d row p b h same stands =
      let found = get_found units tally_row xs up t is k i d h in
      put_over units tally_row xs up t is k (first_or_with (get t k) p b) row i
      (λ j. ((same ∙ h.key d) j, (stands ∙ sym (ap (λ w. first_or_with w p b) found)) j)) h

  pub new_row : (k : UnitOf) (i : ℕ) (row : Row) (p : Part) (b : Bool) → LacksRowAt units tally_row xs k i → row ≡ record { unit = k; part = p; is_open = not b }
      → each tally_row (insert xs i row) ≡ (put_in t k (first_or_with (get t k) p b)).rows
  new_row k i row p b h e =
      put_new units tally_row xs up t is k (first_or_with (get t k) p b) row i
      (ap tally_row e ∙ (λ j. (k, first_or_with (sym (get_absent units tally_row xs up t is k i h) j) p b))) h

-- ---- in the end
pub part_rows : (xs : List Row) → changed_rows (λ u (s : Standing). Some s.part) (each tally_row xs) ≡ each (λ (r : Row). (r.unit, r.part)) xs
part_rows [] = refl
part_rows (x ∷ xs) = ap (λ zs. (x.unit, x.part) ∷ zs) (part_rows xs)

-- the parts of all rows, one after another, are those of the tally
pub finished : (xs : List Row) (up : AreRows units tally_row xs) (t : TallyTable) → table_of units tally_row xs up ≡ t → (ys : List Row) (i : ℕ) (zs : List (UnitOf × Part))
    → zs ≡ each (λ (r : Row). (r.unit, r.part)) (take i ys) → i ≡ length ys → ys ≡ xs → zs ≡ (parts_of_tally t).rows
finished xs up t is ys i zs front end same =
    front ∙ ap (λ n. each (λ (r : Row). (r.unit, r.part)) (take n ys)) end ∙ ap (each (λ (r : Row). (r.unit, r.part))) (take-length ys ∙ same)
    ∙ sym (part_rows xs) ∙ ap (changed_rows (λ u (s : Standing). Some s.part)) (rows_are units tally_row xs up t is)

-- ---- names, row after row
names_push : (es : List (UnitOf × Standing)) (e : UnitOf × Standing) → union (names_of_rows es) e.1.part.senders ≡ names_of_rows (es ++ e ∷ [])
names_push es e =
    same_names (union (names_of_rows es) e.1.part.senders) (names_of_rows (es ++ e ∷ []))
    (union_least (names_of_rows es) e.1.part.senders (names_of_rows (es ++ e ∷ []))
    (λ s h. let r = row_of_name es s h in name_of_row (es ++ e ∷ []) r.0 s (in_left r.0 es (e ∷ []) r.1) r.2)
    (λ s h. name_of_row (es ++ e ∷ []) e s (in_right e es (e ∷ []) (inl refl)) h))
    (λ s h. let r = row_of_name (es ++ e ∷ []) s h in in_either s r.0 r.2 (in_append r.0 es (e ∷ []) r.1))
  where
    in_either : (s : Sender) (x : UnitOf × Standing) → has x.1.part.senders s ≡ true → In x es ⊎ In x (e ∷ []) → has (union (names_of_rows es) e.1.part.senders) s ≡ true
    in_either s x h (inl i) = within_union_left senders (names_of_rows es) e.1.part.senders s (name_of_row es x s i h)
    in_either s x h (inr (inl q)) = within_union_right senders (names_of_rows es) e.1.part.senders s (ap (λ (z : UnitOf × Standing). has z.1.part.senders s) (sym q) ∙ h)
    in_either s x h (inr (inr n)) = absurd n

each_push : (xs : List Row) (x : Row) → each tally_row (xs ++ x ∷ []) ≡ each tally_row xs ++ tally_row x ∷ []
each_push [] x = refl
each_push (y ∷ xs) x = ap (λ zs. tally_row y ∷ zs) (each_push xs x)

-- the names of a part and of the rows so far, with one row more
pub names_more : (p : Names) (xs : List Row) (i : ℕ) (d : Row) → i < length xs
    → union (union p (names_of_rows (each tally_row (take i xs)))) (get_or xs i d).part.senders ≡ union p (names_of_rows (each tally_row (take (i + 1) xs)))
names_more p xs i d lt =
    union_assoc senders p (names_of_rows (each tally_row (take i xs))) (get_or xs i d).part.senders
    ∙ ap (union p) (names_push (each tally_row (take i xs)) (tally_row (get_or xs i d)) ∙ ap names_of_rows
    (sym (each_push (take i xs) (get_or xs i d)) ∙ ap (each tally_row) (sym (take_more xs i d lt))))

-- and no more than those of all
pub names_so_far : (p : Names) (xs : List Row) (i : ℕ) → size (union p (names_of_rows (each tally_row (take i xs)))) ≤ size (union (names_of_rows (each tally_row xs)) p)
names_so_far p xs i =
    size_within senders (union p (names_of_rows (each tally_row (take i xs)))) (union (names_of_rows (each tally_row xs)) p)
    (union_least p (names_of_rows (each tally_row (take i xs))) (union (names_of_rows (each tally_row xs)) p) (within_union_right senders (names_of_rows (each tally_row xs)) p)
    (λ s h. within_union_left senders (names_of_rows (each tally_row xs)) p s (front s h)))
  where
    front : IsWithin (names_of_rows (each tally_row (take i xs))) (names_of_rows (each tally_row xs))
    front s h =
        let r = row_of_name (each tally_row (take i xs)) s h in
        let x = in_each tally_row r.0 (take i xs) r.1 in
        let all : In x.0 xs = subst (In x.0) (take-append-drop i xs) (in_left x.0 (take i xs) (drop i xs) x.1) in
        name_of_row (each tally_row xs) r.0 s (subst (λ z. In z (each tally_row xs)) (sym x.2) (to_each tally_row x.0 xs all)) r.2
