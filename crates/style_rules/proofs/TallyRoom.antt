-- The names that a tally's rows have, and as many rows as names at most.
use Rattle.std.specs.Prelude.{◌≡◌, ◌≤◌, Bool, true, false, cond, not, List, map as each, length, is_some, Option, Some, None, refl}
use Rattle.std.proofs.Common.{sym, ap, subst, ◌∙◌, arith, ⊎_elim}
use Rattle.std.proofs.lemmas.List.{length-map}
use Rattle.std.specs.List.{flat_map}
use Rattle.std.specs.Option.{option_map}
use Rattle.std.specs.Ordering.{eq_by_cmp}
use Rattle.rsvp_base.specs.declared.part.Part.{Part}
use Rattle.rsvp_base.specs.declared.session.Sender.{Sender}
use Rattle.rsvp_base.specs.declared.style.StyleKind.{StyleKind}
use Rattle.rsvp_base.specs.declared.style.Unit.{Unit as UnitOf}
use Rattle.rsvp_base.specs.Members.{In}
use Rattle.rsvp_base.specs.Orders.{units, senders, Names}
use Rattle.rsvp_base.specs.Sets.{union, set_of, IsWithin}
use Rattle.rsvp_base.specs.Table.{get, has, size, keys, put_in}
use Rattle.rsvp_base.proofs.Tables.{tied_same, tied_self, got_put_in}
use Rattle.rsvp_base.proofs.SetLaws.{or_either, has-union, size_within, within_union_left, within_union_right}
use Rattle.rsvp_base.proofs.Members.{in_flat_map, to_flat_map, in_each, to_each, in_filter, all_in, in_all, in_any, any_in, in_tied}
use Rattle.rsvp_base.proofs.Lists.{has_keys}
use Rattle.rsvp_base.proofs.Counts.{in_found, found_in, in_set_of, set_of_in, size_below, size-set_of}
use Rattle.rsvp_base.specs.Styles.{unit_of, part_unit}
use Rattle.style_rules.specs.Parts.{has_name, part_join, part_meet}
use Rattle.style_rules.specs.Tally.{Standing, TallyTable, standing_by, standing_at, tally_of, names_of_requests, stood_with, first_or_with, names_of_rows, names_of_tally, is_named, AreNamed}
use Rattle.style_rules.specs.Merge.{all_by}
use Rattle.style_rules.specs.PartLaws.{union_least}
use Rattle.style_rules.specs.Toward.{Request, parts_of, open_of, requests_at, or_else}
use Rattle.style_rules.proofs.Folds.{all_keeps}
use Rattle.style_rules.proofs.Tallies.{get-tally_of}
use Rattle.style_rules.proofs.Towards.{request_in}
use Rattle.style_rules.proofs.StyleLaws.{named_in, in_named, unit_name}

-- ---- names of rows
pub row_of_name : (es : List (UnitOf × Standing)) (s : Sender) → has (names_of_rows es) s ≡ true → (e : UnitOf × Standing) × In e es × (has e.1.part.senders s ≡ true)
row_of_name es s h =
    let r = in_flat_map (λ (e : UnitOf × Standing). keys e.1.part.senders) s es (set_of_in senders (flat_map (λ (e : UnitOf × Standing). keys e.1.part.senders) es) s h) in
    (r.0, r.1, in_named r.0.1.part s r.2)

pub name_of_row : (es : List (UnitOf × Standing)) (e : UnitOf × Standing) (s : Sender) → In e es → has e.1.part.senders s ≡ true → has (names_of_rows es) s ≡ true
name_of_row es e s i h =
    in_set_of senders (flat_map (λ (z : UnitOf × Standing). keys z.1.part.senders) es) s (to_flat_map (λ (z : UnitOf × Standing). keys z.1.part.senders) e s es i (named_in e.1.part s h))

union_wider : (a b c d : Names) → IsWithin a c → IsWithin b d → IsWithin (union a b) (union c d)
union_wider a b c d h g s e =
    ⊎_elim (λ (x : has a s ≡ true). within_union_left senders c d s (h s x)) (λ (x : has b s ≡ true). within_union_right senders c d s (g s x))
    (or_either (has a s) (has b s) (sym (has-union senders a b s) ∙ e))

-- with a row's part, no more are named than with all rows
pub row_fits : (t : TallyTable) (u : UnitOf) (s : Standing) (names : Names) → get t u ≡ Some s → size (union (names_of_tally t) names) ≤ 16 → size (union s.part.senders names) ≤ 16
row_fits t u s names e room =
    let less = size_within senders (union s.part.senders names) (union (names_of_tally t) names)
    (union_wider s.part.senders names (names_of_tally t) names (λ q h. name_of_row t.rows (u, s) q (found_in units t u s e) h) (λ q h. h)) in
    omega arith

-- ---- one more request
stood_names : (s : Standing) (p : Part) (b : Bool) → IsWithin (stood_with s p b).part.senders (union s.part.senders p.senders)
stood_names s p true = elim s.is_open as (λ o. IsWithin (cond o s.part (part_meet s.part p)).senders (union s.part.senders p.senders)) [ true ↦ within_union_left senders s.part.senders p.senders | false ↦ λ q h. h ]
stood_names s p false = elim s.is_open as (λ o. IsWithin (cond o (part_join s.part p) p).senders (union s.part.senders p.senders)) [ true ↦ λ q h. h | false ↦ within_union_right senders s.part.senders p.senders ]

module _ (t : TallyTable) (u : UnitOf) (p : Part) (b : Bool) where
  new_names : (w : Option Standing) → get t u ≡ w → IsWithin (first_or_with w p b).part.senders (union (names_of_tally t) p.senders)
  new_names None e = within_union_right senders (names_of_tally t) p.senders
  new_names (Some s) e = λ q h. union_wider s.part.senders p.senders (names_of_tally t) p.senders (λ x i. name_of_row t.rows (u, s) x (found_in units t u s e) i) (λ x i. i) q (stood_names s p b q h)

  -- no name comes but those of the part
  pub names_after : IsWithin (names_of_tally (put_in t u (first_or_with (get t u) p b))) (union (names_of_tally t) p.senders)
  names_after q h =
      let e = row_of_name (put_in t u (first_or_with (get t u) p b)).rows q h in
      let at = in_found units (put_in t u (first_or_with (get t u) p b)) e.0.0 e.0.1 e.1 in
      ⊎_elim
      (λ (x : (e.0.0 ≡ u) × (e.0.1 ≡ first_or_with (get t u) p b)). new_names (get t u) refl q (ap (λ (s : Standing). has s.part.senders q) (sym x.1) ∙ e.2))
      (λ (x : get t e.0.0 ≡ Some e.0.1). within_union_left senders (names_of_tally t) p.senders q (name_of_row t.rows e.0 q (found_in units t e.0.0 e.0.1 x) e.2))
      (got_put_in units t u (first_or_with (get t u) p b) e.0.0 e.0.1 at)

  pub room_after : size (union (names_of_tally t) p.senders) ≤ 16 → size (names_of_tally (put_in t u (first_or_with (get t u) p b))) ≤ 16
  room_after room = let less = size_within senders (names_of_tally (put_in t u (first_or_with (get t u) p b))) (union (names_of_tally t) p.senders) names_after in omega arith

-- ---- rows stand under the unit of a name
named_by : (st : StyleKind) (u : UnitOf) (s : Standing) (q : Sender) → has s.part.senders q ≡ true → u ≡ unit_of st q → is_named st (u, s) ≡ true
named_by st u s q h e = any_in (λ z. eq_by_cmp units.cmp u (unit_of st z)) q (keys s.part.senders) (named_in s.part q h) (ap (eq_by_cmp units.cmp u) (sym e) ∙ tied_self units u)

name_by : (st : StyleKind) (u : UnitOf) (s : Standing) → is_named st (u, s) ≡ true → (q : Sender) × (has s.part.senders q ≡ true) × (u ≡ unit_of st q)
name_by st u s h =
    let r = in_any (λ z. eq_by_cmp units.cmp u (unit_of st z)) (keys s.part.senders) h in
    (r.0, in_named s.part r.0 r.1, tied_same units u (unit_of st r.0) r.2)

module _ (st : StyleKind) (p : Part) (some : has_name p ≡ true) where
  -- a part that has the names of p has a name of p's unit
  with_names : (s : Standing) → IsWithin p.senders s.part.senders → is_named st (part_unit st p, s) ≡ true
  with_names s h = let n = unit_name st p some in named_by st (part_unit st p) s n.name (h n.name n.there) n.unit

  stood_named : (s : Standing) (b : Bool) → is_named st (part_unit st p, s) ≡ true → is_named st (part_unit st p, stood_with s p b) ≡ true
  stood_named s true h = by s.is_open refl
    where
      by : (o : Bool) → s.is_open ≡ o → is_named st (part_unit st p, stood_with s p true) ≡ true
      by true e = subst (λ (x : Part). is_named st (part_unit st p, record { part = x; is_open = s.is_open }) ≡ true) (sym (ap (λ o. cond o s.part (part_meet s.part p)) e)) h
      by false e = with_names (stood_with s p true) (subst (λ (x : Part). IsWithin p.senders x.senders) (sym (ap (λ o. cond o s.part (part_meet s.part p)) e))
          (within_union_right senders s.part.senders p.senders))
  stood_named s false h = with_names (stood_with s p false) (by s.is_open refl)
    where
      by : (o : Bool) → s.is_open ≡ o → IsWithin p.senders (stood_with s p false).part.senders
      by true e = subst (λ (x : Part). IsWithin p.senders x.senders) (sym (ap (λ o. cond o (part_join s.part p) p) e)) (within_union_right senders s.part.senders p.senders)
      by false e = subst (λ (x : Part). IsWithin p.senders x.senders) (sym (ap (λ o. cond o (part_join s.part p) p) e)) (λ q h. h)

  pub named_after : (t : TallyTable) (b : Bool) → AreNamed st t.rows → AreNamed st (put_in t (part_unit st p) (first_or_with (get t (part_unit st p)) p b)).rows
  named_after t b h =
      in_all (is_named st) (put_in t (part_unit st p) (first_or_with (get t (part_unit st p)) p b)).rows
      (λ e i.
      ⊎_elim
      (λ (x : (e.0 ≡ part_unit st p) × (e.1 ≡ first_or_with (get t (part_unit st p)) p b)). (λ j. is_named st (x.0 j, x.1 j)) ∙ new_named (get t (part_unit st p)) refl)
      (λ (x : get t e.0 ≡ Some e.1). all_in (is_named st) t.rows h e (found_in units t e.0 e.1 x))
      (got_put_in units t (part_unit st p) (first_or_with (get t (part_unit st p)) p b) e.0 e.1 (in_found units (put_in t (part_unit st p) (first_or_with (get t (part_unit st p)) p b)) e.0 e.1 i)))
    where
      new_named : (w : Option Standing) → get t (part_unit st p) ≡ w → is_named st (part_unit st p, first_or_with w p b) ≡ true
      new_named None e = with_names (first_or_with None p b) (λ q h. h)
      new_named (Some s) e = stood_named s b (all_in (is_named st) t.rows h (part_unit st p, s) (found_in units t (part_unit st p) s e))

-- no more rows than names
pub rows_le_names : (st : StyleKind) (t : TallyTable) → AreNamed st t.rows → size t ≤ size (names_of_tally t)
rows_le_names st t h =
    let under = each (unit_of st) (keys (names_of_tally t)) in
    let less = size_below units t (set_of {o = units} under) (λ u e. in_set_of units under u (unit_in u (get t u) refl e)) in
    let more = size-set_of units under in
    let same : length under ≡ length (keys (names_of_tally t)) = length-map (keys (names_of_tally t)) (unit_of st) in
    let all : length (keys (names_of_tally t)) ≡ size (names_of_tally t) = length-map (names_of_tally t).rows (λ (e : Sender × Unit {0}). e.0) in
    omega arith
  where
    unit_in : (u : UnitOf) (w : Option Standing) → get t u ≡ w → is_some (get t u) ≡ true → In u (each (unit_of st) (keys (names_of_tally t)))
    unit_in u None e f = let z : false ≡ true = sym (ap is_some e) ∙ f in absurd (cc)
    unit_in u (Some s) e f =
        let i = found_in units t u s e in
        let n = name_by st u s (all_in (is_named st) t.rows h (u, s) i) in
        let there = in_tied senders n.0 (keys (names_of_tally t)) (sym (has_keys (names_of_tally t) n.0) ∙ name_of_row t.rows (u, s) n.0 i n.1) in
        subst (λ v. In v (each (unit_of st) (keys (names_of_tally t)))) (sym n.2) (to_each (unit_of st) n.0 (keys (names_of_tally t)) there)

-- ---- names of a tally of requests are names of the requests
tally_names : (st : StyleKind) (rs : List Request) → IsWithin (names_of_tally (tally_of st rs)) (names_of_requests rs)
tally_names st rs q h =
    let e = row_of_name (tally_of st rs).rows q h in
    let at : standing_at st rs e.0.0 ≡ Some e.0.1 = sym (get-tally_of st rs e.0.0) ∙ in_found units (tally_of st rs) e.0.0 e.0.1 e.1 in
    stood (requests_at st e.0.0 rs) (λ r i. (request_in st rs e.0.0 r i).among) e.0.1 (all_by part_join (parts_of (open_of (requests_at st e.0.0 rs)))) refl at q e.2
  where
    of_request : (p : Part) (zs : List Request) → ((r : Request) → In r zs → In r rs) → In p (parts_of zs) → IsWithin p.senders (names_of_requests rs)
    of_request p zs some i s there =
        let r = in_each (λ (z : Request). z.part) p zs i in
        in_set_of senders (flat_map (λ (z : Request). keys z.part.senders) rs) s
        (to_flat_map (λ (z : Request). keys z.part.senders) r.0 s rs (some r.0 r.1) (named_in r.0.part s (ap (λ (x : Part). has x.senders s) (sym r.2) ∙ there)))

    two : (a b : Part) → IsWithin a.senders (names_of_requests rs) → IsWithin b.senders (names_of_requests rs) → IsWithin (union a.senders b.senders) (names_of_requests rs)
    two a b h g = union_least a.senders b.senders (names_of_requests rs) h g

    same_some : (a b : Standing) → Some a ≡ Some b → a ≡ b
    same_some a b e = cc

    stood : (zs : List Request) → ((r : Request) → In r zs → In r rs) → (s : Standing) (w : Option Part) → all_by part_join (parts_of (open_of zs)) ≡ w
        → or_else (option_map (standing_by true) w) (option_map (standing_by false) (all_by part_meet (parts_of zs))) ≡ Some s → IsWithin s.part.senders (names_of_requests rs)
    stood zs some s (Some x) e f =
        let is : x ≡ s.part = ap (λ (z : Standing). z.part) (same_some (standing_by true x) s f) in
        subst (λ (z : Part). IsWithin z.senders (names_of_requests rs)) is
        (all_keeps part_join (λ p. IsWithin p.senders (names_of_requests rs)) two (parts_of (open_of zs)) x e
        (λ p i. of_request p (open_of zs) (λ r j. some r (in_filter (λ (z : Request). not z.blockaded) r zs j).0) i))
    stood zs some s None e f = met (all_by part_meet (parts_of zs)) refl f
      where
        met : (w : Option Part) → all_by part_meet (parts_of zs) ≡ w → option_map (standing_by false) w ≡ Some s → IsWithin s.part.senders (names_of_requests rs)
        met None g f = absurd (cc)
        met (Some x) g f =
            let is : x ≡ s.part = ap (λ (z : Standing). z.part) (same_some (standing_by false x) s f) in
            subst (λ (z : Part). IsWithin z.senders (names_of_requests rs)) is
            (all_keeps part_meet (λ p. IsWithin p.senders (names_of_requests rs)) two (parts_of zs) x g (λ p i. of_request p zs some i))

pub merger_has_room : (st : StyleKind) (rs : List Request) (p : Part) → size (union (names_of_requests rs) p.senders) ≤ 16 → size (union (names_of_tally (tally_of st rs)) p.senders) ≤ 16
merger_has_room st rs p room =
    let less = size_within senders (union (names_of_tally (tally_of st rs)) p.senders) (union (names_of_requests rs) p.senders)
    (union_wider (names_of_tally (tally_of st rs)) p.senders (names_of_requests rs) p.senders (tally_names st rs) (λ q h. h)) in
    omega arith
