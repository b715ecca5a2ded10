-- A tally of a list of requests: look-up, one more request, and what it gives in the end.
use Rattle.std.specs.Prelude.{◌≡◌, Bool, true, false, cond, not, ◌&&◌, List, [], ◌∷◌, ◌++◌, map as each, Option, Some, refl}
use Rattle.std.proofs.Common.{sym, ap, ◌∙◌, append-nil}
use Rattle.std.proofs.lemmas.List.Elements.{filter-append}
use Rattle.std.specs.List.{fold}
use Rattle.std.specs.Option.{option_map}
use Rattle.std.specs.Ordering.{eq_by_cmp}
use Rattle.rsvp_base.specs.declared.part.Part.{Part}
use Rattle.rsvp_base.specs.declared.style.StyleKind.{StyleKind}
use Rattle.rsvp_base.specs.declared.style.Unit.{Unit as UnitOf}
use Rattle.rsvp_base.specs.Orders.{units}
use Rattle.rsvp_base.specs.Table.{get, put_in}
use Rattle.rsvp_base.proofs.Tables.{either, tied_same, get-put_in, get-changed, same_table, then_do}
use Rattle.rsvp_base.proofs.SetLaws.{and_both}
use Rattle.style_rules.specs.Parts.{has_name, part_join, part_meet}
use Rattle.rsvp_base.specs.Styles.{part_unit}
use Rattle.style_rules.specs.Merge.{all_by}
use Rattle.style_rules.specs.Toward.{Request, request_unit, parts_of, open_of, requests_at, or_else, toward}
use Rattle.style_rules.specs.Tally.{Standing, TallyTable, standing_by, standing_at, tally_of, first_or_with, with_request, parts_of_tally}
use Rattle.style_rules.proofs.Folds.{all_push}
use Rattle.style_rules.proofs.Merges.{get-table_at_all, none_those}
use Rattle.style_rules.proofs.Towards.{get-toward}

-- ---- look-up
-- of the open parts and of all
abbrev standing : List Part → List Part → Option Standing
standing opens ps = or_else (option_map (standing_by true) (all_by part_join opens)) (option_map (standing_by false) (all_by part_meet ps))

pub get-tally_of : (st : StyleKind) (rs : List Request) (u : UnitOf) → get (tally_of st rs) u ≡ standing_at st rs u
get-tally_of st rs u =
    get-table_at_all units (standing_at st rs) (each (request_unit st) rs) u
    (λ h. ap (λ zs. standing (parts_of (open_of zs)) (parts_of zs)) (none_those units (request_unit st) (λ (r : Request). r.part) u rs h))

-- ---- in the end
part_standing : (opens ps : List Part) → then_do (standing opens ps) (λ s. Some s.part) ≡ or_else (all_by part_join opens) (all_by part_meet ps)
part_standing (o ∷ opens) ps = refl
part_standing [] [] = refl
part_standing [] (p ∷ ps) = refl

-- what a tally of a list gives is what goes toward the hop
pub parts-tally_of : (st : StyleKind) (rs : List Request) → parts_of_tally (tally_of st rs) ≡ toward st rs
parts-tally_of st rs =
    same_table units (parts_of_tally (tally_of st rs)) (toward st rs)
    (λ u. get-changed units (λ (v : UnitOf) (s : Standing). Some s.part) (tally_of st rs) u ∙ ap (λ w. then_do w (λ (s : Standing). Some s.part)) (get-tally_of st rs u)
    ∙ part_standing (parts_of (open_of (requests_at st u rs))) (parts_of (requests_at st u rs)) ∙ sym (get-toward st rs u))

-- ---- one more request
more_open : (opens ps : List Part) (p : Part) → standing (opens ++ p ∷ []) (ps ++ p ∷ []) ≡ Some (first_or_with (standing opens ps) p false)
more_open [] [] p = refl
more_open [] (q ∷ ps) p = refl
more_open (o ∷ opens) ps p =
    ap (λ w. or_else (option_map (standing_by true) w) (option_map (standing_by false) (all_by part_meet (ps ++ p ∷ [])))) (all_push part_join (o ∷ opens) p (fold part_join o opens) refl)

more_blockaded : (opens ps : List Part) (p : Part) → standing opens (ps ++ p ∷ []) ≡ Some (first_or_with (standing opens ps) p true)
more_blockaded [] [] p = refl
more_blockaded [] (q ∷ ps) p = ap (option_map (standing_by false)) (all_push part_meet (q ∷ ps) p (fold part_meet q ps) refl)
more_blockaded (o ∷ opens) ps p = refl

parts-append : (rs qs : List Request) → parts_of (rs ++ qs) ≡ parts_of rs ++ parts_of qs
parts-append [] qs = refl
parts-append (r ∷ rs) qs = ap (λ zs. r.part ∷ zs) (parts-append rs qs)

open-append : (rs qs : List Request) → open_of (rs ++ qs) ≡ open_of rs ++ open_of qs
open-append rs qs = filter-append (λ (r : Request). not r.blockaded) rs qs

-- the requests of a unit with one more, where it is of the unit and where it is not
abbrev of_unit : StyleKind → UnitOf → Request → Bool
of_unit st u r = has_name r.part && eq_by_cmp units.cmp u (request_unit st r)

one_more : (st : StyleKind) (rs : List Request) (r : Request) (u : UnitOf) → of_unit st u r ≡ true → requests_at st u (rs ++ r ∷ []) ≡ requests_at st u rs ++ r ∷ []
one_more st rs r u t = filter-append (of_unit st u) rs (r ∷ []) ∙ ap (λ b. requests_at st u rs ++ cond b (r ∷ []) []) t

no_more : (st : StyleKind) (rs : List Request) (r : Request) (u : UnitOf) → of_unit st u r ≡ false → requests_at st u (rs ++ r ∷ []) ≡ requests_at st u rs
no_more st rs r u t = filter-append (of_unit st u) rs (r ∷ []) ∙ ap (λ b. requests_at st u rs ++ cond b (r ∷ []) []) t ∙ append-nil (requests_at st u rs)

standing_more : (rs : List Request) (p : Part) (b : Bool) → standing (parts_of (open_of (rs ++ record { part = p; blockaded = b } ∷ []))) (parts_of (rs ++ record { part = p; blockaded = b } ∷ []))
    ≡ Some (first_or_with (standing (parts_of (open_of rs)) (parts_of rs)) p b)
standing_more rs p true =
    (λ i. standing (parts_of (open-append rs (record { part = p; blockaded = true } ∷ []) i)) (parts-append rs (record { part = p; blockaded = true } ∷ []) i))
    ∙ ap (λ zs. standing (parts_of zs) (parts_of rs ++ p ∷ [])) (append-nil (open_of rs)) ∙ more_blockaded (parts_of (open_of rs)) (parts_of rs) p
standing_more rs p false =
    (λ i. standing (parts_of (open-append rs (record { part = p; blockaded = false } ∷ []) i)) (parts-append rs (record { part = p; blockaded = false } ∷ []) i))
    ∙ ap (λ zs. standing zs (parts_of rs ++ p ∷ [])) (parts-append (open_of rs) (record { part = p; blockaded = false } ∷ [])) ∙ more_open (parts_of (open_of rs)) (parts_of rs) p

get-with_request : (st : StyleKind) (t : TallyTable) (p : Part) (b : Bool) (u : UnitOf) → get (with_request st t p b) u
    ≡ cond (has_name p && eq_by_cmp units.cmp u (part_unit st p)) (Some (first_or_with (get t (part_unit st p)) p b)) (get t u)
get-with_request st t p b u =
    elim (has_name p) as (λ h. get (cond h (put_in t (part_unit st p) (first_or_with (get t (part_unit st p)) p b)) t) u ≡ cond (h && eq_by_cmp units.cmp u (part_unit st p)) (Some (first_or_with (get t (part_unit st p)) p b)) (get t u)) [
      | true ↦ get-put_in units t (part_unit st p) (first_or_with (get t (part_unit st p)) p b) u
      | false ↦ refl
    ]

abbrev last : Part → Bool → Request
last p b = record { part = p; blockaded = b }

at_unit : (st : StyleKind) (rs : List Request) (p : Part) (b : Bool) (u : UnitOf)
    → cond (of_unit st u (last p b)) (Some (first_or_with (get (tally_of st rs) (part_unit st p)) p b)) (get (tally_of st rs) u) ≡ standing_at st (rs ++ last p b ∷ []) u
at_unit st rs p b u =
    either (of_unit st u (last p b))
    (λ t.
    let same : u ≡ part_unit st p = tied_same units u (part_unit st p) (and_both (has_name p) (eq_by_cmp units.cmp u (part_unit st p)) t).1 in
    ap (λ c. cond c (Some (first_or_with (get (tally_of st rs) (part_unit st p)) p b)) (get (tally_of st rs) u)) t
    ∙ ap (λ w. Some (first_or_with w p b)) (ap (get (tally_of st rs)) (sym same) ∙ get-tally_of st rs u)
    ∙ sym (standing_more (requests_at st u rs) p b) ∙ ap (λ zs. standing (parts_of (open_of zs)) (parts_of zs)) (sym (one_more st rs (last p b) u t)))
    (λ t.
    ap (λ c. cond c (Some (first_or_with (get (tally_of st rs) (part_unit st p)) p b)) (get (tally_of st rs) u)) t ∙ get-tally_of st rs u
    ∙ ap (λ zs. standing (parts_of (open_of zs)) (parts_of zs)) (sym (no_more st rs (last p b) u t)))

pub tally_more : (st : StyleKind) (rs : List Request) (p : Part) (b : Bool) → with_request st (tally_of st rs) p b ≡ tally_of st (rs ++ record { part = p; blockaded = b } ∷ [])
tally_more st rs p b =
    same_table units (with_request st (tally_of st rs) p b) (tally_of st (rs ++ last p b ∷ []))
    (λ u. get-with_request st (tally_of st rs) p b u ∙ at_unit st rs p b u ∙ sym (get-tally_of st (rs ++ last p b ∷ []) u))
