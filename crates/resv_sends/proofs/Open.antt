-- Requests of a unit that are not blockaded.
use Rattle.std.specs.Prelude.{◌≡◌, Bool, true, false, cond, not, ◌&&◌, ◌||◌, List, [], ◌∷◌, Option, Some, None, refl}
use Rattle.std.specs.List.{cons_option, filter_map, list_any}
use Rattle.std.specs.Ordering.{eq_by_cmp}
use Rattle.std.proofs.Common.{sym, ap, ◌∙◌}
use Rattle.std.proofs.lemmas.List.Folds.{list_any-append}
use Rattle.rsvp_base.specs.Orders.{Names, units}
use Rattle.rsvp_base.specs.declared.part.Part.{Part}
use Rattle.rsvp_base.specs.declared.style.StyleKind.{StyleKind}
use Rattle.rsvp_base.specs.declared.style.Unit.{Unit as UnitOf}
use Rattle.style_rules.specs.CutLaws.{cut_named}
use Rattle.style_rules.specs.Merge.{PartTable}
use Rattle.style_rules.specs.Parts.{has_name, part_cut}
use Rattle.style_rules.specs.Toward.{Request, open_of, request_unit, requests_at}
use Rattle.style_rules.specs.Ways.{WayTable}
use Rattle.resv_state.specs.Merging.{SessionRow, is_blockaded, names_out, names_via, request_of, requests_toward, resv_request, want_request}
use Rattle.router_rules.specs.Sends.{is_empty, takes_part}
use Rattle.resv_sends.specs.declared.taking.Asking.{Asking}
use Rattle.resv_sends.specs.Taking.{asking_of, asks_for, has_open, is_open, is_resv_open, is_want_open}

module _ (st : StyleKind) (u : UnitOf) where
  -- it names someone, is of the unit and is not blockaded
  abbrev pub opens : Request → Bool
  opens r = (has_name r.part && eq_by_cmp units.cmp u (request_unit st r)) && not r.blockaded

  pub open_is : (rs : List Request) → has_open st u rs ≡ list_any opens rs
  open_is [] = refl
  open_is (r ∷ rs) = by (has_name r.part && eq_by_cmp units.cmp u (request_unit st r)) (open_is rs)
    where
      ahead : (b : Bool) → has_open st u rs ≡ list_any opens rs → not (is_empty (cond (not b) (r ∷ open_of (requests_at st u rs)) (open_of (requests_at st u rs)))) ≡ (not b || list_any opens rs)
      ahead true ih = ih
      ahead false ih = refl

      by : (b : Bool) → has_open st u rs ≡ list_any opens rs → not (is_empty (open_of (cond b (r ∷ requests_at st u rs) (requests_at st u rs)))) ≡ ((b && not r.blockaded) || list_any opens rs)
      by true ih = ahead r.blockaded ih
      by false ih = ih

  -- a request that names someone
  named_open : (w : Option Request) → ((r : Request) → w ≡ Some r → has_name r.part ≡ true) → (rs : List Request) → list_any opens (cons_option w rs) ≡ (is_open u (asks_for st w) || list_any opens rs)
  named_open None named rs = refl
  named_open (Some r) named rs = ap (λ b. ((b && eq_by_cmp units.cmp u (request_unit st r)) && not r.blockaded) || list_any opens rs) (named r refl)

  any_open : {A : Type 0} (h : A → Option Request) → ((x : A) (r : Request) → h x ≡ Some r → has_name r.part ≡ true) → (xs : List A)
      → list_any opens (filter_map h xs) ≡ list_any (λ x. is_open u (asks_for st (h x))) xs
  any_open h named [] = refl
  any_open h named (x ∷ xs) = named_open (h x) (named x) (filter_map h xs) ∙ ap (λ b. is_open u (asks_for st (h x)) || b) (any_open h named xs)

  module _ (up : WayTable) where
    cut_has_name : (part : Part) (names : Names) (r : Request) → request_of up (part_cut part names) ≡ Some r → has_name r.part ≡ true
    cut_has_name part names r is = by (part_cut part names) refl is
      where
        by : (w : Option Part) → part_cut part names ≡ w → request_of up w ≡ Some r → has_name r.part ≡ true
        by None from e = absurd (let z : None ≡ Some r = e in cc)
        by (Some x) from e =
            let same : record { part = x; blockaded = is_blockaded up x } ≡ r = cc in
            ap (λ (z : Request). has_name z.part) (sym same) ∙ cut_named part x names from

    turned : (a b : Bool) → (a || b) ≡ (b || a)
    turned true true = refl
    turned true false = refl
    turned false true = refl
    turned false false = refl

    -- a request of the wants is open, or one of the reservations
    pub either_open : (es : List SessionRow) (own : PartTable) → (list_any (is_want_open st up u) own.rows || list_any (is_resv_open st up u) es) ≡ has_open st u (requests_toward up es own)
    either_open es own =
        let resvs = any_open (resv_request up) (λ e. cut_has_name e.1.0.part (names_out up e.0.0.0)) es in
        let wants = any_open (want_request up) (λ e. cut_has_name e.1 (names_via up)) own.rows in
        turned (list_any (is_want_open st up u) own.rows) (list_any (is_resv_open st up u) es) ∙ (λ i. sym resvs i || sym wants i)
        ∙ sym (list_any-append opens (filter_map (resv_request up) es) (filter_map (want_request up) own.rows)) ∙ sym (open_is (requests_toward up es own))

-- ---- a want takes part
module _ (st : StyleKind) (all : List Request) where
  pub takes_asked : (w : Option Request) (a : Asking) → Some a ≡ asks_for st w → (not a.blockaded || not (has_open st a.unit all)) ≡ takes_part st all w
  takes_asked None a e = cc
  takes_asked (Some r) a e =
      let same : a ≡ asking_of st r = cc in
      ap (λ (z : Asking). not z.blockaded || not (has_open st z.unit all)) same ∙ ap (λ b. not r.blockaded || b) (twice (is_empty (open_of (requests_at st (request_unit st r) all))))
    where
      twice : (b : Bool) → not (not b) ≡ b
      twice true = refl
      twice false = refl

  pub takes_none : (w : Option Request) → None ≡ asks_for st w → false ≡ takes_part st all w
  takes_none None e = refl
  takes_none (Some r) e = cc
