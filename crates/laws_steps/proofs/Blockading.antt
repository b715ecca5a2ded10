-- Blockades change what goes toward a hop, but not of which units.
use Rattle.std.specs.Prelude.{◌≡◌, Bool, true, false, cond, is_some, List, [], ◌∷◌, ◌++◌, Option, Some, None, refl}
use Rattle.std.proofs.Common.{sym, ap, ◌∙◌}
use Rattle.std.specs.List.{cons_option, filter_map}
use Rattle.std.specs.Option.{option_map}
use Rattle.rsvp_base.specs.declared.part.Part.{Part}
use Rattle.rsvp_base.specs.declared.style.StyleKind.{StyleKind}
use Rattle.rsvp_base.specs.declared.style.Unit.{Unit as UnitOf}
use Rattle.rsvp_base.specs.Orders.{units}
use Rattle.style_rules.specs.Lines.{NextHop}
use Rattle.style_rules.specs.Merge.{all_by, those_at}
use Rattle.style_rules.specs.Parts.{part_join, part_meet}
use Rattle.rsvp_base.specs.Styles.{part_unit}
use Rattle.style_rules.specs.Toward.{Request, open_of, or_else, parts_of, requests_at, toward_at}
use Rattle.style_rules.proofs.Merges.{those_at-each}
use Rattle.laws_bounds.specs.RouterRules.Facts.{Facts, ResvState, Walls, Want, resvs_in, wants_in}
use Rattle.laws_bounds.specs.RouterRules.Known.{Lane, names_via}
use Rattle.laws_bounds.specs.RouterRules.NodeConfig.{NodeConfig}
use Rattle.laws_bounds.specs.RouterRules.Requests.{is_style, request_of, requests, resv_part, resv_request, want_part, want_request}
use Rattle.laws_bounds.proofs.Requesting.{requests_and_toward}
use Rattle.laws_steps.specs.BlameLaws.{UnitsOfTowardDoNotDependOnBlockade}

abbrev part_in : Request → Part
part_in r = r.part

-- ---- the parts of requests, whatever the blockades
asked_part : (w : Walls) (l : Lane) (o : Option Part) → option_map part_in (request_of w l o) ≡ o
asked_part w l None = refl
asked_part w l (Some x) = refl

parts_first : (v w : Option Request) (xs ys : List Request) → option_map part_in v ≡ option_map part_in w → parts_of xs ≡ parts_of ys → parts_of (cons_option v xs) ≡ parts_of (cons_option w ys)
parts_first None None xs ys e rest = rest
parts_first None (Some w) xs ys e rest = absurd (cc)
parts_first (Some v) None xs ys e rest = absurd (cc)
parts_first (Some v) (Some w) xs ys e rest = let same : v.part ≡ w.part = cc in λ i. same i ∷ rest i

parts_given : {A : Type 0} (h g : A → Option Request) → ((a : A) → option_map part_in (h a) ≡ option_map part_in (g a)) → (xs : List A) → parts_of (filter_map h xs) ≡ parts_of (filter_map g xs)
parts_given h g same [] = refl
parts_given h g same (x ∷ xs) = parts_first (h x) (g x) (filter_map h xs) (filter_map g xs) (same x) (parts_given h g same xs)

parts_together : (xs ys : List Request) → parts_of (xs ++ ys) ≡ parts_of xs ++ parts_of ys
parts_together [] ys = refl
parts_together (x ∷ xs) ys = λ i. x.part ∷ parts_together xs ys i

module _ (p : NodeConfig) (f : Facts) (w : Walls) (l : Lane) where
  abbrev other : Facts
  other = record f { walls = w }

  same_want : (e : UnitOf × Want) (b : Bool) → option_map part_in (cond b (request_of w l (want_part l.style (names_via f l) e.1.part)) None)
      ≡ option_map part_in (cond b (request_of f.walls l (want_part l.style (names_via f l) e.1.part)) None)
  same_want e true = asked_part w l (want_part l.style (names_via f l) e.1.part) ∙ sym (asked_part f.walls l (want_part l.style (names_via f l) e.1.part))
  same_want e false = refl

  same_parts : parts_of (requests p other l) ≡ parts_of (requests p f l)
  same_parts =
      parts_together (filter_map (resv_request p other l) (resvs_in l.style f l.session).rows) (filter_map (want_request other l) (wants_in f l.session).rows)
      ∙ (λ i.
      parts_given (resv_request p other l) (resv_request p f l) (λ (e : (NextHop × UnitOf) × ResvState). asked_part w l (resv_part p f l e) ∙ sym (asked_part f.walls l (resv_part p f l e)))
      (resvs_in l.style f l.session).rows i
      ++ parts_given (want_request other l) (want_request f l) (λ (e : UnitOf × Want). same_want e (is_style e.1.style l.style)) (wants_in f l.session).rows i)
      ∙ sym (parts_together (filter_map (resv_request p f l) (resvs_in l.style f l.session).rows) (filter_map (want_request f l) (wants_in f l.session).rows))

-- ---- a unit goes toward a hop where it is requested
some_toward : (xs : List Request) → is_some (or_else (all_by part_join (parts_of (open_of xs))) (all_by part_meet (parts_of xs))) ≡ is_some (all_by part_meet (parts_of xs))
some_toward [] = refl
some_toward (x ∷ xs) = by (all_by part_join (parts_of (open_of (x ∷ xs))))
  where
    by : (v : Option Part) → is_some (or_else v (all_by part_meet (parts_of (x ∷ xs)))) ≡ true
    by None = refl
    by (Some y) = refl

-- by the parts alone
parts_at : (st : StyleKind) (u : UnitOf) (rs : List Request) → those_at units (part_unit st) (λ (x : Part). x) u (parts_of rs) ≡ parts_of (requests_at st u rs)
parts_at st u rs = those_at-each units (part_unit st) (λ (x : Part). x) part_in u rs

requested : (st : StyleKind) (u : UnitOf) (rs : List Request) → is_some (toward_at st rs u) ≡ is_some (all_by part_meet (those_at units (part_unit st) (λ (x : Part). x) u (parts_of rs)))
requested st u rs = some_toward (requests_at st u rs) ∙ ap (λ (xs : List Part). is_some (all_by part_meet xs)) (sym (parts_at st u rs))

pub units_of_toward_do_not_depend_on_blockade : UnitsOfTowardDoNotDependOnBlockade
units_of_toward_do_not_depend_on_blockade p f w l u =
    ap is_some (requests_and_toward.at p (record f { walls = w }) l u) ∙ requested l.style u (requests p (record f { walls = w }) l)
    ∙ ap (λ (xs : List Part). is_some (all_by part_meet (those_at units (part_unit l.style) (λ (x : Part). x) u xs))) (same_parts p f w l) ∙ sym (requested l.style u (requests p f l))
    ∙ sym (ap is_some (requests_and_toward.at p f l u))
