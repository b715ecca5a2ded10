-- The claims of the laws, for an order, a join and a meet that are those of parts.
use Rattle.std.specs.Prelude.{◌≡◌, ◌<◌, true, false, Some, None, List, [], ◌∷◌, IsSomeAnd, is_some, length, refl}
use Rattle.std.proofs.Common.{sym, ap, subst, ◌∙◌, arith}
use Rattle.std.specs.FinMap.Entries.{find}
use Rattle.rsvp_base.specs.declared.part.Part.{Part}
use Rattle.rsvp_base.specs.declared.session.Sender.{Sender}
use Rattle.rsvp_base.specs.declared.style.StyleKind.{StyleKind}
use Rattle.rsvp_base.specs.declared.style.Unit.{Unit as UnitOf}
use Rattle.rsvp_base.specs.Orders.{Names, senders, units, entry_keys}
use Rattle.rsvp_base.specs.Sets.{union, cut, is_none}
use Rattle.rsvp_base.specs.Table.{get, has}
use Rattle.rsvp_base.proofs.SetLaws.{has-cut, and_both, and_made}
use Rattle.rsvp_base.proofs.Tables.{either}
use Rattle.flow_merge.specs.FlowOrder.{IsAtMost}
use Rattle.style_rules.specs.Parts.{part_join, part_meet, IsPartAtMost, IsOfStyle}
use Rattle.rsvp_base.specs.Styles.{part_unit}
use Rattle.style_rules.specs.PartLaws.{part_at_most_apart, part_at_most_itself, part_at_most_along, part_at_most_both_ways, part_join_above_left, part_join_above_right, part_join_least}
use Rattle.style_rules.specs.PartLaws.{charge_below, most_below, part_at_most_told, part_at_most_tested}
use Rattle.style_rules.specs.CutLaws.{cut_none, cut_senders, cut_flow, cut_below, cut_monotone, cut_of_cut, cut_of_nothing, name_some}
use Rattle.style_rules.specs.Merge.{merge, PartTable, IsPartOf, IsMergeOf}
use Rattle.style_rules.specs.Toward.{Request, toward, IsRequestOf}
use Rattle.style_rules.specs.Lines.{Line, entry_key, merged_book, at_end, AreUnder}
use Rattle.rsvp_base.specs.declared.entry_key.EntryKey.{EntryKey}
use Rattle.style_rules.specs.Laws.{AtMostIsAnOrder, AtMostByNamesAndFlow, JoinIsTheLeastAbove, CutByNames, CutIsBelowAndMonotone, CutOfACut, ChargeAndMostAreMonotone}
use Rattle.style_rules.specs.Laws.{MergeIsTheLeastAboveItsNamedParts, MergeKeepsTheStyle, TowardIsAtMostTheMerge, TowardIsAtLeastTheMeet, TowardIsTheJoinOfTheOpen, PartsOfAStyle}
use Rattle.style_rules.specs.Laws.{MergeBelow, SumsBelow, TestsTell}
use Rattle.style_rules.proofs.StyleLaws.{a_name, cut_of_style, cut_keeps_unit, united_style, united_unit, wild_parts, fixed_parts, shared_parts}
use Rattle.style_rules.proofs.Merges.{merge_source, merge_above, merge_least, merge_alone, merge_keeps, merges_same, get-merge_of}
use Rattle.style_rules.proofs.Towards.{get-toward, toward_below, toward_units, toward_of_open, toward_open, toward_source, toward_there, toward_above_meet, meet_there, toward_join}
use Rattle.style_rules.proofs.Towards.{toward_keeps, open_below, open_charge, open_most}
use Rattle.style_rules.proofs.Books.{book_below, under_at_end, held_below, held_at_end_below}
use Rattle.style_rules.proofs.Room.{within_told, within_tested}

-- ---- of an order that is that of parts
module _ (at_most : Part → Part → Type 0) (is : AtMostByNamesAndFlow at_most) where
  pub told : (a b : Part) → at_most a b → IsPartAtMost a b
  told a b h = (part_at_most_apart a b).1 ((is a b).0 h)

  pub made : (a b : Part) → IsPartAtMost a b → at_most a b
  made a b h = (is a b).1 ((part_at_most_apart a b).0 h)

  pub at_most_is_an_order : AtMostIsAnOrder at_most
  at_most_is_an_order =
      record {
        reflexive = λ a. made a a (part_at_most_itself a);
        transitive = λ a b c h g. made a c (part_at_most_along a b c (told a b h) (told b c g));
        antisymmetric = λ a b h g. part_at_most_both_ways a b (told a b h) (told b a g);
      }

  pub cut_is_below_and_monotone : CutIsBelowAndMonotone at_most
  cut_is_below_and_monotone =
      record {
        below = λ p x names e. made x p (cut_below p x names e);
        monotone = λ a b x names h e. let r = cut_monotone a b x names (told a b h) e in subst (λ w. IsSomeAnd w (at_most x)) (sym r.1) (made x r.0 r.2);
      }

  pub charge_and_most_are_monotone : ChargeAndMostAreMonotone at_most
  charge_and_most_are_monotone = record { charge = λ a b h. charge_below a b (told a b h); most = λ a b h. most_below a b (told a b h) }

  -- ---- the merge
  merge_has : (st : StyleKind) (ps : List Part) → IsMergeOf st at_most ps (merge st ps)
  merge_has st ps =
      record {
        source = λ u m e. let s = merge_source units (part_unit st) (λ (p : Part). p) ps u m e in (s.0, record { among = s.1; named = s.2; unit = s.3 });
        above = λ u p h. let r = merge_above units (part_unit st) (λ (p : Part). p) ps p h.among h.named in (r.0, ap (get (merge st ps)) h.unit ∙ r.1, made p r.0 r.2);
        least = λ u m c e every. made m c (merge_least units (part_unit st) (λ (p : Part). p) ps u m c e (λ p i named at. told p c (every p (record { among = i; named = named; unit = at }))));
      }

  merge_is : (st : StyleKind) (ps : List Part) (t : PartTable) → IsMergeOf st at_most ps t → t ≡ merge st ps
  merge_is st ps t h =
      merge_alone units (part_unit st) (λ (p : Part). p) ps t
      (λ u m e. let s = h.source u m e in (s.0, s.1.among, s.1.named, s.1.unit))
      (λ p i named. let r = h.above (part_unit st p) p (record { among = i; named = named; unit = refl }) in (r.0, r.1, told p r.0 r.2))
      (λ u m c e every. told m c (h.least u m c e (λ p part. made p c (every p part.among part.named part.unit))))

  found : (t : PartTable) (u : UnitOf) → has t u ≡ true → (m : Part) × (get t u ≡ Some m)
  found t u e = elim (get t u) as (λ w. is_some w ≡ true → (m : Part) × (w ≡ Some m)) [ Some m ↦ λ _. (m, refl) | None ↦ λ e. absurd (cc) ] e

  merge_same : (st : StyleKind) (ps qs : List Part) → ((u : UnitOf) (p : Part) → IsPartOf st ps u p → (q : Part) × IsPartOf st qs u q × at_most p q)
      → ((u : UnitOf) (q : Part) → IsPartOf st qs u q → (p : Part) × IsPartOf st ps u p × at_most q p) → merge st ps ≡ merge st qs
  merge_same st ps qs under over =
      merges_same units (part_unit st) (λ (p : Part). p) (part_unit st) (λ (p : Part). p) ps qs
      (λ p i named. let q = under (part_unit st p) p (record { among = i; named = named; unit = refl }) in (q.0, q.1.among, q.1.unit, told p q.0 q.2))
      (λ q i named. let p = over (part_unit st q) q (record { among = i; named = named; unit = refl }) in (p.0, p.1.among, p.1.unit, told q p.0 p.2))

  pub merge_is_the_least_above_its_named_parts : (st : StyleKind) → MergeIsTheLeastAboveItsNamedParts st at_most
  merge_is_the_least_above_its_named_parts st =
      record {
        is = merge_has st;
        alone = merge_is st;
        there = λ ps u. (
          λ e. let m = found (merge st ps) u e in (merge_has st ps).source u m.0 m.1,
          λ p. let m = (merge_has st ps).above u p.0 p.1 in ap is_some m.1,
        );
        same = merge_same st;
      }

  -- ---- toward a hop
  pub toward_is_at_most_the_merge : (st : StyleKind) → TowardIsAtMostTheMerge st at_most
  toward_is_at_most_the_merge st =
      record {
        looked_up = get-toward st;
        units = toward_units st;
        there = λ rs u. (toward_source st rs u, λ r. toward_there st rs u r.0 r.1);
        below = λ rs u t m e f. made t m (toward_below st rs u t m e f);
        equal = toward_of_open st;
        whole = toward_open st;
      }

  pub toward_is_the_join_of_the_open : (st : StyleKind) → TowardIsTheJoinOfTheOpen st at_most
  toward_is_the_join_of_the_open st =
      record {
        join = λ rs u r h. toward_join st rs u r h.request h.unmarked;
        above = λ rs u r t h e. made r.part t (open_below st rs u t r h e);
        charge = λ rs u r t h e. open_charge st rs u t r h e;
        most = λ rs u r t h e. open_most st rs u t r h e;
      }

-- ---- of a join and a meet that are those of parts
pub join_is_the_least_above : (at_most : Part → Part → Type 0) (join : Part → Part → Part) → AtMostByNamesAndFlow at_most → ((a b : Part) → join a b ≡ part_join a b) → JoinIsTheLeastAbove at_most join
join_is_the_least_above at_most join is joins =
    record {
      above_left = λ a b. subst (at_most a) (sym (joins a b)) (made at_most is a (part_join a b) (part_join_above_left a b));
      above_right = λ a b. subst (at_most b) (sym (joins a b)) (made at_most is b (part_join a b) (part_join_above_right a b));
      least = λ a b c h g. subst (λ z. at_most z c) (sym (joins a b)) (made at_most is (part_join a b) c (part_join_least a b c (told at_most is a c h) (told at_most is b c g)));
    }

-- ---- of no order
pub toward_is_at_least_the_meet : (st : StyleKind) → TowardIsAtLeastTheMeet st
toward_is_at_least_the_meet st rs u t e =
    let f = meet_there st rs u t e in subst (λ w. IsSomeAnd w (λ z. IsAtMost z t.flow)) (sym f.1) (toward_above_meet st rs u t f.0 e f.1)

cut_empty : (p : Part) (names : Names) → is_none (cut p.senders names) ≡ true → (s : Sender) → has p.senders s ≡ true → has names s ≡ true → ⊥
cut_empty p names e s there in_names =
    let both : has (cut p.senders names) s ≡ true = has-cut senders p.senders names s ∙ and_made (has p.senders s) (has names s) there in_names in
    let some : is_none (cut p.senders names) ≡ false = named_some (cut p.senders names) s both in
    let z : true ≡ false = sym e ∙ some in
    cc
  where
    named_some : (m : Names) (s : Sender) → has m s ≡ true → is_none m ≡ false
    named_some m s h = name_some m (by_rows m.rows h)
      where
        by_rows : (es : List (Sender × Unit {0})) → is_some (find senders.cmp s es) ≡ true → 0 < length es
        by_rows [] h = absurd (cc)
        by_rows (x ∷ es) h = omega arith

no_common : (p : Part) (names : Names) → ((s : Sender) → has p.senders s ≡ true → has names s ≡ true → ⊥) → is_none (cut p.senders names) ≡ true
no_common p names h =
    either (is_none (cut p.senders names)) (λ t. t)
    (λ t.
    let s = a_name (cut p.senders names) t in
    let parts = and_both (has p.senders s.0) (has names s.0) (sym (has-cut senders p.senders names s.0) ∙ s.1) in
    absurd (h s.0 parts.0 parts.1))

pub cut_by_names : CutByNames
cut_by_names =
    record {
      none = λ p names. (λ e. cut_empty p names ((cut_none p names).0 e), λ h. (cut_none p names).1 (no_common p names h));
      senders = cut_senders;
      flow = cut_flow;
    }

pub cut_of_a_cut : (st : StyleKind) → CutOfACut st
cut_of_a_cut st = record { both = cut_of_cut; nothing = cut_of_nothing; style = cut_of_style st; unit = cut_keeps_unit st }

pub merge_keeps_the_style : (st : StyleKind) → MergeKeepsTheStyle st
merge_keeps_the_style st = record { merge = merged; toward = sent }
  where
    OfUnit : UnitOf → Part → Type 0
    OfUnit u p = IsOfStyle st p × (part_unit st p ≡ u)

    two : (u : UnitOf) (a b x : Part) → OfUnit u a → OfUnit u b → x.senders ≡ union a.senders b.senders → OfUnit u x
    two u a b x h g e = let same = h.1 ∙ sym g.1 in (united_style st a b x h.0 g.0 same e, united_unit st a b x h.0 g.0 same e ∙ h.1)

    merged : (ps : List Part) (u : UnitOf) (m : Part) → ((p : Part) → IsPartOf st ps u p → IsOfStyle st p) → get (merge st ps) u ≡ Some m → OfUnit u m
    merged ps u m h e =
        merge_keeps units (part_unit st) (λ (p : Part). p) (OfUnit u) (λ a b x y. two u a b (part_join a b) x y refl) ps u m e
        (λ p i named at. (h p (record { among = i; named = named; unit = at }), sym at))

    sent : (rs : List Request) (u : UnitOf) (m : Part) → ((r : Request) → IsRequestOf st rs u r → IsOfStyle st r.part) → get (toward st rs) u ≡ Some m → OfUnit u m
    sent rs u m h e =
        toward_keeps st (OfUnit u) (λ a b x y. two u a b (part_join a b) x y refl) (λ a b x y. two u a b (part_meet a b) x y refl) rs u m e
        (λ r is. (h r is, sym is.unit))

pub parts_of_a_style : PartsOfAStyle
parts_of_a_style = record { wild = wild_parts; fixed = fixed_parts; shared = shared_parts }

-- ---- lines
pub merge_below_laws : MergeBelow
merge_below_laws =
    record {
      looked_up = get-merge_of entry_keys entry_key (λ (l : Line). l.part);
      book = below;
      book_of_end = λ e ls gs k x h f. below (at_end e ls) (at_end e gs) k x (under_at_end e ls gs h) f;
    }
  where
    below : (ls gs : List Line) (k : EntryKey) (x : Part) → AreUnder ls gs → get (merged_book ls) k ≡ Some x → IsSomeAnd (get (merged_book gs) k) (IsPartAtMost x)
    below ls gs k x h e = let r = book_below ls gs h k x e in subst (λ w. IsSomeAnd w (IsPartAtMost x)) (sym r.1) r.2

pub sums_below_laws : SumsBelow
sums_below_laws = record { book = held_below; end = held_at_end_below }

pub tests_tell : TestsTell
tests_tell =
    record {
      order = λ a b. (part_at_most_told a b, part_at_most_tested a b);
      limits = λ st ls. (within_told st ls, within_tested st ls);
    }
