-- Lanes to which a Resv is sent for a change, and the marks that are used there.
use Rattle.std.specs.Prelude.{◌≡◌, ◌<◌, ◌≤◌, ◌+◌, ◌↔◌, ℕ, nat_lt, Bool, true, false, cond, not, ◌&&◌, ◌||◌, List, [], ◌∷◌, ◌++◌, length, take, slice_index_or, IsTrue, zero, suc, refl}
use Rattle.std.specs.List.{flat_map, list_any}
use Rattle.std.proofs.Common.{sym, ap, subst, ◌∙◌, arith, ⊎_elim}
use Rattle.std.proofs.lemmas.Bool.{lt-ltb}
use Rattle.std.proofs.lemmas.Grind.{flat_map-append}
use Rattle.std.proofs.lemmas.List.{map-append}
use Rattle.std.proofs.lemmas.List.Folds.{list_any-append}
use Rattle.rsvp_base.specs.Members.{In}
use Rattle.rsvp_base.specs.Orders.{sessions, units}
use Rattle.rsvp_base.specs.SessionLimits.{IsWithinSessionLimits}
use Rattle.rsvp_base.specs.Sets.{set_of, union}
use Rattle.rsvp_base.specs.Table.{empty, has, keys, size}
use Rattle.rsvp_base.specs.Under.{under}
use Rattle.rsvp_base.specs.declared.session.Session.{Session}
use Rattle.rsvp_base.specs.declared.style.StyleKind.{StyleKind}
use Rattle.rsvp_base.specs.declared.style.StyleKind.TheVariants.{Wild, Fixed, Shared}
use Rattle.rsvp_base.specs.declared.style.Unit.{Unit as UnitOf}
use Rattle.rsvp_base.proofs.Counts.{size_below}
use Rattle.rsvp_base.proofs.Fronts.{to_keys}
use Rattle.rsvp_base.proofs.SetLaws.{has-union, or_either, or_right}
use Rattle.style_rules.specs.Lines.{NextHop}
use Rattle.style_rules.specs.Merge.{PartTable}
use Rattle.laws_bounds.proofs.Tests.{parts_tested, parts_told}
use Rattle.router_rules.specs.Sends.{marked_units, same_parts}
use Rattle.laws_sends.specs.State.{Said, State, facts_of, said_at}
use Rattle.laws_sends.proofs.Routed.{same_test}
use Rattle.laws_sends.specs.Before.{lanes_by}
use Rattle.laws_sends.specs.Saying.{SessionLane, lane_by}
use Rattle.laws_sends.specs.Seen.{lane_of, toward_at}
use Rattle.laws_sends.proofs.Via.{take_one}
use Rattle.router_state.specs.Whole.{state_of}
use Rattle.router_state.specs.declared.tables.Tables.{Tables}
use Rattle.laws_sends.specs.Marks.{is_new_lane}
use Rattle.resv_sends.specs.Units.{UnitSet}
use Rattle.resv_sends.specs.Wishes.{AreWanted, lanes_in, marked_seen, new_by, new_seen, used_seen}
use Rattle.resv_sends.proofs.Marked.{marks_wanted, unmarked_is}
use Rattle.resv_sends.proofs.Sets.{set_of_both, set_of_keys}

-- ---- a Resv is sent for a change
said_tested : (r : Bool) (was now : PartTable) → IsTrue r ↔ (was ≡ now) → r ≡ same_parts was now
said_tested r was now is = same_test r (same_parts was now) (λ t. parts_tested was now (is.0 t)) (λ t. is.1 (parts_told was now t))

module _ (c : ℕ) (n : State) (s : Session) (st : StyleKind) (hop : NextHop) (said : Said) (now : PartTable) (goes : now ≡ toward_at c n s st hop) where
  pub new_none : size now ≡ 0 → false ≡ new_by c n said s (st, hop)
  unfolding new_seen toward_at
  new_none none = ap (λ k. nat_lt 0 k && not (same_parts (said_at said (lane_of s st hop)) now)) (sym none)
      ∙ ap (λ (z : PartTable). nat_lt 0 (size z) && not (same_parts (said_at said (lane_of s st hop)) z)) goes

  pub new_some : (size now ≡ 0 → ⊥) → (old : Bool) → IsTrue old ↔ (said_at said (lane_of s st hop) ≡ now) → not old ≡ new_by c n said s (st, hop)
  unfolding new_seen toward_at
  new_some some old tested =
      let test : nat_lt 0 (size now) ≡ true = lt-ltb 0 (size now) (omega (arith, some)) in
      ap not (said_tested old (said_at said (lane_of s st hop)) now tested) ∙ ap (λ b. b && not (same_parts (said_at said (lane_of s st hop)) now)) (sym test)
      ∙ ap (λ (z : PartTable). nat_lt 0 (size z) && not (same_parts (said_at said (lane_of s st hop)) z)) goes

-- ---- lanes of a style
pub lanes_more : (st : StyleKind) (hops : List NextHop) (i : ℕ) (d : NextHop) → i < length hops → lanes_in st (take (i + 1) hops) ≡ lanes_in st (take i hops) ++ (st, slice_index_or hops i d) ∷ []
lanes_more st hops i d h = ap (lanes_in st) (take_one hops i d h) ∙ map-append (λ (hop : NextHop). (st, hop)) (take i hops) (slice_index_or hops i d ∷ [])

-- none so far, and not this one
pub none_yet : (test : SessionLane → Bool) (st : StyleKind) (hops : List NextHop) (i : ℕ) (d : NextHop) → i < length hops → false ≡ list_any test (lanes_in st (take i hops))
    → false ≡ test (st, slice_index_or hops i d) → false ≡ list_any test (lanes_in st (take (i + 1) hops))
none_yet test st hops i d h before here =
    (λ k. before k || (here k || false)) ∙ sym (ap (list_any test) (lanes_more st hops i d h) ∙ list_any-append test (lanes_in st (take i hops)) ((st, slice_index_or hops i d) ∷ []))

pub one_is : (test : SessionLane → Bool) (st : StyleKind) (hops : List NextHop) (i : ℕ) (d : NextHop) → i < length hops → true ≡ test (st, slice_index_or hops i d)
    → true ≡ list_any test (lanes_in st hops)
one_is test st [] i d h is = absurd (omega (arith, h))
one_is test st (x ∷ hops) zero d h is = ap (λ b. b || list_any test (lanes_in st hops)) is
one_is test st (x ∷ hops) (suc i) d h is = sym (or_right (test (st, x)) (list_any test (lanes_in st hops)) (sym (one_is test st hops i d (omega (arith, h)) is)))

module _ (test : SessionLane → Bool) (hops : List NextHop) where
  abbrev by_style : List SessionLane → Bool
  by_style es = list_any test es

  all_three : list_any test (lanes_by hops) ≡ (by_style (lanes_in Wild hops) || (by_style (lanes_in Fixed hops) || by_style (lanes_in Shared hops)))
  all_three = list_any-append test (lanes_in Wild hops) (lanes_in Fixed hops ++ lanes_in Shared hops)
      ∙ ap (λ z. by_style (lanes_in Wild hops) || z) (list_any-append test (lanes_in Fixed hops) (lanes_in Shared hops))

  pub wild_new : true ≡ by_style (lanes_in Wild hops) → true ≡ list_any test (lanes_by hops)
  wild_new w = ap (λ b. b || (by_style (lanes_in Fixed hops) || by_style (lanes_in Shared hops))) w ∙ sym all_three

  pub fixed_new : false ≡ by_style (lanes_in Wild hops) → true ≡ by_style (lanes_in Fixed hops) → true ≡ list_any test (lanes_by hops)
  fixed_new w f = (λ i. w i || (f i || by_style (lanes_in Shared hops))) ∙ sym all_three

  pub shared_new : false ≡ by_style (lanes_in Wild hops) → false ≡ by_style (lanes_in Fixed hops) → (r : Bool) → r ≡ by_style (lanes_in Shared hops) → r ≡ list_any test (lanes_by hops)
  shared_new w f r s = (λ i. w i || (f i || s i)) ∙ sym all_three

-- ---- marks that are used
module _ (c : ℕ) (n : State) (s : Session) (said : Said) where
  abbrev marks_at : SessionLane → List UnitOf
  marks_at e = cond (is_new_lane n.place (facts_of c n) (lane_by s e) (said_at said (lane_by s e))) (marked_units n.place (facts_of c n) (lane_by s e)) []

  pub used_none : empty ≡ used_seen c n s said []
  unfolding used_seen
  used_none = refl

  pub used_both : (es ds : List SessionLane) → used_seen c n s said (es ++ ds) ≡ union (used_seen c n s said es) (used_seen c n s said ds)
  unfolding used_seen
  used_both es ds = ap (λ (ks : List UnitOf). set_of {o = units} ks) (flat_map-append marks_at es ds) ∙ set_of_both units (flat_map marks_at es) (flat_map marks_at ds)

  nothing_behind : (ks : List UnitOf) → ks ++ [] ≡ ks
  nothing_behind [] = refl
  nothing_behind (k ∷ ks) = ap (λ js. k ∷ js) (nothing_behind ks)

  -- of one lane
  pub used_here : (e : SessionLane) → true ≡ new_by c n said s e → used_seen c n s said (e ∷ []) ≡ set_of (marked_seen c n (lane_by s e))
  unfolding used_seen new_seen marked_seen
  used_here e is = ap (λ (ks : List UnitOf). set_of {o = units} ks) (nothing_behind (marks_at e) ∙ ap (λ b. cond b (marked_units n.place (facts_of c n) (lane_by s e)) []) (sym is))

  pub unused_here : (e : SessionLane) → false ≡ new_by c n said s e → used_seen c n s said (e ∷ []) ≡ empty
  unfolding used_seen new_seen
  unused_here e is = ap (λ (ks : List UnitOf). set_of {o = units} ks) (nothing_behind (marks_at e) ∙ ap (λ b. cond b (marked_units n.place (facts_of c n) (lane_by s e)) []) (sym is))

  -- with one lane more
  module _ (es : List SessionLane) (e : SessionLane) (used : UnitSet) (so_far : used ≡ used_seen c n s said es) where
    pub used_more : true ≡ new_by c n said s e → (marked : UnitSet) → keys marked ≡ marked_seen c n (lane_by s e) → union used marked ≡ used_seen c n s said (es ++ e ∷ [])
    used_more is marked all = (λ i. union (so_far i) (sym (set_of_keys units marked) i)) ∙ ap (λ (ks : List UnitOf). union (used_seen c n s said es) (set_of {o = units} ks)) all
        ∙ ap (union (used_seen c n s said es)) (sym (used_here e is)) ∙ sym (used_both es (e ∷ []))

    pub used_same : false ≡ new_by c n said s e → used ≡ used_seen c n s said (es ++ e ∷ [])
    used_same is = so_far ∙ ap (union (used_seen c n s said es)) (sym (unused_here e is)) ∙ sym (used_both es (e ∷ []))

-- where no want has a mark, none is used
module _ (c : ℕ) (t : Tables) (any said : Said) (s : Session) (off : list_any (λ e. e.1.confirm) (under sessions units t.wants s).rows ≡ false) where
  none_at : (e : SessionLane) → used_seen c (state_of t any) s said (e ∷ []) ≡ empty
  none_at e = by (new_by c (state_of t any) said s e) refl
    where
      by : (b : Bool) → b ≡ new_by c (state_of t any) said s e → used_seen c (state_of t any) s said (e ∷ []) ≡ empty
      by true is = used_here c (state_of t any) s said e is ∙ ap (λ (ks : List UnitOf). set_of {o = units} ks) (sym (unmarked_is c t any s e.1 e.0 off))
      by false is = unused_here c (state_of t any) s said e is

  pub none_used : (es : List SessionLane) → empty ≡ used_seen c (state_of t any) s said es
  none_used [] = used_none c (state_of t any) s said
  none_used (e ∷ es) = sym (used_both c (state_of t any) s said (e ∷ []) es ∙ (λ i. union (none_at e i) (sym (none_used es) i)))

-- ---- few units
module _ (t : Tables) (s : Session) where
  pub wanted_room : IsWithinSessionLimits units t.wants → (us : UnitSet) → AreWanted t s us → size us ≤ 16
  wanted_room within us are = let less = size_below units us (under sessions units t.wants s) are in omega (arith, less, within.one s)

  pub wanted_none : (us : UnitSet) → us ≡ empty → AreWanted t s us
  wanted_none us none u i = let no : false ≡ true = ap (λ (z : UnitSet). has z u) (sym none) ∙ i in cc

  pub wanted_both : (us vs : UnitSet) → AreWanted t s us → AreWanted t s vs → AreWanted t s (union us vs)
  wanted_both us vs a b u i = ⊎_elim (a u) (b u) (or_either (has us u) (has vs u) (sym (has-union units us vs u) ∙ i))

  pub wanted_marks : (c : ℕ) (said : Said) (st : StyleKind) (hop : NextHop) (marked : UnitSet) → keys marked ≡ marked_seen c (state_of t said) (lane_of s st hop) → AreWanted t s marked
  wanted_marks c said st hop marked is u i = marks_wanted c t said s hop st u (subst (λ ks. In u ks) is (to_keys units marked u i))
