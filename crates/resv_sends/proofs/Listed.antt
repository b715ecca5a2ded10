-- Lane after lane.
use Rattle.std.specs.Prelude.{◌≡◌, ◌<◌, ◌+◌, ℕ, Bool, true, false, List, [], ◌∷◌, ◌++◌, fold, length, take, slice_get, slice_index_or, Option, Some, zero, suc, refl}
use Rattle.std.specs.List.{flat_map}
use Rattle.std.proofs.Common.{sym, ap, subst, inl, inr, ◌∙◌, arith, ⊎_elim}
use Rattle.std.proofs.lemmas.Grind.{flat_map-append}
use Rattle.std.proofs.lemmas.List.{map-append}
use Rattle.std.proofs.lemmas.List.Sums.{fold-append}
use Rattle.rsvp_base.specs.Members.{In}
use Rattle.rsvp_base.specs.Orders.{senders}
use Rattle.rsvp_base.specs.SessionLimits.{IsWithinSessionLimits}
use Rattle.rsvp_base.specs.Sets.{Set}
use Rattle.rsvp_base.specs.Table.{empty, has, keys, size}
use Rattle.rsvp_base.specs.declared.addr.Addr.{Addr}
use Rattle.rsvp_base.specs.declared.session.Session.{Session}
use Rattle.rsvp_base.specs.declared.style.StyleKind.{StyleKind}
use Rattle.rsvp_base.specs.declared.style.StyleKind.TheVariants.{Wild, Fixed, Shared}
use Rattle.rsvp_base.proofs.Fronts.{front_more, got_in, in_keys}
use Rattle.rsvp_base.proofs.Members.{in_append, in_each, in_left, in_right}
use Rattle.style_rules.specs.Lines.{NextHop, next_hops}
use Rattle.router_rules.specs.Inputs.{Send}
use Rattle.laws_bounds.proofs.Knowing.{lanes_made}
use Rattle.router_rules.specs.Known.{lanes}
use Rattle.router_rules.specs.Requests.{toward}
use Rattle.laws_sends.specs.State.{Said, State, facts_of, said_at}
use Rattle.laws_sends.specs.Before.{lanes_by}
use Rattle.laws_sends.specs.Saying.{IsRoomy, IsTold, SessionLane, lane_by, told_at, told_seen}
use Rattle.laws_sends.specs.Seen.{toward_at}
use Rattle.laws_sends.specs.SendsHere.{hops_in}
use Rattle.laws_sends.proofs.Lanes.{hops_told}
use Rattle.laws_sends.proofs.Saying.{as_before, fresh, roomy_told, said_here, told_more, told_room}
use Rattle.router_state.specs.Whole.{state_of}
use Rattle.router_state.specs.declared.tables.Tables.{Tables}
use Rattle.resv_sends.specs.Rounds.{lanes_of, told_by}

none_behind : {A : Type 0} (xs : List A) → xs ++ [] ≡ xs
none_behind [] = refl
none_behind (x ∷ xs) = ap (λ ys. x ∷ ys) (none_behind xs)

slice_is : {A : Type 0} (xs : List A) (i : ℕ) (d : A) → i < length xs → slice_get xs i ≡ Some (slice_index_or xs i d)
slice_is [] i d h = absurd (omega (arith, h))
slice_is (x ∷ xs) zero d h = refl
slice_is (x ∷ xs) (suc i) d h = slice_is xs i d (omega (arith, h))

-- ---- lists that grow by one lane
pub lanes_more : (st : StyleKind) (hops : List NextHop) (i : ℕ) (d : NextHop) → i < length hops → lanes_of st (take (i + 1) hops) ≡ lanes_of st (take i hops) ++ (st, slice_index_or hops i d) ∷ []
lanes_more st hops i d h = ap (lanes_of st) (front_more hops i (slice_index_or hops i d) (slice_is hops i d h)) ∙ map-append (λ (hop : NextHop). (st, hop)) (take i hops) (slice_index_or hops i d ∷ [])

module _ {B : Type 0} (posted : B → Send → B) (start : B) (say : SessionLane → List Send) where
  pub both_said : (es ds : List SessionLane) (out : B) → out ≡ fold posted start (flat_map say es) → fold posted out (flat_map say ds) ≡ fold posted start (flat_map say (es ++ ds))
  both_said es ds out is =
      ap (λ b. fold posted b (flat_map say ds)) is ∙ sym (fold-append posted start (flat_map say es) (flat_map say ds)) ∙ ap (fold posted start) (sym (flat_map-append say es ds))

  pub one_said : (es : List SessionLane) (e : SessionLane) (out : B) → out ≡ fold posted start (flat_map say es) → fold posted out (say e) ≡ fold posted start (flat_map say (es ++ e ∷ []))
  one_said es e out is = ap (fold posted out) (sym (none_behind (say e))) ∙ both_said es (e ∷ []) out is

-- ---- what is kept
-- the lane of a hop does not stand among those of the hops before it
pub is_new : (st : StyleKind) (hops : Set next_hops) (i : ℕ) (d : NextHop) → i < length (keys hops) → In (st, slice_index_or (keys hops) i d) (lanes_of st (take i (keys hops))) → ⊥
is_new st hops i d h j =
    let g = in_each (λ (hop : NextHop). (st, hop)) (st, slice_index_or (keys hops) i d) (take i (keys hops)) j in
    fresh next_hops hops.rows i (slice_index_or (keys hops) i d) hops.sorted (slice_is (keys hops) i d h) (subst (λ z. In z (take i (keys hops))) (λ k. (sym g.2 k).1) g.1)

-- lanes that are told, and then others
pub told_both : (m : State) (s : Session) (es ds : List SessionLane) (first last : Said) → IsTold m s es first → IsTold (record m { said = first }) s ds last
    → ((e : SessionLane) → In e es → In e ds → ⊥) → IsTold m s (es ++ ds) last
told_both m s es ds first last a b apart = record {
  here = λ c e i. ⊎_elim (λ (j : In e es). b.rest (lane_by s e) (λ d k same. apart e j (moved e d k same)) ∙ a.here c e j) (λ (j : In e ds). b.here c e j) (in_append e es ds i);
  rest = λ l out. b.rest l (λ e i. out e (in_right e es ds i)) ∙ a.rest l (λ e i. out e (in_left e es ds i));
}
  where
    moved : (e d : SessionLane) → In d ds → lane_by s e ≡ lane_by s d → In e ds
    moved e d k same = subst (λ z. In z ds) (λ i. ((sym same i).style, (sym same i).hop)) k

-- lanes of different styles
pub styles_apart : (st other : StyleKind) → (st ≡ other → ⊥) → (hops : List NextHop) (e : SessionLane) → In e (lanes_of st hops) → In e (lanes_of other hops) → ⊥
styles_apart st other apart hops e i j =
    let a = in_each (λ (hop : NextHop). (st, hop)) e hops i in
    let b = in_each (λ (hop : NextHop). (other, hop)) e hops j in
    let same = sym a.2 ∙ b.2 in
    apart (λ k. (same k).0)

pub wild_fixed : Wild ≡ Fixed → ⊥
wild_fixed e = cc

pub wild_shared : Wild ≡ Shared → ⊥
wild_shared e = cc

pub fixed_shared : Fixed ≡ Shared → ⊥
fixed_shared e = cc

module _ (m : State) (s : Session) (hops : List NextHop) (a b c : Said) where
  pub told_all : IsTold m s (lanes_of Wild hops) a → IsTold (record m { said = a }) s (lanes_of Fixed hops) b → IsTold (record m { said = b }) s (lanes_of Shared hops) c → IsTold m s (lanes_by hops) c
  told_all wild fixed shared =
      told_both m s (lanes_of Wild hops) (lanes_of Fixed hops ++ lanes_of Shared hops) a c wild
      (told_both (record m { said = a }) s (lanes_of Fixed hops) (lanes_of Shared hops) b c fixed shared (styles_apart Fixed Shared fixed_shared hops))
      (λ e i j. ⊎_elim (styles_apart Wild Fixed wild_fixed hops e i) (styles_apart Wild Shared wild_shared hops e i) (in_append e (lanes_of Fixed hops) (lanes_of Shared hops) j))

module _ {B : Type 0} (posted : B → Send → B) (start : B) (say : SessionLane → List Send) (es ds fs : List SessionLane) (one two three : B) where
  pub three_said : one ≡ fold posted start (flat_map say es) → two ≡ fold posted one (flat_map say ds) → three ≡ fold posted two (flat_map say fs)
      → three ≡ fold posted start (flat_map say (es ++ (ds ++ fs)))
  three_said a b c =
      c ∙ ap (λ o. fold posted o (flat_map say fs)) b ∙ both_said posted one say ds fs (fold posted one (flat_map say ds)) refl ∙ both_said posted start say es (ds ++ fs) one a

-- ---- one lane more
module _ (m : State) (s : Session) (st : StyleKind) (hops : Set next_hops) (near : (c : ℕ) → hops ≡ hops_in (facts_of c m) s) (list : List NextHop) (is : list ≡ keys hops) where
  -- a path comes from there
  pub lane_there : (i : ℕ) (d : NextHop) → i < length list → (c : ℕ) → has (lanes (facts_of c m)) (lane_by s (st, slice_index_or list i d)) ≡ true
  lane_there i d h c =
      let hop = slice_index_or list i d in
      let at : In hop (keys hops) = subst (λ hs. In hop hs) is (got_in list i hop (slice_is list i d h)) in
      let by = hops_told (facts_of c m) s hop (ap (λ (z : Set next_hops). has z hop) (sym (near c)) ∙ in_keys next_hops hops hop at) in
      lanes_made (facts_of c m) (lane_by s (st, hop)) by.0 by.1

  pub not_yet : (i : ℕ) (d : NextHop) → i < length list → In (st, slice_index_or list i d) (lanes_of st (take i list)) → ⊥
  not_yet i d h = subst (λ hs. i < length hs → In (st, slice_index_or hs i d) (lanes_of st (take i hs)) → ⊥) (sym is) (is_new st hops i d) h

-- what goes there does so at each clock
module _ (old new : Said) (m : State) (s : Session) (st : StyleKind) (hop : NextHop) (kept : (c : ℕ) → new ≡ told_at old (lane_by s (st, hop)) (toward_at c m s st hop)) where
  toward_is : (c : ℕ) → toward_at c m s st hop ≡ toward m.place (facts_of c m) (lane_by s (st, hop))
  unfolding toward_at
  toward_is c = refl

  pub goes_there : (c : ℕ) → toward_at 0 m s st hop ≡ toward m.place (facts_of c m) (lane_by s (st, hop))
  goes_there c =
      let l = lane_by s (st, hop) in
      sym (said_here old l (toward_at 0 m s st hop)) ∙ ap (λ (z : Said). said_at z l) (sym (kept 0) ∙ kept c) ∙ said_here old l (toward_at c m s st hop) ∙ toward_is c

-- where the same was said before, the same is told
pub same_told : (c : ℕ) (n : State) (asked : Option Addr) (due : Bool) (a b : Said) (s : Session) (es : List SessionLane)
    → ((e : SessionLane) → In e es → said_at b (lane_by s e) ≡ said_at a (lane_by s e)) → flat_map (told_by c n asked due b s) es ≡ flat_map (told_by c n asked due a s) es
same_told c n asked due a b s [] same = refl
same_told c n asked due a b s (e ∷ es) same =
    let here = same e (inl refl) in
    let rest = same_told c n asked due a b s es (λ d i. same d (inr i)) in
    λ i. told_seen c n (lane_by s e) asked due (here i) ++ rest i

-- the lanes of a style that were not told yet
pub untold : (m : State) (s : Session) (st other : StyleKind) → (st ≡ other → ⊥) → (hops : List NextHop) (last : Said) → IsTold m s (lanes_of st hops) last → (e : SessionLane)
    → In e (lanes_of other hops) → said_at last (lane_by s e) ≡ said_at m.said (lane_by s e)
untold m s st other apart hops last told e i =
    told.rest (lane_by s e) (λ d j same. styles_apart st other apart hops d j (subst (λ z. In z (lanes_of other hops)) (λ k. ((same k).style, (same k).hop)) i))

-- ---- a step of a loop over the hops
module _ {B : Type 0} (posted : B → Send → B) (start : B) (say : SessionLane → List Send) (st : StyleKind) (hops : List NextHop) (i : ℕ) (d : NextHop) (h : i < length hops) (out : B) where
  pub step_said : out ≡ fold posted start (flat_map say (lanes_of st (take i hops))) → fold posted out (say (st, slice_index_or hops i d))
      ≡ fold posted start (flat_map say (lanes_of st (take (i + 1) hops)))
  step_said is =
      one_said posted start say (lanes_of st (take i hops)) (st, slice_index_or hops i d) out is ∙ ap (λ es. fold posted start (flat_map say es)) (sym (lanes_more st hops i d h))

-- t are the tables, first what was said before all, and said what was so far
module _ (t : Tables) (first : Said) (s : Session) (st : StyleKind) (hops : Set next_hops) (near : (c : ℕ) → hops ≡ hops_in (facts_of c (state_of t empty)) s) (list : List NextHop)
    (is : list ≡ keys hops) (i : ℕ) (d : NextHop) (h : i < length list) (said : Said)
    (roomy : IsRoomy (state_of t empty) said) where
  abbrev hop : NextHop
  hop = slice_index_or list i d

  pub step_room : IsWithinSessionLimits senders t.paths.facts → has said (lane_by s (st, hop)) ≡ false → size said < 1536
  step_room within new = told_room (state_of t empty) said roomy (lane_by s (st, hop)) (lane_there (state_of t empty) s st hops near list is i d h 0) new within

  module _ (done : IsTold (state_of t first) s (lanes_of st (take i list)) said) where
    pub step_was : said_at said (lane_by s (st, hop)) ≡ said_at first (lane_by s (st, hop))
    step_was = as_before (state_of t first) s (lanes_of st (take i list)) said done (st, hop) (not_yet (state_of t empty) s st hops near list is i d h)

    module _ (new : Said) (kept : (c : ℕ) → new ≡ told_at said (lane_by s (st, hop)) (toward_at c (state_of t empty) s st hop)) where
      pub step_told : IsTold (state_of t first) s (lanes_of st (take (i + 1) list)) new
      step_told =
          subst (λ es. IsTold (state_of t first) s es new) (sym (lanes_more st list i d h))
          (subst (IsTold (state_of t first) s (lanes_of st (take i list) ++ (st, hop) ∷ [])) (sym (kept 0))
          (told_more (state_of t first) s (lanes_of st (take i list)) said done (st, hop) (toward_at 0 (state_of t empty) s st hop) (goes_there said new (state_of t empty) s st hop kept)))

      pub step_roomy : IsRoomy (state_of t empty) new
      step_roomy = subst (IsRoomy (state_of t empty)) (sym (kept 0)) (roomy_told (state_of t empty) said roomy (lane_by s (st, hop)) (toward_at 0 (state_of t empty) s st hop)
          (goes_there said new (state_of t empty) s st hop kept))

module _ {B : Type 0} (posted : B → Send → B) (start : B) (c : ℕ) (t : Tables) (any : Said) (asked : Option Addr) (due : Bool) (first : Said) (s : Session) (st : StyleKind) (hops : Set next_hops)
    (near : (c : ℕ) → hops ≡ hops_in (facts_of c (state_of t empty)) s)
    (list : List NextHop) (is : list ≡ keys hops) (i : ℕ) (d : NextHop) (h : i < length list) (said : Said) (roomy : IsRoomy (state_of t empty) said)
    (done : IsTold (state_of t first) s (lanes_of st (take i list)) said) (out : B)
    (so_far : out ≡ fold posted start (flat_map (told_by c (state_of t any) asked due first s) (lanes_of st (take i list)))) (new : B) where
  pub step_sent : new ≡ fold posted out (told_by c (state_of t any) asked due said s (st, slice_index_or list i d))
      → new ≡ fold posted start (flat_map (told_by c (state_of t any) asked due first s) (lanes_of st (take (i + 1) list)))
  step_sent sent =
      sent ∙ ap (λ w. fold posted out (told_seen c (state_of t any) (lane_by s (st, slice_index_or list i d)) asked due w)) (step_was t first s st hops near list is i d h said roomy done)
      ∙ step_said posted start (told_by c (state_of t any) asked due first s) st list i d h out so_far
