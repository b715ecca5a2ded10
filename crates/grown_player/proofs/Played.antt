-- Events that are played one after another.
use Rattle.std.proofs.Common.{◌≡◌, ℕ, ◌+◌, ◌<◌, ◌≤◌, zero, suc, List, [], ◌∷◌, ◌++◌, true, false, length, drop, get_or, refl, sym, ap, subst, ◌∙◌, arith, append_assoc, append-nil, add-one}
use Rattle.std.specs.Prelude.{Result, Ok, Err, map as each}
use Rattle.network_model.specs.Events.{Event}
use Rattle.network_model.specs.Runs.{Plan, is_crowded_run}
use Rattle.network_replay.specs.Agreeing.{NetworkState}
use Rattle.network_replay.specs.Following.{Seen}
use Rattle.network_replay.specs.declared.world_err.WorldErr.{WorldErr}
use Rattle.network_replay.specs.declared.world_err.WorldErr.TheVariants.{Crowded, NoMemory}
use Rattle.script_run.specs.Written.{with_event}
use Rattle.script_run.proofs.Runs.{stays_crowded}
use Rattle.script_run.specs.Standing.{RunsOn}
use Rattle.grown_player.specs.Playing.{EndsPlaying, IsPlayed, Plays, with_events}

-- ---- plans with more events
abbrev with_list : Plan → List Event → Plan
with_list p es = record p { events = es }

pub joined : (p : Plan) (es fs : List Event) → with_events (with_events p es) fs ≡ with_events p (es ++ fs)
joined p es fs = ap (with_list p) (append_assoc p.events es fs)

no_more : (p : Plan) → with_events p [] ≡ p
no_more p = ap (with_list p) (append-nil p.events)

-- once crowded, a run stays crowded
stays : (p : Plan) (es : List Event) → is_crowded_run p ≡ true → is_crowded_run (with_events p es) ≡ true
stays p [] c = ap is_crowded_run (no_more p) ∙ c
stays p (e ∷ es) c = ap is_crowded_run (sym (joined p (e ∷ []) es)) ∙ stays (with_event p e) es (stays_crowded p e c)

-- the element at a place is the first of the rest
pub drop_at : {A : Type 0} (xs : List A) (i : ℕ) (d : A) → i < length xs → drop i xs ≡ get_or xs i d ∷ drop (i + 1) xs
drop_at {A} xs i d lt = more xs i lt ∙ ap (λ n. get_or xs i d ∷ drop n xs) (sym (add-one i))
  where
    more : (xs : List A) (i : ℕ) → i < length xs → drop i xs ≡ get_or xs i d ∷ drop (suc i) xs
    more [] i lt = absurd (omega arith)
    more (x ∷ xs) zero lt = refl
    more (x ∷ xs) (suc i) lt = more xs i (omega arith)

-- and past the end nothing is left
pub drop_past : {A : Type 0} (xs : List A) (i : ℕ) → length xs ≤ i → drop i xs ≡ []
drop_past [] zero le = refl
drop_past [] (suc i) le = refl
drop_past (x ∷ xs) zero le = absurd (omega arith)
drop_past (x ∷ xs) (suc i) le = drop_past xs i (omega arith)

module _ {R : Type 0} (see : Seen R) where
  -- one event
  pub one_played : (old v : NetworkState R) (p : Plan) (e : Event) (r : Result (Unit {0}) WorldErr) (before after : List ℕ) → IsPlayed see p old before → RunsOn see p e r before after v
      → Plays see p (e ∷ []) r v after
  one_played old v p e (Ok _) before after played ran = record {
    roomy = ran.roomy;
    stands = ran.stands;
    text_is = ran.appended ∙ ap (λ (t : List ℕ). t ++ ran.own) played.text_is ∙ sym ran.text_is;
  }
  one_played old v p e (Err Crowded) before after played ran = ran
  one_played old v p e (Err NoMemory) before after played ran = tt

  -- some events, and then others
  pub then_played : (p : Plan) (es fs : List Event) (r : Result (Unit {0}) WorldErr) (v : NetworkState R) (out : List ℕ) → Plays see (with_events p es) fs r v out → Plays see p (es ++ fs) r v out
  then_played p es fs r v out h = subst (λ (q : Plan). EndsPlaying see q r v out) (joined p es fs) h

  -- some events, by which it ended: no others change that
  pub stopped : (p : Plan) (es fs : List Event) (x : WorldErr) (v u : NetworkState R) (out said : List ℕ) → Plays see p es (Err x) v out → Plays see p (es ++ fs) (Err x) u said
  stopped p es fs Crowded v u out said h = ap is_crowded_run (sym (joined p es fs)) ∙ stays (with_events p es) fs h
  stopped p es fs NoMemory v u out said h = tt

  -- ---- on the way: a plan was played, and with what is left of the events it is the whole
  pub record IsHalfway (p : Plan) (all left : List Event) (v : NetworkState R) (out : List ℕ) : Type 0 where
    pub now : Plan
    pub played : IsPlayed see now v out
    pub rest : with_events now left ≡ with_events p all

  pub begun : (p : Plan) (all : List Event) (v : NetworkState R) (out : List ℕ) → IsPlayed see p v out → IsHalfway p all all v out
  begun p all v out h = record { now = p; played = h; rest = refl }

  pub gone_on : (p : Plan) (all : List Event) (e : Event) (left : List Event) (v u : NetworkState R) (out said : List ℕ) (h : IsHalfway p all (e ∷ left) v out)
      → Plays see h.now (e ∷ []) (Ok tt) u said → IsHalfway p all left u said
  gone_on p all e left v u out said h next = record { now = with_event h.now e; played = next; rest = joined h.now (e ∷ []) left ∙ h.rest }

  pub broken_off : (p : Plan) (all : List Event) (e : Event) (left : List Event) (x : WorldErr) (v u : NetworkState R) (out said : List ℕ) (h : IsHalfway p all (e ∷ left) v out)
      → Plays see h.now (e ∷ []) (Err x) u said → Plays see p all (Err x) u said
  broken_off p all e left x v u out said h next = subst (λ (q : Plan). EndsPlaying see q (Err x) u said) h.rest (stopped h.now (e ∷ []) left x u u said said next)

  pub arrived : (p : Plan) (all : List Event) (v : NetworkState R) (out : List ℕ) → IsHalfway p all [] v out → Plays see p all (Ok tt) v out
  arrived p all v out h = subst (λ (q : Plan). IsPlayed see q v out) (sym (no_more h.now) ∙ h.rest) h.played

  -- ---- the events of a list, one for each element
  module _ {A : Type 0} (p : Plan) (f : A → Event) (xs : List A) (i : ℕ) (v : NetworkState R) (out : List ℕ) where
    pub at_element : (d : A) → i < length xs → IsHalfway p (each f xs) (each f (drop i xs)) v out → IsHalfway p (each f xs) (f (get_or xs i d) ∷ each f (drop (i + 1) xs)) v out
    at_element d lt h = subst (λ (ys : List A). IsHalfway p (each f xs) (each f ys) v out) (drop_at xs i d lt) h

    pub at_item : (x : A) → i < length xs → x ≡ get_or xs i x → IsHalfway p (each f xs) (each f (drop i xs)) v out → IsHalfway p (each f xs) (f x ∷ each f (drop (i + 1) xs)) v out
    at_item x lt is h = subst (λ (y : A). IsHalfway p (each f xs) (f y ∷ each f (drop (i + 1) xs)) v out) (sym is) (at_element x lt h)

    pub at_end : length xs ≤ i → IsHalfway p (each f xs) (each f (drop i xs)) v out → Plays see p (each f xs) (Ok tt) v out
    at_end le h = arrived p (each f xs) v out (subst (λ (ys : List A). IsHalfway p (each f xs) (each f ys) v out) (drop_past xs i le) h)
