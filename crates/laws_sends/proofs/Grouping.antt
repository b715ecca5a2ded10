-- Lists in which the sessions rise, taken session by session.
use Rattle.std.specs.Prelude.{◌≡◌, Bool, true, false, cond, ◌||◌, List, [], ◌∷◌, ◌++◌, map as each, refl}
use Rattle.std.specs.List.{filter, flat_map, list_any}
use Rattle.std.specs.Ordering.{eq_by_cmp, is_lt, ordering_then}
use Rattle.std.specs.declared.cmp.Ordering.{Ordering}
use Rattle.std.specs.declared.cmp.Ordering.TheVariants.{Less, Equal, Greater}
use Rattle.std.specs.FinMap.Entries.{below_all, is_sorted}
use Rattle.std.proofs.Common.{sym, ap, subst, inl, inr, ◌∙◌, T}
use Rattle.rsvp_base.specs.Keys.{Keys}
use Rattle.rsvp_base.specs.Members.{In}
use Rattle.rsvp_base.specs.Orders.{sessions}
use Rattle.rsvp_base.specs.Sets.{Set}
use Rattle.rsvp_base.specs.Table.{first, has, keys, passes, second}
use Rattle.rsvp_base.specs.declared.session.Session.{Session}
use Rattle.rsvp_base.proofs.Filters.{same_test}
use Rattle.rsvp_base.proofs.Fronts.{in_keys, to_keys}
use Rattle.rsvp_base.proofs.Members.{in_any, in_tied, tied_in}
use Rattle.rsvp_base.proofs.Tables.{either, holds, tied_same}
use Rattle.router_state.proofs.Once.{keys_rise, not_below, not_below_itself}
use Rattle.router_state.proofs.Tests.{ties}
use Rattle.laws_sends.specs.Several.{AreSessions, as_session, is_among}

-- ---- lists in which the sessions rise, or stay
abbrev pub Rises : {A : Type 0} → (A → Session) → List A → Type 0
Rises of [] = Unit {0}
Rises {A} of (x ∷ xs) = ((y : A) → In y xs → is_lt (sessions.cmp (of y) (of x)) ≡ false) × Rises of xs

-- those of a table whose keys begin with a session
module _ {K X : Type 0} (o : Keys K) (of : K → Session) (begins : (a b : K) → T (is_lt (o.cmp a b)) → is_lt (sessions.cmp (of b) (of a)) ≡ false) where
  below_in : (k : K) (es : List (K × X)) → T (below_all o.cmp k es) → (e : K × X) → In e es → T (is_lt (o.cmp k e.0))
  below_in k [] h e i = elim i [ ]
  below_in k (f ∷ es) h e (inl is) = subst (λ (z : K × X). T (is_lt (o.cmp k z.0))) (sym is) (first _ _ h)
  below_in k (f ∷ es) h e (inr i) = below_in k es (second _ _ h) e i

  pub rows_rise : (es : List (K × X)) → T (is_sorted o.cmp es) → Rises (λ (e : K × X). of e.0) es
  rows_rise [] h = tt
  rows_rise (e ∷ es) h = (λ y i. begins e.0 y.0 (below_in e.0 es (first _ _ h) y i), rows_rise es (second _ _ h))

-- by the order of sessions, and then another
pub begins_so : (a b : Session) (q : Ordering) → T (is_lt (ordering_then (sessions.cmp a b) q)) → is_lt (sessions.cmp b a) ≡ false
begins_so a b q h = by (sessions.cmp a b) refl h
  where
    by : (r : Ordering) → sessions.cmp a b ≡ r → T (is_lt (ordering_then r q)) → is_lt (sessions.cmp b a) ≡ false
    by Less e h = not_below sessions b a (ap is_lt e)
    by Equal e h = let same = sessions.same a b e in subst (λ (z : Session). is_lt (sessions.cmp z a) ≡ false) same (not_below_itself sessions a)
    by Greater e h = absurd h

-- ---- one session, and those behind it
module _ {A : Type 0} (of : A → Session) where
  none_of : (s : Session) (xs : List A) → ((y : A) → In y xs → eq_by_cmp sessions.cmp s (of y) ≡ false) → filter (λ x. eq_by_cmp sessions.cmp s (of x)) xs ≡ []
  none_of s [] h = refl
  none_of s (x ∷ xs) h = ap (λ b. cond b (x ∷ filter (λ x. eq_by_cmp sessions.cmp s (of x)) xs) (filter (λ x. eq_by_cmp sessions.cmp s (of x)) xs)) (h x (inl refl)) ∙ none_of s xs (λ y i. h y (inr i))

  module _ (s : Session) (ss : List Session) (before : (q : Session) → In q ss → is_lt (sessions.cmp s q) ≡ true) where
    behind : (q : Session) → is_among ss q ≡ true → is_lt (sessions.cmp s q) ≡ true
    behind q h = let r = in_any (λ z. eq_by_cmp sessions.cmp z q) ss h in ap (λ z. is_lt (sessions.cmp s z)) (sym (tied_same sessions r.0 q r.2)) ∙ before r.0 r.1

    split : (xs : List A) → Rises of xs
        → filter (λ x. eq_by_cmp sessions.cmp s (of x) || is_among ss (of x)) xs ≡ filter (λ x. eq_by_cmp sessions.cmp s (of x)) xs ++ filter (λ x. is_among ss (of x)) xs
    split [] up = refl
    split (x ∷ xs) up = by (eq_by_cmp sessions.cmp s (of x)) (is_among ss (of x)) refl refl (split xs up.1)
      where
        by : (a b : Bool) → eq_by_cmp sessions.cmp s (of x) ≡ a → is_among ss (of x) ≡ b
            → filter (λ x. eq_by_cmp sessions.cmp s (of x) || is_among ss (of x)) xs ≡ filter (λ x. eq_by_cmp sessions.cmp s (of x)) xs ++ filter (λ x. is_among ss (of x)) xs
            → cond (a || b) (x ∷ filter (λ x. eq_by_cmp sessions.cmp s (of x) || is_among ss (of x)) xs) (filter (λ x. eq_by_cmp sessions.cmp s (of x) || is_among ss (of x)) xs)
            ≡ cond a (x ∷ filter (λ x. eq_by_cmp sessions.cmp s (of x)) xs) (filter (λ x. eq_by_cmp sessions.cmp s (of x)) xs) ++ cond b (x ∷ filter (λ x. is_among ss (of x)) xs)
            (filter (λ x. is_among ss (of x)) xs)
        by true true here there rest =
            let lt = behind (of x) there in
            let z : true ≡ false = sym lt ∙ ap (λ q. is_lt (sessions.cmp s q)) (sym (tied_same sessions s (of x) here)) ∙ not_below_itself sessions s in
            absurd (cc)
        by true false here there rest = ap (λ ys. x ∷ ys) rest
        by false true here there rest =
            let lt = behind (of x) there in
            let none = none_of s xs (λ y i. either (eq_by_cmp sessions.cmp s (of y))
            (λ t. let z : true ≡ false = sym lt ∙ ap (λ q. is_lt (sessions.cmp q (of x))) (tied_same sessions s (of y) t) ∙ up.0 y i in absurd (cc)) (λ e. e)) in
            ap (λ ys. x ∷ ys) (rest ∙ ap (λ ys. ys ++ filter (λ x. is_among ss (of x)) xs) none) ∙ sym (ap (λ ys. ys ++ x ∷ filter (λ x. is_among ss (of x)) xs) none)
        by false false here there rest = rest

  -- ---- several sessions
  none_among : (xs : List A) → filter (λ x. false) xs ≡ []
  none_among [] = refl
  none_among (x ∷ xs) = none_among xs

  before_all : (s : Session) (ss : List Session) → T (below_all sessions.cmp s (each as_session ss)) → (q : Session) → In q ss → is_lt (sessions.cmp s q) ≡ true
  before_all s [] h q i = elim i [ ]
  before_all s (r ∷ ss) h q (inl is) = ap (λ z. is_lt (sessions.cmp s z)) is ∙ holds _ (first _ _ h)
  before_all s (r ∷ ss) h q (inr i) = before_all s ss (second _ _ h) q i

  by_session : (ss : List Session) → T (is_sorted sessions.cmp (each as_session ss)) → (xs : List A)
      → Rises of xs → filter (λ x. is_among ss (of x)) xs ≡ flat_map (λ s. filter (λ x. eq_by_cmp sessions.cmp s (of x)) xs) ss
  by_session [] up xs rise = none_among xs
  by_session (s ∷ ss) up xs rise = split s ss (before_all s ss (first _ _ up)) xs rise ∙ ap (λ ys. filter (λ x. eq_by_cmp sessions.cmp s (of x)) xs ++ ys) (by_session ss (second _ _ up) xs rise)

  pub grouped : (ss : List Session) → AreSessions ss → (xs : List A) → Rises of xs → filter (λ x. is_among ss (of x)) xs ≡ flat_map (λ s. filter (λ x. eq_by_cmp sessions.cmp s (of x)) xs) ss
  grouped ss up xs rise = by_session ss (passes _ up) xs rise

-- ---- the sessions of a set
pub keys_are_sessions : (m : Set sessions) → AreSessions (keys m)
keys_are_sessions m = keys_rise sessions m

turned : (q s : Session) → eq_by_cmp sessions.cmp q s ≡ eq_by_cmp sessions.cmp s q
turned q s = same_test _ _ (λ h. ties sessions s q (sym (tied_same sessions q s h))) (λ h. ties sessions q s (sym (tied_same sessions s q h)))

among_any : (ss : List Session) (s : Session) → is_among ss s ≡ list_any (eq_by_cmp sessions.cmp s) ss
among_any [] s = refl
among_any (q ∷ ss) s = λ i. turned q s i || among_any ss s i

pub among_in : (ss : List Session) (s : Session) → In s ss → is_among ss s ≡ true
among_in ss s i = among_any ss s ∙ tied_in sessions s ss i

pub in_among : (ss : List Session) (s : Session) → is_among ss s ≡ true → In s ss
in_among ss s h = in_tied sessions s ss (sym (among_any ss s) ∙ h)

pub among_keys : (m : Set sessions) (s : Session) → is_among (keys m) s ≡ has m s
among_keys m s = same_test _ _ (λ h. in_keys sessions m s (in_among (keys m) s h)) (λ h. among_in (keys m) s (to_keys sessions m s h))
