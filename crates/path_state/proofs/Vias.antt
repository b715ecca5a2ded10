-- The senders by one interface and hop, a fact more at a time.
use Rattle.std.proofs.Common.{◌≡◌, ◌<◌, ◌≤◌, ◌+◌, ◌++◌, ◌||◌, ℕ, Bool, true, false, cond, List, [], ◌∷◌, map as each, take, Some, refl, sym, ap, ◌∙◌, arith}
use Rattle.std.specs.Prelude.{slice_get, if◌then◌else◌}
use Rattle.std.specs.List.{filter, list_any}
use Rattle.std.specs.Ordering.{eq_by_cmp}
use Rattle.std.proofs.lemmas.List.{length-map, length-take}
use Rattle.rsvp_base.specs.Orders.{senders, Names, names_from}
use Rattle.rsvp_base.specs.Sets.{with_key}
use Rattle.rsvp_base.specs.Table.{has, size}
use Rattle.rsvp_base.specs.declared.addr.Addr.{Addr}
use Rattle.rsvp_base.specs.declared.session.Sender.{Sender}
use Rattle.rsvp_base.proofs.Counts.{has-set_of, size-set_of}
use Rattle.rsvp_base.proofs.Fronts.{front_more}
use Rattle.rsvp_base.proofs.Lists.{length_filter}
use Rattle.rsvp_base.proofs.SetLaws.{same_set, has-with_key, size-with_key}
use Rattle.rsvp_base.proofs.Tables.{either}
use Rattle.path_state.specs.declared.fact.PathFact.{PathFact}
use Rattle.path_state.specs.Paths.{comes_by, senders_by}

pub any_last : {A : Type 0} (p : A → Bool) (xs : List A) (x : A) → list_any p (xs ++ x ∷ []) ≡ (p x || list_any p xs)
any_last p [] x = refl
any_last p (y ∷ ys) x = ap (λ b. p y || b) (any_last p ys x) ∙ swapped (p y) (p x) (list_any p ys)
  where
    swapped : (a b c : Bool) → (a || (b || c)) ≡ (b || (a || c))
    swapped true true c = refl
    swapped true false c = refl
    swapped false b c = refl

-- a sender more
names_last : (xs : List Sender) (x : Sender) → names_from (xs ++ x ∷ []) ≡ with_key (names_from xs) x
names_last xs x =
    same_set senders _ _ (λ q. has-set_of senders (xs ++ x ∷ []) q ∙ any_last (eq_by_cmp senders.cmp q) xs x ∙ ap (λ b. eq_by_cmp senders.cmp q x || b) (sym (has-set_of senders xs q))
    ∙ sym (has-with_key senders (names_from xs) x q))

abbrev Row : Type 0
Row = Sender × (PathFact × ℕ)

senders_last : (i : ℕ) (a : Addr) (es : List Row) (e : Row) → senders_by i a (es ++ e ∷ []) ≡ if comes_by i a e.1.0 then (senders_by i a es ++ e.1.0.sender ∷ []) else senders_by i a es
senders_last i a [] e = by (comes_by i a e.1.0)
  where
    by : (b : Bool) → each (λ (e : Row). e.1.0.sender) (cond b (e ∷ []) []) ≡ if b then (e.1.0.sender ∷ []) else []
    by true = refl
    by false = refl
senders_last i a (x ∷ es) e = by (comes_by i a x.1.0) (comes_by i a e.1.0) (senders_last i a es e)
  where
    by : (b t : Bool) → senders_by i a (es ++ e ∷ []) ≡ if t then (senders_by i a es ++ e.1.0.sender ∷ []) else senders_by i a es
        → each (λ (e : Row). e.1.0.sender) (cond b (x ∷ filter (λ e. comes_by i a e.1.0) (es ++ e ∷ [])) (filter (λ e. comes_by i a e.1.0) (es ++ e ∷ [])))
        ≡ if t then (each (λ (e : Row). e.1.0.sender) (cond b (x ∷ filter (λ e. comes_by i a e.1.0) es) (filter (λ e. comes_by i a e.1.0) es)) ++ e.1.0.sender ∷ [])
        else each (λ (e : Row). e.1.0.sender) (cond b (x ∷ filter (λ e. comes_by i a e.1.0) es) (filter (λ e. comes_by i a e.1.0) es))
    by true true rest = ap (λ ss. x.1.0.sender ∷ ss) rest
    by true false rest = ap (λ ss. x.1.0.sender ∷ ss) rest
    by false true rest = rest
    by false false rest = rest

pub via_more : (i : ℕ) (a : Addr) (us : List Row) (k : ℕ) (f : PathFact) (e : Row) → slice_get us k ≡ Some e → e.1.0 ≡ f → (old new : Names) → old ≡ names_from (senders_by i a (take k us))
    → new ≡ if comes_by i a f then with_key old f.sender else old → new ≡ names_from (senders_by i a (take (k + 1) us))
via_more i a us k f e at fact old new so_far next =
    let xs = senders_by i a (take k us) in
    let after : names_from (senders_by i a (take (k + 1) us)) ≡ if comes_by i a f then with_key old f.sender else old =
    ap (λ es. names_from (senders_by i a es)) (front_more us k e at) ∙ ap names_from (senders_last i a (take k us) e)
    ∙ ap (λ (g : PathFact). names_from (if comes_by i a g then (xs ++ g.sender ∷ []) else xs)) fact ∙ by (comes_by i a f) in
    next ∙ sym after
  where
    by : (b : Bool) → names_from (if b then (senders_by i a (take k us) ++ f.sender ∷ []) else senders_by i a (take k us)) ≡ if b then with_key old f.sender else old
    by true = names_last (senders_by i a (take k us)) f.sender ∙ ap (λ (n : Names). with_key n f.sender) (sym so_far)
    by false = sym so_far

pub via_few : (i : ℕ) (a : Addr) (us : List Row) (k : ℕ) (old : Names) (s : Sender) → k < 16 → old ≡ names_from (senders_by i a (take k us)) → size (with_key old s) ≤ 16
via_few i a us k old s lt so_far =
    let many = ap size so_far in
    let few = size-set_of senders (senders_by i a (take k us)) in
    let listed = length-map (filter (λ (e : Row). comes_by i a e.1.0) (take k us)) (λ (e : Row). e.1.0.sender) in
    let fewer = length_filter (λ (e : Row). comes_by i a e.1.0) (take k us) in
    either (has old s)
    (λ t. let n = size-with_key senders old s ∙ ap (λ b. cond b (size old) (size old + 1)) t in omega (arith, n, many, few, listed, fewer, length-take k us))
    (λ t. let n = size-with_key senders old s ∙ ap (λ b. cond b (size old) (size old + 1)) t in omega (arith, n, many, few, listed, fewer, length-take k us))
