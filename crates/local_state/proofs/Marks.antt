-- Which local senders are advertised, as their rows change.
use Rattle.std.specs.Prelude.{◌≡◌, ℕ, ◌<◌, Bool, true, false, cond, not, List, [], ◌∷◌, map as each, length, is_some, Option, Some, None, refl}
use Rattle.std.proofs.Common.{zero, suc, sym, ap, subst, ◌∙◌, arith, T, get_or, set}
use Rattle.std.specs.Cmp.{tied_itself}
use Rattle.std.specs.List.{insert, remove}
use Rattle.std.specs.Ordering.{eq_by_cmp}
use Rattle.std.specs.declared.cmp.Ordering.TheVariants.{Equal}
use Rattle.std.specs.FinMap.Entries.{below_all, find, is_sorted, put, where_key}
use Rattle.rsvp_base.specs.Keys.{Keys}
use Rattle.rsvp_base.specs.Rows.{AreRows, HasRowAt, table_of}
use Rattle.rsvp_base.specs.Sets.{Set, with_key}
use Rattle.rsvp_base.specs.Table.{Table, both, changed, changed_rows, first, get, has, kept_row, passes, same_rows, second, without}
use Rattle.rsvp_base.proofs.Changed.{changed_put}
use Rattle.rsvp_base.proofs.Places.{find_found, put_found, without_found}
use Rattle.rsvp_base.proofs.Tables.{get-changed, get-without, holds, same_table, then_do}
use Rattle.router_rules.specs.Facts.{SenderKey, sender_keys}
use Rattle.local_state.specs.Rows.{Announced, is_marked, mark_row, sender_row}
use Rattle.local_state.specs.declared.senders.LocalSender.{LocalSender}

-- what is taken out before or after each row is changed
pub changed_without : {K X Y : Type 0} (o : Keys K) (f : K → X → Option Y) (m : Table o X) (k : K) → changed f (without m k) ≡ without (changed f m) k
changed_without {K} {X} {Y} o f m k =
    same_table o _ _ (λ q.
    get-changed o f (without m k) q ∙ ap (λ w. then_do w (f q)) (get-without o m k q) ∙ by q (not (eq_by_cmp o.cmp k q))
    ∙ sym (get-without o (changed f m) k q ∙ ap (λ w. cond (not (eq_by_cmp o.cmp k q)) w None) (get-changed o f m q)))
  where
    by : (q : K) (b : Bool) → then_do (cond b (get m q) None) (f q) ≡ cond b (then_do (get m q) (f q)) None
    by q true = refl
    by q false = refl

-- ---- rows in the order of senders are so with their marks too
below_marks : (k : SenderKey) (xs : List LocalSender) → T (below_all sender_keys.cmp k (each sender_row xs)) → T (below_all sender_keys.cmp k (each mark_row xs))
below_marks k [] h = tt
below_marks k (x ∷ xs) h = both _ _ (first _ _ h) (below_marks k xs (second _ _ h))

marks_sorted : (xs : List LocalSender) → T (is_sorted sender_keys.cmp (each sender_row xs)) → T (is_sorted sender_keys.cmp (each mark_row xs))
marks_sorted [] h = tt
marks_sorted (x ∷ xs) h = both _ _ (below_marks (x.session, x.sender) xs (first _ _ h)) (marks_sorted xs (second _ _ h))

pub marks_rise : (xs : List LocalSender) → AreRows sender_keys sender_row xs → AreRows sender_keys mark_row xs
marks_rise xs up = holds _ (marks_sorted xs (passes _ up))

-- those of the rows that are advertised
abbrev pub marked : List LocalSender → List (SenderKey × Unit {0})
marked xs = changed_rows is_marked (each mark_row xs)

some_mark : (k : SenderKey) (b : Bool) → is_some (is_marked k b) ≡ b
some_mark k true = refl
some_mark k false = refl

-- ---- where a row is written of which a part stays
pub each_kept : {B : Type 0} (f : LocalSender → B) (xs : List LocalSender) (i : ℕ) (a d : LocalSender) → f a ≡ f (get_or xs i d) → each f (set xs i a) ≡ each f xs
each_kept f [] i a d same = refl
each_kept f (x ∷ xs) zero a d same = ap (λ y. y ∷ each f xs) same
each_kept f (x ∷ xs) (suc i) a d same = ap (λ ys. f x ∷ ys) (each_kept f xs i a d same)

-- one more that is not advertised
pub marked_more : (xs : List LocalSender) (i : ℕ) (a : LocalSender) → a.advertised ≡ false → marked (insert xs i a) ≡ marked xs
marked_more [] zero a none = ap (λ b. changed_rows is_marked (((a.session, a.sender), b) ∷ [])) none
marked_more [] (suc i) a none = ap (λ b. changed_rows is_marked (((a.session, a.sender), b) ∷ [])) none
marked_more (x ∷ xs) zero a none = ap (λ b. changed_rows is_marked (((a.session, a.sender), b) ∷ mark_row x ∷ each mark_row xs)) none
marked_more (x ∷ xs) (suc i) a none = ap (kept_row (x.session, x.sender) (is_marked (x.session, x.sender) x.advertised)) (marked_more xs i a none)

-- ---- the row of a sender
module _ (xs : List LocalSender) (up : AreRows sender_keys sender_row xs) (k : SenderKey) (i : ℕ) (h : HasRowAt sender_keys sender_row xs k i) where
  tie : (d : LocalSender) → sender_keys.cmp (mark_row (get_or xs i d)).0 k ≡ Equal
  tie d = subst (λ z. sender_keys.cmp z k ≡ Equal) (sym (h.key d)) (tied_itself sender_keys.total k)

  sorted : T (is_sorted sender_keys.cmp (each mark_row xs))
  sorted = marks_sorted xs (passes _ up)

  module _ (ups : AreRows sender_keys mark_row xs) where
    abbrev marks : Table sender_keys Bool
    marks = table_of sender_keys mark_row xs ups

    pub marked_at : (d : LocalSender) → (get_or xs i d).advertised ≡ has (changed is_marked marks) k
    marked_at d =
        sym (ap is_some (get-changed sender_keys is_marked marks k ∙ ap (λ w. then_do w (is_marked k)) (find_found sender_keys mark_row k xs i d sorted h.within (tie d)))
        ∙ some_mark k (get_or xs i d).advertised)

    pub marked_put : (a : LocalSender) → mark_row a ≡ (k, true) → marked (set xs i a) ≡ (with_key (changed is_marked marks) k).rows
    marked_put a e =
        ap (changed_rows is_marked) (sym (put_found sender_keys mark_row k true a e xs i a sorted h.within (tie a)))
        ∙ ap (λ (t : Set sender_keys). t.rows) (changed_put sender_keys is_marked marks k true tt refl)

    pub marked_taken : (d : LocalSender) → marked (remove xs i) ≡ (without (changed is_marked marks) k).rows
    marked_taken d =
        ap (changed_rows is_marked) (sym (without_found sender_keys mark_row k xs i d sorted h.within (tie d)))
        ∙ ap (λ (t : Set sender_keys). t.rows) (changed_without sender_keys is_marked marks k)

-- ---- what the rows are seen as
pub announced_is : (a b : Announced) → a.tspecs ≡ b.tspecs → a.advertised ≡ b.advertised → a ≡ b
announced_is a b e f = λ i. record { tspecs = e i; advertised = f i }

-- the key of the row that stands at the place
pub key_at : (xs : List LocalSender) (k : SenderKey) (i : ℕ) (r : LocalSender) → HasRowAt sender_keys sender_row xs k i → r ≡ get_or xs i r → (r.session, r.sender) ≡ k
key_at xs k i r h e = ap (λ (z : LocalSender). (z.session, z.sender)) e ∙ h.key r

pub tspecs_is : {a b : Announced} → a ≡ b → a.tspecs ≡ b.tspecs
tspecs_is e = ap (λ (z : Announced). z.tspecs) e

pub marks_are : {a b : Announced} → a ≡ b → a.advertised.rows ≡ b.advertised.rows
marks_are e = ap (λ (z : Announced). z.advertised.rows) e
