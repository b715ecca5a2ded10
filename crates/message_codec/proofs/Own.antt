-- A table is the table of its rows, and rows in order name nobody twice.
use Rattle.std.proofs.Common.{◌≡◌, Bool, true, false, cond, List, [], ◌∷◌, ◌++◌, Option, Some, None, refl, sym, ap, subst, ◌∙◌, T}
use Rattle.std.specs.Prelude.{◌||◌, map as each}
use Rattle.std.specs.List.{AllByRecursion}
use Rattle.std.specs.Ordering.{eq_by_cmp, is_lt}
use Rattle.std.specs.FinMap.Entries.{find, below_all, is_sorted}
use Rattle.rsvp_base.specs.declared.session.Sender.{Sender}
use Rattle.rsvp_base.specs.Orders.{Names, senders, names_from}
use Rattle.rsvp_base.specs.Sets.{union}
use Rattle.rsvp_base.specs.Table.{Table, empty, get, put_in, keys, with_rows, first, second}
use Rattle.rsvp_base.specs.TokenBucket.{TokenBucket}
use Rattle.rsvp_base.proofs.Lists.{with_keys-union}
use Rattle.rsvp_base.proofs.SetLaws.{same_set, has-union}
use Rattle.rsvp_base.proofs.Tables.{either, tied_same, tied_self, less_not_equal, get-put_in, same_table, none_above}
use Rattle.message_codec.specs.Messages.{pairs_in}
use Rattle.message_codec.specs.Places.{is_named}

pub names_again : (s : Names) → names_from (keys s) ≡ s
names_again s = with_keys-union empty s ∙ same_set senders (union empty s) s (λ q. has-union senders empty s q)

abbrev or_first : {X : Type 0} → Option X → Option X → Option X
or_first (Some x) o = Some x
or_first None o = o

or_cond : {X : Type 0} (b : Bool) (v : X) (o p : Option X) → (b ≡ true → o ≡ None) → or_first o (cond b (Some v) p) ≡ or_first (cond b (Some v) o) p
or_cond true v o p h = ap (λ (z : Option _). or_first z (Some v)) (h refl)
or_cond false v o p h = refl

module _ {X : Type 0} where
  rows_found : (es : List (Sender × X)) (m : Table senders X) (q : Sender) → T (is_sorted senders.cmp es) → get (with_rows m es) q ≡ or_first (find senders.cmp q es) (get m q)
  rows_found [] m q h = refl
  rows_found (e ∷ es) m q h =
      rows_found es (put_in m e.0 e.1) q (second _ _ h) ∙ ap (or_first (find senders.cmp q es)) (get-put_in senders m e.0 e.1 q)
      ∙ or_cond (eq_by_cmp senders.cmp q e.0) e.1 (find senders.cmp q es) (get m q) (λ t. ap (λ (k : Sender). find senders.cmp k es) (tied_same senders q e.0 t)
      ∙ none_above senders e.0 es (first _ _ h))

  or_nothing : (o : Option X) → or_first o None ≡ o
  or_nothing (Some x) = refl
  or_nothing None = refl

  pub table_again : (t : Table senders X) → with_rows empty t.rows ≡ t
  table_again t = same_table senders (with_rows empty t.rows) t (λ q. rows_found t.rows empty q t.sorted ∙ or_nothing (get t q))

-- ---- rows in order

abbrev pub Filter : Type 0
Filter = Sender × Option TokenBucket

abbrev pub IsBelow : Sender → Sender → Type 0
IsBelow d x = T (is_lt (senders.cmp d x))

-- all of these are below a sender
abbrev pub AreBelow : List Filter → Sender → Type 0
AreBelow ds x = AllByRecursion (λ d. IsBelow d.0 x) ds

not_itself : (d : Sender) → IsBelow d d → ⊥
not_itself d lt = let z = sym (tied_self senders d) ∙ less_not_equal (senders.cmp d d) lt in cc

not_tied : (d x : Sender) → IsBelow d x → eq_by_cmp senders.cmp x d ≡ false
not_tied d x lt = either (eq_by_cmp senders.cmp x d) (λ e. absurd (not_itself d (subst (λ (y : Sender). IsBelow d y) (tied_same senders x d e) lt))) (λ e. e)

pub new_name : (ds : List Filter) (x : Sender) → AreBelow ds x → is_named x ds ≡ false
new_name [] x h = refl
new_name (d ∷ ds) x h = ap (λ (b : Bool). b || is_named x ds) (not_tied d.0 x h.0) ∙ new_name ds x h.1

below_more : (ds : List Filter) (d : Filter) (x : Sender) → AreBelow ds x → IsBelow d.0 x → AreBelow (ds ++ d ∷ []) x
below_more [] d x h lt = (lt, tt)
below_more (e ∷ ds) d x h lt = (h.0, below_more ds d x h.1 lt)

module _ {X : Type 0} where
  -- all of these rows are above the filters before them
  abbrev pub AreAbove : List Filter → List (Sender × X) → Type 0
  AreAbove ds rows = AllByRecursion (λ r. AreBelow ds r.0) rows

  pub above_none : (rows : List (Sender × X)) → AreAbove [] rows
  above_none [] = tt
  above_none (r ∷ rows) = (tt, above_none rows)

  pub above_more : (ds : List Filter) (d : Filter) (rows : List (Sender × X)) → AreAbove ds rows → T (below_all senders.cmp d.0 rows) → AreAbove (ds ++ d ∷ []) rows
  above_more ds d [] h lt = tt
  above_more ds d (r ∷ rows) h lt = (below_more ds d r.0 h.0 (first _ _ lt), above_more ds d rows h.1 (second _ _ lt))

-- ---- filters of rows

abbrev pub paired : List (Sender × TokenBucket) → List Filter
paired es = each (λ e. (e.0, Some e.1)) es

pub pairs_again : (es : List (Sender × TokenBucket)) → pairs_in (paired es) ≡ es
pairs_again [] = refl
pairs_again (e ∷ es) = ap (λ (t : List (Sender × TokenBucket)). e ∷ t) (pairs_again es)

abbrev pub with_flow : Option TokenBucket → List Sender → List Filter
with_flow f ss = each (λ s. (s, f)) ss

pub senders_again : (f : Option TokenBucket) (ss : List Sender) → each (λ (e : Filter). e.0) (with_flow f ss) ≡ ss
senders_again f [] = refl
senders_again f (s ∷ ss) = ap (λ (t : List Sender). s ∷ t) (senders_again f ss)
