-- A book is emptied, and a node that is cleared is as it should be.
use Rattle.std.specs.Prelude.{◌≡◌, ℕ, ◌+◌, ◌≤◌, ◌<◌, Bool, true, false, cond, not, nat_lt, ◌==◌, length, slice_get, List, [], ◌∷◌, Option, Some, None, refl}
use Rattle.std.specs.FinMap.Entries.{find}
use Rattle.std.specs.Option.{option_map}
use Rattle.std.specs.Ordering.{eq_by_cmp}
use Rattle.std.proofs.Common.{sym, ap, subst, ◌∙◌, arith}
use Rattle.std.proofs.lemmas.Bool.{eqb-true, lt-ltb}
use Rattle.std.proofs.lemmas.Bool.Decides.{nat_tests}
use Rattle.std.proofs.lemmas.Option.{same_Some}
use Rattle.admission_book.specs.Book.{Bookings, Entries}
use Rattle.admission_book.specs.Within.{IsWithin}
use Rattle.rsvp_base.specs.Keys.{Keys}
use Rattle.rsvp_base.specs.Table.{Table, empty, get, without}
use Rattle.rsvp_base.specs.TokenBucket.{TokenBucket}
use Rattle.rsvp_base.specs.declared.entry_key.EntryKey.{EntryKey}
use Rattle.rsvp_base.specs.declared.part.Part.{Part}
use Rattle.rsvp_base.specs.declared.style.StyleKind.{StyleKind}
use Rattle.rsvp_base.specs.declared.style.StyleKind.TheVariants.{Wild, Fixed, Shared}
use Rattle.rsvp_base.proofs.Tables.{either, get-without, tied_self}
use Rattle.style_rules.specs.Merge.{PartTable}
use Rattle.laws_bounds.proofs.Requesting.{nowhere}
use Rattle.router_rules.specs.Books.{book}
use Rattle.router_rules.specs.Calls.{act_clear}
use Rattle.router_rules.specs.Facts.{ResvState, resvs_of}
use Rattle.router_rules.specs.Inputs.{Clear}
use Rattle.router_rules.specs.Rule.{facts_after, sent_after}
use Rattle.router_state.specs.State.{AreNamed, IsSaid, IsSettled, State, facts_at, facts_of}
use Rattle.router_state.proofs.Counted.{counted_settled}
use Rattle.router_aging.specs.Clearing.{cleared}
use Rattle.router_aging.proofs.Clearing.{clear_is_settled}

-- ---- the first row of a table
module _ {K X : Type 0} (o : Keys K) (m : Table o X) where
  pub first_there : (k : K) → Some k ≡ option_map (λ (e : K × X). e.0) (slice_get m.rows 0) → (v : X) × (get m k ≡ Some v)
  first_there k h = by m.rows refl h
    where
      by : (es : List (K × X)) → m.rows ≡ es → Some k ≡ option_map (λ (e : K × X). e.0) (slice_get es 0) → (v : X) × (get m k ≡ Some v)
      by [] is h = let z : ◌≡◌ {A = Option K} (Some k) None = h in absurd (cc)
      by (e ∷ es) is h =
          let same : k ≡ e.0 = same_Some k e.0 h in
          (e.1, ap (find o.cmp k) is ∙ ap (λ z. cond (eq_by_cmp o.cmp z e.0) (Some e.1) (find o.cmp z es)) same ∙ ap (λ b. cond b (Some e.1) (find o.cmp e.0 es)) (tied_self o e.0))

  pub none_there : None ≡ option_map (λ (e : K × X). e.0) (slice_get m.rows 0) → (k : K) → get m k ≡ None
  none_there h k = by m.rows refl h
    where
      by : (es : List (K × X)) → m.rows ≡ es → None ≡ option_map (λ (e : K × X). e.0) (slice_get es 0) → get m k ≡ None
      by [] is h = ap (find o.cmp k) is
      by (e ∷ es) is h = let z : ◌≡◌ {A = Option K} None (Some e.0) = h in absurd (cc)

  pub still_none : (k q : K) → get m q ≡ None → get (without m k) q ≡ None
  still_none k q h = get-without o m k q ∙ ap (λ w. cond (not (eq_by_cmp o.cmp k q)) w None) h ∙ by (not (eq_by_cmp o.cmp k q))
    where
      by : (b : Bool) → ◌≡◌ {A = Option X} (cond b None None) None
      by true = refl
      by false = refl

-- ---- one interface after another
abbrev pub IsEmptyBelow : ℕ → Entries → Type 0
IsEmptyBelow n es = (i : ℕ) (k : EntryKey) → nat_lt i n ≡ true → get es (i, k) ≡ None

pub none_below : (es : Entries) → IsEmptyBelow 0 es
none_below es i k h = let z : nat_lt i 0 ≡ false = below i in absurd (no (sym h ∙ z))
  where
    below : (i : ℕ) → nat_lt i 0 ≡ false
    below i = grind (arith, nat_tests)

    no : true ≡ false → ⊥
    no e = cc

pub one_below : (n : ℕ) (old new : Entries) → IsEmptyBelow n old → ((k : EntryKey) → get new (n, k) ≡ None) → ((i : ℕ) (k : EntryKey) → get old (i, k) ≡ None → get new (i, k) ≡ None)
    → IsEmptyBelow (n + 1) new
one_below n old new done here less i k h = either (i == n) (λ t. subst (λ j. get new (j, k) ≡ None) (sym (eqb-true i n t)) (here k)) (λ f. less i k (done i k (step f ∙ h)))
  where
    step : (i == n) ≡ false → nat_lt i n ≡ nat_lt i (n + 1)
    step f = grind (arith, nat_tests)

pub all_empty : (n : ℕ) (b : Bookings) → IsWithin b → length b.ifaces ≤ n → IsEmptyBelow n b.entries → (i : ℕ) (k : EntryKey) → get b.entries (i, k) ≡ None
all_empty n b within few done i k = by (get b.entries (i, k)) refl
  where
    by : (w : Option TokenBucket) → get b.entries (i, k) ≡ w → get b.entries (i, k) ≡ None
    by None e = e
    by (Some f) e = let lt : i < length b.ifaces = within.placed i k f e in done i k (lt-ltb i n (omega (arith, lt, few)))

-- ---- a node that is cleared
module _ (n : State) where
  named : (c : ℕ) → AreNamed (facts_of c (cleared n))
  named c st k r h = absurd (no st h)
    where
      no : (st : StyleKind) → get (resvs_of st (facts_of c (cleared n))) k ≡ Some r → ⊥
      no Wild e = let z : ◌≡◌ {A = Option ResvState} None (Some r) = e in cc
      no Fixed e = let z : ◌≡◌ {A = Option ResvState} None (Some r) = e in cc
      no Shared e = let z : ◌≡◌ {A = Option ResvState} None (Some r) = e in cc

  pub clear_settled : IsSettled (cleared n)
  clear_settled = record { counted = counted_settled n.place (cleared n) (λ c. facts_of c n) (λ c. act_clear (facts_of c n)) (λ c. clear_is_settled n c); named = named }

  pub clear_said : IsSaid empty (cleared n)
  clear_said = record {
    at = λ c l. sym (nowhere n.place (facts_of c (cleared n)) l refl);
    some = λ l t e. let z : ◌≡◌ {A = Option PartTable} None (Some t) = e in absurd (cc);
  }

  pub clear_facts : (c : ℕ) → facts_at c (cleared n) ≡ facts_after n.place n.place c Clear (facts_at c n)
  unfolding facts_at facts_after
  clear_facts c = clear_is_settled n c

  pub clear_silent : (c : ℕ) → sent_after n.place n.place c Clear (facts_at c n) ≡ []
  unfolding sent_after
  clear_silent c = refl

  pub clear_booked : (c i : ℕ) (k : EntryKey) → ◌≡◌ {A = Option TokenBucket} None (option_map (λ (part : Part). part.flow) (get (book (facts_of c (cleared n)) i) k))
  clear_booked c i k = refl
