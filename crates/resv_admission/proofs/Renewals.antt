-- Entries that are worked out anew.
use Rattle.std.specs.Prelude.{◌≡◌, ℕ, ◌+◌, ◌-◌, ◌≤◌, ◌<◌, ◌==◌, nat_lt, Bool, true, false, cond, not, ◌&&◌, ◌||◌, List, [], ◌∷◌, ◌++◌, length, slice_get, Option, Some, None, refl}
use Rattle.std.specs.List.{list_any}
use Rattle.std.specs.Ordering.{eq_by_cmp}
use Rattle.std.proofs.Common.{sym, ap, subst, ◌∙◌, arith, ⊎_elim}
use Rattle.std.proofs.lemmas.Bool.{eqb-true}
use Rattle.std.proofs.lemmas.Bool.Decides.{nat_tests}
use Rattle.std.proofs.lemmas.List.Folds.{list_any-append}
use Rattle.std.proofs.lemmas.Option.{slice_get_cases}
use Rattle.admission_book.specs.Book.{Bookings, Entries, changed_at}
use Rattle.admission_book.specs.Charges.{charge, charges, refusal, refusal_beside}
use Rattle.admission_book.specs.EntryKeys.{places}
use Rattle.admission_book.specs.Within.{IsWithin}
use Rattle.admission_book.proofs.ChargeLaws.{charges_at}
use Rattle.admission_book.proofs.WithinLaws.{never_refused, refusal_on}
use Rattle.rsvp_base.specs.Orders.{entry_keys}
use Rattle.rsvp_base.specs.Table.{get, without}
use Rattle.rsvp_base.specs.TokenBucket.{TokenBucket}
use Rattle.rsvp_base.specs.declared.entry_key.EntryKey.{EntryKey}
use Rattle.rsvp_base.specs.declared.iface.Iface.{Iface}
use Rattle.rsvp_base.specs.declared.session.Sender.{Sender}
use Rattle.rsvp_base.specs.declared.session.Session.{Session}
use Rattle.rsvp_base.specs.declared.style.StyleKind.{StyleKind}
use Rattle.rsvp_base.specs.Members.{In}
use Rattle.rsvp_base.proofs.Members.{any_in, in_any}
use Rattle.rsvp_base.proofs.SetLaws.{and_both, and_made}
use Rattle.rsvp_base.proofs.Tables.{either, get-put_in_other, get-put_in_same, get-without, tied_same, tied_self}
use Rattle.resv_admission.specs.Renewed.{AreRenewed, IsNoMore, is_key, is_named, is_place, name_key}

-- ---- a flow that is no more than what was there is never refused
fits_in : (on : Iface) (others all : ℕ) (f g : TokenBucket) → all ≡ others + g.r → all ≤ on.capacity → g.most ≤ on.mtu → f.r ≤ g.r → f.most ≤ g.most → refusal_beside on others (Some f) ≡ None
fits_in on others all f g sum within sized rate size = grind (arith, nat_tests)

there_is : {A : Type 0} (xs : List A) (i : ℕ) → i < length xs → (x : A) × (slice_get xs i ≡ Some x)
there_is xs i lt = ⊎_elim (λ (s : (x : _) × (i < length xs) × (slice_get xs i ≡ Some x) × _). (s.0, s.2)) (λ (past : (length xs ≤ i) × _). absurd (omega (arith, lt, past.0))) (slice_get_cases xs i).1

pub never_over : (b : Bookings) (i : ℕ) (k : EntryKey) (now : Option TokenBucket) → IsWithin b → IsNoMore now (get b.entries (i, k)) → refusal b i k now ≡ None
never_over b i k None within less = never_refused b i k
never_over b i k (Some f) within less =
    let g = less f refl in
    let on = there_is b.ifaces i (within.placed i k g.0 g.1) in
    let all : charges b.entries i ≡ charges (without b.entries (i, k)) i + g.0.r = charges_at b.entries i k ∙ ap (λ (w : Option TokenBucket). charges (without b.entries (i, k)) i + charge w) g.1 in
    refusal_on b i k (Some f) on.0 on.1 ∙ fits_in on.0 (charges (without b.entries (i, k)) i) (charges b.entries i) f g.0 all (within.charged i on.0 on.1) (within.sized i k g.0 on.0 g.1 on.1) g.2 g.3

-- ---- one entry
pub place_is : (at : ℕ) (key : EntryKey) (i : ℕ) (k : EntryKey) → is_place at key i k ≡ true → ◌≡◌ {A = ℕ × EntryKey} (at, key) (i, k)
place_is at key i k h =
    let two = and_both (at == i) (eq_by_cmp entry_keys.cmp key k) h in
    let same : at ≡ i = eqb-true at i two.0 in
    let keys = tied_same entry_keys key k two.1 in
    λ j. (same j, keys j)

pub is_its_place : (at : ℕ) (key : EntryKey) → is_place at key at key ≡ true
is_its_place at key = and_made (at == at) (eq_by_cmp entry_keys.cmp key key) (itself at) (tied_self entry_keys key)
  where
    itself : (a : ℕ) → (a == a) ≡ true
    itself a = grind arith

apart : (at : ℕ) (key : EntryKey) (i : ℕ) (k : EntryKey) → is_place at key i k ≡ false → (◌≡◌ {A = ℕ × EntryKey} (at, key) (i, k)) → ⊥
apart at key i k off e = let z : true ≡ false = sym (ap (λ (p : ℕ × EntryKey). is_place at key p.0 p.1) (sym e) ∙ is_its_place at key) ∙ off in cc

untied : (p q : ℕ × EntryKey) → (p ≡ q → ⊥) → eq_by_cmp places.cmp p q ≡ false
untied p q other = either (eq_by_cmp places.cmp p q) (λ t. absurd (other (tied_same places p q t))) (λ f. f)

pub one_renewed : (es : Entries) (at : ℕ) (key : EntryKey) (now : Option TokenBucket) → AreRenewed (is_place at key) (λ i k. now) es (changed_at es at key now)
one_renewed es at key now = record {
  at = λ i k. either (is_place at key i k) (λ t. ap (get (changed_at es at key now)) (sym (place_is at key i k t)) ∙ here now
      ∙ sym (ap (λ b. cond b now (get es (i, k))) t)) (λ f. there now i k f ∙ sym (ap (λ b. cond b now (get es (i, k))) f));
}
  where
    here : (now : Option TokenBucket) → get (changed_at es at key now) (at, key) ≡ now
    here None = get-without places es (at, key) (at, key) ∙ ap (λ b. cond (not b) (get es (at, key)) None) (tied_self places (at, key))
    here (Some f) = get-put_in_same places es (at, key) f

    there : (now : Option TokenBucket) (i : ℕ) (k : EntryKey) → is_place at key i k ≡ false → get (changed_at es at key now) (i, k) ≡ get es (i, k)
    there None i k f = get-without places es (at, key) (i, k) ∙ ap (λ b. cond (not b) (get es (i, k)) None) (untied (at, key) (i, k) (apart at key i k f))
    there (Some g) i k f = get-put_in_other places es (at, key) g (i, k) (untied (i, k) (at, key) (λ e. apart at key i k f (sym e)))

pub none_renewed : (es : Entries) (at : ℕ) (key : EntryKey) (now : Option TokenBucket) → get es (at, key) ≡ None → IsNoMore now (get es (at, key)) → AreRenewed (is_place at key) (λ i k. now) es es
none_renewed es at key now none less = record {
  at = λ i k. either (is_place at key i k) (λ t. ap (get es) (sym (place_is at key i k t)) ∙ none ∙ sym (gone now refl)
      ∙ sym (ap (λ b. cond b now (get es (i, k))) t)) (λ f. sym (ap (λ b. cond b now (get es (i, k))) f));
}
  where
    gone : (w : Option TokenBucket) → now ≡ w → now ≡ None
    gone None e = e
    gone (Some f) e = let g = less f e in let z : None ≡ Some g.0 = sym none ∙ g.1 in absurd (cc)

-- ---- one interface after another
pub to_start : (key : EntryKey) (now : ℕ → EntryKey → Option TokenBucket) (es : Entries) → AreRenewed (λ i k. nat_lt i 0 && is_key key i k) now es es
to_start key now es = record { at = λ i k. sym (ap (λ b. cond (b && is_key key i k) (now i k) (get es (i, k))) (below i)) }
  where
    below : (i : ℕ) → nat_lt i 0 ≡ false
    below i = grind (arith, nat_tests)

pub not_yet : (key : EntryKey) (now : ℕ → EntryKey → Option TokenBucket) (n : ℕ) (old new : Entries) → AreRenewed (λ i k. nat_lt i n && is_key key i k) now old new
    → get new (n, key) ≡ get old (n, key)
not_yet key now n old new h = h.at n key ∙ ap (λ b. cond (b && is_key key n key) (now n key) (get old (n, key))) (itself n)
  where
    itself : (n : ℕ) → nat_lt n n ≡ false
    itself n = grind (arith, nat_tests)

pub one_more : (key : EntryKey) (now : ℕ → EntryKey → Option TokenBucket) (n : ℕ) (old mid new : Entries) (v : Option TokenBucket) → v ≡ now n key
    → AreRenewed (λ i k. nat_lt i n && is_key key i k) now old mid → AreRenewed (is_place n key) (λ i k. v) mid new
    → AreRenewed (λ i k. nat_lt i (n + 1) && is_key key i k) now old new
one_more key now n old mid new v is done more = record {
  at = λ i k. more.at i k ∙ either (is_place n key i k) (λ t. here i k t)
      (λ f. ap (λ b. cond b v (get mid (i, k))) f ∙ done.at i k ∙ ap (λ b. cond b (now i k) (get old (i, k))) (there i k f));
}
  where
    less : (n : ℕ) → nat_lt n (n + 1) ≡ true
    less n = grind (arith, nat_tests)

    here : (i : ℕ) (k : EntryKey) → is_place n key i k ≡ true → cond (is_place n key i k) v (get mid (i, k)) ≡ cond (nat_lt i (n + 1) && is_key key i k) (now i k) (get old (i, k))
    here i k t =
        let e = place_is n key i k t in
        let itself : (nat_lt i (n + 1) && is_key key i k) ≡ true = ap (λ (p : ℕ × EntryKey). nat_lt p.0 (n + 1) && is_key key p.0 p.1) (sym e) ∙ and_made _ _ (less n) (tied_self entry_keys key) in
        ap (λ b. cond b v (get mid (i, k))) t ∙ is ∙ ap (λ (p : ℕ × EntryKey). now p.0 p.1) e ∙ sym (ap (λ b. cond b (now i k) (get old (i, k))) itself)

    there : (i : ℕ) (k : EntryKey) → is_place n key i k ≡ false → (nat_lt i n && is_key key i k) ≡ (nat_lt i (n + 1) && is_key key i k)
    there i k f =
        either (is_key key i k)
        (λ t. ap (λ b. nat_lt i n && b) t ∙ ap (λ b. b && true) (step i (λ e. apart n key i k f (λ j. (sym e j, tied_same entry_keys key k t j)))) ∙ sym (ap (λ b. nat_lt i (n + 1) && b) t))
        (λ g. ap (λ b. nat_lt i n && b) g ∙ and_false (nat_lt i n) ∙ sym (ap (λ b. nat_lt i (n + 1) && b) g ∙ and_false (nat_lt i (n + 1))))
      where
        step : (i : ℕ) → (i ≡ n → ⊥) → nat_lt i n ≡ nat_lt i (n + 1)
        step i ne = grind (arith, nat_tests)

        and_false : (b : Bool) → (b && false) ≡ false
        and_false true = refl
        and_false false = refl

-- an entry that there is not has nothing that is no more
nothing : (now old : Option TokenBucket) → IsNoMore now old → old ≡ None → now ≡ None
nothing None old less none = refl
nothing (Some f) old less none = let g = less f refl in let z : None ≡ Some g.0 = sym none ∙ g.1 in absurd (cc)

unplaced : (b : Bookings) (i : ℕ) (k : EntryKey) → IsWithin b → length b.ifaces ≤ i → get b.entries (i, k) ≡ None
unplaced b i k within far = by (get b.entries (i, k)) refl
  where
    by : (w : Option TokenBucket) → get b.entries (i, k) ≡ w → w ≡ None
    by None e = refl
    by (Some f) e = absurd (omega (arith, far, within.placed i k f e))

pub everywhere : (key : EntryKey) (now : ℕ → EntryKey → Option TokenBucket) (b : Bookings) (new : Entries) (n : ℕ) → IsWithin b → length b.ifaces ≤ n
    → ((i : ℕ) → IsNoMore (now i key) (get b.entries (i, key)))
    → AreRenewed (λ i k. nat_lt i n && is_key key i k) now b.entries new → AreRenewed (is_key key) now b.entries new
everywhere key now b new n within few less done = record { at = λ i k. done.at i k ∙ by i k }
  where
    far : (i : ℕ) → nat_lt i n ≡ false → length b.ifaces ≤ i
    far i h = grind (arith, nat_tests)

    by : (i : ℕ) (k : EntryKey) → cond (nat_lt i n && is_key key i k) (now i k) (get b.entries (i, k)) ≡ cond (is_key key i k) (now i k) (get b.entries (i, k))
    by i k =
        either (nat_lt i n)
        (λ t. ap (λ c. cond (c && is_key key i k) (now i k) (get b.entries (i, k))) t)
        (λ f.
        ap (λ c. cond (c && is_key key i k) (now i k) (get b.entries (i, k))) f
        ∙ either (is_key key i k)
        (λ t.
        let same = tied_same entry_keys key k t in
        let none = unplaced b i k within (far i f) in
        none ∙ sym (nothing (now i k) (get b.entries (i, k)) (subst (λ z. IsNoMore (now i z) (get b.entries (i, z))) same (less i)) none) ∙ sym (ap (λ c. cond c (now i k) (get b.entries (i, k))) t))
        (λ g. sym (ap (λ c. cond c (now i k) (get b.entries (i, k))) g)))

-- ---- one name after another, on an interface
itself : (a : ℕ) → (a == a) ≡ true
itself a = grind arith

pub no_names : (st : StyleKind) (s : Session) (at : ℕ) (now : ℕ → EntryKey → Option TokenBucket) (es : Entries) → AreRenewed (is_named st s at []) now es es
no_names st s at now es = record { at = λ i k. sym (ap (λ b. cond b (now i k) (get es (i, k))) (and_false (at == i))) }
  where
    and_false : (b : Bool) → (b && false) ≡ false
    and_false true = refl
    and_false false = refl

-- an entry on the way is new, or as it was
pub on_the_way : (st : StyleKind) (s : Session) (at : ℕ) (now : ℕ → EntryKey → Option TokenBucket) (xs : List Sender) (old mid : Entries) (k : EntryKey) → AreRenewed (is_named st s at xs) now old mid
    → IsNoMore (now at k) (get old (at, k)) → IsNoMore (now at k) (get mid (at, k))
on_the_way st s at now xs old mid k done less = subst (IsNoMore (now at k)) (sym (done.at at k)) (by (is_named st s at xs at k))
  where
    at_most : (a : ℕ) → a ≤ a
    at_most a = omega arith

    by : (b : Bool) → IsNoMore (now at k) (cond b (now at k) (get old (at, k)))
    by true = λ f e. (f, e, at_most f.r, at_most f.most)
    by false = less

pub name_more : (st : StyleKind) (s : Session) (at : ℕ) (now : ℕ → EntryKey → Option TokenBucket) (xs : List Sender) (x : Sender) (old mid new : Entries) (key : EntryKey) (v : Option TokenBucket)
    → key ≡ name_key st s x → v ≡ now at key
    → AreRenewed (is_named st s at xs) now old mid → AreRenewed (is_place at key) (λ i k. v) mid new → AreRenewed (is_named st s at (xs ++ x ∷ [])) now old new
name_more st s at now xs x old mid new key v own is done more = record { at = λ i k. more.at i k ∙ either (is_place at key i k) (here i k) (there i k) }
  where
    both : (i : ℕ) (k : EntryKey) → is_named st s at (xs ++ x ∷ []) i k ≡ (is_named st s at xs i k || is_place at key i k)
    both i k =
        ap (λ b. at == i && b) (list_any-append (λ y. eq_by_cmp entry_keys.cmp (name_key st s y) k) xs (x ∷ []))
        ∙ spread (at == i) (list_any (λ y. eq_by_cmp entry_keys.cmp (name_key st s y) k) xs) (eq_by_cmp entry_keys.cmp (name_key st s x) k)
        ∙ ap (λ z. is_named st s at xs i k || is_place at z i k) (sym own)
      where
        spread : (a b c : Bool) → (a && (b || (c || false))) ≡ ((a && b) || (a && c))
        spread true true c = refl
        spread true false true = refl
        spread true false false = refl
        spread false b c = refl

    or_true : (b : Bool) → (b || true) ≡ true
    or_true true = refl
    or_true false = refl

    or_false : (b : Bool) → (b || false) ≡ b
    or_false true = refl
    or_false false = refl

    here : (i : ℕ) (k : EntryKey) → is_place at key i k ≡ true → cond (is_place at key i k) v (get mid (i, k)) ≡ cond (is_named st s at (xs ++ x ∷ []) i k) (now i k) (get old (i, k))
    here i k t =
        let e = place_is at key i k t in
        ap (λ b. cond b v (get mid (i, k))) t ∙ is ∙ ap (λ (p : ℕ × EntryKey). now p.0 p.1) e
        ∙ sym (ap (λ b. cond b (now i k) (get old (i, k))) (both i k ∙ ap (λ b. is_named st s at xs i k || b) t ∙ or_true (is_named st s at xs i k)))

    there : (i : ℕ) (k : EntryKey) → is_place at key i k ≡ false → cond (is_place at key i k) v (get mid (i, k)) ≡ cond (is_named st s at (xs ++ x ∷ []) i k) (now i k) (get old (i, k))
    there i k f =
        ap (λ b. cond b v (get mid (i, k))) f ∙ done.at i k
        ∙ sym (ap (λ b. cond b (now i k) (get old (i, k))) (both i k ∙ ap (λ b. is_named st s at xs i k || b) f ∙ or_false (is_named st s at xs i k)))

-- the entry of a name that is reached is one of those
pub name_among : (st : StyleKind) (s : Session) (at : ℕ) (xs : List Sender) (x : Sender) → In x xs → is_named st s at xs at (name_key st s x) ≡ true
name_among st s at xs x i = and_made _ _ (itself at) (any_in (λ y. eq_by_cmp entry_keys.cmp (name_key st s y) (name_key st s x)) x xs i (tied_self entry_keys (name_key st s x)))

pub names_told : (st : StyleKind) (s : Session) (at : ℕ) (xs : List Sender) (i : ℕ) (k : EntryKey) → is_named st s at xs i k ≡ true → (at ≡ i) × ((x : Sender) × In x xs × (name_key st s x ≡ k))
names_told st s at xs i k h =
    let two = and_both (at == i) (list_any (λ y. eq_by_cmp entry_keys.cmp (name_key st s y) k) xs) h in
    let x = in_any (λ y. eq_by_cmp entry_keys.cmp (name_key st s y) k) xs two.1 in
    (eqb-true at i two.0, (x.0, x.1, tied_same entry_keys (name_key st s x.0) k x.2))
