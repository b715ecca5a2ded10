-- What a walk along a session's reservations finds, one at a time.
use Rattle.std.proofs.Common.{◌≡◌, ◌≤◌, ◌<◌, ◌+◌, ℕ, zero, suc, Bool, true, false, cond, ◌||◌, List, [], ◌∷◌, drop, map as each, Option, Some, None, refl, sym, ap, ◌∙◌, arith}
use Rattle.std.specs.Prelude.{nat_eq, nat_le, nat_lt, length, slice_get}
use Rattle.std.specs.List.{list_any}
use Rattle.std.specs.Ordering.{eq_by_cmp}
use Rattle.std.proofs.lemmas.Bool.Decides.{nat_tests}
use Rattle.rsvp_base.specs.Orders.{Names, sessions, units}
use Rattle.rsvp_base.specs.Rows.{AreRows}
use Rattle.rsvp_base.specs.Sets.{set_of, union}
use Rattle.rsvp_base.specs.Table.{size, passes}
use Rattle.rsvp_base.specs.Under.{sorted_under}
use Rattle.rsvp_base.specs.declared.session.Session.{Session}
use Rattle.rsvp_base.proofs.Counts.{has-set_of}
use Rattle.rsvp_base.proofs.SetLaws.{size-with_key, size-with_rows}
use Rattle.rsvp_base.proofs.Tables.{either}
use Rattle.std.specs.FinMap.Entries.{where_key}
use Rattle.style_rules.specs.Lines.{LineKey, NextHop, line_keys, next_hops}
use Rattle.soft_table.specs.Facts.{facts_by}
use Rattle.soft_table.specs.Walks.{is_last, changes}
use Rattle.soft_table.proofs.Walks.{all_changes}
use Rattle.soft_table.proofs.Steps.{Step}
use Rattle.resv_state.specs.declared.fact.Held.{Held}
use Rattle.resv_state.specs.Resvs.{held_key, held_row}
use Rattle.resv_state.specs.Walks.{Rest, rests, held_under, hops_in, with_names, with_hop}

one_more : (n : ℕ) → suc n ≡ n + 1
one_more n = omega arith

pub within : {A : Type 0} (es : List A) (k : ℕ) (x : A) → slice_get es k ≡ Some x → k < length es
within [] k x at = cc
within (e ∷ es) zero x at = omega arith
within (e ∷ es) (suc k) x at = let lt = within es k x at in omega (arith, lt)

-- what stands from a place on, at a reservation that was found
pub from_here : (s : Session) (fs : List (Held × ℕ)) (k : ℕ) (f : Held) (st : Step rests held_key s fs k f) → drop k (held_under s fs) ≡ st.row ∷ drop (k + 1) (held_under s fs)
from_here s fs k f st = st.here ∙ ap (λ n. st.row ∷ drop n (held_under s fs)) (one_more k)

-- ---- next hops
pub counted : (s : Session) (fs : List (Held × ℕ)) → AreRows line_keys held_row fs → changes next_hops None (hops_in (held_under s fs)) ≡ size (set_of {o = next_hops} (hops_in (held_under s fs)))
counted s fs up = all_changes next_hops units (held_under s fs) (sorted_under sessions rests s (facts_by held_key fs) (passes _ up))

pub hop_here : (last : Option NextHop) (s : Session) (fs : List (Held × ℕ)) (k : ℕ) (f : Held) (st : Step rests held_key s fs k f)
    → changes next_hops last (hops_in (drop k (held_under s fs))) ≡ cond (is_last next_hops last (held_key f).1.0) (changes next_hops last (hops_in (drop (k + 1) (held_under s fs))))
    (1 + changes next_hops (Some (held_key f).1.0) (hops_in (drop (k + 1) (held_under s fs))))
hop_here last s fs k f st =
    ap (λ es. changes next_hops last (hops_in es)) (from_here s fs k f st)
    ∙ ap (λ (r : Rest). cond (is_last next_hops last r.0) (changes next_hops last (hops_in (drop (k + 1) (held_under s fs))))
    (1 + changes next_hops (Some r.0) (hops_in (drop (k + 1) (held_under s fs))))) st.rest

abbrev of_session : Session → List (Held × ℕ) → List (LineKey × (Held × ℕ))
of_session s fs = where_key line_keys.cmp (λ k. eq_by_cmp sessions.cmp s k.0) (facts_by held_key fs)

abbrev cut : List (LineKey × (Held × ℕ)) → List (Rest × (Held × ℕ))
cut es = each (λ e. (e.0.1, e.1)) es

pub among : (hop : NextHop) (s : Session) (fs : List (Held × ℕ)) → list_any (λ h. eq_by_cmp next_hops.cmp hop (held_key h).1.0) (each (λ e. e.1.0) (held_under s fs))
    ≡ list_any (eq_by_cmp next_hops.cmp hop) (hops_in (held_under s fs))
among hop s [] = refl
among hop s (f ∷ fs) = by (eq_by_cmp sessions.cmp s (held_key f.0).0) (among hop s fs)
  where
    by : (b : Bool) → list_any (λ h. eq_by_cmp next_hops.cmp hop (held_key h).1.0) (each (λ e. e.1.0) (cut (of_session s fs)))
        ≡ list_any (eq_by_cmp next_hops.cmp hop) (hops_in (cut (of_session s fs)))
        → list_any (λ h. eq_by_cmp next_hops.cmp hop (held_key h).1.0) (each (λ e. e.1.0) (cut (cond b ((held_key f.0, f) ∷ of_session s fs) (of_session s fs))))
        ≡ list_any (eq_by_cmp next_hops.cmp hop) (hops_in (cut (cond b ((held_key f.0, f) ∷ of_session s fs) (of_session s fs))))
    by true ih = ap (λ b. eq_by_cmp next_hops.cmp hop (held_key f.0).1.0 || b) ih
    by false ih = ih

hops_with : (hop : NextHop) (s : Session) (fs : List (Held × ℕ)) (b : Bool) → list_any (eq_by_cmp next_hops.cmp hop) (hops_in (held_under s fs)) ≡ b
    → size (with_hop hop (held_under s fs)) ≡ cond b (size (set_of {o = next_hops} (hops_in (held_under s fs)))) (size (set_of {o = next_hops} (hops_in (held_under s fs))) + 1)
hops_with hop s fs b is =
    let all = set_of {o = next_hops} (hops_in (held_under s fs)) in
    size-with_key next_hops all hop ∙ ap (λ w. cond w (size all) (size all + 1)) (has-set_of next_hops (hops_in (held_under s fs)) hop ∙ is)

below : (n : ℕ) → nat_lt n 64 ≡ nat_le (n + 1) 64
below n = grind (arith, nat_tests)

hop_there : (hop : NextHop) (s : Session) (fs : List (Held × ℕ)) (n : ℕ) → AreRows line_keys held_row fs → n ≡ changes next_hops None (hops_in (held_under s fs))
    → list_any (eq_by_cmp next_hops.cmp hop) (hops_in (held_under s fs)) ≡ true
    → nat_le n 64 ≡ nat_le (size (with_hop hop (held_under s fs))) 64
hop_there hop s fs n up is there = ap (λ m. nat_le m 64) (is ∙ counted s fs up ∙ sym (hops_with hop s fs true there))

hop_new : (hop : NextHop) (s : Session) (fs : List (Held × ℕ)) (n : ℕ) → AreRows line_keys held_row fs → n ≡ changes next_hops None (hops_in (held_under s fs))
    → list_any (eq_by_cmp next_hops.cmp hop) (hops_in (held_under s fs)) ≡ false
    → nat_lt n 64 ≡ nat_le (size (with_hop hop (held_under s fs))) 64
hop_new hop s fs n up is new = below n ∙ ap (λ m. nat_le m 64) (ap (λ m. m + 1) (is ∙ counted s fs up) ∙ sym (hops_with hop s fs false new))

-- with fewer than 64 there is room for any
pub hop_near : (hop : NextHop) (s : Session) (fs : List (Held × ℕ)) (n : ℕ) → AreRows line_keys held_row fs → n ≡ changes next_hops None (hops_in (held_under s fs)) → n < 64
    → true ≡ nat_le (size (with_hop hop (held_under s fs))) 64
hop_near hop s fs n up is few =
    either (list_any (eq_by_cmp next_hops.cmp hop) (hops_in (held_under s fs))) (λ t. le_test n few ∙ hop_there hop s fs n up is t) (λ t. lt_test n few ∙ hop_new hop s fs n up is t)
  where
    le_test : (n : ℕ) → n < 64 → true ≡ nat_le n 64
    le_test n lt = grind (arith, nat_tests)

    lt_test : (n : ℕ) → n < 64 → true ≡ nat_lt n 64
    lt_test n lt = grind (arith, nat_tests)

-- with 64 there is room for one of them alone
pub hop_full : (hop : NextHop) (s : Session) (fs : List (Held × ℕ)) (n : ℕ) → AreRows line_keys held_row fs → n ≡ changes next_hops None (hops_in (held_under s fs)) → n ≡ 64
    → list_any (eq_by_cmp next_hops.cmp hop) (hops_in (held_under s fs)) ≡ nat_le (size (with_hop hop (held_under s fs))) 64
hop_full hop s fs n up is full =
    either (list_any (eq_by_cmp next_hops.cmp hop) (hops_in (held_under s fs)))
    (λ t. t ∙ ap (λ m. nat_le m 64) (sym full) ∙ hop_there hop s fs n up is t)
    (λ t. t ∙ ap (λ m. nat_lt m 64) (sym full) ∙ hop_new hop s fs n up is t)

-- and with more for none
pub hop_over : (hop : NextHop) (s : Session) (fs : List (Held × ℕ)) (n : ℕ) → AreRows line_keys held_row fs → n ≡ changes next_hops None (hops_in (held_under s fs)) → 64 ≤ n → (n ≡ 64 → ⊥)
    → nat_eq n 64 ≡ nat_le (size (with_hop hop (held_under s fs))) 64
hop_over hop s fs n up is many more =
    either (list_any (eq_by_cmp next_hops.cmp hop) (hops_in (held_under s fs))) (λ t. le_test n many more ∙ hop_there hop s fs n up is t) (λ t. lt_test n many more ∙ hop_new hop s fs n up is t)
  where
    le_test : (n : ℕ) → 64 ≤ n → (n ≡ 64 → ⊥) → nat_eq n 64 ≡ nat_le n 64
    le_test n many more = grind (arith, nat_tests)

    lt_test : (n : ℕ) → 64 ≤ n → (n ≡ 64 → ⊥) → nat_eq n 64 ≡ nat_lt n 64
    lt_test n many more = grind (arith, nat_tests)

-- ---- names
pub names_here : (r : Rest) (names : Names) (s : Session) (fs : List (Held × ℕ)) (k : ℕ) (f : Held) (st : Step rests held_key s fs k f)
    → with_names r names (drop k (held_under s fs)) ≡ with_names r (cond (eq_by_cmp rests.cmp r (held_key f).1) names (union names f.fact.part.senders)) (drop (k + 1) (held_under s fs))
names_here r names s fs k f st =
    ap (with_names r names) (from_here s fs k f st)
    ∙ ap (λ (q : Rest). with_names r (cond (eq_by_cmp rests.cmp r q) names (union names st.row.1.0.fact.part.senders)) (drop (k + 1) (held_under s fs))) st.rest
    ∙ ap (λ (h : Held). with_names r (cond (eq_by_cmp rests.cmp r (held_key f).1) names (union names h.fact.part.senders)) (drop (k + 1) (held_under s fs))) st.fact

more : (r : Rest) (names : Names) (es : List (Rest × (Held × ℕ))) → size names ≤ size (with_names r names es)
more r names [] = omega arith
more r names (e ∷ es) = by (eq_by_cmp rests.cmp r e.0) (λ n. more r n es)
  where
    by : (b : Bool) → ((n : Names) → size n ≤ size (with_names r n es)) → size names ≤ size (with_names r (cond b names (union names e.1.0.fact.part.senders)) es)
    by true ih = ih names
    by false ih = let a = size-with_rows _ e.1.0.fact.part.senders.rows names in let b = ih (union names e.1.0.fact.part.senders) in omega arith

too_many : (n : ℕ) → 16 < n → false ≡ nat_le n 16
too_many n lt = grind (arith, nat_tests)

-- 17 names so far are too many
pub no_room : (r : Rest) (names : Names) (s : Session) (fs : List (Held × ℕ)) (k : ℕ) (f : Held) (st : Step rests held_key s fs k f) → eq_by_cmp rests.cmp r (held_key f).1 ≡ false
    → 16 < size (union names f.fact.part.senders)
    → (all : Names) → with_names r names (drop k (held_under s fs)) ≡ all → false ≡ nat_le (size all) 16
no_room r names s fs k f st apart over all is =
    let here = names_here r names s fs k f st ∙ ap (λ b. with_names r (cond b names (union names f.fact.part.senders)) (drop (k + 1) (held_under s fs))) apart in
    let grown = more r (union names f.fact.part.senders) (drop (k + 1) (held_under s fs)) in
    too_many (size all) (omega (arith, over, grown, ap size (sym here ∙ is)))
