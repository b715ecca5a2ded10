-- Names of a set kept by a test, one at a time.
use Rattle.std.proofs.Common.{◌≡◌, ◌<◌, ◌≤◌, ◌+◌, ℕ, Bool, true, false, cond, not, ◌||◌, ◌&&◌, List, [], ◌∷◌, length, take, get_or, refl, sym, ap, subst, ◌∙◌}
use Rattle.std.specs.Cmp.{both_ways}
use Rattle.std.specs.List.{list_any}
use Rattle.std.specs.Ordering.{eq_by_cmp}
use Rattle.std.proofs.lemmas.List.{take_all, take_more}
use Rattle.std.proofs.lemmas.List.Folds.{list_any-append}
use Rattle.rsvp_base.specs.Orders.{Names, senders}
use Rattle.rsvp_base.specs.Table.{has, keys, kept, without}
use Rattle.rsvp_base.specs.declared.session.Sender.{Sender}
use Rattle.rsvp_base.proofs.Fronts.{to_keys}
use Rattle.rsvp_base.proofs.Members.{in_any, any_in}
use Rattle.rsvp_base.proofs.SetLaws.{has-kept, same_set, and_both, and_made}
use Rattle.rsvp_base.proofs.Tables.{either, tied_same, tied_self}

module _ (test : Sender → Bool) where
  abbrev is_lost : Sender → Sender → Bool
  is_lost q x = eq_by_cmp senders.cmp x q && not (test x)

  abbrev pub AreKept : Names → Names → List Sender → Type 0
  AreKept from left xs = (q : Sender) → has left q ≡ (has from q && not (list_any (is_lost q) xs))

  stays : (a b e : Bool) → (a && not b) ≡ (a && not (b || ((e && false) || false)))
  stays true true e = refl
  stays true false true = refl
  stays true false false = refl
  stays false b e = refl

  goes : (a b e : Bool) → ((a && not b) && not e) ≡ (a && not (b || ((e && true) || false)))
  goes true true e = refl
  goes true false true = refl
  goes true false false = refl
  goes false b e = refl

  pub one_kept : (from left : Names) (xs : List Sender) (i : ℕ) (d : Sender) → i < length xs → AreKept from left (take i xs)
      → AreKept from (cond (test (get_or xs i d)) left (without left (get_or xs i d))) (take (i + 1) xs)
  one_kept from left xs i d lt h q =
      by (test x) refl ∙ ap (λ b. has from q && not b) (sym (ap (list_any (is_lost q)) (take_more xs i d lt) ∙ list_any-append (is_lost q) (take i xs) (x ∷ [])))
    where
      x : Sender
      x = get_or xs i d

      by : (b : Bool) → test x ≡ b → has (cond (test x) left (without left x)) q ≡ (has from q && not (list_any (is_lost q) (take i xs) || (is_lost q x || false)))
      by true is =
          ap (λ b. has (cond b left (without left x)) q) is ∙ h q ∙ stays (has from q) (list_any (is_lost q) (take i xs)) (eq_by_cmp senders.cmp x q)
          ∙ ap (λ b. has from q && not (list_any (is_lost q) (take i xs) || ((eq_by_cmp senders.cmp x q && not b) || false))) (sym is)
      by false is =
          ap (λ b. has (cond b left (without left x)) q) is ∙ has-kept senders (λ z. not (eq_by_cmp senders.cmp x z)) left q ∙ ap (λ b. b && not (eq_by_cmp senders.cmp x q)) (h q)
          ∙ goes (has from q) (list_any (is_lost q) (take i xs)) (eq_by_cmp senders.cmp x q)
          ∙ ap (λ b. has from q && not (list_any (is_lost q) (take i xs) || ((eq_by_cmp senders.cmp x q && not b) || false))) (sym is)

  twice : (b : Bool) → not (not b) ≡ b
  twice true = refl
  twice false = refl

  lost : (from : Names) (q : Sender) → has from q ≡ true → list_any (is_lost q) (keys from) ≡ not (test q)
  lost from q h =
      both_ways _ _
      (λ e.
      let x = in_any (is_lost q) (keys from) e in
      let two = and_both (eq_by_cmp senders.cmp x.0 q) (not (test x.0)) x.2 in
      ap (λ z. not (test z)) (sym (tied_same senders x.0 q two.0)) ∙ two.1)
      (λ e. any_in (is_lost q) q (keys from) (to_keys senders from q h) (and_made _ _ (tied_self senders q) e))

  all_kept : (from left : Names) → AreKept from left (keys from) → left ≡ kept test from
  all_kept from left h =
      same_set senders left (kept test from) (λ q.
      h q ∙ either (has from q)
      (λ there. ap (λ b. has from q && not b) (lost from q there) ∙ ap (λ b. has from q && b) (twice (test q)))
      (λ none. ap (λ b. b && not (list_any (is_lost q) (keys from))) none ∙ sym (ap (λ b. b && test q) none))
      ∙ sym (has-kept senders test from q))

  pub kept_end : (from left : Names) (i : ℕ) (xs : List Sender) → length xs ≤ i → xs ≡ keys from → AreKept from left (take i xs) → left ≡ kept test from
  kept_end from left i xs far is h = all_kept from left (subst (λ zs. AreKept from left zs) (take_all i xs far ∙ is) h)
