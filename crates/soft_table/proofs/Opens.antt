-- The links at first: no slot is made, and each head leads to itself.
use Rattle.std.proofs.Common.{◌≡◌, ◌≤◌, ◌+◌, ◌++◌, ℕ, List, [], ◌∷◌, ap, ◌∙◌, arith, inl, inr}
use Rattle.std.proofs.lemmas.Bool.{cases_lt}
use Rattle.std.proofs.lemmas.List.{append-nil, length-append, get_or_append_left, get_or_at}
use Rattle.soft_table.specs.Links.{IsLinked, AreLists, AreHeads, at}

-- one more head
pub one_more : (k : ℕ) (xs : List ℕ) → AreHeads k xs → AreHeads (k + 1) (xs ++ k ∷ [])
one_more k xs o = (
  omega (arith, length-append xs (k ∷ []), o.0),
  λ j lt. elim (cases_lt j k) [
    | inl less ↦ get_or_append_left xs (k ∷ []) 0 j (omega (arith, less, o.0)) ∙ o.1 j less
    | inr past ↦ let e : k ≡ j = omega (arith, lt, past) in get_or_at xs k [] 0 j (o.0 ∙ e) ∙ e
  ],
)

-- heads alone: each is its own list
linked_first : (next prev : List ℕ) → AreHeads 259 next → AreHeads 259 prev → IsLinked 259 next prev next (λ _. 0)
linked_first next prev n p =
    record {
      nexts = n.0;
      prevs = p.0;
      homes = n.0;
      all = omega arith;
      heads = n.1;
      next_in = λ i lt in_. omega (arith, in_);
      next_home = λ i lt _. n.1 (at next i) (omega (arith, n.1 i lt, lt));
      next_back = λ i lt _. ap (at prev) (n.1 i lt) ∙ p.1 i lt;
      prev_in = λ i lt _. omega (arith, p.1 i lt, lt);
      prev_home = λ i lt _. ap (at next) (p.1 i lt);
      prev_back = λ i lt _. ap (at next) (p.1 i lt) ∙ n.1 i lt;
      ranks = λ i past lt _. absurd (omega (arith, past, lt));
    }

pub opened : (next prev : List ℕ) (room : ℕ) → AreHeads 259 next → AreHeads 259 prev → room ≤ 65536 → AreLists next prev [] room
opened next prev room n p most =
    record {
      few = omega arith;
      most = most;
      listed = λ i lt. absurd (omega (arith, lt));
      heads = next;
      are_heads = n;
      rank = λ _. 0;
      linked = rw (append-nil next) (linked_first next prev n p);
    }
