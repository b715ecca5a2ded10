-- One dead path fewer.
use Rattle.std.specs.Prelude.{◌≡◌, ◌≤◌, ◌+◌, true, false, cond, not, ◌||◌, is_some, Some, None}
use Rattle.std.specs.Ordering.{eq_by_cmp}
use Rattle.std.proofs.Common.{sym, ap, ◌∙◌, arith}
use Rattle.rsvp_base.specs.Sets.{with_key}
use Rattle.rsvp_base.specs.Table.{Table, get, has, size, without}
use Rattle.rsvp_base.proofs.SessionCounts.{size-without}
use Rattle.rsvp_base.proofs.SetLaws.{has-with_key, or_right, size-with_key}
use Rattle.rsvp_base.proofs.Tables.{either, get-without, tied_same, tied_self}
use Rattle.router_rules.specs.Facts.{SenderKey, sender_keys}
use Rattle.router_aging.specs.Passing.{DeadSet}

module _ {X : Type 0} (dead : DeadSet) (m : Table sender_keys X) (k : SenderKey) (v : X) (there : get m k ≡ Some v) where
  pub still_within : (q : SenderKey) → (has (with_key dead k) q || has (without m k) q) ≡ (has dead q || has m q)
  still_within q =
      ap (λ b. b || has (without m k) q) (has-with_key sender_keys dead k q)
      ∙ either (eq_by_cmp sender_keys.cmp q k)
      (λ t. ap (λ b. (b || has dead q) || has (without m k) q) t ∙ sym (or_right (has dead q) (has m q) (ap is_some (ap (get m) (tied_same sender_keys q k t) ∙ there))))
      (λ f. ap (λ b. (b || has dead q) || has (without m k) q) f ∙ ap (λ b. has dead q || b) (ap is_some (get-without sender_keys m k q ∙ ap (λ b. cond (not b) (get m q) None) (turned f))))
    where
      turned : eq_by_cmp sender_keys.cmp q k ≡ false → eq_by_cmp sender_keys.cmp k q ≡ false
      turned f =
          either (eq_by_cmp sender_keys.cmp k q)
          (λ t. let z : true ≡ false = sym (tied_self sender_keys k) ∙ ap (λ x. eq_by_cmp sender_keys.cmp x k) (tied_same sender_keys k q t) ∙ f in absurd (cc))
          (λ e. e)

  one_more : size (with_key dead k) ≤ size dead + 1
  one_more =
      let n = size-with_key sender_keys dead k in
      either (has dead k) (λ t. let e = n ∙ ap (λ b. cond b (size dead) (size dead + 1)) t in omega (arith, e)) (λ t. let e = n ∙ ap (λ b. cond b (size dead) (size dead + 1)) t in omega (arith, e))

  pub has_place : size dead + size m ≤ 512 → size (with_key dead k) ≤ 512
  has_place many = let n = size-without sender_keys m k v there in omega (arith, many, one_more, n)

  pub still_many : size dead + size m ≤ 512 → size (with_key dead k) + size (without m k) ≤ 512
  still_many many = let n = size-without sender_keys m k v there in omega (arith, many, one_more, n)

  pub one_fewer : size (without m k) + 1 ≤ size m
  one_fewer = let n = size-without sender_keys m k v there in omega (arith, n)
