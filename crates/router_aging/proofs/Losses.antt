-- One dead path fewer whose previous hop is not noted yet.
use Rattle.std.specs.Prelude.{◌≡◌, ℕ, ◌≤◌, ◌+◌, true, false, cond, nat_le, Bool, not, List, [], ◌∷◌, Option, Some, None, refl}
use Rattle.std.specs.Option.{option_map}
use Rattle.std.specs.Ordering.{eq_by_cmp}
use Rattle.std.proofs.Common.{sym, ap, ◌∙◌, arith}
use Rattle.rsvp_base.specs.Table.{Table, changed, changed_rows, get, has, kept_row, put_in, same_rows, size, without}
use Rattle.rsvp_base.specs.declared.addr.Addr.{Addr}
use Rattle.rsvp_base.proofs.SessionCounts.{size-without}
use Rattle.rsvp_base.proofs.Tables.{either, get-changed, get-put_in, get-without, same_table, size-put_in, then_do, tied_same, tied_self}
use Rattle.path_state.specs.Paths.{dead_after, path_keys}
use Rattle.path_state.specs.declared.fact.PathFact.{PathFact}
use Rattle.style_rules.specs.Toward.{or_else}
use Rattle.router_rules.specs.Facts.{SenderKey, sender_keys}
use Rattle.router_aging.specs.Lost.{LostTable, came_from, left_from, loses, lost_hops}

-- where a path came from that is still to be noted, or is noted
abbrev pub lost_at : LostTable → Table sender_keys PathFact → SenderKey → Option (ℕ × Addr)
lost_at lost m q = or_else (option_map came_from (get m q)) (get lost q)

module _ (lost : LostTable) (m : Table sender_keys PathFact) (k : SenderKey) (f : PathFact) (there : get m k ≡ Some f) where
  pub still_lost : (q : SenderKey) → lost_at (put_in lost k (came_from f)) (without m k) q ≡ lost_at lost m q
  still_lost q =
      (λ i. or_else (option_map came_from (get-without sender_keys m k q i)) (get-put_in sender_keys lost k (came_from f) q i))
      ∙ either (eq_by_cmp sender_keys.cmp q k)
      (λ t.
      ap (λ b. or_else (option_map came_from (cond (not (eq_by_cmp sender_keys.cmp k q)) (get m q) None)) (cond b (Some (came_from f)) (get lost q))) t
      ∙ ap (λ b. or_else (option_map came_from (cond (not b) (get m q) None)) (Some (came_from f))) (turned t)
      ∙ sym (ap (λ w. or_else (option_map came_from w) (get lost q)) (ap (get m) (tied_same sender_keys q k t) ∙ there)))
      (λ e.
      ap (λ b. or_else (option_map came_from (cond (not (eq_by_cmp sender_keys.cmp k q)) (get m q) None)) (cond b (Some (came_from f)) (get lost q))) e
      ∙ ap (λ b. or_else (option_map came_from (cond (not b) (get m q) None)) (get lost q)) (other e))
    where
      turned : eq_by_cmp sender_keys.cmp q k ≡ true → eq_by_cmp sender_keys.cmp k q ≡ true
      turned t = ap (λ x. eq_by_cmp sender_keys.cmp k x) (tied_same sender_keys q k t) ∙ tied_self sender_keys k

      other : eq_by_cmp sender_keys.cmp q k ≡ false → eq_by_cmp sender_keys.cmp k q ≡ false
      other e =
          either (eq_by_cmp sender_keys.cmp k q)
          (λ t. let z : true ≡ false = sym (tied_self sender_keys k) ∙ ap (λ x. eq_by_cmp sender_keys.cmp x k) (tied_same sender_keys k q t) ∙ e in absurd (cc))
          (λ d. d)

  one_more : size (put_in lost k (came_from f)) ≤ size lost + 1
  one_more =
      let n = size-put_in sender_keys lost k (came_from f) in
      either (has lost k) (λ t. let e = n ∙ ap (λ b. cond b (size lost) (size lost + 1)) t in omega (arith, e)) (λ t. let e = n ∙ ap (λ b. cond b (size lost) (size lost + 1)) t in omega (arith, e))

  pub has_room : size lost + size m ≤ 512 → size (put_in lost k (came_from f)) ≤ 512
  has_room many = let n = size-without sender_keys m k f there in omega (arith, many, one_more, n)

  pub still_few : size lost + size m ≤ 512 → size (put_in lost k (came_from f)) + size (without m k) ≤ 512
  still_few many = let n = size-without sender_keys m k f there in omega (arith, many, one_more, n)

-- once none is to be noted, all are
pub all_lost : (lost : LostTable) (left m : Table sender_keys PathFact) → left.rows ≡ [] → ((q : SenderKey) → lost_at lost left q ≡ option_map came_from (get m q)) → lost ≡ changed left_from m
all_lost lost left m none is = same_table sender_keys lost (changed left_from m) (λ q. sym (gone q) ∙ is q ∙ by (get m q) ∙ sym (get-changed sender_keys left_from m q))
  where
    gone : (q : SenderKey) → lost_at lost left q ≡ get lost q
    gone q = ap (λ (t : Table sender_keys PathFact). lost_at lost t q) (same_rows left (record { rows = []; sorted = tt }) none)

    by : (w : Option PathFact) → option_map came_from w ≡ then_do w (λ f. Some (came_from f))
    by None = refl
    by (Some f) = refl

-- of the paths that die
pub dead_lost : (ms : ℕ) (m : Table path_keys (PathFact × ℕ)) → changed left_from (changed (dead_after ms) m) ≡ lost_hops ms m
dead_lost ms m = same_rows _ _ (rows m.rows)
  where
    rows : (es : List (SenderKey × (PathFact × ℕ))) → changed_rows left_from (changed_rows (dead_after ms) es) ≡ changed_rows (loses ms) es
    rows [] = refl
    rows (e ∷ es) = by (nat_le e.1.1 ms) (rows es)
      where
        by : (b : Bool) → changed_rows left_from (changed_rows (dead_after ms) es) ≡ changed_rows (loses ms) es
            → changed_rows left_from (kept_row e.0 (cond b (Some e.1.0) None) (changed_rows (dead_after ms) es)) ≡ kept_row e.0 (cond b (Some (came_from e.1.0)) None) (changed_rows (loses ms) es)
        by true rest = ap (λ rs. (e.0, came_from e.1.0) ∷ rs) rest
        by false rest = rest
