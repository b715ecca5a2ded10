-- Slots in lists, linked both ways through the head of each list: the numbers below 259 are the heads, that of list k the number k, and slot s is the number `259 + s`.
use Rattle.std.specs.Prelude.{◌≡◌, ◌<◌, ◌≤◌, ◌+◌, ◌++◌, ℕ, List, length, get_or}

-- the list of each slot that was made, and how many slots can be made
pub record Slots : Type 0 where
  pub homes : List ℕ
  pub room : ℕ

abbrev pub at : List ℕ → ℕ → ℕ
at xs i = get_or xs i 0

-- the heads of empty lists: each leads to itself
abbrev pub AreHeads : ℕ → List ℕ → Type 0
AreHeads n xs = (length xs ≡ n) × ((k : ℕ) → k < n → at xs k ≡ k)

-- each number in a list leads to one of the same list and back again, and behind the head of a list the ranks of its slots rise
pub record IsLinked (n : ℕ) (next prev home : List ℕ) (rank : ℕ → ℕ) : Type 0 where
  pub nexts : length next ≡ n
  pub prevs : length prev ≡ n
  pub homes : length home ≡ n
  pub all : 259 ≤ n
  pub heads : (k : ℕ) → k < 259 → at home k ≡ k
  pub next_in : (i : ℕ) → i < n → at home i < 259 → at next i < n
  pub next_home : (i : ℕ) → i < n → at home i < 259 → at home (at next i) ≡ at home i
  pub next_back : (i : ℕ) → i < n → at home i < 259 → at prev (at next i) ≡ i
  pub prev_in : (i : ℕ) → i < n → at home i < 259 → at prev i < n
  pub prev_home : (i : ℕ) → i < n → at home i < 259 → at home (at prev i) ≡ at home i
  pub prev_back : (i : ℕ) → i < n → at home i < 259 → at next (at prev i) ≡ i
  pub ranks : (i : ℕ) → 259 ≤ i → i < n → at home i < 259 → rank (at prev i) < rank i

-- every slot that was made stands in exactly one list
pub record AreLists (next prev home : List ℕ) (room : ℕ) : Type 0 where
  pub few : length home ≤ room
  pub most : room ≤ 65536
  pub listed : (i : ℕ) → i < length home → at home i < 259
  pub heads : List ℕ
  pub are_heads : AreHeads 259 heads
  pub rank : ℕ → ℕ
  pub linked : IsLinked (259 + length home) next prev (heads ++ home) rank
