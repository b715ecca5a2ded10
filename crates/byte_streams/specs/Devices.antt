-- What the sources and sinks are, and what a call of those in memory changes.
use Rattle.std.specs.Prelude.{ℕ, ◌-◌, ◌==◌, ◌&&◌, if◌then◌else◌, nat_lt, Option, List, ◌++◌, length, take, drop, filter, fold, min}
use Rattle.byte_streams.specs.Faults.{one_more}

-- a source in memory: the number of its next call is one more than its calls so far
pub record Feed : Type 0 where
  -- the bytes that it still has to give
  pub left : List ℕ
  -- the numbers of its calls that fail, from 1
  pub fail : List ℕ
  -- the most bytes that a call gives
  pub most : ℕ
  -- its calls so far, and how many of them failed
  pub calls : ℕ
  pub faults : ℕ

-- a sink in memory, whose calls have numbers likewise
pub record Store : Type 0 where
  -- the bytes that it holds, and how many it has room for in all
  pub bytes : List ℕ
  pub room : ℕ
  -- the numbers of its calls that fail, from 1
  pub fail : List ℕ
  -- the number of a call, and beside it the most bytes that the call takes
  pub short : List (ℕ × ℕ)
  -- its calls so far, and how many of them failed or took nothing of a piece
  pub calls : ℕ
  pub faults : ℕ

-- a source over a reader: the bytes that the reader still gives, where they are known, and how many of its reads failed
pub record Intake : Type 0 where
  pub left : Option (List ℕ)
  pub faults : ℕ

-- a sink over a writer: the bytes that the writer holds, where they are known, and how many of its writes failed or took
-- nothing of a piece
pub record Outlet : Type 0 where
  pub holds : Option (List ℕ)
  pub faults : ℕ

-- how many bytes a call gives into room for so many, where it does not fail
abbrev pub given_count : Feed → ℕ → ℕ
given_count feed room = min (min room (length feed.left)) feed.most

-- the source after a call that gave n bytes
abbrev pub feed_after : Feed → ℕ → Feed
feed_after feed n = record feed { left = drop n feed.left; calls = one_more feed.calls }

-- the source after a call that failed
abbrev pub feed_after_fault : Feed → Feed
feed_after_fault feed = record feed { calls = one_more feed.calls; faults = one_more feed.faults }

-- the least of n and the numbers that stand beside this call's
abbrev pub least_for : List (ℕ × ℕ) → ℕ → ℕ → ℕ
least_for short call n = fold (λ least s. min least s.1) n (filter (λ s. s.0 == call) short)

-- how many bytes of so many a call takes, where it does not fail
abbrev pub taken_count : Store → ℕ → ℕ
taken_count store n = least_for store.short (one_more store.calls) (min n (store.room - length store.bytes))

-- the sink after a call that took n bytes of this piece: none of a piece with bytes is a fault
abbrev pub store_after : Store → ℕ → List ℕ → Store
store_after store n piece = record store {
  bytes = store.bytes ++ take n piece;
  calls = one_more store.calls;
  faults = (if n == 0 && nat_lt 0 (length piece) then one_more store.faults else store.faults);
}

-- the sink after a call that failed
abbrev pub store_after_fault : Store → Store
store_after_fault store = record store { calls = one_more store.calls; faults = one_more store.faults }
