use Rattle.std.proofs.Common.{◌≡◌, length, vec_capacity, ℕ}
use Rattle.std.specs.Prelude.{slice_get}
use Rattle.soft_table.specs.Lists.{key_row}
use Rattle.soft_table.proofs.row_keys.set_key.Given as goal

abbrev pub invariant-loop-more : goal.invariant-loop-more
invariant-loop-more g l = record {
  made : length l.keys.items ≡ l._more;
  same : (t : ℕ) → key_row t (slice_get l.keys.items t) ≡ key_row t (slice_get l.fn.keys.items t);
  capacity : vec_capacity l.keys ≡ vec_capacity l.fn.keys;
}
