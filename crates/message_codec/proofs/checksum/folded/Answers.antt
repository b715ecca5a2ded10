use Rattle.std.proofs.Common.{ℕ, ◌+◌, List, length, length-drop, drop, sym, ap, subst, ◌∙◌, arith}
use Rattle.message_codec.specs.Sum.{sum_from, words_in}
use Rattle.message_codec.proofs.Closed.{closed, AreSmall, small_behind, rest_is, pair_closed, word_closed}
use Rattle.message_codec.proofs.checksum.folded.Goals as goal

pub pairs-preserved : goal.pairs-preserved
pairs-preserved c =
    let rest = c.pairs.rest.now in
    record {
      sum = ap (λ (xs : List ℕ). sum_from (closed (c.pairs.sum + c.read_u32.result)) (words_in xs)) (rest_is 4 rest)
          ∙ ap (λ (x : ℕ). sum_from (closed (c.pairs.sum + x)) (words_in (drop 4 rest))) c.read_u32.ensures
          ∙ sym (pair_closed c.pairs.sum rest c.pairs-test.true c.pairs.invariant.bytes)
          ∙ c.pairs.invariant.sum;
      bytes = subst AreSmall (sym (rest_is 4 rest)) (small_behind 4 rest c.pairs.invariant.bytes);
      small = let n = ap length (rest_is 4 rest) ∙ length-drop 4 rest in omega (arith, n, c.pairs.invariant.small, c.pairs-test.true);
    }

pub words-preserved : goal.words-preserved
words-preserved c =
    let rest = c.words.rest.now in
    record {
      sum = ap (λ (xs : List ℕ). sum_from (closed (c.words.sum + c.read_u16.result)) (words_in xs)) (rest_is 2 rest)
          ∙ ap (λ (x : ℕ). sum_from (closed (c.words.sum + x)) (words_in (drop 2 rest))) c.read_u16.ensures
          ∙ sym (word_closed c.words.sum rest c.words-test.true c.words.invariant.bytes)
          ∙ c.words.invariant.sum;
      bytes = subst AreSmall (sym (rest_is 2 rest)) (small_behind 2 rest c.words.invariant.bytes);
      small = let n = ap length (rest_is 2 rest) ∙ length-drop 2 rest in omega (arith, n, c.words.invariant.small, c.words-test.true);
    }
