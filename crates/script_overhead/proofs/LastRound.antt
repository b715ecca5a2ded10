-- Rounds among lines that only write, at the end of a script: all of their steps are calm rounds, and the last round is told apart.
use Rattle.std.proofs.Common.{◌≡◌, ℕ, zero, suc, ◌+◌, ◌≤◌, List, [], ◌∷◌, ◌++◌, length, arith, sym, refl, ap, ◌∙◌, zero-add}
use Rattle.calm_rounds.specs.Machine.{run}
use Rattle.calm_rounds.specs.Rounds.{Rounds as CalmRounds}
use Rattle.network_model.specs.Bounds.{all_of}
use Rattle.network_model.specs.Events.{AtNode, ClearNode, CopyAt, DeliverAt, Event, Injects, LoseAt, Pass, Reports, ReportsAdverts, ReportsFlags, Reroutes, Rounds, Traces, Waits}
use Rattle.network_model.specs.Events.{a_round, all_steps, rounds, steps_of}
use Rattle.network_model.specs.Steps.{Step, machine}
use Rattle.network_model.specs.Worlds.{World}
use Rattle.script_theorem.specs.RoundsAmong.{AreRoundsAndWriting, AreRoundsThenWriting, rounds_among}
use Rattle.script_theorem.proofs.RoundsAmong.{rounds_among_writing_count}
use Rattle.script_theorem.proofs.Writing.{all_parts, calm_last, in_last, joined, length_last, run_then}

-- the steps are so many calm rounds, one after the other
pub record AreCalmRounds (q : ℕ) (w : World) (ss : List Step) (n : ℕ) : Type 0 where
  pub rounds : List (List Step)
  pub parts : ss ≡ all_of rounds
  pub calm : CalmRounds (machine q) rounds w
  pub many : n ≤ length rounds

-- the last round of lines, with those that only write behind it: the lines before it have one round less
pub record LastRound (q : ℕ) (fs : List Event) : Type 0 where
  pub es : List Event
  pub gs : List Event
  pub steps : (w : World) → all_steps q fs w ≡ all_steps q (es ++ Rounds 1 ∷ gs) w
  pub first : AreRoundsAndWriting es
  pub rest : AreRoundsAndWriting gs
  pub none : rounds_among gs ≡ 0
  pub number : rounds_among fs ≡ suc (rounds_among es)

module _ (q : ℕ) where
  rounds_split : (a b : ℕ) (w : World) → rounds q (a + b) w ≡ rounds q a w ++ rounds q b (run (machine q) (rounds q a w) w)
  rounds_split zero b w = ap (λ (z : ℕ). rounds q z w) (zero-add b)
  rounds_split (suc a) b w =
      let next : World = run (machine q) (a_round q w) w in
      let more : suc a + b ≡ suc (a + b) = omega arith in
      ap (λ (z : ℕ). rounds q z w) more
      ∙ ap (λ (ss : List Step). a_round q w ++ ss) (rounds_split a b next)
      ∙ sym (joined q (a_round q w) (rounds q a next) (rounds q b (run (machine q) (rounds q a next) next)))
      ∙ ap (λ (u : World). (a_round q w ++ rounds q a next) ++ rounds q b u) (sym (run_then q (a_round q w) (rounds q a next) w))

  -- ---- all of them are calm rounds: what is written behind the last round counts as its end
  module _ (es : List Event) (w : World) (are : AreRoundsAndWriting es) (some : 1 ≤ rounds_among es) where
    abbrev counted : AreRoundsThenWriting q w (all_steps q es w) (rounds_among es)
    counted = rounds_among_writing_count q es w are

    pub all_calm : AreCalmRounds q w (all_steps q es w) (rounds_among es)
    all_calm =
        let n = counted.number in
        let same = length_last q counted.still counted.rounds in
        let one : 1 ≤ length counted.rounds = omega (arith, n, some) in
        record {
          rounds = in_last q counted.still counted.rounds;
          parts = counted.parts ∙ all_parts q counted.still counted.rounds one;
          calm = calm_last q counted.still counted.rounds w counted.writes counted.calm;
          many = omega (arith, n, same);
        }

  -- ---- the last of them
  one_apart : (n : ℕ) (es : List Event) (w : World) → all_steps q (Rounds (suc n) ∷ es) w ≡ all_steps q (Rounds n ∷ Rounds 1 ∷ es) w
  one_apart n es w =
      let a : List Step = rounds q n w in
      let b : List Step = rounds q 1 (run (machine q) a w) in
      let more : suc n ≡ n + 1 = omega arith in
      ap (λ (z : ℕ). all_steps q (Rounds z ∷ es) w) more
      ∙ ap (λ (ss : List Step). ss ++ all_steps q es (run (machine q) ss w)) (rounds_split n 1 w)
      ∙ joined q a b (all_steps q es (run (machine q) (a ++ b) w))
      ∙ ap (λ (u : World). a ++ (b ++ all_steps q es u)) (run_then q a b w)

  steps_behind : (e : Event) (fs : List Event) (l : LastRound q fs) (w : World) → all_steps q (e ∷ fs) w ≡ all_steps q (e ∷ (l.es ++ Rounds 1 ∷ l.gs)) w
  steps_behind e fs l w = ap (λ (ss : List Step). steps_of q e w ++ ss) (l.steps (run (machine q) (steps_of q e w) w))

  behind_rounds : (n : ℕ) (fs : List Event) → LastRound q fs → LastRound q (Rounds n ∷ fs)
  behind_rounds n fs l = record {
    es = Rounds n ∷ l.es;
    gs = l.gs;
    steps = steps_behind (Rounds n) fs l;
    first = l.first;
    rest = l.rest;
    none = l.none;
    number = let m = l.number in omega (arith, m);
  }

  these_rounds : (n : ℕ) (fs : List Event) → AreRoundsAndWriting fs → rounds_among fs ≡ 0 → 1 ≤ n + rounds_among fs → LastRound q (Rounds n ∷ fs)
  these_rounds zero fs are none some = absurd (omega (arith, some, none))
  these_rounds (suc n) fs are none some = record {
    es = Rounds n ∷ [];
    gs = fs;
    steps = one_apart n fs;
    first = tt;
    rest = are;
    none = none;
    number = omega (arith, none);
  }

  by_rounds : (n : ℕ) (fs : List Event) → AreRoundsAndWriting fs → 1 ≤ n + rounds_among fs → (m : ℕ) → rounds_among fs ≡ m → (1 ≤ rounds_among fs → LastRound q fs) → LastRound q (Rounds n ∷ fs)
  by_rounds n fs are some zero is next = these_rounds n fs are is some
  by_rounds n fs are some (suc m) is next = behind_rounds n fs (next (omega (arith, is)))

  pub last_round : (fs : List Event) → AreRoundsAndWriting fs → 1 ≤ rounds_among fs → LastRound q fs
  last_round [] are some = absurd (omega (arith, some))
  last_round (Rounds n ∷ fs) are some = by_rounds n fs are some (rounds_among fs) refl (λ le. last_round fs are le)
  last_round (Reports e ∷ fs) are some =
      let l = last_round fs are some in
      record { es = Reports e ∷ l.es; gs = l.gs; steps = steps_behind (Reports e) fs l; first = l.first; rest = l.rest; none = l.none; number = l.number }
  last_round (ReportsFlags ∷ fs) are some =
      let l = last_round fs are some in
      record { es = ReportsFlags ∷ l.es; gs = l.gs; steps = steps_behind ReportsFlags fs l; first = l.first; rest = l.rest; none = l.none; number = l.number }
  last_round (ReportsAdverts ∷ fs) are some =
      let l = last_round fs are some in
      record { es = ReportsAdverts ∷ l.es; gs = l.gs; steps = steps_behind ReportsAdverts fs l; first = l.first; rest = l.rest; none = l.none; number = l.number }
  last_round (Traces on ∷ fs) are some =
      let l = last_round fs are some in
      record { es = Traces on ∷ l.es; gs = l.gs; steps = steps_behind (Traces on) fs l; first = l.first; rest = l.rest; none = l.none; number = l.number }
  last_round (AtNode n l ∷ fs) are some = absurd are
  last_round (Waits ms ∷ fs) are some = absurd are
  last_round (Pass n ∷ fs) are some = absurd are
  last_round (DeliverAt k ∷ fs) are some = absurd are
  last_round (LoseAt k ∷ fs) are some = absurd are
  last_round (CopyAt k ∷ fs) are some = absurd are
  last_round (ClearNode n ∷ fs) are some = absurd are
  last_round (Injects e dst a ∷ fs) are some = absurd are
  last_round (Reroutes g s hops ∷ fs) are some = absurd are
