-- The run of a plan whose events come to rounds, lines that only write among them, and then one of a single step: the network does not
-- change in the rounds, and where they are enough together the step is made at a calm moment.
use Rattle.std.proofs.Common.{◌≡◌, ℕ, ◌≤◌, List, [], ◌∷◌, ◌++◌, refl, sym, ap, subst, ◌∙◌, arith, append_assoc}
use Rattle.std.specs.Prelude.{length}
use Rattle.calm_rounds.specs.Machine.{run}
use Rattle.calm_rounds.proofs.Holding.{hold_end}
use Rattle.tree_model.specs.Ranks.{longest}
use Rattle.network_model.specs.Bounds.{AreBounds, EndsInCalm, all_of}
use Rattle.network_model.specs.Events.{Event, all_steps, steps_of}
use Rattle.network_model.specs.Runs.{Plan, first_world, steps_of_run}
use Rattle.network_model.specs.Steps.{Step, machine, step}
use Rattle.network_model.specs.Worlds.{World}
use Rattle.laws_network.specs.Known.{IsKnown}
use Rattle.laws_network.specs.Runs.{IsFitRun}
use Rattle.laws_network.proofs.Calming.{run_append}
use Rattle.laws_network.proofs.Keeping.{calm_rounds_keep_bounds}
use Rattle.laws_network.proofs.Known.{known_hold}
use Rattle.settle_network.proofs.Settled.{run_all}
use Rattle.script_theorem.specs.RoundsAmong.{AreRoundsAndWriting, AreRoundsThenWriting, rounds_among}
use Rattle.script_theorem.specs.Writing.{OnlyWrite}
use Rattle.script_theorem.proofs.Demands.{bounds_there}
use Rattle.script_theorem.proofs.RoundsAmong.{rounds_among_writing_count}
use Rattle.script_theorem.proofs.Writing.{same_net}

module _ (q : ℕ) where
  pub steps_on : (es fs : List Event) (w : World) → all_steps q (es ++ fs) w ≡ all_steps q es w ++ all_steps q fs (run (machine q) (all_steps q es w) w)
  steps_on [] fs w = refl
  steps_on (e ∷ es) fs w =
      let here = steps_of q e w in
      let next = run (machine q) here w in
      let there = all_steps q es next in
      ap (λ (ss : List Step). here ++ ss) (steps_on es fs next)
      ∙ sym (append_assoc here there (all_steps q fs (run (machine q) there next)))
      ∙ ap (λ (u : World). (here ++ there) ++ all_steps q fs u) (sym (run_append (machine q) here there w))

-- behind the rounds the event `l` has the one step `s`, and then come the events `gs`
module _ (p : Plan) (es fs gs : List Event) (l : Event) (s : Step) (single : (u : World) → steps_of p.quarter l u ≡ s ∷ []) (events : p.events ≡ es ++ (fs ++ l ∷ gs))
    (only : AreRoundsAndWriting fs) where
  abbrev q : ℕ
  q = p.quarter

  abbrev w : World
  w = first_world p

  -- the steps before the rounds, and the world in which these begin
  abbrev first : List Step
  first = all_steps q es w

  abbrev o : World
  o = run (machine q) first w

  -- the rounds, and what is written behind them
  abbrev counted : AreRoundsThenWriting q o (all_steps q fs o) (rounds_among fs)
  counted = rounds_among_writing_count q fs o only

  -- the steps up to the end of the last round
  abbrev pub to_last_round : List Step
  to_last_round = first ++ all_of counted.rounds

  abbrev pub written_behind : List Step
  written_behind = counted.still

  pub only_writes_behind : OnlyWrite written_behind
  only_writes_behind = counted.writes

  -- the steps before that one
  pub steps_before : all_steps q (es ++ fs) w ≡ to_last_round ++ written_behind
  steps_before = steps_on q es fs w ∙ ap (λ (z : List Step). first ++ z) counted.parts ∙ sym (append_assoc first (all_of counted.rounds) written_behind)

  -- that one and those behind it
  abbrev from_it : World → List Step
  from_it u = s ∷ all_steps q gs (step q s u)

  last_steps : (u : World) → all_steps q (l ∷ gs) u ≡ from_it u
  last_steps u = ap (λ (z : List Step). z ++ all_steps q gs (run (machine q) z u)) (single u)

  abbrev pub steps_behind : List Step
  steps_behind = all_steps q gs (step q s (run (machine q) (to_last_round ++ written_behind) w))

  pub steps : steps_of_run p ≡ (to_last_round ++ written_behind) ++ s ∷ steps_behind
  steps =
      ap (λ (z : List Event). all_steps q z w) (events ∙ sym (append_assoc es fs (l ∷ gs))) ∙ steps_on q (es ++ fs) (l ∷ gs) w
      ∙ ap (λ (z : List Step). all_steps q (es ++ fs) w ++ z) (last_steps (run (machine q) (all_steps q (es ++ fs) w) w))
      ∙ ap (λ (z : List Step). z ++ from_it (run (machine q) z w)) steps_before

  begun : IsFitRun p → AreBounds q o
  begun fit =
      let split = steps ∙ append_assoc (first ++ all_of counted.rounds) written_behind (s ∷ steps_behind) ∙ append_assoc first (all_of counted.rounds) (written_behind ++ s ∷ steps_behind) in
      bounds_there p fit first (all_of counted.rounds ++ (written_behind ++ s ∷ steps_behind)) split

  -- the network at the last step is that in which the rounds begin
  pub net_stays : IsFitRun p → (run (machine q) (to_last_round ++ written_behind) w).net ≡ o.net
  net_stays fit =
      let kept = hold_end (machine q) (IsKnown q o) 0 counted.rounds o (omega arith) (known_hold q o counted.rounds counted.calm
      (calm_rounds_keep_bounds q o counted.rounds counted.calm (begun fit))) in
      ap (λ (u : World). u.net) (run_append (machine q) to_last_round written_behind w) ∙ same_net q written_behind (run (machine q) to_last_round w) counted.writes
      ∙ ap (λ (u : World). u.net) (run_append (machine q) first (all_of counted.rounds) w ∙ run_all q counted.rounds o) ∙ kept.same.net

  pub calm_there : (wanted : ℕ → ℕ) → IsFitRun p → wanted (longest (run (machine q) (to_last_round ++ written_behind) w).net) ≤ rounds_among fs → EndsInCalm wanted q w to_last_round
  calm_there wanted fit enough = record {
    before = first;
    rounds = counted.rounds;
    parts = refl;
    calm = counted.calm;
    enough =
        let many : rounds_among fs ≡ length counted.rounds = sym counted.number in
        let same : longest (run (machine q) (to_last_round ++ written_behind) w).net ≡ longest o.net = ap longest (net_stays fit) in
        subst (λ (n : ℕ). wanted n ≤ length counted.rounds) same (subst (λ (n : ℕ). wanted (longest (run (machine q) (to_last_round ++ written_behind) w).net) ≤ n) many enough);
  }
