-- The network behind an event: only a tree that moves changes it.
use Rattle.std.proofs.Common.{◌≡◌, ℕ, zero, suc, List, [], ◌∷◌, ◌++◌, Bool, true, false, cond, length, refl, ap, ◌∙◌}
use Rattle.std.specs.Prelude.{nat_lt, ◌*◌, ◌/◌, ◌%◌}
use Rattle.std.specs.List.{repeat}
use Rattle.calm_rounds.specs.Machine.{run}
use Rattle.tree_model.specs.Networks.{Net}
use Rattle.script_grammar.specs.Events.{Event, AtNode, Waits, Pass, DeliverAt, LoseAt, CopyAt, ClearNode, Rounds, Traces, Reports, ReportsFlags, ReportsAdverts, Injects, Reroutes}
use Rattle.script_grammar.specs.Events.{at_place, last_piece, pieces, pass, passes, half, halves, a_round, rounds, steps_of}
use Rattle.script_grammar.specs.Steps.{Step, Piece, Deliver, Lose, Copy, machine, net_after, rerouted, step}
use Rattle.script_grammar.specs.Worlds.{World}
use Rattle.script_run.proofs.Runs.{run_on}

abbrev pub net_behind : Event → Net → Net
net_behind (Reroutes g s hops) net = rerouted net g s hops
net_behind _ net = net

module _ (q : ℕ) where
  -- the network stays as it is by these steps
  abbrev Keep : List Step → World → Type 0
  Keep ss w = (run (machine q) ss w).net ≡ w.net

  both_keep : (ss ts : List Step) (w : World) → Keep ss w → Keep ts (run (machine q) ss w) → Keep (ss ++ ts) w
  both_keep ss ts w first next = ap (λ (u : World). u.net) (run_on q ss ts w) ∙ next ∙ first

  many_keep : (n : ℕ) (s : Step) → ((u : World) → net_after s u ≡ u.net) → (w : World) → Keep (repeat n (s ∷ [])) w
  many_keep zero s keeps w = refl
  many_keep (suc n) s keeps w = many_keep n s keeps (step q s w) ∙ keeps w

  -- ---- time that passes
  last_keeps : (ms : ℕ) (w : World) → Keep (last_piece q ms) w
  last_keeps ms w = by (nat_lt 0 ms)
    where
      by : (b : Bool) → Keep (cond b (Piece ms ∷ []) []) w
      by true = refl
      by false = refl

  pieces_keep : (ms : ℕ) (w : World) → Keep (pieces q ms) w
  pieces_keep ms w =
      let waits = repeat (ms / (2 * q)) (Piece (2 * q) ∷ []) in
      both_keep waits (last_piece q (ms % (2 * q))) w (many_keep (ms / (2 * q)) (Piece (2 * q)) (λ u. refl) w) (last_keeps (ms % (2 * q)) (run (machine q) waits w))

  -- ---- datagrams
  place_keeps : (s : ℕ → Step) → ((j : ℕ) (u : World) → net_after (s j) u ≡ u.net) → (k : ℕ) (w : World) → Keep (at_place s k) w
  place_keeps s keeps zero w = refl
  place_keeps s keeps (suc k) w = keeps k w

  pass_keeps : (w : World) → Keep (pass q w) w
  pass_keeps w = many_keep (length w.flight) (Deliver 0) (λ u. refl) w

  passes_keep : (n : ℕ) (w : World) → Keep (passes q n w) w
  passes_keep zero w = refl
  passes_keep (suc n) w = let v = run (machine q) (pass q w) w in both_keep (pass q w) (passes q n v) w (pass_keeps w) (passes_keep n v)

  -- ---- rounds
  half_keeps : (w : World) → Keep (half q w) w
  half_keeps w = pass_keeps (step q (Piece (2 * q)) w)

  halves_keep : (n : ℕ) (w : World) → Keep (halves q n w) w
  halves_keep zero w = refl
  halves_keep (suc n) w = let v = run (machine q) (half q w) w in both_keep (half q w) (halves q n v) w (half_keeps w) (halves_keep n v)

  rounds_keep : (n : ℕ) (w : World) → Keep (rounds q n w) w
  rounds_keep zero w = refl
  rounds_keep (suc n) w = let v = run (machine q) (a_round q w) w in both_keep (a_round q w) (rounds q n v) w (halves_keep 4 w) (rounds_keep n v)

  -- ---- events
  pub event_net : (e : Event) (w : World) → (run (machine q) (steps_of q e w) w).net ≡ net_behind e w.net
  event_net (AtNode n l) w = refl
  event_net (Waits ms) w = pieces_keep ms w
  event_net (Pass n) w = passes_keep n w
  event_net (DeliverAt k) w = place_keeps Deliver (λ j u. refl) k w
  event_net (LoseAt k) w = place_keeps Lose (λ j u. refl) k w
  event_net (CopyAt k) w = place_keeps Copy (λ j u. refl) k w
  event_net (ClearNode n) w = refl
  event_net (Rounds n) w = rounds_keep n w
  event_net (Traces on) w = refl
  event_net (Reports e) w = refl
  event_net ReportsFlags w = refl
  event_net ReportsAdverts w = refl
  event_net (Injects e dst a) w = refl
  event_net (Reroutes g s hops) w = refl
