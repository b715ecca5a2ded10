-- The run of a seed ends settled, and what it writes is its demand.
use Rattle.std.proofs.Common.{◌≡◌, ℕ, ◌≤◌, false, List, [], ◌∷◌, ◌++◌, length, None, refl, sym, ap, subst, ◌∙◌, arith, append_assoc}
use Rattle.std.specs.Prelude.{map as each}
use Rattle.std.proofs.lemmas.List.{append-nil}
use Rattle.calm_rounds.specs.Hold.{Visited}
use Rattle.calm_rounds.specs.Machine.{run}
use Rattle.calm_rounds.specs.Rounds.{run_rounds}
use Rattle.calm_rounds.proofs.Holding.{hold_end}
use Rattle.tree_model.specs.declared.locals.LocalSender.{LocalSender}
use Rattle.tree_model.specs.Goals.{DemandsFit}
use Rattle.tree_model.specs.Networks.{Net}
use Rattle.tree_model.specs.Ranks.{longest}
use Rattle.tree_model.specs.Wants.{Locals}
use Rattle.network_model.specs.Bounds.{AreBounds, IsSettled, all_of}
use Rattle.network_model.specs.Events.{Event, Reports, Rounds, all_steps, rounds}
use Rattle.network_model.specs.Locals.{locals_of}
use Rattle.network_model.specs.Runs.{first_world, is_crowded_run, run_text, steps_of_run, text_of}
use Rattle.network_model.specs.Steps.{Report, Step, machine, step}
use Rattle.network_model.specs.Worlds.{World}
use Rattle.laws_network.specs.Known.{IsKnown}
use Rattle.laws_network.specs.Rounds.{rounds_of as list_of_rounds}
use Rattle.laws_network.proofs.Calming.{rounds_is_calm, run_append}
use Rattle.laws_network.proofs.Keeping.{calm_rounds_keep_bounds}
use Rattle.laws_network.proofs.Known.{known_hold}
use Rattle.laws_network.proofs.Runs.{each_world_of_a_run_is_within_bounds}
use Rattle.network_model.specs.DemandTexts.{demand_text}
use Rattle.script_theorem.specs.Demands.{AppendsTheDemand, moment}
use Rattle.script_theorem.proofs.Demands.{a_settled_report_is_the_demand}
use Rattle.script_theorem.specs.Standing.{AskTheSame}
use Rattle.script_theorem.proofs.Same.{same_fit, same_text}
use Rattle.grown_network.specs.declared.hosts.Wanted.{Wanted}
use Rattle.grown_network.specs.Grown.{asked, grown_net, grown_plan, rounds_of, send_event, want_event}
use Rattle.grown_network.specs.Hosts.{senders, wants}
use Rattle.grown_network.specs.Nodes.{names_up_to}
use Rattle.laws_grown.specs.Runs.{AGrownRunIsItsDemand, EndsSettled, GrownRunsEndSettled, IsAsAsked}
use Rattle.laws_grown.proofs.Crowding.{seeds_never_crowd}
use Rattle.laws_grown.proofs.Fit.{grown_runs_are_fit}
use Rattle.grown_network.proofs.Fitting.{grown_demands_fit}
use Rattle.laws_grown.proofs.Sending.{send_step}
use Rattle.laws_grown.proofs.Silent.{both_silent, calls_silent, nothing_written, rounds_silent}
use Rattle.laws_grown.proofs.Standing.{as_asked, calls, calls_have}
use Rattle.laws_grown.proofs.Wanting.{want_step}

-- ---- the steps of the run
module _ (q : ℕ) where
  sends_first : (xs : List LocalSender) (es : List Event) (w : World) → all_steps q (each send_event xs ++ es) w ≡ each send_step xs ++ all_steps q es (run (machine q) (each send_step xs) w)
  sends_first [] es w = refl
  sends_first (x ∷ xs) es w = ap (λ (ss : List Step). send_step x ∷ ss) (sends_first xs es (step q (send_step x) w))

  wants_first : (ws : List Wanted) (es : List Event) (w : World) → all_steps q (each want_event ws ++ es) w ≡ each want_step ws ++ all_steps q es (run (machine q) (each want_step ws) w)
  wants_first [] es w = refl
  wants_first (x ∷ ws) es w = ap (λ (ss : List Step). want_step x ∷ ss) (wants_first ws es (step q (want_step x) w))

  calls_first : (xs : List LocalSender) (ws : List Wanted) (es : List Event) (w : World)
      → all_steps q (each send_event xs ++ (each want_event ws ++ es)) w ≡ (each send_step xs ++ each want_step ws) ++ all_steps q es (run (machine q) (each send_step xs ++ each want_step ws) w)
  calls_first xs ws es w =
      sends_first xs (each want_event ws ++ es) w
      ∙ ap (λ (ss : List Step). each send_step xs ++ ss) (wants_first ws es (run (machine q) (each send_step xs) w))
      ∙ sym (append_assoc (each send_step xs) (each want_step ws) (all_steps q es (run (machine q) (each want_step ws) (run (machine q) (each send_step xs) w))))
      ∙ ap (λ (u : World). (each send_step xs ++ each want_step ws) ++ all_steps q es u) (sym (run_append (machine q) (each send_step xs) (each want_step ws) w))

  run_all : (rs : List (List Step)) (w : World) → run (machine q) (all_of rs) w ≡ run_rounds (machine q) rs w
  run_all [] w = refl
  run_all (r ∷ rs) w = run_append (machine q) r (all_of rs) w ∙ run_all rs (run (machine q) r w)

  bounds_at : (ss ts : List Step) (w : World) → Visited (machine q) (AreBounds q) (ss ++ ts) w → AreBounds q (run (machine q) ss w)
  bounds_at [] [] w v = v
  bounds_at [] (t ∷ ts) w v = v.0
  bounds_at (s ∷ ss) ts w v = bounds_at ss ts (step q s w) v.1

module _ (seed : ℕ) where
  abbrev q : ℕ
  q = (grown_plan seed).quarter

  abbrev w : World
  w = first_world (grown_plan seed)

  -- behind the calls
  abbrev o : World
  o = run (machine q) (calls seed) w

  abbrev before : List Step
  before = calls seed ++ rounds q (rounds_of seed) o

  all_of_run : steps_of_run (grown_plan seed) ≡ before ++ Report None ∷ []
  unfolding grown_plan
  all_of_run = calls_first 7500 (senders seed) (wants seed) (Rounds (rounds_of seed) ∷ Reports None ∷ []) w ∙ sym (append_assoc (calls seed) (rounds 7500 (rounds_of seed) o) (Report None ∷ []))

  settled : IsSettled q w before
  settled = record {
    before = calls seed;
    rounds = list_of_rounds q (rounds_of seed) o;
    parts = ap (λ (ss : List Step). calls seed ++ ss) (rounds_is_calm q (rounds_of seed) o).steps;
    calm = (rounds_is_calm q (rounds_of seed) o).calm;
    enough =
        let many = (rounds_is_calm q (rounds_of seed) o).number in
        let same = ap longest (calls_have q seed).net_is in
        omega (arith, many, same);
  }

  begun : AreBounds q o
  begun =
      let parts = all_of_run ∙ append_assoc (calls seed) (rounds q (rounds_of seed) o) (Report None ∷ []) in
      bounds_at q (calls seed) (rounds q (rounds_of seed) o ++ Report None ∷ []) w
      (subst (λ (ss : List Step). Visited (machine q) (AreBounds q) ss w) parts (each_world_of_a_run_is_within_bounds (grown_plan seed) (grown_runs_are_fit seed).run))

  known : IsKnown q o (moment (grown_plan seed) before)
  unfolding settled
  known =
      let none : 0 ≤ length settled.rounds = omega arith in
      let kept = hold_end (machine q) (IsKnown q o) 0 settled.rounds o none (known_hold q o settled.rounds settled.calm (calm_rounds_keep_bounds q o settled.rounds settled.calm begun)) in
      subst (IsKnown q o) (sym (ap (λ (ss : List Step). run (machine q) ss w) settled.parts ∙ run_append (machine q) (calls seed) (all_of settled.rounds) w ∙ run_all q settled.rounds o)) kept

  asked_then : IsAsAsked seed (moment (grown_plan seed) before)
  asked_then =
      let first = as_asked seed o (calls_have q seed) in
      record { net = known.same.net ∙ first.net; locals = subst (λ (l : Locals). AskTheSame l (asked seed)) (sym known.same.locals) first.locals }

  pub ends_settled : EndsSettled seed
  ends_settled = record { before = before; steps = all_of_run; settled = settled; asked = asked_then }

pub grown_runs_end_settled : GrownRunsEndSettled
grown_runs_end_settled seed = ends_settled seed

-- ---- what it writes
module _ (seed : ℕ) where
  abbrev u : World
  u = moment (grown_plan seed) (before seed)

  demand : demand_text (grown_plan seed).names u.net (locals_of u) None ≡ demand_text (names_up_to 63) (grown_net seed) (asked seed) None
  unfolding grown_plan
  demand =
      ap (λ (net : Net). demand_text (names_up_to 63) net (locals_of u) None) (asked_then seed).net
      ∙ same_text (grown_net seed) (locals_of u) (asked seed) (asked_then seed).locals (names_up_to 63) None

  fit_then : DemandsFit u.net (locals_of u)
  fit_then =
      subst (λ (net : Net). DemandsFit net (locals_of u)) (sym (asked_then seed).net)
      (same_fit (grown_net seed) (locals_of u) (asked seed) (asked_then seed).locals (grown_demands_fit seed))

  silent_before : text_of (q seed) (grown_plan seed).names (before seed) (w seed) ≡ []
  silent_before =
      nothing_written (q seed) (grown_plan seed).names (before seed) (w seed)
      (both_silent (calls seed) (rounds (q seed) (rounds_of seed) (o seed)) (calls_silent (senders seed) (wants seed)) (rounds_silent (q seed) (rounds_of seed) (o seed))) refl

  appends : is_crowded_run (grown_plan seed) ≡ false → AppendsTheDemand (grown_plan seed) (before seed) None []
  appends free =
      let fit = grown_runs_are_fit seed in
      let none = append-nil (before seed) in
      subst (λ (ss : List Step). AppendsTheDemand (grown_plan seed) ss None []) none
      (a_settled_report_is_the_demand (grown_plan seed) fit.run fit.senders free (before seed) [] None []
      (all_of_run seed ∙ ap (λ (ss : List Step). ss ++ Report None ∷ []) (sym none)) (settled seed) tt
      (subst (λ (ss : List Step). DemandsFit (moment (grown_plan seed) ss).net (locals_of (moment (grown_plan seed) ss))) (sym none) (fit_then)))

  pub run_is_demand : is_crowded_run (grown_plan seed) ≡ false → run_text (grown_plan seed) ≡ demand_text (names_up_to 63) (grown_net seed) (asked seed) None
  run_is_demand free =
      appends free
      ∙ ap (λ (text : List ℕ). text ++ (demand_text (grown_plan seed).names u.net (locals_of u) None ++ [])) silent_before
      ∙ append-nil (demand_text (grown_plan seed).names u.net (locals_of u) None)
      ∙ demand

pub a_grown_run_is_its_demand : AGrownRunIsItsDemand
a_grown_run_is_its_demand seed = run_is_demand seed (seeds_never_crowd seed)
