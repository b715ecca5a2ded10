-- A run that has settled has the room that `check` says of its script.
use Rattle.std.proofs.Common.{◌≡◌, ℕ, suc, List, [], ◌++◌, Bool, true, false, sym, refl, ap, subst, ◌∙◌}
use Rattle.calm_rounds.specs.Hold.{Visited}
use Rattle.calm_rounds.specs.Machine.{run}
use Rattle.calm_rounds.specs.Rounds.{run_rounds}
use Rattle.tree_model.specs.Goals.{DemandsFit}
use Rattle.tree_model.specs.Networks.{Net}
use Rattle.tree_model.specs.Wants.{Locals}
use Rattle.network_model.specs.Bounds.{AreBounds, AreHosts, all_of}
use Rattle.network_model.specs.Events.{rounds}
use Rattle.network_model.specs.Locals.{locals_of}
use Rattle.network_model.specs.Runs.{Plan, first_world}
use Rattle.network_model.specs.Steps.{Step, machine}
use Rattle.network_model.specs.Worlds.{World}
use Rattle.network_demand.specs.Overhead.{overhead}
use Rattle.laws_network.specs.Runs.{AreFitSenders, IsFitRun}
use Rattle.laws_network.proofs.Hosts.{each_world_of_a_run_keeps_the_locals}
use Rattle.laws_scripts.proofs.EventLines.{each_script_is_a_fit_run}
use Rattle.laws_scripts.proofs.SenderLines.{each_script_lets_few_send}
use Rattle.script_grammar.specs.Draft.{Draft, nothing, plan_of, routing}
use Rattle.script_grammar.specs.Grammar.{IsScript, Leads}
use Rattle.script_grammar.proofs.Scripts.{leads_one}
use Rattle.script_demand.specs.Begun.{begun_by}
use Rattle.script_demand.specs.Findings.{IsFindingsText}
use Rattle.script_demand.specs.Texts.{findings_text, room_text}
use Rattle.script_demand.proofs.Sayings.{said_unfit}
use Rattle.script_theorem.specs.Standing.{world_behind}
use Rattle.script_theorem.proofs.Same.{same_fit}
use Rattle.script_theorem.proofs.WorldDemands.{scripts_stand}
use Rattle.script_words.specs.Lines.{text_lines}
use Rattle.settle_network.proofs.RunsSettle.{visited_at}
use Rattle.settle_network.proofs.Settled.{run_all, run_then}
use Rattle.settle_refreshes.proofs.Rounds.{rounds_leave_nothing}
use Rattle.settle_refreshes.proofs.RoomyRuns.{a_settled_run_never_crowds, settled_rounds_are_roomy, stays}
use Rattle.settle_refreshes.specs.Refreshes.{HasOnlyRefreshes}
use Rattle.script_overhead.specs.Roomy.{ASettledRunHasTheRoomThatIsSaid, EndsSettled, HasRoomFor, SaysRoomFor, end_of}
use Rattle.script_overhead.proofs.LastLines.{last_number}
use Rattle.script_overhead.proofs.Overheads.{overheads_stand}

-- ---- what is said
module _ (d : Draft) (n : ℕ) (text : List ℕ) (t : IsFindingsText d.nodes d.names (routing d) d.locals (begun_by d.events) text) (says : SaysRoomFor n text) where
  pub it_fits : (b : Bool) → t.fits ≡ b → DemandsFit (routing d) d.locals
  it_fits true is = t.told.0 is
  it_fits false is =
      absurd (says.fits (said_unfit d.nodes d.names (routing d) d.locals (begun_by d.events) text t (λ fit. let no : false ≡ true = sym is ∙ t.told.1 fit in absurd (cc))))

  abbrev found : List ℕ
  found = findings_text d.nodes d.names (routing d).ends d.locals t.found

  pub it_is : n ≡ overhead (routing d) d.locals
  it_is =
      let fits : t.fits ≡ true = t.told.1 (it_fits t.fits refl) in
      last_number says.front found n (overhead (routing d) d.locals) says.few (sym says.ends ∙ t.text_is ∙ ap (λ (b : Bool). found ++ room_text b (overhead (routing d) d.locals)) fits)

-- ---- the run of a plan behind whose end the demands fit and the overhead is this
module _ (p : Plan) (fit_run : IsFitRun p) (senders : AreFitSenders p) (ends : EndsSettled p) (fit : DemandsFit (end_of p).net (locals_of (end_of p))) where
  abbrev begun : World
  begun = run (machine p.quarter) ends.settled.before (first_world p)

  fit_then : DemandsFit begun.net (locals_of begun)
  fit_then =
      let same = stays p fit_run senders ends.settled in
      subst (λ (l : Locals). DemandsFit begun.net l) same.locals (subst (λ (net : Net). DemandsFit net (locals_of (end_of p))) same.net fit)

  kept : AreBounds p.quarter begun × AreHosts begun
  kept =
      visited_at p.quarter (λ v. AreBounds p.quarter v × AreHosts v) ends.settled.before (all_of ends.settled.rounds) (first_world p)
      (subst (λ (z : List Step). Visited (machine p.quarter) (λ v. AreBounds p.quarter v × AreHosts v) z (first_world p)) ends.settled.parts
      (each_world_of_a_run_keeps_the_locals p fit_run senders))

  end_is : end_of p ≡ run_rounds (machine p.quarter) ends.settled.rounds begun
  end_is =
      ap (λ (z : List Step). run (machine p.quarter) z (first_world p)) ends.settled.parts ∙ run_then p.quarter ends.settled.before (all_of ends.settled.rounds) (first_world p)
      ∙ run_all p.quarter ends.settled.rounds begun

  left : (m : ℕ) → (run (machine p.quarter) (rounds p.quarter (suc m) (end_of p)) (end_of p)).flight ≡ []
  left m =
      subst (λ (w : World). (run (machine p.quarter) (rounds p.quarter (suc m) w) w).flight ≡ []) (sym end_is)
      (rounds_leave_nothing p.quarter m begun ends.settled.rounds ends.settled.calm (record { bounds = kept.0; locals = kept.1; fit = fit_then }) ends.settled.enough
      (subst HasOnlyRefreshes end_is ends.refreshes))

  room_of_overhead : HasRoomFor (overhead (end_of p).net (locals_of (end_of p))) p
  room_of_overhead = record {
    most = λ m. settled_rounds_are_roomy p fit_run senders ends.settled fit_then ends.refreshes m;
    nothing_left = left;
    never_crowded = λ few m. a_settled_run_never_crowds p fit_run senders ends.settled ends.uncrowded fit_then ends.refreshes few m;
  }

-- ---- both
module _ (bytes : List ℕ) (d : Draft) (leads : Leads nothing (text_lines bytes) d) (ends : EndsSettled (plan_of d)) (fit : DemandsFit (routing d) d.locals) where
  there : DemandsFit (world_behind d).net (locals_of (world_behind d))
  there =
      let h = scripts_stand bytes d leads in
      subst (λ (net : Net). DemandsFit net (locals_of (world_behind d))) (sym h.net) (same_fit (routing d) (locals_of (world_behind d)) d.locals h.locals fit)

  pub room_of_lines : HasRoomFor (overhead (routing d) d.locals) (plan_of d)
  room_of_lines =
      let is : IsScript bytes (plan_of d) = record { lines = d; leads = leads; says = refl } in
      subst (λ (n : ℕ). HasRoomFor n (plan_of d)) (overheads_stand bytes d leads)
      (room_of_overhead (plan_of d) (each_script_is_a_fit_run bytes (plan_of d) is) (each_script_lets_few_send bytes (plan_of d) is) ends there)

pub a_settled_run_has_the_room_that_is_said : ASettledRunHasTheRoomThatIsSaid
a_settled_run_has_the_room_that_is_said bytes text p n is found says ends =
    let d : Draft = found.lines in
    let same : is.lines ≡ d = leads_one nothing (text_lines bytes) is.lines d is.leads found.leads in
    let plan : p ≡ plan_of d = is.says ∙ ap plan_of same in
    let room : HasRoomFor (overhead (routing d) d.locals) (plan_of d) =
    room_of_lines bytes d found.leads (subst EndsSettled plan ends) (it_fits d n text found.says says found.says.fits refl) in
    subst (HasRoomFor n) (sym plan) (subst (λ (k : ℕ). HasRoomFor k (plan_of d)) (sym (it_is d n text found.says says)) room)
