-- Scripts of whose lines one reads that nothing goes round in their runs: these end in refreshes, and have the room that is said.
use Rattle.std.proofs.Common.{◌≡◌, ℕ, ◌+◌, ◌*◌, ◌≤◌, List, [], ◌∷◌, ◌++◌, length, false, inl, ⊎_elim, arith, sym, refl, ap, subst, ◌∙◌}
use Rattle.std.specs.List.{filter}
use Rattle.rsvp_base.specs.declared.session.Sender.{Sender}
use Rattle.rsvp_base.specs.declared.session.Session.{Session}
use Rattle.rsvp_base.specs.Members.{In}
use Rattle.rsvp_base.proofs.Members.{in_append, in_each, in_filter, to_each, to_filter}
use Rattle.calm_rounds.specs.Hold.{Visited}
use Rattle.calm_rounds.specs.Machine.{run}
use Rattle.calm_rounds.specs.Rounds.{run_rounds}
use Rattle.calm_rounds.proofs.Holding.{hold_end, visited_map}
use Rattle.router_rules.specs.Inputs.{Stale}
use Rattle.tree_model.specs.declared.locals.LocalSender.{LocalSender}
use Rattle.tree_model.specs.Goals.{DemandsFit}
use Rattle.tree_model.specs.Networks.{Net}
use Rattle.tree_model.specs.Ranks.{longest}
use Rattle.tree_model.specs.Wants.{Locals, live, of_session}
use Rattle.network_model.specs.Bounds.{AreBounds, AreHosts, EndsInCalm, IsSettled, IsStart, all_of}
use Rattle.network_model.specs.Events.{Event, Rounds, all_steps, rounds}
use Rattle.network_model.specs.Locals.{locals_of}
use Rattle.network_model.specs.Runs.{Plan, first_world, is_crowded_run, steps_of_run}
use Rattle.network_model.specs.Steps.{Step, machine}
use Rattle.network_model.specs.Worlds.{Item, World}
use Rattle.laws_network.specs.Known.{IsKnown, IsSameNet}
use Rattle.laws_network.specs.Runs.{AreFitSenders, IsFitRun}
use Rattle.laws_network.proofs.Hosts.{each_world_of_a_run_keeps_the_locals}
use Rattle.laws_network.proofs.Keeping.{calm_rounds_keep_bounds}
use Rattle.laws_network.proofs.Known.{known_hold}
use Rattle.laws_scripts.proofs.EventLines.{each_script_is_a_fit_run}
use Rattle.laws_scripts.proofs.Leading.{led}
use Rattle.laws_scripts.proofs.SenderLines.{each_script_lets_few_send}
use Rattle.script_grammar.specs.Adds.{Adds}
use Rattle.script_grammar.specs.Draft.{Draft, nothing, plan_of, routing}
use Rattle.script_grammar.specs.Grammar.{IsScript, Leads}
use Rattle.script_grammar.specs.Values.{stale_hop_wall_value, stale_path_value, stale_resv_value, stale_sender_wall_value}
use Rattle.script_grammar.specs.declared.line.ScriptLine.{ScriptLine}
use Rattle.script_grammar.specs.declared.line.ScriptLine.TheVariants as line
use Rattle.script_grammar.proofs.Scripts.{leads_one}
use Rattle.script_demand.specs.Findings.{IsFindingsOf}
use Rattle.script_theorem.specs.RoundsAmong.{AreRoundsAndWriting, rounds_among}
use Rattle.script_theorem.specs.Standing.{world_behind}
use Rattle.script_theorem.proofs.LastRounds.{steps_on}
use Rattle.script_theorem.proofs.RoundsAmong.{none_of_them_waits}
use Rattle.script_theorem.proofs.Same.{same_fit}
use Rattle.script_theorem.proofs.WorldDemands.{scripts_stand}
use Rattle.script_theorem.proofs.Writing.{joined, run_then, same_flight}
use Rattle.script_words.specs.Lines.{text_lines}
use Rattle.settle_network.proofs.RunsSettle.{visited_at}
use Rattle.settle_network.proofs.Settled.{run_all}
use Rattle.settle_refreshes.proofs.Rounds.{rounds_leave_nothing}
use Rattle.settle_refreshes.proofs.RoomyRuns.{stays}
use Rattle.settle_refreshes.specs.Plain.{IsPlain, IsPlainStale, to_plain_refreshes}
use Rattle.settle_refreshes.specs.Refreshes.{HasOneSender, HasOnlyRefreshes}
use Rattle.settle_refreshes.proofs.Plain.{a_plain_moment_has_only_refreshes, a_plain_run_ends_in_refreshes}
use Rattle.settle_refreshes.proofs.Settled.{ends_in_refreshes}
use Rattle.script_overhead.specs.Plain.{APlainRunHasTheRoomThatIsSaid, APlainScriptStaysRoomy, ArePlainEvents, EndsPlainly, HasOneSenderEach, StaysRoomy}
use Rattle.script_overhead.specs.Roomy.{EndsSettled, SaysRoomFor, end_of}
use Rattle.script_overhead.proofs.LastRound.{AreCalmRounds, LastRound, all_calm, last_round}
use Rattle.script_overhead.proofs.Runs.{a_settled_run_has_the_room_that_is_said, it_fits}

-- ---- what is left over asks for no confirmation
abbrev PlainLeft : List (ℕ × Stale) → Type 0
PlainLeft ss = (n : ℕ) (i : Stale) → In (n, i) ss → IsPlainStale i

left_more : (ss : List (ℕ × Stale)) (n : ℕ) (i : Stale) → PlainLeft ss → IsPlainStale i → PlainLeft (ss ++ (n, i) ∷ [])
left_more ss n i h plain m j at =
    ⊎_elim (λ (old : In (m, j) ss). h m j old)
    (λ (new : In (m, j) ((n, i) ∷ [])). ⊎_elim (λ (same : (m, j) ≡ (n, i)). subst IsPlainStale (sym (ap (λ (z : ℕ × Stale). z.1) same)) plain) (λ (no : ⊥). absurd no) new)
    (in_append (m, j) ss ((n, i) ∷ []) at)

abbrev left_of : Draft → List (ℕ × Stale)
left_of d = d.stale

left_as : (d new : Draft) → PlainLeft d.stale → new.stale ≡ d.stale → PlainLeft new.stale
left_as d new h same = subst PlainLeft (sym same) h

left_line : (d : Draft) (said : ScriptLine) (new : Draft) → PlainLeft d.stale → Adds d said new → PlainLeft new.stale
left_line d (line.StalePath l) new h adds = subst PlainLeft (sym (ap left_of adds)) (left_more d.stale _ (stale_path_value d l) h tt)
left_line d (line.StaleResv l) new h adds = subst PlainLeft (sym (ap left_of adds)) (left_more d.stale _ (stale_resv_value d l) h refl)
left_line d (line.StaleHopWall l) new h adds = subst PlainLeft (sym (ap left_of adds)) (left_more d.stale _ (stale_hop_wall_value d l) h tt)
left_line d (line.StaleSenderWall l) new h adds = subst PlainLeft (sym (ap left_of adds)) (left_more d.stale _ (stale_sender_wall_value l) h tt)
left_line d (line.Inject l) new h adds = left_as d new h (ap left_of adds.2)
left_line d _ new h adds = left_as d new h (ap left_of adds)

left_plain : (lines : List (List ℕ)) (d : Draft) → Leads nothing lines d → PlainLeft d.stale
left_plain lines d leads = led (λ x. PlainLeft x.stale) (λ a text new h f. left_line a f.said new h f.adds) lines nothing d (λ n i at. absurd at) leads

plain_behind : (lines : List (List ℕ)) (d : Draft) → Leads nothing lines d → ArePlainEvents d.events → IsPlain (plan_of d)
plain_behind lines d leads events = record { stale = left_plain lines d leads; events = events }

-- ---- where the demands of the lines fit, those of the world behind them do
fit_behind : (bytes : List ℕ) (d : Draft) → Leads nothing (text_lines bytes) d → DemandsFit (routing d) d.locals → DemandsFit (world_behind d).net (locals_of (world_behind d))
fit_behind bytes d leads fit =
    let h = scripts_stand bytes d leads in
    subst (λ (net : Net). DemandsFit net (locals_of (world_behind d))) (sym h.net) (same_fit (routing d) (locals_of (world_behind d)) d.locals h.locals fit)

said_fit : (bytes text : List ℕ) (d : Draft) (n : ℕ) → Leads nothing (text_lines bytes) d → IsFindingsOf bytes text → SaysRoomFor n text → DemandsFit (routing d) d.locals
said_fit bytes text d n leads found says =
    let same : found.lines ≡ d = leads_one nothing (text_lines bytes) found.lines d found.leads leads in
    subst (λ (x : Draft). DemandsFit (routing x) x.locals) same (it_fits found.lines n text found.says says found.says.fits refl)

-- ---- a run that ends in calm rounds
module _ (bytes : List ℕ) (d : Draft) (leads : Leads nothing (text_lines bytes) d) (fit : DemandsFit (routing d) d.locals) (ends : EndsPlainly (plan_of d)) where
  abbrev p : Plan
  p = plan_of d

  is : IsScript bytes p
  is = record { lines = d; leads = leads; says = refl }

  settled : IsSettled p.quarter (first_world p) (steps_of_run p)
  settled = record {
    before = ends.calm.before;
    rounds = ends.calm.rounds;
    parts = ends.calm.parts;
    calm = ends.calm.calm;
    enough = let more = ends.calm.enough in omega (arith, more);
  }

  fit_begun : DemandsFit (run (machine p.quarter) ends.calm.before (first_world p)).net (locals_of (run (machine p.quarter) ends.calm.before (first_world p)))
  unfolding settled
  fit_begun =
      let same = stays p (each_script_is_a_fit_run bytes p is) (each_script_lets_few_send bytes p is) settled in
      subst (λ (l : Locals). DemandsFit (run (machine p.quarter) ends.calm.before (first_world p)).net l) same.locals
      (subst (λ (net : Net). DemandsFit net (locals_of (end_of p))) same.net (fit_behind bytes d leads fit))

  ends_settled : EndsSettled p
  ends_settled = record {
    uncrowded = ends.uncrowded;
    settled = settled;
    refreshes = a_plain_run_ends_in_refreshes p (each_script_is_a_fit_run bytes p is) (each_script_lets_few_send bytes p is) (plain_behind (text_lines bytes) d leads ends.plain) ends.calm fit_begun;
  }

pub a_plain_run_has_the_room_that_is_said : APlainRunHasTheRoomThatIsSaid
a_plain_run_has_the_room_that_is_said bytes text p n is found says ends =
    let d : Draft = is.lines in
    let fit = said_fit bytes text d n is.leads found says in
    a_settled_run_has_the_room_that_is_said bytes text p n is found says
    (subst EndsSettled (sym is.says) (ends_settled bytes d is.leads fit (subst EndsPlainly is.says ends)))

-- ---- a run that ends in rounds, with lines that only write among them
module _ (bytes : List ℕ) (d : Draft) (leads : Leads nothing (text_lines bytes) d) (fit : DemandsFit (routing d) d.locals) (before fs : List Event) (parts : d.events ≡ before ++ fs)
    (are : AreRoundsAndWriting fs) (some : 1 ≤ rounds_among fs) where
  abbrev plan : Plan
  plan = plan_of d

  abbrev q : ℕ
  q = plan.quarter

  script : IsScript bytes plan
  script = record { lines = d; leads = leads; says = refl }

  fit_run : IsFitRun plan
  fit_run = each_script_is_a_fit_run bytes plan script

  senders : AreFitSenders plan
  senders = each_script_lets_few_send bytes plan script

  abbrev front : List Step
  front = all_steps q before (first_world plan)

  -- where the rounds begin
  abbrev o : World
  o = run (machine q) front (first_world plan)

  whole : AreCalmRounds q o (all_steps q fs o) (rounds_among fs)
  whole = all_calm q fs o are some

  steps : steps_of_run plan ≡ front ++ all_steps q fs o
  steps = ap (λ (es : List Event). all_steps q es (first_world plan)) parts ∙ steps_on q before fs (first_world plan)

  calm_steps : steps_of_run plan ≡ front ++ all_of whole.rounds
  calm_steps = steps ∙ ap (λ (ss : List Step). front ++ ss) whole.parts

  ended : end_of plan ≡ run_rounds (machine q) whole.rounds o
  ended =
      ap (λ (ss : List Step). run (machine q) ss (first_world plan)) calm_steps ∙ run_then q front (all_of whole.rounds) (first_world plan)
      ∙ run_all q whole.rounds o

  kept : AreBounds q o × AreHosts o
  kept =
      visited_at q (λ u. AreBounds q u × AreHosts u) front (all_steps q fs o) (first_world plan)
      (subst (λ (ss : List Step). Visited (machine q) (λ u. AreBounds q u × AreHosts u) ss (first_world plan)) steps (each_world_of_a_run_keeps_the_locals plan fit_run senders))

  same : IsSameNet o (end_of plan)
  same =
      subst (IsSameNet o) (sym ended)
      (hold_end (machine q) (IsKnown q o) 0 whole.rounds o (omega arith)
      (known_hold q o whole.rounds whole.calm (calm_rounds_keep_bounds q o whole.rounds whole.calm kept.0))).same

  net_is : o.net ≡ routing d
  net_is = sym same.net ∙ (scripts_stand bytes d leads).net

  fit_there : DemandsFit o.net (locals_of o)
  fit_there =
      subst (λ (l : Locals). DemandsFit o.net l) same.locals (subst (λ (net : Net). DemandsFit net (locals_of (end_of plan))) same.net (fit_behind bytes d leads fit))

  start : IsStart q o
  start = record { bounds = kept.0; locals = kept.1; fit = fit_there }

  -- ---- the last round, behind at least one more
  module _ (l : LastRound q fs) (more : 1 ≤ rounds_among l.es) where
    first_rounds : AreCalmRounds q o (all_steps q l.es o) (rounds_among l.es)
    first_rounds = all_calm q l.es o l.first more

    abbrev u : World
    u = run_rounds (machine q) first_rounds.rounds o

    -- where it begins, and where it ends
    abbrev x : World
    x = run (machine q) (all_steps q l.es o) o

    abbrev v : World
    v = run (machine q) (rounds q 1 x) x

    abbrev still : List Step
    still = all_steps q l.gs v

    abbrev later : List Step
    later = rounds q 1 x ++ still

    u_is : x ≡ u
    u_is = ap (λ (ss : List Step). run (machine q) ss o) first_rounds.parts ∙ run_all q first_rounds.rounds o

    last_parts : all_steps q fs o ≡ all_steps q l.es o ++ later
    last_parts = l.steps o ∙ steps_on q l.es (Rounds 1 ∷ l.gs) o

    ended_in : end_of plan ≡ run (machine q) still v
    ended_in =
        ap (λ (ss : List Step). run (machine q) ss (first_world plan)) (steps ∙ ap (λ (ss : List Step). front ++ ss) last_parts)
        ∙ run_then q front (all_steps q l.es o ++ later) (first_world plan) ∙ run_then q (all_steps q l.es o) later o ∙ run_then q (rounds q 1 x) still x

    -- where only refreshes are in flight when it begins, it leaves nothing
    module _ (enough : 13 * longest o.net + 13 ≤ rounds_among l.es) (only : HasOnlyRefreshes u) where
      none_left : (end_of plan).flight ≡ []
      none_left =
          ap (λ (w : World). w.flight) ended_in ∙ same_flight q still v (none_of_them_waits q l.gs v l.rest l.none)
          ∙ ap (λ (w : World). (run (machine q) (rounds q 1 w) w).flight) u_is
          ∙ rounds_leave_nothing q 0 o first_rounds.rounds first_rounds.calm start (let n = first_rounds.many in omega (arith, enough, n)) only

      settled_then : IsSettled q (first_world plan) (steps_of_run plan)
      settled_then = record {
        before = front;
        rounds = whole.rounds;
        parts = calm_steps;
        calm = whole.calm;
        enough = let n = whole.many in let m = l.number in omega (arith, enough, m, n);
      }

      stays_roomy : (text : List ℕ) (n : ℕ) → IsFindingsOf bytes text → SaysRoomFor n text → is_crowded_run plan ≡ false → StaysRoomy n plan
      stays_roomy text n found says free =
          let room = a_settled_run_has_the_room_that_is_said bytes text plan n script found says
          (record { uncrowded = free; settled = settled_then; refreshes = λ y i. absurd (subst (λ (xs : List Item). In y xs) none_left i) }) in
          let none : length (end_of plan).flight ≡ 0 = ap (λ (xs : List Item). length xs) none_left in
          let few = says.few in
          record {
            nothing = none_left;
            most = λ j. visited_map (machine q) (λ w. length w.flight ≤ length (end_of plan).flight + n) (λ w. length w.flight ≤ n) (λ w le. omega (arith, le, none))
                (rounds q j (end_of plan)) (end_of plan) (room.most j);
            never_crowded = λ j. room.never_crowded (omega (arith, none, few)) j;
          }

    -- ---- where none of the lines injects or asks for a confirmation
    module _ (events : ArePlainEvents d.events) (enough : 13 * longest o.net + 14 ≤ rounds_among l.es) where
      abbrev ss : List Step
      ss = front ++ all_of first_rounds.rounds

      moment : EndsInCalm to_plain_refreshes q (first_world plan) ss
      moment = record {
        before = front;
        rounds = first_rounds.rounds;
        parts = refl;
        calm = first_rounds.calm;
        enough = let n = first_rounds.many in omega (arith, enough, n);
      }

      in_front : steps_of_run plan ≡ ss ++ later
      in_front =
          steps ∙ ap (λ (z : List Step). front ++ z) (last_parts ∙ ap (λ (z : List Step). z ++ later) first_rounds.parts)
          ∙ sym (joined q front (all_of first_rounds.rounds) later)

      plain_only : HasOnlyRefreshes u
      unfolding moment
      plain_only =
          subst HasOnlyRefreshes (run_then q front (all_of first_rounds.rounds) (first_world plan) ∙ run_all q first_rounds.rounds o)
          (a_plain_moment_has_only_refreshes plan fit_run senders (plain_behind (text_lines bytes) d leads events) ss later in_front moment fit_there)

    -- ---- where each session has one sender
    module _ (one : HasOneSenderEach d) (enough : 14 * longest o.net + 15 ≤ rounds_among l.es) where
      among : (s : Session) (y : Sender) → In y (live (locals_of o) s) → In y (live d.locals s)
      among s y i =
          let asked = (scripts_stand bytes d leads).locals in
          let e = in_each (λ (z : LocalSender). z.sender) y (filter (of_session s) (locals_of o).senders) i in
          let f = in_filter (of_session s) e.0 (locals_of o).senders e.1 in
          let there = (asked.senders e.0).0 (subst (λ (k : Locals). In e.0 k.senders) (sym same.locals) f.0) in
          subst (λ (z : Sender). In z (live d.locals s)) (sym e.2)
          (to_each (λ (z : LocalSender). z.sender) e.0 (filter (of_session s) d.locals.senders) (to_filter (of_session s) e.0 d.locals.senders there f.1))

      one_there : (s : Session) → HasOneSender o s
      one_there s a b i j = one s a b (among s a i) (among s b j)

      one_only : HasOnlyRefreshes u
      one_only =
          ends_in_refreshes q o first_rounds.rounds first_rounds.calm start (record { errors = λ s. inl (one_there s); confirmations = inl one_there })
          (let n = first_rounds.many in omega (arith, enough, n))

pub a_plain_script_stays_roomy : APlainScriptStaysRoomy
a_plain_script_stays_roomy bytes text d n leads found says ends free =
    let fit = said_fit bytes text d n leads found says in
    ⊎_elim
    (λ (h : ArePlainEvents d.events × (13 * longest (routing d) + 15 ≤ rounds_among ends.last)).
    let many = h.1 in
    let some : 1 ≤ rounds_among ends.last = omega (arith, many) in
    let l = last_round (plan_of d).quarter ends.last ends.only some in
    let number = l.number in
    let more : 1 ≤ rounds_among l.es = omega (arith, many, number) in
    let long : longest (o bytes d leads fit ends.before ends.last ends.parts ends.only some).net ≡ longest (routing d) =
    ap longest (net_is bytes d leads fit ends.before ends.last ends.parts ends.only some) in
    stays_roomy bytes d leads fit ends.before ends.last ends.parts ends.only some l more (omega (arith, many, number, long))
    (plain_only bytes d leads fit ends.before ends.last ends.parts ends.only some l more h.0 (omega (arith, many, number, long))) text n found says free)
    (λ (h : HasOneSenderEach d × (14 * longest (routing d) + 16 ≤ rounds_among ends.last)).
    let many = h.1 in
    let some : 1 ≤ rounds_among ends.last = omega (arith, many) in
    let l = last_round (plan_of d).quarter ends.last ends.only some in
    let number = l.number in
    let more : 1 ≤ rounds_among l.es = omega (arith, many, number) in
    let long : longest (o bytes d leads fit ends.before ends.last ends.parts ends.only some).net ≡ longest (routing d) =
    ap longest (net_is bytes d leads fit ends.before ends.last ends.parts ends.only some) in
    stays_roomy bytes d leads fit ends.before ends.last ends.parts ends.only some l more (omega (arith, many, number, long))
    (one_only bytes d leads fit ends.before ends.last ends.parts ends.only some l more h.0 (omega (arith, many, number, long))) text n found says free)
    ends.enough
