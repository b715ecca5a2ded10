-- Events that were run behind a plan.
use Rattle.std.proofs.Common.{◌≡◌, ◌≢◌, ℕ, List, [], ◌∷◌, ◌++◌, Option, None, Some, Bool, true, false, refl, sym, ap, subst, ◌∙◌, inl, inr}
use Rattle.std.specs.Prelude.{Result, Ok, Err, IfOk}
use Rattle.calm_rounds.specs.Machine.{run}
use Rattle.script_grammar.specs.Events.{Event, steps_of}
use Rattle.script_grammar.specs.Runs.{Plan, first_world, is_crowded_run, last_world, run_text, text_of}
use Rattle.script_grammar.specs.Worlds.{World}
use Rattle.script_grammar.specs.Draft.{Draft, plan_of}
use Rattle.script_grammar.specs.Asking.{AsksToBeTaken}
use Rattle.script_grammar.specs.Grammar.{Follows, HasFault}
use Rattle.script_grammar.specs.declared.stop.Stop.{Stop}
use Rattle.script_grammar.specs.declared.stop.Stop.TheVariants as stop
use Rattle.stale_state.specs.Fit.{AreFitAll}
use Rattle.stale_state.specs.declared.fact.LeftOver.{LeftOver}
use Rattle.tree_model.specs.Networks.{Net}
use Rattle.network_replay.specs.Agreeing.{Agrees, NetworkState}
use Rattle.network_replay.specs.Following.{Seen}
use Rattle.network_replay.specs.Happening.{takes_memory}
use Rattle.network_model.specs.Happenings.{event_with}
use Rattle.network_model.specs.declared.event.Event.{Event as CodeEvent}
use Rattle.network_model.specs.declared.event.Event.TheVariants as event
use Rattle.router_rules.specs.Inputs.{Arrival}
use Rattle.network_replay.specs.Opening.{IsOpenedBy}
use Rattle.network_replay.specs.Running.{Makes, Ran}
use Rattle.network_replay.specs.declared.no_tree.NoTree.{NoTree}
use Rattle.network_replay.specs.declared.world_err.WorldErr.{WorldErr}
use Rattle.network_replay.specs.declared.world_err.WorldErr.TheVariants.{Crowded, NoMemory}
use Rattle.script_run.specs.Asking.{AsksToBeRun, asks_memory, to_be_taken, to_open, to_run}
use Rattle.script_run.specs.Playing.{IsCrowdedBy, IsRunOn, StaysAt, Stops}
use Rattle.script_run.specs.Written.{IsRunSoFar, with_event}
use Rattle.script_run.proofs.Adding.{event_line, not_empty, quiet_line, quiet_run}
use Rattle.script_run.proofs.Runs.{crowded_by, last_with, no_steps, text_with}
use Rattle.script_run.proofs.Routes.{IsRouted, event_routed, quiet_routed}
use Rattle.script_run.specs.Checking.{Feeds}
use Rattle.script_run.specs.Standing.{IsAt, IsNetworkOf, RunsOn, RunsOnto, StandsBehind}

-- what is left over is fit for the network that the lines declare
pub fit_start : (p : Plan) (q seed : ℕ) (net : Net) (names : List (List ℕ)) (ls : List LeftOver) → IsOpenedBy p q seed net names → AreFitAll p.quarter p.net ls → AreFitAll q net ls
fit_start p q seed net names ls o fit = subst (λ (k : ℕ). AreFitAll k net ls) o.quarter_is (subst (λ (n : Net). AreFitAll p.quarter n ls) o.net_is fit)

-- the event of code asks for memory where that of the plan does
asks_so : (p : Plan) (a : Arrival) (trace : Bool) → trace ≡ (last_world p).trace → (e : CodeEvent) → takes_memory trace e ≡ true → asks_memory p (event_with a e) ≡ true
asks_so p a t same (event.Local node c) h = sym same ∙ h
asks_so p a t same (event.Wait ms) h = sym same ∙ h
asks_so p a t same (event.Pass times) h = sym same ∙ h
asks_so p a t same (event.Deliver place) h = sym same ∙ h
asks_so p a t same (event.Lose place) h = sym same ∙ h
asks_so p a t same (event.Again place) h = sym same ∙ h
asks_so p a t same (event.Clear node) h = sym same ∙ h
asks_so p a t same (event.Rounds times) h = sym same ∙ h
asks_so p a t same (event.Trace on) h = sym same ∙ h
asks_so p a t same (event.Report end) h = refl
asks_so p a t same event.Flags h = refl
asks_so p a t same event.Adverts h = refl
asks_so p a t same (event.Inject end dst bytes) h = sym same ∙ h
asks_so p a t same (event.Reroute group source hops) h = refl

module _ {R : Type 0} (see : Seen R) where
  ran_on : (old v : NetworkState R) (p : Plan) (e : Event) (r : Result (Unit {0}) WorldErr) (before after : List ℕ) → StandsBehind see old p → is_crowded_run p ≡ false → v.names ≡ old.names
      → Ran see p.quarter old.names r before after v (steps_of p.quarter e (last_world p)) (last_world p) → (r ≡ Err NoMemory → asks_memory p e ≡ true) → RunsOn see p e r before after v
  ran_on old v p e (Ok _) before after s roomy names ran asked =
      let w = last_world p in
      let steps = steps_of p.quarter e w in
      let free : is_crowded_run (with_event p e) ≡ false = crowded_by p e roomy ∙ ran.0 in
      let there = subst (λ (x : World). Agrees see p.quarter v x) (sym (last_with p e roomy free)) ran.1 in
      record {
        own = text_of p.quarter old.names steps w;
        appended = ran.2;
        roomy = free;
        text_is = text_with p e roomy free ∙ ap (λ (ns : List (List ℕ)). run_text p ++ text_of p.quarter ns steps w) (sym s.names);
        stands = record { agrees = there; names = names ∙ s.names };
      }
  ran_on old v p e (Err Crowded) before after s roomy names ran asked = crowded_by p e roomy ∙ ran.0
  ran_on old v p e (Err NoMemory) before after s roomy names ran asked = asked refl

  runs_on : (old v : NetworkState R) (p : Plan) (a : Arrival) (e : CodeEvent) (r : Result (Unit {0}) WorldErr) (before after : List ℕ) → StandsBehind see old p → is_crowded_run p ≡ false
      → v.names ≡ old.names → Makes see old r before after v (λ q w. steps_of q (event_with a e) w)
      → (old.refused ≡ None → r ≡ Err NoMemory → takes_memory old.trace e ≡ true) → RunsOn see p (event_with a e) r before after v
  runs_on old v p a e r before after s roomy names made only =
      ran_on old v p (event_with a e) r before after s roomy names (made p.quarter (last_world p) s.agrees) (λ is. asks_so p a old.trace s.agrees.trace e (only s.agrees.going is))

  -- where the network could have its tree
  pub had_runs_on : (old v : NetworkState R) (p : Plan) (a : Arrival) (e : CodeEvent) (r : Result (Result (Unit {0}) WorldErr) NoTree) (before after : List ℕ) → StandsBehind see old p
      → is_crowded_run p ≡ false → v.names ≡ old.names → IfOk r (λ x. Makes see old x before after v (λ q w. steps_of q (event_with a e) w))
      → (old.refused ≡ None → IfOk r (λ x. x ≡ Err NoMemory → takes_memory old.trace e ≡ true)) → IfOk r (λ x. RunsOn see p (event_with a e) x before after v)
  had_runs_on old v p a e (Ok x) before after s roomy names made only = runs_on old v p a e x before after s roomy names made only
  had_runs_on old v p a e (Err n) before after s roomy names made only = tt

  -- ---- a network that was opened
  pub opened_behind : (v : NetworkState R) (p : Plan) (q : ℕ) (names : List (List ℕ)) → p.events ≡ [] → p.quarter ≡ q → p.names ≡ names → v.names ≡ names → Agrees see q v (first_world p)
      → StandsBehind see v p
  opened_behind v p q names none quarter named is agrees = record {
    agrees = subst (λ n. Agrees see n v (last_world p)) (sym quarter) (subst (λ (w : World). Agrees see q v w) (sym (no_steps p none)) agrees);
    names = is ∙ sym named;
  }

  pub onto : (v : NetworkState R) (p : Plan) (e : Event) (r : Result (Unit {0}) WorldErr) (before after : List ℕ) → RunsOn see p e r before after v → RunsOnto see p e r before after (Some v)
  onto v p e (Ok _) before after ran = (v, refl, ran)
  onto v p e (Err Crowded) before after ran = ran
  onto v p e (Err NoMemory) before after ran = inr ran

  -- ---- a line that was not taken: what checks lines is never crowded
  pub not_taken : (old new d : Draft) (t : List ℕ) (world : Option (NetworkState R)) (why : Stop) → old ≡ d → Feeds old t (Err why) new → IsNetworkOf see world (plan_of d)
      → IsRouted d → Stops why d t × StaysAt (λ x. IsAt see new world x) d why
  not_taken old new d t world (stop.Bad why) same fed n routed = (subst (λ (x : Draft). HasFault x t why) same fed.0, record { same = fed.1 ∙ same; network = n; routed = routed })
  not_taken old new d t world stop.Crowded same fed n routed = absurd fed
  not_taken old new d t world stop.NoMemory same fed n routed = (to_be_taken (subst (λ (x : Draft). AsksToBeTaken x t) same fed), tt)

  -- ---- a line that adds no event
  still_network : (d : Draft) (t : List ℕ) (new : Draft) (world : Option (NetworkState R)) → Follows d t new → new.events ≡ d.events → IsNetworkOf see world (plan_of d)
      → IsNetworkOf see world (plan_of new)
  still_network d t new None f same n = same ∙ n
  still_network d t new (Some v) f same n = elim (quiet_line d t new f same) [
    | inl e ↦ subst (λ (x : Draft). IsNetworkOf see (Some v) (plan_of x)) (sym e) n
    | inr e ↦ absurd (n.0 e.0)
  ]

  pub quiet_on : (d : Draft) (t : List ℕ) (new : Draft) (world : Option (NetworkState R)) (said : List ℕ) → Follows d t new → new.events ≡ d.events → IsNetworkOf see world (plan_of d)
      → IsRouted d → IsRunSoFar d said → IsRunOn (λ x. IsAt see new world x) d t said []
  quiet_on d t new world said f same n routed run =
      record {
        new = new;
        follows = f;
        stands_there = record { same = refl; network = still_network d t new world f same n; routed = quiet_routed d t new f same routed };
        run = quiet_run d t new said f same run;
      }

  -- ---- a line that adds one
  some_events : (d new : Draft) (e : Event) → new.events ≡ d.events ++ e ∷ [] → new.events ≢ []
  some_events d new e added none = not_empty d.events e (sym added ∙ none)

  pub event_on : (d : Draft) (t : List ℕ) (new : Draft) (world : Option (NetworkState R)) (said before after : List ℕ) (e : Event) → Follows d t new → new.events ≡ d.events ++ e ∷ []
      → IsRouted d → IsRunSoFar d said → RunsOnto see (plan_of d) e (Ok tt) before after world
      → (own : List ℕ) × (after ≡ before ++ own) × IsRunOn (λ x. IsAt see new world x) d t said own
  event_on d t new world said before after e f added routed run ran =
      let (v, is, on) = ran in
      let plan = event_line d t new e f added in
      let stands : StandsBehind see v (plan_of new) = subst (λ (p : Plan). StandsBehind see v p) (sym plan) on.stands in
      let network : IsNetworkOf see world (plan_of new) = subst (λ (o : Option (NetworkState R)). IsNetworkOf see o (plan_of new)) (sym is) (some_events d new e added, stands) in (
        on.own,
        on.appended,
        record {
          new = new;
          follows = f;
          stands_there = record { same = refl; network = network; routed = event_routed d t new e f added plan run.roomy on.roomy routed };
          run = record {
            roomy = ap is_crowded_run plan ∙ on.roomy;
            text_is = ap (λ (s : List ℕ). s ++ on.own) run.text_is ∙ sym on.text_is ∙ ap run_text (sym plan);
          };
        },
      )

  pub event_crowds : (d : Draft) (t : List ℕ) (new : Draft) (world : Option (NetworkState R)) (before after : List ℕ) (e : Event) → Follows d t new → new.events ≡ d.events ++ e ∷ []
      → RunsOnto see (plan_of d) e (Err Crowded) before after world → IsCrowdedBy d t
  event_crowds d t new world before after e f added ran = record { new = new; follows = f; crowded = ap is_crowded_run (event_line d t new e f added) ∙ ran }

  -- memory ran out, as the network was opened or as the event was run
  pub event_asks : (d : Draft) (t : List ℕ) (new : Draft) (world : Option (NetworkState R)) (before after : List ℕ) (e : Event) → Follows d t new → new.events ≡ d.events ++ e ∷ []
      → RunsOnto see (plan_of d) e (Err NoMemory) before after world → AsksToBeRun d t
  event_asks d t new world before after e f added ran = elim ran [
    | inl first ↦ to_open new f first (some_events d new e added)
    | inr asks ↦ to_run new e f added asks
  ]
