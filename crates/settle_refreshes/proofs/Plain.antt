-- Plain runs: in each of their worlds nobody waits and nothing may go round, so that they end in refreshes.
use Rattle.std.proofs.Common.{◌≡◌, ◌⊎◌, ℕ, ◌+◌, ◌*◌, ◌≤◌, List, [], ◌∷◌, Bool, true, false, cond, Option, None, Some, inl, inr, ⊎_elim, arith, sym, refl, ap, subst, ◌∙◌}
use Rattle.std.specs.Prelude.{slice_get, ◌==◌, ◌++◌}
use Rattle.std.proofs.lemmas.List.{append-nil}
use Rattle.rsvp_base.specs.declared.session.Session.{Session}
use Rattle.rsvp_base.specs.declared.style.StyleKind.{StyleKind}
use Rattle.rsvp_base.specs.declared.style.StyleKind.TheVariants.{Wild, Fixed, Shared}
use Rattle.rsvp_base.specs.Members.{In}
use Rattle.rsvp_base.specs.Table.{get, put_in}
use Rattle.rsvp_base.proofs.Members.{in_append}
use Rattle.rsvp_base.proofs.Tables.{got_put_in}
use Rattle.style_rules.specs.Lines.{LineKey, line_keys}
use Rattle.calm_rounds.specs.Hold.{Visited}
use Rattle.calm_rounds.specs.Machine.{run}
use Rattle.calm_rounds.specs.Rounds.{run_rounds}
use Rattle.calm_rounds.proofs.Holding.{hold_end, visited_start}
use Rattle.router_rules.specs.declared.answers.StaleErr.{StaleErr}
use Rattle.router_rules.specs.Calls.{act_stale, stale_refusal, unless, with_left}
use Rattle.router_rules.specs.Facts.{Facts, ResvState, Want, WantKey, Wants, no_facts, resvs_of}
use Rattle.router_rules.specs.Inputs.{Stale, StalePath, StaleResv, StaleWall}
use Rattle.router_rules.specs.NodeConfig.{NodeConfig}
use Rattle.router_rules.specs.Rule.{facts_with}
use Rattle.laws_bounds.proofs.Leaving.{forgetting_by_names, left_told}
use Rattle.tree_model.specs.Goals.{DemandsFit}
use Rattle.tree_model.specs.Ranks.{longest}
use Rattle.tree_model.specs.Trees.{trees_of}
use Rattle.network_model.specs.Bounds.{AreBounds, AreHosts, EndsInCalm, all_of}
use Rattle.network_model.specs.Events.{AtNode, ClearNode, CopyAt, DeliverAt, Event, Injects, LoseAt, Pass, Reports, ReportsAdverts, ReportsFlags, Reroutes, Rounds, Traces, Waits}
use Rattle.network_model.specs.Events.{all_steps, steps_of}
use Rattle.network_model.specs.Locals.{locals_of}
use Rattle.network_model.specs.Runs.{Plan, first_facts, first_world, left_over, steps_of_run}
use Rattle.network_model.specs.Steps.{Adverts, At, ClearAt, Copy, Deliver, Flags, Inject, Lose, Piece, Report, Reroute, Step, Trace, is_calm, is_quiet, machine, sent, step}
use Rattle.network_model.specs.Worlds.{Item, World, config_of}
use Rattle.network_model.proofs.Machines.{in_flight_after}
use Rattle.laws_network.specs.Runs.{AreFitSenders, IsFitRun}
use Rattle.laws_network.proofs.Beginning.{each_found}
use Rattle.laws_network.proofs.Hosts.{each_world_of_a_run_keeps_the_locals}
use Rattle.laws_network.proofs.Runs.{each_world_of_a_run_is_within_bounds, no_time, passes_calm, pieces_calm, place_calm, rounds_calm}
use Rattle.settle_network.proofs.RunsSettle.{joined, visited_at}
use Rattle.settle_network.proofs.Settled.{run_all, run_then}
use Rattle.settle_refreshes.specs.Plain.{InjectsNothing, IsPlain, IsPlainEvent, IsPlainStale, IsPlainWorld, NoErrorIsForAll, StaysPlain, to_plain_refreshes}
use Rattle.settle_refreshes.specs.Refreshes.{HasNoErrorForAll, HasNothingElse, HasOnlyRefreshes, IsConfirmation, IsErrorForAll, IsRefresh, MayGoRound, NobodyWaits}
use Rattle.settle_refreshes.proofs.Confirming.{style_at}
use Rattle.settle_refreshes.proofs.Loud.{IsNoInjection, IsPlainStep, in_flight_then, no_conf_sent_loud, no_error_for_all_loud, no_injection, nobody_waits_loud}
use Rattle.settle_refreshes.proofs.Settled.{nothing_else}
use Rattle.settle_refreshes.proofs.Waiting.{no_conf_sent, no_error_for_all_then, nobody_waits_then}

-- ---- one step
module _ (q : ℕ) (s : Step) (u : World) where
  errors_then : IsNoInjection s → AreBounds q (step q s u) → (which : Session) → HasNoErrorForAll u which → HasNoErrorForAll (step q s u) which
  errors_then clean bounds which none = by (is_quiet s) refl
    where
      by : (b : Bool) → is_quiet s ≡ b → HasNoErrorForAll (step q s u) which
      by true quiet = no_error_for_all_then q which s u quiet none bounds
      by false loud = no_error_for_all_loud q s u loud clean which none

  -- a world with plain ones before it
  module _ (plain : IsPlainStep s) (before : IsPlainWorld u) where
    waits_then : NobodyWaits (step q s u)
    waits_then = by (is_quiet s) refl
      where
        by : (b : Bool) → is_quiet s ≡ b → NobodyWaits (step q s u)
        by true quiet = nobody_waits_then q s u quiet before.waits
        by false loud = nobody_waits_loud q s u loud (no_injection s plain) plain before.waits

    conf_then : (which : Session) (y : Item) → In y (step q s u).flight → IsConfirmation which y → ⊥
    conf_then which y i z = by (is_quiet s) refl
      where
        was : In y u.flight → ⊥
        was old = before.none y old (which, inr z)

        by : (b : Bool) → is_quiet s ≡ b → ⊥
        by true quiet =
            ⊎_elim (λ (old : In y u.flight). was old) (λ (new : (b : Bool) × In (y, b) (sent q s u)). no_conf_sent q s u quiet before.waits y new.0 z.0 new.1 z.1)
            (in_flight_after q s u y quiet i)
        by false loud =
            ⊎_elim (λ (old : In y u.flight). was old)
            (λ (new : (b : Bool) × In (y, b) (sent q s u)). no_conf_sent_loud q s u loud (no_injection s plain) y new.0 new.1 z.0 z.1)
            (in_flight_then q s u loud (no_injection s plain) y i)

    plain_then : AreBounds q (step q s u) → IsPlainWorld (step q s u)
    plain_then bounds = record {
      waits = waits_then;
      errors = errors;
      none = λ y i z.
          ⊎_elim (λ (e : IsErrorForAll z.0 y). (errors z.0 y i).0 e) (λ (e : IsConfirmation z.0 y). conf_then z.0 y i e) z.1;
    }
      where
        errors : (which : Session) → HasNoErrorForAll (step q s u) which
        errors which = errors_then (no_injection s plain) bounds which (before.errors which)

-- ---- along steps
module _ (q : ℕ) where
  errors_along : (ss : List Step) (w : World) → ((s : Step) → In s ss → IsNoInjection s) → Visited (machine q) (AreBounds q) ss w → ((which : Session) → HasNoErrorForAll w which)
      → Visited (machine q) (λ u. (which : Session) → HasNoErrorForAll u which) ss w
  errors_along [] w clean v h = h
  errors_along (s ∷ ss) w clean v h = (
    h,
    errors_along ss (step q s w) (λ x i. clean x (inr i)) v.1
        (λ which. errors_then q s w (clean s (inl refl)) (visited_start (machine q) (AreBounds q) ss (step q s w) v.1) which (h which)),
  )

  plain_along : (ss : List Step) (w : World) → ((s : Step) → In s ss → IsPlainStep s) → Visited (machine q) (AreBounds q) ss w → IsPlainWorld w → Visited (machine q) IsPlainWorld ss w
  plain_along [] w plain v h = h
  plain_along (s ∷ ss) w plain v h = (
    h,
    plain_along ss (step q s w) (λ x i. plain x (inr i)) v.1
        (plain_then q s w (plain s (inl refl)) h (visited_start (machine q) (AreBounds q) ss (step q s w) v.1)),
  )

  -- ---- the steps of events
  -- of the steps of an event that are not calm P holds
  abbrev HasLoud : (Step → Type 0) → Event → Type 0
  HasLoud P (AtNode n l) = P (At n l)
  HasLoud P (ClearNode n) = P (ClearAt n)
  HasLoud P (Injects e dst a) = P (Inject e dst a)
  HasLoud P (Reroutes g s hops) = P (Reroute g s hops)
  HasLoud P _ = Unit {0}

  module _ (some : 1 ≤ q) (P : Step → Type 0) (calm : (s : Step) → is_calm q s ≡ true → P s) where
    one_step : (x s : Step) → P x → In s (x ∷ []) → P s
    one_step x s h i = ⊎_elim (λ (same : s ≡ x). subst P (sym same) h) (λ (no : ⊥). absurd no) i

    event_steps : (e : Event) → HasLoud P e → (w : World) (s : Step) → In s (steps_of q e w) → P s
    event_steps (AtNode n l) h w s i = one_step (At n l) s h i
    event_steps (Waits ms) h w s i = calm s (pieces_calm q some ms s i)
    event_steps (Pass n) h w s i = calm s (passes_calm q some n w s i)
    event_steps (DeliverAt k) h w s i = calm s (place_calm q some Deliver k (λ m. no_time q some) s i)
    event_steps (LoseAt k) h w s i = calm s (place_calm q some Lose k (λ m. no_time q some) s i)
    event_steps (CopyAt k) h w s i = calm s (place_calm q some Copy k (λ m. no_time q some) s i)
    event_steps (ClearNode n) h w s i = one_step (ClearAt n) s h i
    event_steps (Rounds n) h w s i = calm s (rounds_calm q some n w s i)
    event_steps (Traces on) h w s i = one_step (Trace on) s (calm (Trace on) (no_time q some)) i
    event_steps (Reports e) h w s i = one_step (Report e) s (calm (Report e) (no_time q some)) i
    event_steps ReportsFlags h w s i = one_step Flags s (calm Flags (no_time q some)) i
    event_steps ReportsAdverts h w s i = one_step Adverts s (calm Adverts (no_time q some)) i
    event_steps (Injects e dst a) h w s i = one_step (Inject e dst a) s h i
    event_steps (Reroutes g x hops) h w s i = one_step (Reroute g x hops) s h i

    events_steps : (es : List Event) → ((e : Event) → In e es → HasLoud P e) → (w : World) (s : Step) → In s (all_steps q es w) → P s
    events_steps [] h w s i = absurd i
    events_steps (e ∷ es) h w s i =
        ⊎_elim (λ (here : In s (steps_of q e w)). event_steps e (h e (inl refl)) w s here)
        (λ (later : In s (all_steps q es (run (machine q) (steps_of q e w) w))). events_steps es (λ x j. h x (inr j)) (run (machine q) (steps_of q e w) w) s later)
        (in_append s (steps_of q e w) (all_steps q es (run (machine q) (steps_of q e w) w)) i)

  calm_plain : (s : Step) → is_calm q s ≡ true → IsPlainStep s
  calm_plain (At n l) c = absurd (cc)
  calm_plain (Piece ms) c = tt
  calm_plain (Deliver k) c = tt
  calm_plain (Lose k) c = tt
  calm_plain (Copy k) c = tt
  calm_plain (ClearAt n) c = tt
  calm_plain (Trace on) c = tt
  calm_plain (Report e) c = tt
  calm_plain Flags c = tt
  calm_plain Adverts c = tt
  calm_plain (Inject e dst a) c = absurd (cc)
  calm_plain (Reroute g x hops) c = tt

  plain_loud : (e : Event) → IsPlainEvent e → HasLoud IsPlainStep e
  plain_loud (AtNode n l) h = h
  plain_loud (Waits ms) h = tt
  plain_loud (Pass n) h = tt
  plain_loud (DeliverAt k) h = tt
  plain_loud (LoseAt k) h = tt
  plain_loud (CopyAt k) h = tt
  plain_loud (ClearNode n) h = tt
  plain_loud (Rounds n) h = tt
  plain_loud (Traces on) h = tt
  plain_loud (Reports e) h = tt
  plain_loud ReportsFlags h = tt
  plain_loud ReportsAdverts h = tt
  plain_loud (Injects e dst a) h = h
  plain_loud (Reroutes g x hops) h = tt

  clean_loud : (e : Event) → InjectsNothing e → HasLoud IsNoInjection e
  clean_loud (AtNode n l) h = tt
  clean_loud (Waits ms) h = tt
  clean_loud (Pass n) h = tt
  clean_loud (DeliverAt k) h = tt
  clean_loud (LoseAt k) h = tt
  clean_loud (CopyAt k) h = tt
  clean_loud (ClearNode n) h = tt
  clean_loud (Rounds n) h = tt
  clean_loud (Traces on) h = tt
  clean_loud (Reports e) h = tt
  clean_loud ReportsFlags h = tt
  clean_loud ReportsAdverts h = tt
  clean_loud (Injects e dst a) h = h
  clean_loud (Reroutes g x hops) h = tt

-- ---- at first
-- no wish is left over, and no mark
record IsPlainAt (f : Facts) : Type 0 where
  resvs : (st : StyleKind) (k : LineKey) (r : ResvState) → get (resvs_of st f) k ≡ Some r → r.confirm ≡ None
  wants : (k : WantKey) (x : Want) → get f.wants k ≡ Some x → x.confirm ≡ false

no_wish_at_first : (st : StyleKind) (k : LineKey) (r : ResvState) → get (resvs_of st no_facts) k ≡ Some r → r.confirm ≡ None
no_wish_at_first Wild k r e = absurd (cc)
no_wish_at_first Fixed k r e = absurd (cc)
no_wish_at_first Shared k r e = absurd (cc)

module _ (p : NodeConfig) (n : ℕ) where
  module _ (f : Facts) (h : IsPlainAt f) where
    left_wish : (i : Stale) → IsPlainStale i → (st : StyleKind) (k : LineKey) (r : ResvState) → get (resvs_of st (with_left i f)) k ≡ Some r → r.confirm ≡ None
    left_wish (StalePath k x) plain st l r e = h.resvs st l r e
    left_wish (StaleWall k b) plain st l r e = h.resvs st l r e
    left_wish (StaleResv of k x) plain st l r e =
        ⊎_elim
        (λ (z : (st ≡ of) × (get (put_in (resvs_of of f) k x) l ≡ Some r)).
        ⊎_elim (λ (new : (l ≡ k) × (r ≡ x)). ap (λ (y : ResvState). y.confirm) new.1 ∙ plain) (λ (old : get (resvs_of of f) l ≡ Some r). h.resvs of l r old)
        (got_put_in line_keys (resvs_of of f) k x l r z.1))
        (λ (old : get (resvs_of st f) l ≡ Some r). h.resvs st l r old)
        (style_at st of (put_in (resvs_of of f) k x) f l r e)

    acted_wish : (i : Stale) → IsPlainStale i → (o : Option StaleErr) (st : StyleKind) (k : LineKey) (r : ResvState) → get (resvs_of st (unless o (with_left i f) f)) k ≡ Some r → r.confirm ≡ None
    acted_wish i plain None st k r e = left_wish i plain st k r e
    acted_wish i plain (Some why) st k r e = h.resvs st k r e

    same_wants : (i : Stale) (o : Option StaleErr) → (unless o (with_left i f) f).wants ≡ f.wants
    same_wants i None = refl
    same_wants i (Some why) = refl

    left_plain : (i : Stale) → IsPlainStale i → IsPlainAt (facts_with p 0 i f)
    unfolding facts_with
    left_plain i plain = record {
      resvs = λ st k x there.
          let g = forgetting_by_names.at f (act_stale p i f) st k x there in
          let left = left_told _ g.0 x g.2 in
          left.confirm ∙ acted_wish i plain (stale_refusal p i f) st k g.0 g.1;
      wants = λ k x e. h.wants k x (ap (λ (z : Wants). get z k) (sym (same_wants i (stale_refusal p i f))) ∙ e);
    }

  all_left : (ss : List (ℕ × Stale)) (f : Facts) → ((m : ℕ) (i : Stale) → In (m, i) ss → IsPlainStale i) → IsPlainAt f → IsPlainAt (left_over p n ss f)
  all_left [] f plain h = h
  all_left (s ∷ ss) f plain h = all_left ss (cond (s.0 == n) (facts_with p 0 s.1 f) f) (λ m i j. plain m i (inr j)) (by (s.0 == n))
    where
      by : (b : Bool) → IsPlainAt (cond b (facts_with p 0 s.1 f) f)
      by true = left_plain f h s.1 (plain s.0 s.1 (inl refl))
      by false = h

plain_first : (p : Plan) → IsPlain p → (n : ℕ) (f : Facts) → slice_get (first_world p).nodes n ≡ Some f → IsPlainAt f
plain_first p plain n f there =
    let at : n ≡ 0 + n = omega arith in
    let is : first_facts p n ≡ f = ap (first_facts p) at ∙ each_found (first_facts p) 0 p.net.nodes n f there in
    subst IsPlainAt is
    (all_left (config_of p.quarter p.net (trees_of p.net.hops) n) n p.stale no_facts plain.stale (record { resvs = no_wish_at_first; wants = λ k x e. absurd (cc) }))

-- ---- a run
pub no_error_is_for_all : (p : Plan) → IsFitRun p → ((e : Event) → In e p.events → InjectsNothing e) → NoErrorIsForAll p
no_error_is_for_all p fit clean =
    errors_along p.quarter (steps_of_run p) (first_world p)
    (events_steps p.quarter fit.plan.period IsNoInjection (λ s c. no_injection s (calm_plain p.quarter s c)) p.events (λ e i. clean_loud p.quarter e (clean e i)) (first_world p))
    (each_world_of_a_run_is_within_bounds p fit) (λ which y i. absurd i)

pub a_plain_run_stays_plain : (p : Plan) → IsFitRun p → IsPlain p → StaysPlain p
a_plain_run_stays_plain p fit plain =
    plain_along p.quarter (steps_of_run p) (first_world p)
    (events_steps p.quarter fit.plan.period IsPlainStep (calm_plain p.quarter) p.events (λ e i. plain_loud p.quarter e (plain.events e i)) (first_world p))
    (each_world_of_a_run_is_within_bounds p fit)
    (record {
      waits = record {
        resvs = λ n f st k r there e. (plain_first p plain n f there).resvs st k r e;
        wants = λ n f k x there e. (plain_first p plain n f there).wants k x e;
        items = λ y m i e. absurd i;
      };
      errors = λ which y i. absurd i;
      none = λ y i z. absurd i;
    })

-- ---- and at a moment behind so many calm rounds
module _ (p : Plan) (fit_run : IsFitRun p) (senders : AreFitSenders p) (plain : IsPlain p) (ss ts : List Step) (front : steps_of_run p ≡ ss ++ ts)
    (is : EndsInCalm to_plain_refreshes p.quarter (first_world p) ss) where
  abbrev begun : World
  begun = run (machine p.quarter) is.before (first_world p)

  kept : AreBounds p.quarter begun × AreHosts begun
  kept =
      let parts : steps_of_run p ≡ is.before ++ (all_of is.rounds ++ ts) = front ∙ ap (λ (z : List Step). z ++ ts) is.parts ∙ joined is.before (all_of is.rounds) ts in
      visited_at p.quarter (λ v. AreBounds p.quarter v × AreHosts v) is.before (all_of is.rounds ++ ts) (first_world p)
      (subst (λ (z : List Step). Visited (machine p.quarter) (λ v. AreBounds p.quarter v × AreHosts v) z (first_world p)) parts (each_world_of_a_run_keeps_the_locals p fit_run senders))

  ends : run (machine p.quarter) ss (first_world p) ≡ run_rounds (machine p.quarter) is.rounds begun
  ends = ap (λ (z : List Step). run (machine p.quarter) z (first_world p)) is.parts ∙ run_then p.quarter is.before (all_of is.rounds) (first_world p) ∙ run_all p.quarter is.rounds begun

  last : IsPlainWorld (run (machine p.quarter) ss (first_world p))
  last =
      visited_at p.quarter IsPlainWorld ss ts (first_world p)
      (subst (λ (z : List Step). Visited (machine p.quarter) IsPlainWorld z (first_world p)) front (a_plain_run_stays_plain p fit_run plain))

  pub a_plain_moment_has_only_refreshes : DemandsFit begun.net (locals_of begun) → HasOnlyRefreshes (run (machine p.quarter) ss (first_world p))
  a_plain_moment_has_only_refreshes fit y i =
      let all : HasNothingElse (run_rounds (machine p.quarter) is.rounds begun) =
      hold_end (machine p.quarter) HasNothingElse (13 * longest begun.net + 14) is.rounds begun is.enough
      (nothing_else p.quarter begun is.rounds is.calm (record { bounds = kept.0; locals = kept.1; fit = fit })) in
      ⊎_elim (λ (x : IsRefresh y). x) (λ (x : MayGoRound y). absurd (last.none y i x)) (subst HasNothingElse (sym ends) all y i)

pub a_plain_run_ends_in_refreshes : (p : Plan) → IsFitRun p → AreFitSenders p → IsPlain p → (is : EndsInCalm to_plain_refreshes p.quarter (first_world p) (steps_of_run p))
    → DemandsFit (run (machine p.quarter) is.before (first_world p)).net (locals_of (run (machine p.quarter) is.before (first_world p)))
    → HasOnlyRefreshes (run (machine p.quarter) (steps_of_run p) (first_world p))
a_plain_run_ends_in_refreshes p fit_run senders plain is fit =
    a_plain_moment_has_only_refreshes p fit_run senders plain (steps_of_run p) [] (sym (append-nil (steps_of_run p))) is fit
