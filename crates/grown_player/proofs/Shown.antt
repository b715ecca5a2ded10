-- What there is to be seen of a grown plan: its rounds.
use Rattle.std.proofs.Common.{◌≡◌, ℕ, List, [], ◌∷◌, ◌++◌, Option, None, false, refl, sym, ap, subst, ◌∙◌, append_assoc, append-nil}
use Rattle.std.specs.Prelude.{Result, Ok, Err, OnOk, map as each}
use Rattle.calm_rounds.specs.Machine.{run}
use Rattle.network_model.specs.Events.{Event, Reports, Rounds, steps_of}
use Rattle.network_model.specs.Runs.{Plan, first_world, is_crowded_run, last_world}
use Rattle.network_model.specs.Steps.{machine}
use Rattle.network_model.specs.Worlds.{World}
use Rattle.tree_model.specs.declared.locals.LocalSender.{LocalSender}
use Rattle.grown_network.specs.declared.hosts.Wanted.{Wanted}
use Rattle.grown_network.specs.Grown.{grown_plan, send_event, want_event}
use Rattle.network_replay.specs.Sights.{Shows, ShowsRun, Sight, all_sights, event_sights, plan_sights}
use Rattle.network_replay.specs.declared.world_err.WorldErr.{WorldErr}
use Rattle.script_run.proofs.Runs.{sights_with}
use Rattle.grown_player.specs.Growing.{first_plan}
use Rattle.grown_player.specs.Playing.{ShowsMore, with_events}
use Rattle.grown_player.proofs.Grown.{events_of}
use Rattle.grown_player.proofs.Played.{joined}

-- ---- events of which there is nothing to be seen
module _ {A : Type 0} (f : A → Event) (silent : (q : ℕ) (x : A) (w : World) → event_sights q (f x) w ≡ []) where
  none_of : (q : ℕ) (xs : List A) (w : World) → all_sights q (event_sights q) (each f xs) w ≡ []
  none_of q [] w = refl
  none_of q (x ∷ xs) w =
      let next = run (machine q) (steps_of q (f x) w) w in
      ap (λ (ss : List Sight). ss ++ all_sights q (event_sights q) (each f xs) next) (silent q x w) ∙ none_of q xs next

  none_behind : (q : ℕ) (es : List Event) (xs : List A) (w : World) → all_sights q (event_sights q) (es ++ each f xs) w ≡ all_sights q (event_sights q) es w
  none_behind q [] xs w = none_of q xs w
  none_behind q (e ∷ es) xs w = ap (λ (ss : List Sight). event_sights q e w ++ ss) (none_behind q es xs (run (machine q) (steps_of q e w) w))

  none_more : (p : Plan) (xs : List A) → plan_sights (with_events p (each f xs)) ≡ plan_sights p
  none_more p xs = none_behind p.quarter p.events xs (first_world p)

module _ (p : Plan) (xs : List LocalSender) (ws : List Wanted) (n : ℕ) (roomy : is_crowded_run (with_events (with_events p (each send_event xs)) (each want_event ws)) ≡ false) where
  abbrev sent : Plan
  sent = with_events p (each send_event xs)

  abbrev wanted : Plan
  wanted = with_events sent (each want_event ws)

  abbrev went : Plan
  went = with_events wanted (Rounds n ∷ [])

  sights_of_all : plan_sights (with_events p (events_of xs ws n)) ≡ plan_sights p ++ event_sights p.quarter (Rounds n) (last_world wanted)
  sights_of_all =
      let last : List Event = Rounds n ∷ Reports None ∷ [] in
      let whole : with_events p (events_of xs ws n) ≡ with_events went (Reports None ∷ []) =
      sym (joined p (each send_event xs) (each want_event ws ++ last)) ∙ sym (joined sent (each want_event ws) last) ∙ sym (joined wanted (Rounds n ∷ []) (Reports None ∷ [])) in
      let before : plan_sights wanted ≡ plan_sights p = none_more want_event (λ q x w. refl) sent ws ∙ none_more send_event (λ q x w. refl) p xs in
      ap plan_sights whole ∙ none_more (λ (e : Option ℕ). Reports e) (λ q x w. refl) went (None ∷ []) ∙ sights_with wanted (Rounds n) roomy (event_sights p.quarter)
      ∙ ap (λ (ss : List Sight). ss ++ event_sights p.quarter (Rounds n) (last_world wanted)) before

  pub shown_all : {W : Type 0} (saw : W → List Sight → Type 0) (r : Result (Unit {0}) WorldErr) (a b c : W) → Shows saw a b (event_sights p.quarter (Rounds n) (last_world wanted))
      → ShowsRun saw r b c (event_sights p.quarter (Reports None) (last_world went)) → OnOk r (ShowsMore saw a c p (events_of xs ws n))
  shown_all saw (Err e) a b c rounds report = tt
  shown_all saw (Ok _) a b c rounds report = λ ss h.
      let seen = event_sights p.quarter (Rounds n) (last_world wanted) in
      let before = ss ++ plan_sights p in
      let same : (before ++ seen) ++ [] ≡ ss ++ plan_sights (with_events p (events_of xs ws n)) =
      append-nil (before ++ seen) ∙ append_assoc ss (plan_sights p) seen ∙ ap (λ (t : List Sight). ss ++ t) (sym sights_of_all) in
      subst (λ (t : List Sight). saw c t) same (report (before ++ seen) (rounds before h))

-- behind the plan of a seed before its events
pub shown_grown : (seed : ℕ) (xs : List LocalSender) (ws : List Wanted) (n : ℕ) → with_events (first_plan seed) (events_of xs ws n) ≡ grown_plan seed → {W : Type 0} (saw : W → List Sight → Type 0)
    (a b : W) → ShowsMore saw a b (first_plan seed) (events_of xs ws n) → Shows saw a b (plan_sights (grown_plan seed))
shown_grown seed xs ws n whole saw a b more = λ ss h.
    subst (λ (p : Plan). saw b (ss ++ plan_sights p)) whole (more ss (subst (λ (t : List Sight). saw a t) (sym (append-nil ss)) h))
