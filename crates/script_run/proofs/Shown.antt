-- What was shown of the lines that were run.
use Rattle.std.proofs.Common.{◌≡◌, ℕ, List, [], ◌∷◌, ◌++◌, Option, false, refl, sym, ap, subst, ◌∙◌, append_assoc, inl, inr}
use Rattle.std.specs.Prelude.{Result, Ok, Err, IfErr, IfOk}
use Rattle.calm_rounds.specs.Machine.{run}
use Rattle.script_grammar.specs.Events.{Event, steps_of}
use Rattle.script_grammar.specs.Runs.{Plan, first_world, is_crowded_run, last_world}
use Rattle.script_grammar.specs.Steps.{machine}
use Rattle.script_grammar.specs.Worlds.{World}
use Rattle.script_grammar.specs.Draft.{Draft, plan_of}
use Rattle.script_grammar.specs.Grammar.{Follows}
use Rattle.script_grammar.specs.declared.stop.Stop.{Stop}
use Rattle.script_grammar.specs.declared.stop.Stop.TheVariants as stop
use Rattle.network_replay.specs.Agreeing.{Agrees, NetworkState}
use Rattle.network_replay.specs.Following.{Seen}
use Rattle.network_replay.specs.Sights.{Shows, ShowsRun, Sight, Tells, all_sights, event_sights}
use Rattle.network_replay.specs.declared.no_tree.NoTree.{NoTree}
use Rattle.network_replay.specs.declared.world_err.WorldErr.{WorldErr}
use Rattle.network_replay.specs.declared.world_err.WorldErr.TheVariants.{Crowded, NoMemory}
use Rattle.network_replay.proofs.Shown.{run_not, run_then, shows_none, shows_then}
use Rattle.script_run.specs.Playing.{IsRunOn, StaysAt}
use Rattle.script_run.specs.Shown.{ShowsOn, line_sights, script_sights}
use Rattle.script_run.specs.Standing.{IsAt, RunsOn, StandsBehind}
use Rattle.script_run.proofs.Adding.{event_line, quiet_line}
use Rattle.script_run.proofs.Runs.{last_with, sights_with}

-- ---- an event that was run behind a plan
pub told_behind : {R : Type 0} (see : Seen R) {W : Type 0} (saw : W → List Sight → Type 0) (v : NetworkState R) (r : Result (Result (Unit {0}) WorldErr) NoTree) (old new : W) (p : Plan) (e : Event)
    → StandsBehind see v p → IfOk r (λ x. Tells saw see v x old new (λ q w. event_sights q e w)) → IfOk r (λ x. ShowsRun saw x old new (event_sights p.quarter e (last_world p)))
told_behind see saw v (Ok x) old new p e stands told = told p.quarter (last_world p) stands.agrees
told_behind see saw v (Err n) old new p e stands told = tt

-- the network agrees with the world behind it
pub agrees_on : {R : Type 0} (see : Seen R) (v : NetworkState R) (p : Plan) (e : Event) (r : Result (Unit {0}) WorldErr) (before after : List ℕ) → is_crowded_run p ≡ false
    → RunsOn see p e r before after v → IfOk r (λ u. Agrees see p.quarter v (run (machine p.quarter) (steps_of p.quarter e (last_world p)) (last_world p)))
agrees_on see v p e (Ok _) before after roomy on = subst (λ (w : World). Agrees see p.quarter v w) (last_with p e roomy on.roomy) on.stands.agrees
agrees_on see v p e (Err Crowded) before after roomy on = tt
agrees_on see v p e (Err NoMemory) before after roomy on = tt

-- ---- a line without an event
no_sights : (d : Draft) → d.events ≡ [] → script_sights (plan_of d) ≡ []
no_sights d e = ap (λ (es : List Event). all_sights (plan_of d).quarter (line_sights (plan_of d).quarter) es (first_world (plan_of d))) e

quiet_sights : (d : Draft) (t : List ℕ) (new : Draft) → Follows d t new → new.events ≡ d.events → script_sights (plan_of d) ≡ script_sights (plan_of new)
quiet_sights d t new f same = elim (quiet_line d t new f same) [
  | inl e ↦ ap (λ (x : Draft). script_sights (plan_of x)) (sym e)
  | inr e ↦ no_sights d e.0 ∙ sym (no_sights new e.1)
]

module _ {W : Type 0} (saw : W → List Sight → Type 0) where
  -- what is shown of the line of an event
  pub around : (r : Result (Unit {0}) WorldErr) (a b c d : W) (first last : Sight) (all : List Sight) (A : Type 0) → Shows saw a b (first ∷ []) → ShowsRun saw r b c all → IfOk r (λ u. A)
      → IfOk r (λ u. A → Shows saw c d (last ∷ [])) → IfErr r (λ e. d ≡ c) → ShowsRun saw r a d (first ∷ (all ++ last ∷ []))
  around (Ok _) a b c d first last all A before shown agrees behind same =
      shows_then saw a b d (first ∷ []) (all ++ last ∷ []) before (shows_then saw b c d all (last ∷ []) shown (behind agrees))
  around (Err e) a b c d first last all A before shown agrees behind same =
      let r : Result (Unit {0}) WorldErr = Err e in
      let whole = run_then saw r a b c (first ∷ []) (all ++ last ∷ []) before (run_not saw r b c all (last ∷ []) refl shown) in
      subst (λ (x : W). ShowsRun saw r a x (first ∷ (all ++ last ∷ []))) (sym same) whole

  -- ---- lines, one after another
  pub nothing_more : (a : W) (d : Draft) → ShowsOn saw a a d d
  nothing_more a d = λ ss h. h

  pub event_shown : (old new : W) (d : Draft) (t : List ℕ) (after : Draft) (e : Event) → Follows d t after → after.events ≡ d.events ++ e ∷ []
      → is_crowded_run (plan_of d) ≡ false → Shows saw old new (line_sights (plan_of d).quarter e (last_world (plan_of d))) → ShowsOn saw old new d after
  event_shown old new d t after e f added roomy shown = λ ss h.
      let p = plan_of d in
      let seen = script_sights p in
      let more = line_sights p.quarter e (last_world p) in
      let whole : script_sights (plan_of after) ≡ seen ++ more = ap script_sights (event_line d t after e f added) ∙ sights_with p e roomy (line_sights p.quarter) in
      subst (λ (x : List Sight). saw new x) (append_assoc ss seen more ∙ ap (λ (x : List Sight). ss ++ x) (sym whole)) (shown (ss ++ seen) h)

  pub quiet_shown : (old new : W) (d : Draft) (t : List ℕ) (after : Draft) → Follows d t after → after.events ≡ d.events → ((ss : List Sight) → saw old ss → saw new ss) → ShowsOn saw old new d after
  quiet_shown old new d t after f same keeps = λ ss h. subst (λ (x : List Sight). saw new (ss ++ x)) (quiet_sights d t after f same) (keeps (ss ++ script_sights (plan_of d)) h)

-- ---- on the way
pub also : {R : Type 0} (see : Seen R) (lines : Draft) (world : Option (NetworkState R)) (t : Draft → Type 0) (d : Draft) (line said own : List ℕ) → IsRunOn (λ x. IsAt see lines world x) d line said own
    → t lines → IsRunOn (λ x. IsAt see lines world x × t x) d line said own
also see lines world t d line said own r here =
    record { new = r.new; follows = r.follows; stands_there = (r.stands_there, subst t r.stands_there.same here); run = r.run }

pub stays_also : (s t : Draft → Type 0) (d : Draft) (why : Stop) → StaysAt s d why → t d → StaysAt (λ x. s x × t x) d why
stays_also s t d (stop.Bad why) stays there = (stays, there)
stays_also s t d stop.Crowded stays there = tt
stays_also s t d stop.NoMemory stays there = tt

-- ---- a player, and what watches it
abbrev pub BothStand : {P W : Type 0} → (P → Draft → Type 0) → (W → List Sight → Type 0) → W → P × W → Draft → Type 0
BothStand stands saw first x d = stands x.0 d × Shows saw first x.1 (script_sights (plan_of d))

pub nothing_shown : {W : Type 0} (saw : W → List Sight → Type 0) (a : W) → Shows saw a a []
nothing_shown saw a = shows_none saw a

pub run_shown : {W : Type 0} (saw : W → List Sight → Type 0) (s : Draft → Type 0) (first old new : W) (d : Draft) (line said own : List ℕ) → Shows saw first old (script_sights (plan_of d))
    → IsRunOn (λ e. s e × ShowsOn saw old new d e) d line said own → IsRunOn (λ e. s e × Shows saw first new (script_sights (plan_of e))) d line said own
run_shown saw s first old new d line said own before r =
    record { new = r.new; follows = r.follows; stands_there = (r.stands_there.0, λ ss h. r.stands_there.1 ss (before ss h)); run = r.run }

pub stays_apart : (s t : Draft → Type 0) (d : Draft) (why : Stop) → StaysAt (λ x. s x × t x) d why → StaysAt s d why
stays_apart s t d (stop.Bad why) stays = stays.0
stays_apart s t d stop.Crowded stays = tt
stays_apart s t d stop.NoMemory stays = tt
