-- The run of a plan with one event more.
use Rattle.std.proofs.Common.{◌≡◌, ℕ, List, [], ◌∷◌, ◌++◌, Bool, true, false, refl, sym, ap, ◌∙◌, append_assoc, append-nil}
use Rattle.calm_rounds.specs.Machine.{run}
use Rattle.script_grammar.specs.Events.{Event, all_steps, steps_of}
use Rattle.script_grammar.specs.Runs.{Plan, crowds, first_world, is_crowded, is_crowded_run, last_world, run_text, steps_of_run, text_of, uncrowded, written}
use Rattle.script_grammar.specs.Steps.{Step, machine, step}
use Rattle.script_grammar.specs.Worlds.{World}
use Rattle.network_replay.specs.Sights.{Sight, all_sights}
use Rattle.script_run.specs.Written.{with_event}

module _ (q : ℕ) where
  pub run_on : (ss ts : List Step) (w : World) → run (machine q) (ss ++ ts) w ≡ run (machine q) ts (run (machine q) ss w)
  run_on [] ts w = refl
  run_on (s ∷ ss) ts w = run_on ss ts (step q s w)

  crowds_before : (ss ts : List Step) (w : World) → crowds q ss w ≡ true → crowds q (ss ++ ts) w ≡ true
  crowds_before [] ts w e = absurd (cc)
  crowds_before (s ∷ ss) ts w e = by (is_crowded (step q s w)) refl (λ h. crowds_before ss ts (step q s w) h) e
    where
      by : (b : Bool) → is_crowded (step q s w) ≡ b → (crowds q ss (step q s w) ≡ true → crowds q (ss ++ ts) (step q s w) ≡ true) → crowds q (s ∷ ss) w ≡ true → crowds q (s ∷ (ss ++ ts)) w ≡ true
      by true t more e = rw t refl
      by false t more e = rw t (more (rw t at e))

  crowds_behind : (ss ts : List Step) (w : World) → crowds q ss w ≡ false → crowds q (ss ++ ts) w ≡ crowds q ts (run (machine q) ss w)
  crowds_behind [] ts w e = refl
  crowds_behind (s ∷ ss) ts w e = by (is_crowded (step q s w)) refl (λ h. crowds_behind ss ts (step q s w) h) e
    where
      by : (b : Bool) → is_crowded (step q s w) ≡ b → (crowds q ss (step q s w) ≡ false → crowds q (ss ++ ts) (step q s w) ≡ crowds q ts (run (machine q) ss (step q s w)))
          → crowds q (s ∷ ss) w ≡ false
          → crowds q (s ∷ (ss ++ ts)) w ≡ crowds q ts (run (machine q) ss (step q s w))
      by true t more e = absurd (let z : true ≡ false = rw t at e in cc)
      by false t more e = rw t (more (rw t at e))

  -- where none would crowd, all are made
  all_made : (ss : List Step) (w : World) → crowds q ss w ≡ false → uncrowded q ss w ≡ ss
  all_made [] w e = refl
  all_made (s ∷ ss) w e = by (is_crowded (step q s w)) refl (λ h. all_made ss (step q s w) h) e
    where
      by : (b : Bool) → is_crowded (step q s w) ≡ b → (crowds q ss (step q s w) ≡ false → uncrowded q ss (step q s w) ≡ ss) → crowds q (s ∷ ss) w ≡ false → uncrowded q (s ∷ ss) w ≡ s ∷ ss
      by true t more e = absurd (let z : true ≡ false = rw t at e in cc)
      by false t more e = rw t (ap (λ (us : List Step). s ∷ us) (more (rw t at e)))

  text_on : (names : List (List ℕ)) (ss ts : List Step) (w : World) → text_of q names (ss ++ ts) w ≡ text_of q names ss w ++ text_of q names ts (run (machine q) ss w)
  text_on names [] ts w = refl
  text_on names (s ∷ ss) ts w =
      ap (λ (t : List ℕ). written q names s w ++ t) (text_on names ss ts (step q s w)) ∙ sym
      (append_assoc (written q names s w) (text_of q names ss (step q s w)) (text_of q names ts (run (machine q) ss (step q s w))))

  -- the steps of one event more
  steps_more : (es : List Event) (e : Event) (w : World) → all_steps q (es ++ e ∷ []) w ≡ all_steps q es w ++ steps_of q e (run (machine q) (all_steps q es w) w)
  steps_more [] e w = append-nil (steps_of q e w)
  steps_more (x ∷ es) e w =
      let here = steps_of q x w in
      let next = run (machine q) here w in
      let there = all_steps q es next in
      let last = run (machine q) there next in
      ap (λ (ss : List Step). here ++ ss) (steps_more es e next) ∙ sym (append_assoc here there (steps_of q e last)) ∙ ap (λ (v : World). (here ++ there) ++ steps_of q e v) (sym (run_on here there w))

  -- what there is to be seen of one event more
  sights_more : (one : Event → World → List Sight) (es : List Event) (e : Event) (w : World)
      → all_sights q one (es ++ e ∷ []) w ≡ all_sights q one es w ++ one e (run (machine q) (all_steps q es w) w)
  sights_more one [] e w = append-nil (one e w)
  sights_more one (x ∷ es) e w =
      let here = steps_of q x w in
      let next = run (machine q) here w in
      let there = all_steps q es next in
      let last = run (machine q) there next in
      let seen = one x w in
      ap (λ (ss : List Sight). seen ++ ss) (sights_more one es e next) ∙ sym (append_assoc seen (all_sights q one es next) (one e last))
      ∙ ap (λ (v : World). (seen ++ all_sights q one es next) ++ one e v) (sym (run_on here there w))

-- the world behind all steps
abbrev end_world : Plan → World
end_world p = run (machine p.quarter) (steps_of_run p) (first_world p)

last_is : (p : Plan) → is_crowded_run p ≡ false → last_world p ≡ end_world p
last_is p e = ap (λ (ss : List Step). run (machine p.quarter) ss (first_world p)) (all_made p.quarter (steps_of_run p) (first_world p) e)

text_is : (p : Plan) → is_crowded_run p ≡ false → run_text p ≡ text_of p.quarter p.names (steps_of_run p) (first_world p)
text_is p e = ap (λ (ss : List Step). text_of p.quarter p.names ss (first_world p)) (all_made p.quarter (steps_of_run p) (first_world p) e)

-- before the first event it is the first
pub no_steps : (p : Plan) → p.events ≡ [] → last_world p ≡ first_world p
no_steps p none = ap (λ (es : List Event). run (machine p.quarter) (uncrowded p.quarter (all_steps p.quarter es (first_world p)) (first_world p)) (first_world p)) none

module _ (p : Plan) (e : Event) where
  more : steps_of_run (with_event p e) ≡ steps_of_run p ++ steps_of p.quarter e (end_world p)
  more = steps_more p.quarter p.events e (first_world p)

  -- once crowded, it stays crowded
  pub stays_crowded : is_crowded_run p ≡ true → is_crowded_run (with_event p e) ≡ true
  stays_crowded c = ap (λ (ss : List Step). crowds p.quarter ss (first_world p)) more ∙ crowds_before p.quarter (steps_of_run p) (steps_of p.quarter e (end_world p)) (first_world p) c

  module _ (roomy : is_crowded_run p ≡ false) where
    -- whether it is crowded by the event
    pub crowded_by : is_crowded_run (with_event p e) ≡ crowds p.quarter (steps_of p.quarter e (last_world p)) (last_world p)
    crowded_by =
        ap (λ (ss : List Step). crowds p.quarter ss (first_world p)) more ∙ crowds_behind p.quarter (steps_of_run p) (steps_of p.quarter e (end_world p)) (first_world p) roomy
        ∙ ap (λ (w : World). crowds p.quarter (steps_of p.quarter e w) w) (sym (last_is p roomy))

    -- and what it writes, where it is not
    pub text_with : is_crowded_run (with_event p e) ≡ false → run_text (with_event p e) ≡ run_text p ++ text_of p.quarter p.names (steps_of p.quarter e (last_world p)) (last_world p)
    text_with roomy' =
        text_is (with_event p e) roomy' ∙ ap (λ (ss : List Step). text_of p.quarter p.names ss (first_world p)) more
        ∙ text_on p.quarter p.names (steps_of_run p) (steps_of p.quarter e (end_world p)) (first_world p)
        ∙ ap (λ (t : List ℕ). t ++ text_of p.quarter p.names (steps_of p.quarter e (end_world p)) (end_world p)) (sym (text_is p roomy))
        ∙ ap (λ (w : World). run_text p ++ text_of p.quarter p.names (steps_of p.quarter e w) w) (sym (last_is p roomy))

    pub last_with : is_crowded_run (with_event p e) ≡ false → last_world (with_event p e) ≡ run (machine p.quarter) (steps_of p.quarter e (last_world p)) (last_world p)
    last_with roomy' =
        last_is (with_event p e) roomy' ∙ ap (λ (ss : List Step). run (machine p.quarter) ss (first_world p)) more
        ∙ run_on p.quarter (steps_of_run p) (steps_of p.quarter e (end_world p)) (first_world p)
        ∙ ap (λ (w : World). run (machine p.quarter) (steps_of p.quarter e w) w) (sym (last_is p roomy))

    -- and what there is to be seen of it
    pub sights_with : (one : Event → World → List Sight)
        → all_sights p.quarter one (p.events ++ e ∷ []) (first_world p) ≡ all_sights p.quarter one p.events (first_world p) ++ one e (last_world p)
    sights_with one = sights_more p.quarter one p.events e (first_world p)
        ∙ ap (λ (w : World). all_sights p.quarter one p.events (first_world p) ++ one e w) (sym (last_is p roomy))
