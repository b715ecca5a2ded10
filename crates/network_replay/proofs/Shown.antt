-- What is shown, one after the other.
use Rattle.std.proofs.Common.{◌≡◌, ℕ, zero, suc, ◌+◌, List, [], ◌∷◌, ◌++◌, Option, None, refl, sym, ap, subst, ◌∙◌, append-nil, append_assoc, arith}
use Rattle.std.specs.Prelude.{Result, Ok, Err, IfOk, IsErr, slice_get}
use Rattle.calm_rounds.specs.Machine.{run}
use Rattle.network_flight.specs.Events.{at_place}
use Rattle.network_flight.specs.Steps.{Step, Deliver, Lose, Copy, machine, step}
use Rattle.network_flight.specs.Worlds.{World}
use Rattle.router_rules.specs.declared.answers.Heard.{Heard}
use Rattle.network_replay.specs.Agreeing.{NetworkState, Agrees}
use Rattle.network_replay.specs.Due.{IsDue, heard_of}
use Rattle.tree_model.specs.Networks.{Net}
use Rattle.rsvp_base.specs.declared.addr.Addr.{Addr}
use Rattle.network_replay.specs.Following.{Seen}
use Rattle.network_replay.specs.Running.{Ran}
use Rattle.network_replay.specs.Sights.{Sight, Shows, ShowsRun, Tells, delivery, heard_there, sights, sights_of}
use Rattle.network_replay.specs.declared.no_tree.NoTree.{NoTree}
use Rattle.network_replay.specs.declared.world_err.WorldErr.{WorldErr}

-- where steps were made, the network agrees with the world behind them
pub then_agrees : {R : Type 0} (see : Seen R) (q : ℕ) (names : List (List ℕ)) (r : Result (Unit {0}) WorldErr) (before after : List ℕ) (v : NetworkState R) (ss : List Step) (w : World)
    → Ran see q names r before after v ss w → IfOk r (λ u. Agrees see q v (run (machine q) ss w))
then_agrees see q names (Ok _) before after v ss w ran = ran.1
then_agrees see q names (Err e) before after v ss w ran = tt

-- ---- what there is to be seen
module _ (q : ℕ) where
  pub due_heard : (net : Net) (end : ℕ) (dst : Addr) (bytes : List ℕ) (w : World) (k : ℕ) (is : IsDue net end dst bytes w k) (h : Option Heard) → h ≡ heard_of q w k is.item
      → h ≡ heard_there q w k (slice_get w.flight k)
  due_heard net end dst bytes w k is h e = e ∙ sym (ap (heard_there q w k) is.there)

  pub none_heard : (w : World) (k : ℕ) (h : Option Heard) → h ≡ None → slice_get w.flight k ≡ None → h ≡ heard_there q w k (slice_get w.flight k)
  none_heard w k h none e = none ∙ sym (ap (heard_there q w k) e)

  pub sights_append : (ss ts : List Step) (w : World) → sights q (ss ++ ts) w ≡ sights q ss w ++ sights q ts (run (machine q) ss w)
  sights_append [] ts w = refl
  sights_append (s ∷ ss) ts w = ap (λ (x : List Sight). sights_of q s w ++ x) (sights_append ss ts (step q s w))
      ∙ sym (append_assoc (sights_of q s w) (sights q ss (step q s w)) (sights q ts (run (machine q) ss (step q s w))))

  pub one_delivery : (k : ℕ) (w : World) (h : Option Heard) → h ≡ heard_there q w k (slice_get w.flight k) → delivery (step q (Deliver k) w) k h ≡ sights q (Deliver k ∷ []) w
  one_delivery k w h e = ap (delivery (step q (Deliver k) w) k) e ∙ sym (append-nil (sights_of q (Deliver k) w))

  pub none_lost : (k : ℕ) (w : World) → sights q (at_place Lose k) w ≡ []
  none_lost zero w = refl
  none_lost (suc k) w = refl

  pub none_copied : (k : ℕ) (w : World) → sights q (at_place Copy k) w ≡ []
  none_copied zero w = refl
  none_copied (suc k) w = refl

module _ {W : Type 0} (saw : W → List Sight → Type 0) where
  pub shows_none : (a : W) → Shows saw a a []
  shows_none a = λ ss h. subst (λ (x : List Sight). saw a x) (sym (append-nil ss)) h

  pub shows_then : (a b c : W) (xs ys : List Sight) → Shows saw a b xs → Shows saw b c ys → Shows saw a c (xs ++ ys)
  shows_then a b c xs ys f g = λ ss h. subst (λ (x : List Sight). saw c x) (append_assoc ss xs ys) (g (ss ++ xs) (f ss h))

  pub run_none : (r : Result (Unit {0}) WorldErr) (a : W) → ShowsRun saw r a a []
  run_none (Ok _) a = shows_none a
  run_none (Err e) a = ([], [], refl, shows_none a)

  pub run_no_more : (r : Result (Unit {0}) WorldErr) (a : W) (xs : List Sight) → xs ≡ [] → ShowsRun saw r a a xs
  run_no_more r a xs e = subst (λ (x : List Sight). ShowsRun saw r a a x) (sym e) (run_none r a)

  -- of what shows nothing
  pub tells_no_more : {R : Type 0} (see : Seen R) (v : NetworkState R) (r : Result (Result (Unit {0}) WorldErr) NoTree) (a : W) (what : ℕ → World → List Sight)
      → ((q : ℕ) (w : World) → what q w ≡ []) → IfOk r (λ x. Tells saw see v x a a what)
  tells_no_more see v (Ok x) a what none = λ q w agrees. run_no_more x a (what q w) (none q w)
  tells_no_more see v (Err n) a what none = tt

  pub run_then : (r : Result (Unit {0}) WorldErr) (a b c : W) (xs ys : List Sight) → Shows saw a b xs → ShowsRun saw r b c ys → ShowsRun saw r a c (xs ++ ys)
  run_then (Ok _) a b c xs ys f g = shows_then a b c xs ys f g
  run_then (Err e) a b c xs ys f g = (xs ++ g.0, g.1, ap (λ (z : List Sight). xs ++ z) g.2 ∙ sym (append_assoc xs g.0 g.1), shows_then a b c xs g.0 f g.3)

  pub run_not : (r : Result (Unit {0}) WorldErr) (a b : W) (xs ys : List Sight) → IsErr r → ShowsRun saw r a b xs → ShowsRun saw r a b (xs ++ ys)
  run_not (Ok _) a b xs ys err f = absurd (cc)
  run_not (Err e) a b xs ys err f = (f.0, f.1 ++ ys, ap (λ (z : List Sight). z ++ ys) f.2 ∙ append_assoc f.0 f.1 ys, f.3)

  module _ {R : Type 0} (see : Seen R) (q : ℕ) where
    -- ---- steps, and then others
    pub steps_then : (r : Result (Unit {0}) WorldErr) (a b c : W) (ss ts : List Step) (w : World) → Shows saw a b (sights q ss w) → ShowsRun saw r b c (sights q ts (run (machine q) ss w))
        → ShowsRun saw r a c (sights q (ss ++ ts) w)
    steps_then r a b c ss ts w f g = subst (λ (x : List Sight). ShowsRun saw r a c x) (sym (sights_append q ss ts w)) (run_then r a b c (sights q ss w) (sights q ts (run (machine q) ss w)) f g)

    pub steps_not : (r : Result (Unit {0}) WorldErr) (a b : W) (ss ts : List Step) (w : World) → IsErr r → ShowsRun saw r a b (sights q ss w) → ShowsRun saw r a b (sights q (ss ++ ts) w)
    steps_not r a b ss ts w err f = subst (λ (x : List Sight). ShowsRun saw r a b x) (sym (sights_append q ss ts w)) (run_not r a b (sights q ss w) (sights q ts (run (machine q) ss w)) err f)

    -- ---- so many times, each with so many left behind it
    module _ (next : World → World) (turn : ℕ → World → List Sight) (times : ℕ → World → List Sight) where
      abbrev pub Shown : NetworkState R → W → NetworkState R → W → ℕ → ℕ → Type 0
      Shown first a now b n left = (w : World) → Agrees see q first w → (v : World) × Agrees see q now v
          × ((r : Result (Unit {0}) WorldErr) (c : W) → ShowsRun saw r b c (times left v) → ShowsRun saw r a c (times n w))

      pub shown_first : (s : NetworkState R) (a : W) (n left : ℕ) → 0 + left ≡ n → Shown s a s a n left
      shown_first s a n left e = λ w agrees. (w, agrees, λ r c rest. (let same : left ≡ n = omega (arith, e) in subst (λ m. ShowsRun saw r a c (times m w)) same rest))

      module _ (none : (w : World) → times 0 w ≡ []) (more : (n : ℕ) (w : World) → times (suc n) w ≡ turn n w ++ times n (next w)) where
        pub shown_on : (first now then : NetworkState R) (a b c : W) (n left : ℕ) → Shown first a now b n (suc left)
            → ((v : World) → Agrees see q now v → Agrees see q then (next v)) → ((v : World) → Agrees see q now v → Shows saw b c (turn left v)) → Shown first a then c n left
        shown_on first now then a b c n left shown agree turned = λ w agrees.
            let at = shown w agrees in
            let v = next at.0 in (
              v,
              agree at.0 at.1,
              λ r d rest. at.2 r d (subst (λ (x : List Sight). ShowsRun saw r b d x) (sym (more left at.0)) (run_then r b c d (turn left at.0) (times left v) (turned at.0 at.1) rest)),
            )

        pub shown_not : (first now : NetworkState R) (r : Result (Unit {0}) WorldErr) (a b c : W) (n left : ℕ) → Shown first a now b n (suc left) → IsErr r
            → ((v : World) → Agrees see q now v → (xs : List Sight) × (ys : List Sight) × (turn left v ≡ xs ++ ys) × ShowsRun saw r b c xs)
            → (w : World) → Agrees see q first w → ShowsRun saw r a c (times n w)
        shown_not first now r a b c n left shown err failed w agrees =
            let at = shown w agrees in
            let (xs, ys, is, part) = failed at.0 at.1 in
            let rest = times left (next at.0) in
            let whole = subst (λ (x : List Sight). ShowsRun saw r b c x) (sym is) (run_not r b c xs ys err part) in
            at.2 r c (subst (λ (x : List Sight). ShowsRun saw r b c x) (sym (more left at.0)) (run_not r b c (turn left at.0) rest err whole))

        pub shown_end : (first now : NetworkState R) (a b : W) (n : ℕ) → Shown first a now b n 0 → (w : World) → Agrees see q first w → Shows saw a b (times n w)
        shown_end first now a b n shown w agrees =
            let at = shown w agrees in
            at.2 (Ok tt) b (subst (λ (x : List Sight). Shows saw b b x) (sym (none at.0)) (shows_none b))

    -- ---- steps, so many times
    module _ (turn : World → List Step) (times : ℕ → World → List Step) where
      abbrev pub next : World → World
      next w = run (machine q) (turn w) w

      abbrev pub one_turn : ℕ → World → List Sight
      one_turn n w = sights q (turn w) w

      abbrev pub turns : ℕ → World → List Sight
      turns n w = sights q (times n w) w

      abbrev pub ShownSteps : NetworkState R → W → NetworkState R → W → ℕ → ℕ → Type 0
      ShownSteps first a now b n left = Shown next one_turn turns first a now b n left

      pub steps_first : (s : NetworkState R) (a : W) (n left : ℕ) → 0 + left ≡ n → ShownSteps s a s a n left
      steps_first s a n left e = shown_first next one_turn turns s a n left e

      module _ (none : (w : World) → times 0 w ≡ []) (more : (n : ℕ) (w : World) → times (suc n) w ≡ turn w ++ times n (run (machine q) (turn w) w)) where
        none_shown : (w : World) → turns 0 w ≡ []
        none_shown w = ap (λ (ss : List Step). sights q ss w) (none w)

        more_shown : (n : ℕ) (w : World) → turns (suc n) w ≡ one_turn n w ++ turns n (next w)
        more_shown n w = ap (λ (ss : List Step). sights q ss w) (more n w) ∙ sights_append q (turn w) (times n (next w)) w

        pub turn_shown : (first now then : NetworkState R) (a b c : W) (n left : ℕ) → ShownSteps first a now b n (suc left) → ((v : World) → Agrees see q now v → Agrees see q then (next v))
            → ((v : World) → Agrees see q now v → Shows saw b c (sights q (turn v) v)) → ShownSteps first a then c n left
        turn_shown first now then a b c n left shown agree turned = shown_on next one_turn turns none_shown more_shown first now then a b c n left shown agree turned

        pub turn_not : (first now : NetworkState R) (r : Result (Unit {0}) WorldErr) (a b c : W) (n left : ℕ) → ShownSteps first a now b n (suc left) → IsErr r
            → ((v : World) → Agrees see q now v → ShowsRun saw r b c (sights q (turn v) v)) → (w : World) → Agrees see q first w → ShowsRun saw r a c (sights q (times n w) w)
        turn_not first now r a b c n left shown err failed =
            shown_not next one_turn turns none_shown more_shown first now r a b c n left shown err (λ v are. (sights q (turn v) v, [], sym (append-nil (sights q (turn v) v)), failed v are))

        pub turns_end : (first now : NetworkState R) (a b : W) (n : ℕ) → ShownSteps first a now b n 0 → (w : World) → Agrees see q first w → Shows saw a b (sights q (times n w) w)
        turns_end first now a b n shown w agrees = shown_end next one_turn turns none_shown more_shown first now a b n shown w agrees
