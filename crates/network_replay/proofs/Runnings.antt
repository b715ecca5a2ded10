-- Steps with their text, one after the other.
use Rattle.std.proofs.Common.{◌≡◌, ℕ, suc, ◌+◌, List, [], ◌∷◌, ◌++◌, Bool, true, false, refl, sym, ap, subst, ◌∙◌, append-nil, append_assoc, arith, ltb-false}
use Rattle.std.specs.Prelude.{nat_lt, Result, Ok, Err, IfErr, IfOk, IsErr, OnOk, OnErr, map as each}
use Rattle.calm_rounds.specs.Machine.{run}
use Rattle.network_flight.specs.Events.{Event, at_place, last_piece, steps_of, all_steps}
use Rattle.network_flight.specs.Runs.{is_crowded, crowds, uncrowded, text_of, written}
use Rattle.network_flight.specs.Steps.{Step, Piece, step, machine}
use Rattle.network_flight.specs.Worlds.{World}
use Rattle.network_replay.specs.Agreeing.{NetworkState, Agrees}
use Rattle.network_replay.specs.Following.{Seen}
use Rattle.network_replay.specs.Running.{Ran, IsSame}
use Rattle.network_replay.specs.declared.world_err.WorldErr.{WorldErr}
use Rattle.network_replay.specs.declared.world_err.WorldErr.TheVariants.{Crowded, NoMemory}
use Rattle.network_replay.proofs.Chains.{run_append, crowds_first, crowds_later}

pub same_then : {R : Type 0} (a b c : NetworkState R) → IsSame a b → IsSame b c → IsSame a c
same_then a b c e f = record { names = f.names ∙ e.names; quarter = f.quarter ∙ e.quarter; trace = f.trace ∙ e.trace }

-- ---- when memory ran out
abbrev pub failed : WorldErr → Result (Unit {0}) WorldErr
failed e = Err e

pub only_then : (r : Result (Unit {0}) WorldErr) (x y : WorldErr) → r ≡ failed x → x ≡ y → (before now : Bool) → now ≡ before → (failed y ≡ failed NoMemory → now ≡ true) → r ≡ failed NoMemory
    → before ≡ true
only_then r x y is same before now e only ran_out = sym e ∙ only (ap failed (sym same) ∙ sym is ∙ ran_out)

pub not_memory : (r : Result (Unit {0}) WorldErr) → IfErr r (λ e. e ≡ Crowded) → (b : Bool) → r ≡ failed NoMemory → b ≡ true
not_memory (Ok _) h b e = absurd (cc)
not_memory (Err x) h b e = absurd (let z : failed Crowded ≡ failed NoMemory = ap failed (sym h) ∙ e in cc)

-- what holds of each value
pub of_each : {A E : Type 0} (P : A → Type 0) (r : Result A E) → ((x : A) → P x) → IfOk r P
of_each P (Ok x) h = h x
of_each P (Err e) h = tt

pub not_off : (b : Bool) → (b ≡ false → ⊥) → b ≡ true
not_off true never = refl
not_off false never = absurd (never refl)

abbrev pub well : Result (Unit {0}) WorldErr
well = Ok tt

-- what is left of a wait
pub no_piece : (q ms : ℕ) → ms ≡ 0 → last_piece q ms ≡ []
no_piece q ms e = ap (last_piece q) e

pub some_piece : (q ms : ℕ) → (ms ≡ 0 → ⊥) → last_piece q ms ≡ Piece ms ∷ []
some_piece q ms ne = by (nat_lt 0 ms) refl
  where
    by : (b : Bool) → nat_lt 0 ms ≡ b → last_piece q ms ≡ Piece ms ∷ []
    by true t = rw t refl
    by false t = absurd (ne (let h = ltb-false 0 ms t in omega (arith, h)))

module _ (q : ℕ) where
  uncrowded_first : (ss ts : List Step) (w : World) → crowds q ss w ≡ true → uncrowded q (ss ++ ts) w ≡ uncrowded q ss w
  uncrowded_first [] ts w e = absurd (cc)
  uncrowded_first (s ∷ ss) ts w e = by (is_crowded (step q s w)) refl (λ h. uncrowded_first ss ts (step q s w) h) e
    where
      by : (b : Bool) → is_crowded (step q s w) ≡ b → (crowds q ss (step q s w) ≡ true → uncrowded q (ss ++ ts) (step q s w) ≡ uncrowded q ss (step q s w)) → crowds q (s ∷ ss) w ≡ true
          → uncrowded q (s ∷ (ss ++ ts)) w ≡ uncrowded q (s ∷ ss) w
      by true t more e = rw t refl
      by false t more e = rw t (ap (λ (us : List Step). s ∷ us) (more (rw t at e)))

  uncrowded_later : (ss ts : List Step) (w : World) → crowds q ss w ≡ false → uncrowded q (ss ++ ts) w ≡ ss ++ uncrowded q ts (run (machine q) ss w)
  uncrowded_later [] ts w e = refl
  uncrowded_later (s ∷ ss) ts w e = by (is_crowded (step q s w)) refl (λ h. uncrowded_later ss ts (step q s w) h) e
    where
      by : (b : Bool) → is_crowded (step q s w) ≡ b → (crowds q ss (step q s w) ≡ false → uncrowded q (ss ++ ts) (step q s w) ≡ ss ++ uncrowded q ts (run (machine q) ss (step q s w)))
          → crowds q (s ∷ ss) w ≡ false
          → uncrowded q (s ∷ (ss ++ ts)) w ≡ s ∷ (ss ++ uncrowded q ts (run (machine q) ss (step q s w)))
      by true t more e = absurd (let z : true ≡ false = rw t at e in cc)
      by false t more e = rw t (ap (λ (us : List Step). s ∷ us) (more (rw t at e)))

  one_uncrowded : (s : Step) (w : World) → crowds q (s ∷ []) w ≡ true → uncrowded q (s ∷ []) w ≡ []
  one_uncrowded s w e = by (is_crowded (step q s w)) refl e
    where
      by : (b : Bool) → is_crowded (step q s w) ≡ b → crowds q (s ∷ []) w ≡ true → uncrowded q (s ∷ []) w ≡ []
      by true t e = rw t refl
      by false t e = absurd (let z : false ≡ true = rw t at e in cc)

  module _ (names : List (List ℕ)) where
    text_append : (ss ts : List Step) (w : World) → text_of q names (ss ++ ts) w ≡ text_of q names ss w ++ text_of q names ts (run (machine q) ss w)
    text_append [] ts w = refl
    text_append (s ∷ ss) ts w = ap (λ (t : List ℕ). written q names s w ++ t) (text_append ss ts (step q s w))
        ∙ sym (append_assoc (written q names s w) (text_of q names ss (step q s w)) (text_of q names ts (run (machine q) ss (step q s w))))

    module _ {R : Type 0} (see : Seen R) where
      -- ---- one step
      pub ran_one : (o after t : List ℕ) (v : NetworkState R) (s : Step) (w : World) → (crowds q (s ∷ []) w ≡ false) × Agrees see q v (step q s w) → t ≡ written q names s w → after ≡ o ++ t
          → Ran see q names well o after v (s ∷ []) w
      ran_one o after t v s w done e said = (done.0, done.1, said ∙ ap (λ (x : List ℕ). o ++ x) (e ∙ sym (append-nil (written q names s w))))

      pub one_crowded : (o : List ℕ) (v : NetworkState R) (s : Step) (w : World) → crowds q (s ∷ []) w ≡ true → Ran see q names (Err Crowded) o o v (s ∷ []) w
      one_crowded o v s w e = (e, sym (ap (λ (us : List Step). o ++ text_of q names us w) (one_uncrowded s w e) ∙ append-nil o))

      pub one_unsaid : (o after : List ℕ) (v : NetworkState R) (s : Step) (w : World) → after ≡ o → Ran see q names (Err NoMemory) o after v (s ∷ []) w
      one_unsaid o after v s w e = (text_of q names (s ∷ []) w, ap (λ (x : List ℕ). x ++ text_of q names (s ∷ []) w) (sym e))

      pub ran_told : (r : Result (Unit {0}) WorldErr) (o after t : List ℕ) (v new : NetworkState R) (s : Step) (w : World) → (crowds q (s ∷ []) w ≡ false) × Agrees see q v (step q s w)
          → t ≡ written q names s w → OnOk r ((new ≡ v) × (after ≡ o ++ t))
          → OnErr r ((r ≡ Err NoMemory) × (after ≡ o)) → Ran see q names r o after new (s ∷ []) w
      ran_told (Ok _) o after t v new s w done e said unsaid = ran_one o after t new s w (done.0, subst (λ (x : NetworkState R). Agrees see q x (step q s w)) (sym said.0) done.1) e said.1
      ran_told (Err Crowded) o after t v new s w done e said unsaid = let wrong : Err Crowded ≡ Err NoMemory = unsaid.0 in absurd (cc)
      ran_told (Err NoMemory) o after t v new s w done e said unsaid = one_unsaid o after new s w unsaid.1

      -- ---- one after the other
      pub ran_then : (r : Result (Unit {0}) WorldErr) (o mid after : List ℕ) (new : NetworkState R) (ss ts : List Step) (w : World) → crowds q ss w ≡ false → mid ≡ o ++ text_of q names ss w
          → Ran see q names r mid after new ts (run (machine q) ss w) → Ran see q names r o after new (ss ++ ts) w
      ran_then (Ok _) o mid after new ss ts w e said done =
          let v = run (machine q) ss w in (
            crowds_later q ss ts w e ∙ done.0,
            subst (λ (u : World). Agrees see q new u) (sym (run_append q ss ts w)) done.1,
            done.2 ∙ ap (λ (x : List ℕ). x ++ text_of q names ts v) said ∙ append_assoc o (text_of q names ss w) (text_of q names ts v) ∙ ap (λ (x : List ℕ). o ++ x) (sym (text_append ss ts w)),
          )
      ran_then (Err Crowded) o mid after new ss ts w e said done =
          let v = run (machine q) ss w in
          let us = uncrowded q ts v in (
            crowds_later q ss ts w e ∙ done.0,
            done.1 ∙ ap (λ (x : List ℕ). x ++ text_of q names us v) said ∙ append_assoc o (text_of q names ss w) (text_of q names us v)
                ∙ ap (λ (x : List ℕ). o ++ x) (sym (ap (λ (ys : List Step). text_of q names ys w) (uncrowded_later ss ts w e) ∙ text_append ss us w)),
          )
      ran_then (Err NoMemory) o mid after new ss ts w e said done =
          let v = run (machine q) ss w in (
            done.0,
            ap (λ (x : List ℕ). o ++ x) (text_append ss ts w) ∙ sym (append_assoc o (text_of q names ss w) (text_of q names ts v)) ∙ ap (λ (x : List ℕ). x ++ text_of q names ts v) (sym said)
                ∙ done.1,
          )

      pub ran_not : (r : Result (Unit {0}) WorldErr) (o after : List ℕ) (v new : NetworkState R) (ss ts : List Step) (w : World) → IsErr r → Ran see q names r o after v ss w
          → Ran see q names r o after new (ss ++ ts) w
      ran_not (Ok _) o after v new ss ts w err done = absurd (cc)
      ran_not (Err Crowded) o after v new ss ts w err done = (crowds_first q ss ts w done.0, done.1 ∙ ap (λ (us : List Step). o ++ text_of q names us w) (sym (uncrowded_first ss ts w done.0)))
      ran_not (Err NoMemory) o after v new ss ts w err done =
          let more = text_of q names ts (run (machine q) ss w) in (
            done.0 ++ more,
            ap (λ (x : List ℕ). o ++ x) (text_append ss ts w) ∙ sym (append_assoc o (text_of q names ss w) more) ∙ ap (λ (x : List ℕ). x ++ more) done.1
                ∙ append_assoc after done.0 more,
          )

      -- ---- nothing, or what writes nothing
      pub ran_none : (o : List ℕ) (v : NetworkState R) (w : World) → Agrees see q v w → Ran see q names well o o v [] w
      ran_none o v w agrees = (refl, agrees, sym (append-nil o))

      pub ran_silent : (o : List ℕ) (v : NetworkState R) (s : Step) (w : World) → written q names s w ≡ [] → (crowds q (s ∷ []) w ≡ false) × Agrees see q v (step q s w)
          → Ran see q names well o o v (s ∷ []) w
      ran_silent o v s w e done = ran_one o o [] v s w done (sym e) (sym (append-nil o))

      -- ---- at a place from 1
      pub at_none : (r : Result (Unit {0}) WorldErr) (o after : List ℕ) (v : NetworkState R) (s : ℕ → Step) (k : ℕ) (w : World) → k ≡ 0 → Ran see q names r o after v [] w
          → Ran see q names r o after v (at_place s k) w
      at_none r o after v s k w e done = subst (λ n. Ran see q names r o after v (at_place s n) w) (sym e) done

      pub at_one : (r : Result (Unit {0}) WorldErr) (o after : List ℕ) (v : NetworkState R) (s : ℕ → Step) (k j : ℕ) (w : World) → k ≡ suc j → Ran see q names r o after v (s j ∷ []) w
          → Ran see q names r o after v (at_place s k) w
      at_one r o after v s k j w e done = subst (λ n. Ran see q names r o after v (at_place s n) w) (sym e) done

      -- ---- events
      module _ {E : Type 0} (of : E → Event) where
        -- what is left to happen leads to the end of all
        abbrev pub Happens : NetworkState R → List ℕ → NetworkState R → List ℕ → List E → List E → Type 0
        Happens first o now mid all left = (w : World) → Agrees see q first w → (v : World) × Agrees see q now v
            × ((r : Result (Unit {0}) WorldErr) (new : NetworkState R) (after : List ℕ) → Ran see q names r mid after new (all_steps q (each of left) v) v
            → Ran see q names r o after new (all_steps q (each of all) w) w)

        pub happens_first : (s : NetworkState R) (o : List ℕ) (all : List E) → Happens s o s o all all
        happens_first s o all = λ w agrees. (w, agrees, λ r new after rest. rest)

        pub one_event : (first now next : NetworkState R) (o mid later : List ℕ) (all left rest : List E) (e : E) → Happens first o now mid all left → left ≡ e ∷ rest
            → ((v : World) → Agrees see q now v → Ran see q names well mid later next (steps_of q (of e) v) v) → Happens first o next later all rest
        one_event first now next o mid later all left rest e happens is turned = λ w agrees.
            let at = happens w agrees in
            let one = turned at.0 at.1 in
            let then = run (machine q) (steps_of q (of e) at.0) at.0 in (
              then,
              one.1,
              λ r new after more. at.2 r new after (subst (λ (es : List E). Ran see q names r mid after new (all_steps q (each of es) at.0) at.0) (sym is)
                  (ran_then r mid later after new (steps_of q (of e) at.0) (all_steps q (each of rest) then) at.0 one.0 one.2 more)),
            )

        pub no_event : (first now : NetworkState R) (r : Result (Unit {0}) WorldErr) (v new : NetworkState R) (o mid after : List ℕ) (all left rest : List E) (e : E)
            → Happens first o now mid all left → left ≡ e ∷ rest → IsErr r → ((u : World) → Agrees see q now u → Ran see q names r mid after v (steps_of q (of e) u) u)
            → (w : World) → Agrees see q first w → Ran see q names r o after new (all_steps q (each of all) w) w
        no_event first now r v new o mid after all left rest e happens is err failed w agrees =
            let at = happens w agrees in
            let then = run (machine q) (steps_of q (of e) at.0) at.0 in
            at.2 r new after (subst (λ (es : List E). Ran see q names r mid after new (all_steps q (each of es) at.0) at.0) (sym is)
            (ran_not r mid after v new (steps_of q (of e) at.0) (all_steps q (each of rest) then) at.0 err (failed at.0 at.1)))

        pub all_happened : (first now : NetworkState R) (o after : List ℕ) (all left : List E) → Happens first o now after all left → left ≡ [] → (w : World) → Agrees see q first w
            → Ran see q names well o after now (all_steps q (each of all) w) w
        all_happened first now o after all left happens is w agrees =
            let at = happens w agrees in
            at.2 well now after (subst (λ (es : List E). Ran see q names well after after now (all_steps q (each of es) at.0) at.0) (sym is) (refl, at.1, sym (append-nil after)))

      -- ---- so many times
      module _ (turn : World → List Step) (times : ℕ → World → List Step) where
        abbrev pub Goes : NetworkState R → List ℕ → NetworkState R → List ℕ → ℕ → ℕ → Type 0
        Goes first o now mid n left = (w : World) → Agrees see q first w → (v : World) × Agrees see q now v
            × ((r : Result (Unit {0}) WorldErr) (new : NetworkState R) (after : List ℕ) → Ran see q names r mid after new (times left v) v → Ran see q names r o after new (times n w) w)

        pub goes_first : (s : NetworkState R) (o : List ℕ) (n left : ℕ) → 0 + left ≡ n → Goes s o s o n left
        goes_first s o n left e = λ w agrees. (w, agrees, λ r new after rest. (let same : left ≡ n = omega (arith, e) in subst (λ m. Ran see q names r o after new (times m w) w) same rest))

        module _ (none : (w : World) → times 0 w ≡ []) (more : (n : ℕ) (w : World) → times (suc n) w ≡ turn w ++ times n (run (machine q) (turn w) w)) where
          pub goes_on : (first now next : NetworkState R) (o mid later : List ℕ) (n left : ℕ) → Goes first o now mid n (suc left)
              → ((v : World) → Agrees see q now v → Ran see q names well mid later next (turn v) v) → Goes first o next later n left
          goes_on first now next o mid later n left goes turned = λ w agrees.
              let at = goes w agrees in
              let one = turned at.0 at.1 in
              let then = run (machine q) (turn at.0) at.0 in (
                then,
                one.1,
                λ r new after rest. at.2 r new after (subst (λ (ss : List Step). Ran see q names r mid after new ss at.0) (sym (more left at.0))
                    (ran_then r mid later after new (turn at.0) (times left then) at.0 one.0 one.2 rest)),
              )

          pub goes_not : (first now : NetworkState R) (r : Result (Unit {0}) WorldErr) (v new : NetworkState R) (o mid after : List ℕ) (n left : ℕ) → Goes first o now mid n (suc left) → IsErr r
              → ((u : World) → Agrees see q now u → Ran see q names r mid after v (turn u) u) → (w : World) → Agrees see q first w → Ran see q names r o after new (times n w) w
          goes_not first now r v new o mid after n left goes err failed w agrees =
              let at = goes w agrees in
              let then = run (machine q) (turn at.0) at.0 in
              at.2 r new after (subst (λ (ss : List Step). Ran see q names r mid after new ss at.0) (sym (more left at.0))
              (ran_not r mid after v new (turn at.0) (times left then) at.0 err (failed at.0 at.1)))

          pub goes_end : (first now : NetworkState R) (o after : List ℕ) (n : ℕ) → Goes first o now after n 0 → (w : World) → Agrees see q first w → Ran see q names well o after now (times n w) w
          goes_end first now o after n goes w agrees =
              let at = goes w agrees in
              at.2 well now after (subst (λ (ss : List Step). Ran see q names well after after now ss at.0) (sym (none at.0)) (refl, at.1, sym (append-nil after)))
