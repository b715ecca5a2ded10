-- In a run, a report at a settled moment appends the text of the demand.
use Rattle.std.proofs.Common.{◌≡◌, ℕ, ◌≤◌, List, [], ◌∷◌, Bool, true, false, cond, arith, refl, sym, ap, subst, ◌∙◌}
use Rattle.std.specs.Prelude.{◌++◌, length}
use Rattle.rsvp_base.specs.declared.session.Session.{Session}
use Rattle.calm_rounds.specs.Hold.{Visited}
use Rattle.calm_rounds.specs.Machine.{run}
use Rattle.calm_rounds.proofs.Holding.{hold_end}
use Rattle.tree_model.specs.Goals.{DemandsFit}
use Rattle.tree_model.specs.Networks.{Net}
use Rattle.tree_model.specs.Wants.{Locals}
use Rattle.network_model.specs.Bounds.{AreBounds, IsSettled, all_of, to_settle}
use Rattle.network_model.specs.Locals.{locals_of}
use Rattle.network_model.specs.Runs.{Plan, crowds, first_world, is_crowded, steps_of_run, text_of, uncrowded, written}
use Rattle.network_model.specs.Steps.{Report, Step, machine, step}
use Rattle.network_model.specs.Worlds.{World}
use Rattle.laws_network.specs.Known.{IsKnown}
use Rattle.laws_network.specs.Runs.{IsFitRun}
use Rattle.laws_network.proofs.Keeping.{calm_rounds_keep_bounds}
use Rattle.laws_network.proofs.Known.{known_hold}
use Rattle.laws_network.proofs.Runs.{each_world_of_a_run_is_within_bounds}
use Rattle.settle_network.specs.SettleResvs.Sessions.{SessionFits}
use Rattle.settle_network.specs.Settled.{HasSettled}
use Rattle.settle_network.proofs.RunsSettle.{a_run_settles}
use Rattle.settle_network.proofs.Settled.{run_all}
use Rattle.script_theorem.specs.Demands.{ASettledReportIsTheDemand, moment}
use Rattle.script_theorem.proofs.Texts.{report_is_the_demand}
use Rattle.script_theorem.proofs.Writing.{a_moment_stays_calm, joined, run_then}

-- ---- texts of steps one after the other
joined_text : (xs ys zs : List ℕ) → (xs ++ ys) ++ zs ≡ xs ++ (ys ++ zs)
joined_text [] ys zs = refl
joined_text (x ∷ xs) ys zs = λ i. x ∷ joined_text xs ys zs i

module _ (q : ℕ) (names : List (List ℕ)) where
  pub text_then : (ss ts : List Step) (w : World) → text_of q names (ss ++ ts) w ≡ text_of q names ss w ++ text_of q names ts (run (machine q) ss w)
  text_then [] ts w = refl
  text_then (s ∷ ss) ts w = ap (λ (z : List ℕ). written q names s w ++ z) (text_then ss ts (step q s w))
      ∙ sym (joined_text (written q names s w) (text_of q names ss (step q s w)) (text_of q names ts (run (machine q) ss (step q s w))))

  pub all_made : (ss : List Step) (w : World) → crowds q ss w ≡ false → uncrowded q ss w ≡ ss
  all_made [] w e = refl
  all_made (s ∷ ss) w e = by (is_crowded (step q s w)) e (λ f. all_made ss (step q s w) f)
    where
      by : (b : Bool) → cond b true (crowds q ss (step q s w)) ≡ false → (crowds q ss (step q s w) ≡ false → uncrowded q ss (step q s w) ≡ ss) → cond b [] (s ∷ uncrowded q ss (step q s w)) ≡ s ∷ ss
      by true f rest = absurd (cc)
      by false f rest = ap (λ (z : List Step). s ∷ z) (rest f)

bounds_at : (q : ℕ) (ss ts : List Step) (w : World) → Visited (machine q) (AreBounds q) (ss ++ ts) w → AreBounds q (run (machine q) ss w)
bounds_at q [] [] w v = v
bounds_at q [] (t ∷ ts) w v = v.0
bounds_at q (s ∷ ss) ts w v = bounds_at q ss ts (step q s w) v.1

-- ---- each moment of a run is within bounds
pub bounds_there : (p : Plan) → IsFitRun p → (ss ts : List Step) → steps_of_run p ≡ ss ++ ts → AreBounds p.quarter (moment p ss)
bounds_there p fit ss ts parts = bounds_at p.quarter ss ts (first_world p) (subst (λ (z : List Step). Visited (machine p.quarter) (AreBounds p.quarter) z (first_world p)) parts
    (each_world_of_a_run_is_within_bounds p fit))

-- ---- the network and its locals at a settled moment are those when the rounds begin
module _ (p : Plan) (fit : IsFitRun p) (ss ts : List Step) (parts : steps_of_run p ≡ ss ++ ts) (is : IsSettled p.quarter (first_world p) ss) where
  abbrev o : World
  o = run (machine p.quarter) is.before (first_world p)

  begun : AreBounds p.quarter o
  begun =
      let split : ss ++ ts ≡ is.before ++ (all_of is.rounds ++ ts) = ap (λ (z : List Step). z ++ ts) is.parts ∙ joined p.quarter is.before (all_of is.rounds) ts in
      bounds_there p fit is.before (all_of is.rounds ++ ts) (parts ∙ split)

  known : IsKnown p.quarter o (moment p ss)
  known =
      let none : 0 ≤ length is.rounds = omega arith in
      let kept = hold_end (machine p.quarter) (IsKnown p.quarter o) 0 is.rounds o none (known_hold p.quarter o is.rounds is.calm (calm_rounds_keep_bounds p.quarter o is.rounds is.calm begun)) in
      subst (IsKnown p.quarter o) (sym (ap (λ (z : List Step). run (machine p.quarter) z (first_world p)) is.parts ∙ run_then p.quarter is.before (all_of is.rounds) (first_world p)
      ∙ run_all p.quarter is.rounds o)) kept

  pub fit_at_first : DemandsFit (moment p ss).net (locals_of (moment p ss)) → DemandsFit o.net (locals_of o)
  fit_at_first d = subst (λ (z : Net × Locals). DemandsFit z.0 z.1) (λ i. (known.same.net i, known.same.locals i)) d

  pub session_fits_at_first : (s : Session) → SessionFits (moment p ss).net (locals_of (moment p ss)) s → SessionFits o.net (locals_of o) s
  session_fits_at_first s d = subst (λ (z : Net × Locals). SessionFits z.0 z.1 s) (λ i. (known.same.net i, known.same.locals i)) d

pub a_settled_report_is_the_demand : ASettledReportIsTheDemand
a_settled_report_is_the_demand p fit senders uncrowded_run ss still e ts parts is writes d =
    let q : ℕ = p.quarter in
    let w : World = first_world p in
    let settled : IsSettled q w (ss ++ still) = a_moment_stays_calm to_settle (λ long. omega arith) q w ss still writes is in
    let has : HasSettled q (moment p (ss ++ still)) = a_run_settles p fit senders (ss ++ still) (Report e ∷ ts) parts settled (fit_at_first p fit (ss ++ still) (Report e ∷ ts) parts settled d) in
    let bounds = bounds_there p fit (ss ++ still) (Report e ∷ ts) parts in
    ap (λ (z : List Step). text_of q p.names z w) (all_made q p.names (steps_of_run p) w uncrowded_run ∙ parts)
    ∙ text_then q p.names (ss ++ still) (Report e ∷ ts) w
    ∙ ap (λ (z : List ℕ). text_of q p.names (ss ++ still) w ++ (z ++ text_of q p.names ts (step q (Report e) (moment p (ss ++ still)))))
    (report_is_the_demand q p.names (moment p (ss ++ still)) bounds has e)
