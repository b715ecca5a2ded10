-- In a front of the text of a run each report that it has whole is the one of the whole text.
use Rattle.std.proofs.Common.{◌≡◌, ℕ, ◌+◌, ◌≤◌, false, List, [], ◌∷◌, ◌++◌, length, take, drop, sym, ap, ◌∙◌, arith, append_assoc, length-append}
use Rattle.std.proofs.lemmas.List.{take-append-drop, take-append-le}
use Rattle.std.proofs.Math.Seq.{take-append_seam}
use Rattle.network_model.specs.DemandTexts.{demand_text}
use Rattle.network_model.specs.Locals.{locals_of}
use Rattle.network_model.specs.Runs.{Plan, first_world, is_crowded_run, run_text, steps_of_run, text_of, written}
use Rattle.network_model.specs.Steps.{Adverts, Flags, Report, Step, step}
use Rattle.settle_adverts.specs.Demanded.{advertised_senders, demanded_adverts}
use Rattle.settle_network.specs.DemandedFlags.{demanded_flags}
use Rattle.script_theorem.specs.Demands.{moment}
use Rattle.script_theorem.specs.Purged.{books_text}
use Rattle.script_theorem.proofs.Demands.{all_made, text_then}
use Rattle.script_theorem.specs.Fronts.{FrontsHaveHealedReports, GoesOnWith, HasWhole, IsFront}

-- a front that has a piece of the whole has it where the whole does
has_piece : (text more a b t : List ℕ) → text ++ more ≡ a ++ (b ++ t) → length a + length b ≤ length text → (rest : List ℕ) × (text ≡ a ++ (b ++ rest))
has_piece text more a b t is enough =
    let both = length-append a b in
    let few : length (a ++ b) ≤ length text = omega (arith, both, enough) in
    let rest : List ℕ = drop (length (a ++ b)) text in
    let first : take (length (a ++ b)) text ≡ a ++ b =
    sym (take-append-le (length (a ++ b)) text more few) ∙ ap (take (length (a ++ b))) (is ∙ sym (append_assoc a b t)) ∙ take-append_seam (a ++ b) t in
    (rest, sym (take-append-drop (length (a ++ b)) text) ∙ ap (λ (z : List ℕ). z ++ rest) first ∙ append_assoc a b rest)

module _ (p : Plan) (roomy : is_crowded_run p ≡ false) (text : List ℕ) (front : IsFront p text) where
  goes_on : (ss : List Step) (s : Step) (ts : List Step) (report : List ℕ) → steps_of_run p ≡ ss ++ s ∷ ts
      → run_text p ≡ text_of p.quarter p.names ss (first_world p) ++ (report ++ text_of p.quarter p.names ts (step p.quarter s (moment p ss)))
      → HasWhole p text ss s → GoesOnWith p text ss report
  goes_on ss s ts report parts is has =
      let a : List ℕ = text_of p.quarter p.names ss (first_world p) in
      let own : List ℕ = written p.quarter p.names s (moment p ss) in
      let t : List ℕ = text_of p.quarter p.names ts (step p.quarter s (moment p ss)) in
      let whole : run_text p ≡ a ++ (own ++ t) =
      ap (λ (z : List Step). text_of p.quarter p.names z (first_world p)) (all_made p.quarter p.names (steps_of_run p) (first_world p) roomy ∙ parts)
      ∙ text_then p.quarter p.names ss (s ∷ ts) (first_world p) in
      let reached : text_of p.quarter p.names (ss ++ s ∷ []) (first_world p) ≡ a ++ (own ++ []) = text_then p.quarter p.names ss (s ∷ []) (first_world p) in
      let same : length (a ++ (own ++ t)) ≡ length (a ++ (report ++ t)) = ap length (sym whole ∙ is) in
      let size : length (text_of p.quarter p.names (ss ++ s ∷ []) (first_world p)) ≡ length (a ++ (own ++ [])) = ap length reached in
      has_piece text front.more a report t (sym front.parts ∙ is)
      (omega (arith, same, size, has, length-append a (own ++ t), length-append own t, length-append a (report ++ t), length-append report t, length-append a (own ++ []), length-append own []))

pub fronts_have_healed_reports : FrontsHaveHealedReports
fronts_have_healed_reports p roomy heals text front = record {
  demands = λ ss still e ts parts settled writes fit has.
      goes_on p roomy text front (ss ++ still) (Report e) ts (demand_text p.names (moment p (ss ++ still)).net (locals_of (moment p (ss ++ still))) e) parts
      (heals.reports ss still e ts parts settled writes fit) has;
  purged = λ ss still e ts parts purged writes has.
      let at_most = heals.purged ss still e ts parts purged writes in
      (at_most, goes_on p roomy text front (ss ++ still) (Report e) ts (books_text p.names (moment p (ss ++ still)).net at_most.books e) parts at_most.text has);
  sessions = λ ss still e ts parts settled writes has.
      let each = heals.sessions ss still e ts parts settled writes in
      (each, goes_on p roomy text front (ss ++ still) (Report e) ts (books_text p.names (moment p (ss ++ still)).net each.at_most.books e) parts each.at_most.text has);
  flags = λ ss still ts parts settled writes fit has.
      goes_on p roomy text front (ss ++ still) Flags ts (demanded_flags p.names (moment p (ss ++ still)).net (locals_of (moment p (ss ++ still)))) parts
      (heals.flags ss still ts parts settled writes fit) has;
  adverts = λ ss still ts parts advertised writes has.
      goes_on p roomy text front (ss ++ still) Adverts ts (demanded_adverts p.names (moment p (ss ++ still)).net (advertised_senders (moment p (ss ++ still)))) parts
      (heals.adverts ss still ts parts advertised writes) has;
}
