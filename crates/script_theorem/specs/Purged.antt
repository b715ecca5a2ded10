-- What a report appends once nothing stale is left: the text of books that are at most the demands.
use Rattle.std.specs.Prelude.{◌≡◌, ℕ, ◌<◌, ◌++◌, false, List, ◌∷◌, length, Option, None, Some, slice_get}
use Rattle.std.specs.List.{flat_map, range_with_len}
use Rattle.style_rules.specs.Lines.{BookTable}
use Rattle.tree_model.specs.Goals.{demand_of}
use Rattle.tree_model.specs.Networks.{Net}
use Rattle.network_model.specs.Bounds.{IsPurged}
use Rattle.network_model.specs.DemandTexts.{of_end}
use Rattle.network_model.specs.Locals.{locals_of}
use Rattle.network_model.specs.Runs.{Plan, first_world, is_crowded_run, run_text, steps_of_run, text_of}
use Rattle.network_model.specs.Steps.{Report, Step, step}
use Rattle.network_model.specs.Texts.{table_text}
use Rattle.laws_network.specs.Runs.{IsFitRun}
use Rattle.settle_network.specs.Purged.{IsBookAtMost}
use Rattle.script_theorem.specs.Demands.{moment}
use Rattle.script_theorem.specs.Writing.{OnlyWrite}

-- ---- the report of one end, or of all in order, where the ends have these books
module _ (names : List (List ℕ)) (net : Net) (books : ℕ → BookTable) where
  abbrev pub end_text : ℕ → List ℕ
  end_text e = of_end (λ name x. table_text name x.iface.capacity (books e)) (slice_get names e) (slice_get net.ends e)

  abbrev pub books_text : Option ℕ → List ℕ
  books_text None = flat_map end_text (range_with_len 0 (length net.ends))
  books_text (Some e) = end_text e

-- the text of the run: that of the steps before the report, that of books each of which is at most the demand of its end, and that of
-- the steps behind it
pub record AppendsAtMostTheDemand (p : Plan) (ss : List Step) (e : Option ℕ) (ts : List Step) : Type 0 where
  pub books : ℕ → BookTable
  pub below : (i : ℕ) → i < length (moment p ss).net.ends → IsBookAtMost (books i) (demand_of (moment p ss).net (locals_of (moment p ss)) i)
  pub text : run_text p ≡ text_of p.quarter p.names ss (first_world p) ++ (books_text p.names (moment p ss).net books e ++ text_of p.quarter p.names ts (step p.quarter (Report e) (moment p ss)))

-- a report at a purged moment, or behind steps that only write after one, in a run that is not crowded, whatever is demanded
abbrev pub ReportsNothingStale : Plan → Type 0
ReportsNothingStale p =
    (ss still : List Step) (e : Option ℕ) (ts : List Step) → steps_of_run p ≡ (ss ++ still) ++ Report e ∷ ts → IsPurged p.quarter (first_world p) ss → OnlyWrite still
    → AppendsAtMostTheDemand p (ss ++ still) e ts

abbrev pub APurgedReportIsAtMostTheDemand : Type 0
APurgedReportIsAtMostTheDemand = (p : Plan) → IsFitRun p → is_crowded_run p ≡ false → ReportsNothingStale p
