-- What an input leaves as it is: the claims of the public laws.
use Rattle.std.specs.Prelude.{◌≡◌, true, false}
use Rattle.laws_bounds.specs.RouterRules.Forgetting.{forget}
use Rattle.laws_bounds.specs.RouterRules.Steps.{is_calm, NodeStep, Begins, left_by}
use Rattle.laws_bounds.specs.Frames.{AreSameButMarks, on_advertised, on_senders, on_wants, on_paths, on_resvs, on_walls}

-- ---- frames, one for each table
pub record LeftAsItWas : Type 0 where
  pub senders : (step : NodeStep) → on_senders step.input ≡ false → (left_by step).senders ≡ step.facts.senders
  pub advertised : (step : NodeStep) → on_advertised step.input ≡ false → (left_by step).advertised ≡ step.facts.advertised
  pub wants : (step : NodeStep) → on_wants step.input ≡ false → AreSameButMarks step.facts.wants (left_by step).wants
  pub paths : (step : NodeStep) → on_paths step.input ≡ false → (left_by step).paths ≡ step.facts.paths
  pub walls : (step : NodeStep) → on_walls step.input ≡ false → (left_by step).walls ≡ step.facts.walls
  -- reservations lose the names that are forgotten
  pub resvs : (step : NodeStep) → on_resvs step.input ≡ false → (left_by step).resvs ≡ (forget step.facts (record (left_by step) { resvs = step.facts.resvs })).resvs
  -- and none where no sender comes or goes
  pub resvs_whole : (step : NodeStep) → Begins step → on_resvs step.input ≡ false → on_senders step.input ≡ false → on_paths step.input ≡ false → (left_by step).resvs ≡ step.facts.resvs

-- ---- a calm step keeps local senders and which are advertised, and local wants but for their marks
pub record CalmStepsKeepTheLocals : Type 0 where
  pub senders : (step : NodeStep) → Begins step → is_calm step.input ≡ true → (left_by step).senders ≡ step.facts.senders
  pub advertised : (step : NodeStep) → Begins step → is_calm step.input ≡ true → (left_by step).advertised ≡ step.facts.advertised
  pub wants : (step : NodeStep) → Begins step → is_calm step.input ≡ true → AreSameButMarks step.facts.wants (left_by step).wants
