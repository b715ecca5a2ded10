-- What the rule leaves is what the input does, with names forgotten and countdowns settled, where no want is marked.
use Rattle.std.specs.Prelude.{◌≡◌, ℕ, Bool, true, false, not, ◌&&◌, Some, refl}
use Rattle.std.proofs.Common.{ap, ◌∙◌}
use Rattle.rsvp_base.specs.Sets.{Set}
use Rattle.rsvp_base.specs.Table.{changed, get, has}
use Rattle.laws_bounds.specs.RouterRules.Act.{act}
use Rattle.laws_bounds.specs.RouterRules.Facts.{Facts, Want, WantKey, Wants, want_keys}
use Rattle.laws_bounds.specs.RouterRules.Inputs.{Change, Input}
use Rattle.laws_bounds.specs.RouterRules.NodeConfig.{NodeConfig}
use Rattle.laws_bounds.specs.RouterRules.Rule.{facts_after, is_silent, settled, unless_silent}
use Rattle.laws_bounds.specs.RouterRules.Sends.{unmarked, used_marks}
use Rattle.router_state.specs.State.{AreUnmarked}
use Rattle.router_state.proofs.Settling.{unchanged}

pub unmarked_same : (used : Set want_keys) (ws : Wants) → AreUnmarked ws → changed (unmarked used) ws ≡ ws
unmarked_same used ws none =
    unchanged want_keys (unmarked used) ws (λ k w e. let off = none k w e in λ i. Some (record w { confirm = by w.confirm (not (has used k)) off i }))
  where
    by : (a b : Bool) → a ≡ false → (a && b) ≡ a
    by false b e = refl
    by true b e = cc

pub facts_are : (p : NodeConfig) (c : ℕ) (i : Input) (f : Facts) → AreUnmarked (act p c i f).facts.wants → facts_after p p c i f ≡ settled p c f (act p c i f).facts
unfolding facts_after
facts_are p c i f none = by (is_silent i)
  where
    k : Change
    k = act p c i f

    after : Facts
    after = settled p c f k.facts

    by : (silent : Bool) → record after { wants = unless_silent silent after.wants (changed (unmarked (used_marks p p f after k.asked)) after.wants) } ≡ after
    by true = refl
    by false = let same = unmarked_same (used_marks p p f after k.asked) after.wants none in λ j. record after { wants = same j }
