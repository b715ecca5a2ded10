-- What a table finds is what its facts have.
use Rattle.std.specs.Prelude.{◌≡◌, is_some, Option, None, Some, refl}
use Rattle.std.specs.Option.{option_copied, option_map}
use Rattle.std.proofs.Common.{Bor, sym, ◌∙◌}
use Rattle.rsvp_base.specs.Table.{changed, get, has}
use Rattle.rsvp_base.proofs.Changed.{has_changed}
use Rattle.path_state.specs.Paths.{PathMap, path_keys}
use Rattle.blockade_state.specs.Blockades.{WallMap}
use Rattle.resv_state.specs.Resvs.{ResvFacts}
use Rattle.resv_admission.specs.RouterState.State.{path_at, resv_at, wall_at}
use Rattle.router_rules.specs.Facts.{SenderKey}
use Rattle.style_rules.specs.Lines.{LineKey, line_keys}
use Rattle.style_rules.specs.Targets.{WallKey, wall_keys}
use Rattle.stale_state.specs.Tables.{paths_of, walls_of}

some_of : {A B : Type 0} (f : A → B) (o : Option A) → is_some (option_map f o) ≡ is_some o
some_of f None = refl
some_of f (Some a) = refl

pub copied_there : {A : Type 0} (r : Option (Bor A)) → is_some (option_copied r) ≡ is_some r
copied_there None = refl
copied_there (Some x) = refl

pub path_seen : (t : PathMap) (k : SenderKey) → is_some (option_map (λ e. e.0) (get t.facts k)) ≡ has (paths_of (Some t)) k
path_seen t k = some_of (λ e. e.0) (get t.facts k) ∙ sym (has_changed path_keys (path_at 0) (λ q v. refl) t.facts k)

pub wall_seen : (t : WallMap) (k : WallKey) → is_some (option_map (λ e. e.0) (get t k)) ≡ has (walls_of (Some t)) k
wall_seen t k = some_of (λ e. e.0) (get t k) ∙ sym (has_changed wall_keys (wall_at 0) (λ q v. refl) t k)

pub resv_seen : (m : ResvFacts) (k : LineKey) → is_some (option_map (λ e. e.0) (get m k)) ≡ has (changed (resv_at 0) m) k
resv_seen m k = some_of (λ e. e.0) (get m k) ∙ sym (has_changed line_keys (resv_at 0) (λ q v. refl) m k)
