-- Reservations that stand as they did: the same parts under the same keys, whatever is left of them, and whoever wants to hear
-- that they stand.
use Rattle.std.specs.Prelude.{◌≡◌, ℕ, Bool, true, false, Option, Some}
use Rattle.std.specs.Option.{option_map}
use Rattle.resv_admission.specs.declared.placing.Placed.{Placed}
use Rattle.resv_admission.specs.declared.placing.Placed.TheVariants as placed
use Rattle.resv_state.specs.Resvs.{ResvFacts}
use Rattle.resv_state.specs.declared.fact.ResvFact.{ResvFact}
use Rattle.rsvp_base.specs.Table.{Table, changed, get}
use Rattle.rsvp_base.specs.declared.part.Part.{Part}
use Rattle.style_rules.specs.Lines.{LineKey, line_keys}

abbrev pub part_of_row : LineKey → ResvFact × ℕ → Option Part
part_of_row k e = Some e.0.part

-- the part under each key
abbrev pub parts_in : ResvFacts → Table line_keys Part
parts_in m = changed part_of_row m

-- this part stands there
abbrev pub Stands : ResvFacts → LineKey → Part → Type 0
Stands m k part = option_map (λ (e : ResvFact × ℕ). e.0.part) (get m k) ≡ Some part

-- where nothing is new afterwards, nothing was before, and each part stands as it did
abbrev pub IsQuiet : Bool → Bool → ResvFacts → ResvFacts → Type 0
IsQuiet was now old new = now ≡ false → (was ≡ false) × (parts_in new ≡ parts_in old)

-- what took its place is new
abbrev pub is_news : Placed → Bool → Bool
is_news placed.LeftOut was = was
is_news (placed.Refused why) was = was
is_news placed.Taken was = true
