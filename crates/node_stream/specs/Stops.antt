-- Why a frame was not served.
use Rattle.std.specs.Prelude.{◌≡◌, ℕ, List, Option, None, Some}
use Rattle.node_stream.specs.Advice.{IsAdvice}
use Rattle.node_stream.specs.Blames.{IsBlamed, IsPlaceBlame, why_of}
use Rattle.node_stream.specs.Layout.{frame_of}
use Rattle.node_stream.specs.Rules.{AreNumbersInRange}
use Rattle.node_stream.specs.declared.frame.Frame.TheVariants.{Opens}
use Rattle.node_stream.specs.declared.placing.PlaceErr.{PlaceErr}
use Rattle.node_stream.specs.declared.placing.PlaceErr.TheVariants as place
use Rattle.node_stream.specs.Serving.{Standing, place_if}
use Rattle.node_stream.specs.declared.ending.Ending.{Ending}
use Rattle.node_stream.specs.declared.ending.Ending.TheVariants as ending
use Rattle.node_stream.specs.declared.state.Stop.{Stop}
use Rattle.node_stream.specs.declared.state.Stop.TheVariants.{Bad, NoMemory}

-- there is no place
abbrev pub stop_of : PlaceErr → Stop
stop_of (place.Bad b) = Bad b
stop_of place.NoMemory = NoMemory

-- the contents say no place; or their numbers are in range, and there was no memory for the router
abbrev pub IsUnopened : List ℕ → Stop → Type 0
IsUnopened contents (Bad b) = IsPlaceBlame contents b
IsUnopened contents NoMemory = AreNumbersInRange contents

-- the frame of this kind breaks a rule; or it opens the router, its numbers are in range, and there was no memory for that
abbrev pub IsStopped : Option Standing → ℕ → List ℕ → Stop → Type 0
IsStopped st kind contents (Bad b) = IsBlamed (place_if st) kind contents b
IsStopped st kind contents NoMemory = (st ≡ None) × (frame_of kind contents ≡ Some Opens) × AreNumbersInRange contents

-- ---- how service ends then, at the frame of this number
abbrev pub ending_at : ℕ → Stop → Ending
ending_at number (Bad b) = ending.BadFrame number (why_of b)
ending_at number NoMemory = ending.NoMemory

-- and the text that says what is wrong with it
abbrev pub IsAdvisedAt : Stop → List ℕ → List ℕ → Type 0
IsAdvisedAt (Bad b) before text = IsAdvice b text
IsAdvisedAt NoMemory before text = text ≡ before
