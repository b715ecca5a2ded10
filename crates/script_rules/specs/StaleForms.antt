-- The form of a line of a left-over reservation.
use Rattle.std.specs.Prelude.{◌≡◌, ◌<◌, List, length}
use Rattle.rsvp_base.specs.declared.style.StyleKind.{StyleKind}
use Rattle.rsvp_base.specs.declared.style.StyleKind.TheVariants.{Wild, Fixed, Shared}
use Rattle.rsvp_base.specs.Members.{In}
use Rattle.script_words.specs.declared.raw.SenderWord.{SenderWord}

-- it names someone, and for WF by the address alone
abbrev pub IsResvForm : StyleKind → List SenderWord → Type 0
IsResvForm Wild xs = (0 < length xs) × ((x : SenderWord) → In x xs → x.port ≡ 0)
IsResvForm Fixed xs = 0 < length xs
IsResvForm Shared xs = 0 < length xs
