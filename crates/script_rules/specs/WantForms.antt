-- The form of a line of a want.
use Rattle.std.specs.Prelude.{◌<◌, List, length}
use Rattle.rsvp_base.specs.declared.style.StyleKind.{StyleKind}
use Rattle.rsvp_base.specs.declared.style.StyleKind.TheVariants.{Wild, Fixed, Shared}
use Rattle.script_words.specs.declared.raw.SenderWord.{SenderWord}

-- it names someone where its style does
abbrev pub IsWantForm : StyleKind → List SenderWord → Type 0
IsWantForm Wild xs = Unit {0}
IsWantForm Fixed xs = 0 < length xs
IsWantForm Shared xs = 0 < length xs
