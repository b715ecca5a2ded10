-- Styles in words.
use Rattle.std.specs.Prelude.{ℕ, List, Option, None, Some, codes, if◌then◌else◌}
use Rattle.std.specs.Str.{bytes_eq}
use Rattle.rsvp_base.specs.declared.style.StyleKind.{StyleKind}
use Rattle.rsvp_base.specs.declared.style.StyleKind.TheVariants.{Wild, Fixed, Shared}

-- the style that a word names
abbrev pub style_of : List ℕ → Option StyleKind
style_of word =
    if bytes_eq word (codes "WF") then Some Wild else (
    if bytes_eq word (codes "FF") then Some Fixed else (
    if bytes_eq word (codes "SE") then Some Shared else None))
