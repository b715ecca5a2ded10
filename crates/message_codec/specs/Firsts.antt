-- How the list of a style begins: of FF with the first filter that has a flow.
use Rattle.std.specs.Prelude.{◌≡◌, ◌≤◌, false, List, [], ◌∷◌, length, drop, Option, Err}
use Rattle.rsvp_base.specs.declared.session.Sender.{Sender}
use Rattle.rsvp_base.specs.declared.style.StyleKind.{StyleKind}
use Rattle.rsvp_base.specs.declared.style.StyleKind.TheVariants.{Wild, Fixed, Shared}
use Rattle.rsvp_base.specs.TokenBucket.{TokenBucket}
use Rattle.rsvp_objects.specs.Classes.{filter_spec}
use Rattle.rsvp_messages.specs.declared.fault.Fault.TheVariants.{Missing}
use Rattle.message_codec.specs.declared.listing.First.{First}
use Rattle.message_codec.specs.declared.listing.Start.{Start}
use Rattle.message_codec.specs.declared.listing.Start.TheVariants as start
use Rattle.message_codec.specs.declared.seen.Seen.{Seen}
use Rattle.message_codec.specs.Messages.{pairs_in, fixed_of}

-- it stands before a place, and what has a flow is this filter and those from that place on
pub record IsFirst (es : List (Sender × Option TokenBucket)) (p : First) : Type 0 where
  pub some : 1 ≤ p.behind
  pub within : p.behind ≤ length es
  pub pairs : pairs_in es ≡ (p.sender, p.flow) ∷ pairs_in (drop p.behind es)

-- of FF the first filter with a flow, where no FLOWSPEC stands last; SE names somebody
abbrev pub IsStart : StyleKind → Seen → Start → Type 0
IsStart Wild s start.Wild = Unit {0}
IsStart Fixed s (start.Fixed p) = (s.due ≡ false) × IsFirst s.filters p
IsStart Shared s start.Shared = s.filters ≡ [] → ⊥
IsStart _ s _ = ⊥

-- a FILTER_SPEC is missing
abbrev pub LacksFilter : StyleKind → Seen → Type 0
LacksFilter Wild s = ⊥
LacksFilter Fixed s = fixed_of s.due s.filters ≡ Err (Missing filter_spec)
LacksFilter Shared s = s.filters ≡ []
