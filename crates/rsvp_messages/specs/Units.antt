-- What a Resv or a ResvTear is about: its style, units and names (RFC 2205, 1.3 and 3.1). A wildcard message without
-- SCOPE has no list of names, which is a case of its own and no empty list.
use Rattle.std.specs.Prelude.{List, [], ◌∷◌, map as each, Option, Some}
use Rattle.rsvp_base.specs.declared.session.Sender.{Sender}
use Rattle.rsvp_base.specs.declared.style.StyleKind.{StyleKind}
use Rattle.rsvp_base.specs.declared.style.StyleKind.TheVariants as style
use Rattle.rsvp_base.specs.declared.style.Unit.{Unit as UnitOf}
use Rattle.rsvp_base.specs.declared.style.Unit.TheVariants.{One, Of}
use Rattle.rsvp_base.specs.Orders.{Names}
use Rattle.rsvp_base.specs.Sets.{set_of}
use Rattle.rsvp_base.specs.TokenBucket.{TokenBucket}
use Rattle.rsvp_messages.specs.declared.ask.Ask.{Ask}
use Rattle.rsvp_messages.specs.declared.ask.Ask.TheVariants as ask
use Rattle.rsvp_messages.specs.declared.ask.Tear.{Tear}
use Rattle.rsvp_messages.specs.declared.ask.Tear.TheVariants as tear

-- the set of one sender
abbrev pub only : Sender → Names
only s = set_of (s ∷ [])

-- ---- what is asked for
-- a unit that is asked for; no names where a wildcard filter lacks its SCOPE
pub record AskedUnit : Type 0 where
  pub unit : UnitOf
  pub names : Option Names
  pub flow : TokenBucket

abbrev pub ask_style : Ask → StyleKind
ask_style (ask.Wild scope flow) = style.Wild
ask_style (ask.Fixed list) = style.Fixed
ask_style (ask.Shared part) = style.Shared

abbrev pub fixed_unit : Sender × TokenBucket → AskedUnit
fixed_unit e = record { unit = Of e.0; names = Some (only e.0); flow = e.1 }

-- in order of sender
abbrev pub asked_units : Ask → List AskedUnit
asked_units (ask.Wild scope flow) = (record { unit = One; names = scope; flow = flow }) ∷ []
asked_units (ask.Fixed list) = each fixed_unit list.rows
asked_units (ask.Shared part) = (record { unit = One; names = Some part.senders; flow = part.flow }) ∷ []

-- ---- what is torn down
abbrev pub tear_style : Tear → StyleKind
tear_style (tear.Wild scope) = style.Wild
tear_style (tear.Fixed senders) = style.Fixed
tear_style (tear.Shared senders) = style.Shared

-- all that it lists, whatever the unit
abbrev pub tear_names : Tear → Option Names
tear_names (tear.Wild scope) = scope
tear_names (tear.Fixed senders) = Some senders
tear_names (tear.Shared senders) = Some senders
