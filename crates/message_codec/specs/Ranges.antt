-- What the types of code know of a message: its numbers have room in their fields, and its flows are sound.
use Rattle.std.specs.Prelude.{◌≤◌}
use Rattle.std.specs.List.{AllByRecursion}
use Rattle.rsvp_base.specs.Table.{keys, size}
use Rattle.rsvp_objects.specs.declared.object.Object.{Object}
use Rattle.rsvp_objects.specs.declared.object.Object.TheVariants as object
use Rattle.rsvp_objects.specs.Proper.{IsSender, IsProper}
use Rattle.rsvp_messages.specs.declared.message.Message.{Message}
use Rattle.message_codec.specs.Objects.{objects_of}

-- proper, but for the ports of a SCOPE
abbrev pub IsInRange : Object → Type 0
IsInRange (object.Scope names) = (size names ≤ 16) × AllByRecursion IsSender (keys names)
IsInRange x = IsProper x

-- each object of a message is so
abbrev pub AreInRange : Message → Type 0
AreInRange v = AllByRecursion IsInRange (objects_of v)
