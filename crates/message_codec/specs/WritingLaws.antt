-- The laws of what is written.
use Rattle.std.specs.Prelude.{◌≡◌, ℕ, false, List, [], ◌∷◌, ◌++◌, length}
use Rattle.std.specs.List.{AllByRecursion}
use Rattle.rsvp_objects.specs.declared.object.Object.{Object}
use Rattle.rsvp_objects.specs.Fields.{AreBytes}
use Rattle.rsvp_objects.specs.Proper.{class_of, IsProper}
use Rattle.rsvp_messages.specs.declared.message.Kind.{Kind}
use Rattle.rsvp_messages.specs.declared.message.Message.{Message}
use Rattle.message_codec.specs.Laws.{IsInPlace}
use Rattle.message_codec.specs.Places.{Stand}
use Rattle.message_codec.specs.Spells.{Spells}
use Rattle.message_codec.specs.Table.{is_unread}
use Rattle.message_codec.specs.Encoding.{IsWritable, spellings}

-- a message that bytes spell is writable
abbrev pub WhatIsSpeltIsWritable : Type 0
WhatIsSpeltIsWritable = (b : List ℕ) (v : Message) → AreBytes b → Spells b v → IsWritable v

-- the kind of a message reads this object, and does not skip it
abbrev pub IsReadIn : Kind → Object → Type 0
IsReadIn kind x = is_unread kind (class_of x) ≡ false

-- behind a header, the spellings of proper objects that are each in their place stand one after the other to the end
abbrev pub WhatIsInPlaceStands : Type 0
WhatIsInPlaceStands = (kind : Kind) (front : List ℕ) (xs : List Object) → length front ≡ 8 → AllByRecursion IsProper xs → AllByRecursion (IsReadIn kind) xs
    → ((before after : List Object) (x : Object) → xs ≡ before ++ x ∷ after → IsInPlace kind before x)
    → Stand kind (front ++ spellings xs) [] 8 xs (length (front ++ spellings xs))
