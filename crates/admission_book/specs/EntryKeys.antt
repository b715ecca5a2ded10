-- The order of a book's entries: by interface, session, style and unit.
use Rattle.std.specs.Prelude.{ℕ}
use Rattle.rsvp_base.specs.Keys.{Keys, numbers, pairs}
use Rattle.rsvp_base.specs.Orders.{entry_keys}
use Rattle.rsvp_base.specs.declared.entry_key.EntryKey.{EntryKey}

-- an interface's number and a key
abbrev pub places : Keys (ℕ × EntryKey)
places = pairs numbers entry_keys
