-- The text of a report of a network, in the lines of `value_texts`: the book of an end, plain and with policing flags; and what the
-- paths offer that came there.
use Rattle.std.specs.Prelude.{ℕ, Bool, true, false, List, ◌++◌, map as each, codes}
use Rattle.std.specs.List.{flat_map}
use Rattle.rsvp_base.specs.declared.entry_key.EntryKey.{EntryKey}
use Rattle.rsvp_base.specs.declared.part.Part.{Part}
use Rattle.value_texts.specs.AdspecText.{adspec_words}
use Rattle.value_texts.specs.Reports.{entry_line, head_text, held_of, book_text}
use Rattle.value_texts.specs.Texts.{sender_text, session_text}
use Rattle.router_examples.specs.RsvpMessages.RsvpObjects.declared.adspec.Adspec.{Adspec}
use Rattle.router_examples.specs.RouterRules.Facts.{SenderKey}
use Rattle.router_examples.specs.RouterRules.declared.entry.Entry.{Entry}
use Rattle.router_examples.specs.RouterRules.declared.entry.Police.{Police}
use Rattle.tree_model.specs.Lines.{BookTable}

-- ---- a book without flags
abbrev pub table_text : List ℕ → ℕ → BookTable → List ℕ
table_text name capacity book = book_text name capacity book.rows

-- ---- and with them
abbrev pub flag_text : List ℕ → Bool → List ℕ
flag_text set true = set
flag_text set false = codes "-"

abbrev pub police_text : Police → List ℕ
police_text p = codes " " ++ flag_text (codes "e") p.e ++ flag_text (codes "m") p.m ++ flag_text (codes "b") p.b

abbrev pub flagged_text : Entry → List ℕ
flagged_text e = entry_line e.key e.part (police_text e.police)

abbrev pub flags_text : List ℕ → ℕ → List Entry → List ℕ
flags_text name capacity entries = head_text name (held_of (each (λ e. (e.key, e.part)) entries)) capacity ++ flat_map flagged_text entries

-- ---- END SESSION SENDER, and the words of the ADSPEC
abbrev pub advert_text : List ℕ → SenderKey × Adspec → List ℕ
advert_text name e = name ++ codes " " ++ session_text e.0.0 ++ codes " " ++ sender_text e.0.1 ++ adspec_words e.1 ++ codes "\n"

abbrev pub adverts_text : List ℕ → List (SenderKey × Adspec) → List ℕ
adverts_text name rows = flat_map (advert_text name) rows
