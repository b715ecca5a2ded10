-- The text of a report: for each end what it holds, and the entries of its book.
use Rattle.std.specs.Prelude.{ℕ, List, [], ◌++◌, codes, sum_by}
use Rattle.std.specs.Fmt.{decimal}
use Rattle.std.specs.List.{flat_map}
use Rattle.rsvp_base.specs.Table.{keys}
use Rattle.rsvp_base.specs.declared.part.Part.{Part}
use Rattle.rsvp_base.specs.declared.entry_key.EntryKey.{EntryKey}
use Rattle.value_texts.specs.Texts.{flow_text, names_text, session_text, style_text}

-- the line of an entry: SESSION STYLE SENDERS FLOW, and what is said besides
unfoldable pub entry_line : EntryKey → Part → List ℕ → List ℕ
entry_line key part more =
    session_text key.session ++ codes " " ++ style_text key.style ++ codes " " ++ names_text key.style (keys part.senders) ++ codes " " ++ flow_text part.flow ++ more ++ codes "\n"

-- an entry of which nothing is said besides
abbrev pub entry_text : EntryKey → Part → List ℕ
entry_text key part = entry_line key part []

-- the line of an end: end NAME held SUM of CAPACITY
unfoldable pub head_text : List ℕ → ℕ → ℕ → List ℕ
head_text name held capacity = codes "end " ++ name ++ codes " held " ++ decimal held ++ codes " of " ++ decimal capacity ++ codes "\n"

-- what the entries of a book charge together
abbrev pub held_of : List (EntryKey × Part) → ℕ
held_of entries = sum_by (λ e. e.1.flow.r) entries

-- an end and its book, entry by entry
abbrev pub book_text : List ℕ → ℕ → List (EntryKey × Part) → List ℕ
book_text name capacity entries = head_text name (held_of entries) capacity ++ flat_map (λ e. entry_text e.0 e.1) entries
