-- The parts of a line of JSON.
use Rattle.std.specs.Prelude.{ℕ, ◌/◌, ◌%◌, List, [], ◌∷◌, ◌++◌, ◌==◌, codes, if◌then◌else◌}
use Rattle.std.specs.Fmt.{decimal}
use Rattle.std.specs.List.{flat_map}
use Rattle.rsvp_base.specs.declared.addr.Addr.{Addr}
use Rattle.value_texts.specs.Texts.{addr_text}
use Rattle.value_texts.specs.Quotes.{hex_digit, is_visible}

-- the beginning of an event: its kind, and its time in milliseconds
unfoldable pub event_head : List ℕ → ℕ → List ℕ
event_head kind clock = codes "{\"event\":\"" ++ kind ++ codes "\",\"t\":" ++ decimal clock

-- the end of an event
abbrev pub close_text : List ℕ
close_text = codes "}\n"

-- ---- members
unfoldable pub member : List ℕ → List ℕ
member name = codes ",\"" ++ name ++ codes "\":"

unfoldable pub count_member : List ℕ → ℕ → List ℕ
count_member name n = member name ++ decimal n

-- a word that has nothing to escape
unfoldable pub word_member : List ℕ → List ℕ → List ℕ
word_member name word = member name ++ codes "\"" ++ word ++ codes "\""

unfoldable pub address_member : List ℕ → Addr → List ℕ
address_member name a = member name ++ codes "\"" ++ addr_text a ++ codes "\""

-- bytes, two digits each
unfoldable pub hex_text : ℕ → List ℕ
hex_text c = hex_digit (c / 16) ∷ hex_digit (c % 16) ∷ []

unfoldable pub hex_member : List ℕ → List ℕ → List ℕ
hex_member name bytes = member name ++ codes "\"" ++ flat_map hex_text bytes ++ codes "\""

-- a text: a quote, a backslash and bytes that are not printable ASCII are escaped
unfoldable pub escaped : ℕ → List ℕ
escaped c =
    if c == 34 then codes "\\\"" else (
    if c == 92 then codes "\\\\" else (
    if c == 10 then codes "\\n" else (
    if is_visible c then c ∷ [] else codes "\\u00" ++ hex_text c)))

unfoldable pub text_member : List ℕ → List ℕ → List ℕ
text_member name text = member name ++ codes "\"" ++ flat_map escaped text ++ codes "\""
