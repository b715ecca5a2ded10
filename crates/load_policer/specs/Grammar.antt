-- What a line of a stream of packets says, by its words.
use Rattle.std.specs.Prelude.{◌≡◌, ℕ, List, [], ◌∷◌, Bool, true, false, ◌==◌, Option, None, Some, codes, slice_index, if◌then◌else◌}
use Rattle.std.specs.Str.{byte, bytes_eq}
use Rattle.script_words.specs.Steps.{◌>>=◌}
use Rattle.script_words.specs.Words.{words_of}
use Rattle.script_words.specs.Numbers.{number_of}
use Rattle.script_words.specs.Flows.{flow_of}
use Rattle.load_policer.specs.declared.line.PacketLine.{PacketLine}
use Rattle.load_policer.specs.declared.line.PacketLine.TheVariants.{Skipped, Flow, Packet}

-- ---- the words of a line
abbrev pub is_flow_word : List ℕ → Bool
is_flow_word word = bytes_eq word (codes "flow")

-- FLOW
unfoldable pub flow_line : List ℕ → Option PacketLine
flow_line flow = do
  w ← flow_of flow
  Some (Flow w)

-- MICROSECONDS BYTES
unfoldable pub number_line : List ℕ → List ℕ → Option PacketLine
number_line micros bytes = do
  at ← number_of micros
  size ← number_of bytes
  Some (Packet at size)

abbrev pub pair_line : List ℕ → List ℕ → Option PacketLine
pair_line first second = if is_flow_word first then flow_line second else number_line first second

-- no number and no flow has a byte that is not printable
abbrev pub said_by : List (List ℕ) → Option PacketLine
said_by [] = Some Skipped
said_by (first ∷ second ∷ []) = pair_line first second
said_by _ = None

abbrev pub is_comment : List ℕ → Bool
is_comment line = slice_index line 0 == byte "#"

-- what a line says; `None`: it has another number of words, or one is not of its form
abbrev pub packet_line_of : List ℕ → Option PacketLine
packet_line_of line = if is_comment line then Some Skipped else said_by (words_of line)

-- ---- its place
-- the flow stands once, before all packets
abbrev pub in_place : Bool → PacketLine → Option PacketLine
in_place has_flow Skipped = Some Skipped
in_place false (Flow w) = Some (Flow w)
in_place true (Flow w) = None
in_place false (Packet at size) = None
in_place true (Packet at size) = Some (Packet at size)

-- a line of the flow stands behind lines without it, and a line of a packet behind lines with it
abbrev pub IsPlaced : Bool → PacketLine → Type 0
IsPlaced has_flow Skipped = Unit {0}
IsPlaced has_flow (Flow w) = has_flow ≡ false
IsPlaced has_flow (Packet at size) = has_flow ≡ true

-- what a line says, behind lines with the flow or without it
abbrev pub line_behind : Bool → List ℕ → Option PacketLine
line_behind has_flow line = packet_line_of line >>= in_place has_flow
