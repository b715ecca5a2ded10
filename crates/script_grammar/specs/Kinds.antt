-- The kinds of lines: a first word, and the fields behind it.
use Rattle.std.specs.Prelude.{ℕ, ◌%◌, List, [], ◌∷◌, Bool, ◌&&◌, ◌==◌, nat_le, Option, None, Some, option_map, codes, length, slice_get, unwrap_or, if◌then◌else◌}
use Rattle.std.specs.Str.{bytes_eq}
use Rattle.script_grammar.specs.declared.field.Field.{Field}
use Rattle.script_grammar.specs.declared.field.Field.TheVariants as field
use Rattle.script_grammar.specs.declared.kind.Kind.{Kind}
use Rattle.script_grammar.specs.declared.kind.Kind.TheVariants.{Period, Seed, Node, End, Latency, Link, Hop, StalePath, StaleResv, WildResv, Blockade, HopBlockade}
use Rattle.script_grammar.specs.declared.kind.Kind.TheVariants.{SenderBlockade, Send, Drop, Advert, Want}
use Rattle.script_grammar.specs.declared.kind.Kind.TheVariants.{WildWant, Quit, Clear, Wait, Pass, Rounds, Deliver, Lose, Copy, Inject, Trace, Report, Flags, Adverts, Reroute}

-- ---- the kind of a line
-- by its first word: by these, and else so
abbrev pub by_first : List (List ℕ × Kind) → Option Kind → List ℕ → Option Kind
by_first [] other first = other
by_first (k ∷ more) other first = if bytes_eq first k.0 then Some k.1 else by_first more other first

unfoldable pub other_kind : List ℕ → Option Kind
other_kind first = by_first ((codes "trace", Trace) ∷ (codes "report", Report) ∷ (codes "flags", Flags) ∷ (codes "adverts", Adverts) ∷ (codes "reroute", Reroute) ∷ []) None
    first

unfoldable pub flight_kind : List ℕ → Option Kind
flight_kind first =
    by_first ((codes "wait", Wait) ∷ (codes "pass", Pass) ∷ (codes "rounds", Rounds) ∷ (codes "deliver", Deliver) ∷ (codes "lose", Lose)
    ∷ (codes "copy", Copy) ∷ (codes "inject", Inject) ∷ []) (other_kind first) first

unfoldable pub node_kind : List ℕ → Option Kind
node_kind first =
    by_first ((codes "send", Send) ∷ (codes "drop", Drop) ∷ (codes "advert", Advert) ∷ (codes "want", Want) ∷ (codes "quit", Quit) ∷ (codes "clear", Clear) ∷ [])
    (flight_kind first) first

unfoldable pub left_kind : List ℕ → Option Kind
left_kind first =
    by_first ((codes "stale-path", StalePath) ∷ (codes "stale-resv", StaleResv) ∷ (codes "stale-blockade", Blockade) ∷ []) (node_kind first) first

unfoldable pub declared_kind : List ℕ → Option Kind
declared_kind first =
    by_first ((codes "period", Period) ∷ (codes "seed", Seed) ∷ (codes "node", Node) ∷ (codes "end", End) ∷ (codes "latency", Latency)
    ∷ (codes "link", Link) ∷ (codes "hop", Hop) ∷ []) (left_kind first) first

-- and by the third word behind it: the style, or the target of a blockade
abbrev pub third_of : List (List ℕ) → List ℕ
third_of (a ∷ b ∷ c ∷ more) = c
third_of _ = []

abbrev pub refined : Kind → List ℕ → Kind
refined StaleResv third = if bytes_eq third (codes "WF") then WildResv else StaleResv
refined Want third = if bytes_eq third (codes "WF") then WildWant else Want
refined Blockade third =
    if bytes_eq third (codes "hop") then HopBlockade else (
    if bytes_eq third (codes "sender") then SenderBlockade else Blockade)
refined kind third = kind

abbrev pub kind_of : List (List ℕ) → Option Kind
kind_of [] = None
kind_of (first ∷ behind) = option_map (λ kind. refined kind (third_of behind)) (declared_kind first)

-- ---- its fields, in order, behind the first word
abbrev pub fields_of : Kind → List Field
fields_of Period = field.Period ∷ []
fields_of Seed = field.Seed ∷ []
fields_of Node = field.Name ∷ []
fields_of End = field.Name ∷ field.Name ∷ field.Host ∷ field.Capacity ∷ field.Mtu ∷ []
fields_of Latency = field.Name ∷ field.Latency ∷ []
fields_of Link = field.Name ∷ field.Name ∷ field.Name ∷ field.Name ∷ field.Name ∷ field.Name ∷ field.Name ∷ field.Name ∷ []
fields_of Hop = field.Group ∷ field.Address ∷ field.Name ∷ field.Name ∷ []
fields_of StalePath = field.Name ∷ field.Session ∷ field.Sender ∷ field.Name ∷ field.Address ∷ field.Flow ∷ field.Left ∷ []
fields_of StaleResv = field.Name ∷ field.Session ∷ field.Style ∷ field.Address ∷ field.Senders ∷ field.Flow ∷ field.Left ∷ []
fields_of WildResv = field.Name ∷ field.Session ∷ field.Style ∷ field.Address ∷ field.Addresses ∷ field.Flow ∷ field.Left ∷ []
fields_of Blockade = field.Name ∷ field.Session ∷ field.Target ∷ []
fields_of HopBlockade = field.Name ∷ field.Session ∷ field.Target ∷ field.Name ∷ field.Address ∷ field.Sub ∷ field.Flow ∷ field.WallLeft ∷ []
fields_of SenderBlockade = field.Name ∷ field.Session ∷ field.Target ∷ field.Sender ∷ field.Sub ∷ field.Flow ∷ field.WallLeft ∷ []
fields_of Send = field.Name ∷ field.Session ∷ field.Sender ∷ field.Flow ∷ []
fields_of Drop = field.Name ∷ field.Session ∷ field.Sender ∷ []
fields_of Advert = field.Name ∷ field.Session ∷ field.Sender ∷ []
fields_of Want = field.Name ∷ field.Session ∷ field.Style ∷ field.Senders ∷ field.Flow ∷ field.Confirm ∷ []
fields_of WildWant = field.Name ∷ field.Session ∷ field.Style ∷ field.Anyone ∷ field.Flow ∷ field.Confirm ∷ []
fields_of Quit = field.Name ∷ field.Session ∷ []
fields_of Clear = field.Name ∷ []
fields_of Wait = field.Wait ∷ []
fields_of Pass = field.Passes ∷ []
fields_of Rounds = field.Rounds ∷ []
fields_of Deliver = field.Place ∷ []
fields_of Lose = field.Place ∷ []
fields_of Copy = field.Place ∷ []
fields_of Inject = field.Name ∷ field.Address ∷ field.Digits ∷ []
fields_of Trace = field.Switch ∷ []
fields_of Report = field.Name ∷ []
fields_of Flags = []
fields_of Adverts = []
fields_of Reroute = field.Group ∷ field.Address ∷ []

-- a line may have so many words behind the first: one for each field, but that some may lack, and more ends may come
abbrev pub has_count : Kind → ℕ → Bool
has_count Link count = nat_le 2 count && nat_le count 8
has_count Blockade count = nat_le 3 count
has_count Want count = nat_le 5 count && nat_le count 6
has_count WildWant count = nat_le 5 count && nat_le count 6
has_count Pass count = nat_le count 1
has_count Report count = nat_le count 1
has_count Reroute count = nat_le 2 count && (count % 2 == 0)
has_count kind count = count == length (fields_of kind)

-- the field of the word at this place behind the first; behind all fields come names of ends
abbrev pub field_at : Kind → ℕ → Field
field_at kind place = unwrap_or (slice_get (fields_of kind) place) field.Name
