-- Which words of a line are names of what an earlier line has to declare.
use Rattle.std.specs.Prelude.{ℕ, List, [], ◌∷◌, Option, None, Some, slice_get, unwrap_or}
use Rattle.script_grammar.specs.declared.kind.Kind.{Kind}
use Rattle.script_grammar.specs.declared.kind.Kind.TheVariants.{End, Latency, Link, Hop, StalePath, StaleResv, WildResv, HopBlockade}
use Rattle.script_grammar.specs.declared.kind.Kind.TheVariants.{SenderBlockade, Send, Drop, Advert, Want, WildWant, Quit, Clear, Inject}
use Rattle.script_grammar.specs.declared.kind.Kind.TheVariants.{Report, Reroute}
use Rattle.script_grammar.specs.declared.named.Named.{Named}
use Rattle.script_grammar.specs.declared.named.Named.TheVariants as named

-- of the words behind the first, in order, which are names of nodes and which of ends
abbrev pub names_of : Kind → List (Option Named)
names_of End = None ∷ Some named.Node ∷ []
names_of Latency = Some named.End ∷ []
names_of Hop = None ∷ None ∷ Some named.End ∷ Some named.End ∷ []
names_of StalePath = Some named.Node ∷ None ∷ None ∷ Some named.End ∷ []
names_of StaleResv = Some named.End ∷ []
names_of WildResv = Some named.End ∷ []
names_of HopBlockade = Some named.Node ∷ None ∷ None ∷ Some named.End ∷ []
names_of SenderBlockade = Some named.Node ∷ []
names_of Send = Some named.Node ∷ []
names_of Drop = Some named.Node ∷ []
names_of Advert = Some named.Node ∷ []
names_of Want = Some named.Node ∷ []
names_of WildWant = Some named.Node ∷ []
names_of Quit = Some named.Node ∷ []
names_of Clear = Some named.Node ∷ []
names_of Inject = Some named.End ∷ []
names_of Report = Some named.End ∷ []
names_of Reroute = None ∷ None ∷ []
names_of kind = []

-- what the words behind these are
abbrev pub names_behind : Kind → Option Named
names_behind Link = Some named.End
names_behind Reroute = Some named.End
names_behind kind = None

-- the word at this place behind the first is the name of a node; or of an end; or it is no such name
abbrev pub named_at : Kind → ℕ → Option Named
named_at kind place = unwrap_or (slice_get (names_of kind) place) (names_behind kind)
