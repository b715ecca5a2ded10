-- Which lines ask for memory: to be read, or to be added, each only where it keeps the rules that are looked at before.
use Rattle.std.specs.Prelude.{◌≡◌, ◌⊎◌, ℕ, List, Some}
use Rattle.std.specs.List.{All}
use Rattle.script_grammar.specs.LineKinds.{script_line_of}
use Rattle.script_grammar.specs.Reading.{TakesToRead}
use Rattle.script_words.specs.Addresses.{addr_value}
use Rattle.script_words.specs.Sessions.{session_value}
use Rattle.script_grammar.specs.Draft.{Draft}
use Rattle.script_grammar.specs.Rules.{HasRoomForSession, IsEnd, IsSource, Keeps, KeepsAll, Rule, InTime, InRange, Known, New, OfStyle, WithinLimits, OfTree}
use Rattle.script_grammar.specs.Values.{IsRerouteInRange}
use Rattle.script_grammar.specs.declared.line.HopEnds.{HopEnds}
use Rattle.script_grammar.specs.declared.line.RerouteLine.{RerouteLine}
use Rattle.script_grammar.specs.declared.line.ScriptLine.{ScriptLine}
use Rattle.script_grammar.specs.declared.line.ScriptLine.TheVariants as line

-- ---- rules that are kept, the first ones in the order in which they are looked at
abbrev pub KeepsKnown : (Rule → Type 0) → Type 0
KeepsKnown rules = rules InTime × rules InRange × rules Known

abbrev pub KeepsNew : (Rule → Type 0) → Type 0
KeepsNew rules = rules InTime × rules InRange × rules Known × rules New

abbrev pub KeepsTree : (Rule → Type 0) → Type 0
KeepsTree rules = rules InTime × rules InRange × rules Known × rules New × rules OfStyle × rules WithinLimits × rules OfTree

-- ---- the ends of hops, and the source of a tree
abbrev pub IsDeclared : Draft → HopEnds → Type 0
IsDeclared d h = IsEnd d h.from × IsEnd d h.to

-- of a tree that is to move: whether there is a declared one is looked at only in the routing that the lines declare, which takes memory
pub record CanBeLookedUp (d : Draft) (l : RerouteLine) : Type 0 where
  pub in_range : IsRerouteInRange l
  pub ends : All (IsDeclared d) l.hops
  pub source : IsSource d (addr_value l.source)

-- ---- by the kind of the line; no other asks
abbrev pub AsksMemory : Draft → ScriptLine → Type 0
AsksMemory d (line.Node name) = KeepsAll (Keeps d (line.Node name))
AsksMemory d (line.End l) = KeepsAll (Keeps d (line.End l))
AsksMemory d (line.Latency l) = KeepsAll (Keeps d (line.Latency l))
AsksMemory d (line.Link names) = KeepsAll (Keeps d (line.Link names))
AsksMemory d (line.Hop l) = KeepsTree (Keeps d (line.Hop l))
AsksMemory d (line.StalePath l) = KeepsNew (Keeps d (line.StalePath l)) × HasRoomForSession d (session_value l.session)
AsksMemory d (line.StaleResv l) = KeepsKnown (Keeps d (line.StaleResv l))
AsksMemory d (line.StaleHopWall l) = KeepsNew (Keeps d (line.StaleHopWall l)) × HasRoomForSession d (session_value l.session)
AsksMemory d (line.StaleSenderWall l) = KeepsNew (Keeps d (line.StaleSenderWall l)) × HasRoomForSession d (session_value l.session)
AsksMemory d (line.Send l) = KeepsAll (Keeps d (line.Send l))
AsksMemory d (line.Drop l) = KeepsAll (Keeps d (line.Drop l))
AsksMemory d (line.Advert l) = KeepsAll (Keeps d (line.Advert l))
AsksMemory d (line.Want l) = KeepsKnown (Keeps d (line.Want l))
AsksMemory d (line.Quit l) = KeepsAll (Keeps d (line.Quit l))
AsksMemory d (line.Inject l) = KeepsAll (Keeps d (line.Inject l))
AsksMemory d (line.Reroute l) = CanBeLookedUp d l
AsksMemory d _ = ⊥

-- ---- by its text
-- what the text says takes memory behind these lines
pub record AsksToBeAdded (d : Draft) (text : List ℕ) : Type 0 where
  pub said : ScriptLine
  pub reads : script_line_of text ≡ Some said
  pub asks : AsksMemory d said

-- memory is asked for as the text is read, or as what it says is added to these lines
abbrev pub AsksToBeTaken : Draft → List ℕ → Type 0
AsksToBeTaken d text = TakesToRead text ⊎ AsksToBeAdded d text
