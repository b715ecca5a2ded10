-- Which rule of a tree a `hop` or a `reroute` line breaks, and by which of its words.
use Rattle.std.specs.Prelude.{◌≡◌, ℕ, ◌+◌, ◌*◌, List, map as each, Option, Some, MatchOption, codes}
use Rattle.rsvp_base.specs.declared.addr.Addr.{Addr}
use Rattle.script_words.specs.Addresses.{addr_value}
use Rattle.tree_model.specs.Trees.{Grows, IsGrown, tree}
use Rattle.tree_routing.specs.HopFaults.{IsHopFault, IsTreeFault}
use Rattle.tree_routing.specs.declared.hop_faults.HopFault.{HopFault}
use Rattle.tree_routing.specs.declared.hop_faults.HopFault.TheVariants.{NoLink, Early, Reversed, Twice, OtherEnd}
use Rattle.script_grammar.specs.Draft.{Draft}
use Rattle.script_grammar.specs.Rules.{BreaksFirst, Closes, Exceeds, Keeps}
use Rattle.script_grammar.specs.Values.{hop_value}
use Rattle.script_grammar.specs.declared.fault.Fault.TheVariants.{NotTree}
use Rattle.script_grammar.specs.declared.line.HopEnds.{HopEnds}
use Rattle.script_grammar.specs.declared.line.ScriptLine.{ScriptLine}
use Rattle.script_grammar.specs.declared.line.ScriptLine.TheVariants as line
use Rattle.script_grammar.specs.declared.blame.Blame.{Blame}
use Rattle.script_grammar.specs.declared.blame.Blame.TheVariants.{Hop}

-- ---- what is asked of the lines before
-- why the tree of this group and source cannot grow by a hop; none, where it can
abbrev pub IsHopAnswer : Draft → Addr → Addr → HopEnds → Option HopFault → Type 0
IsHopAnswer d g s h found = MatchOption found (Grows d.net s (tree d.net.hops g s) (hop_value d h)) (IsHopFault d.net s (tree d.net.hops g s) (hop_value d h))

-- by which of these hops, by place, and why a tree of this source cannot grow; none, where they grow one
abbrev pub IsTreeAnswer : Draft → Addr → List HopEnds → Option (ℕ × HopFault) → Type 0
IsTreeAnswer d s hops found = MatchOption found (IsGrown d.net s (each (hop_value d) hops)) (λ f. IsTreeFault d.net s (each (hop_value d) hops) f.0 f.1)

-- ---- what is to blame
-- of a hop whose first end is the word of this number: that end, or the next one
abbrev pub hop_word : ℕ → HopFault → ℕ
hop_word first NoLink = first + 1
hop_word first Early = first
hop_word first Reversed = first
hop_word first Twice = first + 1
hop_word first OtherEnd = first

abbrev pub hop_blame : ℕ → HopFault → Blame
hop_blame first why = Hop (hop_word first why) why

-- the ends of a hop are the words behind the group and the source
abbrev pub first_end : ℕ → ℕ
first_end place = 3 + 2 * place

abbrev pub IsTreeBlame : Draft → Option ScriptLine → Blame → Type 0
IsTreeBlame d (Some (line.Hop l)) blame =
    (why : HopFault) × IsHopFault d.net (addr_value l.source) (tree d.net.hops (addr_value l.group) (addr_value l.source)) (hop_value d l.ends) why × (blame ≡ hop_blame (first_end 0) why)
IsTreeBlame d (Some (line.Reroute l)) blame =
    (place : ℕ) × ((why : HopFault) × IsTreeFault d.net (addr_value l.source) (each (hop_value d) l.hops) place why × (blame ≡ hop_blame (first_end place) why))
IsTreeBlame d _ blame = ⊥

-- the first rule that it breaks is that of trees
abbrev pub BreaksTree : Draft → ScriptLine → Type 0
BreaksTree d said = BreaksFirst (Keeps d said) (Exceeds d said) (Closes d said) NotTree

-- ---- what is said of it
abbrev pub hop_text : HopFault → List ℕ
hop_text NoLink = codes "no link joins this end to the one before it"
hop_text Early = codes "the tree has not reached the node of this end: the hop into a node comes before those out of it"
hop_text Reversed = codes "the tree has reached the node of the next end and not that of this one: a hop goes out of the node that is reached"
hop_text Twice = codes "the tree has already reached the node of this end: one hop goes into each node, and none into that of the source"
hop_text OtherEnd = codes "at most one end of a link sends for a tree, and another one of this link does"
