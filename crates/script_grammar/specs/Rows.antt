-- Scripts whose first bad line and its fault are known.
use Rattle.std.specs.Prelude.{codes}
use Rattle.script_grammar.specs.Grammar.{IsBadLine}
use Rattle.script_grammar.specs.declared.fault.Fault.TheVariants.{Late, Name, NotTree, Range, Twice, Word}

pub record FaultsAreFound : Type 0 where
  pub word : IsBadLine (codes "frob\n") 1 Word
  pub late : IsBadLine (codes "wait 1\nnode x\n") 2 Late
  pub range : IsBadLine (codes "period 1002\n") 1 Range
  pub name : IsBadLine (codes "end a1 a 10.0.0.1 5 1500\n") 1 Name
  pub twice : IsBadLine (codes "node a\nnode a\n") 2 Twice
  pub not_tree : IsBadLine (codes "node a\nend a1 a 10.0.0.1 5 1500\nhop 239.1.1.1 10.0.0.1 a1 a1\n") 3 NotTree
