-- What the checker of lines is seen as.
use Rattle.script_grammar.specs.Draft.{Draft}
use Rattle.script_rules.specs.Said.{draft_of as draft_in}
use Rattle.script_checker.specs.declared.checker.Checker.{Checker}

abbrev pub draft_of : Checker → Draft
draft_of c = draft_in c.state
