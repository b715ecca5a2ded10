use Rattle.std.proofs.Common.{◌≡◌, map, take}
use Rattle.script_grammar.specs.LineKinds.{wild_word}
use Rattle.script_grammar.proofs.line_kinds.lists.wild_senders.Given as goal

-- the addresses so far, as senders
abbrev pub invariant-loop-addr : goal.invariant-loop-addr
invariant-loop-addr l = l.senders.items ≡ map wild_word (take l.addr-index l.addr-items)
