use Rattle.std.proofs.Common.{◌≡◌, ◌++◌, codes, drop}
use Rattle.std.specs.List.{flat_map}
use Rattle.script_events.specs.EventTexts.{entry_object}
use Rattle.script_events.proofs.book_texts.put_others.Given as goal

-- what is written and what the rest writes is the whole text
abbrev pub invariant-loop-entry : goal.invariant-loop-entry
invariant-loop-entry l =
    l.out.items ++ flat_map (λ e. codes "," ++ entry_object e) (drop l.entry-index l.others) ≡ l.fn.out.items ++ flat_map (λ e. codes "," ++ entry_object e) l.others
