use Rattle.std.proofs.Common.{◌≡◌, map, take}
use Rattle.std.specs.List.{All}
use Rattle.script_words.specs.Sessions.{IsSender, sender_value}
use Rattle.script_rules.proofs.sender_lists.sender_values.Given as goal

-- those so far are senders, and are kept
abbrev pub invariant-loop-word : goal.invariant-loop-word
invariant-loop-word l =
    record {
      kept : l.senders.items ≡ map sender_value (take l.word-index l.words);
      in_range : All IsSender (take l.word-index l.words);
    }
