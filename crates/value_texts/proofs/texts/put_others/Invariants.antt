use Rattle.std.proofs.Common.{◌≡◌, ◌≤◌, ◌++◌, codes, drop, vec_capacity}
use Rattle.std.specs.Io.{StartsWith}
use Rattle.std.specs.List.{flat_map}
use Rattle.value_texts.specs.Texts.{name_text}
use Rattle.value_texts.proofs.texts.put_others.Given as goal

-- what is written and what the rest writes is the whole text; what was there stands in front, and the room did not shrink
abbrev pub invariant-loop-s : goal.invariant-loop-s
invariant-loop-s l = (l.out.items ++ flat_map (λ s. codes "," ++ name_text l.style s) (drop l.s-index l.others) ≡ l.fn.out.items ++ flat_map (λ s. codes "," ++ name_text l.style s) l.others)
    × StartsWith l.out.items l.fn.out.items × (vec_capacity l.fn.out ≤ vec_capacity l.out)
