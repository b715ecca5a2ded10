use Rattle.std.proofs.Common.{◌≡◌, ◌≤◌, ◌++◌, drop, vec_capacity}
use Rattle.std.specs.Io.{StartsWith}
use Rattle.std.specs.List.{flat_map}
use Rattle.message_show.specs.PartTexts.{offer_text}
use Rattle.message_show.proofs.parts.put_offers.Given as goal

-- what is written and what the rest writes is the whole text; what was there stands in front, and the room did not shrink
abbrev pub invariant-loop-offer : goal.invariant-loop-offer
invariant-loop-offer l = (l.out.items ++ flat_map offer_text (drop l.offer-index l.offers) ≡ l.fn.out.items ++ flat_map offer_text l.offers)
    × StartsWith l.out.items l.fn.out.items
    × (vec_capacity l.fn.out ≤ vec_capacity l.out)
