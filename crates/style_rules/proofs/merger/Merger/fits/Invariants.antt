use Rattle.std.proofs.Common.{◌≡◌, ◌≤◌, take, map as each}
use Rattle.rsvp_base.specs.Sets.{union}
use Rattle.rsvp_base.specs.Table.{size}
use Rattle.style_rules.specs.Tally.{names_of_rows}
use Rattle.style_rules.specs.TallyRows.{tally_row}
use Rattle.style_rules.proofs.merger.Merger.fits.Given as goal

abbrev pub invariant-loop-row : goal.invariant-loop-row
invariant-loop-row g l = record { names : l.all ≡ union l.part.senders (names_of_rows (each tally_row (take l.row-index l.row-items))); few : size l.all ≤ 16 }
