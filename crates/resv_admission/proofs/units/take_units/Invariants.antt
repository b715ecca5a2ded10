use Rattle.std.specs.Prelude.{◌≡◌, ◌≤◌, ◌*◌, ℕ, false, [], length, take}
use Rattle.rsvp_base.specs.Table.{changed, size}
use Rattle.rsvp_messages.specs.Units.{asked_units}
use Rattle.router_rules.specs.Asking.{nothing_taken, take_units}
use Rattle.router_rules.specs.Facts.{Facts, resvs_of}
use Rattle.router_rules.specs.NodeConfig.{NodeConfig}
use Rattle.router_state.specs.State.{resv_at}
use Rattle.resv_admission.specs.Kept.{IsBookOf}
use Rattle.resv_admission.specs.Placing.{IsBookAmong}
use Rattle.resv_admission.specs.Standing.{parts_in}
use Rattle.resv_admission.specs.Units.{IsSoFar, asker_at}
use Rattle.resv_admission.proofs.units.take_units.Given as goal

abbrev pub invariant-loop-k : goal.invariant-loop-k
invariant-loop-k g l = record {
  so_far : (p : NodeConfig) (c : ℕ) (f : Facts) → p.ifaces ≡ l.fn.book.ifaces → resvs_of g.S.Style.kind_is f ≡ changed (resv_at c) l.fn.table.facts → IsBookOf f l.fn.book.entries
      → IsSoFar p c g.S.Style.kind_is l.asker f l.table.facts l.book.entries l.done (take_units p (asker_at c g.S.Style.kind_is l.asker) f l.all (nothing_taken (resvs_of g.S.Style.kind_is f) [])
      (take l.k (asked_units l.ask)));
  kept : IsBookAmong g.S.Style.kind_is l.table.facts l.book.entries;
  dead : l.table.dead ≡ l.fn.table.dead;
  ifaces : l.book.ifaces ≡ l.fn.book.ifaces;
  few_errors : length l.done.errors ≤ 2 * l.k;
  few_parts : size l.done.parts ≤ l.k;
  quiet : l.done.news ≡ false → parts_in l.table.facts ≡ parts_in l.fn.table.facts;
}
