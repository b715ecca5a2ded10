use Rattle.std.proofs.Common.{◌≡◌, ◌≤◌, ◌+◌}
use Rattle.std.specs.Prelude.{◌||◌}
use Rattle.std.specs.Option.{option_map}
use Rattle.rsvp_base.specs.Table.{get, has, size}
use Rattle.router_rules.specs.Facts.{SenderKey}
use Rattle.blockade_state.specs.Touched.{touched_by}
use Rattle.router_aging.specs.Lost.{came_from}
use Rattle.router_aging.specs.Passing.{sessions_at}
use Rattle.router_aging.proofs.Losses.{lost_at}
use Rattle.router_aging.proofs.dead.pull_all.Given as goal

abbrev pub invariant-loop-fact : goal.invariant-loop-fact
invariant-loop-fact l =
    record {
      facts : l.paths.facts ≡ l.initial.paths.facts;
      within : (q : SenderKey) → (has l.dead q || has l.paths.dead q) ≡ has l.initial.paths.dead q;
      lost : (q : SenderKey) → lost_at l.lost l.paths.dead q ≡ option_map came_from (get l.initial.paths.dead q);
      room : size l.lost + size l.paths.dead ≤ 512;
      many : size l.dead + size l.paths.dead ≤ 512;
      touched : touched_by (sessions_at l.paths.dead) l.touched ≡ touched_by (sessions_at l.initial.paths.dead) l.initial.touched;
    }

abbrev pub decreases-loop-fact : goal.decreases-loop-fact
decreases-loop-fact l = size l.paths.dead
