use Rattle.std.proofs.Common.{◌≡◌, ◌≤◌, ◌∙◌, ap, length, arith}
use Rattle.tree_routing.specs.Levels.{levels, highest}
use Rattle.tree_routing.proofs.ClosedLevels.{none_above}
use Rattle.tree_routing.proofs.chains.closed_hop.Goals as goal

pub returns-then-highest-hops : goal.returns-then-highest-hops
returns-then-highest-hops c = λ k i closes.
    let is : c.highest.result ≡ highest c.args.hops.now (levels c.args.hops.now) = c.highest.ensures ∙ ap (highest c.args.hops.now) c.requires.levels in
    let most : highest c.args.hops.now (levels c.args.hops.now) ≤ length c.args.hops.now = let t = c.if-highest-hops.true in omega arith in
    none_above c.args.hops.now c.requires.few c.requires.before most k i closes.1
