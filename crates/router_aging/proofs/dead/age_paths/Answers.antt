use Rattle.std.proofs.Common.{sym, ap, ◌∙◌, arith, map as each}
use Rattle.rsvp_base.specs.Orders.{senders}
use Rattle.rsvp_base.specs.Table.{changed, empty, keys, size}
use Rattle.rsvp_base.proofs.Filters.{each_each}
use Rattle.rsvp_base.proofs.SessionCounts.{all_at_most}
use Rattle.path_state.specs.Paths.{dead_after}
use Rattle.router_rules.specs.Facts.{SenderKey, sender_keys}
use Rattle.blockade_state.specs.Touched.{touched_by}
use Rattle.router_aging.specs.Lost.{left_from}
use Rattle.router_aging.specs.Passing.{dying_paths}
use Rattle.router_aging.proofs.Losses.{dead_lost}
use Rattle.router_aging.proofs.Sets.{dying_keys, fewer_rows, set_by_keys}
use Rattle.router_aging.proofs.dead.age_paths.Goals as goal

pub pull_all-requires : goal.pull_all-requires
pull_all-requires c =
    let facts = c.args.paths.now.facts in
    let many = all_at_most senders 32 facts c.limits.ensures.within.all c.limits.ensures.within.one in
    let less = fewer_rows (dead_after c.args.ms) facts.rows in
    omega (arith, many, less, ap size c.advance.ensures.dead)

pub returns-clause-paths : goal.returns-clause-paths
returns-clause-paths c = c.pull_all.ensures.paths ∙ (λ i. record { facts = c.advance.ensures.facts i; dead = empty })

pub returns-clause-dead : goal.returns-clause-dead
returns-clause-dead c =
    set_by_keys sender_keys c.pull_all.new.dead (dying_paths c.args.ms c.args.paths.now.facts) (c.pull_all.ensures.dead ∙ ap keys c.advance.ensures.dead ∙ dying_keys c.args.ms c.args.paths.now.facts)

pub returns-clause-lost : goal.returns-clause-lost
returns-clause-lost c = c.pull_all.ensures.lost ∙ ap (changed left_from) c.advance.ensures.dead ∙ dead_lost c.args.ms c.args.paths.now.facts

pub returns-clause-touched : goal.returns-clause-touched
returns-clause-touched c =
    c.pull_all.ensures.touched
    ∙ ap (λ ss. touched_by ss c.args.touched.now)
    (sym (each_each (λ e. e.0) (λ (k : SenderKey). k.0) c.advance.new.self.dead.rows) ∙ ap (each (λ (k : SenderKey). k.0)) (sym c.pull_all.ensures.dead)
    ∙ each_each (λ e. e.0) (λ (k : SenderKey). k.0) c.pull_all.new.dead.rows)
