use Rattle.std.proofs.Common.{◌≡◌, ◌+◌, suc, drop, ap, ◌∙◌, arith}
use Rattle.std.specs.Prelude.{slice_get}
use Rattle.rsvp_base.specs.Orders.{sessions}
use Rattle.rsvp_base.specs.Table.{passes}
use Rattle.rsvp_base.specs.Under.{rows_under}
use Rattle.soft_table.specs.Lists.{slot_of}
use Rattle.soft_table.proofs.Steps.{behind_drop, first_dropped}
use Rattle.soft_table.proofs.Walks.{behind_drops}
use Rattle.soft_table.proofs.rows.behind.Goals as goal

pub after-requires : goal.after-requires
after-requires g c =
    let f = c.stands_in.ensures c.if-stands_in.true in
    let p = c.requires.led c.args.near f.0 f.1 f.2 in
    (p.0, c.args.rest, p.1)

pub returns-then-stands_in : goal.returns-then-stands_in
returns-then-stands_in g c =
    let own = rows_under sessions g.F.Fact.rests c.args.session c.args.rows.now.rows in
    let f = c.stands_in.ensures c.if-stands_in.true in
    let p = c.requires.led c.args.near f.0 f.1 f.2 in
    let on : suc p.0 ≡ p.0 + 1 = omega arith in
    (p.0 + 1, c.after.ensures p.0 c.args.rest p.1, behind_drop g.F.Fact.rests own p.0 (c.args.rest, c.args.near) (passes _ c.requires.sorted) p.1 ∙ ap (λ n. drop n own) on)

pub returns-else-stands_in : goal.returns-else-stands_in
returns-else-stands_in g c =
    let own = rows_under sessions g.F.Fact.rests c.args.session c.args.rows.now.rows in
    let d = behind_drops g.F.Fact.rests c.args.rest own (passes _ c.requires.sorted) in
    (d.0, c.behind.ensures ∙ ap slot_of (ap (λ xs. slice_get xs 0) d.1 ∙ first_dropped own d.0), d.1)
