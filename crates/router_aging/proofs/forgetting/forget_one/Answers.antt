use Rattle.std.proofs.Common.{◌≡◌, [], Some, None, sym, ap, ◌∙◌}
use Rattle.std.specs.List.{cons_option}
use Rattle.std.specs.Option.{option_map}
use Rattle.rsvp_base.specs.declared.session.Sender.{Sender}
use Rattle.rsvp_base.specs.declared.style.StyleKind.{StyleKind}
use Rattle.resv_admission.specs.Forgotten.{forgotten_all}
use Rattle.resv_admission.specs.State.{facts_of}
use Rattle.router_aging.specs.Losing.{lost_at}
use Rattle.router_aging.specs.Passing.{dead_key}
use Rattle.router_aging.proofs.Moves.{moves_not}
use Rattle.router_aging.proofs.forgetting.forget_one.Goals as goal

pub returns-in-Some-clause-table : goal.returns-in-Some-clause-table
returns-in-Some-clause-table g c = λ clock n own paths.
    let f = facts_of clock n in
    let k = dead_key c.args.dead.now in
    let e : lost_at g.S.Style.kind_is f k ≡ Some (c.args.dead.now.session, c.in-Some.name) =
    ap (λ (z : StyleKind). lost_at z f k) (sym c.kind.ensures) ∙ sym (c.lost_name.ensures clock n own paths) ∙ ap (option_map (λ (x : Sender). (c.args.dead.now.session, x))) c.in-Some.is in
    c.forget_name.ensures.table ∙ (λ i. record c.args.table.now { facts = forgotten_all (cons_option (sym e i) []) c.args.table.now.facts })

pub returns-in_default-clause-table : goal.returns-in_default-clause-table
returns-in_default-clause-table g c = λ clock n own paths.
    let f = facts_of clock n in
    let k = dead_key c.args.dead.now in
    let e : lost_at g.S.Style.kind_is f k ≡ None =
    ap (λ (z : StyleKind). lost_at z f k) (sym c.kind.ensures) ∙ sym (c.lost_name.ensures clock n own paths) ∙ ap (option_map (λ (x : Sender). (c.args.dead.now.session, x))) c.in_default.is in
    λ i. record c.args.table.now { facts = forgotten_all (cons_option (sym e i) []) c.args.table.now.facts }

pub returns-in_default-clause-book : goal.returns-in_default-clause-book
returns-in_default-clause-book g c = moves_not g.S.Style.kind_is c.args.table.now.facts c.args.book.now.entries
