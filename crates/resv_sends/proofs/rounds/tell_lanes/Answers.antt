use Rattle.std.proofs.Common.{fold, ap, ◌∙◌}
use Rattle.rsvp_base.specs.Table.{keys}
use Rattle.rsvp_base.specs.declared.style.StyleKind.TheVariants.{Wild, Fixed, Shared}
use Rattle.router_state.specs.Whole.{state_of}
use Rattle.resv_sends.specs.Rounds.{lanes_of, told_by}
use Rattle.resv_sends.proofs.Listed.{fixed_shared, same_told, three_said, told_all, untold, wild_fixed, wild_shared}
use Rattle.resv_sends.proofs.rounds.tell_lanes.Goals as goal

pub returns-clause-told : goal.returns-clause-told
returns-clause-told g c = told_all (state_of c.args.tables.now c.args.said.now) c.args.session
    (keys c.args.hops.now) _ _ _ c.tell_style.ensures.told c.tell_style-2.ensures.told c.tell_style-3.ensures.told

pub returns-clause-sent : goal.returns-clause-sent
returns-clause-sent g c = λ clock any.
    let n = state_of c.args.tables.now any in
    let s = c.args.session in
    let hops = keys c.args.hops.now in
    let say = told_by clock n c.args.asked c.args.due c.args.said.now s in
    let fixed = same_told clock n c.args.asked c.args.due c.args.said.now c.tell_style.new.said s (lanes_of Fixed hops)
    (untold (state_of c.args.tables.now c.args.said.now) s Wild Fixed wild_fixed hops c.tell_style.new.said c.tell_style.ensures.told) in
    let shared =
    same_told clock n c.args.asked c.args.due c.args.said.now c.tell_style-2.new.said s (lanes_of Shared hops) (λ e i.
    untold (state_of c.args.tables.now c.tell_style.new.said) s Fixed Shared fixed_shared hops c.tell_style-2.new.said c.tell_style-2.ensures.told e i
    ∙ untold (state_of c.args.tables.now c.args.said.now) s Wild Shared wild_shared hops c.tell_style.new.said c.tell_style.ensures.told e i) in
    three_said g.O.Outbox.posted c.args.out.now say (lanes_of Wild hops) (lanes_of Fixed hops) (lanes_of Shared hops) _ _ _ (c.tell_style.ensures.sent clock any)
    (c.tell_style-2.ensures.sent clock any ∙ ap (fold g.O.Outbox.posted c.tell_style.new.out) fixed)
    (c.tell_style-3.ensures.sent clock any ∙ ap (fold g.O.Outbox.posted c.tell_style-2.new.out) shared)
