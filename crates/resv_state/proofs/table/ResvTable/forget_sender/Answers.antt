use Rattle.std.proofs.Common.{◌≤◌, cond, length, Some, sym, ap, ◌∙◌, arith}
use Rattle.std.specs.Ordering.{eq_by_cmp}
use Rattle.std.proofs.lemmas.List.{length-map, take_all}
use Rattle.rsvp_base.specs.Orders.{sessions, Names}
use Rattle.rsvp_base.specs.Table.{keys, changed}
use Rattle.rsvp_base.specs.Under.{under}
use Rattle.resv_state.specs.Walks.{rests}
use Rattle.resv_state.specs.Leaving.{left_of}
use Rattle.resv_state.proofs.Forgets.{forgot_none, forgot_more, forgot_all}
use Rattle.rsvp_base.proofs.Fronts.{front_all}
use Rattle.resv_state.proofs.table.ResvTable.forget_sender.Goals as goal

pub loop-k-init : goal.loop-k-init
loop-k-init g c = forgot_none c.args.session c.only-gone.result c.args.self.now c.first_rest-next.result c.first_rest-next.ensures.first

pub loop-k-preserved : goal.loop-k-preserved
loop-k-preserved g c = forgot_more c.args.session c.only-gone.result c.args.self.now c.loop-k.self c.leave.new.self c.loop-k.next c.next_rest-next.result c.in-Some.rest c.loop-k.k c.loop-k.invariant
    c.in-Some.is c.leave.ensures.facts c.next_rest-next.ensures

pub returns-in_default : goal.returns-in_default
returns-in_default g c =
    forgot_all c.args.session c.only-gone.result c.args.self.now c.loop-k.self c.loop-k.next c.loop-k.k c.loop-k.invariant
    (front_all (keys (under sessions rests c.args.self.now.facts c.args.session)) c.loop-k.k (sym c.loop-k.invariant.at ∙ c.in_default.is))
    ∙ ap (λ (gone : Names). record c.args.self.now { facts = changed (λ q e. cond (eq_by_cmp sessions.cmp c.args.session q.0) (left_of gone e) (Some e)) c.args.self.now.facts }) c.only-gone.ensures

pub returns : goal.returns
returns g c =
    let those = under sessions rests c.args.self.now.facts c.args.session in
    let few : length (keys those) ≤ c.loop-k.k = omega (arith, length-map those.rows (λ e. e.0), c.first_rest-next.ensures.few, c.loop-k-test.false) in
    forgot_all c.args.session c.only-gone.result c.args.self.now c.loop-k.self c.loop-k.next c.loop-k.k c.loop-k.invariant (take_all c.loop-k.k (keys those) few)
    ∙ ap (λ (gone : Names). record c.args.self.now { facts = changed (λ q e. cond (eq_by_cmp sessions.cmp c.args.session q.0) (left_of gone e) (Some e)) c.args.self.now.facts }) c.only-gone.ensures
