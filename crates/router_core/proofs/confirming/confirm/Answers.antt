use Rattle.std.proofs.Common.{[], ◌∷◌, false, fold, ap, sym, ◌∙◌}
use Rattle.router_rules.specs.Sends.{conf_send}
use Rattle.router_state.specs.Whole.{state_of}
use Rattle.resv_sends.proofs.Sent.{hops_are}
use Rattle.router_core.specs.Confirming.{conf_of}
use Rattle.router_core.proofs.Standing.{going, standing}
use Rattle.router_core.proofs.confirming.confirm.Goals as goal

pub returns-then-is_any_new : goal.returns-then-is_any_new
returns-then-is_any_new g c = λ n clock x offer near before.
    let m = state_of c.args.tables.now c.args.said.now in
    let p = c.args.message.now in
    ap (fold g.O.Outbox.posted c.args.out.now)
    (going x n m offer near clock c.args.iface p before c.in-Some.wish c.in-Some-taken.ask c.in-Some.is c.args.taken.now c.in-Some-taken.is c.hops-hops.result
    (c.hops-hops.ensures ∙ hops_are clock m p.session) (sym (c.is_any_new.ensures clock c.args.said.now) ∙ c.if-is_any_new.true))

pub returns : goal.returns
returns g c = λ n clock x offer near before.
    let m = state_of c.args.tables.now c.args.said.now in
    let p = c.args.message.now in
    let is = before.change.place in
    c.post.ensures
    ∙ (λ i. g.O.Outbox.posted c.args.out.now (record { iface = c.args.iface; dst = p.hop.addr; message = c.conf_of-conf.ensures i; refresh = false }))
    ∙ ap (λ w. g.O.Outbox.posted c.args.out.now (conf_send (record { iface = c.args.iface; dst = p.hop.addr; conf = conf_of c.args.tables.now.config c.args.iface p c.in-Some.wish w }))) c.copy.ensures
    ∙ ap (fold g.O.Outbox.posted c.args.out.now)
    (ap (λ q. conf_send (record { iface = c.args.iface; dst = p.hop.addr; conf = conf_of q c.args.iface p c.in-Some.wish c.in-Some-taken.ask }) ∷ []) (sym is)
    ∙ standing x n m offer near clock c.args.iface p before c.in-Some.wish c.in-Some-taken.ask c.in-Some.is c.args.taken.now c.in-Some-taken.is c.hops-hops.result
    (c.hops-hops.ensures ∙ hops_are clock m p.session) (sym (c.is_any_new.ensures clock c.args.said.now) ∙ c.if-is_any_new.false))
