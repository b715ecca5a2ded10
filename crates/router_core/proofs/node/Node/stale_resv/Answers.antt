use Rattle.resv_state.specs.Resvs.{resv_key}
use Rattle.resv_admission.specs.Placing.{stands}
use Rattle.std.proofs.Common.{◌<◌, length, sym, ap, subst, ◌∙◌, refl, arith}
use Rattle.std.proofs.lemmas.Result.{err_from_is_err_and}
use Rattle.router_rules.specs.Facts.{SenderKey}
use Rattle.router_rules.specs.Rule.{facts_with, refusal_of_stale}
use Rattle.router_state.specs.State.{AreNamed, State, facts_at, facts_of}
use Rattle.router_state.specs.Whole.{state_of}
use Rattle.router_state.specs.declared.tables.Tables.{Tables}
use Rattle.resv_sends.proofs.Sent.{hops_are}
use Rattle.router_arrivals.specs.LeftOver.{resv_left}
use Rattle.router_arrivals.proofs.Before.{settled_with}
use Rattle.router_arrivals.proofs.Here.{here_kept, here_left, left_named, left_refusal, not_left}
use Rattle.router_core.proofs.Left.{left_before, said_apart}
use Rattle.router_core.proofs.Told.{on_err, resvs_left_changed, unchanged_node}
use Rattle.router_core.proofs.node.Node.stale_resv.Goals as goal

pub leave_resv-requires : goal.leave_resv-requires
leave_resv-requires c =
    let ifaces = c.self.inside.place ∙ ap (λ (z : State). z.place.ifaces) c.self.view_is in
    record {
      booked = c.self.inside.sound.booked;
      pulled = c.self.inside.sound.pulled;
      place = c.self.inside.place;
      exists = subst (λ xs. c.args.fact.iface < length xs) (sym ifaces) c.requires.exists;
      style = c.requires.style;
      some = c.requires.some;
    }

pub returns-in_err-leave_resv-clause-refused : goal.returns-in_err-leave_resv-clause-refused
returns-in_err-leave_resv-clause-refused c = λ clock.
    let n = state_of c.self.inside.tables c.self.inside.said in
    let given = err_from_is_err_and c.from_residual.result c.from_residual.ensures.1 in
    rw (given.1, given.2) (ap (λ (z : State). refusal_of_stale z.place (resv_left c.args.style clock c.args.fact c.args.left) (facts_at clock z)) (sym c.self.view_is)
    ∙ left_refusal n clock (resv_left c.args.style clock c.args.fact c.args.left) _ (c.in_err-leave_resv.ensures.refused clock c.self.inside.said))

pub returns-in_err-leave_resv-clause-facts : goal.returns-in_err-leave_resv-clause-facts
returns-in_err-leave_resv-clause-facts c = λ clock.
    let n = state_of c.self.inside.tables c.self.inside.said in
    ap (facts_at clock) (ap (λ (t : Tables). state_of t c.self.inside.said) c.in_err-leave_resv.ensures.err)
    ∙ not_left n c.self.inside.settled clock (resv_left c.args.style clock c.args.fact c.args.left) _ (c.in_err-leave_resv.ensures.refused clock c.self.inside.said)
    ∙ ap (λ (z : State). facts_with z.place clock (resv_left c.args.style clock c.args.fact c.args.left) (facts_at clock z)) c.self.view_is

pub returns-in_err-leave_resv-clause-place : goal.returns-in_err-leave_resv-clause-place
returns-in_err-leave_resv-clause-place c =
    ap (λ (z : State). z.place) (ap (λ (t : Tables). state_of t c.self.inside.said) c.in_err-leave_resv.ensures.err ∙ c.self.view_is)

pub keep_said-requires : goal.keep_said-requires
keep_said-requires c =
    let n = state_of c.self.inside.tables c.self.inside.said in
    let w = state_of c.leave_resv.new.tables c.self.inside.said in
    let k : SenderKey = (c.args.fact.session, c.default.result) in
    let ch = resvs_left_changed c.self.inside.tables c.leave_resv.new.tables c.leave_resv.ensures.rest k.0 c.leave_resv.ensures.others k.1 c.self.inside.said in
    left_before k n w ch refl c.self.inside.told c.hops-near.result (λ clock. c.hops-near.ensures ∙ hops_are clock n c.args.fact.session)

pub returns-clause-refused : goal.returns-clause-refused
returns-clause-refused c = λ clock.
    let n = state_of c.self.inside.tables c.self.inside.said in
    ap (λ (z : State). refusal_of_stale z.place (resv_left c.args.style clock c.args.fact c.args.left) (facts_at clock z)) (sym c.self.view_is)
    ∙ left_refusal n clock (resv_left c.args.style clock c.args.fact c.args.left) _ (c.in_ok-leave_resv.ensures.refused clock c.self.inside.said)

pub returns-clause-facts : goal.returns-clause-facts
returns-clause-facts c = λ clock.
    let n = state_of c.self.inside.tables c.self.inside.said in
    let w = state_of c.leave_resv.new.tables c.self.inside.said in
    let k : SenderKey = (c.args.fact.session, c.default.result) in
    let ch = resvs_left_changed c.self.inside.tables c.leave_resv.new.tables c.leave_resv.ensures.rest k.0 c.leave_resv.ensures.others k.1 c.self.inside.said in
    said_apart clock w c.keep_said.new.said ∙ here_left k n w c.self.inside.settled ch (ap (λ (t : Tables). t.senders.tspecs) c.leave_resv.ensures.rest)
    (ap (λ (t : Tables). t.paths.facts) c.leave_resv.ensures.rest) (ap (λ (t : Tables). t.due) c.leave_resv.ensures.rest)
    (λ d. subst AreNamed (sym (c.leave_resv.ensures.facts d c.self.inside.said)) (left_named n.place c.args.style (resv_key c.args.style c.args.fact)
    (stands d c.args.fact c.args.left) c.requires.style.named (facts_of d n) (c.self.inside.settled.named d) (c.in_ok-leave_resv.ensures.refused d c.self.inside.said))) clock
    (resv_left c.args.style clock c.args.fact c.args.left) (c.leave_resv.ensures.facts clock c.self.inside.said)
    ∙ ap (λ (z : State). facts_with z.place clock (resv_left c.args.style clock c.args.fact c.args.left) (facts_at clock z)) c.self.view_is

pub returns-clause-place : goal.returns-clause-place
returns-clause-place c =
    let n = state_of c.self.inside.tables c.self.inside.said in
    let w = state_of c.leave_resv.new.tables c.self.inside.said in
    let k : SenderKey = (c.args.fact.session, c.default.result) in
    let ch = resvs_left_changed c.self.inside.tables c.leave_resv.new.tables c.leave_resv.ensures.rest k.0 c.leave_resv.ensures.others k.1 c.self.inside.said in
    sym ch.place ∙ ap (λ (z : State). z.place) c.self.view_is

pub invariant_of-self-inside : goal.invariant_of-self-inside
invariant_of-self-inside c =
    unchanged_node c.self.inside.tables c.leave_resv.new.tables c.self.inside.said c.in_err-leave_resv.ensures.err c.self.inside.sound c.self.inside.settled c.self.inside.told c.self.inside.place

pub invariant_of-self-inside-2 : goal.invariant_of-self-inside-2
invariant_of-self-inside-2 c =
    let n = state_of c.self.inside.tables c.self.inside.said in
    let w = state_of c.leave_resv.new.tables c.self.inside.said in
    let k : SenderKey = (c.args.fact.session, c.default.result) in
    let ch = resvs_left_changed c.self.inside.tables c.leave_resv.new.tables c.leave_resv.ensures.rest k.0 c.leave_resv.ensures.others k.1 c.self.inside.said in (
      record { pulled = c.leave_resv.ensures.pulled; booked = c.leave_resv.ensures.booked; few = omega (arith, ap length c.leave_resv.ensures.ifaces, c.self.inside.sound.few) },
      (
        settled_with w c.keep_said.new.said (here_kept k n w c.self.inside.settled ch (ap (λ (t : Tables). t.senders.tspecs) c.leave_resv.ensures.rest)
            (ap (λ (t : Tables). t.paths.facts) c.leave_resv.ensures.rest) (ap (λ (t : Tables). t.due) c.leave_resv.ensures.rest)
            (λ d. subst AreNamed (sym (c.leave_resv.ensures.facts d c.self.inside.said)) (left_named n.place c.args.style (resv_key c.args.style c.args.fact)
            (stands d c.args.fact c.args.left) c.requires.style.named (facts_of d n) (c.self.inside.settled.named d) (c.in_ok-leave_resv.ensures.refused d c.self.inside.said)))),
        (c.keep_said.ensures, (c.leave_resv.ensures.ifaces ∙ c.self.inside.place ∙ ap (λ (t : Tables). t.config.ifaces) (sym c.leave_resv.ensures.rest), tt)),
      ),
    )

pub returns-in_err-leave_resv-clause-kept : goal.returns-in_err-leave_resv-clause-kept
returns-in_err-leave_resv-clause-kept c =
    on_err c.from_residual.result (ap (λ (t : Tables). state_of t c.self.inside.said) c.in_err-leave_resv.ensures.err ∙ c.self.view_is)
