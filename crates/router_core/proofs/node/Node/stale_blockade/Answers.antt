use Rattle.std.proofs.Common.{sym, ap, subst, ◌∙◌, refl}
use Rattle.std.proofs.lemmas.Result.{err_from_is_err_and}
use Rattle.router_rules.specs.Facts.{SenderKey}
use Rattle.router_rules.specs.Rule.{facts_with, refusal_of_stale}
use Rattle.router_state.specs.State.{AreNamed, State, facts_at, facts_of}
use Rattle.router_state.specs.Whole.{IsOfPlace, state_of}
use Rattle.router_state.specs.declared.tables.Tables.{Tables}
use Rattle.resv_sends.proofs.Sent.{hops_are}
use Rattle.router_arrivals.specs.LeftOver.{wall_left}
use Rattle.router_arrivals.proofs.Before.{settled_with}
use Rattle.router_arrivals.proofs.Here.{here_kept, here_left, left_refusal, not_left}
use Rattle.router_core.proofs.Left.{left_before, said_apart}
use Rattle.router_core.proofs.Told.{on_err, unchanged_node, walls_changed, walls_sound}
use Rattle.router_core.proofs.node.Node.stale_blockade.Goals as goal

pub returns-in_err-leave_wall-clause-refused : goal.returns-in_err-leave_wall-clause-refused
returns-in_err-leave_wall-clause-refused c = λ clock.
    let n = state_of c.self.inside.tables c.self.inside.said in
    let given = err_from_is_err_and c.from_residual.result c.from_residual.ensures.1 in
    rw (given.1, given.2) (ap (λ (z : State). refusal_of_stale z.place (wall_left (c.args.session, c.args.target) clock c.args.wall c.args.left) (facts_at clock z)) (sym c.self.view_is)
    ∙ left_refusal n clock (wall_left (c.args.session, c.args.target) clock c.args.wall c.args.left) _ (c.in_err-leave_wall.ensures.refused clock c.self.inside.said))

pub returns-in_err-leave_wall-clause-facts : goal.returns-in_err-leave_wall-clause-facts
returns-in_err-leave_wall-clause-facts c = λ clock.
    let n = state_of c.self.inside.tables c.self.inside.said in
    ap (facts_at clock) (ap (λ (t : Tables). state_of t c.self.inside.said) c.in_err-leave_wall.ensures.err)
    ∙ not_left n c.self.inside.settled clock (wall_left (c.args.session, c.args.target) clock c.args.wall c.args.left) _ (c.in_err-leave_wall.ensures.refused clock c.self.inside.said)
    ∙ ap (λ (z : State). facts_with z.place clock (wall_left (c.args.session, c.args.target) clock c.args.wall c.args.left) (facts_at clock z)) c.self.view_is

pub returns-in_err-leave_wall-clause-place : goal.returns-in_err-leave_wall-clause-place
returns-in_err-leave_wall-clause-place c =
    ap (λ (z : State). z.place) (ap (λ (t : Tables). state_of t c.self.inside.said) c.in_err-leave_wall.ensures.err ∙ c.self.view_is)

pub keep_said-requires : goal.keep_said-requires
keep_said-requires c =
    let n = state_of c.self.inside.tables c.self.inside.said in
    let w = state_of c.leave_wall.new.tables c.self.inside.said in
    let k : SenderKey = (c.args.session, c.default.result) in
    let ch = walls_changed c.self.inside.tables c.leave_wall.new.tables c.leave_wall.ensures.rest k.0 c.leave_wall.ensures.others k.1 c.self.inside.said in
    left_before k n w ch refl c.self.inside.told c.hops-near.result (λ clock. c.hops-near.ensures ∙ hops_are clock n c.args.session)

pub returns-clause-refused : goal.returns-clause-refused
returns-clause-refused c = λ clock.
    let n = state_of c.self.inside.tables c.self.inside.said in
    ap (λ (z : State). refusal_of_stale z.place (wall_left (c.args.session, c.args.target) clock c.args.wall c.args.left) (facts_at clock z)) (sym c.self.view_is)
    ∙ left_refusal n clock (wall_left (c.args.session, c.args.target) clock c.args.wall c.args.left) _ (c.in_ok-leave_wall.ensures.refused clock c.self.inside.said)

pub returns-clause-facts : goal.returns-clause-facts
returns-clause-facts c = λ clock.
    let n = state_of c.self.inside.tables c.self.inside.said in
    let w = state_of c.leave_wall.new.tables c.self.inside.said in
    let k : SenderKey = (c.args.session, c.default.result) in
    let ch = walls_changed c.self.inside.tables c.leave_wall.new.tables c.leave_wall.ensures.rest k.0 c.leave_wall.ensures.others k.1 c.self.inside.said in
    said_apart clock w c.keep_said.new.said ∙ here_left k n w c.self.inside.settled ch (ap (λ (t : Tables). t.senders.tspecs) c.leave_wall.ensures.rest)
    (ap (λ (t : Tables). t.paths.facts) c.leave_wall.ensures.rest) (ap (λ (t : Tables). t.due) c.leave_wall.ensures.rest)
    (λ d. subst (λ (t : Tables). AreNamed (facts_of d (state_of t c.self.inside.said))) (sym c.leave_wall.ensures.rest) (c.self.inside.settled.named d)) clock
    (wall_left (c.args.session, c.args.target) clock c.args.wall c.args.left) (c.leave_wall.ensures.facts clock c.self.inside.said)
    ∙ ap (λ (z : State). facts_with z.place clock (wall_left (c.args.session, c.args.target) clock c.args.wall c.args.left) (facts_at clock z)) c.self.view_is

pub returns-clause-place : goal.returns-clause-place
returns-clause-place c =
    let n = state_of c.self.inside.tables c.self.inside.said in
    let w = state_of c.leave_wall.new.tables c.self.inside.said in
    let k : SenderKey = (c.args.session, c.default.result) in
    let ch = walls_changed c.self.inside.tables c.leave_wall.new.tables c.leave_wall.ensures.rest k.0 c.leave_wall.ensures.others k.1 c.self.inside.said in
    sym ch.place ∙ ap (λ (z : State). z.place) c.self.view_is

pub invariant_of-self-inside : goal.invariant_of-self-inside
invariant_of-self-inside c =
    unchanged_node c.self.inside.tables c.leave_wall.new.tables c.self.inside.said c.in_err-leave_wall.ensures.err c.self.inside.sound c.self.inside.settled c.self.inside.told c.self.inside.place

pub invariant_of-self-inside-2 : goal.invariant_of-self-inside-2
invariant_of-self-inside-2 c =
    let n = state_of c.self.inside.tables c.self.inside.said in
    let w = state_of c.leave_wall.new.tables c.self.inside.said in
    let k : SenderKey = (c.args.session, c.default.result) in
    let ch = walls_changed c.self.inside.tables c.leave_wall.new.tables c.leave_wall.ensures.rest k.0 c.leave_wall.ensures.others k.1 c.self.inside.said in (
      walls_sound c.self.inside.tables c.leave_wall.new.tables c.leave_wall.ensures.rest c.self.inside.sound,
      (
        settled_with w c.keep_said.new.said (here_kept k n w c.self.inside.settled ch (ap (λ (t : Tables). t.senders.tspecs) c.leave_wall.ensures.rest)
            (ap (λ (t : Tables). t.paths.facts) c.leave_wall.ensures.rest) (ap (λ (t : Tables). t.due) c.leave_wall.ensures.rest)
            (λ d. subst (λ (t : Tables). AreNamed (facts_of d (state_of t c.self.inside.said))) (sym c.leave_wall.ensures.rest) (c.self.inside.settled.named d))),
        (c.keep_said.ensures, (subst IsOfPlace (sym c.leave_wall.ensures.rest) c.self.inside.place, tt)),
      ),
    )

pub returns-in_err-leave_wall-clause-kept : goal.returns-in_err-leave_wall-clause-kept
returns-in_err-leave_wall-clause-kept c =
    on_err c.from_residual.result (ap (λ (t : Tables). state_of t c.self.inside.said) c.in_err-leave_wall.ensures.err ∙ c.self.view_is)
