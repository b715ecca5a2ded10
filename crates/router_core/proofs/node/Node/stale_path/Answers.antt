use Rattle.std.proofs.Common.{sym, ap, subst, ◌∙◌, refl}
use Rattle.rsvp_base.specs.Table.{empty}
use Rattle.router_rules.specs.Rule.{facts_with, refusal_of_stale}
use Rattle.router_state.specs.State.{IsSaid, IsSettled, State, facts_at}
use Rattle.laws_sends.specs.Changed.{IsChangedFor}
use Rattle.router_state.specs.Whole.{state_of}
use Rattle.resv_sends.proofs.Sent.{hops_are}
use Rattle.router_arrivals.specs.Coming.{path_key, stale_path}
use Rattle.router_arrivals.proofs.Before.{settled_with}
use Rattle.router_arrivals.proofs.Staying.{full_facts, full_refused, room_facts, room_free, stale_change, stale_settled}
use Rattle.router_core.proofs.Left.{left_before}
use Rattle.router_core.proofs.Told.{not_tried, still_of_place, still_sound, tried}
use Rattle.router_core.proofs.node.Node.stale_path.Goals as goal

pub keep_path-requires-clause-pulled : goal.keep_path-requires-clause-pulled
keep_path-requires-clause-pulled c =
    c.self.inside.sound.pulled.paths

pub keep_path-requires-clause-settled : goal.keep_path-requires-clause-settled
keep_path-requires-clause-settled c =
    settled_with (state_of c.self.inside.tables c.self.inside.said) empty c.self.inside.settled

pub returns-then-not-keep_path-clause-refused : goal.returns-then-not-keep_path-clause-refused
returns-then-not-keep_path-clause-refused c = λ clock.
    let n = state_of c.self.inside.tables c.self.inside.said in
    ap (λ (z : State). refusal_of_stale z.place (stale_path clock c.args.fact c.args.left) (facts_at clock z)) (sym c.self.view_is)
    ∙ full_refused n c.self.inside.settled c.args.fact c.args.left (sym c.keep_path.ensures.room ∙ c.if-not-keep_path.true) clock

pub returns-then-not-keep_path-clause-facts : goal.returns-then-not-keep_path-clause-facts
returns-then-not-keep_path-clause-facts c = λ clock.
    let n = state_of c.self.inside.tables c.self.inside.said in
    ap (facts_at clock) (not_tried c.keep_path.new.tables c.self.inside.said _ _ _ c.keep_path.ensures.state c.if-not-keep_path.true)
    ∙ full_facts n c.self.inside.settled c.args.fact c.args.left (sym c.keep_path.ensures.room ∙ c.if-not-keep_path.true) clock
    ∙ ap (λ (z : State). facts_with z.place clock (stale_path clock c.args.fact c.args.left) (facts_at clock z)) c.self.view_is

pub returns-then-not-keep_path-clause-place : goal.returns-then-not-keep_path-clause-place
returns-then-not-keep_path-clause-place c =
    ap (λ (z : State). z.place) (not_tried c.keep_path.new.tables c.self.inside.said _ _ _ c.keep_path.ensures.state c.if-not-keep_path.true ∙ c.self.view_is)

pub keep_said-requires : goal.keep_said-requires
keep_said-requires c =
    let n = state_of c.self.inside.tables c.self.inside.said in
    let w = state_of c.keep_path.new.tables c.self.inside.said in
    let k = path_key c.args.fact in
    let ch = subst (IsChangedFor k n) (sym (tried c.keep_path.new.tables c.self.inside.said _ _ _ c.keep_path.ensures.state c.if-not-keep_path.false))
    (stale_change n c.self.inside.settled c.args.fact c.args.left c.self.inside.said) in
    left_before k n w ch refl c.self.inside.told c.hops-near.result (λ clock. c.hops-near.ensures ∙ hops_are clock n c.args.fact.session)

pub returns-clause-refused : goal.returns-clause-refused
returns-clause-refused c = λ clock.
    let n = state_of c.self.inside.tables c.self.inside.said in
    ap (λ (z : State). refusal_of_stale z.place (stale_path clock c.args.fact c.args.left) (facts_at clock z)) (sym c.self.view_is)
    ∙ room_free n c.self.inside.settled c.args.fact c.args.left (sym c.keep_path.ensures.room ∙ c.if-not-keep_path.false) clock

pub returns-clause-facts : goal.returns-clause-facts
returns-clause-facts c = λ clock.
    let n = state_of c.self.inside.tables c.self.inside.said in
    ap (facts_at clock) (tried c.keep_path.new.tables c.keep_said.new.said _ _ _ c.keep_path.ensures.state c.if-not-keep_path.false)
    ∙ room_facts n c.self.inside.settled c.args.fact c.args.left (sym c.keep_path.ensures.room ∙ c.if-not-keep_path.false) clock c.keep_said.new.said
    ∙ ap (λ (z : State). facts_with z.place clock (stale_path clock c.args.fact c.args.left) (facts_at clock z)) c.self.view_is

pub returns-clause-place : goal.returns-clause-place
returns-clause-place c =
    ap (λ (z : State). z.place) (tried c.keep_path.new.tables c.keep_said.new.said _ _ _ c.keep_path.ensures.state c.if-not-keep_path.false) ∙ ap (λ (z : State). z.place) c.self.view_is

pub invariant_of-self-inside : goal.invariant_of-self-inside
invariant_of-self-inside c =
    let t = c.self.inside.tables in
    let rest = c.keep_path.ensures.rest in
    let same = not_tried c.keep_path.new.tables c.self.inside.said _ _ _ c.keep_path.ensures.state c.if-not-keep_path.true in (
      still_sound t c.keep_path.new.tables rest c.keep_path.ensures.pulled c.self.inside.sound,
      (
        subst IsSettled (sym same) c.self.inside.settled,
        (subst (IsSaid c.self.inside.said) (sym same) c.self.inside.told, (still_of_place t c.keep_path.new.tables rest c.self.inside.place, tt)),
      ),
    )

pub invariant_of-self-inside-2 : goal.invariant_of-self-inside-2
invariant_of-self-inside-2 c =
    let n = state_of c.self.inside.tables c.self.inside.said in
    let t = c.self.inside.tables in
    let rest = c.keep_path.ensures.rest in
    let now = tried c.keep_path.new.tables c.keep_said.new.said _ _ _ c.keep_path.ensures.state c.if-not-keep_path.false in (
      still_sound t c.keep_path.new.tables rest c.keep_path.ensures.pulled c.self.inside.sound,
      (
        subst IsSettled (sym now) (stale_settled n c.self.inside.settled c.args.fact c.args.left c.keep_said.new.said),
        (c.keep_said.ensures, (still_of_place t c.keep_path.new.tables rest c.self.inside.place, tt)),
      ),
    )

pub returns-then-not-keep_path-clause-kept : goal.returns-then-not-keep_path-clause-kept
returns-then-not-keep_path-clause-kept c =
    not_tried c.keep_path.new.tables c.self.inside.said _ _ _ c.keep_path.ensures.state c.if-not-keep_path.true ∙ c.self.view_is
