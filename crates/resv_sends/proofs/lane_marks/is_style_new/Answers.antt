use Rattle.std.proofs.Common.{◌∙◌, ap, refl, sym}
use Rattle.std.specs.List.{list_any}
use Rattle.std.proofs.lemmas.List.{take_all}
use Rattle.router_state.specs.Whole.{state_of}
use Rattle.resv_sends.specs.Wishes.{lanes_in, new_by}
use Rattle.resv_sends.proofs.Used.{none_yet, one_is}
use Rattle.resv_sends.proofs.lane_marks.is_style_new.Goals as goal

pub loop-i-init : goal.loop-i-init
loop-i-init c = λ clock any. refl

pub loop-i-preserved : goal.loop-i-preserved
loop-i-preserved c = λ clock any.
    none_yet (new_by clock (state_of c.args.tables.now any) c.args.said.now c.args.session) c.args.style c.as_slice-list.result.now c.loop-i.i _ c.loop-i-test.true (c.loop-i.invariant clock any)
    (sym c.if-is_new.false ∙ c.is_new.ensures clock any)

pub returns-then-is_new : goal.returns-then-is_new
returns-then-is_new c = λ clock any.
    let test = new_by clock (state_of c.args.tables.now any) c.args.said.now c.args.session in
    one_is test c.args.style c.as_slice-list.result.now c.loop-i.i _ c.loop-i-test.true (sym c.if-is_new.true ∙ c.is_new.ensures clock any)
    ∙ ap (λ hops. list_any test (lanes_in c.args.style hops)) c.as_slice-list.ensures.hops

pub returns : goal.returns
returns c = λ clock any.
    let test = new_by clock (state_of c.args.tables.now any) c.args.said.now c.args.session in
    c.loop-i.invariant clock any ∙ ap (λ hops. list_any test (lanes_in c.args.style hops)) (take_all c.loop-i.i c.as_slice-list.result.now c.loop-i-test.false ∙ c.as_slice-list.ensures.hops)
