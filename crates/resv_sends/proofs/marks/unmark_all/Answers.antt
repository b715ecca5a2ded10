use Rattle.std.proofs.Common.{◌∙◌, ap, sym, take}
use Rattle.std.proofs.lemmas.List.{take_all}
use Rattle.rsvp_base.specs.Table.{changed}
use Rattle.laws_sends.proofs.Via.{take_one}
use Rattle.resv_sends.proofs.Unmarked.{without_all, without_marks, without_more, without_none}
use Rattle.resv_sends.proofs.marks.unmark_all.Goals as goal

pub loop-i-init : goal.loop-i-init
loop-i-init c = without_none c.args.session c.args.wants.now

pub loop-i-preserved : goal.loop-i-preserved
loop-i-preserved c =
    c.unmark.ensures ∙ without_more c.args.session (take c.loop-i.i c.as_slice-list.result.now) _ c.loop-i.wants c.args.wants.now c.loop-i.invariant
    ∙ ap (λ us. changed (without_marks c.args.session us) c.args.wants.now) (sym (take_one c.as_slice-list.result.now c.loop-i.i _ c.loop-i-test.true))

pub returns : goal.returns
returns c =
    c.loop-i.invariant ∙ ap (λ us. changed (without_marks c.args.session us) c.args.wants.now) (take_all c.loop-i.i c.as_slice-list.result.now c.loop-i-test.false ∙ c.as_slice-list.ensures.units)
    ∙ without_all c.args.session c.args.units.now c.args.wants.now
