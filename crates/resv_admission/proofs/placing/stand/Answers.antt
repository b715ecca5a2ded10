use Rattle.std.proofs.Common.{sym, ap, ◌∙◌}
use Rattle.resv_admission.proofs.Stands.{as_stale, stale_is}
use Rattle.resv_admission.proofs.placing.stand.Goals as goal

pub returns-in-LeftOut-clause-cause : goal.returns-in-LeftOut-clause-cause
returns-in-LeftOut-clause-cause g c p b f same is booked = sym (ap as_stale c.in-LeftOut.is) ∙ ap as_stale (c.place.ensures.result p b f same is booked)
    ∙ stale_is p g.S.Style.kind_is b c.args.fact c.args.left f

pub returns-in-Refused-clause-cause : goal.returns-in-Refused-clause-cause
returns-in-Refused-clause-cause g c p b f same is booked = sym (ap as_stale c.in-Refused.is) ∙ ap as_stale (c.place.ensures.result p b f same is booked)
    ∙ stale_is p g.S.Style.kind_is b c.args.fact c.args.left f

pub returns-in-Taken-clause-cause : goal.returns-in-Taken-clause-cause
returns-in-Taken-clause-cause g c p b f same is booked = sym (ap as_stale c.in-Taken.is) ∙ ap as_stale (c.place.ensures.result p b f same is booked)
    ∙ stale_is p g.S.Style.kind_is b c.args.fact c.args.left f
