use Rattle.std.proofs.Common.{◌≡◌, Option, Some, None, sym, ap, ◌∙◌}
use Rattle.std.specs.Ordering.{is_lt}
use Rattle.rsvp_base.specs.Orders.{sessions}
use Rattle.blockade_state.specs.declared.touched.Mark.{Mark}
use Rattle.blockade_state.proofs.Behind.{behind_last}
use Rattle.blockade_state.proofs.touched.is_behind.Goals as goal

pub returns-in-Some : goal.returns-in-Some
returns-in-Some c = λ t.
    behind_last c.args.marks.now c.args.session c.requires
    (λ e at.
    let both : ◌≡◌ {A = Option Mark} (Some c.in-Some.last.now) (Some e) = c.in-Some.ensures.value ∙ at in
    let same : c.in-Some.last.now ≡ e = cc in
    ap (λ (m : Mark). is_lt (sessions.cmp m.session c.args.session)) (sym same) ∙ ap is_lt (sym c.cmp.ensures) ∙ sym c.is_lt.ensures ∙ t)

pub returns-in-None : goal.returns-in-None
returns-in-None c = λ t. behind_last c.args.marks.now c.args.session c.requires (λ e at. let z : ◌≡◌ {A = Option Mark} None (Some e) = c.in-None.ensures.value ∙ at in absurd (cc))
