use Rattle.std.proofs.Common.{◌||◌, sym, ap, ◌∙◌}
use Rattle.rsvp_base.specs.Orders.{Names, senders}
use Rattle.rsvp_base.specs.Table.{has}
use Rattle.rsvp_base.proofs.SetLaws.{has-union}
use Rattle.resv_admission.proofs.matching.Matching.has.Goals as goal

pub returns-then-has : goal.returns-then-has
returns-then-has c =
    let near = c.self.inside.first in
    let far = c.self.inside.others in
    c.if-has.true ∙ sym (ap (λ b. b || has far c.args.name) (sym c.has.ensures ∙ c.if-has.true)) ∙ sym (has-union senders near far c.args.name) ∙ ap (λ (s : Names). has s c.args.name) c.self.view_is

pub returns-else-has : goal.returns-else-has
returns-else-has c =
    let near = c.self.inside.first in
    let far = c.self.inside.others in
    c.has-else-has.ensures ∙ sym (ap (λ b. b || has far c.args.name) (sym c.has.ensures ∙ c.if-has.false)) ∙ sym (has-union senders near far c.args.name)
    ∙ ap (λ (s : Names). has s c.args.name) c.self.view_is
