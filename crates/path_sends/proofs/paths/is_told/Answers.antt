use Rattle.std.proofs.Common.{◌&&◌, sym, ap, ◌∙◌}
use Rattle.std.specs.Option.{option_map}
use Rattle.router_rules.specs.Sends.{is_new_offer}
use Rattle.path_sends.specs.Offering.{as_offer}
use Rattle.path_sends.proofs.paths.is_told.Goals as goal

pub returns-then-not-is_out : goal.returns-then-not-is_out
returns-then-not-is_out c = λ p at.
    sym (ap (λ b. b && is_new_offer p c.args.iface (as_offer c.args.offered.now) (option_map as_offer c.args.before.now)) (sym c.is_out.ensures ∙ c.if-not-is_out.true))

pub returns : goal.returns
returns c = λ p at.
    c.is_new.ensures p c.args.iface at
    ∙ sym (ap (λ b. b && is_new_offer p c.args.iface (as_offer c.args.offered.now) (option_map as_offer c.args.before.now)) (sym c.is_out.ensures ∙ c.if-not-is_out.false))
