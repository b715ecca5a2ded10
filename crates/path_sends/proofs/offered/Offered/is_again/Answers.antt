use Rattle.std.proofs.Common.{Option, sym, ap, ◌∙◌}
use Rattle.std.specs.Option.{option_map}
use Rattle.router_rules.specs.Sends.{is_new_offer}
use Rattle.path_sends.specs.declared.offered.Offered.{Offered}
use Rattle.path_sends.specs.Offering.{as_offer}
use Rattle.path_sends.proofs.Telling.{not_new_again, source_told}
use Rattle.path_sends.proofs.offered.Offered.is_again.Goals as goal

pub returns-clause-old : goal.returns-clause-old
returns-clause-old c = λ same p i.
    ap (λ (w : Option Offered). is_new_offer p i (as_offer c.args.self.now) (option_map as_offer w)) c.in-Some.is
    ∙ not_new_again p i (as_offer c.args.self.now) (as_offer c.in-Some.old) (sym c.is_same_flow.ensures ∙ c.if-not-is_same_flow.false)
    (source_told c.args.self.now.advert c.in-Some.old.advert (sym c.is_same_advert.ensures ∙ same))
