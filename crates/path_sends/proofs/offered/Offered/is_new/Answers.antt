use Rattle.std.proofs.Common.{◌&&◌, not, Option, sym, ap, ◌∙◌}
use Rattle.std.specs.Option.{option_map}
use Rattle.adspec_path.specs.Same.{same_told}
use Rattle.router_rules.specs.Offers.{advert_by}
use Rattle.router_rules.specs.Sends.{is_new_offer, same_flow}
use Rattle.path_sends.specs.declared.offered.Offered.{Offered}
use Rattle.path_sends.specs.Offering.{as_offer}
use Rattle.path_sends.proofs.offered.Offered.is_new.Goals as goal

pub returns-in-Some : goal.returns-in-Some
returns-in-Some c = λ p i at.
    let new = c.args.self.now in
    let old = c.in-Some.old in
    ap not (c.is_same.ensures ∙ ap (λ on. same_flow new.tspec old.tspec && same_told (advert_by on new.advert) (advert_by on old.advert)) (sym at))
    ∙ ap (λ (w : Option Offered). is_new_offer p i (as_offer new) (option_map as_offer w)) (sym c.in-Some.is)

pub returns-in-None : goal.returns-in-None
returns-in-None c = λ p i at. ap (λ (w : Option Offered). is_new_offer p i (as_offer c.args.self.now) (option_map as_offer w)) (sym c.in-None.is)
