use Rattle.std.proofs.Common.{Some, sym, ap, ◌∙◌}
use Rattle.rsvp_messages.specs.declared.message.Message.TheVariants as message
use Rattle.router_rules.specs.NodeConfig.{addr_of}
use Rattle.router_rules.specs.Offers.{advert_by}
use Rattle.path_sends.proofs.paths.path_by.Goals as goal

pub returns : goal.returns
returns c = λ p i refresh at times.
    let told = c.advert_by.ensures ∙ ap (λ on. advert_by on c.args.offered.now.advert) (sym at) in
    λ j. message.Path
    (record {
      session = c.args.session;
      police = c.args.offered.now.local;
      hop = record { addr = addr_of (sym at j); handle = 0 };
      period = sym times j;
      sender = Some (c.args.sender, c.args.offered.now.tspec);
      adspec = told j;
    })
