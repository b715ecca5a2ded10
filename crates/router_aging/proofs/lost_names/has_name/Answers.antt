use Rattle.std.proofs.Common.{◌||◌, sym, ◌∙◌}
use Rattle.std.specs.List.{list_any}
use Rattle.rsvp_base.specs.Orders.{sessions, senders}
use Rattle.rsvp_base.specs.Styles.{name_of}
use Rattle.rsvp_base.specs.Table.{has, keys}
use Rattle.rsvp_base.specs.Under.{under}
use Rattle.rsvp_base.specs.declared.session.Sender.{Sender}
use Rattle.path_state.specs.Paths.{is_from}
use Rattle.router_rules.specs.Known.{known, named_as}
use Rattle.router_rules.specs.NodeConfig.{is_addr}
use Rattle.path_sends.specs.RouterState.State.{facts_of}
use Rattle.router_aging.proofs.Names.{known_fixed, known_shared, known_wild}
use Rattle.router_aging.proofs.lost_names.has_name.Goals as goal

pub returns-in-Wild : goal.returns-in-Wild
returns-in-Wild c = λ clock n own paths.
    c.has_address.ensures
    ∙ (λ i. list_any (λ (y : Sender). is_addr y.addr c.args.sender.addr) (keys (under sessions senders (sym own i) c.args.session))
    || list_any (is_from c.args.sender.addr) (keys (under sessions senders (sym paths i) c.args.session)))
    ∙ known_wild clock n c.args.session c.args.sender ∙ (λ i. has (named_as (sym c.in-Wild.is i) (known (facts_of clock n) c.args.session)) (name_of (sym c.in-Wild.is i) c.args.sender))

pub returns-in-Fixed : goal.returns-in-Fixed
returns-in-Fixed c = λ clock n own paths.
    c.is_known.ensures ∙ (λ i. has (sym own i) (c.args.session, c.args.sender) || has (sym paths i) (c.args.session, c.args.sender)) ∙ known_fixed clock n c.args.session c.args.sender
    ∙ (λ i. has (named_as (sym c.in-Fixed.is i) (known (facts_of clock n) c.args.session)) (name_of (sym c.in-Fixed.is i) c.args.sender))

pub returns-in-Shared : goal.returns-in-Shared
returns-in-Shared c = λ clock n own paths.
    c.is_known-in-Shared.ensures ∙ (λ i. has (sym own i) (c.args.session, c.args.sender) || has (sym paths i) (c.args.session, c.args.sender)) ∙ known_shared clock n c.args.session c.args.sender
    ∙ (λ i. has (named_as (sym c.in-Shared.is i) (known (facts_of clock n) c.args.session)) (name_of (sym c.in-Shared.is i) c.args.sender))
