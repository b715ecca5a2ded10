use Rattle.std.proofs.Common.{ap, ◌∙◌}
use Rattle.rsvp_base.specs.declared.addr.Addr.{Addr}
use Rattle.rsvp_base.specs.declared.hop.Hop.{Hop}
use Rattle.rsvp_base.specs.declared.style.StyleKind.TheVariants.{Wild}
use Rattle.router_state.specs.Whole.{state_of}
use Rattle.resv_sends.proofs.Named.{hop_is}
use Rattle.resv_sends.proofs.upward.hop_to.Goals as goal

pub returns : goal.returns
returns c = λ clock said.
    let make : Addr → Hop = λ a. record { addr = a; handle = c.handle_for.result } in
    ap make c.own.ensures ∙ hop_is clock (state_of c.args.tables.now said) c.args.session c.args.hop c.senders_via-via.result c.handle_for.ensures.keyed c.senders_via-via.ensures c.handle_for.result
    (c.handle_for.ensures.handle clock said Wild c.args.hop)
