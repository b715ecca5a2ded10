use Rattle.std.proofs.Common.{ap, ◌∙◌}
use Rattle.std.specs.Option.{option_map}
use Rattle.rsvp_base.specs.Table.{get}
use Rattle.rsvp_base.specs.declared.part.Part.{Part}
use Rattle.router_rules.specs.Books.{book}
use Rattle.router_state.specs.State.{State, facts_of}
use Rattle.router_core.proofs.node.Node.entry.Goals as goal

pub returns : goal.returns
returns c = λ clock.
    c.entry.ensures.flow ∙ c.self.inside.sound.booked clock c.args.iface c.args.key.now
    ∙ ap (λ (n : State). option_map (λ (part : Part). part.flow) (get (book (facts_of clock n) c.args.iface) c.args.key.now)) c.self.view_is
