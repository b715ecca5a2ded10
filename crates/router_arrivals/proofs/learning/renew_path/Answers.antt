use Rattle.std.proofs.Common.{ap, ◌∙◌}
use Rattle.path_state.specs.Paths.{PathMap}
use Rattle.path_state.specs.declared.fact.PathFact.{PathFact}
use Rattle.rsvp_base.specs.Orders.{senders}
use Rattle.rsvp_base.specs.Table.{empty, has, put_in}
use Rattle.rsvp_base.proofs.SessionCounts.{room_over}
use Rattle.router_rules.specs.Facts.{SenderKey}
use Rattle.router_rules.specs.NodeConfig.{lifetime}
use Rattle.router_state.specs.State.{State}
use Rattle.router_state.specs.Whole.{state_of}
use Rattle.router_arrivals.specs.Coming.{fact_of, path_key}
use Rattle.router_arrivals.proofs.Repeating.{kept_anew}
use Rattle.router_arrivals.proofs.learning.renew_path.Goals as goal

pub renew-requires-clause-stands : goal.renew-requires-clause-stands
renew-requires-clause-stands c = ap (λ (f : PathFact). has c.args.tables.now.paths.facts (path_key f)) c.said_of-fact.ensures.fact ∙ c.requires.stands

pub returns-clause-room : goal.returns-clause-room
returns-clause-room c =
    room_over senders c.args.tables.now.paths.facts c.limits.ensures.within c.args.message.now.session c.args.sender
    (fact_of c.args.iface c.args.message.now c.args.sender c.args.tspec, lifetime c.args.tables.now.config c.args.message.now.period) c.requires.stands

pub returns-clause-state : goal.returns-clause-state
returns-clause-state c =
    let n : State = state_of c.args.tables.now empty in
    let k : SenderKey = (c.args.message.now.session, c.args.sender) in
    let fact = fact_of c.args.iface c.args.message.now c.args.sender c.args.tspec in
    let left = lifetime c.args.tables.now.config c.args.message.now.period in
    (λ i. record n { paths = (c.renew.ensures i).facts })
    ∙ (λ i. record n { paths = put_in n.paths (path_key (c.said_of-fact.ensures.fact i)) (c.said_of-fact.ensures.fact i, c.said_of-fact.ensures.left i) })
    ∙ kept_anew n c.requires.settled k c.requires.stands fact left

pub returns-clause-pulled : goal.returns-clause-pulled
returns-clause-pulled c = ap (λ (m : PathMap). m.dead.rows) c.renew.ensures ∙ c.requires.pulled
