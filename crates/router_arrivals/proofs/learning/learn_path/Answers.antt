use Rattle.std.proofs.Common.{◌∙◌, cond}
use Rattle.rsvp_base.specs.Orders.{senders}
use Rattle.rsvp_base.specs.SessionLimits.{has_room_at}
use Rattle.rsvp_base.specs.Table.{empty, put_in}
use Rattle.router_state.specs.Whole.{state_of}
use Rattle.router_arrivals.specs.Coming.{path_key, with_path}
use Rattle.router_arrivals.proofs.learning.learn_path.Goals as goal

pub returns-clause-room : goal.returns-clause-room
returns-clause-room c =
    c.keep_path.ensures.room ∙ (λ i. has_room_at senders (put_in c.args.tables.now.paths.facts (path_key (c.said_of-fact.ensures.fact i))
    (c.said_of-fact.ensures.fact i, c.said_of-fact.ensures.left i)) (c.said_of-fact.ensures.fact i).session)

pub returns-clause-state : goal.returns-clause-state
returns-clause-state c =
    let n = state_of c.args.tables.now empty in
    c.keep_path.ensures.state ∙ (λ i. cond c.keep_path.result (with_path n (path_key (c.said_of-fact.ensures.fact i)) (c.said_of-fact.ensures.fact i) (c.said_of-fact.ensures.left i)) n)
