use Rattle.std.proofs.Common.{◌≡◌, ◌≤◌, ◌+◌, ℕ, sym, ap, subst}
use Rattle.rsvp_base.specs.Table.{size, put_in}
use Rattle.rsvp_messages.specs.FlowTable.{FlowTable}
use Rattle.message_codec.proofs.ReadLists.{size_with_flow, had_room}
use Rattle.message_codec.proofs.listing.put.Goals as goal

pub returns-clause-is : goal.returns-clause-is
returns-clause-is c = had_room _ c.put.result _ _ c.put.ensures.ok c.put.ensures.full (size_with_flow c.args.list.now c.args.sender c.args.flow) c.requires

pub returns-clause-grew : goal.returns-clause-grew
returns-clause-grew c =
    let is : c.put.new.self ≡ put_in c.args.list.now c.args.sender c.args.flow = had_room _ c.put.result _ _ c.put.ensures.ok c.put.ensures.full
    (size_with_flow c.args.list.now c.args.sender c.args.flow) c.requires in
    subst (λ (n : ℕ). n ≤ size c.args.list.now + 1) (ap (λ (t : FlowTable). size t) (sym is)) (size_with_flow c.args.list.now c.args.sender c.args.flow)
