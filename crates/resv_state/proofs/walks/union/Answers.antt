use Rattle.std.proofs.Common.{sym, ap, ◌∙◌, arith}
use Rattle.rsvp_base.specs.Orders.{senders}
use Rattle.rsvp_base.specs.Table.{size}
use Rattle.rsvp_base.proofs.SetLaws.{union_comm, union_of_within}
use Rattle.resv_state.proofs.walks.union.Goals as goal

pub returns-then-is_within-clause-ok : goal.returns-then-is_within-clause-ok
returns-then-is_within-clause-ok c = c.copy.ensures.same ∙ sym (union_comm senders c.args.names.now c.args.more.now
    ∙ union_of_within senders c.args.more.now c.args.names.now (c.is_within.ensures.0 c.if-is_within.true))

pub returns-then-is_within-clause-full : goal.returns-then-is_within-clause-full
returns-then-is_within-clause-full c = (
  λ e. absurd (cc),
  λ over.
      let same = union_comm senders c.args.names.now c.args.more.now ∙ union_of_within senders c.args.more.now c.args.names.now (c.is_within.ensures.0 c.if-is_within.true) in
      absurd (omega (arith, over, ap size same, c.copy.ensures.few)),
)
