use Rattle.std.proofs.Common.{length, length-set, map as each, sym, ap, ◌∙◌, arith}
use Rattle.std.proofs.lemmas.Bool.{eqb-false}
use Rattle.rsvp_base.specs.Orders.{senders}
use Rattle.rsvp_base.specs.Table.{put_in}
use Rattle.rsvp_base.proofs.Rows.{are_rows, table_is, put_over, put_new, written_back}
use Rattle.rsvp_messages.proofs.fixed_list.FixedList.put.Goals as goal

pub invariant_of-self-inside : goal.invariant_of-self-inside
invariant_of-self-inside c =
    let stands = rw c.as_slice.ensures.value at c.in-Ok.ensures.there in
    let rows = c.self.inside.rows.items in
    let back = written_back rows c.deref_mut.result.now c.in-Ok.place (c.args.sender, c.args.flow) c.deref_mut.ensures.value in
    let put = put_over senders (λ e. e) rows c.self.inside.rising c.args.self.now c.self.view_is c.args.sender c.args.flow (c.args.sender, c.args.flow) c.in-Ok.place
    (λ i. (c.args.sender, c.args.flow)) stands in (
      are_rows senders (λ e. e) _ (put_in c.args.self.now c.args.sender c.args.flow) (ap (each (λ e. e)) back ∙ put),
      (
        omega (arith, ap length back, length-set rows c.in-Ok.place (c.args.sender, c.args.flow), c.self.inside.few),
        (omega (arith, ap length back, length-set rows c.in-Ok.place (c.args.sender, c.args.flow), c.self.inside.some), tt),
      ),
    )

pub returns-in-Ok-clause-ok : goal.returns-in-Ok-clause-ok
returns-in-Ok-clause-ok c =
    let stands = rw c.as_slice.ensures.value at c.in-Ok.ensures.there in
    let rows = c.self.inside.rows.items in
    let back = written_back rows c.deref_mut.result.now c.in-Ok.place (c.args.sender, c.args.flow) c.deref_mut.ensures.value in
    let put = put_over senders (λ e. e) rows c.self.inside.rising c.args.self.now c.self.view_is c.args.sender c.args.flow (c.args.sender, c.args.flow) c.in-Ok.place
    (λ i. (c.args.sender, c.args.flow)) stands in
    table_is senders (λ e. e) _ _ (put_in c.args.self.now c.args.sender c.args.flow) (ap (each (λ e. e)) back ∙ put)

pub invariant_of-self-inside-in-Err : goal.invariant_of-self-inside-in-Err
invariant_of-self-inside-in-Err c =
    let goes = rw c.as_slice.ensures.value at c.in-Err.ensures.absent in
    let put = put_new senders (λ e. e) c.self.inside.rows.items c.self.inside.rising c.args.self.now c.self.view_is c.args.sender c.args.flow (c.args.sender, c.args.flow) c.in-Err.place
    (λ i. (c.args.sender, c.args.flow)) goes in
    let room = eqb-false _ _ (sym c.if-is_full.ensures.value) in (
      are_rows senders (λ e. e) c.insert.new.self.items (put_in c.args.self.now c.args.sender c.args.flow) (ap (each (λ e. e)) c.insert.ensures.items ∙ put),
      (omega (arith, c.self.inside.few, room, c.insert.ensures.len), (omega (arith, c.insert.ensures.len), tt)),
    )

pub returns-else-is_full-clause-ok : goal.returns-else-is_full-clause-ok
returns-else-is_full-clause-ok c =
    let goes = rw c.as_slice.ensures.value at c.in-Err.ensures.absent in
    let put = put_new senders (λ e. e) c.self.inside.rows.items c.self.inside.rising c.args.self.now c.self.view_is c.args.sender c.args.flow (c.args.sender, c.args.flow) c.in-Err.place
    (λ i. (c.args.sender, c.args.flow)) goes in
    table_is senders (λ e. e) c.insert.new.self.items _ (put_in c.args.self.now c.args.sender c.args.flow) (ap (each (λ e. e)) c.insert.ensures.items ∙ put)
