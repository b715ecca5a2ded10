use Rattle.std.proofs.Common.{◌+◌, not, ap, ◌∙◌, arith}
use Rattle.std.specs.Ordering.{eq_by_cmp}
use Rattle.std.specs.FinMap.Entries.{find, where_key}
use Rattle.soft_table.specs.Lists.{row_keys, of_session}
use Rattle.soft_table.proofs.Held.{next_full}
use Rattle.soft_table.proofs.Found.{found_row}
use Rattle.soft_table.proofs.Kept.{rows_unset, lists_unset, held_unset}
use Rattle.soft_table.proofs.Takes.{rows_gone, lists_gone}
use Rattle.soft_table.proofs.session_lists.SessionLists.remove_at.Goals as goal

pub after-next-requires : goal.after-next-requires
after-next-requires g c =
    let s = c.self.inside in
    let row = found_row g.O.RestOrder.rests s.keys.items s.slots.slots c.self.invariant.0.full c.self.invariant.0.sorted (c.args.session, c.args.rest) c.args.slot
    (ap (λ v. find (row_keys g.O.RestOrder.rests).cmp (c.args.session, c.args.rest) v.rows) c.self.view_is ∙ c.requires) in
    (row.place, row.is)

pub remove-requires : goal.remove-requires
remove-requires g c =
    let s = c.self.inside in
    let row = found_row g.O.RestOrder.rests s.keys.items s.slots.slots c.self.invariant.0.full c.self.invariant.0.sorted (c.args.session, c.args.rest) c.args.slot
    (ap (λ v. find (row_keys g.O.RestOrder.rests).cmp (c.args.session, c.args.rest) v.rows) c.self.view_is ∙ c.requires) in
    (row.place, row.is)

pub of_session-behind-requires : goal.of_session-behind-requires
of_session-behind-requires g c =
    let s = c.self.inside in
    let row = found_row g.O.RestOrder.rests s.keys.items s.slots.slots c.self.invariant.0.full c.self.invariant.0.sorted (c.args.session, c.args.rest) c.args.slot
    (ap (λ v. find (row_keys g.O.RestOrder.rests).cmp (c.args.session, c.args.rest) v.rows) c.self.view_is ∙ c.requires) in
    rw c.as_slice-3.ensures.value (next_full s.keys.items s.slots.slots c.self.invariant.0.full (row.place + 1) c.after-next.result (c.after-next.ensures row.place row.is))

pub unset_key-requires : goal.unset_key-requires
unset_key-requires g c =
    let s = c.self.inside in
    let row = found_row g.O.RestOrder.rests s.keys.items s.slots.slots c.self.invariant.0.full c.self.invariant.0.sorted (c.args.session, c.args.rest) c.args.slot
    (ap (λ v. find (row_keys g.O.RestOrder.rests).cmp (c.args.session, c.args.rest) v.rows) c.self.view_is ∙ c.requires) in
    ((c.args.session, c.args.rest), row.key)

pub invariant_of-self : goal.invariant_of-self
invariant_of-self g c =
    let s = c.self.inside in
    let o = c.self.invariant in
    let rests = g.O.RestOrder.rests in
    let row = found_row g.O.RestOrder.rests s.keys.items s.slots.slots c.self.invariant.0.full c.self.invariant.0.sorted (c.args.session, c.args.rest) c.args.slot
    (ap (λ v. find (row_keys g.O.RestOrder.rests).cmp (c.args.session, c.args.rest) v.rows) c.self.view_is ∙ c.requires) in
    let gone = c.remove.ensures row.place row.is in
    let k = c.unset_key.ensures in (
      rw gone (lists_unset rests s.keys.items s.slots.slots s.heads.items o.0 (c.args.session, c.args.rest) c.args.slot row c.unset_key.new.keys.items k.here k.same c.take_first.new.heads.items
          (lists_gone rests s.keys.items s.slots.slots s.heads.items o.0 c.args.session c.args.rest c.args.slot row c.of_session-behind.result
          (λ i at. c.of_session-behind.ensures ∙ ap (λ keys. of_session keys c.args.session c.after-next.result) c.as_slice-3.ensures.value
          ∙ ap (of_session s.keys.items c.args.session) (c.after-next.ensures i at))
          c.take_first.new.heads.items c.take_first.ensures.heads)),
      rw gone (omega (arith, o.1, k.capacity)),
      rw gone (omega (arith, o.2, c.take_first.ensures.capacity)),
      rw gone (held_unset rests s.keys.items s.slots.slots s.heads.items o.0 (c.args.session, c.args.rest) c.args.slot row c.unset_key.new.keys.items k.here k.same o.3),
    )

pub returns : goal.returns
returns g c =
    let s = c.self.inside in
    let rests = g.O.RestOrder.rests in
    let row = found_row g.O.RestOrder.rests s.keys.items s.slots.slots c.self.invariant.0.full c.self.invariant.0.sorted (c.args.session, c.args.rest) c.args.slot
    (ap (λ v. find (row_keys g.O.RestOrder.rests).cmp (c.args.session, c.args.rest) v.rows) c.self.view_is ∙ c.requires) in
    let gone = c.remove.ensures row.place row.is in
    let k = c.unset_key.ensures in
    rw gone (ap (λ rows. record { rows = rows; room = s.slots.room })
    (rows_unset rests s.keys.items s.slots.slots s.heads.items c.self.invariant.0 (c.args.session, c.args.rest) c.args.slot row c.unset_key.new.keys.items k.here k.same
    ∙ rows_gone rests s.keys.items s.slots.slots s.heads.items c.self.invariant.0 c.args.session c.args.rest c.args.slot row)
    ∙ ap (λ v. record { rows = where_key (row_keys rests).cmp (λ k. not (eq_by_cmp (row_keys rests).cmp (c.args.session, c.args.rest) k)) v.rows; room = v.room }) c.self.view_is)
