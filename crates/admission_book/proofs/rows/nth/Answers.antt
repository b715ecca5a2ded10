use Rattle.std.proofs.Common.{◌≡◌, rules, of_calls, ltb, refl, sym, ap, ◌∙◌, length, drop, slice_get, option_and_then, arith, ◌<◌, ◌≤◌, ◌-◌}
use Rattle.std.proofs.lemmas.List.{take_rest, length-take, length-drop}
use Rattle.std.proofs.lemmas.Option.{slice_get_past, slice_get_read}
use Rattle.std.proofs.lemmas.List.Sorted.{IsPartitionPoint-from_clause, IsPartitionedBy-ltb}
use Rattle.admission_book.specs.Rows.{own}
use Rattle.admission_book.specs.declared.row.Row.{Row}
use Rattle.admission_book.proofs.Starts.{rows_on, ifaces_rise, kth_from_start}
use Rattle.admission_book.proofs.rows.nth.Goals as goal
use Rattle.admission_book.proofs.rows.nth.Goals.{After-partition_point-start}

kth : (c : After-partition_point-start) → slice_get (rows_on c.args.iface c.args.rows.now) c.args.k
    ≡ option_and_then (own c.args.iface) (slice_get (drop c.partition_point-start.result c.args.rows.now) c.args.k)
kth c =
    let rise = ifaces_rise c.args.rows.now c.requires in
    let parts = IsPartitionedBy-ltb (λ (r : Row). r.iface) c.args.rows.now c.args.iface rise in
    let point = IsPartitionPoint-from_clause (λ (r : Row). ltb r.iface c.args.iface) c.args.rows.now c.partition_point-start.result c.partition_point-start.ensures.partitioned parts
    (λ a r q k. search (rules, of_calls)) in
    kth_from_start c.args.iface c.args.rows.now c.partition_point-start.result c.args.k rise c.partition_point-start.ensures.bound point

pub returns-in-Some : goal.returns-in-Some
returns-in-Some c =
    let d = (goal.at.returns-in-Some c).After-partition_point-start in
    let found = rw take_rest at c.in-Some.ensures.lookup in
    let within : c.args.k < length (drop c.partition_point-start.result c.args.rows.now) = omega (arith, found.3.0) in
    c.own.ensures ∙ ap (option_and_then (own c.args.iface)) (sym (slice_get_read (drop c.partition_point-start.result c.args.rows.now) _ c.args.k c.in-Some.row.now refl within found.1)) ∙ sym (kth d)

pub returns-in-None : goal.returns-in-None
returns-in-None c =
    let d = (goal.at.returns-in-None c).After-partition_point-start in
    let past : length (drop c.partition_point-start.result c.args.rows.now) ≤ c.args.k = omega (
      arith,
      c.in-None.ensures.lookup,
      length-take (length c.args.rows.now - c.partition_point-start.result) (drop c.partition_point-start.result c.args.rows.now),
      length-drop c.partition_point-start.result c.args.rows.now,
    ) in
    sym (kth d ∙ ap (option_and_then (own c.args.iface)) (slice_get_past _ c.args.k past))
