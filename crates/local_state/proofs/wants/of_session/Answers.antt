use Rattle.std.proofs.Common.{◌-◌, List, length, take, drop, rules, of_calls}
use Rattle.std.specs.Ordering.{is_le, is_lt, ordering_index}
use Rattle.std.proofs.lemmas.List.{take_rest}
use Rattle.std.proofs.lemmas.List.Sorted.{IsPartitionPoint-from_clause, IsNonDecreasingBy-drop}
use Rattle.rsvp_base.specs.Orders.{sessions, units}
use Rattle.local_state.specs.declared.wants.LocalWant.{LocalWant}
use Rattle.local_state.specs.Wants.{want_row}
use Rattle.local_state.proofs.Runs.{against, less_parts, up_to_parts, rise, run_of}
use Rattle.local_state.proofs.wants.of_session.Goals as goal

pub returns : goal.returns
returns c =
    let s = c.args.session in
    let rows = c.args.rows.now in
    let start = c.partition_point.result in
    let end = c.partition_point-2.result in
    let r = against sessions units want_row s in
    let from : List LocalWant = take (length rows - start) (drop start rows) in
    let up = rise sessions units want_row s rows c.requires in
    let begin = IsPartitionPoint-from_clause (λ (x : LocalWant). is_lt (r x)) rows start c.partition_point.ensures.partitioned (less_parts r rows up) (λ a z q k. search (rules, of_calls)) in
    let rest = IsNonDecreasingBy-drop (λ (x : LocalWant). ordering_index (r x)) start rows up in
    rw take_rest
    (run_of sessions units want_row s rows start end begin
    (IsPartitionPoint-from_clause (λ (x : LocalWant). is_le (r x)) (drop start rows) end (rw take_rest at c.partition_point-2.ensures.partitioned) (up_to_parts r (drop start rows) rest)
    (λ a z q k. search (rules, of_calls))))
