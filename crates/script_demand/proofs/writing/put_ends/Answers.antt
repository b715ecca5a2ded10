use Rattle.std.proofs.Common.{◌≡◌, ◌+◌, ◌<◌, ℕ, suc, List, ◌++◌, length, get_or, ◌∙◌, sym, ap, arith, append_assoc, append-nil}
use Rattle.std.specs.List.{flat_map, range_with_len}
use Rattle.std.proofs.lemmas.Option.{slice_get-get_or}
use Rattle.tree_model.specs.declared.hops.End.{End}
use Rattle.network_demand.proofs.BookLaws.{read_at}
use Rattle.script_demand.specs.Owing.{end_owes}
use Rattle.script_demand.proofs.Owed.{owes_there}
use Rattle.script_demand.proofs.writing.put_ends.Goals as goal

pub loop-end-preserved : goal.loop-end-preserved
loop-end-preserved c = λ left e.
    let names = c.args.names.now in
    let ends = c.args.ends.now in
    let owed = c.args.owed.now in
    let end = c.loop-end.end in
    let there : end < length ends = c.loop-end-test.true in
    let none : End = record { node = 0; iface = record { addr = record { 0 = 0 }; capacity = 0; mtu = 0; latency = 0 } } in
    let x = get_or ends end none in
    let one = owes_there names ends owed end x c.index-owed-end.result (slice_get-get_or ends end none there)
    (read_at owed end c.index-owed-end.result (omega (arith, there, c.requires)) c.index-owed-end.is) in
    let rest : List ℕ = flat_map (end_owes names ends owed) (range_with_len (end + 1) left) in
    ap (λ (z : List ℕ). z ++ rest) (c.in_ok-put_end.ensures ∙ ap (λ (z : List ℕ). c.loop-end.out.items ++ z) one) ∙ append_assoc c.loop-end.out.items (end_owes names ends owed end) rest
    ∙ c.loop-end.invariant (suc left) (omega (arith, e))

pub returns : goal.returns
returns c =
    let e : c.loop-end.end + 0 ≡ length c.args.ends.now = omega (arith, c.loop-end-test.false, c.loop-end.auto.end-end) in
    sym (append-nil c.loop-end.out.items) ∙ c.loop-end.invariant 0 e
