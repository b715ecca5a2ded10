use Rattle.std.proofs.Common.{◌≡◌, ◌+◌, ◌∷◌, [], ◌++◌, ◌∙◌, ℕ, List, Option, sym, ap, arith, length, take, get_or}
use Rattle.std.specs.Prelude.{map as each}
use Rattle.std.specs.List.{range_with_len}
use Rattle.std.proofs.lemmas.List.FromFn.{map-range_with_len_more}
use Rattle.tree_model.specs.declared.hops.End.{End}
use Rattle.tree_model.specs.Networks.{ends_of, iface_of, node_of_end}
use Rattle.tree_routing.proofs.WayLaws.{few_before}
use Rattle.network_flight.proofs.MadeTables.{read_or}
use Rattle.network_flight.proofs.tables.ifaces.Goals as goal

pub count_of-iface-requires : goal.count_of-iface-requires
count_of-iface-requires c =
    let none : End = record { node = 0; iface = record { addr = record { 0 = 0 }; capacity = 0; mtu = 0; latency = 0 } } in
    few_before c.args.ends.now c.loop-end.end (get_or c.args.ends.now c.loop-end.end none).node c.requires.few

pub loop-end-preserved : goal.loop-end-preserved
loop-end-preserved c =
    let none : End = record { node = 0; iface = record { addr = record { 0 = 0 }; capacity = 0; mtu = 0; latency = 0 } } in
    let ends = c.args.ends.now in
    let n = c.loop-end.end in
    let here : c.count_of-iface.result ≡ iface_of ends n = c.count_of-iface.ensures ∙ ap (λ (o : Option End). length (ends_of (take n ends) (node_of_end o)))
    (sym (read_or ends n none c.loop-end-test.true)) in
    let step : 0 + n ≡ n = omega arith in
    c.in_ok-push.ensures.items
    ∙ ap (λ (xs : List ℕ). xs ++ c.count_of-iface.result ∷ []) c.loop-end.invariant
    ∙ ap (λ x. each (iface_of ends) (range_with_len 0 n) ++ x ∷ []) here
    ∙ sym (map-range_with_len_more (iface_of ends) 0 n n step)
