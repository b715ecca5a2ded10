use Rattle.std.proofs.Common.{◌≡◌, ◌+◌, ◌∷◌, [], ◌++◌, ◌∙◌, List, sym, ap, arith}
use Rattle.std.specs.Prelude.{map as each}
use Rattle.std.specs.List.{range_with_len}
use Rattle.std.proofs.lemmas.List.FromFn.{map-range_with_len_more}
use Rattle.rsvp_base.specs.declared.iface.Iface.{Iface}
use Rattle.node_stream.specs.Layout.{iface_at}
use Rattle.node_stream.proofs.placing.ifaces_in.Goals as goal

pub loop-k-preserved : goal.loop-k-preserved
loop-k-preserved c =
    let f = iface_at c.args.contents.now in
    let n = c.loop-k.k in
    let step : 0 + n ≡ n = omega arith in
    c.in_ok-push.ensures.items
    ∙ ap (λ (xs : List Iface). xs ++ c.iface_at.result ∷ []) c.loop-k.invariant
    ∙ ap (λ (x : Iface). each f (range_with_len 0 n) ++ x ∷ []) c.iface_at.ensures
    ∙ sym (map-range_with_len_more f 0 n n step)
