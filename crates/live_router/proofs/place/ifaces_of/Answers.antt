use Rattle.std.proofs.Common.{length, ap, ◌∙◌, arith, take_all}
use Rattle.std.specs.Prelude.{◌≤◌, List}
use Rattle.tree_model.specs.declared.hops.End.{End}
use Rattle.stale_state.proofs.Interfaces.{gathered, ifaces_in, own}
use Rattle.live_router.proofs.place.ifaces_of.Goals as goal

pub returns : goal.returns
returns c =
    let past : length c.args.ends.now ≤ c.loop-end.end-index = omega (arith, c.loop-end-test.false) in
    c.loop-end.invariant ∙ ap (λ (es : List End). ifaces_in (own c.args.node es)) (take_all c.loop-end.end-index c.args.ends.now past) ∙ gathered c.args.node c.args.ends.now
