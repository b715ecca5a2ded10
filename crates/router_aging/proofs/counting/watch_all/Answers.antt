use Rattle.std.proofs.Common.{◌≡◌, Some, None, false, cond, sym, ap, ◌∙◌, arith}
use Rattle.std.specs.Prelude.{Bool, slice_get}
use Rattle.std.proofs.lemmas.List.{length-map, take_all}
use Rattle.rsvp_base.specs.Orders.{sessions}
use Rattle.rsvp_base.specs.Table.{Table, get, keys, size}
use Rattle.router_aging.proofs.Counts.{any, key_at, size_more, watched_all, watched_more}
use Rattle.router_aging.proofs.counting.watch_all.Goals as goal
use Rattle.router_aging.proofs.counting.watch_all.Goals.{In-Some}

slot : (c : In-Some) → slice_get (keys c.args.due.now) c.loop-k.k ≡ Some c.in-Some.session
slot c = key_at c.args.due.now.rows c.loop-k.k (c.in-Some.session, c.in-Some.field-0-1) (sym c.at.ensures ∙ c.in-Some.is)

pub watch-requires : goal.watch-requires
watch-requires c =
    let more = size_more c.loop-k.touched c.in-Some.session c.loop-k.k c.loop-k.invariant.size in
    omega (arith, more, c.len-k-end.ensures.few, c.loop-k-test.true)

pub loop-k-preserved : goal.loop-k-preserved
loop-k-preserved c =
    let d = (goal.at.loop-k-preserved c).In-Some in
    let more = size_more c.loop-k.touched c.in-Some.session c.loop-k.k c.loop-k.invariant.size in
    record {
      at = λ q. ap (λ (m : Table sessions Bool). get m q) c.watch.ensures ∙ watched_more c.loop-k.touched (keys c.args.due.now) c.loop-k.k c.in-Some.session c.loop-k.invariant.at (slot d) q;
      size = omega (arith, ap size c.watch.ensures, more);
    }

pub returns : goal.returns
returns c =
    let many = length-map c.args.due.now.rows (λ e. e.0) in
    let all = take_all c.loop-k.k (keys c.args.due.now) (omega (arith, many, c.len-k-end.ensures.size, c.loop-k-test.false)) in
    watched_all c.loop-k.touched c.args.due.now (λ q. c.loop-k.invariant.at q ∙ ap (λ ss. cond (any ss q) (Some false) None) all)
