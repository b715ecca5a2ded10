use Rattle.std.proofs.Common.{◌+◌, drop, sym, ap, ◌∙◌}
use Rattle.std.specs.List.{filter}
use Rattle.std.proofs.lemmas.List.{drop_all, drop_more}
use Rattle.router_rules.specs.Asking.{first_of}
use Rattle.resv_sends.proofs.Cut.{first_here, not_here, stays}
use Rattle.resv_sends.proofs.taking.first_by.Goals as goal

pub loop-i-preserved : goal.loop-i-preserved
loop-i-preserved c =
    let xs = c.as_slice-names.result.now in
    let test = stays c.args.up.now c.args.iface in
    sym (not_here test _ (drop (c.loop-i.i + 1) xs) (sym c.is_by.ensures ∙ c.if-is_by.false)) ∙ ap (filter test) (sym (drop_more xs c.loop-i.i _ c.loop-i-test.true)) ∙ c.loop-i.invariant

pub returns-then-is_by : goal.returns-then-is_by
returns-then-is_by c =
    let xs = c.as_slice-names.result.now in
    let test = stays c.args.up.now c.args.iface in
    first_here test _ (drop (c.loop-i.i + 1) xs) (sym c.is_by.ensures ∙ c.if-is_by.true) ∙ ap (λ ys. first_of (filter test ys)) (sym (drop_more xs c.loop-i.i _ c.loop-i-test.true))
    ∙ ap first_of c.loop-i.invariant
    ∙ ap (λ ys. first_of (filter test ys)) c.as_slice-names.ensures.senders

pub returns : goal.returns
returns c =
    let xs = c.as_slice-names.result.now in
    let test = stays c.args.up.now c.args.iface in
    ap (λ ys. first_of (filter test ys)) (sym (drop_all c.loop-i.i xs c.loop-i-test.false)) ∙ ap first_of c.loop-i.invariant ∙ ap (λ ys. first_of (filter test ys)) c.as_slice-names.ensures.senders
