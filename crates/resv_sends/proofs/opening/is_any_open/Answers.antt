use Rattle.std.proofs.Common.{sym, ap, ◌∙◌, arith}
use Rattle.std.proofs.lemmas.List.{drop_all}
use Rattle.std.specs.List.{list_any}
use Rattle.std.specs.Option.{option_copied}
use Rattle.resv_state.proofs.Limits.{few_of_session}
use Rattle.resv_sends.specs.Taking.{is_resv_open}
use Rattle.resv_sends.proofs.Opened.{ends_here, goes_on}
use Rattle.resv_sends.proofs.Walking.{ended, following, met, rows_in}
use Rattle.resv_sends.proofs.opening.is_any_open.Goals as goal

pub loop-k-preserved : goal.loop-k-preserved
loop-k-preserved g c =
    let st = g.S.Style.kind_is in
    let m = c.args.table.now.facts in
    let s = c.args.session in
    let f = c.in-Some.fact.now in
    let is = sym (ap option_copied c.in-Some.is) ∙ c.loop-k.invariant.at in
    let w = met st m c.limits.ensures.style s c.loop-k.k f is in
    record {
      at = following m s f.session f _ c.loop-k.k w.session c.after-next.ensures.next is;
      none = goes_on st c.args.up.now c.args.unit m s c.loop-k.k f w c.is_open.result c.kind.result c.asked_toward-ask.result c.kind.ensures c.asked_toward-ask.ensures c.is_open.ensures
          c.if-is_open.false ∙ c.loop-k.invariant.none;
    }

pub returns-in_default : goal.returns-in_default
returns-in_default g c =
    let none = ended c.args.table.now.facts c.args.session c.loop-k.k (sym (ap option_copied c.in_default.is) ∙ c.loop-k.invariant.at) in
    ap (list_any (is_resv_open g.S.Style.kind_is c.args.up.now c.args.unit)) (sym none) ∙ c.loop-k.invariant.none

pub returns-then-is_open : goal.returns-then-is_open
returns-then-is_open g c =
    let m = c.args.table.now.facts in
    let s = c.args.session in
    let f = c.in-Some.fact.now in
    let w = met g.S.Style.kind_is m c.limits.ensures.style s c.loop-k.k f (sym (ap option_copied c.in-Some.is) ∙ c.loop-k.invariant.at) in
    ends_here g.S.Style.kind_is c.args.up.now c.args.unit m s c.loop-k.k f w c.is_open.result c.kind.result c.asked_toward-ask.result c.kind.ensures c.asked_toward-ask.ensures c.is_open.ensures
    c.if-is_open.true ∙ c.loop-k.invariant.none

pub returns : goal.returns
returns g c =
    let m = c.args.table.now.facts in
    let s = c.args.session in
    let few = few_of_session g.S.Style.kind_is m s c.limits.ensures.within in
    let none = drop_all c.loop-k.k (rows_in m s) (omega (arith, few, c.loop-k-test.false)) in
    ap (list_any (is_resv_open g.S.Style.kind_is c.args.up.now c.args.unit)) (sym none) ∙ c.loop-k.invariant.none
