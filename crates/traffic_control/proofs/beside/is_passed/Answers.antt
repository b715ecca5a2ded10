use Rattle.std.proofs.Common.{◌≡◌, ◌+◌, ◌||◌, drop, false, true, sym, ap, ◌∙◌, arith}
use Rattle.std.proofs.lemmas.List.{drop_all}
use Rattle.std.specs.List.{list_any}
use Rattle.std.specs.Option.{option_copied}
use Rattle.resv_state.proofs.Limits.{few_of_session}
use Rattle.traffic_control.specs.Policing.{passes_by}
use Rattle.traffic_control.proofs.Counting.{passes_here}
use Rattle.error_sends.proofs.Walking.{ended, following, met, rows_in}
use Rattle.traffic_control.proofs.beside.is_passed.Goals as goal

pub loop-k-preserved : goal.loop-k-preserved
loop-k-preserved g c =
    let st = g.S.Style.kind_is in
    let m = c.args.table.now.facts in
    let s = c.args.session in
    let f = c.in-Some.fact.now in
    let is = sym (ap option_copied c.in-Some.is) ∙ c.loop-k.invariant.at in
    let w = met st m c.limits.ensures.style s c.loop-k.k f is in
    let test = passes_by c.args.iface c.args.unit c.args.part.now in
    let rest = drop (c.loop-k.k + 1) (rows_in m s) in
    let here = passes_here st m c.limits.ensures.style s c.loop-k.k f w c.args.iface c.args.unit c.args.part.now in
    let off : test w.row ≡ false = here ∙ sym c.passes_by.ensures ∙ c.if-passes_by.false in
    record {
      at = following m s f.session f _ c.loop-k.k w.session c.after-next.ensures.next is;
      none = sym (ap (λ b. b || list_any test rest) off) ∙ sym (ap (list_any test) w.here) ∙ c.loop-k.invariant.none;
    }

pub returns-then-passes_by : goal.returns-then-passes_by
returns-then-passes_by g c =
    let st = g.S.Style.kind_is in
    let m = c.args.table.now.facts in
    let s = c.args.session in
    let f = c.in-Some.fact.now in
    let is = sym (ap option_copied c.in-Some.is) ∙ c.loop-k.invariant.at in
    let w = met st m c.limits.ensures.style s c.loop-k.k f is in
    let test = passes_by c.args.iface c.args.unit c.args.part.now in
    let rest = drop (c.loop-k.k + 1) (rows_in m s) in
    let here = passes_here st m c.limits.ensures.style s c.loop-k.k f w c.args.iface c.args.unit c.args.part.now in
    let on : test w.row ≡ true = here ∙ sym c.passes_by.ensures ∙ c.if-passes_by.true in
    sym (ap (λ b. b || list_any test rest) on) ∙ sym (ap (list_any test) w.here) ∙ c.loop-k.invariant.none

pub returns-in_default : goal.returns-in_default
returns-in_default g c =
    let m = c.args.table.now.facts in
    let test = passes_by c.args.iface c.args.unit c.args.part.now in
    let none = ended m c.args.session c.loop-k.k (sym (ap option_copied c.in_default.is) ∙ c.loop-k.invariant.at) in
    sym (ap (list_any test) none) ∙ c.loop-k.invariant.none

pub returns : goal.returns
returns g c =
    let m = c.args.table.now.facts in
    let test = passes_by c.args.iface c.args.unit c.args.part.now in
    let few = few_of_session g.S.Style.kind_is m c.args.session c.limits.ensures.within in
    sym (ap (list_any test) (drop_all c.loop-k.k (rows_in m c.args.session) (omega (arith, few, c.loop-k-test.false)))) ∙ c.loop-k.invariant.none
