use Rattle.std.proofs.Common.{◌≡◌, ◌+◌, ◌-◌, ℕ, suc, subst, sym, arith, length}
use Rattle.std.specs.Prelude.{Result, Err, Ok}
use Rattle.std.proofs.lemmas.Result.{err_from_is_err_and}
use Rattle.rsvp_base.specs.declared.room.NoMemory.{NoMemory}
use Rattle.tree_model.specs.Networks.{Net}
use Rattle.network_flight.specs.Runs.{adverts_report, end_report}
use Rattle.network_replay.specs.Reporting.{Says}
use Rattle.network_replay.proofs.Reports.{reports_from, says_none, says_stop, says_then}
use Rattle.network_replay.proofs.adverts.put_adverts.Goals as goal

pub loop-end-init : goal.loop-end-init
loop-end-init g c = λ q w left r after net are e said.
    let same : left ≡ length c.args.wires.now.ends = omega (arith, e) in
    subst (λ n. Says r c.args.out.now.items after (reports_from q c.args.names.now adverts_report w 0 n)) same said

pub loop-end-preserved : goal.loop-end-preserved
loop-end-preserved g c = λ q w left r after net are e rest.
    let t = adverts_report in
    let names = c.args.names.now in
    let end = c.loop-end.end in
    c.loop-end.invariant q w (suc left) r after net are (omega (arith, e))
    (says_then r c.loop-end.out.items c.put_offers.new.out.items after (end_report q names t w end) (reports_from q names t w (end + 1) left) (c.in_ok-put_offers.ensures q w net are) rest)

pub returns-in_err-put_offers : goal.returns-in_err-put_offers
returns-in_err-put_offers g c = λ q w net are.
    let t = adverts_report in
    let names = c.args.names.now in
    let end = c.loop-end.end in
    let n = length c.args.wires.now.ends in
    let left : ℕ = n - suc end in
    let e : end + suc left ≡ n = omega (arith, c.loop-end-test.true, c.count_of-ends.ensures) in
    let given = err_from_is_err_and c.from_residual.result c.from_residual.ensures.1 in
    let no = c.in_err-put_offers.field-0.0 in
    let r : Result (Unit {0}) NoMemory = Err no in
    let o = c.loop-end.out.items in
    let after = c.put_offers.new.out.items in
    let stop = c.loop-end.invariant q w (suc left) r after net are e (says_stop no o after (end_report q names t w end) (reports_from q names t w (end + 1) left)
    (c.in_err-put_offers.ensures q w net are)) in
    let whole = subst (λ (k : Net). Says r c.args.out.now.items after (reports_from q names t w 0 (length k.ends))) (sym net) stop in
    rw given.1 whole

pub returns : goal.returns
returns g c = λ q w net are.
    let t = adverts_report in
    let names = c.args.names.now in
    let o = c.loop-end.out.items in
    let done : Result (Unit {0}) NoMemory = Ok tt in
    let e : c.loop-end.end + 0 ≡ length c.args.wires.now.ends = omega (arith, c.loop-end-test.false, c.loop-end.auto.end-end, c.count_of-ends.ensures) in
    let whole = c.loop-end.invariant q w 0 done o net are e (says_none o) in
    subst (λ (k : Net). Says done c.args.out.now.items o (reports_from q names t w 0 (length k.ends))) (sym net) whole
