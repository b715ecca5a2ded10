use Rattle.std.proofs.Common.{◌≤◌, ◌+◌, List, ℕ, subst, sym, arith, length}
use Rattle.std.specs.Prelude.{Result, Err, Ok}
use Rattle.std.proofs.lemmas.Result.{err_from_is_err_and}
use Rattle.rsvp_base.specs.declared.room.NoMemory.{NoMemory}
use Rattle.router_rules.specs.Flags.{entries_of}
use Rattle.network_replay.specs.Reporting.{Says, entry_said}
use Rattle.network_replay.proofs.Reports.{all_said, none_said, one_said, said_behind, says_none, says_stop, says_then}
use Rattle.network_replay.proofs.report.put_entries.Goals as goal

pub loop-k-init : goal.loop-k-init
loop-k-init g c = λ t r after said. said

pub loop-k-preserved : goal.loop-k-preserved
loop-k-preserved g c = λ t r after rest.
    let see = g.R.Router.seen in
    let n = c.args.node.now in
    let xs = entries_of (see.place n) (see.facts n t) c.args.iface in
    let k = c.loop-k.k in
    let e = c.in-Some.entry in
    c.loop-k.invariant t r after
    (subst (λ (x : List ℕ). Says r c.loop-k.out.items after x) (sym (one_said c.args.flags xs k e (sym (c.in-Some.ensures.entry t))))
    (says_then r c.loop-k.out.items c.say_entry.new.out.items after (entry_said c.args.flags e) (said_behind c.args.flags xs (k + 1)) c.in_ok-say_entry.ensures rest))

pub returns-in_default : goal.returns-in_default
returns-in_default g c = λ t.
    let see = g.R.Router.seen in
    let n = c.args.node.now in
    let xs = entries_of (see.place n) (see.facts n t) c.args.iface in
    let o = c.loop-k.out.items in
    let done : Result (Unit {0}) NoMemory = Ok tt in
    c.loop-k.invariant t done o (subst (λ (x : List ℕ). Says done o o x) (sym (none_said c.args.flags xs c.loop-k.k (sym (c.in_default.ensures.entry t)))) (says_none o))

pub returns-in_err-say_entry : goal.returns-in_err-say_entry
returns-in_err-say_entry g c = λ t.
    let see = g.R.Router.seen in
    let n = c.args.node.now in
    let xs = entries_of (see.place n) (see.facts n t) c.args.iface in
    let k = c.loop-k.k in
    let e = c.in-Some.entry in
    let o = c.loop-k.out.items in
    let after = c.say_entry.new.out.items in
    let given = err_from_is_err_and c.from_residual.result c.from_residual.ensures.1 in
    let no = c.in_err-say_entry.field-0.0 in
    let r : Result (Unit {0}) NoMemory = Err no in
    let stop = c.loop-k.invariant t r after
    (subst (λ (x : List ℕ). Says r o after x) (sym (one_said c.args.flags xs k e (sym (c.in-Some.ensures.entry t))))
    (says_stop no o after (entry_said c.args.flags e) (said_behind c.args.flags xs (k + 1)) c.in_err-say_entry.ensures)) in
    rw given.1 stop

pub returns : goal.returns
returns g c = λ t.
    let see = g.R.Router.seen in
    let n = c.args.node.now in
    let xs = entries_of (see.place n) (see.facts n t) c.args.iface in
    let o = c.loop-k.out.items in
    let done : Result (Unit {0}) NoMemory = Ok tt in
    let le : length xs ≤ c.loop-k.k = omega (arith, c.entry-first.ensures.few t, c.loop-k-test.false) in
    c.loop-k.invariant t done o (subst (λ (x : List ℕ). Says done o o x) (sym (all_said c.args.flags xs c.loop-k.k le)) (says_none o))
