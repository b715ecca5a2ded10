use Rattle.std.proofs.Common.{◌≤◌, ◌+◌, List, ℕ, subst, sym, arith, length}
use Rattle.std.specs.Prelude.{Result, Err, Ok}
use Rattle.std.proofs.lemmas.Result.{err_from_is_err_and}
use Rattle.rsvp_base.specs.declared.room.NoMemory.{NoMemory}
use Rattle.rsvp_messages.specs.RsvpObjects.declared.adspec.Adspec.{Adspec}
use Rattle.router_rules.specs.Adverts.{adverts_of}
use Rattle.router_rules.specs.Facts.{SenderKey}
use Rattle.network_flight.specs.Texts.{advert_text}
use Rattle.network_replay.specs.Reporting.{Says}
use Rattle.network_replay.proofs.Offers.{all_offered, no_offer, offers_behind, one_offer}
use Rattle.network_replay.proofs.Reports.{says_none, says_stop, says_then}
use Rattle.network_replay.proofs.adverts.put_paths.Goals as goal

pub loop-k-init : goal.loop-k-init
loop-k-init g c = λ t r after said. said

pub loop-k-preserved : goal.loop-k-preserved
loop-k-preserved g c = λ t r after rest.
    let see = g.R.Router.seen in
    let n = c.args.node.now in
    let xs = adverts_of (see.facts n t) c.args.iface in
    let k = c.loop-k.k in
    let e : SenderKey × Adspec = ((c.in-Some.session, c.in-Some.sender), c.in-Some.adspec) in
    c.loop-k.invariant t r after
    (subst (λ (x : List ℕ). Says r c.loop-k.out.items after x) (sym (one_offer c.args.name.now xs k e (sym (c.in-Some.ensures.advert t))))
    (says_then r c.loop-k.out.items c.say_path.new.out.items after (advert_text c.args.name.now e) (offers_behind c.args.name.now xs (k + 1)) c.in_ok-say_path.ensures rest))

pub returns-in_default : goal.returns-in_default
returns-in_default g c = λ t.
    let see = g.R.Router.seen in
    let n = c.args.node.now in
    let xs = adverts_of (see.facts n t) c.args.iface in
    let o = c.loop-k.out.items in
    let done : Result (Unit {0}) NoMemory = Ok tt in
    c.loop-k.invariant t done o (subst (λ (x : List ℕ). Says done o o x) (sym (no_offer c.args.name.now xs c.loop-k.k (sym (c.in_default.ensures.advert t)))) (says_none o))

pub returns-in_err-say_path : goal.returns-in_err-say_path
returns-in_err-say_path g c = λ t.
    let see = g.R.Router.seen in
    let n = c.args.node.now in
    let xs = adverts_of (see.facts n t) c.args.iface in
    let k = c.loop-k.k in
    let e : SenderKey × Adspec = ((c.in-Some.session, c.in-Some.sender), c.in-Some.adspec) in
    let o = c.loop-k.out.items in
    let after = c.say_path.new.out.items in
    let given = err_from_is_err_and c.from_residual.result c.from_residual.ensures.1 in
    let no = c.in_err-say_path.field-0.0 in
    let r : Result (Unit {0}) NoMemory = Err no in
    let stop = c.loop-k.invariant t r after
    (subst (λ (x : List ℕ). Says r o after x) (sym (one_offer c.args.name.now xs k e (sym (c.in-Some.ensures.advert t))))
    (says_stop no o after (advert_text c.args.name.now e) (offers_behind c.args.name.now xs (k + 1)) c.in_err-say_path.ensures)) in
    rw given.1 stop

pub returns : goal.returns
returns g c = λ t.
    let see = g.R.Router.seen in
    let n = c.args.node.now in
    let xs = adverts_of (see.facts n t) c.args.iface in
    let o = c.loop-k.out.items in
    let done : Result (Unit {0}) NoMemory = Ok tt in
    let le : length xs ≤ c.loop-k.k = omega (arith, c.advert_at-first.ensures.few t, c.loop-k-test.false) in
    c.loop-k.invariant t done o (subst (λ (x : List ℕ). Says done o o x) (sym (all_offered c.args.name.now xs c.loop-k.k le)) (says_none o))
