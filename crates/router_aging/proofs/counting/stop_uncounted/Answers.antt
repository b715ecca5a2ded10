use Rattle.std.proofs.Common.{◌≡◌, ℕ, ◌+◌, ◌<◌, ◌||◌, List, length, Some, true, cond, sym, ap, ◌∙◌, arith, map as each, take, get_or}
use Rattle.std.specs.Prelude.{Bool, not, slice_get}
use Rattle.std.specs.Option.{option_map}
use Rattle.std.proofs.lemmas.List.{length-map, take_all}
use Rattle.std.proofs.lemmas.Option.{slice_get-get_or, slice_get-map}
use Rattle.rsvp_base.specs.Orders.{sessions}
use Rattle.rsvp_base.specs.Table.{Table, kept, without}
use Rattle.rsvp_base.specs.declared.session.Session.{Session}
use Rattle.rsvp_base.proofs.Filters.{each_each}
use Rattle.router_rules.specs.Facts.{SenderKey}
use Rattle.router_aging.specs.Passing.{counts, dead_key, sessions_at}
use Rattle.router_aging.specs.declared.dead.DeadPath.{DeadPath}
use Rattle.router_aging.proofs.Counts.{any, stopped_all, stopped_next, stopped_none}
use Rattle.router_aging.proofs.counting.stop_uncounted.Goals as goal
use Rattle.router_aging.proofs.counting.stop_uncounted.Goals.{After-as_slice-list}

abbrev of_row : DeadPath → Session
of_row d = d.session

-- the sessions of the rows are those of the dead paths
all_rows : (c : After-as_slice-list) → each of_row c.as_slice-list.result.now ≡ sessions_at c.args.dead.now
all_rows c =
    let list = c.as_slice-list.result.now in
    sym (each_each dead_key (λ (k : SenderKey). k.0) list) ∙ ap (each (λ (k : SenderKey). k.0)) c.as_slice-list.ensures.keys ∙ each_each (λ e. e.0) (λ (k : SenderKey). k.0) c.args.dead.now.rows

pub loop-i-init : goal.loop-i-init
loop-i-init c = stopped_none (counts c.args.senders.now.tspecs c.args.paths.now.facts) c.args.due.now

one_more : (test : Session → Bool) (due old new : Table sessions ℕ) (list : List DeadPath) (i : ℕ) (d : DeadPath) → i < length list
    → due ≡ kept (λ q. test q || not (any (take i (each of_row list)) q)) old
    → (again : Bool) → (again ≡ true → any (take i (each of_row list)) (get_or list i d).session ≡ true)
    → new ≡ cond (again || test (get_or list i d).session) due (without due (get_or list i d).session)
    → new ≡ kept (λ q. test q || not (any (take (i + 1) (each of_row list)) q)) old
one_more test due old new list i d lt so_far again known is =
    let at : slice_get (each of_row list) i ≡ Some (get_or list i d).session = slice_get-map of_row list i ∙ ap (option_map of_row) (slice_get-get_or list i d lt) in
    is ∙ stopped_next test due old (each of_row list) i (get_or list i d).session so_far at again known

pub loop-i-preserved : goal.loop-i-preserved
loop-i-preserved c =
    one_more (counts c.args.senders.now.tspecs c.args.paths.now.facts) c.loop-i.due c.args.due.now c.stop_one.new.due c.as_slice-list.result.now c.loop-i.i _ c.loop-i-test.true c.loop-i.invariant
    c.is_again.result c.is_again.ensures c.stop_one.ensures

pub returns : goal.returns
returns c =
    let d = (goal.at.returns c).After-as_slice-list in
    let test = counts c.args.senders.now.tspecs c.args.paths.now.facts in
    let ss = each of_row c.as_slice-list.result.now in
    let many = length-map c.as_slice-list.result.now of_row in
    let all = take_all c.loop-i.i ss (omega (arith, many, c.loop-i-test.false)) in
    c.loop-i.invariant
    ∙ ap (λ xs. kept (λ q. test q || not (any xs q)) c.args.due.now) (all ∙ all_rows d)
    ∙ stopped_all test c.args.due.now (sessions_at c.args.dead.now) c.requires
