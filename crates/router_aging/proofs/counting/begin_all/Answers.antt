use Rattle.std.proofs.Common.{◌≡◌, [], ◌∷◌, sym, ap, subst, ◌∙◌, arith, map as each, take, get_or}
use Rattle.std.proofs.lemmas.List.{map-append, take_all, take_more}
use Rattle.rsvp_base.specs.Members.{In}
use Rattle.rsvp_base.specs.Orders.{sessions}
use Rattle.rsvp_base.specs.Sets.{set_of}
use Rattle.rsvp_base.specs.Table.{changed, keys, size}
use Rattle.rsvp_base.specs.declared.session.Session.{Session}
use Rattle.rsvp_base.proofs.Counts.{set_below}
use Rattle.rsvp_base.proofs.Filters.{each_each}
use Rattle.rsvp_base.proofs.Fronts.{in_front}
use Rattle.rsvp_base.proofs.Members.{in_each, to_each}
use Rattle.router_rules.specs.Facts.{SenderKey}
use Rattle.local_state.specs.Rows.{sender_row}
use Rattle.local_state.specs.declared.senders.LocalSender.{LocalSender}
use Rattle.router_aging.specs.Passing.{begun}
use Rattle.router_aging.proofs.Counts.{begun_more}
use Rattle.router_aging.proofs.Sets.{fewer_rows}
use Rattle.router_aging.proofs.counting.begin_all.Goals as goal
use Rattle.router_aging.proofs.counting.begin_all.Goals.{After-as_slice-list}

abbrev of_row : LocalSender → Session
of_row r = r.session

-- the sessions of the rows are those of the senders
all_rows : (c : After-as_slice-list) → each of_row c.as_slice-list.result.now ≡ each (λ (k : SenderKey). k.0) (keys c.args.senders.now.tspecs)
all_rows c =
    let list = c.as_slice-list.result.now in
    sym (each_each sender_row (λ e. e.0.0) list) ∙ ap (each (λ e. e.0.0)) c.as_slice-list.ensures ∙ sym (each_each (λ e. e.0) (λ (k : SenderKey). k.0) c.args.senders.now.tspecs.rows)

pub begin-requires : goal.begin-requires
begin-requires c = λ off.
    let d = (goal.at.begin-requires c).After-as_slice-list in
    let front = take c.loop-i.i c.as_slice-list.result.now in
    let less = fewer_rows (begun c.args.period) (set_of {o = sessions} (each of_row front)).rows in
    let below = set_below sessions (each of_row front) (each (λ (k : SenderKey). k.0) (keys c.args.senders.now.tspecs))
    (λ s i.
    let r = in_each of_row s front i in
    let P : Session → Type 0 = λ z. In z (each (λ (k : SenderKey). k.0) (keys c.args.senders.now.tspecs)) in
    subst P (sym r.2) (subst (λ zs. In (of_row r.0) zs) (all_rows d) (to_each of_row r.0 c.as_slice-list.result.now (in_front r.0 c.loop-i.i c.as_slice-list.result.now r.1)))) in
    omega (arith, ap size c.loop-i.invariant, less, below, c.limits.ensures.all)

pub loop-i-preserved : goal.loop-i-preserved
loop-i-preserved c =
    let list = c.as_slice-list.result.now in
    let d = c.index-list-i.result in
    let s = (get_or list c.loop-i.i d).session in
    c.begin.ensures ∙ begun_more c.args.period c.loop-i.due (each of_row (take c.loop-i.i list)) s c.loop-i.invariant
    ∙ ap (λ ss. changed (begun c.args.period) (set_of {o = sessions} ss)) (sym (map-append of_row (take c.loop-i.i list) (get_or list c.loop-i.i d ∷ []))
    ∙ ap (each of_row) (sym (take_more list c.loop-i.i d c.loop-i-test.true)))

pub returns : goal.returns
returns c =
    let d = (goal.at.returns c).After-as_slice-list in
    c.loop-i.invariant
    ∙ ap (λ ss. changed (begun c.args.period) (set_of {o = sessions} ss)) (ap (each of_row) (take_all c.loop-i.i c.as_slice-list.result.now (omega (arith, c.loop-i-test.false))) ∙ all_rows d)
