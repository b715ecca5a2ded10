use Rattle.std.specs.Prelude.{map as each, ◌≡◌, ◌<◌}
use Rattle.std.proofs.Common.{length, length-set, set, ap, refl, ◌∙◌, arith}
use Rattle.std.proofs.lemmas.List.{length-map}
use Rattle.rsvp_base.specs.Table.{put_in, same_rows}
use Rattle.rsvp_base.proofs.Rows.{are_rows, put_new, put_over, size-put_new, size_rows}
use Rattle.router_rules.specs.Facts.{SenderKey, sender_keys}
use Rattle.router_aging.specs.Lost.{lost_row}
use Rattle.router_aging.proofs.lost.LostHops.add.Goals as goal
use Rattle.router_aging.proofs.lost.LostHops.add.Goals.{In-Err, In-Ok}

over : (c : In-Ok) → each lost_row (set c.self.inside.rows.items c.in-Ok.at c.args.row) ≡ (put_in c.args.self.now (c.args.row.session, c.args.row.sender) c.args.row.hop).rows
over c =
    put_over sender_keys lost_row c.self.inside.rows.items c.self.inside.rising c.args.self.now c.self.view_is (c.args.row.session, c.args.row.sender) c.args.row.hop c.args.row c.in-Ok.at refl
    (rw c.as_slice.ensures.value at c.in-Ok.ensures.there)

abbrev key : In-Err → SenderKey
key c = (c.args.row.session, c.args.row.sender)

room : (c : In-Err) → length c.self.inside.rows.items < 512
room c =
    let goes = rw c.as_slice.ensures.value at c.in-Err.ensures.absent in
    let more = size-put_new sender_keys lost_row c.self.inside.rows.items c.self.inside.rising c.args.self.now c.self.view_is (key c) c.args.row.hop c.in-Err.at goes in
    omega (arith, more, c.requires, size_rows sender_keys lost_row c.self.inside.rows.items c.self.inside.rising c.args.self.now c.self.view_is)

pub insert_row-requires-clause-within : goal.insert_row-requires-clause-within
insert_row-requires-clause-within c = (rw c.as_slice.ensures.value at c.in-Err.ensures.absent).within

pub insert_row-requires-clause-room : goal.insert_row-requires-clause-room
insert_row-requires-clause-room c =
    let lt = room ((goal.at.insert_row-requires-clause-room c).In-Err) in
    omega (arith, lt, c.self.inside.room)

pub invariant_of-self-inside : goal.invariant_of-self-inside
invariant_of-self-inside c =
    let d = (goal.at.invariant_of-self-inside c).In-Ok in
    let same = length-set c.self.inside.rows.items c.in-Ok.at c.args.row in
    (are_rows sender_keys lost_row _ (put_in c.args.self.now (c.args.row.session, c.args.row.sender) c.args.row.hop) (over d), (omega (arith, same, c.self.inside.few), (c.self.inside.room, tt)))

pub invariant_of-self-inside-in-Err : goal.invariant_of-self-inside-in-Err
invariant_of-self-inside-in-Err c =
    let d = (goal.at.invariant_of-self-inside-in-Err c).In-Err in
    let goes = rw c.as_slice.ensures.value at c.in-Err.ensures.absent in
    let lt = room d in
    let new = ap (each lost_row) c.insert_row.ensures.rows ∙ put_new sender_keys lost_row c.self.inside.rows.items c.self.inside.rising c.args.self.now c.self.view_is
    (key d) c.args.row.hop c.args.row c.in-Err.at refl goes in
    let more = size-put_new sender_keys lost_row c.self.inside.rows.items c.self.inside.rising c.args.self.now c.self.view_is (key d) c.args.row.hop c.in-Err.at goes in (
      are_rows sender_keys lost_row c.insert_row.new.rows.items (put_in c.args.self.now (key d) c.args.row.hop) new,
      (omega (arith, ap length new, length-map c.insert_row.new.rows.items lost_row, more, c.requires), (omega (arith, c.self.inside.room, c.insert_row.ensures.capacity), tt)),
    )

pub returns-in-Ok : goal.returns-in-Ok
returns-in-Ok c = same_rows _ (put_in c.args.self.now (c.args.row.session, c.args.row.sender) c.args.row.hop) (over ((goal.at.returns-in-Ok c).In-Ok))

pub returns-in-Err : goal.returns-in-Err
returns-in-Err c =
    let d = (goal.at.returns-in-Err c).In-Err in
    let goes = rw c.as_slice.ensures.value at c.in-Err.ensures.absent in
    same_rows _ (put_in c.args.self.now (key d) c.args.row.hop) (ap (each lost_row) c.insert_row.ensures.rows
    ∙ put_new sender_keys lost_row c.self.inside.rows.items c.self.inside.rising c.args.self.now c.self.view_is (key d) c.args.row.hop c.args.row c.in-Err.at refl goes)
