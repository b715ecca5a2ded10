use Rattle.std.specs.Prelude.{is_some, map as each, ◌<◌}
use Rattle.std.proofs.Common.{length, sym, ap, refl, ◌∙◌, arith}
use Rattle.std.proofs.lemmas.List.{length-map}
use Rattle.rsvp_base.specs.Table.{has, put_in, same_rows}
use Rattle.rsvp_base.proofs.Rows.{are_rows, put_new, size-put_new, size_rows}
use Rattle.rsvp_base.proofs.SetLaws.{with_key_present}
use Rattle.router_rules.specs.Facts.{SenderKey, sender_keys}
use Rattle.router_aging.specs.Passing.{dead_row}
use Rattle.router_aging.specs.declared.dead.DeadPath.{DeadPath}
use Rattle.router_aging.proofs.dead.DeadPaths.add.Goals as goal
use Rattle.router_aging.proofs.dead.DeadPaths.add.Goals.{In-Err}

abbrev key : In-Err → SenderKey
key c = (c.args.session, c.args.sender)

abbrev row : In-Err → DeadPath
row c = record { session = c.args.session; sender = c.args.sender }

room : (c : In-Err) → length c.self.inside.rows.items < 512
room c =
    let goes = rw c.as_slice.ensures.value at c.in-Err.ensures.absent in
    let more = size-put_new sender_keys dead_row c.self.inside.rows.items c.self.inside.rising c.args.self.now c.self.view_is (key c) tt c.in-Err.at goes in
    omega (arith, more, c.requires, size_rows sender_keys dead_row c.self.inside.rows.items c.self.inside.rising c.args.self.now c.self.view_is)

pub insert_row-requires-clause-within : goal.insert_row-requires-clause-within
insert_row-requires-clause-within c = (rw c.as_slice.ensures.value at c.in-Err.ensures.absent).within

pub insert_row-requires-clause-room : goal.insert_row-requires-clause-room
insert_row-requires-clause-room c =
    let lt = room ((goal.at.insert_row-requires-clause-room c).In-Err) in
    omega (arith, lt, c.self.inside.room)

pub invariant_of-self-inside : goal.invariant_of-self-inside
invariant_of-self-inside c =
    let d = (goal.at.invariant_of-self-inside c).In-Err in
    let goes = rw c.as_slice.ensures.value at c.in-Err.ensures.absent in
    let lt = room d in
    let new = ap (each dead_row) c.insert_row.ensures.rows ∙ put_new sender_keys dead_row c.self.inside.rows.items c.self.inside.rising c.args.self.now c.self.view_is (key d) tt
    (row d) c.in-Err.at refl goes in
    let more = size-put_new sender_keys dead_row c.self.inside.rows.items c.self.inside.rising c.args.self.now c.self.view_is (key d) tt c.in-Err.at goes in (
      are_rows sender_keys dead_row c.insert_row.new.rows.items (put_in c.args.self.now (key d) tt) new,
      (omega (arith, ap length new, length-map c.insert_row.new.rows.items dead_row, more, c.requires), (omega (arith, c.self.inside.room, c.insert_row.ensures.capacity), tt)),
    )

pub returns-in-Err : goal.returns-in-Err
returns-in-Err c =
    let d = (goal.at.returns-in-Err c).In-Err in
    let goes = rw c.as_slice.ensures.value at c.in-Err.ensures.absent in
    same_rows _ (put_in c.args.self.now (key d) tt) (ap (each dead_row) c.insert_row.ensures.rows
    ∙ put_new sender_keys dead_row c.self.inside.rows.items c.self.inside.rising c.args.self.now c.self.view_is (key d) tt (row d) c.in-Err.at refl goes)

pub returns-in_default : goal.returns-in_default
returns-in_default c =
    let stands = rw c.as_slice.ensures.value at c.in_default.ensures.there in
    let one : DeadPath = record { session = c.args.session; sender = c.args.sender } in
    sym (with_key_present sender_keys c.args.self.now (c.args.session, c.args.sender) (sym (ap (λ m. has m (c.args.session, c.args.sender)) c.self.view_is) ∙ ap is_some (stands.found one)))
