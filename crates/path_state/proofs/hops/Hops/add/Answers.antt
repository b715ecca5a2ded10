use Rattle.std.specs.Prelude.{is_some, map as each, ◌≡◌, ◌<◌, false}
use Rattle.std.proofs.Common.{sym, ap, refl, ◌∙◌, ◌+◌, arith, length, cond, lit<}
use Rattle.rsvp_base.specs.Table.{has, put_in, same_rows, size}
use Rattle.rsvp_base.proofs.Rows.{are_rows, put_new, size_rows}
use Rattle.rsvp_base.proofs.SetLaws.{size-with_key, with_key_present}
use Rattle.path_state.specs.Paths.{path_hops, hop_row}
use Rattle.path_state.proofs.hops.Hops.add.Goals as goal
use Rattle.path_state.proofs.hops.Hops.add.Goals.{In-Err}

absent : (c : In-Err) → has c.args.self.now c.args.hop ≡ false
absent c = ap (λ m. has m c.args.hop) (sym c.self.view_is) ∙ ap is_some (rw c.as_slice.ensures.value at c.in-Err.ensures.absent).absent

-- there is room for a new one
room : (c : In-Err) → length c.self.inside.list.items < 16
room c =
    let more = size-with_key path_hops c.args.self.now c.args.hop ∙ ap (λ b. cond b (size c.args.self.now) (size c.args.self.now + 1)) (absent c) in
    omega (arith, more, c.requires, size_rows path_hops hop_row c.self.inside.list.items c.self.inside.rising c.args.self.now c.self.view_is)

pub insert-requires : goal.insert-requires
insert-requires c = (lit< tt, ((rw c.as_slice.ensures.value at c.in-Err.ensures.absent).within, room ((goal.at.insert-requires c).In-Err)))

pub invariant_of-self-inside : goal.invariant_of-self-inside
invariant_of-self-inside c =
    let lt = room ((goal.at.invariant_of-self-inside c).In-Err) in
    let is = ap (each hop_row) c.insert.ensures.items
    ∙ put_new path_hops hop_row c.self.inside.list.items c.self.inside.rising c.args.self.now c.self.view_is c.args.hop tt c.args.hop c.in-Err.place refl
    (rw c.as_slice.ensures.value at c.in-Err.ensures.absent) in
    (are_rows path_hops hop_row c.insert.new.self.items (put_in c.args.self.now c.args.hop tt) is, (omega (arith, lt, c.insert.ensures.len), tt))

pub returns-in-Err : goal.returns-in-Err
returns-in-Err c =
    same_rows _ (put_in c.args.self.now c.args.hop tt)
    (ap (each hop_row) c.insert.ensures.items ∙ put_new path_hops hop_row c.self.inside.list.items c.self.inside.rising c.args.self.now c.self.view_is c.args.hop tt c.args.hop c.in-Err.place refl
    (rw c.as_slice.ensures.value at c.in-Err.ensures.absent))

pub returns-in_default : goal.returns-in_default
returns-in_default c =
    let stands = rw c.as_slice.ensures.value at c.in_default.ensures.there in
    sym (with_key_present path_hops c.args.self.now c.args.hop (sym (ap (λ m. has m c.args.hop) c.self.view_is) ∙ ap is_some (stands.found c.args.hop)))
