use Rattle.std.proofs.Common.{◌≡◌, ℕ, true, refl, ap, ◌∙◌, map as each}
use Rattle.std.proofs.lemmas.List.{length-map}
use Rattle.rsvp_base.specs.Orders.{senders}
use Rattle.rsvp_base.specs.Rows.{table_of}
use Rattle.rsvp_base.specs.SessionLimits.{has_room_at}
use Rattle.rsvp_base.specs.Table.{Table, put_in, same_rows}
use Rattle.path_state.specs.declared.fact.PathFact.{PathFact}
use Rattle.path_state.specs.Paths.{path_keys, path_key, fact_row, dead_row}
use Rattle.soft_table.proofs.Told.{when_ok}
use Rattle.path_state.proofs.Answered.{nil_of, same_map, within_more, never_full}
use Rattle.path_state.proofs.table.PathTable.keep.Goals as goal

pub put-requires-clause-pulled : goal.put-requires-clause-pulled
put-requires-clause-pulled c = nil_of dead_row c.self.inside.table.dead (ap (λ t. t.dead.rows) c.self.view_is ∙ c.requires.pulled)

pub invariant_of-self-inside : goal.invariant_of-self-inside
invariant_of-self-inside c =
    let m : Table path_keys (PathFact × ℕ) = table_of path_keys fact_row c.self.inside.table.facts c.self.inside.facts in
    let k = path_key c.args.fact in
    let e : PathFact × ℕ = (c.args.fact, c.args.left) in
    let room : has_room_at senders (put_in m k e) c.args.fact.session ≡ true = ap (λ t. has_room_at senders (put_in t.facts k e) c.args.fact.session) c.self.view_is ∙ c.requires.room in
    let kept = when_ok c.put.result (λ err. let why = c.put.ensures.full.0 err in never_full k e m c.self.inside.within room why.0
    (length-map c.self.inside.table.facts fact_row ∙ why.1 ∙ c.self.inside.room)) c.put.ensures.ok in
    (c.put.ensures.order.0, (c.put.ensures.order.1, (c.put.ensures.room ∙ c.self.inside.room, (within_more k e m c.put.new.self.facts _ c.self.inside.within room kept, tt))))

pub unreachable-requires : goal.unreachable-requires
unreachable-requires c =
    let m : Table path_keys (PathFact × ℕ) = table_of path_keys fact_row c.self.inside.table.facts c.self.inside.facts in
    let k = path_key c.args.fact in
    let e : PathFact × ℕ = (c.args.fact, c.args.left) in
    let room : has_room_at senders (put_in m k e) c.args.fact.session ≡ true = ap (λ t. has_room_at senders (put_in t.facts k e) c.args.fact.session) c.self.view_is ∙ c.requires.room in
    let why = c.in_default.ensures.full.0 refl in
    never_full k e m c.self.inside.within room why.0 (length-map c.self.inside.table.facts fact_row ∙ why.1 ∙ c.self.inside.room)

pub returns : goal.returns
returns c =
    let k = path_key c.args.fact in
    let e : PathFact × ℕ = (c.args.fact, c.args.left) in
    same_map _ _ (same_rows _ (put_in (table_of path_keys fact_row c.self.inside.table.facts c.self.inside.facts) k e) c.in-Ok.ensures.ok ∙ ap (λ t. put_in t.facts k e) c.self.view_is)
    (same_rows _ (table_of path_keys dead_row c.self.inside.table.dead c.self.inside.dead) (ap (each dead_row) c.put.ensures.dead) ∙ ap (λ t. t.dead) c.self.view_is)
