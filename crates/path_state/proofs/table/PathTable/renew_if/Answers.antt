use Rattle.std.proofs.Common.{◌≡◌, ℕ, true, false, is_some, map as each, refl, sym, ap, subst, ◌∙◌}
use Rattle.rsvp_base.specs.Orders.{senders}
use Rattle.rsvp_base.specs.Rows.{table_of}
use Rattle.rsvp_base.specs.SessionLimits.{IsWithinSessionLimits}
use Rattle.rsvp_base.specs.Table.{Table, get, put_in, same_rows}
use Rattle.rsvp_base.proofs.SessionCounts.{room_over}
use Rattle.rsvp_base.proofs.Tables.{either}
use Rattle.rsvp_base.specs.declared.session.Sender.{Sender}
use Rattle.rsvp_base.specs.declared.session.Session.{Session}
use Rattle.soft_table.specs.Facts.{Kept}
use Rattle.path_state.specs.declared.fact.PathFact.{PathFact}
use Rattle.path_state.specs.Paths.{PathMap, dead_row, fact_row, path_keys}
use Rattle.path_state.proofs.Answered.{nil_of, same_map, within_more}
use Rattle.path_state.proofs.table.PathTable.renew_if.Goals as goal
use Rattle.path_state.proofs.table.PathTable.renew_if.Goals.{After-renew_if}

pub renew_if-requires-clause-pulled : goal.renew_if-requires-clause-pulled
renew_if-requires-clause-pulled g c = nil_of dead_row c.self.inside.table.dead (ap (λ (t : PathMap). t.dead.rows) c.self.view_is ∙ c.requires.pulled)

abbrev was : (g : _) → After-renew_if g → Table path_keys (PathFact × ℕ)
was g c = table_of path_keys fact_row c.self.inside.table.facts c.self.inside.facts

-- the map after it
after : (g : _) (c : After-renew_if g) (e : c.renew_if.result ≡ true) (n : Table path_keys (PathFact × ℕ)) → n.rows ≡ each fact_row c.renew_if.new.self.facts
    → n ≡ put_in (was g c) (c.args.session, c.args.sender) ((c.renew_if.ensures.renewed e).0, c.args.left)
after g c e n is = let r = c.renew_if.ensures.renewed e in same_rows n (put_in (was g c) (c.args.session, c.args.sender) (r.0, c.args.left)) (is ∙ r.4)

after_no : (g : _) (c : After-renew_if g) (e : c.renew_if.result ≡ false) (n : Table path_keys (PathFact × ℕ)) → n.rows ≡ each fact_row c.renew_if.new.self.facts → n ≡ was g c
after_no g c e n is = same_rows n (was g c) (is ∙ ap (λ (t : Kept PathFact). each fact_row t.facts) (c.renew_if.ensures.unchanged e))

pub invariant_of-self-inside : goal.invariant_of-self-inside
invariant_of-self-inside g c =
    let k : Session × Sender = (c.args.session, c.args.sender) in
    let within : IsWithinSessionLimits senders (table_of path_keys fact_row c.renew_if.new.self.facts c.renew_if.ensures.order.0) =
    either c.renew_if.result
    (λ yes.
    let r = c.renew_if.ensures.renewed yes in
    let e : PathFact × ℕ = (r.0, c.args.left) in
    within_more k e (was g c) c.renew_if.new.self.facts _ c.self.inside.within (room_over senders (was g c) c.self.inside.within k.0 k.1 e (ap is_some r.2)) r.4)
    (λ no. subst (λ (t : Table path_keys (PathFact × ℕ)). IsWithinSessionLimits senders t) (sym (after_no g c no _ refl)) c.self.inside.within) in
    (c.renew_if.ensures.order.0, (c.renew_if.ensures.order.1, (c.renew_if.ensures.room ∙ c.self.inside.room, (within, tt))))

-- the dead are as before
dead : (g : _) (c : After-renew_if g) (n : Table path_keys PathFact) → n.rows ≡ each dead_row c.renew_if.new.self.dead → n ≡ c.args.self.now.dead
dead g c n is =
    same_rows n (table_of path_keys dead_row c.self.inside.table.dead c.self.inside.dead) (is ∙ ap (each dead_row) c.renew_if.ensures.dead) ∙ ap (λ (t : PathMap). t.dead) c.self.view_is

pub returns-clause-renewed : goal.returns-clause-renewed
returns-clause-renewed g c = λ e.
    let r = c.before.renew_if.ensures.renewed e in
    let k : Session × Sender = (c.args.session, c.args.sender) in (
      r.0,
      r.1,
      ap (λ (t : PathMap). get t.facts k) (sym c.self.view_is) ∙ r.2,
      r.3,
      same_map _ _ (after g c.before e _ refl ∙ ap (λ (t : PathMap). put_in t.facts k (r.0, c.args.left)) c.self.view_is) (dead g c.before _ refl),
    )

pub returns-clause-unchanged : goal.returns-clause-unchanged
returns-clause-unchanged g c = λ e. same_map _ _ (after_no g c.before e _ refl ∙ ap (λ (t : PathMap). t.facts) c.self.view_is) (dead g c.before _ refl)
