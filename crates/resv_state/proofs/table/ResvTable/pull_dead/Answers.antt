use Rattle.std.proofs.Common.{◌≡◌, map as each, refl, sym, ap, subst, ◌∙◌}
use Rattle.std.specs.Option.{option_map}
use Rattle.rsvp_base.specs.Rows.{table_of}
use Rattle.rsvp_base.specs.Table.{get, without, changed, changed_rows, same_rows}
use Rattle.style_rules.specs.Limits.{IsWithinLimits}
use Rattle.style_rules.specs.Lines.{line_keys}
use Rattle.soft_table.specs.Facts.{Kept}
use Rattle.soft_table.proofs.Valued.{get-valued, valued-without}
use Rattle.resv_state.specs.declared.fact.Held.{Held}
use Rattle.resv_state.specs.Resvs.{ResvFacts, ResvMap, AreOfStyle, resv_key, resv_lines, held_key, held_row, dead_row, fact_of, dead_of}
use Rattle.resv_state.proofs.Facts.{told, same_map, pulled_keys}
use Rattle.resv_state.proofs.table.ResvTable.pull_dead.Goals as goal

pub invariant_of-self-inside : goal.invariant_of-self-inside
invariant_of-self-inside g c =
    let st = g.S.Style.kind_is in
    let t = (table_of line_keys held_row c.self.inside.table.facts c.self.inside.facts) in
    let n : ResvFacts = changed fact_of (table_of line_keys held_row c.pull_dead.new.self.facts c.pull_dead.ensures.order.0) in
    let same : n ≡ changed fact_of t = same_rows n (changed fact_of t) (ap (λ fs. changed_rows fact_of (each held_row fs)) c.pull_dead.ensures.facts) in (
      c.pull_dead.ensures.order.0,
      (
        c.pull_dead.ensures.order.1,
        (
          c.pull_dead.ensures.room ∙ c.self.inside.room,
          (
            subst (λ (x : ResvFacts). AreOfStyle st x) (sym same) c.self.inside.style,
            (
              pulled_keys st c.pull_dead.result c.self.inside.table c.pull_dead.new.self c.self.inside.dead c.pull_dead.ensures.order.1 c.pull_dead.ensures.pulled c.pull_dead.ensures.unchanged
                  c.self.inside.gone,
              (subst (λ (x : ResvFacts). IsWithinLimits st (resv_lines st x)) (sym same) c.self.inside.within, tt),
            ),
          ),
        ),
      ),
    )

pub returns-in_default-clause-unchanged : goal.returns-in_default-clause-unchanged
returns-in_default-clause-unchanged g c = λ _.
    let same = c.in_default.ensures.unchanged refl in
    same_map _ _ (same_rows _ (changed fact_of (table_of line_keys held_row c.self.inside.table.facts c.self.inside.facts)) (ap (λ (t : Kept Held). changed_rows fact_of (each held_row t.facts)) same)
    ∙ ap (λ (m : ResvMap). m.facts) c.self.view_is)
    (same_rows _ (changed dead_of (table_of line_keys dead_row c.self.inside.table.dead c.self.inside.dead)) (ap (λ (t : Kept Held). changed_rows dead_of (each dead_row t.dead)) same)
    ∙ ap (λ (m : ResvMap). m.dead) c.self.view_is)

pub returns-clause-dead : goal.returns-clause-dead
returns-clause-dead g c =
    let h = c.in-Some.held in
    let found = get-valued line_keys told (table_of line_keys dead_row c.self.inside.table.dead c.self.inside.dead) (held_key h) ∙ ap (option_map told) c.in-Some.ensures.dead in
    let own = c.self.inside.gone (held_key h) h.fact found in
    ap (λ (m : ResvMap). get m.dead (resv_key g.S.Style.kind_is h.fact)) (sym c.self.view_is)
    ∙ ap (get (changed dead_of (table_of line_keys dead_row c.self.inside.table.dead c.self.inside.dead))) own ∙ found

pub returns-clause-pulled : goal.returns-clause-pulled
returns-clause-pulled g c =
    let h = c.in-Some.held in
    let found = get-valued line_keys told (table_of line_keys dead_row c.self.inside.table.dead c.self.inside.dead) (held_key h) ∙ ap (option_map told) c.in-Some.ensures.dead in
    let own = c.self.inside.gone (held_key h) h.fact found in
    same_map _ _ (same_rows _ (changed fact_of (table_of line_keys held_row c.self.inside.table.facts c.self.inside.facts))
    (ap (λ fs. changed_rows fact_of (each held_row fs)) c.in-Some.ensures.facts) ∙ ap (λ (m : ResvMap). m.facts) c.self.view_is)
    (same_rows _ (changed dead_of (without (table_of line_keys dead_row c.self.inside.table.dead c.self.inside.dead) (held_key h))) (ap (changed_rows dead_of) c.in-Some.ensures.pulled)
    ∙ valued-without line_keys told (table_of line_keys dead_row c.self.inside.table.dead c.self.inside.dead) (held_key h)
    ∙ ap (without (changed dead_of (table_of line_keys dead_row c.self.inside.table.dead c.self.inside.dead))) (sym own)
    ∙ ap (λ (m : ResvMap). without m.dead (resv_key g.S.Style.kind_is h.fact)) c.self.view_is)
