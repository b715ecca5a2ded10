use Rattle.std.proofs.Common.{◌≡◌, map as each, refl, sym, ap, subst, ◌∙◌}
use Rattle.rsvp_base.specs.Rows.{table_of}
use Rattle.rsvp_base.specs.Table.{Table, changed, changed_rows, same_rows}
use Rattle.style_rules.specs.Limits.{IsWithinLimits}
use Rattle.style_rules.specs.Lines.{line_keys}
use Rattle.soft_table.specs.Facts.{lives_on, dies}
use Rattle.soft_table.proofs.Maps.{rows_later, rows_dead}
use Rattle.resv_state.specs.declared.fact.ResvFact.{ResvFact}
use Rattle.resv_state.specs.Resvs.{ResvFacts, ResvMap, AreOfStyle, AreUnderTheirKeys, resv_lines, held_key, held_row, dead_row, fact_of, dead_of, later, dead_after}
use Rattle.resv_state.proofs.Facts.{told, limits_below, later_below, later_style, dead_keys, no_dead}
use Rattle.soft_table.proofs.Told.{lived_on, died}
use Rattle.resv_state.proofs.table.ResvTable.advance.Goals as goal

pub advance-requires : goal.advance-requires
advance-requires g c = no_dead c.self.inside.table.dead (ap (λ (m : ResvMap). m.dead.rows) c.self.view_is ∙ c.requires)

pub invariant_of-self-inside : goal.invariant_of-self-inside
invariant_of-self-inside g c =
    let st = g.S.Style.kind_is in
    let t = (table_of line_keys held_row c.self.inside.table.facts c.self.inside.facts) in
    let m : ResvFacts = changed fact_of t in
    let after : (x : ResvFacts) → x.rows ≡ changed_rows fact_of (each held_row c.advance.new.self.facts)
    → x ≡ changed (later c.args.ms) m = λ x is. same_rows x (changed fact_of (changed (λ k e. lives_on c.args.ms e) t))
    (is ∙ ap (changed_rows fact_of) (ap (each held_row) c.advance.ensures.facts ∙ rows_later held_key c.args.ms c.self.inside.table.facts)) ∙ lived_on told line_keys c.args.ms t in
    let gone : (x : Table line_keys ResvFact) → x.rows ≡ changed_rows dead_of (each dead_row c.advance.new.self.dead)
    → x ≡ changed (dead_after c.args.ms) m = λ x is. same_rows x (changed dead_of (changed (λ k e. dies c.args.ms e) t))
    (is ∙ ap (changed_rows dead_of) (ap (each dead_row) c.advance.ensures.dead ∙ rows_dead held_key c.args.ms c.self.inside.table.facts)) ∙ died told line_keys c.args.ms t in
    let n : ResvFacts = changed fact_of (table_of line_keys held_row c.advance.new.self.facts c.advance.ensures.order.0) in
    let d : Table line_keys ResvFact = changed dead_of (table_of line_keys dead_row c.advance.new.self.dead c.advance.ensures.order.1) in (
      c.advance.ensures.order.0,
      (
        c.advance.ensures.order.1,
        (
          c.advance.ensures.room ∙ c.self.inside.room,
          (
            subst (λ (x : ResvFacts). AreOfStyle st x) (sym (after n refl)) (later_style st c.args.ms m c.self.inside.style),
            (
              subst (λ (x : Table line_keys ResvFact). AreUnderTheirKeys st x) (sym (gone d refl)) (dead_keys st c.args.ms m c.self.inside.style),
              (
                subst (λ (x : ResvFacts). IsWithinLimits st (resv_lines st x)) (sym (after n refl)) (limits_below st (changed (later c.args.ms) m) m (later_below st c.args.ms m) c.self.inside.within),
                tt,
              ),
            ),
          ),
        ),
      ),
    )

pub returns-clause-facts : goal.returns-clause-facts
returns-clause-facts g c =
    let t = (table_of line_keys held_row c.self.inside.table.facts c.self.inside.facts) in
    same_rows _ (changed fact_of (changed (λ k e. lives_on c.args.ms e) t)) (ap (changed_rows fact_of)
    (ap (each held_row) c.advance.ensures.facts ∙ rows_later held_key c.args.ms c.self.inside.table.facts)) ∙ lived_on told line_keys c.args.ms t
    ∙ ap (λ (m : ResvMap). changed (later c.args.ms) m.facts) c.self.view_is

pub returns-clause-dead : goal.returns-clause-dead
returns-clause-dead g c =
    let t = (table_of line_keys held_row c.self.inside.table.facts c.self.inside.facts) in
    same_rows _ (changed dead_of (changed (λ k e. dies c.args.ms e) t)) (ap (changed_rows dead_of)
    (ap (each dead_row) c.advance.ensures.dead ∙ rows_dead held_key c.args.ms c.self.inside.table.facts)) ∙ died told line_keys c.args.ms t
    ∙ ap (λ (m : ResvMap). changed (dead_after c.args.ms) m.facts) c.self.view_is
