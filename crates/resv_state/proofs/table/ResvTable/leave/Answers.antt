use Rattle.std.proofs.Common.{◌≡◌, map as each, sym, ap, subst, ◌∙◌}
use Rattle.std.specs.Option.{option_map}
use Rattle.rsvp_base.specs.Rows.{table_of}
use Rattle.rsvp_base.specs.Table.{Table, get, changed, changed_rows, same_rows}
use Rattle.style_rules.specs.Limits.{IsWithinLimits}
use Rattle.style_rules.specs.Lines.{LineKey, line_keys}
use Rattle.soft_table.specs.Facts.{Kept}
use Rattle.soft_table.proofs.Valued.{get-valued}
use Rattle.resv_state.specs.declared.fact.Held.{Held}
use Rattle.resv_state.specs.declared.fact.ResvFact.{ResvFact}
use Rattle.resv_state.specs.Resvs.{ResvFacts, ResvMap, AreOfStyle, AreUnderTheirKeys, resv_lines, held_row, dead_row, fact_of, dead_of}
use Rattle.resv_state.specs.Leaving.{lessened, key_has_one, held_lessened}
use Rattle.resv_state.proofs.Facts.{said, same_map}
use Rattle.resv_state.proofs.Left.{less_said, less_style, less_limits, key_had}
use Rattle.resv_state.proofs.table.ResvTable.leave.Goals as goal

pub lessen-requires-clause-named : goal.lessen-requires-clause-named
lessen-requires-clause-named g c = λ e at.
    let k : LineKey = (c.args.session, c.args.rest) in
    (c.self.inside.style.style k (said e) (get-valued line_keys said (table_of line_keys held_row c.self.inside.table.facts c.self.inside.facts) k ∙ ap (option_map said) at)).named

pub invariant_of-self-inside : goal.invariant_of-self-inside
invariant_of-self-inside g c =
    let st = g.S.Style.kind_is in
    let k : LineKey = (c.args.session, c.args.rest) in
    let t = table_of line_keys held_row c.self.inside.table.facts c.self.inside.facts in
    let n : ResvFacts = changed fact_of (table_of line_keys held_row c.lessen.new.table.facts c.lessen.ensures.order.0) in
    let d : Table line_keys ResvFact = changed dead_of (table_of line_keys dead_row c.lessen.new.table.dead c.lessen.ensures.order.1) in
    let is : n ≡ changed (lessened k c.args.gone.now) (changed fact_of t) = same_rows n (changed fact_of (changed (held_lessened k c.args.gone.now) t))
    (ap (changed_rows fact_of) c.lessen.ensures.facts) ∙ less_said k c.args.gone.now t in
    let gone : d ≡ changed dead_of (table_of line_keys dead_row c.self.inside.table.dead c.self.inside.dead) =
    same_rows d (changed dead_of (table_of line_keys dead_row c.self.inside.table.dead c.self.inside.dead)) (ap (λ hs. changed_rows dead_of (each dead_row hs)) c.lessen.ensures.dead) in (
      c.lessen.ensures.order.0,
      (
        c.lessen.ensures.order.1,
        (
          c.lessen.ensures.room ∙ c.self.inside.room,
          (
            subst (λ (x : ResvFacts). AreOfStyle st x) (sym is) (less_style st k c.args.gone.now (changed fact_of t) c.self.inside.style),
            (
              subst (λ (x : Table line_keys ResvFact). AreUnderTheirKeys st x) (sym gone) c.self.inside.gone,
              (subst (λ (x : ResvFacts). IsWithinLimits st (resv_lines st x)) (sym is) (less_limits st k c.args.gone.now (changed fact_of t) c.self.inside.within), tt),
            ),
          ),
        ),
      ),
    )

pub returns-clause-facts : goal.returns-clause-facts
returns-clause-facts g c =
    let k : LineKey = (c.args.session, c.args.rest) in
    let t = table_of line_keys held_row c.self.inside.table.facts c.self.inside.facts in
    same_map _ _
    (same_rows _ (changed fact_of (changed (held_lessened k c.args.gone.now) t)) (ap (changed_rows fact_of) c.lessen.ensures.facts) ∙ less_said k c.args.gone.now t
    ∙ ap (λ (m : ResvMap). changed (lessened k c.args.gone.now) m.facts) c.self.view_is)
    (same_rows _ (changed dead_of (table_of line_keys dead_row c.self.inside.table.dead c.self.inside.dead)) (ap (λ hs. changed_rows dead_of (each dead_row hs)) c.lessen.ensures.dead)
    ∙ ap (λ (m : ResvMap). m.dead) c.self.view_is)

pub returns-clause-had : goal.returns-clause-had
returns-clause-had g c =
    let k : LineKey = (c.args.session, c.args.rest) in
    let t = table_of line_keys held_row c.self.inside.table.facts c.self.inside.facts in
    c.lessen.ensures.had ∙ key_had c.args.gone.now (get t k) ∙ ap (key_has_one c.args.gone.now) (sym (get-valued line_keys said t k))
    ∙ ap (λ (m : ResvMap). key_has_one c.args.gone.now (get m.facts k)) c.self.view_is

pub returns-clause-unchanged : goal.returns-clause-unchanged
returns-clause-unchanged g c = λ no.
    let same = c.lessen.ensures.unchanged no in
    same_map _ _ (same_rows _ (changed fact_of (table_of line_keys held_row c.self.inside.table.facts c.self.inside.facts)) (ap (λ (t : Kept Held). changed_rows fact_of (each held_row t.facts)) same)
    ∙ ap (λ (m : ResvMap). m.facts) c.self.view_is)
    (same_rows _ (changed dead_of (table_of line_keys dead_row c.self.inside.table.dead c.self.inside.dead)) (ap (λ (t : Kept Held). changed_rows dead_of (each dead_row t.dead)) same)
    ∙ ap (λ (m : ResvMap). m.dead) c.self.view_is)
