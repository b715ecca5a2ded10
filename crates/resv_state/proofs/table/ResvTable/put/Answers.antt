use Rattle.std.proofs.Common.{◌≡◌, true, map as each, refl, sym, ap, subst, ◌∙◌}
use Rattle.rsvp_base.specs.Rows.{table_of}
use Rattle.rsvp_base.specs.Table.{Table, put_in, changed, changed_rows, same_rows}
use Rattle.style_rules.specs.Limits.{IsWithinLimits, within_limits}
use Rattle.style_rules.specs.Lines.{LineKey, line_keys}
use Rattle.style_rules.proofs.Room.{within_told}
use Rattle.resv_state.specs.declared.fact.ResvFact.{ResvFact}
use Rattle.resv_state.specs.Resvs.{ResvFacts, ResvMap, AreOfStyle, AreUnderTheirKeys, resv_key, resv_lines, held_row, dead_row, fact_of, dead_of}
use Rattle.resv_state.proofs.Facts.{same_map, no_dead, put_style, put_said}
use Rattle.resv_state.proofs.Limits.{not_refused}
use Rattle.soft_table.proofs.Told.{when_ok}
use Rattle.resv_state.proofs.table.ResvTable.put.Goals as goal

pub put-requires-clause-pulled : goal.put-requires-clause-pulled
put-requires-clause-pulled g c = no_dead c.self.inside.table.dead (ap (λ (m : ResvMap). m.dead.rows) c.self.view_is ∙ c.requires.pulled)

pub invariant_of-self-inside : goal.invariant_of-self-inside
invariant_of-self-inside g c =
    let st = g.S.Style.kind_is in
    let f = c.args.fact in
    let fs = c.self.inside.table.facts in
    let up = c.self.inside.facts in
    let k : LineKey = resv_key st f in
    let m : ResvFacts = changed fact_of (table_of line_keys held_row fs up) in
    let now = ap (λ (z : ResvMap). z.facts) c.self.view_is in
    let room : within_limits st (resv_lines st (put_in c.args.self.now.facts k (f, c.args.left))) ≡ true = sym (c.fits.ensures c.args.left) ∙ c.if-not-fits.false in
    let kept = when_ok c.put.result (λ err. not_refused fs up st f c.args.left c.unit_of-unit.result c.unit_of-unit.ensures c.args.self.now.facts now room _ c.self.inside.room
    (c.put.ensures.full.0 err)) c.put.ensures.ok in
    let n : ResvFacts = changed fact_of (table_of line_keys held_row c.put.new.self.facts c.put.ensures.order.0) in
    let d : Table line_keys ResvFact = changed dead_of (table_of line_keys dead_row c.put.new.self.dead c.put.ensures.order.1) in
    let is : n ≡ put_in m k (f, c.args.left) = put_said fs up st f c.args.left c.unit_of-unit.result c.unit_of-unit.ensures n (ap (changed_rows fact_of) kept) in
    let gone : d ≡ changed dead_of (table_of line_keys dead_row c.self.inside.table.dead c.self.inside.dead) =
    same_rows d (changed dead_of (table_of line_keys dead_row c.self.inside.table.dead c.self.inside.dead)) (ap (λ hs. changed_rows dead_of (each dead_row hs)) c.put.ensures.dead) in (
      c.put.ensures.order.0,
      (
        c.put.ensures.order.1,
        (
          c.put.ensures.room ∙ c.self.inside.room,
          (
            subst (λ (x : ResvFacts). AreOfStyle st x) (sym is) (put_style st m f c.args.left c.requires.style c.self.inside.style),
            (
              subst (λ (x : Table line_keys ResvFact). AreUnderTheirKeys st x) (sym gone) c.self.inside.gone,
              (
                subst (λ (x : ResvFacts). IsWithinLimits st (resv_lines st x)) (sym (is ∙ ap (λ (x : ResvFacts). put_in x k (f, c.args.left)) now))
                    (within_told st (resv_lines st (put_in c.args.self.now.facts k (f, c.args.left))) room),
                tt,
              ),
            ),
          ),
        ),
      ),
    )

pub unreachable-requires : goal.unreachable-requires
unreachable-requires g c =
    not_refused c.self.inside.table.facts c.self.inside.facts g.S.Style.kind_is c.args.fact c.args.left c.unit_of-unit.result c.unit_of-unit.ensures c.args.self.now.facts
    (ap (λ (z : ResvMap). z.facts) c.self.view_is)
    (sym (c.fits.ensures c.args.left) ∙ c.if-not-fits.false) _ c.self.inside.room (c.in_default.ensures.full.0 refl)

pub returns-clause-ok : goal.returns-clause-ok
returns-clause-ok g c =
    let st = g.S.Style.kind_is in
    same_map _ _
    (put_said c.self.inside.table.facts c.self.inside.facts st c.args.fact c.args.left c.unit_of-unit.result c.unit_of-unit.ensures _ (ap (changed_rows fact_of) c.in-Ok.ensures.ok)
    ∙ ap (λ (z : ResvMap). put_in z.facts (resv_key st c.args.fact) (c.args.fact, c.args.left)) c.self.view_is)
    (same_rows _ (changed dead_of (table_of line_keys dead_row c.self.inside.table.dead c.self.inside.dead)) (ap (λ hs. changed_rows dead_of (each dead_row hs)) c.put.ensures.dead)
    ∙ ap (λ (z : ResvMap). z.dead) c.self.view_is)
