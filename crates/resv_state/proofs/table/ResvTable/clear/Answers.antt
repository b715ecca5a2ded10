use Rattle.std.proofs.Common.{◌≡◌, [], map as each, ap, ◌∙◌, rules}
use Rattle.rsvp_base.specs.Rows.{AreRows, table_of}
use Rattle.rsvp_base.specs.Table.{Table, empty, changed, changed_rows, same_rows}
use Rattle.style_rules.specs.Lines.{line_keys}
use Rattle.resv_state.specs.declared.fact.ResvFact.{ResvFact}
use Rattle.resv_state.specs.Resvs.{ResvFacts, held_row, dead_row, fact_of, dead_of}
use Rattle.resv_state.proofs.Facts.{same_map, no_style, no_keys, no_lines}
use Rattle.resv_state.proofs.table.ResvTable.clear.Goals as goal

pub invariant_of-self-inside : goal.invariant_of-self-inside
invariant_of-self-inside g c =
    let none : changed_rows fact_of (each held_row c.clear.new.self.facts) ≡ [] = ap (λ fs. changed_rows fact_of (each held_row fs)) c.clear.ensures.facts in
    let gone : changed_rows dead_of (each dead_row c.clear.new.self.dead) ≡ [] = ap (λ fs. changed_rows dead_of (each dead_row fs)) c.clear.ensures.dead in
    let up : AreRows line_keys held_row c.clear.new.self.facts = search rules in
    let dead : AreRows line_keys dead_row c.clear.new.self.dead = search rules in
    let n : ResvFacts = changed fact_of (table_of line_keys held_row c.clear.new.self.facts up) in
    let d : Table line_keys ResvFact = changed dead_of (table_of line_keys dead_row c.clear.new.self.dead dead) in (
      up,
      (
        dead,
        (
          c.clear.ensures.room ∙ c.self.inside.room,
          (
            no_style g.S.Style.kind_is n (same_rows n empty none),
            (no_keys g.S.Style.kind_is d (same_rows d empty gone), (no_lines g.S.Style.kind_is n (same_rows n empty none), tt)),
          ),
        ),
      ),
    )

pub returns : goal.returns
returns g c = same_map _ _ (same_rows _ _ (ap (λ fs. changed_rows fact_of (each held_row fs)) c.clear.ensures.facts))
    (same_rows _ _ (ap (λ fs. changed_rows dead_of (each dead_row fs)) c.clear.ensures.dead))
