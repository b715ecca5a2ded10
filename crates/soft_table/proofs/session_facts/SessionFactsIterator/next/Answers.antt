use Rattle.std.proofs.Common.{◌+◌, length, Some, sym, ap, ◌∙◌, arith, subst}
use Rattle.std.specs.Prelude.{IfSome}
use Rattle.soft_table.specs.Index.{facts_in}
use Rattle.soft_table.specs.Walks.{IsRowOf, facts_from, fact_in}
use Rattle.soft_table.proofs.Along.{found, from_row}
use Rattle.soft_table.proofs.Walks.{are_slots}
use Rattle.soft_table.proofs.session_facts.SessionFactsIterator.next.Goals as goal

pub nth-self-inside-requires-clause-slots : goal.nth-self-inside-requires-clause-slots
nth-self-inside-requires-clause-slots g c = are_slots g.F.Fact.rests g.F.Fact.key_of c.self.inside.pool.now c.self.inside.rows.now.rows c.self.invariant.0 c.self.inside.session

pub returns-clause-steps : goal.returns-clause-steps
returns-clause-steps g c =
    let pool = c.self.inside.pool.now in
    let rows = c.self.inside.rows.now.rows in
    let row : IsRowOf g.F.Fact.rests pool rows c.self.inside.session c.in_ok-slot.slot.0 =
    subst (λ w. IfSome w (λ s. IsRowOf g.F.Fact.rests pool rows c.self.inside.session s.0)) {x = c.self.inside.next} {y = Some c.in_ok-slot.slot} c.in_ok-slot.was c.self.invariant.1 in
    let next = found g.F.Fact.rests g.F.Fact.key_of pool rows c.self.invariant.0 c.self.inside.session (row.place + 1) _ c.nth-self-inside.result
    (c.after-behind.ensures row.place row.rest row.is) c.nth-self-inside.ensures.some c.nth-self-inside.ensures.none in
    sym c.self.view_is ∙ ap (λ w. facts_from g.F.Fact.rests g.F.Fact.key_of c.self.inside.session (facts_in pool rows)
    (fact_in pool w)) {x = c.self.inside.next} {y = Some c.in_ok-slot.slot} c.in_ok-slot.was
    ∙ from_row g.F.Fact.rests g.F.Fact.key_of pool rows c.self.invariant.0 c.self.inside.session c.in_ok-slot.slot.0 row c.get.result.now c.get.ensures c.nth-self-inside.result next

pub returns-clause-goes : goal.returns-clause-goes
returns-clause-goes g c = let fewer = ap length (returns-clause-steps g c) in record { on = λ _. (tt, tt, omega (arith, fewer)); keeps = tt; rests = λ _. tt }
