use Rattle.soft_table.proofs.Along.{found, from_first}
use Rattle.soft_table.proofs.Walks.{are_slots}
use Rattle.soft_table.proofs.session_facts.facts_of.Goals as goal

pub nth-next-requires-clause-slots : goal.nth-next-requires-clause-slots
nth-next-requires-clause-slots g c = are_slots g.F.Fact.rests g.F.Fact.key_of c.args.pool.now c.args.rows.now.rows c.requires c.args.session

pub returns : goal.returns
returns g c =
    from_first g.F.Fact.rests g.F.Fact.key_of c.args.pool.now c.args.rows.now.rows c.requires c.args.session c.nth-next.result
    (found g.F.Fact.rests g.F.Fact.key_of c.args.pool.now c.args.rows.now.rows c.requires c.args.session 0 _ c.nth-next.result c.first.ensures c.nth-next.ensures.some c.nth-next.ensures.none)
