use Rattle.library_tests.proofs.resv_tables.is_put.Goals as goal

pub fits-fits-requires-clause-style : goal.fits-fits-requires-clause-style
fits-fits-requires-clause-style g c = c.make_fact-fact.ensures g.S.Style.kind_is

pub put-requires-clause-style : goal.put-requires-clause-style
put-requires-clause-style g c = c.make_fact-fact.ensures g.S.Style.kind_is
