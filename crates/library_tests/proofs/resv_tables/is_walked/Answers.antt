use Rattle.library_tests.proofs.resv_tables.is_walked.Goals as goal

pub entry_with-requires : goal.entry_with-requires
entry_with-requires g c = c.make_fact-fact.ensures g.S.Style.kind_is
