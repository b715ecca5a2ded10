use Rattle.node_stream.proofs.frame.frame_at.Goals as goal

pub returns-in-None-clause-blamed : goal.returns-in-None-clause-blamed
returns-in-None-clause-blamed c = λ p e. c.word_blame.ensures p
