use Rattle.byte_streams.proofs.Bounding.{few_bytes, few_taken, never_line, too_many}
use Rattle.byte_streams.proofs.reader.LineReader.next.Goals as goal

pub returns-in-Some-clause-line : goal.returns-in-Some-clause-line
returns-in-Some-clause-line g c = λ e. absurd (never_line c.self.inside.taken c.self.inside.ended c.in-Some.answer c.self.invariant.2 c.in-Some.is e)

pub returns-in-Some-clause-open : goal.returns-in-Some-clause-open
returns-in-Some-clause-open g c = λ e. absurd (never_line c.self.inside.taken c.self.inside.ended c.in-Some.answer c.self.invariant.2 c.in-Some.is e)

pub returns-clause-too_long : goal.returns-clause-too_long
returns-clause-too_long g c = too_many c.look.new.self c.look.result c.look.ensures.bounded c.look.ensures.ended

pub returns-clause-within : goal.returns-clause-within
returns-clause-within g c = few_taken c.look.new.self c.look.result c.look.ensures.bounded c.look.ensures.open c.look.ensures.ended

pub returns-clause-few : goal.returns-clause-few
returns-clause-few g c = few_bytes c.look.new.self c.look.ensures.bounded
