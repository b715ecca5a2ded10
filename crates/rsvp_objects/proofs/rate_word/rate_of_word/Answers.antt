use Rattle.rsvp_objects.proofs.WordAnswers.{rate_word_is}
use Rattle.rsvp_objects.proofs.rate_word.rate_of_word.Goals as goal

pub returns-clause-is : goal.returns-clause-is
returns-clause-is c = rate_word_is c.args.word _ c.read_word.ensures.ok c.read_word.ensures.err
