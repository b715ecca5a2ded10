use Rattle.rsvp_objects.proofs.WordLaws.{rates_are_the_numbers_with_a_word}
use Rattle.rsvp_objects.proofs.field_laws.rates_are_the_numbers_with_a_word.Goals as goal

pub returns : goal.returns
returns c = rates_are_the_numbers_with_a_word
