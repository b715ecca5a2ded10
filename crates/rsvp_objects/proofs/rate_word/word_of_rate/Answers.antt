use Rattle.std.proofs.Common.{subst, inr}
use Rattle.rsvp_objects.specs.RateWord.{StandsFor, IsNumberWord}
use Rattle.rsvp_base.specs.declared.flow.Peak.TheVariants.{Finite}
use Rattle.rsvp_objects.proofs.Scaled.{one_word}
use Rattle.rsvp_objects.proofs.rate_word.word_of_rate.Goals as goal

pub returns-else-n-eq0-clause-only : goal.returns-else-n-eq0-clause-only
returns-else-n-eq0-clause-only c =
    λ w is. one_word (Finite c.in-Finite.rate) w c.number_word.result (subst (StandsFor w) c.in-Finite.is is)
    (inr (subst (IsNumberWord c.number_word.result) c.value-n.ensures.number c.number_word.ensures.stands))
