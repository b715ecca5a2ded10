-- The shut fronts are the rule.
use Rattle.std.specs.Prelude.{refl}
use Rattle.router_rules.specs.Flags.{entries_of}
use Rattle.router_rules.specs.Fronts.{FrontsAreTheRule}
use Rattle.router_rules.specs.Rule.{facts_after, facts_with, heard_after, refusal_of_call, refusal_of_stale, sent_after}

pub fronts_are_the_rule : FrontsAreTheRule
unfolding facts_after sent_after heard_after refusal_of_call facts_with refusal_of_stale entries_of
fronts_are_the_rule =
    record {
      facts = λ old p c i f. refl;
      sent = λ old p c i f. refl;
      heard = λ old p c e dst a f. refl;
      call = λ p l f. refl;
      left = λ p c i f. refl;
      stale = λ p i f. refl;
      entries = λ p f i. refl;
    }
