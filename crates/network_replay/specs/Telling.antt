-- The trace line of a delivery.
use Rattle.std.specs.Prelude.{ℕ, List, ◌++◌, codes, Option, None, Some}
use Rattle.rsvp_messages.specs.declared.message.Kind.{Kind}
use Rattle.rsvp_messages.specs.Kinds.{kind_of}
use Rattle.router_rules.specs.Inputs.{Arrival, Spelt, Unspelt}
use Rattle.router_rules.specs.declared.answers.Heard.{Heard}
use Rattle.network_flight.specs.Runs.{kind_text, heard_text}

abbrev pub arrival_kind : Arrival → Option Kind
arrival_kind (Spelt m) = Some (kind_of m)
arrival_kind (Unspelt e) = None

abbrev pub text_of_kind : Option Kind → List ℕ
text_of_kind (Some k) = kind_text k
text_of_kind None = codes "?"

-- END KIND OUTCOME
abbrev pub told_line : List ℕ → Option Kind → Heard → List ℕ
told_line name kind h = name ++ codes " " ++ text_of_kind kind ++ codes " " ++ heard_text h ++ codes "\n"
