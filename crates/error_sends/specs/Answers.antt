-- With what a fault of bytes is answered: its code and value for the kind of message, where the hint has whom to tell.
use Rattle.std.specs.Prelude.{ℕ, Option, option_and_then}
use Rattle.rsvp_messages.specs.declared.fault.MsgErr.{MsgErr}
use Rattle.router_rules.specs.Errors.{addressee_of, fault_code}

abbrev pub answer_of : MsgErr → Option (ℕ × ℕ)
answer_of m = option_and_then (λ k. option_and_then (λ a. fault_code k m.fault) (addressee_of k m.hint)) m.kind
