use Rattle.std.proofs.Common.{subst}
use Rattle.std.specs.Prelude.{IfErr, IfOk, Result}
use Rattle.message_codec.specs.Spells.{IsFirstFault, Spells}
use Rattle.router_rules.specs.Inputs.{Spelt, Unspelt}
use Rattle.rsvp_messages.specs.declared.fault.MsgErr.{MsgErr}
use Rattle.rsvp_messages.specs.declared.message.Message.{Message}
use Rattle.node_stream.proofs.acting.take_in.Goals as goal

pub returns-in-Ok-clause-taken : goal.returns-in-Ok-clause-taken
returns-in-Ok-clause-taken g c =
    record {
      arrival = Spelt c.in-Ok.message;
      reads = subst (λ (r : Result Message MsgErr). IfOk r (Spells c.args.datagram.now)) c.in-Ok.is c.decode-read.ensures.ok;
      done = c.arrive.ensures.done;
      said = c.arrive.ensures.heard;
    }

pub returns-in-Err-clause-taken : goal.returns-in-Err-clause-taken
returns-in-Err-clause-taken g c =
    record {
      arrival = Unspelt c.in-Err.fault;
      reads = subst (λ (r : Result Message MsgErr). IfErr r (IsFirstFault c.args.datagram.now)) c.in-Err.is c.decode-read.ensures.err;
      done = c.arrive_unspelt.ensures.done;
      said = c.arrive_unspelt.ensures.heard;
    }
