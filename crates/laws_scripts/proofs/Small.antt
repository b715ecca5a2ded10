-- The small script is one, line by line.
use Rattle.std.proofs.Common.{◌≡◌, zero, suc, [], ◌∷◌, Some, false, refl, arith}
use Rattle.std.specs.Prelude.{codes}
use Rattle.std.specs.List.{All}
use Rattle.rsvp_base.specs.declared.style.StyleKind.TheVariants.{Shared}
use Rattle.rsvp_base.proofs.RateBits.{one_is_rate}
use Rattle.script_words.specs.declared.raw.DottedQuad.{DottedQuad}
use Rattle.script_words.specs.declared.raw.FlowWord.{FlowWord}
use Rattle.script_words.specs.declared.raw.SenderWord.{SenderWord}
use Rattle.script_words.specs.declared.raw.SessionWord.{SessionWord}
use Rattle.script_words.specs.Addresses.{IsAddr, quad_of}
use Rattle.script_words.specs.Flows.{IsFlow, flow_of}
use Rattle.script_words.specs.Sessions.{IsSender, IsSession, sender_of, session_of}
use Rattle.script_grammar.specs.Adds.{with_event, with_send, with_want_line}
use Rattle.script_grammar.specs.Draft.{Draft, nothing}
use Rattle.script_grammar.specs.Grammar.{Follows}
use Rattle.script_grammar.specs.LineKinds.{end_line, script_line_of, node_line, said_at_node, said_by, said_in_flight, said_left_over, send_line, want_line, want_of}
use Rattle.script_grammar.specs.declared.line.EndLine.{EndLine}
use Rattle.script_grammar.specs.declared.line.SendLine.{SendLine}
use Rattle.script_grammar.specs.declared.line.WantLine.{WantLine}
use Rattle.script_grammar.specs.declared.line.ScriptLine.TheVariants as line
use Rattle.network_model.specs.Events.{Rounds}
use Rattle.laws_scripts.specs.Small.{ASmallScriptIsOne}

-- ---- what its lines say
abbrev own : DottedQuad
own = record { a = 10; b = 0; c = 0; d = 1 }

abbrev session : SessionWord
session = record { group = record { a = 239; b = 1; c = 1; d = 1 }; proto = 17; port = 5000 }

abbrev sender : SenderWord
sender = record { addr = own; port = 5000 }

abbrev flow : FlowWord
flow = record { r = 1; b = 1; p = Some 1; low = 1; most = 1500 }

abbrev end : EndLine
end = record { name = codes "a1"; node = codes "a"; addr = own; capacity = 5; mtu = 1500 }

abbrev sends : SendLine
sends = record { node = codes "a"; session = session; sender = sender; flow = flow }

abbrev wants : WantLine
wants = record { node = codes "a"; session = session; style = Shared; senders = sender ∷ []; flow = flow; confirm = false }

node_read : script_line_of (codes "node a") ≡ Some (line.Node (codes "a"))
unfolding said_by node_line
node_read = refl

end_read : script_line_of (codes "end a1 a 10.0.0.1 5 1500") ≡ Some (line.End end)
unfolding said_by end_line quad_of
end_read = refl

send_read : script_line_of (codes "send a 239.1.1.1/17/5000 10.0.0.1:5000 1/1/1/1/1500") ≡ Some (line.Send sends)
unfolding said_by said_left_over said_at_node send_line quad_of session_of sender_of flow_of
send_read = refl

want_read : script_line_of (codes "want a 239.1.1.1/17/5000 SE 10.0.0.1:5000 1/1/1/1/1500") ≡ Some (line.Want wants)
unfolding said_by said_left_over said_at_node want_line want_of quad_of session_of sender_of flow_of
want_read = refl

rounds_read : script_line_of (codes "rounds 1") ≡ Some (line.Rounds 1)
unfolding said_by said_left_over said_at_node said_in_flight
rounds_read = refl

-- ---- ranges
own_addr : IsAddr own
own_addr = record { a = omega arith; b = omega arith; c = omega arith; d = omega arith }

fit_session : IsSession session
fit_session =
    record {
      addr = record { a = omega arith; b = omega arith; c = omega arith; d = omega arith };
      group = record { from = omega arith; to = omega arith };
      some_proto = omega arith;
      proto = omega arith;
      port = omega arith;
    }

fit_sender : IsSender sender
fit_sender = record { addr = own_addr; port = omega arith }

fit_flow : IsFlow flow
fit_flow = record { rate = one_is_rate; some_rate = omega arith; depth = one_is_rate; some_depth = omega arith; peak = one_is_rate; some_low = omega arith; low = omega arith; most = omega arith }

one_sender : All IsSender (sender ∷ [])
one_sender zero d lt = fit_sender
one_sender (suc k) d lt = absurd (omega (arith, lt))

-- ---- each follows those before
abbrev with_a : Draft
with_a = record nothing { nodes = codes "a" ∷ []; net = record { nodes = 1; ends = []; links = []; hops = [] } }

abbrev with_a1 : Draft
with_a1 =
    record with_a {
      names = codes "a1" ∷ [];
      net = record { nodes = 1; ends = (record { node = 0; iface = record { addr = record { 0 = 167772161 }; capacity = 5; mtu = 1500; latency = 0 } }) ∷ []; links = []; hops = [] };
    }

abbrev sending : Draft
sending = with_send with_a1 sends

abbrev wanting : Draft
wanting = with_want_line sending wants

abbrev passed : Draft
passed = with_event wanting (Rounds 1)

node_follows : Follows nothing (codes "node a") with_a
node_follows =
    record {
      short = omega arith;
      said = line.Node (codes "a");
      reads = node_read;
      valid = record {
        in_time = record { no_fact = refl; no_event = refl };
        in_range = tt;
        known = tt;
        new = refl;
        of_style = tt;
        within_limits = omega arith;
        of_tree = tt;
        within_capacity = tt;
        loop_free = tt;
      };
      adds = refl;
    }

end_follows : Follows with_a (codes "end a1 a 10.0.0.1 5 1500") with_a1
end_follows =
    record {
      short = omega arith;
      said = line.End end;
      reads = end_read;
      valid = record {
        in_time = record { no_fact = refl; no_event = refl };
        in_range = record {
          addr = own_addr;
          host = record {
            no_group = λ g. omega (arith, g.from);
            some = λ e. omega
                (arith, e);
          };
          capacity = omega arith;
          mtu = record { some = omega arith; few = omega arith };
        };
        known = refl;
        new = record { name = refl; addr = refl };
        of_style = tt;
        within_limits = omega arith;
        of_tree = tt;
        within_capacity = tt;
        loop_free = tt;
      };
      adds = refl;
    }

send_follows : Follows with_a1 (codes "send a 239.1.1.1/17/5000 10.0.0.1:5000 1/1/1/1/1500") sending
send_follows =
    record {
      short = omega arith;
      said = line.Send sends;
      reads = send_read;
      valid = record {
        in_time = tt;
        in_range = record { session = fit_session; sender = fit_sender; flow = fit_flow };
        known = record { node = refl; own = refl };
        new = tt;
        of_style = tt;
        within_limits = record { session = omega arith; few_senders = omega arith };
        of_tree = tt;
        within_capacity = tt;
        loop_free = tt;
      };
      adds = refl;
    }

want_follows : Follows sending (codes "want a 239.1.1.1/17/5000 SE 10.0.0.1:5000 1/1/1/1/1500") wanting
want_follows =
    record {
      short = omega arith;
      said = line.Want wants;
      reads = want_read;
      valid = record {
        in_time = tt;
        in_range = record { session = fit_session; senders = one_sender; flow = fit_flow };
        known = refl;
        new = (λ twice. absurd (omega (arith, twice.1)), tt);
        of_style = λ i w lt. absurd (omega (arith, lt));
        within_limits = record { few_senders = omega arith; session = omega arith; few_units = omega arith };
        of_tree = tt;
        within_capacity = tt;
        loop_free = tt;
      };
      adds = refl;
    }

rounds_follows : Follows wanting (codes "rounds 1") passed
rounds_follows =
    record {
      short = omega arith;
      said = line.Rounds 1;
      reads = rounds_read;
      valid = record {
        in_time = tt;
        in_range = record { some = omega arith; few = omega arith };
        known = tt;
        new = tt;
        of_style = tt;
        within_limits = tt;
        of_tree = tt;
        within_capacity = tt;
        loop_free = tt;
      };
      adds = refl;
    }

pub a_small_script_is_one : ASmallScriptIsOne
a_small_script_is_one =
    record {
      lines = passed;
      leads = (with_a, node_follows, (with_a1, end_follows, (sending, send_follows, (wanting, want_follows, (passed, rounds_follows, refl)))));
      says = refl;
    }
