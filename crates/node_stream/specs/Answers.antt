-- The frames with which a router answers, laid out as those that come to it.
--
--   kind 16  a datagram goes out: interface 1, destination 4, the datagram
--   kind 17  what was made of a datagram: 0, taken; 1 and why it was dropped; 2, an error was sent back, its code 1 and its value 2
use Rattle.std.specs.Prelude.{ℕ, List, [], ◌∷◌, ◌++◌}
use Rattle.rsvp_objects.specs.Fields.{half, word}
use Rattle.rsvp_base.specs.declared.addr.Addr.{Addr}
use Rattle.router_rules.specs.declared.answers.Heard.{Heard}
use Rattle.router_rules.specs.declared.answers.Heard.TheVariants.{Taken, Dropped, Answered}
use Rattle.router_rules.specs.declared.answers.Why.{Why}
use Rattle.router_rules.specs.declared.answers.Why.TheVariants.{Unspelt, NotMine, NoSender, NotInward, NotOutward, NoState, Full}
use Rattle.node_stream.specs.Layout.{framed}

abbrev pub sent_frame : ℕ → Addr → List ℕ → List ℕ
sent_frame iface dst datagram = framed 16 (iface ∷ word dst.0 ++ datagram)

abbrev pub why_number : Why → ℕ
why_number Unspelt = 0
why_number NotMine = 1
why_number NoSender = 2
why_number NotInward = 3
why_number NotOutward = 4
why_number NoState = 5
why_number Full = 6

abbrev pub heard_contents : Heard → List ℕ
heard_contents Taken = 0 ∷ []
heard_contents (Dropped why) = 1 ∷ why_number why ∷ []
heard_contents (Answered code value) = 2 ∷ code ∷ half value

abbrev pub heard_frame : Heard → List ℕ
heard_frame heard = framed 17 (heard_contents heard)
