-- The words of a line, by its kind.
use Rattle.std.specs.Prelude.{ℕ, List, codes}
use Rattle.script_grammar.specs.declared.kind.Kind.{Kind}
use Rattle.script_grammar.specs.declared.kind.Kind.TheVariants.{Period, Seed, Node, End, Latency, Link, Hop, StalePath, StaleResv, WildResv, Blockade, HopBlockade, SenderBlockade, Send, Drop, Want}
use Rattle.script_grammar.specs.declared.kind.Kind.TheVariants.{WildWant, Advert, Adverts, Quit, Clear, Wait, Pass, Rounds, Deliver, Lose, Copy, Inject, Trace, Report, Flags, Reroute}

abbrev pub usage_text : Kind → List ℕ
usage_text Period = codes "a period line is: period MS"
usage_text Seed = codes "a seed line is: seed N"
usage_text Node = codes "a node line is: node NAME"
usage_text End = codes "an end line is: end NAME NODE ADDR CAPACITY MTU"
usage_text Latency = codes "a latency line is: latency END MICROSECONDS"
usage_text Link = codes "a link line is: link END END .., with two to eight ends"
usage_text Hop = codes "a hop line is: hop GROUP SOURCE END END"
usage_text StalePath = codes "a stale-path line is: stale-path NODE SESSION SENDER END ADDR FLOW LEFT"
usage_text StaleResv = codes "a stale-resv line is: stale-resv END SESSION STYLE ADDR SENDERS FLOW LEFT"
usage_text WildResv = codes "a stale-resv line is: stale-resv END SESSION STYLE ADDR SENDERS FLOW LEFT"
usage_text Blockade = codes "a stale-blockade line is: stale-blockade NODE SESSION hop END ADDR SUB FLOW LEFT, or stale-blockade NODE SESSION sender SENDER SUB FLOW LEFT"
usage_text HopBlockade = codes "a stale-blockade line of a hop is: stale-blockade NODE SESSION hop END ADDR SUB FLOW LEFT"
usage_text SenderBlockade = codes "a stale-blockade line of a sender is: stale-blockade NODE SESSION sender SENDER SUB FLOW LEFT"
usage_text Send = codes "a send line is: send NODE SESSION SENDER FLOW"
usage_text Drop = codes "a drop line is: drop NODE SESSION SENDER"
usage_text Advert = codes "an advert line is: advert NODE SESSION SENDER"
usage_text Want = codes "a want line is: want NODE SESSION WF * FLOW [confirm], or want NODE SESSION FF|SE SENDERS FLOW [confirm]"
usage_text WildWant = codes "a want line is: want NODE SESSION WF * FLOW [confirm], or want NODE SESSION FF|SE SENDERS FLOW [confirm]"
usage_text Quit = codes "a quit line is: quit NODE SESSION"
usage_text Clear = codes "a clear line is: clear NODE"
usage_text Wait = codes "a wait line is: wait MS"
usage_text Pass = codes "a pass line is: pass, or pass N"
usage_text Rounds = codes "a rounds line is: rounds N"
usage_text Deliver = codes "a deliver line is: deliver K"
usage_text Lose = codes "a lose line is: lose K"
usage_text Copy = codes "a copy line is: copy K"
usage_text Inject = codes "an inject line is: inject END ADDR HEX"
usage_text Trace = codes "a trace line is: trace on, or trace off"
usage_text Report = codes "a report line is: report, or report END"
usage_text Flags = codes "a flags line is: flags"
usage_text Adverts = codes "an adverts line is: adverts"
usage_text Reroute = codes "a reroute line is: reroute GROUP SOURCE END END .., a pair of ends for each hop"

-- by what first words lines begin
abbrev pub first_text : List ℕ
first_text = codes "a line begins with period, seed, node, end, latency, link, hop, stale-path, stale-resv, stale-blockade, send, advert, drop, want, quit, wait, pass, rounds, deliver, lose, copy, clear, inject, reroute, trace, report, flags or adverts, and a comment with # as its very first byte"
