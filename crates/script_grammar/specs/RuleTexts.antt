-- What a rule says of the lines of a kind, and of which word alone, if it is one.
use Rattle.std.specs.Prelude.{ℕ, List, Option, None, Some, codes}
use Rattle.script_grammar.specs.declared.kind.Kind.{Kind}
use Rattle.script_grammar.specs.declared.kind.Kind.TheVariants.{Period, Seed, Node, End, Latency, Link, Hop, StalePath, StaleResv, WildResv, HopBlockade, SenderBlockade, Send, Drop, Want, WildWant}
use Rattle.script_grammar.specs.declared.kind.Kind.TheVariants.{Advert, Adverts, Quit, Reroute}
use Rattle.script_grammar.specs.declared.rule.Rule.{Rule}
use Rattle.script_grammar.specs.declared.rule.Rule.TheVariants.{InTime, InRange, Known, New, NewName, NewAddress, NewSender, WithinLimits, OneSender, FewSenders, FewSessions, LoopFree}

abbrev pub in_time_text : Kind → List ℕ
in_time_text Period = codes "a period and a seed come before the first node"
in_time_text Seed = codes "a period and a seed come before the first node"
in_time_text Node = codes "what is declared comes before what is left over and what happens"
in_time_text End = codes "what is declared comes before what is left over and what happens"
in_time_text Latency = codes "what is declared comes before what is left over and what happens"
in_time_text Link = codes "what is declared comes before what is left over and what happens"
in_time_text Hop = codes "what is declared comes before what is left over and what happens"
in_time_text kind = codes "what is left over comes before what happens"

abbrev pub in_range_text : Kind → List ℕ
in_range_text kind = codes "two of these ends are of one node, and the ends of a link are of different ones"

-- where each node and each end is declared
abbrev pub known_text : Kind → List ℕ
known_text Hop = codes "no end has this address"
known_text StalePath = codes "no end of NODE has this name"
known_text HopBlockade = codes "no end of NODE has this name"
known_text Send = codes "no end of NODE has the address of this sender"
known_text Drop = codes "NODE does not send as this sender in this session"
known_text Advert = codes "NODE does not send as this sender in this session"
known_text Quit = codes "NODE asks for nothing in this session"
known_text Reroute = codes "no hop line has this GROUP and SOURCE"
known_text kind = codes "an earlier line declares each node and each end"

abbrev pub new_text : Kind → List ℕ
new_text Period = codes "an earlier line gives the period"
new_text Seed = codes "an earlier line gives the seed"
new_text Node = codes "an earlier line declares a node of this name"
new_text Latency = codes "an earlier line gives the latency of this end"
new_text StalePath = codes "a path of one session and sender is left over at a node once"
new_text HopBlockade = codes "a blockade of one session and hop is left over at a node once"
new_text SenderBlockade = codes "a blockade of one session and sender is left over at a node once"
new_text Want = codes "no sender stands twice in a list"
new_text kind = codes "a reservation of one session, style and next hop, for FF of one sender too, is left over on an end once"

abbrev pub within_limits_text : Kind → List ℕ
within_limits_text Node = codes "a network has at most 256 nodes"
within_limits_text End = codes "a node has at most 16 ends"
within_limits_text Link = codes "a network has at most 512 links"
within_limits_text Hop = codes "all trees together have at most 8192 hops"
within_limits_text StalePath = codes "at a node paths of at most 16 senders of one session are left over"
within_limits_text StaleResv = codes "a node keeps at most 1024 reservations of a style, and of one session at most 64 next hops and 16 senders in them"
within_limits_text WildResv = codes "a node keeps at most 1024 reservations of a style, and of one session at most 64 next hops and 16 senders in them"
within_limits_text HopBlockade = codes "a node keeps at most 512 blockades"
within_limits_text SenderBlockade = codes "a node keeps at most 512 blockades"
within_limits_text Send = codes "at most 16 senders of one session send at once"
within_limits_text Want = codes "a node has at most 16 wishes in one session"
within_limits_text WildWant = codes "a node has at most 16 wishes in one session"
within_limits_text Reroute = codes "all trees together have at most 8192 hops"
within_limits_text Adverts = codes "a script has at most 16 adverts lines"
within_limits_text kind = codes "a script has at most 16 report and flags lines"

abbrev pub loop_free_text : Kind → List ℕ
loop_free_text kind = codes "no chain of hops of a group is closed: a shared reservation could go round it"

abbrev pub rule_text : Rule → Kind → List ℕ
rule_text InTime kind = in_time_text kind
rule_text InRange kind = in_range_text kind
rule_text Known kind = known_text kind
rule_text New kind = new_text kind
rule_text NewName kind = codes "an earlier line declares an end of this name"
rule_text NewAddress kind = codes "an earlier line declares an end with this address"
rule_text NewSender kind = codes "no sender stands twice in a list"
rule_text WithinLimits kind = within_limits_text kind
rule_text OneSender kind = codes "a reservation of the style FF names one sender"
rule_text FewSenders kind = codes "a list has at most 16 senders"
rule_text FewSessions kind = codes "at most 32 sessions are named, and this would be one more"
rule_text LoopFree kind = loop_free_text kind

-- the number of that word, from 0
abbrev pub known_word : Kind → Option ℕ
known_word Hop = Some 2
known_word StalePath = Some 4
known_word HopBlockade = Some 4
known_word Send = Some 3
known_word Drop = Some 3
known_word Advert = Some 3
known_word Quit = Some 2
known_word kind = None

abbrev pub new_word : Kind → Option ℕ
new_word Node = Some 1
new_word Latency = Some 1
new_word Want = Some 4
new_word kind = None

-- the node of an end
abbrev pub limit_word : Kind → Option ℕ
limit_word End = Some 2
limit_word kind = None

-- the list of senders
abbrev pub list_word : Kind → ℕ
list_word Want = 4
list_word kind = 5

abbrev pub rule_word : Rule → Kind → Option ℕ
rule_word Known kind = known_word kind
rule_word New kind = new_word kind
rule_word NewName kind = Some 1
rule_word NewAddress kind = Some 3
rule_word NewSender kind = Some 5
rule_word WithinLimits kind = limit_word kind
rule_word OneSender kind = Some 5
rule_word FewSenders kind = Some (list_word kind)
rule_word FewSessions kind = Some 2
rule_word rule kind = None
