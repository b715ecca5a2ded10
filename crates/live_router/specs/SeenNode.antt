-- How a network sees the state of a node.
use Rattle.network_replay.specs.Following.{Seen}
use Rattle.router_state.specs.State.{State, facts_at}

abbrev pub seen_node : Seen State
seen_node = record { place = λ n. n.place; facts = λ n c. facts_at c n }
