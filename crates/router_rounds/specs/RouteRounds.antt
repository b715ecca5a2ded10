-- Other routes than before, as rounds over all sessions that have paths (RFC 2209, 2: ROUTE CHANGE NOTIFICATION).
use Rattle.std.specs.Prelude.{◌≡◌, ℕ, true, false, List, ◌++◌, map as each}
use Rattle.std.specs.List.{flat_map}
use Rattle.rsvp_base.specs.Table.{empty, has, keys}
use Rattle.rsvp_base.specs.declared.session.Session.{Session}
use Rattle.router_rules.specs.Inputs.{Moved, Send}
use Rattle.router_rules.specs.Known.{known}
use Rattle.router_rules.specs.NodeConfig.{NodeConfig}
use Rattle.router_rules.specs.Rule.{facts_after, sent_after}
use Rattle.router_state.specs.State.{IsSaid, IsSettled, State, facts_of}
use Rattle.laws_sends.specs.Several.{AreSessions, is_among, offer_of, offers_in, paths_of, tears_of}
use Rattle.router_rounds.specs.Rounds.{AreCleared, AreRounds, told_round, torn_near, wants_told, with_hops}

-- the node at another place
abbrev pub rerouted : NodeConfig → State → State
rerouted p n = record n { place = p }

-- a node, and sessions in order among which are all that have a countdown
pub record IsMovedOver (ss : List Session) (n : State) : Type 0 where
  pub sessions : AreSessions ss
  pub settled : IsSettled n
  pub said : IsSaid n.said n
  pub all : (s : Session) → has n.due s ≡ true → is_among ss s ≡ true

-- the PathTears and the Paths of a session's known senders, by the interfaces by which their trees go on no more, or newly
abbrev pub torn_ways : NodeConfig → ℕ → State → Session → List Send
torn_ways old c m s = flat_map (λ x. tears_of old m.place (facts_of c m) (facts_of c m) (s, x)) (keys (known (facts_of c m) s))

abbrev pub new_ways : NodeConfig → ℕ → State → Session → List Send
new_ways old c m s = flat_map (paths_of old m.place (facts_of c m) (facts_of c m) empty) (each (offer_of s) (offers_in (facts_of c m) s).rows)

-- a move is rounds over these sessions: its facts, and what is sent, in order
pub record MoveIsRounds : Type 0 where
  pub rounds : (ss : List Session) (p : NodeConfig) (n : State) → IsMovedOver ss n → AreRounds ss n (rerouted p n)
  pub cleared : (ss : List Session) (p : NodeConfig) (n : State) → IsMovedOver ss n → (c : ℕ) → AreCleared (rerouted p n) (each (with_hops (facts_of c n)) ss) n.said
  pub facts : (ss : List Session) (p : NodeConfig) (n : State) → IsMovedOver ss n → (c : ℕ)
      → facts_of c (record (rerouted p n) { wants = wants_told c (rerouted p n) n.said ss }) ≡ facts_after n.place p c Moved (facts_of c n)
  pub sent : (ss : List Session) (p : NodeConfig) (n : State) → IsMovedOver ss n → (c : ℕ)
      → flat_map (torn_ways n.place c (rerouted p n)) ss
      ++ (flat_map (torn_near c (rerouted p n) n.said) (each (with_hops (facts_of c n)) ss)
      ++ (flat_map (new_ways n.place c (rerouted p n)) ss ++ flat_map (λ s. told_round c (rerouted p n) false n.said s) ss))
      ≡ sent_after n.place p c Moved (facts_of c n)
