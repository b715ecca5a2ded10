-- How routers are seen, what the bytes of a datagram are, and what may be sent.
use Rattle.std.specs.Prelude.{ℕ, List}
use Rattle.std.specs.List.{All}
use Rattle.message_codec.specs.Spells.{Spells, IsFirstFault}
use Rattle.message_codec.specs.Encoding.{encoding}
use Rattle.router_rules.specs.Facts.{Facts}
use Rattle.network_model.specs.Happenings.{IsSpelling}
use Rattle.router_rules.specs.Inputs.{Arrival, Send}
use Rattle.router_rules.specs.NodeConfig.{NodeConfig}
use Rattle.rsvp_messages.specs.Proper.{IsProper}

-- where a router of a type stands, and what it keeps, with its moments counted from a clock
pub record Seen (R : Type 0) : Type 0 where
  pub place : R → NodeConfig
  pub facts : R → ℕ → Facts

-- what bytes are: a message, or why they are none
abbrev pub IsArrival : List ℕ → Arrival → Type 0
IsArrival b a = IsSpelling Spells IsFirstFault b a

-- each message is proper
abbrev pub AreProper : List Send → Type 0
AreProper ss = All (λ s. IsProper s.message) ss

-- each is spelt by the bytes that are written for it
abbrev pub AreSpelt : List Send → Type 0
AreSpelt ss = All (λ s. Spells (encoding s.message) s.message) ss
