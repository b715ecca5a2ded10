-- The lattice of flows, and what its order says of blockade: the claims of the public laws.
use Rattle.std.specs.Prelude.{◌≡◌, ℕ, ◌↔◌, IsTrue}
use Rattle.rsvp_base.specs.TokenBucket.{TokenBucket, IsSound}
use Rattle.flow_merge.specs.FlowOrder.{IsAtMost, flow_le, flow_join, flow_meet}
use Rattle.flow_merge.specs.Blockade.{Blockades, does_blockade}

pub record AtMostIsAnOrder : Type 0 where
  pub reflexive : (a : TokenBucket) → IsAtMost a a
  pub transitive : (a b c : TokenBucket) → IsAtMost a b → IsAtMost b c → IsAtMost a c
  pub antisymmetric : (a b : TokenBucket) → IsAtMost a b → IsAtMost b a → a ≡ b

pub record JoinIsASemilattice : Type 0 where
  pub commutative : (a b : TokenBucket) → flow_join a b ≡ flow_join b a
  pub associative : (a b c : TokenBucket) → flow_join (flow_join a b) c ≡ flow_join a (flow_join b c)
  pub idempotent : (a : TokenBucket) → flow_join a a ≡ a
  pub monotone : (a b c d : TokenBucket) → IsAtMost a c → IsAtMost b d → IsAtMost (flow_join a b) (flow_join c d)

pub record MeetIsASemilattice : Type 0 where
  pub commutative : (a b : TokenBucket) → flow_meet a b ≡ flow_meet b a
  pub associative : (a b c : TokenBucket) → flow_meet (flow_meet a b) c ≡ flow_meet a (flow_meet b c)
  pub idempotent : (a : TokenBucket) → flow_meet a a ≡ a
  pub monotone : (a b c d : TokenBucket) → IsAtMost a c → IsAtMost b d → IsAtMost (flow_meet a b) (flow_meet c d)

pub record JoinAndMeetAbsorb : Type 0 where
  pub join : (a b : TokenBucket) → flow_join a (flow_meet a b) ≡ a
  pub meet : (a b : TokenBucket) → flow_meet a (flow_join a b) ≡ a

-- a is at most b exactly where joining it to b gives b, and where its meet with b is a
pub record AtMostIsByJoinAndMeet : Type 0 where
  pub join : (a b : TokenBucket) → IsAtMost a b ↔ (flow_join a b ≡ b)
  pub meet : (a b : TokenBucket) → IsAtMost a b ↔ (flow_meet a b ≡ a)

pub record JoinIsTheLeastAbove : Type 0 where
  pub above_left : (a b : TokenBucket) → IsAtMost a (flow_join a b)
  pub above_right : (a b : TokenBucket) → IsAtMost b (flow_join a b)
  pub least : (a b c : TokenBucket) → IsAtMost a c → IsAtMost b c → IsAtMost (flow_join a b) c

pub record MeetIsTheGreatestBelow : Type 0 where
  pub below_left : (a b : TokenBucket) → IsAtMost (flow_meet a b) a
  pub below_right : (a b : TokenBucket) → IsAtMost (flow_meet a b) b
  pub greatest : (a b c : TokenBucket) → IsAtMost c a → IsAtMost c b → IsAtMost c (flow_meet a b)
  pub below_join : (a b : TokenBucket) → IsAtMost (flow_meet a b) (flow_join a b)

pub record JoinAndMeetAreSound : Type 0 where
  pub join : (a b : TokenBucket) → IsSound a → IsSound b → IsSound (flow_join a b)
  pub meet : (a b : TokenBucket) → IsSound a → IsSound b → IsSound (flow_meet a b)

-- the two tests tell what they are the tests of
pub record TestsTell : Type 0 where
  pub order : (a b : TokenBucket) → IsTrue (flow_le a b) ↔ IsAtMost a b
  pub blockade : (refused : TokenBucket) (sub : ℕ) (request : TokenBucket) → IsTrue (does_blockade refused sub request) ↔ Blockades refused sub request

pub record BlockadeFollowsTheOrder : Type 0 where
  -- what blockades a request blockades each larger one
  pub larger_request : (refused : TokenBucket) (sub : ℕ) (a b : TokenBucket) → IsAtMost a b → Blockades refused sub a → Blockades refused sub b
  -- and so does each smaller one that was refused
  pub smaller_refused : (a b : TokenBucket) (sub : ℕ) (request : TokenBucket) → IsAtMost a b → Blockades b sub request → Blockades a sub request
  -- a request that is refused for its rate or its size blockades itself
  pub itself_by_rate : (refused : TokenBucket) → Blockades refused 2 refused
  pub itself_by_size : (refused : TokenBucket) → Blockades refused 3 refused
