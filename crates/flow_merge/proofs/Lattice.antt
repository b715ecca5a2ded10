-- The lattice of flows: the order, then join and meet as least above and greatest below, then the rest from these.
use Rattle.std.specs.Prelude.{◌≡◌}
use Rattle.std.proofs.Common.{subst, ◌∙◌, arith}
use Rattle.rsvp_base.specs.TokenBucket.{TokenBucket, IsSound}
use Rattle.flow_merge.specs.FlowOrder.{IsAtMost, flow_join, flow_meet}
use Rattle.flow_merge.specs.Laws.{AtMostIsAnOrder, JoinIsASemilattice, MeetIsASemilattice, JoinAndMeetAbsorb, AtMostIsByJoinAndMeet, JoinIsTheLeastAbove, MeetIsTheGreatestBelow, JoinAndMeetAreSound}
use Rattle.flow_merge.proofs.Peaks.{peak_reflexive, peak_transitive, peak_antisymmetric, larger_left, larger_right, larger_least, smaller_left, smaller_right, smaller_greatest}

-- ---- the order
pub at_most_itself : (a : TokenBucket) → IsAtMost a a
at_most_itself a = record { rate = omega arith; depth = omega arith; peak = peak_reflexive a.p; low = omega arith; most = omega arith }

pub at_most_along : (a b c : TokenBucket) → IsAtMost a b → IsAtMost b c → IsAtMost a c
at_most_along a b c h g =
    record {
      rate = omega (arith, h.rate, g.rate);
      depth = omega (arith, h.depth, g.depth);
      peak = peak_transitive a.p b.p c.p h.peak g.peak;
      low = omega (arith, h.low, g.low);
      most = omega (arith, h.most, g.most);
    }

pub same_flow : (a b : TokenBucket) → IsAtMost a b → IsAtMost b a → a ≡ b
same_flow a b h g =
    let r : a.r ≡ b.r = omega (arith, h.rate, g.rate) in
    let depth : a.b ≡ b.b = omega (arith, h.depth, g.depth) in
    let peak = peak_antisymmetric a.p b.p h.peak g.peak in
    let low : a.low ≡ b.low = omega (arith, h.low, g.low) in
    let most : a.most ≡ b.most = omega (arith, h.most, g.most) in
    λ i. record { r = r i; b = depth i; p = peak i; low = low i; most = most i }

-- ---- least above and greatest below
pub join_above_left : (a b : TokenBucket) → IsAtMost a (flow_join a b)
join_above_left a b = record { rate = omega arith; depth = omega arith; peak = larger_left a.p b.p; low = omega arith; most = omega arith }

pub join_above_right : (a b : TokenBucket) → IsAtMost b (flow_join a b)
join_above_right a b = record { rate = omega arith; depth = omega arith; peak = larger_right a.p b.p; low = omega arith; most = omega arith }

pub join_least : (a b c : TokenBucket) → IsAtMost a c → IsAtMost b c → IsAtMost (flow_join a b) c
join_least a b c h g =
    record {
      rate = omega (arith, h.rate, g.rate);
      depth = omega (arith, h.depth, g.depth);
      peak = larger_least a.p b.p c.p h.peak g.peak;
      low = omega (arith, h.low, g.low);
      most = omega (arith, h.most, g.most);
    }

pub meet_below_left : (a b : TokenBucket) → IsAtMost (flow_meet a b) a
meet_below_left a b = record { rate = omega arith; depth = omega arith; peak = smaller_left a.p b.p; low = omega arith; most = omega arith }

pub meet_below_right : (a b : TokenBucket) → IsAtMost (flow_meet a b) b
meet_below_right a b = record { rate = omega arith; depth = omega arith; peak = smaller_right a.p b.p; low = omega arith; most = omega arith }

pub meet_greatest : (a b c : TokenBucket) → IsAtMost c a → IsAtMost c b → IsAtMost c (flow_meet a b)
meet_greatest a b c h g =
    record {
      rate = omega (arith, h.rate, g.rate);
      depth = omega (arith, h.depth, g.depth);
      peak = smaller_greatest a.p b.p c.p h.peak g.peak;
      low = omega (arith, h.low, g.low);
      most = omega (arith, h.most, g.most);
    }

pub meet_below_join : (a b : TokenBucket) → IsAtMost (flow_meet a b) (flow_join a b)
meet_below_join a b = at_most_along (flow_meet a b) a (flow_join a b) (meet_below_left a b) (join_above_left a b)

-- ---- the order by join, and by meet
pub join_of_at_most : (a b : TokenBucket) → IsAtMost a b → flow_join a b ≡ b
join_of_at_most a b h = same_flow (flow_join a b) b (join_least a b b h (at_most_itself b)) (join_above_right a b)

pub at_most_of_join : (a b : TokenBucket) → flow_join a b ≡ b → IsAtMost a b
at_most_of_join a b e = subst (IsAtMost a) e (join_above_left a b)

pub meet_of_at_most : (a b : TokenBucket) → IsAtMost a b → flow_meet a b ≡ a
meet_of_at_most a b h = same_flow (flow_meet a b) a (meet_below_left a b) (meet_greatest a b a (at_most_itself a) h)

pub at_most_of_meet : (a b : TokenBucket) → flow_meet a b ≡ a → IsAtMost a b
at_most_of_meet a b e = subst (λ z. IsAtMost z b) e (meet_below_right a b)

-- ---- join
pub join_monotone : (a b c d : TokenBucket) → IsAtMost a c → IsAtMost b d → IsAtMost (flow_join a b) (flow_join c d)
join_monotone a b c d h g =
    join_least a b (flow_join c d) (at_most_along a c (flow_join c d) h (join_above_left c d)) (at_most_along b d (flow_join c d) g (join_above_right c d))

join_swapped : (a b : TokenBucket) → IsAtMost (flow_join a b) (flow_join b a)
join_swapped a b = join_least a b (flow_join b a) (join_above_right b a) (join_above_left b a)

pub flow_join_comm : (a b : TokenBucket) → flow_join a b ≡ flow_join b a
flow_join_comm a b = same_flow (flow_join a b) (flow_join b a) (join_swapped a b) (join_swapped b a)

pub flow_join_idem : (a : TokenBucket) → flow_join a a ≡ a
flow_join_idem a = join_of_at_most a a (at_most_itself a)

pub flow_join_assoc : (a b c : TokenBucket) → flow_join (flow_join a b) c ≡ flow_join a (flow_join b c)
flow_join_assoc a b c =
    let all = flow_join a (flow_join b c) in
    let inner = flow_join (flow_join a b) c in
    let b_in : IsAtMost b all = at_most_along b (flow_join b c) all (join_above_left b c) (join_above_right a (flow_join b c)) in
    let c_in : IsAtMost c all = at_most_along c (flow_join b c) all (join_above_right b c) (join_above_right a (flow_join b c)) in
    let a_out : IsAtMost a inner = at_most_along a (flow_join a b) inner (join_above_left a b) (join_above_left (flow_join a b) c) in
    let b_out : IsAtMost b inner = at_most_along b (flow_join a b) inner (join_above_right a b) (join_above_left (flow_join a b) c) in
    same_flow inner all (join_least (flow_join a b) c all (join_least a b all (join_above_left a (flow_join b c)) b_in) c_in)
    (join_least a (flow_join b c) inner a_out (join_least b c inner b_out (join_above_right (flow_join a b) c)))

-- ---- meet
pub meet_monotone : (a b c d : TokenBucket) → IsAtMost a c → IsAtMost b d → IsAtMost (flow_meet a b) (flow_meet c d)
meet_monotone a b c d h g =
    meet_greatest c d (flow_meet a b) (at_most_along (flow_meet a b) a c (meet_below_left a b) h) (at_most_along (flow_meet a b) b d (meet_below_right a b) g)

meet_swapped : (a b : TokenBucket) → IsAtMost (flow_meet a b) (flow_meet b a)
meet_swapped a b = meet_greatest b a (flow_meet a b) (meet_below_right a b) (meet_below_left a b)

pub flow_meet_comm : (a b : TokenBucket) → flow_meet a b ≡ flow_meet b a
flow_meet_comm a b = same_flow (flow_meet a b) (flow_meet b a) (meet_swapped a b) (meet_swapped b a)

pub flow_meet_idem : (a : TokenBucket) → flow_meet a a ≡ a
flow_meet_idem a = meet_of_at_most a a (at_most_itself a)

pub flow_meet_assoc : (a b c : TokenBucket) → flow_meet (flow_meet a b) c ≡ flow_meet a (flow_meet b c)
flow_meet_assoc a b c =
    let all = flow_meet a (flow_meet b c) in
    let inner = flow_meet (flow_meet a b) c in
    let b_in : IsAtMost all b = at_most_along all (flow_meet b c) b (meet_below_right a (flow_meet b c)) (meet_below_left b c) in
    let c_in : IsAtMost all c = at_most_along all (flow_meet b c) c (meet_below_right a (flow_meet b c)) (meet_below_right b c) in
    let a_out : IsAtMost inner a = at_most_along inner (flow_meet a b) a (meet_below_left (flow_meet a b) c) (meet_below_left a b) in
    let b_out : IsAtMost inner b = at_most_along inner (flow_meet a b) b (meet_below_left (flow_meet a b) c) (meet_below_right a b) in
    same_flow inner all (meet_greatest a (flow_meet b c) inner a_out (meet_greatest b c inner b_out (meet_below_right (flow_meet a b) c)))
    (meet_greatest (flow_meet a b) c all (meet_greatest a b all (meet_below_left a (flow_meet b c)) b_in) c_in)

-- ---- the laws
pub order_laws : AtMostIsAnOrder
order_laws = record { reflexive = at_most_itself; transitive = at_most_along; antisymmetric = same_flow }

pub join_laws : JoinIsASemilattice
join_laws = record { commutative = flow_join_comm; associative = flow_join_assoc; idempotent = flow_join_idem; monotone = join_monotone }

pub meet_laws : MeetIsASemilattice
meet_laws = record { commutative = flow_meet_comm; associative = flow_meet_assoc; idempotent = flow_meet_idem; monotone = meet_monotone }

pub absorb_laws : JoinAndMeetAbsorb
absorb_laws =
    record {
      join = λ a b. flow_join_comm a (flow_meet a b) ∙ join_of_at_most (flow_meet a b) a (meet_below_left a b);
      meet = λ a b. meet_of_at_most a (flow_join a b) (join_above_left a b);
    }

pub by_join_and_meet : AtMostIsByJoinAndMeet
by_join_and_meet = record { join = λ a b. (join_of_at_most a b, at_most_of_join a b); meet = λ a b. (meet_of_at_most a b, at_most_of_meet a b) }

pub least_above : JoinIsTheLeastAbove
least_above = record { above_left = join_above_left; above_right = join_above_right; least = join_least }

pub greatest_below : MeetIsTheGreatestBelow
greatest_below = record { below_left = meet_below_left; below_right = meet_below_right; greatest = meet_greatest; below_join = meet_below_join }

-- ---- soundness
pub sound_join : (a b : TokenBucket) → IsSound a → IsSound b → IsSound (flow_join a b)
sound_join a b h g = record { rate = omega (arith, h.rate); depth = omega (arith, h.depth); low = omega (arith, h.low, g.low); most = omega (arith, h.most) }

pub sound_meet : (a b : TokenBucket) → IsSound a → IsSound b → IsSound (flow_meet a b)
sound_meet a b h g = record { rate = omega (arith, h.rate, g.rate); depth = omega (arith, h.depth, g.depth); low = omega (arith, h.low); most = omega (arith, h.most, g.most) }

pub sound_laws : JoinAndMeetAreSound
sound_laws = record { join = sound_join; meet = sound_meet }
