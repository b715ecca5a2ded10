-- What the path of a sender offers, composed hop by hop (RFC 2210, 3.3): each router puts in the values of the interface by which
-- the Path leaves, by the rule of each general parameter (RFC 2215, 3).
use Rattle.std.specs.Prelude.{ℕ, ◌+◌, ◌-◌, ◌^◌, min, [], false, Some}
use Rattle.rsvp_base.specs.declared.flow.Peak.{Peak}
use Rattle.rsvp_base.specs.declared.flow.Peak.TheVariants.{Finite, Infinite}
use Rattle.rsvp_base.specs.declared.iface.Iface.{Iface}
use Rattle.rsvp_objects.specs.declared.adspec.Adspec.{Adspec}
use Rattle.rsvp_objects.specs.AdspecLaws.{IsAdspec}
use Rattle.rsvp_objects.specs.Fragment.{marked}
use Rattle.adspec_path.specs.RateBelow.{rate_below}

-- the number, or the most that a field of 32 bits holds: of a latency, that it is not known (3.4)
abbrev pub clamped : ℕ → ℕ
clamped n = min n (2 ^ 32 - 1)

-- the available path bandwidth (3.3): the least
abbrev pub least_rate : Peak → ℕ → ℕ
least_rate Infinite r = r
least_rate (Finite s) r = min s r

-- at the node of the sender: one hop, what the interface has, nothing broken, controlled load, and no other service
unfoldable pub start : Iface → Adspec
start on = record {
  broken = false;
  hops = 1;
  rate = Finite (rate_below on.capacity);
  latency = clamped on.latency;
  mtu = clamped on.mtu;
  load = Some false;
  others = [];
}

-- at a router, of what came: the break bits of the general part and of controlled load as they are (3.1), and set in the fragment
-- of each service that the router does not offer; one hop more (3.2), the least bandwidth (3.3), the sum of latencies, where what
-- is not known stays so (3.4), the least MTU (3.5)
unfoldable pub pass_on : Adspec → Iface → Adspec
pass_on a on = record {
  broken = a.broken;
  hops = clamped (a.hops + 1);
  rate = Finite (least_rate a.rate (rate_below on.capacity));
  latency = clamped (a.latency + on.latency);
  mtu = min a.mtu on.mtu;
  load = a.load;
  others = marked 0 a.others;
}

-- ---- laws

pub record WhatIsComposedCanBeWritten : Type 0 where
  pub start : (on : Iface) → IsAdspec (start on)
  pub pass_on : (a : Adspec) (on : Iface) → IsAdspec a → IsAdspec (pass_on a on)
