-- What is told at the end of a path, of all its hops at once (RFC 2215, 3.2 to 3.5).
use Rattle.std.specs.Prelude.{◌≡◌, ℕ, ◌+◌, min, List, [], ◌∷◌, length, map as each, false, Some}
use Rattle.rsvp_base.specs.declared.flow.Peak.TheVariants.{Finite}
use Rattle.rsvp_base.specs.declared.iface.Iface.{Iface}
use Rattle.rsvp_objects.specs.declared.adspec.Adspec.{Adspec}
use Rattle.adspec_path.specs.Composing.{clamped, pass_on, start}
use Rattle.adspec_path.specs.RateBelow.{rate_below}

-- what is left of an ADSPEC behind these interfaces, one after another
abbrev pub composed : Adspec → List Iface → Adspec
composed a [] = a
composed a (on ∷ ons) = composed (pass_on a on) ons

abbrev pub least : ℕ → List ℕ → ℕ
least n [] = n
least n (m ∷ ms) = least (min n m) ms

abbrev pub total : List ℕ → ℕ
total [] = 0
total (n ∷ ns) = n + total ns

-- the first interface is that of the sender's own node: how many hops, the least bandwidth, the sum of latencies, the least MTU
abbrev pub advertisement : Iface → List Iface → Adspec
advertisement first rest = record {
  broken = false;
  hops = clamped (1 + length rest);
  rate = Finite (least (rate_below first.capacity) (each (λ on. rate_below on.capacity) rest));
  latency = clamped (first.latency + total (each (λ on. on.latency) rest));
  mtu = least (clamped first.mtu) (each (λ on. on.mtu) rest);
  load = Some false;
  others = [];
}

abbrev pub AnAdvertisementIsComposed : Type 0
AnAdvertisementIsComposed = (first : Iface) (rest : List Iface) → composed (start first) rest ≡ advertisement first rest
