-- What is to blame for a frame is its fault.
use Rattle.std.specs.Prelude.{◌≡◌, ◌≢◌, ℕ, ◌<◌, ◌≤◌, ◌^◌, ◌*◌, Bool, List, length, Option, None, Some, IfSome, is_some, true, refl}
use Rattle.std.proofs.Common.{sym, ap, subst, ◌∙◌, arith}
use Rattle.router_rules.specs.NodeConfig.{NodeConfig}
use Rattle.node_stream.specs.Layout.{frame_of, iface_at, iface_count, period_in, route_at, route_count}
use Rattle.node_stream.specs.Blames.{IsBehind, IsBlamed, IsOpenBlame, IsOpening, IsPlaceBlame, IsSame, why_of}
use Rattle.node_stream.specs.Rules.{HasFault, IsInRange, IsInTurn, IsMtu, IsOutOfRange, IsOutOfTurn, IsPeriod, IsPlace, IsWait, iface_addr, tree_at}
use Rattle.node_stream.specs.declared.blame.Blame.{Blame}
use Rattle.node_stream.specs.declared.blame.Blame.TheVariants as blame
use Rattle.node_stream.specs.declared.frame.Frame.{Frame}
use Rattle.node_stream.specs.declared.frame.Frame.TheVariants.{Opens, Comes, Waits, Clears}

-- ---- out of turn
pub out_of_turn : (p : Option NodeConfig) (kind : ℕ) (contents : List ℕ) (f : Frame) (b : Bool) → frame_of kind contents ≡ Some f → is_some p ≡ b → (IsInTurn b f → ⊥) → IsOutOfTurn p kind contents
out_of_turn p kind contents f b reads e out = record { said = f; reads = reads; out = λ fine. out (subst (λ (c : Bool). IsInTurn c f) e fine) }

-- ---- of the frame that opens a router
inward_out : (o : Option ℕ) (i n : ℕ) → o ≡ Some i → n ≤ i → IfSome o (λ j. j < n) → ⊥
inward_out o i n e le there = let lt : i < n = subst (λ (w : Option ℕ). IfSome w (λ j. j < n)) e there in omega (arith, lt, le)

outward_out : (ways n : ℕ) → 2 ^ n ≤ ways → ways < 2 ^ n → ⊥
outward_out ways n le lt = omega (arith, le, lt)

place_breaks : (contents : List ℕ) (b : Blame) → IsPlaceBlame contents b → IsPlace contents → ⊥
place_breaks contents (blame.Period ms) x place = x.1 (subst IsPeriod (sym x.0) place.period)
place_breaks contents (blame.ManyIfaces count) x place = omega (arith, x.0, x.1, place.few)
place_breaks contents (blame.Capacity k bytes) x place = omega (arith, x.1, x.2, (place.ifaces k x.0).capacity)
place_breaks contents (blame.Mtu k bytes) x place = x.2 (subst IsMtu (sym x.1) (place.ifaces k x.0).mtu)
place_breaks contents (blame.SameAddr k) x place = place.apart x.1.first k x.1.before x.0 x.1.same
place_breaks contents (blame.Inward k iface count) x place =
    inward_out (route_at contents k).inward iface (iface_count contents) x.1 (omega (arith, x.2, x.3)) (place.routes k x.0).inward
place_breaks contents (blame.Outward k ways count) x place =
    outward_out (route_at contents k).outward (iface_count contents) (subst (λ (n : ℕ). 2 ^ n ≤ (route_at contents k).outward) x.2
    (subst (λ (w : ℕ). 2 ^ count ≤ w) x.1 x.3)) (place.routes k x.0).outward
place_breaks contents (blame.SameTree k) x place = place.once x.1.first k x.1.before x.0 x.1.same
place_breaks contents blame.Head x place = x
place_breaks contents (blame.Cut kind wanted got) x place = x
place_breaks contents (blame.Kind kind) x place = x
place_breaks contents (blame.Length kind size) x place = x
place_breaks contents (blame.Early kind) x place = x
place_breaks contents blame.Again x place = x
place_breaks contents (blame.NoIface iface count) x place = x
place_breaks contents (blame.Wait ms most) x place = x

-- ---- of the others
no_iface : (q : NodeConfig) (contents : List ℕ) (f : Frame) (i count : ℕ) → IsOpenBlame q f (blame.NoIface i count) → IsInRange (Some q) contents f → ⊥
no_iface q contents Opens i count x fine = x
no_iface q contents (Comes iface dst) i count x fine = omega (arith, x.0, x.1, x.2, fine)
no_iface q contents (Waits ms word) i count x fine = x
no_iface q contents Clears i count x fine = x

bad_wait : (q : NodeConfig) (contents : List ℕ) (f : Frame) (n most : ℕ) → IsOpenBlame q f (blame.Wait n most) → IsInRange (Some q) contents f → ⊥
bad_wait q contents Opens n most x fine = x
bad_wait q contents (Comes iface dst) n most x fine = x
bad_wait q contents (Waits ms word) n most x fine = x.2 fine
bad_wait q contents Clears n most x fine = x

-- ---- the fault
module _ (p : Option NodeConfig) (kind : ℕ) (contents : List ℕ) where
  opening_out : (b : Blame) → IsOpening p kind contents b → IsOutOfRange p kind contents
  opening_out b o =
      record {
        said = Opens;
        reads = o.reads;
        in_turn = subst (λ (q : Option NodeConfig). IsInTurn (is_some q) Opens) (sym o.closed) tt;
        out = place_breaks contents b o.blamed;
      }

  behind_out : (b : Blame) (x : IsBehind p kind contents b) → (IsInRange (Some x.place) contents x.said → ⊥) → IsOutOfRange p kind contents
  behind_out b x out =
      record {
        said = x.said;
        reads = x.reads;
        in_turn = subst (λ (q : Option NodeConfig). IsInTurn (is_some q) x.said) (sym x.open_) x.in_turn;
        out = λ fine. out (subst (λ (q : Option NodeConfig). IsInRange q contents x.said) x.open_ fine);
      }

  pub blame_is_fault : (b : Blame) → IsBlamed p kind contents b → HasFault p kind contents (why_of b)
  blame_is_fault blame.Head x = absurd x
  blame_is_fault (blame.Cut of wanted got) x = absurd x
  blame_is_fault (blame.Kind of) x = x.2
  blame_is_fault (blame.Length of size) x = x.3
  blame_is_fault (blame.Early of) x = x.2
  blame_is_fault blame.Again x = x.1
  blame_is_fault (blame.Period ms) x = opening_out (blame.Period ms) x
  blame_is_fault (blame.ManyIfaces count) x = opening_out (blame.ManyIfaces count) x
  blame_is_fault (blame.Capacity k bytes) x = opening_out (blame.Capacity k bytes) x
  blame_is_fault (blame.Mtu k bytes) x = opening_out (blame.Mtu k bytes) x
  blame_is_fault (blame.SameAddr k) x = opening_out (blame.SameAddr k) x
  blame_is_fault (blame.Inward k iface count) x = opening_out (blame.Inward k iface count) x
  blame_is_fault (blame.Outward k ways count) x = opening_out (blame.Outward k ways count) x
  blame_is_fault (blame.SameTree k) x = opening_out (blame.SameTree k) x
  blame_is_fault (blame.NoIface i count) x = behind_out (blame.NoIface i count) x (no_iface x.place contents x.said i count x.blamed)
  blame_is_fault (blame.Wait ms most) x = behind_out (blame.Wait ms most) x (bad_wait x.place contents x.said ms most x.blamed)

  -- ---- what is to blame
  pub place_blamed : (b : Blame) → p ≡ None → frame_of kind contents ≡ Some Opens → IsPlaceBlame contents b → IsBlamed p kind contents b
  place_blamed blame.Head e f x = x
  place_blamed (blame.Cut of wanted got) e f x = x
  place_blamed (blame.Kind of) e f x = absurd x
  place_blamed (blame.Length of size) e f x = absurd x
  place_blamed (blame.Early of) e f x = absurd x
  place_blamed blame.Again e f x = absurd x
  place_blamed (blame.Period ms) e f x = record { closed = e; reads = f; blamed = x }
  place_blamed (blame.ManyIfaces count) e f x = record { closed = e; reads = f; blamed = x }
  place_blamed (blame.Capacity k bytes) e f x = record { closed = e; reads = f; blamed = x }
  place_blamed (blame.Mtu k bytes) e f x = record { closed = e; reads = f; blamed = x }
  place_blamed (blame.SameAddr k) e f x = record { closed = e; reads = f; blamed = x }
  place_blamed (blame.Inward k iface count) e f x = record { closed = e; reads = f; blamed = x }
  place_blamed (blame.Outward k ways count) e f x = record { closed = e; reads = f; blamed = x }
  place_blamed (blame.SameTree k) e f x = record { closed = e; reads = f; blamed = x }
  place_blamed (blame.NoIface i count) e f x = absurd x
  place_blamed (blame.Wait ms most) e f x = absurd x

  pub open_blamed : (q : NodeConfig) (said : Frame) (b : Blame) → p ≡ Some q → frame_of kind contents ≡ Some said → IsInTurn true said → IsOpenBlame q said b → IsBlamed p kind contents b
  open_blamed q said blame.Head e f turn x = x
  open_blamed q said (blame.Cut of wanted got) e f turn x = x
  open_blamed q said (blame.Kind of) e f turn x = absurd x
  open_blamed q said (blame.Length of size) e f turn x = absurd x
  open_blamed q said (blame.Early of) e f turn x = absurd x
  open_blamed q said blame.Again e f turn x = absurd x
  open_blamed q said (blame.Period ms) e f turn x = absurd x
  open_blamed q said (blame.ManyIfaces count) e f turn x = absurd x
  open_blamed q said (blame.Capacity k bytes) e f turn x = absurd x
  open_blamed q said (blame.Mtu k bytes) e f turn x = absurd x
  open_blamed q said (blame.SameAddr k) e f turn x = absurd x
  open_blamed q said (blame.Inward k iface count) e f turn x = absurd x
  open_blamed q said (blame.Outward k ways count) e f turn x = absurd x
  open_blamed q said (blame.SameTree k) e f turn x = absurd x
  open_blamed q said (blame.NoIface i count) e f turn x = record { place = q; open_ = e; said = said; reads = f; in_turn = turn; blamed = x }
  open_blamed q said (blame.Wait ms most) e f turn x = record { place = q; open_ = e; said = said; reads = f; in_turn = turn; blamed = x }
