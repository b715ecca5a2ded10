-- What of a bad frame breaks which rule.
use Rattle.std.specs.Prelude.{◌≡◌, ℕ, ◌^◌, ◌<◌, ◌≤◌, ◌*◌, List, length, Option, None, Some, is_some, true, false}
use Rattle.rsvp_base.specs.declared.addr.Addr.{Addr}
use Rattle.router_rules.specs.NodeConfig.{NodeConfig}
use Rattle.script_words.specs.declared.fault.LineWhy.{LineWhy}
use Rattle.script_words.specs.declared.fault.LineWhy.TheVariants as why
use Rattle.node_stream.specs.Layout.{frame_of, iface_at, iface_count, period_in, route_at, route_count}
use Rattle.node_stream.specs.Rules.{IsOutOfTurn, IsInTurn, IsMtu, IsPeriod, IsWait, iface_addr, tree_at}
use Rattle.node_stream.specs.declared.blame.Blame.{Blame}
use Rattle.node_stream.specs.declared.blame.Blame.TheVariants.{Head, Cut, Kind, Length, Early, Again, Period, ManyIfaces, Capacity, Mtu, SameAddr, Inward, Outward, SameTree, NoIface, Wait}
use Rattle.node_stream.specs.declared.frame.Frame.{Frame}
use Rattle.node_stream.specs.declared.frame.Frame.TheVariants.{Opens, Comes, Waits}

-- the reason that it gives
abbrev pub why_of : Blame → LineWhy
why_of Head = why.Word
why_of (Cut kind wanted got) = why.Word
why_of (Kind kind) = why.Word
why_of (Length kind size) = why.Word
why_of (Early kind) = why.Late
why_of Again = why.Late
why_of _ = why.Range

-- an earlier one of these has the same
pub record IsSame {X : Type 0} (of : ℕ → X) (k : ℕ) : Type 0 where
  pub first : ℕ
  pub before : first < k
  pub same : of first ≡ of k

-- of the frame that opens a router
abbrev pub IsPlaceBlame : List ℕ → Blame → Type 0
IsPlaceBlame contents (Period ms) = (ms ≡ period_in contents) × (IsPeriod ms → ⊥)
IsPlaceBlame contents (ManyIfaces count) = (count ≡ iface_count contents) × (16 < count)
IsPlaceBlame contents (Capacity k bytes) = (k < iface_count contents) × (bytes ≡ (iface_at contents k).capacity) × (2 ^ 46 ≤ bytes)
IsPlaceBlame contents (Mtu k bytes) = (k < iface_count contents) × (bytes ≡ (iface_at contents k).mtu) × (IsMtu bytes → ⊥)
IsPlaceBlame contents (SameAddr k) = (k < iface_count contents) × IsSame (iface_addr contents) k
IsPlaceBlame contents (Inward k iface count) =
    (k < route_count contents) × ((route_at contents k).inward ≡ Some iface) × (count ≡ iface_count contents) × (count ≤ iface)
IsPlaceBlame contents (Outward k ways count) =
    (k < route_count contents) × (ways ≡ (route_at contents k).outward) × (count ≡ iface_count contents) × (2 ^ count ≤ ways)
IsPlaceBlame contents (SameTree k) = (k < route_count contents) × IsSame (tree_at contents) k
IsPlaceBlame contents _ = ⊥

-- of a frame for a router that stands there: the interface of a datagram, or the milliseconds of a wait
abbrev pub IsNoIface : NodeConfig → Frame → ℕ → ℕ → Type 0
IsNoIface q (Comes iface dst) i count = (i ≡ iface) × (count ≡ length q.ifaces) × (count ≤ i)
IsNoIface q _ i count = ⊥

abbrev pub IsBadWait : NodeConfig → Frame → ℕ → ℕ → Type 0
IsBadWait q (Waits ms word) n most = (n ≡ ms) × (most ≡ 2 * q.quarter) × (IsWait q.quarter ms → ⊥)
IsBadWait q _ n most = ⊥

abbrev pub IsOpenBlame : NodeConfig → Frame → Blame → Type 0
IsOpenBlame q said (NoIface i count) = IsNoIface q said i count
IsOpenBlame q said (Wait ms most) = IsBadWait q said ms most
IsOpenBlame q said _ = ⊥

-- there are four kinds of frames that come
abbrev pub IsKind : ℕ → Type 0
IsKind kind = (1 ≤ kind) × (kind ≤ 4)

-- what is to blame for a frame, for a router that stands there or is not open
module _ (p : Option NodeConfig) (kind : ℕ) (contents : List ℕ) where
  pub record IsOpening (b : Blame) : Type 0 where
    pub closed : p ≡ None
    pub reads : frame_of kind contents ≡ Some Opens
    pub blamed : IsPlaceBlame contents b

  pub record IsBehind (b : Blame) : Type 0 where
    pub place : NodeConfig
    pub open_ : p ≡ Some place
    pub said : Frame
    pub reads : frame_of kind contents ≡ Some said
    pub in_turn : IsInTurn true said
    pub blamed : IsOpenBlame place said b

  abbrev pub IsBlamed : Blame → Type 0
  IsBlamed Head = ⊥
  IsBlamed (Cut of wanted got) = ⊥
  IsBlamed (Kind of) = (of ≡ kind) × (IsKind kind → ⊥) × (frame_of kind contents ≡ None)
  IsBlamed (Length of size) = (of ≡ kind) × (size ≡ length contents) × IsKind kind × (frame_of kind contents ≡ None)
  IsBlamed (Early of) = (of ≡ kind) × (is_some p ≡ false) × IsOutOfTurn p kind contents
  IsBlamed Again = (is_some p ≡ true) × IsOutOfTurn p kind contents
  IsBlamed (NoIface i count) = IsBehind (NoIface i count)
  IsBlamed (Wait ms most) = IsBehind (Wait ms most)
  IsBlamed b = IsOpening b
