-- Which number of a flow is the first that is out of range, and what is wrong with it.
use Rattle.std.specs.Prelude.{◌≡◌, ℕ, ◌<◌, ◌≤◌, ◌^◌, Option, None, Some}
use Rattle.rsvp_base.specs.Rates.{IsRate}
use Rattle.script_words.specs.Flows.{IsPeak}
use Rattle.script_words.specs.declared.raw.FlowWord.{FlowWord}
use Rattle.line_advice.specs.declared.flow_faults.FlowRate.{FlowRate}
use Rattle.line_advice.specs.declared.flow_faults.FlowRate.TheVariants.{R, B, P}
use Rattle.line_advice.specs.declared.flow_faults.FlowFault.{FlowFault}
use Rattle.line_advice.specs.declared.flow_faults.FlowFault.TheVariants.{Zero, Large, NoRate, NoUnit, LargeUnit, LargePacket}

-- the largest rate: 24 bits set below 2^46
abbrev pub largest_rate : ℕ
largest_rate = 70368739983360

-- no rate is above it
abbrev pub NoRateIsLarger : Type 0
NoRateIsLarger = IsRate largest_rate × ((n : ℕ) → IsRate n → n ≤ largest_rate)

-- the nearest rates below and above a number that is none
pub record AreNearest (n below above : ℕ) : Type 0 where
  pub below_is : IsRate below
  pub above_is : IsRate above
  pub under : below < n
  pub over : n < above
  pub between : (m : ℕ) → IsRate m → below < m → m < above → ⊥

-- a rate that is not 0
pub record IsSomeRate (n : ℕ) : Type 0 where
  pub rate : IsRate n
  pub some : 1 ≤ n

-- the numbers of a flow that come before this one are in range
abbrev pub AreBefore : FlowWord → FlowRate → Type 0
AreBefore w R = Unit {0}
AreBefore w B = IsSomeRate w.r
AreBefore w P = IsSomeRate w.r × IsSomeRate w.b

pub record AreRates (w : FlowWord) : Type 0 where
  pub rate : IsSomeRate w.r
  pub depth : IsSomeRate w.b
  pub peak : IsPeak w.p

-- the rate of this letter; none is an infinite one
abbrev pub rate_at : FlowWord → FlowRate → Option ℕ
rate_at w R = Some w.r
rate_at w B = Some w.b
rate_at w P = w.p

-- this rate may be 0
abbrev pub MayBeNone : FlowRate → Type 0
MayBeNone R = ⊥
MayBeNone B = ⊥
MayBeNone P = Unit {0}

-- ---- what is wrong with one rate of these
abbrev pub IsRateFault : FlowRate → Option ℕ → FlowFault → Type 0
IsRateFault wanted found (Zero rate) = (rate ≡ wanted) × (MayBeNone rate → ⊥) × (found ≡ Some 0)
IsRateFault wanted found (Large rate) = (rate ≡ wanted) × (n : ℕ) × (found ≡ Some n) × (largest_rate < n)
IsRateFault wanted found (NoRate rate below above) = (rate ≡ wanted) × (n : ℕ) × (found ≡ Some n) × AreNearest n below above
IsRateFault wanted found _ = ⊥

-- and with the sizes of packets
abbrev pub IsSizeFault : ℕ → ℕ → FlowFault → Type 0
IsSizeFault low most NoUnit = low ≡ 0
IsSizeFault low most LargeUnit = (1 ≤ low) × (most < 2 ^ 32) × (most < low)
IsSizeFault low most LargePacket = (1 ≤ low) × (2 ^ 32 ≤ most)
IsSizeFault low most _ = ⊥

abbrev pub rate_of : FlowFault → Option FlowRate
rate_of (Zero rate) = Some rate
rate_of (Large rate) = Some rate
rate_of (NoRate rate below above) = Some rate
rate_of _ = None

-- a rate is the first number out of range; or all rates are in range, and one of the sizes is not
abbrev pub IsFaultOf : FlowWord → FlowFault → Option FlowRate → Type 0
IsFaultOf w fault (Some rate) = AreBefore w rate × IsRateFault rate (rate_at w rate) fault
IsFaultOf w fault None = AreRates w × IsSizeFault w.low w.most fault

abbrev pub IsFlowFault : FlowWord → FlowFault → Type 0
IsFlowFault w fault = IsFaultOf w fault (rate_of fault)
