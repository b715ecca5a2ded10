-- Where policing stands between two lines, which lines may follow, and why others are bad.
use Rattle.std.specs.Prelude.{◌≡◌, ℕ, ◌<◌, ◌≤◌, ◌^◌, List, [], ◌∷◌, ◌++◌, length, Option, None, Some, is_some}
use Rattle.rsvp_base.specs.TokenBucket.{TokenBucket}
use Rattle.script_words.specs.Flows.{IsFlow, flow_value}
use Rattle.script_words.specs.declared.fault.LineWhy.{LineWhy}
use Rattle.script_words.specs.declared.fault.LineWhy.TheVariants as why
use Rattle.load_policer.specs.Policing.{IsVerdict, Packet, packet, with_passed}
use Rattle.load_policer.specs.declared.policer.Verdict.{Verdict}
use Rattle.load_policer.specs.Grammar.{line_behind}
use Rattle.load_policer.specs.declared.line.PacketLine.{PacketLine}
use Rattle.load_policer.specs.declared.line.PacketLine.TheVariants as line

-- the most bytes of a line, its line feed not counted
abbrev pub most_line : ℕ
most_line = 2048

-- the flow, if a line gave it; the packets that passed, the time of the last line of a packet, and the verdict on each packet
pub record Draft : Type 0 where
  pub flow : Option TokenBucket
  pub passed : List Packet
  pub last : ℕ
  pub verdicts : List Verdict

abbrev pub nothing : Draft
nothing = record { flow = None; passed = []; last = 0; verdicts = [] }

-- ---- rules
-- no packet comes before the one before it
abbrev pub IsInTime : ℕ → PacketLine → Type 0
IsInTime last line.Skipped = Unit {0}
IsInTime last (line.Flow w) = Unit {0}
IsInTime last (line.Packet at size) = last ≤ at

pub record IsPacket (at size : ℕ) : Type 0 where
  pub time : at < 2 ^ 63
  pub some : 1 ≤ size
  pub most : size ≤ 65535

abbrev pub IsInRange : PacketLine → Type 0
IsInRange line.Skipped = Unit {0}
IsInRange (line.Flow w) = IsFlow w
IsInRange (line.Packet at size) = IsPacket at size

-- ---- a line that may follow
abbrev pub with_flow : Draft → TokenBucket → Draft
with_flow d f = record d { flow = Some f }

-- a packet got this verdict
abbrev pub with_packet : Draft → Packet → Verdict → Draft
with_packet d x v = record { flow = d.flow; passed = with_passed v d.passed x; last = x.at; verdicts = d.verdicts ++ v ∷ [] }

abbrev pub IsOffered : Option TokenBucket → Draft → Packet → Draft → Type 0
IsOffered None d x new = ⊥
IsOffered (Some f) d x new = (v : Verdict) × IsVerdict f d.passed x v × (new ≡ with_packet d x v)

abbrev pub Adds : Draft → PacketLine → Draft → Type 0
Adds d line.Skipped new = new ≡ d
Adds d (line.Flow w) new = new ≡ with_flow d (flow_value w)
Adds d (line.Packet at size) new = IsOffered d.flow d (packet at size) new

pub record Follows (d : Draft) (text : List ℕ) (new : Draft) : Type 0 where
  pub short : length text ≤ most_line
  pub said : PacketLine
  pub reads : line_behind (is_some d.flow) text ≡ Some said
  pub in_time : IsInTime d.last said
  pub in_range : IsInRange said
  pub adds : Adds d said new

abbrev pub Leads : Draft → List (List ℕ) → Draft → Type 0
Leads d [] new = new ≡ d
Leads d (text ∷ texts) new = (mid : Draft) × Follows d text mid × Leads mid texts new

-- ---- a line that may not: the rule that it breaks first
pub record IsLate (d : Draft) (text : List ℕ) : Type 0 where
  pub said : PacketLine
  pub reads : line_behind (is_some d.flow) text ≡ Some said
  pub late : IsInTime d.last said → ⊥

pub record IsOut (d : Draft) (text : List ℕ) : Type 0 where
  pub said : PacketLine
  pub reads : line_behind (is_some d.flow) text ≡ Some said
  pub in_time : IsInTime d.last said
  pub out : IsInRange said → ⊥

-- there is no other reason
abbrev pub HasFault : Draft → List ℕ → LineWhy → Type 0
HasFault d text why.Limit = most_line < length text
HasFault d text why.Word = (length text ≤ most_line) × (line_behind (is_some d.flow) text ≡ None)
HasFault d text why.Late = (length text ≤ most_line) × IsLate d text
HasFault d text why.Range = (length text ≤ most_line) × IsOut d text
HasFault d text _ = ⊥
