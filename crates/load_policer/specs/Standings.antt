-- What is kept between two lines, and where policing stands then.
use Rattle.std.specs.Prelude.{◌≡◌, ℕ, ◌+◌, ◌<◌, ◌≤◌, ◌-◌, ◌^◌, min, List, [], ◌++◌, length, Option, None, Some, Result, Ok, Err}
use Rattle.rsvp_base.specs.TokenBucket.{TokenBucket}
use Rattle.load_policer.specs.Policing.{Agrees, Bucket, IsVerdict, Packet, empty_bucket, packet}
use Rattle.load_policer.specs.declared.policer.Verdict.{Verdict}
use Rattle.load_policer.specs.declared.policer.Verdict.TheVariants.{Pass, Over, Big}
use Rattle.script_words.specs.Flows.{IsFlow, flow_value}
use Rattle.script_words.specs.declared.fault.LineWhy.{LineWhy}
use Rattle.script_words.specs.declared.fault.LineWhy.TheVariants as why
use Rattle.script_words.specs.declared.raw.FlowWord.{FlowWord}
use Rattle.load_policer.specs.Drafts.{Draft, Follows, HasFault, IsPacket, with_packet}
use Rattle.load_policer.specs.Texts.{verdicts_text, verdict_text}
use Rattle.load_policer.specs.declared.standing.Standing.{Standing}

-- a count in 64 bits, which stands still at their last value
abbrev pub counted : ℕ → ℕ
counted n = min n (2 ^ 64 - 1)

-- how many passed, with a packet that got this verdict
abbrev pub passed_count : Verdict → ℕ → ℕ
passed_count Pass n = counted (n + 1)
passed_count Over n = n
passed_count Big n = n

-- the bucket is that of the flow, and what is in it is what the packets that passed put there
abbrev pub IsBucketOf : Draft → Option Bucket → Type 0
IsBucketOf d None = (d.flow ≡ None) × (d.passed ≡ [])
IsBucketOf d (Some b) = (d.flow ≡ Some b.flow) × Agrees b d.passed × (b.at ≤ d.last)

pub record Stands (s : Standing) (d : Draft) : Type 0 where
  pub bucket : IsBucketOf d s.policer
  pub last : s.last ≡ d.last
  pub passed : s.passed ≡ counted (length d.passed)
  pub offered : s.offered ≡ counted (length d.verdicts)

-- ---- a packet got this verdict
pub record HasVerdict (d : Draft) (x : Packet) (v : Verdict) (new : Standing) : Type 0 where
  pub flow : TokenBucket
  pub flow_is : d.flow ≡ Some flow
  pub verdict : IsVerdict flow d.passed x v
  pub stands : Stands new (with_packet d x v)

-- and its line was appended
pub record IsJudged (d : Draft) (x : Packet) (new : Standing) (before after : List ℕ) : Type 0 where
  pub verdict : Verdict
  pub judged : HasVerdict d x verdict new
  pub wrote : after ≡ before ++ verdict_text verdict

-- ---- a flow was added: its numbers are in range, or they are not
abbrev pub IsFlowFed : FlowWord → Standing → Result (Unit {0}) LineWhy → Standing → Type 0
IsFlowFed w s (Ok _) new = IsFlow w × (new ≡ record s { policer = Some (empty_bucket (flow_value w)) })
IsFlowFed w s (Err why.Range) new = (IsFlow w → ⊥) × (new ≡ s)
IsFlowFed w s (Err _) new = ⊥

-- ---- a packet was added: it got a verdict, or came too early, or its numbers are not in range
abbrev pub IsPacketFed : Draft → ℕ → ℕ → Standing → Result (Unit {0}) LineWhy → Standing → List ℕ → List ℕ → Type 0
IsPacketFed d at size s (Ok _) new before after = (s.last ≤ at) × IsPacket at size × IsJudged d (packet at size) new before after
IsPacketFed d at size s (Err why.Late) new before after = (at < s.last) × (new ≡ s) × (after ≡ before)
IsPacketFed d at size s (Err why.Range) new before after = (s.last ≤ at) × (IsPacket at size → ⊥) × (new ≡ s) × (after ≡ before)
IsPacketFed d at size s (Err _) new before after = ⊥

-- ---- a line was added
-- the line followed, and the verdict on its packet was appended
pub record IsAdded (d : Draft) (text : List ℕ) (new : Standing) (before after : List ℕ) : Type 0 where
  pub draft : Draft
  pub follows : Follows d text draft
  pub stands : Stands new draft
  pub own : List ℕ
  pub says : verdicts_text draft.verdicts ≡ verdicts_text d.verdicts ++ own
  pub wrote : after ≡ before ++ own

-- or it has this fault, and nothing was appended
abbrev pub IsFed : Draft → List ℕ → Result (Unit {0}) LineWhy → Standing → List ℕ → List ℕ → Type 0
IsFed d text (Ok _) new before after = IsAdded d text new before after
IsFed d text (Err fault) new before after = HasFault d text fault × Stands new d × (after ≡ before)
