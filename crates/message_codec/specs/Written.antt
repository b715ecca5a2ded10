-- What is true of each message that code has, as a test: its numbers have room in their fields, its flows are sound, with rates
-- that have words, and its lists are short.
use Rattle.std.specs.Prelude.{◌≡◌, ℕ, ◌+◌, ◌-◌, ◌^◌, ◌==◌, nat_le, nat_lt, Bool, true, ◌&&◌, ◌||◌, List, length, Option, None, Some}
use Rattle.std.specs.Int.{leading_zeros, trailing_zeros, w64}
use Rattle.std.specs.List.{list_all}
use Rattle.rsvp_base.specs.declared.addr.Addr.{Addr}
use Rattle.rsvp_base.specs.declared.err_spec.ErrSpec.{ErrSpec}
use Rattle.rsvp_base.specs.declared.flow.Peak.{Peak}
use Rattle.rsvp_base.specs.declared.flow.Peak.TheVariants.{Finite, Infinite}
use Rattle.rsvp_base.specs.declared.hop.Hop.{Hop}
use Rattle.rsvp_base.specs.declared.session.Sender.{Sender}
use Rattle.rsvp_base.specs.declared.session.Session.{Session}
use Rattle.rsvp_base.specs.Orders.{Names}
use Rattle.rsvp_base.specs.Table.{keys, size}
use Rattle.rsvp_base.specs.TokenBucket.{TokenBucket}
use Rattle.rsvp_objects.specs.declared.adspec.Adspec.{Adspec}
use Rattle.rsvp_objects.specs.Fragment.{missing, heads, all_other}
use Rattle.rsvp_objects.specs.Classes.{is_skipped}
use Rattle.rsvp_objects.specs.declared.object.Object.{Object}
use Rattle.rsvp_objects.specs.declared.object.Object.TheVariants as object
use Rattle.rsvp_messages.specs.declared.ask.Ask.{Ask}
use Rattle.rsvp_messages.specs.declared.ask.Ask.TheVariants as ask
use Rattle.rsvp_messages.specs.declared.ask.Tear.{Tear}
use Rattle.rsvp_messages.specs.declared.ask.Tear.TheVariants as tear
use Rattle.rsvp_messages.specs.declared.message.Message.{Message}
use Rattle.rsvp_messages.specs.declared.message.Message.TheVariants as message
use Rattle.rsvp_messages.specs.Proper.{IsProper}
use Rattle.message_codec.specs.Spells.{Spells}
use Rattle.message_codec.specs.Encoding.{encoding, IsFew}
use Rattle.message_codec.specs.Objects.{objects_of}
use Rattle.message_codec.specs.Ranges.{AreInRange}

-- ---- numbers and flows
-- below 2^46, and the highest set bit at most 23 places above the lowest
abbrev pub is_rate : ℕ → Bool
is_rate n = nat_lt n (2 ^ 46) && ((n == 0) || nat_le (63 - leading_zeros w64 n) (trailing_zeros w64 n + 23))

abbrev pub is_peak : Peak → Bool
is_peak (Finite n) = is_rate n
is_peak Infinite = true

abbrev pub is_addr : Addr → Bool
is_addr a = nat_lt a.0 (2 ^ 32)

abbrev pub is_session : Session → Bool
is_session s = is_addr s.group && (nat_lt s.proto (2 ^ 8) && nat_lt s.port (2 ^ 16))

abbrev pub is_hop : Hop → Bool
is_hop h = is_addr h.addr && nat_lt h.handle (2 ^ 32)

abbrev pub is_error : ErrSpec → Bool
is_error e = is_addr e.node && (nat_lt e.code (2 ^ 8) && nat_lt e.value (2 ^ 16))

abbrev pub is_sender : Sender → Bool
is_sender s = is_addr s.addr && nat_lt s.port (2 ^ 16)

-- each number is at least 1
abbrev pub is_sound : TokenBucket → Bool
is_sound f = (nat_le 1 f.r && nat_le 1 f.b) && (nat_le 1 f.low && nat_le 1 f.most)

abbrev pub is_flow : TokenBucket → Bool
is_flow f = is_sound f && ((is_rate f.r && (is_rate f.b && is_peak f.p)) && (nat_lt f.low (2 ^ 32) && nat_lt f.most (2 ^ 32)))

-- ---- ADSPECs
abbrev pub is_fragments : List ℕ → Bool
is_fragments ws = nat_le (length ws) 24 && (missing 0 ws == 0 && all_other (heads 0 ws))

abbrev pub is_word : ℕ → Bool
is_word w = nat_lt w (2 ^ 32)

abbrev pub is_adspec : Adspec → Bool
is_adspec a = ((is_word a.hops && is_peak a.rate) && (is_word a.latency && is_word a.mtu)) && (is_fragments a.others && list_all is_word a.others)

-- ---- objects
abbrev pub is_roomy : Object → Bool
is_roomy (object.Session s police) = is_session s
is_roomy (object.HopOf h) = is_hop h
is_roomy (object.Time period) = nat_lt period (2 ^ 32)
is_roomy (object.Error e) = is_error e
is_roomy (object.Scope names) = nat_le (size names) 16 && list_all is_sender (keys names)
is_roomy (object.StyleOf kind) = true
is_roomy (object.FlowOf f) = is_flow f
is_roomy (object.Filter s) = is_sender s
is_roomy (object.Template s) = is_sender s
is_roomy (object.Tspec f) = is_flow f
is_roomy (object.Advert a) = is_adspec a
is_roomy (object.Confirm a) = is_addr a
is_roomy (object.Skipped n) = nat_lt n (2 ^ 8) && is_skipped n

-- ---- lists
abbrev pub are_few : Option Names → Bool
are_few None = true
are_few (Some names) = nat_le (size names) 16

abbrev pub is_ask_few : Ask → Bool
is_ask_few (ask.Wild scope f) = are_few scope
is_ask_few (ask.Fixed list) = nat_le (size list) 16
is_ask_few (ask.Shared part) = nat_le (size part.senders) 16

abbrev pub is_tear_few : Tear → Bool
is_tear_few (tear.Wild scope) = are_few scope
is_tear_few (tear.Fixed names) = nat_le (size names) 16
is_tear_few (tear.Shared names) = nat_le (size names) 16

abbrev pub is_advert_few : Option Adspec → Bool
is_advert_few None = true
is_advert_few (Some a) = nat_le (length a.others) 24

abbrev pub is_few : Message → Bool
is_few (message.Path v) = is_advert_few v.adspec
is_few (message.Resv v) = is_ask_few v.ask
is_few (message.PathErr v) = true
is_few (message.ResvErr v) = are_few v.blame.senders
is_few (message.PathTear v) = true
is_few (message.ResvTear v) = is_tear_few v.tear
is_few (message.ResvConf v) = is_ask_few v.ask

-- ---- messages
unfoldable pub is_in_range : Message → Bool
is_in_range v = list_all is_roomy (objects_of v) && is_few v

-- the test is what the types of code know
pub record InRange (v : Message) : Type 0 where
  pub numbers : AreInRange v
  pub lists : IsFew v

abbrev pub InRangeIsWhatTypesKnow : Type 0
InRangeIsWhatTypesKnow = (v : Message) → (is_in_range v ≡ true → InRange v) × (InRange v → is_in_range v ≡ true)

-- what is written for a proper message in range spells it
abbrev pub WhatIsInRangeIsSpelt : Type 0
WhatIsInRangeIsSpelt = (v : Message) → is_in_range v ≡ true → IsProper v → Spells (encoding v) v
