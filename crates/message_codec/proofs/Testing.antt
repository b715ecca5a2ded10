-- The test of what types know says what they know.
use Rattle.std.proofs.Common.{◌≡◌, ℕ, ◌+◌, ◌-◌, ◌<◌, ◌≤◌, ◌^◌, Bool, true, false, List, [], ◌∷◌, length, Option, None, Some, refl, subst, sym, arith, inl, inr, ltb-true, ltb-false}
use Rattle.std.specs.Prelude.{◌&&◌, ◌||◌, ◌==◌, nat_lt, nat_le, ◌⊎◌}
use Rattle.std.specs.Int.{leading_zeros, trailing_zeros, w64}
use Rattle.std.specs.List.{AllByRecursion, list_all}
use Rattle.std.proofs.lemmas.Bool.{and_parts, and_from, or_cases, leb-true, eqb-true, le-leb, cases_eq, eq-eqb}
use Rattle.std.proofs.lemmas.Nat.Bits.{bit_at-zero}
use Rattle.rsvp_base.proofs.RateBits.{near_of_ends, ends_of_near}
use Rattle.rsvp_base.specs.declared.err_spec.ErrSpec.{ErrSpec}
use Rattle.rsvp_base.specs.declared.flow.Peak.{Peak}
use Rattle.rsvp_base.specs.declared.flow.Peak.TheVariants.{Finite, Infinite}
use Rattle.rsvp_base.specs.declared.hop.Hop.{Hop}
use Rattle.rsvp_base.specs.declared.session.Sender.{Sender}
use Rattle.rsvp_base.specs.declared.session.Session.{Session}
use Rattle.rsvp_base.specs.Orders.{Names}
use Rattle.rsvp_base.specs.Rates.{IsRate}
use Rattle.rsvp_base.specs.Table.{keys, size}
use Rattle.rsvp_base.specs.TokenBucket.{TokenBucket, IsSound}
use Rattle.rsvp_objects.specs.declared.adspec.Adspec.{Adspec}
use Rattle.rsvp_objects.specs.Fragment.{missing, heads, all_other, IsFragments}
use Rattle.rsvp_objects.specs.AdspecLaws.{IsAdspec}
use Rattle.rsvp_objects.specs.Classes.{is_skipped}
use Rattle.rsvp_objects.specs.declared.object.Object.{Object}
use Rattle.rsvp_objects.specs.declared.object.Object.TheVariants as object
use Rattle.rsvp_objects.specs.Proper.{IsSession, IsHop, IsError, IsSender, IsFlow}
use Rattle.rsvp_objects.specs.RateLaws.{IsPeak}
use Rattle.rsvp_messages.specs.declared.ask.Ask.{Ask}
use Rattle.rsvp_messages.specs.declared.ask.Ask.TheVariants as ask
use Rattle.rsvp_messages.specs.declared.ask.Tear.{Tear}
use Rattle.rsvp_messages.specs.declared.ask.Tear.TheVariants as tear
use Rattle.rsvp_messages.specs.declared.message.Message.{Message}
use Rattle.rsvp_messages.specs.declared.message.Message.TheVariants as message
use Rattle.message_codec.specs.Encoding.{IsAdvertFew, AreFew, IsAskFew, IsTearFew, IsFew}
use Rattle.message_codec.specs.Objects.{objects_of}
use Rattle.message_codec.specs.Ranges.{IsInRange}
use Rattle.message_codec.specs.Written.{is_rate, is_peak, is_addr, is_session, is_hop, is_error, is_sender, is_sound, is_flow, is_fragments, is_word, is_adspec, is_roomy, is_advert_few}
use Rattle.message_codec.specs.Written.{are_few, is_ask_few, is_tear_few, is_few, is_in_range, InRange, InRangeIsWhatTypesKnow}

-- ---- numbers

lt_test : (m n : ℕ) → m < n → nat_lt m n ≡ true
lt_test m n lt = by (nat_lt m n) refl
  where
    by : (b : Bool) → nat_lt m n ≡ b → nat_lt m n ≡ true
    by true t = t
    by false t = absurd (omega (arith, lt, ltb-false m n t))

le_test : (m n : ℕ) → m ≤ n → nat_le m n ≡ true
le_test m n le = le-leb m n le

or_left : (x y : Bool) → x ≡ true → (x || y) ≡ true
or_left true y e = refl
or_left false y e = absurd (cc)

or_right : (x y : Bool) → y ≡ true → (x || y) ≡ true
or_right true y e = refl
or_right false y e = e

abbrev near_test : ℕ → Bool
near_test n = nat_le (63 - leading_zeros w64 n) (trailing_zeros w64 n + 23)

rate_said : (n : ℕ) → is_rate n ≡ true → IsRate n
rate_said n t = by (or_cases (n == 0) (near_test n) parts.1) (cases_eq n 0)
  where
    parts : (nat_lt n (2 ^ 46) ≡ true) × (((n == 0) || near_test n) ≡ true)
    parts = and_parts (nat_lt n (2 ^ 46)) ((n == 0) || near_test n) t

    small : n < 2 ^ 46
    small = ltb-true n (2 ^ 46) parts.0

    none : n ≡ 0 → IsRate n
    none e = subst IsRate (sym e) (record { small = omega arith; near = λ i j at_i at_j. absurd (omega (arith, bit_at-zero i, at_i)) })

    by : ((n == 0) ≡ true) ⊎ (near_test n ≡ true) → (n ≡ 0) ⊎ (n ≡ 0 → ⊥) → IsRate n
    by (inl z) o = none (eqb-true n 0 z)
    by (inr near) (inl z) = none z
    by (inr near) (inr ne) = record { small = small; near = near_of_ends n (omega (arith, ne)) (omega (arith, small)) (leb-true (63 - leading_zeros w64 n) (trailing_zeros w64 n + 23) near) }

rate_test : (n : ℕ) → IsRate n → is_rate n ≡ true
rate_test n r = and_from (nat_lt n (2 ^ 46)) ((n == 0) || near_test n) (lt_test n (2 ^ 46) r.small) (by (cases_eq n 0))
  where
    by : (n ≡ 0) ⊎ (n ≡ 0 → ⊥) → ((n == 0) || near_test n) ≡ true
    by (inl z) = or_left (n == 0) (near_test n) (eq-eqb n 0 z)
    by (inr ne) = or_right (n == 0) (near_test n) (le_test (63 - leading_zeros w64 n) (trailing_zeros w64 n + 23) (ends_of_near n (omega (arith, ne)) (omega (arith, r.small)) r.near))

peak_said : (p : Peak) → is_peak p ≡ true → IsPeak p
peak_said (Finite n) t = rate_said n t
peak_said Infinite t = tt

peak_test : (p : Peak) → IsPeak p → is_peak p ≡ true
peak_test (Finite n) r = rate_test n r
peak_test Infinite r = refl

-- ---- fields
session_said : (s : Session) → is_session s ≡ true → IsSession s
session_said s t =
    let a = and_parts (is_addr s.group) (nat_lt s.proto (2 ^ 8) && nat_lt s.port (2 ^ 16)) t in
    let b = and_parts (nat_lt s.proto (2 ^ 8)) (nat_lt s.port (2 ^ 16)) a.1 in
    record { group = ltb-true s.group.0 (2 ^ 32) a.0; proto = ltb-true s.proto (2 ^ 8) b.0; port = ltb-true s.port (2 ^ 16) b.1 }

session_test : (s : Session) → IsSession s → is_session s ≡ true
session_test s h =
    and_from (is_addr s.group) (nat_lt s.proto (2 ^ 8) && nat_lt s.port (2 ^ 16)) (lt_test s.group.0 (2 ^ 32) h.group)
    (and_from (nat_lt s.proto (2 ^ 8)) (nat_lt s.port (2 ^ 16)) (lt_test s.proto (2 ^ 8) h.proto) (lt_test s.port (2 ^ 16) h.port))

hop_said : (h : Hop) → is_hop h ≡ true → IsHop h
hop_said h t =
    let a = and_parts (is_addr h.addr) (nat_lt h.handle (2 ^ 32)) t in
    record { addr = ltb-true h.addr.0 (2 ^ 32) a.0; handle = ltb-true h.handle (2 ^ 32) a.1 }

hop_test : (h : Hop) → IsHop h → is_hop h ≡ true
hop_test h is = and_from (is_addr h.addr) (nat_lt h.handle (2 ^ 32)) (lt_test h.addr.0 (2 ^ 32) is.addr) (lt_test h.handle (2 ^ 32) is.handle)

error_said : (e : ErrSpec) → is_error e ≡ true → IsError e
error_said e t =
    let a = and_parts (is_addr e.node) (nat_lt e.code (2 ^ 8) && nat_lt e.value (2 ^ 16)) t in
    let b = and_parts (nat_lt e.code (2 ^ 8)) (nat_lt e.value (2 ^ 16)) a.1 in
    record { node = ltb-true e.node.0 (2 ^ 32) a.0; code = ltb-true e.code (2 ^ 8) b.0; value = ltb-true e.value (2 ^ 16) b.1 }

error_test : (e : ErrSpec) → IsError e → is_error e ≡ true
error_test e h =
    and_from (is_addr e.node) (nat_lt e.code (2 ^ 8) && nat_lt e.value (2 ^ 16)) (lt_test e.node.0 (2 ^ 32) h.node)
    (and_from (nat_lt e.code (2 ^ 8)) (nat_lt e.value (2 ^ 16)) (lt_test e.code (2 ^ 8) h.code) (lt_test e.value (2 ^ 16) h.value))

sender_said : (s : Sender) → is_sender s ≡ true → IsSender s
sender_said s t =
    let a = and_parts (is_addr s.addr) (nat_lt s.port (2 ^ 16)) t in
    record { addr = ltb-true s.addr.0 (2 ^ 32) a.0; port = ltb-true s.port (2 ^ 16) a.1 }

sender_test : (s : Sender) → IsSender s → is_sender s ≡ true
sender_test s is = and_from (is_addr s.addr) (nat_lt s.port (2 ^ 16)) (lt_test s.addr.0 (2 ^ 32) is.addr) (lt_test s.port (2 ^ 16) is.port)

sound_said : (f : TokenBucket) → is_sound f ≡ true → IsSound f
sound_said f t =
    let a = and_parts (nat_le 1 f.r && nat_le 1 f.b) (nat_le 1 f.low && nat_le 1 f.most) t in
    let b = and_parts (nat_le 1 f.r) (nat_le 1 f.b) a.0 in
    let d = and_parts (nat_le 1 f.low) (nat_le 1 f.most) a.1 in
    record { rate = leb-true 1 f.r b.0; depth = leb-true 1 f.b b.1; low = leb-true 1 f.low d.0; most = leb-true 1 f.most d.1 }

sound_test : (f : TokenBucket) → IsSound f → is_sound f ≡ true
sound_test f h =
    and_from (nat_le 1 f.r && nat_le 1 f.b) (nat_le 1 f.low && nat_le 1 f.most)
    (and_from (nat_le 1 f.r) (nat_le 1 f.b) (le_test 1 f.r h.rate) (le_test 1 f.b h.depth))
    (and_from (nat_le 1 f.low) (nat_le 1 f.most) (le_test 1 f.low h.low) (le_test 1 f.most h.most))

flow_said : (f : TokenBucket) → is_flow f ≡ true → IsFlow f
flow_said f t =
    let a = and_parts (is_sound f) ((is_rate f.r && (is_rate f.b && is_peak f.p)) && (nat_lt f.low (2 ^ 32) && nat_lt f.most (2 ^ 32))) t in
    let b = and_parts (is_rate f.r && (is_rate f.b && is_peak f.p)) (nat_lt f.low (2 ^ 32) && nat_lt f.most (2 ^ 32)) a.1 in
    let r = and_parts (is_rate f.r) (is_rate f.b && is_peak f.p) b.0 in
    let p = and_parts (is_rate f.b) (is_peak f.p) r.1 in
    let n = and_parts (nat_lt f.low (2 ^ 32)) (nat_lt f.most (2 ^ 32)) b.1 in
    record { sound = sound_said f a.0; r = rate_said f.r r.0; b = rate_said f.b p.0; p = peak_said f.p p.1; low = ltb-true f.low (2 ^ 32) n.0; most = ltb-true f.most (2 ^ 32) n.1 }

flow_test : (f : TokenBucket) → IsFlow f → is_flow f ≡ true
flow_test f h =
    and_from (is_sound f) ((is_rate f.r && (is_rate f.b && is_peak f.p)) && (nat_lt f.low (2 ^ 32) && nat_lt f.most (2 ^ 32))) (sound_test f h.sound)
    (and_from (is_rate f.r && (is_rate f.b && is_peak f.p)) (nat_lt f.low (2 ^ 32) && nat_lt f.most (2 ^ 32))
    (and_from (is_rate f.r) (is_rate f.b && is_peak f.p) (rate_test f.r h.r) (and_from (is_rate f.b) (is_peak f.p) (rate_test f.b h.b) (peak_test f.p h.p)))
    (and_from (nat_lt f.low (2 ^ 32)) (nat_lt f.most (2 ^ 32)) (lt_test f.low (2 ^ 32) h.low) (lt_test f.most (2 ^ 32) h.most)))

-- ---- lists
module _ {A : Type 0} (P : A → Type 0) (p : A → Bool) where
  all_said : ((x : A) → p x ≡ true → P x) → (xs : List A) → list_all p xs ≡ true → AllByRecursion P xs
  all_said said [] t = tt
  all_said said (x ∷ xs) t = let a = and_parts (p x) (list_all p xs) t in (said x a.0, all_said said xs a.1)

  all_test : ((x : A) → P x → p x ≡ true) → (xs : List A) → AllByRecursion P xs → list_all p xs ≡ true
  all_test test [] h = refl
  all_test test (x ∷ xs) h = and_from (p x) (list_all p xs) (test x h.0) (all_test test xs h.1)

fragments_said : (ws : List ℕ) → is_fragments ws ≡ true → IsFragments ws
fragments_said ws t =
    let a = and_parts (nat_le (length ws) 24) (missing 0 ws == 0 && all_other (heads 0 ws)) t in
    let b = and_parts (missing 0 ws == 0) (all_other (heads 0 ws)) a.1 in
    record { few = leb-true (length ws) 24 a.0; whole = eqb-true (missing 0 ws) 0 b.0; other = b.1 }

fragments_test : (ws : List ℕ) → IsFragments ws → is_fragments ws ≡ true
fragments_test ws h =
    and_from (nat_le (length ws) 24) (missing 0 ws == 0 && all_other (heads 0 ws)) (le_test (length ws) 24 h.few)
    (and_from (missing 0 ws == 0) (all_other (heads 0 ws)) (eq-eqb (missing 0 ws) 0 h.whole) h.other)

abbrev IsWord : ℕ → Type 0
IsWord w = w < 2 ^ 32

adspec_said : (a : Adspec) → is_adspec a ≡ true → IsAdspec a
adspec_said a t =
    let p = and_parts ((is_word a.hops && is_peak a.rate) && (is_word a.latency && is_word a.mtu)) (is_fragments a.others && list_all is_word a.others) t in
    let n = and_parts (is_word a.hops && is_peak a.rate) (is_word a.latency && is_word a.mtu) p.0 in
    let h = and_parts (is_word a.hops) (is_peak a.rate) n.0 in
    let l = and_parts (is_word a.latency) (is_word a.mtu) n.1 in
    let o = and_parts (is_fragments a.others) (list_all is_word a.others) p.1 in
    record {
      hops = ltb-true a.hops (2 ^ 32) h.0;
      rate = peak_said a.rate h.1;
      latency = ltb-true a.latency (2 ^ 32) l.0;
      mtu = ltb-true a.mtu
          (2 ^ 32) l.1;
      others = fragments_said a.others o.0;
      words = all_said IsWord is_word (λ w t. ltb-true w (2 ^ 32) t) a.others o.1;
    }

adspec_test : (a : Adspec) → IsAdspec a → is_adspec a ≡ true
adspec_test a h =
    and_from ((is_word a.hops && is_peak a.rate) && (is_word a.latency && is_word a.mtu)) (is_fragments a.others && list_all is_word a.others)
    (and_from (is_word a.hops && is_peak a.rate) (is_word a.latency && is_word a.mtu)
    (and_from (is_word a.hops) (is_peak a.rate) (lt_test a.hops (2 ^ 32) h.hops) (peak_test a.rate h.rate))
    (and_from (is_word a.latency) (is_word a.mtu) (lt_test a.latency (2 ^ 32) h.latency) (lt_test a.mtu (2 ^ 32) h.mtu)))
    (and_from (is_fragments a.others) (list_all is_word a.others) (fragments_test a.others h.others) (all_test IsWord is_word (λ w lt. lt_test w (2 ^ 32) lt) a.others h.words))

roomy_said : (x : Object) → is_roomy x ≡ true → IsInRange x
roomy_said (object.Session s police) t = session_said s t
roomy_said (object.HopOf h) t = hop_said h t
roomy_said (object.Time n) t = ltb-true n (2 ^ 32) t
roomy_said (object.Error e) t = error_said e t
roomy_said (object.Scope names) t =
    let a = and_parts (nat_le (size names) 16) (list_all is_sender (keys names)) t in
    (leb-true (size names) 16 a.0, all_said IsSender is_sender sender_said (keys names) a.1)
roomy_said (object.StyleOf k) t = tt
roomy_said (object.FlowOf f) t = flow_said f t
roomy_said (object.Filter s) t = sender_said s t
roomy_said (object.Template s) t = sender_said s t
roomy_said (object.Tspec f) t = flow_said f t
roomy_said (object.Advert a) t = adspec_said a t
roomy_said (object.Confirm a) t = ltb-true a.0 (2 ^ 32) t
roomy_said (object.Skipped n) t =
    let a = and_parts (nat_lt n (2 ^ 8)) (is_skipped n) t in
    record { byte = ltb-true n (2 ^ 8) a.0; skipped = a.1 }

roomy_test : (x : Object) → IsInRange x → is_roomy x ≡ true
roomy_test (object.Session s police) h = session_test s h
roomy_test (object.HopOf x) h = hop_test x h
roomy_test (object.Time n) h = lt_test n (2 ^ 32) h
roomy_test (object.Error e) h = error_test e h
roomy_test (object.Scope names) h = and_from (nat_le (size names) 16) (list_all is_sender (keys names)) (le_test (size names) 16 h.0) (all_test IsSender is_sender sender_test (keys names) h.1)
roomy_test (object.StyleOf k) h = refl
roomy_test (object.FlowOf f) h = flow_test f h
roomy_test (object.Filter s) h = sender_test s h
roomy_test (object.Template s) h = sender_test s h
roomy_test (object.Tspec f) h = flow_test f h
roomy_test (object.Advert a) h = adspec_test a h
roomy_test (object.Confirm a) h = lt_test a.0 (2 ^ 32) h
roomy_test (object.Skipped n) h = and_from (nat_lt n (2 ^ 8)) (is_skipped n) (lt_test n (2 ^ 8) h.byte) h.skipped

few_said : (o : Option Names) → are_few o ≡ true → AreFew o
few_said None t = tt
few_said (Some names) t = leb-true (size names) 16 t

few_test : (o : Option Names) → AreFew o → are_few o ≡ true
few_test None h = refl
few_test (Some names) h = le_test (size names) 16 h

ask_said : (a : Ask) → is_ask_few a ≡ true → IsAskFew a
ask_said (ask.Wild scope f) t = few_said scope t
ask_said (ask.Fixed list) t = leb-true (size list) 16 t
ask_said (ask.Shared part) t = leb-true (size part.senders) 16 t

ask_test : (a : Ask) → IsAskFew a → is_ask_few a ≡ true
ask_test (ask.Wild scope f) h = few_test scope h
ask_test (ask.Fixed list) h = le_test (size list) 16 h
ask_test (ask.Shared part) h = le_test (size part.senders) 16 h

tear_said : (a : Tear) → is_tear_few a ≡ true → IsTearFew a
tear_said (tear.Wild scope) t = few_said scope t
tear_said (tear.Fixed names) t = leb-true (size names) 16 t
tear_said (tear.Shared names) t = leb-true (size names) 16 t

tear_test : (a : Tear) → IsTearFew a → is_tear_few a ≡ true
tear_test (tear.Wild scope) h = few_test scope h
tear_test (tear.Fixed names) h = le_test (size names) 16 h
tear_test (tear.Shared names) h = le_test (size names) 16 h

advert_said : (o : Option Adspec) → is_advert_few o ≡ true → IsAdvertFew o
advert_said None t = tt
advert_said (Some a) t = leb-true (length a.others) 24 t

advert_test : (o : Option Adspec) → IsAdvertFew o → is_advert_few o ≡ true
advert_test None h = refl
advert_test (Some a) h = le_test (length a.others) 24 h

lists_said : (v : Message) → is_few v ≡ true → IsFew v
lists_said (message.Path v) t = advert_said v.adspec t
lists_said (message.Resv v) t = ask_said v.ask t
lists_said (message.PathErr v) t = tt
lists_said (message.ResvErr v) t = few_said v.blame.senders t
lists_said (message.PathTear v) t = tt
lists_said (message.ResvTear v) t = tear_said v.tear t
lists_said (message.ResvConf v) t = ask_said v.ask t

lists_test : (v : Message) → IsFew v → is_few v ≡ true
lists_test (message.Path v) h = advert_test v.adspec h
lists_test (message.Resv v) h = ask_test v.ask h
lists_test (message.PathErr v) h = refl
lists_test (message.ResvErr v) h = few_test v.blame.senders h
lists_test (message.PathTear v) h = refl
lists_test (message.ResvTear v) h = tear_test v.tear h
lists_test (message.ResvConf v) h = ask_test v.ask h

-- ---- messages
pub range_said : (v : Message) → is_in_range v ≡ true → InRange v
unfolding is_in_range
range_said v t =
    let a = and_parts (list_all is_roomy (objects_of v)) (is_few v) t in
    record { numbers = all_said IsInRange is_roomy roomy_said (objects_of v) a.0; lists = lists_said v a.1 }

pub range_test : (v : Message) → InRange v → is_in_range v ≡ true
unfolding is_in_range
range_test v h = and_from (list_all is_roomy (objects_of v)) (is_few v) (all_test IsInRange is_roomy roomy_test (objects_of v) h.numbers) (lists_test v h.lists)

pub range_is_known : InRangeIsWhatTypesKnow
range_is_known v = (range_said v, range_test v)
