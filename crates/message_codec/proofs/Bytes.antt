-- What is written for a message in range is bytes, and its words sum to ffff.
use Rattle.std.proofs.Common.{ℕ, zero, suc, ◌+◌, ◌%◌, ◌<◌, ◌≤◌, ◌^◌, Bool, true, false, List, [], ◌∷◌, ◌++◌, length, arith}
use Rattle.std.specs.List.{AllByRecursion, flat_map}
use Rattle.rsvp_base.specs.declared.session.Sender.{Sender}
use Rattle.rsvp_base.specs.declared.style.StyleKind.{StyleKind}
use Rattle.rsvp_base.specs.declared.style.StyleKind.TheVariants.{Wild, Fixed, Shared}
use Rattle.rsvp_base.specs.declared.flow.Peak.TheVariants.{Finite}
use Rattle.rsvp_base.specs.Table.{keys}
use Rattle.rsvp_base.specs.TokenBucket.{TokenBucket}
use Rattle.rsvp_objects.specs.declared.adspec.Adspec.{Adspec}
use Rattle.rsvp_objects.specs.AdspecSpelling.{behind, parameter, general_bytes, adspec_bytes}
use Rattle.rsvp_objects.specs.declared.object.Object.{Object}
use Rattle.rsvp_objects.specs.declared.object.Object.TheVariants as object
use Rattle.rsvp_objects.specs.Contents.{session_bytes, hop_bytes, error_bytes, scope_bytes, source_bytes, style_number, style_bytes, sender_bytes, in_place, not_guilty, e_police}
use Rattle.rsvp_objects.specs.Fields.{AreBytes, half, word, flag_if, spelt}
use Rattle.rsvp_objects.specs.FlowWords.{controlled_load, general, flow_bytes}
use Rattle.rsvp_objects.specs.RateWord.{word_of}
use Rattle.rsvp_objects.specs.Spelling.{spelling}
use Rattle.rsvp_messages.specs.declared.message.Kind.{Kind}
use Rattle.rsvp_messages.specs.declared.message.Kind.TheVariants as kind
use Rattle.rsvp_messages.specs.Kinds.{kind_of}
use Rattle.message_codec.specs.Encoding.{kind_number, header, checksum, sealed, spellings, body_of, encoding}
use Rattle.message_codec.specs.Objects.{objects_of}
use Rattle.message_codec.specs.Ranges.{IsInRange}
use Rattle.message_codec.specs.Written.{WhatIsInRangeIsSpelt}
use Rattle.message_codec.proofs.Ranged.{writable}
use Rattle.message_codec.proofs.ReadAgain.{read_again}
use Rattle.message_codec.proofs.Sizes.{body_short}
use Rattle.message_codec.proofs.Sums.{AreSmall, sealed_right}
use Rattle.message_codec.proofs.Testing.{range_said}

-- ---- fields
byte : (n : ℕ) → n % 256 < 2 ^ 8
byte n = omega arith

joined : (xs ys : List ℕ) → AreBytes xs → AreBytes ys → AreBytes (xs ++ ys)
joined [] ys p q = q
joined (x ∷ xs) ys p q = (p.0, joined xs ys p.1 q)

half_bytes : (n : ℕ) → AreBytes (half n)
half_bytes n = (omega arith, (omega arith, tt))

word_bytes : (n : ℕ) → AreBytes (word n)
word_bytes n = (omega arith, (omega arith, (omega arith, (omega arith, tt))))

flag_byte : (b : Bool) (n : ℕ) → n < 4 → flag_if b n < 4
flag_byte true n lt = lt
flag_byte false n lt = omega arith

flags_byte : (a b : Bool) → flag_if a in_place + flag_if b not_guilty < 2 ^ 8
flags_byte true true = omega arith
flags_byte true false = omega arith
flags_byte false true = omega arith
flags_byte false false = omega arith

style_byte : (k : StyleKind) → style_number k < 2 ^ 8
style_byte Wild = omega arith
style_byte Fixed = omega arith
style_byte Shared = omega arith

sources_bytes : (ss : List Sender) → AreBytes (flat_map source_bytes ss)
sources_bytes [] = tt
sources_bytes (s ∷ ss) = joined (word s.addr.0) (flat_map source_bytes ss) (word_bytes s.addr.0) (sources_bytes ss)

sender_are : (s : Sender) → AreBytes (sender_bytes s)
sender_are s = joined (word s.addr.0) (0 ∷ 0 ∷ half s.port) (word_bytes s.addr.0) (omega arith, (omega arith, half_bytes s.port))

flow_are : (service : ℕ) (f : TokenBucket) → service < 2 ^ 8 → AreBytes (flow_bytes service f)
flow_are service f lt =
    let w = λ (n : ℕ) (xs : List ℕ) (h : AreBytes xs). joined (word n) xs (word_bytes n) h in
    let h = λ (n : ℕ) (xs : List ℕ) (r : AreBytes xs). joined (half n) xs (half_bytes n) r in
    let words = word (word_of (Finite f.r)) ++ word (word_of (Finite f.b)) ++ word (word_of f.p) ++ word f.low ++ word f.most in
    let are : AreBytes words =
    w (word_of (Finite f.r)) (word (word_of (Finite f.b)) ++ word (word_of f.p) ++ word f.low ++ word f.most)
    (w (word_of (Finite f.b)) (word (word_of f.p) ++ word f.low ++ word f.most) (w (word_of f.p) (word f.low ++ word f.most) (w f.low (word f.most) (word_bytes f.most)))) in
    (omega arith, (omega arith, h 7 (service ∷ 0 ∷ half 6 ++ 127 ∷ 0 ∷ half 5 ++ words) (lt, (omega arith, h 6 (127 ∷ 0 ∷ half 5 ++ words) (omega arith, (omega arith, h 5 words are))))))

-- ---- ADSPECs
break_byte : (b : Bool) → flag_if b 128 < 2 ^ 8
break_byte true = omega arith
break_byte false = omega arith

parameter_bytes : (n value : ℕ) → n < 2 ^ 8 → AreBytes (parameter n value)
parameter_bytes n value lt = (lt, (omega arith, joined (half 1) (word value) (half_bytes 1) (word_bytes value)))

words_bytes : (ws : List ℕ) → AreBytes (flat_map word ws)
words_bytes [] = tt
words_bytes (w ∷ ws) = joined (word w) (flat_map word ws) (word_bytes w) (words_bytes ws)

general_are : (a : Adspec) → AreBytes (general_bytes a)
general_are a =
    let hops = parameter 4 a.hops in
    let rate = parameter 6 (word_of a.rate) in
    let latency = parameter 8 a.latency in
    let mtu = parameter 10 a.mtu in
    let last : AreBytes (latency ++ mtu) = joined latency mtu (parameter_bytes 8 a.latency (omega arith)) (parameter_bytes 10 a.mtu (omega arith)) in
    let more : AreBytes (rate ++ latency ++ mtu) = joined rate (latency ++ mtu) (parameter_bytes 6 (word_of a.rate) (omega arith)) last in
    let all : AreBytes (hops ++ rate ++ latency ++ mtu) = joined hops (rate ++ latency ++ mtu) (parameter_bytes 4 a.hops (omega arith)) more in
    let service : AreBytes (1 ∷ flag_if a.broken 128 ∷ half 8 ++ hops ++ rate ++ latency ++ mtu) =
    (omega arith, (break_byte a.broken, joined (half 8) (hops ++ rate ++ latency ++ mtu) (half_bytes 8) all)) in
    let n = 9 + length (behind a) in
    (omega arith, (omega arith, joined (half n) (1 ∷ flag_if a.broken 128 ∷ half 8 ++ hops ++ rate ++ latency ++ mtu) (half_bytes n) service))

adspec_are : (a : Adspec) → AreBytes (adspec_bytes a)
unfolding adspec_bytes
adspec_are a = joined (general_bytes a) (flat_map word (behind a)) (general_are a) (words_bytes (behind a))

-- ---- objects
spelt_bytes : (n ctype : ℕ) (body : List ℕ) → n < 2 ^ 8 → ctype < 2 ^ 8 → AreBytes body → AreBytes (spelt n ctype body)
spelt_bytes n ctype body a b h = joined (half (4 + length body)) (n ∷ ctype ∷ body) (half_bytes (4 + length body)) (a, (b, h))

object_bytes : (x : Object) → IsInRange x → AreBytes (spelling x)
unfolding spelling
object_bytes (object.Session s police) h =
    spelt_bytes 1 1 (session_bytes s police) (omega arith) (omega arith)
    (joined (word s.group.0) (s.proto ∷ flag_if police e_police ∷ half s.port) (word_bytes s.group.0)
    (h.proto, ((let f = flag_byte police e_police (omega arith) in omega (arith, f)), half_bytes s.port)))
object_bytes (object.HopOf x) h = spelt_bytes 3 1 (hop_bytes x) (omega arith) (omega arith) (joined (word x.addr.0) (word x.handle) (word_bytes x.addr.0) (word_bytes x.handle))
object_bytes (object.Time n) h = spelt_bytes 5 1 (word n) (omega arith) (omega arith) (word_bytes n)
object_bytes (object.Error e) h =
    spelt_bytes 6 1 (error_bytes e) (omega arith) (omega arith)
    (joined (word e.node.0) ((flag_if e.in_place in_place + flag_if e.not_guilty not_guilty) ∷ e.code ∷ half e.value) (word_bytes e.node.0)
    (flags_byte e.in_place e.not_guilty, (h.code, half_bytes e.value)))
object_bytes (object.Scope names) h = spelt_bytes 7 1 (scope_bytes names) (omega arith) (omega arith) (sources_bytes (keys names))
object_bytes (object.StyleOf k) h = spelt_bytes 8 1 (style_bytes k) (omega arith) (omega arith) (omega arith, (omega arith, (omega arith, (style_byte k, tt))))
object_bytes (object.FlowOf f) h = spelt_bytes 9 2 (flow_bytes controlled_load f) (omega arith) (omega arith) (flow_are controlled_load f (omega arith))
object_bytes (object.Filter s) h = spelt_bytes 10 1 (sender_bytes s) (omega arith) (omega arith) (sender_are s)
object_bytes (object.Template s) h = spelt_bytes 11 1 (sender_bytes s) (omega arith) (omega arith) (sender_are s)
object_bytes (object.Tspec f) h = spelt_bytes 12 2 (flow_bytes general f) (omega arith) (omega arith) (flow_are general f (omega arith))
object_bytes (object.Advert a) h = spelt_bytes 13 2 (adspec_bytes a) (omega arith) (omega arith) (adspec_are a)
object_bytes (object.Confirm a) h = spelt_bytes 15 1 (word a.0) (omega arith) (omega arith) (word_bytes a.0)
object_bytes (object.Skipped n) h = spelt_bytes n 0 [] h.byte (omega arith) tt

objects_bytes : (xs : List Object) → AllByRecursion IsInRange xs → AreBytes (spellings xs)
objects_bytes [] h = tt
objects_bytes (x ∷ xs) h = joined (spelling x) (spellings xs) (object_bytes x h.0) (objects_bytes xs h.1)

-- ---- the whole
small_of : (b : List ℕ) → AreBytes b → AreSmall b
small_of [] h = λ i. omega arith
small_of (x ∷ xs) h = more x xs h.0 (small_of xs h.1)
  where
    more : (y : ℕ) (ys : List ℕ) → y < 2 ^ 8 → AreSmall ys → AreSmall (y ∷ ys)
    more y ys lt rest zero = omega (arith, lt)
    more y ys lt rest (suc i) = rest i

kind_byte : (k : Kind) → kind_number k < 2 ^ 8
kind_byte kind.Path = omega arith
kind_byte kind.Resv = omega arith
kind_byte kind.PathErr = omega arith
kind_byte kind.ResvErr = omega arith
kind_byte kind.PathTear = omega arith
kind_byte kind.ResvTear = omega arith
kind_byte kind.ResvConf = omega arith

header_bytes : (k : Kind) (sum n : ℕ) → AreBytes (header k sum n)
header_bytes k sum n = (omega arith, (kind_byte k, joined (half sum) (64 ∷ 0 ∷ half n) (half_bytes sum) (omega arith, (omega arith, half_bytes n))))

pub in_range_spelt : WhatIsInRangeIsSpelt
unfolding encoding sealed
in_range_spelt v range proper =
    let known = range_said v range in
    let body = body_of v in
    let k = kind_of v in
    let are : AreBytes body = objects_bytes (objects_of v) known.numbers in
    let short : length body ≤ 1016 = body_short v known.lists in
    read_again v (writable v proper known.numbers known.lists) (joined (header k (checksum k body) (8 + length body)) body (header_bytes k (checksum k body) (8 + length body)) are)
    (sealed_right k body short (small_of body are))
