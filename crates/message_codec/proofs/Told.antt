-- What is told of bytes is the only thing that may be told.
use Rattle.std.proofs.Common.{◌≡◌, refl, Result, Ok, Err, IfOk, IfErr, Some, List, [], ℕ, length, get_or, Fits, w8, arith, sym, ap, subst, inl, inr}
use Rattle.rsvp_objects.specs.declared.object.Object.{Object}
use Rattle.rsvp_objects.specs.Fields.{AreBytes}
use Rattle.rsvp_messages.specs.declared.fault.Fault.{Fault}
use Rattle.rsvp_messages.specs.declared.fault.MsgErr.{MsgErr}
use Rattle.rsvp_messages.specs.declared.message.Kind.{Kind}
use Rattle.rsvp_messages.specs.declared.message.Message.{Message}
use Rattle.rsvp_messages.specs.Proper.{IsProper}
use Rattle.message_codec.specs.declared.seen.Seen.{Seen}
use Rattle.message_codec.specs.Finishing.{Finishes}
use Rattle.message_codec.specs.Hints.{IsHint}
use Rattle.message_codec.specs.Messages.{message_of}
use Rattle.message_codec.specs.Places.{Stand}
use Rattle.message_codec.specs.Said.{seen_of}
use Rattle.message_codec.specs.Spells.{header_of, StopsAt, Lacks, Fails, Spells, IsFirstFault}
use Rattle.message_codec.proofs.ProperRead.{what_is_spelt_is_proper, bytes_of}
use Rattle.message_codec.proofs.OneAnswer.{a_message_is_one, no_fault_where_spelt, the_first_fault_is_one}
use Rattle.message_codec.proofs.Spelling.{spells_of}
use Rattle.message_codec.proofs.Standing.{good}

-- of bytes the message that they spell, or their first fault
abbrev pub IsTold : List ℕ → Result Message MsgErr → Type 0
IsTold b (Ok v) = Spells b v
IsTold b (Err e) = IsFirstFault b e

-- the whole message was walked, and this is what its objects say
abbrev pub Walked : Kind → List ℕ → Seen → Type 0
Walked k b s = (xs : List Object) × Stand k b [] 8 xs (length b) × (s ≡ seen_of xs)

abbrev AreOctets : List ℕ → Type 0
AreOctets b = (i : ℕ) → Fits w8 (get_or b i 0)

fault_told : (k : Kind) (b : List ℕ) (e : MsgErr) (g : Fault)
    → header_of b ≡ good k → Fails k b g → e.fault ≡ g → e.kind ≡ Some k → IsHint b e.hint → IsFirstFault b e
fault_told k b e g header fails fault kind hint =
    inr (record { named = k; header = header; fault = subst (λ (x : Fault). Fails k b x) (sym fault) fails; kind = kind; hint = hint })

finished : (k : Kind) (b : List ℕ) (s : Seen) (r : Result Message MsgErr)
    → AreBytes b → header_of b ≡ good k → Walked k b s → Finishes k s b r → IsTold b r
finished k b s (Ok v) bytes header walked f =
    spells_of k b v bytes header (walked.0, walked.1, subst (λ (t : Seen). message_of k t ≡ Ok v) walked.2 f)
finished k b s (Err e) bytes header walked f =
    let lacks : Lacks k b e.fault = (walked.0, walked.1, subst (λ (t : Seen). message_of k t ≡ Err e.fault) walked.2 f.0) in
    fault_told k b e e.fault header (inr lacks) refl f.1 f.2

-- the walk stopped
pub stopped : (k : Kind) (b : List ℕ) (e : MsgErr) (g : Fault)
    → Ok k ≡ header_of b → StopsAt k b g → e.fault ≡ g → e.kind ≡ Some k → IsHint b e.hint → IsTold b (Err e)
stopped k b e g header stops fault kind hint = fault_told k b e g (sym header) (inl stops) fault kind hint

-- it came to the end, and the kind is this one
ended : (k j : Kind) (b : List ℕ) (s : Seen) (r : Result Message MsgErr)
    → AreOctets b → Ok k ≡ header_of b → Walked k b s → k ≡ j → Finishes j s b r → IsTold b r
ended k j b s r bytes header walked is f =
    finished k b s r (bytes_of b (λ i. omega (arith, bytes i))) (sym header) walked (subst (λ (i : Kind). Finishes i s b r) (sym is) f)

-- ---- the clauses of `decode`

pub told_only : (b : List ℕ) (r : Result Message MsgErr) → IsTold b r → (v : Message) → Spells b v → r ≡ Ok v
told_only b (Ok w) t v s = ap (λ (x : Message). Ok x) (a_message_is_one b w v t s)
told_only b (Err e) t v s = absurd (no_fault_where_spelt b v e s t)

pub told_first : (b : List ℕ) (r : Result Message MsgErr) → IsTold b r → (e : MsgErr) → IsFirstFault b e → r ≡ Err e
told_first b (Ok v) t e f = absurd (no_fault_where_spelt b v e t f)
told_first b (Err g) t e f = ap (λ (x : MsgErr). Err x) (the_first_fault_is_one b g e t f)

is_ok : (b : List ℕ) (r : Result Message MsgErr) → IsTold b r → IfOk r (Spells b)
is_ok b (Ok v) t = t
is_ok b (Err e) t = record {}

is_err : (b : List ℕ) (r : Result Message MsgErr) → IsTold b r → IfErr r (IsFirstFault b)
is_err b (Ok v) t = record {}
is_err b (Err e) t = t

is_proper : (b : List ℕ) (r : Result Message MsgErr) → AreBytes b → IsTold b r → IfOk r IsProper
is_proper b (Ok v) bytes t = what_is_spelt_is_proper b v bytes t
is_proper b (Err e) bytes t = record {}

pub ok : (k j : Kind) (b : List ℕ) (s : Seen) (r : Result Message MsgErr)
    → AreOctets b → Ok k ≡ header_of b → Walked k b s → k ≡ j → Finishes j s b r → IfOk r (Spells b)
ok k j b s r bytes header walked is f = is_ok b r (ended k j b s r bytes header walked is f)

pub err : (k j : Kind) (b : List ℕ) (s : Seen) (r : Result Message MsgErr)
    → AreOctets b → Ok k ≡ header_of b → Walked k b s → k ≡ j → Finishes j s b r → IfErr r (IsFirstFault b)
err k j b s r bytes header walked is f = is_err b r (ended k j b s r bytes header walked is f)

pub only : (k j : Kind) (b : List ℕ) (s : Seen) (r : Result Message MsgErr)
    → AreOctets b → Ok k ≡ header_of b → Walked k b s → k ≡ j → Finishes j s b r → (v : Message) → Spells b v → r ≡ Ok v
only k j b s r bytes header walked is f = told_only b r (ended k j b s r bytes header walked is f)

pub first : (k j : Kind) (b : List ℕ) (s : Seen) (r : Result Message MsgErr)
    → AreOctets b → Ok k ≡ header_of b → Walked k b s → k ≡ j → Finishes j s b r → (e : MsgErr) → IsFirstFault b e → r ≡ Err e
first k j b s r bytes header walked is f = told_first b r (ended k j b s r bytes header walked is f)

pub proper : (k j : Kind) (b : List ℕ) (s : Seen) (r : Result Message MsgErr)
    → AreOctets b → Ok k ≡ header_of b → Walked k b s → k ≡ j → Finishes j s b r → IfOk r IsProper
proper k j b s r bytes header walked is f =
    is_proper b r (bytes_of b (λ i. omega (arith, bytes i))) (ended k j b s r bytes header walked is f)
