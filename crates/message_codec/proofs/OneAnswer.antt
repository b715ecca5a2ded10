-- Bytes spell at most one message, else have one first fault, and never both.
use Rattle.std.proofs.Common.{◌≡◌, ℕ, List, [], length, Some, sym, ap, subst, ◌∙◌, inl, inr}
use Rattle.rsvp_objects.specs.declared.object.Object.{Object}
use Rattle.rsvp_messages.specs.declared.fault.Fault.{Fault}
use Rattle.rsvp_messages.specs.declared.fault.MsgErr.{MsgErr}
use Rattle.rsvp_messages.specs.declared.message.Kind.{Kind}
use Rattle.rsvp_messages.specs.declared.message.Message.{Message}
use Rattle.message_codec.specs.Messages.{message_of}
use Rattle.message_codec.specs.Places.{Stand}
use Rattle.message_codec.specs.Said.{seen_of}
use Rattle.rsvp_messages.specs.Kinds.{kind_of}
use Rattle.message_codec.specs.Spells.{Says, Fails, Spells}
use Rattle.message_codec.specs.Laws.{AMessageIsOne, NoFaultWhereSpelt, TheFirstFaultIsOne}
use Rattle.message_codec.proofs.Hinted.{one_hint}
use Rattle.message_codec.proofs.Spelling.{says_of}
use Rattle.message_codec.proofs.Standing.{good, bad, good_is, bad_is, one_list, no_stop, one_stop}

-- ---- behind the header

same_end : (kind : Kind) (b : List ℕ) (xs ys : List Object) → Stand kind b [] 8 xs (length b) → Stand kind b [] 8 ys (length b) → message_of kind (seen_of xs) ≡ message_of kind (seen_of ys)
same_end kind b xs ys s t = ap (λ (zs : List Object). message_of kind (seen_of zs)) (one_list kind b [] 8 xs ys s t)

pub one_saying : (kind : Kind) (b : List ℕ) (v w : Message) → Says kind b v → Says kind b w → v ≡ w
one_saying kind b v w s t = good_is (sym s.2 ∙ same_end kind b s.0 t.0 s.1 t.1 ∙ t.2)

pub no_fail : (kind : Kind) (b : List ℕ) (v : Message) (g : Fault) → Says kind b v → Fails kind b g → ⊥
no_fail kind b v g s (inl t) = no_stop kind b [] 8 s.0 t.0 t.1 g s.1 t.2 t.3 t.4
no_fail kind b v g s (inr t) = let both : good v ≡ bad g = sym s.2 ∙ same_end kind b s.0 t.0 s.1 t.1 ∙ t.2 in cc

one_fail : (kind : Kind) (b : List ℕ) (g h : Fault) → Fails kind b g → Fails kind b h → g ≡ h
one_fail kind b g h (inl s) (inl t) = one_stop kind b [] 8 s.0 t.0 s.1 t.1 g h s.2 t.2 s.4 t.4
one_fail kind b g h (inl s) (inr t) = absurd (no_stop kind b [] 8 t.0 s.0 s.1 g t.1 s.2 s.3 s.4)
one_fail kind b g h (inr s) (inl t) = absurd (no_stop kind b [] 8 s.0 t.0 t.1 h s.1 t.2 t.3 t.4)
one_fail kind b g h (inr s) (inr t) = bad_is g h (sym s.2 ∙ same_end kind b s.0 t.0 s.1 t.1 ∙ t.2)

-- ---- the whole

pub kind_is : (j k : Kind) → good j ≡ good k → j ≡ k
kind_is j k e = cc

kind_named : (b : List ℕ) (v w : Message) → Spells b v → Spells b w → kind_of w ≡ kind_of v
kind_named b v w s t = kind_is (kind_of w) (kind_of v) (sym t.0 ∙ s.0)

pub a_message_is_one : AMessageIsOne
a_message_is_one b v w s t = one_saying (kind_of v) b v w (says_of b v s.1) (subst (λ (k : Kind). Says k b w) (kind_named b v w s t) (says_of b w t.1))

pub no_fault_where_spelt : NoFaultWhereSpelt
no_fault_where_spelt b v e s (inl h) = let both : good (kind_of v) ≡ bad e.fault = sym s.0 ∙ h.fault in cc
no_fault_where_spelt b v e s (inr h) = no_fail (kind_of v) b v e.fault (says_of b v s.1) (subst (λ (k : Kind). Fails k b e.fault) (kind_is h.named (kind_of v) (sym h.header ∙ s.0)) h.fault)

error_is : (e f : MsgErr) → e.fault ≡ f.fault → e.kind ≡ f.kind → e.hint ≡ f.hint → e ≡ f
error_is e f p q r = λ i. record { fault = p i; kind = q i; hint = r i }

pub the_first_fault_is_one : TheFirstFaultIsOne
the_first_fault_is_one b e f (inl s) (inl t) = error_is e f (bad_is {A = Kind} e.fault f.fault (sym s.fault ∙ t.fault)) (s.kind ∙ sym t.kind) (s.hint ∙ sym t.hint)
the_first_fault_is_one b e f (inl s) (inr t) = absurd (let both : good t.named ≡ bad e.fault = sym t.header ∙ s.fault in cc)
the_first_fault_is_one b e f (inr s) (inl t) = absurd (let both : good s.named ≡ bad f.fault = sym s.header ∙ t.fault in cc)
the_first_fault_is_one b e f (inr s) (inr t) =
    let named : t.named ≡ s.named = kind_is t.named s.named (sym t.header ∙ s.header) in
    let fault = one_fail s.named b e.fault f.fault s.fault (subst (λ (k : Kind). Fails k b f.fault) named t.fault) in
    error_is e f fault (s.kind ∙ ap (λ (k : Kind). Some k) (sym named) ∙ sym t.kind) (one_hint b e.hint f.hint s.hint t.hint)
