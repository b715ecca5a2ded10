-- What a run over some bytes comes to, where it ends neither by a fault of a device nor out of memory.
use Rattle.std.proofs.Common.{◌≡◌, ℕ, ◌≤◌, List, Option, Some, length, refl, sym, ap, subst, ◌∙◌, arith, inl, inr}
use Rattle.byte_streams.specs.Reading.{most_bytes}
use Rattle.script_words.specs.Lines.{line_number, text_lines}
use Rattle.script_grammar.specs.Runs.{run_text}
use Rattle.script_grammar.specs.Draft.{Draft, nothing, plan_of}
use Rattle.script_grammar.specs.Grammar.{HasFault, Leads}
use Rattle.script_grammar.proofs.Scripts.{fault_one, fault_or_follows, leads_one}
use Rattle.script_grammar.specs.declared.fault.Fault.{Fault}
use Rattle.script_run.specs.Playing.{IsCrowdedBy}
use Rattle.script_run.specs.Written.{HasRun}
use Rattle.script_run.specs.Endings.{ComesTo, IsFirst, IsFirstBad, IsFirstCrowded, IsOrNoMemory, IsRun}
use Rattle.script_run.specs.declared.ending.Ending.{Ending}
use Rattle.script_run.specs.declared.ending.Ending.TheVariants.{Done, BadLine, ReadFault, WriteFault, NoMemory, Crowded, TooLong}
use Rattle.byte_streams.proofs.Known.{all_known}
use Rattle.byte_streams.proofs.Places.{which_place}
use Rattle.script_run.proofs.Firsts.{Ends, bad, crowded, no_way_past}

-- ---- one text for lines that were run
one_text : (lines : List (List ℕ)) (x y : List ℕ) → HasRun lines x → HasRun lines y → x ≡ y
one_text lines x y a b = a.run.text_is ∙ ap (λ (d : Draft). run_text (plan_of d)) (leads_one nothing lines a.draft b.draft a.leads b.leads) ∙ sym b.run.text_is

-- ---- a line at which a run ends, behind lines that were run
abbrev IsStop : List ℕ → List ℕ → Type 0
IsStop bytes text = IsFirst Ends bytes text

abbrev stop_so : (C : Draft → List ℕ → Type 0) (bytes text : List ℕ) → ((d : Draft) (t : List ℕ) → C d t → Ends d t) → IsFirst C bytes text → IsStop bytes text
stop_so C bytes text ends f = record { before = f.before; line = f.line; after = f.after; parts = f.parts; ran = f.ran; holds = ends f.ran.draft f.line f.holds }

abbrev bad_stop : (n : ℕ) (why : Fault) (bytes text : List ℕ) → IsFirstBad n why bytes text → IsStop bytes text
bad_stop n why bytes text f = stop_so (λ d t. HasFault d t why) bytes text (λ d t h. bad why h) f.at

abbrev crowded_stop : (bytes text : List ℕ) → IsFirstCrowded bytes text → IsStop bytes text
crowded_stop bytes text f = stop_so IsCrowdedBy bytes text (λ d t h. crowded h) f

no_end : (bytes x y : List ℕ) → HasRun (text_lines bytes) x → IsStop bytes y → ⊥
no_end bytes x y a s = no_way_past s.before s.line s.after s.ran.draft a.draft x s.ran.leads s.holds (subst (λ (ls : List (List ℕ)). Leads nothing ls a.draft) s.parts a.leads) a.run

-- two such lines stand at one place
record AreOne (bytes x y : List ℕ) (a : IsStop bytes x) (b : IsStop bytes y) : Type 0 where
  before : a.before ≡ b.before
  line : a.line ≡ b.line
  draft : a.ran.draft ≡ b.ran.draft
  text : x ≡ y

one_stop : (bytes x y : List ℕ) (a : IsStop bytes x) (b : IsStop bytes y) → AreOne bytes x y a b
one_stop bytes x y a b = elim (which_place a.before a.line a.after b.before b.line b.after (sym a.parts ∙ b.parts)) [
  | inl h ↦ (
      let there : HasRun b.before x = subst (λ (ls : List (List ℕ)). HasRun ls x) h.0 a.ran in
      let leads : Leads nothing b.before a.ran.draft = subst (λ (ls : List (List ℕ)). Leads nothing ls a.ran.draft) h.0 a.ran.leads in
      record { before = h.0; line = h.1; draft = leads_one nothing b.before a.ran.draft b.ran.draft leads b.ran.leads; text = one_text b.before x y there b.ran })
  | inr h ↦ elim h [
    | inl m ↦ absurd (no_way_past b.before b.line m.0 b.ran.draft a.ran.draft x b.ran.leads b.holds (subst (λ (ls : List (List ℕ)). Leads nothing ls a.ran.draft) m.1 a.ran.leads) a.ran.run)
    | inr m ↦ absurd (no_way_past a.before a.line m.0 a.ran.draft b.ran.draft y a.ran.leads a.holds (subst (λ (ls : List (List ℕ)). Leads nothing ls b.ran.draft) m.1 b.ran.leads) b.ran.run)
  ]
]

-- what holds of the one holds of the other
here : (bytes x y : List ℕ) (v : Fault) (a : IsStop bytes x) (b : IsStop bytes y) → AreOne bytes x y a b → HasFault a.ran.draft a.line v → HasFault b.ran.draft b.line v
here bytes x y v a b one h = subst (λ d. HasFault d b.line v) one.draft (subst (λ t. HasFault a.ran.draft t v) one.line h)

-- ---- a run comes to one ending and one text
abbrev pub AreSame : Ending → Ending → List ℕ → List ℕ → Type 0
AreSame a b x y = (a ≡ b) × (x ≡ y)

bad_same : (bytes x y : List ℕ) (m n : ℕ) (v w : Fault) → IsFirstBad m v bytes x → IsFirstBad n w bytes y → AreSame (BadLine m v) (BadLine n w) x y
bad_same bytes x y m n v w f g =
    let a = bad_stop m v bytes x f in
    let b = bad_stop n w bytes y g in
    let one = one_stop bytes x y a b in
    let number : m ≡ n = f.counted ∙ ap (λ (ls : List (List ℕ)). line_number (length ls)) one.before ∙ sym g.counted in
    let why : v ≡ w = fault_one b.ran.draft b.line v w (here bytes x y v a b one f.at.holds) g.at.holds in
    (ap (λ k. BadLine k v) number ∙ ap (λ f. BadLine n f) why, one.text)

bad_or_crowded : (bytes x y : List ℕ) (m : ℕ) (v : Fault) → IsFirstBad m v bytes x → IsFirstCrowded bytes y → ⊥
bad_or_crowded bytes x y m v f g =
    let a = bad_stop m v bytes x f in
    let b = crowded_stop bytes y g in
    fault_or_follows b.ran.draft b.line v g.holds.new (here bytes x y v a b (one_stop bytes x y a b) f.at.holds) g.holds.follows

pub one_ending : (bytes x y : List ℕ) (a b : Ending) → ComesTo a bytes x → ComesTo b bytes y → AreSame a b x y
one_ending bytes x y Done Done h k = (refl, one_text (text_lines bytes) x y h k)
one_ending bytes x y Done (BadLine n w) h k = absurd (no_end bytes x y h (bad_stop n w bytes y k))
one_ending bytes x y Done Crowded h k = absurd (no_end bytes x y h (crowded_stop bytes y k))
one_ending bytes x y (BadLine m v) Done h k = absurd (no_end bytes y x k (bad_stop m v bytes x h))
one_ending bytes x y (BadLine m v) (BadLine n w) h k = bad_same bytes x y m n v w h k
one_ending bytes x y (BadLine m v) Crowded h k = absurd (bad_or_crowded bytes x y m v h k)
one_ending bytes x y Crowded Done h k = absurd (no_end bytes y x k (crowded_stop bytes x h))
one_ending bytes x y Crowded (BadLine n w) h k = absurd (bad_or_crowded bytes y x n w k h)
one_ending bytes x y Crowded Crowded h k = (refl, (one_stop bytes x y (crowded_stop bytes x h) (crowded_stop bytes y k)).text)
one_ending bytes x y Done ReadFault h k = absurd k
one_ending bytes x y Done WriteFault h k = absurd k
one_ending bytes x y Done NoMemory h k = absurd k
one_ending bytes x y Done TooLong h k = absurd k
one_ending bytes x y (BadLine m v) ReadFault h k = absurd k
one_ending bytes x y (BadLine m v) WriteFault h k = absurd k
one_ending bytes x y (BadLine m v) NoMemory h k = absurd k
one_ending bytes x y (BadLine m v) TooLong h k = absurd k
one_ending bytes x y Crowded ReadFault h k = absurd k
one_ending bytes x y Crowded WriteFault h k = absurd k
one_ending bytes x y Crowded NoMemory h k = absurd k
one_ending bytes x y Crowded TooLong h k = absurd k
one_ending bytes x y ReadFault b h k = absurd h
one_ending bytes x y WriteFault b h k = absurd h
one_ending bytes x y NoMemory b h k = absurd h
one_ending bytes x y TooLong b h k = absurd h

-- ---- the run of known bytes
pub comes_to : (s : Draft → Type 0) (got wanted : Ending) (old new before after : Option (List ℕ)) (bytes text : List ℕ) → IsRun s got old new before after → old ≡ Some bytes
    → length bytes ≤ most_bytes → ComesTo wanted bytes text
    → (got ≡ ReadFault → ⊥) → (got ≡ WriteFault → ⊥) → IsOrNoMemory wanted got
comes_to s Done wanted old new before after bytes text r e le c read write =
    let known = all_known old new bytes r.taken e r.took in
    inl (one_ending bytes r.text text Done wanted (subst (λ (b : List ℕ). HasRun (text_lines b) r.text) known.0 r.ended.ran) c).0
comes_to s (BadLine n why) wanted old new before after bytes text r e le c read write =
    let known = all_known old new bytes r.taken e r.took in
    inl (one_ending bytes r.text text (BadLine n why) wanted (subst (λ (b : List ℕ). IsFirstBad n why b r.text) known.0 r.ended.0) c).0
comes_to s Crowded wanted old new before after bytes text r e le c read write =
    let known = all_known old new bytes r.taken e r.took in
    inl (one_ending bytes r.text text Crowded wanted (subst (λ (b : List ℕ). IsFirstCrowded b r.text) known.0 r.ended.0) c).0
comes_to s ReadFault wanted old new before after bytes text r e le c read write = absurd (read refl)
comes_to s WriteFault wanted old new before after bytes text r e le c read write = absurd (write refl)
comes_to s NoMemory wanted old new before after bytes text r e le c read write = inr refl
comes_to s TooLong wanted old new before after bytes text r e le c read write =
    let known = all_known old new bytes r.taken e r.took in
    absurd (omega (arith, r.counted, le, known.1))
