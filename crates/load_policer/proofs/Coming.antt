-- What policing some bytes comes to, where it ends neither by a fault of a device nor out of memory.
use Rattle.std.proofs.Common.{◌≡◌, ℕ, ◌≤◌, List, ◌++◌, Option, Some, length, refl, sym, ap, subst, ◌∙◌, arith, inl, inr}
use Rattle.byte_streams.specs.Reading.{most_bytes}
use Rattle.script_words.specs.Lines.{line_number, text_lines}
use Rattle.script_words.specs.declared.fault.LineWhy.{LineWhy}
use Rattle.byte_streams.proofs.Known.{all_known}
use Rattle.byte_streams.proofs.Places.{which_place}
use Rattle.load_policer.specs.Drafts.{Draft, HasFault, Leads, nothing}
use Rattle.load_policer.specs.Endings.{ComesTo, HasRun, IsFirstBad, IsOrNoMemory, IsPoliced, IsWhole}
use Rattle.load_policer.specs.Texts.{last_text, verdicts_text}
use Rattle.load_policer.specs.declared.ending.Ending.{Ending}
use Rattle.load_policer.specs.declared.ending.Ending.TheVariants.{Done, BadLine, ReadFault, WriteFault, NoMemory, TooLong}
use Rattle.load_policer.proofs.Leading.{fault_one, leads_one, no_way_past}

-- ---- one text for lines that were policed
one_text : (lines : List (List ℕ)) (x y : List ℕ) → HasRun lines x → HasRun lines y → x ≡ y
one_text lines x y a b = a.run ∙ ap (λ (d : Draft). verdicts_text d.verdicts) (leads_one nothing lines a.draft b.draft a.leads b.leads) ∙ sym b.run

whole_one : (bytes x y : List ℕ) → IsWhole bytes x → IsWhole bytes y → x ≡ y
whole_one bytes x y a b =
    let same : a.ran.draft ≡ b.ran.draft = leads_one nothing (text_lines bytes) a.ran.draft b.ran.draft a.ran.leads b.ran.leads in
    a.text_is ∙ ap (λ (t : List ℕ). t ++ last_text a.ran.draft) (one_text (text_lines bytes) a.said b.said a.ran b.ran) ∙ ap (λ (d : Draft). b.said ++ last_text d) same ∙ sym b.text_is

no_end : (bytes x y : List ℕ) (n : ℕ) (w : LineWhy) → IsWhole bytes x → IsFirstBad n w bytes y → ⊥
no_end bytes x y n w a f =
    no_way_past f.at.before f.at.line f.at.after f.at.ran.draft a.ran.draft w f.at.ran.leads f.at.holds (subst (λ (ls : List (List ℕ)). Leads nothing ls a.ran.draft) f.at.parts a.ran.leads)

-- ---- one bad line, one fault
bad_same : (bytes x y : List ℕ) (m n : ℕ) (v w : LineWhy) → IsFirstBad m v bytes x → IsFirstBad n w bytes y → (BadLine m v ≡ BadLine n w) × (x ≡ y)
bad_same bytes x y m n v w f g = elim (which_place f.at.before f.at.line f.at.after g.at.before g.at.line g.at.after (sym f.at.parts ∙ g.at.parts)) [
  | inl h ↦ (
      let there : HasRun g.at.before x = subst (λ (ls : List (List ℕ)). HasRun ls x) h.0 f.at.ran in
      let leads : Leads nothing g.at.before f.at.ran.draft = subst (λ (ls : List (List ℕ)). Leads nothing ls f.at.ran.draft) h.0 f.at.ran.leads in
      let draft : f.at.ran.draft ≡ g.at.ran.draft = leads_one nothing g.at.before f.at.ran.draft g.at.ran.draft leads g.at.ran.leads in
      let number : m ≡ n = f.counted ∙ ap (λ (ls : List (List ℕ)). line_number (length ls)) h.0 ∙ sym g.counted in
      let fault : HasFault g.at.ran.draft g.at.line v = subst (λ (d : Draft). HasFault d g.at.line v) draft (subst (λ (t : List ℕ). HasFault f.at.ran.draft t v) h.1 f.at.holds) in
      let why : v ≡ w = fault_one g.at.ran.draft g.at.line v w fault g.at.holds in
      (ap (λ k. BadLine k v) number ∙ ap (λ z. BadLine n z) why, one_text g.at.before x y there g.at.ran))
  | inr h ↦ elim h [
    | inl k ↦ absurd (no_way_past g.at.before g.at.line k.0 g.at.ran.draft f.at.ran.draft w g.at.ran.leads g.at.holds
        (subst (λ (ls : List (List ℕ)). Leads nothing ls f.at.ran.draft) k.1 f.at.ran.leads))
    | inr k ↦ absurd (no_way_past f.at.before f.at.line k.0 f.at.ran.draft g.at.ran.draft v f.at.ran.leads f.at.holds
        (subst (λ (ls : List (List ℕ)). Leads nothing ls g.at.ran.draft) k.1 g.at.ran.leads))
  ]
]

pub one_ending : (bytes x y : List ℕ) (a b : Ending) → ComesTo a bytes x → ComesTo b bytes y → (a ≡ b) × (x ≡ y)
one_ending bytes x y Done Done h k = (refl, whole_one bytes x y h k)
one_ending bytes x y Done (BadLine n w) h k = absurd (no_end bytes x y n w h k)
one_ending bytes x y (BadLine m v) Done h k = absurd (no_end bytes y x m v k h)
one_ending bytes x y (BadLine m v) (BadLine n w) h k = bad_same bytes x y m n v w h k
one_ending bytes x y Done ReadFault h k = absurd k
one_ending bytes x y Done WriteFault h k = absurd k
one_ending bytes x y Done NoMemory h k = absurd k
one_ending bytes x y Done TooLong h k = absurd k
one_ending bytes x y (BadLine m v) ReadFault h k = absurd k
one_ending bytes x y (BadLine m v) WriteFault h k = absurd k
one_ending bytes x y (BadLine m v) NoMemory h k = absurd k
one_ending bytes x y (BadLine m v) TooLong h k = absurd k
one_ending bytes x y ReadFault b h k = absurd h
one_ending bytes x y WriteFault b h k = absurd h
one_ending bytes x y NoMemory b h k = absurd h
one_ending bytes x y TooLong b h k = absurd h

-- ---- policing known bytes
pub comes_to : (got wanted : Ending) (old new before after : Option (List ℕ)) (bytes text : List ℕ) → IsPoliced got old new before after → old ≡ Some bytes → length bytes ≤ most_bytes
    → ComesTo wanted bytes text
    → (got ≡ ReadFault → ⊥) → (got ≡ WriteFault → ⊥) → IsOrNoMemory wanted got
comes_to Done wanted old new before after bytes text r e le c read write =
    let known = all_known old new bytes r.taken e r.took in
    inl (one_ending bytes r.text text Done wanted (subst (λ (b : List ℕ). IsWhole b r.text) known.0 r.ended.1) c).0
comes_to (BadLine n why) wanted old new before after bytes text r e le c read write =
    let known = all_known old new bytes r.taken e r.took in
    inl (one_ending bytes r.text text (BadLine n why) wanted (subst (λ (b : List ℕ). IsFirstBad n why b r.text) known.0 r.ended.0) c).0
comes_to ReadFault wanted old new before after bytes text r e le c read write = absurd (read refl)
comes_to WriteFault wanted old new before after bytes text r e le c read write = absurd (write refl)
comes_to NoMemory wanted old new before after bytes text r e le c read write = inr refl
comes_to TooLong wanted old new before after bytes text r e le c read write =
    let known = all_known old new bytes r.taken e r.took in
    absurd (omega (arith, r.counted, le, known.1))
