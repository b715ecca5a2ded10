-- How many bytes were taken, by how the lines ended.
use Rattle.std.proofs.Common.{◌≡◌, ◌≢◌, ℕ, ◌+◌, ◌≤◌, Option, Some, length, refl, sym, ap, subst, ◌∙◌, arith, inl, inr}
use Rattle.byte_streams.specs.Reading.{most_bytes}
use Rattle.byte_streams.specs.Streams.{Held, IsBounded, IsOpenOrLast, IsWithinInput}
use Rattle.byte_streams.specs.declared.answer.NextLine.{NextLine}
use Rattle.byte_streams.specs.declared.answer.NextLine.TheVariants.{Line, Long, End, Fault, TooLong}

pub never_line : (taken : ℕ) (ended : Option NextLine) (a : NextLine) → IsWithinInput taken ended → ended ≡ Some a → a ≡ Line → ⊥
never_line taken ended a w e l = subst (IsWithinInput taken) (e ∙ ap Some l) w

pub too_many : (h : Held) (r : NextLine) → IsBounded h → (r ≢ Line → h.ended ≡ Some r) → r ≡ TooLong → h.taken ≡ most_bytes + 1
too_many h r b ended e =
    let other : r ≢ Line = λ l. let z : TooLong ≡ Line = sym e ∙ l in cc in
    subst (IsWithinInput h.taken) (ended other ∙ ap Some e) b.within

pub few_taken : (h : Held) (r : NextLine) → IsBounded h → (r ≡ Line → IsOpenOrLast h.ended) → (r ≢ Line → h.ended ≡ Some r) → r ≢ TooLong → h.taken ≤ most_bytes
few_taken h Line b going ended n = elim (going refl) [
  | inl e ↦ subst (IsWithinInput h.taken) e b.within
  | inr e ↦ subst (IsWithinInput h.taken) e b.within
]
few_taken h Long b going ended n = subst (IsWithinInput h.taken) (ended (λ l. let z : Long ≡ Line = l in cc)) b.within
few_taken h End b going ended n = subst (IsWithinInput h.taken) (ended (λ l. let z : End ≡ Line = l in cc)) b.within
few_taken h Fault b going ended n = subst (IsWithinInput h.taken) (ended (λ l. let z : Fault ≡ Line = l in cc)) b.within
few_taken h TooLong b going ended n = absurd (n refl)

pub few_bytes : (h : Held) → IsBounded h → length h.line + length h.bytes ≤ 8192
few_bytes h b = omega (arith, b.line, b.bytes)
