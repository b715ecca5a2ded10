-- Writing the length and the checksum into a header with zeros there makes the header of the message.
use Rattle.std.proofs.Common.{◌≡◌, ℕ, suc, List, ◌++◌, get_or, slice_set, ◌∙◌, arith}
use Rattle.rsvp_messages.specs.declared.message.Kind.{Kind}
use Rattle.rsvp_objects.specs.Fields.{half}
use Rattle.message_codec.specs.Encoding.{header}
use Rattle.message_codec.proofs.Sums.{AreSmall}

pub sized : (k : Kind) (old body s1 s2 z : List ℕ) (n : ℕ) → old ≡ header k 0 0 ++ body → z ≡ half n → s1 ≡ slice_set old 6 (get_or z 0 0) → s2 ≡ slice_set s1 7 (get_or z 1 0)
    → s2 ≡ header k 0 n ++ body
sized k old body s1 s2 z n e ez e1 e2 =
    let f1 : s1 ≡ slice_set (header k 0 0 ++ body) 6 (get_or (half n) 0 0) = e1 ∙ (λ i. slice_set (e i) 6 (get_or (ez i) 0 0)) in
    e2 ∙ (λ i. slice_set (f1 i) 7 (get_or (ez i) 1 0))

pub summed : (k : Kind) (old body s1 s2 z : List ℕ) (c n : ℕ) → old ≡ header k 0 n ++ body → z ≡ half c → s1 ≡ slice_set old 2 (get_or z 0 0) → s2 ≡ slice_set s1 3 (get_or z 1 0)
    → s2 ≡ header k c n ++ body
summed k old body s1 s2 z c n e ez e1 e2 =
    let f1 : s1 ≡ slice_set (header k 0 n ++ body) 2 (get_or (half c) 0 0) = e1 ∙ (λ i. slice_set (e i) 2 (get_or (ez i) 0 0)) in
    e2 ∙ (λ i. slice_set (f1 i) 3 (get_or (ez i) 1 0))

pub small_behind : (k : Kind) (old body : List ℕ) → old ≡ header k 0 0 ++ body → AreSmall old → AreSmall body
small_behind k old body e h = λ j.
    let here : get_or old (suc (suc (suc (suc (suc (suc (suc (suc j)))))))) 0 ≡ get_or body j 0 = λ i. get_or (e i) (suc (suc (suc (suc (suc (suc (suc (suc j)))))))) 0 in
    omega (arith, h (suc (suc (suc (suc (suc (suc (suc (suc j)))))))), here)
