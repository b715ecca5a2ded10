-- What was written is read again.
use Rattle.std.proofs.Common.{◌≡◌, ℕ, zero, suc, ◌+◌, ◌*◌, ◌/◌, ◌%◌, ◌^◌, ◌<◌, ◌≤◌, Bool, true, false, List, [], ◌∷◌, ◌++◌, length, drop, Option, Some, None, refl, ap, ◌∙◌, arith}
use Rattle.std.specs.Prelude.{not, ◌&&◌}
use Rattle.std.specs.List.{AllByRecursion, flat_map}
use Rattle.std.proofs.lemmas.Bool.{le-leb, eq-eqb}
use Rattle.std.proofs.lemmas.List.Concat.{flat_map-cons}
use Rattle.rsvp_objects.specs.Fields.{word, half, word_at, flag_if}
use Rattle.rsvp_objects.specs.RateFields.{peak_at}
use Rattle.rsvp_objects.specs.RateWord.{word_of}
use Rattle.rsvp_objects.proofs.Numbers.{word_again, half_again}
use Rattle.rsvp_objects.proofs.WordLaws.{each_rate_has_one_word}
use Rattle.rsvp_objects.specs.declared.adspec.Adspec.{Adspec}
use Rattle.rsvp_objects.specs.Fragment.{is_general, is_load, is_broken, counted, heads, others, loads, all_other, none_general, behind_in, IsFragments}
use Rattle.rsvp_objects.specs.Form.{words_in, has_general_part, values_in, adspec_in}
use Rattle.rsvp_objects.specs.AdspecSpelling.{load_words, behind, adspec_bytes}
use Rattle.rsvp_objects.specs.AdspecLaws.{IsAdspec, WhatWasWrittenIsReadAgain}
use Rattle.rsvp_objects.proofs.Bytes.{body_size}
use Rattle.rsvp_objects.proofs.AdspecContents.{values_some}

-- ---- words

abbrev AreWords : List ℕ → Type 0
AreWords ws = AllByRecursion (λ w. w < 2 ^ 32) ws

words_again : (ws : List ℕ) → AreWords ws → words_in (flat_map word ws) ≡ ws
unfolding words_in
words_again [] h = refl
words_again (w ∷ ws) h =
    let first = word_again w h.0 in
    let rest = words_again ws h.1 in
    ap words_in (flat_map-cons word w ws) ∙ (λ i. first i ∷ rest i)

-- ---- fragments

pub both : (a b : Bool) → (a && b) ≡ true → (a ≡ true) × (b ≡ true)
both true b e = (refl, e)
both false b e = absurd cc

no_load : (b : Bool) → not b ≡ true → b ≡ false
no_load true e = absurd cc
no_load false e = refl

loads_none : (ws : List ℕ) → all_other ws ≡ true → loads ws ≡ []
loads_none [] e = refl
loads_none (w ∷ ws) e =
    let p = both (not (is_general w) && not (is_load w)) (all_other ws) e in
    let q = both (not (is_general w)) (not (is_load w)) p.0 in
    rw (no_load (is_load w) q.1) (loads_none ws p.1)

general_none : (ws : List ℕ) → all_other ws ≡ true → none_general ws ≡ true
general_none [] e = refl
general_none (w ∷ ws) e =
    let p = both (not (is_general w) && not (is_load w)) (all_other ws) e in
    let q = both (not (is_general w)) (not (is_load w)) p.0 in
    rw q.0 (general_none ws p.1)

others_kept : (due : ℕ) (ws : List ℕ) → all_other (heads due ws) ≡ true → others due ws ≡ ws
others_kept due [] e = refl
others_kept zero (w ∷ ws) e =
    let p = both (not (is_general w) && not (is_load w)) (all_other (heads (counted w) ws)) e in
    let q = both (not (is_general w)) (not (is_load w)) p.0 in
    rw (no_load (is_load w) q.1) (ap (λ (t : List ℕ). w ∷ t) (others_kept (counted w) ws p.1))
others_kept (suc due) (w ∷ ws) e = ap (λ (t : List ℕ). w ∷ t) (others_kept due ws e)

behind_again : (load : Option Bool) (ws : List ℕ) → IsFragments ws → behind_in (load_words load ++ ws) ≡ Some (load, ws)
unfolding behind_in
behind_again None ws h = rw (h.whole, general_none (heads 0 ws) h.other, loads_none (heads 0 ws) h.other, others_kept 0 ws h.other, le-leb (length ws) 24 h.few) refl
behind_again (Some true) ws h = rw (h.whole, general_none (heads 0 ws) h.other, loads_none (heads 0 ws) h.other, others_kept 0 ws h.other, le-leb (length ws) 24 h.few) refl
behind_again (Some false) ws h = rw (h.whole, general_none (heads 0 ws) h.other, loads_none (heads 0 ws) h.other, others_kept 0 ws h.other, le-leb (length ws) 24 h.few) refl

are_words : (load : Option Bool) (ws : List ℕ) → AreWords ws → AreWords (load_words load ++ ws)
are_words None ws h = h
are_words (Some true) ws h = (omega arith, h)
are_words (Some false) ws h = (omega arith, h)

pub few_words : (load : Option Bool) (ws : List ℕ) → length ws ≤ 24 → length (load_words load ++ ws) ≤ 25
few_words None ws h = omega arith
few_words (Some broken) ws h = omega arith

-- ---- the general part

broken_again : (b : Bool) (rest : List ℕ) → is_broken (word_at 0 (1 ∷ flag_if b 128 ∷ half 8 ++ rest)) ≡ b
broken_again true rest = refl
broken_again false rest = refl

part_again : (a : Adspec) → length (behind a) ≤ 25 → has_general_part (adspec_bytes a) ≡ true
unfolding adspec_bytes
part_again a few =
    let size : 4 + 4 * (9 + length (behind a)) ≡ length (adspec_bytes a) = let s = body_size a in omega arith in
    rw (half_again (9 + length (behind a)) (omega arith), eq-eqb (4 + 4 * (9 + length (behind a))) (length (adspec_bytes a)) size) refl

peak_again : (a : Adspec) → IsAdspec a → peak_at 20 (adspec_bytes a) ≡ Some a.rate
unfolding adspec_bytes
peak_again a h =
    let p = each_rate_has_one_word a.rate h.rate in
    rw (word_again (word_of a.rate) p.short, p.read) refl

fragments_again : (a : Adspec) → IsAdspec a → behind_in (words_in (drop 40 (adspec_bytes a))) ≡ Some (a.load, a.others)
unfolding adspec_bytes
fragments_again a h = ap behind_in (words_again (behind a) (are_words a.load a.others h.words)) ∙ behind_again a.load a.others h.others

values_again : (a : Adspec) → IsAdspec a → values_in (adspec_bytes a) ≡ Some a
unfolding adspec_bytes
values_again a h =
    let b = broken_again a.broken [] in
    let n = word_again a.hops h.hops in
    let l = word_again a.latency h.latency in
    let m = word_again a.mtu h.mtu in
    values_some (adspec_bytes a) a.rate a.load a.others (peak_again a h) (fragments_again a h)
    ∙ (λ i. Some (record { broken = b i; hops = n i; rate = a.rate; latency = l i; mtu = m i; load = a.load; others = a.others }))

pub read_again : WhatWasWrittenIsReadAgain
unfolding adspec_in
read_again a h =
    let few = few_words a.load a.others h.others.few in
    let long : 40 ≤ length (adspec_bytes a) = let s = body_size a in omega arith in
    rw (le-leb 40 (length (adspec_bytes a)) long, part_again a few) (values_again a h)
