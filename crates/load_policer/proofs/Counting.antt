-- There are no more packets than lines, and no more lines than bytes: counts in 64 bits are exact.
use Rattle.std.proofs.Common.{◌≡◌, ℕ, ◌+◌, ◌≤◌, ◌==◌, Bool, true, false, cond, List, [], ◌∷◌, Option, None, Some, length, ap, arith, length-append}
use Rattle.std.proofs.lemmas.List.Sums.{count_by-le-length}
use Rattle.std.proofs.lemmas.List.Splits.{length-slice_split}
use Rattle.byte_streams.specs.Reading.{most_bytes}
use Rattle.rsvp_base.specs.TokenBucket.{TokenBucket}
use Rattle.script_words.specs.Lines.{text_lines, without_empty_last}
use Rattle.script_words.specs.Parts.{parts_of}
use Rattle.load_policer.specs.Policing.{Packet, packet, with_passed}
use Rattle.load_policer.specs.declared.policer.Verdict.{Verdict}
use Rattle.load_policer.specs.declared.policer.Verdict.TheVariants.{Pass, Over, Big}
use Rattle.load_policer.specs.Drafts.{Adds, Draft, IsOffered, Leads, nothing}
use Rattle.load_policer.specs.Standings.{counted}
use Rattle.load_policer.specs.declared.line.PacketLine.{PacketLine}
use Rattle.load_policer.specs.declared.line.PacketLine.TheVariants as line

-- ---- packets and lines
-- at most one more of each
record IsOneMore (d new : Draft) : Type 0 where
  passed : length new.passed ≤ length d.passed + 1
  verdicts : length new.verdicts ≤ length d.verdicts + 1

passed_more : (v : Verdict) (ps : List Packet) (x : Packet) → length (with_passed v ps x) ≤ length ps + 1
passed_more Pass ps x = omega (arith, length-append ps (x ∷ []))
passed_more Over ps x = omega arith
passed_more Big ps x = omega arith

same_more : (d new : Draft) → new.passed ≡ d.passed → new.verdicts ≡ d.verdicts → IsOneMore d new
same_more d new p t = record {
  passed = omega (arith, ap (λ (xs : List Packet). length xs) p);
  verdicts = omega (arith, ap (λ (xs : List Verdict). length xs) t);
}

offered_more : (f : Option TokenBucket) (d : Draft) (x : Packet) (new : Draft) → IsOffered f d x new → IsOneMore d new
offered_more None d x new i = absurd i
offered_more (Some f) d x new i = record {
  passed = omega (arith, ap (λ (n : Draft). length n.passed) i.2, passed_more i.0 d.passed x);
  verdicts = omega (arith, ap (λ (n : Draft). length n.verdicts) i.2, length-append d.verdicts (i.0 ∷ []));
}

adds_more : (d : Draft) (said : PacketLine) (new : Draft) → Adds d said new → IsOneMore d new
adds_more d line.Skipped new x = same_more d new (ap (λ (n : Draft). n.passed) x) (ap (λ (n : Draft). n.verdicts) x)
adds_more d (line.Flow w) new x = same_more d new (ap (λ (n : Draft). n.passed) x) (ap (λ (n : Draft). n.verdicts) x)
adds_more d (line.Packet at size) new x = offered_more d.flow d (packet at size) new x

leads_more : (d : Draft) (ts : List (List ℕ)) (new : Draft) → Leads d ts new → (length new.passed ≤ length d.passed + length ts) × (length new.verdicts ≤ length d.verdicts + length ts)
leads_more d [] new l = (omega (arith, ap (λ (n : Draft). length n.passed) l), omega (arith, ap (λ (n : Draft). length n.verdicts) l))
leads_more d (t ∷ ts) new l =
    let one = adds_more d l.1.said l.0 l.1.adds in
    let rest = leads_more l.0 ts new l.2 in
    (omega (arith, one.passed, rest.0), omega (arith, one.verdicts, rest.1))

-- ---- lines and bytes
last_few : (last : List ℕ) (b : Bool) → length (cond b [] (last ∷ [])) ≤ 1
last_few last true = omega arith
last_few last false = omega arith

without_few : (parts : List (List ℕ)) → length (without_empty_last parts) ≤ length parts
without_few [] = omega arith
without_few (last ∷ []) = last_few last (length last == 0)
without_few (part ∷ next ∷ parts) = let rest = without_few (next ∷ parts) in omega (arith, rest)

lines_few : (bytes : List ℕ) → length (text_lines bytes) ≤ length bytes + 1
lines_few bytes = omega (arith, without_few (parts_of 10 bytes), length-slice_split (λ c. c == 10) bytes, count_by-le-length (λ c. c == 10) bytes)

-- ---- counts
pub counts_exact : (lines : List (List ℕ)) (bytes : List ℕ) (d : Draft) → Leads nothing lines d → text_lines bytes ≡ lines → length bytes ≤ most_bytes
    → (counted (length d.passed) ≡ length d.passed) × (counted (length d.verdicts) ≡ length d.verdicts)
counts_exact lines bytes d l same few =
    let more = leads_more nothing lines d l in
    let count = lines_few bytes in
    let all : length (text_lines bytes) ≡ length lines = ap (λ (ls : List (List ℕ)). length ls) same in
    (omega (arith, more.0, count, all, few), omega (arith, more.1, count, all, few))
