-- What passes of a stream keeps the bound of its flow.
use Rattle.std.proofs.Common.{◌≡◌, ℕ, List, [], ◌∷◌, ◌++◌, true, Option, None, Some, is_some, refl, sym, subst, append_assoc, append-nil}
use Rattle.rsvp_base.specs.TokenBucket.{TokenBucket}
use Rattle.script_words.specs.Flows.{flow_value}
use Rattle.script_words.specs.Steps.{◌>>=◌}
use Rattle.script_words.specs.declared.raw.FlowWord.{FlowWord}
use Rattle.load_policer.specs.Policing.{AllPass, IsVerdict, KeepsTheBound, Packet, packet, with_passed}
use Rattle.load_policer.specs.declared.policer.Verdict.{Verdict}
use Rattle.load_policer.specs.declared.policer.Verdict.TheVariants.{Pass, Over, Big}
use Rattle.load_policer.proofs.Bounds.{what_passes_keeps_the_bound}
use Rattle.load_policer.specs.Drafts.{Adds, Draft, IsOffered, Leads, nothing}
use Rattle.load_policer.specs.Grammar.{in_place, line_behind, packet_line_of}
use Rattle.load_policer.specs.declared.line.PacketLine.{PacketLine}
use Rattle.load_policer.specs.declared.line.PacketLine.TheVariants as line

-- one packet more
pass_more : (f : TokenBucket) (before xs : List Packet) (x : Packet) → AllPass f before xs → IsVerdict f (before ++ xs) x Pass → AllPass f before (xs ++ x ∷ [])
pass_more f before [] x all v = (subst (λ (ps : List Packet). IsVerdict f ps x Pass) (append-nil before) v, tt)
pass_more f before (y ∷ ys) x all v = (all.0, pass_more f (before ++ y ∷ []) ys x all.1 (subst (λ (ps : List Packet). IsVerdict f ps x Pass) (sym (append_assoc before (y ∷ []) ys)) v))

-- where the flow is this, the packets that passed all pass; where there is none, none passed
AreOf : Option TokenBucket → List Packet → Type 0
AreOf None passed = passed ≡ []
AreOf (Some f) passed = AllPass f [] passed

-- ---- one line more
verdicts_more : (f : TokenBucket) (passed : List Packet) (x : Packet) (v : Verdict) → IsVerdict f passed x v → AllPass f [] passed → AllPass f [] (with_passed v passed x)
verdicts_more f passed x Pass v all = pass_more f [] passed x all v
verdicts_more f passed x Over v all = all
verdicts_more f passed x Big v all = all

offered_more : (o : Option TokenBucket) (d : Draft) (x : Packet) (new : Draft) → d.flow ≡ o → IsOffered o d x new → AreOf o d.passed → AreOf new.flow new.passed
unfolding AreOf
offered_more None d x new e i all = absurd i
offered_more (Some f) d x new e i all =
    subst (λ (n : Draft). AreOf n.flow n.passed) (sym i.2) (subst (λ (o : Option TokenBucket). AreOf o (with_passed i.0 d.passed x)) (sym e) (verdicts_more f d.passed x i.0 i.1 all))

-- the flow stands once
placed_once : (o : Option PacketLine) (w : FlowWord) → o >>= in_place true ≡ Some (line.Flow w) → ⊥
placed_once None w e = let z : None ≡ Some (line.Flow w) = e in cc
placed_once (Some line.Skipped) w e = let z : Some line.Skipped ≡ Some (line.Flow w) = e in cc
placed_once (Some (line.Flow v)) w e = let z : None ≡ Some (line.Flow w) = e in cc
placed_once (Some (line.Packet at size)) w e = let z : Some (line.Packet at size) ≡ Some (line.Flow w) = e in cc

first_flow : (o : Option TokenBucket) (passed : List Packet) (f : TokenBucket) (text : List ℕ) (w : FlowWord) → line_behind (is_some o) text ≡ Some (line.Flow w) → AreOf o passed
    → AreOf (Some f) passed
unfolding AreOf
first_flow None passed f text w e none = subst (λ (ps : List Packet). AllPass f [] ps) (sym none) tt
first_flow (Some g) passed f text w e all = absurd (placed_once (packet_line_of text) w e)

adds_more : (d : Draft) (text : List ℕ) (said : PacketLine) (new : Draft) → line_behind (is_some d.flow) text ≡ Some said → Adds d said new → AreOf d.flow d.passed → AreOf new.flow new.passed
adds_more d text line.Skipped new e a all = subst (λ (n : Draft). AreOf n.flow n.passed) (sym a) all
adds_more d text (line.Flow w) new e a all = subst (λ (n : Draft). AreOf n.flow n.passed) (sym a) (first_flow d.flow d.passed (flow_value w) text w e all)
adds_more d text (line.Packet at size) new e a all = offered_more d.flow d (packet at size) new refl a all

-- ---- all lines
leads_of : (d : Draft) (lines : List (List ℕ)) (new : Draft) → Leads d lines new → AreOf d.flow d.passed → AreOf new.flow new.passed
leads_of d [] new l all = subst (λ (n : Draft). AreOf n.flow n.passed) (sym l) all
leads_of d (t ∷ ts) new l all = leads_of l.0 ts new l.2 (adds_more d t l.1.said l.0 l.1.reads l.1.adds all)

pub stream_keeps_the_bound : (lines : List (List ℕ)) (d : Draft) (f : TokenBucket) → Leads nothing lines d → d.flow ≡ Some f → KeepsTheBound f d.passed
unfolding AreOf
stream_keeps_the_bound lines d f l e =
    let all : AreOf d.flow d.passed = leads_of nothing lines d l refl in
    what_passes_keeps_the_bound f d.passed (subst (λ (o : Option TokenBucket). AreOf o d.passed) e all)
