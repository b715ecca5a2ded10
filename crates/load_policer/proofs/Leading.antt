-- Lines lead on to one draft, and no line leads past a bad one.
use Rattle.std.proofs.Common.{◌≡◌, ℕ, ◌<◌, ◌≤◌, List, [], ◌∷◌, ◌++◌, Option, None, Some, is_some, length, refl, sym, ap, subst, ◌∙◌, arith}
use Rattle.rsvp_base.specs.TokenBucket.{TokenBucket}
use Rattle.script_words.specs.declared.fault.LineWhy.{LineWhy}
use Rattle.script_words.specs.declared.fault.LineWhy.TheVariants as why
use Rattle.load_policer.specs.Policing.{Packet, packet}
use Rattle.load_policer.proofs.Verdicts.{one_verdict}
use Rattle.load_policer.specs.Drafts.{Adds, Draft, Follows, HasFault, IsInRange, IsInTime, IsOffered, Leads, most_line, nothing, with_packet}
use Rattle.load_policer.specs.Grammar.{line_behind}
use Rattle.load_policer.specs.declared.line.PacketLine.{PacketLine}
use Rattle.load_policer.specs.declared.line.PacketLine.TheVariants as line

-- ---- a line says one thing
some_one : (o : Option PacketLine) (x y : PacketLine) → o ≡ Some x → o ≡ Some y → x ≡ y
some_one o x y a b = let z : Some x ≡ Some y = sym a ∙ b in cc

none_or_some : (o : Option PacketLine) (x : PacketLine) → o ≡ None → o ≡ Some x → ⊥
none_or_some o x a b = let z : None ≡ Some x = sym a ∙ b in cc

limit_or : (n : ℕ) → most_line < n → n ≤ most_line → ⊥
limit_or n long short = omega (arith, long, short)

same_time : (d : Draft) (t : List ℕ) (x y : PacketLine) → line_behind (is_some d.flow) t ≡ Some x → line_behind (is_some d.flow) t ≡ Some y → IsInTime d.last x → IsInTime d.last y
same_time d t x y a b h = subst (λ (s : PacketLine). IsInTime d.last s) (some_one (line_behind (is_some d.flow) t) x y a b) h

-- ---- a line is followed by one draft
offered_one : (f : Option TokenBucket) (d : Draft) (x : Packet) (a b : Draft) → IsOffered f d x a → IsOffered f d x b → a ≡ b
offered_one None d x a b i j = absurd i
offered_one (Some f) d x a b i j = i.2 ∙ ap (λ v. with_packet d x v) (one_verdict f d.passed x i.0 j.0 i.1 j.1) ∙ sym j.2

adds_one : (d : Draft) (said : PacketLine) (a b : Draft) → Adds d said a → Adds d said b → a ≡ b
adds_one d line.Skipped a b x y = x ∙ sym y
adds_one d (line.Flow w) a b x y = x ∙ sym y
adds_one d (line.Packet at size) a b x y = offered_one d.flow d (packet at size) a b x y

pub follows_one : (d : Draft) (t : List ℕ) (a b : Draft) → Follows d t a → Follows d t b → a ≡ b
follows_one d t a b f g =
    let same : f.said ≡ g.said = some_one (line_behind (is_some d.flow) t) f.said g.said f.reads g.reads in
    adds_one d g.said a b (subst (λ (s : PacketLine). Adds d s a) same f.adds) g.adds

-- ---- a bad line has one fault, and follows nothing
pub fault_or_follows : (d : Draft) (t : List ℕ) (y : LineWhy) (new : Draft) → HasFault d t y → Follows d t new → ⊥
fault_or_follows d t why.Limit new h f = limit_or (length t) h f.short
fault_or_follows d t why.Word new h f = none_or_some (line_behind (is_some d.flow) t) f.said h.1 f.reads
fault_or_follows d t why.Late new h f = h.1.late (same_time d t f.said h.1.said f.reads h.1.reads f.in_time)
fault_or_follows d t why.Range new h f = h.1.out (subst (λ (s : PacketLine). IsInRange s) (some_one (line_behind (is_some d.flow) t) f.said h.1.said f.reads h.1.reads) f.in_range)
fault_or_follows d t why.Name new h f = h
fault_or_follows d t why.Twice new h f = h
fault_or_follows d t why.Over new h f = h

pub fault_one : (d : Draft) (t : List ℕ) (v w : LineWhy) → HasFault d t v → HasFault d t w → v ≡ w
fault_one d t why.Word why.Word h k = refl
fault_one d t why.Word why.Late h k = absurd (none_or_some _ k.1.said h.1 k.1.reads)
fault_one d t why.Word why.Range h k = absurd (none_or_some _ k.1.said h.1 k.1.reads)
fault_one d t why.Word why.Limit h k = absurd (limit_or (length t) k h.0)
fault_one d t why.Word why.Name h k = absurd k
fault_one d t why.Word why.Twice h k = absurd k
fault_one d t why.Word why.Over h k = absurd k
fault_one d t why.Late why.Word h k = absurd (none_or_some _ h.1.said k.1 h.1.reads)
fault_one d t why.Late why.Late h k = refl
fault_one d t why.Late why.Range h k = absurd (h.1.late (same_time d t k.1.said h.1.said k.1.reads h.1.reads k.1.in_time))
fault_one d t why.Late why.Limit h k = absurd (limit_or (length t) k h.0)
fault_one d t why.Late why.Name h k = absurd k
fault_one d t why.Late why.Twice h k = absurd k
fault_one d t why.Late why.Over h k = absurd k
fault_one d t why.Range why.Word h k = absurd (none_or_some _ h.1.said k.1 h.1.reads)
fault_one d t why.Range why.Late h k = absurd (k.1.late (same_time d t h.1.said k.1.said h.1.reads k.1.reads h.1.in_time))
fault_one d t why.Range why.Range h k = refl
fault_one d t why.Range why.Limit h k = absurd (limit_or (length t) k h.0)
fault_one d t why.Range why.Name h k = absurd k
fault_one d t why.Range why.Twice h k = absurd k
fault_one d t why.Range why.Over h k = absurd k
fault_one d t why.Limit why.Word h k = absurd (limit_or (length t) h k.0)
fault_one d t why.Limit why.Late h k = absurd (limit_or (length t) h k.0)
fault_one d t why.Limit why.Range h k = absurd (limit_or (length t) h k.0)
fault_one d t why.Limit why.Limit h k = refl
fault_one d t why.Limit why.Name h k = absurd k
fault_one d t why.Limit why.Twice h k = absurd k
fault_one d t why.Limit why.Over h k = absurd k
fault_one d t why.Name w h k = absurd h
fault_one d t why.Twice w h k = absurd h
fault_one d t why.Over w h k = absurd h

-- ---- lines lead on
pub leads_on : (d : Draft) (before : List (List ℕ)) (mid new : Draft) (t : List ℕ) → Leads d before mid → Follows mid t new → Leads d (before ++ t ∷ []) new
leads_on d [] mid new t l f = (new, subst (λ (x : Draft). Follows x t new) l f, refl)
leads_on d (x ∷ xs) mid new t l f = (l.0, l.1, leads_on l.0 xs mid new t l.2 f)

pub leads_one : (d : Draft) (ts : List (List ℕ)) (a b : Draft) → Leads d ts a → Leads d ts b → a ≡ b
leads_one d [] a b l m = l ∙ sym m
leads_one d (t ∷ ts) a b l m =
    let same = follows_one d t l.0 m.0 l.1 m.1 in
    leads_one m.0 ts a b (subst (λ (x : Draft). Leads x ts a) same l.2) m.2

record GoesThrough (d : Draft) (before : List (List ℕ)) (t : List ℕ) : Type 0 where
  mid : Draft
  leads : Leads d before mid
  next : Draft
  follows : Follows mid t next

goes_through : (d : Draft) (before : List (List ℕ)) (t : List ℕ) (after : List (List ℕ)) (new : Draft) → Leads d (before ++ t ∷ after) new → GoesThrough d before t
goes_through d [] t after new l = record { mid = d; leads = refl; next = l.0; follows = l.1 }
goes_through d (x ∷ xs) t after new l =
    let rest = goes_through l.0 xs t after new l.2 in
    record { mid = rest.mid; leads = (l.0, l.1, rest.leads); next = rest.next; follows = rest.follows }

pub no_way_past : (before : List (List ℕ)) (t : List ℕ) (after : List (List ℕ)) (d new : Draft) (y : LineWhy) → Leads nothing before d → HasFault d t y → Leads nothing (before ++ t ∷ after) new → ⊥
no_way_past before t after d new y l h all =
    let g = goes_through nothing before t after new all in
    let same : g.mid ≡ d = leads_one nothing before g.mid d g.leads l in
    fault_or_follows d t y g.next h (subst (λ (x : Draft). Follows x t g.next) same g.follows)
