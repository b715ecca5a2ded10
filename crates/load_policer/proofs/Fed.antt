-- A line behind those before, as the code keeps them.
use Rattle.std.proofs.Common.{◌≡◌, ℕ, ◌+◌, ◌<◌, ◌≤◌, Bool, true, false, List, [], ◌∷◌, ◌++◌, Option, None, Some, is_some, Result, Ok, Err, length, refl, sym, ap, subst, ◌∙◌, append-nil}
use Rattle.std.proofs.Common.{arith, length-append}
use Rattle.std.proofs.lemmas.List.Concat.{flat_map-append, flat_map-cons}
use Rattle.rsvp_base.specs.TokenBucket.{TokenBucket}
use Rattle.script_words.specs.Flows.{IsFlow, flow_value}
use Rattle.script_words.specs.declared.fault.LineWhy.{LineWhy}
use Rattle.script_words.specs.declared.fault.LineWhy.TheVariants as why
use Rattle.script_words.specs.declared.raw.FlowWord.{FlowWord}
use Rattle.load_policer.specs.Policing.{Agrees, Bucket, IsVerdict, Packet, Rises, empty_bucket, last_at, level, packet, with_passed}
use Rattle.load_policer.specs.declared.policer.Verdict.{Verdict}
use Rattle.load_policer.specs.declared.policer.Verdict.TheVariants.{Pass, Over, Big}
use Rattle.load_policer.specs.Advice.{IsAdvice, IsAdviceFor}
use Rattle.load_policer.specs.Drafts.{Draft, HasFault, IsOffered, IsPacket, with_flow, with_packet}
use Rattle.load_policer.specs.Grammar.{line_behind}
use Rattle.load_policer.specs.Standings.{IsAdded, IsBucketOf, IsFed, IsFlowFed, IsPacketFed, IsJudged, HasVerdict, Stands, counted, passed_count}
use Rattle.load_policer.specs.Texts.{verdicts_text, verdict_text}
use Rattle.load_policer.specs.declared.line.PacketLine.{PacketLine}
use Rattle.load_policer.specs.declared.line.PacketLine.TheVariants as line
use Rattle.load_policer.specs.declared.standing.Standing.{Standing}

same_flow : (d : Draft) (o : Option Bucket) → IsBucketOf d o → is_some o ≡ is_some d.flow
same_flow d None b = ap is_some (sym b.0)
same_flow d (Some x) b = ap is_some (sym b.0)

pub advice_so : (d : Draft) (s : Standing) (text : List ℕ) (y : LineWhy) (advice : List ℕ) → Stands s d → IsAdviceFor (is_some s.policer) s.last text y advice → IsAdvice d text y advice
advice_so d s text y advice st advised =
    subst (λ (b : Bool). IsAdviceFor b d.last text y advice) (same_flow d s.policer st.bucket) (subst (λ (n : ℕ). IsAdviceFor (is_some s.policer) n text y advice) st.last advised)

-- ---- a line that is bad
module _ (d : Draft) (text : List ℕ) (s : Standing) (st : Stands s d) (short : length text ≤ 2048) where
  reads_so : (o : Option PacketLine) → line_behind (is_some s.policer) text ≡ o → line_behind (is_some d.flow) text ≡ o
  reads_so o e = subst (λ (b : Bool). line_behind b text ≡ o) (same_flow d s.policer st.bucket) e

  pub misread : line_behind (is_some s.policer) text ≡ None → HasFault d text why.Word
  misread e = (short, reads_so None e)

  pub no_flow : (w : FlowWord) → line_behind (is_some s.policer) text ≡ Some (line.Flow w) → (IsFlow w → ⊥) → HasFault d text why.Range
  no_flow w e out = (short, record { said = line.Flow w; reads = reads_so (Some (line.Flow w)) e; in_time = tt; out = out })

  module _ (at size : ℕ) (e : line_behind (is_some s.policer) text ≡ Some (line.Packet at size)) where
    pub too_early : at < s.last → HasFault d text why.Late
    too_early lt = (short, record { said = line.Packet at size; reads = reads_so (Some (line.Packet at size)) e; late = λ le. omega (arith, lt, le, st.last) })

    pub no_packet : s.last ≤ at → (IsPacket at size → ⊥) → HasFault d text why.Range
    no_packet le out = (short, record { said = line.Packet at size; reads = reads_so (Some (line.Packet at size)) e; in_time = omega (arith, le, st.last); out = out })

    -- ---- a line that follows
    one_more_verdict : (verdicts : List Verdict) (v : Verdict) → verdicts_text (verdicts ++ v ∷ []) ≡ verdicts_text verdicts ++ verdict_text v
    one_more_verdict verdicts v = flat_map-append verdict_text verdicts (v ∷ []) ∙ ap (λ (t : List ℕ). verdicts_text verdicts ++ t) (flat_map-cons verdict_text v [] ∙ append-nil (verdict_text v))

    pub packet_added : (new : Standing) (before after : List ℕ) → s.last ≤ at → IsPacket at size → IsJudged d (packet at size) new before after → IsAdded d text new before after
    packet_added new before after le fit t =
        let v = t.verdict in
        let next = with_packet d (packet at size) v in
        record {
          draft = next;
          follows = record {
            short = short;
            said = line.Packet at size;
            reads = reads_so (Some (line.Packet at size)) e;
            in_time = omega (arith, le, st.last);
            in_range = fit;
            adds = subst (λ o. IsOffered o d (packet at size) next) (sym t.judged.flow_is) (v, t.judged.verdict, refl);
          };
          stands = t.judged.stands;
          own = verdict_text v;
          says = one_more_verdict d.verdicts v;
          wrote = t.wrote;
        }

  pub skipped_added : line_behind (is_some s.policer) text ≡ Some line.Skipped → (out : List ℕ) → IsAdded d text s out out
  skipped_added e out = record {
    draft = d;
    follows = record { short = short; said = line.Skipped; reads = reads_so (Some line.Skipped) e; in_time = tt; in_range = tt; adds = refl };
    stands = st;
    own = [];
    says = sym (append-nil (verdicts_text d.verdicts));
    wrote = sym (append-nil out);
  }

  -- the bucket of a flow is empty at first
  first_bucket : (o : Option Bucket) → IsBucketOf d o → is_some o ≡ false → (f : TokenBucket) → IsBucketOf (with_flow d f) (Some (empty_bucket f))
  first_bucket None b none f = (
    refl,
    record {
      level = ap (λ (ps : List Packet). level f 0 0 ps) (sym b.1);
      at = ap (λ (ps : List Packet). last_at 0 ps) (sym b.1);
      rises = subst (λ (ps : List Packet). Rises 0 ps) (sym b.1) tt;
    },
    omega arith,
  )
  first_bucket (Some x) b none f = absurd (let z : true ≡ false = none in cc)

  pub flow_added : (w : FlowWord) → line_behind (is_some s.policer) text ≡ Some (line.Flow w) → is_some s.policer ≡ false → IsFlow w → (new : Standing)
      → new ≡ record s { policer = Some (empty_bucket (flow_value w)) } → (out : List ℕ) → IsAdded d text new out out
  flow_added w e none fit new is out = record {
    draft = with_flow d (flow_value w);
    follows = record { short = short; said = line.Flow w; reads = reads_so (Some (line.Flow w)) e; in_time = tt; in_range = fit; adds = refl };
    stands = subst (λ (z : Standing). Stands z (with_flow d (flow_value w))) (sym is) (record {
      bucket = first_bucket s.policer st.bucket none
          (flow_value w);
      last = st.last;
      passed = st.passed;
      offered = st.offered;
    });
    own = [];
    says = sym (append-nil (verdicts_text d.verdicts));
    wrote = sym (append-nil out);
  }

  -- ---- whatever was said of the line
  pub flow_fed : (w : FlowWord) → line_behind (is_some s.policer) text ≡ Some (line.Flow w) → is_some s.policer ≡ false → (res : Result (Unit {0}) LineWhy) (new : Standing) → IsFlowFed w s res new
      → (out : List ℕ) → IsFed d text res new out out
  flow_fed w e none (Ok u) new f out = flow_added w e none f.0 new f.1 out
  flow_fed w e none (Err why.Range) new f out = (no_flow w e f.0, subst (λ (z : Standing). Stands z d) (sym f.1) st, refl)
  flow_fed w e none (Err why.Word) new f out = absurd f
  flow_fed w e none (Err why.Late) new f out = absurd f
  flow_fed w e none (Err why.Name) new f out = absurd f
  flow_fed w e none (Err why.Twice) new f out = absurd f
  flow_fed w e none (Err why.Limit) new f out = absurd f
  flow_fed w e none (Err why.Over) new f out = absurd f

  pub packet_fed : (at size : ℕ) → line_behind (is_some s.policer) text ≡ Some (line.Packet at size) → (res : Result (Unit {0}) LineWhy) (new : Standing) (before after : List ℕ)
      → IsPacketFed d at size s res new before after → IsFed d text res new before after
  packet_fed at size e (Ok u) new before after f = packet_added at size e new before after f.0 f.1 f.2
  packet_fed at size e (Err why.Late) new before after f = (too_early at size e f.0, subst (λ (z : Standing). Stands z d) (sym f.1) st, f.2)
  packet_fed at size e (Err why.Range) new before after f = (no_packet at size e f.0 f.1, subst (λ (z : Standing). Stands z d) (sym f.2) st, f.3)
  packet_fed at size e (Err why.Word) new before after f = absurd f
  packet_fed at size e (Err why.Name) new before after f = absurd f
  packet_fed at size e (Err why.Twice) new before after f = absurd f
  packet_fed at size e (Err why.Limit) new before after f = absurd f
  packet_fed at size e (Err why.Over) new before after f = absurd f

-- ---- the verdict on a packet
last_pushed : (t : ℕ) (ps : List Packet) (x : Packet) → last_at t (ps ++ x ∷ []) ≡ x.at
last_pushed t [] x = refl
last_pushed t (y ∷ ps) x = last_pushed y.at ps x

last_with : (v : Verdict) (ps : List Packet) (x : Packet) → last_at 0 ps ≤ x.at → last_at 0 (with_passed v ps x) ≤ x.at
last_with Pass ps x le = omega (arith, last_pushed 0 ps x)
last_with Over ps x le = le
last_with Big ps x le = le

counted_more : (n : ℕ) → counted (counted n + 1) ≡ counted (n + 1)
counted_more n = omega arith

passed_more : (v : Verdict) (ps : List Packet) (x : Packet) → passed_count v (counted (length ps)) ≡ counted (length (with_passed v ps x))
passed_more Pass ps x = counted_more (length ps) ∙ ap counted (let e : length ps + 1 ≡ length (ps ++ x ∷ []) = omega (arith, length-append ps (x ∷ [])) in e)
passed_more Over ps x = refl
passed_more Big ps x = refl

verdicts_more : (verdicts : List Verdict) (v : Verdict) → counted (counted (length verdicts) + 1) ≡ counted (length (verdicts ++ v ∷ []))
verdicts_more verdicts v = counted_more (length verdicts) ∙ ap counted (let e : length verdicts + 1 ≡ length (verdicts ++ v ∷ []) = omega (arith, length-append verdicts (v ∷ [])) in e)

pub in_time : (d : Draft) (s : Standing) (b : Bucket) (at : ℕ) → Stands s d → s.policer ≡ Some b → s.last ≤ at → b.at ≤ at
in_time d s b at st is le =
    let bucket : IsBucketOf d (Some b) = subst (λ (o : Option Bucket). IsBucketOf d o) is st.bucket in
    omega (arith, bucket.2, st.last, le)

pub judged_so : (d : Draft) (s : Standing) (b now : Bucket) (at size : ℕ) (v : Verdict) (new : Standing) → Stands s d → s.policer ≡ Some b → s.last ≤ at
    → ((passed : List Packet) → Agrees b passed → IsVerdict b.flow passed (packet at size) v × Agrees now (with_passed v passed (packet at size))) → now.flow ≡ b.flow
    → new ≡ record { policer = Some now; last = at; passed = passed_count v s.passed; offered = counted (s.offered + 1) } → HasVerdict d (packet at size) v new
judged_so d s b now at size v new st is le exact same new_is =
    let bucket : IsBucketOf d (Some b) = subst (λ (o : Option Bucket). IsBucketOf d o) is st.bucket in
    let judged = exact d.passed bucket.1 in
    let x = packet at size in
    let before : last_at 0 d.passed ≤ at = omega (arith, bucket.1.at, bucket.2, st.last, le) in
    record {
      flow = b.flow;
      flow_is = bucket.0;
      verdict = judged.0;
      stands = subst (λ (z : Standing). Stands z (with_packet d x v)) (sym new_is) (record {
        bucket = (bucket.0 ∙ ap (λ (f : TokenBucket). Some f) (sym same), judged.1, (let last = last_with v d.passed x before in omega (arith, judged.1.at, last)));
        last = refl;
        passed = ap (passed_count v) st.passed ∙ passed_more v d.passed x;
        offered = ap (λ (n : ℕ). counted (n + 1)) st.offered ∙ verdicts_more d.verdicts v;
      });
    }

pub judged_packet : (d : Draft) (at size micros bytes : ℕ) (v : Verdict) (new : Standing) (before after : List ℕ) → micros ≡ at → bytes ≡ size → HasVerdict d (packet micros bytes) v new
    → after ≡ before ++ verdict_text v → IsJudged d (packet at size) new before after
judged_packet d at size micros bytes v new before after same_at same_size judged wrote = record {
  verdict = v;
  judged = subst (λ (n : ℕ). HasVerdict d (packet at n) v new) same_size (subst (λ (n : ℕ). HasVerdict d (packet n bytes) v new) same_at judged);
  wrote = wrote;
}
