-- How policing ended, put together from the lines that were policed and what came next.
use Rattle.std.proofs.Common.{◌≡◌, ℕ, ◌+◌, ◌-◌, ◌^◌, ◌≤◌, min, List, [], ◌∷◌, ◌++◌, Option, Some, length, take, refl, sym, ap, subst, ◌∙◌, append_assoc, append-nil, arith, inl, inr, length-append}
use Rattle.std.specs.Io.KnownBytes.{Appends, Consumes}
use Rattle.std.proofs.KnownBytes.{Appends-nil, Appends-trans, Consumes-nil}
use Rattle.std.proofs.Math.Seq.{take-append-add}
use Rattle.byte_streams.specs.Reading.{most_bytes}
use Rattle.script_words.specs.Lines.{line_number, text_lines}
use Rattle.script_words.specs.declared.fault.LineWhy.{LineWhy}
use Rattle.script_words.specs.declared.fault.LineWhy.TheVariants as why
use Rattle.byte_streams.specs.Streams.{Held, at_first}
use Rattle.byte_streams.specs.Lines.{all_bytes, whole_lines}
use Rattle.byte_streams.proofs.Behind.{Begins, HasEnd, HasLine, HasLong, HasMany, HasWhole, IsBehind, begins, behind_nothing}
use Rattle.byte_streams.proofs.Known.{all_known}
use Rattle.load_policer.specs.Advice.{IsAdvice, IsAdvised}
use Rattle.load_policer.specs.Drafts.{Draft, HasFault, Leads, nothing}
use Rattle.load_policer.specs.Endings.{CanTake, EndedSo, HasRun, IsFirstBad, IsPoliced, IsWhole}
use Rattle.load_policer.specs.Finishing.{Finishes, IsFlushed, IsAdvisedAt}
use Rattle.load_policer.specs.Standings.{IsAdded, Stands}
use Rattle.load_policer.specs.Texts.{count_text, last_text, verdicts_text}
use Rattle.load_policer.specs.declared.ending.Ending.{Ending}
use Rattle.load_policer.specs.declared.ending.Ending.TheVariants.{Done, BadLine, ReadFault, WriteFault, NoMemory, TooLong}
use Rattle.load_policer.specs.declared.standing.Standing.{Standing}
use Rattle.load_policer.proofs.Counting.{counts_exact}
use Rattle.load_policer.proofs.Leading.{leads_on}

-- the lines before were policed, the verdicts on their packets stand in the sink or wait
pub record Progress (old left first holds : Option (List ℕ)) (reader : Held) (standing : Standing) (waits : List ℕ) : Type 0 where
  pub before : List (List ℕ)
  pub taken : List ℕ
  pub draft : Draft
  pub written : List ℕ
  pub behind : IsBehind old left reader before taken
  pub leads : Leads nothing before draft
  pub stands : Stands standing draft
  pub says : verdicts_text draft.verdicts ≡ written ++ waits
  pub wrote : Appends first holds written

pub at_start : (a f : Option (List ℕ)) (r : Held) (s : Standing) (waits : List ℕ) → r ≡ at_first → Stands s nothing → waits ≡ [] → Progress a a f f r s waits
at_start a f r s waits e stands none = record {
  before = [];
  taken = [];
  draft = nothing;
  written = [];
  behind = behind_nothing a r e;
  leads = refl;
  stands = stands;
  says = sym none;
  wrote = Appends-nil f;
}

-- memory ran out before any byte was taken
pub ended_at_once : (a f : Option (List ℕ)) → IsPoliced NoMemory a a f f
ended_at_once a f = record {
  taken = [];
  took = Consumes-nil a;
  text = [];
  wrote = Appends-nil f;
  counted = omega arith;
  ended = (refl, refl);
}

module _ (old mid first holds : Option (List ℕ)) (r : Held) (s : Standing) (waits : List ℕ) (p : Progress old mid first holds r s waits) where
  -- some of what waited was written
  pub flushed : (later : Option (List ℕ)) (rest : List ℕ) → IsFlushed holds later waits rest → Progress old mid first later r s rest
  flushed later rest f = record {
    before = p.before;
    taken = p.taken;
    draft = p.draft;
    written = p.written ++ f.bytes;
    behind = p.behind;
    leads = p.leads;
    stands = p.stands;
    says = p.says ∙ ap (λ (t : List ℕ). p.written ++ t) f.split ∙ sym (append_assoc p.written f.bytes rest);
    wrote = Appends-trans first holds later p.written f.bytes p.wrote f.wrote;
  }

  -- a front of what was written and of what waited is a front of all
  front_of : (n : ℕ) (more : List ℕ) → p.written ++ take n (waits ++ more) ≡ take (length p.written + n) (verdicts_text p.draft.verdicts ++ more)
  front_of n more =
      sym (take-append-add p.written (waits ++ more) n) ∙ ap (λ (t : List ℕ). take (length p.written + n) t) (sym (append_assoc p.written waits more) ∙ ap (λ (t : List ℕ). t ++ more) (sym p.says))

  module _ (new later : Option (List ℕ)) (taken : List ℕ) (took : Consumes old new taken) where
    -- the sink failed
    pub ended_short : Begins p.before taken → length taken ≤ most_bytes → (n : ℕ) → Appends holds later (take n waits) → IsPoliced WriteFault old new first later
    ended_short begins few n wrote = record {
      taken = taken;
      took = took;
      text = p.written ++ take n waits;
      wrote = Appends-trans first holds later p.written (take n waits) p.wrote wrote;
      counted = few;
      ended = inl (record {
        before = p.before;
        after = begins.0;
        parts = begins.1;
        said = verdicts_text p.draft.verdicts;
        ran = record { draft = p.draft; leads = p.leads; run = refl };
        count = length p.written + n;
        text_is = ap (λ (t : List ℕ). p.written ++ take n t) (sym (append-nil waits)) ∙ front_of n []
            ∙ ap (λ (t : List ℕ). take (length p.written + n) t) (append-nil (verdicts_text p.draft.verdicts));
      });
    }

    -- all that waited was written
    ended_whole : (e : Ending) → CanTake e (length taken) → EndedSo e (all_bytes taken new) taken (verdicts_text p.draft.verdicts) → Appends holds later waits → IsPoliced e old new first later
    ended_whole e counted ended wrote = record {
      taken = taken;
      took = took;
      text = verdicts_text p.draft.verdicts;
      wrote = subst (λ (t : List ℕ). Appends first later t) (sym p.says) (Appends-trans first holds later p.written waits p.wrote wrote);
      counted = counted;
      ended = ended;
    }

    -- what waited was written, or the sink failed
    finished : (e got : Ending) → Finishes e got holds later waits → CanTake e (length taken) → length taken ≤ most_bytes → Begins p.before taken
        → EndedSo e (all_bytes taken new) taken (verdicts_text p.draft.verdicts) → IsPoliced got old new first later
    finished e got f counted few begins ended = elim f [
      | inl all ↦ subst (λ (x : Ending). IsPoliced x old new first later) (sym all.0) (ended_whole e counted ended all.1)
      | inr some ↦ subst (λ (x : Ending). IsPoliced x old new first later) (sym some.0) (ended_short begins few some.1 some.2)
    ]

  -- nothing waits
  nothing_wrote : waits ≡ [] → Appends holds holds waits
  nothing_wrote none = subst (λ (t : List ℕ). Appends holds holds t) (sym none) (Appends-nil holds)

  -- before a line was asked for
  pub ended_here : (later : Option (List ℕ)) → r.taken ≤ most_bytes → (n : ℕ) → Appends holds later (take n waits) → IsPoliced WriteFault old mid first later
  ended_here later le n wrote = ended_short mid later p.taken p.behind.took (begins old mid r p.before p.taken p.behind) (omega (arith, le, p.behind.counted)) n wrote

  module _ (new later : Option (List ℕ)) (now : Held) where
    few : (taken : List ℕ) → now.taken ≡ length taken → now.taken ≤ most_bytes → length taken ≤ most_bytes
    few taken e le = omega (arith, e, le)

    abbrev ran_before : (lines : List (List ℕ)) → lines ≡ p.before → HasRun lines (verdicts_text p.draft.verdicts)
    ran_before lines e = record { draft = p.draft; leads = subst (λ (ls : List (List ℕ)). Leads nothing ls p.draft) (sym e) p.leads; run = refl }

    pub ended_fault : (h : HasWhole old new now p.before) → now.taken ≤ most_bytes → waits ≡ [] → IsPoliced ReadFault old new first holds
    ended_fault h le none = ended_whole new holds h.taken h.took ReadFault (few h.taken h.counted le) (ran_before (whole_lines h.taken) h.lines) (nothing_wrote none)

    pub ended_many : (h : HasMany old new now p.before) → now.taken ≡ most_bytes + 1 → waits ≡ [] → IsPoliced TooLong old new first holds
    ended_many h many none = ended_whole new holds h.taken h.took TooLong (sym h.counted ∙ many) (ran_before (whole_lines (take most_bytes h.taken)) h.lines) (nothing_wrote none)

    pub ended_long : (h : HasLong old new now p.before) → now.taken ≤ most_bytes → (number : ℕ) → number ≡ now.number → (got : Ending) → Finishes (BadLine number why.Limit) got holds later waits
        → IsPoliced got old new first later
    ended_long h le number same got f = finished new later h.taken h.took (BadLine number why.Limit) got f (few h.taken h.counted le) (few h.taken h.counted le) h.begins
        (record { at = record { before = p.before; line = h.line; after = h.at.after; parts = h.at.parts; ran = ran_before p.before refl; holds = h.long }; counted = same ∙ h.numbered }, h.at.near)

    numbered : (l : HasLine old new now p.before) (number : ℕ) → number ≡ now.number → number ≡ line_number (length p.before)
    numbered l number same =
        let one_more : length (p.before ++ now.line ∷ []) ≡ length p.before + 1 = omega (arith, length-append p.before (now.line ∷ [])) in
        same ∙ l.behind.numbered ∙ ap (λ n. min n (2 ^ 32 - 1)) one_more

    abbrev first_bad : (l : HasLine old new now p.before) (number : ℕ) (y : LineWhy) → number ≡ now.number → HasFault p.draft now.line y
        → IsFirstBad number y (all_bytes l.taken new) (verdicts_text p.draft.verdicts)
    first_bad l number y same bad =
        record { at = record { before = p.before; line = now.line; after = l.at.after; parts = l.at.parts; ran = ran_before p.before refl; holds = bad }; counted = numbered l number same }

    line_begins : (l : HasLine old new now p.before) → Begins p.before l.taken
    line_begins l =
        let b = begins old new now (p.before ++ now.line ∷ []) l.taken l.behind in
        (now.line ∷ b.0, b.1 ∙ append_assoc p.before (now.line ∷ []) b.0)

    pub ended_bad : (l : HasLine old new now p.before) → now.taken ≤ most_bytes → (number : ℕ) (y : LineWhy) → number ≡ now.number → HasFault p.draft now.line y → (got : Ending)
        → Finishes (BadLine number y) got holds later waits → IsPoliced got old new first later
    ended_bad l le number y same bad got f = finished new later l.taken l.behind.took (BadLine number y) got f (few l.taken l.behind.counted le) (few l.taken l.behind.counted le) (line_begins l)
        (first_bad l number y same bad, l.at.near)

    -- the counts are written, where there was no more
    pub ended_done : (h : HasEnd old new now p.before) → now.taken ≤ most_bytes → (text : List ℕ) → text ≡ waits ++ count_text s.passed s.offered → (got : Ending) → Finishes Done got holds later text
        → IsPoliced got old new first later
    ended_done h le text is got f =
        let lines : text_lines h.taken ≡ p.before = ap text_lines h.all ∙ h.lines in
        let exact = counts_exact p.before h.taken p.draft p.leads lines (few h.taken h.counted le) in
        let last : count_text s.passed s.offered ≡ last_text p.draft = ap (λ (n : ℕ). count_text n s.offered) (p.stands.passed ∙ exact.0)
        ∙ ap (count_text (length p.draft.passed)) (p.stands.offered ∙ exact.1) in
        let whole : IsWhole (all_bytes h.taken new) (verdicts_text p.draft.verdicts ++ last_text p.draft) =
        record { said = verdicts_text p.draft.verdicts; ran = ran_before (text_lines (all_bytes h.taken new)) h.lines; text_is = refl } in
        elim f [
          | inl all ↦ subst (λ (x : Ending). IsPoliced x old new first later) (sym all.0) (record {
            taken = h.taken;
            took = h.took;
            text = verdicts_text p.draft.verdicts ++ last_text p.draft;
            wrote = subst (λ (t : List ℕ). Appends first later t) (ap (λ (t : List ℕ). p.written ++ t) is ∙ sym (append_assoc p.written waits (count_text s.passed s.offered))
                ∙ ap (λ (t : List ℕ). t ++ count_text s.passed s.offered) (sym p.says) ∙ ap (λ (t : List ℕ). verdicts_text p.draft.verdicts ++ t) last)
                (Appends-trans first holds later p.written text p.wrote all.1);
            counted = few h.taken h.counted le;
            ended = (h.all, whole);
          })
          | inr some ↦ subst (λ (x : Ending). IsPoliced x old new first later) (sym some.0) (record {
            taken = h.taken;
            took = h.took;
            text = p.written ++ take some.1 text;
            wrote = Appends-trans first holds later p.written (take some.1 text) p.wrote some.2;
            counted = few h.taken h.counted le;
            ended = inr (record {
              all = h.all;
              whole = verdicts_text p.draft.verdicts ++ last_text p.draft;
              is_whole = whole;
              count = length p.written + some.1;
              text_is = ap (λ (t : List ℕ). p.written ++ take some.1 t) is ∙ front_of some.1 (count_text s.passed s.offered)
                  ∙ ap (λ (t : List ℕ). take (length p.written + some.1) (verdicts_text p.draft.verdicts ++ t)) last;
            });
          })
        ]

    -- one line more
    pub one_more : (l : HasLine old new now p.before) (then : Standing) (then_waits : List ℕ) → IsAdded p.draft now.line then waits then_waits → Progress old new first holds now then then_waits
    one_more l then then_waits a = record {
      before = p.before ++ now.line ∷ [];
      taken = l.taken;
      draft = a.draft;
      written = p.written;
      behind = l.behind;
      leads = leads_on nothing p.before p.draft a.draft now.line p.leads a.follows;
      stands = a.stands;
      says = a.says ∙ ap (λ (t : List ℕ). t ++ a.own) p.says ∙ append_assoc p.written waits a.own ∙ ap (λ (t : List ℕ). p.written ++ t) (sym a.wrote);
      wrote = p.wrote;
    }

    -- ---- the advice on the bad line of known bytes
    module _ (bytes advice : List ℕ) (known : old ≡ Some bytes) where
      pub advised_long : (h : HasLong old new now p.before) (number : ℕ) → number ≡ now.number → (got : Ending) → Finishes (BadLine number why.Limit) got holds later waits
          → IsAdvisedAt (λ t. (d : Draft) (line : List ℕ) → IsAdvice d line why.Limit t) got advice → IsAdvised got bytes advice
      advised_long h number same got f advised = elim f [
        | inl all ↦ (
            let all_of = all_known old new bytes h.taken known h.took in
            let at : IsAdvisedAt (λ t. (d : Draft) (line : List ℕ) → IsAdvice d line why.Limit t) (BadLine number why.Limit) advice =
            subst (λ (x : Ending). IsAdvisedAt (λ t. (d : Draft) (line : List ℕ) → IsAdvice d line why.Limit t) x advice) all.0 advised in
            subst (λ (x : Ending). IsAdvised x bytes advice) (sym all.0) (record {
              said = verdicts_text p.draft.verdicts;
              bad = record {
                at = record {
                  before = p.before;
                  line = h.line;
                  after = h.at.after;
                  parts = ap text_lines (sym all_of.0)
                      ∙ h.at.parts;
                  ran = ran_before p.before refl;
                  holds = h.long;
                };
                counted = same ∙ h.numbered;
              };
              advised = at p.draft h.line;
            }))
        | inr some ↦ (
            let at : advice ≡ [] = subst (λ (x : Ending). IsAdvisedAt (λ t. (d : Draft) (line : List ℕ) → IsAdvice d line why.Limit t) x advice) some.0 advised in
            subst (λ (x : Ending). IsAdvised x bytes advice) (sym some.0) at)
      ]

      pub advised_bad : (l : HasLine old new now p.before) (number : ℕ) (y : LineWhy) → number ≡ now.number → HasFault p.draft now.line y → (then : Standing) → Stands then p.draft → (got : Ending)
          → Finishes (BadLine number y) got holds later waits
          → IsAdvisedAt (λ t. (d : Draft) → Stands then d → IsAdvice d now.line y t) got advice → IsAdvised got bytes advice
      advised_bad l number y same bad then stands got f advised = elim f [
        | inl all ↦ (
            let all_of = all_known old new bytes l.taken known l.behind.took in
            let at : (d : Draft) → Stands then d → IsAdvice d now.line y advice =
            subst (λ (x : Ending). IsAdvisedAt (λ t. (d : Draft) → Stands then d → IsAdvice d now.line y t) x advice) all.0 advised in
            subst (λ (x : Ending). IsAdvised x bytes advice) (sym all.0) (record {
              said = verdicts_text p.draft.verdicts;
              bad = record {
                at = record {
                  before = p.before;
                  line = now.line;
                  after = l.at.after;
                  parts = ap text_lines (sym all_of.0)
                      ∙ l.at.parts;
                  ran = ran_before p.before refl;
                  holds = bad;
                };
                counted = numbered l number same;
              };
              advised = at p.draft stands;
            }))
        | inr some ↦ (
            let at : advice ≡ [] = subst (λ (x : Ending). IsAdvisedAt (λ t. (d : Draft) → Stands then d → IsAdvice d now.line y t) x advice) some.0 advised in
            subst (λ (x : Ending). IsAdvised x bytes advice) (sym some.0) at)
      ]
