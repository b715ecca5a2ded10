-- How a run ended, put together from the lines that were run and what came next.
use Rattle.std.proofs.Common.{◌≡◌, ℕ, ◌+◌, ◌-◌, ◌^◌, ◌≤◌, min, List, [], ◌∷◌, ◌++◌, Option, length, take, refl, sym, ap, subst, ◌∙◌, arith, inl, inr, length-append}
use Rattle.std.specs.Io.KnownBytes.{Appends}
use Rattle.std.proofs.KnownBytes.{Appends-nil, Appends-trans, Consumes-nil}
use Rattle.byte_streams.specs.Reading.{most_bytes}
use Rattle.script_words.specs.Lines.{line_number, text_lines}
use Rattle.script_grammar.specs.Draft.{Draft, nothing}
use Rattle.script_grammar.specs.Grammar.{HasFault, Leads, too_long}
use Rattle.script_grammar.proofs.Scripts.{leads_on}
use Rattle.script_grammar.specs.declared.fault.Fault.TheVariants as fault
use Rattle.byte_streams.specs.Streams.{Held, at_first}
use Rattle.byte_streams.specs.Lines.{all_bytes, whole_lines}
use Rattle.byte_streams.proofs.Behind.{HasEnd, HasLine, HasLong, HasMany, HasWhole, IsBehind, IsLineAt, behind_nothing}
use Rattle.script_run.specs.Written.{HasRun, IsRunSoFar}
use Rattle.script_run.specs.Playing.{IsCrowdedBy, IsRunOn, Stops}
use Rattle.script_run.specs.Endings.{CanTake, EndedSo, IsFirst, IsRun, ending_at}
use Rattle.script_run.specs.declared.ending.Ending.{Ending}
use Rattle.script_run.specs.declared.ending.Ending.TheVariants.{Done, BadLine, ReadFault, WriteFault, NoMemory, Crowded, TooLong}
use Rattle.script_grammar.specs.declared.stop.Stop.{Stop}
use Rattle.script_grammar.specs.declared.stop.Stop.TheVariants as stop

-- the lines before were run, and what they wrote stands in the sink
pub record Progress {P : Type 0} (stands : P → Draft → Type 0) (old left first holds : Option (List ℕ)) (reader : Held) (player : P) : Type 0 where
  pub before : List (List ℕ)
  pub taken : List ℕ
  pub draft : Draft
  pub text : List ℕ
  pub behind : IsBehind old left reader before taken
  pub leads : Leads nothing before draft
  pub stands_there : stands player draft
  pub run : IsRunSoFar draft text
  pub wrote : Appends first holds text

pub run_nothing : IsRunSoFar nothing []
run_nothing = record { roomy = refl; text_is = refl }

module _ {P : Type 0} (stands : P → Draft → Type 0) where
  pub at_start : (a f : Option (List ℕ)) (r : Held) (player : P) → r ≡ at_first → stands player nothing → Progress stands a a f f r player
  at_start a f r player e first = record {
    before = [];
    taken = [];
    draft = nothing;
    text = [];
    behind = behind_nothing a r e;
    leads = refl;
    stands_there = first;
    run = run_nothing;
    wrote = Appends-nil f;
  }

  -- memory ran out before any line was read
  pub ended_at_once : (s : Draft → Type 0) (a f : Option (List ℕ)) → IsRun s NoMemory a a f f
  ended_at_once s a f = record {
    taken = [];
    took = Consumes-nil a;
    text = [];
    wrote = Appends-nil f;
    counted = omega arith;
    ended = record { before = []; after = text_lines (all_bytes [] a); parts = refl; ran = record { draft = nothing; leads = refl; run = run_nothing }; asked = inl refl };
  }

  module _ (old mid new first holds : Option (List ℕ)) (r now : Held) (player : P) (p : Progress stands old mid first holds r player) where
    few : (n : ℕ) → now.taken ≡ n → now.taken ≤ most_bytes → n ≤ most_bytes
    few n e le = omega (arith, e, le)

    abbrev ran_before : (lines : List (List ℕ)) → lines ≡ p.before → HasRun lines p.text
    ran_before lines e = record { draft = p.draft; leads = subst (λ (ls : List (List ℕ)). Leads nothing ls p.draft) (sym e) p.leads; run = p.run }

    -- a line of which C holds
    abbrev first_so : (C : Draft → List ℕ → Type 0) (line bytes taken : List ℕ) → IsLineAt bytes taken p.before line → C p.draft line → IsFirst C bytes p.text
    first_so C line bytes taken at holds = record { before = p.before; line = line; after = at.after; parts = at.parts; ran = ran_before p.before refl; holds = holds }

    pub ended_done : HasEnd old new now p.before → now.taken ≤ most_bytes → IsRun (stands player) Done old new first holds
    ended_done e le = record {
      taken = e.taken;
      took = e.took;
      text = p.text;
      wrote = p.wrote;
      counted = few (length e.taken) e.counted le;
      ended = record { all = e.all; ran = ran_before (text_lines (all_bytes e.taken new)) e.lines; stands_there = p.stands_there };
    }

    module _ (s : Draft → Type 0) where
      pub ended_fault : HasWhole old new now p.before → now.taken ≤ most_bytes → IsRun s ReadFault old new first holds
      ended_fault e le = record { taken = e.taken; took = e.took; text = p.text; wrote = p.wrote; counted = few (length e.taken) e.counted le; ended = ran_before (whole_lines e.taken) e.lines }

      pub ended_many : HasMany old new now p.before → now.taken ≡ most_bytes + 1 → IsRun s TooLong old new first holds
      ended_many e many = record { taken = e.taken; took = e.took; text = p.text; wrote = p.wrote; counted = sym e.counted ∙ many; ended = ran_before (whole_lines (take most_bytes e.taken)) e.lines }

      pub ended_long : (number : ℕ) → HasLong old new now p.before → now.taken ≤ most_bytes → number ≡ now.number → IsRun s (BadLine number fault.Limit) old new first holds
      ended_long number e le same = record {
        taken = e.taken;
        took = e.took;
        text = p.text;
        wrote = p.wrote;
        counted = few (length e.taken) e.counted le;
        ended = (record { at = first_so (λ d t. HasFault d t fault.Limit) e.line (all_bytes e.taken new) e.taken e.at (too_long e.long); counted = same ∙ e.numbered }, e.at.near);
      }

      module _ (l : HasLine old new now p.before) (le : now.taken ≤ most_bytes) where
        many_so : length l.taken ≤ most_bytes
        many_so = few (length l.taken) l.behind.counted le

        numbered : (number : ℕ) → number ≡ now.number → number ≡ line_number (length p.before)
        numbered number same =
            let one_more : length (p.before ++ now.line ∷ []) ≡ length p.before + 1 = omega (arith, length-append p.before (now.line ∷ [])) in
            same ∙ l.behind.numbered ∙ ap (λ n. min n (2 ^ 32 - 1)) one_more

        abbrev first_here : (C : Draft → List ℕ → Type 0) → C p.draft now.line → IsFirst C (all_bytes l.taken new) p.text
        first_here C holds = first_so C now.line (all_bytes l.taken new) l.taken l.at holds

        -- it was not run
        ended_so : (e : Ending) → CanTake e (length l.taken) → EndedSo s e (all_bytes l.taken new) l.taken p.text → IsRun s e old new first holds
        ended_so e counted ended = record { taken = l.taken; took = l.behind.took; text = p.text; wrote = p.wrote; counted = counted; ended = ended }

        pub ended_at : (stop : Stop) (number : ℕ) → number ≡ now.number → Stops stop p.draft now.line → IsRun s (ending_at stop number) old new first holds
        ended_at (stop.Bad why) number same bad = ended_so (BadLine number why) many_so (record { at = first_here (λ d t. HasFault d t why) bad; counted = numbered number same }, l.at.near)
        ended_at stop.Crowded number same crowded = ended_so Crowded many_so (first_here IsCrowdedBy crowded, l.at.near)
        ended_at stop.NoMemory number same stops = ended_so NoMemory many_so (record { before = p.before; after = now.line ∷ l.at.after; parts = l.at.parts; ran = ran_before p.before refl; asked = inr stops })

        pub ended_writing : (later : Option (List ℕ)) (own : List ℕ) (n : ℕ) → IsRunOn s p.draft now.line p.text own → n ≤ length own → Appends holds later (take n own)
            → IsRun s WriteFault old new first later
        ended_writing later own n on front wrote = record {
          taken = l.taken;
          took = l.behind.took;
          text = p.text ++ take n own;
          wrote = Appends-trans first holds later p.text (take n own) p.wrote wrote;
          counted = many_so;
          ended = record {
            before = p.before;
            line = now.line;
            after = l.at.after;
            parts = l.at.parts;
            near = l.at.near;
            said = p.text;
            own = own;
            ran = ran_before p.before refl;
            ran_with = record { draft = on.new; leads = leads_on nothing p.before p.draft on.new now.line p.leads on.follows; run = on.run };
            count = n;
            front = front;
            text_is = refl;
          };
        }

    -- one line more
    pub one_more : (l : HasLine old new now p.before) (then : P) (later : Option (List ℕ)) (own : List ℕ) → IsRunOn (stands then) p.draft now.line p.text own → Appends holds later own
        → Progress stands old new first later now then
    one_more l then later own on wrote = record {
      before = p.before ++ now.line ∷ [];
      taken = l.taken;
      draft = on.new;
      text = p.text ++ own;
      behind = l.behind;
      leads = leads_on nothing p.before p.draft on.new now.line p.leads on.follows;
      stands_there = on.stands_there;
      run = on.run;
      wrote = Appends-trans first holds later p.text own p.wrote wrote;
    }

-- what is said of where the player stands counts only where all lines were run
standing : (s t : Draft → Type 0) (e : Ending) (bytes taken text : List ℕ) → (e ≡ Done → (d : Draft) → s d → t d) → EndedSo s e bytes taken text → EndedSo t e bytes taken text
standing s t Done bytes taken text f e = record { all = e.all; ran = e.ran; stands_there = f refl e.ran.draft e.stands_there }
standing s t (BadLine n why) bytes taken text f e = e
standing s t ReadFault bytes taken text f e = e
standing s t WriteFault bytes taken text f e = e
standing s t NoMemory bytes taken text f e = e
standing s t Crowded bytes taken text f e = e
standing s t TooLong bytes taken text f e = e

pub standing_so : (s t : Draft → Type 0) (e : Ending) (old new first holds : Option (List ℕ)) → (e ≡ Done → (d : Draft) → s d → t d) → IsRun s e old new first holds → IsRun t e old new first holds
standing_so s t e old new first holds f r = record {
  taken = r.taken;
  took = r.took;
  text = r.text;
  wrote = r.wrote;
  counted = r.counted;
  ended = standing s t e
      (all_bytes r.taken new) r.taken r.text f r.ended;
}
