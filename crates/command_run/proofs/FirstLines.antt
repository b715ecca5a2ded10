-- What a replay ran, however it ended: the run of the first lines of its file.
use Rattle.std.proofs.Common.{◌≡◌, ℕ, List, [], ◌∷◌, ◌++◌, Option, None, Some, length, take, drop, refl, sym, ap, subst, ◌∙◌, append_assoc, append-nil}
use Rattle.std.specs.Prelude.{◌≢◌, IfSome}
use Rattle.std.proofs.lemmas.List.{take-append-drop}
use Rattle.std.proofs.Math.Seq.{take-append_seam}
use Rattle.byte_streams.specs.Reading.{most_bytes}
use Rattle.network_replay.specs.Agreeing.{NetworkState}
use Rattle.network_replay.specs.Following.{Seen}
use Rattle.network_model.specs.Runs.{Plan, last_world}
use Rattle.byte_streams.specs.Lines.{all_bytes}
use Rattle.script_run.specs.Endings.{EndedSo}
use Rattle.byte_streams.specs.Lines.{whole_lines}
use Rattle.script_run.specs.Written.{IsRunSoFar}
use Rattle.script_run.specs.declared.ending.Ending.{Ending}
use Rattle.script_run.specs.declared.ending.Ending.TheVariants as ends
use Rattle.script_grammar.specs.Draft.{Draft, nothing, plan_of}
use Rattle.script_grammar.specs.Grammar.{Leads}
use Rattle.script_run.specs.Standing.{IsNetworkOf}
use Rattle.laws_grown.specs.ScriptTheorem.Fronts.{IsFront}
use Rattle.laws_grown.specs.ScriptTheorem.Theorem.{IsSafe}
use Rattle.laws_grown.proofs.ScriptTheorem.Fronts.{fronts_have_healed_reports}
use Rattle.laws_grown.proofs.ScriptTheorem.Safety.{first_lines_are_safe, first_lines_heal_themselves}
use Rattle.script_words.specs.Lines.{text_lines}
use Rattle.command_run.specs.Commands.{Stands}
use Rattle.command_run.specs.FirstLines.{HasRunFirstLines, IsLeftIn, IsSafeFile, lines_run}
use Rattle.command_run.proofs.WholeLines.{whole_first}

-- ---- any first lines
safe_file : (bytes : List ℕ) → IsSafeFile bytes
safe_file bytes n d leads = first_lines_are_safe (take n (text_lines bytes)) d leads

-- whatever is left of a source
pub safe_files : (left : Option (List ℕ)) → IfSome left IsSafeFile
safe_files None = tt
safe_files (Some bytes) = safe_file bytes

-- ---- the network that is left
pub left_behind : {R : Type 0} (see : Seen R) (last : Option (NetworkState R)) (p : Plan) → IsSafe p → IsNetworkOf see last p → IsLeftIn see last p
left_behind see None p safe network = tt
left_behind see (Some v) p safe network = (last_world p, network.1.agrees, safe.ends)

pub left_nowhere : {R : Type 0} (see : Seen R) (last : Option (NetworkState R)) (p : Plan) → last ≡ None → IsLeftIn see last p
left_nowhere {R} see last p none = subst (λ (l : Option (NetworkState R)). IsLeftIn see l p) (sym none) tt

-- ---- what was run
-- the bytes that are left stand behind those that were taken
taken_first : (taken : List ℕ) (left : Option (List ℕ)) → (rest : List ℕ) × (all_bytes taken left ≡ taken ++ rest)
taken_first taken None = ([], sym (append-nil taken))
taken_first taken (Some left) = (left, refl)

whole_of : (taken : List ℕ) (left : Option (List ℕ)) → (after : List (List ℕ)) × (text_lines (all_bytes taken left) ≡ whole_lines taken ++ after)
whole_of taken left =
    let all = taken_first taken left in
    let h = whole_first taken all.0 in
    (h.0, ap text_lines all.1 ∙ h.1)

whole_of_most : (taken : List ℕ) (left : Option (List ℕ)) → (after : List (List ℕ)) × (text_lines (all_bytes taken left) ≡ whole_lines (take most_bytes taken) ++ after)
whole_of_most taken left =
    let all = taken_first taken left in
    let front : List ℕ = take most_bytes taken in
    let back : List ℕ = drop most_bytes taken in
    let h = whole_first front (back ++ all.0) in
    (h.0, ap text_lines (all.1 ∙ ap (λ (z : List ℕ). z ++ all.0) (sym (take-append-drop most_bytes taken)) ∙ append_assoc front back all.0) ∙ h.1)

module _ {R : Type 0} (see : Seen R) (last : Option (NetworkState R)) where
  has_run : (bytes text : List ℕ) (before after : List (List ℕ)) (d : Draft) (whole more : List ℕ)
      → text_lines bytes ≡ before ++ after → Leads nothing before d → IsRunSoFar d whole → whole ≡ text ++ more
      → IsLeftIn see last (plan_of d) → HasRunFirstLines see bytes text last d
  has_run bytes text before after d whole more parts leads run is left =
      let front : IsFront (plan_of d) text = record { more = more; parts = sym run.text_is ∙ is } in
      record {
        count = length before;
        leads = subst (λ (ls : List (List ℕ)). Leads nothing ls d) (sym (ap (take (length before)) parts ∙ take-append_seam before after)) leads;
        roomy = run.roomy;
        front = front;
        safe = first_lines_are_safe before d leads;
        left = left;
        healed = fronts_have_healed_reports (plan_of d) run.roomy (first_lines_heal_themselves before d leads run.roomy) text front;
      }

  pub ran_first_lines : (e : Ending) (taken text : List ℕ) (new : Option (List ℕ)) → (e ≢ ends.Done → last ≡ None)
      → (ended : EndedSo (Stands see last) e (all_bytes taken new) taken text)
      → HasRunFirstLines see (all_bytes taken new) text last (lines_run (Stands see last) e (all_bytes taken new) taken text ended)
  ran_first_lines ends.Done taken text new empty ended =
      let bytes = all_bytes taken new in
      let d = ended.ran.draft in
      has_run bytes text (text_lines bytes) [] d text [] (sym (append-nil (text_lines bytes))) ended.ran.leads ended.ran.run (sym (append-nil text))
      (left_behind see last (plan_of d) (first_lines_are_safe (text_lines bytes) d ended.ran.leads) ended.stands_there)
  ran_first_lines (ends.BadLine number why) taken text new empty ended =
      let at = ended.0.at in
      has_run (all_bytes taken new) text at.before (at.line ∷ at.after) at.ran.draft text [] at.parts at.ran.leads at.ran.run (sym (append-nil text))
      (left_nowhere see last (plan_of at.ran.draft) (empty (λ is. cc is)))
  ran_first_lines ends.ReadFault taken text new empty ended =
      let h = whole_of taken new in
      has_run (all_bytes taken new) text (whole_lines taken) h.0 ended.draft text [] h.1 ended.leads ended.run (sym (append-nil text))
      (left_nowhere see last (plan_of ended.draft) (empty (λ is. cc is)))
  ran_first_lines ends.WriteFault taken text new empty ended =
      let ran = ended.ran_with in
      let rest : List ℕ = drop ended.count ended.own in
      let written : ended.said ++ ended.own ≡ text ++ rest =
      ap (λ (z : List ℕ). ended.said ++ z) (sym (take-append-drop ended.count ended.own))
      ∙ sym (append_assoc ended.said (take ended.count ended.own) rest) ∙ ap (λ (z : List ℕ). z ++ rest) (sym ended.text_is) in
      has_run (all_bytes taken new) text (ended.before ++ ended.line ∷ []) ended.after ran.draft (ended.said ++ ended.own) rest
      (ended.parts ∙ sym (append_assoc ended.before (ended.line ∷ []) ended.after)) ran.leads ran.run written (left_nowhere see last (plan_of ran.draft) (empty (λ is. cc is)))
  ran_first_lines ends.NoMemory taken text new empty ended =
      has_run (all_bytes taken new) text ended.before ended.after ended.ran.draft text [] ended.parts ended.ran.leads ended.ran.run (sym (append-nil text))
      (left_nowhere see last (plan_of ended.ran.draft) (empty (λ is. cc is)))
  ran_first_lines ends.Crowded taken text new empty ended =
      let at = ended.0 in
      has_run (all_bytes taken new) text at.before (at.line ∷ at.after) at.ran.draft text [] at.parts at.ran.leads at.ran.run (sym (append-nil text))
      (left_nowhere see last (plan_of at.ran.draft) (empty (λ is. cc is)))
  ran_first_lines ends.TooLong taken text new empty ended =
      let h = whole_of_most taken new in
      has_run (all_bytes taken new) text (whole_lines (take most_bytes taken)) h.0 ended.draft text [] h.1 ended.leads ended.run (sym (append-nil text))
      (left_nowhere see last (plan_of ended.draft) (empty (λ is. cc is)))
