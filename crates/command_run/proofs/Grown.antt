-- The run of a grown network, by its status: nothing is read for it, and where it is done it reports what is demanded.
use Rattle.std.proofs.Common.{◌≡◌, ℕ, Bool, true, false, List, ◌++◌, Option, None, refl, sym, ap, subst, ◌∙◌, append_assoc, inl, inr}
use Rattle.std.specs.Prelude.{◌≢◌, codes}
use Rattle.std.specs.Fmt.{decimal}
use Rattle.std.specs.Io.KnownBytes.{Appends}
use Rattle.network_model.specs.Runs.{Plan, is_crowded_run}
use Rattle.script_run.specs.Endings.{IsOrNoMemory as EndsOrNoMemory}
use Rattle.script_run.specs.declared.ending.Ending.{Ending}
use Rattle.script_run.specs.declared.ending.Ending.TheVariants as ending
use Rattle.grown_network.specs.Grown.{grown_plan}
use Rattle.grown_network.specs.Summaries.{is_as_demanded, summary, summary_of}
use Rattle.grown_network.specs.Texts.{booked_line, counts_text, equal_line, network_line, rounds_line, seed_line, summary_text}
use Rattle.grown_network.specs.declared.summary.Summary.{Summary}
use Rattle.network_replay.specs.Agreeing.{NetworkState}
use Rattle.network_replay.specs.Following.{Seen}
use Rattle.script_run.specs.Standing.{IsNetworkOf}
use Rattle.laws_grown.specs.ScriptTheorem.Theorem.{IsSafe}
use Rattle.laws_grown.proofs.ScriptTheorem.Safety.{fit_runs_are_safe}
use Rattle.laws_grown.proofs.Fit.{grown_runs_are_fit}
use Rattle.laws_grown.proofs.Ending.{a_grown_run_is_its_demand}
use Rattle.laws_grown.proofs.Equal.{a_grown_network_is_as_demanded}
use Rattle.laws_grown.proofs.Crowding.{seeds_never_crowd}
use Rattle.grown_player.specs.Endings.{GrownSo, GrowsTo, IsGrownRun}
use Rattle.command_run.specs.Commands.{Grown}
use Rattle.command_run.specs.FirstLines.{IsLeftIn}
use Rattle.command_run.specs.Growing.{EndsAsDemanded, EndsInEqualYes, IsEndOfGrowth}
use Rattle.command_run.specs.Ran.{Device, HasFailed}
use Rattle.command_run.specs.Statuses.{status_of}
use Rattle.command_run.specs.declared.status.Status.TheVariants.{Crowded, Done, ReadFault}
use Rattle.command_run.proofs.FirstLines.{left_behind, left_nowhere}
use Rattle.command_run.proofs.Answering.{or_no_memory}

pub never_reads : (stands : Plan → Type 0) (e : Ending) (seed : ℕ) (before after : Option (List ℕ)) → IsGrownRun stands e seed before after → status_of e ≡ ReadFault → ⊥
never_reads stands ending.Done seed before after run is = cc
never_reads stands (ending.BadLine number why) seed before after run is = cc
never_reads stands ending.ReadFault seed before after run is = run.ended
never_reads stands ending.WriteFault seed before after run is = cc
never_reads stands ending.NoMemory seed before after run is = cc
never_reads stands ending.Crowded seed before after run is = cc
never_reads stands ending.TooLong seed before after run is = cc

pub never_crowds : (stands : Plan → Type 0) (e : Ending) (seed : ℕ) (before after : Option (List ℕ)) → IsGrownRun stands e seed before after → status_of e ≡ Crowded → ⊥
never_crowds stands ending.Done seed before after run is = cc
never_crowds stands (ending.BadLine number why) seed before after run is = cc
never_crowds stands ending.ReadFault seed before after run is = cc
never_crowds stands ending.WriteFault seed before after run is = cc
never_crowds stands ending.NoMemory seed before after run is = cc
never_crowds stands ending.Crowded seed before after run is = let crowds : true ≡ false = sym run.ended.0 ∙ seeds_never_crowd seed in cc
never_crowds stands ending.TooLong seed before after run is = cc

-- ---- done
-- two pieces at the end are one
joined : (a b c x y z : List ℕ) → a ++ (b ++ (c ++ ((x ++ y) ++ z))) ≡ (a ++ (b ++ (c ++ x))) ++ (y ++ z)
joined a b c x y z =
    ap (λ (t : List ℕ). a ++ (b ++ (c ++ t))) (append_assoc x y z)
    ∙ ap (λ (t : List ℕ). a ++ (b ++ t)) (sym (append_assoc c x (y ++ z)))
    ∙ ap (λ (t : List ℕ). a ++ t) (sym (append_assoc b (c ++ x) (y ++ z)))
    ∙ sym (append_assoc a (b ++ (c ++ x)) (y ++ z))

-- the summary of an equal run
equal_yes : (s : Summary) → s.equal ≡ true → EndsInEqualYes (summary_text s)
unfolding booked_line
equal_yes s is =
    let first = seed_line s.seed in
    let network = network_line s.nodes s.hops s.longest in
    let rounds = rounds_line s.rounds s.delivered in
    let held = counts_text s.booked.ends s.booked.entries ++ codes " held " ++ decimal s.booked.held in (
      first ++ (network ++ (rounds ++ held)),
      ap (λ (b : Bool). first ++ (network ++ (rounds ++ ((held ++ codes "\n") ++ equal_line b)))) is
          ∙ joined first network rounds held (codes "\n") (codes "equal yes\n"),
    )

summary_says_so : (seed : ℕ) → is_as_demanded seed ≡ true → EndsInEqualYes (summary seed)
unfolding summary
summary_says_so seed is = equal_yes (summary_of seed) is

roomy_as_demanded : (seed : ℕ) (before after : Option (List ℕ)) (text : List ℕ) → text ≡ summary seed → Appends before after text
    → EndsAsDemanded seed before after
roomy_as_demanded seed before after text is wrote = record {
  reports = a_grown_run_is_its_demand seed;
  wrote = subst (λ (t : List ℕ). Appends before after t) is wrote;
  says_so = summary_says_so seed (a_grown_network_is_as_demanded seed);
}

pub done_as_demanded : (stands : Plan → Type 0) (e : Ending) (seed : ℕ) (before after : Option (List ℕ)) → status_of e ≡ Done → IsGrownRun stands e seed before after → EndsAsDemanded seed before after
done_as_demanded stands ending.Done seed before after is run = roomy_as_demanded seed before after run.text run.ended.1 run.wrote
done_as_demanded stands (ending.BadLine number why) seed before after is run = absurd (cc is)
done_as_demanded stands ending.ReadFault seed before after is run = absurd (cc is)
done_as_demanded stands ending.WriteFault seed before after is run = absurd (cc is)
done_as_demanded stands ending.NoMemory seed before after is run = absurd (cc is)
done_as_demanded stands ending.Crowded seed before after is run = absurd (cc is)
done_as_demanded stands ending.TooLong seed before after is run = absurd (cc is)

-- ---- however it ended
ends_so : (stands : Plan → Type 0) (e : Ending) (seed : ℕ) (text : List ℕ) → GrownSo stands e seed text → IsEndOfGrowth (status_of e)
ends_so stands ending.Done seed text ended = inl refl
ends_so stands (ending.BadLine number why) seed text ended = absurd ended
ends_so stands ending.ReadFault seed text ended = absurd ended
ends_so stands ending.WriteFault seed text ended = inr (inl refl)
ends_so stands ending.NoMemory seed text ended = inr (inr refl)
ends_so stands ending.Crowded seed text ended = absurd (let crowds : true ≡ false = sym ended.0 ∙ seeds_never_crowd seed in cc)
ends_so stands ending.TooLong seed text ended = absurd ended

module _ {R : Type 0} (see : Seen R) (last : Option (NetworkState R)) where
  safe_growth : (seed : ℕ) → IsSafe (grown_plan seed)
  safe_growth seed = fit_runs_are_safe (grown_plan seed) (grown_runs_are_fit seed).run

  left_so : (e : Ending) (seed : ℕ) (text : List ℕ) → (e ≢ ending.Done → last ≡ None)
      → GrownSo (IsNetworkOf see last) e seed text → IsLeftIn see last (grown_plan seed)
  left_so ending.Done seed text empty ended = left_behind see last (grown_plan seed) (safe_growth seed) ended.2
  left_so (ending.BadLine number why) seed text empty ended = absurd ended
  left_so ending.ReadFault seed text empty ended = absurd ended
  left_so ending.WriteFault seed text empty ended = left_nowhere see last (grown_plan seed) (empty (λ is. cc is))
  left_so ending.NoMemory seed text empty ended = left_nowhere see last (grown_plan seed) (empty (λ is. cc is))
  left_so ending.Crowded seed text empty ended = left_nowhere see last (grown_plan seed) (empty (λ is. cc is))
  left_so ending.TooLong seed text empty ended = absurd ended

  pub grown_so : (e : Ending) (seed : ℕ) (sink : Device) → IsGrownRun (IsNetworkOf see last) e seed sink.old sink.new → (e ≢ ending.Done → last ≡ None)
      → ((wanted : Ending) → GrowsTo wanted seed → (wanted ≡ ending.Done → HasFailed sink → ⊥) → EndsOrNoMemory wanted e) → Grown see last seed (status_of e) sink
  grown_so e seed sink run empty complete = record {
    ending = (e, refl, run);
    safe = safe_growth seed;
    left = left_so e seed run.text empty run.ended;
    as_demanded = λ done. done_as_demanded (IsNetworkOf see last) e seed sink.old sink.new done run;
    ends = ends_so (IsNetworkOf see last) e seed run.text run.ended;
    complete = λ quiet. or_no_memory ending.Done e (complete ending.Done (seeds_never_crowd seed) (λ is. quiet));
  }
