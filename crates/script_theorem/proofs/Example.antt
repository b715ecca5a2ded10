-- The run of a small network, computed.
use Rattle.std.proofs.Common.{◌≡◌, ℕ, List, [], false, arith, refl, sym, ap, ◌∙◌}
use Rattle.std.specs.Prelude.{codes, length}
use Rattle.std.specs.Fmt.{digits}
use Rattle.std.specs.Int.Count.{count_leading_zeros}
use Rattle.value_texts.specs.AdspecText.{adspec_words, packet_text, rate_text}
use Rattle.value_texts.specs.Texts.{addr_text, session_text, sender_text, flow_text}
use Rattle.value_texts.specs.Reports.{entry_line, head_text}
use Rattle.router_rules.specs.AdspecPath.Composing.{start}
use Rattle.router_rules.specs.AdspecPath.RateBelow.{rate_below}
use Rattle.router_rules.specs.Rule.{facts_with}
use Rattle.tree_model.specs.Wants.{want}
use Rattle.network_model.specs.Runs.{is_crowded_run, run_text}
use Rattle.script_theorem.specs.Example.{TheAdvertsBecomeWhatIsDemanded, TheReportBecomesTheDemand, demanded, demanded_then, early, late, told_early, told_late}

abbrev asked : List ℕ
asked = codes "end s1 held 300 of 10000\n239.1.1.1/17/5004 WF 10.0.1.1 300/600/inf/64/1500\nend r1 held 0 of 10000\n"

demand : demanded ≡ asked
unfolding digits addr_text session_text sender_text flow_text entry_line head_text facts_with want
demand = refl

settled : run_text late ≡ asked
unfolding digits addr_text session_text sender_text flow_text entry_line head_text facts_with
settled = refl

uncrowded : is_crowded_run late ≡ false
unfolding facts_with
uncrowded = refl

too_early : run_text early ≡ codes "end s1 held 1000 of 10000\n239.1.1.1/17/5004 WF 10.0.1.1 1000/2000/inf/64/1500\nend r1 held 0 of 10000\n"
unfolding digits addr_text session_text sender_text flow_text entry_line head_text facts_with
too_early = refl

differs : run_text early ≡ demanded → ⊥
differs same = let z : length (codes "end s1 held 1000 of 10000\n239.1.1.1/17/5004 WF 10.0.1.1 1000/2000/inf/64/1500\nend r1 held 0 of 10000\n") ≡ length asked = ap length (sym too_early ∙ same ∙ demand) in omega (arith, z)

pub the_report_becomes_the_demand : TheReportBecomesTheDemand
the_report_becomes_the_demand = record {
  demand = demand;
  enough = omega arith;
  uncrowded = uncrowded;
  settled = settled ∙ sym demand;
  too_early = too_early;
  differs = differs;
}

-- ---- advertisements
abbrev told : List ℕ
told = codes "r1 239.1.1.1/17/5004 10.0.1.1:5004 hops 1 rate 10000 latency 0 mtu 1500 cl ok\n"

due : demanded_then ≡ told
unfolding digits addr_text session_text sender_text adspec_words rate_text packet_text facts_with start rate_below count_leading_zeros
due = refl

told_then : run_text told_late ≡ told
unfolding digits addr_text session_text sender_text adspec_words rate_text packet_text facts_with start rate_below count_leading_zeros
told_then = refl

roomy : is_crowded_run told_late ≡ false
unfolding facts_with start rate_below count_leading_zeros
roomy = refl

nothing_yet : run_text told_early ≡ []
unfolding facts_with
nothing_yet = refl

pub the_adverts_become_what_is_demanded : TheAdvertsBecomeWhatIsDemanded
the_adverts_become_what_is_demanded = record { demand = due; enough = omega arith; uncrowded = roomy; settled = told_then ∙ sym due; too_early = nothing_yet }
