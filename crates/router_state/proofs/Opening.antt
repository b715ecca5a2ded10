-- A node without facts.
use Rattle.std.specs.Prelude.{◌≡◌, ℕ, true, Some, refl}
use Rattle.std.proofs.Common.{sym}
use Rattle.rsvp_base.specs.Table.{get}
use Rattle.rsvp_base.specs.declared.style.StyleKind.{StyleKind}
use Rattle.rsvp_base.specs.declared.style.StyleKind.TheVariants.{Wild, Fixed, Shared}
use Rattle.resv_state.specs.StyleRules.Lines.{LineKey}
use Rattle.resv_state.specs.StyleRules.Parts.{has_name}
use Rattle.laws_bounds.specs.RouterRules.Facts.{ResvState, resvs_of}
use Rattle.laws_bounds.specs.RouterRules.NodeConfig.{NodeConfig}
use Rattle.laws_bounds.proofs.Requesting.{nowhere}
use Rattle.router_state.specs.State.{IsKept, facts_of, no_state}
use Rattle.router_state.specs.StateLaws.{NoFactsAreKept}

pub kept_none : (p : NodeConfig) → IsKept (no_state p)
kept_none p = record {
  settled = record { counted = λ c s. refl; named = none };
  said = record {
    at = λ c l. sym (nowhere p (facts_of c (no_state p)) l refl);
    some = λ l t e. absurd
        (cc);
  };
  unmarked = λ k w e. absurd (cc);
}
  where
    none : (c : ℕ) (st : StyleKind) (k : LineKey) (r : ResvState) → get (resvs_of st (facts_of c (no_state p))) k ≡ Some r → has_name r.part ≡ true
    none c Wild k r e = cc
    none c Fixed k r e = cc
    none c Shared k r e = cc

pub no_facts_are_kept : NoFactsAreKept
no_facts_are_kept = kept_none
