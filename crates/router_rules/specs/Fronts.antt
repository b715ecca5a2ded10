-- That the shut fronts, which contracts cite, are the rule.
use Rattle.std.specs.Prelude.{◌≡◌, ℕ}
use Rattle.rsvp_base.specs.declared.addr.Addr.{Addr}
use Rattle.router_rules.specs.Calls.{act_stale, call_refusal, stale_refusal}
use Rattle.router_rules.specs.Facts.{Facts}
use Rattle.router_rules.specs.Flags.{entries_at, entries_of}
use Rattle.router_rules.specs.Inputs.{Arrival, Came, Input, Local, Stale}
use Rattle.router_rules.specs.NodeConfig.{NodeConfig}
use Rattle.router_rules.specs.Rule.{facts_after, facts_with, heard_after, refusal_of_call, refusal_of_stale, rule, sent_after, settled}

pub record FrontsAreTheRule : Type 0 where
  pub facts : (old p : NodeConfig) (c : ℕ) (i : Input) (f : Facts) → facts_after old p c i f ≡ (rule old p c i f).facts
  pub sent : (old p : NodeConfig) (c : ℕ) (i : Input) (f : Facts) → sent_after old p c i f ≡ (rule old p c i f).sent
  pub heard : (old p : NodeConfig) (c e : ℕ) (dst : Addr) (a : Arrival) (f : Facts) → heard_after p c e dst a f ≡ (rule old p c (Came e dst a) f).heard
  pub call : (p : NodeConfig) (l : Local) (f : Facts) → refusal_of_call p l f ≡ call_refusal p l f
  pub left : (p : NodeConfig) (c : ℕ) (i : Stale) (f : Facts) → facts_with p c i f ≡ settled p c f (act_stale p i f)
  pub stale : (p : NodeConfig) (i : Stale) (f : Facts) → refusal_of_stale p i f ≡ stale_refusal p i f
  pub entries : (p : NodeConfig) (f : Facts) (i : ℕ) → entries_of p f i ≡ entries_at p f i
