-- Time passes (RFC 2205, 3.7): what is not refreshed dies, and sessions come due (RFC 2209, 2: PATH REFRESH, RESV REFRESH).
use Rattle.std.specs.Prelude.{ℕ, ◌+◌, ◌*◌, ◌%◌, nat_le, nat_lt, cond, [], Option, Some, None}
use Rattle.rsvp_base.specs.Table.{changed}
use Rattle.router_rules.specs.declared.answers.Heard.TheVariants as heard
use Rattle.router_rules.specs.Facts.{Facts, Resvs, each_table}
use Rattle.router_rules.specs.Inputs.{Change}
use Rattle.router_rules.specs.NodeConfig.{NodeConfig, period}

-- what dies later than the clock
abbrev pub living : {X : Type 0} → ℕ → (X → ℕ) → X → Option X
living c dies x = cond (nat_lt c (dies x)) (Some x) None

abbrev pub living_resvs : ℕ → Resvs → Resvs
living_resvs c t = changed (λ k. living c (λ r. r.dies)) t

-- a due moment that is reached moves by half a period and up to one more, as the word says
abbrev pub next_due : NodeConfig → ℕ → ℕ → ℕ → ℕ
next_due p c word t = cond (nat_le t c) (t + 2 * p.quarter + word % (period p + 1)) t

abbrev pub act_wait : NodeConfig → ℕ → ℕ → Facts → Change
act_wait p c word f = record {
  facts = record f {
    paths = changed (λ k. living c (λ x. x.dies)) f.paths;
    resvs = each_table (λ st. living_resvs c) f.resvs;
    walls = changed (λ k. living c (λ x. x.dies)) f.walls;
    due = changed (λ s t. Some (next_due p c word t)) f.due;
  };
  errors = [];
  confs = [];
  fired = changed (λ s t. cond (nat_le t c) (Some tt) None) f.due;
  asked = None;
  heard = heard.Taken;
}
