-- What lines that may begin a script ask of the network behind them, and that it can be asked.
use Rattle.std.specs.Prelude.{ℕ, List}
use Rattle.network_demand.specs.Demands.{AreLocals}
use Rattle.script_grammar.specs.Draft.{Draft, nothing, routing}
use Rattle.script_grammar.specs.Grammar.{Leads}
use Rattle.tree_model.specs.Valid.{IsValid}

-- the routing in force is valid, and has the nodes at which something is wanted, in at most 32 sessions of at most 16 senders each
pub record CanBeAsked (d : Draft) : Type 0 where
  pub valid : IsValid (routing d)
  pub locals : AreLocals (routing d) d.locals

abbrev pub WhatLinesAskCanBeAsked : Type 0
WhatLinesAskCanBeAsked = (lines : List (List ℕ)) (d : Draft) → Leads nothing lines d → CanBeAsked d
