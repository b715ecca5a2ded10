-- The sessions of reservations that die.
use Rattle.std.specs.Prelude.{ℕ, List, map as each}
use Rattle.rsvp_base.specs.Table.{Table, changed}
use Rattle.rsvp_base.specs.declared.session.Session.{Session}
use Rattle.resv_state.specs.Resvs.{ResvFacts, dead_after}
use Rattle.resv_state.specs.declared.fact.ResvFact.{ResvFact}
use Rattle.style_rules.specs.Lines.{line_keys}

abbrev pub sessions_in : Table line_keys ResvFact → List Session
sessions_in m = each (λ e. e.0.0) m.rows

-- those of which reservations have at most so much left
abbrev pub dying_in : ℕ → ResvFacts → List Session
dying_in ms m = sessions_in (changed (dead_after ms) m)
