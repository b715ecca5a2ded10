-- What is written of the ends of a network.
use Rattle.std.specs.Prelude.{◌≡◌, ℕ, Bool, true, false, List, ◌++◌, Option, None, Some, Result, Ok, Err}
use Rattle.rsvp_base.specs.declared.room.NoMemory.{NoMemory}
use Rattle.value_texts.specs.Reports.{entry_text}
use Rattle.router_rules.specs.declared.entry.Entry.{Entry}
use Rattle.router_rules.specs.Facts.{Facts}
use Rattle.router_rules.specs.NodeConfig.{NodeConfig}
use Rattle.tree_model.specs.declared.hops.End.{End}
use Rattle.network_flight.specs.Runs.{plain_report, flags_report, end_report, whole_report}
use Rattle.network_flight.specs.Texts.{flagged_text}
use Rattle.network_flight.specs.Worlds.{World}

-- a text was appended; or memory ran out, and a prefix of it was
abbrev pub Says : Result (Unit {0}) NoMemory → List ℕ → List ℕ → List ℕ → Type 0
Says (Ok _) before after text = after ≡ before ++ text
Says (Err _) before after text = (rest : List ℕ) × (before ++ text ≡ after ++ rest)

-- an entry, with its policing flags or without
abbrev pub entry_said : Bool → Entry → List ℕ
entry_said true e = flagged_text e
entry_said false e = entry_text e.key e.part

abbrev pub report_kind : Bool → NodeConfig → List ℕ → End → ℕ → Facts → List ℕ
report_kind true p name e iface f = flags_report p name e iface f
report_kind false p name e iface f = plain_report p name e iface f

-- the report of an end, or of all
abbrev pub report_said : ℕ → List (List ℕ) → Bool → Option ℕ → World → List ℕ
report_said q names flags None w = whole_report q names (report_kind flags) w
report_said q names flags (Some e) w = end_report q names (report_kind flags) w e
