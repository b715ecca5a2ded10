-- The form of a line that was read from at most 2,048 bytes.
use Rattle.std.specs.Prelude.{◌≤◌, length}
use Rattle.script_grammar.specs.declared.line.ScriptLine.{ScriptLine}
use Rattle.script_grammar.specs.declared.line.ScriptLine.TheVariants as line
use Rattle.script_rules.specs.StaleForms.{IsResvForm}
use Rattle.script_rules.specs.WantForms.{IsWantForm}

-- its lists of senders name someone where the style does, and what is injected is no longer than a datagram may be
abbrev pub Formed : ScriptLine → Type 0
Formed (line.StaleResv l) = IsResvForm l.style l.senders
Formed (line.Want l) = IsWantForm l.style l.senders
Formed (line.Inject l) = length l.bytes ≤ 4096
Formed _ = Unit {0}
