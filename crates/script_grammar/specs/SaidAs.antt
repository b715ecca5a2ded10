-- What the words behind the first one say in a line of a kind.
use Rattle.std.specs.Prelude.{ℕ, List, Bool, true, false, Option}
use Rattle.script_grammar.specs.LineKinds.{period_line, seed_line, node_line, end_line, latency_line, link_line, hop_line, stale_path_line, stale_resv_line, stale_blockade_line}
use Rattle.script_grammar.specs.LineKinds.{send_line, drop_line, advert_line, want_line, quit_line, clear_line, numbered, pass_line, inject_line, trace_line, report_line}
use Rattle.script_grammar.specs.LineKinds.{flags_line, adverts_line, reroute_line}
use Rattle.script_grammar.specs.declared.line.ScriptLine.{ScriptLine}
use Rattle.script_grammar.specs.declared.line.ScriptLine.TheVariants as line
use Rattle.script_grammar.specs.declared.kind.Kind.{Kind}
use Rattle.script_grammar.specs.declared.kind.Kind.TheVariants as kind

abbrev pub said_as : Kind → List (List ℕ) → Option ScriptLine
said_as kind.Period behind = period_line behind
said_as kind.Seed behind = seed_line behind
said_as kind.Node behind = node_line behind
said_as kind.End behind = end_line behind
said_as kind.Latency behind = latency_line behind
said_as kind.Link behind = link_line behind
said_as kind.Hop behind = hop_line behind
said_as kind.StalePath behind = stale_path_line behind
said_as kind.StaleResv behind = stale_resv_line behind
said_as kind.WildResv behind = stale_resv_line behind
said_as kind.Blockade behind = stale_blockade_line behind
said_as kind.HopBlockade behind = stale_blockade_line behind
said_as kind.SenderBlockade behind = stale_blockade_line behind
said_as kind.Send behind = send_line behind
said_as kind.Drop behind = drop_line behind
said_as kind.Advert behind = advert_line behind
said_as kind.Want behind = want_line behind
said_as kind.WildWant behind = want_line behind
said_as kind.Quit behind = quit_line behind
said_as kind.Clear behind = clear_line behind
said_as kind.Wait behind = numbered line.Wait behind
said_as kind.Pass behind = pass_line behind
said_as kind.Rounds behind = numbered line.Rounds behind
said_as kind.Deliver behind = numbered line.Deliver behind
said_as kind.Lose behind = numbered line.Lose behind
said_as kind.Copy behind = numbered line.Copy behind
said_as kind.Inject behind = inject_line behind
said_as kind.Trace behind = trace_line behind
said_as kind.Report behind = report_line behind
said_as kind.Flags behind = flags_line behind
said_as kind.Adverts behind = adverts_line behind
said_as kind.Reroute behind = reroute_line behind

-- words of it stand for a list
abbrev pub has_list : Kind → Bool
has_list kind.Link = true
has_list kind.StaleResv = true
has_list kind.WildResv = true
has_list kind.Want = true
has_list kind.WildWant = true
has_list kind.Inject = true
has_list kind.Reroute = true
has_list _ = false
