-- Lines of part 3: each adds one event, and behind them no other line stands.
use Rattle.std.proofs.Common.{◌≡◌, ◌≢◌, ◌⊎◌, List, [], None, Some, refl, ap, inl, inr}
use Rattle.script_words.specs.Addresses.{addr_value}
use Rattle.script_words.specs.Sessions.{session_value}
use Rattle.network_model.specs.RouterRules.Inputs.{QuitAll}
use Rattle.network_model.specs.Events.{AtNode, Waits, Pass, DeliverAt, LoseAt, CopyAt, ClearNode, Rounds, Traces, Reports, ReportsFlags, ReportsAdverts, Injects, Reroutes}
use Rattle.script_grammar.specs.Adds.{Adds}
use Rattle.script_grammar.specs.Draft.{Draft, end_number, node_number, plan_of}
use Rattle.script_grammar.specs.Grammar.{Happens}
use Rattle.script_grammar.specs.Laws.{AddsOneEvent}
use Rattle.script_grammar.specs.Rules.{Keeps, KeepsAll}
use Rattle.script_grammar.specs.Values.{advert_value, drop_value, hop_values, send_value, want_value}
use Rattle.script_grammar.specs.declared.line.ScriptLine.{ScriptLine}
use Rattle.script_grammar.specs.declared.line.ScriptLine.TheVariants as line

pub adds_one_event : (d : Draft) (said : ScriptLine) (new : Draft) → Happens said → Adds d said new → AddsOneEvent (plan_of d) (plan_of new)
adds_one_event d line.Skipped new h x = absurd h
adds_one_event d (line.Period ms) new h x = absurd h
adds_one_event d (line.Seed times) new h x = absurd h
adds_one_event d (line.Node name) new h x = absurd h
adds_one_event d (line.End l) new h x = absurd h
adds_one_event d (line.Latency l) new h x = absurd h
adds_one_event d (line.Link names) new h x = absurd h
adds_one_event d (line.Hop l) new h x = absurd h
adds_one_event d (line.StalePath l) new h x = absurd h
adds_one_event d (line.StaleResv l) new h x = absurd h
adds_one_event d (line.StaleHopWall l) new h x = absurd h
adds_one_event d (line.StaleSenderWall l) new h x = absurd h
adds_one_event d (line.Send l) new h x = record { event = AtNode (node_number d l.node) (send_value l); plan = ap plan_of x }
adds_one_event d (line.Drop l) new h x = record { event = AtNode (node_number d l.node) (drop_value l); plan = ap plan_of x }
adds_one_event d (line.Advert l) new h x = record { event = AtNode (node_number d l.node) (advert_value l); plan = ap plan_of x }
adds_one_event d (line.Want l) new h x = record { event = AtNode (node_number d l.node) (want_value l); plan = ap plan_of x }
adds_one_event d (line.Quit l) new h x = record { event = AtNode (node_number d l.node) (QuitAll (session_value l.session)); plan = ap plan_of x }
adds_one_event d (line.Wait ms) new h x = record { event = Waits ms; plan = ap plan_of x }
adds_one_event d (line.Pass times) new h x = record { event = Pass times; plan = ap plan_of x }
adds_one_event d (line.Deliver k) new h x = record { event = DeliverAt k; plan = ap plan_of x }
adds_one_event d (line.Lose k) new h x = record { event = LoseAt k; plan = ap plan_of x }
adds_one_event d (line.Copy k) new h x = record { event = CopyAt k; plan = ap plan_of x }
adds_one_event d (line.Clear node) new h x = record { event = ClearNode (node_number d node); plan = ap plan_of x }
adds_one_event d (line.Rounds times) new h x = record { event = Rounds times; plan = ap plan_of x }
adds_one_event d (line.Trace on) new h x = record { event = Traces on; plan = ap plan_of x }
adds_one_event d line.Report new h x = record { event = Reports None; plan = ap plan_of x }
adds_one_event d (line.ReportEnd end) new h x = record { event = Reports (Some (end_number d end)); plan = ap plan_of x }
adds_one_event d line.Flags new h x = record { event = ReportsFlags; plan = ap plan_of x }
adds_one_event d line.Adverts new h x = record { event = ReportsAdverts; plan = ap plan_of x }
adds_one_event d (line.Inject l) new h x = record { event = Injects (end_number d l.end) (addr_value l.dst) x.0; plan = ap plan_of x.2 }
adds_one_event d (line.Reroute l) new h x = record { event = Reroutes (addr_value l.group) (addr_value l.source) (hop_values d l); plan = ap plan_of x }

pub events_alone : (d : Draft) (said : ScriptLine) → d.events ≢ [] → KeepsAll (Keeps d said) → Happens said ⊎ (said ≡ line.Skipped)
events_alone d line.Skipped some k = inr refl
events_alone d (line.Period ms) some k = absurd (some k.in_time.no_event)
events_alone d (line.Seed n) some k = absurd (some k.in_time.no_event)
events_alone d (line.Node name) some k = absurd (some k.in_time.no_event)
events_alone d (line.End l) some k = absurd (some k.in_time.no_event)
events_alone d (line.Latency l) some k = absurd (some k.in_time.no_event)
events_alone d (line.Link names) some k = absurd (some k.in_time.no_event)
events_alone d (line.Hop l) some k = absurd (some k.in_time.no_event)
events_alone d (line.StalePath l) some k = absurd (some k.in_time)
events_alone d (line.StaleResv l) some k = absurd (some k.in_time)
events_alone d (line.StaleHopWall l) some k = absurd (some k.in_time)
events_alone d (line.StaleSenderWall l) some k = absurd (some k.in_time)
events_alone d (line.Send l) some k = inl tt
events_alone d (line.Drop l) some k = inl tt
events_alone d (line.Advert l) some k = inl tt
events_alone d (line.Want l) some k = inl tt
events_alone d (line.Quit l) some k = inl tt
events_alone d (line.Wait ms) some k = inl tt
events_alone d (line.Pass n) some k = inl tt
events_alone d (line.Deliver at) some k = inl tt
events_alone d (line.Lose at) some k = inl tt
events_alone d (line.Copy at) some k = inl tt
events_alone d (line.Clear node) some k = inl tt
events_alone d (line.Rounds n) some k = inl tt
events_alone d (line.Trace on) some k = inl tt
events_alone d line.Report some k = inl tt
events_alone d (line.ReportEnd end) some k = inl tt
events_alone d line.Flags some k = inl tt
events_alone d line.Adverts some k = inl tt
events_alone d (line.Inject l) some k = inl tt
events_alone d (line.Reroute l) some k = inl tt
