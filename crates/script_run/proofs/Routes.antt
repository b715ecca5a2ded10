-- The network behind the run of lines has the routing that they leave in force, so a tree that a line moves is one that it can have.
use Rattle.std.proofs.Common.{◌≡◌, ℕ, List, [], ◌∷◌, ◌++◌, None, Some, true, false, refl, sym, ap, subst, ◌∙◌, inl, inr}
use Rattle.router_rules.specs.Inputs.{Arrival, QuitAll}
use Rattle.tree_model.specs.Networks.{Net}
use Rattle.tree_model.specs.Trees.{is_linked}
use Rattle.tree_model.specs.declared.hops.LinkHop.{LinkHop}
use Rattle.tree_model.specs.declared.hops.TreeHop.{TreeHop}
use Rattle.tree_routing.proofs.Carried.{Same, grown_over}
use Rattle.network_model.specs.Happenings.{event_with}
use Rattle.network_model.specs.Moves.{CanMove}
use Rattle.network_model.specs.declared.event.Event.{Event as CodeEvent}
use Rattle.network_model.specs.declared.event.Event.TheVariants as event
use Rattle.network_replay.specs.Happening.{CanHappen}
use Rattle.script_words.specs.Addresses.{addr_value}
use Rattle.script_words.specs.Sessions.{session_value}
use Rattle.script_grammar.specs.Adds.{Adds, with_advert, with_drop, with_quit, with_reroute, with_send, with_want_line, with_event as with_happening}
use Rattle.script_grammar.specs.Draft.{Draft, end_number, node_number, plan_of, routing, with_hops}
use Rattle.script_grammar.specs.Events.{Event, AtNode, Waits, Pass, DeliverAt, LoseAt, CopyAt, ClearNode, Rounds, Traces, Reports, ReportsFlags, ReportsAdverts, Injects, Reroutes}
use Rattle.script_grammar.specs.Grammar.{Follows}
use Rattle.script_grammar.specs.Rules.{Keeps, KeepsAll}
use Rattle.script_grammar.specs.Runs.{Plan, is_crowded_run, last_world}
use Rattle.script_grammar.specs.Values.{advert_value, drop_value, hop_values, send_value, tree_hop_value, want_value}
use Rattle.script_grammar.specs.Worlds.{World}
use Rattle.script_grammar.specs.declared.line.RerouteLine.{RerouteLine}
use Rattle.script_grammar.specs.declared.line.ScriptLine.{ScriptLine}
use Rattle.script_grammar.specs.declared.line.ScriptLine.TheVariants as line
use Rattle.script_run.specs.Written.{with_event}
use Rattle.script_run.proofs.Adding.{not_empty, not_longer, quiet_line, same_end}
use Rattle.script_run.proofs.Nets.{event_net, net_behind}
use Rattle.script_run.proofs.Runs.{last_with, no_steps}

-- the network behind the run of the lines has the routing in force
abbrev pub IsRouted : Draft → Type 0
IsRouted d = (last_world (plan_of d)).net ≡ routing d

-- ---- a line that adds no event
-- while nothing happened, the hops in force are those that are declared
as_declared : (d : Draft) (l : ScriptLine) (new : Draft) → Adds d l new → new.events ≡ [] → d.force ≡ d.net.hops → new.force ≡ new.net.hops
as_declared d (line.Hop l) new adds none same =
    ap (λ (z : Draft). z.force) adds ∙ ap (λ (hs : List TreeHop). hs ++ tree_hop_value d l ∷ []) same ∙ sym (ap (λ (z : Draft). z.net.hops) adds)
as_declared d (line.Inject l) new adds none same = ap (λ (z : Draft). z.force) adds.2 ∙ same ∙ sym (ap (λ (z : Draft). z.net.hops) adds.2)
as_declared d (line.Reroute l) new adds none same =
    absurd (not_empty d.events (Reroutes (addr_value l.group) (addr_value l.source) (hop_values d l)) (sym (ap (λ (z : Draft). z.events) adds) ∙ none))
as_declared d _ new adds none same = ap (λ (z : Draft). z.force) adds ∙ same ∙ sym (ap (λ (z : Draft). z.net.hops) adds)

first_net : (d : Draft) → d.events ≡ [] → (last_world (plan_of d)).net ≡ d.net
first_net d none = ap (λ (w : World). w.net) (no_steps (plan_of d) none)

pub quiet_routed : (d : Draft) (t : List ℕ) (new : Draft) → Follows d t new → new.events ≡ d.events → IsRouted d → IsRouted new
quiet_routed d t new f same routed = elim (quiet_line d t new f same) [
  | inl e ↦ subst IsRouted (sym e) routed
  | inr e ↦ (
      let was : d.net ≡ routing d = sym (first_net d e.0) ∙ routed in
      let force = as_declared d f.said new f.adds e.1 (sym (ap (λ (n : Net). n.hops) was)) in
      first_net new e.1 ∙ ap (with_hops new.net) (sym force))
]

-- ---- a line that adds one
-- a tree that moves is one that the network can have
abbrev CanBe : Net → Event → Type 0
CanBe net (Reroutes g s hops) = CanMove net g s hops
CanBe net _ = Unit {0}

-- the event can be in the routing in force, and leaves the routing behind it
record IsNext (d new : Draft) (e : Event) : Type 0 where
  can : CanBe (routing d) e
  net : net_behind e (routing d) ≡ routing new

-- a tree that keeps the rules of its line
can_move : (d : Draft) (l : RerouteLine) → KeepsAll (Keeps d (line.Reroute l)) → CanMove (routing d) (addr_value l.group) (addr_value l.source) (hop_values d l)
can_move d l rules =
    record { room = rules.within_limits; grown = grown_over d.net (routing d) carried (addr_value l.source) (hop_values d l) (λ n e. e) rules.of_tree; loop_free = rules.loop_free }
  where
    carried : (x : LinkHop) → is_linked d.net.links x ≡ true → Same d.net (routing d) x
    carried x t = record { linked = t; from = refl; to = refl; link = refl }

module _ (d new : Draft) (e : Event) (added : new.events ≡ d.events ++ e ∷ []) where
  -- the event is this one
  next : (more : Draft) (x : Event) → new ≡ more → more.events ≡ d.events ++ x ∷ [] → CanBe (routing d) x → net_behind x (routing d) ≡ routing more → IsNext d new e
  next more x is events can net =
      let same : x ≡ e = same_end d.events x e (sym events ∙ sym (ap (λ (z : Draft). z.events) is) ∙ added) in
      record { can = subst (CanBe (routing d)) same can; net = ap (λ (z : Event). net_behind z (routing d)) (sym same) ∙ net ∙ sym (ap routing is) }

  next_line : (l : ScriptLine) → KeepsAll (Keeps d l) → Adds d l new → IsNext d new e
  next_line (line.Send l) rules adds = next (with_send d l) (AtNode (node_number d l.node) (send_value l)) adds refl tt refl
  next_line (line.Drop l) rules adds = next (with_drop d l) (AtNode (node_number d l.node) (drop_value l)) adds refl tt refl
  next_line (line.Advert l) rules adds = next (with_advert d l) (AtNode (node_number d l.node) (advert_value l)) adds refl tt refl
  next_line (line.Want l) rules adds = next (with_want_line d l) (AtNode (node_number d l.node) (want_value l)) adds refl tt refl
  next_line (line.Quit l) rules adds = next (with_quit d l) (AtNode (node_number d l.node) (QuitAll (session_value l.session))) adds refl tt refl
  next_line (line.Wait ms) rules adds = next (with_happening d (Waits ms)) (Waits ms) adds refl tt refl
  next_line (line.Pass n) rules adds = next (with_happening d (Pass n)) (Pass n) adds refl tt refl
  next_line (line.Deliver k) rules adds = next (with_happening d (DeliverAt k)) (DeliverAt k) adds refl tt refl
  next_line (line.Lose k) rules adds = next (with_happening d (LoseAt k)) (LoseAt k) adds refl tt refl
  next_line (line.Copy k) rules adds = next (with_happening d (CopyAt k)) (CopyAt k) adds refl tt refl
  next_line (line.Clear node) rules adds = next (with_happening d (ClearNode (node_number d node))) (ClearNode (node_number d node)) adds refl tt refl
  next_line (line.Rounds n) rules adds = next (with_happening d (Rounds n)) (Rounds n) adds refl tt refl
  next_line (line.Trace on) rules adds = next (with_happening d (Traces on)) (Traces on) adds refl tt refl
  next_line line.Report rules adds = next (with_happening d (Reports None)) (Reports None) adds refl tt refl
  next_line (line.ReportEnd end) rules adds = next (with_happening d (Reports (Some (end_number d end)))) (Reports (Some (end_number d end))) adds refl tt refl
  next_line line.Flags rules adds = next (with_happening d ReportsFlags) ReportsFlags adds refl tt refl
  next_line line.Adverts rules adds = next (with_happening d ReportsAdverts) ReportsAdverts adds refl tt refl
  next_line (line.Inject l) rules adds =
      let x = Injects (end_number d l.end) (addr_value l.dst) adds.0 in
      next (with_happening d x) x adds.2 refl tt refl
  next_line (line.Reroute l) rules adds = next (with_reroute d l) (Reroutes (addr_value l.group) (addr_value l.source) (hop_values d l)) adds refl (can_move d l rules) refl
  next_line _ rules adds = absurd (not_longer d.events e (sym (ap (λ (z : Draft). z.events) adds) ∙ added))

pub event_routed : (d : Draft) (t : List ℕ) (new : Draft) (e : Event) → Follows d t new → new.events ≡ d.events ++ e ∷ [] → plan_of new ≡ with_event (plan_of d) e → is_crowded_run (plan_of d) ≡ false
    → is_crowded_run (with_event (plan_of d) e) ≡ false → IsRouted d → IsRouted new
event_routed d t new e f added plan roomy free routed =
    let p = plan_of d in
    ap (λ (x : Plan). (last_world x).net) plan ∙ ap (λ (w : World). w.net) (last_with p e roomy free) ∙ event_net p.quarter e (last_world p) ∙ ap (net_behind e) routed
    ∙ (next_line d new e added f.said f.valid f.adds).net

-- ---- so the event of a line can happen
can_so : (net : Net) (a : Arrival) (e : CodeEvent) → CanBe net (event_with a e) → CanHappen net e
can_so net a (event.Reroute group source hops) can = can
can_so net a _ can = tt

pub can_happen : (d : Draft) (t : List ℕ) (new : Draft) (a : Arrival) (e : CodeEvent) → Follows d t new → new.events ≡ d.events ++ event_with a e ∷ [] → IsRouted d
    → CanHappen (last_world (plan_of d)).net e
can_happen d t new a e f added routed =
    can_so (last_world (plan_of d)).net a e (subst (λ (n : Net). CanBe n (event_with a e)) (sym routed) (next_line d new (event_with a e) added f.said f.valid f.adds).can)
