-- Each line of a script keeps that its events are fit, each in the network that those before it leave.
use Rattle.std.proofs.Common.{◌≡◌, ℕ, ◌≤◌, ◌<◌, List, [], ◌∷◌, length, None, Some, true, arith, refl, sym, ap, subst, ◌∙◌}
use Rattle.std.specs.Prelude.{◌++◌, ◌==◌, map as each}
use Rattle.rsvp_base.specs.declared.addr.Addr.{Addr}
use Rattle.rsvp_base.specs.declared.style.StyleKind.{StyleKind}
use Rattle.rsvp_base.specs.declared.style.StyleKind.TheVariants.{Wild, Fixed, Shared}
use Rattle.rsvp_base.specs.Members.{In}
use Rattle.rsvp_base.specs.Sets.{set_of}
use Rattle.rsvp_base.specs.Table.{get, size}
use Rattle.rsvp_base.proofs.Counts.{found_in, in_set_of}
use Rattle.rsvp_base.proofs.Members.{in_any, to_each}
use Rattle.rsvp_base.proofs.SetLaws.{and_both}
use Rattle.message_codec.proofs.ProperRead.{what_is_spelt_is_proper}
use Rattle.script_words.specs.declared.raw.SenderWord.{SenderWord}
use Rattle.script_words.specs.Addresses.{addr_value}
use Rattle.script_words.specs.Lines.{text_lines}
use Rattle.script_words.specs.Sessions.{sender_value, session_value}
use Rattle.rsvp_objects.specs.Fields.{AreBytes}
use Rattle.router_rules.specs.Inputs.{Arrival, QuitAll, Spelt, Unspelt}
use Rattle.router_rules.specs.Steps.{IsFitList}
use Rattle.tree_model.specs.declared.hops.LinkHop.{LinkHop}
use Rattle.tree_model.specs.declared.hops.TreeHop.{TreeHop}
use Rattle.tree_model.specs.Networks.{Net}
use Rattle.tree_model.specs.Trees.{IsGrown, is_linked, key_of, of_tree, tree_keys, trees_of}
use Rattle.tree_model.specs.Valid.{IsValid}
use Rattle.tree_model.proofs.Following.{addr_same}
use Rattle.tree_routing.proofs.Carried.{Same, grown_over}
use Rattle.network_model.specs.Bounds.{IsProperArrival}
use Rattle.network_model.specs.Events.{AtNode, ClearNode, CopyAt, DeliverAt, Event, Injects, LoseAt, Pass, Reports, ReportsFlags, ReportsAdverts, Reroutes, Rounds, Traces, Waits}
use Rattle.laws_network.specs.Runs.{AreFitEvents, IsFitEvent, IsFitRun, net_then}
use Rattle.laws_network.proofs.Known.{has_some}
use Rattle.script_grammar.specs.Adds.{Adds, IsArrival, net_rerouted}
use Rattle.script_grammar.specs.declared.line.ScriptLine.{ScriptLine}
use Rattle.script_grammar.specs.declared.line.ScriptLine.TheVariants as line
use Rattle.script_grammar.specs.declared.line.RerouteLine.{RerouteLine}
use Rattle.script_grammar.specs.Draft.{Draft, end_number, node_number, nothing, routing, with_hops}
use Rattle.script_grammar.specs.Grammar.{Leads}
use Rattle.script_grammar.specs.Rules.{Keeps, KeepsAll, sender_list}
use Rattle.script_grammar.specs.Values.{advert_value, drop_value, hop_values, send_value, senders_value, want_value}
use Rattle.laws_scripts.specs.Scripts.{EachScriptIsAFitRun, FirstLinesAreAFitRun}
use Rattle.laws_scripts.proofs.DeclaredLines.{Declared, declared_first, declared_line, place_inside}
use Rattle.laws_scripts.proofs.FitLinks.{FitLinks, fit_links_first, fit_links_line, fit_links}
use Rattle.laws_scripts.proofs.Leading.{led}
use Rattle.laws_scripts.proofs.LeftOverLines.{fit_plan_behind, Fitting, fitting_first, fitting_line, some_named, sound}
use Rattle.laws_scripts.proofs.Senders.{not_empty}
use Rattle.tree_routing.proofs.ValidReroutes.{valid_rerouted}
use Rattle.laws_scripts.proofs.Words.{Formed, formed}
use Rattle.script_grammar.proofs.LineForms.{IsWantForm}
use Rattle.std.proofs.lemmas.List.{length-map}

-- ---- events one after another
nets_then : List Event → Net → Net
nets_then [] net = net
nets_then (e ∷ es) net = nets_then es (net_then e net)

nets_push : (es : List Event) (e : Event) (net : Net) → nets_then (es ++ e ∷ []) net ≡ net_then e (nets_then es net)
unfolding nets_then
nets_push [] e net = refl
nets_push (x ∷ es) e net = nets_push es e (net_then x net)

fit_push : (ts : List (Addr × Addr)) (es : List Event) (e : Event) (net : Net) → AreFitEvents ts net es → IsFitEvent ts (nets_then es net) e → AreFitEvents ts net (es ++ e ∷ [])
unfolding nets_then
fit_push ts [] e net fit one = (one, tt)
fit_push ts (x ∷ es) e net fit one = (fit.0, fit_push ts es e (net_then x net) fit.1 one)

-- the events so far are fit, and lead from the network that is declared to the routing in force, which is valid
record Going (net : Net) (force : List TreeHop) (es : List Event) : Type 0 where
  none : es ≡ [] → force ≡ net.hops
  now : nets_then es net ≡ with_hops net force
  valid : IsValid (with_hops net force)
  events : AreFitEvents (trees_of net.hops) net es

abbrev Goes : Draft → Type 0
Goes d = Going d.net d.force d.events

-- nothing happened yet
declared : (d new : Draft) → d.events ≡ [] → new.events ≡ d.events → new.force ≡ new.net.hops → IsValid new.net → Goes new
unfolding nets_then
declared d new none events force valid = record {
  none = λ e. force;
  now = subst (λ (z : List Event). nets_then z new.net ≡ with_hops new.net new.force) (sym (events ∙ none)) (ap (with_hops new.net) (sym force));
  valid = subst IsValid (ap (with_hops new.net) (sym force)) valid;
  events = subst (λ (z : List Event). AreFitEvents (trees_of new.net.hops) new.net z) (sym (events ∙ none)) tt;
}

same : (d new : Draft) → Goes d → new.net ≡ d.net → new.force ≡ d.force → new.events ≡ d.events → Goes new
same d new h net force events = subst (λ (z : Net × List TreeHop × List Event). Going z.0 z.1 z.2) (λ i. (sym net i, sym force i, sym events i)) h

happened : (net : Net) (force more : List TreeHop) (es : List Event) (e : Event) → Going net force es → IsFitEvent (trees_of net.hops) (with_hops net force) e
    → net_then e (with_hops net force) ≡ with_hops net more → IsValid (with_hops net more) → Going net more (es ++ e ∷ [])
happened net force more es e h fit after valid = record {
  none = λ empty. absurd (not_empty es e empty);
  now = nets_push es e net ∙ ap (net_then e) h.now ∙ after;
  valid = valid;
  events = fit_push (trees_of net.hops) es e net h.events (subst (λ (z : Net). IsFitEvent (trees_of net.hops) z e) (sym h.now) fit);
}

module _ (d : Draft) (h : Goes d) where
  -- an event that leaves the network as it is
  passed : (e : Event) → IsFitEvent (trees_of d.net.hops) (routing d) e → net_then e (routing d) ≡ routing d → Going d.net d.force (d.events ++ e ∷ [])
  passed e fit after = happened d.net d.force d.force d.events e h fit after h.valid

  -- ---- wants
  fit_list : (st : StyleKind) (words : List SenderWord) → IsWantForm st words → size (senders_value words) ≤ 16 → IsFitList st (senders_value words)
  fit_list Wild words form few = tt
  fit_list Fixed words form few = tt
  fit_list Shared words form few =
      let size = length-map words sender_value in
      (some_named (sender_list words) (omega (arith, form, size)), few)

  -- ---- what is injected
  proper : (bytes : List ℕ) (a : Arrival) → AreBytes bytes → IsArrival bytes a → IsProperArrival a
  proper bytes (Spelt m) are spells = what_is_spelt_is_proper bytes m are spells
  proper bytes (Unspelt e) are fault = tt

  -- ---- trees
  tree_there : (g s : Addr) → (r : TreeHop) → In r d.net.hops → of_tree g s r ≡ true → In (g, s) (trees_of d.net.hops)
  tree_there g s r i e =
      let both = and_both (r.group.0 == g.0) (r.source.0 == s.0) e in
      let there = in_set_of tree_keys (each key_of d.net.hops) (key_of r) (to_each key_of r d.net.hops i) in
      let v = has_some (get (set_of {o = tree_keys} (each key_of d.net.hops)) (key_of r)) there in
      let row = to_each (λ (x : (Addr × Addr) × Unit {0}). x.0) (key_of r, v.0) (set_of {o = tree_keys} (each key_of d.net.hops)).rows
      (found_in tree_keys (set_of {o = tree_keys} (each key_of d.net.hops)) (key_of r) v.0 v.1) in
      subst (λ (z : Addr × Addr). In z (trees_of d.net.hops)) (λ k. (addr_same r.group g both.0 k, addr_same r.source s both.1 k)) row

  carried : (x : LinkHop) → is_linked d.net.links x ≡ true → Same d.net (routing d) x
  carried x t = record { linked = t; from = refl; to = refl; link = refl }

  reroute : (l : RerouteLine) → KeepsAll (Keeps d (line.Reroute l)) → Going d.net (net_rerouted d l).hops (d.events ++ Reroutes (addr_value l.group) (addr_value l.source) (hop_values d l) ∷ [])
  reroute l rules =
      let g : Addr = addr_value l.group in
      let s : Addr = addr_value l.source in
      let hs : List LinkHop = hop_values d l in
      let grown : IsGrown (routing d) s hs = grown_over d.net (routing d) carried s hs (λ n e. e) rules.of_tree in
      let valid = valid_rerouted (routing d) h.valid g s hs rules.within_limits grown rules.loop_free in
      let r = in_any (of_tree g s) d.net.hops rules.known.tree in
      happened d.net d.force (net_rerouted d l).hops d.events (Reroutes g s hs) h (tree_there g s r.0 r.1 r.2, valid) refl valid

-- ---- each line
goes_line : (d : Draft) (said : ScriptLine) (new : Draft) → Fitting d → IsValid new.net → Formed said → Goes d → KeepsAll (Keeps d said) → Adds d said new → Goes new
goes_line d (line.Node name) new f valid form h rules adds = declared d new rules.in_time.no_event (ap (λ (z : Draft). z.events) adds)
    (ap (λ (z : Draft). z.force) adds ∙ h.none rules.in_time.no_event ∙ sym (ap (λ (z : Draft). z.net.hops) adds)) valid
goes_line d (line.End l) new f valid form h rules adds = declared d new rules.in_time.no_event (ap (λ (z : Draft). z.events) adds)
    (ap (λ (z : Draft). z.force) adds ∙ h.none rules.in_time.no_event ∙ sym (ap (λ (z : Draft). z.net.hops) adds)) valid
goes_line d (line.Latency l) new f valid form h rules adds = declared d new rules.in_time.no_event (ap (λ (z : Draft). z.events) adds)
    (ap (λ (z : Draft). z.force) adds ∙ h.none rules.in_time.no_event ∙ sym (ap (λ (z : Draft). z.net.hops) adds)) valid
goes_line d (line.Link names) new f valid form h rules adds = declared d new rules.in_time.no_event (ap (λ (z : Draft). z.events) adds)
    (ap (λ (z : Draft). z.force) adds ∙ h.none rules.in_time.no_event ∙ sym (ap (λ (z : Draft). z.net.hops) adds)) valid
goes_line d (line.Hop l) new f valid form h rules adds =
    declared d new rules.in_time.no_event (ap (λ (z : Draft). z.events) adds)
    (ap (λ (z : Draft). z.force) adds
    ∙ ap (λ (z : List TreeHop). z ++ record { group = addr_value l.group; source = addr_value l.source; hop = record { from = end_number d l.ends.from; to = end_number d l.ends.to } } ∷ [])
    (h.none rules.in_time.no_event) ∙ sym (ap (λ (z : Draft). z.net.hops) adds)) valid
goes_line d (line.Send l) new f valid form h rules adds = subst Goes (sym adds) (passed d h (AtNode (node_number d l.node) (send_value l)) (sound l.flow rules.in_range.flow) refl)
goes_line d (line.Drop l) new f valid form h rules adds = subst Goes (sym adds) (passed d h (AtNode (node_number d l.node) (drop_value l)) tt refl)
goes_line d (line.Advert l) new f valid form h rules adds = subst Goes (sym adds) (passed d h (AtNode (node_number d l.node) (advert_value l)) tt refl)
goes_line d (line.Want l) new f valid form h rules adds =
    subst Goes (sym adds) (passed d h (AtNode (node_number d l.node) (want_value l)) (fit_list d h l.style l.senders form rules.within_limits.few_senders, sound l.flow rules.in_range.flow) refl)
goes_line d (line.Quit l) new f valid form h rules adds = subst Goes (sym adds) (passed d h (AtNode (node_number d l.node) (QuitAll (session_value l.session))) tt refl)
goes_line d (line.Wait ms) new f valid form h rules adds = subst Goes (sym adds) (passed d h (Waits ms) tt refl)
goes_line d (line.Pass n) new f valid form h rules adds = subst Goes (sym adds) (passed d h (Pass n) tt refl)
goes_line d (line.Deliver k) new f valid form h rules adds = subst Goes (sym adds) (passed d h (DeliverAt k) tt refl)
goes_line d (line.Lose k) new f valid form h rules adds = subst Goes (sym adds) (passed d h (LoseAt k) tt refl)
goes_line d (line.Copy k) new f valid form h rules adds = subst Goes (sym adds) (passed d h (CopyAt k) tt refl)
goes_line d (line.Clear node) new f valid form h rules adds = subst Goes (sym adds) (passed d h (ClearNode (node_number d node)) tt refl)
goes_line d (line.Rounds n) new f valid form h rules adds = subst Goes (sym adds) (passed d h (Rounds n) tt refl)
goes_line d (line.Trace on) new f valid form h rules adds = subst Goes (sym adds) (passed d h (Traces on) tt refl)
goes_line d line.Report new f valid form h rules adds = subst Goes (sym adds) (passed d h (Reports None) tt refl)
goes_line d (line.ReportEnd end) new f valid form h rules adds = subst Goes (sym adds) (passed d h (Reports (Some (end_number d end))) tt refl)
goes_line d line.Flags new f valid form h rules adds = subst Goes (sym adds) (passed d h ReportsFlags tt refl)
goes_line d line.Adverts new f valid form h rules adds = subst Goes (sym adds) (passed d h ReportsAdverts tt refl)
goes_line d (line.Inject l) new f valid form h rules adds =
    let there : end_number d l.end < length d.net.ends = subst (λ (z : ℕ). end_number d l.end < z) f.names (place_inside d.names l.end rules.known) in
    subst Goes (sym adds.2) (passed d h (Injects (end_number d l.end) (addr_value l.dst) adds.0) (there, proper d h l.bytes adds.0 form adds.1) refl)
goes_line d (line.Reroute l) new f valid form h rules adds = subst Goes (sym adds) (reroute d h l rules)
goes_line d _ new f valid form h rules adds = same d new h (ap (λ (z : Draft). z.net) adds) (ap (λ (z : Draft). z.force) adds) (ap (λ (z : Draft). z.events) adds)

-- ---- all of it together
record Running (d : Draft) : Type 0 where
  declared : Declared d
  links : FitLinks d
  fitting : Fitting d
  goes : Goes d

by_line : (d : Draft) (said : ScriptLine) (new : Draft) → Running d → Formed said → KeepsAll (Keeps d said) → Adds d said new → Running new
by_line d said new h form rules adds =
    let declared = declared_line d said new h.declared rules adds in
    let links = fit_links_line d said new h.links form adds in
    record {
      declared = declared;
      links = links;
      fitting = fitting_line d said new h.fitting form rules adds;
      goes = goes_line d said new h.fitting (declared.valid (fit_links new links)) form h.goes rules adds;
    }

at_first : Running nothing
unfolding nets_then
at_first = record {
  declared = declared_first;
  links = fit_links_first;
  fitting = fitting_first;
  goes = record { none = λ e. refl; now = refl; valid = declared_first.valid (fit_links nothing fit_links_first); events = tt };
}

running_behind : (lines : List (List ℕ)) (d : Draft) → Leads nothing lines d → Running d
running_behind lines d leads = led Running (λ d text new g f. by_line d f.said new g (formed text f.said f.reads) f.valid f.adds) lines nothing d at_first leads

-- the routing in force behind lines that may begin a script
pub routing_is_valid : (lines : List (List ℕ)) (d : Draft) → Leads nothing lines d → IsValid (routing d)
routing_is_valid lines d leads = (running_behind lines d leads).goes.valid

pub first_lines_are_a_fit_run : FirstLinesAreAFitRun
first_lines_are_a_fit_run lines d leads = record { plan = fit_plan_behind lines d leads; events = (running_behind lines d leads).goes.events }

pub each_script_is_a_fit_run : EachScriptIsAFitRun
each_script_is_a_fit_run bytes p is = subst IsFitRun (sym is.says) (first_lines_are_a_fit_run (text_lines bytes) is.lines is.leads)
