-- A tree that is to move: what the routing in force answers, as the rules of its line.
use Rattle.std.specs.Prelude.{◌≡◌, ◌≤◌, ℕ, ◌++◌, ◌∷◌, [], true, List, length, Result, Ok, Err, OnOk}
use Rattle.std.specs.List.{All, list_any}
use Rattle.std.proofs.Common.{◌∙◌, subst, sym}
use Rattle.rsvp_base.specs.declared.addr.Addr.{Addr}
use Rattle.tree_model.specs.declared.hops.LinkHop.{LinkHop}
use Rattle.tree_model.specs.declared.hops.TreeHop.{TreeHop}
use Rattle.tree_model.specs.Networks.{Net}
use Rattle.tree_model.specs.Trees.{Grows, IsGrownFrom, of_tree}
use Rattle.network_model.specs.Events.{Reroutes}
use Rattle.network_model.specs.Steps.{rerouted}
use Rattle.tree_routing.specs.Reroutes.{RerouteAnswer}
use Rattle.tree_routing.specs.declared.hop_err.HopErr.TheVariants as hop_err
use Rattle.script_words.specs.Addresses.{addr_value}
use Rattle.script_grammar.specs.Adds.{Adds}
use Rattle.script_grammar.specs.Draft.{Draft, routing, with_hops}
use Rattle.script_grammar.specs.Rules.{AreRoutesKnown, most_hops, IsEnd, IsSource, Keeps, KeepsAll}
use Rattle.script_grammar.specs.Values.{IsRerouteInRange, hop_values}
use Rattle.script_grammar.specs.declared.fault.Fault.{Fault}
use Rattle.script_grammar.specs.declared.fault.Fault.TheVariants as fault
use Rattle.script_grammar.specs.declared.line.ScriptLine.TheVariants as line
use Rattle.script_grammar.specs.declared.line.HopEnds.{HopEnds}
use Rattle.script_grammar.specs.declared.line.RerouteLine.{RerouteLine}
use Rattle.network_model.specs.Moves.{CanMove}
use Rattle.script_grammar.specs.declared.stop.Stop.{Stop}
use Rattle.script_grammar.specs.declared.stop.Stop.TheVariants.{Bad, Crowded, NoMemory}
use Rattle.script_rules.specs.Refusals.{Refuses}
use Rattle.script_rules.specs.Asking.{CanBeLookedUp, IsDeclared}
use Rattle.script_rules.specs.HopRefusals.{IsLoopNamed}
use Rattle.script_rules.specs.TreeRefusals.{HasRoomForTree, IsTreeRefused, moved_to}

-- ---- whether hops are a tree is asked of ends and links alone
module _ (net : Net) (rs : List TreeHop) (s : Addr) where
  declared_from : (before hops : List LinkHop) → IsGrownFrom (with_hops net rs) s before hops → IsGrownFrom net s before hops
  declared_from before [] grown = tt
  declared_from before (h ∷ hs) grown =
      let one : Grows net s before h = record { linked = grown.0.linked; from_reached = grown.0.from_reached; to_new = grown.0.to_new; alone = grown.0.alone } in
      (one, declared_from (before ++ h ∷ []) hs grown.1)

  forced_from : (before hops : List LinkHop) → IsGrownFrom net s before hops → IsGrownFrom (with_hops net rs) s before hops
  forced_from before [] grown = tt
  forced_from before (h ∷ hs) grown =
      let one : Grows (with_hops net rs) s before h = record { linked = grown.0.linked; from_reached = grown.0.from_reached; to_new = grown.0.to_new; alone = grown.0.alone } in
      (one, forced_from (before ++ h ∷ []) hs grown.1)

-- ---- the names of a line
pub routes_known : (d : Draft) (l : RerouteLine) (g s : Addr) (pairs : List HopEnds) (net : Net) → g ≡ addr_value l.group → s ≡ addr_value l.source → pairs ≡ l.hops → net ≡ d.net
    → All (IsDeclared d) pairs → IsSource d s
    → list_any (of_tree g s) net.hops ≡ true → AreRoutesKnown d l
routes_known d l g s pairs net group_is source_is pairs_are net_is ends source tree = record {
  from = subst (λ (xs : List HopEnds). All (λ h. IsEnd d h.from) xs) pairs_are (λ k e lt. (ends k e lt).0);
  to = subst (λ (xs : List HopEnds). All (λ h. IsEnd d h.to) xs) pairs_are (λ k e lt. (ends k e lt).1);
  source = subst (λ (a : Addr). IsSource d a) source_is source;
  tree = subst (λ (t : Addr × (Addr × Net)). list_any (of_tree t.0 t.1.0) t.1.1.hops ≡ true) (λ i. (group_is i, (source_is i, net_is i))) tree;
}

-- what a line names is known only where its ends are
pub ends_known : (d : Draft) (l : RerouteLine) (pairs : List HopEnds) → pairs ≡ l.hops → AreRoutesKnown d l → All (IsDeclared d) pairs
ends_known d l pairs pairs_are known = subst (λ (xs : List HopEnds). All (IsDeclared d) xs) (sym pairs_are) (λ k e lt. (known.from k e lt, known.to k e lt))

-- a line that is looked up in the routing that the lines declare
pub looked_up : (d : Draft) (l : RerouteLine) (s : Addr) (pairs : List HopEnds) → IsRerouteInRange l → s ≡ addr_value l.source → pairs ≡ l.hops → All (IsDeclared d) pairs → IsSource d s
    → CanBeLookedUp d l
looked_up d l s pairs in_range source_is pairs_are ends source = record {
  in_range = in_range;
  ends = subst (λ (xs : List HopEnds). All (IsDeclared d) xs) pairs_are ends;
  source = subst (λ (a : Addr). IsSource d a) source_is source;
}

-- ---- a closed chain, told by the names of the ends of its least hop
pub tree_loop_named : (R : Type 0) (d : Draft) (net : Net) (g s : Addr) (hops : List LinkHop) (group : Addr) (from to : ℕ) → net ≡ routing d → length (rerouted net g s hops).hops ≤ most_hops
    → RerouteAnswer {R = R} net g s hops (Err (hop_err.Loop group from to)) → (x : Fault) → IsLoopNamed d group (record { from = from; to = to }) x → IsTreeRefused d g s hops (Bad x)
tree_loop_named R d net g s hops group from to is room answer x told =
    by (subst (λ (n : Net). length (rerouted n g s hops).hops ≤ most_hops) is room) (subst (λ (n : Net). RerouteAnswer {R = R} n g s hops (Err (hop_err.Loop group from to))) is answer) x told
  where
    by : HasRoomForTree d g s hops → RerouteAnswer {R = R} (routing d) g s hops (Err (hop_err.Loop group from to)) → (x : Fault) → IsLoopNamed d group (record { from = from; to = to }) x
        → IsTreeRefused d g s hops (Bad x)
    by room answer (fault.Loop g' f t) told =
        (room, answer.0, λ free. free answer.2.on.head answer.2.on.rest answer.2.on.closed, (told.0 ∙ answer.1, record { from = from; to = to }, answer.2, told.1))
    by room answer why told = absurd told

-- ---- a line that keeps the rules before those of trees
module _ (d : Draft) (l : RerouteLine) (in_range : IsRerouteInRange l) (known : AreRoutesKnown d l) where
  abbrev g : Addr
  g = addr_value l.group

  abbrev s : Addr
  s = addr_value l.source

  refused : (x : Stop) → IsTreeRefused d g s (hop_values d l) x → Refuses d (line.Reroute l) x
  refused (Bad fault.Limit) out = (tt, in_range, known, tt, tt, out)
  refused (Bad fault.NotTree) out = (tt, in_range, known, tt, tt, out.0, λ grown. out.1 (forced_from d.net d.force s [] (hop_values d l) grown))
  refused (Bad (fault.Loop group from to)) out = (tt, in_range, known, tt, tt, out.0, declared_from d.net d.force s [] (hop_values d l) out.1, tt, out.2, out.3)
  refused Crowded out = absurd out
  refused NoMemory out = tt
  refused (Bad why) out = absurd out

  kept : (new : Draft) → CanMove (routing d) g s (hop_values d l) → Adds d (line.Reroute l) new → KeepsAll (Keeps d (line.Reroute l)) × Adds d (line.Reroute l) new
  kept new can adds = (
    record {
      in_time = tt;
      in_range = in_range;
      known = known;
      new = tt;
      of_style = tt;
      within_limits = can.room;
      of_tree = declared_from d.net d.force s [] (hop_values d l) can.grown;
      within_capacity = tt;
      loop_free = can.loop_free;
    },
    adds,
  )

  module _ (group source : Addr) (hops : List LinkHop) (group_is : group ≡ g) (source_is : source ≡ s) (hops_are : hops ≡ hop_values d l) where
    tree_is : ◌≡◌ {A = Addr × (Addr × List LinkHop)} (group, (source, hops)) (g, (s, hop_values d l))
    tree_is i = (group_is i, (source_is i, hops_are i))

    pub reroute_kept : {A : Type 0} (r : Result A Stop) (new : Draft) → CanMove (routing d) group source hops
        → OnOk r (new ≡ record d { force = (moved_to d group source hops).hops; events = d.events ++ Reroutes group source hops ∷ [] })
        → OnOk r (KeepsAll (Keeps d (line.Reroute l)) × Adds d (line.Reroute l) new)
    reroute_kept (Ok a) new can adds =
        kept new (subst (λ (t : Addr × (Addr × List LinkHop)). CanMove (routing d) t.0 t.1.0 t.1.1) tree_is can)
        (subst (λ (t : Addr × (Addr × List LinkHop)). new ≡ record d { force = (moved_to d t.0 t.1.0 t.1.1).hops; events = d.events ++ Reroutes t.0 t.1.0 t.1.1 ∷ [] }) tree_is adds)
    reroute_kept (Err x) new can adds = tt

    pub reroute_refused : (x : Stop) → IsTreeRefused d group source hops x → Refuses d (line.Reroute l) x
    reroute_refused x out = refused x (subst (λ (t : Addr × (Addr × List LinkHop)). IsTreeRefused d t.0 t.1.0 t.1.1 x) tree_is out)
