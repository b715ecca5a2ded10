-- Each step keeps a world within bounds.
use Rattle.std.proofs.Common.{◌≡◌, ℕ, suc, ◌+◌, ◌<◌, ◌≤◌, List, [], ◌∷◌, length, Bool, true, Option, None, Some, ◌⊎◌, inl, inr, ⊎_elim, arith, sym, refl, ap, subst, ◌∙◌}
use Rattle.std.specs.Prelude.{slice_get, map as each, not}
use Rattle.std.specs.List.{filter}
use Rattle.std.proofs.lemmas.Option.{slice_get_within}
use Rattle.rsvp_base.specs.declared.addr.Addr.{Addr}
use Rattle.rsvp_base.specs.Members.{In}
use Rattle.rsvp_base.proofs.Members.{in_append, in_each, in_filter}
use Rattle.rsvp_messages.specs.Proper.{IsProper}
use Rattle.calm_rounds.specs.Machine.{items_of}
use Rattle.calm_rounds.specs.Rounds.{Rounds}
use Rattle.calm_rounds.specs.Hold.{Hold}
use Rattle.calm_rounds.proofs.Holding.{hold_always}
use Rattle.calm_rounds.proofs.Renewing.{in_option}
use Rattle.network_model.specs.RouterRules.Bounds.{IsWithinBounds}
use Rattle.network_model.specs.RouterRules.Facts.{Facts}
use Rattle.network_model.specs.RouterRules.Inputs.{Arrival, Input, Call, Wait, Clear, Moved, Send, Spelt, Unspelt}
use Rattle.network_model.specs.RouterRules.Rule.{rule}
use Rattle.network_model.specs.RouterRules.Steps.{IsSameNode, IsFit, IsFitArrival, clock_after}
use Rattle.laws_steps.proofs.LawsBounds.Bounded.{a_step_keeps_a_node_within_bounds}
use Rattle.laws_steps.proofs.LawsBounds.Wording.{what_is_sent_is_proper}
use Rattle.tree_model.specs.declared.hops.End.{End}
use Rattle.tree_model.specs.declared.hops.LinkHop.{LinkHop}
use Rattle.tree_model.specs.declared.hops.TreeHop.{TreeHop}
use Rattle.tree_model.specs.Networks.{Net, node_of, node_of_end, end_at, ends_of, iface_of}
use Rattle.tree_model.specs.Trees.{of_tree}
use Rattle.tree_model.specs.Valid.{IsValid}
use Rattle.tree_model.proofs.Ifaces.{interfaces_are_ends}
use Rattle.network_model.specs.Bounds.{IsItem, IsProperArrival, AreBounds}
use Rattle.network_model.specs.Steps.{Step, Piece, Deliver, Lose, Copy, At, ClearAt, Trace, Report, Flags, Adverts, Inject, Reroute, is_calm, is_quiet, ms_of, net_after, rerouted, tree_hop}
use Rattle.network_model.specs.Steps.{input_at, word_for, rest, outcome_of, outcome, facts_from, sent, step, machine}
use Rattle.network_model.specs.Worlds.{Item, World, ifaces_at, config_of}
use Rattle.network_model.proofs.Changing.{what_is_sent_is_copied}
use Rattle.rsvp_base.proofs.Fronts.{got_in}
use Rattle.network_model.proofs.Listing.{in_remove}
use Rattle.network_model.proofs.Machines.{in_arrived, quiet_of, short_of}
use Rattle.network_model.proofs.Quiet.{IsWaited, IsCame, at_node_found, input_found}
use Rattle.network_model.proofs.Stepping.{facts_after_found}
use Rattle.laws_network.specs.Keeping.{IsFitStep}
use Rattle.laws_network.proofs.Sends.{goes_to_peers, goes_to_end}
use Rattle.laws_network.proofs.Standing.{iface_less, peer_there}

-- ---- the network after a step
-- what a new tree leaves alone no step changes
net_kept : {X : Type 0} (part : Net → X) → ((net : Net) (g s : Addr) (hops : List LinkHop) → part (rerouted net g s hops) ≡ part net) → (s : Step) (w : World) → part (net_after s w) ≡ part w.net
net_kept part same (Piece ms) w = refl
net_kept part same (Deliver k) w = refl
net_kept part same (Lose k) w = refl
net_kept part same (Copy k) w = refl
net_kept part same (At n l) w = refl
net_kept part same (ClearAt n) w = refl
net_kept part same (Trace on) w = refl
net_kept part same (Report e) w = refl
net_kept part same Flags w = refl
net_kept part same Adverts w = refl
net_kept part same (Inject e dst a) w = refl
net_kept part same (Reroute g s hops) w = same w.net g s hops

pub ends_same : (s : Step) (w : World) → (net_after s w).ends ≡ w.net.ends
ends_same s w = net_kept (λ (n : Net). n.ends) (λ n g x hops. refl) s w

nodes_same : (s : Step) (w : World) → (net_after s w).nodes ≡ w.net.nodes
nodes_same s w = net_kept (λ (n : Net). n.nodes) (λ n g x hops. refl) s w

valid_after : (q : ℕ) (s : Step) (w : World) → IsFitStep q w s → IsValid w.net → IsValid (net_after s w)
valid_after q (Piece ms) w fit v = v
valid_after q (Deliver k) w fit v = v
valid_after q (Lose k) w fit v = v
valid_after q (Copy k) w fit v = v
valid_after q (At n l) w fit v = v
valid_after q (ClearAt n) w fit v = v
valid_after q (Trace on) w fit v = v
valid_after q (Report e) w fit v = v
valid_after q Flags w fit v = v
valid_after q Adverts w fit v = v
valid_after q (Inject e dst a) w fit v = v
valid_after q (Reroute g s hops) w fit v = fit.1

routed_after : (q : ℕ) (s : Step) (w : World) → IsFitStep q w s → ((r : TreeHop) → In r w.net.hops → In (r.group, r.source) w.trees) → (r : TreeHop) → In r (net_after s w).hops
    → In (r.group, r.source) w.trees
routed_after q (Piece ms) w fit v r i = v r i
routed_after q (Deliver k) w fit v r i = v r i
routed_after q (Lose k) w fit v r i = v r i
routed_after q (Copy k) w fit v r i = v r i
routed_after q (At n l) w fit v r i = v r i
routed_after q (ClearAt n) w fit v r i = v r i
routed_after q (Trace on) w fit v r i = v r i
routed_after q (Report e) w fit v r i = v r i
routed_after q Flags w fit v r i = v r i
routed_after q Adverts w fit v r i = v r i
routed_after q (Inject e dst a) w fit v r i = v r i
routed_after q (Reroute g s hops) w fit v r i =
    ⊎_elim
    (λ (old : In r (filter (λ x. not (of_tree g s x)) w.net.hops)). v r (in_filter (λ x. not (of_tree g s x)) r w.net.hops old).0)
    (λ (new : In r (each (tree_hop g s) hops)).
    let h = in_each (tree_hop g s) r hops new in
    subst (λ (z : TreeHop). In (z.group, z.source) w.trees) (sym h.2) fit.0)
    (in_append r (filter (λ x. not (of_tree g s x)) w.net.hops) (each (tree_hop g s) hops) i)

-- ---- what comes to a node is fit
proper_fit : (a : Arrival) → IsProperArrival a → IsFitArrival a
proper_fit (Spelt m) h = h
proper_fit (Unspelt e) h = tt

-- the clock after the step is that after the input
pub record IsInput (q : ℕ) (s : Step) (w : World) (n : ℕ) (i : Input) : Type 0 where
  pub clock : w.clock + ms_of s ≡ clock_after w.clock i
  pub fit : IsFit (config_of q (net_after s w) w.trees n) i

fit_input : (q : ℕ) (s : Step) (w : World) (n : ℕ) (i : Input) → AreBounds q w → IsFitStep q w s → input_at s w n ≡ Some i → IsInput q s w n i
fit_input q (Piece ms) w n i b fit e =
    let same : Wait ms (word_for w.words n) ≡ i = cc in
    subst (IsInput q (Piece ms) w n) same (record { clock = refl; fit = fit })
fit_input q (Deliver k) w n i b fit e =
    ⊎_elim
    (λ (t : IsWaited (Deliver k) w n i). let no : Deliver k ≡ Piece t.ms = t.step in absurd (cc))
    (λ (t : IsCame (Deliver k) w n i).
    let lt : t.item.end < length w.net.ends = slice_get_within w.net.ends t.item.end t.end t.there in
    let node : node_of w.net.ends t.item.end ≡ n = ap node_of_end t.there ∙ t.node in
    let at : end_at w.net.ends n (iface_of w.net.ends t.item.end) ≡ Some t.item.end = ap (λ (z : ℕ). end_at w.net.ends z (iface_of w.net.ends t.item.end)) (sym node)
    ∙ (interfaces_are_ends w.net).end_of_iface t.item.end lt in
    subst (IsInput q (Deliver k) w n) (sym t.is)
    (record {
      clock = omega arith;
      fit = (
        iface_less q w.net w.trees n (iface_of w.net.ends t.item.end) t.item.end at,
        proper_fit t.item.arrival (b.flight t.item (in_arrived (Deliver k) w t.item t.arrives)).proper,
      );
    }))
    (input_found (Deliver k) w n i refl e)
fit_input q (Lose k) w n i b fit e = absurd (cc)
fit_input q (Copy k) w n i b fit e = absurd (cc)
fit_input q (At m l) w n i b fit e =
    let r = at_node_found m n (Call l) i e in
    subst (IsInput q (At m l) w n) (sym r.1) (record { clock = omega arith; fit = fit })
fit_input q (ClearAt m) w n i b fit e =
    let r = at_node_found m n Clear i e in
    subst (IsInput q (ClearAt m) w n) (sym r.1) (record { clock = omega arith; fit = tt })
fit_input q (Trace on) w n i b fit e = absurd (cc)
fit_input q (Report r) w n i b fit e = absurd (cc)
fit_input q Flags w n i b fit e = absurd (cc)
fit_input q Adverts w n i b fit e = absurd (cc)
fit_input q (Inject t dst a) w n i b fit e = absurd (cc)
fit_input q (Reroute g s hops) w n i b fit e =
    let same : Moved ≡ i = cc in
    subst (IsInput q (Reroute g s hops) w n) same (record { clock = omega arith; fit = tt })

-- where nothing comes to a node, neither the clock nor the network changes
still_world : (s : Step) (w : World) (n : ℕ) → input_at s w n ≡ None → (ms_of s ≡ 0) × (net_after s w ≡ w.net)
still_world (Piece ms) w n e = absurd (cc)
still_world (Deliver k) w n e = (refl, refl)
still_world (Lose k) w n e = (refl, refl)
still_world (Copy k) w n e = (refl, refl)
still_world (At m l) w n e = (refl, refl)
still_world (ClearAt m) w n e = (refl, refl)
still_world (Trace on) w n e = (refl, refl)
still_world (Report r) w n e = (refl, refl)
still_world Flags w n e = (refl, refl)
still_world Adverts w n e = (refl, refl)
still_world (Inject t dst a) w n e = (refl, refl)
still_world (Reroute g s hops) w n e = absurd (cc)

-- the node is the same under other trees
same_node : (q : ℕ) (s : Step) (w : World) (n : ℕ) → 1 ≤ q → IsSameNode (config_of q w.net w.trees n) (config_of q (net_after s w) w.trees n)
same_node q s w n le = record { quarter = refl; ifaces = ap (λ (ends : List End). ifaces_at ends (ends_of ends n)) (sym (ends_same s w)); some = le }

module _ (q : ℕ) (s : Step) (w : World) (bounds : AreBounds q w) (fit : IsFitStep q w s) where
  facts_bounded : (n : ℕ) (f : Facts) → slice_get w.nodes n ≡ Some f → IsWithinBounds (config_of q (net_after s w) w.trees n) (w.clock + ms_of s) (outcome q s w n f).facts
  facts_bounded n f a = by (input_at s w n) refl
    where
      by : (o : Option Input) → input_at s w n ≡ o → IsWithinBounds (config_of q (net_after s w) w.trees n) (w.clock + ms_of s) (outcome_of q o s w n f).facts
      by None e =
          let still = still_world s w n e in
          let clock : w.clock + ms_of s ≡ w.clock = (let z = still.0 in omega arith) in
          subst (λ (c : ℕ). IsWithinBounds (config_of q (net_after s w) w.trees n) c f) (sym clock)
          (subst (λ (net : Net). IsWithinBounds (config_of q net w.trees n) w.clock f) (sym still.1) (bounds.facts n f a))
      by (Some i) e =
          let is = fit_input q s w n i bounds fit e in
          subst (λ (c : ℕ). IsWithinBounds (config_of q (net_after s w) w.trees n) c (rule (config_of q w.net w.trees n) (config_of q (net_after s w) w.trees n) c i f).facts) (sym is.clock)
          (a_step_keeps_a_node_within_bounds (config_of q w.net w.trees n) (config_of q (net_after s w) w.trees n) w.clock i f (same_node q s w n bounds.period) is.fit (bounds.facts n f a))

  -- ---- what is in flight
  from_rest : (x : Item) → In x (rest s w) → In x w.flight ⊎ ((x.end < length w.net.ends) × (x.born ≡ w.made) × IsProperArrival x.arrival)
  from_rest x i = by s fit i
    where
      by : (t : Step) → IsFitStep q w t → In x (rest t w) → In x w.flight ⊎ ((x.end < length w.net.ends) × (x.born ≡ w.made) × IsProperArrival x.arrival)
      by (Piece ms) g j = inl j
      by (Deliver k) g j = inl (in_remove x k w.flight j)
      by (Lose k) g j = inl (in_remove x k w.flight j)
      by (Copy k) g j =
          inl (⊎_elim (λ (h : In x w.flight). h) (λ (h : In x (items_of (slice_get w.flight k))). got_in w.flight k x (in_option x (slice_get w.flight k) h))
          (in_append x w.flight (items_of (slice_get w.flight k)) j))
      by (At n l) g j = inl j
      by (ClearAt n) g j = inl j
      by (Trace on) g j = inl j
      by (Report e) g j = inl j
      by Flags g j = inl j
      by Adverts g j = inl j
      by (Inject e dst a) g j =
          ⊎_elim (λ (h : In x w.flight). inl h)
          (λ (h : In x ((record { end = e; dst = dst; arrival = a; born = w.made }) ∷ [])).
          ⊎_elim
          (λ (same : x ≡ record { end = e; dst = dst; arrival = a; born = w.made }).
          inr (subst (λ (z : ℕ). z < length w.net.ends) (sym (ap (λ (y : Item). y.end) same)) g.0, ap (λ (y : Item). y.born) same, subst IsProperArrival (sym (ap (λ (y : Item). y.arrival) same)) g.1))
          (λ (no : ⊥). absurd no) h)
          (in_append x w.flight ((record { end = e; dst = dst; arrival = a; born = w.made }) ∷ []) j)
      by (Reroute g s hops) h j = inl j

  -- each message that the step sends is proper
  abbrev pub AreProperSent : Type 0
  AreProperSent = (x : Item) (b : Bool) → In (x, b) (sent q s w) → IsProperArrival x.arrival

  pub proper_sent : AreProperSent
  proper_sent x b i =
      let c = (what_is_sent_is_copied q s w (x, b)).0 i in
      subst IsProperArrival (sym (ap (λ (z : Item × Bool). z.0.arrival) c.is)) (proper_send c.node c.facts c.send c.there (input_at s w c.node) refl c.sent)
    where
      proper_send : (n : ℕ) (f : Facts) (send : Send) → slice_get w.nodes n ≡ Some f → (o : Option Input) → input_at s w n ≡ o → In send (outcome_of q o s w n f).sent → IsProper send.message
      proper_send n f send a None e i = absurd i
      proper_send n f send a (Some k) e i =
          let is = fit_input q s w n k bounds fit e in
          what_is_sent_is_proper (config_of q w.net w.trees n) (config_of q (net_after s w) w.trees n) w.clock k f (same_node q s w n bounds.period) is.fit (bounds.facts n f a) send
          (subst (λ (c : ℕ). In send (rule (config_of q w.net w.trees n) (config_of q (net_after s w) w.trees n) c k f).sent) is.clock i)

  sent_item : AreProperSent → (x : Item) (b : Bool) → In (x, b) (sent q s w) → (x.end < length w.net.ends) × (x.born ≡ w.made) × IsProperArrival x.arrival
  sent_item proper x b i =
      let c = (what_is_sent_is_copied q s w (x, b)).0 i in
      let a = goes_to_end w.net (end_at w.net.ends c.node c.send.iface) c.send.dst c.end c.goes in
      let peer = goes_to_peers w.net (end_at w.net.ends c.node c.send.iface) a.0 c.send.dst c.end a.1 c.goes in (
        subst (λ (z : ℕ). z < length w.net.ends) (sym (ap (λ (z : Item × Bool). z.0.end) c.is)) (peer_there w.net bounds.net a.0 c.end peer),
        ap (λ (z : Item × Bool). z.0.born) c.is,
        proper x b i,
      )

  pub step_keeps : AreProperSent → AreBounds q (step q s w)
  step_keeps proper =
      record {
        period = bounds.period;
        net = valid_after q s w fit bounds.net;
        hosts = λ e x a. bounds.hosts e x (ap (λ (ends : List End). slice_get ends e) (sym (ends_same s w)) ∙ a);
        routed = routed_after q s w fit bounds.routed;
        nodes = facts_length w.nodes 0 ∙ bounds.nodes ∙ sym (nodes_same s w);
        facts = λ n g a.
            let f = facts_after_found q s w n g a in
            subst (λ (z : Facts). IsWithinBounds (config_of q (net_after s w) w.trees n) (w.clock + ms_of s) z) (sym f.2) (facts_bounded n f.0 f.1);
        flight = λ x i.
            ⊎_elim
            (λ (r : In x (rest s w)). ⊎_elim (λ (old : In x w.flight). kept x old) (λ (new : (x.end < length w.net.ends) × (x.born ≡ w.made) × IsProperArrival x.arrival). made x new) (from_rest x r))
            (λ (r : In x (each (λ y. y.0) (sent q s w))).
            let y = in_each (λ (z : Item × Bool). z.0) x (sent q s w) r in
            made x (sent_item proper x y.0.1 (subst (λ (z : Item). In (z, y.0.1) (sent q s w)) (sym y.2) y.1)))
            (in_append x (rest s w) (each (λ y. y.0) (sent q s w)) i);
      }
    where
      facts_length : (fs : List Facts) (k : ℕ) → length (facts_from q s w k fs) ≡ length fs
      facts_length [] k = refl
      facts_length (f ∷ fs) k = ap suc (facts_length fs (suc k))

      made : (x : Item) → (x.end < length w.net.ends) × (x.born ≡ w.made) × IsProperArrival x.arrival → IsItem (step q s w) x
      made x h = record { end = subst (λ (ends : List End). x.end < length ends) (sym (ends_same s w)) h.0; born = (let z = h.1 in omega arith); proper = h.2 }

      kept : (x : Item) → In x w.flight → IsItem (step q s w) x
      kept x i = let h = bounds.flight x i in record { end = subst (λ (ends : List End). x.end < length ends) (sym (ends_same s w)) h.end; born = (let z = h.born in omega arith); proper = h.proper }

-- a step of a calm round is fit
pub calm_fit : (q : ℕ) (s : Step) (w : World) → is_calm q s ≡ true → IsFitStep q w s
calm_fit q (Piece ms) w c = short_of q (Piece ms) c
calm_fit q (Deliver k) w c = tt
calm_fit q (Lose k) w c = tt
calm_fit q (Copy k) w c = tt
calm_fit q (At n l) w c = let no : is_quiet (At n l) ≡ true = quiet_of q (At n l) c in absurd (cc)
calm_fit q (ClearAt n) w c = tt
calm_fit q (Trace on) w c = tt
calm_fit q (Report e) w c = tt
calm_fit q Flags w c = tt
calm_fit q Adverts w c = tt
calm_fit q (Inject e dst a) w c = let no : is_quiet (Inject e dst a) ≡ true = quiet_of q (Inject e dst a) c in absurd (cc)
calm_fit q (Reroute g s hops) w c = let no : is_quiet (Reroute g s hops) ≡ true = quiet_of q (Reroute g s hops) c in absurd (cc)

pub each_step_keeps_a_world_within_bounds : (q : ℕ) (w : World) (s : Step) → IsFitStep q w s → AreBounds q w → AreBounds q (step q s w)
each_step_keeps_a_world_within_bounds q w s fit bounds = step_keeps q s w bounds fit (proper_sent q s w bounds fit)

pub calm_rounds_keep_bounds : (q : ℕ) (w : World) (rs : List (List Step)) → Rounds (machine q) rs w → AreBounds q w → Hold (machine q) 0 rs w (AreBounds q)
calm_rounds_keep_bounds q w rs calm bounds =
    hold_always (machine q) (AreBounds q) (λ s u c b. step_keeps q s u b (calm_fit q s u c) (proper_sent q s u b (calm_fit q s u c))) rs w calm bounds
