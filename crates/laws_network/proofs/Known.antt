-- Worlds within bounds that keep their network: what quiet steps keep, and what comes to an end.
use Rattle.std.proofs.Common.{◌≡◌, ℕ, ◌+◌, ◌<◌, List, length, Bool, true, false, Option, None, Some, ⊎_elim, arith, sym, refl, ap, subst, ◌∙◌}
use Rattle.std.specs.Prelude.{slice_get, is_some, ◌||◌}
use Rattle.std.specs.Option.{option_map}
use Rattle.std.proofs.lemmas.Option.{slice_get_within}
use Rattle.calm_rounds.specs.Hold.{Hold}
use Rattle.calm_rounds.specs.Rounds.{Rounds}
use Rattle.calm_rounds.proofs.Holding.{hold_map, hold_both, hold_keep}
use Rattle.laws_steps.proofs.Framing.{calm_steps_keep_the_locals}
use Rattle.network_model.specs.RouterRules.Facts.{Facts}
use Rattle.network_model.specs.RouterRules.Inputs.{Input, Came}
use Rattle.network_model.specs.RouterRules.Rule.{Outcome}
use Rattle.tree_model.specs.Networks.{Net, node_of, node_of_end, iface_of}
use Rattle.tree_model.specs.Valid.{IsValid}
use Rattle.network_model.specs.Bounds.{AreBounds}
use Rattle.network_model.specs.Locals.{senders_at}
use Rattle.network_model.specs.Steps.{Step, is_quiet, ms_of, arrived, input_at, outcome, still, step, machine}
use Rattle.network_model.specs.Worlds.{Item, World, config_of}
use Rattle.rsvp_base.proofs.Fronts.{got_in}
use Rattle.network_model.proofs.Machines.{quiet_of}
use Rattle.network_model.proofs.Quiet.{IsCame, FollowsRule, input_came, net_quiet, outcome_quiet}
use Rattle.network_model.proofs.Stepping.{facts_after_found, facts_after_made}
use Rattle.laws_network.specs.Known.{IsKnown, IsSameNet, advertised_at}
use Rattle.laws_network.proofs.Locals.{calm_input, locals_kept}
use Rattle.laws_network.proofs.Standing.{same_end, some_at}
use Rattle.network_model.specs.RouterRules.Steps.{node_step}

-- ---- values that may be there
pub of_some : {A : Type 0} (a b : A) → Some a ≡ Some b → a ≡ b
of_some a b e = cc

pub has_some : {A : Type 0} (o : Option A) → is_some o ≡ true → (x : A) × (o ≡ Some x)
has_some None e = absurd (cc)
has_some (Some x) e = (x, refl)

pub or_true : (b : Bool) → (b || true) ≡ true
or_true true = refl
or_true false = refl

-- ---- quiet steps keep the network and what its hosts ask of it
module _ (q : ℕ) (s : Step) (u : World) (quiet : is_quiet s ≡ true) (bounds : AreBounds q u) where
  senders_outcome : (n : ℕ) (f : Facts) → slice_get u.nodes n ≡ Some f → (outcome q s u n f).facts.senders ≡ f.senders
  senders_outcome n f a =
      ⊎_elim
      (λ (h : (input_at s u n ≡ None) × (outcome q s u n f ≡ still f)). ap (λ (o : Outcome). o.facts.senders) h.1)
      (λ (h : FollowsRule q s u n f (outcome q s u n f)).
      ap (λ (o : Outcome). o.facts.senders) h.is
      ∙ calm_steps_keep_the_locals.senders (node_step (config_of q u.net u.trees n) (config_of q u.net u.trees n) u.clock (u.clock + ms_of s) h.input f) (bounds.facts n f a)
      (calm_input s u n h.input quiet h.came))
      (outcome_quiet q s u n f quiet)

  advertised_outcome : (n : ℕ) (f : Facts) → slice_get u.nodes n ≡ Some f → (outcome q s u n f).facts.advertised ≡ f.advertised
  advertised_outcome n f a =
      ⊎_elim
      (λ (h : (input_at s u n ≡ None) × (outcome q s u n f ≡ still f)). ap (λ (o : Outcome). o.facts.advertised) h.1)
      (λ (h : FollowsRule q s u n f (outcome q s u n f)).
      ap (λ (o : Outcome). o.facts.advertised) h.is
      ∙ calm_steps_keep_the_locals.advertised (node_step (config_of q u.net u.trees n) (config_of q u.net u.trees n) u.clock (u.clock + ms_of s) h.input f) (bounds.facts n f a)
      (calm_input s u n h.input quiet h.came))
      (outcome_quiet q s u n f quiet)

  -- what a node keeps that its rule leaves as it is
  at_nodes_kept : {A : Type 0} (part : Facts → A) → ((n : ℕ) (f : Facts) → slice_get u.nodes n ≡ Some f → part (outcome q s u n f).facts ≡ part f)
      → (n : ℕ) → option_map part (slice_get (step q s u).nodes n) ≡ option_map part (slice_get u.nodes n)
  at_nodes_kept {A} part same n = by (slice_get u.nodes n) refl
    where
      none : (o : Option Facts) → slice_get (step q s u).nodes n ≡ o → slice_get u.nodes n ≡ None → option_map part o ≡ None
      none None t a = refl
      none (Some g) t a = let r = facts_after_found q s u n g t in let no : Some r.0 ≡ None = sym r.1 ∙ a in absurd (cc)

      by : (o : Option Facts) → slice_get u.nodes n ≡ o → option_map part (slice_get (step q s u).nodes n) ≡ option_map part o
      by None a = none (slice_get (step q s u).nodes n) refl a
      by (Some f) a = ap (option_map part) (facts_after_made q s u n f a) ∙ ap Some (same n f a)

  pub senders_kept : (n : ℕ) → senders_at (step q s u) n ≡ senders_at u n
  senders_kept n = at_nodes_kept (λ (f : Facts). f.senders) senders_outcome n

  pub advertised_kept : (n : ℕ) → advertised_at (step q s u) n ≡ advertised_at u n
  advertised_kept n = at_nodes_kept (λ (f : Facts). f.advertised) advertised_outcome n

  pub same_kept : (w : World) → IsSameNet w u → IsSameNet w (step q s u)
  same_kept w same = record {
    net = net_quiet s u quiet ∙ same.net;
    trees = same.trees;
    senders = λ n. senders_kept n ∙ same.senders n;
    advertised = λ n. advertised_kept n ∙ same.advertised n;
    locals = locals_kept q s u quiet bounds ∙ same.locals;
  }

-- ---- worlds with one network of which the same is asked
pub known_hold : (q : ℕ) (w : World) (rs : List (List Step)) → Rounds (machine q) rs w → Hold (machine q) 0 rs w (AreBounds q) → Hold (machine q) 0 rs w (IsKnown q w)
known_hold q w rs calm bounds =
    hold_map (machine q) (λ u. AreBounds q u × IsSameNet w u) (IsKnown q w) (λ u h. record { bounds = h.0; same = h.1 }) 0 rs w
    (hold_both (machine q) (AreBounds q) (IsSameNet w) 0 rs w bounds
    (hold_keep (machine q) (AreBounds q) (IsSameNet w) (λ s u quiet b b' same. same_kept q s u (quiet_of q s quiet) b w same) rs w calm bounds
    (record { net = refl; trees = refl; senders = λ n. refl; advertised = λ n. refl; locals = refl })))

-- ---- the node of an end is there
pub node_there : (q : ℕ) (o : World) → IsValid o.net → (u : World) (e : ℕ) → IsKnown q o u → e < length o.net.ends → (f : Facts) × (slice_get u.nodes (node_of o.net.ends e) ≡ Some f)
node_there q o valid u e a lt =
    let x = some_at o.net.ends e lt in
    let inside : node_of o.net.ends e < o.net.nodes = subst (λ (z : ℕ). z < o.net.nodes) (sym (ap node_of_end x.1)) (valid.placed x.0 (got_in o.net.ends e x.0 x.1)) in
    let many = a.bounds.nodes in
    let same = ap (λ (z : Net). z.nodes) a.same.net in
    some_at u.nodes (node_of o.net.ends e) (omega arith)

-- ---- what comes to an end
module _ (q : ℕ) (o u : World) (a : IsKnown q o u) (e : ℕ) (lt : e < length o.net.ends) where
  -- what comes to the node of an end by the interface of the end comes to the end
  pub end_found : (s : Step) (i : Input) (t : IsCame s u (node_of o.net.ends e) i) → iface_of u.net.ends t.item.end ≡ iface_of o.net.ends e → t.item.end ≡ e
  end_found s i t iface =
      let inside : t.item.end < length o.net.ends = subst (λ (z : Net). t.item.end < length z.ends) a.same.net (slice_get_within u.net.ends t.item.end t.end t.there) in
      let node : node_of o.net.ends t.item.end ≡ node_of o.net.ends e = ap (λ (z : Net). node_of z.ends t.item.end) (sym a.same.net) ∙ ap node_of_end t.there ∙ t.node in
      same_end o.net t.item.end e inside lt node (ap (λ (z : Net). iface_of z.ends t.item.end) (sym a.same.net) ∙ iface)

  -- what arrives at an end comes to its node by its interface
  pub came_there : (s : Step) (y : Item) → arrived s u ≡ Some y → y.end ≡ e → input_at s u (node_of o.net.ends e) ≡ Some (Came (iface_of o.net.ends e) y.dst y.arrival)
  came_there s y arr end =
      let x = some_at o.net.ends e lt in
      let at : slice_get u.net.ends y.end ≡ Some x.0 = ap (λ (z : Net). slice_get z.ends y.end) a.same.net ∙ ap (λ (z : ℕ). slice_get o.net.ends z) end ∙ x.1 in
      let node : x.0.node ≡ node_of o.net.ends e = sym (ap node_of_end x.1) in
      ap (λ (z : ℕ). input_at s u z) (sym node) ∙ input_came s u y x.0 arr at ∙ ap (λ (z : Net). Some (Came (iface_of z.ends y.end) y.dst y.arrival)) a.same.net
      ∙ ap (λ (z : ℕ). Some (Came (iface_of o.net.ends z) y.dst y.arrival)) end
