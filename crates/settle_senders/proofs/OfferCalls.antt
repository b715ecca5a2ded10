-- Calls: what is offered over each hop is kept behind it in the end still, where paths are on the trees after the call; and there they are where all
-- send who sent before, whatever they send then.
use Rattle.std.proofs.Common.{◌≡◌, ℕ, Bool, Option, Some, None, ⊎_elim, sym, refl, ap, subst, ◌∙◌}
use Rattle.std.specs.Prelude.{slice_get}
use Rattle.std.specs.Option.{option_and_then, option_map}
use Rattle.rsvp_base.specs.declared.addr.Addr.{Addr}
use Rattle.rsvp_base.specs.declared.session.Sender.{Sender}
use Rattle.rsvp_base.specs.Members.{In}
use Rattle.rsvp_base.specs.Table.{get}
use Rattle.rsvp_base.specs.TokenBucket.{TokenBucket}
use Rattle.router_rules.specs.Facts.{Facts, PathState, SenderKey}
use Rattle.router_rules.specs.Inputs.{Local}
use Rattle.router_rules.specs.Steps.{IsFitCall}
use Rattle.tree_model.specs.Networks.{node_of}
use Rattle.tree_model.specs.Trees.{outward}
use Rattle.network_model.specs.Bounds.{AreBounds, AreHosts}
use Rattle.network_model.specs.Steps.{At, outcome, sent, step}
use Rattle.network_model.specs.Worlds.{Item, World}
use Rattle.network_model.proofs.Stepping.{facts_after_found, facts_after_made}
use Rattle.laws_network.proofs.Keeping.{each_step_keeps_a_world_within_bounds}
use Rattle.laws_network.proofs.Known.{of_some}
use Rattle.settle_paths.specs.SoftPaths.{path_at}
use Rattle.settle_passes.proofs.Called.{KeepsSenders, hosts_then, in_flight_then, known_on, no_tear_then, path_before, path_on, path_sent_by_call, paths_same, sends_back, sends_on, turns}
use Rattle.settle_senders.specs.Readings.{AreOffersKept, ArePathsOnTheTree, ArePathsThere, AreRooted, IsFromATree, IsOnTheTree, IsPathOnTheTree, Reading, kept_after}
use Rattle.settle_senders.proofs.Offering.{IsFaithful, kept_on}
use Rattle.settle_senders.proofs.OfferDeliveries.{sent_on_tree}

module _ (q n : ℕ) (call : Local) (w : World) (bounds : AreBounds q w) where
  abbrev asked : World
  asked = step q (At n call) w

  path_same : (j : SenderKey) (m : ℕ) → path_at asked m j ≡ path_at w m j
  path_same j m = by (slice_get w.nodes m) (slice_get asked.nodes m) refl refl
    where
      by : (o o' : Option Facts) → slice_get w.nodes m ≡ o → slice_get asked.nodes m ≡ o' → path_at asked m j ≡ path_at w m j
      by o (Some g) was is =
          let f = facts_after_found q (At n call) w m g is in
          ap (option_and_then (λ (z : Facts). get z.paths j)) is
          ∙ ap (λ (z : _). get z j) (ap (λ (z : Facts). z.paths) f.2 ∙ paths_same q n call w m f.0)
          ∙ sym (ap (option_and_then (λ (z : Facts). get z.paths j)) f.1)
      by (Some f) None was is = let bad : None ≡ Some (outcome q (At n call) w m f).facts = sym is ∙ facts_after_made q (At n call) w m f was in absurd (cc)
      by None None was is = ap (option_and_then (λ (z : Facts). get z.paths j)) is ∙ sym (ap (option_and_then (λ (z : Facts). get z.paths j)) was)

  pub from_then : ((y : Item) → In y w.flight → IsFromATree w.net y) → (y : Item) → In y asked.flight → IsFromATree w.net y
  from_then before y i =
      ⊎_elim (λ (old : In y w.flight). before y old)
      (λ (now : (b : Bool) × In (y, b) (sent q (At n call) w)).
      λ m x t spelt sender.
      let p = path_sent_by_call q w n call bounds y now.0 m now.1 spelt in
      let name : p.sender ≡ x = ap (λ (z : Sender × TokenBucket). z.0) (of_some (p.sender, p.tspec) (x, t) (sym p.of ∙ sender)) in
      let named : In p.end (outward w.net p.node m.session.group x.addr) = subst (λ (z : Sender). In p.end (outward w.net p.node m.session.group z.addr)) name p.leaves in
      record { dst = p.dst; end = p.end; leaves = subst (λ (z : ℕ). In p.end (outward w.net z m.session.group x.addr)) (sym p.at) named; to = p.to })
      (in_flight_then q n call w y i)

  pub offers_call : {A : Type 0} (read : Reading A) → IsFaithful read → AreHosts asked → ArePathsOnTheTree asked → AreOffersKept read w → AreOffersKept read asked
  offers_call read faithful hosts paths offers k h a there e =
      kept_on q (At n call) w bounds (turns q n call w) read faithful k h there w.flight refl
      (ap (λ (z : Option _). kept_after read k h.to (option_map read.kept z) w.flight) (path_same k (node_of w.net.ends h.to)))
      (λ b is. offers k h b there is) hosts paths a e

  -- ---- a call that leaves those who send
  module _ (fit : IsFitCall call) (keeps : KeepsSenders q n call w) where
    on_then : (k : SenderKey) (e : ℕ) (a : Addr) → IsOnTheTree w k e a → IsOnTheTree asked k e a
    on_then k e a s =
        let l = sends_on q n call w keeps k s.0 s.1.live in (l.0, record { hop = s.1.hop; there = s.1.there; to = s.1.to; from = s.1.from; live = l.1 })

    on_facts : ArePathsOnTheTree w → (m : ℕ) (g : Facts) (k : SenderKey) (x : PathState) → slice_get asked.nodes m ≡ Some g → get g.paths k ≡ Some x → IsPathOnTheTree asked m k x
    on_facts paths m g k x b h =
        let f = path_before q n call w m g k x b h in
        let s = paths.facts m f.0 k x f.1 f.2 in
        record { end = s.end; at = s.at; sound = on_then k s.end x.hop.addr s.sound }

    paths_then : ArePathsOnTheTree w → ArePathsOnTheTree asked
    paths_then paths = record {
      facts = on_facts paths;
      items = λ y m x t i spelt sender way.
          ⊎_elim (λ (old : In y w.flight). on_then (m.session, x) y.end m.hop.addr (paths.items y m x t old spelt sender way))
          (λ (now : (b : Bool) × In (y, b) (sent q (At n call) w)).
          sent_on_tree q asked bounds.net y m x t (λ a g z b h. on_facts paths a g (m.session, x) z b h)
          (path_sent_by_call q w n call bounds y now.0 m now.1 spelt) sender way) (in_flight_then q n call w y i);
      named = λ y m i spelt none.
          ⊎_elim (λ (old : In y w.flight). paths.named y m old spelt none)
          (λ (now : (b : Bool) × In (y, b) (sent q (At n call) w)).
          let p = path_sent_by_call q w n call bounds y now.0 m now.1 spelt in
          let no : Some (p.sender, p.tspec) ≡ None = sym p.of ∙ none in absurd (cc)) (in_flight_then q n call w y i);
    }

    pub there_call : ArePathsThere w → ArePathsThere asked
    there_call paths_there k t h live there =
        let l = sends_back q n call w keeps k t live in
        let p = paths_there k l.0 h l.1 there in
        (p.0, path_on q n call w k p.0 h p.1)

    pub rooted_call : AreRooted q w → AreRooted q asked
    rooted_call s = record {
      bounds = each_step_keeps_a_world_within_bounds q w (At n call) fit bounds;
      hosts = hosts_then q n call w keeps s.hosts;
      paths = paths_then s.paths;
      no_tear = no_tear_then q n call w bounds (known_on q n call w keeps) s.no_tear;
      from = from_then s.from;
    }
