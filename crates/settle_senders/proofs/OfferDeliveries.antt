-- One delivery, of what has been in flight longest: what is offered over each hop is kept behind it in the end still, paths are those of live senders
-- still, by the hops of their trees.
use Rattle.std.proofs.Common.{◌≡◌, ℕ, ◌+◌, List, [], ◌∷◌, Bool, true, Option, Some, None, ◌⊎◌, inl, ⊎_elim, sym, refl, ap, subst, ◌∙◌, arith}
use Rattle.std.specs.Prelude.{slice_get}
use Rattle.std.specs.List.{remove}
use Rattle.std.specs.Option.{option_map}
use Rattle.rsvp_base.specs.declared.addr.Addr.{Addr}
use Rattle.rsvp_base.specs.declared.session.Sender.{Sender}
use Rattle.rsvp_base.specs.declared.session.Session.{Session}
use Rattle.rsvp_base.specs.Members.{In}
use Rattle.rsvp_base.specs.Orders.{senders as by_sender}
use Rattle.rsvp_base.specs.SessionLimits.{IsWithinSessionLimits}
use Rattle.rsvp_base.specs.Table.{get, put_in}
use Rattle.rsvp_base.specs.TokenBucket.{TokenBucket}
use Rattle.rsvp_base.proofs.Tables.{got_put_in, get-put_in_same}
use Rattle.rsvp_messages.specs.declared.message.Message.TheVariants as message
use Rattle.rsvp_messages.specs.declared.message.PathMsg.{PathMsg}
use Rattle.style_rules.specs.Toward.{or_else}
use Rattle.router_rules.specs.Facts.{Facts, PathState, SenderKey, sender_keys}
use Rattle.router_rules.specs.Inputs.{Came, Input, Spelt}
use Rattle.router_rules.specs.NodeConfig.{NodeConfig, comes_in}
use Rattle.router_rules.specs.Rule.{Outcome}
use Rattle.router_rules.specs.Steps.{node_step}
use Rattle.tree_model.specs.declared.hops.LinkHop.{LinkHop}
use Rattle.tree_model.specs.Goals.{addr_of}
use Rattle.tree_model.specs.Networks.{end_at, iface_of, node_of, Net}
use Rattle.tree_model.specs.Trees.{inward, outward, tree}
use Rattle.tree_model.specs.Valid.{IsValid}
use Rattle.tree_model.proofs.Ifaces.{interfaces_are_ends}
use Rattle.tree_model.proofs.Links.{one_sending_end_on_a_link}
use Rattle.tree_model.proofs.TreeLaws.{one, way_in_tested}
use Rattle.network_model.specs.Sound.{ArePathsSound, IsPathAt}
use Rattle.network_model.specs.Bounds.{AreBounds}
use Rattle.network_model.specs.Locals.{IsLive}
use Rattle.network_model.specs.Steps.{Deliver, ms_of, outcome, sent, step, still}
use Rattle.network_model.specs.Worlds.{Item, World, config_of}
use Rattle.network_model.proofs.Machines.{in_flight_after}
use Rattle.network_model.proofs.Quiet.{outcome_by}
use Rattle.network_model.proofs.Stepping.{facts_after_made}
use Rattle.laws_network.specs.Sources.{CameOnTree, said_by}
use Rattle.laws_network.proofs.Known.{came_there, node_there, of_some}
use Rattle.laws_network.proofs.Learning.{a_path_on_the_tree_is_learnt}
use Rattle.laws_network.proofs.Standing.{comes_in_made, to_there}
use Rattle.settle_paths.proofs.LiveSenders.{live_fits}
use Rattle.settle_paths.proofs.PathSends.{IsPathSent, path_sent}
use Rattle.settle_paths.proofs.SaidPaths.{routed}
use Rattle.settle_paths.specs.SoftPaths.{path_at}
use Rattle.settle_paths.proofs.SoftPaths.{IsBrought, path_found, path_made, path_source}
use Rattle.settle_passes.specs.Passes.{AreSpreading}
use Rattle.settle_passes.proofs.Deliveries.{bounds_next, hosts_next, known_self, live_next, no_tear_next, path_stays, tear_of_none, live_back}
use Rattle.settle_passes.proofs.Turns.{Turns}
use Rattle.settle_passes.proofs.Arriving.{turns as turns_of}
use Rattle.settle_senders.specs.Readings.{AreOffersKept, ArePathsOnTheTree, ArePathsThere, AreRooted, IsFromATree, IsOnTheTree, IsPathOnTheTree, Reading, carried_to, kept_after, kept_at}
use Rattle.settle_senders.proofs.OfferItems.{IsCarrying, carried_made, carried_told}
use Rattle.settle_senders.proofs.Offering.{IsFaithful, kept_on}
use Rattle.settle_senders.proofs.Further.{IsFromDepth, path_sent_from}

pub at_first : {A : Type 0} (x : A) (xs : List A) → slice_get xs 0 ≡ Some x → In x xs
at_first x [] e = absurd (cc)
at_first x (y ∷ ys) e = inl (sym (of_some y x e))

-- ---- what is on the tree is right where the path is there
on_next : (q j : ℕ) (u : World) → AreBounds q u → (k : SenderKey) (e : ℕ) (a : Addr) → IsOnTheTree u k e a → IsOnTheTree (step q (Deliver j) u) k e a
on_next q j u bounds k e a s = (s.0, record { hop = s.1.hop; there = s.1.there; to = s.1.to; from = s.1.from; live = live_next q j u bounds k s.0 s.1.live })

-- a path of a live sender's tree is the one at the hop
path_right : (q : ℕ) (w : World) → AreBounds q w → (k : SenderKey) (h : LinkHop) → In h (tree w.net.hops k.0.group k.1.addr) → (f : Facts)
    → slice_get w.nodes (node_of w.net.ends h.to) ≡ Some f → (x : PathState) → get f.paths k ≡ Some x → IsPathOnTheTree w (node_of w.net.ends h.to) k x → IsPathAt w k x.tspec h
path_right q w bounds k h there f a x e s =
    let of = (interfaces_are_ends w.net).iface_of_end (node_of w.net.ends h.to) x.iface s.end s.at in
    let same : s.sound.1.hop ≡ h = one w.net bounds.net k.0.group k.1.addr s.sound.1.hop h s.sound.1.there there (ap (node_of w.net.ends) s.sound.1.to ∙ of.1) in
    let end : s.end ≡ h.to = sym s.sound.1.to ∙ ap (λ (z : LinkHop). z.to) same in
    record {
      facts = f;
      node = a;
      path = x;
      there = e;
      iface = sym of.2 ∙ ap (iface_of w.net.ends) end;
      hop = s.sound.1.from ∙ ap (λ (z : LinkHop). addr_of w.net z.from) same;
      tspec = refl;
    }

-- a Path that a step sends is on the tree, where the paths of its sender that the step leaves are
pub sent_on_tree : (q : ℕ) (v : World) → IsValid v.net → (y : Item) (m : PathMsg) (x : Sender) (t : TokenBucket)
    → ((n : ℕ) (g : Facts) (z : PathState) → slice_get v.nodes n ≡ Some g → get g.paths (m.session, x) ≡ Some z → IsPathOnTheTree v n (m.session, x) z) → IsPathSent q v.net v y m
    → m.sender ≡ Some (x, t) → inward v.net (node_of v.net.ends y.end) m.session.group x.addr ≡ Some y.end
    → IsOnTheTree v (m.session, x) y.end m.hop.addr
sent_on_tree q v valid y m x t facts p sender way =
    let both : ◌≡◌ {A = Sender × TokenBucket} (p.sender, p.tspec) (x, t) = of_some (p.sender, p.tspec) (x, t) (sym p.of ∙ sender) in
    let name : p.sender ≡ x = ap (λ (z : Sender × TokenBucket). z.0) both in
    let leaves : In p.end (outward v.net (node_of v.net.ends p.end) m.session.group x.addr) =
    subst (λ (z : ℕ). In p.end (outward v.net z m.session.group x.addr)) (sym p.at) (subst (λ (z : Sender). In p.end (outward v.net p.node m.session.group z.addr)) name p.leaves) in
    let h = (one_sending_end_on_a_link v.net valid).hop m.session.group x.addr p.end y.end leaves p.to way in
    let live : (f : TokenBucket) × IsLive v (m.session, x) f =
    ⊎_elim
    (λ (local : get p.facts.senders (m.session, p.sender) ≡ Some p.tspec). (
      p.tspec,
      record {
        node = p.node;
        senders = p.facts.senders;
        at = ap (option_map (λ (f : Facts). f.senders)) p.after;
        sends = ap (λ (z : Sender). get p.facts.senders (m.session, z)) (sym name) ∙ local;
      },
    ))
    (λ (path : (z : PathState) × (get p.facts.paths (m.session, p.sender) ≡ Some z) × (p.tspec ≡ z.tspec)).
    let s = facts p.node p.facts path.0 p.after (ap (λ (z : Sender). get p.facts.paths (m.session, z)) (sym name) ∙ path.1) in
    (s.sound.0, s.sound.1.live)) p.source in
    (live.0, record { hop = h.0; there = h.1; to = h.3; from = p.hop ∙ ap (addr_of v.net) (sym h.2); live = live.1 })

-- ---- where paths spread they are on the trees
pub sound_on_tree : (w : World) → ArePathsSound w → ArePathsOnTheTree w
sound_on_tree w sound = record {
  facts = λ n f k x at e. let p = sound.facts n f k x at e in record { end = p.end; at = p.at; sound = (x.tspec, p.sound) };
  items = λ y m x t i spelt sender way. (t, sound.items y m x t i spelt sender way);
  named = sound.named;
}

pub spreading_rooted : (q : ℕ) (w : World) → AreSpreading q w → ((y : Item) → In y w.flight → IsFromATree w.net y) → AreRooted q w
spreading_rooted q w s from = record { bounds = s.bounds; hosts = s.hosts; paths = sound_on_tree w s.sound; no_tear = s.no_tear; from = from }

-- ---- where a Path in flight came from, whatever node
pub from_anywhere : (net : Net) (y : Item) → IsFromATree net y → IsFromDepth net 0 y
from_anywhere net y from m x t spelt sender = let f = from m x t spelt sender in record { end = f.end; leaves = f.leaves; to = f.to; deep = omega arith }

module _ (q : ℕ) (u : World) (start : AreRooted q u) where
  abbrev bounds : AreBounds q u
  bounds = start.bounds

  abbrev pub next : World
  next = step q (Deliver 0) u

  pub turns : (n : ℕ) (f : Facts) → slice_get u.nodes n ≡ Some f → (outcome q (Deliver 0) u n f ≡ still f) ⊎ Turns q (Deliver 0) u n f
  turns = turns_of q u bounds

  -- ---- what is kept behind a hop
  module _ {A : Type 0} (read : Reading A) (faithful : IsFaithful read) (k : SenderKey) (h : LinkHop) (there : In h (tree u.net.hops k.0.group k.1.addr)) where
    abbrev into : ℕ
    into = node_of u.net.ends h.to

    way_in : inward u.net into k.0.group k.1.addr ≡ Some h.to
    way_in = way_in_tested u.net bounds.net into h.to k.0.group k.1.addr (h, there, refl, refl)

    -- where no Path of the sender arrives, the same
    kept_still : ((y : Item) (a : A) → slice_get u.flight 0 ≡ Some y → carried_to read k h.to y ≡ Some a → ⊥) → kept_at read next k into ≡ kept_at read u k into
    kept_still none = ap (option_map read.kept) (by (path_at u into k) (path_at next into k) refl refl)
      where
        not_brought : (x : PathState) → IsBrought q u.net (Deliver 0) u into k x → ⊥
        not_brought x b =
            let end : b.item.end ≡ h.to = of_some b.item.end h.to (sym b.inward ∙ way_in) in
            none b.item (read.carried b.path b.tspec) b.arrives
            (carried_made read k h.to b.item (read.carried b.path b.tspec)
            (record { end = end; path = b.path; spelt = b.spelt; session = b.session; tspec = b.tspec; sender = b.sender; carried = refl }))

        by : (o o' : Option PathState) → path_at u into k ≡ o → path_at next into k ≡ o' → path_at next into k ≡ path_at u into k
        by o (Some x) was is =
            is ∙ ⊎_elim (λ (old : path_at u into k ≡ Some x). sym old) (λ (new : IsBrought q u.net (Deliver 0) u into k x). absurd (not_brought x new))
            (path_source q (Deliver 0) u refl bounds into k x is)
        by (Some x) None was is =
            let f = path_found u into k x was in
            let g = path_stays q 0 u bounds into f.0 k x (tear_of_none u start.no_tear k) f.1 f.2 in
            let bad : None ≡ Some g.2 = sym is ∙ path_made next into k g.2 g.0 g.1 g.3 in
            absurd (cc)
        by None None was is = is ∙ sym was

    -- a Path of the sender is taken
    kept_then : (y : Item) (a : A) → slice_get u.flight 0 ≡ Some y → y.dst ≡ k.0.group → IsCarrying read k h.to y a → kept_at read next k into ≡ Some a
    kept_then y a arr dst b =
        let lt = to_there u.net bounds.net k.0.group k.1.addr h there in
        let f = node_there q u bounds.net u h.to (known_self q u bounds) lt in
        let p : NodeConfig = config_of q u.net u.trees into in
        let c : ℕ = u.clock + ms_of (Deliver 0) in
        let input : Input = Came (iface_of u.net.ends h.to) k.0.group (Spelt (message.Path b.path)) in
        let came = came_there q u u (known_self q u bounds) h.to lt (Deliver 0) y arr b.end ∙ (λ i. Some (Came (iface_of u.net.ends h.to) (dst i) (b.spelt i))) in
        let tree_in : comes_in p k.0 (iface_of u.net.ends h.to) k.1 ≡ true =
        comes_in_made q u.net u.trees into k.0 h.to k.1 (routed q u u k.0.group k.1.addr h (known_self q u bounds) there) way_in in
        let by : CameOnTree p input k = record { at = iface_of u.net.ends h.to; path = b.path; tspec = b.tspec; came = refl; session = b.session; sender = b.sender; tree = tree_in } in
        let x : PathState = said_by p c input k by in
        let live : (t : TokenBucket) × IsLive u k t = alive y a arr b in
        let fits : IsWithinSessionLimits by_sender (put_in f.0.paths k x) =
        live_fits u start.hosts (put_in f.0.paths k x)
        (λ k' x' e.
        ⊎_elim
        (λ (new : (k' ≡ k) × (x' ≡ x)). (live.0, subst (λ (z : SenderKey). IsLive u z live.0) (sym new.0) live.1))
        (λ (old : get f.0.paths k' ≡ Some x'). let s = start.paths.facts into f.0 k' x' f.1 old in (s.sound.0, s.sound.1.live))
        (got_put_in sender_keys f.0.paths k x k' x' e)) in
        let put = (a_path_on_the_tree_is_learnt.learnt (node_step p p u.clock c input f.0) (bounds.facts into f.0 f.1) k by fits).0 in
        let has_it : get (outcome q (Deliver 0) u into f.0).facts.paths k ≡ Some x =
        ap (λ (z : Outcome). get z.facts.paths k) (outcome_by q (Deliver 0) u into f.0 input refl came) ∙ ap (λ (z : _). get z k) put ∙ get-put_in_same sender_keys f.0.paths k x in
        ap (option_map read.kept) (path_made next into k x (outcome q (Deliver 0) u into f.0).facts (facts_after_made q (Deliver 0) u into f.0 f.1) has_it)
        ∙ ap Some (faithful.learnt p c (iface_of u.net.ends h.to) b.path b.tspec ∙ b.carried)
      where
        alive : (y : Item) (a : A) → slice_get u.flight 0 ≡ Some y → (b : IsCarrying read k h.to y a) → (t : TokenBucket) × IsLive u k t
        alive y a arr b =
            let way : inward u.net (node_of u.net.ends y.end) b.path.session.group k.1.addr ≡ Some y.end =
            (λ j. inward u.net (node_of u.net.ends (b.end j)) (b.session j).group k.1.addr) ∙ way_in ∙ ap Some (sym b.end) in
            let s = start.paths.items y b.path k.1 b.tspec (at_first y u.flight arr) b.spelt b.sender way in
            (s.0, subst (λ (z : Session). IsLive u (z, k.1) s.0) b.session s.1.live)

    -- so what stands in the end of what was in flight stands then of what is left of it
    left_same : kept_after read k h.to (kept_at read next k into) (remove u.flight 0) ≡ kept_after read k h.to (kept_at read u k into) u.flight
    left_same = by u.flight refl
      where
        by : (ys : List Item) → u.flight ≡ ys → kept_after read k h.to (kept_at read next k into) (remove ys 0) ≡ kept_after read k h.to (kept_at read u k into) ys
        by [] is = kept_still (λ y a arr. let bad : None ≡ Some y = sym (ap (λ (z : List Item). slice_get z 0) is) ∙ arr in absurd (cc))
        by (y ∷ ys) is = ap (λ (z : Option A). kept_after read k h.to z ys) (now (carried_to read k h.to y) refl)
          where
            first : slice_get u.flight 0 ≡ Some y
            first = ap (λ (z : List Item). slice_get z 0) is

            now : (o : Option A) → carried_to read k h.to y ≡ o → kept_at read next k into ≡ or_else (carried_to read k h.to y) (kept_at read u k into)
            now None none =
                kept_still (λ z a arr br. let same : z ≡ y = of_some z y (sym arr ∙ first) in let bad : None ≡ Some a = sym none ∙ ap (carried_to read k h.to) (sym same) ∙ br in absurd (cc))
                ∙ sym (ap (λ (z : Option A). or_else z (kept_at read u k into)) none)
            now (Some a) some =
                let b = carried_told read k h.to y a some in
                let from = start.from y (at_first y u.flight first) b.path k.1 b.tspec b.spelt b.sender in
                kept_then y a first (from.dst ∙ ap (λ (z : Session). z.group) b.session) b ∙ sym (ap (λ (z : Option A). or_else z (kept_at read u k into)) some)

  -- ---- paths are on the trees still
  on_facts : (k : SenderKey) (n : ℕ) (g : Facts) (x : PathState) → slice_get next.nodes n ≡ Some g → get g.paths k ≡ Some x → IsPathOnTheTree next n k x
  on_facts k n g x b h =
      ⊎_elim
      (λ (old : path_at u n k ≡ Some x).
      let f = path_found u n k x old in let s = start.paths.facts n f.0 k x f.1 f.2 in record { end = s.end; at = s.at; sound = on_next q 0 u bounds k s.end x.hop.addr s.sound })
      (λ (new : IsBrought q u.net (Deliver 0) u n k x).
      let way : inward u.net (node_of u.net.ends new.item.end) new.path.session.group k.1.addr ≡ Some new.item.end =
      (λ j. inward u.net (new.node j) (new.session j).group k.1.addr) ∙ new.inward in
      let s = start.paths.items new.item new.path k.1 new.tspec (at_first new.item u.flight new.arrives) new.spelt new.sender way in
      let key : ◌≡◌ {A = SenderKey} (new.path.session, k.1) k = (λ j. (new.session j, k.1)) in
      let on : IsOnTheTree u k new.item.end new.path.hop.addr = subst (λ (z : SenderKey). IsOnTheTree u z new.item.end new.path.hop.addr) key s in
      record {
        end = new.item.end;
        at = ap (λ (z : PathState). end_at u.net.ends n z.iface) new.is ∙ ap (λ (z : ℕ). end_at u.net.ends z (iface_of u.net.ends new.item.end)) (sym new.node)
            ∙ (interfaces_are_ends u.net).end_of_iface new.item.end new.there;
        sound = subst (λ (z : PathState). IsOnTheTree next k new.item.end z.hop.addr) (sym new.is) (on_next q 0 u bounds k new.item.end new.path.hop.addr on);
      })
      (path_source q (Deliver 0) u refl bounds n k x (path_made next n k x g b h))

  pub paths_next : ArePathsOnTheTree next
  paths_next = record {
    facts = λ n g k x b h. on_facts k n g x b h;
    items = λ y m x t i spelt sender way.
        ⊎_elim (λ (old : In y u.flight). on_next q 0 u bounds (m.session, x) y.end m.hop.addr (start.paths.items y m x t old spelt sender way))
        (λ (new : (b : Bool) × In (y, b) (sent q (Deliver 0) u)).
        sent_on_tree q next bounds.net y m x t (λ n g z b h. on_facts (m.session, x) n g z b h) (path_sent q (Deliver 0) u refl bounds y new.0 m new.1 spelt) sender way)
        (in_flight_after q (Deliver 0) u y refl i);
    named = λ y m i spelt none.
        ⊎_elim (λ (old : In y u.flight). start.paths.named y m old spelt none)
        (λ (new : (b : Bool) × In (y, b) (sent q (Deliver 0) u)).
        let p = path_sent q (Deliver 0) u refl bounds y new.0 m new.1 spelt in
        let no : Some (p.sender, p.tspec) ≡ None = sym p.of ∙ none in absurd (cc)) (in_flight_after q (Deliver 0) u y refl i);
  }

  pub there_next : ArePathsThere u → ArePathsThere next
  there_next paths_there k t h live there =
      let p = paths_there k t h (live_back q 0 u bounds k t live) there in
      let s = path_stays q 0 u bounds (node_of u.net.ends h.to) p.1.facts k p.1.path (tear_of_none u start.no_tear k) p.1.node p.1.there in
      (s.2.tspec, path_right q next (bounds_next q 0 u bounds) k h there s.0 s.1 s.2 s.3 (on_facts k (node_of u.net.ends h.to) s.0 s.2 s.1 s.3))

  pub offers_next : {A : Type 0} (read : Reading A) → IsFaithful read → AreOffersKept read u → AreOffersKept read next
  offers_next read faithful offers k h a there e =
      kept_on q (Deliver 0) u bounds turns read faithful k h there (remove u.flight 0) refl (left_same read faithful k h there) (λ b is. offers k h b there is) (hosts_next q 0 u bounds start.hosts)
      paths_next a e

  -- ---- all together
  pub rooted_next : AreRooted q next
  rooted_next = record {
    bounds = bounds_next q 0 u bounds;
    hosts = hosts_next q 0 u bounds start.hosts;
    paths = paths_next;
    no_tear = no_tear_next q 0 u bounds start.no_tear;
    from = λ y i.
        ⊎_elim (λ (old : In y u.flight). start.from y old)
        (λ (new : (b : Bool) × In (y, b) (sent q (Deliver 0) u)).
        λ m x t spelt sender.
        let f = path_sent_from q u bounds start.no_tear 0 (λ z e. from_anywhere u.net z (start.from z (at_first z u.flight e))) y new.0 new.1 m x t spelt sender in
        record { dst = (path_sent q (Deliver 0) u refl bounds y new.0 m new.1 spelt).dst; end = f.end; leaves = f.leaves; to = f.to })
        (in_flight_after q (Deliver 0) u y refl i);
  }
