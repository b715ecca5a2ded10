-- Where paths are there, whatever flow they keep, and no Path is in flight, what is offered is kept behind each hop: so by the depth of nodes each path
-- keeps what is due of its sender there, if each node offers what is due where its own path keeps that. And the other way round.
use Rattle.std.proofs.Common.{◌≡◌, ℕ, zero, suc, ◌<◌, ◌≤◌, length, Option, Some, None, ⊎_elim, arith, sym, refl, ap, subst, ◌∙◌}
use Rattle.std.specs.Prelude.{slice_get}
use Rattle.std.specs.Option.{option_map}
use Rattle.rsvp_base.specs.Members.{In}
use Rattle.rsvp_base.specs.Table.{Table, get, has}
use Rattle.rsvp_base.specs.TokenBucket.{TokenBucket}
use Rattle.rsvp_messages.specs.declared.message.Message.TheVariants as message
use Rattle.rsvp_messages.specs.declared.message.PathMsg.{PathMsg}
use Rattle.style_rules.specs.Toward.{or_else}
use Rattle.router_rules.specs.Facts.{Facts, PathState, SenderKey, sender_keys}
use Rattle.router_rules.specs.Inputs.{Spelt}
use Rattle.router_rules.specs.Offers.{Offer, offer_at, own_offer, path_offer}
use Rattle.tree_model.specs.declared.hops.End.{End}
use Rattle.tree_model.specs.declared.hops.LinkHop.{LinkHop}
use Rattle.tree_model.specs.Networks.{Net, node_of, owner}
use Rattle.tree_model.specs.Trees.{depth, inward, outward, tree}
use Rattle.tree_model.proofs.Depths.{depth_and_rank_within_longest}
use Rattle.tree_model.proofs.Ifaces.{interfaces_are_ends}
use Rattle.tree_model.proofs.TreeLaws.{out_tested, the_root_has_no_inward, way_in_told}
use Rattle.network_model.specs.Locals.{IsLive}
use Rattle.network_model.specs.Worlds.{Item, World}
use Rattle.network_model.proofs.NodeLocals.{is_live}
use Rattle.laws_network.proofs.Known.{node_there, of_some}
use Rattle.laws_network.proofs.Standing.{from_there, some_at}
use Rattle.settle_paths.proofs.LiveSenders.{senders_found}
use Rattle.settle_paths.proofs.SoftPaths.{path_made}
use Rattle.settle_passes.proofs.Deliveries.{known_self}
use Rattle.settle_senders.specs.Readings.{AreOffersKept, ArePathsThere, AreRooted, Reading, kept_after, kept_at, key_at}
use Rattle.settle_senders.proofs.OfferItems.{after_none, carried_told}
use Rattle.settle_senders.proofs.Offering.{IsOffered, offered_found, offered_made}

-- ---- what a node offers, by its facts
local_offer : (net : Net) (f : Facts) (k : SenderKey) (e : ℕ) (t : TokenBucket) → get f.senders k ≡ Some t → offer_at f (key_at net k e) ≡ Some (own_offer (has f.advertised k) t)
local_offer net f k e t sends = ap (λ (z : Option TokenBucket). or_else (option_map (own_offer (has f.advertised k)) z) (option_map path_offer (get f.paths k))) sends

other_offer : (net : Net) (f : Facts) (k : SenderKey) (e : ℕ) (o : Option PathState) → get f.senders k ≡ None → get f.paths k ≡ o → offer_at f (key_at net k e) ≡ option_map path_offer o
other_offer net f k e o none is = λ j. or_else (option_map (own_offer (has f.advertised k)) (none j)) (option_map path_offer (is j))

module _ {A : Type 0} (read : Reading A) (q : ℕ) (u : World) (rooted : AreRooted q u) (paths_there : ArePathsThere u)
    (no_path : (y : Item) (m : PathMsg) → In y u.flight → y.arrival ≡ Spelt (message.Path m) → ⊥) where
  -- what is kept, by the path
  kept_is : (n : ℕ) (f : Facts) (k : SenderKey) (x : PathState) → slice_get u.nodes n ≡ Some f → get f.paths k ≡ Some x → kept_at read u k n ≡ Some (read.kept x)
  kept_is n f k x at e = ap (option_map read.kept) (path_made u n k x f at e)

  nothing_flies : (k : SenderKey) (h : LinkHop) → kept_after read k h.to (kept_at read u k (node_of u.net.ends h.to)) u.flight ≡ kept_at read u k (node_of u.net.ends h.to)
  nothing_flies k h =
      after_none read k h.to (kept_at read u k (node_of u.net.ends h.to)) u.flight (λ y b i br. let z = carried_told read k h.to y b br in no_path y z.path i z.spelt)

  -- a path comes by the hop of its sender's tree into the node
  pub comes_by : (n : ℕ) (f : Facts) (k : SenderKey) (x : PathState) → slice_get u.nodes n ≡ Some f → get f.paths k ≡ Some x
      → (h : LinkHop) × In h (tree u.net.hops k.0.group k.1.addr) × (node_of u.net.ends h.to ≡ n) × (t : TokenBucket) × IsLive u k t
  comes_by n f k x at e =
      let s = rooted.paths.facts n f k x at e in
      let of = (interfaces_are_ends u.net).iface_of_end n x.iface s.end s.at in
      (s.sound.1.hop, s.sound.1.there, ap (node_of u.net.ends) s.sound.1.to ∙ of.1, s.sound.0, s.sound.1.live)

  -- ---- what is due of a sender at each node: its own node offers it over each hop, and each other one that keeps it
  pub record IsDue (k : SenderKey) (due : ℕ → A) : Type 0 where
    pub own : (h : LinkHop) (x : End) (f : Facts) (t : TokenBucket) → In h (tree u.net.hops k.0.group k.1.addr) → slice_get u.net.ends h.from ≡ Some x
        → slice_get u.nodes (node_of u.net.ends h.from) ≡ Some f → get f.senders k ≡ Some t → read.offered (Some x.iface) (own_offer (has f.advertised k) t) ≡ due (node_of u.net.ends h.to)
    pub onward : (g h : LinkHop) (x : End) (p : PathState) → In g (tree u.net.hops k.0.group k.1.addr) → In h (tree u.net.hops k.0.group k.1.addr) → node_of u.net.ends g.to ≡ node_of u.net.ends h.from
        → slice_get u.net.ends h.from ≡ Some x → read.kept p ≡ due (node_of u.net.ends h.from) → read.offered (Some x.iface) (path_offer p) ≡ due (node_of u.net.ends h.to)

  module _ (k : SenderKey) (h : LinkHop) (there : In h (tree u.net.hops k.0.group k.1.addr)) where
    abbrev from : ℕ
    from = node_of u.net.ends h.from

    abbrev into : ℕ
    into = node_of u.net.ends h.to

    -- ---- where the path at the node before the hop keeps what is due there, what is due behind the hop is offered
    right : (due : ℕ → A) → IsDue k due → ((f : Facts) (x : PathState) → slice_get u.nodes from ≡ Some f → get f.paths k ≡ Some x → read.kept x ≡ due from) → (a : A) → IsOffered read u k h.from a
        → a ≡ due into
    right due is_due exact a s = by (get s.facts.senders k) (get s.facts.paths k) refl refl
      where
        on : (x : End) × (slice_get u.net.ends h.from ≡ Some x)
        on = some_at u.net.ends h.from (from_there u.net rooted.bounds.net k.0.group k.1.addr h there)

        told : (o : Offer) → offer_at s.facts (key_at u.net k h.from) ≡ Some o → a ≡ read.offered (Some on.0.iface) o
        told o offered = sym s.told ∙ (λ j. read.offered (option_map (λ (x : End). x.iface) (on.1 j)) (of_some s.offer o (sym s.offered ∙ offered) j))

        by : (t : Option TokenBucket) (p : Option PathState) → get s.facts.senders k ≡ t → get s.facts.paths k ≡ p → a ≡ due into
        by (Some t) p sends is = told (own_offer (has s.facts.advertised k) t) (local_offer u.net s.facts k h.from t sends) ∙ is_due.own h on.0 s.facts t there on.1 s.there sends
        by None (Some x) none is =
            let c = comes_by from s.facts k x s.there is in
            told (path_offer x) (other_offer u.net s.facts k h.from (Some x) none is) ∙ is_due.onward c.0 h on.0 x c.1 there c.2 on.1 (exact s.facts x s.there is)
        by None None none is = let bad : None ≡ Some s.offer = sym (other_offer u.net s.facts k h.from None none is) ∙ s.offered in absurd (cc)

    -- ---- a live sender is known where its tree goes out
    offered_there : (t : TokenBucket) → IsLive u k t → (a : A) × IsOffered read u k h.from a
    offered_there t live = by (get f.senders k) refl
      where
        inside : h.from < length u.net.ends
        inside = from_there u.net rooted.bounds.net k.0.group k.1.addr h there

        f : Facts
        f = (node_there q u rooted.bounds.net u h.from (known_self q u rooted.bounds) inside).0

        at : slice_get u.nodes from ≡ Some f
        at = (node_there q u rooted.bounds.net u h.from (known_self q u rooted.bounds) inside).1

        offers_it : (o : Offer) → offer_at f (key_at u.net k h.from) ≡ Some o → (a : A) × IsOffered read u k h.from a
        offers_it o offered =
            (read.offered (option_map (λ (x : End). x.iface) (slice_get u.net.ends h.from)) o, record { facts = f; there = at; offer = o; offered = offered; told = refl })

        by : (o : Option TokenBucket) → get f.senders k ≡ o → (a : A) × IsOffered read u k h.from a
        by (Some s) sends = offers_it (own_offer (has f.advertised k) s) (local_offer u.net f k h.from s sends)
        by None none =
            let leaves : In h.from (outward u.net from k.0.group k.1.addr) = out_tested u.net from h.from k.0.group k.1.addr (h, there, refl, refl) in
            ⊎_elim
            (λ (root : owner u.net.ends k.1.addr ≡ Some from).
            let g = senders_found u live.node live.senders live.at in
            let sends : get g.0.senders k ≡ Some t = ap (λ (z : Table sender_keys TokenBucket). get z k) g.2 ∙ live.sends in
            let node : live.node ≡ from = of_some live.node from (sym (rooted.hosts.placed live.node g.0 k t g.1 sends) ∙ root) in
            let same : g.0 ≡ f = of_some g.0 f (sym g.1 ∙ ap (λ (z : ℕ). slice_get u.nodes z) node ∙ at) in
            let bad : None ≡ Some t = sym none ∙ ap (λ (z : Facts). get z.senders k) (sym same) ∙ sends in
            absurd (cc))
            (λ (comes : (i : ℕ) × (inward u.net from k.0.group k.1.addr ≡ Some i)).
            let w = way_in_told u.net rooted.bounds.net from comes.0 k.0.group k.1.addr comes.1 in
            let node : node_of u.net.ends w.0.to ≡ from = ap (node_of u.net.ends) w.2 ∙ w.3 in
            let p = (paths_there k t w.0 live w.1).1 in
            let same : p.facts ≡ f = of_some p.facts f (sym p.node ∙ ap (λ (z : ℕ). slice_get u.nodes z) node ∙ at) in
            offers_it (path_offer p.path) (other_offer u.net f k h.from (Some p.path) none (ap (λ (z : Facts). get z.paths k) (sym same) ∙ p.there)))
            ((the_root_has_no_inward u.net rooted.bounds.net).entered from h.from k.0.group k.1.addr leaves)

  -- ---- so each path keeps what is due, as deep as it is
  module _ (offers : AreOffersKept read u) (k : SenderKey) (t : TokenBucket) (live : IsLive u k t) (due : ℕ → A) (is_due : IsDue k due) where
    kept_to : (d : ℕ) (h : LinkHop) → In h (tree u.net.hops k.0.group k.1.addr) → depth u.net k.0.group k.1.addr (node_of u.net.ends h.to) ≤ d
        → kept_at read u k (node_of u.net.ends h.to) ≡ Some (due (node_of u.net.ends h.to))
    kept_to zero h there deep = let along = (depth_and_rank_within_longest u.net rooted.bounds.net).along k.0.group k.1.addr h there in absurd (omega arith)
    kept_to (suc d) h there deep =
        let along = (depth_and_rank_within_longest u.net rooted.bounds.net).along k.0.group k.1.addr h there in
        let low : depth u.net k.0.group k.1.addr (node_of u.net.ends h.from) ≤ d = omega arith in
        let s = offered_there k h there t live in
        let exact : (f : Facts) (x : PathState) → slice_get u.nodes (node_of u.net.ends h.from) ≡ Some f → get f.paths k ≡ Some x → read.kept x ≡ due (node_of u.net.ends h.from) =
        (λ f x at e.
        let c = comes_by (node_of u.net.ends h.from) f k x at e in
        let near : depth u.net k.0.group k.1.addr (node_of u.net.ends c.0.to) ≤ d = subst (λ (z : ℕ). depth u.net k.0.group k.1.addr z ≤ d) (sym c.2) low in
        of_some (read.kept x) (due (node_of u.net.ends h.from))
        (sym (kept_is (node_of u.net.ends h.from) f k x at e) ∙ ap (kept_at read u k) (sym c.2) ∙ kept_to d c.0 c.1 near ∙ ap (λ (z : ℕ). Some (due z)) c.2)) in
        sym (nothing_flies k h) ∙ offers k h s.0 there (offered_made read u k h.from s.0 s.1) ∙ ap Some (right k h there due is_due exact s.0 s.1)

    pub kept_due : (n : ℕ) (f : Facts) (x : PathState) → slice_get u.nodes n ≡ Some f → get f.paths k ≡ Some x → read.kept x ≡ due n
    kept_due n f x at e =
        let c = comes_by n f k x at e in
        let kept = kept_to (depth u.net k.0.group k.1.addr (node_of u.net.ends c.0.to)) c.0 c.1 (omega arith) in
        of_some (read.kept x) (due n) (sym (kept_is n f k x at e) ∙ ap (kept_at read u k) (sym c.2) ∙ kept ∙ ap (λ (z : ℕ). Some (due z)) c.2)

  -- ---- and the other way round, where each does, that is what is offered
  pub record KeepsDue (k : SenderKey) : Type 0 where
    pub due : ℕ → A
    pub is_due : IsDue k due
    pub kept : (n : ℕ) (f : Facts) (x : PathState) → slice_get u.nodes n ≡ Some f → get f.paths k ≡ Some x → read.kept x ≡ due n

  who_is_offered : (k : SenderKey) (h : LinkHop) (a : A) → IsOffered read u k h.from a → (t : TokenBucket) × IsLive u k t
  who_is_offered k h a s = by (get s.facts.senders k) (get s.facts.paths k) refl refl
    where
      by : (t : Option TokenBucket) (p : Option PathState) → get s.facts.senders k ≡ t → get s.facts.paths k ≡ p → (t : TokenBucket) × IsLive u k t
      by (Some t) p sends is = (t, is_live u (node_of u.net.ends h.from) s.facts k t s.there sends)
      by None (Some x) none is = let c = comes_by (node_of u.net.ends h.from) s.facts k x s.there is in (c.3, c.4)
      by None None none is = let bad : None ≡ Some s.offer = sym (other_offer u.net s.facts k h.from None none is) ∙ s.offered in absurd (cc)

  pub offers_then : ((k : SenderKey) (t : TokenBucket) → IsLive u k t → KeepsDue k) → AreOffersKept read u
  offers_then all k h a there e =
      let s = offered_found read u k h.from a e in
      let live = who_is_offered k h a s in
      let d = all k live.0 live.1 in
      let p = (paths_there k live.0 h live.1 there).1 in
      nothing_flies k h
      ∙ kept_is (node_of u.net.ends h.to) p.facts k p.path p.node p.there
      ∙ ap Some (d.kept (node_of u.net.ends h.to) p.facts p.path p.node p.there)
      ∙ ap Some (sym (right k h there d.due d.is_due (λ f x at g. d.kept (node_of u.net.ends h.from) f x at g) a s))
