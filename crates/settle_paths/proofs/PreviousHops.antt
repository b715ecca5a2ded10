-- Previous hops are hops of trees, where paths are sound: what comes from one are names over the hop. Where paths are complete,
-- these are all of them.
use Rattle.std.proofs.Common.{◌≡◌, ◌⊎◌, inl, inr, ⊎_elim, ℕ, ◌<◌, [], ◌∷◌, length, Bool, true, false, Option, Some, sym, refl, ap, subst, ◌∙◌}
use Rattle.std.specs.Prelude.{slice_get, is_some, ◌||◌}
use Rattle.rsvp_base.specs.declared.addr.Addr.{Addr}
use Rattle.rsvp_base.specs.declared.session.Sender.{Sender}
use Rattle.rsvp_base.specs.declared.session.Session.{Session}
use Rattle.rsvp_base.specs.Members.{In}
use Rattle.rsvp_base.specs.Orders.{senders, sessions}
use Rattle.rsvp_base.specs.Sets.{IsWithin}
use Rattle.rsvp_base.specs.Table.{Table, get, has}
use Rattle.rsvp_base.specs.TokenBucket.{TokenBucket}
use Rattle.rsvp_base.proofs.Members.{to_each, to_filter}
use Rattle.rsvp_base.proofs.SetLaws.{and_both, and_made, same_set}
use Rattle.rsvp_base.proofs.Tables.{tied_self}
use Rattle.style_rules.specs.Lines.{NextHop}
use Rattle.tree_model.specs.declared.locals.LocalSender.{LocalSender}
use Rattle.tree_model.specs.Goals.{addr_of, addr_of_end}
use Rattle.tree_model.specs.Wants.{live, of_session, goes_over, names}
use Rattle.tree_model.proofs.WantLaws.{name_made, name_told}
use Rattle.router_rules.specs.Facts.{Facts, PathState, sender_keys}
use Rattle.router_rules.specs.Known.{Lane, known, names_via}
use Rattle.laws_bounds.specs.FactLaws.{ComesBy}
use Rattle.laws_bounds.proofs.Knowing.{known_and_via, has-known}
use Rattle.laws_bounds.proofs.Tests.{came_told, came_tested}
use Rattle.tree_model.specs.declared.hops.LinkHop.{LinkHop}
use Rattle.tree_model.specs.Networks.{Net, node_of, iface_of, owner}
use Rattle.tree_model.specs.Trees.{tree, hops_of, inward}
use Rattle.tree_model.specs.Valid.{IsValid}
use Rattle.tree_model.proofs.Following.{has_hop_in, in_has_hop, in_group, to_tree, tree_group}
use Rattle.tree_model.proofs.Ifaces.{interfaces_are_ends}
use Rattle.tree_model.proofs.TreeLaws.{way_in_told, way_in_tested}
use Rattle.network_model.specs.Bounds.{AreHosts}
use Rattle.network_model.specs.Locals.{IsLive, locals_of, sender_at, senders_from}
use Rattle.network_model.specs.Sound.{ArePathsSound, ArePathsComplete}
use Rattle.network_model.specs.Worlds.{World}
use Rattle.network_model.proofs.NodeLocals.{is_live, live_told}
use Rattle.laws_network.proofs.Known.{of_some, has_some, or_true}
use Rattle.laws_network.proofs.Standing.{some_at, same_end, to_there, from_there}
use Rattle.settle_paths.proofs.LiveSenders.{live_listed, senders_found}
use Rattle.settle_paths.specs.PreviousHops.{IsPrevious, IsAhead, ArePreviousHops, AreAllPreviousHops, Reaches}

-- a live sender is among those of its session
pub live_among : (w : World) (s : Session) (x : Sender) (t : TokenBucket) → IsLive w (s, x) t → In x (live (locals_of w) s)
live_among w s x t l =
    let at = live_listed w (s, x) t l in
    to_each (λ (z : LocalSender). z.sender) (sender_at at.0 (s, x)) _ (to_filter (of_session s) (sender_at at.0 (s, x)) (senders_from 0 w.nodes) at.1 (tied_self sessions s))

-- a path that comes from a previous hop comes over a hop of its sender's tree
pub ahead : (w : World) (n : ℕ) (f : Facts) → ArePathsSound w → slice_get w.nodes n ≡ Some f → (s : Session) (hop : NextHop) (x : Sender) → ComesBy f s hop x → IsAhead w n s hop x
ahead w n f sound at s hop x c =
    let p = sound.facts n f (s, x) c.path at c.there in
    let is = (interfaces_are_ends w.net).iface_of_end n c.path.iface p.end p.at in
    let by = came_told hop c.path c.by in
    record {
      way = p.sound.hop;
      there = p.sound.there;
      previous = record {
        there = tree_group w.net.hops s.group x.addr p.sound.hop p.sound.there;
        node = ap (node_of w.net.ends) p.sound.to ∙ is.1;
        iface = ap (iface_of w.net.ends) p.sound.to ∙ is.2 ∙ by.0;
        addr = sym p.sound.from ∙ by.1;
      };
      live = live_among w s x c.path.tspec p.sound.live;
    }

-- ---- a previous hop is one hop
module _ (net : Net) (valid : IsValid net) where
  pub ends_there : (g : Addr) (h : LinkHop) → In h (hops_of net.hops g) → (h.from < length net.ends) × (h.to < length net.ends)
  ends_there g h i =
      let r = in_group net.hops g h i in
      let there : In h (tree net.hops r.0.group r.0.source) = subst (λ (z : LinkHop). In z (tree net.hops r.0.group r.0.source)) r.3 (to_tree net.hops r.0 r.1) in
      (from_there net valid r.0.group r.0.source h there, to_there net valid r.0.group r.0.source h there)

  pub same_by_addr : (d e : ℕ) → d < length net.ends → e < length net.ends → addr_of net d ≡ addr_of net e → d ≡ e
  same_by_addr d e a b same =
      let x = some_at net.ends d a in
      let y = some_at net.ends e b in
      valid.one_address d e x.0 y.0 x.1 y.1 (sym (ap addr_of_end x.1) ∙ same ∙ ap addr_of_end y.1)

  pub one_previous : (n : ℕ) (s : Session) (hop : NextHop) (h h' : LinkHop) → IsPrevious net n s hop h → IsPrevious net n s hop h' → h ≡ h'
  one_previous n s hop h h' a b =
      let x = ends_there s.group h a.there in
      let y = ends_there s.group h' b.there in
      let from = same_by_addr h.from h'.from x.0 y.0 (a.addr ∙ sym b.addr) in
      let to = same_end net h.to h'.to x.1 y.1 (a.node ∙ sym b.node) (a.iface ∙ sym b.iface) in
      λ i. record { from = from i; to = to i }

-- the names via a previous hop are names over its hop
module _ (w : World) (n : ℕ) (f : Facts) (valid : IsValid w.net) (sound : ArePathsSound w) (at : slice_get w.nodes n ≡ Some f) where
  pub via_within : (l : Lane) (h : LinkHop) → IsPrevious w.net n l.session l.hop h → IsWithin (names_via f l) (names l.style w.net (locals_of w) l.session (h ∷ []))
  via_within l h is x e =
      let named = (known_and_via.all_by f l x).0 e in
      let comes = (known_and_via.via_by f l.session l.hop named.sender).0 named.among in
      let a = ahead w n f sound at l.session l.hop named.sender comes in
      let one = one_previous w.net valid n l.session l.hop a.way h a.previous is in
      let over : goes_over w.net l.session (h ∷ []) named.sender ≡ true =
      and_made _ _ (in_has_hop (tree w.net.hops l.session.group named.sender.addr) h (subst (λ (z : LinkHop). In z (tree w.net.hops l.session.group named.sender.addr)) one a.there)) refl in
      subst (λ (z : Sender). has (names l.style w.net (locals_of w) l.session (h ∷ [])) z ≡ true) (sym named.name) (name_made l.style w.net (locals_of w) l.session (h ∷ []) named.sender a.live over)

pub previous_hops_are_hops : (w : World) → IsValid w.net → ArePathsSound w → ArePreviousHops w
previous_hops_are_hops w valid sound = record {
  ahead = λ n f s hop x at c. ahead w n f sound at s hop x c;
  one = one_previous w.net valid;
  within = λ n f l h at is. via_within w n f valid sound at l h is;
}

-- ---- where paths are complete
both_ways : (a b : Bool) → (a ≡ true → b ≡ true) → (b ≡ true → a ≡ true) → a ≡ b
both_ways true true f g = refl
both_ways true false f g = sym (f refl)
both_ways false true f g = g refl
both_ways false false f g = refl

module _ (w : World) (valid : IsValid w.net) (sound : ArePathsSound w) (complete : ArePathsComplete w) (n : ℕ) (f : Facts) (at : slice_get w.nodes n ≡ Some f) where
  -- a live sender whose tree has a hop into the node comes over it
  pub comes_over : (s : Session) (x : Sender) (h : LinkHop) → In x (live (locals_of w) s) → In h (tree w.net.hops s.group x.addr) → node_of w.net.ends h.to ≡ n
      → (p : PathState) × (get f.paths (s, x) ≡ Some p) × (p.iface ≡ iface_of w.net.ends h.to) × (p.hop.addr ≡ addr_of w.net h.from)
  comes_over s x h i there node =
      let l = live_told w s x i in
      let c = complete (s, x) l.0 h l.1 there in
      let same : c.facts ≡ f = of_some c.facts f (sym c.node ∙ ap (λ (z : ℕ). slice_get w.nodes z) node ∙ at) in
      (c.path, ap (λ (z : Facts). get z.paths (s, x)) (sym same) ∙ c.there, c.iface, c.hop)

  pub via_all : (l : Lane) (h : LinkHop) → IsPrevious w.net n l.session l.hop h → IsWithin (names l.style w.net (locals_of w) l.session (h ∷ [])) (names_via f l)
  via_all l h is x e =
      let a = name_told l.style w.net (locals_of w) l.session (h ∷ []) x e in
      let there = has_hop_in (tree w.net.hops l.session.group a.0.addr) h (and_both _ _ a.2).0 in
      let p = comes_over l.session a.0 h a.1 there is.node in
      (known_and_via.all_by f l x).1
      (record {
        sender = a.0;
        among = (known_and_via.via_by f l.session l.hop a.0).1 (record { path = p.0; there = p.1; by = came_tested l.hop p.0 (p.2 ∙ is.iface, p.3 ∙ is.addr) });
        passes = refl;
        name = a.3;
      })

  pub via_is : (l : Lane) (h : LinkHop) → IsPrevious w.net n l.session l.hop h → names_via f l ≡ names l.style w.net (locals_of w) l.session (h ∷ [])
  via_is l h is =
      same_set senders (names_via f l) (names l.style w.net (locals_of w) l.session (h ∷ []))
      (λ x. both_ways _ _ (via_within w n f valid sound at l h is x) (via_all l h is x))

  module _ (locals : AreHosts w) (s : Session) (x : Sender) where
    of_known : has (known f s) x ≡ true → In x (live (locals_of w) s) × Reaches w.net n s.group x.addr
    of_known e = by (has f.senders (s, x)) refl (sym (has-known f s x) ∙ e)
      where
        by : (b : Bool) → has f.senders (s, x) ≡ b → (b || has f.paths (s, x)) ≡ true → In x (live (locals_of w) s) × Reaches w.net n s.group x.addr
        by true h t =
            let y = has_some (get f.senders (s, x)) h in
            (live_among w s x y.0 (is_live w n f (s, x) y.0 at y.1), inl (locals.placed n f (s, x) y.0 at y.1))
        by false h t =
            let y = has_some (get f.paths (s, x)) t in
            let p = sound.facts n f (s, x) y.0 at y.1 in
            let is = (interfaces_are_ends w.net).iface_of_end n y.0.iface p.end p.at in
            (live_among w s x y.0.tspec p.sound.live, inr (p.end, way_in_tested w.net valid n p.end s.group x.addr (p.sound.hop, p.sound.there, p.sound.to, is.1)))

    to_known : In x (live (locals_of w) s) × Reaches w.net n s.group x.addr → has (known f s) x ≡ true
    to_known r =
        ⊎_elim
        (λ (root : owner w.net.ends x.addr ≡ Some n).
        let l = live_told w s x r.0 in
        let g = senders_found w l.1.node l.1.senders l.1.at in
        let sends : get g.0.senders (s, x) ≡ Some l.0 = ap (λ (z : Table sender_keys TokenBucket). get z (s, x)) g.2 ∙ l.1.sends in
        let node : l.1.node ≡ n = of_some l.1.node n (sym (locals.placed l.1.node g.0 (s, x) l.0 g.1 sends) ∙ root) in
        let same : g.0 ≡ f = of_some g.0 f (sym g.1 ∙ ap (λ (z : ℕ). slice_get w.nodes z) node ∙ at) in
        let some : has f.senders (s, x) ≡ true = ap (λ (z : Facts). has z.senders (s, x)) (sym same) ∙ ap (λ (z : Option TokenBucket). is_some z) sends in
        has-known f s x ∙ ap (λ (b : Bool). b || has f.paths (s, x)) some)
        (λ (way : (e : ℕ) × (inward w.net n s.group x.addr ≡ Some e)).
        let h = way_in_told w.net valid n way.0 s.group x.addr way.1 in
        let p = comes_over s x h.0 r.0 h.1 (ap (node_of w.net.ends) h.2 ∙ h.3) in
        let some : has f.paths (s, x) ≡ true = ap (λ (z : Option PathState). is_some z) p.1 in
        has-known f s x ∙ ap (λ (b : Bool). has f.senders (s, x) || b) some ∙ or_true (has f.senders (s, x)))
        r.1

pub previous_hops_are_all_hops : (w : World) → IsValid w.net → AreHosts w → ArePathsSound w → ArePathsComplete w → AreAllPreviousHops w
previous_hops_are_all_hops w valid locals sound complete = record {
  via = λ n f l h at is. via_is w valid sound complete n f at l h is;
  known = λ n f s x at. (of_known w valid sound complete n f at locals s x, to_known w valid sound complete n f at locals s x);
}
