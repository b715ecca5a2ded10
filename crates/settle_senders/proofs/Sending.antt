-- A host begins to send: its node offers it and asks for it at once, and all else stays.
use Rattle.std.proofs.Common.{◌≡◌, ℕ, [], ◌∷◌, true, Some, sym, refl, ap, subst, ◌∙◌}
use Rattle.std.specs.Prelude.{slice_get}
use Rattle.rsvp_base.specs.declared.part.Part.{Part}
use Rattle.rsvp_base.specs.declared.session.Sender.{Sender}
use Rattle.rsvp_base.specs.declared.session.Session.{Session}
use Rattle.rsvp_base.specs.declared.style.StyleKind.{StyleKind}
use Rattle.rsvp_base.specs.declared.style.Unit.{Unit as UnitOf}
use Rattle.rsvp_base.specs.declared.addr.Addr.{Addr}
use Rattle.rsvp_base.specs.Members.{In}
use Rattle.rsvp_base.specs.Orders.{Names}
use Rattle.rsvp_base.specs.Table.{has}
use Rattle.rsvp_base.specs.TokenBucket.{IsSound, TokenBucket}
use Rattle.rsvp_base.proofs.SetLaws.{and_both}
use Rattle.rsvp_messages.specs.Units.{ask_style}
use Rattle.style_rules.specs.Lines.{LineKey}
use Rattle.style_rules.specs.PartLaws.{part_at_most_told}
use Rattle.router_rules.specs.Facts.{Facts, SenderKey}
use Rattle.router_rules.specs.Inputs.{Local, SendAs}
use Rattle.tree_model.specs.declared.hops.LinkHop.{LinkHop}
use Rattle.tree_model.specs.declared.locals.LocalWant.{LocalWant}
use Rattle.tree_model.specs.Networks.{node_of}
use Rattle.tree_model.specs.Trees.{inward, outward, tree}
use Rattle.tree_model.specs.Wants.{live}
use Rattle.tree_model.proofs.Following.{has_hop_in}
use Rattle.tree_model.proofs.Ifaces.{interfaces_are_ends}
use Rattle.tree_model.proofs.TreeLaws.{out_tested, the_root_has_no_inward, way_in_tested}
use Rattle.tree_model.proofs.WantLaws.{name_told, want_names}
use Rattle.network_model.specs.Bounds.{AreHosts}
use Rattle.network_model.specs.Locals.{IsLive, locals_of}
use Rattle.network_model.specs.Sound.{AreResvsSound, IsSoundPart}
use Rattle.network_model.specs.Worlds.{World}
use Rattle.network_model.proofs.NodeLocals.{live_told}
use Rattle.laws_network.proofs.Known.{node_there, of_some}
use Rattle.laws_network.proofs.Standing.{from_there}
use Rattle.settle_paths.proofs.PreviousHops.{ends_there, live_among, previous_hops_are_all_hops}
use Rattle.settle_resvs.specs.Said.{hop_over, resv_key}
use Rattle.settle_resvs.specs.Sessions.{SessionFits}
use Rattle.settle_resvs.specs.SoftResvs.{line_key_of}
use Rattle.settle_resvs.proofs.SoftResvs.{resv_found}
use Rattle.settle_resvs.proofs.WantStyles.{want_parts}
use Rattle.settle_passes.specs.Calls.{HasItsPaths, IsNew, after_send}
use Rattle.settle_passes.specs.Passes.{AreSpreading, Knows}
use Rattle.settle_passes.specs.Reserving.{IsReserving}
use Rattle.settle_passes.proofs.Deliveries.{known_self}
use Rattle.settle_passes.proofs.Growing.{HasNoLess, sound_joined, still_wanted}
use Rattle.settle_passes.proofs.Called.{wants_same}
use Rattle.settle_passes.proofs.Calls.{known_on, live_kept, spreading_then}
use Rattle.settle_passes.proofs.Spreading.{there_spread}
use Rattle.settle_senders.specs.Following.{ArePathsFromKnown, AreNamesKnown, HasSenderNamed, IsFollowing}
use Rattle.settle_senders.proofs.Called.{following_then as following_after_call}

-- ---- where paths are sound and complete, they come from nodes that know their senders, and names of what is sound are known
module _ (q : ℕ) (w : World) (start : HasItsPaths q w) where
  -- a live sender is known where its tree goes out
  live_known : (s : Session) (x : Sender) (e : ℕ) → In x (live (locals_of w) s) → In e (outward w.net (node_of w.net.ends e) s.group x.addr) → (f : Facts)
      → slice_get w.nodes (node_of w.net.ends e) ≡ Some f → Knows w (node_of w.net.ends e) (s, x)
  live_known s x e lives leaves f at =
      let n : ℕ = node_of w.net.ends e in
      let reaches = (the_root_has_no_inward w.net start.bounds.net).entered n e s.group x.addr leaves in
      record {
        facts = f;
        there = at;
        known_one = ((previous_hops_are_all_hops w start.bounds.net start.hosts start.sound start.complete).known n f s x at).1 (lives, reaches);
      }

  -- so the node before a hop of its tree knows it
  known_before : (s : Session) (x : Sender) (t : TokenBucket) (h : LinkHop) → IsLive w (s, x) t → In h (tree w.net.hops s.group x.addr) → Knows w (node_of w.net.ends h.from) (s, x)
  known_before s x t h alive there =
      let leaves : In h.from (outward w.net (node_of w.net.ends h.from) s.group x.addr) = out_tested w.net (node_of w.net.ends h.from) h.from s.group x.addr (h, there, refl, refl) in
      let inside = from_there w.net start.bounds.net s.group x.addr h there in
      let f = node_there q w start.bounds.net w h.from (known_self q w start.bounds) inside in
      live_known s x h.from (live_among w s x t alive) leaves f.0 f.1

  paths_from_known : ArePathsFromKnown w
  paths_from_known = record {
    facts = λ n f k x h at e there node. let p = start.sound.facts n f k x at e in known_before k.0 k.1 x.tspec h p.sound.live there;
    items = λ y m x t h i spelt sender there to.
        let way : inward w.net (node_of w.net.ends y.end) m.session.group x.addr ≡ Some y.end =
        way_in_tested w.net start.bounds.net (node_of w.net.ends y.end) y.end m.session.group x.addr (h, there, to, refl) in
        let p = start.sound.items y m x t i spelt sender way in
        known_before m.session x t h p.live there;
  }

  -- a name of a part that is sound at an end
  pub name_there : (st : StyleKind) (s : Session) (e : ℕ) (next : Addr) (u : UnitOf) (p : Part) → IsSoundPart st w s e next u p → (x : Sender) → has p.senders x ≡ true → HasSenderNamed w e s st x
  name_there st s e next u p sound x i =
      let up = part_at_most_told p sound.wanted sound.below in
      let a = name_told st w.net (locals_of w) s (sound.hop ∷ []) x (want_names st w.net (locals_of w) s sound.hop u sound.wanted sound.is x (up.names x i)) in
      let there = has_hop_in (tree w.net.hops s.group a.0.addr) sound.hop (and_both _ _ a.2).0 in
      let leaves : In e (outward w.net (node_of w.net.ends e) s.group a.0.addr) = out_tested w.net (node_of w.net.ends e) e s.group a.0.addr (sound.hop, there, sound.from, refl) in
      let inside = ends_there w.net start.bounds.net s.group sound.hop sound.there in
      let f = node_there q w start.bounds.net w sound.hop.from (known_self q w start.bounds) inside.0 in
      record {
        sender = a.0;
        knows = live_known s a.0 e a.1 leaves f.0 (ap (λ (z : ℕ). slice_get w.nodes (node_of w.net.ends z)) (sym sound.from) ∙ f.1);
        leaves = leaves;
        name = a.3;
      }

  names_known : AreResvsSound w → AreNamesKnown w
  names_known sound = record {
    kept = λ k v x there c i.
        let n : ℕ = node_of w.net.ends k.to in
        let key : LineKey = line_key_of w.net (resv_key w.net k) in
        let f = resv_found w n k.style key c.resv c.there in
        let y = sound.facts k.style n f.0 key c.resv f.1 f.2 in
        let inside = (ends_there w.net start.bounds.net k.session.group (hop_over k) there).0 in
        let end : y.end ≡ k.to = of_some y.end k.to (sym y.at ∙ (interfaces_are_ends w.net).end_of_iface k.to inside) in
        let d = name_there k.style k.session y.end key.1.0.1 key.1.1 c.resv.part y.sound x (ap (λ (z : Part). has z.senders x) c.is ∙ i) in
        subst (λ (z : ℕ). HasSenderNamed w z k.session k.style x) end d;
    items = λ y m v names x i spelt asks named there.
        let d = sound.items y m v i spelt asks in
        let same : names ≡ d.names = of_some names d.names (sym named ∙ d.named) in
        name_there (ask_style m.ask) m.session y.end m.hop.addr v.unit (record { senders = d.names; flow = v.flow }) d.sound x (ap (λ (z : Names). has z x) (sym same) ∙ there);
  }

-- ---- so reservations that are set up follow paths
pub a_reserving_session_follows : (q : ℕ) (s : Session) (w : World) → IsReserving q s w → IsFollowing q s w
a_reserving_session_follows q s w r = record {
  paths = there_spread q w r.paths;
  from_known = paths_from_known q w r.paths;
  names = names_known q w r.paths r.sound;
  sound = r.sound;
  fit = r.fit;
  free = r.free;
  no_error = r.no_error;
  addressed = r.addressed;
  asked = r.asked;
}

-- ---- a host begins to send
module _ (q n : ℕ) (k : SenderKey) (t : TokenBucket) (w : World) (start : AreSpreading q w) (fit : IsSound t) (new : IsNew w k) (hosts : AreHosts (after_send q n k t w)) where
  abbrev call : Local
  call = SendAs k.0 k.1 t

  abbrev begun : World
  begun = after_send q n k t w

  pub spreads : AreSpreading q begun
  spreads = spreading_then q n k t w start fit new hosts

  -- ---- local wants are no less
  lives : (s : Session) (x : Sender) → In x (live (locals_of w) s) → In x (live (locals_of begun) s)
  lives s x i = let l = live_told w s x i in live_among begun s x l.0 (live_kept q n k t w start fit new hosts (s, x) l.0 l.1)

  pub no_less : (x : LocalWant) → In x (locals_of w).wants → HasNoLess (locals_of begun).wants x
  no_less = still_wanted (locals_of w).wants (locals_of begun).wants (sym (wants_same q n call w refl))

  -- ---- what is sound stays so
  pub sound_on : (st : StyleKind) (s : Session) (e : ℕ) (next : Addr) (u : UnitOf) (p : Part) → IsSoundPart st w s e next u p → IsSoundPart st begun s e next u p
  sound_on st s e next u p h =
      sound_joined st w begun refl start.bounds.net.loop_free (want_parts q w start.bounds) (want_parts q begun spreads.bounds) s (lives s) no_less e next u p h

  -- ---- so reservations follow paths still
  pub following_then : (s : Session) → IsFollowing q s w → SessionFits begun.net (locals_of begun) s → IsFollowing q s begun
  following_then s r fits = following_after_call q n call w start spreads (known_on q n k t w start fit new hosts) sound_on s r fits
