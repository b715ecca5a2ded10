-- Paths are complete: two rounds for each hop.
use Rattle.std.proofs.Common.{◌≡◌, ℕ, zero, suc, ◌+◌, ◌*◌, ◌≤◌, List, Bool, true, false, Option, Some, ◌⊎◌, ⊎_elim, arith, sym, refl, ap, subst, ◌∙◌}
use Rattle.std.specs.Prelude.{slice_get, ◌||◌, is_some}
use Rattle.std.specs.Option.{option_map}
use Rattle.rsvp_base.specs.declared.addr.Addr.{Addr}
use Rattle.rsvp_base.specs.declared.session.Sender.{Sender}
use Rattle.rsvp_base.specs.declared.session.Session.{Session}
use Rattle.rsvp_base.specs.Members.{In}
use Rattle.rsvp_base.specs.Orders.{senders as by_sender}
use Rattle.rsvp_base.specs.SessionLimits.{IsWithinSessionLimits}
use Rattle.rsvp_base.specs.Table.{Table, get, has, put_in}
use Rattle.rsvp_base.specs.TokenBucket.{TokenBucket}
use Rattle.rsvp_base.proofs.Tables.{got_put_in, get-put_in_same}
use Rattle.rsvp_messages.specs.declared.message.Message.TheVariants as message
use Rattle.calm_rounds.specs.Rounds.{Rounds}
use Rattle.calm_rounds.specs.Hold.{Hold}
use Rattle.calm_rounds.specs.SoftStates.{Stands}
use Rattle.calm_rounds.proofs.Holding.{hold_map, hold_both, hold_all, hold_later, hold_start, hold_stack, hold_keep}
use Rattle.tree_model.specs.Goals.{addr_of}
use Rattle.laws_network.proofs.Learning.{a_path_on_the_tree_is_learnt}
use Rattle.router_rules.specs.Facts.{Facts, SenderKey, PathState, sender_keys}
use Rattle.router_rules.specs.Inputs.{Input, Came, Spelt}
use Rattle.router_rules.specs.Known.{known}
use Rattle.router_rules.specs.NodeConfig.{NodeConfig, own, comes_in}
use Rattle.laws_bounds.proofs.Knowing.{has-known}
use Rattle.tree_model.specs.declared.hops.LinkHop.{LinkHop}
use Rattle.tree_model.specs.Networks.{Net, node_of, iface_of, owner, peers}
use Rattle.tree_model.specs.Ranks.{longest}
use Rattle.tree_model.specs.Trees.{tree, inward, outward, depth}
use Rattle.tree_model.specs.Valid.{IsValid}
use Rattle.tree_model.proofs.Depths.{depth_and_rank_within_longest}
use Rattle.tree_model.proofs.Following.{in_tree}
use Rattle.tree_model.proofs.Links.{one_sending_end_on_a_link}
use Rattle.tree_model.proofs.TreeLaws.{one, out_tested, the_root_has_no_inward, way_in_told, way_in_tested}
use Rattle.network_model.specs.Bounds.{AreBounds, AreHosts}
use Rattle.network_model.specs.Links.{is_group}
use Rattle.network_model.specs.Locals.{senders_at, IsLive}
use Rattle.network_model.specs.Sound.{ArePathsSound, ArePathsComplete}
use Rattle.network_model.specs.Steps.{Step, is_quiet, sent, step, machine}
use Rattle.network_model.specs.Worlds.{Item, World, config_of}
use Rattle.network_model.proofs.Machines.{quiet_of, in_flight_after}
use Rattle.laws_network.specs.Known.{IsSameNet, IsKnown}
use Rattle.laws_network.proofs.Known.{of_some, or_true, known_hold}
use Rattle.laws_network.proofs.Standing.{comes_in_made}
use Rattle.settle_paths.specs.SoftPaths.{PathValue, path_at, by_iface, SaysPath, soft_path}
use Rattle.settle_paths.specs.Said.{IsKeptPath, IsSaidPath}
use Rattle.settle_paths.specs.Telling.{is_letter, IsCompleteTo, IsSure}
use Rattle.settle_paths.proofs.Letters.{IsPathLetter, IsTearLetter, letter_found, path_letter, tear_letter}
use Rattle.settle_paths.proofs.LiveSenders.{senders_found, one_flow, live_fits}
use Rattle.settle_paths.proofs.SoftPaths.{path_found, iface_found, iface_made}
use Rattle.settle_paths.proofs.PathSends.{IsTearSent, path_sent, tear_sent}
use Rattle.settle_paths.proofs.SaidPaths.{routed, said_from}
use Rattle.settle_paths.proofs.SoundPaths.{paths_are_sound}
use Rattle.laws_network.specs.Sources.{CameOnTree, said_by}
use Rattle.router_rules.specs.Steps.{facts_then, node_step}

pub live_back : (o u : World) (k : SenderKey) (t : TokenBucket) → IsSameNet o u → IsLive u k t → IsLive o k t
live_back o u k t same l = record { node = l.node; senders = l.senders; at = sym (same.senders l.node) ∙ l.at; sends = l.sends }

module _ (q : ℕ) (o : World) (valid : IsValid o.net) (locals : AreHosts o) where
  module _ (d : ℕ) (k : SenderKey) (t : TokenBucket) (h : LinkHop) (live : IsLive o k t) (there : In h (tree o.net.hops k.0.group k.1.addr))
      (deep : depth o.net k.0.group k.1.addr (node_of o.net.ends h.to) ≤ suc d) where
    abbrev at_to : ℕ
    at_to = node_of o.net.ends h.to

    abbrev at_from : ℕ
    at_from = node_of o.net.ends h.from

    abbrev value : PathValue
    value = (addr_of o.net h.from, t)

    into : inward o.net at_to k.0.group k.1.addr ≡ Some h.to
    into = way_in_tested o.net valid at_to h.to k.0.group k.1.addr (h, there, refl, refl)

    leaves : In h.from (outward o.net at_from k.0.group k.1.addr)
    leaves = out_tested o.net at_from h.from k.0.group k.1.addr (h, there, refl, refl)

    low : depth o.net k.0.group k.1.addr at_from ≤ d
    low = let along = (depth_and_rank_within_longest o.net valid).along k.0.group k.1.addr h there in omega arith

    -- the node before knows the sender: it is its host, or it has its path
    known_at : (u : World) → IsKnown q o u → IsCompleteTo o d u → (f : Facts) → slice_get u.nodes at_from ≡ Some f → has (known f k.0) k.1 ≡ true
    known_at u a full f is =
        ⊎_elim
        (λ (root : owner o.net.ends k.1.addr ≡ Some at_from).
        let g = senders_found o live.node live.senders live.at in
        let own = locals.placed live.node g.0 k t g.1 (ap (λ (z : Table sender_keys TokenBucket). get z k) g.2 ∙ live.sends) in
        let node : live.node ≡ at_from = of_some live.node at_from (sym own ∙ root) in
        let now : Some f.senders ≡ Some live.senders = sym (ap (option_map (λ (z : Facts). z.senders)) is) ∙ a.same.senders at_from ∙ ap (senders_at o) (sym node) ∙ live.at in
        let table : f.senders ≡ live.senders = of_some f.senders live.senders now in
        let some : has f.senders k ≡ true = ap (λ (z : Table sender_keys TokenBucket). has z k) table ∙ ap (λ (z : Option TokenBucket). is_some z) live.sends in
        has-known f k.0 k.1 ∙ ap (λ (b : Bool). b || has f.paths k) some)
        (λ (way : (i : ℕ) × (inward o.net at_from k.0.group k.1.addr ≡ Some i)).
        let w = way_in_told o.net valid at_from way.0 k.0.group k.1.addr way.1 in
        let node : node_of o.net.ends w.0.to ≡ at_from = ap (node_of o.net.ends) w.2 ∙ w.3 in
        let kept = full k t w.0 live w.1 (subst (λ (z : ℕ). depth o.net k.0.group k.1.addr z ≤ d) (sym node) low) in
        let x = iface_found (iface_of o.net.ends w.0.to) (path_at u (node_of o.net.ends w.0.to) k) (addr_of o.net w.0.from, t) kept.0 kept.1 in
        let p = path_found u at_from k x.0 (ap (λ (z : ℕ). path_at u z k) (sym node) ∙ x.1) in
        let same : p.0 ≡ f = of_some p.0 f (sym p.1 ∙ is) in
        let some : has f.paths k ≡ true = ap (λ (z : Facts). has z.paths k) (sym same) ∙ ap (λ (z : Option PathState). is_some z) p.2 in
        has-known f k.0 k.1 ∙ ap (λ (b : Bool). has f.senders k || b) some ∙ or_true (has f.senders k))
        ((the_root_has_no_inward o.net valid).entered at_from h.from k.0.group k.1.addr leaves)

    -- ---- letters that were sent from a step on are Paths to the group
    pub record IsGroupPath (y : Item) : Type 0 where
      pub letter : IsPathLetter k y
      pub dst : y.dst ≡ k.0.group

    abbrev pub AreClean : ℕ → World → Type 0
    AreClean b u = (y : Item) → In y u.flight → b ≤ y.born → is_letter k h.to y ≡ true → IsGroupPath y

    -- no node tears the path down
    no_tear : (u' : World) → IsSure q o d u' → (y : Item) (l : IsTearLetter k y) → y.end ≡ h.to → IsTearSent o.net u' y l.tear → ⊥
    no_tear u' sure y l end ts =
        let sender : ts.sender ≡ k.1 = of_some ts.sender k.1 (sym ts.of ∙ l.sender) in
        let out : In ts.end (outward o.net (node_of o.net.ends ts.end) k.0.group k.1.addr) =
        subst (λ (z : ℕ). In ts.end (outward o.net z k.0.group k.1.addr)) (sym ts.at)
        (subst (λ (z : Session). In ts.end (outward o.net ts.node z.group k.1.addr)) l.session
        (subst (λ (z : Sender). In ts.end (outward o.net ts.node l.tear.session.group z.addr)) sender ts.leaves)) in
        let to : In h.to (peers o.net.links ts.end) = subst (λ (z : ℕ). In z (peers o.net.links ts.end)) end ts.to in
        let w = (one_sending_end_on_a_link o.net valid).hop k.0.group k.1.addr ts.end h.to out to into in
        let same : w.0 ≡ h = one o.net valid k.0.group k.1.addr w.0 h w.1 there (ap (node_of o.net.ends) w.3) in
        let node : ts.node ≡ at_from = sym ts.at ∙ ap (node_of o.net.ends) (sym w.2 ∙ ap (λ (z : LinkHop). z.from) same) in
        let yes : has (known ts.facts k.0) k.1 ≡ true = known_at u' sure.known sure.complete ts.facts (ap (λ (z : ℕ). slice_get u'.nodes z) (sym node) ∙ ts.after) in
        let none : has (known ts.facts k.0) k.1 ≡ false = ap (λ (z : Session). has (known ts.facts z) k.1) (sym l.session) ∙ ap (λ (z : Sender). has (known ts.facts l.tear.session) z) (sym sender)
        ∙ ts.gone in
        let bad : true ≡ false = sym yes ∙ none in
        absurd (cc)

    pub clean_step : (b : ℕ) (s : Step) (u : World) → is_quiet s ≡ true → IsSure q o d u → IsSure q o d (step q s u) → AreClean b u → AreClean b (step q s u)
    clean_step b s u quiet a a' j y i born is =
        ⊎_elim
        (λ (old : In y u.flight). j y old born is)
        (λ (new : (m : Bool) × In (y, m) (sent q s u)).
        let f = letter_found k h.to y is in
        ⊎_elim
        (λ (l : IsPathLetter k y).
        let ps = path_sent q s u quiet a.known.bounds y new.0 l.path new.1 l.spelt in
        record { letter = l; dst = ps.dst ∙ ap (λ (z : Session). z.group) l.session })
        (λ (l : IsTearLetter k y).
        absurd (no_tear (step q s u) a' y l f.0 (subst (λ (z : Net). IsTearSent z (step q s u) y l.tear) a.known.same.net (tear_sent q s u quiet a.known.bounds y new.0 l.tear new.1 l.spelt)))) f.1)
        (in_flight_after q s u y quiet i)

    -- a Path in flight over the hop says the value
    tells : (u : World) → IsSure q o d u → (y : Item) → In y u.flight → y.end ≡ h.to → IsPathLetter k y → SaysPath o.net k h.to y value
    tells u sure y i end l =
        let w1 : inward o.net (node_of o.net.ends y.end) k.0.group k.1.addr ≡ Some y.end = subst (λ (z : ℕ). inward o.net (node_of o.net.ends z) k.0.group k.1.addr ≡ Some z) (sym end) into in
        let w2 : inward o.net (node_of o.net.ends y.end) l.path.session.group k.1.addr ≡ Some y.end =
        subst (λ (z : Session). inward o.net (node_of o.net.ends y.end) z.group k.1.addr ≡ Some y.end) (sym l.session) w1 in
        let w3 : inward u.net (node_of u.net.ends y.end) l.path.session.group k.1.addr ≡ Some y.end =
        subst (λ (z : Net). inward z (node_of z.ends y.end) l.path.session.group k.1.addr ≡ Some y.end) (sym sure.known.same.net) w2 in
        let s = sure.sound.items y l.path k.1 l.tspec i l.spelt l.sender w3 in
        let in_net : In s.hop (tree o.net.hops l.path.session.group k.1.addr) = subst (λ (z : Net). In s.hop (tree z.hops l.path.session.group k.1.addr)) sure.known.same.net s.there in
        let in_tree : In s.hop (tree o.net.hops k.0.group k.1.addr) = subst (λ (z : Session). In s.hop (tree o.net.hops z.group k.1.addr)) l.session in_net in
        let same : s.hop ≡ h = one o.net valid k.0.group k.1.addr s.hop h in_tree there (ap (node_of o.net.ends) (s.to ∙ end)) in
        let key : ◌≡◌ {A = SenderKey} (l.path.session, k.1) k = (λ j. (l.session j, k.1)) in
        let back : IsLive o k l.tspec = live_back o u k l.tspec sure.known.same (subst (λ (z : SenderKey). IsLive u z l.tspec) key s.live) in
        let flow : t ≡ l.tspec = one_flow o locals k t l.tspec live back in
        record {
          end = end;
          path = l.path;
          spelt = l.spelt;
          session = l.session;
          sender = l.sender ∙ ap (λ (z : TokenBucket). Some (k.1, z)) (sym flow);
          hop = sym (s.from ∙ ap (λ (z : Net). addr_of z s.hop.from) sure.known.same.net ∙ ap (λ (z : LinkHop). addr_of o.net z.from) same);
          inward = into;
        }

    -- ---- what a node does with what comes over the hop
    live_keys : (u : World) → IsSure q o d u → (f : Facts) → slice_get u.nodes at_to ≡ Some f → (x : PathState) → IsWithinSessionLimits by_sender (put_in f.paths k x)
    live_keys u sure f is x =
        live_fits o locals (put_in f.paths k x)
        (λ k' x' e.
        ⊎_elim
        (λ (new : (k' ≡ k) × (x' ≡ x)). (t, subst (λ (z : SenderKey). IsLive o z t) (sym new.0) live))
        (λ (old : get f.paths k' ≡ Some x'). let s = sure.sound.facts at_to f k' x' is old in (x'.tspec, live_back o u k' x'.tspec sure.known.same s.sound.live))
        (got_put_in sender_keys f.paths k x k' x' e))

    taken : (u : World) → IsSure q o d u → (y : Item) → y.dst ≡ k.0.group → (says : SaysPath o.net k h.to y value) → IsKeptPath q o.net k h.to value u y says.path
    taken u sure y dst says f is =
        let p : NodeConfig = config_of q u.net u.trees at_to in
        let input : Input = Came (iface_of o.net.ends h.to) k.0.group (Spelt (message.Path says.path)) in
        let tree_in : comes_in p k.0 (iface_of o.net.ends h.to) k.1 ≡ true =
        subst (λ (z : Net). comes_in (config_of q z u.trees at_to) k.0 (iface_of o.net.ends h.to) k.1 ≡ true) (sym sure.known.same.net)
        (comes_in_made q o.net u.trees at_to k.0 h.to k.1 (routed q o u k.0.group k.1.addr h sure.known there) into) in
        let by : CameOnTree p input k = record { at = iface_of o.net.ends h.to; path = says.path; tspec = t; came = refl; session = says.session; sender = says.sender; tree = tree_in } in
        let x : PathState = said_by p u.clock input k by in
        let learnt = (a_path_on_the_tree_is_learnt.learnt (node_step p p u.clock u.clock input f) (sure.known.bounds.facts at_to f is) k by (live_keys u sure f is x)).0 in
        let has_it : get (facts_then p p u.clock input f).paths k ≡ Some x = ap (λ (z : _). get z k) learnt ∙ get-put_in_same sender_keys f.paths k x in
        let hop = sym says.hop in
        ap (λ (z : Addr). by_iface (iface_of o.net.ends h.to) (get (facts_then p p u.clock (Came (iface_of o.net.ends h.to) z (Spelt (message.Path says.path))) f).paths k)) dst
        ∙ iface_made (iface_of o.net.ends h.to) (get (facts_then p p u.clock input f).paths k) x has_it refl
        ∙ (λ j. Some ((hop j, t), x.dies))

    -- ---- so the value is said over the hop
    pub said : (b : ℕ) (u : World) → IsSure q o d u → AreClean b u → IsSaidPath q o.net k h value b u
    said b u sure clean = record {
      carried = λ y m t' i born end spelt session sender. tells u sure y i end (record { path = m; spelt = spelt; session = session; tspec = t'; sender = sender });
      spared = λ y m i born end spelt session sender.
          let p = clean y i born (tear_letter k h.to y m end spelt session sender) in
          let no : Spelt (message.Path p.letter.path) ≡ Spelt (message.PathTear m) = sym p.letter.spelt ∙ spelt in
          absurd (cc);
      taken = λ y i born says.
          let p = clean y i born (path_letter k h.to y says.path t says.end says.spelt says.session says.sender) in
          taken u sure y p.dst says;
      knows = λ f is. known_at u sure.known sure.complete f is;
    }

    pub said_hold : (rs : List (List Step)) (w : World) → Rounds (machine q) rs w → Hold (machine q) 0 rs w (IsSure q o d) → Hold (machine q) 0 rs w (IsSaidPath q o.net k h value w.made)
    said_hold rs w calm sure =
        let first = hold_start (machine q) (IsSure q o d) rs w sure in
        hold_map (machine q) (λ u. IsSure q o d u × AreClean w.made u) (IsSaidPath q o.net k h value w.made) (λ u g. said w.made u g.0 g.1) 0 rs w
        (hold_both (machine q) (IsSure q o d) (AreClean w.made) 0 rs w sure
        (hold_keep (machine q) (IsSure q o d) (AreClean w.made) (λ s u c a a' j. clean_step w.made s u (quiet_of q s c) a a' j) rs w calm sure
        (λ y i born is. let old = (first.known.bounds.flight y i).born in absurd (omega arith))))

    pub of_group : is_group k.0.group ≡ true
    of_group = let g = senders_found o live.node live.senders live.at in locals.groups live.node g.0 k t g.1 (ap (λ (z : Table sender_keys TokenBucket). get z k) g.2 ∙ live.sends)

    complete_at : (rs : List (List Step)) (w : World) → Rounds (machine q) rs w → Hold (machine q) 0 rs w (IsSure q o d) → Hold (machine q) 2 rs w (Stands (machine q) (soft_path q o k h.to) value)
    complete_at rs w calm sure =
        said_from q o valid k h value there of_group rs w calm (hold_map (machine q) (IsSure q o d) (IsKnown q o) (λ u g. g.known) 0 rs w sure) (said_hold rs w calm sure)

  -- ---- level by level
  abbrev pub HopTo : ℕ → Type 0
  HopTo d = (k : SenderKey) × (t : TokenBucket) × (h : LinkHop) × IsLive o k t × In h (tree o.net.hops k.0.group k.1.addr) × (depth o.net k.0.group k.1.addr (node_of o.net.ends h.to) ≤ d)

  complete_up : (d : ℕ) (rs : List (List Step)) (w : World) → Rounds (machine q) rs w → Hold (machine q) 0 rs w (IsSure q o d) → Hold (machine q) 2 rs w (IsCompleteTo o (suc d))
  complete_up d rs w calm sure =
      hold_map (machine q) (λ u. (a : HopTo (suc d)) → Stands (machine q) (soft_path q o a.0 a.2.to) (addr_of o.net a.2.from, a.1) u) (IsCompleteTo o (suc d))
      (λ u g k t h live there le. g (k, t, h, live, there, le)) 2 rs w
      (hold_all (machine q) (λ (a : HopTo (suc d)) u. Stands (machine q) (soft_path q o a.0 a.2.to) (addr_of o.net a.2.from, a.1) u) 2 rs w
      (λ a. complete_at d a.0 a.1 a.2 a.3 a.4 a.5 rs w calm sure))

  abbrev IsStarted : World → Type 0
  IsStarted u = IsKnown q o u × ArePathsSound u

  levels : (d : ℕ) (rs : List (List Step)) (w : World) → Rounds (machine q) rs w → Hold (machine q) 0 rs w IsStarted → Hold (machine q) (2 * d) rs w (IsCompleteTo o d)
  levels zero rs w calm start =
      hold_map (machine q) IsStarted (IsCompleteTo o 0)
      (λ u g k t h live there le. let along = (depth_and_rank_within_longest o.net valid).along k.0.group k.1.addr h there in absurd (omega arith)) 0 rs w start
  levels (suc d) rs w calm start =
      let e : 2 * d + 2 ≡ 2 * suc d = omega arith in
      rw (← e)
      (hold_stack (machine q) (λ u. IsStarted u × IsCompleteTo o d u) (IsCompleteTo o (suc d)) 2
      (λ rs' w' calm' both. complete_up d rs' w' calm' (hold_map (machine q) (λ u. IsStarted u × IsCompleteTo o d u) (IsSure q o d)
      (λ u g. record { known = g.0.0; sound = g.0.1; complete = g.1 }) 0 rs' w' both)) (2 * d) rs w calm
      (hold_both (machine q) IsStarted (IsCompleteTo o d) (2 * d) rs w (hold_later (machine q) IsStarted 0 (2 * d) rs w (omega arith) start) (levels d rs w calm start)))

  pub all_complete : (u : World) → IsKnown q o u → IsCompleteTo o (longest o.net) u → ArePathsComplete u
  all_complete u a full k t h live there =
      let back : IsLive o k t = live_back o u k t a.same live in
      let in_o : In h (tree o.net.hops k.0.group k.1.addr) = subst (λ (z : Net). In h (tree z.hops k.0.group k.1.addr)) a.same.net there in
      let deep = (depth_and_rank_within_longest o.net valid).every k.0.group k.1.addr (node_of o.net.ends h.to) in
      let kept = full k t h back in_o deep in
      let x = iface_found (iface_of o.net.ends h.to) (path_at u (node_of o.net.ends h.to) k) (addr_of o.net h.from, t) kept.0 kept.1 in
      let f = path_found u (node_of o.net.ends h.to) k x.0 x.1 in
      record {
        facts = f.0;
        node = ap (λ (z : Net). slice_get u.nodes (node_of z.ends h.to)) a.same.net ∙ f.1;
        path = x.0;
        there = f.2;
        iface = x.2 ∙ ap (λ (z : Net). iface_of z.ends h.to) (sym a.same.net);
        hop = sym (ap (λ (z : PathValue). z.0) x.3) ∙ ap (λ (z : Net). addr_of z h.from) (sym a.same.net);
        tspec = sym (ap (λ (z : PathValue). z.1) x.3);
      }

pub paths_are_complete : (q : ℕ) (w : World) (rs : List (List Step)) → Rounds (machine q) rs w → AreHosts w → Hold (machine q) 0 rs w (AreBounds q) → Hold (machine q) 0 rs w ArePathsSound
    → Hold (machine q) (2 * longest w.net) rs w ArePathsComplete
paths_are_complete q w rs calm locals bounds sound =
    let valid : IsValid w.net = (hold_start (machine q) (AreBounds q) rs w bounds).net in
    let known = known_hold q w rs calm bounds in
    hold_map (machine q) (λ u. IsKnown q w u × IsCompleteTo w (longest w.net) u) ArePathsComplete (λ u g. all_complete q w valid locals u g.0 g.1) (2 * longest w.net) rs w
    (hold_both (machine q) (IsKnown q w) (IsCompleteTo w (longest w.net)) (2 * longest w.net) rs w
    (hold_later (machine q) (IsKnown q w) 0 (2 * longest w.net) rs w (omega arith) known)
    (levels q w valid locals (longest w.net) rs w calm (hold_both (machine q) (IsKnown q w) ArePathsSound 0 rs w known sound)))

-- ---- one hop of a live sender's Path
pub live_paths_are_kept : (q : ℕ) (w : World) (d : ℕ) (k : SenderKey) (t : TokenBucket) (h : LinkHop) → AreHosts w → IsLive w k t → In h (tree w.net.hops k.0.group k.1.addr)
    → depth w.net k.0.group k.1.addr (node_of w.net.ends h.to) ≤ suc d
    → (rs : List (List Step)) → Rounds (machine q) rs w → Hold (machine q) 0 rs w (IsSure q w d) → Hold (machine q) 2 rs w (Stands (machine q) (soft_path q w k h.to) (addr_of w.net h.from, t))
live_paths_are_kept q w d k t h locals live there deep rs calm sure =
    complete_at q w (hold_start (machine q) (IsSure q w d) rs w sure).known.bounds.net locals d k t h live there deep rs w calm sure

-- ---- paths settle
pub paths_settle : (q : ℕ) (w : World) (rs : List (List Step)) → Rounds (machine q) rs w → AreHosts w → Hold (machine q) 0 rs w (AreBounds q)
    → Hold (machine q) ((4 + 5 * longest w.net) + 2 * longest w.net) rs w (λ u. ArePathsSound u × ArePathsComplete u)
paths_settle q w rs calm locals bounds =
    let valid : IsValid w.net = (hold_start (machine q) (AreBounds q) rs w bounds).net in
    let known = known_hold q w rs calm bounds in
    let sound = paths_are_sound q w rs calm bounds in
    let k : ℕ = 4 + 5 * longest w.net in
    let n : ℕ = 2 * longest w.net in
    hold_map (machine q) (λ u. ArePathsSound u × (IsKnown q w u × IsCompleteTo w (longest w.net) u)) (λ u. ArePathsSound u × ArePathsComplete u)
    (λ u g. (g.0, all_complete q w valid locals u g.1.0 g.1.1)) (k + n) rs w
    (hold_both (machine q) ArePathsSound (λ u. IsKnown q w u × IsCompleteTo w (longest w.net) u) (k + n) rs w
    (hold_later (machine q) ArePathsSound k (k + n) rs w (omega arith) sound)
    (hold_both (machine q) (IsKnown q w) (IsCompleteTo w (longest w.net)) (k + n) rs w
    (hold_later (machine q) (IsKnown q w) 0 (k + n) rs w (omega arith) known)
    (hold_stack (machine q) (λ u. IsKnown q w u × ArePathsSound u) (IsCompleteTo w (longest w.net)) n
    (λ rs' w' calm' start. levels q w valid locals (longest w.net) rs' w' calm' start) k rs w calm
    (hold_both (machine q) (IsKnown q w) ArePathsSound k rs w (hold_later (machine q) (IsKnown q w) 0 k rs w (omega arith) known) sound))))
