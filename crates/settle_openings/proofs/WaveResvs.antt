-- A Resv that comes to a node pays for the Resvs that the node sends for it: those go back over hops that the Resv's hop follows, each over another,
-- and no sender's tree comes into the node by two.
use Rattle.std.proofs.Common.{◌≡◌, ℕ, ◌+◌, ◌<◌, ◌≤◌, List, [], ◌∷◌, length, Bool, true, false, Option, None, Some, ◌⊎◌, inl, inr, ⊎_elim, arith, sym, refl, ap, subst, ◌∙◌}
use Rattle.std.specs.Prelude.{map as each, not, slice_get, ◌==◌, ◌&&◌, if◌then◌else◌}
use Rattle.std.specs.List.{filter, flat_map, list_any}
use Rattle.std.proofs.lemmas.List.{length-append}
use Rattle.rsvp_base.specs.declared.addr.Addr.{Addr}
use Rattle.rsvp_base.specs.declared.session.Sender.{Sender}
use Rattle.rsvp_base.specs.declared.session.Session.{Session}
use Rattle.rsvp_base.specs.Members.{In}
use Rattle.rsvp_base.specs.Table.{empty, keys}
use Rattle.rsvp_base.proofs.Members.{any_in, in_any, to_filter}
use Rattle.rsvp_base.proofs.SetLaws.{and_both, and_made}
use Rattle.rsvp_messages.specs.declared.ask.Ask.{Ask}
use Rattle.rsvp_messages.specs.declared.message.Message.TheVariants as message
use Rattle.rsvp_messages.specs.declared.message.ResvMsg.{ResvMsg}
use Rattle.rsvp_messages.specs.Units.{ask_style}
use Rattle.laws_bounds.proofs.Tests.{addr_told, addr_tested}
use Rattle.router_rules.specs.Asking.{ask_of}
use Rattle.router_rules.specs.Facts.{Facts}
use Rattle.router_rules.specs.Inputs.{Asked, Send}
use Rattle.router_rules.specs.Known.{Lane, lane_keys, lanes}
use Rattle.router_rules.specs.NodeConfig.{NodeConfig, is_addr, own, period}
use Rattle.router_rules.specs.Requests.{toward}
use Rattle.router_rules.specs.Sends.{confirm_for, hop_to, is_changed, resv_send, resv_send_of, resv_send_to, resv_sends}
use Rattle.tree_model.specs.declared.hops.LinkHop.{LinkHop}
use Rattle.tree_model.specs.Chains.{NoRepeats}
use Rattle.tree_model.specs.Goals.{addr_of}
use Rattle.tree_model.specs.Networks.{Net, among, end_at, iface_of, link_of, node_of, peers}
use Rattle.tree_model.specs.Ranks.{Follows}
use Rattle.tree_model.specs.Trees.{hops_of, tree}
use Rattle.tree_model.specs.Valid.{IsValid}
use Rattle.tree_model.specs.Wants.{live}
use Rattle.tree_model.proofs.Following.{number_same, same_number}
use Rattle.tree_model.proofs.Ifaces.{interfaces_are_ends}
use Rattle.tree_model.proofs.Links.{back_linked, hop_linked, peers_both}
use Rattle.tree_model.proofs.TreeLaws.{one, out_told}
use Rattle.network_model.specs.Bounds.{AreBounds}
use Rattle.network_model.specs.Links.{all_copies, copies_of, copy_to, ends_toward, goes_to, is_group, or_all}
use Rattle.network_model.specs.Locals.{locals_of}
use Rattle.network_model.specs.Sound.{ArePathsSound}
use Rattle.network_model.specs.Worlds.{Item, World, config_of}
use Rattle.laws_network.proofs.Hosts.{once_keys}
use Rattle.laws_network.proofs.Sends.{goes_to_peers}
use Rattle.laws_network.proofs.Standing.{from_there, goes_out_told, own_end, same_end, to_there}
use Rattle.settle_paths.specs.PreviousHops.{IsPrevious}
use Rattle.settle_paths.proofs.PreviousHops.{ahead, ends_there, same_by_addr}
use Rattle.settle_refreshes.proofs.Counting.{length_picked, one_passes, length_filter}
use Rattle.settle_openings.specs.Waves.{AreNested, AreWired, goes_from, is_back, payers, payers_of, senders_over}
use Rattle.settle_openings.proofs.WaveCounts.{by_columns, flat_flat, more_pass, none_pass, one_at_most}
use Rattle.settle_openings.proofs.WaveLanes.{StaysKept, then_left, why_changed}

abbrev pub pay : World → Item × Bool → List Sender
pay u z = payers u.net (locals_of u) z.0

-- ---- over links of two ends there is one copy of what is sent
module _ (net : Net) (valid : IsValid net) (wired : AreWired net) where
  link_there : (links : List (List ℕ)) (e : ℕ) → (link_of links e ≡ []) ⊎ In (link_of links e) links
  link_there [] e = inl refl
  link_there (l ∷ ls) e = by (among e l) (link_there ls e)
    where
      by : (b : Bool) → (link_of ls e ≡ []) ⊎ In (link_of ls e) ls → ((if b then l else link_of ls e) ≡ []) ⊎ In (if b then l else link_of ls e) (l ∷ ls)
      by true rest = inr (inl refl)
      by false rest = ⊎_elim (λ (none : link_of ls e ≡ []). inl none) (λ (i : In (link_of ls e) ls). inr (inr i)) rest

  one_peer : (a : ℕ) → length (peers net.links a) ≤ 1
  one_peer a =
      ⊎_elim
      (λ (none : link_of net.links a ≡ []). let z = ap (λ (es : List ℕ). length (filter (λ x. not (x == a)) es)) none in omega (arith, z))
      (λ (i : In (link_of net.links a) net.links).
      one_passes (λ x. not (x == a)) (link_of net.links a) (valid.rising (link_of net.links a) i)
      (λ b c j k p r. wired a b c (to_filter (λ x. not (x == a)) b (link_of net.links a) j p) (to_filter (λ x. not (x == a)) c (link_of net.links a) k r)))
      (link_there net.links a)

  few_or_all : (xs es : List ℕ) → length xs ≤ length es → length (or_all xs es) ≤ length es
  few_or_all [] es few = omega arith
  few_or_all (x ∷ xs) es few = few

  pub goes_one : (o : Option ℕ) (dst : Addr) → length (goes_to net o dst) ≤ 1
  goes_one None dst = omega arith
  goes_one (Some e) dst = by (is_group dst)
    where
      by : (b : Bool) → length (ends_toward net b dst (peers net.links e)) ≤ 1
      by true = one_peer e
      by false =
          let few = few_or_all (filter (λ x. is_addr (addr_of net x) dst) (peers net.links e)) (peers net.links e) (length_filter (λ x. is_addr (addr_of net x) dst) (peers net.links e)) in
          let all = one_peer e in
          omega (arith, few, all)

-- what is sent is paid for by what pays for its one copy
pub copy_paid : (u : World) → IsValid u.net → AreWired u.net → (n : ℕ) (s : Send) (most : ℕ)
    → ((e : ℕ) → In e (goes_to u.net (end_at u.net.ends n s.iface) s.dst) → length (payers_of u.net (locals_of u) e s.message) ≤ most)
    → length (flat_map (pay u) (copies_of u.net u.made n s)) ≤ most
copy_paid u valid wired n s most each_few = by (goes_to u.net (end_at u.net.ends n s.iface) s.dst) (goes_one u.net valid wired (end_at u.net.ends n s.iface) s.dst) each_few
  where
    by : (es : List ℕ) → length es ≤ 1 → ((e : ℕ) → In e es → length (payers_of u.net (locals_of u) e s.message) ≤ most) → length (flat_map (pay u) (each (copy_to u.made s) es)) ≤ most
    by [] few all = omega arith
    by (e ∷ []) few all =
        let one = all e (inl refl) in
        let long = length-append (payers_of u.net (locals_of u) e s.message) [] in
        omega (arith, one, long)
    by (e ∷ d ∷ es) few all = absurd (omega (arith, few))

-- ---- the Resv comes to the node of the end from over the hop
module _ (q : ℕ) (u : World) (bounds : AreBounds q u) (sound : ArePathsSound u) (wired : AreWired u.net) (nested : AreNested u.net)
    (end : ℕ) (m : ResvMsg) (f : Facts) (at : slice_get u.nodes (node_of u.net.ends end) ≡ Some f)
    (stays : StaysKept (config_of q u.net u.trees (node_of u.net.ends end)) u.clock (u.clock + 0) (iface_of u.net.ends end) m f)
    (over : LinkHop) (there : In over (hops_of u.net.hops m.session.group)) (from : over.from ≡ end) (to : addr_of u.net over.to ≡ m.hop.addr) where
  abbrev n : ℕ
  n = node_of u.net.ends end

  abbrev p : NodeConfig
  p = config_of q u.net u.trees n

  abbrev g : Facts
  g = then_left p u.clock (u.clock + 0) (iface_of u.net.ends end) m f

  valid : IsValid u.net
  valid = bounds.net

  -- ---- a hop that comes into the node by the lane's interface from its address
  abbrev enters : Lane → LinkHop → Bool
  enters l h = (node_of u.net.ends h.to == n) && ((iface_of u.net.ends h.to == l.hop.0) && is_addr (addr_of u.net h.from) l.hop.1)

  -- the lane is asked of something else than before, and the sender's tree comes by it
  abbrev pays : Lane → Sender → Bool
  pays l x = is_changed p p f g l && list_any (enters l) (tree u.net.hops m.session.group x.addr)

  record Comes (l : Lane) (x : Sender) : Type 0 where
    hop : LinkHop
    among : In hop (tree u.net.hops m.session.group x.addr)
    node : node_of u.net.ends hop.to ≡ n
    iface : iface_of u.net.ends hop.to ≡ l.hop.0
    addr : addr_of u.net hop.from ≡ l.hop.1

  comes_told : (l : Lane) (x : Sender) → list_any (enters l) (tree u.net.hops m.session.group x.addr) ≡ true → Comes l x
  comes_told l x e =
      let r = in_any (enters l) (tree u.net.hops m.session.group x.addr) e in
      let a = and_both (node_of u.net.ends r.0.to == n) ((iface_of u.net.ends r.0.to == l.hop.0) && is_addr (addr_of u.net r.0.from) l.hop.1) r.2 in
      let b = and_both (iface_of u.net.ends r.0.to == l.hop.0) (is_addr (addr_of u.net r.0.from) l.hop.1) a.1 in
      record { hop = r.0; among = r.1; node = same_number _ _ a.0; iface = same_number _ _ b.0; addr = addr_told (addr_of u.net r.0.from) l.hop.1 b.1 }

  -- ---- the hop that a lane goes back over is followed by the Resv's
  record IsLaneOf (l : Lane) : Type 0 where
    session : m.session ≡ l.session
    style : ask_style m.ask ≡ l.style
    way : LinkHop
    previous : IsPrevious u.net n l.session l.hop way
    follows : Follows u.net m.session.group way over

  lane_of_changed : (l : Lane) → is_changed p p f g l ≡ true → IsLaneOf l
  lane_of_changed l changed_is =
      let w = why_changed p u.clock (u.clock + 0) (iface_of u.net.ends end) m f stays l changed_is in
      let a = ahead u n f sound at l.session l.hop w.sender w.comes in
      let out = goes_out_told q u.net u.trees n l.session (iface_of u.net.ends end) w.sender w.leaves in
      let h = out_told u.net n out.0 l.session.group w.sender.addr out.1 in
      let inside = ends_there u.net valid m.session.group over there in
      let lt : out.0 < length u.net.ends = subst (λ (z : ℕ). z < length u.net.ends) h.2 (from_there u.net valid l.session.group w.sender.addr h.0 h.1) in
      let lt' : end < length u.net.ends = subst (λ (z : ℕ). z < length u.net.ends) from inside.0 in
      let same : out.0 ≡ end = same_end u.net out.0 end lt lt' h.3 out.2 in
      let peer : In h.0.to (peers u.net.links end) = subst (λ (z : ℕ). In h.0.to (peers u.net.links z)) (h.2 ∙ same) (hop_linked u.net valid l.session.group w.sender.addr h.0 h.1) in
      let back : In over.from (peers u.net.links over.to) = back_linked u.net valid m.session.group over there in
      let peer' : In over.to (peers u.net.links end) = subst (λ (z : ℕ). In over.to (peers u.net.links z)) from (peers_both u.net valid over.to over.from back) in
      let to_same : h.0.to ≡ over.to = wired end h.0.to over.to peer peer' in
      let is : h.0 ≡ over = (λ j. record { from = (h.2 ∙ same ∙ sym from) j; to = to_same j }) in
      let second : In over (tree u.net.hops m.session.group w.sender.addr) =
      subst (λ (z : Session × LinkHop). In z.1 (tree u.net.hops z.0.group w.sender.addr)) (λ j. (sym w.session j, is j)) h.1 in
      record {
        session = w.session;
        style = w.style;
        way = a.way;
        previous = a.previous;
        follows = record {
          source = w.sender.addr;
          first = subst (λ (z : Session). In a.way (tree u.net.hops z.group w.sender.addr)) (sym w.session) a.there;
          second = second;
          meet = ap (node_of u.net.ends) from ∙ sym a.previous.node;
        };
      }

  -- a sender that pays for the lane pays for the Resv
  pays_over : (l : Lane) (x : Sender) → pays l x ≡ true → goes_from u.net m.session end m.hop.addr x ≡ true
  pays_over l x e =
      let b = and_both (is_changed p p f g l) (list_any (enters l) (tree u.net.hops m.session.group x.addr)) e in
      let c = comes_told l x b.1 in
      let o = lane_of_changed l b.0 in
      let a = to_there u.net valid m.session.group x.addr c.hop c.among in
      let a' = from_there u.net valid m.session.group x.addr c.hop c.among in
      let w = ends_there u.net valid l.session.group o.way o.previous.there in
      let to_same : c.hop.to ≡ o.way.to = same_end u.net c.hop.to o.way.to a w.1 (c.node ∙ sym o.previous.node) (c.iface ∙ sym o.previous.iface) in
      let from_same : c.hop.from ≡ o.way.from = same_by_addr u.net valid c.hop.from o.way.from a' w.0 (c.addr ∙ sym o.previous.addr) in
      let is : c.hop ≡ o.way = (λ j. record { from = from_same j; to = to_same j }) in
      let over_it : In over (tree u.net.hops m.session.group x.addr) =
      nested m.session.group o.way over o.follows x.addr (subst (λ (z : LinkHop). In z (tree u.net.hops m.session.group x.addr)) is c.among) in
      any_in (is_back u.net end m.hop.addr) over (tree u.net.hops m.session.group x.addr) over_it
      (and_made (over.from == end) (is_addr (addr_of u.net over.to) m.hop.addr) (number_same over.from end from) (addr_tested (addr_of u.net over.to) m.hop.addr to))

  -- and for one lane at most
  one_lane : (x : Sender) (l k : Lane) → pays l x ≡ true → pays k x ≡ true → l ≡ k
  one_lane x l k e d =
      let a = and_both (is_changed p p f g l) (list_any (enters l) (tree u.net.hops m.session.group x.addr)) e in
      let b = and_both (is_changed p p f g k) (list_any (enters k) (tree u.net.hops m.session.group x.addr)) d in
      let c = comes_told l x a.1 in
      let c' = comes_told k x b.1 in
      let o = lane_of_changed l a.0 in
      let o' = lane_of_changed k b.0 in
      let hop : c.hop ≡ c'.hop = one u.net valid m.session.group x.addr c.hop c'.hop c.among c'.among (c.node ∙ sym c'.node) in
      (λ j. record {
        session = (sym o.session ∙ o'.session) j;
        style = (sym o.style ∙ o'.style) j;
        hop = ((sym c.iface ∙ ap (λ (z : LinkHop). iface_of u.net.ends z.to) hop ∙ c'.iface) j, (sym c.addr ∙ ap (λ (z : LinkHop). addr_of u.net z.from) hop ∙ c'.addr) j);
      })

  -- ---- the Resv of a lane is paid for by these
  resv_of : (l : Lane) (new : Bool) (asked : Option Asked) (o : Option Ask) (s : Send) → resv_send_of p g l new false asked o ≡ Some s
      → (new ≡ true) × (s.iface ≡ l.hop.0) × (s.dst ≡ l.hop.1) × ((a : Ask) × (s.message ≡ message.Resv (record { session = l.session; hop = hop_to p g l; period = period p; confirm = confirm_for p g l asked; ask = a })))
  resv_of l new asked None s e = absurd (cc)
  resv_of l true asked (Some a) s e =
      let is : resv_send p g l (confirm_for p g l asked) false a ≡ s = cc in
      (refl, ap (λ (z : Send). z.iface) (sym is), ap (λ (z : Send). z.dst) (sym is), (a, ap (λ (z : Send). z.message) (sym is)))
  resv_of l false asked (Some a) s e = absurd (cc)

  paid_lane : (asked : Option Asked) (l : Lane) (s : Send) → resv_send_to p p f g empty asked l ≡ Some s → length (flat_map (pay u) (copies_of u.net u.made n s)) ≤ length (filter (pays l) (live (locals_of u) m.session))
  paid_lane asked l s is =
      let r = resv_of l (is_changed p p f g l) asked (ask_of l.style (toward p g l)) s is in
      let o = lane_of_changed l r.0 in
      let w = ends_there u.net valid l.session.group o.way o.previous.there in
      let end_is : end_at u.net.ends n l.hop.0 ≡ Some o.way.to =
      (λ j. end_at u.net.ends (sym o.previous.node j) (sym o.previous.iface j)) ∙ (interfaces_are_ends u.net).end_of_iface o.way.to w.1 in
      copy_paid u valid wired n s (length (filter (pays l) (live (locals_of u) m.session)))
      (λ e i.
      let i' : In e (goes_to u.net (Some o.way.to) l.hop.1) = subst (λ (z : Option ℕ × Addr). In e (goes_to u.net z.0 z.1)) (λ j. ((ap (end_at u.net.ends n) r.1 ∙ end_is) j, r.2 j)) i in
      let peer : In e (peers u.net.links o.way.to) = goes_to_peers u.net (Some o.way.to) o.way.to l.hop.1 e refl i' in
      let peer' : In o.way.from (peers u.net.links o.way.to) = back_linked u.net valid l.session.group o.way o.previous.there in
      let e_is : e ≡ o.way.from = wired o.way.to e o.way.from peer peer' in
      let own_is : own p l.hop.0 ≡ addr_of u.net o.way.to = own_end q u.net u.trees n l.hop.0 o.way.to end_is in
      let few = more_pass (goes_from u.net l.session e (own p l.hop.0)) (pays l) (live (locals_of u) l.session)
      (λ x j h.
      let b = in_any (is_back u.net e (own p l.hop.0)) (tree u.net.hops l.session.group x.addr) h in
      let c = and_both (b.0.from == e) (is_addr (addr_of u.net b.0.to) (own p l.hop.0)) b.2 in
      let to_is : b.0.to ≡ o.way.to =
      same_by_addr u.net valid b.0.to o.way.to (to_there u.net valid l.session.group x.addr b.0 b.1) w.1 (addr_told (addr_of u.net b.0.to) (own p l.hop.0) c.1 ∙ own_is) in
      let from_is : b.0.from ≡ o.way.from = same_number b.0.from e c.0 ∙ e_is in
      let among : In b.0 (tree u.net.hops m.session.group x.addr) = subst (λ (z : Session). In b.0 (tree u.net.hops z.group x.addr)) (sym o.session) b.1 in
      and_made (is_changed p p f g l) (list_any (enters l) (tree u.net.hops m.session.group x.addr)) r.0
      (any_in (enters l) b.0 (tree u.net.hops m.session.group x.addr) among
      (and_made _ _ (number_same _ _ (ap (node_of u.net.ends) to_is ∙ o.previous.node))
      (and_made _ _ (number_same _ _ (ap (iface_of u.net.ends) to_is ∙ o.previous.iface)) (addr_tested (addr_of u.net b.0.from) l.hop.1 (ap (addr_of u.net) from_is ∙ o.previous.addr)))))) in
      let as_said : length (payers_of u.net (locals_of u) e s.message) ≡ length (filter (goes_from u.net l.session e (own p l.hop.0)) (live (locals_of u) l.session)) =
      ap (λ z. length (payers_of u.net (locals_of u) e z)) r.3.1 in
      let session : length (filter (pays l) (live (locals_of u) l.session)) ≡ length (filter (pays l) (live (locals_of u) m.session)) =
      ap (λ (z : Session). length (filter (pays l) (live (locals_of u) z))) (sym o.session) in
      omega (arith, few, as_said, session))

  -- ---- all of them
  pub resvs_are_paid : (asked : Option Asked)
      → length (flat_map (pay u) (all_copies u.net u.made n (resv_sends p p f g empty asked))) ≤ length (senders_over u.net (locals_of u) m.session end m.hop.addr)
  resvs_are_paid asked =
      let ks : List Lane = keys (lanes g) in
      let flat = ap length (flat_flat (copies_of u.net u.made n) (pay u) (resv_sends p p f g empty asked)) in
      let picked = length_picked (resv_send_to p p f g empty asked) (λ s. flat_map (pay u) (copies_of u.net u.made n s)) (λ l. length (filter (pays l) (live (locals_of u) m.session))) ks
      (λ l s i is. paid_lane asked l s is) in
      let once : NoRepeats ks = once_keys lane_keys (lanes g).rows (lanes g).sorted in
      let sum = by_columns pays (goes_from u.net m.session end m.hop.addr) ks (live (locals_of u) m.session)
      (λ x i t. one_at_most (λ l. pays l x) ks once (λ l k j j' e d. one_lane x l k e d))
      (λ x i t. none_pass (λ l. pays l x) ks (λ l j e. let bad : true ≡ false = sym (pays_over l x e) ∙ t in cc)) in
      omega (arith, flat, picked, sum)
