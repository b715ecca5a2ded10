-- Resvs, counted by sessions, styles and hops.
use Rattle.std.proofs.Common.{◌≡◌, ℕ, ◌+◌, ◌<◌, ◌≤◌, List, [], ◌∷◌, length, Bool, true, false, cond, Some, inl, inr, ⊎_elim, arith, sym, refl, ap, subst, ◌∙◌}
use Rattle.std.specs.Prelude.{◌==◌, ◌&&◌, ◌↔◌, ◌++◌, not, nat_lt, map as each, sum_by}
use Rattle.std.specs.List.{filter, flat_map, range_with_len}
use Rattle.std.proofs.lemmas.List.{length-map}
use Rattle.std.proofs.lemmas.List.Sums.{sum_by-cons}
use Rattle.rsvp_base.specs.Members.{In}
use Rattle.rsvp_base.specs.Orders.{Names, sessions, units}
use Rattle.rsvp_base.specs.Sets.{is_none}
use Rattle.rsvp_base.specs.Styles.{part_unit}
use Rattle.rsvp_base.specs.Table.{get, has, size}
use Rattle.rsvp_base.specs.declared.part.Part.{Part}
use Rattle.rsvp_base.specs.declared.session.Sender.{Sender}
use Rattle.rsvp_base.specs.declared.session.Session.{Session}
use Rattle.rsvp_base.specs.declared.style.StyleKind.{StyleKind}
use Rattle.rsvp_base.specs.declared.style.StyleKind.TheVariants.{Wild, Fixed, Shared}
use Rattle.rsvp_base.specs.declared.style.Unit.{Unit as UnitOf}
use Rattle.rsvp_base.proofs.Counts.{in_found, set_below}
use Rattle.rsvp_base.proofs.Filters.{filter_each}
use Rattle.rsvp_base.proofs.Members.{all_in, in_each, in_filter, in_flat_map, to_each, to_filter, to_flat_map}
use Rattle.rsvp_base.proofs.SetLaws.{and_both, and_made}
use Rattle.rsvp_base.proofs.Tables.{tied_same}
use Rattle.style_rules.specs.Parts.{has_name}
use Rattle.style_rules.proofs.Merges.{merge_named}
use Rattle.style_rules.proofs.StyleLaws.{a_name}
use Rattle.router_rules.specs.Known.{Lane, lane_keys}
use Rattle.tree_model.specs.Chains.{NoRepeats}
use Rattle.tree_model.specs.Goals.{addr_of, addr_of_end}
use Rattle.tree_model.specs.Networks.{Net, end_at, iface_of, node_of}
use Rattle.tree_model.specs.Ranks.{followers, has_hop}
use Rattle.tree_model.specs.Trees.{goes_into, tree}
use Rattle.tree_model.specs.Valid.{IsValid}
use Rattle.tree_model.specs.Wants.{Locals, brought, live, of_session, own, want}
use Rattle.tree_model.specs.declared.hops.End.{End}
use Rattle.tree_model.specs.declared.hops.LinkHop.{LinkHop}
use Rattle.tree_model.specs.declared.locals.LocalSender.{LocalSender}
use Rattle.tree_model.proofs.Following.{has_hop_in, number_same, same_number, tree_group}
use Rattle.tree_model.proofs.Ifaces.{interfaces_are_ends}
use Rattle.tree_model.proofs.WantLaws.{name_told, want_equation}
use Rattle.tree_routing.specs.Order.{AreByRank}
use Rattle.tree_routing.specs.declared.group_hop.GroupHop.{GroupHop}
use Rattle.network_demand.specs.Steps.{hop_wants, hops_in}
use Rattle.network_demand.specs.declared.hop_want.HopWant.{HopWant}
use Rattle.network_demand.proofs.GoalLaws.{from_hops, to_hops}
use Rattle.network_demand.proofs.Inside.{end_there, ends_inside, nodes_inside}
use Rattle.network_demand.proofs.LimitLaws.{length_flat, once_each, once_filter, once_flat, size_once}
use Rattle.network_demand.proofs.WantSteps.{value_names}
use Rattle.network_demand.specs.Counts.{asked_in, is_something, resvs_of}
use Rattle.network_demand.specs.Overhead.{asked_lanes, is_wanted, lane_back, lanes_back, lanes_of_sender}
use Rattle.network_demand.proofs.Bounds.{once_hops}
use Rattle.network_demand.proofs.CountSums.{length_sum, sum_alike, sum_parted, sum_swap}

-- ---- a hop over which something is wanted is one of a sender's tree
not_true : (b : Bool) → not b ≡ true → b ≡ false
not_true true e = cc
not_true false e = refl

first_row : {X : Type 0} (rows : List X) → nat_lt 0 (length rows) ≡ true → (e : X) × In e rows
first_row [] t = cc
first_row (e ∷ es) t = (e, inl refl)

pub record IsOfATree (net : Net) (l : Locals) (s : Session) (h : LinkHop) : Type 0 where
  pub sender : LocalSender
  pub there : In sender l.senders
  pub session : s ≡ sender.session
  pub over : In h (tree net.hops s.group sender.sender.addr)

pub wanted_of_a_tree : (net : Net) (l : Locals) → IsValid net → (st : StyleKind) (s : Session) (h : LinkHop) → is_wanted net l s h st ≡ true → IsOfATree net l s h
wanted_of_a_tree net l valid st s h t =
    let e = first_row (want st net l s h).rows t in
    let got : get (want st net l s h) e.0.0 ≡ Some e.0.1 = in_found units (want st net l s h) e.0.0 e.0.1 e.1 in
    let named : has_name e.0.1 ≡ true =
    merge_named units (part_unit st) (λ p. p) (own st net l s h ++ flat_map (brought st net l s h (want st net l s)) (followers net s.group h)) e.0.0 e.0.1
    (ap (λ t. get t e.0.0) (sym ((want_equation st net l s valid.loop_free).equation h)) ∙ got) in
    let z = a_name e.0.1.senders (not_true (is_none e.0.1.senders) named) in
    let a = name_told st net l s (h ∷ []) z.0 (value_names st net l s h e.0.1 (to_each (λ (e : UnitOf × Part). e.1) e.0 (want st net l s h).rows e.1) z.0 z.1) in
    let x = in_each (λ (x : LocalSender). x.sender) a.0 (filter (of_session s) l.senders) a.1 in
    let f = in_filter (of_session s) x.0 l.senders x.1 in
    record {
      sender = x.0;
      there = f.0;
      session = tied_same sessions s x.0.session f.1;
      over = subst (λ (y : Sender). In h (tree net.hops s.group y.addr)) x.2
          (has_hop_in (tree net.hops s.group a.0.addr) h (all_in (has_hop (tree net.hops s.group a.0.addr)) (h ∷ []) a.2 h (inl refl)));
    }

-- an end is known by its node and its interface, and by its address
end_by_iface : (net : Net) (d e : ℕ) → d < length net.ends → e < length net.ends → node_of net.ends d ≡ node_of net.ends e → iface_of net.ends d ≡ iface_of net.ends e → d ≡ e
end_by_iface net d e a b node iface =
    let x = (interfaces_are_ends net).end_of_iface d a in
    let y = (interfaces_are_ends net).end_of_iface e b in
    let z : Some d ≡ Some e = sym x ∙ ap (λ (k : ℕ). end_at net.ends k (iface_of net.ends d)) node ∙ ap (λ (k : ℕ). end_at net.ends (node_of net.ends e) k) iface ∙ y in
    cc

end_by_addr : (net : Net) → IsValid net → (d e : ℕ) → d < length net.ends → e < length net.ends → addr_of net d ≡ addr_of net e → d ≡ e
end_by_addr net valid d e a b same =
    let x = end_there net.ends d a in
    let y = end_there net.ends e b in
    valid.one_address d e x.0 y.0 x.2 y.2 (sym (ap addr_of_end x.2) ∙ same ∙ ap addr_of_end y.2)

abbrev three : List StyleKind
three = Wild ∷ Fixed ∷ Shared ∷ []

in_three : (st : StyleKind) → In st three
in_three Wild = inl refl
in_three Fixed = inr (inl refl)
in_three Shared = inr (inr (inl refl))

once_three : NoRepeats three
once_three = (
  λ i. ⊎_elim (λ (e : Wild ≡ Fixed). (let z : ⊥ = cc in z)) (λ (j : In Wild (Shared ∷ [])). ⊎_elim (λ (e : Wild ≡ Shared). (let z : ⊥ = cc in z)) (λ (k : ⊥). k) j) i,
  (λ i. ⊎_elim (λ (e : Fixed ≡ Shared). (let z : ⊥ = cc in z)) (λ (k : ⊥). k) i, (λ i. i, tt)),
)

and_cond : (a b : Bool) → ◌≡◌ {A = ℕ} (cond (a && b) 1 0) (cond a (cond b 1 0) 0)
and_cond true b = refl
and_cond false b = refl

module _ (net : Net) (l : Locals) (order : List GroupHop) (valid : IsValid net) (by : AreByRank net order) (ss : List Session) (once : NoRepeats ss)
    (these : (s : Session) → In s ss ↔ In s (each (λ (x : LocalSender). x.session) l.senders)) where
  -- ---- the lanes at a node
  abbrev is_hop_at : ℕ → Session → StyleKind → LinkHop → Bool
  is_hop_at n s st h = goes_into net.ends n h && is_wanted net l s h st

  abbrev hops_at : ℕ → Session → StyleKind → List LinkHop
  hops_at n s st = filter (is_hop_at n s st) (hops_in s.group order)

  abbrev lanes_in : ℕ → Session → StyleKind → List Lane
  lanes_in n s st = each (λ h. lane_back net s h st) (hops_at n s st)

  abbrev lanes_of : ℕ → Session → List Lane
  lanes_of n s = flat_map (lanes_in n s) three

  abbrev lanes_at : ℕ → List Lane
  lanes_at n = flat_map (lanes_of n) ss

  -- ---- each once
  hop_told : (n : ℕ) (s : Session) (st : StyleKind) (h : LinkHop) → In h (hops_at n s st) → In h (hops_in s.group order) × (node_of net.ends h.to ≡ n) × (is_wanted net l s h st ≡ true)
  hop_told n s st h i =
      let f = in_filter (is_hop_at n s st) h (hops_in s.group order) i in
      let both = and_both (goes_into net.ends n h) (is_wanted net l s h st) f.1 in
      (f.0, same_number (node_of net.ends h.to) n both.0, both.1)

  one_hop : (n : ℕ) (s : Session) (st : StyleKind) (h k : LinkHop) → In h (hops_at n s st) → In k (hops_at n s st) → lane_back net s h st ≡ lane_back net s k st → h ≡ k
  one_hop n s st h k i j e =
      let a = hop_told n s st h i in
      let b = hop_told n s st k j in
      let x = ends_inside net valid s.group h (from_hops net l order by s.group h a.0) in
      let y = ends_inside net valid s.group k (from_hops net l order by s.group k b.0) in
      let to : h.to ≡ k.to = end_by_iface net h.to k.to x.1 y.1 (a.1 ∙ sym b.1) (ap (λ (z : Lane). z.hop.0) e) in
      let from : h.from ≡ k.from = end_by_addr net valid h.from k.from x.0 y.0 (ap (λ (z : Lane). z.hop.1) e) in
      λ z. record { from = from z; to = to z }

  lane_told : (n : ℕ) (s : Session) (st : StyleKind) (z : Lane) → In z (lanes_in n s st) → (h : LinkHop) × In h (hops_at n s st) × (z ≡ lane_back net s h st)
  lane_told n s st z i = in_each (λ h. lane_back net s h st) z (hops_at n s st) i

  session_in : (n : ℕ) (s : Session) (z : Lane) → In z (lanes_of n s) → z.session ≡ s
  session_in n s z i = let st = in_flat_map (lanes_in n s) z three i in let h = lane_told n s st.0 z st.2 in ap (λ (q : Lane). q.session) h.2

  style_in : (n : ℕ) (s : Session) (st : StyleKind) (z : Lane) → In z (lanes_in n s st) → z.style ≡ st
  style_in n s st z i = let h = lane_told n s st z i in ap (λ (q : Lane). q.style) h.2

  once_lanes : (n : ℕ) → NoRepeats (lanes_at n)
  once_lanes n =
      once_flat (lanes_of n) ss once
      (λ s i.
      once_flat (lanes_in n s) three once_three
      (λ st j.
      once_each (λ h. lane_back net s h st) (hops_at n s st) (once_filter (is_hop_at n s st) (hops_in s.group order) (once_hops net order by s.group))
      (λ h k a b e. one_hop n s st h k a b e))
      (λ d e z i j a b. sym (style_in n s d z a) ∙ style_in n s e z b))
      (λ s t z i j a b. sym (session_in n s z a) ∙ session_in n t z b)

  -- ---- they are those that are asked
  forth : (n : ℕ) (z : Lane) → In z (flat_map (lanes_of_sender net l n) l.senders) → In z (lanes_at n)
  forth n z i =
      let x = in_flat_map (lanes_of_sender net l n) z l.senders i in
      let s = x.0.session in
      let h = in_flat_map (lanes_back net l s) z (filter (goes_into net.ends n) (tree net.hops s.group x.0.sender.addr)) x.2 in
      let f = in_filter (goes_into net.ends n) h.0 (tree net.hops s.group x.0.sender.addr) h.1 in
      let st = in_each (lane_back net s h.0) z (filter (is_wanted net l s h.0) three) h.2 in
      let w = in_filter (is_wanted net l s h.0) st.0 three st.1 in
      to_flat_map (lanes_of n) s z ss ((these s).1 (to_each (λ (x : LocalSender). x.session) x.0 l.senders x.1))
      (to_flat_map (lanes_in n s) st.0 z three w.0
      (subst (λ (q : Lane). In q (lanes_in n s st.0)) (sym st.2)
      (to_each (λ h. lane_back net s h st.0) h.0 (hops_at n s st.0)
      (to_filter (is_hop_at n s st.0) h.0 (hops_in s.group order) (to_hops net l order by s.group h.0 (tree_group net.hops s.group x.0.sender.addr h.0 f.0))
      (and_made (goes_into net.ends n h.0) (is_wanted net l s h.0 st.0) f.1 w.1)))))

  back : (n : ℕ) (z : Lane) → In z (lanes_at n) → In z (flat_map (lanes_of_sender net l n) l.senders)
  back n z i =
      let s = in_flat_map (lanes_of n) z ss i in
      let st = in_flat_map (lanes_in n s.0) z three s.2 in
      let h = lane_told n s.0 st.0 z st.2 in
      let t = hop_told n s.0 st.0 h.0 h.1 in
      let x = wanted_of_a_tree net l valid st.0 s.0 h.0 t.2 in
      let of_it : In z (flat_map (lanes_back net l s.0) (filter (goes_into net.ends n) (tree net.hops s.0.group x.sender.sender.addr))) =
      to_flat_map (lanes_back net l s.0) h.0 z (filter (goes_into net.ends n) (tree net.hops s.0.group x.sender.sender.addr))
      (to_filter (goes_into net.ends n) h.0 (tree net.hops s.0.group x.sender.sender.addr) x.over (number_same (node_of net.ends h.0.to) n t.1))
      (subst (λ (q : Lane). In q (lanes_back net l s.0 h.0)) (sym h.2)
      (to_each (lane_back net s.0 h.0) st.0 (filter (is_wanted net l s.0 h.0) three) (to_filter (is_wanted net l s.0 h.0) st.0 three (in_three st.0) t.2))) in
      to_flat_map (lanes_of_sender net l n) x.sender z l.senders x.there
      (subst (λ (q : Session). In z (flat_map (lanes_back net l q) (filter (goes_into net.ends n) (tree net.hops q.group x.sender.sender.addr)))) x.session of_it)

  lanes_size : (n : ℕ) → size (asked_lanes net l n) ≡ length (lanes_at n)
  lanes_size n =
      let a = set_below lane_keys (flat_map (lanes_of_sender net l n) l.senders) (lanes_at n) (forth n) in
      let b = set_below lane_keys (lanes_at n) (flat_map (lanes_of_sender net l n) l.senders) (back n) in
      let c = size_once lane_keys (lanes_at n) (once_lanes n) in
      omega (arith, a, b, c)

  -- ---- counted
  abbrev counts : Session → StyleKind → LinkHop → ℕ
  counts s st h = cond (is_wanted net l s h st) 1 0

  abbrev counts_at : ℕ → Session → StyleKind → ℕ
  counts_at n s st = sum_by (λ h. cond (node_of net.ends h.to == n) (counts s st h) 0) (hops_in s.group order)

  lanes_count : (n : ℕ) → size (asked_lanes net l n) ≡ sum_by (λ s. sum_by (counts_at n s) three) ss
  lanes_count n =
      lanes_size n ∙ length_flat (lanes_of n) ss
      ∙ sum_alike (λ s. length (lanes_of n s)) (λ s. sum_by (counts_at n s) three) ss
      (λ s i. length_flat (lanes_in n s) three
      ∙ sum_alike (λ st. length (lanes_in n s st)) (counts_at n s) three
      (λ st j. length-map (hops_at n s st) (λ h. lane_back net s h st) ∙ length_sum (is_hop_at n s st) (hops_in s.group order)
      ∙ sum_alike (λ h. cond (is_hop_at n s st h) 1 0) (λ h. cond (node_of net.ends h.to == n) (counts s st h) 0) (hops_in s.group order)
      (λ h k. and_cond (goes_into net.ends n h) (is_wanted net l s h st))))

  abbrev with_want : StyleKind → Session → LinkHop → HopWant
  with_want st s h = record { hop = h; parts = want st net l s h }

  asked_count : (st : StyleKind) (s : Session) → sum_by (λ n. counts_at n s st) (range_with_len 0 net.nodes) ≡ asked_in st net l order s
  asked_count st s =
      sum_parted (λ (h : LinkHop). node_of net.ends h.to) (counts s st) net.nodes (hops_in s.group order)
      (λ h i. (nodes_inside net valid s.group h (from_hops net l order by s.group h i)).1)
      ∙ sym (length_sum (λ h. is_wanted net l s h st) (hops_in s.group order))
      ∙ sym (ap length (filter_each is_something (with_want st s) (hops_in s.group order)) ∙ length-map (filter (λ h. is_wanted net l s h st) (hops_in s.group order)) (with_want st s))

  session_count : (s : Session) → sum_by (λ n. sum_by (counts_at n s) three) (range_with_len 0 net.nodes) ≡ resvs_of net l order s
  session_count s =
      sum_swap (λ n st. counts_at n s st) (range_with_len 0 net.nodes) three
      ∙ sum_alike (λ st. sum_by (λ n. counts_at n s st) (range_with_len 0 net.nodes)) (λ st. asked_in st net l order s) three (λ st i. asked_count st s)
      ∙ (let a = sum_by-cons (λ st. asked_in st net l order s) Wild (Fixed ∷ Shared ∷ []) in
      let b = sum_by-cons (λ st. asked_in st net l order s) Fixed (Shared ∷ []) in
      let c = sum_by-cons (λ st. asked_in st net l order s) Shared [] in
      omega (arith, a, b, c))

  pub resvs_are : sum_by (λ n. size (asked_lanes net l n)) (range_with_len 0 net.nodes) ≡ sum_by (resvs_of net l order) ss
  resvs_are =
      sum_alike (λ n. size (asked_lanes net l n)) (λ n. sum_by (λ s. sum_by (counts_at n s) three) ss) (range_with_len 0 net.nodes) (λ n i. lanes_count n)
      ∙ sum_swap (λ n s. sum_by (counts_at n s) three) (range_with_len 0 net.nodes) ss
      ∙ sum_alike (λ s. sum_by (λ n. sum_by (counts_at n s) three) (range_with_len 0 net.nodes)) (resvs_of net l order) ss (λ s i. session_count s)
