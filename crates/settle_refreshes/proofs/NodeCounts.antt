-- How many datagrams a node's refreshes come to: no more than the trees, the senders and the wants say.
use Rattle.std.proofs.Common.{◌≡◌, ℕ, suc, ◌<◌, ◌≤◌, List, [], ◌∷◌, ◌++◌, length, Bool, true, false, cond, Option, None, Some, inl, inr, ⊎_elim, arith, sym, refl, ap, subst, ◌∙◌}
use Rattle.std.specs.Prelude.{map as each, nat_lt, not, sum_by, ◌==◌, if◌then◌else◌, ◌⊎◌}
use Rattle.std.specs.List.{filter, flat_map}
use Rattle.std.specs.FinMap.Entries.{find}
use Rattle.std.proofs.lemmas.Bool.{lt-ltb}
use Rattle.std.proofs.lemmas.Grind.{flat_map-append}
use Rattle.std.proofs.lemmas.List.{length-append, length-map}
use Rattle.rsvp_base.specs.declared.addr.Addr.{Addr}
use Rattle.rsvp_base.specs.declared.part.Part.{Part}
use Rattle.rsvp_base.specs.declared.session.Sender.{Sender}
use Rattle.rsvp_base.specs.declared.session.Session.{Session}
use Rattle.rsvp_base.specs.declared.style.StyleKind.{StyleKind}
use Rattle.rsvp_base.specs.declared.style.StyleKind.TheVariants.{Wild, Fixed, Shared}
use Rattle.rsvp_base.specs.declared.style.Unit.{Unit as UnitOf}
use Rattle.rsvp_base.specs.Members.{In}
use Rattle.rsvp_base.specs.Orders.{units}
use Rattle.rsvp_base.specs.Table.{empty, get, has, size}
use Rattle.rsvp_base.proofs.Counts.{in_set_of}
use Rattle.rsvp_base.proofs.Fronts.{got_in}
use Rattle.rsvp_base.proofs.Members.{any_in, in_filter, to_each, to_filter, to_flat_map}
use Rattle.rsvp_base.proofs.Tables.{same_table}
use Rattle.rsvp_messages.specs.declared.ask.Ask.{Ask}
use Rattle.style_rules.specs.Merge.{PartTable}
use Rattle.router_rules.specs.Asking.{ask_of}
use Rattle.router_rules.specs.Facts.{Facts}
use Rattle.router_rules.specs.Inputs.{Input, Send}
use Rattle.router_rules.specs.Known.{Lane, lane_keys, lanes}
use Rattle.router_rules.specs.NodeConfig.{NodeConfig, is_addr}
use Rattle.router_rules.specs.Offers.{Offer, OfferKey, offer_keys, offers}
use Rattle.router_rules.specs.Requests.{toward}
use Rattle.router_rules.specs.Steps.{sent_then}
use Rattle.laws_bounds.proofs.Stepping.{offered}
use Rattle.laws_bounds.proofs.Tests.{addr_told, addr_tested}
use Rattle.tree_model.specs.declared.hops.End.{End}
use Rattle.tree_model.specs.declared.hops.LinkHop.{LinkHop}
use Rattle.tree_model.specs.declared.locals.LocalSender.{LocalSender}
use Rattle.tree_model.specs.Goals.{addr_of, addr_of_end}
use Rattle.tree_model.specs.Networks.{Net, among, end_at, ends_of, iface_of, link_of, node_of, peers}
use Rattle.tree_model.specs.Trees.{goes_into, tree}
use Rattle.tree_model.specs.Valid.{IsValid}
use Rattle.tree_model.specs.Wants.{Locals, want}
use Rattle.tree_model.proofs.Following.{number_same}
use Rattle.tree_model.proofs.Ifaces.{interfaces_are_ends}
use Rattle.tree_model.proofs.Links.{back_linked}
use Rattle.tree_model.proofs.TreeLaws.{out_told}
use Rattle.network_model.specs.Links.{NoEndIsAGroup, all_copies, copies_of, copy_to, ends_toward, goes_to, is_group, or_all}
use Rattle.network_model.specs.Worlds.{config_of}
use Rattle.settle_paths.specs.PreviousHops.{IsPrevious}
use Rattle.settle_paths.proofs.PreviousHops.{ends_there, same_by_addr}
use Rattle.settle_paths.proofs.Standing.{from_there, goes_out_told, place_in, some_at}
use Rattle.network_demand.specs.Overhead.{asked_lanes, is_wanted, lane_back, lanes_back, lanes_of_sender, leaves_by, node_overhead, path_overhead}
use Rattle.settle_refreshes.proofs.Counting.{length_filter, length_keys, length_ones, length_picked, one_passes, sum_at_most, sum_each, sum_flat, sum_keys}
use Rattle.settle_refreshes.proofs.QuietSends.{IsUnchanged, after, path_iface, path_of, path_refreshes, resv_of, resv_refreshed, resv_refreshes, resv_sent, sends_are}

-- ---- what is sent out of an end goes to each other end of its link at most
abbrev width : Net → Option ℕ → ℕ
width net None = 0
width net (Some e) = length (peers net.links e)

few_or_all : (xs es : List ℕ) → length xs ≤ length es → length (or_all xs es) ≤ length es
few_or_all [] es few = omega arith
few_or_all (x ∷ xs) es few = few

goes_few : (net : Net) (o : Option ℕ) (dst : Addr) → length (goes_to net o dst) ≤ width net o
goes_few net None dst = omega arith
goes_few net (Some e) dst = by (is_group dst)
  where
    by : (b : Bool) → length (ends_toward net b dst (peers net.links e)) ≤ length (peers net.links e)
    by true = omega arith
    by false = few_or_all (filter (λ x. is_addr (addr_of net x) dst) (peers net.links e)) (peers net.links e) (length_filter (λ x. is_addr (addr_of net x) dst) (peers net.links e))

copies_few : (net : Net) (born n : ℕ) (s : Send) → length (copies_of net born n s) ≤ length (goes_to net (end_at net.ends n s.iface) s.dst)
copies_few net born n s = let same = length-map (goes_to net (end_at net.ends n s.iface) s.dst) (copy_to born s) in omega arith

-- ---- the link of an end is one of the links
link_there : (links : List (List ℕ)) (e : ℕ) → (link_of links e ≡ []) ⊎ In (link_of links e) links
link_there [] e = inl refl
link_there (l ∷ ls) e = by (among e l) (link_there ls e)
  where
    by : (b : Bool) → (link_of ls e ≡ []) ⊎ In (link_of ls e) ls → ((if b then l else link_of ls e) ≡ []) ⊎ In (if b then l else link_of ls e) (l ∷ ls)
    by true rest = inr (inl refl)
    by false rest = ⊎_elim (λ (none : link_of ls e ≡ []). inl none) (λ (i : In (link_of ls e) ls). inr (inr i)) rest

filter_twice : {A : Type 0} (t r : A → Bool) (xs : List A) → length (filter t (filter r xs)) ≤ length (filter t xs)
filter_twice t r [] = omega arith
filter_twice {A} t r (x ∷ xs) = by (r x) (t x) refl (filter_twice t r xs)
  where
    by : (b d : Bool) → t x ≡ d → length (filter t (filter r xs)) ≤ length (filter t xs) → length (filter t (cond b (x ∷ filter r xs) (filter r xs))) ≤ length (cond d (x ∷ filter t xs) (filter t xs))
    by true true is rest =
        let here : length (filter t (x ∷ filter r xs)) ≡ suc (length (filter t (filter r xs))) =
        ap (λ (z : Bool). length (cond z (x ∷ filter t (filter r xs)) (filter t (filter r xs)))) is in omega (arith, here, rest)
    by true false is rest =
        let here : length (filter t (x ∷ filter r xs)) ≡ length (filter t (filter r xs)) =
        ap (λ (z : Bool). length (cond z (x ∷ filter t (filter r xs)) (filter t (filter r xs)))) is in omega (arith, here, rest)
    by false true is rest = omega (arith, rest)
    by false false is rest = rest

-- ---- what is sent back over a hop goes to the end before it alone
module _ (net : Net) (valid : IsValid net) (hosts : NoEndIsAGroup net) where
  one_by_addr : (e : ℕ) (dst : Addr) → length (filter (λ x. is_addr (addr_of net x) dst) (peers net.links e)) ≤ 1
  one_by_addr e dst =
      let less = filter_twice (λ x. is_addr (addr_of net x) dst) (λ x. not (x == e)) (link_of net.links e) in
      ⊎_elim
      (λ (none : link_of net.links e ≡ []).
      let nothing : length (filter (λ x. is_addr (addr_of net x) dst) (link_of net.links e)) ≡ 0 = ap (λ (z : List ℕ). length (filter (λ x. is_addr (addr_of net x) dst) z)) none in
      omega (arith, less, nothing))
      (λ (i : In (link_of net.links e) net.links).
      let one = one_passes (λ x. is_addr (addr_of net x) dst) (link_of net.links e) (valid.rising (link_of net.links e) i)
      (λ a b j k p r.
      same_by_addr net valid a b (valid.ends_of_links (link_of net.links e) a i j) (valid.ends_of_links (link_of net.links e) b i k)
      (addr_told (addr_of net a) dst p ∙ sym (addr_told (addr_of net b) dst r))) in
      omega (arith, less, one))
      (link_there net.links e)

  or_all_one : (xs es : List ℕ) (e : ℕ) → In e xs → length xs ≤ 1 → length (or_all xs es) ≤ 1
  or_all_one [] es e i few = absurd i
  or_all_one (x ∷ xs) es e i few = few

  host_addr : (e : ℕ) → e < length net.ends → is_group (addr_of net e) ≡ false
  host_addr e lt = let x = some_at net.ends e lt in ap (λ (z : Option End). is_group (addr_of_end z)) x.1 ∙ hosts e x.0 x.1

  goes_back : (n : ℕ) (l : Lane) (h : LinkHop) → IsPrevious net n l.session l.hop h → length (goes_to net (end_at net.ends n l.hop.0) l.hop.1) ≤ 1
  goes_back n l h is =
      let inside = ends_there net valid l.session.group h is.there in
      let end : end_at net.ends n l.hop.0 ≡ Some h.to =
      (λ j. end_at net.ends (sym is.node j) (sym is.iface j)) ∙ (interfaces_are_ends net).end_of_iface h.to inside.1 in
      let alone : is_group l.hop.1 ≡ false = ap is_group (sym is.addr) ∙ host_addr h.from inside.0 in
      let back : In h.from (peers net.links h.to) = back_linked net valid l.session.group h is.there in
      let one : length (or_all (filter (λ x. is_addr (addr_of net x) l.hop.1) (peers net.links h.to)) (peers net.links h.to)) ≤ 1 =
      or_all_one (filter (λ x. is_addr (addr_of net x) l.hop.1) (peers net.links h.to)) (peers net.links h.to) h.from
      (to_filter (λ x. is_addr (addr_of net x) l.hop.1) h.from (peers net.links h.to) back (addr_tested (addr_of net h.from) l.hop.1 is.addr)) (one_by_addr h.to l.hop.1) in
      let is_it : goes_to net (end_at net.ends n l.hop.0) l.hop.1 ≡ or_all (filter (λ x. is_addr (addr_of net x) l.hop.1) (peers net.links h.to)) (peers net.links h.to) =
      ap (λ (o : Option ℕ). goes_to net o l.hop.1) end ∙ ap (λ (b : Bool). ends_toward net b l.hop.1 (peers net.links h.to)) alone in
      subst (λ (z : List ℕ). length z ≤ 1) (sym is_it) one

-- ---- what asks for something has a part
asks_some : (st : StyleKind) (ps : PartTable) (a : Ask) → ask_of st ps ≡ Some a → nat_lt 0 (size ps) ≡ true
asks_some st ps a e = by ps.rows refl
  where
    none : (s : StyleKind) → ask_of s empty ≡ None
    none Wild = refl
    none Fixed = refl
    none Shared = refl

    by : (rows : List (UnitOf × Part)) → ps.rows ≡ rows → nat_lt 0 (length ps.rows) ≡ true
    by [] is =
        let nothing : ps ≡ empty = same_table units ps empty (λ u. ap (find units.cmp u) is) in
        let bad : None ≡ Some a = sym (none st) ∙ ap (ask_of st) (sym nothing) ∙ e in
        absurd (cc)
    by (x ∷ xs) is = ap (λ (z : List (UnitOf × Part)). nat_lt 0 (length z)) is ∙ lt-ltb 0 (length (x ∷ xs)) (omega arith)

-- ---- a node
-- a lane goes back over a hop of the tree of a sender, and what goes toward it is what is wanted over the hop
pub record IsLaneBack (net : Net) (l : Locals) (n : ℕ) (toward_it : PartTable) (lane : Lane) : Type 0 where
  pub hop : LinkHop
  pub previous : IsPrevious net n lane.session lane.hop hop
  pub sender : LocalSender
  pub there : In sender l.senders
  pub session : sender.session ≡ lane.session
  pub over : In hop (tree net.hops sender.session.group sender.sender.addr)
  pub wanted : toward_it ≡ want lane.style net l lane.session hop

-- an offer is that of a sender
pub record IsOfSender (l : Locals) (k : OfferKey) : Type 0 where
  pub sender : LocalSender
  pub there : In sender l.senders
  pub session : sender.session ≡ k.session
  pub name : sender.sender ≡ k.sender

module _ (q : ℕ) (net : Net) (trees : List (Addr × Addr)) (n : ℕ) (c : ℕ) (i : Input) (f : Facts) (valid : IsValid net) (hosts : NoEndIsAGroup net) (l : Locals) (born : ℕ) where
  abbrev place : NodeConfig
  place = config_of q net trees n

  abbrev then_facts : Facts
  then_facts = after place c i f

  module _ (same : IsUnchanged place c i f) (live : (k : OfferKey) (o : Offer) → get (offers place then_facts) k ≡ Some o → IsOfSender l k)
      (back : (lane : Lane) → has (lanes then_facts) lane ≡ true → IsLaneBack net l n (toward place then_facts lane) lane) where
    -- ---- Paths
    abbrev weight : OfferKey → ℕ
    weight k = width net (end_at net.ends n k.iface)

    abbrev way_of : LocalSender → ℕ → OfferKey
    way_of x e = record { session = x.session; sender = x.sender; iface = iface_of net.ends e }

    abbrev ways : LocalSender → List OfferKey
    ways x = each (way_of x) (filter (leaves_by net x) (ends_of net.ends n))

    offered_way : (k : OfferKey) (o : Offer) → get (offers place then_facts) k ≡ Some o → In k (flat_map ways l.senders)
    offered_way k o at =
        let x = live k o at in
        let out = goes_out_told q net trees n k.session k.iface k.sender (offered place then_facts k o at).out in
        let h = out_told net n out.0 k.session.group k.sender.addr out.1 in
        let lt : out.0 < length net.ends = subst (λ (z : ℕ). z < length net.ends) h.2 (from_there net valid k.session.group k.sender.addr h.0 h.1) in
        let end : In out.0 (ends_of net.ends n) =
        got_in (ends_of net.ends n) (iface_of net.ends out.0) out.0 (ap (λ (z : ℕ). end_at net.ends z (iface_of net.ends out.0)) (sym h.3) ∙ (interfaces_are_ends net).end_of_iface out.0 lt) in
        let over : In h.0 (tree net.hops x.sender.session.group x.sender.sender.addr) =
        subst (λ (z : Session × Sender). In h.0 (tree net.hops z.0.group z.1.addr)) (λ j. (sym x.session j, sym x.name j)) h.1 in
        let leaves : leaves_by net x.sender out.0 ≡ true =
        any_in (λ (z : LinkHop). z.from == out.0) h.0 (tree net.hops x.sender.session.group x.sender.sender.addr) over (number_same h.0.from out.0 h.2) in
        let is : way_of x.sender out.0 ≡ k = (λ j. record { session = x.session j; sender = x.name j; iface = out.2 j }) in
        to_flat_map ways x.sender k l.senders x.there
        (subst (λ (z : OfferKey). In z (ways x.sender)) is
        (to_each (way_of x.sender) out.0 (filter (leaves_by net x.sender) (ends_of net.ends n)) (to_filter (leaves_by net x.sender) out.0 (ends_of net.ends n) end leaves)))

    weight_is : (e : ℕ) → In e (ends_of net.ends n) → width net (end_at net.ends n (iface_of net.ends e)) ≡ length (peers net.links e)
    weight_is e j =
        let k = place_in e (ends_of net.ends n) j in
        let of = (interfaces_are_ends net).iface_of_end n k.0 e k.1 in
        let end : end_at net.ends n (iface_of net.ends e) ≡ Some e = ap (λ (z : ℕ). end_at net.ends z (iface_of net.ends e)) (sym of.1) ∙ (interfaces_are_ends net).end_of_iface e of.0 in
        ap (width net) end

    ways_weigh : (x : LocalSender) → sum_by weight (ways x) ≤ path_overhead net n x
    ways_weigh x =
        let flat = sum_each weight (way_of x) (filter (leaves_by net x) (ends_of net.ends n)) in
        let most = sum_at_most (λ e. weight (way_of x e)) (λ e. length (peers net.links e)) (filter (leaves_by net x) (ends_of net.ends n))
        (λ e j. let is = weight_is e (in_filter (leaves_by net x) e (ends_of net.ends n) j).0 in omega (arith, is)) in
        omega (arith, flat, most)

    few_paths : length (all_copies net born n (path_refreshes place c i f same)) ≤ sum_by (path_overhead net n) l.senders
    few_paths =
        let picked = length_picked (path_of place c i f same) (copies_of net born n) (λ (e : OfferKey × Offer). weight e.0) (offers place then_facts).rows
        (λ e s j is.
        let one = path_iface place c i f same e s is in
        let copies = copies_few net born n s in
        let goes = goes_few net (end_at net.ends n s.iface) s.dst in
        let at : width net (end_at net.ends n s.iface) ≡ weight e.0 = ap (λ (z : ℕ). width net (end_at net.ends n z)) one in
        omega (arith, copies, goes, at)) in
        let offered_few = sum_keys offer_keys weight (offers place then_facts) (flat_map ways l.senders) offered_way in
        let flat = sum_flat weight ways l.senders in
        let most = sum_at_most (λ x. sum_by weight (ways x)) (path_overhead net n) l.senders (λ x j. ways_weigh x) in
        omega (arith, picked, offered_few, flat, most)

    -- ---- Resvs
    few_copies : (s : Send) → In s (resv_refreshes place c i f same) → length (copies_of net born n s) ≤ 1
    few_copies s j =
        let r = resv_refreshed place c i f same s j in
        let t = resv_sent place c i f r.0 false _ _ s r.2 in
        let b = back r.0 r.1 in
        let goes = goes_back net valid hosts n r.0 b.hop b.previous in
        let copies = copies_few net born n s in
        let at : length (goes_to net (end_at net.ends n s.iface) s.dst) ≡ length (goes_to net (end_at net.ends n r.0.hop.0) r.0.hop.1) =
        (λ k. length (goes_to net (end_at net.ends n (t.2 k)) (t.3 k))) in
        omega (arith, copies, goes, at)

    in_styles : (st : StyleKind) → In st (Wild ∷ Fixed ∷ Shared ∷ [])
    in_styles Wild = inl refl
    in_styles Fixed = inr (inl refl)
    in_styles Shared = inr (inr (inl refl))

    asked : (lane : Lane) (s : Send) → has (lanes then_facts) lane ≡ true → resv_of place c i f same lane ≡ Some s → has (asked_lanes net l n) lane ≡ true
    asked lane s there is =
        let t = resv_sent place c i f lane _ _ _ s is in
        let b = back lane there in
        let x : LocalSender = b.sender in
        let wanted : is_wanted net l x.session b.hop lane.style ≡ true =
        ap (λ (z : Session). nat_lt 0 (size (want lane.style net l z b.hop))) b.session ∙ ap (λ (z : PartTable). nat_lt 0 (size z)) (sym b.wanted)
        ∙ asks_some lane.style (toward place then_facts lane) t.0 t.1 in
        let into : goes_into net.ends n b.hop ≡ true = number_same (node_of net.ends b.hop.to) n b.previous.node in
        let same_lane : lane_back net x.session b.hop lane.style ≡ lane = (λ j. record { session = b.session j; style = lane.style; hop = (b.previous.iface j, b.previous.addr j) }) in
        in_set_of lane_keys (flat_map (lanes_of_sender net l n) l.senders) lane
        (to_flat_map (lanes_of_sender net l n) x lane l.senders b.there
        (to_flat_map (lanes_back net l x.session) b.hop lane (filter (goes_into net.ends n) (tree net.hops x.session.group x.sender.addr))
        (to_filter (goes_into net.ends n) b.hop (tree net.hops x.session.group x.sender.addr) b.over into)
        (subst (λ (z : Lane). In z (lanes_back net l x.session b.hop)) same_lane
        (to_each (lane_back net x.session b.hop) lane.style (filter (is_wanted net l x.session b.hop) (Wild ∷ Fixed ∷ Shared ∷ []))
        (to_filter (is_wanted net l x.session b.hop) lane.style (Wild ∷ Fixed ∷ Shared ∷ []) (in_styles lane.style) wanted)))))

    few_resvs : length (all_copies net born n (resv_refreshes place c i f same)) ≤ size (asked_lanes net l n)
    few_resvs =
        let ones = length_ones (copies_of net born n) (resv_refreshes place c i f same) few_copies in
        let few = length_keys lane_keys (resv_of place c i f same) (lanes then_facts) (asked_lanes net l n) asked in
        omega (arith, ones, few)

    -- ---- together
    pub few_sent : length (all_copies net born n (sent_then place place c i f)) ≤ node_overhead net l n
    few_sent =
        let is : all_copies net born n (sent_then place place c i f)
        ≡ all_copies net born n (path_refreshes place c i f same) ++ all_copies net born n (resv_refreshes place c i f same) =
        ap (all_copies net born n) (sends_are place c i f same) ∙ flat_map-append (copies_of net born n) (path_refreshes place c i f same) (resv_refreshes place c i f same) in
        let long = ap length is in
        let both = length-append (all_copies net born n (path_refreshes place c i f same)) (all_copies net born n (resv_refreshes place c i f same)) in
        omega (arith, long, both, few_paths, few_resvs)
