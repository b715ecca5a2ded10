-- How much a half period refreshes: over each hop of each sender's tree a Path, and back over it a Resv of each style at most.
use Rattle.std.proofs.Common.{◌≡◌, ℕ, zero, suc, ◌+◌, ◌*◌, ◌<◌, ◌≤◌, List, [], ◌∷◌, ◌++◌, length, Bool, true, false, cond, Option, None, Some, inl, inr, arith, sym, refl, ap, subst, ◌∙◌}
use Rattle.std.specs.Prelude.{map as each, is_some, slice_get, sum_by, ◌==◌, ◌||◌}
use Rattle.std.specs.List.{filter, flat_map, range_with_len}
use Rattle.std.specs.Option.{option_map}
use Rattle.std.proofs.lemmas.Grind.{flat_map-append}
use Rattle.std.proofs.lemmas.List.{length-append, length-map}
use Rattle.std.proofs.lemmas.List.Sums.{sum_by-cons}
use Rattle.rsvp_base.specs.declared.session.Sender.{Sender}
use Rattle.rsvp_base.specs.declared.session.Session.{Session}
use Rattle.rsvp_base.specs.declared.style.StyleKind.{StyleKind}
use Rattle.rsvp_base.specs.declared.style.StyleKind.TheVariants.{Wild, Fixed, Shared}
use Rattle.rsvp_base.specs.Members.{In}
use Rattle.rsvp_base.specs.Table.{get, has, keys}
use Rattle.rsvp_base.specs.TokenBucket.{TokenBucket}
use Rattle.rsvp_base.proofs.Members.{to_each, to_filter, to_flat_map}
use Rattle.rsvp_base.proofs.Tables.{either}
use Rattle.laws_bounds.specs.FactLaws.{ComesBy}
use Rattle.laws_bounds.proofs.Knowing.{has-known, known_and_via}
use Rattle.laws_bounds.proofs.Ruling.{rule_in_parts}
use Rattle.laws_bounds.proofs.Stepping.{offered}
use Rattle.router_rules.specs.Facts.{Facts, PathState, Paths}
use Rattle.router_rules.specs.Inputs.{Input, Send, Wait}
use Rattle.router_rules.specs.Known.{Lane, known, lane_keys, lanes}
use Rattle.router_rules.specs.NodeConfig.{NodeConfig}
use Rattle.router_rules.specs.Offers.{Offer, OfferKey, Offers, offer_keys, offers}
use Rattle.router_rules.specs.Requests.{toward}
use Rattle.router_rules.specs.Sends.{is_new_offer}
use Rattle.router_rules.specs.Steps.{sent_then}
use Rattle.tree_model.specs.declared.hops.LinkHop.{LinkHop}
use Rattle.tree_model.specs.declared.locals.LocalSender.{LocalSender}
use Rattle.tree_model.specs.Goals.{addr_of}
use Rattle.tree_model.specs.Networks.{Net, end_at, iface_of, node_of}
use Rattle.tree_model.specs.Trees.{goes_into, goes_out_of, tree}
use Rattle.tree_model.specs.Wants.{Locals}
use Rattle.tree_model.proofs.Following.{number_same, same_number}
use Rattle.tree_model.proofs.TreeLaws.{out_told}
use Rattle.network_model.specs.Bounds.{AreBounds}
use Rattle.network_model.specs.Links.{all_copies, copies_of, copy_to, goes_to}
use Rattle.network_model.specs.Locals.{locals_of}
use Rattle.network_model.specs.Steps.{Piece, outcome, sent, sent_from, word_for}
use Rattle.network_model.specs.Worlds.{World, config_of}
use Rattle.laws_network.proofs.Standing.{goes_out_told}
use Rattle.settle_refreshes.proofs.Counting.{length_picked, sum_at_most, sum_each, sum_flat, sum_keys}
use Rattle.settle_refreshes.proofs.QuietSends.{IsUnchanged, path_of, path_refreshes, resv_of, resv_refreshes, sends_are}
use Rattle.settle_refreshes.proofs.QuietSends as node_sends
use Rattle.settle_paths.proofs.PreviousHops.{ahead, live_among}
use Rattle.settle_senders.specs.Following.{IsFollowing}
use Rattle.settle_openings.specs.Opening.{AreLasting, IsGoingOn}
use Rattle.settle_openings.proofs.Going.{some_session}
use Rattle.settle_openings.proofs.Waiting.{paths_are, toward_is}
use Rattle.settle_openings.specs.Waves.{AreWired}
use Rattle.settle_openings.proofs.WaveLeft.{of_live}
use Rattle.settle_openings.proofs.WavePaid.{offers_alike, same_itself}
use Rattle.settle_openings.proofs.WaveResvs.{goes_one}

-- ---- sums over nodes
plus : {A : Type 0} (v w : A → ℕ) (xs : List A) → sum_by (λ x. v x + w x) xs ≡ sum_by v xs + sum_by w xs
plus v w [] = omega arith
plus v w (x ∷ xs) = let rest = plus v w xs in omega (arith, rest, sum_by-cons (λ z. v z + w z) x xs, sum_by-cons v x xs, sum_by-cons w x xs)

nothing : {A : Type 0} (xs : List A) → sum_by (λ (x : A). 0) xs ≡ 0
nothing [] = refl
nothing {A} (x ∷ xs) = let rest = nothing xs in omega (arith, rest, sum_by-cons (λ (z : A). 0) x xs)

turned : {A B : Type 0} (v : A → B → ℕ) (w : B → ℕ) (ns : List A) (xs : List B) → ((x : B) → In x xs → sum_by (λ n. v n x) ns ≤ w x) → sum_by (λ n. sum_by (v n) xs) ns ≤ sum_by w xs
turned v w ns [] few = let none = nothing ns in omega (arith, none)
turned {A} {B} v w ns (x ∷ xs) few =
    let here = few x (inl refl) in
    let rest = turned v w ns xs (λ y i. few y (inr i)) in
    let split = plus (λ n. v n x) (λ n. sum_by (v n) xs) ns in
    let each_one = conses ns in
    omega (arith, here, rest, split, each_one, sum_by-cons w x xs)
  where
    conses : (ms : List A) → sum_by (λ n. sum_by (v n) (x ∷ xs)) ms ≡ sum_by (λ n. v n x + sum_by (v n) xs) ms
    conses [] = refl
    conses (n ∷ ms) =
        let rest = conses ms in
        omega (arith, rest, sum_by-cons (v n) x xs, sum_by-cons (λ k. sum_by (v k) (x ∷ xs)) n ms, sum_by-cons (λ k. v k x + sum_by (v k) xs) n ms)

filtered : {A : Type 0} (t : A → Bool) (c : ℕ) (xs : List A) → sum_by (λ (x : A). c) (filter t xs) ≡ sum_by (λ x. cond (t x) c 0) xs
filtered t c [] = refl
filtered {A} t c (x ∷ xs) = by (t x) refl (filtered t c xs)
  where
    by : (b : Bool) → t x ≡ b → sum_by (λ (z : A). c) (filter t xs) ≡ sum_by (λ z. cond (t z) c 0) xs → sum_by (λ (z : A). c) (cond b (x ∷ filter t xs) (filter t xs)) ≡ sum_by (λ z. cond (t z) c 0) (x ∷ xs)
    by true is rest =
        let here : cond (t x) c 0 ≡ c = ap (λ (b : Bool). cond b c 0) is in
        omega (arith, here, rest, sum_by-cons (λ (z : A). c) x (filter t xs), sum_by-cons (λ z. cond (t z) c 0) x xs)
    by false is rest =
        let here : cond (t x) c 0 ≡ 0 = ap (λ (b : Bool). cond b c 0) is in
        omega (arith, here, rest, sum_by-cons (λ z. cond (t z) c 0) x xs)

-- one number of a range is this one at most
past : (m c k len : ℕ) → m < k → sum_by (λ n. cond (m == n) c 0) (range_with_len k len) ≡ 0
past m c k zero lt = refl
past m c k (suc len) lt =
    let rest = past m c (k + 1) len (omega (arith, lt)) in
    let here : cond (m == k) c 0 ≡ 0 = either (m == k) (λ yes. let same = same_number m k yes in absurd (omega (arith, same, lt))) (λ no. ap (λ (b : Bool). cond b c 0) no) in
    omega (arith, rest, here, sum_by-cons (λ n. cond (m == n) c 0) k (range_with_len (k + 1) len))

pub once : (m c k len : ℕ) → sum_by (λ n. cond (m == n) c 0) (range_with_len k len) ≤ c
once m c k zero = omega arith
once m c k (suc len) =
    either (m == k)
    (λ yes.
    let same = same_number m k yes in
    let rest = past m c (k + 1) len (omega (arith, same)) in
    let here : cond (m == k) c 0 ≡ c = ap (λ (b : Bool). cond b c 0) yes in
    omega (arith, rest, here, sum_by-cons (λ n. cond (m == n) c 0) k (range_with_len (k + 1) len)))
    (λ no.
    let rest = once m c (k + 1) len in
    let here : cond (m == k) c 0 ≡ 0 = ap (λ (b : Bool). cond b c 0) no in
    omega (arith, rest, here, sum_by-cons (λ n. cond (m == n) c 0) k (range_with_len (k + 1) len)))

-- ---- what a node refreshes of a sender
abbrev tree_of : Net → LocalSender → List LinkHop
tree_of net x = tree net.hops x.session.group x.sender.addr

abbrev own_part : Net → ℕ → LocalSender → ℕ
own_part net n x = sum_by (λ (h : LinkHop). 1) (filter (goes_out_of net.ends n) (tree_of net x)) + sum_by (λ (h : LinkHop). 3) (filter (goes_into net.ends n) (tree_of net x))

abbrev node_part : Net → Locals → ℕ → ℕ
node_part net l n = sum_by (own_part net n) l.senders

-- all nodes together
abbrev pub refreshes_of : Net → Locals → ℕ
refreshes_of net l = sum_by (λ x. sum_by (λ (h : LinkHop). 4) (tree_of net x)) l.senders

all_parts : (net : Net) (l : Locals) (k len : ℕ) → sum_by (node_part net l) (range_with_len k len) ≤ refreshes_of net l
all_parts net l k len =
    turned (own_part net) (λ x. sum_by (λ (h : LinkHop). 4) (tree_of net x)) (range_with_len k len) l.senders
    (λ x i.
    let split = plus (λ n. sum_by (λ (h : LinkHop). 1) (filter (goes_out_of net.ends n) (tree_of net x))) (λ n. sum_by (λ (h : LinkHop). 3) (filter (goes_into net.ends n) (tree_of net x))) (range_with_len k len) in
    let out = spread (λ h. node_of net.ends h.from) 1 (tree_of net x) in
    let into = spread (λ h. node_of net.ends h.to) 3 (tree_of net x) in
    let both = four (tree_of net x) in
    omega (arith, split, out, into, both))
  where
    four : (hs : List LinkHop) → sum_by (λ (h : LinkHop). 1) hs + sum_by (λ (h : LinkHop). 3) hs ≡ sum_by (λ (h : LinkHop). 4) hs
    four [] = omega arith
    four (h ∷ hs) = let rest = four hs in omega (arith, rest, sum_by-cons (λ (z : LinkHop). 1) h hs, sum_by-cons (λ (z : LinkHop). 3) h hs, sum_by-cons (λ (z : LinkHop). 4) h hs)

    same_sum : (v w : ℕ → ℕ) → ((n : ℕ) → v n ≡ w n) → (ns : List ℕ) → sum_by v ns ≡ sum_by w ns
    same_sum v w same [] = refl
    same_sum v w same (n ∷ ns) = let rest = same_sum v w same ns in let here = same n in omega (arith, rest, here, sum_by-cons v n ns, sum_by-cons w n ns)

    spread : (at : LinkHop → ℕ) (c : ℕ) (hs : List LinkHop) → sum_by (λ n. sum_by (λ (h : LinkHop). c) (filter (λ h. at h == n) hs)) (range_with_len k len) ≤ sum_by (λ (h : LinkHop). c) hs
    spread at c hs =
        let same = same_sum (λ n. sum_by (λ (h : LinkHop). c) (filter (λ h. at h == n) hs)) (λ n. sum_by (λ h. cond (at h == n) c 0) hs) (λ n. filtered (λ h. at h == n) c hs) (range_with_len k len) in
        let few = turned (λ n h. cond (at h == n) c 0) (λ (h : LinkHop). c) (range_with_len k len) hs (λ h i. once (at h) c k len) in
        omega (arith, same, few)

-- ---- a node
module _ (q : ℕ) (u : World) (r : IsGoingOn q u) (l : AreLasting q 0 u) (wired : AreWired u.net) where
  le : 2 * q ≤ 2 * q
  le = omega arith

  first : IsFollowing q some_session u
  first = r.follows some_session

  bounds : AreBounds q u
  bounds = first.paths.bounds

  module _ (n : ℕ) (f : Facts) (at : slice_get u.nodes n ≡ Some f) where
    abbrev p : NodeConfig
    p = config_of q u.net u.trees n

    abbrev c : ℕ
    c = u.clock + 2 * q

    abbrev waits : Input
    waits = Wait (2 * q) (word_for u.words n)

    abbrev g : Facts
    g = node_sends.after p c waits f

    paths_same : g.paths ≡ f.paths
    paths_same = paths_are q (2 * q) u le r l n f at

    same_offers : offers p g ≡ offers p f
    same_offers = offers_alike p f g refl refl paths_same

    toward_same : (lane : Lane) → toward p f lane ≡ toward p g lane
    toward_same lane = sym (toward_is q (2 * q) u le r l n f at lane) ∙ rule_in_parts.toward_same p p c waits f lane

    unchanged : IsUnchanged p c waits f
    unchanged = record {
      loud = refl;
      errors = refl;
      confs = refl;
      asked = refl;
      offered = λ k e. ap (λ (t : Offers). has t k) same_offers ∙ e;
      not_new = λ k o e. ap (is_new_offer p k.iface o) (ap (λ (t : Offers). get t k) (sym same_offers) ∙ e) ∙ same_itself p k.iface o;
      went = λ lane e. toward_same lane;
      goes = λ lane e. toward_same lane;
    }

    -- who is known is a sender
    sender_of : (s : Session) (x : Sender) → has (known f s) x ≡ true → (z : LocalSender) × In z (locals_of u).senders × (z.session ≡ s) × (z.sender ≡ x)
    sender_of s x sure = by (get f.senders (s, x)) (get f.paths (s, x)) refl refl
      where
        by : (o : Option TokenBucket) (v : Option PathState) → get f.senders (s, x) ≡ o → get f.paths (s, x) ≡ v → (z : LocalSender) × In z (locals_of u).senders × (z.session ≡ s) × (z.sender ≡ x)
        by (Some t) v a b =
            of_live (locals_of u) s x (live_among u s x t (record { node = n; senders = f.senders; at = ap (option_map (λ (z : Facts). z.senders)) at; sends = a }))
        by None (Some w) a b = of_live (locals_of u) s x (live_among u s x w.tspec (first.paths.sound.facts n f (s, x) w at b).sound.live)
        by None None a b = let bad : true ≡ false = sym sure ∙ has-known f s x ∙ (λ i. is_some (a i) || is_some (b i)) in absurd (cc)

    one_copy : (s : Send) → length (copies_of u.net u.made n s) ≤ 1
    one_copy s =
        let same = length-map (goes_to u.net (end_at u.net.ends n s.iface) s.dst) (copy_to u.made s) in
        let few = goes_one u.net bounds.net wired (end_at u.net.ends n s.iface) s.dst in
        omega (arith, same, few)

    -- ---- Paths
    abbrev way_of : LocalSender → LinkHop → OfferKey
    way_of x h = record { session = x.session; sender = x.sender; iface = iface_of u.net.ends h.from }

    abbrev outs : LocalSender → List LinkHop
    outs x = filter (goes_out_of u.net.ends n) (tree_of u.net x)

    offered_way : (k : OfferKey) (o : Offer) → get (offers p g) k ≡ Some o → In k (flat_map (λ x. each (way_of x) (outs x)) (locals_of u).senders)
    offered_way k o e =
        let of = offered p f k o (ap (λ (t : Offers). get t k) (sym same_offers) ∙ e) in
        let x = sender_of k.session k.sender of.known_one in
        let out = goes_out_told q u.net u.trees n k.session k.iface k.sender of.out in
        let h = out_told u.net n out.0 k.session.group k.sender.addr out.1 in
        let over : In h.0 (tree_of u.net x.0) = subst (λ (z : Session × Sender). In h.0 (tree u.net.hops z.0.group z.1.addr)) (λ j. (sym x.2 j, sym x.3 j)) h.1 in
        let from : goes_out_of u.net.ends n h.0 ≡ true = number_same _ _ (ap (node_of u.net.ends) h.2 ∙ h.3) in
        let is : way_of x.0 h.0 ≡ k = (λ j. record { session = x.2 j; sender = x.3 j; iface = (ap (iface_of u.net.ends) h.2 ∙ out.2) j }) in
        to_flat_map (λ x. each (way_of x) (outs x)) x.0 k (locals_of u).senders x.1
        (subst (λ (z : OfferKey). In z (each (way_of x.0) (outs x.0))) is (to_each (way_of x.0) h.0 (outs x.0) (to_filter (goes_out_of u.net.ends n) h.0 (tree_of u.net x.0) over from)))

    few_paths : length (all_copies u.net u.made n (path_refreshes p c waits f unchanged)) ≤ sum_by (λ x. sum_by (λ (h : LinkHop). 1) (outs x)) (locals_of u).senders
    few_paths =
        let picked = length_picked (path_of p c waits f unchanged) (copies_of u.net u.made n) (λ (e : OfferKey × Offer). 1) (offers p g).rows (λ e s j is. one_copy s) in
        let all = sum_keys offer_keys (λ (k : OfferKey). 1) (offers p g) (flat_map (λ x. each (way_of x) (outs x)) (locals_of u).senders) offered_way in
        let flat = sum_flat (λ (k : OfferKey). 1) (λ x. each (way_of x) (outs x)) (locals_of u).senders in
        let most = sum_at_most (λ x. sum_by (λ (k : OfferKey). 1) (each (way_of x) (outs x))) (λ x. sum_by (λ (h : LinkHop). 1) (outs x)) (locals_of u).senders
        (λ x i. let same = sum_each (λ (k : OfferKey). 1) (way_of x) (outs x) in omega (arith, same)) in
        omega (arith, picked, all, flat, most)

    -- ---- Resvs
    abbrev lane_back : LocalSender → LinkHop → StyleKind → Lane
    lane_back x h st = record { session = x.session; style = st; hop = (iface_of u.net.ends h.to, addr_of u.net h.from) }

    abbrev lanes_back : LocalSender → LinkHop → List Lane
    lanes_back x h = lane_back x h Wild ∷ lane_back x h Fixed ∷ lane_back x h Shared ∷ []

    abbrev ins : LocalSender → List LinkHop
    ins x = filter (goes_into u.net.ends n) (tree_of u.net x)

    in_lanes : (x : LocalSender) (h : LinkHop) (st : StyleKind) → In (lane_back x h st) (lanes_back x h)
    in_lanes x h Wild = inl refl
    in_lanes x h Fixed = inr (inl refl)
    in_lanes x h Shared = inr (inr (inl refl))

    lane_way : (lane : Lane) (w : Unit {0}) → get (lanes g) lane ≡ Some w → In lane (flat_map (λ x. flat_map (lanes_back x) (ins x)) (locals_of u).senders)
    lane_way lane w e =
        let b = (known_and_via.lanes_by g lane).0 (ap is_some e) in
        let c' : ComesBy f lane.session lane.hop b.0 = record { path = b.1.path; there = ap (λ (z : Paths). get z (lane.session, b.0)) (sym paths_same) ∙ b.1.there; by = b.1.by } in
        let a = ahead u n f first.paths.sound at lane.session lane.hop b.0 c' in
        let x = of_live (locals_of u) lane.session b.0 a.live in
        let over : In a.way (tree_of u.net x.0) = subst (λ (z : Session × Sender). In a.way (tree u.net.hops z.0.group z.1.addr)) (λ j. (sym x.2 j, sym x.3 j)) a.there in
        let into : goes_into u.net.ends n a.way ≡ true = number_same _ _ a.previous.node in
        let is : lane_back x.0 a.way lane.style ≡ lane = (λ j. record { session = x.2 j; style = lane.style; hop = (a.previous.iface j, a.previous.addr j) }) in
        to_flat_map (λ x. flat_map (lanes_back x) (ins x)) x.0 lane (locals_of u).senders x.1
        (to_flat_map (lanes_back x.0) a.way lane (ins x.0) (to_filter (goes_into u.net.ends n) a.way (tree_of u.net x.0) over into)
        (subst (λ (z : Lane). In z (lanes_back x.0 a.way)) is (in_lanes x.0 a.way lane.style)))

    three : (x : LocalSender) (hs : List LinkHop) → sum_by (λ (k : Lane). 1) (flat_map (lanes_back x) hs) ≤ sum_by (λ (h : LinkHop). 3) hs
    three x hs =
        let flat = sum_flat (λ (k : Lane). 1) (lanes_back x) hs in
        let most = sum_at_most (λ h. sum_by (λ (k : Lane). 1) (lanes_back x h)) (λ (h : LinkHop). 3) hs (λ h i. count h) in
        omega (arith, flat, most)
      where
        count : (h : LinkHop) → sum_by (λ (k : Lane). 1) (lanes_back x h) ≤ 3
        count h =
            let a = sum_by-cons (λ (k : Lane). 1) (lane_back x h Wild) (lane_back x h Fixed ∷ lane_back x h Shared ∷ []) in
            let b = sum_by-cons (λ (k : Lane). 1) (lane_back x h Fixed) (lane_back x h Shared ∷ []) in
            let d = sum_by-cons (λ (k : Lane). 1) (lane_back x h Shared) [] in
            omega (arith, a, b, d)

    few_resvs : length (all_copies u.net u.made n (resv_refreshes p c waits f unchanged)) ≤ sum_by (λ x. sum_by (λ (h : LinkHop). 3) (ins x)) (locals_of u).senders
    few_resvs =
        let picked = length_picked (resv_of p c waits f unchanged) (copies_of u.net u.made n) (λ (k : Lane). 1) (keys (lanes g)) (λ k s j is. one_copy s) in
        let rows = sum_each (λ (k : Lane). 1) (λ (e : Lane × Unit {0}). e.0) (lanes g).rows in
        let all = sum_keys lane_keys (λ (k : Lane). 1) (lanes g) (flat_map (λ x. flat_map (lanes_back x) (ins x)) (locals_of u).senders) lane_way in
        let flat = sum_flat (λ (k : Lane). 1) (λ x. flat_map (lanes_back x) (ins x)) (locals_of u).senders in
        let most = sum_at_most (λ x. sum_by (λ (k : Lane). 1) (flat_map (lanes_back x) (ins x))) (λ x. sum_by (λ (h : LinkHop). 3) (ins x)) (locals_of u).senders (λ x i. three x (ins x)) in
        omega (arith, picked, rows, all, flat, most)

    few_here : length (all_copies u.net u.made n (outcome q (Piece (2 * q)) u n f).sent) ≤ node_part u.net (locals_of u) n
    few_here =
        let is : all_copies u.net u.made n (sent_then p p c waits f) ≡ all_copies u.net u.made n (path_refreshes p c waits f unchanged) ++ all_copies u.net u.made n (resv_refreshes p c waits f unchanged) =
        ap (all_copies u.net u.made n) (sends_are p c waits f unchanged) ∙ flat_map-append (copies_of u.net u.made n) (path_refreshes p c waits f unchanged) (resv_refreshes p c waits f unchanged) in
        let long = ap length is in
        let both = length-append (all_copies u.net u.made n (path_refreshes p c waits f unchanged)) (all_copies u.net u.made n (resv_refreshes p c waits f unchanged)) in
        let a = few_paths in
        let b = few_resvs in
        let split = plus (λ x. sum_by (λ (h : LinkHop). 1) (outs x)) (λ x. sum_by (λ (h : LinkHop). 3) (ins x)) (locals_of u).senders in
        omega (arith, long, both, a, b, split)

  few_from : (k : ℕ) (fs : List Facts) → ((j : ℕ) (f : Facts) → slice_get fs j ≡ Some f → slice_get u.nodes (k + j) ≡ Some f)
      → length (sent_from q (Piece (2 * q)) u k fs) ≤ sum_by (node_part u.net (locals_of u)) (range_with_len k (length fs))
  few_from k [] there = omega arith
  few_from k (f ∷ fs) there =
      let at : slice_get u.nodes k ≡ Some f = (let z : k + 0 ≡ k = omega arith in subst (λ (d : ℕ). slice_get u.nodes d ≡ Some f) z (there 0 f refl)) in
      let here = few_here k f at in
      let next : suc k ≡ k + 1 = omega arith in
      let rest : length (sent_from q (Piece (2 * q)) u (suc k) fs) ≤ sum_by (node_part u.net (locals_of u)) (range_with_len (k + 1) (length fs)) =
      subst (λ (d : ℕ). length (sent_from q (Piece (2 * q)) u (suc k) fs) ≤ sum_by (node_part u.net (locals_of u)) (range_with_len d (length fs))) next
      (few_from (suc k) fs (λ j g e. let z : k + suc j ≡ suc k + j = omega arith in subst (λ (d : ℕ). slice_get u.nodes d ≡ Some g) z (there (suc j) g e))) in
      let all = length-append (all_copies u.net u.made k (outcome q (Piece (2 * q)) u k f).sent) (sent_from q (Piece (2 * q)) u (suc k) fs) in
      omega (arith, here, rest, all, sum_by-cons (node_part u.net (locals_of u)) k (range_with_len (k + 1) (length fs)))

  pub few_refreshes : length (sent q (Piece (2 * q)) u) ≤ refreshes_of u.net (locals_of u)
  few_refreshes =
      let few = few_from 0 u.nodes (λ j f e. let z : 0 + j ≡ j = omega arith in subst (λ (d : ℕ). slice_get u.nodes d ≡ Some f) (sym z) e) in
      let all = all_parts u.net (locals_of u) 0 (length u.nodes) in
      omega (arith, few, all)
