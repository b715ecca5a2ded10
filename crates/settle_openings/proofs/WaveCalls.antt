-- The first calls of a network of which no node keeps a path: what is sent for them, and who pays for it when all have been made.
use Rattle.std.proofs.Common.{◌≡◌, ℕ, zero, suc, ◌+◌, ◌<◌, ◌≤◌, List, [], ◌∷◌, ◌++◌, length, Bool, true, false, cond, Option, None, Some, ◌⊎◌, inl, inr, ⊎_elim, arith, sym, refl, ap, subst, ◌∙◌}
use Rattle.std.specs.Prelude.{map as each, not, slice_get, sum_by, ◌==◌, ◌||◌}
use Rattle.std.specs.List.{filter, filter_map, flat_map}
use Rattle.std.specs.Option.{option_map}
use Rattle.std.specs.Ordering.{eq_by_cmp}
use Rattle.std.proofs.lemmas.List.{length-append}
use Rattle.std.proofs.lemmas.List.Sums.{sum_by-append, sum_by-cons}
use Rattle.rsvp_base.specs.declared.session.Sender.{Sender}
use Rattle.rsvp_base.specs.declared.session.Session.{Session}
use Rattle.rsvp_base.specs.declared.style.StyleKind.{StyleKind}
use Rattle.rsvp_base.specs.Members.{In}
use Rattle.rsvp_base.specs.Orders.{Names, sessions}
use Rattle.rsvp_base.specs.Sets.{Set, set_of}
use Rattle.rsvp_base.specs.Table.{Table, empty, get, has, keys, put_in}
use Rattle.rsvp_base.specs.TokenBucket.{TokenBucket}
use Rattle.rsvp_base.proofs.Counts.{found_in, in_found}
use Rattle.rsvp_base.proofs.Members.{in_left, in_right, to_each, to_filter}
use Rattle.rsvp_base.proofs.SetLaws.{and_both}
use Rattle.rsvp_base.proofs.Tables.{either, get-put_in_other, tied_same}
use Rattle.rsvp_messages.specs.declared.message.Message.TheVariants as message
use Rattle.rsvp_messages.specs.declared.message.PathMsg.{PathMsg}
use Rattle.laws_bounds.specs.FactLaws.{is_way}
use Rattle.laws_bounds.proofs.Lists.{passed}
use Rattle.laws_bounds.proofs.Offering.{offers_by_way}
use Rattle.laws_bounds.proofs.Ruling.{rule_in_parts}
use Rattle.style_rules.specs.Toward.{or_else}
use Rattle.router_rules.specs.declared.answers.LocalErr.{LocalErr}
use Rattle.router_rules.specs.Calls.{act_call, call_refusal, unless}
use Rattle.router_rules.specs.Facts.{Facts, Paths, SenderKey, sender_keys}
use Rattle.router_rules.specs.Inputs.{Call, Change, Local, Send, SendAs, WantAs}
use Rattle.router_rules.specs.Known.{Lane, lane_keys, lanes_of}
use Rattle.router_rules.specs.NodeConfig.{NodeConfig}
use Rattle.router_rules.specs.Offers.{Offer, OfferKey, offer_at, offer_keys, offers, own_offer, path_offer}
use Rattle.router_rules.specs.Rule.{Outcome, settled}
use Rattle.router_rules.specs.Sends.{is_new_offer, path_send, path_send_of, path_sends, resv_send_to, resv_sends}
use Rattle.tree_model.specs.declared.hops.LinkHop.{LinkHop}
use Rattle.tree_model.specs.Networks.{iface_of, node_of}
use Rattle.tree_model.specs.Trees.{goes_out_of, tree}
use Rattle.tree_model.specs.Valid.{IsValid}
use Rattle.tree_model.specs.Wants.{live}
use Rattle.tree_model.proofs.Following.{number_same, same_number}
use Rattle.tree_model.proofs.TreeLaws.{out_told}
use Rattle.network_model.specs.Links.{all_copies, copies_of}
use Rattle.network_model.specs.Locals.{locals_of}
use Rattle.network_model.specs.Steps.{At, Step, ms_of, outcome, sent, sent_from, step, still}
use Rattle.network_model.specs.Worlds.{Item, World, config_of}
use Rattle.laws_network.proofs.Standing.{goes_out_told}
use Rattle.settle_refreshes.proofs.Counting.{length_picked, sum_at_most, sum_each, sum_keys}
use Rattle.settle_passes.proofs.Called.{IsCalled, called}
use Rattle.settle_openings.specs.Waves.{AreWired, paid_for, payers, payers_of}
use Rattle.settle_openings.proofs.WaveCounts.{flat_append, flat_flat}
use Rattle.settle_openings.proofs.WaveNews.{cond_below, none_left}
use Rattle.settle_openings.proofs.WavePaid.{no_paths, offers_alike, paid, paid_sends, same_itself}
use Rattle.settle_openings.proofs.WaveResvs.{copy_paid, pay}

pub unless_same : {A : Type 0} (r : Option LocalErr) (x : A) → unless r x x ≡ x
unless_same None x = refl
unless_same (Some e) x = refl

-- with the nodes of another world: who pays then
abbrev pub seen_from : World → World → World
seen_from o w = record w { nodes = o.nodes }

module _ (q : ℕ) (o w : World) (n : ℕ) (l : Local) where
  abbrev pub v : World
  v = seen_from o w

  -- ---- one node alone sends
  module _ (most : ℕ) (few : (f : Facts) → slice_get w.nodes n ≡ Some f → paid v n (outcome q (At n l) w n f).sent ≤ most) where
    others : (k : ℕ) (f : Facts) → (n ≡ k → ⊥) → paid v k (outcome q (At n l) w k f).sent ≡ 0
    others k f apart =
        ⊎_elim (λ (z : outcome q (At n l) w k f ≡ still f). ap (λ (x : Outcome). paid v k x.sent) z)
        (λ (z : IsCalled q w n l k f). absurd (apart z.node)) (called q w n l k f)

    parts : (k : ℕ) (f : Facts) (fs : List Facts)
        → length (flat_map (pay v) (sent_from q (At n l) w k (f ∷ fs))) ≡ paid v k (outcome q (At n l) w k f).sent + length (flat_map (pay v) (sent_from q (At n l) w (suc k) fs))
    parts k f fs =
        let a = ap length (flat_append (pay v) (all_copies w.net w.made k (outcome q (At n l) w k f).sent) (sent_from q (At n l) w (suc k) fs)) in
        let b = length-append (flat_map (pay v) (all_copies w.net w.made k (outcome q (At n l) w k f).sent)) (flat_map (pay v) (sent_from q (At n l) w (suc k) fs)) in
        omega (arith, a, b)

    none_behind : (k : ℕ) (fs : List Facts) → n < k → length (flat_map (pay v) (sent_from q (At n l) w k fs)) ≡ 0
    none_behind k [] lt = refl
    none_behind k (f ∷ fs) lt =
        let a = others k f (λ e. omega (arith, e, lt)) in
        let b = none_behind (suc k) fs (omega (arith, lt)) in
        let c = parts k f fs in
        omega (arith, a, b, c)

    few_from : (k : ℕ) (fs : List Facts) → ((j : ℕ) (f : Facts) → slice_get fs j ≡ Some f → slice_get w.nodes (k + j) ≡ Some f) → length (flat_map (pay v) (sent_from q (At n l) w k fs)) ≤ most
    few_from k [] there = omega arith
    few_from k (f ∷ fs) there =
        let c = parts k f fs in
        either (n == k)
        (λ yes.
        let is : n ≡ k = same_number n k yes in
        let at : slice_get w.nodes k ≡ Some f = (let z : k + 0 ≡ k = omega arith in subst (λ (d : ℕ). slice_get w.nodes d ≡ Some f) z (there 0 f refl)) in
        let a = few f (ap (slice_get w.nodes) is ∙ at) in
        let a' : paid v k (outcome q (At n l) w k f).sent ≤ most = subst (λ (z : ℕ). paid v z (outcome q (At n l) w z f).sent ≤ most) is a in
        let b = none_behind (suc k) fs (omega (arith, is)) in
        omega (arith, a', b, c))
        (λ no.
        let a = others k f (λ e. let bad : true ≡ false = sym (number_same n k e) ∙ no in cc) in
        let b = few_from (suc k) fs (λ j g e. let z : k + suc j ≡ suc k + j = omega arith in subst (λ (d : ℕ). slice_get w.nodes d ≡ Some g) z (there (suc j) g e)) in
        omega (arith, a, b, c))

    pub sent_few : length (flat_map (pay v) (sent q (At n l) w)) ≤ most
    sent_few = few_from 0 w.nodes (λ j f e. let z : j ≡ 0 + j = omega arith in subst (λ (d : ℕ). slice_get w.nodes d ≡ Some f) z e)

  -- ---- its node
  module _ (f : Facts) (bare : f.paths ≡ empty) where
    abbrev pub p : NodeConfig
    p = config_of q w.net w.trees n

    abbrev c : ℕ
    c = w.clock + ms_of (At n l)

    abbrev pub change : Change
    change = act_call p l f

    abbrev pub g : Facts
    g = settled p c f change.facts

    -- nobody is asked for anything, so Paths alone are sent
    pub paths_alone : paid v n (outcome q (At n l) w n f).sent ≤ paid v n (path_sends p (offers p f) (offers p g) empty)
    paths_alone =
        ⊎_elim
        (λ (z : outcome q (At n l) w n f ≡ still f). let none = ap (λ (x : Outcome). paid v n x.sent) z in omega (arith, none))
        (λ (z : IsCalled q w n l n f).
        let out = ap (λ (x : Outcome). paid v n x.sent) z.is in
        let all = ap (paid v n) (rule_in_parts.loud p p c (Call l) f refl) in
        let split = paid_sends v n p p f g change in
        let same : g.paths ≡ empty = bare in
        let resvs : resv_sends p p f g empty None ≡ [] = (λ i. filter_map (resv_send_to p p f g empty None) (keys (set_of {o = lane_keys} (flat_map lanes_of (same i).rows)))) in
        let none = ap (paid v n) resvs in
        omega (arith, out, all, split, none))
        (called q w n l n f)

-- ---- a receiver asks: nothing is sent
pub want_sends_nothing : (q : ℕ) (o w : World) (n : ℕ) (s : Session) (st : StyleKind) (names : Names) (flow : TokenBucket) (mark : Bool) → ((f : Facts) → slice_get w.nodes n ≡ Some f → f.paths ≡ empty)
    → length (flat_map (pay (seen_from o w)) (sent q (At n (WantAs s st names flow mark)) w)) ≤ 0
want_sends_nothing q o w n s st names flow mark bare =
    let l : Local = WantAs s st names flow mark in
    sent_few q o w n l 0
    (λ f at.
    let p : NodeConfig = config_of q w.net w.trees n in
    let then : Facts = settled p (w.clock + ms_of (At n l)) f (act_call p l f).facts in
    let offered : offers p then ≡ offers p f = offers_alike p f then (unless_same (call_refusal p l f) f.senders) (unless_same (call_refusal p l f) f.advertised) refl in
    let none = ap (paid (seen_from o w) n) (ap (λ t. path_sends p (offers p f) t empty) offered ∙ no_paths p (offers p f)) in
    let alone = paths_alone q o w n l f (bare f at) in
    omega (arith, none, alone))

-- ---- a host begins to send: a Path over each hop of the sender's tree out of the node
module _ (q : ℕ) (o w : World) (n : ℕ) (s : Session) (x : Sender) (t : TokenBucket) (valid : IsValid w.net) (wired : AreWired w.net) where
  abbrev l : Local
  l = SendAs s x t

  abbrev key : SenderKey
  key = (s, x)

  abbrev here : NodeConfig
  here = config_of q w.net w.trees n

  abbrev u : World
  u = seen_from o w

  abbrev all : List Sender
  all = live (locals_of o) s

  abbrev pub out : List LinkHop
  out = filter (goes_out_of w.net.ends n) (tree w.net.hops s.group x.addr)

  module _ (f : Facts) (at : slice_get w.nodes n ≡ Some f) (bare : f.paths ≡ empty) where
    abbrev then : Facts
    then = settled here (w.clock + ms_of (At n l)) f (act_call here l f).facts

    senders_other : (k : SenderKey) → eq_by_cmp sender_keys.cmp k key ≡ false → get then.senders k ≡ get f.senders k
    senders_other k apart = by (call_refusal here l f)
      where
        by : (r : Option LocalErr) → get (unless r (put_in f.senders key t) f.senders) k ≡ get f.senders k
        by None = get-put_in_other sender_keys f.senders key t k apart
        by (Some e) = refl

    abbrev mine : OfferKey → Bool
    mine k = eq_by_cmp sender_keys.cmp (k.session, k.sender) key

    abbrev way_of : LinkHop → OfferKey
    way_of h = record { session = s; sender = x; iface = iface_of w.net.ends h.from }

    offer_other : (k : OfferKey) → mine k ≡ false → get (offers here then) k ≡ get (offers here f) k
    offer_other k apart =
        let adverts : then.advertised ≡ f.advertised = unless_same (call_refusal here l f) f.advertised in
        let same : offer_at then k ≡ offer_at f k =
        (λ j. or_else (option_map (own_offer (has (adverts j) (k.session, k.sender))) (senders_other (k.session, k.sender) apart j)) (option_map path_offer (get f.paths (k.session, k.sender)))) in
        offers_by_way here then k ∙ ap (λ (z : Option Offer). cond (is_way here k) z None) same ∙ sym (offers_by_way here f k)

    offered_way : (k : OfferKey) (z : Offer) → get (offers here then) k ≡ Some z → In k (each way_of out ++ filter (λ y. not (mine y)) (keys (offers here then)))
    offered_way k z e =
        either (mine k)
        (λ yes.
        let same : ◌≡◌ {A = SenderKey} (k.session, k.sender) key = tied_same sender_keys (k.session, k.sender) key yes in
        let way : is_way here k ≡ true = either (is_way here k) (λ b. b)
        (λ no. let bad : None ≡ Some z = ap (λ (b : Bool). cond b (offer_at then k) None) (sym no) ∙ sym (offers_by_way here then k) ∙ e in absurd (cc)) in
        let goes = (and_both _ _ way).1 in
        let a = goes_out_told q w.net w.trees n k.session k.iface k.sender goes in
        let h = out_told w.net n a.0 k.session.group k.sender.addr a.1 in
        let over : In h.0 (tree w.net.hops s.group x.addr) = subst (λ (y : SenderKey). In h.0 (tree w.net.hops y.0.group y.1.addr)) same h.1 in
        let from : goes_out_of w.net.ends n h.0 ≡ true = number_same _ _ (ap (node_of w.net.ends) h.2 ∙ h.3) in
        let is : way_of h.0 ≡ k = (λ j. record { session = (sym same j).0; sender = (sym same j).1; iface = (ap (iface_of w.net.ends) h.2 ∙ a.2) j }) in
        in_left k (each way_of out) (filter (λ y. not (mine y)) (keys (offers here then)))
        (subst (λ (y : OfferKey). In y (each way_of out)) is (to_each way_of h.0 out (to_filter (goes_out_of w.net.ends n) h.0 (tree w.net.hops s.group x.addr) over from))))
        (λ no.
        in_right k (each way_of out) (filter (λ y. not (mine y)) (keys (offers here then)))
        (to_filter (λ y. not (mine y)) k (keys (offers here then)) (to_each (λ (y : OfferKey × Offer). y.0) (k, z) (offers here then).rows (found_in offer_keys (offers here then) k z e)) (ap not no)))

    abbrev cost : OfferKey → ℕ
    cost k = cond (mine k) (length all) 0

    few_paths : paid u n (path_sends here (offers here f) (offers here then) empty) ≤ sum_by (λ (h : LinkHop). length all) out
    few_paths =
        let nobody : Set sessions = empty in
        let flat = ap length (flat_flat (copies_of w.net w.made n) (pay u) (path_sends here (offers here f) (offers here then) empty)) in
        let picked = length_picked (path_send_of here (offers here f) empty) (λ y. flat_map (pay u) (copies_of w.net w.made n y)) (λ (z : OfferKey × Offer). cost z.0) (offers here then).rows
        (λ z y i is.
        let b = passed (has nobody z.0.session || is_new_offer here z.0.iface z.1 (get (offers here f) z.0)) (Some (path_send here (has nobody z.0.session) z)) y is in
        let send : path_send here (has nobody z.0.session) z ≡ y = (let d = b.1 in cc) in
        either (mine z.0)
        (λ yes.
        let same : ◌≡◌ {A = SenderKey} (z.0.session, z.0.sender) key = tied_same sender_keys (z.0.session, z.0.sender) key yes in
        let d : cost z.0 ≡ length all = ap (λ (a : Bool). cond a (length all) 0) yes in
        let few = copy_paid u valid wired n y (length all)
        (λ e j. let who = ap (λ (a : Send). length (payers_of w.net (locals_of o) e a.message)) (sym send) in
        let session = ap (λ (k : SenderKey). length (live (locals_of o) k.0)) same in omega (arith, who, session)) in
        omega (arith, d, few))
        (λ no.
        let there = in_found offer_keys (offers here then) z.0 z.1 i in
        let before : get (offers here f) z.0 ≡ Some z.1 = sym (offer_other z.0 no) ∙ there in
        let bad : true ≡ false = sym b.0 ∙ ap (is_new_offer here z.0.iface z.1) before ∙ same_itself here z.0.iface z.1 in
        absurd (cc))) in
        let sum = sum_keys offer_keys cost (offers here then) (each way_of out ++ filter (λ y. not (mine y)) (keys (offers here then))) offered_way in
        let split = sum_by-append cost (each way_of out) (filter (λ y. not (mine y)) (keys (offers here then))) in
        let none = none_left mine (length all) (keys (offers here then)) in
        let ways = sum_each cost way_of out in
        let most = sum_at_most (λ h. cost (way_of h)) (λ (h : LinkHop). length all) out (λ h i. cond_below (mine (way_of h)) (length all)) in
        omega (arith, flat, picked, sum, split, none, ways, most)

  pub send_pays : ((f : Facts) → slice_get w.nodes n ≡ Some f → f.paths ≡ empty) → length (flat_map (pay u) (sent q (At n l) w)) ≤ sum_by (λ (h : LinkHop). length all) out
  send_pays bare =
      sent_few q o w n l (sum_by (λ (h : LinkHop). length all) out)
      (λ f at. let alone = paths_alone q o w n l f (bare f at) in let few = few_paths f at (bare f at) in omega (arith, alone, few))
