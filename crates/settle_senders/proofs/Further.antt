-- A Path that is sent when one is delivered comes from a node one hop further from the root: so after as many passes as the longest chain has hops none
-- is in flight.
-- where a Path in flight came from: a node that is so many hops from the root at least
use Rattle.std.proofs.Common.{◌≡◌, ℕ, zero, suc, ◌+◌, ◌≤◌, List, length, Bool, true, false, cond, Option, None, Some, ◌⊎◌, inl, inr, ⊎_elim, arith, sym, refl, ap, subst, ◌∙◌, drop}
use Rattle.std.specs.Prelude.{slice_get, map as each}
use Rattle.std.specs.List.{remove}
use Rattle.std.specs.Option.{option_map}
use Rattle.rsvp_base.specs.declared.session.Sender.{Sender}
use Rattle.rsvp_base.specs.declared.session.Session.{Session}
use Rattle.rsvp_base.specs.Members.{In}
use Rattle.rsvp_base.specs.Sets.{Set}
use Rattle.rsvp_base.specs.Table.{Table, get, has}
use Rattle.rsvp_base.specs.TokenBucket.{TokenBucket}
use Rattle.rsvp_base.proofs.Members.{in_append, in_each}
use Rattle.rsvp_base.proofs.Tables.{either}
use Rattle.rsvp_messages.specs.declared.message.Message.TheVariants as message
use Rattle.rsvp_messages.specs.declared.message.PathMsg.{PathMsg}
use Rattle.style_rules.specs.Toward.{or_else}
use Rattle.laws_bounds.specs.FactLaws.{is_way}
use Rattle.laws_bounds.specs.Frames.{on_advertised, on_senders}
use Rattle.laws_bounds.proofs.Framing.{act_advertised, act_senders}
use Rattle.laws_bounds.proofs.Offering.{offers_by_way}
use Rattle.laws_bounds.proofs.Tests.{not_new}
use Rattle.laws_steps.specs.SpeakingLaws.{IsOfOffer}
use Rattle.router_rules.specs.Facts.{Facts, PathState, SenderKey, sender_keys}
use Rattle.router_rules.specs.Inputs.{Came, Send, Spelt, Wait}
use Rattle.router_rules.specs.NodeConfig.{NodeConfig}
use Rattle.router_rules.specs.Offers.{Offer, offer_at, offers, own_offer, path_offer}
use Rattle.router_rules.specs.Rule.{Outcome}
use Rattle.router_rules.specs.Sends.{is_new_offer, path_send}
use Rattle.router_rules.specs.Steps.{facts_then, node_step}
use Rattle.tree_model.specs.Networks.{Net, end_at, iface_of, node_of}
use Rattle.tree_model.specs.Ranks.{longest}
use Rattle.tree_model.specs.Trees.{depth, inward, outward}
use Rattle.tree_model.proofs.Depths.{depth_and_rank_within_longest}
use Rattle.tree_model.proofs.Links.{one_sending_end_on_a_link}
use Rattle.tree_model.proofs.TreeLaws.{out_told}
use Rattle.network_model.specs.Bounds.{AreBounds}
use Rattle.network_model.specs.Events.{pass, passes}
use Rattle.network_model.specs.Steps.{Deliver, outcome, sent, step}
use Rattle.network_model.specs.Worlds.{Item, World, config_of}
use Rattle.network_model.proofs.Machines.{in_arrived, in_rest}
use Rattle.network_model.proofs.Stepping.{facts_after_made}
use Rattle.laws_network.proofs.Known.{of_some}
use Rattle.laws_network.proofs.Sends.{goes_to_peers, sent_by_rule}
use Rattle.laws_network.proofs.Speaking.{refreshes_are_marked, what_a_path_sent_says}
use Rattle.laws_network.proofs.Standing.{way_out}
use Rattle.settle_paths.specs.SoftPaths.{path_at}
use Rattle.settle_paths.proofs.SoftPaths.{IsBrought, path_found, path_made, path_source}
use Rattle.settle_passes.specs.Passes.{HasNoPathTear, after_passes}
use Rattle.settle_passes.proofs.Deliveries.{came_by_delivery, path_stays, tear_of_none}
use Rattle.settle_passes.proofs.Spreading.{after_deliveries, run_then}
use Rattle.settle_passes.proofs.Tearing.{IsFrom, drop_or, no_rest, tail_drop}
use Rattle.settle_senders.proofs.Serving.{deliveries_stay}

abbrev pub IsFromDepth : Net → ℕ → Item → Type 0
IsFromDepth net n y = (m : PathMsg) (x : Sender) (t : TokenBucket) → y.arrival ≡ Spelt (message.Path m) → m.sender ≡ Some (x, t) → IsFrom net (m.session, x) n y

less_deep : (net : Net) (i j : ℕ) → i ≤ j → (y : Item) → IsFromDepth net j y → IsFromDepth net i y
less_deep net i j le y from m x t spelt sender = let f = from m x t spelt sender in let deep = f.deep in record { end = f.end; leaves = f.leaves; to = f.to; deep = omega (arith, le, deep) }

-- ---- a Path that is sent when one is delivered comes from a node that is one hop further from the root
module _ (q : ℕ) (u : World) (bounds : AreBounds q u) (no_tear : HasNoPathTear u) (n : ℕ) (old : (y : Item) → slice_get u.flight 0 ≡ Some y → IsFromDepth u.net n y) where
  deep_by_path : (r : ℕ) (k : SenderKey) (x : PathState) → IsBrought q u.net (Deliver 0) u r k x → suc n ≤ depth u.net k.0.group k.1.addr r
  deep_by_path r k x new =
      let key : ◌≡◌ {A = SenderKey} (new.path.session, k.1) k = (λ j. (new.session j, k.1)) in
      let from = subst (λ (z : SenderKey). IsFrom u.net z n new.item) key (old new.item new.arrives new.path k.1 new.tspec new.spelt new.sender) in
      let into : inward u.net (node_of u.net.ends new.item.end) k.0.group k.1.addr ≡ Some new.item.end =
      subst (λ (z : ℕ). inward u.net z k.0.group k.1.addr ≡ Some new.item.end) (sym new.node) new.inward in
      let hop = (one_sending_end_on_a_link u.net bounds.net).hop k.0.group k.1.addr from.end new.item.end from.leaves from.to into in
      let along = (depth_and_rank_within_longest u.net bounds.net).along k.0.group k.1.addr hop.0 hop.1 in
      let a1 = ap (λ (z : ℕ). depth u.net k.0.group k.1.addr (node_of u.net.ends z)) hop.2 in
      let a2 = ap (λ (z : ℕ). depth u.net k.0.group k.1.addr (node_of u.net.ends z)) hop.3 in
      let a3 = ap (λ (z : ℕ). depth u.net k.0.group k.1.addr z) new.node in
      let deep = from.deep in
      omega arith

  -- so is a node at which the path of a sender changes
  same_or_deep : (r : ℕ) (f : Facts) → slice_get u.nodes r ≡ Some f → (k : SenderKey) → (get (outcome q (Deliver 0) u r f).facts.paths k ≡ get f.paths k) ⊎ (suc n ≤ depth u.net k.0.group k.1.addr r)
  same_or_deep r f at k = by (get (outcome q (Deliver 0) u r f).facts.paths k) (get f.paths k) refl refl
    where
      g : Facts
      g = (outcome q (Deliver 0) u r f).facts

      after : slice_get (step q (Deliver 0) u).nodes r ≡ Some g
      after = facts_after_made q (Deliver 0) u r f at

      by : (o p : Option PathState) → get g.paths k ≡ o → get f.paths k ≡ p → (get g.paths k ≡ get f.paths k) ⊎ (suc n ≤ depth u.net k.0.group k.1.addr r)
      by None None e h = inl (e ∙ sym h)
      by None (Some x) e h =
          let s = path_stays q 0 u bounds r f k x (tear_of_none u no_tear k) at h in
          let same : s.0 ≡ g = of_some s.0 g (sym s.1 ∙ after) in
          let bad : None ≡ Some s.2 = sym e ∙ ap (λ (z : Facts). get z.paths k) (sym same) ∙ s.3 in
          absurd (cc)
      by (Some x) p e h =
          ⊎_elim
          (λ (was : path_at u r k ≡ Some x).
          let z = path_found u r k x was in
          let same : z.0 ≡ f = of_some z.0 f (sym z.1 ∙ at) in
          inl (e ∙ sym z.2 ∙ ap (λ (d : Facts). get d.paths k) same))
          (λ (new : IsBrought q u.net (Deliver 0) u r k x). inr (deep_by_path r k x new))
          (path_source q (Deliver 0) u refl bounds r k x (path_made (step q (Deliver 0) u) r k x g after e))

  pub path_sent_from : (y : Item) (b : Bool) → In (y, b) (sent q (Deliver 0) u) → IsFromDepth u.net (suc n) y
  path_sent_from y b i m x t spelt sender =
      let r = sent_by_rule q (Deliver 0) u y b (message.Path m) refl i spelt in
      let p : NodeConfig = config_of q u.net u.trees r.node in
      let c : ℕ = u.clock + 0 in
      let s = node_step p p u.clock c r.by.input r.facts in
      let within = bounds.facts r.node r.facts r.there in
      let came = came_by_delivery q 0 u bounds r.node r.by.input r.by.came in
      either r.send.refresh
      (λ yes.
      let w = refreshes_are_marked.waited s within r.send r.sent yes in
      let bad : Wait w.0 w.1 ≡ Came (iface_of u.net.ends came.item.end) came.item.dst came.item.arrival = sym w.2 ∙ came.is in absurd (cc))
      (λ no.
      let w = what_a_path_sent_says.why s within r.send m r.sent r.says no in
      let o : IsOfOffer p (facts_then p p c r.by.input r.facts) r.send m = what_a_path_sent_says.says s within r.send m r.sent r.says in
      let said : message.Path m ≡ (path_send p false (w.0, w.1)).message = sym r.says ∙ ap (λ (z : Send). z.message) w.2 in
      let session : m.session ≡ w.0.session = path_said m _ said (λ (z : PathMsg). z.session) in
      let from_sender : m.sender ≡ Some (w.0.sender, w.1.tspec) = path_said m _ said (λ (z : PathMsg). z.sender) in
      let name : x ≡ w.0.sender = ap (λ (z : Sender × TokenBucket). z.0) (of_some (x, t) (w.0.sender, w.1.tspec) (sym sender ∙ from_sender)) in
      let e = way_out q u.net u.trees r.node bounds.net o.key.session o.key.iface o.key.sender o.there o.way in
      let of_session : o.key.session ≡ m.session = sym (ap (λ (z : PathMsg). z.session) o.is) in
      let of_sender : o.key.sender ≡ x = ap (λ (z : Sender × TokenBucket). z.0) (of_some (o.key.sender, o.offer.tspec) (x, t) (sym (ap (λ (z : PathMsg). z.sender) o.is) ∙ sender)) in
      let key : ◌≡◌ {A = SenderKey} (o.key.session, o.key.sender) (m.session, x) = (λ j. (of_session j, of_sender j)) in
      let deep : suc n ≤ depth u.net w.0.session.group w.0.sender.addr r.node = ⊎_elim
      (λ (same : get (outcome q (Deliver 0) u r.node r.facts).facts.paths (w.0.session, w.0.sender) ≡ get r.facts.paths (w.0.session, w.0.sender)).
      let now : Facts = facts_then p p c r.by.input r.facts in
      let paths : get now.paths (w.0.session, w.0.sender) ≡ get r.facts.paths (w.0.session, w.0.sender) =
      sym (ap (λ (z : Outcome). get z.facts.paths (w.0.session, w.0.sender)) r.by.is) ∙ same in
      let calm : on_senders r.by.input ≡ false = ap on_senders came.is in
      let quiet : on_advertised r.by.input ≡ false = ap on_advertised came.is in
      let senders : get now.senders (w.0.session, w.0.sender) ≡ get r.facts.senders (w.0.session, w.0.sender) =
      ap (λ (z : Table sender_keys TokenBucket). get z (w.0.session, w.0.sender)) (act_senders p c r.by.input r.facts calm) in
      let told : has now.advertised (w.0.session, w.0.sender) ≡ has r.facts.advertised (w.0.session, w.0.sender) =
      ap (λ (z : Set sender_keys). has z (w.0.session, w.0.sender)) (act_advertised p c r.by.input r.facts quiet) in
      let offer_same : offer_at now w.0 ≡ offer_at r.facts w.0 = (λ j. or_else (option_map (own_offer (told j)) (senders j)) (option_map path_offer (paths j))) in
      let old_offer : get (offers p r.facts) w.0 ≡ Some w.1 =
      offers_by_way p r.facts w.0 ∙ ap (λ (z : Option Offer). cond (is_way p w.0) z None) (sym offer_same) ∙ sym (offers_by_way p now w.0) ∙ w.3 in
      let bad : true ≡ false = sym w.4 ∙ ap (λ (z : Option Offer). is_new_offer p w.0.iface w.1 z) old_offer ∙ not_new p w.0.iface w.1 in
      absurd (cc))
      (λ (further : suc n ≤ depth u.net w.0.session.group w.0.sender.addr r.node). further)
      (same_or_deep r.node r.facts r.there (w.0.session, w.0.sender)) in
      record {
        end = e.0;
        leaves = subst (λ (z : ℕ). In e.0 (outward u.net z m.session.group x.addr)) (sym e.2) (subst (λ (z : SenderKey). In e.0 (outward u.net r.node z.0.group z.1.addr)) key e.3);
        to = goes_to_peers u.net (end_at u.net.ends r.node r.send.iface) e.0 r.send.dst y.end (ap (end_at u.net.ends r.node) o.iface ∙ e.1) r.to;
        deep = subst (λ (z : ℕ). suc n ≤ depth u.net m.session.group x.addr z) (sym e.2)
            (subst (λ (z : Session × Sender). suc n ≤ depth u.net z.0.group z.1.addr r.node) (λ j. (sym session j, sym name j)) deep);
      })
    where
      path_said : {B : Type 0} (a b : PathMsg) → message.Path a ≡ message.Path b → (g : PathMsg → B) → g a ≡ g b
      path_said a b e g = let same : a ≡ b = cc in ap g same

-- ---- passes, by which something holds on that tears no path down
module _ (q : ℕ) (P : World → Type 0) (within : (u : World) → P u → AreBounds q u) (none : (u : World) → P u → HasNoPathTear u) (go : (u : World) → P u → P (step q (Deliver 0) u)) where
  goes_on : (m : ℕ) (u : World) → P u → P (after_deliveries q m u)
  goes_on zero u r = r
  goes_on (suc m) u r = goes_on m (step q (Deliver 0) u) (go u r)

  -- what was in flight when a pass began is not any more, and what is comes from one hop further
  further : (j : ℕ) (o : World) (m : ℕ) (u : World) → P u → u.net ≡ o.net → ((y : Item) → In y u.flight → IsFromDepth o.net j y)
      → ((y : Item) → In y (drop m u.flight) → IsFromDepth o.net (suc j) y)
      → (y : Item) → In y (after_deliveries q m u).flight → IsFromDepth o.net (suc j) y
  further j o zero u r net all late y i = late y i
  further j o (suc m) u r net all late y i =
      let more : List Item = each (λ (x : Item × Bool). x.0) (sent q (Deliver 0) u) in
      let new : (z : Item) → In z more → IsFromDepth o.net (suc j) z =
      (λ z x.
      let d = in_each (λ (w : Item × Bool). w.0) z (sent q (Deliver 0) u) x in
      subst (λ (w : Net). IsFromDepth w (suc j) z) net
      (path_sent_from q u (within u r) (none u r) j (λ w e. subst (λ (v : Net). IsFromDepth v j w) (sym net) (all w (in_arrived (Deliver 0) u w e))) z d.0.1
      (subst (λ (w : Item). In (w, d.0.1) (sent q (Deliver 0) u)) (sym d.2) d.1))) in
      further j o m (step q (Deliver 0) u) (go u r) net
      (λ z x. ⊎_elim (λ (old : In z (remove u.flight 0)). all z (in_rest (Deliver 0) u z refl old)) (λ (n : In z more). less_deep o.net j (suc j) (omega arith) z (new z n))
      (in_append z (remove u.flight 0) more x))
      (λ z x. ⊎_elim (λ (old : In z (drop m (remove u.flight 0))). late z (tail_drop z m u.flight old)) (λ (n : In z more). new z n) (drop_or z m (remove u.flight 0) more x)) y i

  levels : (n j : ℕ) (u : World) → P u → ((y : Item) → In y u.flight → IsFromDepth u.net j y) → (y : Item) → In y (after_passes q n u).flight → IsFromDepth u.net (j + n) y
  levels zero j u r all y i = let sum : j ≡ j + zero = omega arith in subst (λ (z : ℕ). IsFromDepth u.net z y) sum (all y i)
  levels (suc n) j u r all y i =
      let m : ℕ = length u.flight in
      let v : World = after_deliveries q m u in
      let net : v.net ≡ u.net = deliveries_stay q m u in
      let sum : suc j + n ≡ j + suc n = omega arith in
      let up : (z : Item) → In z v.flight → IsFromDepth v.net (suc j) z =
      (λ z x. subst (λ (w : Net). IsFromDepth w (suc j) z) (sym net) (further j u m u r refl all (λ a b. absurd (no_rest a u.flight b)) z x)) in
      subst (λ (w : Net). IsFromDepth w (j + suc n) y) net
      (subst (λ (z : ℕ). IsFromDepth v.net z y) sum
      (levels n (suc j) v (goes_on m u r) up y (subst (λ (w : World). In y w.flight) (run_then q (pass q u) (passes q n v) u) i)))

  pub none_later : (n : ℕ) (w : World) → P w → longest w.net ≤ n → ((y : Item) → In y w.flight → IsFromDepth w.net 0 y) → (y : Item) (m : PathMsg) (x : Sender) (t : TokenBucket)
      → In y (after_passes q n w).flight → y.arrival ≡ Spelt (message.Path m) → m.sender ≡ Some (x, t) → ⊥
  none_later n w r long from y m x t i spelt sender =
      let f = levels n 0 w r from y i m x t spelt sender in
      let h = out_told w.net (node_of w.net.ends f.end) f.end m.session.group x.addr f.leaves in
      let depths = depth_and_rank_within_longest w.net (within w r).net in
      let along = depths.along m.session.group x.addr h.0 h.1 in
      let every = depths.every m.session.group x.addr (node_of w.net.ends h.0.to) in
      let node = ap (λ (z : ℕ). depth w.net m.session.group x.addr (node_of w.net.ends z)) h.2 in
      let deep = f.deep in
      omega (arith, long)
