-- PathTears of a sender that ended go one hop further with each pass, so that none is in flight in the end.
use Rattle.std.proofs.Common.{◌≡◌, ℕ, zero, suc, ◌+◌, ◌≤◌, List, [], ◌∷◌, ◌++◌, length, Bool, true, false, Option, Some, None, ◌⊎◌, inl, inr, ⊎_elim, arith, sym, refl, ap, subst, ◌∙◌, take, drop}
use Rattle.std.specs.Prelude.{slice_get, is_some, ◌||◌, map as each}
use Rattle.std.specs.List.{remove}
use Rattle.std.proofs.lemmas.Bool.{lt-ltb}
use Rattle.std.proofs.lemmas.Option.{slice_get_within}
use Rattle.rsvp_base.specs.Members.{In}
use Rattle.rsvp_base.specs.Table.{get, has}
use Rattle.rsvp_base.specs.TokenBucket.{TokenBucket}
use Rattle.rsvp_base.proofs.Fronts.{in_front}
use Rattle.rsvp_base.proofs.Members.{in_append, in_each, in_right}
use Rattle.rsvp_base.proofs.SetLaws.{and_made}
use Rattle.rsvp_messages.specs.declared.message.Message.TheVariants as message
use Rattle.rsvp_messages.specs.declared.message.PathTearMsg.{PathTearMsg}
use Rattle.laws_bounds.specs.FactLaws.{is_way}
use Rattle.laws_bounds.proofs.Knowing.{has-known}
use Rattle.laws_bounds.proofs.Tests.{came_told}
use Rattle.router_rules.specs.Facts.{Facts, SenderKey, PathState}
use Rattle.router_rules.specs.Inputs.{Came, Clear, Input, Spelt, Wait}
use Rattle.router_rules.specs.Known.{known}
use Rattle.router_rules.specs.NodeConfig.{NodeConfig}
use Rattle.router_rules.specs.Steps.{facts_then, node_step}
use Rattle.tree_model.specs.Networks.{Net, end_at, iface_of, node_of, node_of_end, peers}
use Rattle.tree_model.specs.Ranks.{longest}
use Rattle.tree_model.specs.Trees.{depth, inward, outward}
use Rattle.tree_model.proofs.Depths.{depth_and_rank_within_longest}
use Rattle.tree_model.proofs.Links.{one_sending_end_on_a_link}
use Rattle.tree_model.proofs.TreeLaws.{out_told, way_in_tested}
use Rattle.network_model.specs.Events.{pass, passes}
use Rattle.network_model.specs.Steps.{Deliver, ms_of, sent, step}
use Rattle.network_model.specs.Worlds.{Item, World, config_of}
use Rattle.network_model.proofs.Quiet.{IsCame}
use Rattle.network_model.proofs.Listing.{in_drop}
use Rattle.laws_network.specs.PathLaws.{IsReplaced, PathGoes, PathIsTorn}
use Rattle.laws_network.specs.SpeakingLaws.{IsOfGoneOffer}
use Rattle.laws_network.proofs.Known.{of_some, or_true}
use Rattle.laws_network.proofs.Learning.{how_a_path_fact_goes}
use Rattle.laws_network.proofs.Sends.{goes_to_peers, sent_by_rule}
use Rattle.laws_network.proofs.Speaking.{why_a_path_tear_is_sent}
use Rattle.laws_network.proofs.Standing.{same_end, to_there, way_out}
use Rattle.settle_passes.proofs.Leaving.{IsFading}
use Rattle.settle_passes.specs.Passes.{HasNoPathTear, after_passes}
use Rattle.settle_passes.proofs.Deliveries.{came_by_delivery, known_self}
use Rattle.settle_passes.proofs.Fading.{fading_next, fading_on, none_local, same_on, tears_later}
use Rattle.settle_passes.proofs.Spreading.{after_deliveries, run_then}

-- ---- where a PathTear in flight came from: an end by which the sender's tree leaves a node that is so many hops from the root at least
pub record IsFrom (net : Net) (d : SenderKey) (n : ℕ) (y : Item) : Type 0 where
  pub end : ℕ
  pub leaves : In end (outward net (node_of net.ends end) d.0.group d.1.addr)
  pub to : In y.end (peers net.links end)
  pub deep : n ≤ depth net d.0.group d.1.addr (node_of net.ends end)

abbrev pub TearsFrom : Net → SenderKey → ℕ → Item → Type 0
TearsFrom net d n y = (m : PathTearMsg) → y.arrival ≡ Spelt (message.PathTear m) → IsFrom net d n y

less_deep : (net : Net) (d : SenderKey) (n : ℕ) (y : Item) → TearsFrom net d (suc n) y → TearsFrom net d n y
less_deep net d n y from m spelt = let f = from m spelt in let deep = f.deep in record { end = f.end; leaves = f.leaves; to = f.to; deep = omega arith }

-- ---- what a delivery of one sends goes one hop further
module _ (q j : ℕ) (d : SenderKey) (u : World) (fading : IsFading q d u) (n : ℕ) (old : (y : Item) → slice_get u.flight j ≡ Some y → TearsFrom u.net d n y) where
  -- the node lost the path by a PathTear that came over a hop of the tree
  deep_by_tear : (r : ℕ) (f : Facts) (x : PathState) → slice_get u.nodes r ≡ Some f → get f.paths d ≡ Some x → (i : Input) → IsCame (Deliver j) u r i → PathIsTorn i d x
      → suc n ≤ depth u.net d.0.group d.1.addr r
  deep_by_tear r f x a h i c torn =
      let same : Came (iface_of u.net.ends c.item.end) c.item.dst c.item.arrival ≡ Came torn.at d.0.group (Spelt (message.PathTear torn.tear)) = sym c.is ∙ torn.came in
      let iface : iface_of u.net.ends c.item.end ≡ torn.at = cc in
      let spelt : c.item.arrival ≡ Spelt (message.PathTear torn.tear) = cc in
      let l = fading.left r f x a h in
      let by = (came_told (torn.at, torn.tear.hop.addr) x torn.hop).0 in
      let node : node_of u.net.ends c.item.end ≡ r = ap node_of_end c.there ∙ c.node in
      let lt = slice_get_within u.net.ends c.item.end c.end c.there in
      let lt' = to_there u.net fading.bounds.net d.0.group d.1.addr l.hop l.there in
      let end : c.item.end ≡ l.hop.to = same_end u.net c.item.end l.hop.to lt lt' (node ∙ sym l.node) (iface ∙ sym by ∙ l.iface) in
      let into : inward u.net (node_of u.net.ends c.item.end) d.0.group d.1.addr ≡ Some c.item.end =
      way_in_tested u.net fading.bounds.net (node_of u.net.ends c.item.end) c.item.end d.0.group d.1.addr (l.hop, l.there, sym end, refl) in
      let from = old c.item c.arrives torn.tear spelt in
      let hop = (one_sending_end_on_a_link u.net fading.bounds.net).hop d.0.group d.1.addr from.end c.item.end from.leaves from.to into in
      let along = (depth_and_rank_within_longest u.net fading.bounds.net).along d.0.group d.1.addr hop.0 hop.1 in
      let a1 = ap (λ (z : ℕ). depth u.net d.0.group d.1.addr (node_of u.net.ends z)) hop.2 in
      let a2 = ap (λ (z : ℕ). depth u.net d.0.group d.1.addr (node_of u.net.ends z)) hop.3 in
      let a3 = ap (λ (z : ℕ). depth u.net d.0.group d.1.addr z) node in
      let deep = from.deep in
      omega arith

  abbrev left_at : ℕ → Input → Facts → Facts
  left_at r i f = facts_then (config_of q u.net u.trees r) (config_of q u.net u.trees r) (u.clock + ms_of (Deliver j)) i f

  -- a node that knew the sender and knows it no more lost its path
  deep_by_loss : (r : ℕ) (f : Facts) → slice_get u.nodes r ≡ Some f → (i : Input) → IsCame (Deliver j) u r i → has (known f d.0) d.1 ≡ true
      → has (known (left_at r i f) d.0) d.1 ≡ false → suc n ≤ depth u.net d.0.group d.1.addr r
  deep_by_loss r f a i c before after = by (get f.senders d) (get f.paths d) refl refl (sym (has-known f d.0 d.1) ∙ before)
    where
      still_there : (x : PathState) → get (left_at r i f).paths d ≡ Some x → ⊥
      still_there x e =
          let sure : has (known (left_at r i f) d.0) d.1 ≡ true =
          has-known (left_at r i f) d.0 d.1 ∙ ap (λ (b : Bool). has (left_at r i f).senders d || b) (ap (λ (z : Option PathState). is_some z) e) ∙ or_true (has (left_at r i f).senders d) in
          let bad : true ≡ false = sym sure ∙ after in
          cc

      reason : (x : PathState) → get f.paths d ≡ Some x → PathGoes (u.clock + ms_of (Deliver j)) i d x → suc n ≤ depth u.net d.0.group d.1.addr r
      reason x h (inl dead) = let bad : Wait dead.ms dead.word ≡ Came (iface_of u.net.ends c.item.end) c.item.dst c.item.arrival = sym dead.waited ∙ c.is in absurd (cc)
      reason x h (inr (inl torn)) = deep_by_tear r f x a h i c torn
      reason x h (inr (inr clear)) = let bad : Clear ≡ Came (iface_of u.net.ends c.item.end) c.item.dst c.item.arrival = sym clear ∙ c.is in absurd (cc)

      by : (o : Option TokenBucket) (p : Option PathState) → get f.senders d ≡ o → get f.paths d ≡ p → (has f.senders d || has f.paths d) ≡ true → suc n ≤ depth u.net d.0.group d.1.addr r
      by (Some t) p e g sure = let bad : None ≡ Some t = sym (none_local q j d u fading r f a) ∙ e in absurd (cc)
      by None (Some x) e g sure =
          ⊎_elim (λ (stays : get (left_at r i f).paths d ≡ Some x). absurd (still_there x stays))
          (λ (other : IsReplaced (config_of q u.net u.trees r) (u.clock + ms_of (Deliver j)) i (left_at r i f) d
          ⊎ ((get (left_at r i f).paths d ≡ None) × PathGoes (u.clock + ms_of (Deliver j)) i d x)).
          ⊎_elim (λ (rep : IsReplaced (config_of q u.net u.trees r) (u.clock + ms_of (Deliver j)) i (left_at r i f) d). absurd (still_there rep.new rep.there))
          (λ (goes : (get (left_at r i f).paths d ≡ None) × PathGoes (u.clock + ms_of (Deliver j)) i d x). reason x g goes.1) other)
          (how_a_path_fact_goes (node_step (config_of q u.net u.trees r) (config_of q u.net u.trees r) u.clock (u.clock + ms_of (Deliver j)) i f) (fading.bounds.facts r f a) d x g)
      by None None e g sure = let bad : true ≡ false = sym sure ∙ (λ z. is_some (e z) || is_some (g z)) in absurd (cc)

  sent_from : (y : Item) (b : Bool) → In (y, b) (sent q (Deliver j) u) → In y (step q (Deliver j) u).flight → TearsFrom u.net d (suc n) y
  sent_from y b i there m spelt =
      let r = sent_by_rule q (Deliver j) u y b (message.PathTear m) refl i spelt in
      let p : NodeConfig = config_of q u.net u.trees r.node in
      let c : ℕ = u.clock + ms_of (Deliver j) in
      let o : IsOfGoneOffer p p r.facts (facts_then p p c r.by.input r.facts) r.send m =
      why_a_path_tear_is_sent (node_step p p u.clock c r.by.input r.facts) (fading.bounds.facts r.node r.facts r.there) r.send m r.sent r.says in
      let t = tears_later q j d u fading y m there spelt in
      let of_session : o.key.session ≡ d.0 = sym (ap (λ (z : PathTearMsg). z.session) o.is) ∙ t.0 in
      let of_sender : o.key.sender ≡ d.1 = of_some o.key.sender d.1 (sym (ap (λ (z : PathTearMsg). z.sender) o.is) ∙ t.1) in
      let same : ◌≡◌ {A = SenderKey} (o.key.session, o.key.sender) d = (λ z. (of_session z, of_sender z)) in
      let e = way_out q u.net u.trees r.node fading.bounds.net o.key.session o.key.iface o.key.sender o.there o.way in
      let before : has (known r.facts d.0) d.1 ≡ true = subst (λ (z : SenderKey). has (known r.facts z.0) z.1 ≡ true) same o.known_before in
      let after : has (known (facts_then p p c r.by.input r.facts) o.key.session) o.key.sender ≡ false =
      ⊎_elim
      (λ (away : is_way p o.key ≡ false). let out : is_way p o.key ≡ true = and_made _ _ (lt-ltb o.key.iface _ o.there) o.way in let bad : true ≡ false = sym out ∙ away in absurd (cc))
      (λ (lost : has (known (facts_then p p c r.by.input r.facts) o.key.session) o.key.sender ≡ false). lost) o.gone in
      let deep = deep_by_loss r.node r.facts r.there r.by.input (came_by_delivery q j u fading.bounds r.node r.by.input r.by.came) before
      (subst (λ (z : SenderKey). has (known (facts_then p p c r.by.input r.facts) z.0) z.1 ≡ false) same after) in
      record {
        end = e.0;
        leaves = subst (λ (z : ℕ). In e.0 (outward u.net z d.0.group d.1.addr)) (sym e.2) (subst (λ (z : SenderKey). In e.0 (outward u.net r.node z.0.group z.1.addr)) same e.3);
        to = goes_to_peers u.net (end_at u.net.ends r.node r.send.iface) e.0 r.send.dst y.end (ap (end_at u.net.ends r.node) o.iface ∙ e.1) r.to;
        deep = subst (λ (z : ℕ). suc n ≤ depth u.net d.0.group d.1.addr z) (sym e.2) deep;
      }

-- ---- lists
take_or : {A : Type 0} (x : A) (m : ℕ) (xs zs : List A) → In x (take m (xs ++ zs)) → In x (take m xs) ⊎ In x zs
take_or x zero xs zs i = absurd i
take_or x (suc m) [] zs i = inr (in_front x (suc m) zs i)
take_or x (suc m) (y ∷ xs) zs i =
    ⊎_elim (λ (e : x ≡ y). inl (inl e)) (λ (k : In x (take m (xs ++ zs))). ⊎_elim (λ (a : In x (take m xs)). inl (inr a)) (λ (b : In x zs). inr b) (take_or x m xs zs k)) i

pub drop_or : {A : Type 0} (x : A) (m : ℕ) (xs zs : List A) → In x (drop m (xs ++ zs)) → In x (drop m xs) ⊎ In x zs
drop_or x zero xs zs i = in_append x xs zs i
drop_or x (suc m) [] zs i = inr (in_drop x (suc m) zs i)
drop_or x (suc m) (y ∷ xs) zs i = drop_or x m xs zs i

tail_take : {A : Type 0} (x : A) (m : ℕ) (xs : List A) → In x (take m (remove xs 0)) → In x (take (suc m) xs)
tail_take x m [] i = absurd (in_front x m [] i)
tail_take x m (y ∷ ys) i = inr i

pub tail_drop : {A : Type 0} (x : A) (m : ℕ) (xs : List A) → In x (drop m (remove xs 0)) → In x (drop (suc m) xs)
tail_drop x m [] i = absurd (in_drop x m [] i)
tail_drop x m (y ∷ ys) i = i

head_in : {A : Type 0} (x : A) (m : ℕ) (xs : List A) → slice_get xs 0 ≡ Some x → In x (take (suc m) xs)
head_in x m [] e = absurd (cc)
head_in x m (y ∷ ys) e = inl (sym (of_some y x e))

pub no_rest : {A : Type 0} (x : A) (xs : List A) → In x (drop (length xs) xs) → ⊥
no_rest x [] i = i
no_rest x (y ∷ ys) i = no_rest x ys i

-- ---- passes
module _ (q : ℕ) (d : SenderKey) where
  further : (m : ℕ) (u : World) → IsFading q d u → (n : ℕ) → ((y : Item) → In y (take m u.flight) → TearsFrom u.net d n y) → ((y : Item) → In y (drop m u.flight) → TearsFrom u.net d (suc n) y)
      → (y : Item) → In y (after_deliveries q m u).flight → TearsFrom u.net d (suc n) y
  further zero u f n a b y i = b y i
  further (suc m) u f n a b y i =
      let more : List Item = each (λ (x : Item × Bool). x.0) (sent q (Deliver 0) u) in
      let new : (z : Item) → In z more → TearsFrom u.net d (suc n) z =
      (λ z k.
      let r = in_each (λ (x : Item × Bool). x.0) z (sent q (Deliver 0) u) k in
      sent_from q 0 d u f n (λ x e. a x (head_in x m u.flight e)) z r.0.1 (subst (λ (w : Item). In (w, r.0.1) (sent q (Deliver 0) u)) (sym r.2) r.1) (in_right z (remove u.flight 0) more k)) in
      further m (step q (Deliver 0) u) (fading_next q 0 d u f) n
      (λ z k. ⊎_elim (λ (o : In z (take m (remove u.flight 0))). a z (tail_take z m u.flight o)) (λ (s : In z more). less_deep u.net d n z (new z s)) (take_or z m (remove u.flight 0) more k))
      (λ z k. ⊎_elim (λ (o : In z (drop m (remove u.flight 0))). b z (tail_drop z m u.flight o)) (λ (s : In z more). new z s) (drop_or z m (remove u.flight 0) more k)) y i

  levels : (m n : ℕ) (u : World) → IsFading q d u → ((y : Item) → In y u.flight → TearsFrom u.net d n y) → (y : Item) → In y (after_passes q m u).flight → TearsFrom u.net d (n + m) y
  levels zero n u f a y i = let sum : n ≡ n + zero = omega arith in subst (λ (z : ℕ). TearsFrom u.net d z y) sum (a y i)
  levels (suc m) n u f a y i =
      let v : World = after_deliveries q (length u.flight) u in
      let net : v.net ≡ u.net = (same_on q d (length u.flight) u u (known_self q u f.bounds).same f).net in
      let one_on : (z : Item) → In z v.flight → TearsFrom v.net d (suc n) z =
      (λ z k. subst (λ (w : Net). TearsFrom w d (suc n) z) (sym net)
      (further (length u.flight) u f n (λ x o. a x (in_front x (length u.flight) u.flight o)) (λ x o. absurd (no_rest x u.flight o)) z k)) in
      let same : after_passes q (suc m) u ≡ after_passes q m v = run_then q (pass q u) (passes q m v) u in
      let sum : suc n + m ≡ n + suc m = omega arith in
      subst (λ (w : Net). TearsFrom w d (n + suc m) y) net
      (subst (λ (z : ℕ). TearsFrom v.net d z y) sum
      (levels m (suc n) v (fading_on q d (length u.flight) u f) one_on y (subst (λ (w : World). In y w.flight) same i)))

  -- after H passes none is in flight: from no node that is H hops away a hop goes on
  pub tears_gone : (u : World) → IsFading q d u → ((y : Item) → In y u.flight → TearsFrom u.net d 0 y) → HasNoPathTear (after_passes q (longest u.net) u)
  tears_gone u f a y m i spelt =
      let from = levels (longest u.net) 0 u f a y i m spelt in
      let h = out_told u.net (node_of u.net.ends from.end) from.end d.0.group d.1.addr from.leaves in
      let depths = depth_and_rank_within_longest u.net f.bounds.net in
      let along = depths.along d.0.group d.1.addr h.0 h.1 in
      let every = depths.every d.0.group d.1.addr (node_of u.net.ends h.0.to) in
      let node = ap (λ (z : ℕ). depth u.net d.0.group d.1.addr (node_of u.net.ends z)) h.2 in
      let deep = from.deep in
      absurd (omega arith)
