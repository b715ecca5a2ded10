-- A host that sends already and says another flow is not refused: its address is the node's, and no row comes to the table of senders. So its paths
-- keep the new flow, and those of others the flow that they kept.
use Rattle.std.proofs.Common.{◌≡◌, ℕ, ◌<◌, suc, zero, List, [], ◌∷◌, length, Bool, true, false, Option, Some, None, inl, inr, ⊎_elim, sym, refl, ap, subst, ◌∙◌}
use Rattle.std.specs.Prelude.{slice_get, nat_le, ◌==◌, map as each, if◌then◌else◌}
use Rattle.std.specs.Ordering.{eq_by_cmp}
use Rattle.std.proofs.lemmas.Bool.{le-leb}
use Rattle.std.proofs.lemmas.List.{length-map}
use Rattle.std.proofs.lemmas.Option.{slice_get_within}
use Rattle.rsvp_base.specs.declared.addr.Addr.{Addr}
use Rattle.rsvp_base.specs.declared.iface.Iface.{Iface}
use Rattle.rsvp_base.specs.declared.session.Sender.{Sender}
use Rattle.rsvp_base.specs.Members.{In}
use Rattle.rsvp_base.specs.Orders.{senders as by_sender, sessions}
use Rattle.rsvp_base.specs.SessionLimits.{IsWithinSessionLimits, has_room_at, sessions_in}
use Rattle.rsvp_base.specs.Sets.{set_of}
use Rattle.rsvp_base.specs.Table.{Table, get, has, keys, put_in, size}
use Rattle.rsvp_base.specs.TokenBucket.{IsSound, TokenBucket}
use Rattle.rsvp_base.specs.Under.{under}
use Rattle.rsvp_base.proofs.Members.{any_in}
use Rattle.rsvp_base.proofs.SetLaws.{and_made}
use Rattle.rsvp_base.proofs.Tables.{either, get-put_in_other, get-put_in_same, tied_same}
use Rattle.rsvp_base.proofs.UnderLaws.{get-under}
use Rattle.router_rules.specs.declared.answers.LocalErr.{LocalErr}
use Rattle.router_rules.specs.declared.answers.LocalErr.TheVariants as local
use Rattle.router_rules.specs.Calls.{call_refusal, needs, unless}
use Rattle.router_rules.specs.Facts.{Facts, SenderKey, sender_keys}
use Rattle.router_rules.specs.Inputs.{Local, SendAs}
use Rattle.router_rules.specs.NodeConfig.{NodeConfig, is_addr, is_own}
use Rattle.router_rules.specs.Rule.{Outcome}
use Rattle.tree_model.specs.declared.hops.End.{End}
use Rattle.tree_model.specs.declared.hops.LinkHop.{LinkHop}
use Rattle.tree_model.specs.Networks.{Net, end_at, iface_of, node_of, node_of_end, owner}
use Rattle.tree_model.specs.Ranks.{longest}
use Rattle.tree_model.specs.Trees.{tree}
use Rattle.tree_model.proofs.Ifaces.{interfaces_are_ends}
use Rattle.network_model.specs.Locals.{IsLive}
use Rattle.network_model.specs.Sound.{IsPathAt}
use Rattle.network_model.specs.Steps.{At, outcome, still}
use Rattle.network_model.specs.Worlds.{World, config_of}
use Rattle.network_model.proofs.NodeLocals.{is_live}
use Rattle.network_model.proofs.Stepping.{facts_after_made}
use Rattle.laws_network.specs.Known.{IsSameNet}
use Rattle.laws_network.proofs.Known.{has_some, of_some}
use Rattle.laws_network.proofs.Standing.{own_iface}
use Rattle.settle_paths.proofs.LiveSenders.{senders_found}
use Rattle.settle_passes.specs.Calls.{SendsAt, after_send}
use Rattle.settle_passes.specs.Passes.{after_passes}
use Rattle.settle_passes.proofs.Called.{IsCalled, called, called_there, keys_alike}
use Rattle.settle_senders.specs.Flows.{HasItsFlows, IsTelling}
use Rattle.settle_senders.proofs.FlowCalls.{a_new_flow_is_said, put_has_same}
use Rattle.settle_senders.proofs.FlowsThere.{flows_are_set_up, flows_that_are_there_are_said}
use Rattle.settle_senders.proofs.OfferPasses.{same_after}

-- ---- the node that owns an address has an interface with it
owner_found : (ends : List End) (a : Addr) (n : ℕ) → owner ends a ≡ Some n → (e : ℕ) × (x : End) × (slice_get ends e ≡ Some x) × (x.node ≡ n) × (is_addr x.iface.addr a ≡ true)
owner_found [] a n h = absurd (cc)
owner_found (y ∷ ys) a n h = by (y.iface.addr.0 == a.0) refl h (owner_found ys a n)
  where
    by : (b : Bool) → (y.iface.addr.0 == a.0) ≡ b → (if b then Some y.node else owner ys a) ≡ Some n
        → (owner ys a ≡ Some n → (e : ℕ) × (x : End) × (slice_get ys e ≡ Some x) × (x.node ≡ n) × (is_addr x.iface.addr a ≡ true))
        → (e : ℕ) × (x : End) × (slice_get (y ∷ ys) e ≡ Some x) × (x.node ≡ n) × (is_addr x.iface.addr a ≡ true)
    by true is h rest = (0, y, refl, of_some y.node n h, is)
    by false is h rest = let r = rest h in (suc r.0, r.1, r.2, r.3, r.4)

at_place : {A : Type 0} (i : ℕ) (x : A) (xs : List A) → slice_get xs i ≡ Some x → In x xs
at_place i x [] h = absurd (cc)
at_place zero x (y ∷ ys) h = inl (sym (of_some y x h))
at_place (suc i) x (y ∷ ys) h = inr (at_place i x ys h)

owns : (q : ℕ) (net : Net) (trees : List (Addr × Addr)) (n : ℕ) (a : Addr) → owner net.ends a ≡ Some n → is_own (config_of q net trees n) a ≡ true
owns q net trees n a h =
    let e = owner_found net.ends a n h in
    let lt : e.0 < length net.ends = slice_get_within net.ends e.0 e.1 e.2 in
    let node : node_of net.ends e.0 ≡ n = ap node_of_end e.2 ∙ e.3 in
    let at : end_at net.ends n (iface_of net.ends e.0) ≡ Some e.0 =
    subst (λ (z : ℕ). end_at net.ends z (iface_of net.ends e.0) ≡ Some e.0) node ((interfaces_are_ends net).end_of_iface e.0 lt) in
    let on = own_iface q net trees n (iface_of net.ends e.0) e.0 at in
    let same : on.0 ≡ e.1 = of_some on.0 e.1 (sym on.1 ∙ e.2) in
    any_in (λ (i : Iface). is_addr i.addr a) on.0.iface (config_of q net trees n).ifaces (at_place (iface_of net.ends e.0) on.0.iface (config_of q net trees n).ifaces on.2)
    (ap (λ (z : End). is_addr z.iface.addr a) same ∙ e.4)

-- ---- a table has room for a row in the place of one that it has
has_room : (m : Table sender_keys TokenBucket) (k : SenderKey) (t : TokenBucket) → IsWithinSessionLimits by_sender m → has m k ≡ true → has_room_at by_sender (put_in m k t) k.0 ≡ true
has_room m k t within there =
    let same : (j : SenderKey) → has (put_in m k t) j ≡ has m j = (λ j. put_has_same None m k t j there) in
    let all : sessions_in by_sender (put_in m k t) ≡ sessions_in by_sender m =
    ap (λ (ks : List SenderKey). set_of {o = sessions} (each (λ (j : SenderKey). j.0) ks)) (keys_alike sender_keys (put_in m k t) m same) in
    let now : Table by_sender TokenBucket = under sessions by_sender (put_in m k t) k.0 in
    let before : Table by_sender TokenBucket = under sessions by_sender m k.0 in
    let alike : keys now ≡ keys before =
    keys_alike by_sender now before
    (λ x. ap is_there (get-under sessions by_sender (put_in m k t) k.0 x) ∙ same (k.0, x) ∙ sym (ap is_there (get-under sessions by_sender m k.0 x))) in
    let one : size now ≡ size before =
    sym (length-map now.rows (λ e. e.0)) ∙ ap (λ (ks : List Sender). length ks) alike ∙ length-map before.rows (λ e. e.0) in
    and_made _ _
    (ap (λ (z : _). nat_le (size z) 32) all ∙ le-leb (size (sessions_in by_sender m)) 32 within.all)
    (ap (λ (z : ℕ). nat_le z 16) one ∙ le-leb (size before) 16 (within.one k.0))
  where
    is_there : Option TokenBucket → Bool
    is_there None = false
    is_there (Some x) = true

module _ (q n : ℕ) (k : SenderKey) (t : TokenBucket) (w : World) (start : HasItsFlows q w) (fit : IsSound t) (sends : SendsAt w n k) where
  abbrev call : Local
  call = SendAs k.0 k.1 t

  abbrev told_world : World
  told_world = after_send q n k t w

  abbrev p : NodeConfig
  p = config_of q w.net w.trees n

  abbrev f : Facts
  f = sends.facts

  taken : call_refusal p call f ≡ None
  taken =
      let x = has_some (get f.senders k) sends.sends in
      ap (λ (b : Bool). needs b local.NotMine (needs (has_room_at by_sender (put_in f.senders k t) k.0) local.Full None))
      (owns q w.net w.trees n k.1.addr (start.paths.hosts.placed n f k x.0 sends.there x.1))
      ∙ ap (λ (b : Bool). needs b local.Full None) (has_room f.senders k t (start.paths.bounds.facts n f sends.there).limits.senders sends.sends)

  -- the sender sends the new flow
  live_new : IsLive told_world k t
  live_new =
      is_live told_world n (outcome q (At n call) w n f).facts k t (facts_after_made q (At n call) w n f sends.there)
      (ap (λ (o : Outcome). get o.facts.senders k) (called_there q w n call f)
      ∙ ap (λ (r : Option LocalErr). get (unless r (put_in f.senders k t) f.senders) k) taken
      ∙ get-put_in_same sender_keys f.senders k t)

  -- and others what they sent
  put_other : (r : Option LocalErr) (m : Table sender_keys TokenBucket) (j : SenderKey) → (j ≡ k → ⊥) → get (unless r (put_in m k t) m) j ≡ get m j
  put_other None m j other = either (eq_by_cmp sender_keys.cmp j k) (λ yes. absurd (other (tied_same sender_keys j k yes))) (λ no. get-put_in_other sender_keys m k t j no)
  put_other (Some e) m j other = refl

  live_other : (j : SenderKey) (v : TokenBucket) → (j ≡ k → ⊥) → IsLive w j v → IsLive told_world j v
  live_other j v other l =
      let g = senders_found w l.node l.senders l.at in
      let sent : get g.0.senders j ≡ Some v = ap (λ (z : Table sender_keys TokenBucket). get z j) g.2 ∙ l.sends in
      is_live told_world l.node (outcome q (At n call) w l.node g.0).facts j v (facts_after_made q (At n call) w l.node g.0 g.1)
      (⊎_elim (λ (z : outcome q (At n call) w l.node g.0 ≡ still g.0). ap (λ (o : Outcome). get o.facts.senders j) z)
      (λ (h : IsCalled q w n call l.node g.0). ap (λ (o : Outcome). get o.facts.senders j) h.is ∙ put_other (call_refusal (config_of q w.net w.trees l.node) call g.0) g.0.senders j other)
      (called q w n call l.node g.0) ∙ sent)

  told : IsTelling q told_world
  told = a_new_flow_is_said q n k t w (flows_that_are_there_are_said q w start) fit sends

  abbrev later : World
  later = after_passes q (longest w.net) told_world

  same_later : IsSameNet told_world later
  same_later = same_after q (longest w.net) told_world told.rooted

  kept_later : (j : SenderKey) (v : TokenBucket) (h : LinkHop) → IsLive told_world j v → In h (tree w.net.hops j.0.group j.1.addr) → IsPathAt later j v h
  kept_later j v h l there =
      (flows_are_set_up q told_world told).paths.complete j v h
      (record { node = l.node; senders = l.senders; at = same_later.senders l.node ∙ l.at; sends = l.sends })
      (subst (λ (z : Net). In h (tree z.hops j.0.group j.1.addr)) (sym same_later.net) there)

pub a_new_flow_is_kept : (q n : ℕ) (k : SenderKey) (t : TokenBucket) (w : World) → HasItsFlows q w → IsSound t → SendsAt w n k → (h : LinkHop) → In h (tree w.net.hops k.0.group k.1.addr)
    → IsPathAt (after_passes q (longest w.net) (after_send q n k t w)) k t h
a_new_flow_is_kept q n k t w start fit sends h there = kept_later q n k t w start fit sends k t h (live_new q n k t w start fit sends) there

pub other_flows_are_kept : (q n : ℕ) (k : SenderKey) (t : TokenBucket) (w : World) → HasItsFlows q w → IsSound t → SendsAt w n k → (j : SenderKey) (v : TokenBucket) (h : LinkHop)
    → (j ≡ k → ⊥) → IsLive w j v → In h (tree w.net.hops j.0.group j.1.addr) → IsPathAt (after_passes q (longest w.net) (after_send q n k t w)) j v h
other_flows_are_kept q n k t w start fit sends j v h other live there = kept_later q n k t w start fit sends j v h (live_other q n k t w start fit sends j v other live) there
