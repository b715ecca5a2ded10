-- Calls, before anything is delivered, keep a network fresh.
use Rattle.std.proofs.Common.{◌≡◌, ℕ, ◌+◌, List, Bool, true, false, cond, Option, None, Some, ◌⊎◌, inl, inr, ⊎_elim, sym, refl, ap, subst, ◌∙◌}
use Rattle.std.specs.Ordering.{eq_by_cmp}
use Rattle.std.specs.Prelude.{is_some, map as each, slice_get, ◌||◌}
use Rattle.rsvp_base.specs.declared.session.Sender.{Sender}
use Rattle.rsvp_base.specs.declared.session.Session.{Session}
use Rattle.rsvp_base.specs.declared.style.StyleKind.{StyleKind}
use Rattle.rsvp_base.specs.declared.style.StyleKind.TheVariants.{Wild, Fixed, Shared}
use Rattle.rsvp_base.specs.Members.{In}
use Rattle.rsvp_base.specs.Table.{changed, empty, get, has}
use Rattle.rsvp_base.specs.TokenBucket.{TokenBucket}
use Rattle.rsvp_base.proofs.Members.{in_append, in_each, in_left, in_right, to_each}
use Rattle.rsvp_base.proofs.Tables.{either, got_put_in, get-put_in_other, tied_same}
use Rattle.laws_bounds.specs.SendLaws.{IsConf, IsError, IsPath, IsPathTear, IsResv, IsResvTear}
use Rattle.laws_bounds.proofs.Knowing.{has-known, known_and_via}
use Rattle.laws_bounds.proofs.Offering.{offers_by_way}
use Rattle.laws_bounds.proofs.Stepping.{offered, offered_is_known, send_told}
use Rattle.router_rules.specs.Act.{act}
use Rattle.router_rules.specs.declared.answers.LocalErr.{LocalErr}
use Rattle.router_rules.specs.Calls.{call_refusal, senders_with, unless}
use Rattle.router_rules.specs.Facts.{Facts, PathState, Paths, ResvTables, SenderKey, no_resvs, sender_keys, each_table, table_of}
use Rattle.router_rules.specs.Forgetting.{remembered}
use Rattle.router_rules.specs.Inputs.{AdvertAs, Call, Change, DropAs, Local, QuitAll, Send, SendAs, Spelt, WantAs}
use Rattle.router_rules.specs.Known.{Lane, known, lanes}
use Rattle.router_rules.specs.Lines.{LineKey}
use Rattle.router_rules.specs.NodeConfig.{NodeConfig}
use Rattle.router_rules.specs.Offers.{Offer, offer_at, offers}
use Rattle.router_rules.specs.RsvpMessages.declared.message.Message.TheVariants as message
use Rattle.router_rules.specs.RsvpMessages.declared.message.PathMsg.{PathMsg}
use Rattle.router_rules.specs.Rule.{Outcome, settled}
use Rattle.router_rules.specs.Steps.{IsFitCall, facts_then}
use Rattle.tree_model.specs.declared.hops.LinkHop.{LinkHop}
use Rattle.tree_model.specs.Goals.{DemandsFit}
use Rattle.tree_model.specs.Networks.{node_of}
use Rattle.tree_model.specs.Trees.{tree}
use Rattle.network_model.specs.Bounds.{AreHosts}
use Rattle.network_model.specs.Links.{is_group}
use Rattle.network_model.specs.Locals.{locals_of}
use Rattle.network_model.specs.Steps.{At, ms_of, outcome, sent, step, still}
use Rattle.network_model.specs.Worlds.{Item, World, config_of}
use Rattle.network_model.proofs.Changing.{what_is_sent_is_copied}
use Rattle.network_model.proofs.NodeLocals.{is_live}
use Rattle.network_model.proofs.Stepping.{facts_after_found, facts_after_made}
use Rattle.laws_network.proofs.Keeping.{each_step_keeps_a_world_within_bounds}
use Rattle.laws_network.proofs.Known.{has_some, of_some}
use Rattle.laws_network.specs.Sources.{IsLocalOffer, IsPathOffer}
use Rattle.settle_paths.proofs.LiveSenders.{one_flow}
use Rattle.settle_paths.proofs.PathSends.{IsPathSent}
use Rattle.settle_passes.specs.Passes.{IsPathOver}
use Rattle.settle_passes.proofs.Called.{IsCalled, called, path_sent_by_call, sent_by_call}
use Rattle.settle_passes.proofs.Deliveries.{key as offer_key, offered_over}
use Rattle.settle_senders.proofs.Knowing.{own_known}
use Rattle.settle_refreshes.specs.Plain.{IsPlainCall}
use Rattle.settle_refreshes.specs.Refreshes.{NobodyWaits}
use Rattle.settle_refreshes.proofs.Loud.{nobody_waits_loud}
use Rattle.settle_openings.specs.Fresh.{IsEmpty, IsFirstCall, IsFresh}
use Rattle.settle_openings.specs.Opening.{IsFirstPath, IsUntouched}

-- ---- where nothing was asked yet
pub an_empty_network_is_fresh : (q : ℕ) (w : World) → IsEmpty q w → IsFresh q w
an_empty_network_is_fresh q w e = record {
  bounds = e.bounds;
  paths = λ n f at. ap (λ (z : Facts). z.paths) (e.nodes n f at);
  resvs = λ n f at. ap (λ (z : Facts). z.resvs) (e.nodes n f at);
  walls = λ n f at. ap (λ (z : Facts). z.walls) (e.nodes n f at);
  unmarked = λ n f k x at h. let bad : None ≡ Some x = ap (λ (z : Facts). get z.wants k) (sym (e.nodes n f at)) ∙ h in absurd (cc);
  sent = λ y i. absurd (subst (λ (z : List Item). In y z) e.flight i);
  all = λ n f k t h at sends there node. let bad : None ≡ Some t = ap (λ (z : Facts). get z.senders k) (sym (e.nodes n f at)) ∙ sends in absurd (cc);
}

-- ---- where all fits, a fresh network is untouched
pub a_fresh_network_is_untouched : (q : ℕ) (w : World) → IsFresh q w → AreHosts w → DemandsFit w.net (locals_of w) → IsUntouched q w
a_fresh_network_is_untouched q w r hosts fit = record {
  bounds = r.bounds;
  hosts = hosts;
  fit = fit;
  paths = r.paths;
  resvs = r.resvs;
  walls = r.walls;
  unmarked = r.unmarked;
  sent = r.sent;
  all = λ k t h f live there at sends.
      let y = has_some (get f.senders k) sends in
      let same : y.0 ≡ t = one_flow w hosts k y.0 t (is_live w (node_of w.net.ends h.from) f k y.0 at y.1) live in
      subst (λ (z : TokenBucket). IsPathOver w k z h) same (r.all (node_of w.net.ends h.from) f k y.0 h at y.1 there refl);
}

-- ---- a call
fit_call : (w : World) (n : ℕ) (l : Local) → IsFirstCall w n l → IsFitCall l
fit_call w n (SendAs s x t) first = first.0
fit_call w n (WantAs s st names flow mark) first = (first.0, first.1)
fit_call w n (DropAs s x) first = absurd first
fit_call w n (AdvertAs s x) first = absurd first
fit_call w n (QuitAll s) first = absurd first

plain_call : (w : World) (n : ℕ) (l : Local) → IsFirstCall w n l → IsPlainCall l
plain_call w n (SendAs s x t) first = tt
plain_call w n (WantAs s st names flow mark) first = first.2
plain_call w n (DropAs s x) first = absurd first
plain_call w n (AdvertAs s x) first = absurd first
plain_call w n (QuitAll s) first = absurd first

-- a sender that there was stays, with its flow
kept_sender : (w : World) (n : ℕ) (l : Local) → IsFirstCall w n l → (f : Facts) → slice_get w.nodes n ≡ Some f → (o : Option LocalErr) (k : SenderKey) (t : TokenBucket) → get f.senders k ≡ Some t
    → get (unless o (senders_with l f.senders) f.senders) k ≡ Some t
kept_sender w n l first f at (Some e) k t is = is
kept_sender w n (SendAs s x t') first f at None k t is =
    either (eq_by_cmp sender_keys.cmp k (s, x))
    (λ yes.
    let same : k ≡ (s, x) = tied_same sender_keys k (s, x) yes in
    let bad : false ≡ true = sym (first.2 f at) ∙ ap (has f.senders) (sym same) ∙ ap (λ (o : Option TokenBucket). is_some o) is in
    absurd (cc))
    (λ other. get-put_in_other sender_keys f.senders (s, x) t' k other ∙ is)
kept_sender w n (WantAs s st names flow mark) first f at None k t is = is
kept_sender w n (DropAs s x) first f at None k t is = absurd first
kept_sender w n (AdvertAs s x) first f at None k t is = absurd first
kept_sender w n (QuitAll s) first f at None k t is = absurd first

-- one that there is was there, or is the new one, which sends to a group
record IsNewOne (w : World) (n : ℕ) (l : Local) (f : Facts) (k : SenderKey) (t : TokenBucket) : Type 0 where
  group : is_group k.0.group ≡ true
  lacks : has f.senders k ≡ false

new_sender : (w : World) (n : ℕ) (l : Local) → IsFirstCall w n l → (f : Facts) → slice_get w.nodes n ≡ Some f → (o : Option LocalErr) (k : SenderKey) (t : TokenBucket)
    → get (unless o (senders_with l f.senders) f.senders) k ≡ Some t → (get f.senders k ≡ Some t) ⊎ IsNewOne w n l f k t
new_sender w n l first f at (Some e) k t is = inl is
new_sender w n (SendAs s x t') first f at None k t is =
    ⊎_elim
    (λ (here : (k ≡ (s, x)) × (t ≡ t')). inr (record { group = ap (λ (z : SenderKey). is_group z.0.group) here.0 ∙ first.1; lacks = ap (has f.senders) here.0 ∙ first.2 f at }))
    (λ (old : get f.senders k ≡ Some t). inl old) (got_put_in sender_keys f.senders (s, x) t' k t is)
new_sender w n (WantAs s st names flow mark) first f at None k t is = inl is
new_sender w n (DropAs s x) first f at None k t is = absurd first
new_sender w n (AdvertAs s x) first f at None k t is = absurd first
new_sender w n (QuitAll s) first f at None k t is = absurd first

module _ (q n : ℕ) (l : Local) (w : World) (r : IsFresh q w) (first : IsFirstCall w n l) where
  abbrev asked : World
  asked = step q (At n l) w

  abbrev then : ℕ → Facts → Facts
  then m f = (outcome q (At n l) w m f).facts

  -- ---- what is left at each node
  paths_are : (m : ℕ) (f : Facts) → slice_get w.nodes m ≡ Some f → (then m f).paths ≡ empty
  paths_are m f at =
      ⊎_elim (λ (h : outcome q (At n l) w m f ≡ still f). ap (λ (o : Outcome). o.facts.paths) h) (λ (h : IsCalled q w n l m f). ap (λ (o : Outcome). o.facts.paths) h.is) (called q w n l m f)
      ∙ r.paths m f at

  walls_are : (m : ℕ) (f : Facts) → slice_get w.nodes m ≡ Some f → (then m f).walls ≡ empty
  walls_are m f at =
      ⊎_elim (λ (h : outcome q (At n l) w m f ≡ still f). ap (λ (o : Outcome). o.facts.walls) h) (λ (h : IsCalled q w n l m f). ap (λ (o : Outcome). o.facts.walls) h.is) (called q w n l m f)
      ∙ r.walls m f at

  resvs_are : (m : ℕ) (f : Facts) → slice_get w.nodes m ≡ Some f → (then m f).resvs ≡ no_resvs
  resvs_are m f at =
      ⊎_elim (λ (h : outcome q (At n l) w m f ≡ still f). ap (λ (o : Outcome). o.facts.resvs) h ∙ r.resvs m f at)
      (λ (h : IsCalled q w n l m f).
      let p : NodeConfig = config_of q w.net w.trees m in
      let acted : Facts = (act p (w.clock + ms_of (At n l)) (Call l) f).facts in
      ap (λ (o : Outcome). o.facts.resvs) h.is ∙ ap (λ (ts : ResvTables). each_table (λ st t. changed (remembered st f acted) t) ts) (r.resvs m f at))
      (called q w n l m f)

  sender_on : (m : ℕ) (f : Facts) → slice_get w.nodes m ≡ Some f → (k : SenderKey) (t : TokenBucket) → get f.senders k ≡ Some t → get (then m f).senders k ≡ Some t
  sender_on m f at k t is =
      ⊎_elim (λ (h : outcome q (At n l) w m f ≡ still f). ap (λ (o : Outcome). get o.facts.senders k) h ∙ is)
      (λ (h : IsCalled q w n l m f).
      ap (λ (o : Outcome). get o.facts.senders k) h.is
      ∙ kept_sender w n l first f (ap (slice_get w.nodes) h.node ∙ at) (call_refusal (config_of q w.net w.trees m) l f) k t is)
      (called q w n l m f)

  known_on : (m : ℕ) (f : Facts) → slice_get w.nodes m ≡ Some f → (s : Session) (x : Sender) → has (known f s) x ≡ true → has (known (then m f) s) x ≡ true
  known_on m f at s x sure =
      let none : has f.paths (s, x) ≡ false = ap (λ (z : Paths). has z (s, x)) (r.paths m f at) in
      let own : has f.senders (s, x) ≡ true = only_left (has f.senders (s, x)) (has f.paths (s, x)) none (sym (has-known f s x) ∙ sure) in
      let t = has_some (get f.senders (s, x)) own in
      own_known (then m f) s x t.0 (sender_on m f at (s, x) t.0 t.1)
    where
      only_left : (a b : Bool) → b ≡ false → (a || b) ≡ true → a ≡ true
      only_left true b lacks e = refl
      only_left false b lacks e = let bad : true ≡ false = sym e ∙ lacks in absurd (cc)

  -- ---- what is sent
  no_lane : {A : Type 0} (g : Facts) → g.paths ≡ empty → (lane : Lane) → has (lanes g) lane ≡ true → A
  no_lane g none lane e =
      let c = (known_and_via.lanes_by g lane).0 e in
      let bad : None ≡ Some c.1.path = ap (λ (z : Paths). get z (lane.session, c.0)) (sym none) ∙ c.1.there in
      absurd (cc)

  sent_first : (y : Item) (b : Bool) → In (y, b) (sent q (At n l) w) → IsFirstPath q asked y
  sent_first y b i =
      let c = (what_is_sent_is_copied q (At n l) w (y, b)).0 i in
      let spelt : y.arrival ≡ Spelt c.send.message = ap (λ (z : Item × Bool). z.0.arrival) c.is in
      let d = sent_by_call q w n l y b c.send.message i spelt in
      let p : NodeConfig = config_of q w.net w.trees d.node in
      let clock : ℕ = w.clock + ms_of (At n l) in
      let change : Change = act p clock (Call l) d.facts in
      let after : Facts = settled p clock d.facts change.facts in
      let is_then : (then d.node d.facts) ≡ facts_then p p clock (Call l) d.facts = ap (λ (o : Outcome). o.facts) d.by.is in
      let none : after.paths ≡ empty = r.paths d.node d.facts d.there in
      ⊎_elim
      (λ (x : IsPathTear p p d.facts after change d.send).
      let o = has_some (get (offers p d.facts) x.key) x.was in
      let of = offered p d.facts x.key o.0 o.1 in
      let knows : has (known (facts_then p p clock (Call l) d.facts) x.key.session) x.key.sender ≡ true =
      ap (λ (z : Facts). has (known z x.key.session) x.key.sender) (sym is_then) ∙ known_on d.node d.facts d.there x.key.session x.key.sender of.known_one in
      let there : has (offers p after) x.key ≡ true =
      ap (λ (z : Option Offer). is_some z) (offers_by_way p after x.key ∙ ap (λ (z : Bool). cond z (offer_at after x.key) None) of.way) ∙ offered_is_known after x.key ∙ knows in
      let bad : true ≡ false = sym there ∙ x.gone in
      absurd (cc))
      (λ k. ⊎_elim (λ (x : IsResvTear p p d.facts after change d.send). no_lane d.facts (r.paths d.node d.facts d.there) x.lane x.was)
      (λ k. ⊎_elim (λ (x : IsError p p d.facts after change d.send). absurd x.made)
      (λ k. ⊎_elim (λ (x : IsConf p p d.facts after change d.send). absurd x.made)
      (λ k. ⊎_elim
      (λ (x : IsPath p p d.facts after change d.send).
      let is : y.arrival ≡ Spelt (message.Path _) = spelt ∙ ap Spelt (sym d.says ∙ ap (λ (z : Send). z.message) x.is) in
      first_path y _ is (path_sent_by_call q w n l r.bounds y b _ i is))
      (λ (x : IsResv p p d.facts after change d.send). no_lane after none x.lane x.there) k) k) k) k)
      (send_told p p clock (Call l) d.facts d.send d.sent)
    where
      first_path : (y : Item) (m : PathMsg) → y.arrival ≡ Spelt (message.Path m) → IsPathSent q w.net asked y m → IsFirstPath q asked y
      first_path y m spelt x =
          let f = facts_after_found q (At n l) w x.node x.facts x.after in
          record {
            node = x.node;
            facts = x.facts;
            there = x.after;
            path = m;
            spelt = spelt;
            sender = x.sender;
            tspec = x.tspec;
            of = x.of;
            sends = ⊎_elim (λ (own : get x.facts.senders (m.session, x.sender) ≡ Some x.tspec). own)
                (λ (path : (z : PathState) × (get x.facts.paths (m.session, x.sender) ≡ Some z) × (x.tspec ≡ z.tspec)).
                let bad : None ≡ Some path.0 = ap (λ (z : Paths). get z (m.session, x.sender)) (sym (ap (λ (z : Facts). z.paths) f.2 ∙ paths_are x.node f.0 f.1)) ∙ path.1 in
                absurd (cc)) x.source;
            end = x.end;
            at = x.at;
            leaves = x.leaves;
            hop = x.hop;
            to = x.to;
            dst = x.dst;
            period = x.period;
          }

  sent_on : (y : Item) → IsFirstPath q w y → IsFirstPath q asked y
  sent_on y x = record {
    node = x.node;
    facts = then x.node x.facts;
    there = facts_after_made q (At n l) w x.node x.facts x.there;
    path = x.path;
    spelt = x.spelt;
    sender = x.sender;
    tspec = x.tspec;
    of = x.of;
    sends = sender_on x.node x.facts x.there (x.path.session, x.sender) x.tspec x.sends;
    end = x.end;
    at = x.at;
    leaves = x.leaves;
    hop = x.hop;
    to = x.to;
    dst = x.dst;
    period = x.period;
  }

  -- ---- over each hop out of the node of a sender its Path is in flight
  over_on : (k : SenderKey) (t : TokenBucket) (h : LinkHop) → IsPathOver w k t h → IsPathOver asked k t h
  over_on k t h y = record {
    item = y.item;
    flight = in_left y.item w.flight (each (λ (z : Item × Bool). z.0) (sent q (At n l) w)) y.flight;
    end = y.end;
    dst = y.dst;
    path = y.path;
    spelt = y.spelt;
    session = y.session;
    sender = y.sender;
  }

  over_new : (k : SenderKey) (t : TokenBucket) (h : LinkHop) (f : Facts) → In h (tree w.net.hops k.0.group k.1.addr) → slice_get w.nodes (node_of w.net.ends h.from) ≡ Some f
      → IsCalled q w n l (node_of w.net.ends h.from) f → get (then (node_of w.net.ends h.from) f).senders k ≡ Some t → IsNewOne w n l f k t → IsPathOver asked k t h
  over_new k t h f there at by is new =
      let m : ℕ = node_of w.net.ends h.from in
      let none : has f.paths k ≡ false = ap (λ (z : Paths). has z k) (r.paths m f at) in
      let o = offered_over q (At n l) w r.bounds k h there new.group f
      (record { facts = at; input = Call l; loud = refl; rule_is = by.is; before = has-known f k.0 k.1 ∙ (λ j. new.lacks j || none j); after = own_known (then m f) k.0 k.1 t is }) in
      let same : o.offer.tspec ≡ t =
      ⊎_elim (λ (a : IsLocalOffer (then m f) (offer_key q (At n l) w r.bounds k h there) o.offer). of_some o.offer.tspec t (sym a.there ∙ is))
      (λ (a : IsPathOffer (then m f) (offer_key q (At n l) w r.bounds k h there) o.offer).
      let bad : None ≡ Some a.path = ap (λ (z : Paths). get z k) (sym (paths_are m f at)) ∙ a.there in absurd (cc)) o.source in
      record {
        item = _;
        flight = in_right _ w.flight (each (λ (z : Item × Bool). z.0) (sent q (At n l) w)) (to_each (λ (z : Item × Bool). z.0) _ (sent q (At n l) w) o.sent_one);
        end = refl;
        dst = refl;
        path = _;
        spelt = refl;
        session = refl;
        sender = ap (λ (z : TokenBucket). Some (k.1, z)) same;
      }

  all_then : (m : ℕ) (g : Facts) (k : SenderKey) (t : TokenBucket) (h : LinkHop) → slice_get asked.nodes m ≡ Some g → get g.senders k ≡ Some t → In h (tree w.net.hops k.0.group k.1.addr)
      → node_of w.net.ends h.from ≡ m → IsPathOver asked k t h
  all_then m g k t h at is there node =
      let from : ℕ = node_of w.net.ends h.from in
      let f = facts_after_found q (At n l) w from g (ap (slice_get asked.nodes) node ∙ at) in
      let is' : get (then from f.0).senders k ≡ Some t = ap (λ (z : Facts). get z.senders k) (sym f.2) ∙ is in
      let old : get f.0.senders k ≡ Some t → IsPathOver asked k t h = (λ e. over_on k t h (r.all from f.0 k t h f.1 e there refl)) in
      ⊎_elim (λ (z : outcome q (At n l) w from f.0 ≡ still f.0). old (sym (ap (λ (o : Outcome). get o.facts.senders k) z) ∙ is'))
      (λ (z : IsCalled q w n l from f.0).
      ⊎_elim old (λ (new : IsNewOne w n l f.0 k t). over_new k t h f.0 there f.1 z is' new)
      (new_sender w n l first f.0 (ap (slice_get w.nodes) z.node ∙ f.1) (call_refusal (config_of q w.net w.trees from) l f.0) k t (sym (ap (λ (o : Outcome). get o.facts.senders k) z.is) ∙ is')))
      (called q w n l from f.0)

  -- ---- nobody waits to be confirmed
  nobody : NobodyWaits w
  nobody = record {
    resvs = λ m f st k d at e.
        let bad : None ≡ Some d = sym (none_there st k) ∙ ap (λ (z : ResvTables). get (table_of st z) k) (sym (r.resvs m f at)) ∙ e in absurd (cc);
    wants = r.unmarked;
    items = λ y m i spelt. let x = r.sent y i in let bad : Spelt (message.Path x.path) ≡ Spelt (message.Resv m) = sym x.spelt ∙ spelt in absurd (cc);
  }
    where
      none_there : (st : StyleKind) (key : LineKey) → get (table_of st no_resvs) key ≡ None
      none_there Wild key = refl
      none_there Fixed key = refl
      none_there Shared key = refl

  pub a_call_keeps_a_network_fresh : IsFresh q asked
  a_call_keeps_a_network_fresh = record {
    bounds = each_step_keeps_a_world_within_bounds q w (At n l) (fit_call w n l first) r.bounds;
    paths = λ m g at. let f = facts_after_found q (At n l) w m g at in ap (λ (z : Facts). z.paths) f.2 ∙ paths_are m f.0 f.1;
    resvs = λ m g at. let f = facts_after_found q (At n l) w m g at in ap (λ (z : Facts). z.resvs) f.2 ∙ resvs_are m f.0 f.1;
    walls = λ m g at. let f = facts_after_found q (At n l) w m g at in ap (λ (z : Facts). z.walls) f.2 ∙ walls_are m f.0 f.1;
    unmarked = (nobody_waits_loud q (At n l) w refl tt (plain_call w n l first) nobody).wants;
    sent = λ y i.
        ⊎_elim (λ (old : In y w.flight). sent_on y (r.sent y old))
        (λ (new : In y (each (λ (z : Item × Bool). z.0) (sent q (At n l) w))).
        let x = in_each (λ (z : Item × Bool). z.0) y (sent q (At n l) w) new in
        sent_first y x.0.1 (subst (λ (z : Item). In (z, x.0.1) (sent q (At n l) w)) (sym x.2) x.1))
        (in_append y w.flight (each (λ (z : Item × Bool). z.0) (sent q (At n l) w)) i);
    all = all_then;
  }
