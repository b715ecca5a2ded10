-- Worlds that have settled, one after the other: what the step between them sends is a refresh, an error or a confirmation.
use Rattle.std.proofs.Common.{◌≡◌, ◌⊎◌, ℕ, ◌+◌, ◌*◌, List, Bool, true, cond, Option, None, Some, inl, inr, ⊎_elim, arith, sym, refl, ap, subst, ◌∙◌}
use Rattle.std.specs.Prelude.{is_some, slice_get}
use Rattle.rsvp_base.specs.declared.addr.Addr.{Addr}
use Rattle.rsvp_base.specs.declared.session.Sender.{Sender}
use Rattle.rsvp_base.specs.declared.session.Session.{Session}
use Rattle.rsvp_base.specs.Members.{In}
use Rattle.rsvp_base.specs.Table.{get, has}
use Rattle.rsvp_messages.specs.declared.message.Message.{Message}
use Rattle.rsvp_messages.specs.declared.message.Message.TheVariants as message
use Rattle.rsvp_messages.specs.declared.message.PathErrMsg.{PathErrMsg}
use Rattle.rsvp_messages.specs.declared.message.PathMsg.{PathMsg}
use Rattle.rsvp_messages.specs.declared.message.ResvConfMsg.{ResvConfMsg}
use Rattle.rsvp_messages.specs.declared.message.ResvErrMsg.{ResvErrMsg}
use Rattle.rsvp_messages.specs.declared.message.ResvMsg.{ResvMsg}
use Rattle.calm_rounds.specs.Hold.{Hold}
use Rattle.calm_rounds.specs.Rounds.{Rounds}
use Rattle.calm_rounds.proofs.Holding.{hold_all, hold_both, hold_later, hold_map}
use Rattle.router_rules.specs.Facts.{Facts}
use Rattle.router_rules.specs.Inputs.{Input, OfPath, OfResv, Send, Spelt}
use Rattle.router_rules.specs.Known.{Lane, known}
use Rattle.router_rules.specs.NodeConfig.{NodeConfig}
use Rattle.router_rules.specs.Offers.{Offer, OfferKey, offer_at, offers}
use Rattle.router_rules.specs.Requests.{toward}
use Rattle.router_rules.specs.Rule.{Outcome, rule}
use Rattle.router_rules.specs.Sends.{error_message}
use Rattle.laws_bounds.specs.FactLaws.{is_way}
use Rattle.laws_bounds.specs.SendLaws.{IsConf, IsError}
use Rattle.laws_bounds.proofs.Knowing.{known_and_via}
use Rattle.laws_bounds.proofs.Offering.{offers_by_way}
use Rattle.laws_bounds.proofs.Ruling.{rule_in_parts}
use Rattle.laws_bounds.proofs.Stepping.{offered, offered_is_known}
use Rattle.tree_model.specs.declared.hops.LinkHop.{LinkHop}
use Rattle.tree_model.specs.Networks.{Net}
use Rattle.tree_model.specs.Ranks.{longest, rank}
use Rattle.tree_model.specs.Wants.{Locals, live, want}
use Rattle.network_model.specs.Bounds.{IsStart}
use Rattle.network_model.specs.Locals.{locals_of}
use Rattle.network_model.specs.Steps.{Step, is_quiet, machine, ms_of, sent, step}
use Rattle.network_model.specs.Worlds.{Item, World, config_of}
use Rattle.network_model.proofs.Changing.{what_is_sent_is_copied}
use Rattle.network_model.proofs.Stepping.{facts_after_made}
use Rattle.settle_paths.specs.Known.{IsSameNet}
use Rattle.settle_paths.specs.PreviousHops.{IsPrevious, Reaches}
use Rattle.settle_paths.proofs.Known.{has_some}
use Rattle.settle_paths.proofs.PreviousHops.{ahead, previous_hops_are_all_hops}
use Rattle.settle_paths.proofs.Sends.{sent_by_rule}
use Rattle.settle_resvs.specs.Sessions.{AreExactOf}
use Rattle.settle_resvs.proofs.Accepting.{IsReady, fits_again, locals_again}
use Rattle.settle_resvs.proofs.ExactResvs.{IsSteady, toward_at}
use Rattle.settle_resvs.proofs.GoalByIface.{each_fits}
use Rattle.settle_network.specs.Sessions.{HasSettledFor}
use Rattle.settle_network.proofs.Settled.{IsSound, a_session_settles, all_sound}
use Rattle.settle_refreshes.specs.Refreshes.{IsRefresh}
use Rattle.settle_refreshes.proofs.NodeSends.{IsRefreshing, IsUnmoved, after, change, sends_are}
use Rattle.settle_refreshes.proofs.Sources.{error_is}

-- ---- a world with the network of w, of which the same is asked, in which each session has settled
pub record IsAtRest (q : ℕ) (w u : World) : Type 0 where
  pub same : IsSameNet w u
  pub steady : (s : Session) → IsSteady q s u
  pub exact : (s : Session) → AreExactOf s u

pub some_session : Session
some_session = record { group = record { 0 = 0 }; proto = 0; port = 0 }

-- 13 H + 13 calm rounds on each world is at rest
pub at_rest : (q : ℕ) (w : World) (rs : List (List Step)) → Rounds (machine q) rs w → IsStart q w → Hold (machine q) (13 * longest w.net + 13) rs w (IsAtRest q w)
at_rest q w rs calm start =
    let k : ℕ = 13 * longest w.net + 13 in
    let fits = each_fits w.net (locals_of w) start.fit in
    let sound = hold_later (machine q) (IsSound q w rs calm start.bounds start.locals) ((4 + 5 * longest w.net) + (5 + 5 * longest w.net)) k rs w (omega arith)
    (all_sound q w rs calm start.bounds start.locals) in
    let settled = hold_all (machine q) (λ (s : Session) u. HasSettledFor q s u) k rs w (λ s. a_session_settles q w rs calm start.bounds start.locals s (fits s)) in
    hold_map (machine q) (λ u. IsSound q w rs calm start.bounds start.locals u × ((s : Session) → HasSettledFor q s u)) (IsAtRest q w)
    (λ u h. record {
      same = h.0.known.same;
      steady = λ s.
          record {
            ready = record {
              bounds = h.0.known.bounds;
              locals = locals_again w u h.0.known.same start.locals;
              fit = fits_again s w u h.0.known.same (fits s);
              sound = h.0.so_far.0;
              complete = h.0.so_far.1.0;
              resvs = h.0.so_far.1.1;
            };
            free = (h.1 s).no_blockade;
            addressed = h.0.addressed;
          };
      exact = λ s. (h.1 s).exact;
    }) k rs w
    (hold_both (machine q) (IsSound q w rs calm start.bounds start.locals) (λ u. (s : Session) → HasSettledFor q s u) k rs w sound settled)

module _ (q : ℕ) (w u : World) (rest : IsAtRest q w u) where
  pub ready : IsReady q some_session u
  ready = (rest.steady some_session).ready

  -- what goes toward a previous hop is what is wanted over its hop
  pub toward_is : (n : ℕ) (f : Facts) (l : Lane) (h : LinkHop) → slice_get u.nodes n ≡ Some f → IsPrevious u.net n l.session l.hop h
      → toward (config_of q u.net u.trees n) f l ≡ want l.style u.net (locals_of u) l.session h
  toward_is n f l h at is =
      toward_at q l.session (rank u.net l.session.group h) u (rest.steady l.session) (λ st h' there near. rest.exact l.session st h' there) n f at l refl h is (omega arith)

-- ---- from one to the other
module _ (q : ℕ) (w u v : World) (a : IsAtRest q w u) (b : IsAtRest q w v) where
  pub same_net : IsSameNet u v
  same_net = record {
    net = b.same.net ∙ sym a.same.net;
    trees = b.same.trees ∙ sym a.same.trees;
    senders = λ n. b.same.senders n ∙ sym (a.same.senders n);
    advertised = λ n. b.same.advertised n ∙ sym (a.same.advertised n);
    locals = b.same.locals ∙ sym a.same.locals;
  }

  module _ (n : ℕ) (f : Facts) (at : slice_get u.nodes n ≡ Some f) (c : ℕ) (i : Input) where
    abbrev p : NodeConfig
    p = config_of q u.net u.trees n

    abbrev g : Facts
    g = (rule p p c i f).facts

    module _ (at' : slice_get v.nodes n ≡ Some g) where
      -- the node knows whom it knew
      pub knows : (s : Session) (x : Sender) → has (known f s) x ≡ true → has (known g s) x ≡ true
      knows s x e =
          let r = ((previous_hops_are_all_hops u (ready q w u a).bounds.net (ready q w u a).locals (ready q w u a).sound (ready q w u a).complete).known n f s x at).0 e in
          ((previous_hops_are_all_hops v (ready q w v b).bounds.net (ready q w v b).locals (ready q w v b).sound (ready q w v b).complete).known n g s x at').1
          (subst (λ (z : Net × Locals). In x (live z.1 s) × Reaches z.0 n s.group x.addr) (λ j. (sym same_net.net j, sym same_net.locals j)) r)

      -- and offers what it offered
      pub offers_on : (h : Facts) (k : OfferKey) → is_way p k ≡ true → has (known h k.session) k.sender ≡ true → has (offers p h) k ≡ true
      offers_on h k way e =
          ap (λ (z : Option Offer). is_some z) (offers_by_way p h k) ∙ ap (λ (z : Bool). is_some (cond z (offer_at h k) None)) way ∙ offered_is_known h k ∙ e

      pub still_offered : (k : OfferKey) → has (offers p f) k ≡ true → has (offers p g) k ≡ true
      still_offered k e =
          let y = has_some (get (offers p f) k) e in
          let o = offered p f k y.0 y.1 in
          offers_on g k o.way (knows k.session k.sender o.known_one)

      -- what goes toward a previous hop is what went
      pub toward_now : (l : Lane) (h : LinkHop) → IsPrevious u.net n l.session l.hop h → toward p (after p c i f) l ≡ want l.style u.net (locals_of u) l.session h
      toward_now l h is =
          sym (rule_in_parts.toward_same p p c i f l)
          ∙ subst (λ (z : (Net × List (Addr × Addr)) × Locals). toward (config_of q z.0.0 z.0.1 n) g l ≡ want l.style z.0.0 z.1 l.session h)
          (λ j. ((same_net.net j, same_net.trees j), same_net.locals j))
          (toward_is q w v b n g l h at' (subst (λ (z : Net). IsPrevious z n l.session l.hop h) (sym same_net.net) is))

      pub same_toward : (l : Lane) (h : LinkHop) → IsPrevious u.net n l.session l.hop h → toward p f l ≡ toward p (after p c i f) l
      same_toward l h is = toward_is q w u a n f l h at is ∙ sym (toward_now l h is)

      pub unmoved : IsUnmoved p c i f
      unmoved = record {
        offered = still_offered;
        went = λ l e.
            let r = (known_and_via.lanes_by f l).0 e in
            let z = ahead u n f (ready q w u a).sound at l.session l.hop r.0 r.1 in
            same_toward l z.way z.previous;
        goes = λ l e.
            let r = (known_and_via.lanes_by g l).0 e in
            let z = ahead v n g (ready q w v b).sound at' l.session l.hop r.0 r.1 in
            same_toward l z.way (subst (λ (net : Net). IsPrevious net n l.session l.hop z.way) same_net.net z.previous);
      }

-- ---- what a quiet step sends
-- an error, or a confirmation
abbrev pub IsAnswer : Item → Type 0
IsAnswer y =
    ((m : PathErrMsg) × (y.arrival ≡ Spelt (message.PathErr m)))
    ⊎ (((m : ResvErrMsg) × (y.arrival ≡ Spelt (message.ResvErr m))) ⊎ ((m : ResvConfMsg) × (y.arrival ≡ Spelt (message.ResvConf m))))

module _ (q : ℕ) (w u : World) (s : Step) (quiet : is_quiet s ≡ true) (a : IsAtRest q w u) (b : IsAtRest q w (step q s u)) where
  pub calm_sends : (y : Item) (mark : Bool) → In (y, mark) (sent q s u) → IsRefresh y ⊎ IsAnswer y
  calm_sends y mark i =
      let copied = (what_is_sent_is_copied q s u (y, mark)).0 i in
      let spelt : y.arrival ≡ Spelt copied.send.message = ap (λ (z : Item × Bool). z.0.arrival) copied.is in
      let r = sent_by_rule q s u y mark copied.send.message quiet i spelt in
      let p : NodeConfig = config_of q u.net u.trees r.node in
      let c : ℕ = u.clock + ms_of s in
      let at' : slice_get (step q s u).nodes r.node ≡ Some (rule p p c r.by.input r.facts).facts = facts_after_made q s u r.node r.facts r.there ∙ ap (λ (o : Outcome). Some o.facts) r.by.is in
      let is : (m : Message) → r.send.message ≡ m → y.arrival ≡ Spelt m = λ m e. spelt ∙ ap Spelt (sym r.says ∙ e) in
      ⊎_elim
      (λ (x : IsRefreshing r.send.message).
      inl (⊎_elim (λ (z : (m : PathMsg) × (r.send.message ≡ message.Path m)). inl (z.0, is (message.Path z.0) z.1))
      (λ (z : (m : ResvMsg) × (r.send.message ≡ message.Resv m) × (m.confirm ≡ None)). inr (z.0, is (message.Resv z.0) z.1, z.2)) x))
      (λ x.
      ⊎_elim
      (λ (e : IsError p p r.facts (after p c r.by.input r.facts) (change p c r.by.input r.facts) r.send).
      let says : r.send.message ≡ error_message e.error.error = ap (λ (z : Send). z.message) e.is in
      inr (⊎_elim (λ (z : (m : PathErrMsg) × (e.error.error ≡ OfPath m)). inl (z.0, is (message.PathErr z.0) (says ∙ ap error_message z.1)))
      (λ (z : (m : ResvErrMsg) × (e.error.error ≡ OfResv m)). inr (inl (z.0, is (message.ResvErr z.0) (says ∙ ap error_message z.1)))) (error_is e.error)))
      (λ (e : IsConf p p r.facts (after p c r.by.input r.facts) (change p c r.by.input r.facts) r.send).
      inr (inr (inr (e.conf.conf, is (message.ResvConf e.conf.conf) (ap (λ (z : Send). z.message) e.is))))) x)
      (sends_are p c r.by.input r.facts (unmoved q w u (step q s u) a b r.node r.facts r.there c r.by.input at') r.send r.sent)
