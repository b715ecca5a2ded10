-- ResvErrs and ResvConfs of a session with one sender are gone: whatever they name, they go on along a chain of hops of its tree, one hop a round.
use Rattle.std.proofs.Common.{◌≡◌, ◌⊎◌, ℕ, suc, ◌+◌, ◌<◌, ◌≤◌, List, [], ◌∷◌, ◌++◌, Bool, true, Option, None, Some, inl, inr, ⊎_elim, arith, sym, ap, subst, ◌∙◌}
use Rattle.std.specs.Prelude.{slice_get}
use Rattle.rsvp_base.specs.declared.addr.Addr.{Addr}
use Rattle.rsvp_base.specs.declared.session.Sender.{Sender}
use Rattle.rsvp_base.specs.declared.session.Session.{Session}
use Rattle.rsvp_base.specs.declared.style.StyleKind.{StyleKind}
use Rattle.rsvp_base.specs.declared.style.Unit.{Unit as UnitOf}
use Rattle.rsvp_base.specs.Members.{In}
use Rattle.rsvp_base.specs.Table.{get}
use Rattle.rsvp_base.proofs.Members.{in_append}
use Rattle.rsvp_base.proofs.SetLaws.{and_both}
use Rattle.rsvp_messages.specs.declared.message.Message.TheVariants as message
use Rattle.rsvp_messages.specs.declared.message.ResvConfMsg.{ResvConfMsg}
use Rattle.rsvp_messages.specs.declared.message.ResvErrMsg.{ResvErrMsg}
use Rattle.rsvp_messages.specs.declared.message.ResvMsg.{ResvMsg}
use Rattle.rsvp_messages.specs.Units.{ask_style}
use Rattle.style_rules.specs.CutLaws.{name_some}
use Rattle.style_rules.specs.Lines.{NextHop}
use Rattle.style_rules.specs.PartLaws.{part_at_most_told}
use Rattle.calm_rounds.specs.Hold.{Hold}
use Rattle.calm_rounds.specs.Rounds.{Rounds}
use Rattle.calm_rounds.proofs.Holding.{hold_both, hold_later, hold_map}
use Rattle.router_rules.specs.Act.{act}
use Rattle.router_rules.specs.Errors.{error_listing}
use Rattle.router_rules.specs.Facts.{Facts, ResvState, resvs_of}
use Rattle.router_rules.specs.Inputs.{Asked, Change, ConfSend, ErrSend, Input, OfResv, Send, Spelt}
use Rattle.router_rules.specs.NodeConfig.{NodeConfig, own}
use Rattle.router_rules.specs.Rule.{settled}
use Rattle.router_rules.specs.Sends.{confirmed, error_send}
use Rattle.laws_bounds.proofs.Lists.{one_name}
use Rattle.laws_bounds.proofs.Stepping.{send_told}
use Rattle.tree_model.specs.declared.hops.LinkHop.{LinkHop}
use Rattle.tree_model.specs.Networks.{Net, end_at, node_of}
use Rattle.tree_model.specs.Ranks.{Follows, longest, rank}
use Rattle.tree_model.specs.Trees.{tree}
use Rattle.tree_model.specs.Valid.{IsValid}
use Rattle.tree_model.specs.Wants.{Locals, live}
use Rattle.tree_model.proofs.Following.{has_hop_in, tree_group}
use Rattle.tree_model.proofs.RankLaws.{rank_falls, rank_falls_at, rank_some}
use Rattle.tree_model.proofs.WantLaws.{name_told, want_names}
use Rattle.network_model.specs.Links.{goes_to}
use Rattle.network_model.specs.Locals.{locals_of}
use Rattle.network_model.specs.Steps.{Step, input_at, is_quiet, machine, ms_of, sent}
use Rattle.network_model.specs.Worlds.{Item, World, config_of}
use Rattle.settle_paths.proofs.Sends.{IsSentByRule, sent_by_rule}
use Rattle.settle_refreshes.specs.Refreshes.{HasOneSender}
use Rattle.settle_refreshes.proofs.Confirming.{ConfGoesOn, asks_nothing, conf_source}
use Rattle.settle_refreshes.proofs.Fading.{Are, fades}
use Rattle.settle_refreshes.proofs.Going.{IsAllReady, all_spelt, calm_input, came_item, lands, leaves, none_refused}
use Rattle.settle_refreshes.proofs.Sources.{GoesAhead, GoesBack, IsRefused, IsReply, ahead_is, conf_made, error_source, listing_says, not_of_path, resv_err_made}

-- no Resv in flight asks for a confirmation
abbrev pub AskNothing : World → Type 0
AskNothing u = (y : Item) (m : ResvMsg) → In y u.flight → y.arrival ≡ Spelt (message.Resv m) → m.confirm ≡ None

-- no wish is made at a node, so what is confirmed there has come
module _ (s : Step) (u : World) (quiet : is_quiet s ≡ true) (none : AskNothing u) (p : NodeConfig) (c n : ℕ) (f : Facts) (i : Input) (came : input_at s u n ≡ Some i) where
  pub nothing_asked : (act p c i f).asked ≡ None
  nothing_asked =
      asks_nothing p c f i (calm_input s u n i quiet came)
      (λ at dst m is. let t = came_item s u n i quiet came at dst (Spelt (message.Resv m)) is in none t.item m t.flies t.says)

  pub conf_has_come : (x : ConfSend) → In x ((act p c i f).confs ++ confirmed p p f (settled p c f (act p c i f).facts) (act p c i f).asked) → ConfGoesOn f x i
  conf_has_come x made =
      ⊎_elim (λ (z : In x (act p c i f).confs). conf_source p c f x i z) (λ (z : ⊥). absurd z)
      (in_append x (act p c i f).confs [] (subst (λ (z : Option Asked). In x ((act p c i f).confs ++ confirmed p p f (settled p c f (act p c i f).facts) z)) nothing_asked made))

-- an error or a confirmation of the session
abbrev pub Speaks : Session → Item → Type 0
Speaks s y =
    ((m : ResvErrMsg) × (y.arrival ≡ Spelt (message.ResvErr m)) × (m.session ≡ s)) ⊎ ((m : ResvConfMsg) × (y.arrival ≡ Spelt (message.ResvConf m)) × (m.session ≡ s))

-- it comes over a hop of the tree of a sender of the session, from which no chain is longer than a number
pub record IsUnder (net : Net) (l : Locals) (s : Session) (j : ℕ) (y : Item) : Type 0 where
  pub sender : Sender
  pub live_one : In sender (live l s)
  pub hop : LinkHop
  pub there : In hop (tree net.hops s.group sender.addr)
  pub to : hop.to ≡ y.end
  pub near : rank net s.group hop ≤ j

-- or the number is beyond all chains
abbrev pub Under : Session → Net × Locals → ℕ → Item → Type 0
Under s z j y = Speaks s y → (longest z.0 < j) ⊎ IsUnder z.0 z.1 s j y

pub record IsCalm (q : ℕ) (o u : World) : Type 0 where
  pub all : IsAllReady q o u
  pub asks : AskNothing u

module _ (q : ℕ) (o u : World) (calm : IsCalm q o u) (which : Session) (one : HasOneSender u which) (s : Step) (quiet : is_quiet s ≡ true) (j : ℕ)
    (low : (y : Item) → In y u.flight → Under which (u.net, locals_of u) (suc j) y) where
  -- what came and goes on to the next hop of a reservation
  carried : (n : ℕ) (f : Facts) (st : StyleKind) (hop : NextHop) (unit : UnitOf) (r : ResvState) → slice_get u.nodes n ≡ Some f → get (resvs_of st f) (which, (hop, unit)) ≡ Some r
      → (iface : ℕ) (dst : Addr) → iface ≡ hop.0 → dst ≡ hop.1 → (y t : Item) → In y.end (goes_to u.net (end_at u.net.ends n iface) dst)
      → In t u.flight → Speaks which t → node_of u.net.ends t.end ≡ n → IsUnder u.net (locals_of u) which j y
  carried n f st hop unit r there kept iface dst by to y t goes flies speaks node =
      let valid = calm.all.known.bounds.net in
      let sound = (calm.all.ready which).resvs.facts st n f (which, (hop, unit)) r there kept in
      let h : LinkHop = sound.sound.hop in
      let from : node_of u.net.ends h.from ≡ n = leaves u valid calm.all.known.bounds.hosts n st (which, (hop, unit)) r sound iface dst by to y.end goes in
      let into : h.to ≡ y.end = lands u valid calm.all.known.bounds.hosts n st (which, (hop, unit)) r sound iface dst by to y.end goes in
      let up = part_at_most_told r.part sound.sound.wanted sound.sound.below in
      let name = one_name r.part.senders (name_some r.part.senders sound.sound.some) in
      let over = want_names st u.net (locals_of u) which h unit sound.sound.wanted sound.sound.is name.0 (up.names name.0 name.1) in
      let x = name_told st u.net (locals_of u) which (h ∷ []) name.0 over in
      let in_tree : In h (tree u.net.hops which.group x.0.addr) = has_hop_in (tree u.net.hops which.group x.0.addr) h (and_both _ _ x.2).0 in
      let near : rank u.net which.group h ≤ j =
      ⊎_elim (λ (far : longest u.net < suc j). let most = (rank_falls u.net valid.loop_free).hops which.group h sound.sound.there in omega (arith, most.1, far))
      (λ (un : IsUnder u.net (locals_of u) which (suc j) t).
      let same : un.sender ≡ x.0 = one un.sender x.0 un.live_one x.1 in
      let follows : Follows u.net which.group un.hop h = record {
        source = x.0.addr;
        first = subst (λ (z : Sender). In un.hop (tree u.net.hops which.group z.addr)) same un.there;
        second = in_tree;
        meet = from ∙ sym node ∙ ap (node_of u.net.ends) (sym un.to);
      } in
      let falls = rank_falls_at u.net valid.loop_free which.group un.hop h follows in
      let close = un.near in
      omega (arith, falls, close))
      (low t flies speaks) in
      record { sender = x.0; live_one = x.1; hop = h; there = in_tree; to = into; near = near }

  error_carried : (y : Item) (m : ResvErrMsg) → m.session ≡ which → (r : IsSentByRule q s u y (message.ResvErr m)) (e : ErrSend) → r.send ≡ error_send e → e.error ≡ OfResv m
      → GoesAhead (config_of q u.net u.trees r.node) (u.clock + ms_of s) r.facts e r.by.input → IsUnder u.net (locals_of u) which j y
  error_carried y m session r e is of x =
      let p : NodeConfig = config_of q u.net u.trees r.node in
      let t = came_item s u r.node r.by.input quiet r.by.came x.at (own p x.at) (Spelt (message.ResvErr x.error)) x.came in
      let goes : e ≡ (error_listing p x.error x.to.hop x.to.names).1 = ahead_is p (u.clock + ms_of s) r.facts e r.by.input x in
      let says = listing_says p x.error x.to.hop x.to.names m (ap (λ (z : ErrSend). z.error) (sym goes) ∙ of) in
      let on : x.error.session ≡ which = sym says.0 ∙ session in
      carried r.node r.facts x.error.blame.style x.to.hop x.to.unit x.to.spoken.resv r.there
      (subst (λ (z : Session). get (resvs_of x.error.blame.style r.facts) (z, (x.to.hop, x.to.unit)) ≡ Some x.to.spoken.resv) on x.to.spoken.there)
      r.send.iface r.send.dst (ap (λ (z : Send). z.iface) is ∙ ap (λ (z : ErrSend). z.iface) goes) (ap (λ (z : Send). z.dst) is ∙ ap (λ (z : ErrSend). z.dst) goes)
      y t.item r.to t.flies (inl (x.error, t.says, on)) t.node

  conf_carried : (y : Item) (m : ResvConfMsg) → m.session ≡ which → (r : IsSentByRule q s u y (message.ResvConf m)) → IsUnder u.net (locals_of u) which j y
  conf_carried y m session r =
      let p : NodeConfig = config_of q u.net u.trees r.node in
      let c : ℕ = u.clock + ms_of s in
      let change : Change = act p c r.by.input r.facts in
      let k = conf_made p p r.facts (settled p c r.facts change.facts) change r.send m r.says (send_told p p c r.by.input r.facts r.send r.sent) in
      let g = conf_has_come s u quiet calm.asks p c r.node r.facts r.by.input r.by.came k.conf k.made in
      let t = came_item s u r.node r.by.input quiet r.by.came g.at g.dst (Spelt (message.ResvConf g.conf)) g.came in
      let is : message.ResvConf g.conf ≡ message.ResvConf m =
      ap message.ResvConf (sym (ap (λ (z : ConfSend). z.conf) g.to.is)) ∙ sym (ap (λ (z : Send). z.message) k.is) ∙ r.says in
      let same : g.conf ≡ m = cc in
      let on : g.conf.session ≡ which = ap (λ (z : ResvConfMsg). z.session) same ∙ session in
      carried r.node r.facts (ask_style g.conf.ask) g.to.hop g.to.unit g.to.resv r.there
      (subst (λ (z : Session). get (resvs_of (ask_style g.conf.ask) r.facts) (z, (g.to.hop, g.to.unit)) ≡ Some g.to.resv) on g.to.there)
      r.send.iface r.send.dst (ap (λ (z : Send). z.iface) k.is ∙ ap (λ (z : ConfSend). z.iface) g.to.is) (ap (λ (z : Send). z.dst) k.is ∙ ap (λ (z : ConfSend). z.dst) g.to.is)
      y t.item r.to t.flies (inr (g.conf, t.says, on)) t.node

  sent_under : (y : Item) (b : Bool) → In (y, b) (sent q s u) → Under which (u.net, locals_of u) j y
  sent_under y b i speaks =
      inr (⊎_elim
      (λ (z : (m : ResvErrMsg) × (y.arrival ≡ Spelt (message.ResvErr m)) × (m.session ≡ which)).
      let m : ResvErrMsg = z.0 in
      let r = sent_by_rule q s u y b (message.ResvErr m) quiet i z.1 in
      let p : NodeConfig = config_of q u.net u.trees r.node in
      let c : ℕ = u.clock + ms_of s in
      let e = resv_err_made p p r.facts (settled p c r.facts (act p c r.by.input r.facts).facts) (act p c r.by.input r.facts) r.send m r.says (send_told p p c r.by.input r.facts r.send r.sent) in
      ⊎_elim
      (λ (x : IsRefused p c r.facts e.0 r.by.input).
      absurd (none_refused q o u calm.all s quiet r.node r.facts r.there r.by.input r.by.came x.at x.resv x.came r.send m r.sent r.says))
      (λ k.
      ⊎_elim (λ (x : GoesBack p c r.facts e.0 r.by.input). absurd (not_of_path x.error m (sym (ap (λ (v : ErrSend). v.error) x.is) ∙ e.3)))
      (λ k.
      ⊎_elim (λ (x : GoesAhead p c r.facts e.0 r.by.input). error_carried y m z.2 r e.0 e.2 e.3 x)
      (λ (x : IsReply p c r.facts e.0 r.by.input). all_spelt q o u calm.all s quiet r.node r.facts r.there r.by.input r.by.came x.at x.dst x.fault x.came) k) k)
      (error_source p c r.facts e.0 r.by.input e.1))
      (λ (z : (m : ResvConfMsg) × (y.arrival ≡ Spelt (message.ResvConf m)) × (m.session ≡ which)). conf_carried y z.0 z.2 (sent_by_rule q s u y b (message.ResvConf z.0) quiet i z.1)) speaks)

abbrev pub HasNoneOf : Session → World → Type 0
HasNoneOf s u = (y : Item) → In y u.flight → Speaks s y → ⊥

pub answers_of_one_go : (q : ℕ) (o : World) (which : Session) → HasOneSender o which → (w : World) (rs : List (List Step)) → Rounds (machine q) rs w → Hold (machine q) 0 rs w (IsCalm q o)
    → Hold (machine q) (suc (longest o.net)) rs w (HasNoneOf which)
answers_of_one_go q o which one w rs calm all =
    let k : ℕ = suc (longest o.net) in
    hold_map (machine q) (λ u. IsCalm q o u × Are q (IsCalm q o) (Under which (o.net, locals_of o)) 0 0 u) (HasNoneOf which)
    (λ u h y i speaks.
    ⊎_elim (λ (far : longest o.net < 0). absurd (omega (arith, far)))
    (λ (un : IsUnder o.net (locals_of o) which 0 y).
    let valid = subst IsValid h.0.all.known.same.net h.0.all.known.bounds.net in
    let some = rank_some o.net valid.loop_free which.group un.hop (tree_group o.net.hops which.group un.sender.addr un.hop un.there) in
    let close = un.near in
    absurd (omega (arith, some, close)))
    (h.1 y i (omega arith) speaks)) k rs w
    (hold_both (machine q) (IsCalm q o) (Are q (IsCalm q o) (Under which (o.net, locals_of o)) 0 0) k rs w (hold_later (machine q) (IsCalm q o) 0 k rs w (omega arith) all)
    (fades q (IsCalm q o) (Under which (o.net, locals_of o)) (λ u h. h.all.known.bounds) k (λ u h y i born speaks. inl (omega arith))
    (λ j s u quiet a a' low y b i.
    let same : ◌≡◌ {A = Net × Locals} (u.net, locals_of u) (o.net, locals_of o) = (λ d. (a.all.known.same.net d, a.all.known.same.locals d)) in
    let among : (x : Sender) → In x (live (locals_of u) which) → In x (live (locals_of o) which) = (λ x d. subst (λ (v : Locals). In x (live v which)) a.all.known.same.locals d) in
    let single : HasOneSender u which = (λ x z d e. one x z (among x d) (among z e)) in
    subst (λ (z : Net × Locals). Under which z j y) same
    (sent_under q o u a which single s quiet j (λ x d. subst (λ (z : Net × Locals). Under which z (suc j) x) (sym same) (low x d (omega arith))) y b i)) k 0 (omega arith) rs w calm all))
