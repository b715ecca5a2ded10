-- PathErrs are gone: each goes back along the tree of its sender, one hop a round.
use Rattle.std.proofs.Common.{◌≡◌, ◌⊎◌, ℕ, suc, ◌+◌, ◌<◌, ◌≤◌, List, Bool, true, Some, inl, inr, ⊎_elim, arith, sym, ap, subst, ◌∙◌}
use Rattle.rsvp_base.specs.declared.session.Sender.{Sender}
use Rattle.rsvp_base.specs.Members.{In}
use Rattle.rsvp_messages.specs.declared.message.Message.TheVariants as message
use Rattle.rsvp_messages.specs.declared.message.PathErrMsg.{PathErrMsg}
use Rattle.calm_rounds.specs.Hold.{Hold}
use Rattle.calm_rounds.specs.Rounds.{Rounds}
use Rattle.calm_rounds.proofs.Holding.{hold_map}
use Rattle.router_rules.specs.Act.{act}
use Rattle.router_rules.specs.Inputs.{ErrSend, OfPath, Send, Spelt}
use Rattle.router_rules.specs.NodeConfig.{NodeConfig}
use Rattle.router_rules.specs.Rule.{settled}
use Rattle.router_rules.specs.Sends.{error_send}
use Rattle.laws_bounds.proofs.Stepping.{send_told}
use Rattle.tree_model.specs.declared.hops.LinkHop.{LinkHop}
use Rattle.tree_model.specs.Networks.{Net, node_of}
use Rattle.tree_model.specs.Ranks.{longest}
use Rattle.tree_model.specs.Trees.{depth}
use Rattle.tree_model.proofs.Depths.{depth_and_rank_within_longest}
use Rattle.network_model.specs.Steps.{Step, is_quiet, machine, ms_of, sent}
use Rattle.network_model.specs.Worlds.{Item, World, config_of}
use Rattle.settle_paths.proofs.Sends.{IsSentByRule, sent_by_rule}
use Rattle.settle_refreshes.proofs.Fading.{Are, fades}
use Rattle.settle_refreshes.proofs.Going.{IsAllReady, all_spelt, came_item, enters, returns}
use Rattle.settle_refreshes.proofs.Resting.{some_session}
use Rattle.settle_refreshes.proofs.Sources.{GoesAhead, GoesBack, IsRefused, IsReply, ahead_is, error_source, not_of_path, path_err_made, path_same, refusal_is}

abbrev pub HasNoPathErr : World → Type 0
HasNoPathErr u = (y : Item) (m : PathErrMsg) → In y u.flight → y.arrival ≡ Spelt (message.PathErr m) → ⊥

-- fewer hops than a number lead from the root of its sender's tree to the node to which it goes; or the number is beyond all chains
abbrev pub IsNear : Net → ℕ → Item → PathErrMsg → Type 0
IsNear net j y m = (longest net < j) ⊎ ((x : Sender) × (m.sender ≡ Some x) × (depth net m.session.group x.addr (node_of net.ends y.end) < j))

abbrev pub Back : Net → ℕ → Item → Type 0
Back net j y = (m : PathErrMsg) → y.arrival ≡ Spelt (message.PathErr m) → IsNear net j y m

module _ (q : ℕ) (o u : World) (all : IsAllReady q o u) (s : Step) (quiet : is_quiet s ≡ true) (j : ℕ) (low : (y : Item) → In y u.flight → Back u.net (suc j) y) where
  -- one that goes back goes to a node to which fewer hops lead
  back : (y : Item) (m : PathErrMsg) (r : IsSentByRule q s u y (message.PathErr m)) (e : ErrSend) → r.send ≡ error_send e → e.error ≡ OfPath m
      → GoesBack (config_of q u.net u.trees r.node) (u.clock + ms_of s) r.facts e r.by.input → IsNear u.net j y m
  back y m r e is of x =
      let valid = all.known.bounds.net in
      let t = came_item s u r.node r.by.input quiet r.by.came x.at x.dst (Spelt (message.PathErr x.error)) x.came in
      let same : x.error ≡ m = path_same x.error m (sym (ap (λ (z : ErrSend). z.error) x.is) ∙ of) in
      let sound = (all.ready some_session).sound.facts r.node r.facts (x.error.session, x.sender) x.path r.there x.there in
      let iface : r.send.iface ≡ x.path.iface = ap (λ (z : Send). z.iface) is ∙ ap (λ (z : ErrSend). z.iface) x.is in
      let dst : r.send.dst ≡ x.path.hop.addr = ap (λ (z : Send). z.dst) is ∙ ap (λ (z : ErrSend). z.dst) x.is in
      let way : LinkHop = sound.sound.hop in
      let from : way.from ≡ y.end = returns u valid all.known.bounds.hosts r.node (x.error.session, x.sender) x.path sound r.send.iface r.send.dst iface dst y.end r.to in
      let to : node_of u.net.ends way.to ≡ r.node = enters u valid all.known.bounds.hosts r.node (x.error.session, x.sender) x.path sound r.send.iface r.send.dst iface dst y.end r.to in
      let laws = depth_and_rank_within_longest u.net valid in
      let deep : Sender → ℕ → ℕ = λ v n. depth u.net x.error.session.group v.addr n in
      let along : deep x.sender (node_of u.net.ends way.to) ≡ deep x.sender (node_of u.net.ends way.from) + 1 = laws.along x.error.session.group x.sender.addr way sound.sound.there in
      let here : deep x.sender (node_of u.net.ends way.to) ≡ deep x.sender (node_of u.net.ends t.item.end) = ap (deep x.sender) (to ∙ sym t.node) in
      let there : deep x.sender (node_of u.net.ends way.from) ≡ deep x.sender (node_of u.net.ends y.end) = ap (λ (z : ℕ). deep x.sender (node_of u.net.ends z)) from in
      let most : deep x.sender (node_of u.net.ends t.item.end) ≤ longest u.net = laws.every x.error.session.group x.sender.addr (node_of u.net.ends t.item.end) in
      let before : deep x.sender (node_of u.net.ends t.item.end) < suc j =
      ⊎_elim (λ (far : longest u.net < suc j). omega (arith, far, most))
      (λ (near : (v : Sender) × (x.error.sender ≡ Some v) × (deep v (node_of u.net.ends t.item.end) < suc j)).
      let one : Some near.0 ≡ Some x.sender = sym near.1 ∙ x.names in
      let is : near.0 ≡ x.sender = cc in
      subst (λ (v : Sender). deep v (node_of u.net.ends t.item.end) < suc j) is near.2)
      (low t.item t.flies x.error t.says) in
      let less : deep x.sender (node_of u.net.ends y.end) < j = omega (arith, before, along, here, there) in
      inr (
        x.sender,
        ap (λ (z : PathErrMsg). z.sender) (sym same) ∙ x.names,
        subst (λ (z : PathErrMsg). depth u.net z.session.group x.sender.addr (node_of u.net.ends y.end) < j) same less,
      )

  sent_back : (y : Item) (b : Bool) → In (y, b) (sent q s u) → Back u.net j y
  sent_back y b i m spelt =
      let r = sent_by_rule q s u y b (message.PathErr m) quiet i spelt in
      let p : NodeConfig = config_of q u.net u.trees r.node in
      let c : ℕ = u.clock + ms_of s in
      let e = path_err_made p p r.facts (settled p c r.facts (act p c r.by.input r.facts).facts) (act p c r.by.input r.facts) r.send m r.says (send_told p p c r.by.input r.facts r.send r.sent) in
      ⊎_elim
      (λ (x : IsRefused p c r.facts e.0 r.by.input).
      let w = refusal_is p c x.at x.resv r.facts e.0 x.made in absurd (not_of_path m w.0 (sym e.3 ∙ w.1)))
      (λ k.
      ⊎_elim (λ (x : GoesBack p c r.facts e.0 r.by.input). back y m r e.0 e.2 e.3 x)
      (λ k.
      ⊎_elim
      (λ (x : GoesAhead p c r.facts e.0 r.by.input). absurd (not_of_path m _ (sym e.3 ∙ ap (λ (z : ErrSend). z.error) (ahead_is p c r.facts e.0 r.by.input x))))
      (λ (x : IsReply p c r.facts e.0 r.by.input). all_spelt q o u all s quiet r.node r.facts r.there r.by.input r.by.came x.at x.dst x.fault x.came) k) k)
      (error_source p c r.facts e.0 r.by.input e.1)

pub path_errors_go : (q : ℕ) (o w : World) (rs : List (List Step)) → Rounds (machine q) rs w → Hold (machine q) 0 rs w (IsAllReady q o) → Hold (machine q) (suc (longest o.net)) rs w HasNoPathErr
path_errors_go q o w rs calm all =
    hold_map (machine q) (Are q (IsAllReady q o) (Back o.net) 0 0) HasNoPathErr
    (λ u h y m i spelt.
    ⊎_elim (λ (far : longest o.net < 0). absurd (omega (arith, far)))
    (λ (near : (x : Sender) × (m.sender ≡ Some x) × (depth o.net m.session.group x.addr (node_of o.net.ends y.end) < 0)). let less = near.2 in absurd (omega (arith, less)))
    (h y i (omega arith) m spelt)) (suc (longest o.net)) rs w
    (fades q (IsAllReady q o) (Back o.net) (λ u h. h.known.bounds) (suc (longest o.net)) (λ u h y i born m spelt. inl (omega arith))
    (λ j s u quiet a a' low y b i.
    subst (λ (z : Net). Back z j y) a.known.same.net
    (sent_back q o u a s quiet j (λ x k. subst (λ (z : Net). Back z (suc j) x) (sym a.known.same.net) (low x k (omega arith))) y b i)) (suc (longest o.net)) 0 (omega arith) rs w calm all)
