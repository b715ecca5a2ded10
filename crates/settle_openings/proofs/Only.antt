-- What is sent by a step where nobody is told of an error, nobody waits to be confirmed, and no unit that went toward a hop goes no more: Paths, and
-- Resvs that ask for no confirmation.
use Rattle.std.proofs.Common.{◌≡◌, ℕ, ◌+◌, List, [], ◌∷◌, ◌++◌, Bool, true, false, Some, inl, inr, ⊎_elim, sym, refl, ap, subst, ◌∙◌}
use Rattle.std.specs.Prelude.{slice_get}
use Rattle.rsvp_base.specs.declared.part.Part.{Part}
use Rattle.rsvp_base.specs.declared.session.Sender.{Sender}
use Rattle.rsvp_base.specs.declared.style.Unit.{Unit as UnitOf}
use Rattle.rsvp_base.specs.Members.{In}
use Rattle.rsvp_base.specs.Orders.{Names as NameSet, senders}
use Rattle.rsvp_base.specs.Table.{get, has}
use Rattle.rsvp_base.proofs.Members.{in_append}
use Rattle.rsvp_base.proofs.SetLaws.{and_both, has-cut}
use Rattle.router_rules.specs.RsvpMessages.declared.message.Message.TheVariants as message
use Rattle.router_rules.specs.RsvpMessages.declared.message.ResvMsg.{ResvMsg}
use Rattle.router_rules.specs.Merge.{PartTable}
use Rattle.laws_bounds.specs.SendLaws.{IsConf, IsError, IsPath, IsPathTear, IsResv, IsResvTear}
use Rattle.laws_bounds.proofs.Asks.{gone_told}
use Rattle.laws_bounds.proofs.Lists.{one_name}
use Rattle.laws_bounds.proofs.Ruling.{rule_in_parts}
use Rattle.laws_bounds.proofs.Stepping.{send_told}
use Rattle.router_rules.specs.Act.{act}
use Rattle.router_rules.specs.Facts.{Facts}
use Rattle.router_rules.specs.Inputs.{Change, ErrSend, Input, Send, Spelt}
use Rattle.router_rules.specs.Known.{Lane, lanes, names_via}
use Rattle.router_rules.specs.NodeConfig.{NodeConfig}
use Rattle.router_rules.specs.Requests.{toward}
use Rattle.router_rules.specs.Rule.{Outcome, settled}
use Rattle.router_rules.specs.Sends.{gone_names, torn_names}
use Rattle.tree_model.specs.Trees.{hops_of}
use Rattle.network_model.specs.Bounds.{AreBounds}
use Rattle.network_model.specs.Sound.{ArePathsSound}
use Rattle.network_model.specs.Steps.{Step, input_at, is_quiet, ms_of, outcome, sent, step}
use Rattle.network_model.specs.Worlds.{Item, World, config_of}
use Rattle.network_model.proofs.Changing.{what_is_sent_is_copied}
use Rattle.laws_network.proofs.Sends.{sent_by_rule}
use Rattle.settle_resvs.specs.Said.{HopKey, hop_over}
use Rattle.settle_resvs.proofs.ResvSends.{IsResvSent}
use Rattle.settle_passes.specs.Passes.{HasNoPathTear}
use Rattle.settle_refreshes.specs.Refreshes.{IsRefresh, NobodyWaits}
use Rattle.settle_refreshes.proofs.Waiting.{no_conf_sent, nobody_waits_then}
use Rattle.settle_openings.specs.Opening.{AllName, GoesOn, IsNamedOn, Names}
use Rattle.settle_openings.proofs.Sent.{goes_what_it_names, names_what_goes}

module _ (q : ℕ) (s : Step) (u : World) (quiet : is_quiet s ≡ true) (waits : NobodyWaits u) (no_tear : HasNoPathTear (step q s u))
    (errors : (n : ℕ) (f : Facts) (i : Input) → slice_get u.nodes n ≡ Some f → input_at s u n ≡ Some i → (act (config_of q u.net u.trees n) (u.clock + ms_of s) i f).errors ≡ [])
    (rises : (n : ℕ) (f : Facts) (l : Lane) (un : UnitOf) (t : Part) (x : Sender) → slice_get u.nodes n ≡ Some f → has (lanes f) l ≡ true
    → get (toward (config_of q u.net u.trees n) f l) un ≡ Some t → has t.senders x ≡ true → has (toward (config_of q u.net u.trees n) (outcome q s u n f).facts l) un ≡ true) where
  pub sends_only : (y : Item) (b : Bool) → In (y, b) (sent q s u) → In y (step q s u).flight → IsRefresh y
  sends_only y b i flies =
      let c = (what_is_sent_is_copied q s u (y, b)).0 i in
      let spelt : y.arrival ≡ Spelt c.send.message = ap (λ (z : Item × Bool). z.0.arrival) c.is in
      let r = sent_by_rule q s u y b c.send.message quiet i spelt in
      let p : NodeConfig = config_of q u.net u.trees r.node in
      let clock : ℕ = u.clock + ms_of s in
      let change : Change = act p clock r.by.input r.facts in
      let after : Facts = settled p clock r.facts change.facts in
      ⊎_elim (λ (x : IsPathTear p p r.facts after change r.send). absurd (no_tear y _ flies (spelt ∙ ap Spelt (sym r.says ∙ ap (λ (z : Send). z.message) x.is))))
      (λ k. ⊎_elim
      (λ (x : IsResvTear p p r.facts after change r.send).
      let z = one_name (torn_names p p r.facts after x.lane) x.some in
      let gone : NameSet = gone_names (toward p r.facts x.lane) (toward p after x.lane) in
      let g = (and_both _ _ (sym (has-cut senders gone (names_via after x.lane) z.0) ∙ z.1)).0 in
      let w = gone_told (toward p r.facts x.lane) (toward p after x.lane) z.0 g in
      let still = rises r.node r.facts x.lane w.unit w.part z.0 r.there x.was w.was w.named in
      let same : toward p (outcome q s u r.node r.facts).facts x.lane ≡ toward p after x.lane =
      ap (λ (o : Outcome). toward p o.facts x.lane) r.by.is ∙ rule_in_parts.toward_same p p clock r.by.input r.facts x.lane in
      let bad : true ≡ false = sym still ∙ ap (λ (t : PartTable). has t w.unit) same ∙ w.gone in
      absurd (cc))
      (λ k. ⊎_elim (λ (x : IsError p p r.facts after change r.send). absurd (subst (λ (zs : List ErrSend). In x.error zs) (errors r.node r.facts r.by.input r.there r.by.came) x.made))
      (λ k. ⊎_elim (λ (x : IsConf p p r.facts after change r.send). absurd (no_conf_sent q s u quiet waits y b _ i (spelt ∙ ap Spelt (sym r.says ∙ ap (λ (z : Send). z.message) x.is))))
      (λ k. ⊎_elim (λ (x : IsPath p p r.facts after change r.send). inl (_, spelt ∙ ap Spelt (sym r.says ∙ ap (λ (z : Send). z.message) x.is)))
      (λ (x : IsResv p p r.facts after change r.send).
      let is : y.arrival ≡ Spelt (message.Resv _) = spelt ∙ ap Spelt (sym r.says ∙ ap (λ (z : Send). z.message) x.is) in
      inr (_, is, (nobody_waits_then q s u quiet waits).items y _ flies is)) k) k) k) k)
      (send_told p p clock r.by.input r.facts r.send r.sent)

-- ---- what is asked for of names by what is sent, behind what was in flight
module _ (q : ℕ) (w : World) (bounds : AreBounds q w) (sound : ArePathsSound w) (old new : List Item)
    (sends : (y : Item) (m : ResvMsg) → In y new → y.arrival ≡ Spelt (message.Resv m) → IsResvSent q w.net w.trees w y m) where
  pub new_name : (k : HopKey) (x : Sender) → In (hop_over k) (hops_of w.net.hops k.session.group) → GoesOn q w k x → AllName w.net k x new
  new_name k x there on y m i spelt over = names_what_goes q w bounds sound y m (sends y m i spelt) k there x on spelt over

  pub new_goes : (k : HopKey) (x : Sender) (y : Item) → In (hop_over k) (hops_of w.net.hops k.session.group) → In y new → Names w.net k x y → GoesOn q w k x
  new_goes k x y there i n = goes_what_it_names q w bounds sound y n.1.resv (sends y n.1.resv i n.1.spelt) k there x n.1.spelt n

  pub all_then : (k : HopKey) (x : Sender) → In (hop_over k) (hops_of w.net.hops k.session.group) → AllName w.net k x old → GoesOn q w k x → AllName w.net k x (old ++ new)
  all_then k x there before on y m i spelt over =
      ⊎_elim (λ (a : In y old). before y m a spelt over) (λ (a : In y new). new_name k x there on y m a spelt over) (in_append y old new i)

  among_new : (k : HopKey) (x : Sender) → In (hop_over k) (hops_of w.net.hops k.session.group) → (ys : List Item) → ((y : Item) → In y ys → In y new) → IsNamedOn w.net k x ys
  among_new k x there [] inside = tt
  among_new k x there (y ∷ ys) inside =
      (λ n z m i. new_name k x there (new_goes k x y there (inside y (inl refl)) n) z m (inside z (inr i)), among_new k x there ys (λ z i. inside z (inr i)))

  then_new : (k : HopKey) (x : Sender) → In (hop_over k) (hops_of w.net.hops k.session.group) → (ys : List Item) → IsNamedOn w.net k x ys → ((y : Item) → In y ys → Names w.net k x y → GoesOn q w k x)
      → IsNamedOn w.net k x (ys ++ new)
  then_new k x there [] order on = among_new k x there new (λ y i. i)
  then_new k x there (y ∷ ys) order on = (
    λ n z m i spelt over.
        ⊎_elim (λ (a : In z ys). order.0 n z m a spelt over) (λ (a : In z new). new_name k x there (on y (inl refl) n) z m a spelt over) (in_append z ys new i),
    then_new k x there ys order.1 (λ z i n. on z (inr i) n),
  )

  pub order_then : (k : HopKey) (x : Sender) → In (hop_over k) (hops_of w.net.hops k.session.group) → IsNamedOn w.net k x old → ((y : Item) → In y old → Names w.net k x y → GoesOn q w k x)
      → IsNamedOn w.net k x (old ++ new)
  order_then k x there order on = then_new k x there old order on
