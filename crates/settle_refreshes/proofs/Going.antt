-- Where it goes what goes on over the hop of a reservation, or back over that of a path; and worlds in which each session is ready.
use Rattle.std.proofs.Common.{◌≡◌, ℕ, ◌+◌, ◌<◌, true, false, Option, Some, ⊎_elim, arith, length, sym, refl, ap, subst, ◌∙◌}
use Rattle.std.specs.Prelude.{slice_get}
use Rattle.rsvp_base.specs.declared.addr.Addr.{Addr}
use Rattle.rsvp_base.specs.declared.session.Session.{Session}
use Rattle.rsvp_base.specs.declared.style.StyleKind.{StyleKind}
use Rattle.rsvp_base.specs.Members.{In}
use Rattle.rsvp_messages.specs.declared.fault.MsgErr.{MsgErr}
use Rattle.rsvp_messages.specs.declared.message.Message.{Message}
use Rattle.rsvp_messages.specs.declared.message.Message.TheVariants as message
use Rattle.rsvp_messages.specs.declared.message.ResvErrMsg.{ResvErrMsg}
use Rattle.rsvp_messages.specs.declared.message.ResvMsg.{ResvMsg}
use Rattle.style_rules.specs.Lines.{LineKey}
use Rattle.router_rules.specs.Facts.{Facts, PathState, ResvState, SenderKey}
use Rattle.router_rules.specs.Inputs.{Arrival, Came, Input, Send, Spelt, Unspelt, Wait}
use Rattle.router_rules.specs.NodeConfig.{NodeConfig, own}
use Rattle.router_rules.specs.Steps.{is_calm, sent_then}
use Rattle.laws_steps.specs.AcceptingLaws.{CanBeTaken, IsTakenWhole}
use Rattle.laws_steps.proofs.Admitting.{what_is_accepted}
use Rattle.tree_model.specs.declared.hops.End.{End}
use Rattle.tree_model.specs.declared.hops.LinkHop.{LinkHop}
use Rattle.tree_model.specs.Goals.{addr_of, addr_of_end}
use Rattle.tree_model.specs.Networks.{end_at, iface_of, node_of, node_of_end, peers}
use Rattle.tree_model.specs.Trees.{hops_of, tree}
use Rattle.tree_model.specs.Valid.{IsValid}
use Rattle.tree_model.proofs.Following.{in_group, to_tree, tree_group}
use Rattle.tree_model.proofs.Ifaces.{interfaces_are_ends}
use Rattle.tree_model.proofs.Links.{back_linked, hop_linked}
use Rattle.network_model.specs.Links.{NoEndIsAGroup, goes_to, is_group}
use Rattle.network_model.specs.Locals.{locals_of}
use Rattle.network_model.specs.Sound.{IsSoundPath, IsSoundResv}
use Rattle.network_model.specs.Steps.{Step, arrived, input_at, is_quiet, ms_of, word_for}
use Rattle.network_model.specs.Worlds.{Item, World, config_of}
use Rattle.network_model.proofs.Changing.{where_a_send_goes}
use Rattle.network_model.proofs.Machines.{in_arrived}
use Rattle.network_model.proofs.Quiet.{IsCame, IsWaited, arrival_takes_no_time, input_found}
use Rattle.settle_paths.specs.Known.{IsKnown}
use Rattle.settle_paths.proofs.PreviousHops.{ends_there, same_by_addr}
use Rattle.settle_paths.proofs.Standing.{peer_there, some_at}
use Rattle.settle_resvs.specs.GoalByIface.{goal_at}
use Rattle.settle_resvs.proofs.Accepting.{IsReady, can_be_taken}

-- ---- where a send goes
module _ (u : World) (valid : IsValid u.net) (hosts : NoEndIsAGroup u.net) where
  not_group : (e : ℕ) → e < length u.net.ends → is_group (addr_of u.net e) ≡ false
  not_group e lt = let x = some_at u.net.ends e lt in ap (λ (z : Option End). is_group (addr_of_end z)) x.1 ∙ hosts e x.0 x.1

  -- to the next hop of a reservation
  module _ (n : ℕ) (st : StyleKind) (k : LineKey) (r : ResvState) (sound : IsSoundResv st u n k r) (iface : ℕ) (dst : Addr) (by : iface ≡ k.1.0.0) (to : dst ≡ k.1.0.1) (e : ℕ)
      (goes : In e (goes_to u.net (end_at u.net.ends n iface) dst)) where
    abbrev over : LinkHop
    over = sound.sound.hop

    pub leaves : node_of u.net.ends over.from ≡ n
    leaves = ap (node_of u.net.ends) sound.sound.from ∙ ((interfaces_are_ends u.net).iface_of_end n k.1.0.0 sound.end sound.at).1

    pub lands : over.to ≡ e
    lands =
        let inside = ends_there u.net valid k.0.group over sound.sound.there in
        let out : end_at u.net.ends n iface ≡ Some sound.end = ap (end_at u.net.ends n) by ∙ sound.at in
        let there : In e (goes_to u.net (Some sound.end) k.1.0.1) = subst (λ (z : Option ℕ × Addr). In e (goes_to u.net z.0 z.1)) (λ j. (out j, to j)) goes in
        let g = in_group u.net.hops k.0.group over sound.sound.there in
        let in_tree : In over (tree u.net.hops g.0.group g.0.source) = subst (λ (z : LinkHop). In z (tree u.net.hops g.0.group g.0.source)) g.3 (to_tree u.net.hops g.0 g.1) in
        let linked : In over.to (peers u.net.links over.from) = hop_linked u.net valid g.0.group g.0.source over in_tree in
        let peer : In over.to (peers u.net.links sound.end) = subst (λ (z : ℕ). In over.to (peers u.net.links z)) sound.sound.from linked in
        let host : is_group k.1.0.1 ≡ false = subst (λ (z : Addr). is_group z ≡ false) sound.sound.to (not_group over.to inside.1) in
        let at = ((where_a_send_goes u.net sound.end k.1.0.1).one host over.to peer sound.sound.to e).0 there in
        same_by_addr u.net valid over.to e inside.1 (peer_there u.net valid sound.end e at.0) (sound.sound.to ∙ sym at.1)

  -- to the previous hop of a path
  module _ (n : ℕ) (k : SenderKey) (x : PathState) (sound : IsSoundPath u n k x) (iface : ℕ) (dst : Addr) (by : iface ≡ x.iface) (to : dst ≡ x.hop.addr) (e : ℕ)
      (goes : In e (goes_to u.net (end_at u.net.ends n iface) dst)) where
    abbrev way : LinkHop
    way = sound.sound.hop

    pub enters : node_of u.net.ends way.to ≡ n
    enters = ap (node_of u.net.ends) sound.sound.to ∙ ((interfaces_are_ends u.net).iface_of_end n x.iface sound.end sound.at).1

    pub returns : way.from ≡ e
    returns =
        let group : In way (hops_of u.net.hops k.0.group) = tree_group u.net.hops k.0.group k.1.addr way sound.sound.there in
        let inside = ends_there u.net valid k.0.group way group in
        let out : end_at u.net.ends n iface ≡ Some sound.end = ap (end_at u.net.ends n) by ∙ sound.at in
        let there : In e (goes_to u.net (Some sound.end) x.hop.addr) = subst (λ (z : Option ℕ × Addr). In e (goes_to u.net z.0 z.1)) (λ j. (out j, to j)) goes in
        let linked : In way.from (peers u.net.links way.to) = back_linked u.net valid k.0.group way group in
        let peer : In way.from (peers u.net.links sound.end) = subst (λ (z : ℕ). In way.from (peers u.net.links z)) sound.sound.to linked in
        let host : is_group x.hop.addr ≡ false = subst (λ (z : Addr). is_group z ≡ false) (sym sound.sound.from) (not_group way.from inside.0) in
        let at = ((where_a_send_goes u.net sound.end x.hop.addr).one host way.from peer (sym sound.sound.from) e).0 there in
        same_by_addr u.net valid way.from e inside.0 (peer_there u.net valid sound.end e at.0) (sym sound.sound.from ∙ sym at.1)

-- ---- what came to a node was in flight
pub record IsItemAt (s : Step) (u : World) (n at : ℕ) (a : Arrival) : Type 0 where
  pub item : Item
  pub flies : In item u.flight
  pub says : item.arrival ≡ a
  pub node : node_of u.net.ends item.end ≡ n
  pub iface : iface_of u.net.ends item.end ≡ at
  pub arrives : arrived s u ≡ Some item

pub came_item : (s : Step) (u : World) (n : ℕ) (i : Input) → is_quiet s ≡ true → input_at s u n ≡ Some i → (at : ℕ) (dst : Addr) (a : Arrival) → i ≡ Came at dst a → IsItemAt s u n at a
came_item s u n i quiet came at dst a is =
    ⊎_elim
    (λ (t : IsWaited s u n i). let no : Wait t.ms (word_for u.words n) ≡ Came at dst a = sym t.is ∙ is in absurd (cc))
    (λ (t : IsCame s u n i).
    let same : Came (iface_of u.net.ends t.item.end) t.item.dst t.item.arrival ≡ Came at dst a = sym t.is ∙ is in
    let what : t.item.arrival ≡ a = cc in
    let by : iface_of u.net.ends t.item.end ≡ at = cc in
    record { item = t.item; flies = in_arrived s u t.item t.arrives; says = what; node = ap node_of_end t.there ∙ t.node; iface = by; arrives = t.arrives })
    (input_found s u n i quiet came)

-- time passed, or a message came
pub calm_input : (s : Step) (u : World) (n : ℕ) (i : Input) → is_quiet s ≡ true → input_at s u n ≡ Some i → is_calm i ≡ true
calm_input s u n i quiet came = ⊎_elim (λ (t : IsWaited s u n i). ap is_calm t.is) (λ (t : IsCame s u n i). ap is_calm t.is) (input_found s u n i quiet came)

-- ---- worlds that are ready for each session, and in which each item spells a message
abbrev pub AreSpelt : World → Type 0
AreSpelt u = (y : Item) → In y u.flight → (m : Message) × (y.arrival ≡ Spelt m)

pub record IsAllReady (q : ℕ) (o u : World) : Type 0 where
  pub known : IsKnown q o u
  pub ready : (s : Session) → IsReady q s u
  pub spelt : AreSpelt u

module _ (q : ℕ) (o u : World) (all : IsAllReady q o u) (s : Step) (quiet : is_quiet s ≡ true) (n : ℕ) (f : Facts) (there : slice_get u.nodes n ≡ Some f) (i : Input)
    (came : input_at s u n ≡ Some i) where
  abbrev p : NodeConfig
  p = config_of q u.net u.trees n

  -- no Resv that comes is refused
  pub none_refused : (at : ℕ) (resv : ResvMsg) → i ≡ Came at (own p at) (Spelt (message.Resv resv)) → (x : Send) (w : ResvErrMsg) → In x (sent_then p p (u.clock + ms_of s) i f)
      → x.message ≡ message.ResvErr w → ⊥
  none_refused at resv is x w sent says =
      let t = came_item s u n i quiet came at (own p at) (Spelt (message.Resv resv)) is in
      let can = can_be_taken q resv.session u (all.ready resv.session) t.item resv t.flies t.says refl f (ap (λ (z : ℕ). slice_get u.nodes z) t.node ∙ there) in
      let can' : CanBeTaken p u.clock at resv f (goal_at u.net (locals_of u) n) =
      subst (λ (z : ℕ × ℕ). CanBeTaken (config_of q u.net u.trees z.0) u.clock z.1 resv f (goal_at u.net (locals_of u) z.0)) (λ j. (t.node j, t.iface j)) can in
      let taken : IsTakenWhole p p u.clock at resv f (goal_at u.net (locals_of u) n) =
      what_is_accepted.whole p p u.clock u.clock at resv f (goal_at u.net (locals_of u) n) (all.known.bounds.facts n f there) can' in
      let clock : u.clock + ms_of s ≡ u.clock = (let z = arrival_takes_no_time s u t.item t.arrives in omega arith) in
      taken.no_error x w (subst (λ (z : ℕ × Input). In x (sent_then p p z.0 z.1 f)) (λ j. (clock j, is j)) sent) says

  -- and nothing comes that spells no message
  pub all_spelt : {A : Type 0} (at : ℕ) (dst : Addr) (fault : MsgErr) → i ≡ Came at dst (Unspelt fault) → A
  all_spelt at dst fault is =
      let t = came_item s u n i quiet came at dst (Unspelt fault) is in
      let m = all.spelt t.item t.flies in
      let no : Spelt m.0 ≡ Unspelt fault = sym m.1 ∙ t.says in
      absurd (cc)
