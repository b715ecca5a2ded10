-- What a node asks for no more: what is on its way then, and that a ResvTear of all its names is sent. And what it asks for still.
use Rattle.std.proofs.Common.{◌≡◌, ℕ, List, [], ◌∷◌, ◌++◌, Bool, true, false, Option, None, Some, ◌⊎◌, inl, inr, ⊎_elim, sym, refl, ap, subst, ◌∙◌, append_assoc}
use Rattle.std.specs.Prelude.{slice_get, is_some}
use Rattle.std.proofs.lemmas.Bool.{not-true}
use Rattle.rsvp_base.specs.declared.part.Part.{Part}
use Rattle.rsvp_base.specs.declared.session.Sender.{Sender}
use Rattle.rsvp_base.specs.declared.session.Session.{Session}
use Rattle.rsvp_base.specs.declared.style.StyleKind.{StyleKind}
use Rattle.rsvp_base.specs.declared.style.StyleKind.TheVariants.{Wild, Fixed, Shared}
use Rattle.rsvp_base.specs.Members.{In}
use Rattle.rsvp_base.specs.Orders.{Names, senders}
use Rattle.rsvp_base.specs.Table.{get, has}
use Rattle.rsvp_base.proofs.Members.{in_append, in_each, to_each, in_left, in_right}
use Rattle.rsvp_base.proofs.Tables.{either}
use Rattle.rsvp_messages.specs.declared.message.Message.TheVariants as message
use Rattle.rsvp_messages.specs.declared.message.ResvMsg.{ResvMsg}
use Rattle.rsvp_messages.specs.Units.{tear_names, tear_style}
use Rattle.style_rules.specs.Merge.{PartTable}
use Rattle.router_rules.specs.Facts.{Facts, ResvState}
use Rattle.router_rules.specs.Inputs.{Spelt, Send}
use Rattle.router_rules.specs.Known.{Lane, lanes, names_via}
use Rattle.router_rules.specs.NodeConfig.{NodeConfig}
use Rattle.router_rules.specs.Requests.{toward}
use Rattle.router_rules.specs.Rule.{Outcome, settled}
use Rattle.router_rules.specs.Steps.{sent_then}
use Rattle.tree_model.specs.Goals.{addr_of, addr_of_end}
use Rattle.tree_model.specs.Networks.{Net, end_at, iface_of, node_of, peers}
use Rattle.tree_model.specs.Trees.{hops_of, tree}
use Rattle.tree_model.proofs.Ifaces.{interfaces_are_ends}
use Rattle.network_model.specs.Bounds.{AreBounds}
use Rattle.network_model.specs.Sound.{ArePathsSound}
use Rattle.network_model.specs.Steps.{outcome, sent, still, Step}
use Rattle.network_model.specs.Worlds.{Item, World, config_of}
use Rattle.network_model.proofs.Stepping.{copies_made, sent_made}
use Rattle.laws_network.proofs.Known.{of_some}
use Rattle.laws_network.proofs.Standing.{own_end, some_at}
use Rattle.settle_paths.proofs.PreviousHops.{ends_there, same_by_addr}
use Rattle.settle_resvs.specs.Said.{HopKey, IsOver, hop_over, lane_of, resv_key}
use Rattle.settle_resvs.specs.SoftResvs.{SaysResv, line_key_of, resv_at}
use Rattle.settle_passes.specs.Reserving.{AllAsk, IsAskedLast, IsKeptOver}
use Rattle.rsvp_base.proofs.SetLaws.{and_made, has-cut}
use Rattle.rsvp_messages.specs.declared.message.ResvTearMsg.{ResvTearMsg}
use Rattle.style_rules.proofs.StyleLaws.{unit_name}
use Rattle.laws_bounds.specs.SendLaws.{IsAskedOf}
use Rattle.laws_bounds.proofs.Asks.{units_told, gone_by_units}
use Rattle.laws_bounds.proofs.Requesting.{nowhere}
use Rattle.laws_bounds.proofs.Ruling.{rule_in_parts}
use Rattle.router_rules.specs.Act.{act}
use Rattle.router_rules.specs.Sends.{tear_of, gone_names, resv_tear_send, torn_names, hop_to}
use Rattle.tree_model.specs.declared.hops.End.{End}
use Rattle.tree_model.specs.declared.hops.LinkHop.{LinkHop}
use Rattle.tree_model.proofs.Following.{in_group, to_tree}
use Rattle.tree_model.proofs.Links.{hop_linked, peers_both}
use Rattle.network_model.specs.Links.{copy_to, goes_to, is_group}
use Rattle.network_model.proofs.Changing.{where_a_send_goes}
use Rattle.laws_network.proofs.Speaking.{send_made}
use Rattle.settle_resvs.proofs.ResvSends.{over_hop}
use Rattle.settle_resvs.proofs.TowardNames.{parts_of_style, toward_names}
use Rattle.settle_passes.proofs.Turns.{Turns, addressed_in_turn, left, moment, news, place, resv_in_turn}
use Rattle.style_rules.specs.CutLaws.{some_within}
use Rattle.tree_model.specs.Wants.{names}
use Rattle.rsvp_base.specs.Sets.{IsWithin, is_none}

-- ---- what is on its way for a part that is asked for no more
-- none of them asks for the unit
abbrev pub NoneAsks : Net → HopKey → List Item → Type 0
NoneAsks net k ys = (y : Item) (v : Part) → In y ys → SaysResv net (resv_key net k) y v → ⊥

-- it asks for a part of the unit of which each name is among these
abbrev pub AsksWithin : Net → HopKey → Names → Item → Type 0
AsksWithin net k ns y = (v : Part) × SaysResv net (resv_key net k) y v × IsWithin v.senders ns

-- each of them that asks for the unit asks for such a part
abbrev pub AllWithin : Net → HopKey → Names → List Item → Type 0
AllWithin net k ns ys = (y : Item) (v : Part) → In y ys → SaysResv net (resv_key net k) y v → AsksWithin net k ns y

-- one of them does, and so do all that were sent later
abbrev pub IsWithinLast : Net → HopKey → Names → List Item → Type 0
IsWithinLast net k ns [] = ⊥
IsWithinLast net k ns (y ∷ ys) = IsWithinLast net k ns ys ⊎ (AsksWithin net k ns y × AllWithin net k ns ys)

-- what stands has no other names
abbrev pub IsHeldWithin : World → HopKey → Names → Type 0
IsHeldWithin w k ns = (r : ResvState) → resv_at w (node_of w.net.ends k.to) k.style (line_key_of w.net (resv_key w.net k)) ≡ Some r → IsWithin r.part.senders ns

-- once these have come, what stands has no other names
abbrev pub ComesWithin : World → HopKey → Names → List Item → Type 0
ComesWithin w k ns ys = (IsHeldWithin w k ns × AllWithin w.net k ns ys) ⊎ IsWithinLast w.net k ns ys

-- a ResvTear goes back over the hop, for the session and style; it takes these names, one at least
pub record IsTearBack (net : Net) (k : HopKey) (y : Item) (ns : Names) : Type 0 where
  pub tear : ResvTearMsg
  pub spelt : y.arrival ≡ Spelt (message.ResvTear tear)
  pub over : IsOver net k y tear.session tear.hop.addr (tear_style tear.tear)
  pub dst : y.dst ≡ addr_of net k.to
  pub lists : tear_names tear.tear ≡ Some ns
  pub some : (x : Sender) × (has ns x ≡ true)

-- one is on its way that takes all that stands when it comes, and nothing that was sent later asks for the unit
pub record IsTornLater (w : World) (k : HopKey) : Type 0 where
  pub front : List Item
  pub item : Item
  pub back : List Item
  pub is : w.flight ≡ front ++ item ∷ back
  pub names : Names
  pub tears : IsTearBack w.net k item names
  pub within : ComesWithin w k names front
  pub quiet : NoneAsks w.net k back

-- nothing of the unit stands, and nothing that is on its way asks for it
pub record IsForgotten (w : World) (k : HopKey) : Type 0 where
  pub none : resv_at w (node_of w.net.ends k.to) k.style (line_key_of w.net (resv_key w.net k)) ≡ None
  pub quiet : NoneAsks w.net k w.flight

-- what goes no more of the session from a node toward a hop of its group is forgotten behind the hop, or is torn down later
abbrev pub AreTakenBack : ℕ → Session → World → Type 0
AreTakenBack q s w =
    (k : HopKey) (f : Facts) → k.session ≡ s → In (hop_over k) (hops_of w.net.hops k.session.group) → slice_get w.nodes (node_of w.net.ends k.from) ≡ Some f
    → get (toward (config_of q w.net w.trees (node_of w.net.ends k.from)) f (lane_of w.net k)) k.unit ≡ None → IsForgotten w k ⊎ IsTornLater w k

-- a ResvTear of a style lists its names
pub style_of_tear : (st : StyleKind) (names : Names) → tear_style (tear_of st names) ≡ st
style_of_tear Wild names = refl
style_of_tear Fixed names = refl
style_of_tear Shared names = refl

pub names_of_tear : (st : StyleKind) (names : Names) → tear_names (tear_of st names) ≡ Some names
names_of_tear Wild names = refl
names_of_tear Fixed names = refl
names_of_tear Shared names = refl

-- ---- lists of what is in flight
split_at : {A : Type 0} (x : A) (xs : List A) → In x xs → (front : List A) × (back : List A) × (xs ≡ front ++ x ∷ back)
split_at x [] i = absurd i
split_at {A} x (y ∷ ys) i =
    ⊎_elim (λ (e : x ≡ y). ([], ys, ap (λ (z : A). z ∷ ys) (sym e)))
    (λ (j : In x ys). let r = split_at x ys j in (y ∷ r.0, r.1, ap (λ (zs : List A). y ∷ zs) r.2)) i

within_append : (net : Net) (k : HopKey) (ns : Names) (xs ys : List Item) → AllWithin net k ns xs → AllWithin net k ns ys → AllWithin net k ns (xs ++ ys)
within_append net k ns xs ys a b y v i says = ⊎_elim (λ (x : In y xs). a y v x says) (λ (z : In y ys). b y v z says) (in_append y xs ys i)

within_before : (net : Net) (k : HopKey) (ns : Names) (xs ys : List Item) → IsWithinLast net k ns xs → AllWithin net k ns ys → IsWithinLast net k ns (xs ++ ys)
within_before net k ns [] ys l all = absurd l
within_before net k ns (x ∷ xs) ys l all =
    ⊎_elim (λ (more : IsWithinLast net k ns xs). inl (within_before net k ns xs ys more all))
    (λ (now : AsksWithin net k ns x × AllWithin net k ns xs). inr (now.0, within_append net k ns xs ys now.1 all)) l

pub comes_before : (w : World) (k : HopKey) (ns : Names) (xs ys : List Item) → ComesWithin w k ns xs → AllWithin w.net k ns ys → ComesWithin w k ns (xs ++ ys)
comes_before w k ns xs ys c all =
    ⊎_elim (λ (a : IsHeldWithin w k ns × AllWithin w.net k ns xs). inl (a.0, within_append w.net k ns xs ys a.1 all))
    (λ (b : IsWithinLast w.net k ns xs). inr (within_before w.net k ns xs ys b all)) c

-- a part that is asked for comes within its names
asked_within : (net : Net) (k : HopKey) (v : Part) (ns : Names) → IsWithin v.senders ns → (ys : List Item) → AllAsk net k v ys → AllWithin net k ns ys
asked_within net k v ns less ys all y x i says =
    (v, all y i (inl (says.resv, says.spelt, record { end = says.end; session = says.session; from = says.hop; style = says.style })), less)

last_within : (net : Net) (k : HopKey) (v : Part) (ns : Names) → IsWithin v.senders ns → (ys : List Item) → IsAskedLast net k v ys → IsWithinLast net k ns ys
last_within net k v ns less [] l = absurd l
last_within net k v ns less (y ∷ ys) l =
    ⊎_elim (λ (more : IsAskedLast net k v ys). inl (last_within net k v ns less ys more))
    (λ (now : SaysResv net (resv_key net k) y v × AllAsk net k v ys). inr ((v, now.0, less), asked_within net k v ns less ys now.1)) l

pub held_within : (w : World) (k : HopKey) (v : Part) (ns : Names) → IsWithin v.senders ns → IsKeptOver w k v → IsHeldWithin w k ns
held_within w k v ns less c r there x i =
    let one : r ≡ c.resv = of_some r c.resv (sym there ∙ c.there) in
    less x (ap (λ (z : Part). has z.senders x) (sym (ap (λ (z : ResvState). z.part) one ∙ c.is)) ∙ i)

pub comes_within : (w : World) (k : HopKey) (v : Part) (ns : Names) → IsWithin v.senders ns → (ys : List Item)
    → (IsKeptOver w k v × AllAsk w.net k v ys) ⊎ IsAskedLast w.net k v ys → ComesWithin w k ns ys
comes_within w k v ns less ys c =
    ⊎_elim (λ (a : IsKeptOver w k v × AllAsk w.net k v ys). inl (held_within w k v ns less a.0, asked_within w.net k v ns less ys a.1))
    (λ (b : IsAskedLast w.net k v ys). inr (last_within w.net k v ns less ys b)) c

pub none_append : (net : Net) (k : HopKey) (xs ys : List Item) → NoneAsks net k xs → NoneAsks net k ys → NoneAsks net k (xs ++ ys)
none_append net k xs ys a b y v i says = ⊎_elim (λ (x : In y xs). a y v x says) (λ (z : In y ys). b y v z says) (in_append y xs ys i)

-- a ResvTear that was sent, behind what came before, where nothing that is sent asks for the unit
pub torn_later : (w : World) (k : HopKey) (ns : Names) (xs new : List Item) (y : Item) → w.flight ≡ xs ++ new → In y new → IsTearBack w.net k y ns → ComesWithin w k ns xs
    → NoneAsks w.net k new → IsTornLater w k
torn_later w k ns xs new y flight i tears within none =
    let p = split_at y new i in
    record {
      front = xs ++ p.0;
      item = y;
      back = p.1;
      is = flight ∙ ap (λ (z : List Item). xs ++ z) p.2 ∙ sym (append_assoc xs p.0 (y ∷ p.1));
      names = ns;
      tears = tears;
      within = comes_before w k ns xs p.0 within
          (λ z v j says. absurd (none z v (subst (λ (zs : List Item). In z zs) (sym p.2) (in_left z p.0 (y ∷ p.1) j)) says));
      quiet = λ z v j says. none z v (subst (λ (zs : List Item). In z zs) (sym p.2) (in_right z p.0 (y ∷ p.1) (inr j))) says;
    }

-- ---- a step by which a node follows its rule at most, without time going by: what it sends where a unit goes no more
module _ (q : ℕ) (t : Step) (u : World) (bounds : AreBounds q u) (turns : (n : ℕ) (f : Facts) → slice_get u.nodes n ≡ Some f → (outcome q t u n f ≡ still f) ⊎ Turns q t u n f)
    (bounds' : AreBounds q (left q t u)) (sound : ArePathsSound (left q t u)) (k : HopKey) (there : In (hop_over k) (hops_of u.net.hops k.session.group)) where
  abbrev asker : ℕ
  asker = node_of u.net.ends k.from

  abbrev lane : Lane
  lane = lane_of u.net k

  abbrev here : NodeConfig
  here = place q t u asker

  -- nothing that is sent asks for the unit
  pub none_asks : (g : Facts) → slice_get (left q t u).nodes asker ≡ Some g → get (toward here g lane) k.unit ≡ None → NoneAsks u.net k (news q t u)
  none_asks g at goes y v i says =
      let z = in_each (λ (x : Item × Bool). x.0) y (sent q t u) i in
      let new : In (y, z.0.1) (sent q t u) = subst (λ (x : Item). In (x, z.0.1) (sent q t u)) (sym z.2) z.1 in
      let m : ResvMsg = says.resv in
      let p = resv_in_turn q t u bounds turns y z.0.1 m new says.spelt in
      let x = over_hop q (left q t u) bounds' sound y m p (addressed_in_turn q t u bounds turns bounds' sound y z.0.1 m new says.spelt) in
      let inside = ends_there u.net bounds.net k.session.group (hop_over k) there in
      let of = (interfaces_are_ends u.net).iface_of_end p.node p.lane.hop.0 p.end p.at in
      let end : p.end ≡ k.from = same_by_addr u.net bounds.net p.end k.from of.0 inside.1 (sym p.hop ∙ says.hop) in
      let session : p.lane.session ≡ k.session = sym p.session ∙ says.session in
      let style : p.lane.style ≡ k.style = sym p.style ∙ says.style in
      let from : x.0.from ≡ k.to = x.2 ∙ says.end in
      let to : x.0.to ≡ k.from = x.3 ∙ end in
      let iface : p.lane.hop.0 ≡ iface_of u.net.ends k.from = sym x.1.iface ∙ ap (iface_of u.net.ends) to in
      let addr : p.lane.hop.1 ≡ addr_of u.net k.to = sym x.1.addr ∙ ap (addr_of u.net) from in
      let node : p.node ≡ asker = sym x.1.node ∙ ap (node_of u.net.ends) to in
      let lane_is : p.lane ≡ lane = (λ j. record { session = session j; style = style j; hop = (iface j, addr j) }) in
      let facts : p.facts ≡ g = of_some p.facts g (sym p.after ∙ ap (λ (w : ℕ). slice_get (left q t u).nodes w) node ∙ at) in
      let asked : IsAskedOf (toward (place q t u p.node) p.facts p.lane) says.unit =
      (units_told p.lane.style (toward (place q t u p.node) p.facts p.lane) m.ask says.unit
      (parts_of_style (place q t u p.node) (left q t u).clock p.facts (bounds'.facts p.node p.facts p.after) p.lane) p.asks).0 says.asks in
      let bad : None ≡ Some asked.part =
      sym goes ∙ (λ j. get (toward (place q t u (sym node j)) (sym facts j) (sym lane_is j)) (sym says.at j)) ∙ asked.there in
      cc

  -- where a part went toward the hop before and nothing of its unit does after, a ResvTear of all its names is sent
  pub record IsTornNow (v : Part) : Type 0 where
    pub item : Item
    pub new : In item (news q t u)
    pub names : Names
    pub tears : IsTearBack u.net k item names
    pub less : IsWithin v.senders names

  torn_now : (f : Facts) → slice_get u.nodes asker ≡ Some f → (v : Part) → get (toward here f lane) k.unit ≡ Some v → get (toward here (outcome q t u asker f).facts lane) k.unit ≡ None
      → IsWithin (names_via f lane) (names_via (outcome q t u asker f).facts lane) → IsTornNow v
  torn_now f at v goes none via =
      ⊎_elim
      (λ (z : outcome q t u asker f ≡ still f).
      let bad : None ≡ Some v = sym none ∙ ap (λ (o : Outcome). get (toward here o.facts lane) k.unit) z ∙ goes in absurd (cc))
      (λ (h : Turns q t u asker f).
      let c : ℕ = moment q t u in
      let after : Facts = settled here c f (act here c h.input f).facts in
      let same : toward here (outcome q t u asker f).facts lane ≡ toward here after lane = ap (λ (z : Outcome). toward here z.facts lane) h.is ∙ rule_in_parts.toward_same here here c h.input f lane in
      let gone : has (toward here after lane) k.unit ≡ false = ap (λ (z : PartTable). is_some (get z k.unit)) (sym same) ∙ ap (λ (z : Option Part). is_some z) none in
      let was : has (lanes f) lane ≡ true = either (has (lanes f) lane) (λ yes. yes)
      (λ no. let bad : None ≡ Some v = ap (λ (z : PartTable). get z k.unit) (sym (nowhere here f lane no)) ∙ goes in absurd (cc)) in
      let part = toward_names here u.clock f (bounds.facts asker f at) lane k.unit v goes in
      let via_after : (x : Sender) → has (names_via f lane) x ≡ true → has (names_via after lane) x ≡ true =
      (λ x i. ap (λ (z : Outcome). has (names_via z.facts lane) x) (sym h.is) ∙ via x i) in
      let torn : Names = torn_names here here f after lane in
      let less : IsWithin v.senders torn =
      (λ x i.
      has-cut senders (gone_names (toward here f lane) (toward here after lane)) (names_via after lane) x
      ∙ and_made _ _ ((gone_by_units.each (toward here f lane) (toward here after lane) x).1 (record { unit = k.unit; part = v; was = goes; gone = gone; named = i }))
      (via_after x (part.1 x i))) in
      let first = unit_name k.style v part.0 in
      let some : is_none torn ≡ false = some_within v.senders torn less (not-true (is_none v.senders) part.0) in
      let send : Send = resv_tear_send here after lane torn in
      let sends : In send (sent_then here here c h.input f) = send_made here here c h.input f send h.loud (inr (inl (record { lane = lane; was = was; some = some; is = refl }))) in
      let out : In send (outcome q t u asker f).sent = subst (λ (z : Outcome). In send z.sent) (sym h.is) sends in
      let inside = ends_there u.net bounds.net k.session.group (hop_over k) there in
      let end : end_at u.net.ends asker (iface_of u.net.ends k.from) ≡ Some k.from = (interfaces_are_ends u.net).end_of_iface k.from inside.1 in
      let g = in_group u.net.hops k.session.group (hop_over k) there in
      let in_tree : In (hop_over k) (tree u.net.hops g.0.group g.0.source) = subst (λ (z : LinkHop). In z (tree u.net.hops g.0.group g.0.source)) g.3 (to_tree u.net.hops g.0 g.1) in
      let peer : In k.to (peers u.net.links k.from) = peers_both u.net bounds.net k.to k.from (hop_linked u.net bounds.net g.0.group g.0.source (hop_over k) in_tree) in
      let host : is_group (addr_of u.net k.to) ≡ false = (let x = some_at u.net.ends k.to inside.0 in ap (λ (z : Option End). is_group (addr_of_end z)) x.1 ∙ bounds.hosts k.to x.0 x.1) in
      let goes_there : In k.to (goes_to u.net (end_at u.net.ends asker (iface_of u.net.ends k.from)) (addr_of u.net k.to)) =
      subst (λ (z : Option ℕ). In k.to (goes_to u.net z (addr_of u.net k.to))) (sym end)
      (((where_a_send_goes u.net k.from (addr_of u.net k.to)).one host k.to peer refl k.to).1 (peer, refl)) in
      let y : Item × Bool = copy_to u.made send k.to in
      let sent_one : In y (sent q t u) = sent_made q t u asker f y at (copies_made u.net u.made asker (outcome q t u asker f).sent send k.to out goes_there) in
      record {
        item = y.0;
        new = to_each (λ (z : Item × Bool). z.0) y (sent q t u) sent_one;
        names = torn;
        tears = record {
          tear = record { session = k.session; hop = hop_to here after lane; tear = tear_of k.style torn };
          spelt = refl;
          over = record { end = refl; session = refl; from = own_end q u.net u.trees asker (iface_of u.net.ends k.from) k.from end; style = style_of_tear k.style torn };
          dst = refl;
          lists = names_of_tear k.style torn;
          some = (first.name, less first.name first.there);
        };
        less = less;
      })
      (turns asker f at)

  -- ---- what goes toward it no more did not before either, or is torn down now
  pub gone_before_or_now : (w : World) (f : Facts) → slice_get u.nodes asker ≡ Some f → get (toward here (outcome q t u asker f).facts lane) k.unit ≡ None
      → IsWithin (names_via f lane) (names_via (outcome q t u asker f).facts lane) → (get (toward here f lane) k.unit ≡ None → IsForgotten w k ⊎ IsTornLater w k)
      → ((v : Part) → get (toward here f lane) k.unit ≡ Some v → IsTornNow v → IsForgotten w k ⊎ IsTornLater w k) → IsForgotten w k ⊎ IsTornLater w k
  gone_before_or_now w f at none via before now = by (get (toward here f lane) k.unit) refl
    where
      by : (o : Option Part) → get (toward here f lane) k.unit ≡ o → IsForgotten w k ⊎ IsTornLater w k
      by None e = before e
      by (Some v) e = now v e (torn_now f at v e none via)
