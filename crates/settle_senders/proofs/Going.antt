-- While a sender that ended is forgotten, what goes from a node toward a hop stands behind it, or is asked for on its way, as far as those go that
-- send: the reservation has the flow, and their names. Once no name of the sender is left it stands whole.
use Rattle.std.proofs.Common.{◌≡◌, ℕ, ◌+◌, ◌<◌, List, [], ◌∷◌, ◌++◌, length, Bool, true, false, Option, None, Some, ◌⊎◌, inl, inr, ⊎_elim, arith, sym, refl, ap, subst, ◌∙◌}
use Rattle.std.specs.Prelude.{slice_get, not, ◌&&◌}
use Rattle.settle_senders.proofs.Ending.{IsLettingGo, letting_go_next}
use Rattle.settle_senders.proofs.TakenFor.{known_of_live, same_addr, taken_for_live, IsTakenFor}
use Rattle.laws_bounds.specs.RuleLaws.{IsLeft}
use Rattle.laws_bounds.proofs.Leaving.{forgetting_by_names, left_by_names}
use Rattle.router_rules.specs.Act.{act, act_spelt, is_mine}
use Rattle.router_rules.specs.Forgetting.{is_lost}
use Rattle.settle_passes.proofs.Deliveries.{live_next, came_by_delivery, known_self}
use Rattle.settle_passes.proofs.Arriving.{of_tear_item, touched}
use Rattle.laws_steps.proofs.Asking.{what_keeps_a_reservation_fact}
use Rattle.tree_model.proofs.WantLaws.{name_told, want_names}
use Rattle.rsvp_base.specs.declared.part.Part.{Part}
use Rattle.rsvp_base.specs.declared.session.Sender.{Sender}
use Rattle.rsvp_base.specs.declared.session.Session.{Session}
use Rattle.rsvp_base.specs.declared.style.StyleKind.{StyleKind}
use Rattle.rsvp_base.specs.Members.{In}
use Rattle.rsvp_base.specs.Orders.{Names, senders}
use Rattle.rsvp_base.specs.Table.{get, has}
use Rattle.rsvp_base.specs.TokenBucket.{TokenBucket}
use Rattle.rsvp_messages.specs.declared.message.Message.TheVariants as message
use Rattle.rsvp_messages.specs.declared.message.ResvMsg.{ResvMsg}
use Rattle.rsvp_messages.specs.Units.{ask_style, tear_names, tear_style}
use Rattle.laws_bounds.proofs.Knowing.{known_and_via}
use Rattle.laws_steps.specs.ReservationLaws.{TakesName}
use Rattle.router_rules.specs.Facts.{Facts, SenderKey, resvs_of, ResvState, ResvTables, table_of}
use Rattle.router_rules.specs.Inputs.{Spelt, Came, Input, Arrival, Change}
use Rattle.router_rules.specs.Known.{known, named_as}
use Rattle.router_rules.specs.NodeConfig.{NodeConfig, own}
use Rattle.router_rules.specs.Requests.{toward}
use Rattle.router_rules.specs.Rule.{Outcome}
use Rattle.router_rules.specs.Steps.{facts_then, node_step}
use Rattle.tree_model.specs.Networks.{node_of, end_at, iface_of, Net}
use Rattle.tree_model.specs.Trees.{outward, tree, hops_of}
use Rattle.tree_model.proofs.TreeLaws.{out_tested, the_root_has_no_inward}
use Rattle.network_model.specs.Bounds.{AreBounds}
use Rattle.network_model.specs.Steps.{outcome, still, Deliver, input_at, step}
use Rattle.network_model.specs.Worlds.{Item, World, config_of}
use Rattle.network_model.proofs.Stepping.{facts_after_made}
use Rattle.laws_network.proofs.Known.{came_there, node_there}
use Rattle.settle_paths.proofs.PreviousHops.{ends_there}
use Rattle.settle_resvs.specs.Said.{HopKey, resv_key, IsOver, hop_over, lane_of}
use Rattle.settle_resvs.specs.SoftResvs.{line_key_of, AsksFor, SaysResv, resv_at}
use Rattle.settle_resvs.proofs.SoftResvs.{resv_found, resv_made}
use Rattle.rsvp_base.proofs.Members.{in_append}
use Rattle.rsvp_base.proofs.SetLaws.{and_made, and_both, has-cut, has-kept}
use Rattle.rsvp_messages.specs.declared.message.ResvTearMsg.{ResvTearMsg}
use Rattle.style_rules.specs.Lines.{LineKey, is_of_hop}
use Rattle.laws_bounds.proofs.Receiving.{resv_tears_by_names}
use Rattle.laws_bounds.proofs.Ruling.{rule_in_parts}
use Rattle.router_rules.specs.Asking.{act_resv_tear, names_one, stays, asker_of, matched}
use Rattle.rsvp_base.specs.declared.addr.Addr.{Addr}
use Rattle.style_rules.specs.PartLaws.{same_part, part_at_most_told}
use Rattle.tree_model.specs.Goals.{DemandsFit}
use Rattle.tree_model.proofs.Ifaces.{interfaces_are_ends}
use Rattle.network_model.specs.Locals.{locals_of, IsLive}
use Rattle.network_model.proofs.Machines.{in_arrived}
use Rattle.network_model.proofs.Quiet.{FollowsRule, IsCame, outcome_by, outcome_quiet}
use Rattle.laws_network.proofs.Standing.{own_end}
use Rattle.tree_model.proofs.Following.{has_hop_in}
use Rattle.settle_resvs.specs.Laws.{AreWantParts}
use Rattle.rsvp_base.specs.Sets.{IsWithin}
use Rattle.settle_senders.specs.Ending.{IsNameOfLive}

-- ---- parts that are the same for those that send, in a world that says who does
abbrev pub Lives : World → HopKey → Sender → Type 0
Lives o k x = IsNameOfLive o k.session k.style x

pub record IsLike (o : World) (k : HopKey) (a b : Part) : Type 0 where
  pub flow : a.flow ≡ b.flow
  pub names : (x : Sender) → Lives o k x → has a.senders x ≡ has b.senders x

abbrev pub SaysLike : World → Net → HopKey → Item → Part → Type 0
SaysLike o net k y v = (x : Part) × SaysResv net (resv_key net k) y x × IsLike o k x v

-- what goes back over a hop: a Resv of the key's session and style, or such a ResvTear that takes a name of the part, of somebody who sends
abbrev pub IsLiveLetter : World → Net → HopKey → Part → Item → Type 0
IsLiveLetter o net k v y =
    ((m : ResvMsg) × (y.arrival ≡ Spelt (message.Resv m)) × IsOver net k y m.session m.hop.addr (ask_style m.ask))
    ⊎ ((m : ResvTearMsg) × (y.arrival ≡ Spelt (message.ResvTear m)) × IsOver net k y m.session m.hop.addr (tear_style m.tear) × (c : TakesName m v) × Lives o k c.name)

abbrev pub AllLike : World → Net → HopKey → Part → List Item → Type 0
AllLike o net k v ys = (y : Item) → In y ys → IsLiveLetter o net k v y → SaysLike o net k y v

abbrev pub IsLikeLast : World → Net → HopKey → Part → List Item → Type 0
IsLikeLast o net k v [] = ⊥
IsLikeLast o net k v (y ∷ ys) = IsLikeLast o net k v ys ⊎ (SaysLike o net k y v × AllLike o net k v ys)

pub record IsKeptLike (o w : World) (k : HopKey) (v : Part) : Type 0 where
  pub resv : ResvState
  pub there : resv_at w (node_of w.net.ends k.to) k.style (line_key_of w.net (resv_key w.net k)) ≡ Some resv
  pub like : IsLike o k resv.part v

abbrev pub AreAskedLike : ℕ → World → World → Type 0
AreAskedLike q o w =
    (k : HopKey) (v : Part) (f : Facts) (x : Sender) → In (hop_over k) (hops_of w.net.hops k.session.group) → slice_get w.nodes (node_of w.net.ends k.from) ≡ Some f
    → get (toward (config_of q w.net w.trees (node_of w.net.ends k.from)) f (lane_of w.net k)) k.unit ≡ Some v → has v.senders x ≡ true → Lives o k x
    → (IsKeptLike o w k v × AllLike o w.net k v w.flight) ⊎ IsLikeLast o w.net k v w.flight

pub like_itself : (o : World) (k : HopKey) (v : Part) → IsLike o k v v
like_itself o k v = record { flow = refl; names = λ x l. refl }

-- ---- lists of what is in flight
pub all_like_append : (o : World) (net : Net) (k : HopKey) (v : Part) (xs ys : List Item) → AllLike o net k v xs → AllLike o net k v ys → AllLike o net k v (xs ++ ys)
all_like_append o net k v xs ys a b y i l = ⊎_elim (λ (x : In y xs). a y x l) (λ (z : In y ys). b y z l) (in_append y xs ys i)

pub last_like_behind : (o : World) (net : Net) (k : HopKey) (v : Part) (xs ys : List Item) → IsLikeLast o net k v ys → IsLikeLast o net k v (xs ++ ys)
last_like_behind o net k v [] ys l = l
last_like_behind o net k v (x ∷ xs) ys l = inl (last_like_behind o net k v xs ys l)

pub last_like_before : (o : World) (net : Net) (k : HopKey) (v : Part) (xs ys : List Item) → IsLikeLast o net k v xs → AllLike o net k v ys → IsLikeLast o net k v (xs ++ ys)
last_like_before o net k v [] ys l all = absurd l
last_like_before o net k v (x ∷ xs) ys l all =
    ⊎_elim (λ (more : IsLikeLast o net k v xs). inl (last_like_before o net k v xs ys more all))
    (λ (now : SaysLike o net k x v × AllLike o net k v xs). inr (now.0, all_like_append o net k v xs ys now.1 all)) l

pub last_like : (o : World) (net : Net) (k : HopKey) (v : Part) (ys : List Item) (y : Item) → In y ys → SaysLike o net k y v → AllLike o net k v ys → IsLikeLast o net k v ys
last_like o net k v [] y i says all = absurd i
last_like o net k v (z ∷ zs) y i says all =
    ⊎_elim (λ (is : y ≡ z). inr (subst (λ (w : Item). SaysLike o net k w v) is says, λ w j l. all w (inr j) l))
    (λ (j : In y zs). inl (last_like o net k v zs y j says (λ w n l. all w (inr n) l))) i

-- ---- what stays of a reservation at its node
-- some of its names, with the flow
pub record IsKeptFor (st : StyleKind) (f : Facts) (k : LineKey) (r : ResvState) (stays_on : Sender → Type 0) : Type 0 where
  pub resv : ResvState
  pub there : get (resvs_of st f) k ≡ Some resv
  pub flow : resv.part.flow ≡ r.part.flow
  pub less : IsWithin resv.part.senders r.part.senders
  pub names : (x : Sender) → has r.part.senders x ≡ true → stays_on x → has resv.part.senders x ≡ true

pub kept_some : (by : Sender → Bool) (r y : ResvState) → IsLeft by r y → (x : Sender) → has r.part.senders x ≡ true → by x ≡ true → has y.part.senders x ≡ true
kept_some by r y l x i sure = ap (λ (z : Names). has z x) l.senders ∙ has-kept senders by r.part.senders x ∙ and_made _ _ i sure

pub kept_less : (by : Sender → Bool) (r y : ResvState) → IsLeft by r y → IsWithin y.part.senders r.part.senders
kept_less by r y l x i = (and_both _ _ (sym (has-kept senders by r.part.senders x) ∙ ap (λ (z : Names). has z x) (sym l.senders) ∙ i)).0

module _ (p : NodeConfig) (c e : ℕ) (dst : Addr) (m : ResvTearMsg) (f : Facts) (k : LineKey) (r : ResvState) (there : get (resvs_of (tear_style m.tear) f) k ≡ Some r)
    (on : Sender → Type 0) (first : Sender) (named : has r.part.senders first ≡ true) (goes_on : on first)
    (spares : (x : Sender) → has r.part.senders x ≡ true → on x → stays (tear_names m.tear) x ≡ true) where
  abbrev st : StyleKind
  st = tear_style m.tear

  of_tear : (found of_hop : Bool) → names_one m.session (e, m.hop.addr) (tear_names m.tear) (resvs_of st f) ≡ found → is_of_hop m.session (e, m.hop.addr) k ≡ of_hop
      → IsKeptFor st (act_resv_tear e m f).facts k r on
  of_tear false b e0 e1 =
      record { resv = r; there = ap (λ (z : Change). get (resvs_of st z.facts) k) (resv_tears_by_names.none e m f e0) ∙ there; flow = refl; less = λ x i. i; names = λ x i l. i }
  of_tear true false e0 e1 = record { resv = r; there = resv_tears_by_names.others e m f k e1 ∙ there; flow = refl; less = λ x i. i; names = λ x i l. i }
  of_tear true true e0 e1 =
      let y = left_by_names.some (stays (tear_names m.tear)) r first named (spares first named goes_on) in
      let l = left_by_names.told (stays (tear_names m.tear)) r y.0 y.1 in
      record {
        resv = y.0;
        there = resv_tears_by_names.own e m f k r e0 e1 there ∙ y.1;
        flow = l.flow;
        less = kept_less (stays (tear_names m.tear)) r y.0 l;
        names = λ x i z. kept_some (stays (tear_names m.tear)) r y.0 l x i (spares x i z);
      }

  of_spelt : (b : Bool) → IsKeptFor st (act_spelt p c e (message.ResvTear m) b f).facts k r on
  of_spelt true = of_tear _ _ refl refl
  of_spelt false = record { resv = r; there = there; flow = refl; less = λ x i. i; names = λ x i l. i }

  abbrev input : Input
  input = Came e dst (Spelt (message.ResvTear m))

  pub torn_for : ((x : Sender) → has r.part.senders x ≡ true → on x → is_lost st f (act p c input f).facts k.0 x ≡ false) → IsKeptFor st (facts_then p p c input f) k r on
  torn_for known_still =
      let a = of_spelt (is_mine p e dst (message.ResvTear m)) in
      let acted : Facts = (act p c input f).facts in
      let y = forgetting_by_names.some f acted st k a.resv first a.there (a.names first named goes_on) (known_still first named goes_on) in
      record {
        resv = y.0;
        there = ap (λ (z : ResvTables). get (table_of st z) k) (rule_in_parts.resvs p p c input f) ∙ y.1;
        flow = y.2.flow ∙ a.flow;
        less = λ x i. a.less x (kept_less (λ (z : Sender). not (is_lost st f acted k.0 z)) a.resv y.0 y.2 x i);
        names = λ x i z. kept_some (λ (v : Sender). not (is_lost st f acted k.0 v)) a.resv y.0 y.2 x (a.names x i z) (ap not (known_still x i z));
      }

-- ---- one delivery
module _ (q : ℕ) (d : SenderKey) (flow : TokenBucket) (w u o : World) (was : IsLive w d flow) (kinds : AreWantParts (locals_of w)) (r : IsLettingGo q d w u) (net : u.net ≡ w.net)
    (fit : DemandsFit w.net (locals_of w)) (lives : (k : SenderKey) (t : TokenBucket) → IsLive o k t → IsLive u k t) (k : HopKey) (there : In (hop_over k) (hops_of u.net.hops k.session.group)) where
  abbrev next : World
  next = step q (Deliver 0) u

  bounds : AreBounds q u
  bounds = r.fading.bounds

  r' : IsLettingGo q d w next
  r' = letting_go_next q d flow w u was kinds r

  lt : k.to < length u.net.ends
  lt = (ends_there u.net bounds.net k.session.group (hop_over k) there).0

  abbrev n : ℕ
  n = node_of u.net.ends k.to

  abbrev key : LineKey
  key = line_key_of u.net (resv_key u.net k)

  now_live : (s : Session) (kind : StyleKind) (x : Sender) → IsNameOfLive o s kind x → IsNameOfLive u s kind x
  now_live s kind x l = record { sender = l.sender; flow = l.flow; live = lives (s, l.sender) l.flow l.live; name = l.name }

  -- a Resv that asks for a part like it is taken
  pub asked_is_kept : (v : Part) (first : Sender) → has v.senders first ≡ true → Lives o k first → (y : Item) → slice_get u.flight 0 ≡ Some y → SaysLike o u.net k y v → IsKeptLike o next k v
  asked_is_kept v first named goes y arr says =
      let e : ℕ = iface_of u.net.ends k.to in
      let p : NodeConfig = config_of q u.net u.trees n in
      let z = says.1 in
      let m : ResvMsg = z.resv in
      let i : In y u.flight = in_arrived (Deliver 0) u y arr in
      let f = node_there q u bounds.net u k.to (known_self q u bounds) lt in
      let at : slice_get u.nodes (node_of u.net.ends y.end) ≡ Some f.0 = ap (λ (c : ℕ). slice_get u.nodes (node_of u.net.ends c)) z.end ∙ f.1 in
      let end : end_at u.net.ends n e ≡ Some k.to = (interfaces_are_ends u.net).end_of_iface k.to lt in
      let dst : y.dst ≡ own p e = z.dst ∙ sym (own_end q u.net u.trees n e k.to end) in
      let input : Input = Came e (own p e) (Spelt (message.Resv m)) in
      let came : input_at (Deliver 0) u n ≡ Some input = came_there q u u (known_self q u bounds) k.to lt (Deliver 0) y arr z.end ∙ (λ j. Some (Came e (dst j) (z.spelt j))) in
      let x = r.within.items y m z.unit i z.spelt z.asks in
      let listed : AsksFor (Some x.names) says.0.senders = subst (λ (c : Option Names). AsksFor c says.0.senders) x.named z.names in
      let part : says.0 ≡ record { senders = x.names; flow = z.unit.flow } = same_part says.0 (record { senders = x.names; flow = z.unit.flow }) listed z.flow in
      let in_names : (c : Sender) → Lives o k c → has x.names c ≡ has v.senders c = (λ c l. ap (λ (b : Part). has b.senders c) (sym part) ∙ says.2.names c l) in
      let living : (c : Sender) → Lives o k c → IsNameOfLive u m.session (ask_style m.ask) c =
      (λ c l. subst (λ (b : Session × StyleKind). IsNameOfLive u b.0 b.1 c) (λ j. (sym z.session j, sym z.style j)) (now_live k.session k.style c l)) in
      let take : (c : Sender) (l : Lives o k c) → has x.names c ≡ true
      → IsTakenFor (config_of q u.net u.trees (node_of u.net.ends y.end)) (config_of q u.net u.trees (node_of u.net.ends y.end)) u.clock (iface_of u.net.ends y.end) m f.0 z.unit x.names
      × (has (matched (config_of q u.net u.trees (node_of u.net.ends y.end)) f.0 (asker_of (config_of q u.net u.trees (node_of u.net.ends y.end)) u.clock (iface_of u.net.ends y.end) m)) c ≡ true) =
      (λ c l h. taken_for_live q d w u r net fit y m i z.spelt f.0 at z.unit x.names c z.asks x.named h (living c l)) in
      let taken = (take first goes (in_names first goes ∙ named)).0 in
      let moved : IsTakenFor p p u.clock e m f.0 z.unit x.names =
      subst (λ (c : ℕ). IsTakenFor (config_of q u.net u.trees (node_of u.net.ends c)) (config_of q u.net u.trees (node_of u.net.ends c)) u.clock
      (iface_of u.net.ends c) m f.0 z.unit x.names) z.end taken in
      let all : Names = matched p f.0 (asker_of p u.clock e m) in
      let matches : (c : Sender) → Lives o k c → has x.names c ≡ true → has all c ≡ true =
      (λ c l h. subst (λ (b : ℕ). has (matched (config_of q u.net u.trees (node_of u.net.ends b)) f.0 (asker_of (config_of q u.net u.trees (node_of u.net.ends b)) u.clock
      (iface_of u.net.ends b) m)) c ≡ true)
      z.end (take c l h).1) in
      let g : Facts = (outcome q (Deliver 0) u n f.0).facts in
      let after : slice_get next.nodes n ≡ Some g = facts_after_made q (Deliver 0) u n f.0 f.1 in
      let ms : u.clock + 0 ≡ u.clock = omega arith in
      let is : g ≡ facts_then p p u.clock input f.0 =
      ap (λ (c : Outcome). c.facts) (outcome_by q (Deliver 0) u n f.0 input refl came) ∙ ap (λ (c : ℕ). facts_then p p c input f.0) ms in
      record {
        resv = moved.resv;
        there = resv_made next n k.style key g after ∙ (λ j. get (resvs_of (sym z.style j) (is j)) (sym z.session j, ((e, sym z.hop j), sym z.at j))) ∙ moved.there;
        like = record {
          flow = moved.flow ∙ sym z.flow ∙ says.2.flow;
          names = λ c l. ap (λ (b : Names). has b c) moved.senders ∙ has-cut senders x.names all c ∙ both (has x.names c) (has all c) (matches c l) ∙ in_names c l;
        };
      }
    where
      both : (a b : Bool) → (a ≡ true → b ≡ true) → (a && b) ≡ a
      both true b h = h refl
      both false b h = refl

  -- ---- who is named there and sends is known there afterwards
  names_known : (x : ResvState) → resv_at u n k.style key ≡ Some x → (g : Facts) → slice_get next.nodes n ≡ Some g → (c : Sender) → has x.part.senders c ≡ true → Lives o k c
      → has (named_as k.style (known g k.session)) c ≡ true
  names_known x e g at c named l =
      let f = resv_found u n k.style key x e in
      let y = r.within.facts k.style n f.0 key x f.1 f.2 in
      let of = (interfaces_are_ends u.net).iface_of_end n key.1.0.0 y.end y.at in
      let up = part_at_most_told x.part y.sound.wanted y.sound.below in
      let a = name_told k.style u.net (locals_of w) k.session (y.sound.hop ∷ []) c
      (want_names k.style u.net (locals_of w) k.session y.sound.hop key.1.1 y.sound.wanted y.sound.is c (up.names c named)) in
      let b = now_live k.session k.style c l in
      let addr : a.0.addr ≡ b.sender.addr = same_addr k.style a.0 b.sender (sym a.3 ∙ b.name) in
      let hop : In y.sound.hop (tree u.net.hops k.session.group b.sender.addr) =
      subst (λ (z : Addr). In y.sound.hop (tree u.net.hops k.session.group z)) addr (has_hop_in (tree u.net.hops k.session.group a.0.addr) y.sound.hop (and_both _ _ a.2).0) in
      let leaves : In y.sound.hop.from (outward u.net n k.session.group b.sender.addr) =
      out_tested u.net n y.sound.hop.from k.session.group b.sender.addr (y.sound.hop, hop, refl, ap (node_of u.net.ends) y.sound.from ∙ of.1) in
      let reaches = (the_root_has_no_inward u.net bounds.net).entered n y.sound.hop.from k.session.group b.sender.addr leaves in
      let then_live : IsLive next (k.session, b.sender) b.flow = live_next q 0 u bounds (k.session, b.sender) b.flow b.live in
      (known_and_via.named_by k.style (known g k.session) c).1
      (record { sender = b.sender; among = known_of_live q d next r'.fading n g at k.session b.sender b.flow then_live reaches; passes = refl; name = b.name })

  -- ---- the reservation stays where what arrives asks for nothing else and tears no such name
  pub stays_like : (v : Part) (first : Sender) → has v.senders first ≡ true → Lives o k first → (c : IsKeptLike o u k v)
      → ((y : Item) (m : ResvMsg) → slice_get u.flight 0 ≡ Some y → y.arrival ≡ Spelt (message.Resv m) → IsOver u.net k y m.session m.hop.addr (ask_style m.ask) → ⊥)
      → ((y : Item) (m : ResvTearMsg) → slice_get u.flight 0 ≡ Some y → y.arrival ≡ Spelt (message.ResvTear m) → IsOver u.net k y m.session m.hop.addr (tear_style m.tear)
      → (x : Sender) → has v.senders x ≡ true → Lives o k x → stays (tear_names m.tear) x ≡ true)
      → IsKeptLike o next k v
  stays_like v first named goes c no_resv spares =
      let p : NodeConfig = config_of q u.net u.trees n in
      let f = resv_found u n k.style key c.resv c.there in
      let g : Facts = (outcome q (Deliver 0) u n f.0).facts in
      let after : slice_get next.nodes n ≡ Some g = facts_after_made q (Deliver 0) u n f.0 f.1 in
      let in_resv : (x : Sender) → Lives o k x → has c.resv.part.senders x ≡ has v.senders x = c.like.names in
      let ends : IsKeptFor k.style g key c.resv (Lives o k) → IsKeptLike o next k v =
      (λ y. record {
        resv = y.resv;
        there = resv_made next n k.style key g after ∙ y.there;
        like = record { flow = y.flow ∙ c.like.flow; names = λ x l. same_bool (has y.resv.part.senders x) (has c.resv.part.senders x) (y.less x) (λ h. y.names x h l) ∙ in_resv x l };
      }) in
      ⊎_elim
      (λ (z : (input_at (Deliver 0) u n ≡ None) × (outcome q (Deliver 0) u n f.0 ≡ still f.0)).
      ends (record { resv = c.resv; there = ap (λ (b : Outcome). get (resvs_of k.style b.facts) key) z.1 ∙ f.2; flow = refl; less = λ x i. i; names = λ x i l. i }))
      (λ (h : FollowsRule q (Deliver 0) u n f.0 (outcome q (Deliver 0) u n f.0)).
      let t = came_by_delivery q 0 u bounds n h.input h.came in
      let same : g ≡ facts_then p p (u.clock + 0) h.input f.0 = ap (λ (b : Outcome). b.facts) h.is in
      let known_still : (x : Sender) → has c.resv.part.senders x ≡ true → Lives o k x → has (named_as k.style (known (facts_then p p (u.clock + 0) h.input f.0) k.session)) x ≡ true =
      (λ x i l. ap (λ (b : Facts). has (named_as k.style (known b k.session)) x) (sym same) ∙ names_known c.resv c.there g after x i l) in
      ends (subst (λ (b : Facts). IsKeptFor k.style b key c.resv (Lives o k)) (sym same)
      (⊎_elim
      (λ (x : (m : ResvTearMsg) × (t.item.arrival ≡ Spelt (message.ResvTear m)) × IsOver u.net k t.item m.session m.hop.addr (tear_style m.tear)).
      torn f.0 h.input c.resv f.2 first (in_resv first goes ∙ named) goes t x.0 x.1 x.2 (λ z i l. spares t.item x.0 t.arrives x.1 x.2 z (sym (in_resv z l) ∙ i) l) known_still)
      (λ (no : (m : ResvTearMsg) → t.item.arrival ≡ Spelt (message.ResvTear m) → IsOver u.net k t.item m.session m.hop.addr (tear_style m.tear) → ⊥).
      let lives_on : u.clock + 0 < c.resv.dies = (let z = ((bounds.facts n f.0 f.1).alive.resvs k.style key c.resv f.2).later in omega (arith, z)) in
      let y = what_keeps_a_reservation_fact.some (node_step p p u.clock (u.clock + 0) h.input f.0) (bounds.facts n f.0 f.1) k.style key c.resv f.2 lives_on
      (λ touch.
      ⊎_elim (λ (z : (m : ResvMsg) × (t.item.arrival ≡ Spelt (message.Resv m)) × IsOver u.net k t.item m.session m.hop.addr (ask_style m.ask)). no_resv t.item z.0 t.arrives z.1 z.2)
      (λ (z : (m : ResvTearMsg) × (t.item.arrival ≡ Spelt (message.ResvTear m)) × IsOver u.net k t.item m.session m.hop.addr (tear_style m.tear) × TakesName m c.resv.part). no z.0 z.1 z.2)
      (touched q u bounds k there c.resv.part (record { resv = c.resv; there = c.there; is = refl }) h.input t touch)) first (in_resv first goes ∙ named)
      (known_still first (in_resv first goes ∙ named) goes) in
      let then_facts : Facts = facts_then p p (u.clock + 0) h.input f.0 in
      record {
        resv = y.0;
        there = y.1;
        flow = y.2.flow;
        less = kept_less (λ (z : Sender). not (is_lost k.style f.0 then_facts k.session z)) c.resv y.0 y.2;
        names = λ x i l. kept_some (λ (z : Sender). not (is_lost k.style f.0 then_facts k.session z)) c.resv y.0 y.2 x i (ap not (not_lost (has (named_as k.style (known f.0 k.session)) x)
            (known_still x i l)));
      })
      (of_tear_item q u bounds k there t.item))))
      (outcome_quiet q (Deliver 0) u n f.0 refl)
    where
      same_bool : (a b : Bool) → (a ≡ true → b ≡ true) → (b ≡ true → a ≡ true) → a ≡ b
      same_bool true b f g = sym (f refl)
      same_bool false true f g = g refl
      same_bool false false f g = refl

      not_lost : (a : Bool) {b : Bool} → b ≡ true → (a && not b) ≡ false
      not_lost true {b} e = ap not e
      not_lost false {b} e = refl

      torn : (f : Facts) (i : Input) (x : ResvState) → get (resvs_of k.style f) key ≡ Some x → (first : Sender) → has x.part.senders first ≡ true → Lives o k first → (t : IsCame (Deliver 0) u n i)
          → (m : ResvTearMsg) → t.item.arrival ≡ Spelt (message.ResvTear m) → IsOver u.net k t.item m.session m.hop.addr (tear_style m.tear)
          → ((z : Sender) → has x.part.senders z ≡ true → Lives o k z → stays (tear_names m.tear) z ≡ true)
          → ((z : Sender) → has x.part.senders z ≡ true → Lives o k z
          → has (named_as k.style (known (facts_then (config_of q u.net u.trees n) (config_of q u.net u.trees n) (u.clock + 0) i f) k.session)) z ≡ true)
          → IsKeptFor k.style (facts_then (config_of q u.net u.trees n) (config_of q u.net u.trees n) (u.clock + 0) i f) key x (Lives o k)
      torn f i x e first named goes t m spelt over spares known_still =
          let p : NodeConfig = config_of q u.net u.trees n in
          let input : Input = Came (iface_of u.net.ends t.item.end) t.item.dst (Spelt (message.ResvTear m)) in
          let is : i ≡ input = t.is ∙ ap (λ (a : Arrival). Came (iface_of u.net.ends t.item.end) t.item.dst a) spelt in
          let style : tear_style m.tear ≡ k.style = over.style in
          let e' : get (resvs_of (tear_style m.tear) f) key ≡ Some x = ap (λ (z : StyleKind). get (resvs_of z f) key) style ∙ e in
          subst (λ (z : StyleKind × Input). IsKeptFor z.0 (facts_then p p (u.clock + 0) z.1 f) key x (Lives o k)) (λ j. (style j, sym is j))
          (torn_for p (u.clock + 0) (iface_of u.net.ends t.item.end) t.item.dst m f key x e' (Lives o k) first named goes spares
          (λ z h l. not_lost (has (named_as (tear_style m.tear) (known f k.session)) z)
          (ap (λ (b : StyleKind × Input). has (named_as b.0 (known (facts_then p p (u.clock + 0) b.1 f) k.session)) z) (λ j. (style j, sym is j)) ∙ known_still z h l)))
