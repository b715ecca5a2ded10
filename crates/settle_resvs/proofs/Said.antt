-- What is said again and again over a hop is kept: a reservation that is refreshed.
use Rattle.std.proofs.Common.{◌≡◌, ℕ, ◌+◌, ◌*◌, ◌<◌, ◌≤◌, List, length, Bool, true, false, Option, None, Some, ◌⊎◌, inl, inr, ⊎_elim, arith, sym, refl, ap, subst, ◌∙◌}
use Rattle.std.specs.Prelude.{slice_get, ◌==◌, ◌&&◌, ◌||◌, not, is_some, max, min, ◌/◌}
use Rattle.std.specs.List.{list_all}
use Rattle.std.specs.Option.{option_map}
use Rattle.rsvp_base.specs.declared.addr.Addr.{Addr}
use Rattle.rsvp_base.specs.declared.part.Part.{Part}
use Rattle.rsvp_base.specs.declared.session.Sender.{Sender}
use Rattle.rsvp_base.specs.declared.session.Session.{Session}
use Rattle.rsvp_base.specs.declared.style.StyleKind.{StyleKind}
use Rattle.rsvp_base.specs.declared.style.StyleKind.TheVariants.{Wild, Fixed, Shared}
use Rattle.rsvp_base.specs.Members.{In}
use Rattle.rsvp_base.specs.Orders.{senders, sessions, styles}
use Rattle.rsvp_base.specs.Table.{get, has, empty}
use Rattle.rsvp_base.proofs.Counts.{found_in, in_found}
use Rattle.rsvp_base.proofs.Members.{all_in, any_in, in_all}
use Rattle.rsvp_base.proofs.SetLaws.{and_both, and_made}
use Rattle.rsvp_base.proofs.Tables.{either}
use Rattle.rsvp_messages.specs.declared.ask.Ask.{Ask}
use Rattle.rsvp_messages.specs.declared.message.Message.{Message}
use Rattle.rsvp_messages.specs.declared.message.Message.TheVariants as message
use Rattle.rsvp_messages.specs.declared.message.PathMsg.{PathMsg}
use Rattle.rsvp_messages.specs.declared.message.ResvMsg.{ResvMsg}
use Rattle.rsvp_messages.specs.declared.message.ResvTearMsg.{ResvTearMsg}
use Rattle.rsvp_messages.specs.Units.{ask_style, tear_names, tear_style}
use Rattle.style_rules.specs.Lines.{LineKey}
use Rattle.calm_rounds.specs.Hold.{Hold}
use Rattle.calm_rounds.specs.SoftStates.{SoftState, DueLaws, Good, Moves, Stands}
use Rattle.calm_rounds.specs.Rounds.{Rounds}
use Rattle.calm_rounds.proofs.Holding.{hold_map, hold_both, hold_start, hold_keep}
use Rattle.calm_rounds.proofs.Renewing.{what_is_said_is_kept}
use Rattle.tree_model.specs.Goals.{addr_of}
use Rattle.router_rules.specs.Asking.{ask_of, stays}
use Rattle.router_rules.specs.Facts.{Facts, PathState, ResvState, resvs_of}
use Rattle.router_rules.specs.Inputs.{Arrival, Input, Came, Send, Spelt, Unspelt}
use Rattle.router_rules.specs.Known.{Lane, known, named_as, lanes}
use Rattle.router_rules.specs.NodeConfig.{NodeConfig, own, is_addr, is_session, lifetime}
use Rattle.router_rules.specs.Requests.{toward, is_style}
use Rattle.router_rules.specs.Rule.{Outcome}
use Rattle.router_rules.specs.Sends.{resv_send}
use Rattle.laws_bounds.proofs.Asks.{style_told as ask_told}
use Rattle.laws_bounds.proofs.Knowing.{has-known, lanes_told, counted_made}
use Rattle.laws_bounds.proofs.Requesting.{nowhere}
use Rattle.laws_bounds.proofs.Tests.{ties, addr_told, addr_tested, session_told, style_told}
use Rattle.router_rules.specs.Steps.{facts_then, node_step}
use Rattle.laws_network.proofs.Speaking.{refreshes_are_marked}
use Rattle.laws_steps.specs.ReservationLaws.{TakesName, Touches, TouchesBy}
use Rattle.laws_steps.proofs.Asking.{what_keeps_a_reservation_fact}
use Rattle.laws_steps.proofs.Hopward.{what_a_resv_sent_says}
use Rattle.tree_model.specs.Networks.{Net, node_of, end_at, iface_of, peers}
use Rattle.tree_model.specs.Trees.{hops_of}
use Rattle.tree_model.specs.Valid.{IsValid}
use Rattle.tree_model.proofs.Following.{same_number, number_same}
use Rattle.tree_model.proofs.Ifaces.{interfaces_are_ends}
use Rattle.tree_model.proofs.Links.{back_linked}
use Rattle.network_model.specs.Bounds.{AreBounds}
use Rattle.network_model.specs.Laws.{config_in}
use Rattle.network_model.specs.Links.{is_group, goes_to, copy_to}
use Rattle.network_model.specs.Steps.{Step, Track, OfSender, OfStyle, goes_back, is_quiet, serves, serves_key, ms_of, arrived, input_at, outcome, still, track, arrival_track, path_track}
use Rattle.network_model.specs.Steps.{sender_of, sent, step, machine}
use Rattle.network_model.specs.Worlds.{Item, World, config_of}
use Rattle.network_model.proofs.Changing.{where_a_send_goes}
use Rattle.network_model.proofs.Machines.{quiet_of, time_passes, items_are_numbered, in_flight_after, in_arrived}
use Rattle.network_model.proofs.Quiet.{IsWaited, IsCame, FollowsRule, input_found, arrival_takes_no_time, net_quiet, outcome_by, outcome_quiet}
use Rattle.network_model.proofs.Stepping.{copies_made, facts_after_made, sent_made}
use Rattle.laws_network.specs.Known.{IsKnown}
use Rattle.laws_network.specs.Refreshes.{due_at, Refreshes}
use Rattle.laws_network.proofs.Due.{full_life, due_found, due_made, due_moves, refresh_follows}
use Rattle.laws_network.proofs.Known.{of_some, has_some, or_true, known_hold, node_there, end_found, came_there}
use Rattle.laws_network.proofs.Sends.{sent_by_rule}
use Rattle.laws_network.proofs.Standing.{own_end, peer_there, linked_there}
use Rattle.settle_resvs.specs.SoftResvs.{SaysResv, IsCut, line_key_of, resv_at, kept_of, kept_at, soft_resv}
use Rattle.settle_resvs.specs.Said.{HopKey, hop_over, IsOver, IsSaid, lane_of, resv_key}
use Rattle.settle_resvs.proofs.SoftResvs.{resv_found, resv_made, kept_found}

-- ---- letters: Resvs of the session and style, from the end that asks to the end that keeps, and such ResvTears that take a
-- name of the part
abbrev speaks : Net → HopKey → Session → Addr → StyleKind → Bool
speaks net k s a st = is_session s k.session && (is_addr a (addr_of net k.from) && is_style st k.style)

abbrev spares_all : ResvTearMsg → Part → Bool
spares_all m v = list_all (λ (e : Sender × Unit {0}). stays (tear_names m.tear) e.0) v.senders.rows

abbrev letter_message : Net → HopKey → Part → Message → Bool
letter_message net k v (message.Resv m) = speaks net k m.session m.hop.addr (ask_style m.ask)
letter_message net k v (message.ResvTear m) = speaks net k m.session m.hop.addr (tear_style m.tear) && not (spares_all m v)
letter_message net k v _ = false

abbrev letter_arrival : Net → HopKey → Part → Arrival → Bool
letter_arrival net k v (Spelt m) = letter_message net k v m
letter_arrival net k v (Unspelt e) = false

abbrev is_letter : Net → HopKey → Part → Item → Bool
is_letter net k v y = (y.end == k.to) && letter_arrival net k v y.arrival

spares_told : (m : ResvTearMsg) (v : Part) → spares_all m v ≡ true → TakesName m v → ⊥
spares_told m v all t =
    let w = has_some (get v.senders t.name) t.was in
    let bad : true ≡ false = sym (all_in (λ (e : Sender × Unit {0}). stays (tear_names m.tear) e.0) v.senders.rows all (t.name, w.0) (found_in senders v.senders t.name w.0 w.1)) ∙ t.goes in
    absurd (cc)

spares_made : (m : ResvTearMsg) (v : Part) → (TakesName m v → ⊥) → spares_all m v ≡ true
spares_made m v spared =
    in_all (λ (e : Sender × Unit {0}). stays (tear_names m.tear) e.0) v.senders.rows
    (λ e i. either (stays (tear_names m.tear) e.0) (λ t. t) (λ goes. absurd (spared (record {
      name = e.0;
      was = ap (λ (o : Option (Unit {0})). is_some o)
          (in_found senders v.senders e.0 e.1 i);
      goes = goes;
    }))))

speaks_told : (net : Net) (k : HopKey) (y : Item) (s : Session) (a : Addr) (st : StyleKind) → y.end ≡ k.to → speaks net k s a st ≡ true → IsOver net k y s a st
speaks_told net k y s a st end e =
    let one = and_both _ _ e in
    let two = and_both _ _ one.1 in
    record { end = end; session = session_told s k.session one.0; from = addr_told a (addr_of net k.from) two.0; style = style_told st k.style two.1 }

speaks_made : (net : Net) (k : HopKey) (s : Session) (a : Addr) (st : StyleKind) → s ≡ k.session → a ≡ addr_of net k.from → st ≡ k.style → speaks net k s a st ≡ true
speaks_made net k s a st x y z = and_made _ _ (ties sessions s k.session x) (and_made _ _ (addr_tested a (addr_of net k.from) y) (ties styles st k.style z))

-- how long it lives what a Resv sets
abbrev life_of_message : ℕ → Message → ℕ
life_of_message q (message.Resv m) = (21 * max 1 (min m.period (4 * q)) + 3) / 4
life_of_message q _ = 0

abbrev life_of : ℕ → Arrival → ℕ
life_of q (Spelt m) = life_of_message q m
life_of q (Unspelt e) = 0

-- ---- Resvs are sent for a full lifetime
full_period : (q : ℕ) (s : Step) (u : World) (y : Item) (b : Bool) (m : ResvMsg) → is_quiet s ≡ true → AreBounds q u → In (y, b) (sent q s u) → y.arrival ≡ Spelt (message.Resv m) → m.period ≡ 4 * q
full_period q s u y b m quiet bounds i spelt =
    let r = sent_by_rule q s u y b (message.Resv m) quiet i spelt in
    let p : NodeConfig = config_of q u.net u.trees r.node in
    (what_a_resv_sent_says.says (node_step p p u.clock (u.clock + ms_of s) r.by.input r.facts) (bounds.facts r.node r.facts r.there) r.send m r.sent r.says).period

abbrev pub AreFull : ℕ → ℕ → World → Type 0
AreFull q b u = (y : Item) (m : ResvMsg) → In y u.flight → b ≤ y.born → y.arrival ≡ Spelt (message.Resv m) → m.period ≡ 4 * q

pub full_step : (q b : ℕ) (s : Step) (u : World) → is_quiet s ≡ true → AreBounds q u → AreFull q b u → AreFull q b (step q s u)
full_step q b s u quiet bounds j y m i born spelt =
    ⊎_elim (λ (old : In y u.flight). j y m old born spelt)
    (λ (new : (mark : Bool) × In (y, mark) (sent q s u)). full_period q s u y new.0 m quiet bounds new.1 spelt)
    (in_flight_after q s u y quiet i)

-- nothing is asked for with no part
asks_of_none : (st : StyleKind) (a : Ask) → ask_of st empty ≡ Some a → ⊥
asks_of_none Wild a e = absurd (cc)
asks_of_none Fixed a e = absurd (cc)
asks_of_none Shared a e = absurd (cc)

module _ (q : ℕ) (o : World) (k : HopKey) (valid : IsValid o.net) (there : In (hop_over k) (hops_of o.net.hops k.session.group)) (v : Part) (b : ℕ) where
  abbrev at_to : ℕ
  at_to = node_of o.net.ends k.to

  abbrev at_from : ℕ
  at_from = node_of o.net.ends k.from

  abbrev key : LineKey
  key = line_key_of o.net (resv_key o.net k)

  linked : In k.to (peers o.net.links k.from)
  linked = back_linked o.net valid k.session.group (hop_over k) there

  lt : k.to < length o.net.ends
  lt = peer_there o.net valid k.from k.to linked

  -- the other end is on the link too
  from_there : k.from < length o.net.ends
  from_there = linked_there o.net valid k.from k.to linked

  pub record IsFirm (u : World) : Type 0 where
    pub known : IsKnown q o u
    pub said : IsSaid q o.net k v b u
    pub full : AreFull q b u

  abbrev pub over : Track
  over = record { from = addr_of o.net k.from; to = k.to; session = k.session; key = OfStyle k.style }

  abbrev pub line : SoftState World Step Item Track Part
  line = record {
    sane = IsFirm;
    kept = kept_at o.net (resv_key o.net k);
    says = λ y x. (b ≤ y.born) × SaysResv o.net (resv_key o.net k) y x;
    letter = is_letter o.net k v;
    life = λ y. life_of q y.arrival;
    below = IsCut;
    due = λ u. due_at u at_from k.session;
    fires = Refreshes at_from k.session;
    track = Some over;
  }

  -- ---- a letter says the part, for a full lifetime
  abbrev Tells : Item → Type 0
  Tells y = ((b ≤ y.born) × SaysResv o.net (resv_key o.net k) y v) × (life_of q y.arrival ≡ 21 * q)

  letters : (u : World) → IsFirm u → (y : Item) → In y u.flight → b ≤ y.born → is_letter o.net k v y ≡ true → Tells y
  letters u g y i born is = let both = and_both (y.end == k.to) (letter_arrival o.net k v y.arrival) is in by y.arrival refl (same_number y.end k.to both.0) both.1
    where
      by_message : (m : Message) → y.arrival ≡ Spelt m → y.end ≡ k.to → letter_message o.net k v m ≡ true → Tells y
      by_message (message.Resv m) a end h = (
        (born, g.said.carried y m i born a (speaks_told o.net k y m.session m.hop.addr (ask_style m.ask) end h)),
        ap (life_of q) a ∙ ap (λ (z : ℕ). (21 * max 1 (min z (4 * q)) + 3) / 4) (g.full y m i born a) ∙ full_life q g.known.bounds.period,
      )
      by_message (message.ResvTear m) a end h =
          let both = and_both (speaks o.net k m.session m.hop.addr (tear_style m.tear)) (not (spares_all m v)) h in
          let spared = g.said.spared y m i born a (speaks_told o.net k y m.session m.hop.addr (tear_style m.tear) end both.0) in
          let bad : true ≡ false = sym both.1 ∙ ap not (spares_made m v spared) in
          absurd (cc)
      by_message (message.Path m) a end h = absurd (cc)
      by_message (message.PathTear m) a end h = absurd (cc)
      by_message (message.PathErr m) a end h = absurd (cc)
      by_message (message.ResvErr m) a end h = absurd (cc)
      by_message (message.ResvConf m) a end h = absurd (cc)

      by : (x : Arrival) → y.arrival ≡ x → y.end ≡ k.to → letter_arrival o.net k v x ≡ true → Tells y
      by (Spelt m) a end h = by_message m a end h
      by (Unspelt f) a end h = absurd (cc)

  -- ---- what is said and arrives is taken
  takes : (s : Step) (u : World) (y : Item) → is_quiet s ≡ true → IsFirm u → arrived s u ≡ Some y → b ≤ y.born → SaysResv o.net (resv_key o.net k) y v → life_of q y.arrival ≡ 21 * q
      → kept_at o.net (resv_key o.net k) (step q s u) ≡ Some (v, u.clock + 21 * q)
  takes s u y quiet g arr born says life =
      let f = node_there q o valid u k.to g.known lt in
      let p : NodeConfig = config_of q u.net u.trees at_to in
      let input : Input = Came (iface_of o.net.ends k.to) y.dst (Spelt (message.Resv says.resv)) in
      let came : input_at s u at_to ≡ Some input = came_there q o u g.known k.to lt s y arr says.end ∙ (λ i. Some (Came (iface_of o.net.ends k.to) y.dst (says.spelt i))) in
      let taken = g.said.taken y (in_arrived s u y arr) born says f.0 f.1 in
      let ms : u.clock + ms_of s ≡ u.clock = (let e = arrival_takes_no_time s u y arr in omega arith) in
      let same : (outcome q s u at_to f.0).facts ≡ facts_then p p u.clock input f.0 = ap (λ (z : Outcome). z.facts) (outcome_by q s u at_to f.0 input quiet came)
      ∙ (λ i. facts_then p p (ms i) input f.0) in
      let after : slice_get (step q s u).nodes at_to ≡ Some (outcome q s u at_to f.0).facts = facts_after_made q s u at_to f.0 f.1 in
      let kept : resv_at (step q s u) at_to k.style key ≡ Some taken.0 = resv_made (step q s u) at_to k.style key (outcome q s u at_to f.0).facts after
      ∙ ap (λ (z : Facts). get (resvs_of k.style z) key) same ∙ taken.1 in
      let full : lifetime p says.resv.period ≡ 21 * q = ap (life_of q) (sym says.spelt) ∙ life in
      let dies : taken.0.dies ≡ u.clock + 21 * q = taken.3 ∙ ap (λ (z : ℕ). u.clock + z) full in
      ap (option_map kept_of) kept ∙ (λ i. Some (taken.2 i, dies i))

  -- ---- the node that asks has a moment for its next refresh
  counts : (u : World) → IsFirm u → (t : ℕ) × (due_at u at_from k.session ≡ Some t)
  counts u g =
      let f = node_there q o valid u k.from g.known from_there in
      let p : NodeConfig = config_of q u.net u.trees at_from in
      let l : Lane = lane_of o.net k in
      let ask = g.said.asks f.0 f.1 in
      let by = lanes_told f.0 l (is_lane f.0 l p ask.0 ask.1 (has (lanes f.0) l) refl) in
      let path : has f.0.paths (k.session, by.0) ≡ true = ap (λ (z : Option PathState). is_some z) by.1.there in
      let one : has (known f.0 k.session) by.0 ≡ true = has-known f.0 k.session by.0 ∙ ap (λ (x : Bool). has f.0.senders (k.session, by.0) || x) path ∙ or_true (has f.0.senders (k.session, by.0)) in
      let due : has f.0.due k.session ≡ true = (g.known.bounds.facts at_from f.0 f.1).due.counted k.session ∙ counted_made f.0 k.session by.0 one in
      let m = has_some (get f.0.due k.session) due in
      (m.0, due_made u at_from k.session m.0 f.0 f.1 m.1)
    where
      is_lane : (f : Facts) (l : Lane) (p : NodeConfig) (a : Ask) → ask_of l.style (toward p f l) ≡ Some a → (x : Bool) → has (lanes f) l ≡ x → has (lanes f) l ≡ true
      is_lane f l p a e true h = h
      is_lane f l p a e false h = absurd (asks_of_none l.style a (sym (ap (ask_of l.style) (nowhere p f l h)) ∙ e))

  -- the Resv goes back over a hop of a tree of the group
  serves_it : (u : World) → IsFirm u → serves u over ≡ true
  serves_it u g =
      subst (λ (z : Net). serves_key z over over.key ≡ true) (sym g.known.same.net)
      (any_in (goes_back o.net over) (hop_over k) (hops_of o.net.hops k.session.group) there
      (and_made _ _ (number_same k.to k.to refl) (addr_tested (addr_of o.net k.from) (addr_of o.net k.from) refl)))

  pub good : (u : World) → IsFirm u → Good (machine q) line v b u
  good u g = record {
    sane = g;
    letters = λ y i born is. letters u g y i born is;
    takes = λ s y calm arr says life. takes s u y (quiet_of q s calm) g arr says.0 says.1 life;
    counts = counts u g;
    serves = (over, refl, serves_it u g);
  }

  -- ---- where no letter arrives it stays until it dies
  untouched : (s : Step) (u : World) → IsKnown q o u → ((y : Item) → arrived s u ≡ Some y → is_letter o.net k v y ≡ false) → is_quiet s ≡ true → (r : ResvState) → r.part ≡ v → (i : Input)
      → IsWaited s u at_to i ⊎ IsCame s u at_to i → Touches i k.style key r → ⊥
  untouched s u a none quiet r part i (inl w) t = subst (λ (z : Input). Touches z k.style key r) w.is t
  untouched s u a none quiet r part i (inr c) t = by c.item.arrival refl
    where
      no : (m : Message) → c.item.arrival ≡ Spelt m → iface_of u.net.ends c.item.end ≡ iface_of o.net.ends k.to → letter_message o.net k v m ≡ true → ⊥
      no m e iface letter =
          let end : c.item.end ≡ k.to = end_found q o u a k.to lt s i c iface in
          let yes : is_letter o.net k v c.item ≡ true = and_made _ _ (number_same c.item.end k.to end) (ap (letter_arrival o.net k v) e ∙ letter) in
          let bad : true ≡ false = sym yes ∙ none c.item c.arrives in
          absurd (cc)

      -- a ResvTear that touches it takes a name of the part
      takes : (m : ResvTearMsg) → TakesName m r.part → not (spares_all m v) ≡ true
      takes m t = ap not (either (spares_all m v) (λ all. absurd (spares_told m v all (subst (λ (z : Part). TakesName m z) part t))) (λ n. n))

      by_message : (m : Message) → c.item.arrival ≡ Spelt m → TouchesBy (iface_of u.net.ends c.item.end) m k.style key r → ⊥
      by_message (message.Resv m) e t = no (message.Resv m) e t.1 (speaks_made o.net k m.session m.hop.addr (ask_style m.ask) t.0 t.2 t.3)
      by_message (message.ResvTear m) e t = no (message.ResvTear m) e t.0.1 (and_made _ _ (speaks_made o.net k m.session m.hop.addr (tear_style m.tear) t.0.0 t.0.2 t.0.3) (takes m t.1))
      by_message (message.Path m) e t = t
      by_message (message.PathTear m) e t = t
      by_message (message.PathErr m) e t = t
      by_message (message.ResvErr m) e t = t
      by_message (message.ResvConf m) e t = t

      touched : (x : Arrival) → c.item.arrival ≡ x → Touches (Came (iface_of u.net.ends c.item.end) c.item.dst x) k.style key r
      touched x e = subst (λ (z : Input). Touches z k.style key r) (c.is ∙ ap (Came (iface_of u.net.ends c.item.end) c.item.dst) e) t

      by : (x : Arrival) → c.item.arrival ≡ x → ⊥
      by (Spelt m) e = by_message m e (touched (Spelt m) e)
      by (Unspelt f) e = touched (Unspelt f) e

  rests : (s : Step) (u : World) (dies : ℕ) → is_quiet s ≡ true → IsFirm u → IsFirm (step q s u) → ((y : Item) → arrived s u ≡ Some y → is_letter o.net k v y ≡ false)
      → kept_at o.net (resv_key o.net k) u ≡ Some (v, dies) → (step q s u).clock < dies → kept_at o.net (resv_key o.net k) (step q s u) ≡ Some (v, dies)
  rests s u dies quiet g g' none kept later =
      let x = kept_found (resv_at u at_to k.style key) v dies kept in
      let f = resv_found u at_to k.style key x.0 x.1 in
      let p : NodeConfig = config_of q u.net u.trees at_to in
      let c : ℕ = u.clock + ms_of s in
      let after : slice_get (step q s u).nodes at_to ≡ Some (outcome q s u at_to f.0).facts = facts_after_made q s u at_to f.0 f.1 in
      let ends : get (resvs_of k.style (outcome q s u at_to f.0).facts) key ≡ Some x.0 → kept_at o.net (resv_key o.net k) (step q s u) ≡ Some (v, dies) =
      (λ e. ap (option_map kept_of) (resv_made (step q s u) at_to k.style key (outcome q s u at_to f.0).facts after ∙ e) ∙ (λ i. Some (sym x.2 i, sym x.3 i))) in
      ⊎_elim
      (λ (z : (input_at s u at_to ≡ None) × (outcome q s u at_to f.0 ≡ still f.0)). ends (ap (λ (w : Outcome). get (resvs_of k.style w.facts) key) z.1 ∙ f.2))
      (λ (r : FollowsRule q s u at_to f.0 (outcome q s u at_to f.0)).
      let same : (outcome q s u at_to f.0).facts ≡ facts_then p p c r.input f.0 = ap (λ (z : Outcome). z.facts) r.is in
      let lives : c < x.0.dies = omega (arith, later, x.3) in
      let all : (name : Sender) → has x.0.part.senders name ≡ true → has (named_as k.style (known (facts_then p p c r.input f.0) k.session)) name ≡ true =
      (λ name has_it. ap (λ (z : Facts). has (named_as k.style (known z k.session)) name) (sym same)
      ∙ g'.said.known (outcome q s u at_to f.0).facts after name (ap (λ (z : Part). has z.senders name) x.2 ∙ has_it)) in
      ends
      (ap (λ (z : Facts). get (resvs_of k.style z) key) same
      ∙ what_keeps_a_reservation_fact.whole (node_step p p u.clock c r.input f.0) (g.known.bounds.facts at_to f.0 f.1) k.style key x.0 f.2 lives
      (untouched s u g.known none quiet x.0 (sym x.2) r.input (input_found s u at_to r.input quiet r.came)) all))
      (outcome_quiet q s u at_to f.0 quiet)

  -- ---- the refresh of the hop
  goes : (u : World) → IsKnown q o u → (h : Option ℕ) → h ≡ Some k.from → In k.to (goes_to u.net h (addr_of o.net k.to))
  goes u a h is =
      let peer : In k.to (peers u.net.links k.from) = subst (λ (z : Net). In k.to (peers z.links k.from)) (sym a.same.net) linked in
      let addr : addr_of u.net k.to ≡ addr_of o.net k.to = ap (λ (z : Net). addr_of z k.to) a.same.net in
      subst (λ (z : Option ℕ). In k.to (goes_to u.net z (addr_of o.net k.to))) (sym is) (by (is_group (addr_of o.net k.to)) refl peer addr)
    where
      by : (x : Bool) → is_group (addr_of o.net k.to) ≡ x → In k.to (peers u.net.links k.from) → addr_of u.net k.to ≡ addr_of o.net k.to → In k.to (goes_to u.net (Some k.from) (addr_of o.net k.to))
      by true e peer addr = subst (λ (z : List ℕ). In k.to z) (sym ((where_a_send_goes u.net k.from (addr_of o.net k.to)).group e)) peer
      by false e peer addr = ((where_a_send_goes u.net k.from (addr_of o.net k.to)).one e k.to peer addr k.to).1 (peer, addr)

  calls : (s : Step) (u : World) → is_quiet s ≡ true → IsFirm u → IsFirm (step q s u) → Refreshes at_from k.session s u → (y : Item) × In (y, true) (sent q s u) × (track y ≡ Some over)
  calls s u quiet g g' r =
      let p : NodeConfig = config_of q u.net u.trees at_from in
      let c : ℕ = u.clock + ms_of s in
      let l : Lane = lane_of o.net k in
      let o_facts : Facts = (outcome q s u at_from r.facts).facts in
      let at : end_at u.net.ends at_from (iface_of o.net.ends k.from) ≡ Some k.from =
      subst (λ (z : Net). end_at z.ends at_from (iface_of o.net.ends k.from) ≡ Some k.from) (sym g.known.same.net) ((interfaces_are_ends o.net).end_of_iface k.from from_there) in
      let two = refresh_follows q s u at_from k.session quiet r in
      let f = two.0 in
      let within = g.known.bounds.facts at_from r.facts r.there in
      let after : slice_get (step q s u).nodes at_from ≡ Some o_facts = facts_after_made q s u at_from r.facts r.there in
      let ask = g'.said.asks o_facts after in
      let same : facts_then p p c f.input r.facts ≡ o_facts = ap (λ (z : Outcome). z.facts) (sym f.is) in
      let asks : ask_of l.style (toward p (facts_then p p c f.input r.facts) l) ≡ Some ask.0 =
      ap (λ (z : Net). ask_of l.style (toward (config_of q z u.trees at_from) (facts_then p p c f.input r.facts) l)) (sym (net_quiet s u quiet))
      ∙ ap (λ (z : Facts). ask_of l.style (toward (config_in q (step q s u) at_from) z l)) same ∙ ask.1 in
      let refresh = refreshes_are_marked.resvs (node_step p p u.clock c f.input r.facts) within l ask.0 two.1 asks in
      let send : Send = resv_send p (facts_then p p c f.input r.facts) l refresh.0 true ask.0 in
      let sends : In send (outcome q s u at_from r.facts).sent = subst (λ (z : Outcome). In send z.sent) (sym f.is) refresh.1 in
      let made = copies_made u.net u.made at_from (outcome q s u at_from r.facts).sent send k.to sends (goes u g.known (end_at u.net.ends at_from (iface_of o.net.ends k.from)) at) in
      let own_is : own p (iface_of o.net.ends k.from) ≡ addr_of o.net k.from = own_end q u.net u.trees at_from (iface_of o.net.ends k.from) k.from at
      ∙ ap (λ (z : Net). addr_of z k.from) g.known.same.net in
      let style_is : ask_style ask.0 ≡ k.style = ask_told l.style (toward p (facts_then p p c f.input r.facts) l) ask.0 asks in (
        (copy_to u.made send k.to).0,
        sent_made q s u at_from r.facts (copy_to u.made send k.to) r.there made,
        (λ i. Some (record { from = own_is i; to = k.to; session = k.session; key = OfStyle (style_is i) })),
      )

  -- what goes on the track is a letter
  on_track : (y : Item) → track y ≡ Some over → is_letter o.net k v y ≡ true
  on_track y e = by y.arrival refl e
    where
      no_path : (m : PathMsg) (x : Option Sender) → path_track y.end m.hop.addr m.session x ≡ Some over → ⊥
      no_path m None f = absurd (cc)
      no_path m (Some x) f = let same = of_some _ over f in let bad : OfSender x ≡ OfStyle k.style = ap (λ (z : Track). z.key) same in absurd (cc)

      by_message : (m : Message) → y.arrival ≡ Spelt m → arrival_track y.end (Spelt m) ≡ Some over → is_letter o.net k v y ≡ true
      by_message (message.Resv m) a f =
          let same : ◌≡◌ {A = Track} (record { from = m.hop.addr; to = y.end; session = m.session; key = OfStyle (ask_style m.ask) }) over = of_some _ over f in
          let to : y.end ≡ k.to = ap (λ (z : Track). z.to) same in
          let of : OfStyle (ask_style m.ask) ≡ OfStyle k.style = ap (λ (z : Track). z.key) same in
          let style : ask_style m.ask ≡ k.style = cc in
          and_made _ _ (number_same y.end k.to to)
          (ap (letter_arrival o.net k v) a ∙ speaks_made o.net k m.session m.hop.addr (ask_style m.ask) (ap (λ (z : Track). z.session) same) (ap (λ (z : Track). z.from) same) style)
      by_message (message.Path m) a f = absurd (no_path m (sender_of m.sender) f)
      by_message (message.PathTear m) a f = absurd (cc)
      by_message (message.PathErr m) a f = absurd (cc)
      by_message (message.ResvErr m) a f = absurd (cc)
      by_message (message.ResvTear m) a f = absurd (cc)
      by_message (message.ResvConf m) a f = absurd (cc)

      by : (x : Arrival) → y.arrival ≡ x → arrival_track y.end x ≡ Some over → is_letter o.net k v y ≡ true
      by (Spelt m) a f = by_message m a f
      by (Unspelt g) a f = absurd (cc)

  pub moves : Moves (machine q) line v b
  moves = record {
    rests = λ s u dies calm g g' none kept later. rests s u dies (quiet_of q s calm) g.sane g'.sane none kept later;
    calls = λ s u calm g g' r. calls s u (quiet_of q s calm) g.sane g'.sane r;
    tracks = λ s u y calm g g' i e. on_track y e;
  }

  pub falls_due : DueLaws (machine q) line
  falls_due = record {
    moved = λ s u t t' calm a a' e e'. due_moves q s u at_from k.session t t' (quiet_of q s calm) a.known.bounds e e';
    due_room = λ u t a e. let f = due_found u at_from k.session t e in let r = (a.known.bounds.facts at_from f.0 f.1).due.moment k.session t f.2 in (r.later, r.soon);
  }

pub said_resvs_are_kept : (q : ℕ) (w : World) (k : HopKey) (v : Part) → In (hop_over k) (hops_of w.net.hops k.session.group) → (rs : List (List Step)) → Rounds (machine q) rs w
    → Hold (machine q) 0 rs w (AreBounds q)
    → Hold (machine q) 0 rs w (IsSaid q w.net k v w.made) → Hold (machine q) 2 rs w (Stands (machine q) (soft_resv q w (resv_key w.net k)) v)
said_resvs_are_kept q w k v there rs calm bounds said =
    let first : AreBounds q w = hold_start (machine q) (AreBounds q) rs w bounds in
    let firm : Hold (machine q) 0 rs w (IsFirm q w k first.net there v w.made) =
    hold_map (machine q) (λ u. (IsKnown q w u × IsSaid q w.net k v w.made u) × AreFull q w.made u) (IsFirm q w k first.net there v w.made)
    (λ u g. record { known = g.0.0; said = g.0.1; full = g.1 }) 0 rs w
    (hold_both (machine q) (λ u. IsKnown q w u × IsSaid q w.net k v w.made u) (AreFull q w.made) 0 rs w
    (hold_both (machine q) (IsKnown q w) (IsSaid q w.net k v w.made) 0 rs w (known_hold q w rs calm bounds) said)
    (hold_keep (machine q) (AreBounds q) (AreFull q w.made) (λ s u c a a' j. full_step q w.made s u (quiet_of q s c) a j) rs w calm bounds
    (λ y m i born spelt. let old = (first.flight y i).born in absurd (omega arith)))) in
    what_is_said_is_kept (machine q) (time_passes q) (items_are_numbered q) (line q w k first.net there v w.made) (falls_due q w k first.net there v w.made) v first.period rs w calm
    (moves q w k first.net there v w.made)
    (hold_map (machine q) (IsFirm q w k first.net there v w.made) (Good (machine q) (line q w k first.net there v w.made) v w.made) (λ u g. good q w k first.net there v w.made u g) 0 rs w firm)
