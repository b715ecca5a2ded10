-- Nothing is in flight in the end, where nobody waits to be confirmed: Paths go one hop further with each pass, and each ResvTear takes a
-- name of what is wanted over its hop, so that the last are taken when reservations stand.
use Rattle.std.proofs.Common.{◌≡◌, ℕ, zero, suc, ◌*◌, List, [], ◌++◌, length, Bool, true, false, Option, None, Some, ◌⊎◌, inl, inr, ⊎_elim, arith, sym, refl, ap, subst, ◌∙◌}
use Rattle.std.specs.Prelude.{slice_get, not}
use Rattle.rsvp_base.specs.declared.addr.Addr.{Addr}
use Rattle.rsvp_base.specs.declared.part.Part.{Part}
use Rattle.rsvp_base.specs.declared.session.Sender.{Sender}
use Rattle.rsvp_base.specs.declared.session.Session.{Session}
use Rattle.rsvp_base.specs.Members.{In}
use Rattle.rsvp_base.specs.Orders.{Names}
use Rattle.rsvp_base.specs.Table.{get, has}
use Rattle.rsvp_base.specs.TokenBucket.{IsSound, TokenBucket}
use Rattle.rsvp_messages.specs.declared.message.Message.{Message}
use Rattle.rsvp_messages.specs.declared.message.Message.TheVariants as message
use Rattle.rsvp_messages.specs.declared.message.PathMsg.{PathMsg}
use Rattle.rsvp_messages.specs.declared.message.PathTearMsg.{PathTearMsg}
use Rattle.rsvp_messages.specs.declared.message.ResvMsg.{ResvMsg}
use Rattle.rsvp_messages.specs.declared.message.ResvTearMsg.{ResvTearMsg}
use Rattle.rsvp_messages.specs.Units.{tear_style}
use Rattle.style_rules.specs.PartLaws.{part_at_most_told}
use Rattle.laws_bounds.specs.SendLaws.{IsConf, IsError, IsPath, IsPathTear, IsResv, IsResvTear}
use Rattle.laws_bounds.proofs.Framing.{act_wants}
use Rattle.laws_bounds.proofs.Lists.{none_in}
use Rattle.laws_bounds.proofs.Stepping.{send_told}
use Rattle.laws_steps.specs.AcceptingLaws.{came_resv}
use Rattle.laws_steps.specs.ReservationLaws.{TakesName}
use Rattle.router_rules.specs.Act.{act, act_spelt, is_mine}
use Rattle.router_rules.specs.Asking.{stays}
use Rattle.router_rules.specs.Calls.{call_refusal}
use Rattle.router_rules.specs.Facts.{Facts, SenderKey, Want, WantKey, Wants}
use Rattle.router_rules.specs.Inputs.{Call, Came, Change, ConfSend, ErrSend, Input, Local, Send, SendAs, Spelt}
use Rattle.router_rules.specs.NodeConfig.{NodeConfig, own}
use Rattle.router_rules.specs.Rule.{settled}
use Rattle.router_rules.specs.Sends.{confirmed}
use Rattle.router_rules.specs.Steps.{sent_then}
use Rattle.tree_model.specs.declared.hops.LinkHop.{LinkHop}
use Rattle.tree_model.specs.Goals.{DemandsFit, addr_of}
use Rattle.tree_model.specs.Networks.{end_at, iface_of, node_of, node_of_end}
use Rattle.tree_model.specs.Ranks.{longest, rank}
use Rattle.tree_model.specs.Trees.{hops_of, outward}
use Rattle.tree_model.specs.Wants.{want}
use Rattle.tree_model.proofs.Ifaces.{interfaces_are_ends}
use Rattle.tree_model.proofs.RankLaws.{rank_falls}
use Rattle.network_model.specs.Bounds.{AreBounds, AreHosts}
use Rattle.network_model.specs.Events.{pass, passes}
use Rattle.network_model.specs.Locals.{locals_of}
use Rattle.network_model.specs.Sound.{ArePathsSound, AreResvsSound, IsSoundPart}
use Rattle.network_model.specs.Steps.{At, Deliver, Step, outcome, sent, step, still}
use Rattle.network_model.specs.Worlds.{Item, World}
use Rattle.network_model.proofs.Changing.{what_is_sent_is_copied}
use Rattle.network_model.proofs.Machines.{in_arrived, in_flight_after}
use Rattle.network_model.proofs.Quiet.{at_node_found}
use Rattle.laws_network.specs.Known.{IsSameNet}
use Rattle.laws_network.proofs.Known.{of_some}
use Rattle.laws_network.proofs.Standing.{own_end}
use Rattle.settle_paths.proofs.PreviousHops.{ends_there, same_by_addr}
use Rattle.settle_resvs.specs.GoalByIface.{goal_at}
use Rattle.settle_resvs.specs.Said.{HopKey, IsOver, hop_over, lane_of}
use Rattle.settle_resvs.specs.Sessions.{SessionFits}
use Rattle.settle_resvs.proofs.GoalByIface.{each_fits}
use Rattle.settle_resvs.proofs.SoundResvs.{part_again}
use Rattle.settle_resvs.proofs.TowardWants.{toward_is_at_most_the_want}
use Rattle.settle_network.specs.Settled.{HasSettled}
use Rattle.settle_passes.specs.Calls.{IsNew, after_send}
use Rattle.settle_passes.specs.Passes.{HasNoPathTear, after_passes}
use Rattle.settle_passes.proofs.Deliveries.{came_by_delivery, known_self, same_next}
use Rattle.settle_passes.proofs.Rising.{rise}
use Rattle.settle_passes.proofs.Serving.{settled_is_reserved}
use Rattle.settle_passes.proofs.SoundParts.{named_below}
use Rattle.settle_passes.proofs.Spreading.{after_deliveries, run_then}
use Rattle.settle_passes.proofs.Turns.{Turns, left, moment, place, sent_in_turn, torn_in_turn, ways_of}
use Rattle.settle_passes.proofs.Called.{in_flight_then, path_sent_by_call, turns as called_turns, unless_same}
use Rattle.settle_releases.specs.Releases.{HasNoMark}
use Rattle.settle_releases.proofs.Silence.{IsUnanswered, goes_back, resv_plain, resv_unanswered, tear_unanswered, unmarked_in_turn}
use Rattle.settle_senders.specs.Following.{IsFollowing}
use Rattle.settle_senders.proofs.Following.{following_next, taken, turns}
use Rattle.settle_senders.proofs.Sending.{a_reserving_session_follows, following_then, sound_on}
use Rattle.settle_senders.proofs.Serving.{begins, paths_reach_receivers_that_wait, receivers_that_wait_are_served, twice}
use Rattle.settle_senders.proofs.Further.{IsFromDepth, none_later}

-- ---- a node that tells nobody of an error and confirms nothing
record IsQuietTurn (p : NodeConfig) (c : ℕ) (input : Input) (f : Facts) : Type 0 where
  errors : (act p c input f).errors ≡ []
  confs : (act p c input f).confs ≡ []
  asked : (act p c input f).asked ≡ None
  -- and no want of it has a mark
  unmarked : (k : WantKey) (x : Want) → get (act p c input f).facts.wants k ≡ Some x → x.confirm ≡ false

-- a Resv without a wish to be confirmed, a ResvTear, a Path or a PathTear
abbrev IsPlain : Message → Type 0
IsPlain n =
    ((m : ResvMsg) × (n ≡ message.Resv m) × (m.confirm ≡ None))
    ⊎ (((m : ResvTearMsg) × (n ≡ message.ResvTear m)) ⊎ (((m : PathMsg) × (n ≡ message.Path m)) ⊎ ((m : PathTearMsg) × (n ≡ message.PathTear m))))

module _ (p : NodeConfig) (c : ℕ) (input : Input) (f : Facts) (q : IsQuietTurn p c input f) where
  abbrev change : Change
  change = act p c input f

  abbrev after : Facts
  after = settled p c f change.facts

  -- it sends such alone
  sends_plain : (s : Send) → In s (sent_then p p c input f) → IsPlain s.message
  sends_plain s i =
      ⊎_elim
      (λ (x : IsPathTear p p f after change s). inr (inr (inr (_, ap (λ (z : Send). z.message) x.is))))
      (λ k. ⊎_elim (λ (x : IsResvTear p p f after change s). inr (inl (_, ap (λ (z : Send). z.message) x.is)))
      (λ k. ⊎_elim (λ (x : IsError p p f after change s). absurd (subst (λ (zs : List ErrSend). In x.error zs) q.errors x.made))
      (λ k. ⊎_elim (λ (x : IsConf p p f after change s).
      let none : change.confs ++ confirmed p p f after change.asked ≡ [] = (λ j. q.confs j ++ confirmed p p f after (q.asked j)) in
      absurd (subst (λ (zs : List ConfSend). In x.conf zs) none x.made))
      (λ k. ⊎_elim (λ (x : IsPath p p f after change s). inr (inr (inl (_, ap (λ (z : Send). z.message) x.is))))
      (λ (x : IsResv p p f after change s). inl (resv_plain p c input f q.asked q.unmarked s x)) k) k) k) k)
      (send_told p p c input f s i)

unanswered_is_quiet : (p : NodeConfig) (c : ℕ) (input : Input) (f : Facts) → IsUnanswered p c input f → IsQuietTurn p c input f
unanswered_is_quiet p c input f v = record { errors = v.errors; confs = v.confs; asked = v.asked; unmarked = v.unmarked }

-- ---- a Path that comes
module _ (p : NodeConfig) (c e : ℕ) (dst : Addr) (m : PathMsg) (f : Facts) where
  abbrev tells : Input
  tells = Came e dst (Spelt (message.Path m))

  pub no_errors : (b : Bool) → (act_spelt p c e (message.Path m) b f).errors ≡ []
  no_errors true = refl
  no_errors false = refl

  pub no_confs : (b : Bool) → (act_spelt p c e (message.Path m) b f).confs ≡ []
  no_confs true = refl
  no_confs false = refl

  pub not_asked : (b : Bool) → (act_spelt p c e (message.Path m) b f).asked ≡ None
  not_asked true = refl
  not_asked false = refl

  path_quiet : ((k : WantKey) (x : Want) → get f.wants k ≡ Some x → x.confirm ≡ false) → IsQuietTurn p c tells f
  path_quiet unmarked = record {
    errors = no_errors (is_mine p e dst (message.Path m));
    confs = no_confs (is_mine p e dst (message.Path m));
    asked = not_asked (is_mine p e dst (message.Path m));
    unmarked = λ k x h. unmarked k x (ap (λ (t : Wants). get t k) (sym (act_wants p c tells f refl)) ∙ h);
  }

-- ---- what is in flight
abbrev IsPlainItem : Item → Type 0
IsPlainItem y =
    ((m : ResvMsg) × (y.arrival ≡ Spelt (message.Resv m)) × (m.confirm ≡ None))
    ⊎ (((m : ResvTearMsg) × (y.arrival ≡ Spelt (message.ResvTear m))) ⊎ ((m : PathMsg) × (y.arrival ≡ Spelt (message.Path m))))

-- a ResvTear goes back over a hop, and takes a name of what is sound there
record IsTearOfSound (w : World) (y : Item) (m : ResvTearMsg) : Type 0 where
  key : HopKey
  there : In (hop_over key) (hops_of w.net.hops key.session.group)
  over : IsOver w.net key y m.session m.hop.addr (tear_style m.tear)
  part : Part
  sound : IsSoundPart key.style w key.session key.to (addr_of w.net key.from) key.unit part
  takes : TakesName m part

-- ---- a step by which a node follows its rule at most
module _ (q : ℕ) (t : Step) (u : World) (bounds : AreBounds q u) (follows : (n : ℕ) (f : Facts) → slice_get u.nodes n ≡ Some f → (outcome q t u n f ≡ still f) ⊎ Turns q t u n f) where
  -- what is sent by nodes whose turns are quiet, where no PathTear is
  plain_sent : HasNoPathTear (step q t u) → ((n : ℕ) (f : Facts) → slice_get u.nodes n ≡ Some f → (h : Turns q t u n f) → IsQuietTurn (place q t u n) (moment q t u) h.input f)
      → (y : Item) (b : Bool) → In (y, b) (sent q t u) → In y (step q t u).flight → IsPlainItem y
  plain_sent no_tear quiet y b i flies =
      let c = (what_is_sent_is_copied q t u (y, b)).0 i in
      let spelt : y.arrival ≡ Spelt c.send.message = ap (λ (z : Item × Bool). z.0.arrival) c.is in
      let r = sent_in_turn q t u bounds follows y b c.send.message i spelt in
      ⊎_elim
      (λ (x : (m : ResvMsg) × (r.send.message ≡ message.Resv m) × (m.confirm ≡ None)). inl (x.0, spelt ∙ ap Spelt (sym r.says ∙ x.1), x.2))
      (λ k. ⊎_elim (λ (x : (m : ResvTearMsg) × (r.send.message ≡ message.ResvTear m)). inr (inl (x.0, spelt ∙ ap Spelt (sym r.says ∙ x.1))))
      (λ k. ⊎_elim (λ (x : (m : PathMsg) × (r.send.message ≡ message.Path m)). inr (inr (x.0, spelt ∙ ap Spelt (sym r.says ∙ x.1))))
      (λ (x : (m : PathTearMsg) × (r.send.message ≡ message.PathTear m)). absurd (no_tear y x.0 flies (spelt ∙ ap Spelt (sym r.says ∙ x.1)))) k) k)
      (sends_plain (place q t u r.node) (moment q t u) r.by.input r.facts (quiet r.node r.facts r.there r.by) r.send r.sent_one)

  module _ (bounds' : AreBounds q (left q t u)) (sound' : ArePathsSound (left q t u)) (sound : ArePathsSound u) (resvs : AreResvsSound u) where
    -- a ResvTear that is sent goes back over a hop, and takes a name of what went toward the hop before, and so of what is sound there
    tear_of_sound : (y : Item) (b : Bool) (m : ResvTearMsg) → In (y, b) (sent q t u) → y.arrival ≡ Spelt (message.ResvTear m) → IsTearOfSound u y m
    tear_of_sound y b m i spelt =
        let g = goes_back q t u bounds follows bounds' sound' y b m i spelt in
        let k : HopKey = g.key in
        let n : ℕ = node_of u.net.ends k.from in
        let r = torn_in_turn q t u bounds follows bounds' (ways_of (left q t u) sound') k g.there y b m i spelt g.over in
        let listed : g.names ≡ r.names = of_some g.names r.names (sym g.lists ∙ r.lists) in
        let gone = r.gone g.some.0 (ap (λ (z : Names). has z g.some.0) (sym listed) ∙ g.some.1) in
        let x = toward_is_at_most_the_want q u bounds sound n r.before r.at (lane_of u.net k) (hop_over k) (record { there = g.there; node = refl; iface = refl; addr = refl })
        (named_below u resvs.facts k.style n r.before k.session (rank u.net k.session.group (hop_over k)) r.at) gone.unit gone.part gone.was in
        record {
          key = record { session = k.session; style = k.style; unit = gone.unit; from = k.from; to = k.to };
          there = g.there;
          over = record { end = g.over.end; session = g.over.session; from = g.over.from; style = g.over.style };
          part = gone.part;
          sound = x;
          takes = record { name = g.some.0; was = gone.named; goes = ap (λ (o : Option Names). stays o g.some.0) g.lists ∙ ap not g.some.1 };
        }

-- ---- worlds on the way
record IsSilent (q : ℕ) (u : World) : Type 0 where
  follows : (c : Session) → IsFollowing q c u
  plain : (y : Item) → In y u.flight → IsPlainItem y
  tears : (y : Item) (m : ResvTearMsg) → In y u.flight → y.arrival ≡ Spelt (message.ResvTear m) → IsTearOfSound u y m
  unmarked : HasNoMark u

some_session : Session
some_session = record { group = record { 0 = 0 }; proto = 0; port = 0 }

-- ---- one delivery
module _ (q : ℕ) (u : World) (r : IsSilent q u) where
  abbrev next : World
  next = step q (Deliver 0) u

  bounds : AreBounds q u
  bounds = (r.follows some_session).paths.bounds

  abbrev turns_now : (n : ℕ) (f : Facts) → slice_get u.nodes n ≡ Some f → (outcome q (Deliver 0) u n f ≡ still f) ⊎ Turns q (Deliver 0) u n f
  turns_now = turns q some_session u (r.follows some_session)

  follows_next : (c : Session) → IsFollowing q c next
  follows_next c = following_next q c u (r.follows c)

  same : IsSameNet u next
  same = same_next q 0 u bounds u (known_self q u bounds).same

  quiet : (n : ℕ) (f : Facts) → slice_get u.nodes n ≡ Some f → (h : Turns q (Deliver 0) u n f) → IsQuietTurn (place q (Deliver 0) u n) (moment q (Deliver 0) u) h.input f
  quiet n f at h =
      let z = came_by_delivery q 0 u bounds n h.input h.came in
      let e : ℕ = iface_of u.net.ends z.item.end in
      let node : node_of u.net.ends z.item.end ≡ n = ap node_of_end z.there ∙ z.node in
      let flies : In z.item u.flight = in_arrived (Deliver 0) u z.item z.arrives in
      let marks : (k : WantKey) (x : Want) → get f.wants k ≡ Some x → x.confirm ≡ false = (λ k x g. r.unmarked n f k x at g) in
      ⊎_elim
      (λ (x : (m : ResvMsg) × (z.item.arrival ≡ Spelt (message.Resv m)) × (m.confirm ≡ None)).
      let m : ResvMsg = x.0 in
      let lt = (bounds.flight z.item flies).end in
      let end : end_at u.net.ends (node_of u.net.ends z.item.end) e ≡ Some z.item.end = (interfaces_are_ends u.net).end_of_iface z.item.end lt in
      let dst : z.item.dst ≡ own (place q (Deliver 0) u (node_of u.net.ends z.item.end)) e =
      (r.follows m.session).addressed z.item m flies x.1 ∙ sym (own_end q u.net u.trees (node_of u.net.ends z.item.end) e z.item.end end) in
      let w = taken q m.session u (r.follows m.session) z.item m f flies x.1 refl (ap (λ (d : ℕ). slice_get u.nodes d) node ∙ at) in
      let v = unanswered_is_quiet (place q (Deliver 0) u (node_of u.net.ends z.item.end)) (moment q (Deliver 0) u) (came_resv (place q (Deliver 0) u (node_of u.net.ends z.item.end)) e m) f
      (resv_unanswered (place q (Deliver 0) u (node_of u.net.ends z.item.end)) (moment q (Deliver 0) u) e m f (goal_at u.net (locals_of u) (node_of u.net.ends z.item.end)) w x.2 marks) in
      let input : came_resv (place q (Deliver 0) u (node_of u.net.ends z.item.end)) e m ≡ h.input =
      (λ j. Came e (sym dst j) (Spelt (message.Resv m))) ∙ (λ j. Came e z.item.dst (sym x.1 j)) ∙ sym z.is in
      subst (λ (d : ℕ × Input). IsQuietTurn (place q (Deliver 0) u d.0) (moment q (Deliver 0) u) d.1 f) (λ j. (node j, input j)) v)
      (λ k. ⊎_elim
      (λ (x : (m : ResvTearMsg) × (z.item.arrival ≡ Spelt (message.ResvTear m))).
      let v = unanswered_is_quiet (place q (Deliver 0) u n) (moment q (Deliver 0) u) (Came e z.item.dst (Spelt (message.ResvTear x.0))) f
      (tear_unanswered (place q (Deliver 0) u n) (moment q (Deliver 0) u) e z.item.dst x.0 f marks) in
      let input : Came e z.item.dst (Spelt (message.ResvTear x.0)) ≡ h.input = (λ j. Came e z.item.dst (sym x.1 j)) ∙ sym z.is in
      subst (λ (d : Input). IsQuietTurn (place q (Deliver 0) u n) (moment q (Deliver 0) u) d f) input v)
      (λ (x : (m : PathMsg) × (z.item.arrival ≡ Spelt (message.Path m))).
      let input : Came e z.item.dst (Spelt (message.Path x.0)) ≡ h.input = (λ j. Came e z.item.dst (sym x.1 j)) ∙ sym z.is in
      subst (λ (d : Input). IsQuietTurn (place q (Deliver 0) u n) (moment q (Deliver 0) u) d f) input
      (path_quiet (place q (Deliver 0) u n) (moment q (Deliver 0) u) e z.item.dst x.0 f marks)) k)
      (r.plain z.item flies)

  tear_next : (y : Item) (m : ResvTearMsg) → IsTearOfSound u y m → IsTearOfSound next y m
  tear_next y m x = record {
    key = x.key;
    there = x.there;
    over = x.over;
    part = x.part;
    sound = part_again x.key.style u next x.key.session x.key.to (addr_of u.net x.key.from) x.key.unit x.part refl (sym same.locals) x.sound;
    takes = x.takes;
  }

  silent_next : IsSilent q next
  silent_next =
      let one = r.follows some_session in
      let then_one = follows_next some_session in
      record {
        follows = follows_next;
        plain = λ y i.
            ⊎_elim (λ (old : In y u.flight). r.plain y old)
            (λ (new : (b : Bool) × In (y, b) (sent q (Deliver 0) u)). plain_sent q (Deliver 0) u bounds turns_now then_one.paths.no_tear quiet y new.0 new.1 i)
            (in_flight_after q (Deliver 0) u y refl i);
        tears = λ y m i spelt.
            ⊎_elim (λ (old : In y u.flight). tear_next y m (r.tears y m old spelt))
            (λ (new : (b : Bool) × In (y, b) (sent q (Deliver 0) u)).
            tear_next y m (tear_of_sound q (Deliver 0) u bounds turns_now then_one.paths.bounds then_one.paths.sound one.paths.sound one.sound y new.0 m new.1 spelt))
            (in_flight_after q (Deliver 0) u y refl i);
        unmarked = unmarked_in_turn q (Deliver 0) u turns_now (λ n f at h. (quiet n f at h).unmarked) r.unmarked;
      }

-- ---- passes
module _ (q : ℕ) where
  silent_deliveries : (m : ℕ) (u : World) → IsSilent q u → IsSilent q (after_deliveries q m u)
  silent_deliveries zero u r = r
  silent_deliveries (suc m) u r = silent_deliveries m (step q (Deliver 0) u) (silent_next q u r)

  silent_passes : (n : ℕ) (u : World) → IsSilent q u → IsSilent q (after_passes q n u)
  silent_passes zero u r = r
  silent_passes (suc n) u r =
      let v : World = after_deliveries q (length u.flight) u in
      subst (λ (w : World). IsSilent q w) (sym (run_then q (pass q u) (passes q n v) u)) (silent_passes n v (silent_deliveries (length u.flight) u r))

-- ---- nothing is in flight in the end
module _ (q : ℕ) (w : World) (r : IsSilent q w) (from : (y : Item) → In y w.flight → IsFromDepth w.net 0 y) where
  abbrev later : World
  later = after_passes q (2 * longest w.net) w

  silent : IsSilent q later
  silent = silent_passes q (2 * longest w.net) w r

  no_path : (y : Item) (m : PathMsg) → In y later.flight → y.arrival ≡ Spelt (message.Path m) → ⊥
  no_path y m i spelt = by m.sender refl
    where
      by : (o : Option (Sender × TokenBucket)) → m.sender ≡ o → ⊥
      by None none = (silent.follows some_session).paths.sound.named y m i spelt none
      by (Some x) sender =
          none_later q (IsSilent q) (λ u s. (s.follows some_session).paths.bounds) (λ u s. (s.follows some_session).paths.no_tear) (silent_next q) (2 * longest w.net) w r (omega arith)
          from y m x.0 x.1 i spelt sender

  abbrev half : World
  half = after_passes q (longest w.net) w

  abbrev last : World
  last = after_passes q (longest half.net) half

  no_tear : (y : Item) (m : ResvTearMsg) → In y later.flight → y.arrival ≡ Spelt (message.ResvTear m) → ⊥
  no_tear y m i spelt =
      let here : In y last.flight = subst (λ (z : World). In y z.flight) (twice q w) i in
      let x = (subst (λ (z : World). IsSilent q z) (twice q w) silent).tears y m here spelt in
      let s : Session = x.key.session in
      let d = rise q s (longest half.net) half (paths_reach_receivers_that_wait q s w (r.follows s)) in
      let valid = d.0.paths.bounds.net in
      let long : longest last.net ≡ longest half.net = ap longest d.2.net in
      let most = (rank_falls last.net valid.loop_free).hops s.group (hop_over x.key) x.there in
      let theirs = ends_there last.net valid s.group x.sound.hop x.sound.there in
      let inside = ends_there last.net valid s.group (hop_over x.key) x.there in
      let to : x.sound.hop.to ≡ x.key.from = same_by_addr last.net valid x.sound.hop.to x.key.from theirs.1 inside.1 x.sound.to in
      let hop : x.sound.hop ≡ hop_over x.key = (λ j. record { from = x.sound.from j; to = to j }) in
      let wanted : get (want x.key.style last.net (locals_of last) s (hop_over x.key)) x.key.unit ≡ Some x.sound.wanted =
      ap (λ (z : LinkHop). get (want x.key.style last.net (locals_of last) s z) x.key.unit) (sym hop) ∙ x.sound.is in
      let up = part_at_most_told x.part x.sound.wanted x.sound.below in
      d.1 y here x.key x.sound.wanted refl x.there (omega (arith, most.1, long)) wanted
      (inr (m, spelt, x.over, record { name = x.takes.name; was = up.names x.takes.name x.takes.was; goes = x.takes.goes }))

  nothing_flies : (after_passes q (2 * longest w.net) w).flight ≡ []
  nothing_flies =
      none_in later.flight
      (λ y i.
      ⊎_elim
      (λ (x : (m : ResvMsg) × (y.arrival ≡ Spelt (message.Resv m)) × (m.confirm ≡ None)). (receivers_that_wait_are_served q x.0.session w (r.follows x.0.session)).1.no_resv y x.0 i x.1 refl)
      (λ k. ⊎_elim (λ (x : (m : ResvTearMsg) × (y.arrival ≡ Spelt (message.ResvTear m))). no_tear y x.0 i x.1) (λ (x : (m : PathMsg) × (y.arrival ≡ Spelt (message.Path m))). no_path y x.0 i x.1) k)
      (silent.plain y i))

-- ---- a host begins to send
module _ (q n : ℕ) (k : SenderKey) (t : TokenBucket) (w : World) (r : IsSilent q w) (fit : IsSound t) (new : IsNew w k) (hosts : AreHosts (after_send q n k t w))
    (fits : (c : Session) → SessionFits w.net (locals_of (after_send q n k t w)) c) where
  abbrev call : Local
  call = SendAs k.0 k.1 t

  abbrev begun : World
  begun = after_send q n k t w

  abbrev one : IsFollowing q some_session w
  one = r.follows some_session

  follows_then : (c : Session) → IsFollowing q c begun
  follows_then c = following_then q n k t w (r.follows c).paths fit new hosts c (r.follows c) (fits c)

  abbrev turns_then : (m : ℕ) (f : Facts) → slice_get w.nodes m ≡ Some f → (outcome q (At n call) w m f ≡ still f) ⊎ Turns q (At n call) w m f
  turns_then = called_turns q n call w

  quiet_then : (m : ℕ) (f : Facts) → slice_get w.nodes m ≡ Some f → (h : Turns q (At n call) w m f) → IsQuietTurn (place q (At n call) w m) (moment q (At n call) w) h.input f
  quiet_then m f at h =
      let p : NodeConfig = place q (At n call) w m in
      let v : IsQuietTurn p (moment q (At n call) w) (Call call) f =
      record {
        errors = refl;
        confs = refl;
        asked = refl;
        unmarked = λ k' x e. r.unmarked m f k' x at (ap (λ (z : Wants). get z k') (sym (unless_same (call_refusal p call f) f.wants)) ∙ e);
      } in
      subst (λ (z : Input). IsQuietTurn p (moment q (At n call) w) z f) (sym (at_node_found n m (Call call) h.input h.came).1) v

  tear_then : (y : Item) (m : ResvTearMsg) → IsTearOfSound w y m → IsTearOfSound begun y m
  tear_then y m x = record {
    key = x.key;
    there = x.there;
    over = x.over;
    part = x.part;
    sound = sound_on q n k t w one.paths fit new hosts x.key.style x.key.session x.key.to (addr_of w.net x.key.from) x.key.unit x.part x.sound;
    takes = x.takes;
  }

  silent_then : IsSilent q begun
  silent_then =
      let then_one = follows_then some_session in
      record {
        follows = follows_then;
        plain = λ y i.
            ⊎_elim (λ (old : In y w.flight). r.plain y old)
            (λ (now : (b : Bool) × In (y, b) (sent q (At n call) w)). plain_sent q (At n call) w one.paths.bounds turns_then then_one.paths.no_tear quiet_then y now.0 now.1 i)
            (in_flight_then q n call w y i);
        tears = λ y m i spelt.
            ⊎_elim (λ (old : In y w.flight). tear_then y m (r.tears y m old spelt))
            (λ (now : (b : Bool) × In (y, b) (sent q (At n call) w)).
            tear_then y m (tear_of_sound q (At n call) w one.paths.bounds turns_then then_one.paths.bounds then_one.paths.sound one.paths.sound one.sound y now.0 m now.1 spelt))
            (in_flight_then q n call w y i);
        unmarked = unmarked_in_turn q (At n call) w turns_then (λ m f at h. (quiet_then m f at h).unmarked) r.unmarked;
      }

  -- each Path in flight is sent by the call, where nothing was
  paths_from : w.flight ≡ [] → (y : Item) → In y begun.flight → IsFromDepth begun.net 0 y
  paths_from empty_flight y i m x flow spelt sender =
      ⊎_elim (λ (old : In y w.flight). absurd (subst (λ (z : List Item). In y z) empty_flight old))
      (λ (now : (b : Bool) × In (y, b) (sent q (At n call) w)).
      let p = path_sent_by_call q w n call one.paths.bounds y now.0 m now.1 spelt in
      let name : p.sender ≡ x = ap (λ (z : Sender × TokenBucket). z.0) (of_some (p.sender, p.tspec) (x, flow) (sym p.of ∙ sender)) in
      record {
        end = p.end;
        leaves = subst (λ (z : ℕ). In p.end (outward w.net z m.session.group x.addr)) (sym p.at) (subst (λ (z : Sender). In p.end (outward w.net p.node m.session.group z.addr)) name p.leaves);
        to = p.to;
        deep = omega arith;
      })
      (in_flight_then q n call w y i)

pub a_sender_leaves_nothing_in_flight : (q n : ℕ) (k : SenderKey) (t : TokenBucket) (w : World) → AreBounds q w → AreHosts w → HasSettled q w → w.flight ≡ [] → HasNoMark w → IsSound t → IsNew w k
    → AreHosts (after_send q n k t w) → DemandsFit w.net (locals_of (after_send q n k t w)) → (after_passes q (2 * longest w.net) (after_send q n k t w)).flight ≡ []
a_sender_leaves_nothing_in_flight q n k t w bounds locals settled_now empty_flight unmarked fit new hosts all_fit =
    let start = begins q n k t w bounds locals settled_now empty_flight fit new hosts all_fit in
    let r : IsSilent q w =
    record {
      follows = λ c. a_reserving_session_follows q c w (settled_is_reserved q w start settled_now empty_flight c);
      plain = λ y i. absurd (subst (λ (z : List Item). In y z) empty_flight i);
      tears = λ y m i spelt. absurd (subst (λ (z : List Item). In y z) empty_flight i);
      unmarked = unmarked;
    } in
    let fits : (c : Session) → SessionFits w.net (locals_of (after_send q n k t w)) c = (λ c. each_fits w.net (locals_of (after_send q n k t w)) all_fit c) in
    nothing_flies q (after_send q n k t w) (silent_then q n k t w r fit new hosts fits) (paths_from q n k t w r fit new hosts fits empty_flight)
