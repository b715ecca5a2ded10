-- A delivery in a network that opens: names that are asked for stay so, and only Paths, and Resvs that ask for no confirmation, are in flight.
use Rattle.std.proofs.Common.{◌≡◌, ℕ, ◌+◌, List, [], ◌∷◌, Bool, true, false, Option, None, Some, ⊎_elim, sym, refl, ap, subst, ◌∙◌}
use Rattle.std.specs.Prelude.{is_some, map as each, slice_get}
use Rattle.std.specs.List.{remove}
use Rattle.rsvp_base.specs.declared.part.Part.{Part}
use Rattle.rsvp_base.specs.declared.session.Sender.{Sender}
use Rattle.rsvp_base.specs.declared.session.Session.{Session}
use Rattle.rsvp_base.specs.declared.style.StyleKind.{StyleKind}
use Rattle.rsvp_base.specs.declared.style.Unit.{Unit as UnitOf}
use Rattle.rsvp_base.specs.Members.{In}
use Rattle.rsvp_base.specs.Table.{get, has}
use Rattle.rsvp_base.proofs.Members.{in_append, in_each}
use Rattle.router_rules.specs.RsvpMessages.declared.message.Message.TheVariants as message
use Rattle.router_rules.specs.RsvpMessages.declared.message.PathMsg.{PathMsg}
use Rattle.router_rules.specs.RsvpMessages.declared.message.ResvMsg.{ResvMsg}
use Rattle.router_rules.specs.Lines.{LineKey, NextHop}
use Rattle.laws_bounds.specs.FactLaws.{ComesBy}
use Rattle.laws_bounds.specs.Frames.{on_wants}
use Rattle.laws_bounds.proofs.Framing.{act_wants, wants_then}
use Rattle.laws_bounds.proofs.Tests.{came_tested}
use Rattle.router_rules.specs.Act.{act, act_spelt, is_mine}
use Rattle.router_rules.specs.Facts.{Facts, ResvState, Want, WantKey, Wants, resvs_of}
use Rattle.router_rules.specs.Inputs.{Came, Input, Spelt}
use Rattle.router_rules.specs.Known.{Lane}
use Rattle.router_rules.specs.NodeConfig.{NodeConfig, own}
use Rattle.router_rules.specs.Requests.{toward}
use Rattle.router_rules.specs.Rule.{Outcome}
use Rattle.router_rules.specs.Steps.{facts_then}
use Rattle.tree_model.specs.declared.hops.LinkHop.{LinkHop}
use Rattle.tree_model.specs.Goals.{addr_of}
use Rattle.tree_model.specs.Networks.{Net, end_at, iface_of, node_of, node_of_end}
use Rattle.tree_model.proofs.Ifaces.{interfaces_are_ends}
use Rattle.tree_model.proofs.TreeLaws.{one}
use Rattle.network_model.specs.Bounds.{AreBounds}
use Rattle.network_model.specs.Locals.{locals_of}
use Rattle.network_model.specs.Sound.{ArePathsSound}
use Rattle.network_model.specs.Steps.{Deliver, input_at, ms_of, outcome, sent, step, still}
use Rattle.network_model.specs.Worlds.{Item, World, config_of}
use Rattle.network_model.proofs.Machines.{in_arrived, in_flight_after, in_rest}
use Rattle.network_model.proofs.Stepping.{facts_after_made}
use Rattle.laws_network.proofs.Known.{has_some, of_some}
use Rattle.laws_network.proofs.Standing.{own_end}
use Rattle.settle_paths.proofs.PathSends.{path_sent}
use Rattle.settle_paths.proofs.PreviousHops.{ahead, ends_there}
use Rattle.settle_resvs.specs.GoalByIface.{goal_at}
use Rattle.settle_resvs.specs.Said.{HopKey, hop_over, lane_of, resv_key}
use Rattle.settle_resvs.proofs.ResvSends.{IsResvSent, resv_sent}
use Rattle.settle_resvs.proofs.SoftResvs.{IsAsked, WasThere, resv_made, resv_source}
use Rattle.settle_passes.proofs.Deliveries.{came_by_delivery, known_self, path_stays, tear_of_none}
use Rattle.settle_passes.proofs.Turns.{Turns}
use Rattle.settle_senders.specs.Following.{IsFollowing}
use Rattle.settle_senders.proofs.Following.{following_next, taken, turns}
use Rattle.settle_refreshes.specs.Refreshes.{HasOnlyRefreshes}
use Rattle.settle_refreshes.proofs.Waiting.{nobody_waits_then}
use Rattle.settle_openings.specs.Opening.{AllName, AreFull, DoNamesStay, GoesOn, IsGoingOn, IsNamedOn, Names}
use Rattle.settle_openings.proofs.Heard.{no_error_made}
use Rattle.settle_openings.proofs.Kept.{name_is_kept, of_hop}
use Rattle.settle_openings.proofs.Only.{all_then, new_goes, order_then, sends_only}
use Rattle.settle_openings.proofs.Rising.{names_rise}

pub some_session : Session
some_session = record { group = record { 0 = 0 }; proto = 0; port = 0 }

-- ---- what is behind the first
first_names : (net : Net) (k : HopKey) (x : Sender) (y : Item) (ys : List Item) → slice_get ys 0 ≡ Some y → IsNamedOn net k x ys → Names net k x y → AllName net k x (remove ys 0)
first_names net k x y [] e order n = let bad : None ≡ Some y = e in absurd (cc)
first_names net k x y (z ∷ zs) e order n = let is : z ≡ y = cc in order.0 (subst (λ (d : Item). Names net k x d) (sym is) n)

rest_named : (net : Net) (k : HopKey) (x : Sender) (ys : List Item) → IsNamedOn net k x ys → IsNamedOn net k x (remove ys 0)
rest_named net k x [] order = tt
rest_named net k x (z ∷ zs) order = order.1

module _ (q : ℕ) (u : World) (r : IsGoingOn q u) where
  abbrev next : World
  next = step q (Deliver 0) u

  abbrev news : List Item
  news = each (λ (z : Item × Bool). z.0) (sent q (Deliver 0) u)

  first : IsFollowing q some_session u
  first = r.follows some_session

  pub follows_next : (c : Session) → IsFollowing q c next
  follows_next c = following_next q c u (r.follows c)

  pub bounds : AreBounds q u
  bounds = first.paths.bounds

  pub bounds' : AreBounds q next
  bounds' = (follows_next some_session).paths.bounds

  pub sound' : ArePathsSound next
  sound' = (follows_next some_session).paths.sound

  abbrev then : ℕ → Facts → Facts
  then n f = (outcome q (Deliver 0) u n f).facts

  -- ---- a node asks for the names for which it asked
  pub via_on : (n : ℕ) (f : Facts) → slice_get u.nodes n ≡ Some f → (s : Session) (hop : NextHop) (x : Sender) → ComesBy f s hop x → ComesBy (then n f) s hop x
  via_on n f at s hop x c =
      let a = ahead u n f first.paths.sound at s hop x c in
      let on = path_stays q 0 u bounds n f (s, x) c.path (tear_of_none u first.paths.no_tear (s, x)) at c.there in
      let same : on.0 ≡ then n f = of_some on.0 (then n f) (sym on.1 ∙ facts_after_made q (Deliver 0) u n f at) in
      let z = sound'.facts n on.0 (s, x) on.2 on.1 on.3 in
      let of = (interfaces_are_ends u.net).iface_of_end n on.2.iface z.end z.at in
      let hops : z.sound.hop ≡ a.way = one u.net bounds.net s.group x.addr z.sound.hop a.way z.sound.there a.there (ap (node_of u.net.ends) z.sound.to ∙ of.1 ∙ sym a.previous.node) in
      let iface : on.2.iface ≡ hop.0 = sym of.2 ∙ ap (iface_of u.net.ends) (sym z.sound.to) ∙ ap (λ (h : LinkHop). iface_of u.net.ends h.to) hops ∙ a.previous.iface in
      let addr : on.2.hop.addr ≡ hop.1 = z.sound.from ∙ ap (λ (h : LinkHop). addr_of u.net h.from) hops ∙ a.previous.addr in
      record { path = on.2; there = ap (λ (d : Facts). get d.paths (s, x)) (sym same) ∙ on.3; by = came_tested hop on.2 (iface, addr) }

  pub resvs_on : (n : ℕ) (f : Facts) → slice_get u.nodes n ≡ Some f → (st : StyleKind) (key : LineKey) (d : ResvState) (x : Sender) → get (resvs_of st f) key ≡ Some d → has d.part.senders x ≡ true
      → (d' : ResvState) × (get (resvs_of st (then n f)) key ≡ Some d') × (has d'.part.senders x ≡ true)
  resvs_on n f at st key d x e h =
      let o = of_hop u n st key d (first.sound.facts st n f key d at e) in
      let k = name_is_kept q u r o.hop o.there d x (o.same u ∙ resv_made u n st key f at ∙ e) h in
      (k.0, sym (resv_made next n st key (then n f) (facts_after_made q (Deliver 0) u n f at)) ∙ sym (o.same next) ∙ k.1, k.2)

  wants_on : (n : ℕ) (f : Facts) → slice_get u.nodes n ≡ Some f → (k : WantKey) (x : Want) → get f.wants k ≡ Some x
      → (y : Want) × (get (then n f).wants k ≡ Some y) × (y.style ≡ x.style) × (y.part ≡ x.part)
  wants_on n f at k x e =
      ⊎_elim (λ (z : outcome q (Deliver 0) u n f ≡ still f). (x, ap (λ (o : Outcome). get o.facts.wants k) z ∙ e, refl, refl))
      (λ (h : Turns q (Deliver 0) u n f).
      let p : NodeConfig = config_of q u.net u.trees n in
      let c : ℕ = u.clock + ms_of (Deliver 0) in
      let z = came_by_delivery q 0 u bounds n h.input h.came in
      let old : get (act p c h.input f).facts.wants k ≡ Some x = ap (λ (w : Wants). get w k) (act_wants p c h.input f (ap on_wants z.is)) ∙ e in
      let marks = wants_then p p c h.input f in
      let y = has_some (get (facts_then p p c h.input f).wants k) (marks.there k ∙ ap (λ (o : Option Want). is_some o) old) in
      let from = marks.source k y.0 y.1 in
      let same : from.0 ≡ x = of_some from.0 x (sym from.1 ∙ old) in
      (y.0, ap (λ (o : Outcome). get o.facts.wants k) h.is ∙ y.1, from.2.style ∙ ap (λ (w : Want). w.style) same, from.2.part ∙ ap (λ (w : Want). w.part) same))
      (turns q some_session u first n f at)

  pub lane_rises : (n : ℕ) (f : Facts) (l : Lane) (un : UnitOf) (t : Part) (x : Sender) → slice_get u.nodes n ≡ Some f → get (toward (config_of q u.net u.trees n) f l) un ≡ Some t
      → has t.senders x ≡ true → (t' : Part) × (get (toward (config_of q u.net u.trees n) (then n f) l) un ≡ Some t') × (has t'.senders x ≡ true)
  lane_rises n f l un t x at e h =
      let after : slice_get next.nodes n ≡ Some (then n f) = facts_after_made q (Deliver 0) u n f at in
      names_rise (config_of q u.net u.trees n) u.clock next.clock f (then n f) (bounds.facts n f at) (bounds'.facts n (then n f) after) l ((follows_next l.session).free n (then n f) after)
      (λ v w d. wants_on n f at (l.session, v) w d) (λ y c. via_on n f at l.session l.hop y c) (λ key d y i j. resvs_on n f at l.style (l.session, key) d y i j) un t x e h

  pub goes_on : (k : HopKey) (x : Sender) → GoesOn q u k x → GoesOn q next k x
  goes_on k x g =
      let n : ℕ = node_of u.net.ends k.from in
      let up = lane_rises n g.facts (lane_of u.net k) k.unit g.part x g.there g.goes g.named in
      record { facts = then n g.facts; there = facts_after_made q (Deliver 0) u n g.facts g.there; part = up.0; goes = up.1; named = up.2 }

  -- ---- what it sends
  path_errors : (p : NodeConfig) (c e : ℕ) (m : PathMsg) (f : Facts) (b : Bool) → (act_spelt p c e (message.Path m) b f).errors ≡ []
  path_errors p c e m f true = refl
  path_errors p c e m f false = refl

  no_errors : (n : ℕ) (f : Facts) (i : Input) → slice_get u.nodes n ≡ Some f → input_at (Deliver 0) u n ≡ Some i → (act (config_of q u.net u.trees n) (u.clock + ms_of (Deliver 0)) i f).errors ≡ []
  no_errors n f i at came =
      let z = came_by_delivery q 0 u bounds n i came in
      let c : ℕ = u.clock + ms_of (Deliver 0) in
      let e : ℕ = iface_of u.net.ends z.item.end in
      let node : node_of u.net.ends z.item.end ≡ n = ap node_of_end z.there ∙ z.node in
      let p : NodeConfig = config_of q u.net u.trees (node_of u.net.ends z.item.end) in
      let flies : In z.item u.flight = in_arrived (Deliver 0) u z.item z.arrives in
      let done : (act p c (Came e z.item.dst z.item.arrival) f).errors ≡ [] = ⊎_elim
      (λ (x : (m : PathMsg) × (z.item.arrival ≡ Spelt (message.Path m))).
      ap (λ (a : _). (act p c (Came e z.item.dst a) f).errors) x.1 ∙ path_errors p c e x.0 f (is_mine p e z.item.dst (message.Path x.0)))
      (λ (x : (m : ResvMsg) × (z.item.arrival ≡ Spelt (message.Resv m)) × (m.confirm ≡ None)).
      let m : ResvMsg = x.0 in
      let end : end_at u.net.ends (node_of u.net.ends z.item.end) e ≡ Some z.item.end = (interfaces_are_ends u.net).end_of_iface z.item.end (bounds.flight z.item flies).end in
      let dst : z.item.dst ≡ own p e = (r.follows m.session).addressed z.item m flies x.1 ∙ sym (own_end q u.net u.trees (node_of u.net.ends z.item.end) e z.item.end end) in
      let w = taken q m.session u (r.follows m.session) z.item m f flies x.1 refl (ap (λ (d : ℕ). slice_get u.nodes d) node ∙ at) in
      let v = no_error_made p c e m f (goal_at u.net (locals_of u) (node_of u.net.ends z.item.end)) w in
      (λ j. (act p c (Came e (dst j) (x.1 j)) f).errors) ∙ v)
      (r.only z.item flies) in
      (λ j. (act (config_of q u.net u.trees (sym node j)) c (z.is j) f).errors) ∙ done

  pub only_next : HasOnlyRefreshes next
  only_next y i =
      ⊎_elim (λ (old : In y u.flight). r.only y old)
      (λ (new : (b : Bool) × In (y, b) (sent q (Deliver 0) u)).
      sends_only q (Deliver 0) u refl r.waits (follows_next some_session).paths.no_tear no_errors
      (λ n f l un t x at there e h. let up = lane_rises n f l un t x at e h in ap (λ (o : Option Part). is_some o) up.1) y new.0 new.1 i)
      (in_flight_after q (Deliver 0) u y refl i)

  full_next : AreFull q next
  full_next = record {
    paths = λ y m i spelt.
        ⊎_elim (λ (old : In y u.flight). r.full.paths y m old spelt)
        (λ (new : (b : Bool) × In (y, b) (sent q (Deliver 0) u)). let p = path_sent q (Deliver 0) u refl bounds y new.0 m new.1 spelt in (p.period, p.dst)) (in_flight_after q (Deliver 0) u y refl i);
    resvs = λ y m i spelt.
        ⊎_elim (λ (old : In y u.flight). r.full.resvs y m old spelt)
        (λ (new : (b : Bool) × In (y, b) (sent q (Deliver 0) u)). (resv_sent q (Deliver 0) u refl bounds y new.0 m new.1 spelt).period) (in_flight_after q (Deliver 0) u y refl i);
  }

  -- ---- names stay
  sends : (y : Item) (m : ResvMsg) → In y news → y.arrival ≡ Spelt (message.Resv m) → IsResvSent q next.net next.trees next y m
  sends y m i spelt =
      let x = in_each (λ (z : Item × Bool). z.0) y (sent q (Deliver 0) u) i in
      resv_sent q (Deliver 0) u refl bounds y x.0.1 m (subst (λ (z : Item). In (z, x.0.1) (sent q (Deliver 0) u)) (sym x.2) x.1) spelt

  names_next : DoNamesStay q next
  names_next = record {
    kept = λ k v x there c e.
        let lt = (ends_there u.net bounds.net k.session.group (hop_over k) there).0 in
        let has_it : has c.resv.part.senders x ≡ true = ap (λ (z : Part). has z.senders x) c.is ∙ e in
        ⊎_elim
        (λ (old : WasThere u.net (resv_key u.net k) u c.resv).
        let on = r.names.kept k old.resv.part x there (record { resv = old.resv; there = old.there; is = refl }) (old.left.names x has_it) in
        let now = goes_on k x on.1 in
        (all_then q next bounds' sound' (remove u.flight 0) news sends k x there (λ y m i spelt over. on.0 y m (in_rest (Deliver 0) u y refl i) spelt over) now, now))
        (λ (new : IsAsked u.net (resv_key u.net k) (Deliver 0) u c.resv).
        let n : Names u.net k x new.item = (new.part, new.says, new.cut.names x has_it) in
        let now = goes_on k x (r.names.items k x new.item there (in_arrived (Deliver 0) u new.item new.arrives) n) in
        (all_then q next bounds' sound' (remove u.flight 0) news sends k x there (first_names u.net k x new.item u.flight new.arrives (r.names.order k x there) n) now, now))
        (resv_source q u (resv_key u.net k) lt (Deliver 0) u refl (known_self q u bounds) c.resv c.there);
    items = λ k x y there i n.
        ⊎_elim (λ (old : In y (remove u.flight 0)). goes_on k x (r.names.items k x y there (in_rest (Deliver 0) u y refl old) n))
        (λ (new : In y news). new_goes q next bounds' sound' (remove u.flight 0) news sends k x y there new n) (in_append y (remove u.flight 0) news i);
    order = λ k x there.
        order_then q next bounds' sound' (remove u.flight 0) news sends k x there (rest_named u.net k x u.flight (r.names.order k x there))
        (λ y i n. goes_on k x (r.names.items k x y there (in_rest (Deliver 0) u y refl i) n));
  }

  pub going_next : IsGoingOn q next
  going_next = record { follows = follows_next; only = only_next; waits = nobody_waits_then q (Deliver 0) u refl r.waits; full = full_next; names = names_next }
