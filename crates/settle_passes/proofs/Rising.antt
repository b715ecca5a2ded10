-- Reservations rise by passes, one hop each: by the longest chain that begins with the hop.
use Rattle.std.proofs.Common.{◌≡◌, ℕ, zero, suc, ◌+◌, ◌<◌, ◌≤◌, List, [], ◌∷◌, length, Bool, Some, inl, ⊎_elim, arith, sym, refl, ap, subst, ◌∙◌, drop}
use Rattle.std.specs.Prelude.{slice_get, map as each}
use Rattle.std.specs.List.{remove}
use Rattle.rsvp_base.specs.declared.part.Part.{Part}
use Rattle.rsvp_base.specs.declared.session.Session.{Session}
use Rattle.rsvp_base.specs.declared.style.StyleKind.{StyleKind}
use Rattle.rsvp_base.specs.declared.session.Sender.{Sender}
use Rattle.rsvp_base.specs.declared.style.Unit.{Unit as UnitOf}
use Rattle.rsvp_base.specs.declared.style.Unit.TheVariants.{One}
use Rattle.rsvp_base.specs.Members.{In}
use Rattle.rsvp_base.specs.Table.{get}
use Rattle.rsvp_base.specs.TokenBucket.{TokenBucket}
use Rattle.rsvp_base.proofs.Members.{in_append, in_each, to_each}
use Rattle.rsvp_messages.specs.declared.ask.Ask.{Ask}
use Rattle.rsvp_messages.specs.declared.ask.Ask.TheVariants as ask
use Rattle.rsvp_messages.specs.Proper.{IsProperAsk}
use Rattle.rsvp_messages.specs.Units.{AskedUnit, ask_style, asked_units, fixed_unit}
use Rattle.style_rules.specs.Merge.{PartTable}
use Rattle.router_rules.specs.Facts.{Facts, ResvState, resvs_of}
use Rattle.router_rules.specs.Requests.{toward}
use Rattle.tree_model.specs.declared.hops.LinkHop.{LinkHop}
use Rattle.tree_model.specs.Goals.{addr_of}
use Rattle.tree_model.specs.Networks.{Net, iface_of, node_of}
use Rattle.tree_model.specs.Ranks.{longest, rank}
use Rattle.tree_model.specs.Trees.{hops_of}
use Rattle.tree_model.specs.Wants.{Locals, want}
use Rattle.tree_model.proofs.Ifaces.{interfaces_are_ends}
use Rattle.tree_model.proofs.RankLaws.{rank_falls, rank_some}
use Rattle.network_model.specs.Bounds.{IsProperArrival}
use Rattle.network_model.specs.Events.{pass, passes}
use Rattle.network_model.specs.Locals.{locals_of}
use Rattle.network_model.specs.Steps.{Deliver, outcome, sent, step}
use Rattle.network_model.specs.Worlds.{Item, World, config_of}
use Rattle.network_model.proofs.Machines.{in_flight_after, in_rest}
use Rattle.network_model.proofs.Stepping.{facts_after_made}
use Rattle.laws_network.specs.Known.{IsSameNet}
use Rattle.laws_network.proofs.Known.{node_there, of_some}
use Rattle.laws_network.proofs.Standing.{same_end}
use Rattle.settle_paths.proofs.PreviousHops.{ends_there, same_by_addr}
use Rattle.settle_resvs.specs.Said.{HopKey, hop_over, lane_of, resv_key}
use Rattle.settle_resvs.specs.SoftResvs.{line_key_of}
use Rattle.settle_resvs.proofs.ExactResvs.{IsSteady, toward_at}
use Rattle.settle_resvs.proofs.SoftResvs.{resv_found}
use Rattle.settle_passes.specs.Passes.{after_passes}
use Rattle.settle_passes.specs.Reserving.{AllAsk, AreExactUpTo, HasReserved, IsAskedLast, IsKeptOver, IsLetter, IsReserving}
use Rattle.settle_passes.proofs.Deliveries.{known_self, same_next}
use Rattle.settle_passes.proofs.Reserving.{ready, reserving_next, some_asks, turns}
use Rattle.settle_passes.proofs.Spreading.{after_deliveries, run_then}
use Rattle.settle_passes.proofs.Tearing.{drop_or, no_rest, tail_drop}
use Rattle.settle_passes.proofs.Turns.{none_sent}

-- a proper Resv asks for something
some_unit : (a : Ask) → IsProperAsk a → (v : AskedUnit) × In v (asked_units a)
some_unit (ask.Wild scope flow) h = (record { unit = One; names = scope; flow = flow }, inl refl)
some_unit (ask.Shared part) h = (record { unit = One; names = Some part.senders; flow = part.flow }, inl refl)
some_unit (ask.Fixed list) h = by list.rows refl h.some
  where
    by : (rows : List (Sender × TokenBucket)) → list.rows ≡ rows → 0 < length list.rows → (v : AskedUnit) × In v (asked_units (ask.Fixed list))
    by [] e lt = let none = ap length e in absurd (omega (arith, none, lt))
    by (x ∷ xs) e lt = (fixed_unit x, to_each fixed_unit x list.rows (subst (λ (z : List (Sender × TokenBucket)). In x z) (sym e) (inl refl)))

-- no letter for a part that is wanted over a hop from which no chain is longer
abbrev pub IsQuietOn : Session → Net → Locals → ℕ → Item → Type 0
IsQuietOn s net l j y =
    (k : HopKey) (v : Part) → k.session ≡ s → In (hop_over k) (hops_of net.hops k.session.group) → rank net k.session.group (hop_over k) ≤ j
    → get (want k.style net l k.session (hop_over k)) k.unit ≡ Some v → IsLetter net k v y → ⊥

module _ (q : ℕ) (s : Session) where
  abbrev Quiet : ℕ → World → Item → Type 0
  Quiet j u y = IsQuietOn s u.net (locals_of u) j y

  less_quiet : (i j : ℕ) → i ≤ j → (u : World) (y : Item) → Quiet j u y → Quiet i u y
  less_quiet i j le u y c k v of there near wanted l = c k v of there (omega (arith, le, near)) wanted l

  steady : (u : World) → IsReserving q s u → IsSteady q s u
  steady u r = record { ready = ready q s u r; free = r.free; addressed = λ y m i born spelt. r.addressed y m i spelt }

  -- ---- where nothing is on its way over hops of low ranks, what stands behind them is what is wanted
  exact_where_quiet : (u : World) → IsReserving q s u → (j : ℕ) → ((y : Item) → In y u.flight → Quiet j u y) → AreExactUpTo s j u
  exact_where_quiet u r zero quiet st h there near = let some = rank_some u.net r.paths.bounds.net.loop_free s.group h there in absurd (omega (arith, some, near))
  exact_where_quiet u r (suc j) quiet st h there near =
      let valid = r.paths.bounds.net in
      let inside = ends_there u.net valid s.group h there in
      let f = node_there q u valid u h.from (known_self q u r.paths.bounds) inside.0 in
      let low = exact_where_quiet u r j (λ y i. less_quiet j (suc j) (omega arith) u y (quiet y i)) in
      let kept = wanted_stands u r j quiet low st h there near f.0 f.1 in
      record { facts = f.0; node = f.1; wanted = kept; stands = held u r st h there f.0 f.1 kept }
    where
      wanted_stands : (u : World) (r : IsReserving q s u) (j : ℕ) → ((y : Item) → In y u.flight → Quiet (suc j) u y) → AreExactUpTo s j u
          → (st : StyleKind) (h : LinkHop) → In h (hops_of u.net.hops s.group) → rank u.net s.group h ≤ suc j → (f : Facts) → slice_get u.nodes (node_of u.net.ends h.from) ≡ Some f
          → (un : UnitOf) (p : Part) → get (want st u.net (locals_of u) s h) un ≡ Some p
          → (x : ResvState) × (get (resvs_of st f) (s, ((iface_of u.net.ends h.from, addr_of u.net h.to), un)) ≡ Some x) × (x.part ≡ p)
      wanted_stands u r j quiet low st h there near f at un p e =
          let k : HopKey = record { session = s; style = st; unit = un; from = h.to; to = h.from } in
          let inside = ends_there u.net r.paths.bounds.net s.group h there in
          let g = node_there q u r.paths.bounds.net u h.to (known_self q u r.paths.bounds) inside.1 in
          let goes : toward (config_of q u.net u.trees (node_of u.net.ends h.to)) g.0 (lane_of u.net k) ≡ want st u.net (locals_of u) s h =
          toward_at q s j u (steady u r) low (node_of u.net.ends h.to) g.0 g.1 (lane_of u.net k) refl h (record { there = there; node = refl; iface = refl; addr = refl }) near in
          ⊎_elim
          (λ (c : IsKeptOver u k p × AllAsk u.net k p u.flight).
          let x = resv_found u (node_of u.net.ends h.from) st (line_key_of u.net (resv_key u.net k)) c.0.resv c.0.there in
          let same : x.0 ≡ f = of_some x.0 f (sym x.1 ∙ at) in
          (c.0.resv, ap (λ (z : Facts). get (resvs_of st z) (s, ((iface_of u.net.ends h.from, addr_of u.net h.to), un))) (sym same) ∙ x.2, c.0.is))
          (λ (last : IsAskedLast u.net k p u.flight).
          let y = some_asks u.net k p u.flight last in
          absurd (quiet y.0 y.1 k p refl there near e
          (inl (y.2.resv, y.2.spelt, record { end = y.2.end; session = y.2.session; from = y.2.hop; style = y.2.style }))))
          (r.asked k p g.0 refl there g.1 (ap (λ (z : PartTable). get z un) goes ∙ e))

      held : (u : World) (r : IsReserving q s u) (st : StyleKind) (h : LinkHop) → In h (hops_of u.net.hops s.group) → (f : Facts) → slice_get u.nodes (node_of u.net.ends h.from) ≡ Some f
          → ((un : UnitOf) (p : Part) → get (want st u.net (locals_of u) s h) un ≡ Some p
          → (x : ResvState) × (get (resvs_of st f) (s, ((iface_of u.net.ends h.from, addr_of u.net h.to), un)) ≡ Some x) × (x.part ≡ p))
          → (un : UnitOf) (x : ResvState) → get (resvs_of st f) (s, ((iface_of u.net.ends h.from, addr_of u.net h.to), un)) ≡ Some x → get (want st u.net (locals_of u) s h) un ≡ Some x.part
      held u r st h there f at kept un x e =
          let valid = r.paths.bounds.net in
          let d = r.sound.facts st (node_of u.net.ends h.from) f (s, ((iface_of u.net.ends h.from, addr_of u.net h.to), un)) x at e in
          let inside = ends_there u.net valid s.group h there in
          let theirs = ends_there u.net valid s.group d.sound.hop d.sound.there in
          let of = (interfaces_are_ends u.net).iface_of_end (node_of u.net.ends h.from) (iface_of u.net.ends h.from) d.end d.at in
          let from : d.sound.hop.from ≡ h.from = d.sound.from ∙ same_end u.net d.end h.from of.0 inside.0 of.1 of.2 in
          let to : d.sound.hop.to ≡ h.to = same_by_addr u.net valid d.sound.hop.to h.to theirs.1 inside.1 d.sound.to in
          let same : d.sound.hop ≡ h = (λ j. record { from = from j; to = to j }) in
          let wanted : get (want st u.net (locals_of u) s h) un ≡ Some d.sound.wanted = ap (λ (z : LinkHop). get (want st u.net (locals_of u) s z) un) (sym same) ∙ d.sound.is in
          let y = kept un d.sound.wanted wanted in
          let one : x ≡ y.0 = of_some x y.0 (sym e ∙ y.1) in
          wanted ∙ ap Some (sym (ap (λ (z : ResvState). z.part) one ∙ y.2))

  -- ---- one delivery
  go_on : (u : World) → IsReserving q s u → IsReserving q s (step q (Deliver 0) u)
  go_on u r = reserving_next q s u r

  same_on : (o u : World) → IsReserving q s u → IsSameNet o u → IsSameNet o (step q (Deliver 0) u)
  same_on o u r same = same_next q 0 u r.paths.bounds o same

  -- what it sends is quiet one rank higher than what is in flight
  new_quiet : (u : World) (r : IsReserving q s u) (j : ℕ) → ((y : Item) → In y u.flight → Quiet j u y) → (i : ℕ) → i ≤ suc j → (y : Item) (b : Bool) → In (y, b) (sent q (Deliver 0) u) → Quiet i u y
  new_quiet u r j quiet zero le y b new k v of there near wanted l = let some = rank_some u.net r.paths.bounds.net.loop_free k.session.group (hop_over k) there in absurd (omega (arith, some, near))
  new_quiet u r j quiet (suc i) le y b new k v of there near wanted l =
      let next : World = step q (Deliver 0) u in
      let r' = go_on u r in
      let locals : locals_of next ≡ locals_of u = (same_on u u r (known_self q u r.paths.bounds).same).locals in
      let low = exact_where_quiet u r i (λ z m. less_quiet i j (omega (arith, le)) u z (quiet z m)) in
      let low' : AreExactUpTo s i next =
      exact_where_quiet next r' i
      (λ z m. subst (λ (x : Locals). IsQuietOn s u.net x i z) (sym locals)
      (⊎_elim (λ (old : In z u.flight). less_quiet i j (omega (arith, le)) u z (quiet z old))
      (λ (more : (c : Bool) × In (z, c) (sent q (Deliver 0) u)). new_quiet u r j quiet i (omega (arith, le)) z more.0 more.1)
      (in_flight_after q (Deliver 0) u z refl m))) in
      let n : ℕ = node_of u.net.ends k.from in
      let inside = ends_there u.net r.paths.bounds.net k.session.group (hop_over k) there in
      let f = node_there q u r.paths.bounds.net u k.from (known_self q u r.paths.bounds) inside.1 in
      let g : Facts = (outcome q (Deliver 0) u n f.0).facts in
      let before : toward (config_of q u.net u.trees n) f.0 (lane_of u.net k) ≡ want k.style u.net (locals_of u) k.session (hop_over k) =
      toward_at q s i u (steady u r) low n f.0 f.1 (lane_of u.net k) of (hop_over k) (record { there = there; node = refl; iface = refl; addr = refl }) near in
      let after : toward (config_of q u.net u.trees n) g (lane_of u.net k) ≡ want k.style u.net (locals_of next) k.session (hop_over k) =
      toward_at q s i next (steady next r') low' n g (facts_after_made q (Deliver 0) u n f.0 f.1) (lane_of u.net k) of (hop_over k)
      (record { there = there; node = refl; iface = refl; addr = refl }) near in
      none_sent q (Deliver 0) u r.paths.bounds (turns q s u r) r'.paths.bounds r'.paths.sound k there f.0 f.1
      (before ∙ ap (λ (z : Locals). want k.style u.net z k.session (hop_over k)) (sym locals) ∙ sym after) v y b new l

  -- ---- a pass: what was in flight at its beginning is not any more
  abbrev After : ℕ → World → World
  After m u = after_deliveries q m u

  reserving_on : (m : ℕ) (u : World) → IsReserving q s u → IsReserving q s (After m u)
  reserving_on zero u r = r
  reserving_on (suc m) u r = reserving_on m (step q (Deliver 0) u) (go_on u r)

  same_after : (m : ℕ) (o u : World) → IsReserving q s u → IsSameNet o u → IsSameNet o (After m u)
  same_after zero o u r same = same
  same_after (suc m) o u r same = same_after m o (step q (Deliver 0) u) (go_on u r) (same_on o u r same)

  quiet_on : (j : ℕ) (o : World) (m : ℕ) (u : World) → IsReserving q s u → IsSameNet o u → ((y : Item) → In y u.flight → Quiet j o y) → ((y : Item) → In y (drop m u.flight) → Quiet (suc j) o y)
      → (y : Item) → In y (After m u).flight → Quiet (suc j) o y
  quiet_on j o zero u r same all late y i = late y i
  quiet_on j o (suc m) u r same all late y i =
      let more : List Item = each (λ (x : Item × Bool). x.0) (sent q (Deliver 0) u) in
      let both : ◌≡◌ {A = Net × Locals} (u.net, locals_of u) (o.net, locals_of o) = (λ i. (same.net i, same.locals i)) in
      let here : (z : Item) → In z u.flight → Quiet j u z = (λ z x. subst (λ (w : Net × Locals). IsQuietOn s w.0 w.1 j z) (sym both) (all z x)) in
      let new : (z : Item) → In z more → Quiet (suc j) o z =
      (λ z x.
      let d = in_each (λ (w : Item × Bool). w.0) z (sent q (Deliver 0) u) x in
      subst (λ (w : Net × Locals). IsQuietOn s w.0 w.1 (suc j) z) both
      (new_quiet u r j here (suc j) (omega arith) z d.0.1 (subst (λ (w : Item). In (w, d.0.1) (sent q (Deliver 0) u)) (sym d.2) d.1))) in
      quiet_on j o m (step q (Deliver 0) u) (go_on u r) (same_on o u r same)
      (λ z x. ⊎_elim (λ (old : In z (remove u.flight 0)). all z (in_rest (Deliver 0) u z refl old)) (λ (n : In z more). less_quiet j (suc j) (omega arith) o z (new z n))
      (in_append z (remove u.flight 0) more x))
      (λ z x. ⊎_elim (λ (old : In z (drop m (remove u.flight 0))). late z (tail_drop z m u.flight old)) (λ (n : In z more). new z n) (drop_or z m (remove u.flight 0) more x)) y i

  -- ---- passes, one after the other
  passes_on : (n j : ℕ) (u : World) → IsReserving q s u → ((y : Item) → In y u.flight → Quiet j u y)
      → IsReserving q s (after_passes q n u) × ((y : Item) → In y (after_passes q n u).flight → Quiet (j + n) (after_passes q n u) y) × IsSameNet u (after_passes q n u)
  passes_on zero j u r quiet = let sum : j ≡ j + zero = omega arith in (r, λ y i. subst (λ (z : ℕ). Quiet z u y) sum (quiet y i), (known_self q u r.paths.bounds).same)
  passes_on (suc n) j u r quiet =
      let m : ℕ = length u.flight in
      let v : World = After m u in
      let r' = reserving_on m u r in
      let same = same_after m u u r (known_self q u r.paths.bounds).same in
      let both : ◌≡◌ {A = Net × Locals} (u.net, locals_of u) (v.net, locals_of v) = (λ i. (sym same.net i, sym same.locals i)) in
      let up : (y : Item) → In y v.flight → Quiet (suc j) v y =
      (λ y i. subst (λ (w : Net × Locals). IsQuietOn s w.0 w.1 (suc j) y) both
      (quiet_on j u m u r (known_self q u r.paths.bounds).same quiet (λ z x. absurd (no_rest z u.flight x)) y i)) in
      let d = passes_on n (suc j) v r' up in
      let is : after_passes q (suc n) u ≡ after_passes q n v = run_then q (pass q u) (passes q n v) u in
      let sum : suc j + n ≡ j + suc n = omega arith in
      subst (λ (w : World). IsReserving q s w × ((y : Item) → In y w.flight → Quiet (j + suc n) w y) × IsSameNet u w) (sym is) (
        d.0,
        λ y i. subst (λ (z : ℕ). Quiet z (after_passes q n v) y) sum (d.1 y i),
        record {
          net = d.2.net ∙ same.net;
          trees = d.2.trees ∙ same.trees;
          senders = λ x. d.2.senders x ∙ same.senders x;
          advertised = λ x. d.2.advertised x ∙ same.advertised x;
          locals = d.2.locals ∙ same.locals;
        },
      )

  nothing_low : (u : World) → IsReserving q s u → (y : Item) → In y u.flight → Quiet 0 u y
  nothing_low u r y i k v of there near wanted l = let some = rank_some u.net r.paths.bounds.net.loop_free k.session.group (hop_over k) there in absurd (omega (arith, some, near))

  pub rise : (n : ℕ) (w : World) → IsReserving q s w
      → IsReserving q s (after_passes q n w) × ((y : Item) → In y (after_passes q n w).flight → Quiet n (after_passes q n w) y) × IsSameNet w (after_passes q n w)
  rise n w r =
      let d = passes_on n 0 w r (nothing_low w r) in
      let sum : 0 + n ≡ n = omega arith in
      (d.0, λ y i. subst (λ (z : ℕ). Quiet z (after_passes q n w) y) sum (d.1 y i), d.2)

  pub reservations_rise_one_hop_a_pass : (n : ℕ) (w : World) → IsReserving q s w → IsReserving q s (after_passes q n w) × AreExactUpTo s n (after_passes q n w)
  reservations_rise_one_hop_a_pass n w r = let d = rise n w r in (d.0, exact_where_quiet (after_passes q n w) d.0 n d.1)

  pub reservations_are_set_up : (w : World) → IsReserving q s w → HasReserved s (after_passes q (longest w.net) w)
  reservations_are_set_up w r =
      let u : World = after_passes q (longest w.net) w in
      let d = rise (longest w.net) w r in
      let long : longest u.net ≡ longest w.net = ap longest d.2.net in
      let ranks = rank_falls u.net d.0.paths.bounds.net.loop_free in
      record {
        exact = λ st h there. let most = ranks.hops s.group h there in exact_where_quiet u d.0 (longest w.net) d.1 st h there (omega (arith, most.1, long));
        no_resv = λ y m i spelt of.
            let v = some_unit m.ask (subst IsProperArrival spelt (d.0.paths.bounds.flight y i).proper) in
            let x = d.0.sound.items y m v.0 i spelt v.1 in
            let k : HopKey = record { session = m.session; style = ask_style m.ask; unit = v.0.unit; from = x.sound.hop.to; to = x.sound.hop.from } in
            let most = ranks.hops m.session.group x.sound.hop x.sound.there in
            d.1 y i k x.sound.wanted of x.sound.there (omega (arith, most.1, long)) x.sound.is (inl (m, spelt, record { end = sym x.sound.from; session = refl; from = sym x.sound.to; style = refl }));
      }
