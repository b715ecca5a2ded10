-- Reservations sink to what is wanted, pass by pass, where what is kept is within what was wanted before and each node has asked for what goes from it:
-- nothing is on its way any more over hops from which no chain is longer than the passes.
use Rattle.std.proofs.Common.{◌≡◌, ℕ, zero, suc, ◌+◌, ◌<◌, ◌≤◌, List, [], ◌∷◌, length, Bool, Some, inl, ⊎_elim, arith, sym, refl, ap, subst, ◌∙◌, drop, None, true, Option, ◌⊎◌}
use Rattle.std.specs.Prelude.{slice_get, map as each, not}
use Rattle.std.specs.List.{remove}
use Rattle.rsvp_base.specs.declared.session.Sender.{Sender}
use Rattle.rsvp_base.specs.declared.part.Part.{Part}
use Rattle.rsvp_base.specs.declared.session.Session.{Session}
use Rattle.rsvp_base.specs.declared.style.StyleKind.{StyleKind}
use Rattle.rsvp_base.specs.declared.style.Unit.{Unit as UnitOf}
use Rattle.rsvp_base.specs.Members.{In}
use Rattle.rsvp_base.specs.Table.{get, has}
use Rattle.rsvp_base.proofs.Members.{in_append, in_each}
use Rattle.rsvp_messages.specs.Units.{ask_style}
use Rattle.style_rules.specs.Merge.{PartTable}
use Rattle.style_rules.specs.CutLaws.{name_some}
use Rattle.style_rules.specs.PartLaws.{part_at_most_itself, part_at_most_tested, part_at_most_told}
use Rattle.style_rules.specs.Lines.{LineKey}
use Rattle.router_rules.specs.Facts.{Facts, ResvState, resvs_of}
use Rattle.router_rules.specs.Requests.{toward}
use Rattle.router_rules.specs.Known.{Lane}
use Rattle.tree_model.specs.Wants.{Locals, names, want}
use Rattle.tree_model.specs.declared.hops.LinkHop.{LinkHop}
use Rattle.tree_model.specs.Goals.{addr_of}
use Rattle.tree_model.specs.Networks.{Net, iface_of, node_of, end_at}
use Rattle.tree_model.specs.Ranks.{longest, rank}
use Rattle.tree_model.specs.Trees.{hops_of}
use Rattle.tree_model.proofs.Ifaces.{interfaces_are_ends}
use Rattle.tree_model.proofs.RankLaws.{rank_falls, rank_some, rank_falls_at}
use Rattle.tree_model.proofs.WantLaws.{want_names}
use Rattle.tree_model.proofs.Following.{follower_of_group}
use Rattle.network_model.specs.Steps.{Deliver, outcome, sent, step, still}
use Rattle.network_model.specs.Bounds.{IsProperArrival}
use Rattle.network_model.specs.Events.{pass, passes}
use Rattle.network_model.specs.Locals.{locals_of}
use Rattle.network_model.specs.Worlds.{Item, World, config_of}
use Rattle.network_model.proofs.Machines.{in_flight_after, in_rest}
use Rattle.network_model.proofs.Stepping.{facts_after_made}
use Rattle.network_model.specs.Sound.{IsExact, IsSoundResv}
use Rattle.laws_network.specs.Known.{IsSameNet}
use Rattle.laws_network.proofs.Known.{node_there, of_some}
use Rattle.settle_paths.proofs.PreviousHops.{ends_there}
use Rattle.settle_paths.specs.PreviousHops.{IsPrevious}
use Rattle.settle_resvs.specs.Sessions.{HasNoBlockade, AreExactOf, IsFreeOfBlockadesOf}
use Rattle.settle_resvs.specs.Said.{HopKey, hop_over, lane_of, resv_key}
use Rattle.settle_resvs.specs.SoftResvs.{line_key_of}
use Rattle.settle_resvs.proofs.SoftResvs.{resv_found}
use Rattle.settle_resvs.proofs.TowardIsTheWant.{toward_is_the_want}
use Rattle.settle_passes.proofs.Turns.{Turns, none_sent}
use Rattle.settle_passes.specs.Reserving.{AreAskedFor, AllAsk, AreExactUpTo, HasReserved, IsAskedLast, IsKeptOver, IsLetter}
use Rattle.settle_passes.specs.Calls.{HasItsPaths}
use Rattle.settle_passes.specs.Passes.{after_passes}
use Rattle.settle_passes.proofs.Deliveries.{known_self, same_next}
use Rattle.settle_passes.proofs.Fitting.{as_before}
use Rattle.settle_passes.proofs.Spreading.{after_deliveries, run_then}
use Rattle.settle_passes.proofs.Tearing.{drop_or, no_rest, tail_drop}
use Rattle.settle_passes.proofs.Reserving.{some_asks}
use Rattle.settle_releases.proofs.Accepting.{AreResvsWithin, some_unit}

-- no letter over a hop from which no chain is longer
abbrev pub IsStillOver : Session → Net → ℕ → Item → Type 0
IsStillOver s net j y =
    (k : HopKey) (v : Part) → k.session ≡ s → In (hop_over k) (hops_of net.hops k.session.group) → rank net k.session.group (hop_over k) ≤ j → IsLetter net k v y → ⊥

-- ---- a network in which what is kept is within what was wanted before, each node has asked for what goes from it, and what is left over is asked for
-- no more: its names are those that the hop has now, and where nothing is wanted any more a letter is on its way
pub record IsSinking (q : ℕ) (s : Session) (before : List Facts) (u : World) : Type 0 where
  pub paths : HasItsPaths q u
  pub within : AreResvsWithin before u
  pub free : IsFreeOfBlockadesOf s u
  pub asked : AreAskedFor q s u
  pub turns : (n : ℕ) (f : Facts) → slice_get u.nodes n ≡ Some f → (outcome q (Deliver 0) u n f ≡ still f) ⊎ Turns q (Deliver 0) u n f
  pub named : (st : StyleKind) (n : ℕ) (f : Facts) (k : LineKey) (r : ResvState) (h : LinkHop) (x : Sender) → slice_get u.nodes n ≡ Some f → get (resvs_of st f) k ≡ Some r
      → has r.part.senders x ≡ true → has (names st u.net (locals_of (as_before before u)) k.0 (h ∷ [])) x ≡ true → has (names st u.net (locals_of u) k.0 (h ∷ [])) x ≡ true
  pub left_over : (st : StyleKind) (h : LinkHop) (un : UnitOf) (f g : Facts) (r : ResvState) → In h (hops_of u.net.hops s.group) → slice_get u.nodes (node_of u.net.ends h.from) ≡ Some f
      → get (resvs_of st f) (s, ((iface_of u.net.ends h.from, addr_of u.net h.to), un)) ≡ Some r → slice_get u.nodes (node_of u.net.ends h.to) ≡ Some g
      → get (toward (config_of q u.net u.trees (node_of u.net.ends h.to)) g (lane_of u.net (record { session = s; style = st; unit = un; from = h.to; to = h.from }))) un ≡ None
      → get (want st u.net (locals_of u) s h) un ≡ None
      → (y : Item) × In y u.flight × (v : Part) × IsLetter u.net (record { session = s; style = st; unit = un; from = h.to; to = h.from }) v y

module _ (q : ℕ) (s : Session) (before : List Facts) (P : World → Type 0) (sinks : (u : World) → P u → IsSinking q s before u) (go : (u : World) → P u → P (step q (Deliver 0) u)) where
  abbrev Still : ℕ → World → Item → Type 0
  Still j u y = IsStillOver s u.net j y

  less_still : (i j : ℕ) → i ≤ j → (u : World) (y : Item) → Still j u y → Still i u y
  less_still i j le u y c k v of there near l = c k v of there (omega (arith, le, near)) l

  -- ---- a reservation over a hop where all is exact is sound by what is wanted now
  sound_where_exact : (u : World) → P u → (st : StyleKind) (n : ℕ) (f : Facts) (k : LineKey) (r : ResvState)
      → slice_get u.nodes n ≡ Some f → get (resvs_of st f) k ≡ Some r → k.0 ≡ s
      → (h : LinkHop) → In h (hops_of u.net.hops k.0.group) → node_of u.net.ends h.from ≡ n → iface_of u.net.ends h.from ≡ k.1.0.0 → addr_of u.net h.to ≡ k.1.0.1 → IsExact st u s h
      → IsSoundResv st u n k r
  sound_where_exact u r st n f k x at e of h there node iface to exact =
      let inside = ends_there u.net (sinks u r).paths.bounds.net k.0.group h there in
      let old = ((sinks u r).within.facts st n f k x at e).sound in
      let here : exact.facts ≡ f = of_some exact.facts f (sym exact.node ∙ ap (λ (z : ℕ). slice_get u.nodes z) node ∙ at) in
      let stands : get (resvs_of st exact.facts) (s, ((iface_of u.net.ends h.from, addr_of u.net h.to), k.1.1)) ≡ Some x = (λ j. get (resvs_of st (here j)) (sym of j, ((iface j, to j), k.1.1))) ∙ e in
      let wanted : get (want st u.net (locals_of u) k.0 h) k.1.1 ≡ Some x.part = ap (λ (z : Session). get (want st u.net (locals_of u) z h) k.1.1) of ∙ exact.stands k.1.1 x stands in
      record {
        end = h.from;
        at = (λ j. end_at u.net.ends (sym node j) (sym iface j)) ∙ (interfaces_are_ends u.net).end_of_iface h.from inside.0;
        sound = record {
          some = old.some;
          hop = h;
          there = there;
          from = refl;
          to = to;
          wanted = x.part;
          is = wanted;
          below = part_at_most_tested x.part x.part (part_at_most_itself x.part);
        };
      }

  -- ---- so what goes toward a previous hop is what is wanted over its hop, where all is exact behind it
  toward_at : (j : ℕ) (u : World) → P u → AreExactUpTo s j u → (n : ℕ) (f : Facts) → slice_get u.nodes n ≡ Some f → (l : Lane) → l.session ≡ s → (h : LinkHop)
      → IsPrevious u.net n l.session l.hop h → rank u.net l.session.group h ≤ suc j
      → toward (config_of q u.net u.trees n) f l ≡ want l.style u.net (locals_of u) l.session h
  toward_at j u r exact n f at l of h is le =
      let bounds = (sinks u r).paths.bounds in
      toward_is_the_want q u bounds (sinks u r).paths.sound (sinks u r).paths.complete n f at l (subst (λ (z : Session). HasNoBlockade z f.walls) (sym of) ((sinks u r).free n f at)) h is
      (record {
        named = λ k x e same.
            let y = (sinks u r).within.facts l.style n f k x at e in
            let at_end = (interfaces_are_ends u.net).iface_of_end n k.1.0.0 y.end y.at in
            let up = part_at_most_told x.part y.sound.wanted y.sound.below in
            record {
              some = ap not (name_some x.part.senders y.sound.some);
              hop = y.sound.hop;
              there = y.sound.there;
              node = ap (node_of u.net.ends) y.sound.from ∙ at_end.1;
              iface = ap (iface_of u.net.ends) y.sound.from ∙ at_end.2;
              to = y.sound.to;
              names = λ z i.
                  (sinks u r).named l.style n f k x y.sound.hop z at e i
                  (want_names l.style u.net (locals_of (as_before before u)) k.0 y.sound.hop k.1.1 y.sound.wanted y.sound.is z (up.names z i));
            };
        sound = λ k x named e same low.
            let mine : k.0 ≡ s = same ∙ of in
            let near : rank u.net s.group named.hop ≤ j = (let lower = subst (λ (z : Session). rank u.net z.group named.hop < rank u.net l.session.group h) of low in omega (arith, lower, le)) in
            sound_where_exact u r l.style n f k x at e mine named.hop named.there named.node named.iface named.to
            (exact l.style named.hop (subst (λ (z : Session). In named.hop (hops_of u.net.hops z.group)) mine named.there) near);
      })
      (λ h' follows i.
      let falls = rank_falls_at u.net bounds.net.loop_free l.session.group h h' follows in
      let near : rank u.net l.session.group h' ≤ j = omega (arith, falls, le) in
      subst (λ (z : Session). IsExact l.style u z h') (sym of)
      (exact l.style h' (subst (λ (z : Session). In h' (hops_of u.net.hops z.group)) of (follower_of_group u.net l.session.group h h' i))
      (subst (λ (z : Session). rank u.net z.group h' ≤ j) of near)))

  -- ---- where nothing is on its way over hops of low ranks, what stands behind them is what is wanted
  exact_where_still : (u : World) → P u → (j : ℕ) → ((y : Item) → In y u.flight → Still j u y) → AreExactUpTo s j u
  exact_where_still u r zero still st h there near = let some = rank_some u.net (sinks u r).paths.bounds.net.loop_free s.group h there in absurd (omega (arith, some, near))
  exact_where_still u r (suc j) still st h there near =
      let valid = (sinks u r).paths.bounds.net in
      let inside = ends_there u.net valid s.group h there in
      let f = node_there q u valid u h.from (known_self q u (sinks u r).paths.bounds) inside.0 in
      let low = exact_where_still u r j (λ y i. less_still j (suc j) (omega arith) u y (still y i)) in
      let kept = wanted_stands u r j still low st h there near f.0 f.1 in
      record { facts = f.0; node = f.1; wanted = kept; stands = held u r j still low st h there near f.0 f.1 kept }
    where
      wanted_stands : (u : World) (r : P u) (j : ℕ) → ((y : Item) → In y u.flight → Still (suc j) u y) → AreExactUpTo s j u
          → (st : StyleKind) (h : LinkHop) → In h (hops_of u.net.hops s.group) → rank u.net s.group h ≤ suc j → (f : Facts) → slice_get u.nodes (node_of u.net.ends h.from) ≡ Some f
          → (un : UnitOf) (p : Part) → get (want st u.net (locals_of u) s h) un ≡ Some p
          → (x : ResvState) × (get (resvs_of st f) (s, ((iface_of u.net.ends h.from, addr_of u.net h.to), un)) ≡ Some x) × (x.part ≡ p)
      wanted_stands u r j still low st h there near f at un p e =
          let k : HopKey = record { session = s; style = st; unit = un; from = h.to; to = h.from } in
          let inside = ends_there u.net (sinks u r).paths.bounds.net s.group h there in
          let g = node_there q u (sinks u r).paths.bounds.net u h.to (known_self q u (sinks u r).paths.bounds) inside.1 in
          let goes : toward (config_of q u.net u.trees (node_of u.net.ends h.to)) g.0 (lane_of u.net k) ≡ want st u.net (locals_of u) s h =
          toward_at j u r low (node_of u.net.ends h.to) g.0 g.1 (lane_of u.net k) refl h (record { there = there; node = refl; iface = refl; addr = refl }) near in
          ⊎_elim
          (λ (c : IsKeptOver u k p × AllAsk u.net k p u.flight).
          let x = resv_found u (node_of u.net.ends h.from) st (line_key_of u.net (resv_key u.net k)) c.0.resv c.0.there in
          let same : x.0 ≡ f = of_some x.0 f (sym x.1 ∙ at) in
          (c.0.resv, ap (λ (z : Facts). get (resvs_of st z) (s, ((iface_of u.net.ends h.from, addr_of u.net h.to), un))) (sym same) ∙ x.2, c.0.is))
          (λ (last : IsAskedLast u.net k p u.flight).
          let y = some_asks u.net k p u.flight last in
          absurd (still y.0 y.1 k p refl there near
          (inl (y.2.resv, y.2.spelt, record { end = y.2.end; session = y.2.session; from = y.2.hop; style = y.2.style }))))
          ((sinks u r).asked k p g.0 refl there g.1 (ap (λ (z : PartTable). get z un) goes ∙ e))

      held : (u : World) (r : P u) (j : ℕ) → ((y : Item) → In y u.flight → Still (suc j) u y) → AreExactUpTo s j u
          → (st : StyleKind) (h : LinkHop) → In h (hops_of u.net.hops s.group) → rank u.net s.group h ≤ suc j → (f : Facts) → slice_get u.nodes (node_of u.net.ends h.from) ≡ Some f
          → ((un : UnitOf) (p : Part) → get (want st u.net (locals_of u) s h) un ≡ Some p
          → (x : ResvState) × (get (resvs_of st f) (s, ((iface_of u.net.ends h.from, addr_of u.net h.to), un)) ≡ Some x) × (x.part ≡ p))
          → (un : UnitOf) (x : ResvState) → get (resvs_of st f) (s, ((iface_of u.net.ends h.from, addr_of u.net h.to), un)) ≡ Some x → get (want st u.net (locals_of u) s h) un ≡ Some x.part
      held u r j still low st h there near f at kept un x e = by (get (want st u.net (locals_of u) s h) un) refl
        where
          by : (o : Option Part) → get (want st u.net (locals_of u) s h) un ≡ o → get (want st u.net (locals_of u) s h) un ≡ Some x.part
          by (Some p) wanted =
              let y = kept un p wanted in
              let one : x ≡ y.0 = of_some x y.0 (sym e ∙ y.1) in
              wanted ∙ ap Some (sym (ap (λ (z : ResvState). z.part) one ∙ y.2))
          by None wanted =
              let k : HopKey = record { session = s; style = st; unit = un; from = h.to; to = h.from } in
              let inside = ends_there u.net (sinks u r).paths.bounds.net s.group h there in
              let g = node_there q u (sinks u r).paths.bounds.net u h.to (known_self q u (sinks u r).paths.bounds) inside.1 in
              let goes : toward (config_of q u.net u.trees (node_of u.net.ends h.to)) g.0 (lane_of u.net k) ≡ want st u.net (locals_of u) s h =
              toward_at j u r low (node_of u.net.ends h.to) g.0 g.1 (lane_of u.net k) refl h (record { there = there; node = refl; iface = refl; addr = refl }) near in
              let l = (sinks u r).left_over st h un f g.0 x there at e g.1 (ap (λ (z : PartTable). get z un) goes ∙ wanted) wanted in
              absurd (still l.0 l.1 k l.2 refl there near l.3)

  -- ---- one delivery
  same_on : (o u : World) → P u → IsSameNet o u → IsSameNet o (step q (Deliver 0) u)
  same_on o u r same = same_next q 0 u (sinks u r).paths.bounds o same

  -- over hops of ranks up to one higher than those without letters it sends none
  new_still : (u : World) (r : P u) (j : ℕ) → ((y : Item) → In y u.flight → Still j u y) → (i : ℕ) → i ≤ suc j
      → (y : Item) (b : Bool) → In (y, b) (sent q (Deliver 0) u) → Still i u y
  new_still u r j still zero le y b new k v of there near l = let some = rank_some u.net (sinks u r).paths.bounds.net.loop_free k.session.group (hop_over k) there in absurd (omega (arith, some, near))
  new_still u r j still (suc i) le y b new k v of there near l =
      let next : World = step q (Deliver 0) u in
      let r' = go u r in
      let locals : locals_of next ≡ locals_of u = (same_on u u r (known_self q u (sinks u r).paths.bounds).same).locals in
      let low = exact_where_still u r i (λ z m. less_still i j (omega (arith, le)) u z (still z m)) in
      let low' : AreExactUpTo s i next =
      exact_where_still next r' i
      (λ z m.
      ⊎_elim (λ (old : In z u.flight). less_still i j (omega (arith, le)) u z (still z old))
      (λ (more : (c : Bool) × In (z, c) (sent q (Deliver 0) u)). new_still u r j still i (omega (arith, le)) z more.0 more.1)
      (in_flight_after q (Deliver 0) u z refl m)) in
      let n : ℕ = node_of u.net.ends k.from in
      let inside = ends_there u.net (sinks u r).paths.bounds.net k.session.group (hop_over k) there in
      let f = node_there q u (sinks u r).paths.bounds.net u k.from (known_self q u (sinks u r).paths.bounds) inside.1 in
      let g : Facts = (outcome q (Deliver 0) u n f.0).facts in
      let goes : toward (config_of q u.net u.trees n) f.0 (lane_of u.net k) ≡ want k.style u.net (locals_of u) k.session (hop_over k) =
      toward_at i u r low n f.0 f.1 (lane_of u.net k) of (hop_over k) (record { there = there; node = refl; iface = refl; addr = refl }) near in
      let after : toward (config_of q u.net u.trees n) g (lane_of u.net k) ≡ want k.style u.net (locals_of next) k.session (hop_over k) =
      toward_at i next r' low' n g (facts_after_made q (Deliver 0) u n f.0 f.1) (lane_of u.net k) of (hop_over k)
      (record { there = there; node = refl; iface = refl; addr = refl }) near in
      none_sent q (Deliver 0) u (sinks u r).paths.bounds ((sinks u r).turns) (sinks next r').paths.bounds (sinks next r').paths.sound k there f.0 f.1
      (goes ∙ ap (λ (z : Locals). want k.style u.net z k.session (hop_over k)) (sym locals) ∙ sym after) v y b new l

  -- ---- a pass: what was in flight at its beginning is not any more
  abbrev After : ℕ → World → World
  After m u = after_deliveries q m u

  sinking_on : (m : ℕ) (u : World) → P u → P (After m u)
  sinking_on zero u r = r
  sinking_on (suc m) u r = sinking_on m (step q (Deliver 0) u) (go u r)

  same_after : (m : ℕ) (o u : World) → P u → IsSameNet o u → IsSameNet o (After m u)
  same_after zero o u r same = same
  same_after (suc m) o u r same = same_after m o (step q (Deliver 0) u) (go u r) (same_on o u r same)

  still_on : (j : ℕ) (o : World) (m : ℕ) (u : World) → P u → IsSameNet o u → ((y : Item) → In y u.flight → Still j o y) → ((y : Item) → In y (drop m u.flight) → Still (suc j) o y)
      → (y : Item) → In y (After m u).flight → Still (suc j) o y
  still_on j o zero u r same all late y i = late y i
  still_on j o (suc m) u r same all late y i =
      let more : List Item = each (λ (x : Item × Bool). x.0) (sent q (Deliver 0) u) in
      let here : (z : Item) → In z u.flight → Still j u z = (λ z x. subst (λ (w : Net). IsStillOver s w j z) (sym same.net) (all z x)) in
      let new : (z : Item) → In z more → Still (suc j) o z =
      (λ z x.
      let d = in_each (λ (w : Item × Bool). w.0) z (sent q (Deliver 0) u) x in
      subst (λ (w : Net). IsStillOver s w (suc j) z) same.net
      (new_still u r j here (suc j) (omega arith) z d.0.1 (subst (λ (w : Item). In (w, d.0.1) (sent q (Deliver 0) u)) (sym d.2) d.1))) in
      still_on j o m (step q (Deliver 0) u) (go u r) (same_on o u r same)
      (λ z x. ⊎_elim (λ (old : In z (remove u.flight 0)). all z (in_rest (Deliver 0) u z refl old)) (λ (n : In z more). less_still j (suc j) (omega arith) o z (new z n))
      (in_append z (remove u.flight 0) more x))
      (λ z x. ⊎_elim (λ (old : In z (drop m (remove u.flight 0))). late z (tail_drop z m u.flight old)) (λ (n : In z more). new z n) (drop_or z m (remove u.flight 0) more x)) y i

  -- ---- passes, one after the other
  passes_on : (n j : ℕ) (u : World) → P u → ((y : Item) → In y u.flight → Still j u y)
      → P (after_passes q n u) × ((y : Item) → In y (after_passes q n u).flight → Still (j + n) (after_passes q n u) y) × IsSameNet u (after_passes q n u)
  passes_on zero j u r still = let sum : j ≡ j + zero = omega arith in (r, λ y i. subst (λ (z : ℕ). Still z u y) sum (still y i), (known_self q u (sinks u r).paths.bounds).same)
  passes_on (suc n) j u r still =
      let m : ℕ = length u.flight in
      let v : World = After m u in
      let r' = sinking_on m u r in
      let same = same_after m u u r (known_self q u (sinks u r).paths.bounds).same in
      let up : (y : Item) → In y v.flight → Still (suc j) v y =
      (λ y i. subst (λ (w : Net). IsStillOver s w (suc j) y) (sym same.net)
      (still_on j u m u r (known_self q u (sinks u r).paths.bounds).same still (λ z x. absurd (no_rest z u.flight x)) y i)) in
      let d = passes_on n (suc j) v r' up in
      let is : after_passes q (suc n) u ≡ after_passes q n v = run_then q (pass q u) (passes q n v) u in
      let sum : suc j + n ≡ j + suc n = omega arith in
      subst (λ (w : World). P w × ((y : Item) → In y w.flight → Still (j + suc n) w y) × IsSameNet u w) (sym is) (
        d.0,
        λ y i. subst (λ (z : ℕ). Still z (after_passes q n v) y) sum (d.1 y i),
        record {
          net = d.2.net ∙ same.net;
          trees = d.2.trees ∙ same.trees;
          senders = λ x. d.2.senders x ∙ same.senders x;
          advertised = λ x. d.2.advertised x ∙ same.advertised x;
          locals = d.2.locals ∙ same.locals;
        },
      )

  nothing_low : (u : World) → P u → (y : Item) → In y u.flight → Still 0 u y
  nothing_low u r y i k v of there near l = let some = rank_some u.net (sinks u r).paths.bounds.net.loop_free k.session.group (hop_over k) there in absurd (omega (arith, some, near))

  pub sink : (n : ℕ) (w : World) → P w
      → P (after_passes q n w) × ((y : Item) → In y (after_passes q n w).flight → Still n (after_passes q n w) y) × IsSameNet w (after_passes q n w)
  sink n w r =
      let d = passes_on n 0 w r (nothing_low w r) in
      let sum : 0 + n ≡ n = omega arith in
      (d.0, λ y i. subst (λ (z : ℕ). Still z (after_passes q n w) y) sum (d.1 y i), d.2)

  -- ---- so H passes on they are exactly what is wanted, and no Resv of the session is in flight
  pub reservations_sink : (w : World) → P w
      → P (after_passes q (longest w.net) w) × HasReserved s (after_passes q (longest w.net) w) × IsSameNet w (after_passes q (longest w.net) w)
  reservations_sink w r =
      let u : World = after_passes q (longest w.net) w in
      let d = sink (longest w.net) w r in
      let long : longest u.net ≡ longest w.net = ap longest d.2.net in
      let ranks = rank_falls u.net (sinks u d.0).paths.bounds.net.loop_free in (
        d.0,
        record {
          exact = λ st h there. let most = ranks.hops s.group h there in exact_where_still u d.0 (longest w.net) d.1 st h there (omega (arith, most.1, long));
          no_resv = λ y m i spelt of.
              let v = some_unit m.ask (subst IsProperArrival spelt ((sinks u d.0).paths.bounds.flight y i).proper) in
              let x = (sinks u d.0).within.items y m v.0 i spelt v.1 in
              let k : HopKey = record { session = m.session; style = ask_style m.ask; unit = v.0.unit; from = x.sound.hop.to; to = x.sound.hop.from } in
              let most = ranks.hops m.session.group x.sound.hop x.sound.there in
              d.1 y i k x.sound.wanted of x.sound.there (omega (arith, most.1, long)) (inl (m, spelt, record { end = sym x.sound.from; session = refl; from = sym x.sound.to; style = refl }));
        },
        d.2,
      )

  -- ---- and sound
  pub sound_when_sunk : (u : World) → P u → AreExactOf s u → (st : StyleKind) (n : ℕ) (f : Facts) (k : LineKey) (r : ResvState) → slice_get u.nodes n ≡ Some f
      → get (resvs_of st f) k ≡ Some r → k.0 ≡ s → IsSoundResv st u n k r
  sound_when_sunk u r exact st n f k x at e of =
      let y = (sinks u r).within.facts st n f k x at e in
      let at_end = (interfaces_are_ends u.net).iface_of_end n k.1.0.0 y.end y.at in
      sound_where_exact u r st n f k x at e of y.sound.hop y.sound.there (ap (node_of u.net.ends) y.sound.from ∙ at_end.1) (ap (iface_of u.net.ends) y.sound.from ∙ at_end.2) y.sound.to
      (exact st y.sound.hop (subst (λ (z : Session). In y.sound.hop (hops_of u.net.hops z.group)) of y.sound.there))
