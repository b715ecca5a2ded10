-- Reservations are sound: names first, then by the longest chain that begins with the hop, five rounds each.
use Rattle.std.proofs.Common.{◌≡◌, ℕ, zero, suc, ◌+◌, ◌*◌, ◌<◌, ◌≤◌, List, [], ◌∷◌, length, Bool, true, false, Some, Option, ⊎_elim, arith, sym, refl, ap, subst, ◌∙◌}
use Rattle.std.specs.Prelude.{slice_get, not}
use Rattle.std.specs.Option.{option_map}
use Rattle.rsvp_base.specs.declared.addr.Addr.{Addr}
use Rattle.rsvp_base.specs.declared.part.Part.{Part}
use Rattle.rsvp_base.specs.declared.session.Session.{Session}
use Rattle.rsvp_base.specs.declared.style.StyleKind.{StyleKind}
use Rattle.rsvp_base.specs.declared.style.Unit.{Unit as UnitOf}
use Rattle.rsvp_base.specs.Members.{In}
use Rattle.rsvp_base.specs.Orders.{Names}
use Rattle.rsvp_base.specs.Sets.{IsWithin, is_none}
use Rattle.rsvp_base.specs.Table.{get}
use Rattle.rsvp_base.specs.TokenBucket.{TokenBucket}
use Rattle.rsvp_messages.specs.declared.message.Message.TheVariants as message
use Rattle.rsvp_messages.specs.declared.message.ResvMsg.{ResvMsg}
use Rattle.flow_merge.specs.FlowOrder.{IsAtMost}
use Rattle.style_rules.specs.CutLaws.{some_name}
use Rattle.style_rules.specs.Lines.{LineKey}
use Rattle.style_rules.specs.PartLaws.{part_at_most_told, part_at_most_tested, same_part}
use Rattle.style_rules.specs.Parts.{has_name}
use Rattle.calm_rounds.specs.Rounds.{Rounds}
use Rattle.calm_rounds.specs.Hold.{Hold}
use Rattle.calm_rounds.specs.SoftStates.{SaysOnly, KeepsOnly}
use Rattle.calm_rounds.proofs.Holding.{hold_map, hold_both, hold_all, hold_later, hold_start, hold_stack, hold_keep}
use Rattle.calm_rounds.proofs.Settling.{only_what_is_said_is_kept}
use Rattle.tree_model.specs.Goals.{addr_of}
use Rattle.tree_model.specs.Wants.{Locals, names, want}
use Rattle.router_rules.specs.Facts.{Facts, ResvState, resvs_of}
use Rattle.router_rules.specs.Inputs.{Spelt}
use Rattle.router_rules.specs.Requests.{toward}
use Rattle.laws_bounds.specs.SendLaws.{IsAskedOf}
use Rattle.laws_bounds.proofs.Asks.{units_told}
use Rattle.tree_model.specs.declared.hops.LinkHop.{LinkHop}
use Rattle.tree_model.specs.Networks.{Net, node_of, end_at, iface_of}
use Rattle.tree_model.specs.Ranks.{longest, rank}
use Rattle.tree_model.specs.Trees.{hops_of}
use Rattle.tree_model.specs.Valid.{IsValid}
use Rattle.tree_model.proofs.Ifaces.{interfaces_are_ends}
use Rattle.tree_model.proofs.RankLaws.{rank_falls, rank_some}
use Rattle.network_model.specs.Bounds.{AreBounds}
use Rattle.network_model.specs.Locals.{locals_of}
use Rattle.network_model.specs.Sound.{ArePathsSound, IsSoundPart, IsSoundResv}
use Rattle.network_model.specs.Steps.{Step, is_quiet, sent, step, machine}
use Rattle.network_model.specs.Worlds.{Item, World, config_of}
use Rattle.network_model.proofs.Machines.{quiet_of, time_passes, items_are_numbered, in_flight_after}
use Rattle.laws_network.specs.Known.{IsKnown}
use Rattle.laws_network.proofs.Known.{known_hold}
use Rattle.laws_network.proofs.Standing.{end_of, same_end}
use Rattle.settle_paths.specs.PreviousHops.{IsPrevious}
use Rattle.settle_resvs.specs.Below.{AreSoundBelow}
use Rattle.settle_resvs.specs.SoftResvs.{ResvKey, IsCut, AsksFor, SaysResv, line_key_of, resv_at, kept_of, soft_resv}
use Rattle.settle_paths.proofs.PreviousHops.{ends_there, same_by_addr, via_within}
use Rattle.settle_resvs.proofs.SoftResvs.{resv_made, resv_keeps}
use Rattle.settle_resvs.proofs.ResvSends.{IsResvSent, resv_sent, over_hop}
use Rattle.settle_resvs.proofs.TowardNames.{parts_of_style, toward_names}
use Rattle.settle_resvs.proofs.TowardWants.{toward_is_at_most_the_want}

-- ---- a part that names live senders over a hop from this end to this address, and nobody else
pub record IsNamedBy (st : StyleKind) (net : Net) (l : Locals) (s : Session) (e : ℕ) (next : Addr) (v : Part) : Type 0 where
  pub some : has_name v ≡ true
  pub hop : LinkHop
  pub there : In hop (hops_of net.hops s.group)
  pub from : hop.from ≡ e
  pub to : addr_of net hop.to ≡ next
  pub within : IsWithin v.senders (names st net l s (hop ∷ []))

-- and is sound where no chain from the hop is longer
pub record IsGood (o : World) (r : ℕ) (k : ResvKey) (v : Part) : Type 0 where
  pub named : IsNamedBy k.style o.net (locals_of o) k.session k.to k.next v
  pub sound : rank o.net k.session.group named.hop ≤ r → IsSoundPart k.style o k.session k.to k.next k.unit v

not_false : (b : Bool) → not b ≡ true → b ≡ false
not_false true e = cc
not_false false e = refl

pub good_cut : (o : World) (r : ℕ) (k : ResvKey) (x v : Part) → IsCut x v → IsGood o r k v → IsGood o r k x
good_cut o r k x v c g = record {
  named = record {
    some = c.named;
    hop = g.named.hop;
    there = g.named.there;
    from = g.named.from;
    to = g.named.to;
    within = λ y e. g.named.within y (c.names y e);
  };
  sound = λ le.
      let s = g.sound le in
      let up = part_at_most_told v s.wanted s.below in
      record {
        some = some_name x.senders (not_false (is_none x.senders) c.named);
        hop = s.hop;
        there = s.there;
        from = s.from;
        to = s.to;
        wanted = s.wanted;
        is = s.is;
        below = part_at_most_tested x s.wanted (record { names = λ y e. up.names y (c.names y e); flow = subst (λ (z : TokenBucket). IsAtMost z s.wanted.flow) (sym c.flow) up.flow });
      };
}

-- what is sound in one world is so in another with the same network and locals
pub part_again : (st : StyleKind) (u o : World) (s : Session) (e : ℕ) (next : Addr) (un : UnitOf) (p : Part) → u.net ≡ o.net → locals_of u ≡ locals_of o → IsSoundPart st u s e next un p
    → IsSoundPart st o s e next un p
part_again st u o s e next un p net locals h = record {
  some = h.some;
  hop = h.hop;
  there = subst (λ (z : Net). In h.hop (hops_of z.hops s.group)) net h.there;
  from = h.from;
  to = subst (λ (z : Net). addr_of z h.hop.to ≡ next) net h.to;
  wanted = h.wanted;
  is = subst (λ (z : Net × Locals). get (want st z.0 z.1 s h.hop) un ≡ Some h.wanted) (λ i. (net i, locals i)) h.is;
  below = h.below;
}

-- ---- known worlds with sound paths
pub record IsFirm (q : ℕ) (o u : World) : Type 0 where
  pub known : IsKnown q o u
  pub paths : ArePathsSound u

module _ (q : ℕ) (o : World) (valid : IsValid o.net) where
  abbrev Spot : Type 0
  Spot = (k : ResvKey) × (k.to < length o.net.ends)

  abbrev GoodIn : ℕ → ResvKey → World → Type 0
  GoodIn r k u = KeepsOnly (machine q) (soft_resv q o k) (IsGood o r k) u × SaysOnly (machine q) (soft_resv q o k) (IsGood o r k) 0 u

  abbrev pub Level : ℕ → World → Type 0
  Level r u = (a : Spot) → GoodIn r a.0 u

  -- ---- a reservation of a node is one of a line
  record IsAtEnd (r : ℕ) (u : World) (n : ℕ) (st : StyleKind) (k : LineKey) (x : ResvState) : Type 0 where
    end : ℕ
    at : end_at u.net.ends n k.1.0.0 ≡ Some end
    less : end < length o.net.ends
    node : node_of o.net.ends end ≡ n
    iface : iface_of o.net.ends end ≡ k.1.0.0
    good : IsGood o r (record { session = k.0; style = st; unit = k.1.1; next = k.1.0.1; to = end }) x.part

  at_end : (r : ℕ) (u : World) → IsFirm q o u → Level r u → (n : ℕ) (f : Facts) → slice_get u.nodes n ≡ Some f → (st : StyleKind) (k : LineKey) (x : ResvState) → get (resvs_of st f) k ≡ Some x
      → IsAtEnd r u n st k x
  at_end r u firm level n f there st k x h =
      let e = end_of q u.net u.trees n k.1.0.0 ((firm.known.bounds.facts n f there).shapes.resvs st k x h).iface in
      let at : end_at o.net.ends n k.1.0.0 ≡ Some e.0 = subst (λ (z : Net). end_at z.ends n k.1.0.0 ≡ Some e.0) firm.known.same.net e.1 in
      let of = (interfaces_are_ends o.net).iface_of_end n k.1.0.0 e.0 at in
      let spot : ResvKey = record { session = k.0; style = st; unit = k.1.1; next = k.1.0.1; to = e.0 } in
      let found : resv_at u (node_of o.net.ends e.0) st (line_key_of o.net spot) ≡ Some x =
      ap (λ (z : ℕ). resv_at u z st (line_key_of o.net spot)) of.1 ∙ ap (λ (z : ℕ). resv_at u n st (k.0, ((z, k.1.0.1), k.1.1))) of.2 ∙ resv_made u n st k f there ∙ h in
      record { end = e.0; at = e.1; less = of.0; node = of.1; iface = of.2; good = (level (spot, of.0)).0 x.part x.dies (ap (option_map kept_of) found) }

  -- ---- what a node keeps is sound below a rank
  sound_below : (r : ℕ) (u : World) → IsFirm q o u → Level r u → (n : ℕ) (f : Facts) → slice_get u.nodes n ≡ Some f → (st : StyleKind) (s : Session) (top : ℕ) → top ≤ suc r
      → AreSoundBelow st u n f s top
  sound_below r u firm level n f there st s top le = record {
    named = λ k x h same.
        let a = at_end r u firm level n f there st k x h in
        let g = a.good.named in
        record {
          some = g.some;
          hop = g.hop;
          there = subst (λ (z : Net). In g.hop (hops_of z.hops k.0.group)) back g.there;
          node = subst (λ (z : Net). node_of z.ends g.hop.from ≡ n) back (ap (node_of o.net.ends) g.from ∙ a.node);
          iface = subst (λ (z : Net). iface_of z.ends g.hop.from ≡ k.1.0.0) back (ap (iface_of o.net.ends) g.from ∙ a.iface);
          to = subst (λ (z : Net). addr_of z g.hop.to ≡ k.1.0.1) back g.to;
          names = subst (λ (z : Net × Locals). IsWithin x.part.senders (names st z.0 z.1 k.0 (g.hop ∷ []))) (λ i. (back i, sym firm.known.same.locals i)) g.within;
        };
    sound = λ k x named h same low.
        let a = at_end r u firm level n f there st k x h in
        let g = a.good.named in
        let mine = ends_there o.net valid k.0.group g.hop g.there in
        let other = ends_there o.net valid k.0.group named.hop (subst (λ (z : Net). In named.hop (hops_of z.hops k.0.group)) firm.known.same.net named.there) in
        let node = subst (λ (z : Net). node_of z.ends named.hop.from ≡ n) firm.known.same.net named.node in
        let iface = subst (λ (z : Net). iface_of z.ends named.hop.from ≡ k.1.0.0) firm.known.same.net named.iface in
        let addr = subst (λ (z : Net). addr_of z named.hop.to ≡ k.1.0.1) firm.known.same.net named.to in
        let from : g.hop.from ≡ named.hop.from = g.from ∙ same_end o.net a.end named.hop.from a.less other.0 (a.node ∙ sym node) (a.iface ∙ sym iface) in
        let to : g.hop.to ≡ named.hop.to = same_by_addr o.net valid g.hop.to named.hop.to mine.1 other.1 (g.to ∙ sym addr) in
        let hop : g.hop ≡ named.hop = λ i. record { from = from i; to = to i } in
        let ranks : rank o.net k.0.group g.hop ≡ rank u.net s.group named.hop = (λ i. rank (back i) (same i).group (hop i)) in
        record {
          end = a.end;
          at = a.at;
          sound = part_again st o u k.0 a.end k.1.0.1 k.1.1 x.part back (sym firm.known.same.locals) (a.good.sound (omega (arith, ranks, low, le)));
        };
  }
    where
      back : o.net ≡ u.net
      back = sym firm.known.same.net

  -- ---- what a node sends is named, and sound by what its nodes keep
  module _ (k : ResvKey) (u : World) (firm : IsFirm q o u) (y : Item) (v : Part) (says : SaysResv o.net k y v) (p : IsResvSent q u.net u.trees u y says.resv) where
    pub own : y.dst ≡ addr_of u.net y.end
    own = says.dst ∙ ap (addr_of o.net) (sym says.end) ∙ ap (λ (z : Net). addr_of z y.end) (sym firm.known.same.net)

    pub style : p.lane.style ≡ k.style
    style = sym p.style ∙ says.style

    pub session : p.lane.session ≡ k.session
    session = sym p.session ∙ says.session

    pub over : (h : LinkHop) × IsPrevious u.net p.node p.lane.session p.lane.hop h × (h.from ≡ y.end) × (h.to ≡ p.end)
    over = over_hop q u firm.known.bounds firm.paths y says.resv p own

    pub asked : IsAskedOf (toward (config_of q u.net u.trees p.node) p.facts p.lane) says.unit
    asked =
        (units_told p.lane.style (toward (config_of q u.net u.trees p.node) p.facts p.lane) says.resv.ask says.unit
        (parts_of_style (config_of q u.net u.trees p.node) u.clock p.facts (firm.known.bounds.facts p.node p.facts p.after) p.lane) p.asks).0 says.asks

    pub same : v ≡ asked.part
    same = same_part v asked.part (subst (λ (z : Option Names). AsksFor z v.senders) asked.names says.names) (says.flow ∙ asked.flow)

    pub next : addr_of u.net over.0.to ≡ k.next
    next = ap (addr_of u.net) over.3 ∙ sym p.hop ∙ says.hop

    pub sent_named : IsNamedBy k.style o.net (locals_of o) k.session k.to k.next v
    sent_named =
        let t = toward_names (config_of q u.net u.trees p.node) u.clock p.facts (firm.known.bounds.facts p.node p.facts p.after) p.lane says.unit.unit asked.part asked.there in
        let via = via_within u p.node p.facts firm.known.bounds.net firm.paths p.after p.lane over.0 over.1 in
        let there : IsNamedBy p.lane.style u.net (locals_of u) p.lane.session k.to k.next asked.part =
        record { some = t.0; hop = over.0; there = over.1.there; from = over.2 ∙ says.end; to = next; within = λ x e. via x (t.1 x e) } in
        subst (λ (z : StyleKind × Net × Locals × Session × Part). IsNamedBy z.0 z.1 z.2 z.3 k.to k.next z.4)
        (λ i. (style i, firm.known.same.net i, firm.known.same.locals i, session i, sym same i)) there

    pub sent_sound : (r : ℕ) → Level r u → rank o.net k.session.group over.0 ≤ suc r → IsSoundPart k.style o k.session k.to k.next k.unit v
    sent_sound r level le =
        let ranks : rank u.net p.lane.session.group over.0 ≡ rank o.net k.session.group over.0 = (λ i. rank (firm.known.same.net i) (session i).group over.0) in
        let low = sound_below r u firm level p.node p.facts p.after p.lane.style p.lane.session (rank u.net p.lane.session.group over.0) (omega (arith, ranks, le)) in
        let s = toward_is_at_most_the_want q u firm.known.bounds firm.paths p.node p.facts p.after p.lane over.0 over.1 low says.unit.unit asked.part asked.there in
        let there : IsSoundPart k.style u k.session k.to k.next k.unit v =
        subst (λ (z : StyleKind × Session × ℕ × Addr × UnitOf × Part). IsSoundPart z.0 u z.1 z.2 z.3 z.4 z.5) (λ i. (style i, session i, (over.2 ∙ says.end) i, next i, says.at i, sym same i)) s in
        part_again k.style u o k.session k.to k.next k.unit v firm.known.same.net firm.known.same.locals there

  -- ---- a step
  good_0 : (k : ResvKey) (v : Part) → IsNamedBy k.style o.net (locals_of o) k.session k.to k.next v → IsGood o 0 k v
  good_0 k v n = record { named = n; sound = λ le. let some = rank_some o.net valid.loop_free k.session.group n.hop n.there in absurd (omega (arith, some, le)) }

  pub sent_here : (s : Step) (u : World) → is_quiet s ≡ true → IsFirm q o u → IsFirm q o (step q s u) → (y : Item) (b : Bool) (m : ResvMsg) → In (y, b) (sent q s u)
      → y.arrival ≡ Spelt (message.Resv m)
      → IsResvSent q (step q s u).net (step q s u).trees (step q s u) y m
  sent_here s u quiet a a' y b m i spelt =
      subst (λ (z : Net × List (Addr × Addr)). IsResvSent q z.0 z.1 (step q s u) y m) (λ i. ((a.known.same.net ∙ sym a'.known.same.net) i, (a.known.same.trees ∙ sym a'.known.same.trees) i))
      (resv_sent q s u quiet a.known.bounds y b m i spelt)

  sent_good : (r : ℕ) (k : ResvKey) (u : World) → IsFirm q o u → Level r u → (y : Item) (v : Part) (says : SaysResv o.net k y v) → IsResvSent q u.net u.trees u y says.resv → IsGood o (suc r) k v
  sent_good r k u firm level y v says p =
      let n = sent_named k u firm y v says p in
      let h = over k u firm y v says p in
      let mine = ends_there o.net valid k.session.group n.hop n.there in
      let theirs = ends_there u.net firm.known.bounds.net p.lane.session.group h.0 h.1.there in
      let other : h.0.to < length o.net.ends = subst (λ (z : Net). h.0.to < length z.ends) firm.known.same.net theirs.1 in
      let addr : addr_of o.net h.0.to ≡ k.next = subst (λ (z : Net). addr_of z h.0.to ≡ k.next) firm.known.same.net (next k u firm y v says p) in
      let from : h.0.from ≡ n.hop.from = h.2 ∙ says.end ∙ sym n.from in
      let to : h.0.to ≡ n.hop.to = same_by_addr o.net valid h.0.to n.hop.to other mine.1 (addr ∙ sym n.to) in
      let hop : h.0 ≡ n.hop = λ i. record { from = from i; to = to i } in
      let ranks : rank o.net k.session.group h.0 ≡ rank o.net k.session.group n.hop = ap (rank o.net k.session.group) hop in
      record { named = n; sound = λ le. sent_sound k u firm y v says p r level (omega (arith, ranks, le)) }

  -- ---- five rounds at each rank
  pub first_step : (n : ℕ) (k : ResvKey) (s : Step) (u : World) → is_quiet s ≡ true → IsFirm q o u → IsFirm q o (step q s u)
      → SaysOnly (machine q) (soft_resv q o k) (IsGood o 0 k) n u → SaysOnly (machine q) (soft_resv q o k) (IsGood o 0 k) n (step q s u)
  first_step n k s u quiet a a' j y v i born says =
      ⊎_elim
      (λ (old : In y u.flight). j y v old born says)
      (λ (new : (b : Bool) × In (y, b) (sent q s u)). good_0 k v (sent_named k (step q s u) a' y v says (sent_here s u quiet a a' y new.0 says.resv new.1 says.spelt)))
      (in_flight_after q s u y quiet i)

  pub next_step : (r n : ℕ) (k : ResvKey) (s : Step) (u : World) → is_quiet s ≡ true → IsFirm q o u → IsFirm q o (step q s u) × Level r (step q s u)
      → SaysOnly (machine q) (soft_resv q o k) (IsGood o (suc r) k) n u → SaysOnly (machine q) (soft_resv q o k) (IsGood o (suc r) k) n (step q s u)
  next_step r n k s u quiet a a' j y v i born says =
      ⊎_elim
      (λ (old : In y u.flight). j y v old born says)
      (λ (new : (b : Bool) × In (y, b) (sent q s u)). sent_good r k (step q s u) a'.0 a'.1 y v says (sent_here s u quiet a a'.0 y new.0 says.resv new.1 says.spelt))
      (in_flight_after q s u y quiet i)

  known_of : (rs : List (List Step)) (w : World) → Hold (machine q) 0 rs w (IsFirm q o) → Hold (machine q) 0 rs w (IsKnown q o)
  known_of rs w firm = hold_map (machine q) (IsFirm q o) (IsKnown q o) (λ u h. h.known) 0 rs w firm

  level_0 : (rs : List (List Step)) (w : World) → Rounds (machine q) rs w → Hold (machine q) 0 rs w (IsFirm q o) → Hold (machine q) 5 rs w (Level 0)
  level_0 rs w calm firm =
      hold_all (machine q) (λ (a : Spot) u. GoodIn 0 a.0 u) 5 rs w
      (λ a.
      only_what_is_said_is_kept (machine q) (time_passes q) (items_are_numbered q) (soft_resv q o a.0) (resv_keeps q o a.0 a.1) (IsGood o 0 a.0) (λ v v0 b f. good_cut o 0 a.0 v v0 b f) rs w calm
      (known_of rs w firm)
      (hold_keep (machine q) (IsFirm q o) (SaysOnly (machine q) (soft_resv q o a.0) (IsGood o 0 a.0) w.made)
      (λ s u quiet b b' j. first_step w.made a.0 s u (quiet_of q s quiet) b b' j) rs w calm firm
      (λ y v i born says. let old = ((hold_start (machine q) (IsFirm q o) rs w firm).known.bounds.flight y i).born in absurd (omega arith))))

  level_up : (r : ℕ) (rs : List (List Step)) (w : World) → Rounds (machine q) rs w → Hold (machine q) 0 rs w (λ u. IsFirm q o u × Level r u) → Hold (machine q) 5 rs w (Level (suc r))
  level_up r rs w calm both =
      let firm : Hold (machine q) 0 rs w (IsFirm q o) = hold_map (machine q) (λ u. IsFirm q o u × Level r u) (IsFirm q o) (λ u h. h.0) 0 rs w both in
      hold_all (machine q) (λ (a : Spot) u. GoodIn (suc r) a.0 u) 5 rs w
      (λ a.
      only_what_is_said_is_kept (machine q) (time_passes q) (items_are_numbered q) (soft_resv q o a.0) (resv_keeps q o a.0 a.1) (IsGood o (suc r) a.0)
      (λ v v0 b f. good_cut o (suc r) a.0 v v0 b f) rs w calm (known_of rs w firm)
      (hold_keep (machine q) (λ u. IsFirm q o u × Level r u) (SaysOnly (machine q) (soft_resv q o a.0) (IsGood o (suc r) a.0) w.made)
      (λ s u quiet b b' j. next_step r w.made a.0 s u (quiet_of q s quiet) b.0 b' j) rs w calm both
      (λ y v i born says. let old = ((hold_start (machine q) (IsFirm q o) rs w firm).known.bounds.flight y i).born in absurd (omega arith))))

  pub levels : (r : ℕ) (rs : List (List Step)) (w : World) → Rounds (machine q) rs w → Hold (machine q) 0 rs w (IsFirm q o) → Hold (machine q) (5 + 5 * r) rs w (Level r)
  levels zero rs w calm firm = level_0 rs w calm firm
  levels (suc r) rs w calm firm =
      let e : (5 + 5 * r) + 5 ≡ 5 + 5 * suc r = omega arith in
      rw (← e)
      (hold_stack (machine q) (λ u. IsFirm q o u × Level r u) (Level (suc r)) 5 (level_up r) (5 + 5 * r) rs w calm
      (hold_both (machine q) (IsFirm q o) (Level r) (5 + 5 * r) rs w
      (hold_later (machine q) (IsFirm q o) 0 (5 + 5 * r) rs w (omega arith) firm) (levels r rs w calm firm)))

-- ---- each reservation is sound
abbrev pub AreFactsSound : World → Type 0
AreFactsSound w = (st : StyleKind) (n : ℕ) (f : Facts) (k : LineKey) (x : ResvState) → slice_get w.nodes n ≡ Some f → get (resvs_of st f) k ≡ Some x → IsSoundResv st w n k x

pub all_facts_sound : (q : ℕ) (o : World) (valid : IsValid o.net) (u : World) → IsFirm q o u → Level q o valid (longest o.net) u → AreFactsSound u
all_facts_sound q o valid u firm level st n f k x there h =
    let a = at_end q o valid (longest o.net) u firm level n f there st k x h in
    let most = (rank_falls o.net valid.loop_free).hops k.0.group a.good.named.hop a.good.named.there in
    record {
      end = a.end;
      at = a.at;
      sound = part_again st o u k.0 a.end k.1.0.1 k.1.1 x.part (sym firm.known.same.net) (sym firm.known.same.locals) (a.good.sound most.1);
    }

pub firm_hold : (q : ℕ) (w : World) (rs : List (List Step)) → Rounds (machine q) rs w → Hold (machine q) 0 rs w (AreBounds q) → Hold (machine q) 0 rs w ArePathsSound
    → Hold (machine q) 0 rs w (IsFirm q w)
firm_hold q w rs calm bounds paths =
    hold_map (machine q) (λ u. IsKnown q w u × ArePathsSound u) (IsFirm q w) (λ u h. record { known = h.0; paths = h.1 }) 0 rs w
    (hold_both (machine q) (IsKnown q w) ArePathsSound 0 rs w (known_hold q w rs calm bounds) paths)
