-- A receiver asks in the pair of nodes: the premises of the laws on what it takes, and what they promise does not hold yet.
use Rattle.std.proofs.Common.{◌≡◌, ◌≤◌, ℕ, zero, suc, List, [], ◌∷◌, Bool, true, false, None, Some, inl, ⊎_elim, arith, sym, refl, ap, subst, ◌∙◌}
use Rattle.std.specs.Prelude.{slice_get, ◌==◌, if◌then◌else◌}
use Rattle.std.specs.List.{flat_map}
use Rattle.std.specs.Option.{unwrap_or}
use Rattle.std.specs.Ordering.{eq_by_cmp}
use Rattle.rsvp_base.specs.declared.entry_key.EntryKey.{EntryKey}
use Rattle.rsvp_base.specs.declared.part.Part.{Part}
use Rattle.rsvp_base.specs.declared.session.Session.{Session}
use Rattle.rsvp_base.specs.declared.style.StyleKind.{StyleKind}
use Rattle.rsvp_base.specs.declared.style.StyleKind.TheVariants.{Wild, Fixed, Shared}
use Rattle.rsvp_base.specs.declared.style.Unit.TheVariants.{One}
use Rattle.rsvp_base.specs.Members.{In}
use Rattle.rsvp_base.specs.Orders.{entry_keys, sessions}
use Rattle.rsvp_base.specs.Table.{empty, get, size}
use Rattle.rsvp_base.proofs.Counts.{found_in}
use Rattle.style_rules.specs.Limits.{IsWithinLimits, names_of, next_hops_of}
use Rattle.style_rules.specs.Lines.{Line, LineKey, entry_key, held}
use Rattle.router_rules.specs.Facts.{Facts, ResvState, no_facts, resvs_of}
use Rattle.tree_model.specs.declared.hops.End.{End}
use Rattle.tree_model.specs.declared.hops.LinkHop.{LinkHop}
use Rattle.tree_model.specs.declared.locals.LocalWant.{LocalWant}
use Rattle.tree_model.specs.declared.hops.TreeHop.{TreeHop}
use Rattle.tree_model.specs.Goals.{DemandsFit, demand_of, hop_lines, sessions_named}
use Rattle.tree_model.specs.Trees.{hops_of}
use Rattle.tree_model.specs.Wants.{Locals, want}
use Rattle.tree_model.proofs.Following.{in_group}
use Rattle.network_model.specs.ThreeRouters.{group, r1, s1, scope, session, usual}
use Rattle.network_model.specs.Locals.{locals_of}
use Rattle.network_model.specs.Rows.{end_of}
use Rattle.network_model.specs.Sound.{AreResvsSound, IsExact}
use Rattle.laws_network.specs.Example.{pair_net}
use Rattle.laws_network.proofs.Known.{of_some}
use Rattle.settle_paths.specs.Sure.{forth}
use Rattle.settle_resvs.specs.Sessions.{AreExactOf, IsFreeOfBlockadesOf, SessionFits}
use Rattle.settle_resvs.proofs.GoalByIface.{each_fits}
use Rattle.settle_resvs.proofs.UnderTheGoal.{want_needs}
use Rattle.settle_passes.specs.Reserving.{AsksNoLess, IsReserving}
use Rattle.settle_passes.specs.Worked.{AReceiverAsks, asked_world, heard_world}
use Rattle.settle_passes.proofs.Serving.{settled_again}
use Rattle.settle_passes.proofs.Wanting.{a_settled_session_is_reserved}
use Rattle.settle_passes.proofs.Worked.{a_pair_forgets, a_pair_is_set_up}

abbrev facts_0 : Facts
facts_0 = unwrap_or (slice_get heard_world.nodes 0) no_facts

abbrev facts_1 : Facts
facts_1 = unwrap_or (slice_get heard_world.nodes 1) no_facts

-- ---- nothing is reserved, wanted or blockaded
none_0 : (st : StyleKind) (k : LineKey) → get (resvs_of st facts_0) k ≡ None
none_0 Wild k = refl
none_0 Fixed k = refl
none_0 Shared k = refl

none_1 : (st : StyleKind) (k : LineKey) → get (resvs_of st facts_1) k ≡ None
none_1 Wild k = refl
none_1 Fixed k = refl
none_1 Shared k = refl

no_resv : (st : StyleKind) (n : ℕ) (f : Facts) (k : LineKey) (r : ResvState) → slice_get heard_world.nodes n ≡ Some f → get (resvs_of st f) k ≡ Some r → ⊥
no_resv st zero f k r a h = let bad : None ≡ Some r = sym (none_0 st k) ∙ ap (λ (z : Facts). get (resvs_of st z) k) (of_some facts_0 f a) ∙ h in cc
no_resv st (suc zero) f k r a h = let bad : None ≡ Some r = sym (none_1 st k) ∙ ap (λ (z : Facts). get (resvs_of st z) k) (of_some facts_1 f a) ∙ h in cc
no_resv st (suc (suc n)) f k r a h = cc

sound : AreResvsSound heard_world
sound = record { facts = λ st n f k r a h. absurd (no_resv st n f k r a h); items = λ y m u i. absurd i }

free : (c : Session) → IsFreeOfBlockadesOf c heard_world
free c zero f a t = ap (λ (z : Facts). get z.walls (c, t)) (sym (of_some facts_0 f a))
free c (suc zero) f a t = ap (λ (z : Facts). get z.walls (c, t)) (sym (of_some facts_1 f a))
free c (suc (suc n)) f a t = absurd (cc)

no_limits : (st : StyleKind) → IsWithinLimits st []
no_limits st = record { lines = omega arith; sessions = omega arith; next_hops = λ s. omega arith; names = λ s. omega arith }

fit : DemandsFit pair_net (locals_of heard_world)
fit = record {
  capacity = λ e x is. let none : held (demand_of pair_net (locals_of heard_world) e) ≡ 0 = refl in omega arith;
  mtu = λ e x k p is got. absurd (cc);
  one_style = λ v w i j same. absurd i;
  limits = λ n st. no_limits st;
}

fit_for : (c : Session) → SessionFits pair_net (locals_of heard_world) c
fit_for c = each_fits pair_net (locals_of heard_world) fit c

-- the network has one hop
one_hop : (c : Session) (h : LinkHop) → In h (hops_of pair_net.hops c.group) → h ≡ forth
one_hop c h i =
    let g = in_group pair_net.hops c.group h i in
    ⊎_elim (λ (e : g.0 ≡ record { group = group; source = s1; hop = forth }). sym g.3 ∙ ap (λ (z : TreeHop). z.hop) e) (λ (no : ⊥). absurd no) g.1

exact : (c : Session) → AreExactOf c heard_world
exact c st h i =
    subst (λ (z : LinkHop). IsExact st heard_world c z) (sym (one_hop c h i))
    (record {
      facts = facts_0;
      node = refl;
      wanted = λ u p got. absurd (want_needs st pair_net (locals_of heard_world) c forth u p got).there;
      stands = λ u r got. absurd (no_resv st 0 facts_0 _ r refl got);
    })

reserving : (c : Session) → IsReserving 7500 c heard_world
reserving c = a_settled_session_is_reserved 7500 c heard_world a_pair_forgets.start sound (fit_for c) (free c) (exact c) refl

no_less : AsksNoLess heard_world 1 session Wild empty usual false
no_less f k old new a h i = let bad : None ≡ Some old = ap (λ (z : Facts). get z.wants k) (of_some facts_1 f a) ∙ h in absurd (cc)

-- ---- what is wanted then fits
abbrev asks : Locals
asks = locals_of asked_world

abbrev asked : Part
asked = record { senders = scope; flow = usual }

abbrev the_line : Line
the_line = record { style = Wild; session = session; end = 0; next = r1; unit = One; part = asked }

-- the goal of a node, as it is the first one or not
abbrev goal_by : Bool → List Line
goal_by b = flat_map (λ st. flat_map (λ s. flat_map (hop_lines st pair_net asks s) (if b then forth ∷ [] else [])) (sessions_named asks)) (Wild ∷ Fixed ∷ Shared ∷ [])

goal_first : goal_by true ≡ the_line ∷ []
unfolding want
goal_first = refl

goal_other : goal_by false ≡ []
goal_other = refl

few_hops : (b : Bool) → size (next_hops_of (if b then the_line ∷ [] else [])) ≤ 64
few_hops true = omega arith
few_hops false = omega arith

few_names : (b : Bool) → size (names_of (if b then the_line ∷ [] else [])) ≤ 16
few_names true = omega arith
few_names false = omega arith

line_limits : (st : StyleKind) → IsWithinLimits st (the_line ∷ [])
line_limits Wild = record {
  lines = omega arith;
  sessions = omega arith;
  next_hops = λ s. few_hops (eq_by_cmp sessions.cmp s session);
  names = λ s. few_names (eq_by_cmp sessions.cmp s session);
}
line_limits Fixed = record { lines = omega arith; sessions = omega arith; next_hops = λ s. omega arith; names = λ s. omega arith }
line_limits Shared = record { lines = omega arith; sessions = omega arith; next_hops = λ s. omega arith; names = λ s. omega arith }

limits_by : (b : Bool) (st : StyleKind) → IsWithinLimits st (goal_by b)
limits_by true st = subst (λ (z : List Line). IsWithinLimits st z) (sym goal_first) (line_limits st)
limits_by false st = subst (λ (z : List Line). IsWithinLimits st z) (sym goal_other) (no_limits st)

demand_0 : (demand_of pair_net asks 0).rows ≡ (entry_key the_line, asked) ∷ []
unfolding want
demand_0 = refl

held_0 : held (demand_of pair_net asks 0) ≡ 1000
unfolding want
held_0 = refl

demand_1 : (demand_of pair_net asks 1).rows ≡ []
unfolding want
demand_1 = refl

held_1 : held (demand_of pair_net asks 1) ≡ 0
unfolding want
held_1 = refl

capacity : (e : ℕ) (x : End) → slice_get pair_net.ends e ≡ Some x → held (demand_of pair_net asks e) ≤ x.iface.capacity
capacity zero x is =
    let same : end_of 0 s1 ≡ x = of_some _ x is in
    let room = ap (λ (z : End). z.iface.capacity) same in
    let much = held_0 in
    omega arith
capacity (suc zero) x is = let much = held_1 in omega arith
capacity (suc (suc e)) x is = absurd (cc)

mtu : (e : ℕ) (x : End) (k : EntryKey) (p : Part) → slice_get pair_net.ends e ≡ Some x → get (demand_of pair_net asks e) k ≡ Some p → p.flow.most ≤ x.iface.mtu
mtu zero x k p is got =
    let same : end_of 0 s1 ≡ x = of_some _ x is in
    let room = ap (λ (z : End). z.iface.mtu) same in
    ⊎_elim
    (λ (here : (k, p) ≡ (entry_key the_line, asked)). let most = ap (λ (z : EntryKey × Part). z.1.flow.most) here in omega arith)
    (λ (no : ⊥). absurd no)
    (subst (λ (z : List (EntryKey × Part)). In (k, p) z) demand_0 (found_in entry_keys (demand_of pair_net asks 0) k p got))
mtu (suc zero) x k p is got = absurd (subst (λ (z : List (EntryKey × Part)). In (k, p) z) demand_1 (found_in entry_keys (demand_of pair_net asks 1) k p got))
mtu (suc (suc e)) x k p is got = absurd (cc)

abbrev the_want : LocalWant
the_want = record { node = 1; session = session; style = Wild; part = record { senders = empty; flow = usual } }

want_is : (v : LocalWant) → In v asks.wants → v ≡ the_want
want_is v i = ⊎_elim (λ (same : v ≡ the_want). same) (λ (no : ⊥). absurd no) i

all_fit : DemandsFit pair_net asks
all_fit = record {
  capacity = capacity;
  mtu = mtu;
  one_style = λ v w i j same. ap (λ (z : LocalWant). z.style) (want_is v i) ∙ sym (ap (λ (z : LocalWant). z.style) (want_is w j));
  limits = λ n st. limits_by (0 == n) st;
}

-- ---- and does not stand yet
wanted : get (want Wild pair_net asks session forth) One ≡ Some asked
unfolding want
wanted = refl

not_exact : AreExactOf session asked_world → ⊥
not_exact exact_then =
    let x = exact_then Wild forth (inl refl) in
    let r = x.wanted One asked wanted in
    let none : None ≡ Some r.0 = ap (λ (z : Facts). get (resvs_of Wild z) (session, ((0, r1), One))) (of_some (unwrap_or (slice_get asked_world.nodes 0) no_facts) x.facts x.node) ∙ r.1 in
    cc

pub a_receiver_asks : AReceiverAsks
a_receiver_asks = record {
  start = a_pair_forgets.start;
  sound = sound;
  fit = fit_for session;
  free = free session;
  exact = exact session;
  quiet = refl;
  reserving = reserving session;
  list = tt;
  flow = a_pair_is_set_up.fit;
  no_less = no_less;
  fits = each_fits pair_net asks all_fit session;
  not_yet = λ h. not_exact h.exact;
  begins = record { bounds = a_pair_forgets.start.bounds; locals = a_pair_forgets.start.hosts; fit = fit };
  settled = settled_again 7500 session heard_world reserving exact;
  all_fit = all_fit;
  not_settled = λ h. not_exact (λ st hop there. h.resvs_exact st session hop there);
}
