-- A receiver asks in the pair of nodes with a fixed filter: the premises of the law of fixed filters.
use Rattle.std.proofs.Common.{◌≡◌, ◌≤◌, ℕ, zero, suc, List, [], ◌∷◌, Bool, true, false, None, Some, inl, ⊎_elim, arith, sym, refl, ap, subst, ◌∙◌}
use Rattle.std.specs.Prelude.{slice_get, ◌==◌, if◌then◌else◌}
use Rattle.std.specs.List.{flat_map}
use Rattle.std.specs.Option.{unwrap_or}
use Rattle.std.specs.Ordering.{eq_by_cmp}
use Rattle.rsvp_base.specs.declared.entry_key.EntryKey.{EntryKey}
use Rattle.rsvp_base.specs.declared.part.Part.{Part}
use Rattle.rsvp_base.specs.declared.session.Sender.{Sender}
use Rattle.rsvp_base.specs.declared.style.StyleKind.{StyleKind}
use Rattle.rsvp_base.specs.declared.style.StyleKind.TheVariants.{Wild, Fixed, Shared}
use Rattle.rsvp_base.specs.declared.style.Unit.TheVariants.{Of}
use Rattle.rsvp_base.specs.Members.{In}
use Rattle.rsvp_base.specs.Orders.{entry_keys, sessions}
use Rattle.rsvp_base.specs.Table.{get, size}
use Rattle.rsvp_base.proofs.Counts.{found_in}
use Rattle.rsvp_messages.specs.Units.{only}
use Rattle.style_rules.specs.Limits.{IsWithinLimits, names_of, next_hops_of}
use Rattle.style_rules.specs.Lines.{Line, entry_key, held}
use Rattle.router_rules.specs.Facts.{Facts, no_facts}
use Rattle.tree_model.specs.declared.hops.End.{End}
use Rattle.tree_model.specs.declared.hops.LinkHop.{LinkHop}
use Rattle.tree_model.specs.declared.hops.TreeHop.{TreeHop}
use Rattle.tree_model.specs.declared.locals.LocalWant.{LocalWant}
use Rattle.tree_model.specs.Goals.{DemandsFit, demand_of, hop_lines, sessions_named}
use Rattle.tree_model.specs.Trees.{hops_of}
use Rattle.tree_model.specs.Wants.{Locals, want}
use Rattle.tree_model.proofs.Following.{in_group, tree_group}
use Rattle.network_model.specs.Locals.{locals_of}
use Rattle.network_model.specs.RouterRules.Rule.{facts_with}
use Rattle.network_model.specs.Rows.{end_of}
use Rattle.network_model.specs.ThreeRouters.{first, group, r1, s1, second, session, usual}
use Rattle.laws_network.specs.Example.{pair_net}
use Rattle.laws_network.proofs.Known.{of_some}
use Rattle.settle_paths.specs.Sure.{forth}
use Rattle.settle_passes.specs.Reserving.{AsksNoLess}
use Rattle.settle_passes.specs.Worked.{heard_world}
use Rattle.settle_passes.proofs.AskedExample.{a_receiver_asks}
use Rattle.settle_confirmations.specs.Worked.{AFixedFilterHears, both_names, filtered_world}

-- the network has one hop
one_hop : (h : LinkHop) → In h (hops_of pair_net.hops group) → h ≡ forth
one_hop h i =
    let g = in_group pair_net.hops group h i in
    ⊎_elim (λ (e : g.0 ≡ record { group = group; source = s1; hop = forth }). sym g.3 ∙ ap (λ (z : TreeHop). z.hop) e) (λ (no : ⊥). absurd no) g.1

-- nobody asked before
no_less : AsksNoLess heard_world 1 session Fixed both_names usual true
no_less f k old new a h i =
    let bad : None ≡ Some old = ap (λ (z : Facts). get z.wants k) (of_some (unwrap_or (slice_get heard_world.nodes 1) no_facts) f a) ∙ h in absurd (cc)

-- ---- what is wanted then fits
abbrev asks : Locals
asks = locals_of filtered_world

abbrev asked : Part
asked = record { senders = only first; flow = usual }

abbrev the_line : Line
the_line = record { style = Fixed; session = session; end = 0; next = r1; unit = Of first; part = asked }

-- the goal of a node, as it is the first one or not
abbrev goal_by : Bool → List Line
goal_by b = flat_map (λ st. flat_map (λ s. flat_map (hop_lines st pair_net asks s) (if b then forth ∷ [] else [])) (sessions_named asks)) (Wild ∷ Fixed ∷ Shared ∷ [])

goal_first : goal_by true ≡ the_line ∷ []
unfolding want
goal_first = refl

goal_other : goal_by false ≡ []
goal_other = refl

few_hops : (b : Bool) → size (next_hops_of (if b then the_line ∷ [] else [])) ≤ 64
few_hops true = omega arith
few_hops false = omega arith

few_names : (b : Bool) → size (names_of (if b then the_line ∷ [] else [])) ≤ 16
few_names true = omega arith
few_names false = omega arith

no_limits : (st : StyleKind) → IsWithinLimits st []
no_limits st = record { lines = omega arith; sessions = omega arith; next_hops = λ s. omega arith; names = λ s. omega arith }

line_limits : (st : StyleKind) → IsWithinLimits st (the_line ∷ [])
line_limits Fixed = record {
  lines = omega arith;
  sessions = omega arith;
  next_hops = λ s. few_hops (eq_by_cmp sessions.cmp s session);
  names = λ s. few_names (eq_by_cmp sessions.cmp s session);
}
line_limits Wild = record { lines = omega arith; sessions = omega arith; next_hops = λ s. omega arith; names = λ s. omega arith }
line_limits Shared = record { lines = omega arith; sessions = omega arith; next_hops = λ s. omega arith; names = λ s. omega arith }

limits_by : (b : Bool) (st : StyleKind) → IsWithinLimits st (goal_by b)
limits_by true st = subst (λ (z : List Line). IsWithinLimits st z) (sym goal_first) (line_limits st)
limits_by false st = subst (λ (z : List Line). IsWithinLimits st z) (sym goal_other) (no_limits st)

demand_0 : (demand_of pair_net asks 0).rows ≡ (entry_key the_line, asked) ∷ []
unfolding want
demand_0 = refl

held_0 : held (demand_of pair_net asks 0) ≡ 1000
unfolding want
held_0 = refl

demand_1 : (demand_of pair_net asks 1).rows ≡ []
unfolding want
demand_1 = refl

held_1 : held (demand_of pair_net asks 1) ≡ 0
unfolding want
held_1 = refl

capacity : (e : ℕ) (x : End) → slice_get pair_net.ends e ≡ Some x → held (demand_of pair_net asks e) ≤ x.iface.capacity
capacity zero x is =
    let same : end_of 0 s1 ≡ x = of_some _ x is in
    let room = ap (λ (z : End). z.iface.capacity) same in
    let much = held_0 in
    omega arith
capacity (suc zero) x is = let much = held_1 in omega arith
capacity (suc (suc e)) x is = absurd (cc)

mtu : (e : ℕ) (x : End) (k : EntryKey) (p : Part) → slice_get pair_net.ends e ≡ Some x → get (demand_of pair_net asks e) k ≡ Some p → p.flow.most ≤ x.iface.mtu
mtu zero x k p is got =
    let same : end_of 0 s1 ≡ x = of_some _ x is in
    let room = ap (λ (z : End). z.iface.mtu) same in
    ⊎_elim
    (λ (here : (k, p) ≡ (entry_key the_line, asked)). let most = ap (λ (z : EntryKey × Part). z.1.flow.most) here in omega arith)
    (λ (no : ⊥). absurd no)
    (subst (λ (z : List (EntryKey × Part)). In (k, p) z) demand_0 (found_in entry_keys (demand_of pair_net asks 0) k p got))
mtu (suc zero) x k p is got = absurd (subst (λ (z : List (EntryKey × Part)). In (k, p) z) demand_1 (found_in entry_keys (demand_of pair_net asks 1) k p got))
mtu (suc (suc e)) x k p is got = absurd (cc)

abbrev want_for : Sender → LocalWant
want_for x = record { node = 1; session = session; style = Fixed; part = record { senders = only x; flow = usual } }

all_fixed : (v : LocalWant) → In v asks.wants → v.style ≡ Fixed
all_fixed v i =
    ⊎_elim (λ (same : v ≡ want_for first). ap (λ (z : LocalWant). z.style) same)
    (λ (j : In v (want_for second ∷ [])). ⊎_elim (λ (same : v ≡ want_for second). ap (λ (z : LocalWant). z.style) same) (λ (no : ⊥). absurd no) j) i

all_fit : DemandsFit pair_net asks
all_fit = record {
  capacity = capacity;
  mtu = mtu;
  one_style = λ v w i j same. all_fixed v i ∙ sym (all_fixed w j);
  limits = λ n st. limits_by (0 == n) st;
}

pub a_fixed_filter_hears : AFixedFilterHears
unfolding facts_with
a_fixed_filter_hears = record {
  begins = a_receiver_asks.begins;
  settled = a_receiver_asks.settled;
  quiet = refl;
  one_end = λ x t h among lives there node. ap (λ (z : LinkHop). z.to) (one_hop h (tree_group pair_net.hops group x.addr h there));
  list = tt;
  flow = a_receiver_asks.flow;
  no_less = no_less;
  fit = all_fit;
  sends = (_, inl refl);
  asked = refl;
}
