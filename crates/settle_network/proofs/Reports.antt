-- The book of an end has the entries of a session that its demand has, where reservations are sound, and exact for the session: each
-- entry lies under one of the other.
use Rattle.std.specs.Prelude.{◌≡◌, ℕ, ◌<◌, ◌==◌, true, List, [], ◌∷◌, length, Option, None, Some, slice_get, refl}
use Rattle.std.specs.List.{filter, flat_map}
use Rattle.std.proofs.Common.{sym, ap, subst, ◌∙◌}
use Rattle.rsvp_base.specs.declared.part.Part.{Part}
use Rattle.rsvp_base.specs.declared.session.Session.{Session}
use Rattle.rsvp_base.specs.declared.style.StyleKind.{StyleKind}
use Rattle.rsvp_base.specs.declared.style.StyleKind.TheVariants.{Wild, Fixed, Shared}
use Rattle.rsvp_base.specs.declared.style.Unit.{Unit as UnitOf}
use Rattle.rsvp_base.specs.Members.{In}
use Rattle.rsvp_base.specs.Orders.{units, entry_keys}
use Rattle.rsvp_base.specs.Table.{get}
use Rattle.rsvp_base.proofs.Counts.{in_found}
use Rattle.rsvp_base.proofs.Members.{in_each, in_filter, in_flat_map, to_filter}
use Rattle.rsvp_base.specs.declared.entry_key.EntryKey.{EntryKey}
use Rattle.style_rules.specs.Lines.{BookTable, Line, LineKey, at_end, book_of_end, entry_key}
use Rattle.style_rules.specs.PartLaws.{part_at_most_both_ways}
use Rattle.style_rules.specs.Parts.{has_name, IsPartAtMost}
use Rattle.style_rules.proofs.Books.{book_below, under_at_end}
use Rattle.style_rules.proofs.Merges.{merge_above, merge_least, merge_source}
use Rattle.laws_bounds.proofs.Requesting.{books_and_lines}
use Rattle.router_rules.specs.Books.{book, line_of, lines}
use Rattle.router_rules.specs.Facts.{Facts, resvs_of}
use Rattle.tree_model.specs.declared.hops.LinkHop.{LinkHop}
use Rattle.tree_model.specs.Goals.{addr_of, demand_of, goal, hop_lines, hops_in_order, sessions_named}
use Rattle.tree_model.specs.Networks.{Net, node_of, iface_of}
use Rattle.tree_model.specs.Trees.{goes_out_of, hops_of}
use Rattle.tree_model.specs.Wants.{Locals, want}
use Rattle.tree_model.proofs.Following.{same_number}
use Rattle.tree_model.proofs.Ifaces.{interfaces_are_ends}
use Rattle.network_model.specs.Bounds.{AreBounds}
use Rattle.network_model.specs.Locals.{locals_of}
use Rattle.network_model.specs.Sound.{AreResvsSound}
use Rattle.network_model.specs.Worlds.{World}
use Rattle.laws_network.proofs.Known.{of_some}
use Rattle.settle_resvs.specs.GoalByIface.{at_iface, goal_at, line_over}
use Rattle.settle_resvs.specs.Sessions.{AreExactOf}
use Rattle.settle_network.specs.Sessions.{HaveTheSameOf}
use Rattle.settle_resvs.proofs.GoalByIface.{book_at, hop_in_order}
use Rattle.settle_resvs.proofs.UnderTheGoal.{sound_under}

-- ---- a line of a goal is a part that is wanted over a hop out of the node
pub record IsWantedLine (net : Net) (l : Locals) (n : ℕ) (g : Line) : Type 0 where
  pub style : StyleKind
  pub session : Session
  pub hop : LinkHop
  pub unit : UnitOf
  pub part : Part
  pub there : In hop (hops_of net.hops session.group)
  pub node : node_of net.ends hop.from ≡ n
  pub wanted : get (want style net l session hop) unit ≡ Some part
  pub is : g ≡ line_over net style session hop (unit, part)

pub goal_told : (net : Net) (l : Locals) (n : ℕ) (g : Line) → In g (goal net l n) → IsWantedLine net l n g
goal_told net l n g i =
    let a = in_flat_map (λ st. flat_map (λ s. flat_map (hop_lines st net l s) (filter (goes_out_of net.ends n) (hops_in_order (hops_of net.hops s.group)))) (sessions_named l)) g
    (Wild ∷ Fixed ∷ Shared ∷ []) i in
    let b = in_flat_map (λ s. flat_map (hop_lines a.0 net l s) (filter (goes_out_of net.ends n) (hops_in_order (hops_of net.hops s.group)))) g (sessions_named l) a.2 in
    let c = in_flat_map (hop_lines a.0 net l b.0) g (filter (goes_out_of net.ends n) (hops_in_order (hops_of net.hops b.0.group))) b.2 in
    let f = in_filter (goes_out_of net.ends n) c.0 (hops_in_order (hops_of net.hops b.0.group)) c.1 in
    let e = in_each (λ (e : UnitOf × Part). line_over net a.0 b.0 c.0 e) g (want a.0 net l b.0 c.0).rows c.2 in
    record {
      style = a.0;
      session = b.0;
      hop = c.0;
      unit = e.0.0;
      part = e.0.1;
      there = hop_in_order (hops_of net.hops b.0.group) c.0 f.0;
      node = same_number (node_of net.ends c.0.from) n f.1;
      wanted = in_found units (want a.0 net l b.0 c.0) e.0.0 e.0.1 e.1;
      is = e.2;
    }

-- ---- a session
module _ (q : ℕ) (s : Session) (u : World) (bounds : AreBounds q u) (resvs : AreResvsSound u) (exact : AreExactOf s u) (e : ℕ) (lt : e < length u.net.ends) (f : Facts)
    (at : slice_get u.nodes (node_of u.net.ends e) ≡ Some f) where
  abbrev n : ℕ
  n = node_of u.net.ends e

  abbrev i : ℕ
  i = iface_of u.net.ends e

  abbrev goals : List Line
  goals = goal_at u.net (locals_of u) n

  abbrev kept : BookTable
  kept = book f i

  abbrev wanted : BookTable
  wanted = book_of_end i goals

  -- each entry of the book has one above it in the goal
  below : (k : EntryKey) (x : Part) → get kept k ≡ Some x → (y : Part) × (get wanted k ≡ Some y) × IsPartAtMost x y
  below = book_below (at_end i (lines f)) (at_end i goals) (under_at_end i (lines f) goals (sound_under u n f (λ st k r h. resvs.facts st n f k r at h)))

  -- each line of the goal that is of the session is a line of the node
  stands : (g : Line) → In g (at_end i goals) → g.session ≡ s → In g (at_end i (lines f))
  stands g j of =
      let x = in_filter (λ (z : Line). z.end == i) g goals j in
      let y = in_each (at_iface u.net) g (goal u.net (locals_of u) n) x.0 in
      let t = goal_told u.net (locals_of u) n y.0 y.1 in
      let same_line : g ≡ at_iface u.net (line_over u.net t.style t.session t.hop (t.unit, t.part)) = y.2 ∙ ap (at_iface u.net) t.is in
      let session : t.session ≡ s = sym (ap (λ (z : Line). z.session) same_line) ∙ of in
      let ex = exact t.style t.hop (subst (λ (z : Session). In t.hop (hops_of u.net.hops z.group)) session t.there) in
      let same_facts : ex.facts ≡ f = of_some ex.facts f (sym ex.node ∙ ap (λ (z : ℕ). slice_get u.nodes z) t.node ∙ at) in
      let r = ex.wanted t.unit t.part (subst (λ (z : Session). get (want t.style u.net (locals_of u) z t.hop) t.unit ≡ Some t.part) session t.wanted) in
      let key : LineKey = (s, ((iface_of u.net.ends t.hop.from, addr_of u.net t.hop.to), t.unit)) in
      let there : get (resvs_of t.style f) key ≡ Some r.0 = ap (λ (z : Facts). get (resvs_of t.style z) key) (sym same_facts) ∙ r.1 in
      let part = r.2 in
      let line : Line = line_of t.style (key, r.0) in
      let is : line ≡ at_iface u.net (line_over u.net t.style t.session t.hop (t.unit, t.part)) =
      (λ k. record { style = t.style; session = sym session k; end = iface_of u.net.ends t.hop.from; next = addr_of u.net t.hop.to; unit = t.unit; part = part k }) in
      let same : line ≡ g = is ∙ sym same_line in
      let among : In line (at_end i (lines f)) =
      to_filter (λ (z : Line). z.end == i) line (lines f) ((books_and_lines.each f line).1 (record { style = t.style; key = key; resv = r.0; there = there; is = refl }))
      (ap (λ (z : Line). z.end == i) same ∙ x.1) in
      subst (λ (z : Line). In z (at_end i (lines f))) same among

  -- so each entry of the goal that is of the session has one above it in the book
  above : (k : EntryKey) → k.session ≡ s → (y : Part) → get wanted k ≡ Some y → (x : Part) × (get kept k ≡ Some x) × IsPartAtMost y x
  above k of y got =
      let g = merge_source entry_keys entry_key (λ (l : Line). l.part) (at_end i goals) k y got in
      let first = over g.0 g.1 g.2 g.3 in (
        first.0,
        first.1,
        merge_least entry_keys entry_key (λ (l : Line). l.part) (at_end i goals) k y first.0 got
            (λ l j named is. let r = over l j named is in subst (IsPartAtMost l.part) (of_some r.0 first.0 (sym r.1 ∙ first.1)) r.2),
      )
    where
      over : (l : Line) → In l (at_end i goals) → has_name l.part ≡ true → k ≡ entry_key l → (x : Part) × (get kept k ≡ Some x) × IsPartAtMost l.part x
      over l j named is =
          let m = merge_above entry_keys entry_key (λ (z : Line). z.part) (at_end i (lines f)) l (stands l j (sym (ap (λ (z : EntryKey). z.session) is) ∙ of)) named in
          (m.0, ap (get kept) is ∙ m.1, m.2)

  entry : (k : EntryKey) → k.session ≡ s → (v w : Option Part) → get kept k ≡ v → get wanted k ≡ w → get kept k ≡ get wanted k
  entry k of None None a b = a ∙ sym b
  entry k of None (Some y) a b = let x = above k of y b in let no : None ≡ Some x.0 = sym a ∙ x.1 in absurd (cc)
  entry k of (Some x) w a b =
      let y = below k x a in
      let z = above k of y.0 y.1 in
      let same : z.0 ≡ x = of_some z.0 x (sym z.1 ∙ a) in
      a ∙ ap Some (part_at_most_both_ways x y.0 y.2 (subst (IsPartAtMost y.0) same z.2)) ∙ sym y.1

  -- the book of an end has the entries of the session that its demand has
  pub entries_are_the_demand : HaveTheSameOf s (book f i) (demand_of u.net (locals_of u) e)
  entries_are_the_demand k of =
      entry k of (get kept k) (get wanted k) refl refl ∙ ap (λ (b : BookTable). get b k) (book_at u.net bounds.net (locals_of u) n i e ((interfaces_are_ends u.net).end_of_iface e lt))
