-- The lines of all wants are those of the goals of all nodes.
use Rattle.std.specs.Prelude.{◌≡◌, ◌↔◌, replicate, ℕ, ◌+◌, ◌<◌, ◌≤◌, nat_lt, Bool, true, false, ◌==◌, List, [], ◌∷◌, ◌++◌, map as each, length, Some, refl, slice_index_or}
use Rattle.std.specs.List.{filter, flat_map}
use Rattle.std.proofs.Common.{zero, suc, sym, ap, subst, ◌∙◌, inl, inr, ⊎_elim, arith, take, append_assoc}
use Rattle.std.proofs.lemmas.List.{length-map}
use Rattle.rsvp_base.specs.Members.{In}
use Rattle.rsvp_base.specs.Orders.{sessions, senders, units, entry_keys}
use Rattle.rsvp_base.specs.Sets.{set_of, IsWithin}
use Rattle.rsvp_base.specs.Table.{empty, get, keys, size}
use Rattle.rsvp_base.specs.declared.addr.Addr.{Addr}
use Rattle.rsvp_base.specs.declared.part.Part.{Part}
use Rattle.rsvp_base.specs.declared.session.Session.{Session}
use Rattle.rsvp_base.specs.declared.style.StyleKind.{StyleKind}
use Rattle.rsvp_base.specs.declared.style.StyleKind.TheVariants.{Wild, Fixed, Shared}
use Rattle.rsvp_base.specs.declared.style.Unit.{Unit as UnitOf}
use Rattle.rsvp_base.proofs.Counts.{in_found, in_set_of, set_of_in, size-set_of}
use Rattle.rsvp_base.proofs.Fronts.{in_keys, to_keys}
use Rattle.rsvp_base.proofs.Members.{in_left, in_right, in_append, in_each, to_each, in_filter, to_filter, in_flat_map, to_flat_map}
use Rattle.rsvp_base.specs.Styles.{name_of, part_unit}
use Rattle.style_rules.specs.PartLaws.{part_at_most_itself, union_least}
use Rattle.style_rules.specs.Lines.{Line, entry_key, BookTable, at_end, book_of_end}
use Rattle.rsvp_base.specs.declared.entry_key.EntryKey.{EntryKey}
use Rattle.style_rules.proofs.Merges.{merges_same, merge_named, merge_keeps}
use Rattle.tree_model.specs.declared.hops.LinkHop.{LinkHop}
use Rattle.tree_model.specs.Networks.{Net, node_of}
use Rattle.tree_model.specs.Trees.{hops_of, goes_out_of}
use Rattle.tree_model.specs.Ranks.{followers}
use Rattle.tree_model.specs.Valid.{IsValid}
use Rattle.tree_model.proofs.Following.{same_number, number_same, addr_same}
use Rattle.tree_routing.specs.declared.group_hop.GroupHop.{GroupHop}
use Rattle.tree_routing.specs.Order.{AreByRank}
use Rattle.tree_model.specs.declared.locals.LocalWant.{LocalWant}
use Rattle.tree_model.specs.Wants.{Locals, live, own, brought, want}
use Rattle.tree_model.specs.Goals.{addr_of, end_pairs, hops_in_order, sessions_named, hop_lines, goal, demand_of}
use Rattle.tree_model.proofs.WantLaws.{want_equation}
use Rattle.network_demand.specs.declared.hop_want.HopWant.{HopWant}
use Rattle.network_demand.specs.Books.{book_at, HaveLines, NameOnly, HasRoom, AreInside, want_lines, wants_lines}
use Rattle.network_demand.specs.Demands.{AreDemands, AreProper, AreFed, style_lines}
use Rattle.network_demand.specs.Steps.{all_names, hops_in, hop_wants}
use Rattle.network_demand.proofs.Inside.{ends_inside}
use Rattle.network_demand.proofs.Pools.{take_more, flat_append, append_none}
use Rattle.network_demand.proofs.WantSteps.{value_names, names_of_all, in_hops}

-- ---- no end, no book
past_all : (books : List BookTable) (e : ℕ) → length books ≤ e → book_at books e ≡ empty
past_all [] e le = refl
past_all (b ∷ bs) zero le = absurd (omega arith)
past_all (b ∷ bs) (suc e) le = past_all bs e (omega arith)

-- ---- hops in order
abbrev pair_of : LinkHop → ℕ × ℕ
pair_of h = (h.from, h.to)

abbrev hop_of : ℕ × ℕ → LinkHop
hop_of p = record { from = p.0; to = p.1 }

pub to_order : (hs : List LinkHop) (h : LinkHop) → In h hs → In h (hops_in_order hs)
to_order hs h i = to_each hop_of (pair_of h) (keys (set_of {o = end_pairs} (each pair_of hs)))
    (to_keys end_pairs (set_of (each pair_of hs)) (pair_of h) (in_set_of end_pairs (each pair_of hs) (pair_of h) (to_each pair_of h hs i)))

pub from_order : (hs : List LinkHop) (h : LinkHop) → In h (hops_in_order hs) → In h hs
from_order hs h i =
    let p = in_each hop_of h (keys (set_of {o = end_pairs} (each pair_of hs))) i in
    let q = in_each pair_of p.0 hs (set_of_in end_pairs (each pair_of hs) p.0 (in_keys end_pairs (set_of (each pair_of hs)) p.0 p.1)) in
    subst (λ (x : LinkHop). In x hs) (sym (p.2 ∙ ap hop_of q.2)) q.1

-- ---- sessions
pub session_named : (l : Locals) (s : Session) → In s (each (λ w. w.session) l.wants) → In s (sessions_named l)
session_named l s i =
    let w = in_each (λ (w : LocalWant). w.session) s l.wants i in
    to_keys sessions (set_of (flat_map (λ w. w.session ∷ []) l.wants)) s (in_set_of sessions (flat_map (λ w. w.session ∷ []) l.wants) s
    (to_flat_map (λ (w : LocalWant). w.session ∷ []) w.0 s l.wants w.1 (inl w.2)))

pub named_session : (l : Locals) (s : Session) → In s (sessions_named l) → In s (each (λ w. w.session) l.wants)
named_session l s i =
    let w = in_flat_map (λ (w : LocalWant). w.session ∷ []) s l.wants (set_of_in sessions (flat_map (λ w. w.session ∷ []) l.wants) s
    (in_keys sessions (set_of (flat_map (λ w. w.session ∷ []) l.wants)) s i)) in
    ⊎_elim (λ (e : s ≡ w.0.session). subst (λ (x : Session). In x (each (λ (w : LocalWant). w.session) l.wants)) (sym e) (to_each (λ (w : LocalWant). w.session) w.0 l.wants w.1))
    (λ (k : ⊥). absurd k) w.2

module _ (net : Net) (l : Locals) (order : List GroupHop) (by : AreByRank net order) where
  -- hops of a group in the order of all hops
  pub from_hops : (g : Addr) (h : LinkHop) → In h (hops_in g order) → In h (hops_of net.hops g)
  from_hops g h i =
      let x = in_each (λ (x : GroupHop). x.hop) h (filter (λ (x : GroupHop). x.group.0 == g.0) order) i in
      let f = in_filter (λ (x : GroupHop). x.group.0 == g.0) x.0 order x.1 in
      subst (λ (a : Addr). In h (hops_of net.hops a)) (addr_same x.0.group g f.1) (subst (λ (y : LinkHop). In y (hops_of net.hops x.0.group)) (sym x.2) (by.hops x.0 f.0))

  pub to_hops : (g : Addr) (h : LinkHop) → In h (hops_of net.hops g) → In h (hops_in g order)
  to_hops g h i = in_hops g order h (by.all g h i)

  abbrev want_of : StyleKind → Session → LinkHop → HopWant
  want_of st s h = record { hop = h; parts = want st net l s h }

  -- a line of wants
  pub line_told : (st : StyleKind) (s : Session) (x : Line) → In x (wants_lines st s net (hop_wants st net l s order)) → (h : LinkHop) × In h (hops_of net.hops s.group) × In x (hop_lines st net l s h)
  line_told st s x i =
      let w = in_flat_map (λ (w : HopWant). want_lines st s (addr_of net w.hop.to) w) x (hop_wants st net l s order) i in
      let h = in_each (want_of st s) w.0 (hops_in s.group order) w.1 in
      (h.0, from_hops s.group h.0 h.1, subst (λ (y : HopWant). In x (want_lines st s (addr_of net y.hop.to) y)) h.2 w.2)

  pub line_made : (st : StyleKind) (s : Session) (x : Line) (h : LinkHop) → In h (hops_of net.hops s.group) → In x (hop_lines st net l s h) → In x (wants_lines st s net (hop_wants st net l s order))
  line_made st s x h i j =
      to_flat_map (λ (w : HopWant). want_lines st s (addr_of net w.hop.to) w) (want_of st s h) x (hop_wants st net l s order) (to_each (want_of st s) h (hops_in s.group order) (to_hops s.group h i)) j

  line_end : (st : StyleKind) (s : Session) (h : LinkHop) (x : Line) → In x (hop_lines st net l s h) → x.end ≡ h.from
  line_end st s h x i = let e = in_each (λ e. record { style = st; session = s; end = h.from; next = addr_of net h.to; unit = e.0; part = e.1 }) x (want st net l s h).rows i in
      ap (λ (y : Line). y.end) e.2

  -- the lines of a style in sessions that are wanted, and the goal of a node
  module _ (ss : List Session) (these : (s : Session) → In s ss → In s (sessions_named l)) (all : (s : Session) → In s (sessions_named l) → In s ss) where
    abbrev all_lines : List Line
    all_lines = style_lines Wild net l order ss ++ (style_lines Fixed net l order ss ++ style_lines Shared net l order ss)

    style_in : (st : StyleKind) (x : Line) → In x (style_lines st net l order ss) → In x all_lines
    style_in Wild x i = in_left x (style_lines Wild net l order ss) _ i
    style_in Fixed x i = in_right x (style_lines Wild net l order ss) _ (in_left x (style_lines Fixed net l order ss) _ i)
    style_in Shared x i = in_right x (style_lines Wild net l order ss) _ (in_right x (style_lines Fixed net l order ss) _ i)

    in_style : (x : Line) → In x all_lines → (st : StyleKind) × In x (style_lines st net l order ss)
    in_style x i =
        ⊎_elim (λ (j : In x (style_lines Wild net l order ss)). (Wild, j))
        (λ (j : In x (style_lines Fixed net l order ss ++ style_lines Shared net l order ss)).
        ⊎_elim (λ (k : In x (style_lines Fixed net l order ss)). (Fixed, k)) (λ (k : In x (style_lines Shared net l order ss)). (Shared, k))
        (in_append x (style_lines Fixed net l order ss) (style_lines Shared net l order ss) j))
        (in_append x (style_lines Wild net l order ss) (style_lines Fixed net l order ss ++ style_lines Shared net l order ss) i)

    style_among : (st : StyleKind) → In st (Wild ∷ Fixed ∷ Shared ∷ [])
    style_among Wild = inl refl
    style_among Fixed = inr (inl refl)
    style_among Shared = inr (inr (inl refl))

    -- a line of a style, at the node of its end, is of the goal
    pub goal_made : (n : ℕ) (st : StyleKind) (x : Line) → In x (style_lines st net l order ss) → node_of net.ends x.end ≡ n → In x (goal net l n)
    goal_made n st x i at =
        let s = in_flat_map (λ s. wants_lines st s net (hop_wants st net l s order)) x ss i in
        let t = line_told st s.0 x s.2 in
        let out : (node_of net.ends t.0.from == n) ≡ true = number_same _ n (ap (node_of net.ends) (sym (line_end st s.0 t.0 x t.2)) ∙ at) in
        to_flat_map (λ st. flat_map (λ s. flat_map (hop_lines st net l s) (filter (goes_out_of net.ends n) (hops_in_order (hops_of net.hops s.group)))) (sessions_named l)) st x
        (Wild ∷ Fixed ∷ Shared ∷ []) (style_among st)
        (to_flat_map (λ s. flat_map (hop_lines st net l s) (filter (goes_out_of net.ends n) (hops_in_order (hops_of net.hops s.group)))) s.0 x (sessions_named l) (these s.0 s.1)
        (to_flat_map (hop_lines st net l s.0) t.0 x (filter (goes_out_of net.ends n) (hops_in_order (hops_of net.hops s.0.group)))
        (to_filter (goes_out_of net.ends n) t.0 (hops_in_order (hops_of net.hops s.0.group)) (to_order (hops_of net.hops s.0.group) t.0 t.1) out) t.2))

    pub goal_told : (n : ℕ) (x : Line) → In x (goal net l n) → (st : StyleKind) × In x (style_lines st net l order ss) × (x.style ≡ st) × (node_of net.ends x.end ≡ n)
    goal_told n x i =
        let st = in_flat_map (λ st. flat_map (λ s. flat_map (hop_lines st net l s) (filter (goes_out_of net.ends n) (hops_in_order (hops_of net.hops s.group)))) (sessions_named l)) x
        (Wild ∷ Fixed ∷ Shared ∷ []) i in
        let s = in_flat_map (λ s. flat_map (hop_lines st.0 net l s) (filter (goes_out_of net.ends n) (hops_in_order (hops_of net.hops s.group)))) x (sessions_named l) st.2 in
        let h = in_flat_map (hop_lines st.0 net l s.0) x (filter (goes_out_of net.ends n) (hops_in_order (hops_of net.hops s.0.group))) s.2 in
        let f = in_filter (goes_out_of net.ends n) h.0 (hops_in_order (hops_of net.hops s.0.group)) h.1 in
        let e = in_each (λ e. record { style = st.0; session = s.0; end = h.0.from; next = addr_of net h.0.to; unit = e.0; part = e.1 }) x (want st.0 net l s.0 h.0).rows h.2 in (
          st.0,
          to_flat_map (λ s. wants_lines st.0 s net (hop_wants st.0 net l s order)) s.0 x ss (all s.0 s.1) (line_made st.0 s.0 x h.0 (from_order (hops_of net.hops s.0.group) h.0 f.0) h.2),
          ap (λ (y : Line). y.style) e.2,
          ap (node_of net.ends) (line_end st.0 s.0 h.0 x h.2) ∙ same_number _ n f.1,
        )

    pub demand_is : (e : ℕ) → book_of_end e all_lines ≡ demand_of net l e
    demand_is e =
        merges_same entry_keys entry_key (λ x. x.part) entry_key (λ x. x.part) (at_end e all_lines) (at_end e (goal net l (node_of net.ends e)))
        (λ x i named.
        let f = in_filter (λ (x : Line). x.end == e) x all_lines i in
        let st = in_style x f.0 in (
          x,
          to_filter (λ (x : Line). x.end == e) x (goal net l (node_of net.ends e)) (goal_made (node_of net.ends e) st.0 x st.1 (ap (node_of net.ends) (same_number x.end e f.1))) f.1,
          refl,
          part_at_most_itself x.part,
        ))
        (λ x i named.
        let f = in_filter (λ (x : Line). x.end == e) x (goal net l (node_of net.ends e)) i in
        let t = goal_told (node_of net.ends e) x f.0 in
        (x, to_filter (λ (x : Line). x.end == e) x all_lines (style_in t.0 x t.1) f.1, refl, part_at_most_itself x.part))

  -- ---- room
  pub proper_lines : (st : StyleKind) (s : Session) → AreProper l (wants_lines st s net (hop_wants st net l s order))
  proper_lines st s x i =
      let t = line_told st s x i in
      let e = in_each (λ (e : UnitOf × Part). record { style = st; session = s; end = t.0.from; next = addr_of net t.0.to; unit = e.0; part = e.1 }) x (want st net l s t.0).rows t.2 in
      subst (λ (y : Line). IsWithin y.part.senders (all_names y.style l y.session)) (sym e.2)
      (λ z h. names_of_all st net l s t.0 z (value_names st net l s t.0 e.0.1 (to_each (λ (e : UnitOf × Part). e.1) e.0 (want st net l s t.0).rows e.1) z h))

  pub more_proper : (fed : List Line) (st : StyleKind) (s : Session) → AreProper l fed → AreProper l (fed ++ wants_lines st s net (hop_wants st net l s order))
  more_proper fed st s p x i = ⊎_elim (λ (j : In x fed). p x j) (λ (j : In x (wants_lines st s net (hop_wants st net l s order))). proper_lines st s x j)
      (in_append x fed (wants_lines st s net (hop_wants st net l s order)) i)

  -- what names someone is in a book
  names_kept : (fed : List Line) (books : List BookTable) → HaveLines fed books → AreProper l fed → (st : StyleKind) (s : Session) → NameOnly st s (all_names st l s) books
  names_kept fed books have proper st s e u q got = at_or_past (nat_lt e (length books)) refl
    where
      at_or_past : (b : Bool) → nat_lt e (length books) ≡ b → IsWithin q.senders (all_names st l s)
      at_or_past true t =
          let lt : e < length books = grind (arith, t) in
          merge_keeps entry_keys entry_key (λ x. x.part) (λ p. IsWithin p.senders (all_names st l s)) (λ a b h k. union_least a.senders b.senders (all_names st l s) h k) (at_end e fed)
          (record { session = s; style = st; unit = u }) q
          (ap (λ b. get b (record { session = s; style = st; unit = u })) (sym (have e lt)) ∙ got)
          (λ x i named at.
          let f = in_filter (λ (x : Line). x.end == e) x fed i in
          subst (λ (k : EntryKey). IsWithin x.part.senders (all_names k.style l k.session)) (sym at) (proper x f.0))
      at_or_past false t = let none = past_all books e (grind (arith, t)) in let z = sym (ap (λ b. get b (record { session = s; style = st; unit = u })) none) ∙ got in cc

  pub has_room : (valid : IsValid net) (fed : List Line) (books : List BookTable) → HaveLines fed books → AreProper l fed → (st : StyleKind) (s : Session) → length (live l s) ≤ 16
      → HasRoom st s books (hop_wants st net l s order)
  has_room valid fed books have proper st s few =
      record {
        all = all_names st l s;
        few = let a = size-set_of senders (each (name_of st) (live l s)) in let b = length-map (live l s) (name_of st) in omega arith;
        entries = names_kept fed books have proper st s;
        parts = λ w e i j.
            let h = in_each (want_of st s) w (hops_in s.group order) i in
            let at : In e (want st net l s h.0).rows = subst (λ (y : HopWant). In e y.parts.rows) h.2 j in
            λ z k. names_of_all st net l s h.0 z (value_names st net l s h.0 e.1 (to_each (λ (e : UnitOf × Part). e.1) e (want st net l s h.0).rows at) z k);
        named = λ w e i j.
            let h = in_each (want_of st s) w (hops_in s.group order) i in
            let at : In e (want st net l s h.0).rows = subst (λ (y : HopWant). In e y.parts.rows) h.2 j in
            let got : get (want st net l s h.0) e.0 ≡ Some e.1 = in_found units (want st net l s h.0) e.0 e.1 at in
            merge_named units (part_unit st) (λ p. p) (own st net l s h.0 ++ flat_map (brought st net l s h.0 (want st net l s)) (followers net s.group h.0)) e.0 e.1
            (ap (λ t. get t e.0) (sym ((want_equation st net l s valid.loop_free).equation h.0)) ∙ got);
      }

  pub inside : (valid : IsValid net) (st : StyleKind) (s : Session) (books : List BookTable) → length books ≡ length net.ends → AreInside books (hop_wants st net l s order)
  inside valid st s books size w i =
      let h = in_each (want_of st s) w (hops_in s.group order) i in
      let lt = (ends_inside net valid s.group h.0 (from_hops s.group h.0 h.1)).0 in
      let at = ap (λ (y : HopWant). y.hop.from) h.2 in
      omega arith

-- ---- sessions one by one
pub sessions_more : (st : StyleKind) (net : Net) (l : Locals) (order : List GroupHop) (ss : List Session) (i : ℕ) (d s : Session) (fed : List Line) → i < length ss → s ≡ slice_index_or ss i d
    → fed ++ style_lines st net l order (take (i + 1) ss) ≡ (fed ++ style_lines st net l order (take i ss)) ++ wants_lines st s net (hop_wants st net l s order)
sessions_more st net l order ss i d s fed lt is =
    ap (λ xs. fed ++ xs) (ap (style_lines st net l order) (take_more ss i d s lt is) ∙ flat_append (λ s. wants_lines st s net (hop_wants st net l s order)) (take i ss) (s ∷ [])
    ∙ ap (λ ys. style_lines st net l order (take i ss) ++ ys) (append_none (wants_lines st s net (hop_wants st net l s order))))
    ∙ sym (append_assoc fed (style_lines st net l order (take i ss)) (wants_lines st s net (hop_wants st net l s order)))

-- ---- in the end
pub nothing_first : (n : ℕ) → HaveLines [] (replicate n empty)
nothing_first zero e lt = absurd (omega arith)
nothing_first (suc n) zero lt = refl
nothing_first (suc n) (suc e) lt = nothing_first n e (omega arith)

pub fed_first : (l : Locals) (n : ℕ) (books : List BookTable) → books ≡ replicate n empty → AreFed l books
fed_first l n books e = record { lines = []; have = subst (HaveLines []) (sym e) (nothing_first n); proper = λ x i. absurd i }

pub demands_are : (net : Net) (l : Locals) (order : List GroupHop) (ss : List Session) (w f s : List BookTable) → AreByRank net order
    → ((x : Session) → In x ss ↔ In x (each (λ (v : LocalWant). v.session) l.wants))
    → ((fed : List Line) → HaveLines fed w → HaveLines (fed ++ style_lines Fixed net l order ss) f) → ((fed : List Line) → HaveLines fed f → HaveLines (fed ++ style_lines Shared net l order ss) s)
    → HaveLines ([] ++ style_lines Wild net l order ss) w → length s ≡ length net.ends → AreDemands net l s
demands_are net l order ss w f s by these second third first size =
    let have = third (([] ++ style_lines Wild net l order ss) ++ style_lines Fixed net l order ss) (second ([] ++ style_lines Wild net l order ss) first) in
    record {
      all = size;
      each = λ e lt.
          have e (let z : e < length s = omega arith in z) ∙ ap (book_of_end e) (append_assoc (style_lines Wild net l order ss) (style_lines Fixed net l order ss) (style_lines Shared net l order ss))
          ∙ demand_is net l order by ss (λ x i. session_named l x ((these x).0 i)) (λ x i. (these x).1 (named_session l x i)) e;
    }
