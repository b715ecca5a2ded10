-- The goal of a node with its lines by interface, as a node's own lines are: it is within the same limits, its books are those
-- of the ends, and where a session fits the node can hold it as far as the session goes.
use Rattle.std.specs.Prelude.{◌≡◌, ℕ, ◌<◌, ◌≤◌, ◌==◌, List, [], ◌∷◌, length, map as each, Option, Some, slice_get, refl}
use Rattle.std.specs.List.{filter, flat_map}
use Rattle.std.specs.Ordering.{eq_by_cmp}
use Rattle.std.proofs.Common.{zero, suc, sym, ap, subst, ◌∙◌, inl, inr, arith}
use Rattle.rsvp_base.specs.declared.iface.Iface.{Iface}
use Rattle.rsvp_base.specs.declared.addr.Addr.{Addr}
use Rattle.rsvp_base.specs.declared.part.Part.{Part}
use Rattle.rsvp_base.specs.declared.session.Sender.{Sender}
use Rattle.rsvp_base.specs.declared.session.Session.{Session}
use Rattle.rsvp_base.specs.declared.style.StyleKind.{StyleKind}
use Rattle.rsvp_base.specs.declared.style.StyleKind.TheVariants.{Wild, Fixed, Shared}
use Rattle.rsvp_base.specs.declared.style.Unit.{Unit as UnitOf}
use Rattle.rsvp_base.specs.Members.{In}
use Rattle.rsvp_base.specs.Orders.{Names, sessions, styles, senders, entry_keys}
use Rattle.rsvp_base.specs.Sets.{Set, set_of}
use Rattle.rsvp_base.specs.Table.{get, keys, size}
use Rattle.rsvp_base.proofs.Counts.{set_of_in}
use Rattle.rsvp_base.proofs.Members.{in_each, in_filter, in_flat_map}
use Rattle.style_rules.specs.Limits.{IsWithinLimits, of_style, of_session, line_keys_of, sessions_of, next_hops_of, names_of}
use Rattle.style_rules.specs.Lines.{Line, LineKey, NextHop, line_key, line_keys, next_hop, next_hops, entry_key, merged_book, BookTable, book_of_end, held}
use Rattle.style_rules.proofs.Merges.{merge_of-each}
use Rattle.tree_model.specs.declared.hops.End.{End}
use Rattle.tree_model.specs.declared.hops.LinkHop.{LinkHop}
use Rattle.tree_model.specs.Networks.{Net, node_of, ends_of, end_at, iface_of}
use Rattle.tree_model.specs.Trees.{hops_of, goes_out_of}
use Rattle.tree_model.specs.Valid.{IsValid}
use Rattle.tree_model.proofs.Following.{same_number, number_same}
use Rattle.tree_model.proofs.Ifaces.{interfaces_are_ends}
use Rattle.tree_model.specs.Goals.{DemandsFit, demand_of, end_pairs, goal, hops_in_order, hop_lines, sessions_named}
use Rattle.tree_model.specs.Wants.{Locals, want}
use Rattle.laws_steps.specs.AcceptingLaws.{CanBeHeld}
use Rattle.settle_paths.specs.Worlds.{ifaces_at, with_iface, config_of}
use Rattle.settle_paths.proofs.Known.{of_some}
use Rattle.settle_paths.proofs.Standing.{some_at, place_in, same_end}
use Rattle.settle_paths.proofs.PreviousHops.{ends_there}
use Rattle.settle_resvs.specs.GoalByIface.{at_iface, goal_at, line_over}
use Rattle.settle_resvs.specs.Sessions.{Carries, SessionFits}
use Rattle.settle_resvs.proofs.Lists.{each_each, filter_each, filter_same, flat_each, image_size, listed_key, same_bool}

-- ---- limits
module _ (net : Net) where
  of_style_at : (st : StyleKind) (gs : List Line) → of_style st (each (at_iface net) gs) ≡ each (at_iface net) (of_style st gs)
  of_style_at st gs = filter_each (λ (l : Line). eq_by_cmp styles.cmp st l.style) (at_iface net) gs

  of_session_at : (s : Session) (gs : List Line) → of_session s (each (at_iface net) gs) ≡ each (at_iface net) (of_session s gs)
  of_session_at s gs = filter_each (λ (l : Line). eq_by_cmp sessions.cmp s l.session) (at_iface net) gs

  key_at : LineKey → LineKey
  key_at k = (k.0, ((iface_of net.ends k.1.0.0, k.1.0.1), k.1.1))

  hop_at : NextHop → NextHop
  hop_at h = (iface_of net.ends h.0, h.1)

  keys_at : (gs : List Line) → each line_key (each (at_iface net) gs) ≡ each key_at (each line_key gs)
  unfolding key_at
  keys_at gs = each_each (at_iface net) line_key gs ∙ sym (each_each line_key key_at gs)

  hops_at : (gs : List Line) → each next_hop (each (at_iface net) gs) ≡ each hop_at (each next_hop gs)
  unfolding hop_at
  hops_at gs = each_each (at_iface net) next_hop gs ∙ sym (each_each next_hop hop_at gs)

  few_keys : (gs : List Line) → size (line_keys_of (each (at_iface net) gs)) ≤ size (line_keys_of gs)
  few_keys gs = subst (λ (ks : List LineKey). size (set_of {o = line_keys} ks) ≤ size (line_keys_of gs)) (sym (keys_at gs)) (image_size line_keys line_keys key_at (each line_key gs))

  few_hops : (gs : List Line) → size (next_hops_of (each (at_iface net) gs)) ≤ size (next_hops_of gs)
  few_hops gs = subst (λ (ks : List NextHop). size (set_of {o = next_hops} ks) ≤ size (next_hops_of gs)) (sym (hops_at gs)) (image_size next_hops next_hops hop_at (each next_hop gs))

  same_sessions : (gs : List Line) → sessions_of (each (at_iface net) gs) ≡ sessions_of gs
  same_sessions gs = ap (λ (ss : List Session). set_of {o = sessions} ss) (each_each (at_iface net) (λ (l : Line). l.session) gs)

  same_names : (gs : List Line) → names_of (each (at_iface net) gs) ≡ names_of gs
  same_names gs = ap (λ (ss : List Sender). set_of {o = senders} ss) (flat_each (at_iface net) (λ (l : Line). keys l.part.senders) gs)

  -- lines by interface are within the limits of the lines by end
  pub limits_at : (st : StyleKind) (gs : List Line) → IsWithinLimits st gs → IsWithinLimits st (each (at_iface net) gs)
  limits_at st gs h = record {
    lines = subst (λ (ls : List Line). size (line_keys_of ls) ≤ 1024) (sym (of_style_at st gs)) (let a = few_keys (of_style st gs) in let b = h.lines in omega (arith, a, b));
    sessions = subst (λ (ls : List Line). size (sessions_of ls) ≤ 32) (sym (of_style_at st gs)) (subst (λ (t : Set sessions). size t ≤ 32) (sym (same_sessions (of_style st gs))) h.sessions);
    next_hops = λ s. subst (λ (ls : List Line). size (next_hops_of ls) ≤ 64) (sym (at s)) (let a = few_hops (of_session s (of_style st gs)) in let b = h.next_hops s in omega (arith, a, b));
    names = λ s. subst (λ (ls : List Line). size (names_of ls) ≤ 16) (sym (at s)) (subst (λ (t : Names). size t ≤ 16) (sym (same_names (of_session s (of_style st gs)))) (h.names s));
  }
    where
      at : (s : Session) → of_session s (of_style st (each (at_iface net) gs)) ≡ each (at_iface net) (of_session s (of_style st gs))
      at s = ap (of_session s) (of_style_at st gs) ∙ of_session_at s (of_style st gs)

-- ---- lines of the goal are at ends of the node
pub hop_in_order : (hs : List LinkHop) (h : LinkHop) → In h (hops_in_order hs) → In h hs
hop_in_order hs h i =
    let p = in_each (λ (p : ℕ × ℕ). record { from = p.0; to = p.1 }) h (keys (set_of {o = end_pairs} (each (λ (h : LinkHop). (h.from, h.to)) hs))) i in
    let there = set_of_in end_pairs (each (λ (h : LinkHop). (h.from, h.to)) hs) p.0 (listed_key end_pairs (set_of {o = end_pairs} (each (λ (h : LinkHop). (h.from, h.to)) hs)) p.0 p.1) in
    let x = in_each (λ (h : LinkHop). (h.from, h.to)) p.0 hs there in
    let same : h ≡ x.0 = p.2 ∙ (λ i. record { from = (x.2 i).0; to = (x.2 i).1 }) in
    subst (λ (z : LinkHop). In z hs) (sym same) x.1

module _ (net : Net) (valid : IsValid net) (l : Locals) (n : ℕ) where
  pub goal_end : (g : Line) → In g (goal net l n) → (g.end < length net.ends) × (node_of net.ends g.end ≡ n)
  goal_end g i =
      let a = in_flat_map (λ st. flat_map (λ s. flat_map (hop_lines st net l s) (filter (goes_out_of net.ends n) (hops_in_order (hops_of net.hops s.group)))) (sessions_named l)) g
      (Wild ∷ Fixed ∷ Shared ∷ []) i in
      let b = in_flat_map (λ s. flat_map (hop_lines a.0 net l s) (filter (goes_out_of net.ends n) (hops_in_order (hops_of net.hops s.group)))) g (sessions_named l) a.2 in
      let c = in_flat_map (hop_lines a.0 net l b.0) g (filter (goes_out_of net.ends n) (hops_in_order (hops_of net.hops b.0.group))) b.2 in
      let f = in_filter (goes_out_of net.ends n) c.0 (hops_in_order (hops_of net.hops b.0.group)) c.1 in
      let e = in_each (λ (e : UnitOf × Part). line_over net a.0 b.0 c.0 e) g (want a.0 net l b.0 c.0).rows c.2 in
      let end : g.end ≡ c.0.from = ap (λ (z : Line). z.end) e.2 in
      let there = (ends_there net valid b.0.group c.0 (hop_in_order (hops_of net.hops b.0.group) c.0 f.0)).0 in
      (subst (λ (z : ℕ). z < length net.ends) (sym end) there, ap (node_of net.ends) end ∙ same_number (node_of net.ends c.0.from) n f.1)

  -- the book of an interface is that of its end
  pub book_at : (i e : ℕ) → end_at net.ends n i ≡ Some e → book_of_end i (goal_at net l n) ≡ book_of_end e (goal net l n)
  book_at i e at =
      let of = (interfaces_are_ends net).iface_of_end n i e at in
      ap merged_book (filter_each (λ (z : Line). z.end == i) (at_iface net) (goal net l n))
      ∙ merge_of-each entry_keys entry_key (λ (z : Line). z.part) (at_iface net) (filter (λ (z : Line). iface_of net.ends z.end == i) (goal net l n))
      ∙ ap merged_book (filter_same (λ (z : Line). iface_of net.ends z.end == i) (λ (z : Line). z.end == e) (goal net l n) (λ g j. same_test g (goal_end g j) of))
    where
      same_test : (g : Line) → (g.end < length net.ends) × (node_of net.ends g.end ≡ n) → (e < length net.ends) × (node_of net.ends e ≡ n) × (iface_of net.ends e ≡ i)
          → (iface_of net.ends g.end == i) ≡ (g.end == e)
      same_test g a of =
          same_bool (iface_of net.ends g.end == i) (g.end == e)
          (λ h. number_same g.end e (same_end net g.end e a.0 of.0 (a.1 ∙ sym of.1) (same_number (iface_of net.ends g.end) i h ∙ sym of.2)))
          (λ h. number_same (iface_of net.ends g.end) i (ap (iface_of net.ends) (same_number g.end e h) ∙ of.2))

-- ---- the node can hold it
with_some : (o : Option End) (x : End) (is : List Iface) → o ≡ Some x → with_iface o is ≡ x.iface ∷ is
with_some o x is e = ap (λ (p : Option End). with_iface p is) e

iface_told : (ends : List End) (es : List ℕ) → ((e : ℕ) → In e es → e < length ends) → (i : ℕ) (on : Iface) → slice_get (ifaces_at ends es) i ≡ Some on
    → (e : ℕ) × (x : End) × (slice_get es i ≡ Some e) × (slice_get ends e ≡ Some x) × (x.iface ≡ on)
iface_told ends [] inside i on h = absurd (cc)
iface_told ends (d ∷ es) inside zero on h =
    let x = some_at ends d (inside d (inl refl)) in
    let first : Some x.0.iface ≡ Some on = ap (λ (is : List Iface). slice_get is 0) (sym (with_some (slice_get ends d) x.0 (ifaces_at ends es) x.1)) ∙ h in
    (d, x.0, refl, x.1, of_some x.0.iface on first)
iface_told ends (d ∷ es) inside (suc k) on h =
    let x = some_at ends d (inside d (inl refl)) in
    let rest : slice_get (ifaces_at ends es) k ≡ Some on = ap (λ (is : List Iface). slice_get is (suc k)) (sym (with_some (slice_get ends d) x.0 (ifaces_at ends es) x.1)) ∙ h in
    let r = iface_told ends es (λ z j. inside z (inr j)) k on rest in
    (r.0, r.1, r.2, r.3, r.4)

-- where a session fits, the node of an end that carries it can hold its goal, as far as the session goes there
pub session_can_be_held : (q : ℕ) (net : Net) (trees : List (Addr × Addr)) (l : Locals) (s : Session) (e : ℕ) → IsValid net → SessionFits net l s → Carries net l s e
    → CanBeHeld (config_of q net trees (node_of net.ends e)) s (iface_of net.ends e) (goal_at net l (node_of net.ends e))
session_can_be_held q net trees l s e valid fit carries = record {
  limits = λ st. limits_at net st (goal net l n) (fit.limits e st carries);
  capacity = λ on is.
      let r = told i on is in
      let room = fit.capacity r.0 r.1 r.3 (subst (Carries net l s) (sym (mine r.0 r.2)) carries) in
      let same : held (book_of_end i (goal_at net l n)) ≡ held (demand_of net l r.0) = ap held (book_at net valid l n i r.0 r.2 ∙ node r.0 i r.2) in
      let cap : r.1.iface.capacity ≡ on.capacity = ap (λ (z : Iface). z.capacity) r.4 in
      omega (arith, room, same, cap);
  mtu = λ on k part is of got.
      let r = told i on is in
      let book : book_of_end i (goal_at net l n) ≡ demand_of net l r.0 = book_at net valid l n i r.0 r.2 ∙ node r.0 i r.2 in
      let room = fit.mtu r.0 r.1 k part r.3 of (subst (λ (t : BookTable). get t k ≡ Some part) book got) in
      let size' : r.1.iface.mtu ≡ on.mtu = ap (λ (z : Iface). z.mtu) r.4 in
      omega (arith, room, size');
}
  where
    n : ℕ
    n = node_of net.ends e

    i : ℕ
    i = iface_of net.ends e

    end_is : end_at net.ends n i ≡ Some e
    end_is = (interfaces_are_ends net).end_of_iface e (subst (λ (z : ℕ). z < length net.ends) carries.from (ends_there net valid s.group carries.hop carries.there).0)

    mine : (d : ℕ) → end_at net.ends n i ≡ Some d → d ≡ e
    mine d at = of_some d e (sym at ∙ end_is)

    inside : (d : ℕ) → In d (ends_of net.ends n) → d < length net.ends
    inside d j = let k = place_in d (ends_of net.ends n) j in ((interfaces_are_ends net).iface_of_end n k.0 d k.1).0

    told : (j : ℕ) (on : Iface) → slice_get (config_of q net trees n).ifaces j ≡ Some on → (d : ℕ) × (x : End) × (end_at net.ends n j ≡ Some d) × (slice_get net.ends d ≡ Some x) × (x.iface ≡ on)
    told j on h = iface_told net.ends (ends_of net.ends n) inside j on h

    node : (d j : ℕ) → end_at net.ends n j ≡ Some d → book_of_end d (goal net l n) ≡ demand_of net l d
    node d j at = ap (λ (m : ℕ). book_of_end d (goal net l m)) (sym ((interfaces_are_ends net).iface_of_end n j d at).1)

-- where the demands fit, each session does
pub each_fits : (net : Net) (l : Locals) → DemandsFit net l → (s : Session) → SessionFits net l s
each_fits net l fit s = record {
  capacity = λ e x is carries. fit.capacity e x is;
  mtu = λ e x k p is of got. fit.mtu e x k p is got;
  one_style = λ v w i j a b. fit.one_style v w i j (a ∙ sym b);
  limits = λ e st carries. fit.limits (node_of net.ends e) st;
}
