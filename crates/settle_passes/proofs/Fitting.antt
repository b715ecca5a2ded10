-- Where no more is wanted than before, each session fits that did, and so do the demands.
use Rattle.std.proofs.Common.{◌≡◌, ℕ, List, [], ◌∷◌, Some, arith, sym, refl, ap, subst, ◌∙◌, Bool}
use Rattle.std.proofs.lemmas.Bool.{not-true}
use Rattle.std.specs.List.{filter, flat_map}
use Rattle.rsvp_base.specs.declared.entry_key.EntryKey.{EntryKey}
use Rattle.rsvp_base.specs.declared.part.Part.{Part}
use Rattle.rsvp_base.specs.declared.session.Session.{Session}
use Rattle.rsvp_base.specs.declared.style.StyleKind.{StyleKind}
use Rattle.rsvp_base.specs.declared.style.StyleKind.TheVariants.{Fixed, Shared, Wild}
use Rattle.rsvp_base.specs.declared.style.Unit.{Unit as UnitOf}
use Rattle.rsvp_base.specs.Members.{In}
use Rattle.rsvp_base.specs.Orders.{units}
use Rattle.rsvp_base.specs.Sets.{is_none}
use Rattle.rsvp_base.specs.Table.{get}
use Rattle.rsvp_base.proofs.Counts.{in_found}
use Rattle.rsvp_base.proofs.Members.{in_each, in_filter, in_flat_map}
use Rattle.style_rules.specs.CutLaws.{some_name}
use Rattle.style_rules.specs.Lines.{AreUnder, Line, at_end, line_key}
use Rattle.style_rules.specs.PartLaws.{part_at_most_itself, part_at_most_tested, part_at_most_told}
use Rattle.style_rules.specs.Parts.{IsPartAtMost}
use Rattle.style_rules.proofs.Books.{book_below, held_at_end_below, under_at_end}
use Rattle.style_rules.proofs.Room.{within_below}
use Rattle.router_rules.specs.Facts.{Facts}
use Rattle.tree_model.specs.declared.hops.LinkHop.{LinkHop}
use Rattle.tree_model.specs.declared.locals.LocalWant.{LocalWant}
use Rattle.tree_model.specs.Goals.{DemandsFit, addr_of, demand_of, goal, hop_lines, hops_in_order, sessions_named}
use Rattle.tree_model.specs.Networks.{node_of}
use Rattle.tree_model.specs.Trees.{goes_out_of, hops_of}
use Rattle.tree_model.specs.Wants.{Locals, want}
use Rattle.tree_model.proofs.Following.{same_number}
use Rattle.network_model.specs.Locals.{locals_of}
use Rattle.network_model.specs.Sound.{IsSoundPart}
use Rattle.network_model.specs.Worlds.{World}
use Rattle.settle_resvs.specs.GoalByIface.{line_over}
use Rattle.settle_resvs.specs.Laws.{AreWantParts}
use Rattle.settle_resvs.specs.Sessions.{Carries, SessionFits}
use Rattle.settle_resvs.proofs.GoalByIface.{hop_in_order}
use Rattle.settle_resvs.proofs.UnderTheGoal.{goal_made}
use Rattle.settle_resvs.proofs.WantStyles.{want_style}
use Rattle.settle_passes.proofs.Growing.{HasNoLess}

-- ---- the network with its nodes as they were
abbrev pub as_before : List Facts → World → World
as_before before w = record w { nodes = before }

-- what is wanted over a hop is sound there
pub want_is_sound : (w : World) → AreWantParts (locals_of w) → (st : StyleKind) (s : Session) (h : LinkHop) → In h (hops_of w.net.hops s.group) → (u : UnitOf) (p : Part)
    → get (want st w.net (locals_of w) s h) u ≡ Some p → IsSoundPart st w s h.from (addr_of w.net h.to) u p
want_is_sound w parts st s h there u p got = record {
  some = some_name p.senders (not-true (is_none p.senders) (want_style st w.net (locals_of w) s parts h u p got).0.named);
  hop = h;
  there = there;
  from = refl;
  to = refl;
  wanted = p;
  is = got;
  below = part_at_most_tested p p (part_at_most_itself p);
}

-- ---- where with the nodes as they were what is wanted over a hop was, and no less
module _ (before : List Facts) (w : World)
    (wanted_before : (st : StyleKind) (s : Session) (h : LinkHop) → In h (hops_of w.net.hops s.group) → (u : UnitOf) (p : Part) → get (want st w.net (locals_of w) s h) u ≡ Some p
    → IsSoundPart st (as_before before w) s h.from (addr_of w.net h.to) u p)
    (wants : (x : LocalWant) → In x (locals_of w).wants → HasNoLess (locals_of (as_before before w)).wants x) where
  abbrev was : Locals
  was = locals_of (as_before before w)

  -- what is owed over each hop out of a node lies under what was
  under : (n : ℕ) → AreUnder (goal w.net (locals_of w) n) (goal w.net was n)
  under n g i =
      let out : LinkHop → Bool = goes_out_of w.net.ends n in
      let hops : Session → List LinkHop = λ s. filter out (hops_in_order (hops_of w.net.hops s.group)) in
      let a = in_flat_map (λ st. flat_map (λ s. flat_map (hop_lines st w.net (locals_of w) s) (hops s)) (sessions_named (locals_of w))) g (Wild ∷ Fixed ∷ Shared ∷ []) i in
      let b = in_flat_map (λ s. flat_map (hop_lines a.0 w.net (locals_of w) s) (hops s)) g (sessions_named (locals_of w)) a.2 in
      let c = in_flat_map (hop_lines a.0 w.net (locals_of w) b.0) g (hops b.0) b.2 in
      let f = in_filter out c.0 (hops_in_order (hops_of w.net.hops b.0.group)) c.1 in
      let e = in_each (λ (e : UnitOf × Part). line_over w.net a.0 b.0 c.0 e) g (want a.0 w.net (locals_of w) b.0 c.0).rows c.2 in
      let got : get (want a.0 w.net (locals_of w) b.0 c.0) e.0.0 ≡ Some e.0.1 = in_found units (want a.0 w.net (locals_of w) b.0 c.0) e.0.0 e.0.1 e.1 in
      let y = wanted_before a.0 b.0 c.0 (hop_in_order (hops_of w.net.hops b.0.group) c.0 f.0) e.0.0 e.0.1 got in
      let node : node_of w.net.ends y.hop.from ≡ n = ap (node_of w.net.ends) y.from ∙ same_number (node_of w.net.ends c.0.from) n f.1 in
      let over : Line = line_over w.net a.0 b.0 y.hop (e.0.0, y.wanted) in
      let key : line_key (line_over w.net a.0 b.0 c.0 e.0) ≡ line_key over = (λ j. (b.0, ((sym y.from j, sym y.to j), e.0.0))) in (
        over,
        goal_made a.0 w.net was n b.0 y.hop e.0.0 y.wanted y.there node y.is,
        record {
          style = ap (λ (z : Line). z.style) e.2;
          key = ap line_key e.2 ∙ key;
          part = subst (λ (z : Line). IsPartAtMost z.part y.wanted) (sym e.2) (part_at_most_told e.0.1 y.wanted y.below);
        },
      )

  -- an end that carries a session did
  carried : (s : Session) (e : ℕ) → Carries w.net (locals_of w) s e → Carries w.net was s e
  carried s e c =
      let y = wanted_before c.style s c.hop c.there c.unit c.part c.wanted in
      record { hop = y.hop; there = y.there; from = y.from ∙ c.from; style = c.style; unit = c.unit; part = y.wanted; wanted = y.is }

  -- what is owed at an end was, and no less
  owed : (e : ℕ) (k : EntryKey) (p : Part) → get (demand_of w.net (locals_of w) e) k ≡ Some p → (y : Part) × (get (demand_of w.net was e) k ≡ Some y) × IsPartAtMost p y
  owed e k p got =
      let n : ℕ = node_of w.net.ends e in
      book_below (at_end e (goal w.net (locals_of w) n)) (at_end e (goal w.net was n)) (under_at_end e (goal w.net (locals_of w) n) (goal w.net was n) (under n)) k p got

  -- so a session that fitted fits
  pub session_below : (s : Session) → SessionFits w.net was s → SessionFits w.net (locals_of w) s
  session_below s fit = record {
    capacity = λ e x is c.
        let n : ℕ = node_of w.net.ends e in
        let less = held_at_end_below e (goal w.net (locals_of w) n) (goal w.net was n) (under n) in
        let room = fit.capacity e x is (carried s e c) in
        omega (arith, less, room);
    mtu = λ e x k p is of got. let y = owed e k p got in let less = y.2.flow.most in let room = fit.mtu e x k y.0 is of y.1 in omega (arith, less, room);
    one_style = λ v x i j mine others.
        let a = wants v i in
        let b = wants x j in
        sym a.style ∙ fit.one_style a.want b.want a.among b.among (a.session ∙ mine) (b.session ∙ others) ∙ b.style;
    limits = λ e st c.
        let n : ℕ = node_of w.net.ends e in
        within_below st (goal w.net (locals_of w) n) (goal w.net was n) (under n) (fit.limits e st (carried s e c));
  }

  -- and demands that fitted fit
  pub demands_below : DemandsFit w.net was → DemandsFit w.net (locals_of w)
  demands_below fit = record {
    capacity = λ e x is.
        let n : ℕ = node_of w.net.ends e in
        let less = held_at_end_below e (goal w.net (locals_of w) n) (goal w.net was n) (under n) in
        let room = fit.capacity e x is in
        omega (arith, less, room);
    mtu = λ e x k p is got. let y = owed e k p got in let less = y.2.flow.most in let room = fit.mtu e x k y.0 is y.1 in omega (arith, less, room);
    one_style = λ v x i j same.
        let a = wants v i in
        let b = wants x j in
        sym a.style ∙ fit.one_style a.want b.want a.among b.among (a.session ∙ same ∙ sym b.session) ∙ b.style;
    limits = λ n st. within_below st (goal w.net (locals_of w) n) (goal w.net was n) (under n) (fit.limits n st);
  }
