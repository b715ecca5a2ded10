-- What goes toward a previous hop is the want of its hop, where paths are sound and complete, what follows is exact and no blockade
-- lives.
use Rattle.std.specs.Prelude.{◌≡◌, ℕ, Bool, true, false, not, ◌||◌, List, [], ◌∷◌, ◌++◌, Option, Some, slice_get, refl}
use Rattle.std.specs.List.{filter, flat_map, list_any}
use Rattle.std.specs.Option.{option_map}
use Rattle.std.proofs.Common.{sym, ap, subst, ◌∙◌, inl, inr, ⊎_elim}
use Rattle.rsvp_base.specs.declared.addr.Addr.{Addr}
use Rattle.rsvp_base.specs.declared.part.Part.{Part}
use Rattle.rsvp_base.specs.declared.session.Sender.{Sender}
use Rattle.rsvp_base.specs.declared.style.StyleKind.{StyleKind}
use Rattle.rsvp_base.specs.declared.style.StyleKind.TheVariants.{Wild, Fixed, Shared}
use Rattle.rsvp_base.specs.declared.style.Unit.{Unit as UnitOf}
use Rattle.rsvp_base.specs.Members.{In}
use Rattle.rsvp_base.specs.Orders.{Names, senders, sessions, styles, units}
use Rattle.rsvp_base.specs.Sets.{IsWithin, is_none, cut}
use Rattle.rsvp_base.specs.Table.{get, has, keys, values}
use Rattle.rsvp_base.specs.TokenBucket.{TokenBucket}
use Rattle.rsvp_base.proofs.Counts.{in_found}
use Rattle.rsvp_base.proofs.Members.{in_append, in_each, in_filter, in_flat_map, to_each}
use Rattle.rsvp_base.proofs.SetLaws.{and_both, and_made, has-cut}
use Rattle.rsvp_base.proofs.Tables.{tied_same}
use Rattle.flow_merge.specs.FlowOrder.{IsAtMost}
use Rattle.flow_merge.proofs.Lattice.{at_most_itself}
use Rattle.style_rules.specs.CutLaws.{some_within, part_of_some, cut_of}
use Rattle.style_rules.specs.Lines.{LineKey}
use Rattle.style_rules.specs.PartLaws.{part_at_most_itself}
use Rattle.style_rules.specs.Parts.{has_name, part_cut, IsPartAtMost, IsOfStyle}
use Rattle.style_rules.specs.declared.target.Target.{Target}
use Rattle.style_rules.specs.declared.target.Target.TheVariants as target
use Rattle.style_rules.specs.Toward.{Request, is_walled, parts_of}
use Rattle.style_rules.proofs.Merges.{merges_same}
use Rattle.style_rules.proofs.StyleLaws.{cut_of_style, within_unit}
use Rattle.style_rules.proofs.Towards.{toward_open}
use Rattle.laws_bounds.specs.FactLaws.{IsResvRequest, IsWantRequest}
use Rattle.laws_bounds.proofs.Knowing.{known_and_via}
use Rattle.laws_bounds.proofs.Requesting.{requests_and_toward}
use Rattle.laws_bounds.proofs.Tests.{came_tested}
use Rattle.router_rules.specs.Facts.{Blockade, Facts, Walls, resvs_of}
use Rattle.router_rules.specs.Known.{Lane, names_via, names_via_where}
use Rattle.router_rules.specs.NodeConfig.{NodeConfig, goes_out}
use Rattle.router_rules.specs.Requests.{is_blockaded, requests, toward, wall_at, want_part}
use Rattle.tree_model.specs.declared.hops.LinkHop.{LinkHop}
use Rattle.tree_model.specs.declared.locals.LocalWant.{LocalWant}
use Rattle.tree_model.specs.Goals.{addr_of}
use Rattle.tree_model.specs.Networks.{node_of, iface_of}
use Rattle.tree_model.specs.Ranks.{Follows, followers, rank}
use Rattle.tree_model.specs.Trees.{outward, tree}
use Rattle.tree_model.specs.Wants.{as_list, brought, is_wanted_at, names, own, want, wanted_of}
use Rattle.tree_model.proofs.Following.{follower_follows, has_hop_in, in_tree, same_number}
use Rattle.tree_model.proofs.TreeLaws.{out_tested}
use Rattle.tree_model.proofs.WantLaws.{in_as_list, name_told, want_equation}
use Rattle.network_model.specs.Bounds.{AreBounds}
use Rattle.network_model.specs.Locals.{locals_of}
use Rattle.network_model.specs.Sound.{ArePathsComplete, ArePathsSound, IsExact}
use Rattle.network_model.specs.Worlds.{World, config_of}
use Rattle.network_model.proofs.NodeLocals.{want_of_node}
use Rattle.settle_paths.proofs.Known.{of_some}
use Rattle.settle_paths.proofs.Standing.{goes_out_made}
use Rattle.settle_resvs.proofs.WantStyles.{own_style, want_parts}
use Rattle.settle_paths.specs.PreviousHops.{IsPrevious}
use Rattle.settle_paths.proofs.PreviousHops.{comes_over, via_is}
use Rattle.settle_resvs.specs.Below.{AreSoundBelow}
use Rattle.settle_resvs.specs.Sessions.{HasNoBlockade}
use Rattle.settle_resvs.proofs.TowardWants.{stands_above}
use Rattle.rsvp_base.specs.Styles.{part_unit}

not_false : (b : Bool) → not b ≡ true → b ≡ false
not_false true e = cc
not_false false e = refl

-- ---- without blockades
module _ (l : Lane) (walls : Walls) (none : HasNoBlockade l.session walls) where
  open_at : (t : Target) (flow : TokenBucket) → is_walled flow (wall_at walls (l.session, t)) ≡ false
  open_at t flow = ap (λ (b : Option Blockade). is_walled flow (option_map (λ (z : Blockade). z.wall) b)) (none t)

  nobody_walled : (flow : TokenBucket) (xs : List Sender) → list_any (λ (x : Sender). is_walled flow (wall_at walls (l.session, target.Sender x))) xs ≡ false
  nobody_walled flow [] = refl
  nobody_walled flow (x ∷ xs) = ap (λ (b : Bool). b || list_any (λ (z : Sender). is_walled flow (wall_at walls (l.session, target.Sender z))) xs) (open_at (target.Sender x) flow) ∙ nobody_walled flow xs

  pub open_one : (st : StyleKind) (p : Part) → is_blockaded st walls l p ≡ false
  open_one Wild p = open_at (target.Hop l.hop.0 l.hop.1) p.flow
  open_one Fixed p = nobody_walled p.flow (keys p.senders)
  open_one Shared p = nobody_walled p.flow (keys p.senders)

pub unmarked : (p : NodeConfig) (f : Facts) (l : Lane) → HasNoBlockade l.session f.walls → (r : Request) → In r (requests p f l) → r.blockaded ≡ false
unmarked p f l none r i =
    let shut : is_blockaded l.style f.walls l r.part ≡ false = open_one l f.walls none l.style r.part in
    ⊎_elim (λ (x : IsResvRequest p f l r). x.blockaded ∙ shut) (λ (x : IsWantRequest f l r). x.blockaded ∙ shut) ((requests_and_toward.each p f l r).0 i)

-- a wildcard want stands for the names that are given, another one is cut to them, at a node as over a hop
same_part : (st : StyleKind) (ns : Names) (p : Part) → want_part st ns p ≡ wanted_of st ns p
same_part Wild ns p = refl
same_part Fixed ns p = refl
same_part Shared ns p = refl

module _ (q : ℕ) (w : World) (bounds : AreBounds q w) (paths : ArePathsSound w) (complete : ArePathsComplete w) (n : ℕ) (f : Facts) (at : slice_get w.nodes n ≡ Some f)
    (l : Lane) (free : HasNoBlockade l.session f.walls) (h : LinkHop) (is : IsPrevious w.net n l.session l.hop h)
    (low : AreSoundBelow l.style w n f l.session (rank w.net l.session.group h)) (exact : (h' : LinkHop) → Follows w.net l.session.group h h' → In h' (followers w.net l.session.group h)
    → IsExact l.style w l.session h') where
  abbrev place : NodeConfig
  place = config_of q w.net w.trees n

  abbrev over : List LinkHop → Names
  over hs = names l.style w.net (locals_of w) l.session hs

  abbrev rest : List Part
  rest = flat_map (brought l.style w.net (locals_of w) l.session h (want l.style w.net (locals_of w) l.session)) (followers w.net l.session.group h)

  abbrev parts : List Part
  parts = own l.style w.net (locals_of w) l.session h ++ rest

  via : names_via f l ≡ over (h ∷ [])
  via = via_is w bounds.net paths complete n f at l h is

  -- a request that stands above a part of the equation
  record IsAsked (y : Part) : Type 0 where
    request : Request
    among : In request (requests place f l)
    above : IsPartAtMost y request.part
    style : IsOfStyle l.style request.part

  of_own : (y : Part) → In y (own l.style w.net (locals_of w) l.session h) → IsAsked y
  of_own y i =
      let x = in_flat_map (λ (z : LocalWant). as_list (wanted_of l.style (over (h ∷ [])) z.part)) y (filter (is_wanted_at l.style l.session (node_of w.net.ends h.to)) (locals_of w).wants) i in
      let t = in_filter (is_wanted_at l.style l.session (node_of w.net.ends h.to)) x.0 (locals_of w).wants x.1 in
      let one = and_both _ _ t.1 in
      let two = and_both _ _ one.1 in
      let node : x.0.node ≡ n = same_number x.0.node (node_of w.net.ends h.to) one.0 ∙ is.node in
      let r = want_of_node w x.0 t.0 in
      let here : r.0 ≡ f = of_some r.0 f (sym r.3 ∙ ap (λ (z : ℕ). slice_get w.nodes z) node ∙ at) in
      let style : r.2.style ≡ l.style = sym (ap (λ (z : LocalWant). z.style) r.5) ∙ sym (tied_same styles l.style x.0.style two.1) in
      let session : r.1.0 ≡ l.session = sym (ap (λ (z : LocalWant). z.session) r.5) ∙ sym (tied_same sessions l.session x.0.session two.0) in
      let there : get f.wants (l.session, r.1.1) ≡ Some r.2 = ap (λ (z : Facts). get z.wants (l.session, r.1.1)) (sym here) ∙ (λ k. get r.0.wants (sym session k, r.1.1)) ∙ r.4 in
      let made : wanted_of l.style (over (h ∷ [])) r.2.part ≡ Some y = ap (λ (z : LocalWant). wanted_of l.style (over (h ∷ [])) z.part) (sym r.5)
      ∙ in_as_list (wanted_of l.style (over (h ∷ [])) x.0.part) y x.2 in
      let asked : want_part l.style (names_via f l) r.2.part ≡ Some y = ap (λ (z : Names). want_part l.style z r.2.part) via ∙ same_part l.style (over (h ∷ [])) r.2.part ∙ made in
      let request : Request = record { part = y; blockaded = is_blockaded l.style f.walls l y } in
      record {
        request = request;
        among = (requests_and_toward.each place f l request).1 (inr (record { unit = r.1.1; want = r.2; there = there; style = style; part = asked; blockaded = refl }));
        above = part_at_most_itself y;
        style = own_style l.style w.net (locals_of w) l.session (want_parts q w bounds) h y i;
      }

  -- names over both hops are via the one and go out by the other
  both_ways : (h' : LinkHop) → Follows w.net l.session.group h h' → (x : Sender) → has (over (h ∷ h' ∷ [])) x ≡ true
      → has (names_via_where f l (goes_out place l.session (iface_of w.net.ends h'.from))) x ≡ true
  both_ways h' follows x e =
      let a = name_told l.style w.net (locals_of w) l.session (h ∷ h' ∷ []) x e in
      let one = and_both _ _ a.2 in
      let two = and_both _ _ one.1 in
      let in_h = has_hop_in (tree w.net.hops l.session.group a.0.addr) h one.0 in
      let in_h' = has_hop_in (tree w.net.hops l.session.group a.0.addr) h' two.0 in
      let p = comes_over w bounds.net paths complete n f at l.session a.0 h a.1 in_h is.node in
      let meet : node_of w.net.ends h'.from ≡ n = follows.meet ∙ is.node in
      let leaves : In h'.from (outward w.net n l.session.group a.0.addr) = out_tested w.net n h'.from l.session.group a.0.addr (h', in_h', refl, meet) in
      let r = in_tree w.net.hops l.session.group a.0.addr h' in_h' in
      let routed : In (l.session.group, a.0.addr) w.trees = subst (λ (z : Addr × Addr). In z w.trees) (λ j. (r.2 j, r.3 j)) (bounds.routed r.0 r.1) in
      (known_and_via.names_by f l (goes_out place l.session (iface_of w.net.ends h'.from)) x).1
      (record {
        sender = a.0;
        among = (known_and_via.via_by f l.session l.hop a.0).1 (record { path = p.0; there = p.1; by = came_tested l.hop p.0 (p.2 ∙ is.iface, p.3 ∙ is.addr) });
        passes = goes_out_made q w.net w.trees n l.session h'.from a.0 routed leaves;
        name = a.3;
      })

  of_brought : (y : Part) → has_name y ≡ true → In y rest → IsAsked y
  of_brought y named i =
      let x = in_flat_map (brought l.style w.net (locals_of w) l.session h (want l.style w.net (locals_of w) l.session)) y (followers w.net l.session.group h) i in
      let h' = x.0 in
      let follows = follower_follows w.net l.session.group h h' x.1 in
      let p = in_flat_map (λ (z : Part). as_list (part_cut z (over (h ∷ h' ∷ [])))) y (values (want l.style w.net (locals_of w) l.session h')) x.2 in
      let e = in_each (λ (z : UnitOf × Part). z.1) p.0 (want l.style w.net (locals_of w) l.session h').rows p.1 in
      let wanted : get (want l.style w.net (locals_of w) l.session h') e.0.0 ≡ Some e.0.1 = in_found units (want l.style w.net (locals_of w) l.session h') e.0.0 e.0.1 e.1 in
      let x' = exact h' follows x.1 in
      let r = x'.wanted e.0.0 e.0.1 wanted in
      let meet : node_of w.net.ends h'.from ≡ n = follows.meet ∙ is.node in
      let here : x'.facts ≡ f = of_some x'.facts f (sym x'.node ∙ ap (λ (z : ℕ). slice_get w.nodes z) meet ∙ at) in
      let key : LineKey = (l.session, ((iface_of w.net.ends h'.from, addr_of w.net h'.to), e.0.0)) in
      let there : get (resvs_of l.style f) key ≡ Some r.0 = ap (λ (z : Facts). get (resvs_of l.style z) key) (sym here) ∙ r.1 in
      let same : r.0.part ≡ p.0 = r.2 ∙ sym e.2 in
      let cut_is = cut_of p.0 y (over (h ∷ h' ∷ [])) (in_as_list (part_cut p.0 (over (h ∷ h' ∷ []))) y p.2) in
      let via' : Names = names_via_where f l (goes_out place l.session (iface_of w.net.ends h'.from)) in
      let less : IsWithin y.senders (cut r.0.part.senders via') =
      (λ z t.
      let b = and_both _ _ (sym (has-cut senders p.0.senders (over (h ∷ h' ∷ [])) z) ∙ subst (λ (s : Names). has s z ≡ true) cut_is.senders t) in
      has-cut senders r.0.part.senders via' z ∙ and_made _ _ (ap (λ (s : Part). has s.senders z) same ∙ b.0) (both_ways h' follows z b.1)) in
      let z : Part = record { senders = cut r.0.part.senders via'; flow = r.0.part.flow } in
      let made : part_cut r.0.part via' ≡ Some z = part_of_some (cut r.0.part.senders via') r.0.part.flow
      (some_within y.senders (cut r.0.part.senders via') less (not_false (is_none y.senders) named)) in
      let request : Request = record { part = z; blockaded = is_blockaded l.style f.walls l z } in
      record {
        request = request;
        among = (requests_and_toward.each place f l request).1 (inl (record {
          key = (
            (iface_of w.net.ends h'.from, addr_of w.net h'.to),
            e.0.0,
          );
          resv = r.0;
          there = there;
          part = made;
          blockaded = refl;
        }));
        above = record { names = less; flow = subst (λ (s : TokenBucket). IsAtMost s r.0.part.flow) (sym (cut_is.flow ∙ ap (λ (s : Part). s.flow) (sym same))) (at_most_itself r.0.part.flow) };
        style = cut_of_style l.style r.0.part z via' ((bounds.facts n f at).shapes.resvs l.style key r.0 there).style made;
      }

  over_parts : (y : Part) → In y parts → has_name y ≡ true → (x : Part) × In x (parts_of (requests place f l)) × (part_unit l.style y ≡ part_unit l.style x) × IsPartAtMost y x
  over_parts y i named =
      let a = ⊎_elim (λ (j : In y (own l.style w.net (locals_of w) l.session h)). of_own y j) (λ (j : In y rest). of_brought y named j)
      (in_append y (own l.style w.net (locals_of w) l.session h) rest i) in
      (a.request.part, to_each (λ (r : Request). r.part) a.request (requests place f l) a.among, within_unit l.style a.request.part y a.style named a.above.names, a.above)

  under_parts : (x : Part) → In x (parts_of (requests place f l)) → has_name x ≡ true → (y : Part) × In y parts × (part_unit l.style x ≡ part_unit l.style y) × IsPartAtMost x y
  under_parts x i named =
      let r = in_each (λ (r : Request). r.part) x (requests place f l) i in
      let s = stands_above q w bounds paths n f at l h is low r.0 r.1 (subst (λ (z : Part). has_name z ≡ true) r.2 named) in
      let above : IsPartAtMost x s.0 = subst (λ (z : Part). IsPartAtMost z s.0) (sym r.2) s.2 in
      (s.0, s.1, within_unit l.style s.0 x s.3 named above.names, above)

  pub toward_is_the_want : toward place f l ≡ want l.style w.net (locals_of w) l.session h
  toward_is_the_want =
      toward_open l.style (requests place f l) (unmarked place f l free)
      ∙ merges_same units (part_unit l.style) (λ (p : Part). p) (part_unit l.style) (λ (p : Part). p) (parts_of (requests place f l)) parts under_parts over_parts
      ∙ sym ((want_equation l.style w.net (locals_of w) l.session bounds.net.loop_free).equation h)
