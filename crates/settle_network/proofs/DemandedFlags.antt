-- A network whose flags are settled writes those that are demanded: of each entry each flag says what the demand says.
use Rattle.std.proofs.Common.{◌≡◌, ℕ, ◌<◌, List, [], ◌∷◌, length, Bool, true, false, Option, None, Some, refl, sym, ap, subst, ◌∙◌}
use Rattle.std.specs.Prelude.{◌==◌, ◌&&◌, not, slice_get, map as each}
use Rattle.std.specs.List.{flat_map, list_any, range_with_len}
use Rattle.std.specs.Ordering.{eq_by_cmp}
use Rattle.std.proofs.lemmas.Option.{slice_get_within}
use Rattle.rsvp_base.specs.declared.addr.Addr.{Addr}
use Rattle.rsvp_base.specs.declared.entry_key.EntryKey.{EntryKey}
use Rattle.rsvp_base.specs.declared.part.Part.{Part}
use Rattle.rsvp_base.specs.declared.session.Sender.{Sender}
use Rattle.rsvp_base.specs.declared.session.Session.{Session}
use Rattle.rsvp_base.specs.declared.style.StyleKind.TheVariants.{Fixed}
use Rattle.rsvp_base.specs.Members.{In}
use Rattle.rsvp_base.specs.Orders.{senders, sessions, styles, units}
use Rattle.rsvp_base.specs.Sets.{cut, is_none}
use Rattle.rsvp_base.specs.Table.{get, has}
use Rattle.rsvp_base.proofs.Members.{any_in, in_any, in_filter, to_filter}
use Rattle.rsvp_base.proofs.SetLaws.{and_both, and_made, has-cut}
use Rattle.rsvp_base.proofs.Tables.{either, tied_same, tied_self}
use Rattle.style_rules.specs.FlowOrder.{flow_le}
use Rattle.style_rules.specs.Lines.{BookTable, Line, LineKey}
use Rattle.laws_bounds.specs.FlagLaws.{IsMatch}
use Rattle.laws_bounds.proofs.Flagging.{flags_by_paths_and_resvs}
use Rattle.laws_bounds.proofs.Lists.{has_some, one_name}
use Rattle.laws_bounds.proofs.Sending.{not_told}
use Rattle.laws_bounds.proofs.Tests.{style_told, ties}
use Rattle.router_rules.specs.declared.entry.Entry.{Entry}
use Rattle.router_rules.specs.Books.{book}
use Rattle.router_rules.specs.Facts.{Facts, PathState, SenderKey, resvs_of}
use Rattle.router_rules.specs.Flags.{entries_at, entry_at, police_at}
use Rattle.router_rules.specs.NodeConfig.{NodeConfig, goes_out}
use Rattle.router_rules.specs.Requests.{is_style}
use Rattle.tree_model.specs.declared.hops.End.{End}
use Rattle.tree_model.specs.declared.hops.LinkHop.{LinkHop}
use Rattle.tree_model.specs.declared.locals.LocalSender.{LocalSender}
use Rattle.tree_model.specs.Goals.{addr_of, goal}
use Rattle.tree_model.specs.Networks.{end_at, iface_of, node_of, node_of_end}
use Rattle.tree_model.specs.Trees.{tree}
use Rattle.tree_model.specs.Wants.{Locals, want}
use Rattle.tree_model.proofs.Following.{in_tree, number_same, same_number}
use Rattle.tree_model.proofs.Ifaces.{interfaces_are_ends}
use Rattle.tree_model.proofs.TreeLaws.{out_told, out_tested}
use Rattle.network_model.specs.DemandTexts.{of_end}
use Rattle.network_model.specs.Locals.{IsLive, locals_of, sender_at}
use Rattle.network_model.specs.Runs.{end_report, flags_report, node_facts, with_parts}
use Rattle.network_model.specs.Texts.{flags_text}
use Rattle.network_model.specs.Worlds.{World, config_of}
use Rattle.network_model.proofs.NodeLocals.{is_live, sender_of_node}
use Rattle.laws_network.proofs.Known.{node_there, of_some}
use Rattle.laws_network.proofs.Standing.{from_there, goes_out_made, iface_less, same_end, way_out}
use Rattle.settle_paths.proofs.LiveSenders.{live_listed}
use Rattle.settle_paths.proofs.PreviousHops.{ends_there}
use Rattle.settle_resvs.specs.GoalByIface.{line_over}
use Rattle.settle_resvs.proofs.UnderTheGoal.{goal_made}
use Rattle.settle_network.specs.Flags.{HasSettledFlags}
use Rattle.settle_network.specs.DemandedFlags.{SettledFlagsAreDemanded, are_two, carried, comes_in, comes_straight, goes_on, is_carried, is_wanted_beside, some_hop, wanted_beside}
use Rattle.settle_network.specs.DemandedFlags.{demanded_entries, demanded_entry, demanded_police, end_flags}
use Rattle.settle_network.proofs.Reports.{goal_told}

-- each of two bits says the other
same_bit : (a b : Bool) → (a ≡ true → b ≡ true) → (b ≡ true → a ≡ true) → a ≡ b
same_bit true b f g = sym (f refl)
same_bit false true f g = g refl
same_bit false false f g = refl

-- what is not so is tested false
untrue : (b : Bool) → (b ≡ true → ⊥) → b ≡ false
untrue b never = either b (λ (yes : b ≡ true). absurd (never yes)) (λ (is : b ≡ false). is)

-- ---- at an end
module _ (q : ℕ) (u : World) (a : HasSettledFlags q u) (e : ℕ) (lt : e < length u.net.ends) (f : Facts) (at : slice_get u.nodes (node_of u.net.ends e) ≡ Some f) where
  abbrev l : Locals
  l = locals_of u

  abbrev n : ℕ
  n = node_of u.net.ends e

  abbrev i : ℕ
  i = iface_of u.net.ends e

  abbrev p : NodeConfig
  p = config_of q u.net u.trees n

  end_is : end_at u.net.ends n i ≡ Some e
  end_is = (interfaces_are_ends u.net).end_of_iface e lt

  -- ---- of an entry
  module _ (k : EntryKey) (part : Part) where
    abbrev ours : List LocalSender
    ours = carried u.net l e k part

    -- the hop by which a path that matches came
    record HasCome (x : Sender) (path : PathState) : Type 0 where
      hop : LinkHop
      there : In hop (tree u.net.hops k.session.group x.addr)
      into : node_of u.net.ends hop.to ≡ n
      from : addr_of u.net hop.from ≡ path.hop.addr
      live : IsLive u (k.session, x) path.tspec

    come : (x : Sender) (path : PathState) → IsMatch p f i k part x path → HasCome x path
    come x path m =
        let s = a.settled.paths_sound.facts n f (k.session, x) path at m.there in
        record {
          hop = s.sound.hop;
          there = s.sound.there;
          into = ap (λ (z : ℕ). node_of u.net.ends z) s.sound.to ∙ ((interfaces_are_ends u.net).iface_of_end n path.iface s.end s.at).1;
          from = sym s.sound.from;
          live = s.sound.live;
        }

    -- a sender whose path matches is carried
    carried_there : (x : Sender) (path : PathState) → IsMatch p f i k part x path → (d : ℕ) → In (sender_at d (k.session, x)) l.senders → In (sender_at d (k.session, x)) ours
    carried_there x path m d there =
        let c = come x path m in
        let w = way_out q u.net u.trees n a.bounds.net k.session i x (iface_less q u.net u.trees n i e end_is) m.way in
        let same : w.0 ≡ e = of_some w.0 e (sym w.1 ∙ end_is) in
        let h = out_told u.net n w.0 k.session.group x.addr w.3 in
        to_filter (is_carried u.net l e k part) (sender_at d (k.session, x)) l.senders there
        (and_made _ _ (tied_self sessions k.session)
        (and_made _ _ m.named
        (and_made _ _ (any_in (comes_in u.net l e) c.hop (tree u.net.hops k.session.group x.addr) c.there (number_same (node_of u.net.ends c.hop.to) n c.into))
        (any_in (goes_on u.net l e) h.0 (tree u.net.hops k.session.group x.addr) h.1 (number_same h.0.from e (h.2 ∙ same))))))

    -- and the path of one that is carried matches
    record HasMatch (y : LocalSender) (h : LinkHop) : Type 0 where
      path : PathState
      matches : IsMatch p f i k part y.sender path
      police : node_of u.net.ends h.from ≡ y.node → path.police ≡ true

    matched : (y : LocalSender) → In y ours → (h : LinkHop) → In h (tree u.net.hops y.session.group y.sender.addr) → node_of u.net.ends h.to ≡ n → HasMatch y h
    matched y there h hop into =
        let c = in_filter (is_carried u.net l e k part) y l.senders there in
        let t = and_both _ _ c.1 in
        let r = and_both _ _ t.1 in
        let ways = and_both _ _ r.1 in
        let session : k.session ≡ y.session = tied_same sessions k.session y.session t.0 in
        let out = in_any (goes_on u.net l e) (tree u.net.hops y.session.group y.sender.addr) ways.1 in
        let row = in_tree u.net.hops y.session.group y.sender.addr out.0 out.1 in
        let routed : In (y.session.group, y.sender.addr) u.trees = subst (λ (z : Addr × Addr). In z u.trees) (λ j. (row.2 j, row.3 j)) (a.bounds.routed row.0 row.1) in
        let way : goes_out p y.session i y.sender ≡ true =
        goes_out_made q u.net u.trees n y.session e y.sender routed (out_tested u.net n e y.session.group y.sender.addr (out.0, out.1, same_number out.0.from e out.2, refl)) in
        let own = sender_of_node u y c.0 in
        let first : own.1.0 ≡ y.session = sym (ap (λ (z : LocalSender). z.session) own.5) in
        let second : own.1.1 ≡ y.sender = sym (ap (λ (z : LocalSender). z.sender) own.5) in
        let key : ◌≡◌ {A = SenderKey} own.1 (y.session, y.sender) = (λ j. (first j, second j)) in
        let x = a.settled.paths_complete (y.session, y.sender) own.2 h (subst (λ (z : SenderKey). IsLive u z own.2) key (is_live u y.node own.0 own.1 own.2 own.3 own.4)) hop in
        let facts : x.facts ≡ f = of_some x.facts f (sym x.node ∙ ap (λ (z : ℕ). slice_get u.nodes z) into ∙ at) in
        let path_there : get f.paths (k.session, y.sender) ≡ Some x.path = (λ j. get (sym facts j).paths (session j, y.sender)) ∙ x.there in
        let inside : h.from < length u.net.ends = from_there u.net a.bounds.net y.session.group y.sender.addr h hop in
        record {
          path = x.path;
          matches = record { there = path_there; named = r.0; way = ap (λ (z : Session). goes_out p z i y.sender) session ∙ way };
          police = λ from.
              (a.policed n f (k.session, y.sender) x.path at path_there h.from inside (sym x.hop)).1
              (subst (λ (z : ℕ × Session). In (sender_at z.0 (z.1, y.sender)) l.senders) (λ j. (sym from j, sym session j)) c.0);
        }

    -- by some hop
    path_of : (y : LocalSender) → In y ours → (path : PathState) × IsMatch p f i k part y.sender path
    path_of y there =
        let ways = and_both _ _ (and_both _ _ (and_both _ _ (in_filter (is_carried u.net l e k part) y l.senders there).1).1).1 in
        let h = in_any (comes_in u.net l e) (tree u.net.hops y.session.group y.sender.addr) ways.0 in
        let m = matched y there h.0 h.1 (same_number (node_of u.net.ends h.0.to) n h.2) in
        (m.path, m.matches)

    listed : (x : Sender) (path : PathState) → IsMatch p f i k part x path → (y : LocalSender) × In y ours × (y.sender ≡ x)
    listed x path m = let at = live_listed u (k.session, x) path.tspec (come x path m).live in (sender_at at.0 (k.session, x), carried_there x path m at.0 at.1, refl)

    -- ---- the flags
    abbrev kept_e : Bool
    kept_e = (police_at p f i k part).e

    abbrev kept_m : Bool
    kept_m = (police_at p f i k part).m

    abbrev kept_b : Bool
    kept_b = (police_at p f i k part).b

    abbrev is_neighbour : LocalSender → Bool
    is_neighbour x = some_hop u.net l e (comes_straight u.net l e x) x

    e_told : kept_e ≡ true → list_any is_neighbour ours ≡ true
    e_told t =
        let x = (flags_by_paths_and_resvs.e p f i k part).0 t in
        let c = come x.sender x.path x.matches in
        let from : ℕ = node_of u.net.ends c.hop.from in
        let inside : c.hop.from < length u.net.ends = from_there u.net a.bounds.net k.session.group x.sender.addr c.hop c.there in
        let sends = (a.policed n f (k.session, x.sender) x.path at x.matches.there c.hop.from inside c.from).0 x.asks in
        let y : LocalSender = sender_at from (k.session, x.sender) in
        any_in is_neighbour y ours (carried_there x.sender x.path x.matches from sends)
        (any_in (comes_straight u.net l e y) c.hop (tree u.net.hops k.session.group x.sender.addr) c.there
        (and_made _ _ (number_same (node_of u.net.ends c.hop.to) n c.into) (number_same from from refl)))

    e_made : list_any is_neighbour ours ≡ true → kept_e ≡ true
    e_made t =
        let y = in_any is_neighbour ours t in
        let h = in_any (comes_straight u.net l e y.0) (tree u.net.hops y.0.session.group y.0.sender.addr) y.2 in
        let b = and_both _ _ h.2 in
        let m = matched y.0 y.1 h.0 h.1 (same_number (node_of u.net.ends h.0.to) n b.0) in
        (flags_by_paths_and_resvs.e p f i k part).1
        (record { sender = y.0.sender; path = m.path; matches = m.matches; asks = m.police (same_number (node_of u.net.ends h.0.from) y.0.node b.1) })

    abbrev is_other : LocalSender → LocalSender → Bool
    is_other x y = not (eq_by_cmp senders.cmp x.sender y.sender)

    m_told : kept_m ≡ true → (not (is_style k.style Fixed) && are_two ours) ≡ true
    m_told t =
        let x = (flags_by_paths_and_resvs.m p f i k part).0 t in
        let y = listed x.1.first x.1.first_path x.1.one in
        let z = listed x.1.second x.1.second_path x.1.other in
        let apart : is_other y.0 z.0 ≡ true = ap not (untrue _ (λ tie. x.1.apart (sym y.2 ∙ tied_same senders y.0.sender z.0.sender tie ∙ z.2))) in
        and_made _ _ (ap not (untrue _ (λ tie. x.0 (style_told k.style Fixed tie)))) (any_in (λ x. list_any (is_other x) ours) y.0 ours y.1 (any_in (is_other y.0) z.0 ours z.1 apart))

    m_made : (not (is_style k.style Fixed) && are_two ours) ≡ true → kept_m ≡ true
    m_made t =
        let b = and_both _ _ t in
        let y = in_any (λ x. list_any (is_other x) ours) ours b.1 in
        let z = in_any (is_other y.0) ours y.2 in
        let one = path_of y.0 y.1 in
        let other = path_of z.0 z.1 in
        (flags_by_paths_and_resvs.m p f i k part).1 (
          λ same. let no : true ≡ false = sym (ties styles k.style Fixed same) ∙ not_told _ b.0 in absurd (cc),
          record {
            first = y.0.sender;
            second = z.0.sender;
            first_path = one.0;
            second_path = other.0;
            apart = λ same. let no : true ≡ false = sym (ties senders y.0.sender z.0.sender same) ∙ not_told _ z.2 in absurd (cc);
            one = one.1;
            other = other.1;
          },
        )

    abbrev is_larger : Line → Bool
    is_larger g = not (flow_le g.part.flow part.flow)

    abbrev is_here : Line → Bool
    is_here g = (g.end == e) && eq_by_cmp units.cmp g.unit k.unit

    b_told : kept_b ≡ true → list_any is_larger (wanted_beside u.net l e k part) ≡ true
    b_told t =
        let x = (flags_by_paths_and_resvs.b p f i k part).0 t in
        let s = a.settled.resvs_sound.facts k.style n f (k.session, (x.hop, x.unit)) x.resv at x.there in
        let h : LinkHop = s.sound.hop in
        let of = (interfaces_are_ends u.net).iface_of_end n x.hop.0 s.end s.at in
        let node : node_of u.net.ends h.from ≡ n = ap (λ (z : ℕ). node_of u.net.ends z) s.sound.from ∙ of.1 in
        let iface : iface_of u.net.ends h.from ≡ x.hop.0 = ap (λ (z : ℕ). iface_of u.net.ends z) s.sound.from ∙ of.2 in
        let key : ◌≡◌ {A = LineKey} (k.session, ((iface_of u.net.ends h.from, addr_of u.net h.to), x.unit)) (k.session, (x.hop, x.unit)) = (λ j. (k.session, ((iface j, s.sound.to j), x.unit))) in
        let exact = a.settled.resvs_exact k.style k.session h s.sound.there in
        let facts : exact.facts ≡ f = of_some exact.facts f (sym exact.node ∙ ap (λ (z : ℕ). slice_get u.nodes z) node ∙ at) in
        let wanted : get (want k.style u.net l k.session h) x.unit ≡ Some x.resv.part = exact.stands x.unit x.resv ((λ j. get (resvs_of k.style (facts j)) (key j)) ∙ x.there) in
        let g : Line = line_over u.net k.style k.session h (x.unit, x.resv.part) in
        let elsewhere : is_here g ≡ false =
        untrue _ (λ yes. let b = and_both _ _ yes in x.elsewhere (sym iface ∙ ap (λ (z : ℕ). iface_of u.net.ends z) (same_number h.from e b.0)) (tied_same units x.unit k.unit b.1)) in
        let shared : is_none (cut part.senders x.resv.part.senders) ≡ false =
        has_some (cut part.senders x.resv.part.senders) x.shared (has-cut senders part.senders x.resv.part.senders x.shared ∙ and_made _ _ x.in_entry x.in_resv) in
        any_in is_larger g (wanted_beside u.net l e k part)
        (to_filter (is_wanted_beside u.net l e k part) g (goal u.net l n) (goal_made k.style u.net l n k.session h x.unit x.resv.part s.sound.there node wanted)
        (and_made _ _ (and_made _ _ (tied_self sessions k.session) (ties styles k.style k.style refl)) (and_made _ _ (ap not elsewhere) (ap not shared))))
        (ap not x.larger)

    b_made : list_any is_larger (wanted_beside u.net l e k part) ≡ true → kept_b ≡ true
    b_made t =
        let g = in_any is_larger (wanted_beside u.net l e k part) t in
        let c = in_filter (is_wanted_beside u.net l e k part) g.0 (goal u.net l n) g.1 in
        let tests = and_both _ _ c.1 in
        let of = and_both _ _ tests.0 in
        let rest = and_both _ _ tests.1 in
        let w = goal_told u.net l n g.0 c.0 in
        let session : k.session ≡ w.session = tied_same sessions k.session g.0.session of.0 ∙ ap (λ (z : Line). z.session) w.is in
        let style : k.style ≡ w.style = style_told k.style g.0.style of.1 ∙ ap (λ (z : Line). z.style) w.is in
        let end : g.0.end ≡ w.hop.from = ap (λ (z : Line). z.end) w.is in
        let unit : g.0.unit ≡ w.unit = ap (λ (z : Line). z.unit) w.is in
        let exact = a.settled.resvs_exact w.style w.session w.hop w.there in
        let facts : f ≡ exact.facts = of_some f exact.facts (sym at ∙ ap (λ (z : ℕ). slice_get u.nodes z) (sym w.node) ∙ exact.node) in
        let r = exact.wanted w.unit w.part w.wanted in
        let part_is : g.0.part ≡ r.0.part = ap (λ (z : Line). z.part) w.is ∙ sym r.2 in
        let inside : w.hop.from < length u.net.ends = (ends_there u.net a.bounds.net w.session.group w.hop w.there).0 in
        let x = one_name (cut part.senders g.0.part.senders) (not_told _ rest.1) in
        let both = and_both _ _ (sym (has-cut senders part.senders g.0.part.senders x.0) ∙ x.1) in
        (flags_by_paths_and_resvs.b p f i k part).1
        (record {
          hop = (iface_of u.net.ends w.hop.from, addr_of u.net w.hop.to);
          unit = w.unit;
          resv = r.0;
          there = (λ j. get (resvs_of (style j) (facts j)) (session j, ((iface_of u.net.ends w.hop.from, addr_of u.net w.hop.to), w.unit))) ∙ r.1;
          elsewhere = λ same one.
              let from : w.hop.from ≡ e = same_end u.net w.hop.from e inside lt w.node same in
              let here : is_here g.0 ≡ true = and_made _ _ (number_same g.0.end e (end ∙ from)) (ties units g.0.unit k.unit (unit ∙ one)) in
              let no : true ≡ false = sym here ∙ not_told (is_here g.0) rest.0 in
              absurd (cc);
          shared = x.0;
          in_entry = both.0;
          in_resv = ap (λ (z : Part). has z.senders x.0) (sym part_is) ∙ both.1;
          larger = ap (λ (z : Part). flow_le z.flow part.flow) (sym part_is) ∙ not_told _ g.2;
        })

    police_is : police_at p f i k part ≡ demanded_police u.net l e k part
    police_is =
        let one = same_bit kept_e (list_any is_neighbour ours) e_told e_made in
        let two = same_bit kept_m (not (is_style k.style Fixed) && are_two ours) m_told m_made in
        let three = same_bit kept_b (list_any is_larger (wanted_beside u.net l e k part)) b_told b_made in
        (λ j. record { e = one j; m = two j; b = three j })

  -- ---- of all entries
  each_is : (rows : List (EntryKey × Part)) → each (entry_at p f i) rows ≡ each (demanded_entry u.net l e) rows
  each_is [] = refl
  each_is (r ∷ rs) = λ j. record { key = r.0; part = r.1; police = police_is r.0 r.1 j } ∷ each_is rs j

  entries_are : entries_at p f i ≡ demanded_entries u.net l e
  entries_are = each_is (book f i).rows ∙ ap (λ (z : BookTable). each (demanded_entry u.net l e) z.rows) (a.settled.books e f lt at)

-- ---- the text
module _ (q : ℕ) (u : World) (a : HasSettledFlags q u) (names : List (List ℕ)) where
  abbrev kept : ℕ → List ℕ → End → Facts → List ℕ
  kept e name x f = flags_report (config_of q u.net u.trees x.node) name x (iface_of u.net.ends e) f

  end_is_demanded : (e : ℕ) → end_report q names flags_report u e ≡ end_flags names u.net (locals_of u) e
  end_is_demanded e = by (slice_get names e) (slice_get u.net.ends e) refl
    where
      by : (name : Option (List ℕ)) (x : Option End) → slice_get u.net.ends e ≡ x
          → with_parts (kept e) name x (node_facts u x) ≡ of_end (λ name x. flags_text name x.iface.capacity (demanded_entries u.net (locals_of u) e)) name x
      by None x at = refl
      by (Some name) None at = refl
      by (Some name) (Some x) at =
          let inside : e < length u.net.ends = slice_get_within u.net.ends e x at in
          let node : node_of u.net.ends e ≡ x.node = ap node_of_end at in
          let f = node_there q u a.bounds.net u e (record { bounds = a.bounds; same = record { net = refl; trees = refl; senders = λ n. refl; advertised = λ n. refl; locals = refl } }) inside in
          let there : slice_get u.nodes x.node ≡ Some f.0 = ap (λ (z : ℕ). slice_get u.nodes z) (sym node) ∙ f.1 in
          ap (with_parts (kept e) (Some name) (Some x)) there
          ∙ ap (λ (z : ℕ). flags_report (config_of q u.net u.trees z) name x (iface_of u.net.ends e) f.0) (sym node)
          ∙ ap (λ (z : List Entry). flags_text name x.iface.capacity z) (entries_are q u a e inside f.0 f.1)

pub settled_flags_are_demanded : SettledFlagsAreDemanded
settled_flags_are_demanded q u a names = λ j. flat_map (λ e. end_is_demanded q u a names e j) (range_with_len 0 (length u.net.ends))
