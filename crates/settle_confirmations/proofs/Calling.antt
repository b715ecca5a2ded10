-- A receiver asks for more, and for a confirmation: what its node sends is a request of one end.
use Rattle.std.proofs.Common.{◌≡◌, ℕ, ◌+◌, ◌<◌, length, List, [], ◌∷◌, Bool, true, false, cond, Option, None, Some, ◌⊎◌, inl, inr, ⊎_elim, sym, refl, ap, subst, ◌∙◌}
use Rattle.std.specs.Prelude.{is_some, map as each, not, slice_get, ◌*◌, ◌↔◌}
use Rattle.std.specs.Ordering.{eq_by_cmp}
use Rattle.rsvp_base.specs.declared.addr.Addr.{Addr}
use Rattle.rsvp_base.specs.declared.part.Part.{Part}
use Rattle.rsvp_base.specs.declared.session.Sender.{Sender}
use Rattle.rsvp_base.specs.declared.session.Session.{Session}
use Rattle.rsvp_base.specs.declared.style.StyleKind.{StyleKind}
use Rattle.rsvp_base.specs.declared.style.StyleKind.TheVariants.{Wild, Fixed, Shared}
use Rattle.rsvp_base.specs.declared.style.Unit.{Unit as UnitOf}
use Rattle.rsvp_base.specs.declared.style.Unit.TheVariants.{One, Of}
use Rattle.rsvp_base.specs.Members.{In}
use Rattle.rsvp_base.specs.Orders.{Names, senders, sessions, styles, units}
use Rattle.rsvp_base.specs.Sets.{cut}
use Rattle.rsvp_base.specs.Styles.{name_of, part_unit, unit_of_first}
use Rattle.rsvp_base.specs.Table.{empty, get, has, keys}
use Rattle.rsvp_base.specs.TokenBucket.{IsSound, TokenBucket}
use Rattle.rsvp_base.proofs.Members.{in_append, in_each, in_right, to_each}
use Rattle.rsvp_base.proofs.SetLaws.{and_both, has-cut}
use Rattle.rsvp_base.proofs.Tables.{either, same_table, tied_same}
use Rattle.rsvp_messages.specs.declared.message.Message.TheVariants as message
use Rattle.rsvp_messages.specs.declared.message.ResvMsg.{ResvMsg}
use Rattle.rsvp_messages.specs.Units.{AskedUnit, ask_style, asked_units, only}
use Rattle.style_rules.specs.CutLaws.{cut_monotone, cut_of, made_named, made_of, part_of_some}
use Rattle.style_rules.specs.FlowOrder.{IsAtMost, flow_le}
use Rattle.style_rules.specs.Lines.{LineKey}
use Rattle.style_rules.specs.Merge.{PartTable}
use Rattle.style_rules.specs.Parts.{IsPartAtMost, has_name}
use Rattle.style_rules.specs.Toward.{Request}
use Rattle.style_rules.proofs.StyleLaws.{common_unit, within_unit}
use Rattle.style_rules.proofs.Told.{at_most_tested, at_most_told}
use Rattle.style_rules.proofs.Towards.{open_below, toward_source, toward_there}
use Rattle.calm_rounds.specs.Machine.{Happens}
use Rattle.laws_bounds.specs.FactLaws.{ComesBy, IsResvRequest, IsWantRequest}
use Rattle.laws_bounds.specs.SendLaws.{ArePartsOf, IsAskedOf, IsConf, IsError, IsPath, IsPathTear, IsResv, IsResvTear}
use Rattle.laws_bounds.specs.WishLaws.{IsMarked}
use Rattle.laws_bounds.proofs.Asks.{gone_by_units, style_told, units_told}
use Rattle.laws_bounds.proofs.Calling.{call_refusals, calls_leave}
use Rattle.laws_bounds.proofs.Framing.{wants_then}
use Rattle.laws_bounds.proofs.Knowing.{known_and_via}
use Rattle.laws_bounds.proofs.Lists.{one_name}
use Rattle.laws_bounds.proofs.Requesting.{requests_and_toward}
use Rattle.laws_bounds.proofs.Ruling.{rule_in_parts}
use Rattle.laws_bounds.proofs.Stepping.{send_told}
use Rattle.laws_bounds.proofs.Tests.{not_new, parts_tested, ties}
use Rattle.laws_bounds.proofs.Wishing.{marks_are_used}
use Rattle.laws_steps.proofs.Framing.{left_as_it_was}
use Rattle.router_rules.specs.declared.answers.LocalErr.{LocalErr}
use Rattle.router_rules.specs.Act.{act}
use Rattle.router_rules.specs.Asking.{ask_of}
use Rattle.router_rules.specs.Bounds.{IsWantShape}
use Rattle.router_rules.specs.Calls.{call_refusal, unless, wanted, wants_with}
use Rattle.router_rules.specs.Facts.{Facts, ResvTables, Want, WantKey, resvs_of, table_of}
use Rattle.router_rules.specs.Inputs.{Arrival, Call, Change, Local, Send, Spelt, WantAs}
use Rattle.router_rules.specs.Known.{Lane, names_via}
use Rattle.router_rules.specs.NodeConfig.{NodeConfig, own}
use Rattle.router_rules.specs.Offers.{Offer, Offers, offers}
use Rattle.router_rules.specs.Requests.{is_blockaded, request_of, requests, toward, want_part}
use Rattle.router_rules.specs.Rule.{Outcome, rule, settled}
use Rattle.router_rules.specs.Sends.{confirm_for, gone_names, is_changed, is_new_offer, marked_units, own_wish, resv_send, torn_names}
use Rattle.router_rules.specs.Steps.{IsFitList, facts_then, node_step, sent_then}
use Rattle.tree_model.specs.declared.hops.LinkHop.{LinkHop}
use Rattle.tree_model.specs.Goals.{DemandsFit, addr_of}
use Rattle.tree_model.specs.Networks.{end_at, node_of}
use Rattle.tree_model.specs.Ranks.{longest}
use Rattle.tree_model.specs.Trees.{tree}
use Rattle.tree_model.proofs.Ifaces.{interfaces_are_ends}
use Rattle.tree_model.proofs.TreeLaws.{one}
use Rattle.network_model.specs.Bounds.{AreBounds, AreHosts}
use Rattle.network_model.specs.Events.{passes}
use Rattle.network_model.specs.Locals.{IsLive, locals_of}
use Rattle.network_model.specs.Steps.{At, machine, ms_of, outcome, sent, still}
use Rattle.network_model.specs.Worlds.{Item, World, config_of}
use Rattle.network_model.proofs.Changing.{what_is_sent_is_copied}
use Rattle.network_model.proofs.NodeLocals.{live_told}
use Rattle.network_model.proofs.Stepping.{facts_after_made}
use Rattle.laws_network.proofs.Known.{has_some, of_some}
use Rattle.laws_network.proofs.Standing.{own_end, to_there}
use Rattle.settle_paths.proofs.PreviousHops.{ahead}
use Rattle.settle_resvs.specs.Sessions.{HasNoBlockade}
use Rattle.settle_resvs.proofs.GoalByIface.{each_fits}
use Rattle.settle_resvs.proofs.TowardIsTheWant.{unmarked}
use Rattle.settle_resvs.proofs.TowardNames.{parts_of_style}
use Rattle.settle_network.specs.Settled.{HasSettled}
use Rattle.settle_passes.specs.Reserving.{AsksNoLess, IsReserving, after_want}
use Rattle.settle_passes.proofs.Serving.{begins, settled_is_reserved}
use Rattle.settle_passes.proofs.Wanting.{a_receiver_is_set_up, wanted_told}
use Rattle.settle_passes.proofs.Called.{IsCalled, called, called_there, live_back, unless_same}
use Rattle.settle_confirmations.specs.Requests.{IsAnswered, IsConfirmed, IsForAtLeast, IsOnlySender, IsRequest, arrival_units}
use Rattle.settle_confirmations.proofs.Arriving.{same_at}
use Rattle.settle_confirmations.proofs.Holding.{what_is_confirmed_is_held as requests_are_held}
use Rattle.settle_confirmations.proofs.Moving.{listed_one}
use Rattle.settle_confirmations.proofs.Passing.{requests_are_answered}

-- and all of them are for its flow
wanted_flow : (s : Session) (st : StyleKind) (names : Names) (flow : TokenBucket) (mark : Bool) (k : WantKey) (y : Want) → In (k, y) (wanted s st names flow mark) → y.part.flow ≡ flow
wanted_flow s Wild names flow mark k y i =
    ⊎_elim (λ (e : (k, y) ≡ ((s, One), record { style = Wild; part = record { senders = empty; flow = flow }; confirm = mark })).
    ap (λ (z : WantKey × Want). z.1.part.flow) e) (λ (no : ⊥). absurd no) i
wanted_flow s Fixed names flow mark k y i =
    let r = in_each (λ (z : Sender). ((s, Of z), record { style = Fixed; part = record { senders = only z; flow = flow }; confirm = mark })) (k, y) (keys names) i in
    ap (λ (z : WantKey × Want). z.1.part.flow) r.2
wanted_flow s Shared names flow mark k y i =
    ⊎_elim (λ (e : (k, y) ≡ ((s, One), record { style = Shared; part = record { senders = names; flow = flow }; confirm = mark })).
    ap (λ (z : WantKey × Want). z.1.part.flow) e) (λ (no : ⊥). absurd no) i

-- ---- what is left of a want toward a hop
part_flow : (st : StyleKind) (ns : Names) (a v : Part) → want_part st ns a ≡ Some v → v.flow ≡ a.flow
part_flow Wild ns a v e = (made_of ns a.flow v e).flow
part_flow Fixed ns a v e = (made_of (cut a.senders ns) a.flow v e).flow
part_flow Shared ns a v e = (made_of (cut a.senders ns) a.flow v e).flow

part_grows : (st : StyleKind) (ns : Names) (a b v : Part) → IsPartAtMost a b → want_part st ns a ≡ Some v → (y : Part) × (want_part st ns b ≡ Some y)
part_grows Wild ns a b v le e = (record { senders = ns; flow = b.flow }, part_of_some ns b.flow (made_of ns a.flow v e).some)
part_grows Fixed ns a b v le e = let r = cut_monotone a b v ns le e in (r.0, r.1)
part_grows Shared ns a b v le e = let r = cut_monotone a b v ns le e in (r.0, r.1)

wild_unit : (xs : List Sender) → unit_of_first Wild xs ≡ One
wild_unit [] = refl
wild_unit (x ∷ xs) = refl

shared_unit : (xs : List Sender) → unit_of_first Shared xs ≡ One
shared_unit [] = refl
shared_unit (x ∷ xs) = refl

part_named : (st : StyleKind) (ns : Names) (a v : Part) → want_part st ns a ≡ Some v → has_name v ≡ true
part_named Wild ns a v e = made_named ns a.flow v e
part_named Fixed ns a v e = made_named (cut a.senders ns) a.flow v e
part_named Shared ns a v e = made_named (cut a.senders ns) a.flow v e

want_unit : (st : StyleKind) (ns : Names) (u : UnitOf) (a v : Part) → IsWantShape st u a → want_part st ns a ≡ Some v → part_unit st v ≡ u
want_unit Wild ns u a v is e = wild_unit (keys v.senders) ∙ sym is.0
want_unit Fixed ns u a v is e =
    let c = cut_of a v ns e in
    within_unit Fixed a v is.0 (part_named Fixed ns a v e) (λ z h. (and_both _ _ (sym (has-cut senders a.senders ns z) ∙ subst (λ (t : Names). has t z ≡ true) c.senders h)).0) ∙ sym is.1
want_unit Shared ns u a v is e = shared_unit (keys v.senders) ∙ sym is.1

module _ (q n : ℕ) (s : Session) (st : StyleKind) (names : Names) (flow : TokenBucket) (w : World) (r : (c : Session) → IsReserving q c w)
    (r' : (c : Session) → IsReserving q c (after_want q n s st names flow true w)) (no_less : AsksNoLess w n s st names flow true) where
  abbrev call : Local
  call = WantAs s st names flow true

  abbrev then : World
  then = after_want q n s st names flow true w

  abbrev p : NodeConfig
  p = config_of q w.net w.trees n

  abbrev c : ℕ
  c = w.clock + ms_of (At n call)

  module _ (f : Facts) (at : slice_get w.nodes n ≡ Some f) where
    abbrev pub after : Facts
    after = settled p c f (act p c (Call call) f).facts

    abbrev pub g : Facts
    g = (outcome q (At n call) w n f).facts

    pub at_then : slice_get then.nodes n ≡ Some g
    at_then = facts_after_made q (At n call) w n f at

    pub facts_are : g ≡ facts_then p p c (Call call) f
    facts_are = ap (λ (o : Outcome). o.facts) (called_there q w n call f)

    resvs_same : after.resvs ≡ f.resvs
    resvs_same = left_as_it_was.resvs_whole (node_step p p w.clock c (Call call) f) ((r s).paths.bounds.facts n f at) refl refl refl

    pub resv_same : (k : StyleKind) (key : LineKey) → get (resvs_of k after) key ≡ get (resvs_of k f) key
    resv_same k key = ap (λ (ts : ResvTables). get (table_of k ts) key) resvs_same

    -- ---- wants
    source : (k : WantKey) (y : Want) → get after.wants k ≡ Some y → (get f.wants k ≡ Some y) ⊎ In (k, y) (wanted s st names flow true)
    source k y e = by (call_refusal p call f) e
      where
        by : (o : Option LocalErr) → get (unless o (wants_with call f.wants) f.wants) k ≡ Some y → (get f.wants k ≡ Some y) ⊎ In (k, y) (wanted s st names flow true)
        by None h = calls_leave.wanted_source s st names flow true f.wants k y h
        by (Some why) h = inl h

    record IsReplaced (k : WantKey) (x : Want) : Type 0 where
      want : Want
      new : In (k, want) (wanted s st names flow true)
      there : get after.wants k ≡ Some want
      style : want.style ≡ x.style
      part : IsPartAtMost x.part want.part

    stays : (k : WantKey) (x : Want) → get f.wants k ≡ Some x → (get after.wants k ≡ Some x) ⊎ IsReplaced k x
    stays k x e = by (call_refusal p call f) refl
      where
        by : (o : Option LocalErr) → call_refusal p call f ≡ o → (get after.wants k ≡ Some x) ⊎ IsReplaced k x
        by (Some why) refused = inl (ap (λ (o : Option LocalErr). get (unless o (wants_with call f.wants) f.wants) k) refused ∙ e)
        by None open_to = by_new (get (wants_with call f.wants) k) refl
          where
            is_with : get after.wants k ≡ get (wants_with call f.wants) k
            is_with = ap (λ (o : Option LocalErr). get (unless o (wants_with call f.wants) f.wants) k) open_to

            by_new : (o : Option Want) → get (wants_with call f.wants) k ≡ o → (get after.wants k ≡ Some x) ⊎ IsReplaced k x
            by_new None h =
                let beside = calls_leave.wanted_beside s st names flow true f.wants k
                (λ y i. let bad : None ≡ Some y = sym h ∙ calls_leave.wanted_there s st names flow true f.wants k y i in cc) in
                let bad : None ≡ Some x = sym h ∙ beside ∙ e in
                absurd (cc)
            by_new (Some y) h =
                ⊎_elim (λ (old : get f.wants k ≡ Some y). let is : y ≡ x = of_some y x (sym old ∙ e) in inl (is_with ∙ h ∙ ap Some is))
                (λ (new : In (k, y) (wanted s st names flow true)).
                let told = wanted_told s st names flow true k y new in
                let there : get f.wants (s, k.1) ≡ Some x = ap (λ (z : Session). get f.wants (z, k.1)) (sym told.0) ∙ e in
                let one_style : x.style ≡ st = either (eq_by_cmp styles.cmp x.style st) (λ tied. tied_same styles x.style st tied)
                (λ apart. absurd (((call_refusals.wants p f s st names flow true).0 open_to).0
                (record { unit = k.1; want = x; there = there; other = λ same. let bad : true ≡ false = sym (ties styles x.style st same) ∙ apart in cc }))) in
                inr (record { want = y; new = new; there = is_with ∙ h; style = told.1 ∙ sym one_style; part = no_less f k x y at e new }))
                (calls_leave.wanted_source s st names flow true f.wants k y h)

    shape : (k : WantKey) (y : Want) → get after.wants k ≡ Some y → IsWantShape y.style k.1 y.part
    shape k y e =
        let marks = wants_then p p c (Call call) f in
        let z = has_some (get (facts_then p p c (Call call) f).wants k) (marks.there k ∙ ap (λ (o : Option Want). is_some o) e) in
        let b = marks.source k z.0 z.1 in
        let is : b.0 ≡ y = of_some b.0 y (sym b.1 ∙ e) in
        let there : get g.wants k ≡ Some z.0 = ap (λ (o : Facts). get o.wants k) facts_are ∙ z.1 in
        let shaped = (((r' s).paths.bounds.facts n g at_then).shapes.wants k z.0 there).shape in
        subst (λ (o : StyleKind × Part). IsWantShape o.0 k.1 o.1) (λ j. ((b.2.style ∙ ap (λ (v : Want). v.style) is) j, (b.2.part ∙ ap (λ (v : Want). v.part) is) j)) shaped

    -- ---- toward a hop
    module _ (l : Lane) where
      none : HasNoBlockade l.session f.walls
      none = (r l.session).free n f at

      kept_request : (a : Request) → IsResvRequest p f l a → In a (requests p after l)
      kept_request a z =
          (requests_and_toward.each p after l a).1
          (inl (record { key = z.key; resv = z.resv; there = resv_same l.style (l.session, z.key) ∙ z.there; part = z.part; blockaded = z.blockaded }))

      resv_back : (a : Request) → IsResvRequest p after l a → In a (requests p f l)
      resv_back a z =
          (requests_and_toward.each p f l a).1
          (inl (record { key = z.key; resv = z.resv; there = sym (resv_same l.style (l.session, z.key)) ∙ z.there; part = z.part; blockaded = z.blockaded }))

      want_back : (a : Request) (z : IsWantRequest after l a) → get f.wants (l.session, z.unit) ≡ Some z.want → In a (requests p f l)
      want_back a z there =
          (requests_and_toward.each p f l a).1 (inr (record { unit = z.unit; want = z.want; there = there; style = z.style; part = z.part; blockaded = z.blockaded }))

      -- a request is of the unit of its want
      old_unit : (a : Request) (z : IsWantRequest f l a) → part_unit l.style a.part ≡ z.unit
      old_unit a z =
          let old_shape : IsWantShape l.style z.unit z.want.part =
          subst (λ (k : StyleKind). IsWantShape k z.unit z.want.part) z.style ((((r s).paths.bounds.facts n f at).shapes.wants (l.session, z.unit) z.want z.there).shape) in
          want_unit l.style (names_via f l) z.unit z.want.part a.part old_shape z.part

      new_unit : (a : Request) (z : IsWantRequest after l a) → part_unit l.style a.part ≡ z.unit
      new_unit a z =
          let new_shape : IsWantShape l.style z.unit z.want.part = subst (λ (k : StyleKind). IsWantShape k z.unit z.want.part) z.style (shape (l.session, z.unit) z.want z.there) in
          want_unit l.style (names_via after l) z.unit z.want.part a.part new_shape z.part

      same_want : (a : Request) (z : IsWantRequest f l a) → get after.wants (l.session, z.unit) ≡ Some z.want → In a (requests p after l)
      same_want a z there =
          (requests_and_toward.each p after l a).1 (inr (record { unit = z.unit; want = z.want; there = there; style = z.style; part = z.part; blockaded = z.blockaded }))

      -- what goes there for a unit is the same where its want is
      same_want_same : (un : UnitOf) → get f.wants (l.session, un) ≡ get after.wants (l.session, un) → get (toward p f l) un ≡ get (toward p after l) un
      same_want_same un same =
          same_at l.style un (requests p f l) (requests p after l) (unmarked p f l none) (unmarked p after l none)
          (λ a is. ⊎_elim (λ (z : IsResvRequest p f l a). kept_request a z)
          (λ (z : IsWantRequest f l a).
          let unit : un ≡ z.unit = is.unit ∙ old_unit a z in
          same_want a z ((λ j. get after.wants (l.session, sym unit j)) ∙ sym same ∙ (λ j. get f.wants (l.session, unit j)) ∙ z.there)) ((requests_and_toward.each p f l a).0 is.among))
          (λ a is. ⊎_elim (λ (z : IsResvRequest p after l a). resv_back a z)
          (λ (z : IsWantRequest after l a).
          let unit : un ≡ z.unit = is.unit ∙ new_unit a z in
          want_back a z ((λ j. get f.wants (l.session, sym unit j)) ∙ same ∙ (λ j. get after.wants (l.session, unit j)) ∙ z.there)) ((requests_and_toward.each p after l a).0 is.among))

      -- or no new want of it takes part
      same_unit : (un : UnitOf)
          → ((y : Want) (v : Part) → In ((l.session, un), y) (wanted s st names flow true) → get after.wants (l.session, un) ≡ Some y → y.style ≡ l.style
          → want_part l.style (names_via after l) y.part ≡ Some v → ⊥) → get (toward p f l) un ≡ get (toward p after l) un
      same_unit un bad =
          same_at l.style un (requests p f l) (requests p after l) (unmarked p f l none) (unmarked p after l none)
          (λ a is. ⊎_elim (λ (z : IsResvRequest p f l a). kept_request a z)
          (λ (z : IsWantRequest f l a).
          ⊎_elim (λ (there : get after.wants (l.session, z.unit) ≡ Some z.want). same_want a z there)
          (λ (y : IsReplaced (l.session, z.unit) z.want).
          let unit : z.unit ≡ un = sym (is.unit ∙ old_unit a z) in
          let v = part_grows l.style (names_via f l) z.want.part y.want.part a.part y.part z.part in
          absurd (bad y.want v.0 (subst (λ (k : UnitOf). In ((l.session, k), y.want) (wanted s st names flow true)) unit y.new)
          ((λ j. get after.wants (l.session, sym unit j)) ∙ y.there) (y.style ∙ z.style) v.1))
          (stays (l.session, z.unit) z.want z.there)) ((requests_and_toward.each p f l a).0 is.among))
          (λ a is. ⊎_elim (λ (z : IsResvRequest p after l a). resv_back a z)
          (λ (z : IsWantRequest after l a).
          let unit : z.unit ≡ un = sym (is.unit ∙ new_unit a z) in
          ⊎_elim (λ (old : get f.wants (l.session, z.unit) ≡ Some z.want). want_back a z old)
          (λ (new : In ((l.session, z.unit), z.want) (wanted s st names flow true)).
          absurd (bad z.want a.part (subst (λ (k : UnitOf). In ((l.session, k), z.want) (wanted s st names flow true)) unit new)
          ((λ j. get after.wants (l.session, sym unit j)) ∙ z.there) z.style z.part))
          (source (l.session, z.unit) z.want z.there)) ((requests_and_toward.each p after l a).0 is.among))

      -- so all that goes there is the same where no new want takes part
      same_toward : ((u : UnitOf) (y : Want) (v : Part) → In ((l.session, u), y) (wanted s st names flow true) → get after.wants (l.session, u) ≡ Some y → y.style ≡ l.style
          → want_part l.style (names_via after l) y.part ≡ Some v → ⊥) → toward p f l ≡ toward p after l
      same_toward bad = same_table units (toward p f l) (toward p after l) (λ un. same_unit un (λ y v new there style part. bad un y v new there style part))

      -- a new want of the unit takes part
      pub record IsAskedUnit (un : UnitOf) : Type 0 where
        pub want : Want
        pub part : Part
        pub new : In ((l.session, un), want) (wanted s st names flow true)
        pub there : get after.wants (l.session, un) ≡ Some want
        pub style : want.style ≡ l.style
        pub takes : want_part l.style (names_via after l) want.part ≡ Some part

      pub asked_or_same : (un : UnitOf) → IsAskedUnit un ⊎ (get (toward p f l) un ≡ get (toward p after l) un)
      asked_or_same un = by (get after.wants (l.session, un)) refl
        where
          by_part : (y : Want) → get after.wants (l.session, un) ≡ Some y → In ((l.session, un), y) (wanted s st names flow true) → y.style ≡ l.style → (o : Option Part)
              → want_part l.style (names_via after l) y.part ≡ o → IsAskedUnit un ⊎ (get (toward p f l) un ≡ get (toward p after l) un)
          by_part y there new style (Some v) takes = inl (record { want = y; part = v; new = new; there = there; style = style; takes = takes })
          by_part y there new style None nothing =
              inr (same_unit un (λ z v also there' style' part.
              let is : z ≡ y = of_some z y (sym there' ∙ there) in
              let bad : None ≡ Some v = sym nothing ∙ ap (λ (w : Want). want_part l.style (names_via after l) w.part) (sym is) ∙ part in
              cc))

          by : (o : Option Want) → get after.wants (l.session, un) ≡ o → IsAskedUnit un ⊎ (get (toward p f l) un ≡ get (toward p after l) un)
          by None nothing = inr (same_unit un (λ z v new there style part. let bad : None ≡ Some z = sym nothing ∙ there in cc))
          by (Some y) there =
              ⊎_elim (λ (old : get f.wants (l.session, un) ≡ Some y). inr (same_want_same un (old ∙ sym there)))
              (λ (new : In ((l.session, un), y) (wanted s st names flow true)).
              either (eq_by_cmp styles.cmp y.style l.style) (λ tied. by_part y there new (tied_same styles y.style l.style tied) (want_part l.style (names_via after l) y.part) refl)
              (λ apart. inr (same_unit un (λ z v also there' style part.
              let is : z ≡ y = of_some z y (sym there' ∙ there) in
              let bad : true ≡ false = sym (ties styles y.style l.style (ap (λ (w : Want). w.style) (sym is) ∙ style)) ∙ apart in
              cc))))
              (source (l.session, un) y there)

      -- and what goes there for the unit is no less than the call
      pub covers_unit : (un : UnitOf) → IsAskedUnit un → (t : Part) → get (toward p after l) un ≡ Some t → IsAtMost flow t.flow
      covers_unit un k t goes =
          let a : Request = record { part = k.part; blockaded = is_blockaded l.style f.walls l k.part } in
          let z : IsWantRequest after l a = record { unit = un; want = k.want; there = k.there; style = k.style; part = k.takes; blockaded = refl } in
          let among : In a (requests p after l) = (requests_and_toward.each p after l a).1 (inr z) in
          let below = open_below l.style (requests p after l) un t a
          (record {
            request = record { among = among; named = part_named l.style (names_via after l) k.want.part k.part k.takes; unit = sym (new_unit a z) };
            unmarked = unmarked p after l none a among;
          }) goes in
          let is : k.part.flow ≡ flow = part_flow l.style (names_via after l) k.want.part k.part k.takes ∙ wanted_flow s st names flow true (l.session, un) k.want k.new in
          subst (λ (w : TokenBucket). IsAtMost w t.flow) is below.flow

      -- a new want that takes part is marked
      marked : (u : UnitOf) (y : Want) (v : Part) → In ((l.session, u), y) (wanted s st names flow true) → get after.wants (l.session, u) ≡ Some y → y.style ≡ l.style
          → want_part l.style (names_via after l) y.part ≡ Some v → IsMarked p after l u
      marked u y v new there style part =
          let a : Request = record { part = v; blockaded = is_blockaded l.style f.walls l v } in
          let among : In a (requests p after l) = (requests_and_toward.each p after l a).1 (inr (record { unit = u; want = y; there = there; style = style; part = part; blockaded = refl })) in
          record {
            want = y;
            there = there;
            marked = (wanted_told s st names flow true (l.session, u) y new).2;
            request = a;
            asks = ap (λ (b : Bool). cond b (request_of f.walls l (want_part l.style (names_via after l) y.part)) None) (ties styles y.style l.style style) ∙ ap (request_of f.walls l) part;
            takes = inl (unmarked p after l none a among);
          }

      -- so what goes there asks for its node, where it is another
      pub record IsAskedFor : Type 0 where
        pub session : l.session ≡ s
        pub style : l.style ≡ st
        pub wish : confirm_for p after l None ≡ Some (own p l.hop.0)

      pub is_asked_for : (toward p f l ≡ toward p after l → ⊥) → IsAskedFor
      is_asked_for changed = record { session = session; style = style; wish = by (marked_units p after l) refl }
        where
          session : l.session ≡ s
          session = either (eq_by_cmp sessions.cmp l.session s) (λ tied. tied_same sessions l.session s tied)
              (λ apart. absurd (changed (same_toward (λ u y v new there style part.
              let bad : true ≡ false = sym (ties sessions l.session s (wanted_told s st names flow true (l.session, u) y new).0) ∙ apart in cc))))

          style : l.style ≡ st
          style = either (eq_by_cmp styles.cmp l.style st) (λ tied. tied_same styles l.style st tied)
              (λ apart. absurd (changed (same_toward (λ u y v new there style part.
              let bad : true ≡ false = sym (ties styles l.style st (sym style ∙ (wanted_told s st names flow true (l.session, u) y new).1)) ∙ apart in cc))))

          by : (us : List UnitOf) → marked_units p after l ≡ us → confirm_for p after l None ≡ Some (own p l.hop.0)
          by (u ∷ us) is = ap (own_wish p l) is
          by [] is =
              absurd (changed (same_toward (λ u y v new there style part. subst (λ (us : List UnitOf). In u us) is ((marks_are_used.marked p after l u).1 (marked u y v new there style part)))))

      -- and it asks for no less than the call, where all that goes there is of one unit
      pub covers : (toward p f l ≡ toward p after l → ⊥) → (k : UnitOf) (t : Part) → get (toward p after l) k ≡ Some t → ((other : UnitOf) → has (toward p after l) other ≡ true → k ≡ other)
          → IsAtMost flow t.flow
      covers changed k t e all =
          either (flow_le flow t.flow) (λ yes. at_most_told flow t.flow yes)
          (λ less. absurd (changed (same_toward (λ u y v new there style part.
          let a : Request = record { part = v; blockaded = is_blockaded l.style f.walls l v } in
          let among : In a (requests p after l) = (requests_and_toward.each p after l a).1 (inr (record { unit = u; want = y; there = there; style = style; part = part; blockaded = refl })) in
          let named : has_name v ≡ true = part_named l.style (names_via after l) y.part v part in
          let goes : has (toward p after l) (part_unit l.style v) ≡ true =
          toward_there l.style (requests p after l) (part_unit l.style v) a (record { among = among; named = named; unit = refl }) in
          let below = open_below l.style (requests p after l) k t a
          (record { request = record { among = among; named = named; unit = all (part_unit l.style v) goes }; unmarked = unmarked p after l none a among }) e in
          let is : v.flow ≡ flow = part_flow l.style (names_via after l) y.part v part ∙ wanted_flow s st names flow true (l.session, u) y new in
          let bad : true ≡ false = sym (at_most_tested flow t.flow (subst (λ (z : TokenBucket). IsAtMost z t.flow) is below.flow)) ∙ less in
          cc))))

      -- and no unit that went there does so no more
      pub goes_on_to : (un : UnitOf) → has (toward p f l) un ≡ true → has (toward p after l) un ≡ true
      goes_on_to un h =
          let o = toward_source l.style (requests p f l) un h in
          let a : Request = o.0 in
          let same : In a (requests p after l) → has (toward p after l) un ≡ true = (λ i. toward_there l.style (requests p after l) un a (record { among = i; named = o.1.named; unit = o.1.unit })) in
          ⊎_elim (λ (z : IsResvRequest p f l a). same (kept_request a z))
          (λ (z : IsWantRequest f l a).
          ⊎_elim (λ (there : get after.wants (l.session, z.unit) ≡ Some z.want). same (same_want a z there))
          (λ (y : IsReplaced (l.session, z.unit) z.want).
          let v = part_grows l.style (names_via f l) z.want.part y.want.part a.part y.part z.part in
          let b : Request = record { part = v.0; blockaded = is_blockaded l.style f.walls l v.0 } in
          let style : y.want.style ≡ l.style = y.style ∙ z.style in
          let among : In b (requests p after l) =
          (requests_and_toward.each p after l b).1 (inr (record { unit = z.unit; want = y.want; there = y.there; style = style; part = v.1; blockaded = refl })) in
          let old_shape : IsWantShape l.style z.unit z.want.part =
          subst (λ (k : StyleKind). IsWantShape k z.unit z.want.part) z.style ((((r s).paths.bounds.facts n f at).shapes.wants (l.session, z.unit) z.want z.there).shape) in
          let new_shape : IsWantShape l.style z.unit y.want.part = subst (λ (k : StyleKind). IsWantShape k z.unit y.want.part) style (shape (l.session, z.unit) y.want y.there) in
          let unit : part_unit l.style a.part ≡ part_unit l.style v.0 =
          want_unit l.style (names_via f l) z.unit z.want.part a.part old_shape z.part ∙ sym (want_unit l.style (names_via f l) z.unit y.want.part v.0 new_shape v.1) in
          toward_there l.style (requests p after l) un b (record { among = among; named = part_named l.style (names_via f l) y.want.part v.0 v.1; unit = o.1.unit ∙ unit }))
          (stays (l.session, z.unit) z.want z.there))
          ((requests_and_toward.each p f l a).0 o.1.among)

    -- ---- what the node sends
    abbrev change : Change
    change = act p c (Call call) f

    same_offers : offers p f ≡ offers p after
    same_offers = λ j. offers p (record f { senders = sym (unless_same (call_refusal p call f) f.senders) j; advertised = sym (unless_same (call_refusal p call f) f.advertised) j })

    pub record IsAskedNow (z : Send) : Type 0 where
      pub lane : Lane
      pub dst : z.dst ≡ lane.hop.1
      pub there : (y : Sender) × ComesBy after lane.session lane.hop y
      pub session : lane.session ≡ s
      pub resv : ResvMsg
      pub says : z.message ≡ message.Resv resv
      pub of_session : resv.session ≡ s
      pub style : ask_style resv.ask ≡ st
      pub hop : resv.hop.addr ≡ own p lane.hop.0
      pub wish : resv.confirm ≡ Some (own p lane.hop.0)
      pub whole : ask_of lane.style (toward p after lane) ≡ Some resv.ask
      pub changed : toward p f lane ≡ toward p after lane → ⊥

    asked_now : (z : Send) → IsResv p p f after change z → IsAskedNow z
    asked_now z x =
        let changed_one : is_changed p p f after x.lane ≡ true = x.why in
        let changed : toward p f x.lane ≡ toward p after x.lane → ⊥ =
        (λ same. let bad : true ≡ false = sym changed_one ∙ ap not (parts_tested (toward p f x.lane) (toward p after x.lane) same) in cc) in
        let d = is_asked_for x.lane changed in
        let wish : cond (is_changed p p f after x.lane) (confirm_for p after x.lane None) None ≡ Some (own p x.lane.hop.0) =
        ap (λ (b : Bool). cond b (confirm_for p after x.lane None) None) changed_one ∙ d.wish in
        let is : z ≡ resv_send p after x.lane (Some (own p x.lane.hop.0)) false x.ask = x.is ∙ ap (λ (o : Option Addr). resv_send p after x.lane o false x.ask) wish in
        record {
          lane = x.lane;
          dst = ap (λ (o : Send). o.dst) is;
          there = (known_and_via.lanes_by after x.lane).0 x.there;
          session = d.session;
          resv = _;
          says = ap (λ (o : Send). o.message) is;
          of_session = d.session;
          style = style_told x.lane.style (toward p after x.lane) x.ask x.whole ∙ d.style;
          hop = refl;
          wish = refl;
          whole = x.whole;
          changed = changed;
        }

    pub only_asked : (z : Send) → In z (sent_then p p c (Call call) f) → IsAskedNow z
    only_asked z i =
        ⊎_elim
        (λ (x : IsPathTear p p f after change z). let bad : true ≡ false = sym x.was ∙ ap (λ (o : Offers). has o x.key) same_offers ∙ x.gone in absurd (cc))
        (λ k. ⊎_elim
        (λ (x : IsResvTear p p f after change z).
        let first = one_name (torn_names p p f after x.lane) x.some in
        let both = and_both _ _ (sym (has-cut senders (gone_names (toward p f x.lane) (toward p after x.lane)) (names_via after x.lane) first.0) ∙ first.1) in
        let gone = (gone_by_units.each (toward p f x.lane) (toward p after x.lane) first.0).0 both.0 in
        let bad : true ≡ false = sym (goes_on_to x.lane gone.unit (ap is_some gone.was)) ∙ gone.gone in
        absurd (cc))
        (λ k. ⊎_elim (λ (x : IsError p p f after change z). absurd x.made)
        (λ k. ⊎_elim (λ (x : IsConf p p f after change z). absurd x.made)
        (λ k. ⊎_elim
        (λ (x : IsPath p p f after change z).
        let old : get (offers p f) x.key ≡ Some x.offer = ap (λ (o : Offers). get o x.key) same_offers ∙ x.offered in
        let new : is_new_offer p x.key.iface x.offer (get (offers p f) x.key) ≡ false = ap (λ (o : Option Offer). is_new_offer p x.key.iface x.offer o) old ∙ not_new p x.key.iface x.offer in
        let bad : true ≡ false = sym x.why ∙ new in
        absurd (cc))
        (λ (x : IsResv p p f after change z). asked_now z x) k) k) k) k)
        (send_told p p c (Call call) f z i)

  -- ---- nobody begins to send
  pub live_before : (y : Sender) (t : TokenBucket) → IsLive then (s, y) t → IsLive w (s, y) t
  live_before y t l = live_back q n call w refl (s, y) t l

  -- ---- at the end by which the path of the only sender comes
  module _ (x : Sender) (only_one : IsOnlySender w s x) where
    pub only_then : IsOnlySender then s x
    only_then y t l = only_one y t (live_before y t l)

    pub record IsRequestThere (z : Item) : Type 0 where
      pub hop : LinkHop
      pub there : In hop (tree w.net.hops s.group x.addr)
      pub node : node_of w.net.ends hop.to ≡ n
      pub request : IsRequest then s st hop.to z
      pub least : IsForAtLeast flow z

    -- what is sent is for the sender alone, and so of one unit, and no less than the call
    no_less_asked : (z : Item) (b : Bool) → In (z, b) (sent q (At n call) w) → (f : Facts) (at : slice_get w.nodes n ≡ Some f) (k : Send) (d : IsAskedNow f at k)
        → z.arrival ≡ Spelt (message.Resv d.resv) → IsForAtLeast flow z
    no_less_asked z b i f at k d spelt v j =
        let l : Lane = d.lane in
        let asks : In v (asked_units d.resv.ask) = subst (λ (o : Arrival). In v (arrival_units o)) spelt j in
        let flies : In z then.flight = in_right z w.flight (each (λ (o : Item × Bool). o.0) (sent q (At n call) w)) (to_each (λ (o : Item × Bool). o.0) (z, b) (sent q (At n call) w) i) in
        let are : ArePartsOf l.style (toward p (after f at) l) =
        subst (λ (o : PartTable). ArePartsOf l.style o) (ap (λ (o : Facts). toward p o l) (facts_are f at) ∙ rule_in_parts.toward_same p p c (Call call) f l)
        (parts_of_style p then.clock (g f at) ((r' s).paths.bounds.facts n (g f at) (at_then f at)) l) in
        let style : ask_style d.resv.ask ≡ l.style = style_told l.style (toward p (after f at) l) d.resv.ask d.whole in
        let only_z : IsOnlySender then d.resv.session x = subst (λ (o : Session). IsOnlySender then o x) (sym d.of_session) only_then in
        let named : (o : AskedUnit) → In o (asked_units d.resv.ask) → (part : Part) → o.names ≡ Some part.senders → has part.senders (name_of l.style x) ≡ true =
        (λ o h part is.
        let sound = (r' s).sound.items z d.resv o flies spelt h in
        let same : sound.names ≡ part.senders = of_some sound.names part.senders (sym sound.named ∙ is) in
        subst (λ (y : Names × StyleKind). has y.0 (name_of y.1 x) ≡ true) (λ t. (same t, style t))
        (listed_one then d.resv.session x only_z (ask_style d.resv.ask) z.end d.resv.hop.addr o.unit (record { senders = sound.names; flow = o.flow }) sound.sound)) in
        let units_of : (o : AskedUnit) → In o (asked_units d.resv.ask) ↔ IsAskedOf (toward p (after f at) l) o = (λ o. units_told l.style (toward p (after f at) l) d.resv.ask o are d.whole) in
        let mine = (units_of v).0 asks in
        let all : (other : UnitOf) → has (toward p (after f at) l) other ≡ true → v.unit ≡ other =
        (λ other h.
        let t = has_some (get (toward p (after f at) l) other) h in
        let o : AskedUnit = record { unit = other; names = Some t.0.senders; flow = t.0.flow } in
        let theirs = (units_of o).1 (record { part = t.0; there = t.1; names = refl; flow = refl }) in
        sym (are v.unit mine.part mine.there).1
        ∙ common_unit l.style mine.part t.0 (name_of l.style x) (are v.unit mine.part mine.there).0 (are other t.0 t.1).0 (named v asks mine.part mine.names) (named o theirs t.0 refl)
        ∙ (are other t.0 t.1).1) in
        subst (λ (o : TokenBucket). IsAtMost flow o) (sym mine.flow) (covers f at l d.changed v.unit mine.part mine.there all)

    pub request_there : (z : Item) (b : Bool) → In (z, b) (sent q (At n call) w) → IsRequestThere z
    request_there z b i =
        let k = (what_is_sent_is_copied q (At n call) w (z, b)).0 i in
        let arrival : z.arrival ≡ Spelt k.send.message = ap (λ (o : Item × Bool). o.0.arrival) k.is in
        ⊎_elim
        (λ (h : outcome q (At n call) w k.node k.facts ≡ still k.facts). absurd (subst (λ (o : Outcome). In k.send o.sent) h k.sent))
        (λ (h : IsCalled q w n call k.node k.facts).
        let at : slice_get w.nodes n ≡ Some k.facts = ap (λ (o : ℕ). slice_get w.nodes o) h.node ∙ k.there in
        let by : outcome q (At n call) w k.node k.facts ≡ rule p p c (Call call) k.facts =
        h.is ∙ ap (λ (o : ℕ). rule (config_of q w.net w.trees o) (config_of q w.net w.trees o) c (Call call) k.facts) (sym h.node) in
        let among : In k.send (sent_then p p c (Call call) k.facts) = subst (λ (o : Outcome). In k.send o.sent) by k.sent in
        let d = only_asked k.facts at k.send among in
        let f : Facts = k.facts in
        let mine : (outcome q (At n call) w n f).facts ≡ facts_then p p c (Call call) f = facts_are f at in
        let comes : ComesBy (outcome q (At n call) w n f).facts d.lane.session d.lane.hop d.there.0 =
        record { path = d.there.1.path; there = ap (λ (o : Facts). get o.paths (d.lane.session, d.there.0)) mine ∙ d.there.1.there; by = d.there.1.by } in
        let from = ahead then n (outcome q (At n call) w n f).facts (r' s).paths.sound (at_then f at) d.lane.session d.lane.hop d.there.0 comes in
        let live = live_told then d.lane.session d.there.0 from.live in
        let sender : d.there.0 ≡ x = subst (λ (o : Session). IsOnlySender then o x) (sym d.session) only_then d.there.0 live.0 live.1 in
        let there : In from.way (tree w.net.hops s.group x.addr) = subst (λ (o : Session × Sender). In from.way (tree w.net.hops o.0.group o.1.addr)) (λ j. (d.session j, sender j)) from.there in
        let end : end_at w.net.ends n d.lane.hop.0 ≡ Some from.way.to =
        (λ j. end_at w.net.ends (sym from.previous.node j) (sym from.previous.iface j))
        ∙ (interfaces_are_ends w.net).end_of_iface from.way.to (to_there w.net (r s).paths.bounds.net s.group x.addr from.way there) in
        let addr : own p d.lane.hop.0 ≡ addr_of w.net from.way.to = own_end q w.net w.trees n d.lane.hop.0 from.way.to end in
        record {
          hop = from.way;
          there = there;
          node = from.previous.node;
          request = record { resv = d.resv; says = arrival ∙ ap Spelt d.says; session = d.of_session; style = d.style; hop = d.hop ∙ addr; wish = d.wish ∙ ap Some addr };
          least = no_less_asked z b i k.facts at k.send d (arrival ∙ ap Spelt d.says);
        })
        (called q w n call k.node k.facts)

-- ---- in a settled network
module _ (q n : ℕ) (s : Session) (st : StyleKind) (names : Names) (flow : TokenBucket) (x : Sender) (w : World) (bounds : AreBounds q w) (hosts : AreHosts w)
    (settled : HasSettled q w) (quiet : w.flight ≡ []) (only_one : IsOnlySender w s x) (list : IsFitList st names) (sound : IsSound flow) (no_less : AsksNoLess w n s st names flow true)
    (fit : DemandsFit w.net (locals_of (after_want q n s st names flow true w))) where
  abbrev asked : World
  asked = after_want q n s st names flow true w

  reserving : (c : Session) → IsReserving q c w
  reserving = settled_is_reserved q w (begins q n s st names flow true w bounds hosts settled quiet list sound no_less fit) settled quiet

  reserving_then : (c : Session) → IsReserving q c asked
  reserving_then c = (a_receiver_is_set_up q n c s st names flow true w (reserving c) list sound no_less (each_fits w.net (locals_of asked) fit c)).0

  there : (z : Item) → In z asked.flight → IsRequestThere q n s st names flow w reserving reserving_then no_less x only_one z
  there z j =
      ⊎_elim (λ (old : In z w.flight). absurd (subst (λ (zs : List Item). In z zs) quiet old))
      (λ (new : In z (each (λ (o : Item × Bool). o.0) (sent q (At n (WantAs s st names flow true)) w))).
      let k = in_each (λ (o : Item × Bool). o.0) z (sent q (At n (WantAs s st names flow true)) w) new in
      request_there q n s st names flow w reserving reserving_then no_less x only_one z k.0.1
      (subst (λ (o : Item). In (o, k.0.1) (sent q (At n (WantAs s st names flow true)) w)) (sym k.2) k.1))
      (in_append z w.flight (each (λ (o : Item × Bool). o.0) (sent q (At n (WantAs s st names flow true)) w)) j)

  -- all go over one hop
  one_end : (y : Item) (i : In y asked.flight) → (z : Item) → In z asked.flight → IsRequest asked s st (there y i).hop.to z × IsForAtLeast flow z
  one_end y i z j =
      let v = there y i in
      let k = there z j in
      let same : k.hop ≡ v.hop = one w.net (reserving s).paths.bounds.net s.group x.addr k.hop v.hop k.there v.there (k.node ∙ sym v.node) in
      (subst (λ (h : LinkHop). IsRequest asked s st h.to z) same k.request, k.least)

  ends_inside : (y : Item) (i : In y asked.flight) → (there y i).hop.to < length w.net.ends
  ends_inside y i = to_there w.net (reserving s).paths.bounds.net s.group x.addr (there y i).hop (there y i).there

  only_asked_one : IsOnlySender asked s x
  only_asked_one = only_then q n s st names flow w reserving reserving_then no_less x only_one

  pub a_receiver_is_answered : (y : Item) → In y asked.flight → (e : ℕ) × (node_of w.net.ends e ≡ n) × Happens (machine q) (IsAnswered s st x flow e) (passes q (2 * longest w.net) asked) asked
  a_receiver_is_answered y i = (
    (there y i).hop.to,
    (there y i).node,
    requests_are_answered q s st x (there y i).hop.to asked (reserving_then s) only_asked_one (ends_inside y i) flow y i (there y i).least (λ z j. (one_end y i z j).0),
  )

  pub what_is_confirmed_is_held : (y : Item) → In y asked.flight → (e : ℕ) × (node_of w.net.ends e ≡ n) × Happens (machine q) (IsConfirmed q s st x flow e) (passes q (2 * longest w.net) asked) asked
  what_is_confirmed_is_held y i =
      ((there y i).hop.to, (there y i).node, requests_are_held q s st x flow (there y i).hop.to asked reserving_then only_asked_one (ends_inside y i) y i (one_end y i))
