-- The pair of nodes in which a host asks: its hosts, its demands, and a test of the worlds that follow.
use Rattle.std.proofs.Common.{◌≡◌, ◌≤◌, ℕ, zero, suc, List, [], ◌∷◌, length, Bool, true, false, cond, Option, None, Some, inl, ⊎_elim, arith, sym, refl, ap, subst, ◌∙◌}
use Rattle.std.specs.Prelude.{slice_get, ◌==◌, ◌&&◌, nat_le, map as each, if◌then◌else◌}
use Rattle.std.specs.List.{flat_map, list_all}
use Rattle.std.specs.Ordering.{eq_by_cmp}
use Rattle.std.proofs.lemmas.Bool.{leb-true}
use Rattle.std.proofs.lemmas.Option.{slice_get_within}
use Rattle.rsvp_base.specs.declared.addr.Addr.{Addr}
use Rattle.rsvp_base.specs.declared.entry_key.EntryKey.{EntryKey}
use Rattle.rsvp_base.specs.declared.part.Part.{Part}
use Rattle.rsvp_base.specs.declared.session.Sender.{Sender}
use Rattle.rsvp_base.specs.declared.session.Session.{Session}
use Rattle.rsvp_base.specs.declared.style.StyleKind.{StyleKind}
use Rattle.rsvp_base.specs.declared.style.StyleKind.TheVariants.{Wild, Fixed, Shared}
use Rattle.rsvp_base.specs.declared.style.Unit.{Unit as UnitOf}
use Rattle.rsvp_base.specs.declared.style.Unit.TheVariants.{One}
use Rattle.rsvp_base.specs.Members.{In}
use Rattle.rsvp_base.specs.Orders.{Names, entry_keys, sessions}
use Rattle.rsvp_base.specs.Table.{Table, empty, get, put_in, size}
use Rattle.rsvp_base.specs.TokenBucket.{TokenBucket}
use Rattle.rsvp_base.proofs.Counts.{found_in}
use Rattle.rsvp_base.proofs.Fronts.{got_in}
use Rattle.rsvp_base.proofs.Members.{all_in}
use Rattle.rsvp_base.proofs.SetLaws.{and_both}
use Rattle.rsvp_base.proofs.Tables.{got_put_in, tied_same}
use Rattle.rsvp_messages.specs.declared.ask.Ask.{Ask}
use Rattle.rsvp_messages.specs.declared.ask.Ask.TheVariants as ask
use Rattle.rsvp_messages.specs.declared.message.Message.{Message}
use Rattle.rsvp_messages.specs.declared.message.Message.TheVariants as message
use Rattle.rsvp_messages.specs.declared.message.PathMsg.{PathMsg}
use Rattle.rsvp_messages.specs.declared.message.ResvMsg.{ResvMsg}
use Rattle.rsvp_messages.specs.Units.{AskedUnit, ask_style, asked_units}
use Rattle.style_rules.specs.Limits.{IsWithinLimits, names_of, next_hops_of}
use Rattle.style_rules.specs.Lines.{Line, LineKey, entry_key, held, line_keys}
use Rattle.style_rules.specs.Parts.{part_le}
use Rattle.calm_rounds.specs.Hold.{Hold}
use Rattle.calm_rounds.specs.Rounds.{Rounds}
use Rattle.calm_rounds.proofs.Holding.{hold_both, hold_map}
use Rattle.router_rules.specs.Facts.{Facts, PathState, ResvState, SenderKey, resvs_of, sender_keys}
use Rattle.router_rules.specs.Inputs.{Arrival, Spelt, Unspelt}
use Rattle.router_rules.specs.NodeConfig.{is_addr, is_session}
use Rattle.router_rules.specs.Sends.{same_flow}
use Rattle.router_examples.specs.ThreeRouters.{s1, r1, session, first, usual}
use Rattle.laws_bounds.proofs.Tests.{addr_told, flow_told, session_told}
use Rattle.tree_model.specs.declared.hops.End.{End}
use Rattle.tree_model.specs.declared.hops.LinkHop.{LinkHop}
use Rattle.tree_model.specs.declared.locals.LocalSender.{LocalSender}
use Rattle.tree_model.specs.declared.locals.LocalWant.{LocalWant}
use Rattle.tree_model.specs.Goals.{DemandsFit, addr_of, demand_of, hop_lines, sessions_named}
use Rattle.tree_model.specs.Networks.{Net, end_at, iface_of, node_of, owner}
use Rattle.tree_model.specs.Trees.{tree}
use Rattle.tree_model.specs.Wants.{Locals, want}
use Rattle.tree_model.proofs.Following.{same_number}
use Rattle.network_model.specs.Bounds.{AreBounds, AreHosts}
use Rattle.network_model.specs.Links.{is_group}
use Rattle.network_model.specs.Locals.{IsLive, locals_of, senders_at, sessions_of}
use Rattle.network_model.specs.Rows.{end_of}
use Rattle.network_model.specs.Sound.{ArePathsComplete, ArePathsSound, AreResvsSound, IsFreeOfBlockade, IsPathAt, IsSoundAt, IsSoundPart, IsSoundPath, IsSoundResv, IsSoundUnit}
use Rattle.network_model.specs.Steps.{Step, machine}
use Rattle.network_model.specs.Worlds.{Item, World}
use Rattle.laws_network.specs.Example.{pair_net}
use Rattle.laws_network.specs.Known.{IsKnown, IsSameNet}
use Rattle.laws_network.proofs.Computed.{Passes, in_rounds, through}
use Rattle.laws_network.proofs.Keeping.{calm_rounds_keep_bounds}
use Rattle.laws_network.proofs.Known.{known_hold, of_some}
use Rattle.laws_network.proofs.Standing.{some_at}
use Rattle.settle_paths.specs.Sure.{forth}
use Rattle.settle_paths.proofs.SoundPaths.{sound_again}
use Rattle.settle_resvs.specs.HopExample.{asked, asking_world}
use Rattle.settle_resvs.proofs.SoundResvs.{part_again}

abbrev pub key : SenderKey
key = (session, first)

-- ---- the one local sender
abbrev none_yet : Table sender_keys TokenBucket
none_yet = empty

sender_is : (n : ℕ) (f : Facts) (k : SenderKey) (t : TokenBucket) → slice_get asking_world.nodes n ≡ Some f → get f.senders k ≡ Some t → (n ≡ 0) × (k ≡ key) × (t ≡ usual)
sender_is zero f k t e h =
    let same = of_some _ _ e in
    ⊎_elim
    (λ (here : (k ≡ key) × (t ≡ usual)). (refl, here.0, here.1))
    (λ (old : get none_yet k ≡ Some t). absurd (cc))
    (got_put_in sender_keys none_yet key usual k t (ap (λ (z : Facts). get z.senders k) same ∙ h))
sender_is (suc zero) f k t e h =
    let same = of_some _ _ e in
    let none : get none_yet k ≡ Some t = ap (λ (z : Facts). get z.senders k) same ∙ h in
    absurd (cc)
sender_is (suc (suc n)) f k t e h = absurd (cc)

few : (b : Bool) → length (each (λ (x : LocalSender). x.sender) (cond b ((record { node = 0; session = session; sender = first }) ∷ []) [])) ≤ 16
few true = omega arith
few false = omega arith

pub hosts : AreHosts asking_world
hosts = record {
  placed = λ n f k t e h. let is = sender_is n f k t e h in ap (λ (z : SenderKey). owner pair_net.ends z.1.addr) is.1 ∙ ap Some (sym is.0);
  groups = λ n f k t e h. let is = sender_is n f k t e h in ap (λ (z : SenderKey). is_group z.0.group) is.1;
  few_senders = λ s. few (eq_by_cmp sessions.cmp s session);
  few_sessions = let n : length (sessions_of asking_world) ≡ 1 = refl in omega arith;
}

pub live : IsLive asking_world key usual
live = record { node = 0; senders = put_in none_yet key usual; at = refl; sends = refl }

live_is : (n : ℕ) (m : Table sender_keys TokenBucket) (k : SenderKey) (t : TokenBucket) → senders_at asking_world n ≡ Some m → get m k ≡ Some t → (k ≡ key) × (t ≡ usual)
live_is zero m k t e h =
    let same = of_some _ _ e in
    ⊎_elim
    (λ (here : (k ≡ key) × (t ≡ usual)). here)
    (λ (old : get none_yet k ≡ Some t). absurd (cc))
    (got_put_in sender_keys none_yet key usual k t (ap (λ (z : Table sender_keys TokenBucket). get z k) same ∙ h))
live_is (suc zero) m k t e h =
    let same = of_some _ _ e in
    let none : get none_yet k ≡ Some t = ap (λ (z : Table sender_keys TokenBucket). get z k) same ∙ h in
    absurd (cc)
live_is (suc (suc n)) m k t e h = absurd (cc)

-- ---- what is wanted
abbrev pub asks : Locals
asks = locals_of asking_world

pub wanted : get (want Wild pair_net asks session forth) One ≡ Some asked
unfolding want
wanted = refl

abbrev pub the_line : Line
the_line = record { style = Wild; session = session; end = 0; next = r1; unit = One; part = asked }

-- the goal of a node, as it is the first one or not
abbrev goal_by : Bool → List Line
goal_by b = flat_map (λ st. flat_map (λ s. flat_map (hop_lines st pair_net asks s) (if b then forth ∷ [] else [])) (sessions_named asks)) (Wild ∷ Fixed ∷ Shared ∷ [])

goal_first : goal_by true ≡ the_line ∷ []
unfolding want
goal_first = refl

goal_other : goal_by false ≡ []
goal_other = refl

no_limits : (st : StyleKind) → IsWithinLimits st []
no_limits st = record { lines = omega arith; sessions = omega arith; next_hops = λ s. omega arith; names = λ s. omega arith }

few_hops : (b : Bool) → size (next_hops_of (if b then the_line ∷ [] else [])) ≤ 64
few_hops true = omega arith
few_hops false = omega arith

few_names : (b : Bool) → size (names_of (if b then the_line ∷ [] else [])) ≤ 16
few_names true = omega arith
few_names false = omega arith

line_limits : (st : StyleKind) → IsWithinLimits st (the_line ∷ [])
line_limits Wild = record {
  lines = omega arith;
  sessions = omega arith;
  next_hops = λ s. few_hops (eq_by_cmp sessions.cmp s session);
  names = λ s. few_names (eq_by_cmp sessions.cmp s session);
}
line_limits Fixed = record { lines = omega arith; sessions = omega arith; next_hops = λ s. omega arith; names = λ s. omega arith }
line_limits Shared = record { lines = omega arith; sessions = omega arith; next_hops = λ s. omega arith; names = λ s. omega arith }

limits_by : (b : Bool) (st : StyleKind) → IsWithinLimits st (goal_by b)
limits_by true st = subst (λ (z : List Line). IsWithinLimits st z) (sym goal_first) (line_limits st)
limits_by false st = subst (λ (z : List Line). IsWithinLimits st z) (sym goal_other) (no_limits st)

-- ---- the demands fit
demand_0 : (demand_of pair_net asks 0).rows ≡ (entry_key the_line, asked) ∷ []
unfolding want
demand_0 = refl

held_0 : held (demand_of pair_net asks 0) ≡ 1000
unfolding want
held_0 = refl

demand_1 : (demand_of pair_net asks 1).rows ≡ []
unfolding want
demand_1 = refl

held_1 : held (demand_of pair_net asks 1) ≡ 0
unfolding want
held_1 = refl

capacity : (e : ℕ) (x : End) → slice_get pair_net.ends e ≡ Some x → held (demand_of pair_net asks e) ≤ x.iface.capacity
capacity zero x is =
    let same : end_of 0 s1 ≡ x = of_some _ x is in
    let room = ap (λ (z : End). z.iface.capacity) same in
    let much = held_0 in
    omega arith
capacity (suc zero) x is = let much = held_1 in omega arith
capacity (suc (suc e)) x is = absurd (cc)

mtu : (e : ℕ) (x : End) (k : EntryKey) (p : Part) → slice_get pair_net.ends e ≡ Some x → get (demand_of pair_net asks e) k ≡ Some p → p.flow.most ≤ x.iface.mtu
mtu zero x k p is got =
    let same : end_of 0 s1 ≡ x = of_some _ x is in
    let room = ap (λ (z : End). z.iface.mtu) same in
    ⊎_elim
    (λ (here : (k, p) ≡ (entry_key the_line, asked)). let most = ap (λ (z : EntryKey × Part). z.1.flow.most) here in omega arith)
    (λ (no : ⊥). absurd no)
    (subst (λ (z : List (EntryKey × Part)). In (k, p) z) demand_0 (found_in entry_keys (demand_of pair_net asks 0) k p got))
mtu (suc zero) x k p is got = absurd (subst (λ (z : List (EntryKey × Part)). In (k, p) z) demand_1 (found_in entry_keys (demand_of pair_net asks 1) k p got))
mtu (suc (suc e)) x k p is got = absurd (cc)

abbrev the_want : LocalWant
the_want = record { node = 1; session = session; style = Wild; part = record { senders = empty; flow = usual } }

want_is : (v : LocalWant) → In v asks.wants → v ≡ the_want
want_is v i = ⊎_elim (λ (same : v ≡ the_want). same) (λ (no : ⊥). absurd no) i

pub fit : DemandsFit pair_net asks
fit = record {
  capacity = capacity;
  mtu = mtu;
  one_style = λ v w i j same. ap (λ (z : LocalWant). z.style) (want_is v i) ∙ sym (ap (λ (z : LocalWant). z.style) (want_is w j));
  limits = λ n st. limits_by (0 == n) st;
}

-- ---- tests
abbrev is_none : {A : Type 0} → List A → Bool
is_none [] = true
is_none (x ∷ xs) = false

none_in : {A : Type 0} (xs : List A) (x : A) → is_none xs ≡ true → In x xs → ⊥
none_in [] x t i = i
none_in (y ∷ ys) x t i = cc

abbrev is_right : Addr → TokenBucket → Bool
is_right a t = is_addr a s1 && same_flow t usual

abbrev is_right_state : PathState → Bool
is_right_state x = (x.iface == 0) && is_right x.hop.addr x.tspec

abbrev is_right_path : SenderKey × PathState → Bool
is_right_path e = eq_by_cmp sender_keys.cmp e.0 key && is_right_state e.1

abbrev has_right : Option PathState → Bool
has_right None = false
has_right (Some x) = is_right_state x

-- some of what is asked for
abbrev is_small : Part → Bool
is_small p = nat_le 1 (size p.senders) && part_le p asked

abbrev back_key : LineKey
back_key = (session, ((0, r1), One))

abbrev is_right_resv : LineKey × ResvState → Bool
is_right_resv e = eq_by_cmp line_keys.cmp e.0 back_key && is_small e.1.part

abbrev is_right_sender : PathMsg → Option (Sender × TokenBucket) → Bool
is_right_sender m None = false
is_right_sender m (Some x) = eq_by_cmp sender_keys.cmp (m.session, x.0) key && is_right m.hop.addr x.1

abbrev is_right_ask : Ask → Bool
is_right_ask (ask.Wild (Some names) flow) = is_small (record { senders = names; flow = flow })
is_right_ask _ = false

abbrev is_right_resv_msg : ResvMsg → Bool
is_right_resv_msg m = is_session m.session session && (is_addr m.hop.addr r1 && is_right_ask m.ask)

abbrev is_right_message : ℕ → Message → Bool
is_right_message e (message.Path m) = (e == 1) && is_right_sender m m.sender
is_right_message e (message.Resv m) = (e == 0) && is_right_resv_msg m
is_right_message e _ = true

abbrev is_right_arrival : ℕ → Arrival → Bool
is_right_arrival e (Spelt m) = is_right_message e m
is_right_arrival e (Unspelt x) = true

abbrev is_right_item : Item → Bool
is_right_item y = is_right_arrival y.end y.arrival

-- the sender's node keeps some of what is asked for and no path, the other one the path of the sender
abbrev is_first : Option Facts → Bool
is_first None = true
is_first (Some f) = is_none f.paths.rows && (list_all is_right_resv f.resvs.wild.rows && (is_none f.resvs.fixed.rows && is_none f.resvs.shared.rows))

abbrev is_second : Option Facts → Bool
is_second None = true
is_second (Some f) = (has_right (get f.paths key) && list_all is_right_path f.paths.rows) && (is_none f.resvs.wild.rows && (is_none f.resvs.fixed.rows && is_none f.resvs.shared.rows))

abbrev pub is_so_far : World → Bool
is_so_far u = list_all is_right_item u.flight && (is_first (slice_get u.nodes 0) && is_second (slice_get u.nodes 1))

abbrev has_no_wall : Facts → Bool
has_no_wall f = size f.walls == 0

abbrev pub is_free : World → Bool
is_free u = list_all has_no_wall u.nodes

-- ---- what they tell
right_told : (k : SenderKey) (a : Addr) (t : TokenBucket) → eq_by_cmp sender_keys.cmp k key ≡ true → is_right a t ≡ true → IsSoundAt asking_world k 1 (a, t)
right_told k a t h h' =
    let x = and_both (is_addr a s1) (same_flow t usual) h' in
    let same : k ≡ key = tied_same sender_keys k key h in
    let flow : t ≡ usual = flow_told t usual x.1 in
    let addr : a ≡ s1 = addr_told a s1 x.0 in
    let sound : IsSoundAt asking_world key 1 (s1, usual) = record { hop = forth; there = inl refl; to = refl; from = refl; live = live } in
    subst (λ (z : SenderKey × (Addr × TokenBucket)). IsSoundAt asking_world z.0 1 z.1) (λ i. (sym same i, (sym addr i, sym flow i))) sound

small_told : (p : Part) → is_small p ≡ true → IsSoundPart Wild asking_world session 0 r1 One p
small_told p t =
    let x = and_both (nat_le 1 (size p.senders)) (part_le p asked) t in
    let many = leb-true 1 (size p.senders) x.0 in
    record { some = omega arith; hop = forth; there = inl refl; from = refl; to = refl; wanted = asked; is = wanted; below = x.1 }

has_told : (o : Option PathState) → has_right o ≡ true → (x : PathState) × (o ≡ Some x) × (is_right_state x ≡ true)
has_told None t = absurd (cc)
has_told (Some x) t = (x, refl, t)

ask_told : (a : Ask) → is_right_ask a ≡ true → (names : Names) × (flow : TokenBucket) × (a ≡ ask.Wild (Some names) flow) × (is_small (record { senders = names; flow = flow }) ≡ true)
ask_told (ask.Wild (Some names) flow) t = (names, flow, refl, t)
ask_told (ask.Wild None flow) t = absurd (cc)
ask_told (ask.Fixed list) t = absurd (cc)
ask_told (ask.Shared part) t = absurd (cc)

module _ (u : World) (bounds : AreBounds 7500 u) (same : IsSameNet asking_world u) (items : list_all is_right_item u.flight ≡ true) (at_0 : is_first (slice_get u.nodes 0) ≡ true)
    (at_1 : is_second (slice_get u.nodes 1) ≡ true) where
  item_told : (y : Item) (m : Message) → In y u.flight → y.arrival ≡ Spelt m → is_right_message y.end m ≡ true
  item_told y m i spelt = ap (is_right_arrival y.end) (sym spelt) ∙ all_in is_right_item u.flight items y i

  path_told : (y : Item) (m : PathMsg) → In y u.flight → y.arrival ≡ Spelt (message.Path m) → (y.end ≡ 1) × (is_right_sender m m.sender ≡ true)
  path_told y m i spelt = let both = and_both (y.end == 1) (is_right_sender m m.sender) (item_told y (message.Path m) i spelt) in (same_number y.end 1 both.0, both.1)

  no_more : (n : ℕ) (f : Facts) → slice_get u.nodes (suc (suc n)) ≡ Some f → ⊥
  no_more n f there =
      let lt = slice_get_within u.nodes (suc (suc n)) f there in
      let many = bounds.nodes in
      let two : u.net.nodes ≡ 2 = ap (λ (z : Net). z.nodes) same.net in
      omega arith

  -- ---- paths
  path_fact : (n : ℕ) (f : Facts) (k : SenderKey) (x : PathState) → slice_get u.nodes n ≡ Some f → get f.paths k ≡ Some x → IsSoundPath u n k x
  path_fact zero f k x there h = absurd (none_in f.paths.rows (k, x) (and_both (is_none f.paths.rows) _ (ap is_first (sym there) ∙ at_0)).0 (found_in sender_keys f.paths k x h))
  path_fact (suc zero) f k x there h =
      let second = and_both (has_right (get f.paths key) && list_all is_right_path f.paths.rows) _ (ap is_second (sym there) ∙ at_1) in
      let rows = and_both (has_right (get f.paths key)) (list_all is_right_path f.paths.rows) second.0 in
      let right = and_both (eq_by_cmp sender_keys.cmp k key) (is_right_state x) (all_in is_right_path f.paths.rows rows.1 (k, x) (found_in sender_keys f.paths k x h)) in
      let both = and_both (x.iface == 0) (is_right x.hop.addr x.tspec) right.1 in
      record {
        end = 1;
        at = ap (end_at u.net.ends 1) (same_number x.iface 0 both.0) ∙ ap (λ (z : Net). end_at z.ends 1 0) same.net;
        sound = sound_again asking_world u k 1 (x.hop.addr, x.tspec) same (right_told k x.hop.addr x.tspec right.0 both.1);
      }
  path_fact (suc (suc n)) f k x there h = absurd (no_more n f there)

  paths_sound : ArePathsSound u
  paths_sound = record {
    facts = path_fact;
    items = λ y m x t i spelt sender way.
        let r = path_told y m i spelt in
        let right = and_both (eq_by_cmp sender_keys.cmp (m.session, x) key) (is_right m.hop.addr t) (ap (is_right_sender m) (sym sender) ∙ r.1) in
        subst (λ (z : ℕ). IsSoundAt u (m.session, x) z (m.hop.addr, t)) (sym r.0)
        (sound_again asking_world u (m.session, x) 1 (m.hop.addr, t) same (right_told (m.session, x) m.hop.addr t right.0 right.1));
    named = λ y m i spelt none. let no : false ≡ true = ap (is_right_sender m) (sym none) ∙ (path_told y m i spelt).1 in absurd (cc);
  }

  second_there : (f : Facts) × (slice_get u.nodes 1 ≡ Some f)
  second_there =
      let many = bounds.nodes in
      let two : u.net.nodes ≡ 2 = ap (λ (z : Net). z.nodes) same.net in
      some_at u.nodes 1 (omega arith)

  path_at : IsPathAt u key usual forth
  path_at =
      let f = second_there in
      let second = and_both (has_right (get f.0.paths key) && list_all is_right_path f.0.paths.rows) _ (ap is_second (sym f.1) ∙ at_1) in
      let x = has_told (get f.0.paths key) (and_both (has_right (get f.0.paths key)) (list_all is_right_path f.0.paths.rows) second.0).0 in
      let a = and_both (x.0.iface == 0) (is_right x.0.hop.addr x.0.tspec) x.2 in
      let b = and_both (is_addr x.0.hop.addr s1) (same_flow x.0.tspec usual) a.1 in
      record {
        facts = f.0;
        node = ap (λ (z : Net). slice_get u.nodes (node_of z.ends 1)) same.net ∙ f.1;
        path = x.0;
        there = x.1;
        iface = same_number x.0.iface 0 a.0 ∙ sym (ap (λ (z : Net). iface_of z.ends 1) same.net);
        hop = addr_told x.0.hop.addr s1 b.0 ∙ sym (ap (λ (z : Net). addr_of z 0) same.net);
        tspec = flow_told x.0.tspec usual b.1;
      }

  paths_complete : ArePathsComplete u
  paths_complete k t h l there =
      let is = live_is l.node l.senders k t (sym (same.senders l.node) ∙ l.at) l.sends in
      let on : In h (forth ∷ []) = subst (λ (z : Net × SenderKey). In h (tree z.0.hops z.1.0.group z.1.1.addr)) (λ i. (same.net i, is.0 i)) there in
      let hop : h ≡ forth = ⊎_elim (λ (e : h ≡ forth). e) (λ (no : ⊥). absurd no) on in
      subst (λ (z : SenderKey × (TokenBucket × LinkHop)). IsPathAt u z.0 z.1.0 z.1.1) (λ i. (sym is.0 i, (sym is.1 i, sym hop i))) path_at

  -- ---- reservations
  small_here : (p : Part) → is_small p ≡ true → IsSoundPart Wild u session 0 r1 One p
  small_here p t = part_again Wild asking_world u session 0 r1 One p (sym same.net) (sym same.locals) (small_told p t)

  first_rows : (f : Facts) → slice_get u.nodes 0 ≡ Some f → (list_all is_right_resv f.resvs.wild.rows ≡ true) × (is_none f.resvs.fixed.rows ≡ true) × (is_none f.resvs.shared.rows ≡ true)
  first_rows f there =
      let rest = (and_both (is_none f.paths.rows) _ (ap is_first (sym there) ∙ at_0)).1 in
      let rows = and_both (list_all is_right_resv f.resvs.wild.rows) (is_none f.resvs.fixed.rows && is_none f.resvs.shared.rows) rest in
      let others = and_both (is_none f.resvs.fixed.rows) (is_none f.resvs.shared.rows) rows.1 in
      (rows.0, others.0, others.1)

  first_resv : (st : StyleKind) (f : Facts) (k : LineKey) (r : ResvState) → slice_get u.nodes 0 ≡ Some f → get (resvs_of st f) k ≡ Some r → IsSoundResv st u 0 k r
  first_resv Wild f k r there h =
      let right = and_both (eq_by_cmp line_keys.cmp k back_key) (is_small r.part) (all_in is_right_resv f.resvs.wild.rows (first_rows f there).0 (k, r) (found_in line_keys f.resvs.wild k r h)) in
      subst (λ (z : LineKey). IsSoundResv Wild u 0 z r) (sym (tied_same line_keys k back_key right.0))
      (record { end = 0; at = ap (λ (z : Net). end_at z.ends 0 0) same.net; sound = small_here r.part right.1 })
  first_resv Fixed f k r there h = absurd (none_in f.resvs.fixed.rows (k, r) (first_rows f there).1 (found_in line_keys f.resvs.fixed k r h))
  first_resv Shared f k r there h = absurd (none_in f.resvs.shared.rows (k, r) (first_rows f there).2 (found_in line_keys f.resvs.shared k r h))

  second_rows : (f : Facts) → slice_get u.nodes 1 ≡ Some f → (is_none f.resvs.wild.rows ≡ true) × (is_none f.resvs.fixed.rows ≡ true) × (is_none f.resvs.shared.rows ≡ true)
  second_rows f there =
      let rest = (and_both (has_right (get f.paths key) && list_all is_right_path f.paths.rows) _ (ap is_second (sym there) ∙ at_1)).1 in
      let rows = and_both (is_none f.resvs.wild.rows) (is_none f.resvs.fixed.rows && is_none f.resvs.shared.rows) rest in
      let others = and_both (is_none f.resvs.fixed.rows) (is_none f.resvs.shared.rows) rows.1 in
      (rows.0, others.0, others.1)

  second_none : (st : StyleKind) (f : Facts) (k : LineKey) (r : ResvState) → slice_get u.nodes 1 ≡ Some f → get (resvs_of st f) k ≡ Some r → ⊥
  second_none Wild f k r there h = none_in f.resvs.wild.rows (k, r) (second_rows f there).0 (found_in line_keys f.resvs.wild k r h)
  second_none Fixed f k r there h = none_in f.resvs.fixed.rows (k, r) (second_rows f there).1 (found_in line_keys f.resvs.fixed k r h)
  second_none Shared f k r there h = none_in f.resvs.shared.rows (k, r) (second_rows f there).2 (found_in line_keys f.resvs.shared k r h)

  resv_fact : (st : StyleKind) (n : ℕ) (f : Facts) (k : LineKey) (r : ResvState) → slice_get u.nodes n ≡ Some f → get (resvs_of st f) k ≡ Some r → IsSoundResv st u n k r
  resv_fact st zero f k r there h = first_resv st f k r there h
  resv_fact st (suc zero) f k r there h = absurd (second_none st f k r there h)
  resv_fact st (suc (suc n)) f k r there h = absurd (no_more n f there)

  resv_item : (y : Item) (m : ResvMsg) (v : AskedUnit) → In y u.flight → y.arrival ≡ Spelt (message.Resv m) → In v (asked_units m.ask) → IsSoundUnit u y m v
  resv_item y m v i spelt j =
      let a = and_both (y.end == 0) (is_right_resv_msg m) (item_told y (message.Resv m) i spelt) in
      let b = and_both (is_session m.session session) (is_addr m.hop.addr r1 && is_right_ask m.ask) a.1 in
      let c = and_both (is_addr m.hop.addr r1) (is_right_ask m.ask) b.1 in
      let r = ask_told m.ask c.1 in
      let the_unit : AskedUnit = record { unit = One; names = Some r.0; flow = r.1 } in
      let one : In v (the_unit ∷ []) = subst (λ (z : Ask). In v (asked_units z)) r.2 j in
      let is : v ≡ the_unit = ⊎_elim (λ (e : v ≡ the_unit). e) (λ (no : ⊥). absurd no) one in
      let end = same_number y.end 0 a.0 in
      let style = ap ask_style r.2 in
      let of_session = session_told m.session session b.0 in
      let hop = addr_told m.hop.addr r1 c.0 in
      let unit = ap (λ (z : AskedUnit). z.unit) is in
      let flow = ap (λ (z : AskedUnit). z.flow) is in
      record {
        names = r.0;
        named = ap (λ (z : AskedUnit). z.names) is;
        sound = subst (λ (z : StyleKind × (Session × (ℕ × (Addr × (UnitOf × TokenBucket))))). IsSoundPart z.0 u z.1.0 z.1.1.0 z.1.1.1.0 z.1.1.1.1.0 (record { senders = r.0; flow = z.1.1.1.1.1 }))
            (λ i. (sym style i, (sym of_session i, (sym end i, (sym hop i, (sym unit i, sym flow i))))))
            (small_here (record { senders = r.0; flow = r.1 }) r.3);
      }

  told : ArePathsSound u × (ArePathsComplete u × AreResvsSound u)
  told = (paths_sound, (paths_complete, record { facts = resv_fact; items = resv_item }))

pub so_far_told : (u : World) → AreBounds 7500 u → IsSameNet asking_world u → is_so_far u ≡ true → ArePathsSound u × (ArePathsComplete u × AreResvsSound u)
so_far_told u bounds same t =
    let x = and_both (list_all is_right_item u.flight) (is_first (slice_get u.nodes 0) && is_second (slice_get u.nodes 1)) t in
    let y = and_both (is_first (slice_get u.nodes 0)) (is_second (slice_get u.nodes 1)) x.1 in
    told u bounds same x.0 y.0 y.1

pub free_told : (u : World) → is_free u ≡ true → IsFreeOfBlockade u
free_told u t = record { walls = λ n f there. same_number (size f.walls) 0 (all_in has_no_wall u.nodes t f (got_in u.nodes n f there)) }

-- ---- through rounds, from a world of which the same is asked
pub so_far_through : (o : World) → AreBounds 7500 o → IsSameNet asking_world o → (rs : List (List Step)) → Rounds (machine 7500) rs o → in_rounds 7500 is_so_far rs o ≡ true
    → Hold (machine 7500) 0 rs o (λ u. ArePathsSound u × (ArePathsComplete u × AreResvsSound u))
so_far_through o bounds same rs calm t =
    hold_map (machine 7500) (λ u. IsKnown 7500 o u × (is_so_far u ≡ true)) (λ u. ArePathsSound u × (ArePathsComplete u × AreResvsSound u))
    (λ u g. so_far_told u g.0.bounds (record {
      net = g.0.same.net ∙ same.net;
      trees = g.0.same.trees ∙ same.trees;
      senders = λ n. g.0.same.senders n ∙ same.senders n;
      advertised = λ n. g.0.same.advertised n ∙ same.advertised n;
      locals = g.0.same.locals
          ∙ same.locals;
    }) g.1) 0 rs o
    (hold_both (machine 7500) (IsKnown 7500 o) (Passes 7500 is_so_far) 0 rs o (known_hold 7500 o rs calm (calm_rounds_keep_bounds 7500 o rs calm bounds)) (through 7500 is_so_far rs o t))
