-- A host begins to send in the pair of nodes, where a receiver waits: the premises of the laws, and what they promise does not hold yet.
use Rattle.std.proofs.Common.{◌≡◌, ◌≤◌, ℕ, zero, suc, List, [], ◌∷◌, length, Bool, true, false, cond, None, Some, inl, ⊎_elim, arith, sym, refl, ap, subst, ◌∙◌}
use Rattle.std.specs.Prelude.{slice_get, ◌==◌, map as each, if◌then◌else◌}
use Rattle.std.specs.Fmt.{digits}
use Rattle.std.specs.List.{flat_map}
use Rattle.std.specs.Option.{unwrap_or}
use Rattle.std.specs.Ordering.{eq_by_cmp}
use Rattle.rsvp_base.specs.declared.entry_key.EntryKey.{EntryKey}
use Rattle.rsvp_base.specs.declared.part.Part.{Part}
use Rattle.rsvp_base.specs.declared.session.Session.{Session}
use Rattle.rsvp_base.specs.declared.style.StyleKind.{StyleKind}
use Rattle.rsvp_base.specs.declared.style.StyleKind.TheVariants.{Wild, Fixed, Shared}
use Rattle.rsvp_base.specs.declared.style.Unit.TheVariants.{One}
use Rattle.rsvp_base.specs.Members.{In}
use Rattle.rsvp_base.specs.Orders.{entry_keys, sessions}
use Rattle.rsvp_base.specs.Table.{Table, empty, get}
use Rattle.rsvp_base.specs.TokenBucket.{TokenBucket}
use Rattle.rsvp_base.proofs.Counts.{found_in}
use Rattle.rsvp_base.proofs.Tables.{got_put_in}
use Rattle.style_rules.specs.Limits.{IsWithinLimits}
use Rattle.style_rules.specs.Lines.{Line, LineKey, held}
use Rattle.value_texts.specs.Texts.{addr_text, flow_text, sender_text, session_text}
use Rattle.value_texts.specs.Reports.{entry_line, head_text}
use Rattle.router_rules.specs.Facts.{Facts, PathState, ResvState, SenderKey, Want, WantKey, no_facts, resvs_of, sender_keys, want_keys}
use Rattle.tree_model.specs.declared.hops.End.{End}
use Rattle.tree_model.specs.declared.hops.LinkHop.{LinkHop}
use Rattle.tree_model.specs.declared.hops.TreeHop.{TreeHop}
use Rattle.tree_model.specs.declared.locals.LocalSender.{LocalSender}
use Rattle.tree_model.specs.declared.locals.LocalWant.{LocalWant}
use Rattle.tree_model.specs.Goals.{DemandsFit, demand_of, hop_lines, sessions_named}
use Rattle.tree_model.specs.Networks.{owner}
use Rattle.tree_model.specs.Trees.{hops_of}
use Rattle.tree_model.specs.Wants.{Locals, want}
use Rattle.tree_model.proofs.Following.{in_group}
use Rattle.network_model.specs.RouterRules.Rule.{facts_with}
use Rattle.network_model.specs.ThreeRouters.{first, group, s1, session, usual}
use Rattle.network_model.specs.Bounds.{AreHosts}
use Rattle.network_model.specs.Links.{is_group}
use Rattle.network_model.specs.Locals.{IsLive, locals_of, senders_at, sessions_of}
use Rattle.network_model.specs.Sound.{ArePathsComplete, ArePathsSound, AreResvsSound, IsExact}
use Rattle.network_model.specs.Worlds.{Item}
use Rattle.laws_network.specs.Example.{pair_net, quiet_world}
use Rattle.laws_network.proofs.Known.{of_some}
use Rattle.settle_paths.specs.Sure.{forth}
use Rattle.settle_resvs.specs.Sessions.{AreExactOf, IsFreeOfBlockadesOf}
use Rattle.settle_resvs.proofs.GoalByIface.{each_fits}
use Rattle.settle_resvs.proofs.UnderTheGoal.{want_needs}
use Rattle.settle_passes.specs.Reserving.{AsksNoLess, HasReserved, IsReserving}
use Rattle.settle_passes.proofs.AskedExample.{a_receiver_asks}
use Rattle.settle_passes.proofs.Serving.{settled_again}
use Rattle.settle_passes.proofs.Wanting.{a_receiver_is_set_up, a_settled_session_is_reserved}
use Rattle.settle_passes.proofs.Worked.{a_pair_is_set_up}
use Rattle.settle_releases.specs.Releases.{HasNoMark}
use Rattle.settle_releases.specs.Worked.{served_world}
use Rattle.settle_releases.proofs.Worked.{a_receiver_quits}
use Rattle.settle_senders.specs.Worked.{AMarkIsAnswered, ANewDemandIsRefused, APathGoesToOneEnd, AReceiverWaits, ASenderEnds, ASharedFlowFallsLater, ATearIsInFlight}
use Rattle.settle_senders.specs.Worked.{NoPassIsSpared, TwoSendersEnd, WhatIsLeftOverStays, joined_world, let_go_world, waiting_world}
use Rattle.settle_senders.proofs.Sending.{a_reserving_session_follows}
use Rattle.settle_senders.proofs.Serving.{a_new_sender_is_followed}

-- ---- nothing is reserved, wanted or blockaded at first
no_one : (n : ℕ) (f : Facts) → slice_get quiet_world.nodes n ≡ Some f → no_facts ≡ f
no_one zero f a = of_some no_facts f a
no_one (suc zero) f a = of_some no_facts f a
no_one (suc (suc n)) f a = absurd (cc)

none : (st : StyleKind) (k : LineKey) → get (resvs_of st no_facts) k ≡ None
none Wild k = refl
none Fixed k = refl
none Shared k = refl

no_resv : (st : StyleKind) (n : ℕ) (f : Facts) (k : LineKey) (r : ResvState) → slice_get quiet_world.nodes n ≡ Some f → get (resvs_of st f) k ≡ Some r → ⊥
no_resv st n f k r a h = let bad : None ≡ Some r = sym (none st k) ∙ ap (λ (z : Facts). get (resvs_of st z) k) (no_one n f a) ∙ h in cc

sound : AreResvsSound quiet_world
sound = record { facts = λ st n f k r a h. absurd (no_resv st n f k r a h); items = λ y m u i. absurd i }

free : (c : Session) → IsFreeOfBlockadesOf c quiet_world
free c n f a t = ap (λ (z : Facts). get z.walls (c, t)) (sym (no_one n f a))

no_limits : (st : StyleKind) → IsWithinLimits st []
no_limits st = record { lines = omega arith; sessions = omega arith; next_hops = λ s. omega arith; names = λ s. omega arith }

fit : DemandsFit pair_net (locals_of quiet_world)
fit = record {
  capacity = λ e x is. let nothing : held (demand_of pair_net (locals_of quiet_world) e) ≡ 0 = refl in omega arith;
  mtu = λ e x k p is got. absurd (cc);
  one_style = λ v w i j same. absurd i;
  limits = λ n st. no_limits st;
}

-- the network has one hop
one_hop : (c : Session) (h : LinkHop) → In h (hops_of pair_net.hops c.group) → h ≡ forth
one_hop c h i =
    let g = in_group pair_net.hops c.group h i in
    ⊎_elim (λ (e : g.0 ≡ record { group = group; source = s1; hop = forth }). sym g.3 ∙ ap (λ (z : TreeHop). z.hop) e) (λ (no : ⊥). absurd no) g.1

exact : (c : Session) → AreExactOf c quiet_world
exact c st h i =
    subst (λ (z : LinkHop). IsExact st quiet_world c z) (sym (one_hop c h i))
    (record {
      facts = no_facts;
      node = refl;
      wanted = λ u p got. absurd (want_needs st pair_net (locals_of quiet_world) c forth u p got).there;
      stands = λ u r got. absurd (no_resv st 0 no_facts _ r refl got);
    })

nothing_reserved : (c : Session) → IsReserving 7500 c quiet_world
nothing_reserved c = a_settled_session_is_reserved 7500 c quiet_world a_pair_is_set_up.start sound (each_fits pair_net (locals_of quiet_world) fit c) (free c) (exact c) refl

-- ---- a receiver waits
no_less : AsksNoLess quiet_world 1 session Wild empty usual false
no_less f k old new a h i = let bad : None ≡ Some old = ap (λ (z : Facts). get z.wants k) (no_one 1 f a) ∙ h in absurd (cc)

abbrev waits : Locals
waits = locals_of waiting_world

abbrev goal_by : Bool → List Line
goal_by b = flat_map (λ st. flat_map (λ s. flat_map (hop_lines st pair_net waits s) (if b then forth ∷ [] else [])) (sessions_named waits)) (Wild ∷ Fixed ∷ Shared ∷ [])

goal_none : (b : Bool) → goal_by b ≡ []
unfolding want
goal_none true = refl
goal_none false = refl

held_none : (e : ℕ) (x : End) → slice_get pair_net.ends e ≡ Some x → held (demand_of pair_net waits e) ≡ 0
unfolding want
held_none zero x is = refl
held_none (suc zero) x is = refl
held_none (suc (suc e)) x is = absurd (cc)

demand_none : (e : ℕ) (x : End) → slice_get pair_net.ends e ≡ Some x → (demand_of pair_net waits e).rows ≡ []
unfolding want
demand_none zero x is = refl
demand_none (suc zero) x is = refl
demand_none (suc (suc e)) x is = absurd (cc)

abbrev the_want : LocalWant
the_want = record { node = 1; session = session; style = Wild; part = record { senders = empty; flow = usual } }

want_is : (v : LocalWant) → In v waits.wants → v ≡ the_want
want_is v i = ⊎_elim (λ (same : v ≡ the_want). same) (λ (no : ⊥). absurd no) i

waiting_fits : DemandsFit pair_net waits
waiting_fits = record {
  capacity = λ e x is. let nothing = held_none e x is in omega (arith, nothing);
  mtu = λ e x k p is got. absurd (subst (λ (z : List (EntryKey × Part)). In (k, p) z) (demand_none e x is) (found_in entry_keys (demand_of pair_net waits e) k p got));
  one_style = λ v w i j same. ap (λ (z : LocalWant). z.style) (want_is v i) ∙ sym (ap (λ (z : LocalWant). z.style) (want_is w j));
  limits = λ n st. subst (λ (z : List Line). IsWithinLimits st z) (sym (goal_none (0 == n))) (no_limits st);
}

waits_so : (c : Session) → IsReserving 7500 c waiting_world × HasReserved c waiting_world
waits_so c = a_receiver_is_set_up 7500 1 c session Wild empty usual false quiet_world (nothing_reserved c) tt a_pair_is_set_up.fit no_less (each_fits pair_net waits waiting_fits c)

-- ---- a host begins to send
sender_is : (n : ℕ) (f : Facts) (k : SenderKey) (t : TokenBucket) → slice_get joined_world.nodes n ≡ Some f → get f.senders k ≡ Some t → (n ≡ 0) × (k ≡ (session, first))
sender_is zero f k t e h =
    ⊎_elim
    (λ (here : (k ≡ (session, first)) × (t ≡ usual)). (refl, here.0))
    (λ (old : get no_facts.senders k ≡ Some t). absurd (cc))
    (got_put_in sender_keys no_facts.senders (session, first) usual k t (ap (λ (z : Facts). get z.senders k) (of_some (unwrap_or (slice_get joined_world.nodes 0) no_facts) f e) ∙ h))
sender_is (suc zero) f k t e h =
    let same = of_some (unwrap_or (slice_get joined_world.nodes 1) no_facts) f e in
    let bad : None ≡ Some t = ap (λ (z : Facts). get z.senders k) same ∙ h in
    absurd (cc)
sender_is (suc (suc n)) f k t e h = absurd (cc)

hosts : AreHosts joined_world
hosts = record {
  placed = λ n f k t e h. let is = sender_is n f k t e h in ap (λ (z : SenderKey). owner pair_net.ends z.1.addr) is.1 ∙ ap Some (sym is.0);
  groups = λ n f k t e h. let is = sender_is n f k t e h in ap (λ (z : SenderKey). is_group z.0.group) is.1;
  few_senders = λ s. few (eq_by_cmp sessions.cmp s session);
  few_sessions = let n : length (sessions_of joined_world) ≡ 1 = refl in omega arith;
}
  where
    few : (b : Bool) → length (each (λ (x : LocalSender). x.sender) (cond b ((record { node = 0; session = session; sender = first }) ∷ []) [])) ≤ 16
    few true = omega arith
    few false = omega arith

nobody : (n : ℕ) (m : Table sender_keys TokenBucket) (k : SenderKey) (t : TokenBucket) → senders_at waiting_world n ≡ Some m → get m k ≡ Some t → ⊥
nobody zero m k t e h =
    let same : no_facts.senders ≡ m = of_some _ _ e in
    let bad : None ≡ Some t = ap (λ (z : Table sender_keys TokenBucket). get z k) same ∙ h in
    cc
nobody (suc zero) m k t e h =
    let same : no_facts.senders ≡ m = of_some _ _ e in
    let bad : None ≡ Some t = ap (λ (z : Table sender_keys TokenBucket). get z k) same ∙ h in
    cc
nobody (suc (suc n)) m k t e h = cc

live : IsLive joined_world (session, first) usual
live = record { node = 0; senders = (unwrap_or (slice_get joined_world.nodes 0) no_facts).senders; at = refl; sends = refl }

not_complete : ArePathsComplete joined_world → ⊥
not_complete complete =
    let p = complete (session, first) usual forth live (inl refl) in
    let same = of_some (unwrap_or (slice_get joined_world.nodes 1) no_facts) p.facts p.node in
    let bad : None ≡ Some p.path = ap (λ (z : Facts). get z.paths (session, first)) same ∙ p.there in
    cc

-- what is wanted then is what is wanted where the host sends first
joined_fits : DemandsFit pair_net (locals_of joined_world)
joined_fits = a_receiver_asks.all_fit

new_one : (t : TokenBucket) → IsLive waiting_world (session, first) t → ⊥
new_one t l = nobody l.node l.senders (session, first) t l.at l.sends

-- ---- nobody waits to be confirmed
abbrev waiting_want : Want
waiting_want = record { style = Wild; part = record { senders = empty; flow = usual }; confirm = false }

abbrev facts_1 : Facts
facts_1 = unwrap_or (slice_get waiting_world.nodes 1) no_facts

unmarked : HasNoMark waiting_world
unmarked zero f k x at h = let bad : None ≡ Some x = ap (λ (z : Facts). get z.wants k) (of_some (unwrap_or (slice_get waiting_world.nodes 0) no_facts) f at) ∙ h in absurd (cc)
unmarked (suc zero) f k x at h =
    ⊎_elim (λ (e : (k, x) ≡ ((session, One), waiting_want)). ap (λ (z : WantKey × Want). z.1.confirm) e) (λ (never : ⊥). absurd never)
    (found_in want_keys facts_1.wants k x (ap (λ (z : Facts). get z.wants k) (of_some facts_1 f at) ∙ h))
unmarked (suc (suc n)) f k x at h = absurd (cc)

pub a_receiver_waits : AReceiverWaits
a_receiver_waits = record {
  bounds = (waits_so session).0.paths.bounds;
  locals = (waits_so session).0.paths.hosts;
  settled = settled_again 7500 session waiting_world (λ c. (waits_so c).0) (λ c. (waits_so c).1.exact);
  quiet = refl;
  fit = a_pair_is_set_up.fit;
  new = new_one;
  hosts = hosts;
  all_fit = joined_fits;
  not_yet = λ h. not_complete h.paths_complete;
  reserving = λ c. (waits_so c).0;
  fits = λ c. each_fits pair_net (locals_of joined_world) joined_fits c;
  following = λ c.
      a_new_sender_is_followed 7500 0 c (session, first) usual waiting_world (a_reserving_session_follows 7500 c waiting_world (waits_so c).0) a_pair_is_set_up.fit new_one hosts
      (each_fits pair_net (locals_of joined_world) joined_fits c);
  not_reserving = λ h. not_complete h.paths.complete;
  unmarked = unmarked;
  flies = λ e. let bad : 1 ≡ 0 = ap (λ (z : List Item). length z) e in omega (arith, bad);
}

pub no_pass_is_spared : NoPassIsSpared
unfolding digits addr_text session_text sender_text flow_text entry_line head_text facts_with
no_pass_is_spared = record { long = refl; text = refl }

pub a_new_demand_is_refused : ANewDemandIsRefused
unfolding digits head_text facts_with
a_new_demand_is_refused = record { text = refl }

pub a_tear_is_in_flight : ATearIsInFlight
unfolding digits addr_text session_text sender_text flow_text entry_line head_text facts_with
a_tear_is_in_flight = record { text = refl }

pub what_is_left_over_stays : WhatIsLeftOverStays
unfolding digits addr_text session_text sender_text flow_text entry_line head_text facts_with
what_is_left_over_stays = record { text = refl }

pub a_path_goes_to_one_end : APathGoesToOneEnd
unfolding digits head_text facts_with
a_path_goes_to_one_end = record { text = refl }

pub a_mark_is_answered : AMarkIsAnswered
unfolding facts_with
a_mark_is_answered = record { text = refl }

-- ---- the host of the served pair ends
nobody_then : (n : ℕ) (m : Table sender_keys TokenBucket) (k : SenderKey) (t : TokenBucket) → senders_at let_go_world n ≡ Some m → get m k ≡ Some t → ⊥
nobody_then zero m k t e h =
    let same : no_facts.senders ≡ m = of_some _ _ e in
    let none : get no_facts.senders k ≡ Some t = ap (λ (z : Table sender_keys TokenBucket). get z k) same ∙ h in
    cc
nobody_then (suc zero) m k t e h =
    let same : no_facts.senders ≡ m = of_some _ _ e in
    let none : get no_facts.senders k ≡ Some t = ap (λ (z : Table sender_keys TokenBucket). get z k) same ∙ h in
    cc
nobody_then (suc (suc n)) m k t e h = cc

-- what the other node has
abbrev heard_path : PathState
heard_path = record { iface = 0; hop = record { addr = s1; handle = 0 }; tspec = usual; police = true; adspec = None; dies = 157500 }

not_forgotten : ArePathsSound let_go_world → ⊥
not_forgotten h =
    let l = (h.facts 1 (unwrap_or (slice_get let_go_world.nodes 1) no_facts) (session, first) heard_path refl refl).sound.live in
    nobody_then l.node l.senders (session, first) usual l.at l.sends

pub a_sender_ends : ASenderEnds
a_sender_ends = record {
  begins = a_receiver_quits.begins;
  settled = a_receiver_quits.settled;
  quiet = refl;
  sends = record { facts = unwrap_or (slice_get served_world.nodes 0) no_facts; there = refl; sends = refl };
  not_yet = λ h. not_forgotten h.sound;
  not_settled = λ h. not_forgotten h.paths_sound;
  unmarked = a_receiver_quits.unmarked;
  flies = λ e. let bad : 1 ≡ 0 = ap (λ (z : List Item). length z) e in omega (arith, bad);
}

pub a_shared_flow_falls_later : ASharedFlowFallsLater
unfolding digits addr_text session_text sender_text flow_text entry_line head_text facts_with
a_shared_flow_falls_later = record { long = refl; text = refl }

pub two_senders_end : TwoSendersEnd
unfolding digits head_text facts_with
two_senders_end = record { long = refl; text = refl }
