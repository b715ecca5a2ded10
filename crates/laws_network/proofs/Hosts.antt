-- The local senders of a run: each has an address of its node and is one of those whom the events so far let send, and so they
-- are few.
use Rattle.std.proofs.Common.{◌≡◌, ℕ, zero, suc, ◌+◌, ◌≤◌, List, [], ◌∷◌, T, Bool, true, false, cond, Option, None, Some, ◌⊎◌, inl, inr, ⊎_elim, arith, sym, refl, ap, subst, ◌∙◌}
use Rattle.std.specs.Prelude.{slice_get, is_some, map as each, not, ◌&&◌, ◌++◌, ◌==◌, if◌then◌else◌}
use Rattle.std.specs.FinMap.Entries.{is_sorted}
use Rattle.std.specs.List.{filter}
use Rattle.std.specs.Ordering.{eq_by_cmp}
use Rattle.std.proofs.lemmas.List.{length-map}
use Rattle.rsvp_base.specs.declared.iface.Iface.{Iface}
use Rattle.rsvp_base.specs.declared.addr.Addr.{Addr}
use Rattle.rsvp_base.specs.declared.session.Sender.{Sender}
use Rattle.rsvp_base.specs.declared.session.Session.{Session}
use Rattle.rsvp_base.specs.Keys.{Keys}
use Rattle.rsvp_base.specs.Members.{In}
use Rattle.rsvp_base.specs.SessionLimits.{has_room_at}
use Rattle.rsvp_base.specs.Orders.{senders, sessions}
use Rattle.rsvp_base.specs.Sets.{set_of}
use Rattle.rsvp_base.specs.Table.{Table, get, has, keys, put_in, without, first, second}
use Rattle.rsvp_base.specs.TokenBucket.{TokenBucket}
use Rattle.rsvp_base.proofs.Counts.{in_found, found_in, in_set_of, set_below}
use Rattle.rsvp_base.proofs.Members.{in_any, in_append, in_each, in_filter, to_each, to_filter}
use Rattle.rsvp_base.proofs.Tables.{get-without, got_put_in, got_without, none_above, tied_same, tied_self}
use Rattle.calm_rounds.specs.Hold.{Visited}
use Rattle.calm_rounds.specs.Machine.{run}
use Rattle.laws_steps.proofs.LawsBounds.Tests.{addr_told}
use Rattle.network_model.specs.RouterRules.declared.answers.LocalErr.{LocalErr}
use Rattle.network_model.specs.RouterRules.declared.answers.LocalErr.TheVariants as local
use Rattle.network_model.specs.RouterRules.declared.answers.StaleErr.{StaleErr}
use Rattle.network_model.specs.RouterRules.Calls.{call_refusal, needs, senders_with, stale_refusal, unless, with_left}
use Rattle.network_model.specs.RouterRules.Facts.{Facts, SenderKey, no_facts, sender_keys}
use Rattle.network_model.specs.RouterRules.Inputs.{Call, Input, Local, SendAs, DropAs, AdvertAs, WantAs, QuitAll, Stale, Wait, Clear, Moved}
use Rattle.network_model.specs.RouterRules.NodeConfig.{NodeConfig, is_addr, is_own}
use Rattle.network_model.specs.RouterRules.Rule.{facts_with}
use Rattle.network_model.specs.RouterRules.Steps.{facts_then, node_step}
use Rattle.laws_steps.proofs.Framing.{left_as_it_was}
use Rattle.tree_model.specs.declared.hops.End.{End}
use Rattle.tree_model.specs.declared.locals.LocalSender.{LocalSender}
use Rattle.tree_model.specs.Chains.{NoRepeats}
use Rattle.tree_model.specs.Networks.{Net, node_of_end, ends_of, owner}
use Rattle.tree_model.specs.Trees.{trees_of}
use Rattle.tree_model.specs.Valid.{IsValid}
use Rattle.tree_model.specs.Wants.{live, of_session}
use Rattle.tree_model.proofs.Counts.{not_longer}
use Rattle.tree_model.proofs.Following.{addr_same, addr_itself, number_same, same_number}
use Rattle.tree_model.proofs.Ifaces.{interfaces_are_ends}
use Rattle.network_model.specs.Bounds.{AreBounds, AreHosts}
use Rattle.network_model.specs.Events.{Event, AtNode, Waits, Pass, DeliverAt, LoseAt, CopyAt, ClearNode, Rounds, Traces, Reports, ReportsFlags}
use Rattle.network_model.specs.Events.{ReportsAdverts, Injects, Reroutes, at_place, passes, pieces}
use Rattle.network_model.specs.Events.{rounds, steps_of, all_steps}
use Rattle.network_model.specs.Locals.{locals_of, sender_at, senders_from}
use Rattle.network_model.specs.Runs.{Plan, left_over, first_facts, first_world, steps_of_run}
use Rattle.network_model.specs.Steps.{Step, Piece, Deliver, Lose, Copy, At, ClearAt, Trace, Report, Flags, Adverts, Inject, Reroute, is_calm, ms_of, net_after, at_node, input_at, outcome}
use Rattle.network_model.specs.Steps.{outcome_of, word_for, step, machine}
use Rattle.network_model.specs.Worlds.{World, with_iface, ifaces_at, config_of}
use Rattle.network_model.proofs.NodeLocals.{sender_of_node, sender_told}
use Rattle.network_model.proofs.Quiet.{IsWaited, IsCame, at_node_found, input_found}
use Rattle.network_model.proofs.Stepping.{facts_after_found}
use Rattle.laws_network.specs.Runs.{AreFew, AreFewSenders, AreFitSenders, IsFitRun, is_sender_at, sending_by_call, sending_then}
use Rattle.laws_network.proofs.Beginning.{each_found}
use Rattle.laws_network.proofs.Keeping.{ends_same}
use Rattle.laws_network.proofs.Known.{has_some, of_some}
use Rattle.laws_network.proofs.Runs.{each_world_of_a_run_is_within_bounds, visited_then, pieces_calm, passes_calm, rounds_calm, place_calm, no_time}
use Rattle.laws_network.proofs.Standing.{place_in}
use Rattle.laws_steps.specs.LawsBounds.Frames.{on_senders}

-- ---- the node that has an address
AreApart : List End → Type 0
AreApart ends = (i j : ℕ) (d e : End) → slice_get ends i ≡ Some d → slice_get ends j ≡ Some e → d.iface.addr ≡ e.iface.addr → i ≡ j

owner_is : (ends : List End) → AreApart ends → (e : ℕ) (x : End) → slice_get ends e ≡ Some x → owner ends x.iface.addr ≡ Some x.node
unfolding AreApart
owner_is [] one e x h = absurd (cc)
owner_is (y ∷ es) one e x h = by (y.iface.addr.0 == x.iface.addr.0) refl (λ k g. owner_is es (λ i j d e' a b c. let z = one (suc i) (suc j) d e' a b c in omega arith) k x g)
  where
    behind : ((k : ℕ) → slice_get es k ≡ Some x → owner es x.iface.addr ≡ Some x.node) → (k : ℕ) → slice_get (y ∷ es) k ≡ Some x → (y.iface.addr.0 == x.iface.addr.0) ≡ false
        → owner es x.iface.addr ≡ Some x.node
    behind rest zero g t =
        let same : y ≡ x = cc in
        let bad : true ≡ false = sym (addr_itself x.iface.addr) ∙ ap (λ (z : End). z.iface.addr.0 == x.iface.addr.0) (sym same) ∙ t in
        absurd (cc)
    behind rest (suc k) g t = rest k g

    by : (b : Bool) → (y.iface.addr.0 == x.iface.addr.0) ≡ b → ((k : ℕ) → slice_get es k ≡ Some x → owner es x.iface.addr ≡ Some x.node)
        → (if b then Some y.node else owner es x.iface.addr) ≡ Some x.node
    by true t rest =
        let first : 0 ≡ e = one 0 e y x refl h (addr_same y.iface.addr x.iface.addr t) in
        let found : Some y ≡ Some x = ap (λ (z : ℕ). slice_get (y ∷ es) z) first ∙ h in
        let same : y ≡ x = cc in
        ap (λ (z : End). Some z.node) same
    by false t rest = behind rest e h t

iface_told : (ends : List End) (es : List ℕ) (on : Iface) → In on (ifaces_at ends es) → (e : ℕ) × (x : End) × In e es × (slice_get ends e ≡ Some x) × (on ≡ x.iface)
iface_told ends [] on i = absurd i
iface_told ends (d ∷ es) on i = by (slice_get ends d) refl i (λ j. iface_told ends es on j)
  where
    by : (o : Option End) → slice_get ends d ≡ o → In on (with_iface o (ifaces_at ends es)) → (In on (ifaces_at ends es) → (e : ℕ) × (x : End) × In e es × (slice_get ends e ≡ Some x) × (on ≡ x.iface))
        → (e : ℕ) × (x : End) × In e (d ∷ es) × (slice_get ends e ≡ Some x) × (on ≡ x.iface)
    by None a j rest = let r = rest j in (r.0, r.1, inr r.2, r.3, r.4)
    by (Some x) a j rest = ⊎_elim (λ (same : on ≡ x.iface). (d, x, inl refl, a, same)) (λ (k : In on (ifaces_at ends es)). let r = rest k in (r.0, r.1, inr r.2, r.3, r.4)) j

own_owner : (q : ℕ) (net : Net) (trees : List (Addr × Addr)) (n : ℕ) (a : Addr) → IsValid net → is_own (config_of q net trees n) a ≡ true → owner net.ends a ≡ Some n
unfolding AreApart
own_owner q net trees n a valid own =
    let on = in_any (λ (i : Iface). is_addr i.addr a) (config_of q net trees n).ifaces own in
    let e = iface_told net.ends (ends_of net.ends n) on.0 on.1 in
    let k = place_in e.0 (ends_of net.ends n) e.2 in
    let of = (interfaces_are_ends net).iface_of_end n k.0 e.0 k.1 in
    let addr : e.1.iface.addr ≡ a = ap (λ (z : Iface). z.addr) (sym e.4) ∙ addr_told on.0.addr a on.2 in
    let node : e.1.node ≡ n = sym (ap node_of_end e.3) ∙ of.1 in
    ap (owner net.ends) (sym addr) ∙ owner_is net.ends valid.one_address e.0 e.1 e.3 ∙ ap Some node

-- ---- senders that a call drops
and_parts : (a b : Bool) → (a && b) ≡ true → (a ≡ true) × (b ≡ true)
and_parts true b e = (refl, e)
and_parts false b e = absurd (cc)

not_false : (b : Bool) → (b ≡ true → ⊥) → not b ≡ true
not_false true never = absurd (never refl)
not_false false never = refl

not_here : (n : ℕ) (s : Session) (x : Sender) (l : LocalSender) → (l.node ≡ n → l.session ≡ s → l.sender ≡ x → ⊥) → not (is_sender_at n s x l) ≡ true
not_here n s x l apart = not_false (is_sender_at n s x l) (λ e.
    let a = and_parts (l.node == n) (eq_by_cmp sessions.cmp s l.session && eq_by_cmp senders.cmp x l.sender) e in
    let b = and_parts (eq_by_cmp sessions.cmp s l.session) (eq_by_cmp senders.cmp x l.sender) a.1 in
    apart (same_number l.node n a.0) (sym (tied_same sessions s l.session b.0)) (sym (tied_same senders x l.sender b.1)))

dropped : (m : Table sender_keys TokenBucket) (k : SenderKey) → get (without m k) k ≡ None
dropped m k = get-without sender_keys m k k ∙ ap (λ (b : Bool). cond (not b) (get m k) None) (tied_self sender_keys k)

at_node_here : (m n : ℕ) (l : Local) → m ≡ n → at_node m (Call l) n ≡ Some (Call l)
at_node_here m n l same = ap (λ (b : Bool). cond b (Some (Call l)) None) (number_same m n same)

-- ---- what a call leaves
-- at its own node: a sender was there, or the call lets it send with an address of the node
call_told : (p : NodeConfig) (n : ℕ) (l : Local) (f : Facts) (ls : List LocalSender) → ((k : SenderKey) (t : TokenBucket) → get f.senders k ≡ Some t → In (sender_at n k) ls)
    → (k : SenderKey) (t : TokenBucket) → get (unless (call_refusal p l f) (senders_with l f.senders) f.senders) k ≡ Some t
    → ((get f.senders k ≡ Some t) ⊎ (is_own p k.1.addr ≡ true)) × In (sender_at n k) (sending_by_call n l ls)
call_told p n (DropAs s x) f ls among k t h = by (has f.senders (s, x)) refl h
  where
    other : (k ≡ (s, x) → ⊥) → In (sender_at n k) ls → In (sender_at n k) (filter (λ l. not (is_sender_at n s x l)) ls)
    other apart i = to_filter (λ l. not (is_sender_at n s x l)) (sender_at n k) ls i (not_here n s x (sender_at n k) (λ node session sender. apart (λ j. (session j, sender j))))

    by : (b : Bool) → has f.senders (s, x) ≡ b → get (unless (needs b local.Absent None) (without f.senders (s, x)) f.senders) k ≡ Some t
        → ((get f.senders k ≡ Some t) ⊎ (is_own p k.1.addr ≡ true)) × In (sender_at n k) (filter (λ l. not (is_sender_at n s x l)) ls)
    by true e g =
        let old = got_without sender_keys f.senders (s, x) k t g in
        (inl old, other (λ same. let none = dropped f.senders (s, x) in let z : Some t ≡ None = sym g ∙ ap (get (without f.senders (s, x))) same ∙ none in absurd (cc)) (among k t old))
    by false e g =
        (inl g, other (λ same. let z : true ≡ false = sym (ap is_some (sym (ap (get f.senders) same) ∙ g)) ∙ e in absurd (cc)) (among k t g))
call_told p n (WantAs s st names flow mark) f ls among k t h = by (call_refusal p (WantAs s st names flow mark) f) h
  where
    by : (o : Option LocalErr) → get (unless o f.senders f.senders) k ≡ Some t → ((get f.senders k ≡ Some t) ⊎ (is_own p k.1.addr ≡ true)) × In (sender_at n k) ls
    by None g = (inl g, among k t g)
    by (Some e) g = (inl g, among k t g)
call_told p n (AdvertAs s x) f ls among k t h = by (call_refusal p (AdvertAs s x) f) h
  where
    by : (o : Option LocalErr) → get (unless o f.senders f.senders) k ≡ Some t → ((get f.senders k ≡ Some t) ⊎ (is_own p k.1.addr ≡ true)) × In (sender_at n k) ls
    by None g = (inl g, among k t g)
    by (Some e) g = (inl g, among k t g)
call_told p n (QuitAll s) f ls among k t h = by (call_refusal p (QuitAll s) f) h
  where
    by : (o : Option LocalErr) → get (unless o f.senders f.senders) k ≡ Some t → ((get f.senders k ≡ Some t) ⊎ (is_own p k.1.addr ≡ true)) × In (sender_at n k) ls
    by None g = (inl g, among k t g)
    by (Some e) g = (inl g, among k t g)
call_told p n (SendAs s x tspec) f ls among k t h = by (is_own p x.addr) refl h
  where
    taken : is_own p x.addr ≡ true → get (put_in f.senders (s, x) tspec) k ≡ Some t → ((get f.senders k ≡ Some t) ⊎ (is_own p k.1.addr ≡ true))
        × In (sender_at n k) ((record { node = n; session = s; sender = x }) ∷ ls)
    taken own g =
        ⊎_elim (λ (here : (k ≡ (s, x)) × (t ≡ tspec)). (inr (ap (λ (z : SenderKey). is_own p z.1.addr) here.0 ∙ own), inl (ap (sender_at n) here.0)))
        (λ (old : get f.senders k ≡ Some t). (inl old, inr (among k t old)))
        (got_put_in sender_keys f.senders (s, x) tspec k t g)

    room : is_own p x.addr ≡ true → (o : Option LocalErr) → get (unless o (put_in f.senders (s, x) tspec) f.senders) k ≡ Some t
        → ((get f.senders k ≡ Some t) ⊎ (is_own p k.1.addr ≡ true)) × In (sender_at n k) ((record { node = n; session = s; sender = x }) ∷ ls)
    room own None g = taken own g
    room own (Some e) g = (inl g, inr (among k t g))

    by : (b : Bool) → is_own p x.addr ≡ b → get (unless (needs b local.NotMine (needs (has_room_at senders (put_in f.senders (s, x) tspec) s) local.Full None))
        (put_in f.senders (s, x) tspec) f.senders) k ≡ Some t
        → ((get f.senders k ≡ Some t) ⊎ (is_own p k.1.addr ≡ true)) × In (sender_at n k) ((record { node = n; session = s; sender = x }) ∷ ls)
    by true own g = room own (needs (has_room_at senders (put_in f.senders (s, x) tspec) s) local.Full None) g
    by false own g = (inl g, inr (among k t g))

-- at another node it drops nobody
call_elsewhere : (m : ℕ) (l : Local) (x : LocalSender) (ls : List LocalSender) → (x.node ≡ m → ⊥) → In x ls → In x (sending_by_call m l ls)
call_elsewhere m (SendAs s y tspec) x ls far i = inr i
call_elsewhere m (DropAs s y) x ls far i = to_filter (λ l. not (is_sender_at m s y l)) x ls i (not_here m s y x (λ node session sender. far node))
call_elsewhere m (WantAs s st names flow mark) x ls far i = i
call_elsewhere m (AdvertAs s y) x ls far i = i
call_elsewhere m (QuitAll s) x ls far i = i

-- ---- a step
abbrev sending_by_step : Step → List LocalSender → List LocalSender
sending_by_step (At n l) ls = sending_by_call n l ls
sending_by_step _ ls = ls

-- the step is no local call
abbrev LetsNobody : Step → Type 0
LetsNobody s = (ls : List LocalSender) → sending_by_step s ls ≡ ls

-- what comes to a node is a local call, or changes nobody who sends
a_call_or_not : (s : Step) (w : World) (n : ℕ) (i : Input) → input_at s w n ≡ Some i → ((l : Local) × (s ≡ At n l) × (i ≡ Call l)) ⊎ ((on_senders i ≡ false) × LetsNobody s)
a_call_or_not (Piece ms) w n i e = let same : Wait ms (word_for w.words n) ≡ i = cc in inr (ap on_senders (sym same), λ ls. refl)
a_call_or_not (Deliver k) w n i e = inr (
  ⊎_elim (λ (t : IsWaited (Deliver k) w n i). ap on_senders t.is) (λ (t : IsCame (Deliver k) w n i). ap on_senders t.is) (input_found (Deliver k) w n i refl e),
  λ ls. refl,
)
a_call_or_not (Lose k) w n i e = absurd (cc)
a_call_or_not (Copy k) w n i e = absurd (cc)
a_call_or_not (At m l) w n i e = let r = at_node_found m n (Call l) i e in inl (l, (λ j. At (r.0 j) l), r.1)
a_call_or_not (ClearAt m) w n i e = let r = at_node_found m n Clear i e in inr (ap on_senders r.1, λ ls. refl)
a_call_or_not (Trace on) w n i e = absurd (cc)
a_call_or_not (Report r) w n i e = absurd (cc)
a_call_or_not Flags w n i e = absurd (cc)
a_call_or_not Adverts w n i e = absurd (cc)
a_call_or_not (Inject t dst a) w n i e = absurd (cc)
a_call_or_not (Reroute g x hops) w n i e = let same : Moved ≡ i = cc in inr (ap on_senders (sym same), λ ls. refl)

-- where nothing comes to a node, a call is of another
not_called : (s : Step) (w : World) (n : ℕ) (x : LocalSender) (ls : List LocalSender) → input_at s w n ≡ None → x.node ≡ n → In x ls → In x (sending_by_step s ls)
not_called (At m l) w n x ls e node i = call_elsewhere m l x ls (λ same. let z : None ≡ Some (Call l) = sym e ∙ at_node_here m n l (sym same ∙ node) in absurd (cc)) i
not_called (Piece ms) w n x ls e node i = i
not_called (Deliver k) w n x ls e node i = i
not_called (Lose k) w n x ls e node i = i
not_called (Copy k) w n x ls e node i = i
not_called (ClearAt m) w n x ls e node i = i
not_called (Trace on) w n x ls e node i = i
not_called (Report r) w n x ls e node i = i
not_called Flags w n x ls e node i = i
not_called Adverts w n x ls e node i = i
not_called (Inject t dst a) w n x ls e node i = i
not_called (Reroute g y hops) w n x ls e node i = i

-- each local sender has an address of its node, and is one of these
abbrev AreNamed : List LocalSender → World → Type 0
AreNamed ls u = (n : ℕ) (f : Facts) (k : SenderKey) (t : TokenBucket) → slice_get u.nodes n ≡ Some f → get f.senders k ≡ Some t → (owner u.net.ends k.1.addr ≡ Some n) × In (sender_at n k) ls

module _ (q : ℕ) where
  named_step : (s : Step) (u : World) (ls : List LocalSender) → IsValid u.net → AreNamed ls u → AreNamed (sending_by_step s ls) (step q s u)
  named_step s u ls valid named n g k t a h =
      let f = facts_after_found q s u n g a in
      let now : get (outcome q s u n f.0).facts.senders k ≡ Some t = ap (λ (z : Facts). get z.senders k) (sym f.2) ∙ h in
      let r = by f.0 f.1 (input_at s u n) refl now in
      (ap (λ (z : List End). owner z k.1.addr) (ends_same s u) ∙ r.0, r.1)
    where
      of_call : (l : Local) (f : Facts) → slice_get u.nodes n ≡ Some f → s ≡ At n l → get (unless (call_refusal (config_of q (net_after s u) u.trees n) l f) (senders_with l f.senders) f.senders) k
          ≡ Some t
          → (owner u.net.ends k.1.addr ≡ Some n) × In (sender_at n k) (sending_by_step s ls)
      of_call l f there is e =
          let told = call_told (config_of q (net_after s u) u.trees n) n l f ls (λ j v c. (named n f j v there c).1) k t e in
          let net : net_after s u ≡ u.net = ap (λ (z : Step). net_after z u) is in (
            ⊎_elim (λ (old : get f.senders k ≡ Some t). (named n f k t there old).0)
                (λ (new : is_own (config_of q (net_after s u) u.trees n) k.1.addr ≡ true). own_owner q u.net u.trees n k.1.addr valid
                (subst (λ (z : Net). is_own (config_of q z u.trees n) k.1.addr ≡ true) net new)) told.0,
            subst (λ (z : Step). In (sender_at n k) (sending_by_step z ls)) (sym is) told.1,
          )

      by : (f : Facts) → slice_get u.nodes n ≡ Some f → (o : Option Input) → input_at s u n ≡ o → get (outcome_of q o s u n f).facts.senders k ≡ Some t
          → (owner u.net.ends k.1.addr ≡ Some n) × In (sender_at n k) (sending_by_step s ls)
      by f there None e now = let r = named n f k t there now in (r.0, not_called s u n (sender_at n k) ls e refl r.1)
      by f there (Some i) e now =
          ⊎_elim
          (λ (c : (l : Local) × (s ≡ At n l) × (i ≡ Call l)).
          of_call c.0 f there c.1 (subst (λ (z : Input). get (facts_then (config_of q u.net u.trees n) (config_of q (net_after s u) u.trees n) (u.clock + ms_of s) z f).senders k ≡ Some t) c.2 now))
          (λ (no : (on_senders i ≡ false) × LetsNobody s).
          let r = named n f k t there (ap (λ (z : Table sender_keys TokenBucket). get z k)
          (sym (left_as_it_was.senders (node_step (config_of q u.net u.trees n) (config_of q (net_after s u) u.trees n) (u.clock + ms_of s) (u.clock + ms_of s) i f) no.0)) ∙ now) in
          (r.0, subst (λ (z : List LocalSender). In (sender_at n k) z) (sym (no.1 ls)) r.1))
          (a_call_or_not s u n i e)

-- ---- at the beginning nobody sends
left_senders : (p : NodeConfig) (n : ℕ) (ss : List (ℕ × Stale)) (f : Facts) → (left_over p n ss f).senders ≡ f.senders
unfolding facts_with
left_senders p n [] f = refl
left_senders p n (s ∷ ss) f = left_senders p n ss (cond (s.0 == n) (facts_with p 0 s.1 f) f) ∙ by (s.0 == n)
  where
    refused : (o : Option StaleErr) → (unless o (with_left s.1 f) f).senders ≡ f.senders
    refused None = refl
    refused (Some e) = refl

    left : (facts_with p 0 s.1 f).senders ≡ f.senders
    left = refused (stale_refusal p s.1 f)

    by : (b : Bool) → (cond b (facts_with p 0 s.1 f) f).senders ≡ f.senders
    by true = left
    by false = refl

named_first : (p : Plan) → AreNamed [] (first_world p)
named_first p n f k t a h =
    let at : n ≡ 0 + n = omega arith in
    let is : first_facts p n ≡ f = ap (first_facts p) at ∙ each_found (first_facts p) 0 p.net.nodes n f a in
    let none : get no_facts.senders k ≡ Some t = ap (λ (z : Table sender_keys TokenBucket). get z k) (sym (left_senders (config_of p.quarter p.net (trees_of p.net.hops) n) n p.stale no_facts))
    ∙ ap (λ (z : Facts). get z.senders k) is ∙ h in
    absurd (cc)

-- ---- they are few
pub once_keys : {K X : Type 0} (o : Keys K) (rows : List (K × X)) → T (is_sorted o.cmp rows) → NoRepeats (each (λ (e : K × X). e.0) rows)
once_keys o [] h = tt
once_keys {K} {X} o (e ∷ es) h = (
  λ i.
      let r = in_each (λ (e : K × X). e.0) e.0 es i in
      let rest : Table o X = record { rows = es; sorted = second _ _ h } in
      let found : get rest r.0.0 ≡ Some r.0.1 = in_found o rest r.0.0 r.0.1 r.1 in
      let none : get rest e.0 ≡ None = none_above o e.0 es (first _ _ h) in
      let z : Some r.0.1 ≡ None = sym found ∙ ap (get rest) (sym r.2) ∙ none in
      cc,
  once_keys o es (second _ _ h),
)

module _ (s : Session) where
  abbrev sending : List LocalSender → List Sender
  sending xs = each (λ (x : LocalSender). x.sender) (filter (of_session s) xs)

  sending_told : (x : Sender) (xs : List LocalSender) → In x (sending xs) → (y : LocalSender) × In y xs × (y.session ≡ s) × (y.sender ≡ x)
  sending_told x xs i =
      let e = in_each (λ (x : LocalSender). x.sender) x (filter (of_session s) xs) i in
      let f = in_filter (of_session s) e.0 xs e.1 in
      (e.0, f.0, sym (tied_same sessions s e.0.session f.1), sym e.2)

  -- senders of one node before those of others
  once_more : (j : ℕ) (ks : List SenderKey) (rest : List LocalSender) → NoRepeats ks → NoRepeats (sending rest) → ((k : SenderKey) → In k ks → In k.1 (sending rest) → k.0 ≡ s → ⊥)
      → NoRepeats (sending (each (sender_at j) ks ++ rest))
  once_more j [] rest once later apart = later
  once_more j (k ∷ ks) rest once later apart = by (of_session s (sender_at j k)) refl (once_more j ks rest once.1 later (λ x i. apart x (inr i)))
    where
      new : of_session s (sender_at j k) ≡ true → In k.1 (sending (each (sender_at j) ks ++ rest)) → ⊥
      new t i =
          let mine : s ≡ k.0 = tied_same sessions s k.0 t in
          let y = sending_told k.1 (each (sender_at j) ks ++ rest) i in
          ⊎_elim
          (λ (here : In y.0 (each (sender_at j) ks)).
          let z = in_each (sender_at j) y.0 ks here in
          let same : z.0 ≡ k = (λ i. ((sym (ap (λ (x : LocalSender). x.session) z.2) ∙ y.2 ∙ mine) i, (sym (ap (λ (x : LocalSender). x.sender) z.2) ∙ y.3) i)) in
          once.0 (subst (λ (x : SenderKey). In x ks) same z.1))
          (λ (there : In y.0 rest).
          apart k (inl refl)
          (subst (λ (x : Sender). In x (sending rest)) y.3
          (to_each (λ (x : LocalSender). x.sender) y.0 (filter (of_session s) rest) (to_filter (of_session s) y.0 rest there
          (subst (λ (x : Session). eq_by_cmp sessions.cmp s x ≡ true) (sym y.2) (tied_self sessions s)))))
          (sym mine))
          (in_append y.0 (each (sender_at j) ks) rest y.1)

      by : (b : Bool) → of_session s (sender_at j k) ≡ b → NoRepeats (sending (each (sender_at j) ks ++ rest))
          → NoRepeats (each (λ (x : LocalSender). x.sender) (cond b (sender_at j k ∷ filter (of_session s) (each (sender_at j) ks ++ rest)) (filter (of_session s) (each (sender_at j) ks ++ rest))))
      by true t r = (new t, r)
      by false t r = r

  -- a sender is at one node
  once_from : (ends : List End) (j : ℕ) (fs : List Facts) → ((n : ℕ) (f : Facts) (k : SenderKey) (t : TokenBucket) → slice_get fs n ≡ Some f → get f.senders k ≡ Some t
      → owner ends k.1.addr ≡ Some (j + n)) → NoRepeats (sending (senders_from j fs))
  once_from ends j [] placed = tt
  once_from ends j (f ∷ fs) placed =
      once_more j (keys f.senders) (senders_from (suc j) fs) (once_keys sender_keys f.senders.rows f.senders.sorted)
      (once_from ends (suc j) fs (λ n g k t a h. let e : j + suc n ≡ suc j + n = omega arith in placed (suc n) g k t a h ∙ ap Some e))
      (λ k i there same.
      let row = in_each (λ (e : SenderKey × TokenBucket). e.0) k f.senders.rows i in
      let here : owner ends k.1.addr ≡ Some (j + 0) = ap (λ (z : SenderKey). owner ends z.1.addr) row.2 ∙ placed 0 f row.0.0 row.0.1 refl (in_found sender_keys f.senders row.0.0 row.0.1 row.1) in
      let y = sending_told k.1 (senders_from (suc j) fs) there in
      let r = sender_told (suc j) fs y.0 y.1 in
      let addr : r.key.1 ≡ k.1 = sym (ap (λ (x : LocalSender). x.sender) r.is) ∙ y.3 in
      let far : owner ends k.1.addr ≡ Some (j + suc r.place) = ap (λ (z : Sender). owner ends z.addr) (sym addr) ∙ placed (suc r.place) r.facts r.key r.tspec r.at r.there in
      let z : Some (j + 0) ≡ Some (j + suc r.place) = sym here ∙ far in
      let bad : j + 0 ≡ j + suc r.place = of_some _ _ z in
      absurd (omega arith))

-- ---- so they are few where those are few who are let send
locals_kept : (u : World) (ls : List LocalSender) → AreFew ls → AreNamed ls u → AreHosts u
locals_kept u ls few named = record {
  placed = λ n f k t a h. (named n f k t a h).0;
  groups = λ n f k t a h. few.groups (sender_at n k) (named n f k t a h).1;
  few_senders = λ s.
      let once = once_from s u.net.ends 0 u.nodes (λ n f k t a h. let e : n ≡ 0 + n = omega arith in (named n f k t a h).0 ∙ ap Some e) in
      let within = not_longer (live (locals_of u) s) (keys (set_of {o = senders} (sending s ls))) once (λ x i. sender_named s x i) in
      let same = length-map (set_of {o = senders} (sending s ls)).rows (λ (e : Sender × Unit {0}). e.0) in
      let most = few.few_senders s in
      omega arith;
  few_sessions =
      let below = set_below sessions (each (λ (x : LocalSender). x.session) (senders_from 0 u.nodes)) (each (λ (x : LocalSender). x.session) ls) (λ s i. session_named s i) in
      let same = length-map (set_of {o = sessions} (each (λ (x : LocalSender). x.session) (senders_from 0 u.nodes))).rows (λ (e : Session × Unit {0}). e.0) in
      let most = few.few_sessions in
      omega arith;
}
  where
    in_named : (x : LocalSender) → In x (senders_from 0 u.nodes) → In x ls
    in_named x i =
        let r = sender_of_node u x i in
        subst (λ (z : LocalSender). In z ls) (sym r.5) (named x.node r.0 r.1 r.2 r.3 r.4).1

    sender_named : (s : Session) (x : Sender) → In x (live (locals_of u) s) → In x (keys (set_of {o = senders} (sending s ls)))
    sender_named s x i =
        let y = sending_told s x (senders_from 0 u.nodes) i in
        let k = in_named y.0 y.1 in
        let listed = to_each (λ (z : LocalSender). z.sender) y.0 (filter (of_session s) ls)
        (to_filter (of_session s) y.0 ls k (subst (λ (z : Session). eq_by_cmp sessions.cmp s z ≡ true) (sym y.2) (tied_self sessions s))) in
        let there = in_set_of senders (sending s ls) y.0.sender listed in
        let v = has_some (get (set_of {o = senders} (sending s ls)) y.0.sender) there in
        let row = to_each (λ (e : Sender × Unit {0}). e.0) (y.0.sender, v.0) (set_of {o = senders} (sending s ls)).rows (found_in senders (set_of {o = senders} (sending s ls)) y.0.sender v.0 v.1) in
        subst (λ (z : Sender). In z (keys (set_of {o = senders} (sending s ls)))) y.3 row

    session_named : (s : Session) → In s (each (λ (x : LocalSender). x.session) (senders_from 0 u.nodes)) → In s (each (λ (x : LocalSender). x.session) ls)
    session_named s i =
        let e = in_each (λ (x : LocalSender). x.session) s (senders_from 0 u.nodes) i in
        subst (λ (z : Session). In z (each (λ (x : LocalSender). x.session) ls)) (sym e.2) (to_each (λ (x : LocalSender). x.session) e.0 ls (in_named e.0 e.1))

-- ---- so each world of a run keeps them
visited_front : (q : ℕ) (P : World → Type 0) (ss ts : List Step) (w : World) → Visited (machine q) P (ss ++ ts) w → Visited (machine q) P ss w × Visited (machine q) P ts (run (machine q) ss w)
visited_front q P [] [] w v = (v, v)
visited_front q P [] (t ∷ ts) w v = (v.0, v)
visited_front q P (s ∷ ss) ts w v = let r = visited_front q P ss ts (step q s w) v.1 in ((v.0, r.0), r.1)

few_now : (ls : List LocalSender) (es : List Event) → AreFewSenders ls es → AreFew ls
few_now ls [] f = f
few_now ls (e ∷ es) f = f.0

module _ (q : ℕ) (some : 1 ≤ q) where
  abbrev IsKept : World → Type 0
  IsKept u = AreBounds q u × AreHosts u

  abbrev Within : List LocalSender → List LocalSender → List Step → World → Type 0
  Within ls after ss w = Visited (machine q) IsKept ss w × AreNamed after (run (machine q) ss w)

  calm_lets_nobody : (s : Step) → is_calm q s ≡ true → LetsNobody s
  calm_lets_nobody (At n l) c = absurd (cc)
  calm_lets_nobody (Piece ms) c = λ ls. refl
  calm_lets_nobody (Deliver x) c = λ ls. refl
  calm_lets_nobody (Lose x) c = λ ls. refl
  calm_lets_nobody (Copy x) c = λ ls. refl
  calm_lets_nobody (ClearAt n) c = λ ls. refl
  calm_lets_nobody (Trace on) c = λ ls. refl
  calm_lets_nobody (Report e) c = λ ls. refl
  calm_lets_nobody Flags c = λ ls. refl
  calm_lets_nobody Adverts c = λ ls. refl
  calm_lets_nobody (Inject e dst a) c = λ ls. refl
  calm_lets_nobody (Reroute g x hops) c = λ ls. refl

  along : (ls : List LocalSender) → AreFew ls → (ss : List Step) (w : World) → Visited (machine q) (AreBounds q) ss w → ((s : Step) → In s ss → LetsNobody s) → AreNamed ls w → Within ls ls ss w
  along ls few [] w v nobody named = ((v, locals_kept w ls few named), named)
  along ls few (s ∷ ss) w v nobody named =
      let next : AreNamed ls (step q s w) = subst (λ (z : List LocalSender). AreNamed z (step q s w)) (nobody s (inl refl) ls) (named_step q s w ls v.0.net named) in
      let r = along ls few ss (step q s w) v.1 (λ x i. nobody x (inr i)) next in
      (((v.0, locals_kept w ls few named), r.0), r.1)

  calm_along : (ls : List LocalSender) → AreFew ls → (ss : List Step) (w : World) → Visited (machine q) (AreBounds q) ss w → ((s : Step) → In s ss → is_calm q s ≡ true) → AreNamed ls w
      → Within ls ls ss w
  calm_along ls few ss w v calm named = along ls few ss w v (λ s i. calm_lets_nobody s (calm s i)) named

  one_along : (ls : List LocalSender) → AreFew ls → (s : Step) (w : World) → Visited (machine q) (AreBounds q) (s ∷ []) w → LetsNobody s → AreNamed ls w → Within ls ls (s ∷ []) w
  one_along ls few s w v nobody named = along ls few (s ∷ []) w v (λ x i. ⊎_elim (λ (same : x ≡ s). subst LetsNobody (sym same) nobody) (λ (none : ⊥). absurd none) i) named

  event_along : (e : Event) (w : World) (ls : List LocalSender) → AreFew ls → AreFew (sending_then e ls) → Visited (machine q) (AreBounds q) (steps_of q e w) w → AreNamed ls w
      → Within ls (sending_then e ls) (steps_of q e w) w
  event_along (AtNode n l) w ls few later v named =
      let next = named_step q (At n l) w ls v.0.net named in
      (((v.0, locals_kept w ls few named), (v.1, locals_kept (step q (At n l) w) (sending_by_call n l ls) later next)), next)
  event_along (Waits ms) w ls few later v named = calm_along ls few (pieces q ms) w v (pieces_calm q some ms) named
  event_along (Pass n) w ls few later v named = calm_along ls few (passes q n w) w v (passes_calm q some n w) named
  event_along (DeliverAt k) w ls few later v named = calm_along ls few (at_place Deliver k) w v (place_calm q some Deliver k (λ m. no_time q some)) named
  event_along (LoseAt k) w ls few later v named = calm_along ls few (at_place Lose k) w v (place_calm q some Lose k (λ m. no_time q some)) named
  event_along (CopyAt k) w ls few later v named = calm_along ls few (at_place Copy k) w v (place_calm q some Copy k (λ m. no_time q some)) named
  event_along (ClearNode n) w ls few later v named = one_along ls few (ClearAt n) w v (λ xs. refl) named
  event_along (Rounds n) w ls few later v named = calm_along ls few (rounds q n w) w v (rounds_calm q some n w) named
  event_along (Traces on) w ls few later v named = one_along ls few (Trace on) w v (λ xs. refl) named
  event_along (Reports e) w ls few later v named = one_along ls few (Report e) w v (λ xs. refl) named
  event_along ReportsFlags w ls few later v named = one_along ls few Flags w v (λ xs. refl) named
  event_along ReportsAdverts w ls few later v named = one_along ls few Adverts w v (λ xs. refl) named
  event_along (Injects e dst a) w ls few later v named = one_along ls few (Inject e dst a) w v (λ xs. refl) named
  event_along (Reroutes g x hops) w ls few later v named = one_along ls few (Reroute g x hops) w v (λ xs. refl) named

  events_along : (es : List Event) (w : World) (ls : List LocalSender) → AreFewSenders ls es → Visited (machine q) (AreBounds q) (all_steps q es w) w → AreNamed ls w
      → Visited (machine q) IsKept (all_steps q es w) w
  events_along [] w ls few v named = (v, locals_kept w ls few named)
  events_along (e ∷ es) w ls few v named =
      let parts = visited_front q (AreBounds q) (steps_of q e w) (all_steps q es (run (machine q) (steps_of q e w) w)) w v in
      let here = event_along e w ls few.0 (few_now (sending_then e ls) es few.1) parts.0 named in
      visited_then q IsKept (steps_of q e w) (all_steps q es (run (machine q) (steps_of q e w) w)) w here.0
      (events_along es (run (machine q) (steps_of q e w) w) (sending_then e ls) few.1 parts.1 here.1)

pub each_world_of_a_run_keeps_the_locals : (p : Plan) → IsFitRun p → AreFitSenders p → Visited (machine p.quarter) (λ u. AreBounds p.quarter u × AreHosts u) (steps_of_run p) (first_world p)
each_world_of_a_run_keeps_the_locals p run fit = events_along p.quarter run.plan.period p.events (first_world p) [] fit (each_world_of_a_run_is_within_bounds p run) (named_first p)
