-- The network of each seed is untouched behind its calls.
use Rattle.std.proofs.Common.{◌≡◌, ℕ, ◌+◌, ◌≤◌, length, List, [], ◌∷◌, ◌++◌, Bool, true, false, cond, Option, None, Some, ◌⊎◌, inl, inr, ⊎_elim, arith, sym, refl, ap, subst, ◌∙◌, append_assoc}
use Rattle.std.specs.Prelude.{is_some, map as each, ◌==◌}
use Rattle.std.specs.List.{range_with_len}
use Rattle.std.proofs.lemmas.List.FromFn.{length-map-range_with_len}
use Rattle.rsvp_base.specs.declared.addr.Addr.{Addr}
use Rattle.rsvp_base.specs.declared.style.StyleKind.{StyleKind}
use Rattle.rsvp_base.specs.declared.style.StyleKind.TheVariants.{Wild, Fixed, Shared}
use Rattle.rsvp_base.specs.Members.{In}
use Rattle.rsvp_base.specs.Table.{empty, get, has, put_in, size}
use Rattle.rsvp_base.specs.TokenBucket.{TokenBucket}
use Rattle.rsvp_base.proofs.Members.{in_each, in_flat_map, to_each}
use Rattle.rsvp_base.proofs.Tables.{got_put_in, size-put_in}
use Rattle.calm_rounds.specs.Hold.{Visited}
use Rattle.calm_rounds.specs.Machine.{run}
use Rattle.calm_rounds.proofs.Holding.{visited_start}
use Rattle.router_rules.specs.Calls.{SendersOf}
use Rattle.router_rules.specs.Facts.{Facts, SenderKey, sender_keys}
use Rattle.router_rules.specs.Inputs.{SendAs, WantAs}
use Rattle.router_rules.specs.Steps.{IsFitCall}
use Rattle.tree_model.specs.declared.hops.TreeHop.{TreeHop}
use Rattle.tree_model.specs.declared.locals.LocalSender.{LocalSender}
use Rattle.tree_model.specs.Chains.{NoRepeats}
use Rattle.tree_model.specs.Goals.{DemandsFit}
use Rattle.tree_model.specs.Networks.{Net}
use Rattle.network_model.specs.Bounds.{AreBounds, AreHosts}
use Rattle.network_model.specs.Events.{Event, Reports, Rounds, all_steps, rounds}
use Rattle.network_model.specs.Links.{is_group}
use Rattle.network_model.specs.Locals.{locals_of}
use Rattle.network_model.specs.Runs.{first_facts, first_world, steps_of_run}
use Rattle.network_model.specs.Steps.{Step, machine, step}
use Rattle.network_model.specs.Worlds.{World}
use Rattle.laws_network.proofs.Beginning.{each_found}
use Rattle.laws_network.proofs.Calming.{run_append}
use Rattle.laws_network.proofs.Hosts.{each_world_of_a_run_keeps_the_locals}
use Rattle.laws_grown.proofs.ScriptTheorem.Same.{same_fit}
use Rattle.grown_network.specs.declared.hosts.Wanted.{Wanted}
use Rattle.grown_network.specs.Grown.{asked, grown_net, grown_plan, net_with, rounds_of, send_event, want_event}
use Rattle.grown_network.specs.Growing.{IsAtHome, tree_key}
use Rattle.grown_network.specs.Hosts.{flow_of, local_sender, senders, senders_of, session_of, session_word, styles, wants}
use Rattle.grown_network.proofs.Fitting.{grown_demands_fit}
use Rattle.grown_network.proofs.Senders.{apart, twelve}
use Rattle.grown_network.proofs.WantsAsked.{is_wanted}
use Rattle.laws_grown.proofs.Calls.{Have}
use Rattle.laws_grown.proofs.Fit.{grown_runs_are_fit}
use Rattle.laws_grown.proofs.Sending.{sent_one, with_send}
use Rattle.laws_grown.proofs.Standing.{as_asked, calls_have}
use Rattle.settle_openings.specs.Fresh.{IsFresh}
use Rattle.settle_openings.specs.Opening.{IsOpening, IsUntouched, NothingIsLost}
use Rattle.settle_openings.proofs.Beginning.{a_call_keeps_a_network_fresh, a_fresh_network_is_untouched, an_empty_network_is_fresh}
use Rattle.settle_openings.proofs.Halves.{rounds_keep_an_opening, rounds_lose_nothing}
use Rattle.laws_grown.specs.Grown.{behind_calls, calls_of, send_step, want_step}

-- ---- at first
pub first_fresh : (seed : ℕ) → IsFresh 7500 (first_world (grown_plan seed))
unfolding grown_plan
first_fresh seed =
    an_empty_network_is_fresh 7500 (first_world (grown_plan seed))
    (record {
      bounds = (visited_start (machine 7500) (λ u. AreBounds 7500 u × AreHosts u) (steps_of_run (grown_plan seed)) (first_world (grown_plan seed))
          (each_world_of_a_run_keeps_the_locals (grown_plan seed) (grown_runs_are_fit seed).run (grown_runs_are_fit seed).senders)).0;
      nodes = λ n f at. sym (each_found (first_facts (grown_plan seed)) 0 (grown_plan seed).net.nodes n f at);
      flight = refl;
    })

pub first_have : (seed : ℕ) → Have (grown_net seed) (λ n. empty) (λ n. []) (first_world (grown_plan seed))
unfolding grown_plan
first_have seed = record {
  many = length-map-range_with_len (first_facts (grown_plan seed)) 0 (grown_plan seed).net.nodes;
  net_is = refl;
  quiet = refl;
  senders = λ n f at. ap (λ (z : Facts). z.senders) (sym (each_found (first_facts (grown_plan seed)) 0 (grown_plan seed).net.nodes n f at));
  wants = λ n f at. ap (λ (z : Facts). z.wants.rows) (sym (each_found (first_facts (grown_plan seed)) 0 (grown_plan seed).net.nodes n f at));
}

-- ---- senders, one after another: none is there yet
abbrev pub key_of : LocalSender → SenderKey
key_of x = (x.session, x.sender)

pub put_told : (S : ℕ → SendersOf) (x : LocalSender) (n : ℕ) (k : SenderKey) (t : TokenBucket) → get (with_send S x n) k ≡ Some t → (k ≡ key_of x) ⊎ (get (S n) k ≡ Some t)
put_told S x n k t e = by (x.node == n) refl e
  where
    by : (b : Bool) → (x.node == n) ≡ b → get (cond b (put_in (S n) (key_of x) (flow_of 1000)) (S n)) k ≡ Some t → (k ≡ key_of x) ⊎ (get (S n) k ≡ Some t)
    by true on d = ⊎_elim (λ (h : (k ≡ key_of x) × (t ≡ flow_of 1000)). inl h.0) (λ (h : get (S n) k ≡ Some t). inr h) (got_put_in sender_keys (S n) (key_of x) (flow_of 1000) k t d)
    by false off d = inr d

pub one_more : (S : ℕ → SendersOf) (x : LocalSender) (n : ℕ) → size (with_send S x n) ≤ size (S n) + 1
one_more S x n = by (x.node == n)
  where
    more : (b : Bool) (k : ℕ) → cond b k (k + 1) ≤ k + 1
    more true k = omega arith
    more false k = omega arith

    by : (b : Bool) → size (cond b (put_in (S n) (key_of x) (flow_of 1000)) (S n)) ≤ size (S n) + 1
    by true = let e = size-put_in sender_keys (S n) (key_of x) (flow_of 1000) in let le = more (has (S n) (key_of x)) (size (S n)) in omega (arith, e, le)
    by false = omega arith

-- none of these has the tree of a sender that a node has
abbrev pub AreOthers : (ℕ → SendersOf) → List LocalSender → Type 0
AreOthers S xs = (x : LocalSender) → In x xs → (n : ℕ) (k : SenderKey) (t : TokenBucket) → get (S n) k ≡ Some t → ◌≡◌ {A = Addr × Addr} (k.0.group, k.1.addr) (tree_key x) → ⊥

pub lacking : (o : Option TokenBucket) → ((t : TokenBucket) → o ≡ Some t → ⊥) → is_some o ≡ false
lacking None none = refl
lacking (Some t) none = absurd (none t refl)

sends_fresh : (trees : List TreeHop) (xs : List LocalSender) (S : ℕ → SendersOf) (w : World) → Have (net_with trees) S (λ n. []) w → IsFresh 7500 w → ((x : LocalSender) → In x xs → IsAtHome x)
    → ((x : LocalSender) → In x xs → is_group x.session.group ≡ true) → ((n : ℕ) → size (S n) + length xs ≤ 16) → AreOthers S xs → NoRepeats (each tree_key xs)
    → IsFresh 7500 (run (machine 7500) (each send_step xs) w)
sends_fresh trees [] S w have fresh home groups few others once = fresh
sends_fresh trees (x ∷ xs) S w have fresh home groups few others once =
    sends_fresh trees xs (with_send S x) (step 7500 (send_step x) w)
    (sent_one 7500 trees S (λ n. []) w have (λ n e i. absurd i) x (home x (inl refl)) (λ n. let le = few n in omega (arith, le)))
    (a_call_keeps_a_network_fresh 7500 x.node (SendAs x.session x.sender (flow_of 1000)) w fresh (
      record { rate = omega arith; depth = omega arith; low = omega arith; most = omega arith },
      groups x (inl refl),
      λ f at. ap (λ (z : SendersOf). has z (key_of x)) (have.senders x.node f at) ∙ lacking (get (S x.node) (key_of x)) (λ t e. others x (inl refl) x.node (key_of x) t e refl),
    ))
    (λ y i. home y (inr i)) (λ y i. groups y (inr i)) (λ n. let le = few n in let more = one_more S x n in omega (arith, le, more))
    (λ y i n k t e same.
    ⊎_elim (λ (new : k ≡ key_of x). once.0 (subst (λ (z : Addr × Addr). In z (each tree_key xs)) (sym same ∙ ap (λ (z : SenderKey). (z.0.group, z.1.addr)) new) (to_each tree_key y xs i)))
    (λ (old : get (S n) k ≡ Some t). others y (inr i) n k t old same) (put_told S x n k t e))
    once.1

-- ---- and wants
wants_fresh : (ws : List Wanted) (w : World) → IsFresh 7500 w → ((x : Wanted) → In x ws → IsFitCall (WantAs (session_of x.style) x.style x.senders x.flow false))
    → IsFresh 7500 (run (machine 7500) (each want_step ws) w)
wants_fresh [] w fresh fit = fresh
wants_fresh (x ∷ ws) w fresh fit =
    wants_fresh ws (step 7500 (want_step x) w)
    (a_call_keeps_a_network_fresh 7500 x.node (WantAs (session_of x.style) x.style x.senders x.flow false) w fresh (let d = fit x (inl refl) in (d.0, d.1, refl)))
    (λ y i. fit y (inr i))

-- ---- behind the calls
group_of : (st : StyleKind) → is_group (session_of st).group ≡ true
group_of Wild = refl
group_of Fixed = refl
group_of Shared = refl

pub to_groups : (seed : ℕ) (x : LocalSender) → In x (senders seed) → is_group x.session.group ≡ true
unfolding senders
to_groups seed x i =
    let st = in_flat_map (λ st. senders_of st (session_word seed st)) x styles i in
    let k = in_each (local_sender st.0 (session_word seed st.0)) x (range_with_len 0 4) st.2 in
    ap (λ (z : LocalSender). is_group z.session.group) k.2 ∙ group_of st.0

fresh_then : (seed : ℕ) → IsFresh 7500 (behind_calls seed)
unfolding grown_plan
fresh_then seed =
    let n = twelve seed in
    let sent = sends_fresh (grown_net seed).hops (senders seed) (λ n. empty) (first_world (grown_plan seed)) (first_have seed) (first_fresh seed) (apart seed).home_at (to_groups seed)
    (λ m. omega (arith, n)) (λ x i m k t e same. let bad : None ≡ Some t = e in cc) (apart seed).once in
    subst (IsFresh 7500) (sym (run_append (machine 7500) (each send_step (senders seed)) (each want_step (wants seed)) (first_world (grown_plan seed))))
    (wants_fresh (wants seed) (run (machine 7500) (each send_step (senders seed)) (first_world (grown_plan seed))) sent (λ w i. let own = (is_wanted seed w i).0 in (own.fit, own.some)))

-- ---- hosts, and what fits
pub sends_first : (q : ℕ) (xs : List LocalSender) (es : List Event) (w : World) → all_steps q (each send_event xs ++ es) w ≡ each send_step xs ++ all_steps q es (run (machine q) (each send_step xs) w)
sends_first q [] es w = refl
sends_first q (x ∷ xs) es w = ap (λ (ss : List Step). send_step x ∷ ss) (sends_first q xs es (step q (send_step x) w))

pub wants_first : (q : ℕ) (ws : List Wanted) (es : List Event) (w : World) → all_steps q (each want_event ws ++ es) w ≡ each want_step ws ++ all_steps q es (run (machine q) (each want_step ws) w)
wants_first q [] es w = refl
wants_first q (x ∷ ws) es w = ap (λ (ss : List Step). want_step x ∷ ss) (wants_first q ws es (step q (want_step x) w))

hosts_at : (ss ts : List Step) (w : World) → Visited (machine 7500) (λ u. AreBounds 7500 u × AreHosts u) (ss ++ ts) w → AreHosts (run (machine 7500) ss w)
hosts_at [] [] w v = v.1
hosts_at [] (t ∷ ts) w v = v.0.1
hosts_at (s ∷ ss) ts w v = hosts_at ss ts (step 7500 s w) v.1

pub hosts_then : (seed : ℕ) → AreHosts (behind_calls seed)
unfolding grown_plan
hosts_then seed =
    let w : World = first_world (grown_plan seed) in
    let es : List Event = Rounds (rounds_of seed) ∷ Reports None ∷ [] in
    let sent : World = run (machine 7500) (each send_step (senders seed)) w in
    let last : List Step = all_steps 7500 es (run (machine 7500) (each want_step (wants seed)) sent) in
    let steps : steps_of_run (grown_plan seed) ≡ calls_of seed ++ last =
    sends_first 7500 (senders seed) (each want_event (wants seed) ++ es) w ∙ ap (λ (ss : List Step). each send_step (senders seed) ++ ss) (wants_first 7500 (wants seed) es sent)
    ∙ sym (append_assoc (each send_step (senders seed)) (each want_step (wants seed)) last) in
    hosts_at (calls_of seed) last w
    (subst (λ (ss : List Step). Visited (machine 7500) (λ u. AreBounds 7500 u × AreHosts u) ss w) steps
    (each_world_of_a_run_keeps_the_locals (grown_plan seed) (grown_runs_are_fit seed).run (grown_runs_are_fit seed).senders))

fits_then : (seed : ℕ) → DemandsFit (behind_calls seed).net (locals_of (behind_calls seed))
fits_then seed =
    let o : World = behind_calls seed in
    let is = as_asked seed o (calls_have 7500 seed) in
    subst (λ (net : Net). DemandsFit net (locals_of o)) (sym is.net) (same_fit (grown_net seed) (locals_of o) (asked seed) is.locals (grown_demands_fit seed))

pub a_seed_is_untouched : (seed : ℕ) → IsUntouched 7500 (behind_calls seed)
a_seed_is_untouched seed = a_fresh_network_is_untouched 7500 (behind_calls seed) (fresh_then seed) (hosts_then seed) (fits_then seed)

pub a_seed_opens : (seed n : ℕ) → Visited (machine 7500) (IsOpening 7500) (rounds 7500 n (behind_calls seed)) (behind_calls seed) × NothingIsLost 7500 (rounds 7500 n (behind_calls seed)) (behind_calls seed)
a_seed_opens seed n = let u = a_seed_is_untouched seed in ((rounds_keep_an_opening 7500 n (behind_calls seed) u).0, rounds_lose_nothing 7500 n (behind_calls seed) u)
