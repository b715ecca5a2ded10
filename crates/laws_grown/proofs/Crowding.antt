-- No seed crowds: the calls of its hosts put few Paths in flight, and from there on the network has room.
use Rattle.std.specs.Prelude.{map as each}
use Rattle.rsvp_base.specs.declared.addr.Addr.{Addr}
use Rattle.rsvp_base.specs.Members.{In}
use Rattle.rsvp_base.specs.Table.{empty, get, has, size}
use Rattle.rsvp_base.proofs.Members.{to_each}
use Rattle.calm_rounds.specs.Hold.{Visited}
use Rattle.calm_rounds.specs.Machine.{run}
use Rattle.calm_rounds.proofs.Holding.{visited_start}
use Rattle.router_rules.specs.Calls.{SendersOf}
use Rattle.router_rules.specs.Facts.{SenderKey}
use Rattle.router_rules.specs.Inputs.{SendAs, WantAs}
use Rattle.router_rules.specs.Steps.{IsFitCall}
use Rattle.tree_model.specs.declared.hops.TreeHop.{TreeHop}
use Rattle.tree_model.specs.declared.locals.LocalSender.{LocalSender}
use Rattle.tree_model.specs.Chains.{NoRepeats}
use Rattle.tree_model.specs.Networks.{Net}
use Rattle.network_model.specs.Events.{Event, Reports, Rounds, all_steps, rounds}
use Rattle.network_model.specs.Links.{is_group}
use Rattle.network_model.specs.Locals.{locals_of}
use Rattle.network_model.specs.Runs.{first_facts, first_world, steps_of_run}
use Rattle.network_model.specs.Steps.{Step, machine, step}
use Rattle.network_model.specs.Worlds.{World}
use Rattle.laws_network.proofs.Beginning.{each_found}
use Rattle.laws_network.proofs.Calming.{run_append}
use Rattle.grown_network.specs.declared.hosts.Wanted.{Wanted}
use Rattle.grown_network.specs.Grown.{grown_net, grown_plan, net_with, rounds_of, want_event}
use Rattle.grown_network.specs.Growing.{IsAtHome, tree_key}
use Rattle.grown_network.specs.Hosts.{flow_of, senders, session_of, wants}
use Rattle.grown_network.proofs.Senders.{apart, twelve}
use Rattle.grown_network.proofs.WantsAsked.{is_wanted}
use Rattle.laws_grown.proofs.Calls.{Have}
use Rattle.laws_grown.proofs.Sending.{sent_one, with_send}
use Rattle.laws_grown.proofs.Standing.{as_asked, calls_have}
use Rattle.std.proofs.Common.{◌≡◌, ℕ, ◌+◌, ◌*◌, ◌≤◌, List, [], ◌∷◌, ◌++◌, length, Bool, true, false, cond, None, Some, inl, inr, ⊎_elim, arith, sym, refl, ap, subst, ◌∙◌, append_assoc}
use Rattle.std.proofs.lemmas.List.{length-append}
use Rattle.std.proofs.lemmas.Bool.{le-ltb}
use Rattle.std.proofs.lemmas.List.Sums.{sum_by-append, sum_by-cons}
use Rattle.std.specs.Prelude.{sum_by}
use Rattle.std.specs.List.{filter}
use Rattle.rsvp_base.specs.declared.session.Session.{Session}
use Rattle.laws_grown.specs.Runs.{IsAsAsked}
use Rattle.router_rules.specs.Inputs.{Local}
use Rattle.tree_model.specs.declared.hops.LinkHop.{LinkHop}
use Rattle.tree_model.specs.Trees.{goes_out_of, tree}
use Rattle.tree_model.specs.Wants.{live}
use Rattle.network_model.specs.Runs.{crowds, is_crowded, is_crowded_run}
use Rattle.network_model.specs.Steps.{Report}
use Rattle.network_model.specs.Worlds.{Item}
use Rattle.network_model.proofs.Changing.{the_rest_change_no_node}
use Rattle.calm_rounds.proofs.Holding.{visited_end, visited_start}
use Rattle.network_model.specs.Events.{rounds}
use Rattle.grown_network.specs.Nodes.{ends_up_to}
use Rattle.grown_network.proofs.Nested.{grown_nested}
use Rattle.grown_network.proofs.Whole.{few_outs, long_tree}
use Rattle.grown_network.proofs.Wired.{grown_wired}
use Rattle.settle_openings.specs.Waves.{AreNested, AreWired, HasNoAdverts, call_price, paid_for, room_of, sender_room}
use Rattle.settle_openings.proofs.WaveFirst.{AreFirstCalls, IsCalledFirst, an_empty_network_is_mute, call_step, first_calls, prices_of}
use Rattle.settle_openings.proofs.WaveRooms.{an_opening_has_room}
use Rattle.laws_grown.specs.Grown.{behind_calls, calls_of, send_step, want_step}
use Rattle.laws_grown.proofs.FewSenders.{live_few, of_style, twelve_senders}
use Rattle.laws_grown.proofs.Opening.{AreOthers, a_seed_is_untouched, first_fresh, first_have, hosts_then, key_of, lacking, one_more, put_told, sends_first, to_groups, wants_first}

-- ---- sums, and runs that stay below a number
sum_at_most : {A : Type 0} (v w : A → ℕ) (xs : List A) → ((x : A) → In x xs → v x ≤ w x) → sum_by v xs ≤ sum_by w xs
sum_at_most v w [] h = omega arith
sum_at_most v w (x ∷ xs) h =
    let rest = sum_at_most v w xs (λ y i. h y (inr i)) in
    let here = h x (inl refl) in
    omega (arith, rest, here, sum_by-cons v x xs, sum_by-cons w x xs)

sum_each : {A B : Type 0} (w : B → ℕ) (f : A → B) (xs : List A) → sum_by w (each f xs) ≡ sum_by (λ x. w (f x)) xs
sum_each w f [] = refl
sum_each w f (x ∷ xs) = let rest = sum_each w f xs in omega (arith, rest, sum_by-cons w (f x) (each f xs), sum_by-cons (λ y. w (f y)) x xs)

never_crowded : (q top : ℕ) → top ≤ 8192 → (ss : List Step) (u : World) → Visited (machine q) (λ v. length v.flight ≤ top) ss u → crowds q ss u ≡ false
never_crowded q top most [] u v = refl
never_crowded q top most (s ∷ ss) u v =
    let here = visited_start (machine q) (λ v. length v.flight ≤ top) ss (step q s u) v.1 in
    let no : is_crowded (step q s u) ≡ false = le-ltb 8192 (length (step q s u).flight) (omega (arith, here, most)) in
    ap (λ (b : Bool). cond b true (crowds q ss (step q s u))) no ∙ never_crowded q top most ss (step q s u) v.1

-- ---- the calls
abbrev send_call : LocalSender → ℕ × Local
send_call x = (x.node, SendAs x.session x.sender (flow_of 1000))

abbrev want_call : Wanted → ℕ × Local
want_call w = (w.node, WantAs (session_of w.style) w.style w.senders w.flow false)

abbrev calls : ℕ → List (ℕ × Local)
calls seed = each send_call (senders seed) ++ each want_call (wants seed)

sends_are_first : (trees : List TreeHop) (xs : List LocalSender) (S : ℕ → SendersOf) (w : World) → Have (net_with trees) S (λ n. []) w → ((x : LocalSender) → In x xs → IsAtHome x)
    → ((x : LocalSender) → In x xs → is_group x.session.group ≡ true) → ((n : ℕ) → size (S n) + length xs ≤ 16) → AreOthers S xs → NoRepeats (each tree_key xs)
    → AreFirstCalls 7500 (each send_call xs) w
sends_are_first trees [] S w have home groups few others once = tt
sends_are_first trees (x ∷ xs) S w have home groups few others once = (
  (
    record { rate = omega arith; depth = omega arith; low = omega arith; most = omega arith },
    groups x (inl refl),
    λ f at. ap (λ (z : SendersOf). has z (key_of x)) (have.senders x.node f at) ∙ lacking (get (S x.node) (key_of x)) (λ t e. others x (inl refl) x.node (key_of x) t e refl),
  ),
  sends_are_first trees xs (with_send S x) (step 7500 (send_step x) w)
      (sent_one 7500 trees S (λ n. []) w have (λ n e i. absurd i) x (home x (inl refl)) (λ n. let le = few n in omega (arith, le)))
      (λ y i. home y (inr i)) (λ y i. groups y (inr i)) (λ n. let le = few n in let more = one_more S x n in omega (arith, le, more))
      (λ y i n k t e same.
      ⊎_elim (λ (new : k ≡ key_of x). once.0 (subst (λ (z : Addr × Addr). In z (each tree_key xs)) (sym same ∙ ap (λ (z : SenderKey). (z.0.group, z.1.addr)) new) (to_each tree_key y xs i)))
      (λ (old : get (S n) k ≡ Some t). others y (inr i) n k t old same) (put_told S x n k t e))
      once.1,
)

wants_are_first : (ws : List Wanted) (w : World) → ((x : Wanted) → In x ws → IsFitCall (WantAs (session_of x.style) x.style x.senders x.flow false)) → AreFirstCalls 7500 (each want_call ws) w
wants_are_first [] w fit = tt
wants_are_first (x ∷ ws) w fit = (let d = fit x (inl refl) in (d.0, d.1, refl), wants_are_first ws (step 7500 (want_step x) w) (λ y i. fit y (inr i)))

both_first : (cs ds : List (ℕ × Local)) (w : World) → AreFirstCalls 7500 cs w → AreFirstCalls 7500 ds (run (machine 7500) (each call_step cs) w) → AreFirstCalls 7500 (cs ++ ds) w
both_first [] ds w a b = b
both_first (c ∷ cs) ds w a b = (a.0, both_first cs ds (step 7500 (call_step c) w) a.1 b)

each_each : {A B C : Type 0} (f : A → B) (g : B → C) (xs : List A) → each g (each f xs) ≡ each (λ x. g (f x)) xs
each_each f g [] = refl
each_each {A} {B} {C} f g (x ∷ xs) = ap (λ (l : List C). g (f x) ∷ l) (each_each f g xs)

each_both : {A B : Type 0} (f : A → B) (xs ys : List A) → each f (xs ++ ys) ≡ each f xs ++ each f ys
each_both f [] ys = refl
each_both {A} {B} f (x ∷ xs) ys = ap (λ (zs : List B). f x ∷ zs) (each_both f xs ys)

same_calls : (seed : ℕ) → each call_step (calls seed) ≡ calls_of seed
same_calls seed = each_both call_step (each send_call (senders seed)) (each want_call (wants seed)) ∙ (λ i. each_each send_call call_step (senders seed) i ++ each_each want_call call_step (wants seed) i)

module _ (seed : ℕ) where
  abbrev w : World
  w = first_world (grown_plan seed)

  abbrev o : World
  o = behind_calls seed

  are_first : AreFirstCalls 7500 (calls seed) w
  unfolding grown_plan
  are_first =
      let n = twelve seed in
      let sends = sends_are_first (grown_net seed).hops (senders seed) (λ n. empty) w (first_have seed) (apart seed).home_at (to_groups seed)
      (λ m. omega (arith, n)) (λ x i m k t e same. let bad : None ≡ Some t = e in cc) (apart seed).once in
      both_first (each send_call (senders seed)) (each want_call (wants seed)) w sends
      (wants_are_first (wants seed) (run (machine 7500) (each call_step (each send_call (senders seed))) w) (λ w i. let own = (is_wanted seed w i).0 in (own.fit, own.some)))

  first_mute : HasNoAdverts w
  unfolding grown_plan
  first_mute =
      an_empty_network_is_mute 7500 w
      (record { bounds = (first_fresh seed).bounds; nodes = λ n f at. sym (each_found (first_facts (grown_plan seed)) 0 (grown_plan seed).net.nodes n f at); flight = refl })

  first_wired : AreWired w.net
  unfolding grown_plan
  first_wired = grown_wired seed

  called : IsCalledFirst 7500 o (calls seed) w o × Visited (machine 7500) (λ v. length v.flight ≤ length o.flight) (calls_of seed) w
  called =
      let r = first_calls 7500 o (calls seed) w (first_fresh seed) first_mute first_wired are_first in
      subst (λ (ss : List Step). IsCalledFirst 7500 o (calls seed) w (run (machine 7500) ss w) × Visited (machine 7500) (λ v. length v.flight ≤ length (run (machine 7500) ss w).flight) ss w) (same_calls seed) r

  is : IsAsAsked seed o
  is = as_asked seed o (calls_have 7500 seed)

  asked_are : (x : LocalSender) → In x (locals_of o).senders → In x (senders seed)
  asked_are x i = (is.locals.senders x).0 i

  live_of : (x : LocalSender) → In x (senders seed) → length (live (locals_of o) x.session) ≤ 4
  live_of x i =
      let st = of_style seed x i in
      let few = live_few seed o (hosts_then seed) asked_are st.0 in
      let same = ap (λ (s : Session). length (live (locals_of o) s)) st.1 in
      omega (arith, few, same)

  -- ---- numbers
  constant : {A : Type 0} (v : A → ℕ) (xs : List A) → ((x : A) → In x xs → v x ≤ 4) → sum_by v xs ≤ 4 * length xs
  constant v [] few = omega arith
  constant v (x ∷ xs) few =
      let here = few x (inl refl) in
      let rest = constant v xs (λ y i. few y (inr i)) in
      omega (arith, here, rest, sum_by-cons v x xs)

  many_of : {A : Type 0} (v : A → ℕ) (c : ℕ) (xs : List A) → ((x : A) → In x xs → v x ≤ c) → sum_by v xs ≤ sum_by (λ (x : A). c) xs
  many_of {A} v c xs few = sum_at_most v (λ (x : A). c) xs few

  twelves : {A : Type 0} (xs : List A) → sum_by (λ (x : A). 12) xs ≡ 12 * length xs
  twelves [] = refl
  twelves {A} (x ∷ xs) = let rest = twelves xs in omega (arith, rest, sum_by-cons (λ (z : A). 12) x xs)

  eights : {A : Type 0} (xs : List A) → sum_by (λ (x : A). 8) xs ≡ 8 * length xs
  eights [] = refl
  eights {A} (x ∷ xs) = let rest = eights xs in omega (arith, rest, sum_by-cons (λ (z : A). 8) x xs)

  rooms : {A : Type 0} (xs : List A) → sum_by (λ (x : A). 504) xs ≡ 504 * length xs
  rooms [] = refl
  rooms {A} (x ∷ xs) = let rest = rooms xs in omega (arith, rest, sum_by-cons (λ (z : A). 504) x xs)

  zeros_sum : {A : Type 0} (xs : List A) → sum_by (λ (x : A). 0) xs ≡ 0
  zeros_sum [] = refl
  zeros_sum {A} (x ∷ xs) = let rest = zeros_sum xs in omega (arith, rest, sum_by-cons (λ (z : A). 0) x xs)

  few_prices : prices_of (grown_net seed) (locals_of o) (calls seed) ≤ 144
  few_prices =
      let price : ℕ × Local → ℕ = (λ c. call_price (grown_net seed) (locals_of o) c.0 c.1) in
      let a = sum_by-append price (each send_call (senders seed)) (each want_call (wants seed)) in
      let b = sum_each price send_call (senders seed) in
      let c = sum_each price want_call (wants seed) in
      let d = zeros_sum (wants seed) in
      let e = many_of (λ x. price (send_call x)) 12 (senders seed)
      (λ x i. let few = few_outs seed x i in let one = live_of x i in
      let sum = constant (λ (h : LinkHop). length (live (locals_of o) x.session)) (filter (goes_out_of (ends_up_to 63) x.node) (tree (grown_net seed).hops x.session.group x.sender.addr)) (λ h j. one) in
      omega (arith, few, sum)) in
      let f = twelves (senders seed) in
      let g = twelve seed in
      omega (arith, a, b, c, d, e, f, g)

  few_rooms : room_of (grown_net seed) (locals_of o) ≤ 6048
  few_rooms =
      let a = many_of (sender_room (grown_net seed) (locals_of o)) 504 (locals_of o).senders
      (λ x i.
      let among = asked_are x i in
      let one = live_of x among in
      let hops = tree (grown_net seed).hops x.session.group x.sender.addr in
      let e = many_of (λ (h : LinkHop). length (live (locals_of o) x.session) + 4) 8 hops (λ h j. omega (arith, one)) in
      let f = eights hops in
      let g = long_tree seed x among in
      omega (arith, e, f, g)) in
      let b = rooms (locals_of o).senders in
      let c = twelve_senders seed o (hosts_then seed) asked_are in
      omega (arith, a, b, c)

  paid_behind : paid_for o.net (locals_of o) o.flight ≤ 144
  unfolding grown_plan
  paid_behind =
      let a = called.0.paid in
      let b = few_prices in
      omega (arith, a, b)

  roomy : (n : ℕ) → Visited (machine 7500) (λ v. length v.flight ≤ 144 + 6048) (rounds 7500 n o) o
  roomy n =
      let net = is.net in
      let wired : AreWired o.net = subst AreWired (sym net) (grown_wired seed) in
      let nested : AreNested o.net = subst AreNested (sym net) (grown_nested seed) in
      let all = an_opening_has_room 7500 n o (a_seed_is_untouched seed) called.0.mute wired nested in
      let a = paid_behind in
      let b = few_rooms in
      let c = ap (λ (z : Net). room_of z (locals_of o)) net in
      below (paid_for o.net (locals_of o) o.flight + room_of o.net (locals_of o)) (omega (arith, a, b, c)) (rounds 7500 n o) o all
    where
      below : (k : ℕ) → k ≤ 144 + 6048 → (ss : List Step) (v : World) → Visited (machine 7500) (λ v. length v.flight ≤ k) ss v → Visited (machine 7500) (λ v. length v.flight ≤ 144 + 6048) ss v
      below k le [] v h = omega (arith, le, h)
      below k le (s ∷ ss) v h = (let here = h.0 in omega (arith, le, here), below k le ss (step 7500 s v) h.1)

  -- ---- so no step crowds
  neither : (ss ts : List Step) (v : World) → crowds 7500 ss v ≡ false → crowds 7500 ts (run (machine 7500) ss v) ≡ false → crowds 7500 (ss ++ ts) v ≡ false
  neither [] ts v a b = b
  neither (s ∷ ss) ts v a b = by (is_crowded (step 7500 s v)) refl (λ rest. neither ss ts (step 7500 s v) rest b)
    where
      by : (c : Bool) → is_crowded (step 7500 s v) ≡ c → (crowds 7500 ss (step 7500 s v) ≡ false → crowds 7500 (ss ++ ts) (step 7500 s v) ≡ false) → crowds 7500 (s ∷ (ss ++ ts)) v ≡ false
      by true e more = let bad : true ≡ false = sym (ap (λ (c : Bool). cond c true (crowds 7500 ss (step 7500 s v))) e) ∙ a in absurd (cc)
      by false e more =
          let rest : crowds 7500 ss (step 7500 s v) ≡ false = sym (ap (λ (c : Bool). cond c true (crowds 7500 ss (step 7500 s v))) e) ∙ a in
          ap (λ (c : Bool). cond c true (crowds 7500 (ss ++ ts) (step 7500 s v))) e ∙ more rest

  after_report : (v : World) → length v.flight ≤ 144 + 6048 → crowds 7500 (Report None ∷ []) v ≡ false
  after_report v le =
      let none = ap (λ (l : List (Item × Bool)). length (v.flight ++ each (λ (z : Item × Bool). z.0) l)) (the_rest_change_no_node 7500 v (Report None) refl).sends in
      let long = length-append v.flight [] in
      never_crowded 7500 (144 + 6048) (omega arith) (Report None ∷ []) v (le, omega (arith, le, none, long))

  calls_roomy : crowds 7500 (calls_of seed) w ≡ false
  calls_roomy =
      let start = visited_start (machine 7500) (λ v. length v.flight ≤ 144 + 6048) (rounds 7500 0 o) o (roomy 0) in
      never_crowded 7500 (length o.flight) (omega (arith, start)) (calls_of seed) w called.1

  pub never : is_crowded_run (grown_plan seed) ≡ false
  unfolding grown_plan
  never =
      let es : List Event = Rounds (rounds_of seed) ∷ Reports None ∷ [] in
      let sent_w : World = run (machine 7500) (each send_step (senders seed)) w in
      let last_w : World = run (machine 7500) (each want_step (wants seed)) sent_w in
      let same_w : last_w ≡ o = sym (run_append (machine 7500) (each send_step (senders seed)) (each want_step (wants seed)) w) in
      let steps : steps_of_run (grown_plan seed) ≡ calls_of seed ++ all_steps 7500 es last_w =
      sends_first 7500 (senders seed) (each want_event (wants seed) ++ es) w ∙ ap (λ (ss : List Step). each send_step (senders seed) ++ ss) (wants_first 7500 (wants seed) es sent_w)
      ∙ sym (append_assoc (each send_step (senders seed)) (each want_step (wants seed)) (all_steps 7500 es last_w)) in
      let steps' : steps_of_run (grown_plan seed) ≡ calls_of seed ++ (rounds 7500 (rounds_of seed) o ++ Report None ∷ []) = steps ∙ ap (λ (v : World). calls_of seed ++ all_steps 7500 es v) same_w in
      let behind = roomy (rounds_of seed) in
      let end = visited_end (machine 7500) (λ v. length v.flight ≤ 144 + 6048) (rounds 7500 (rounds_of seed) o) o behind in
      ap (λ (ss : List Step). crowds 7500 ss w) steps'
      ∙ neither (calls_of seed) (rounds 7500 (rounds_of seed) o ++ Report None ∷ []) w calls_roomy
      (neither (rounds 7500 (rounds_of seed) o) (Report None ∷ []) o (never_crowded 7500 (144 + 6048) (omega arith) (rounds 7500 (rounds_of seed) o) o behind)
      (after_report (run (machine 7500) (rounds 7500 (rounds_of seed) o) o) end))

pub seeds_never_crowd : (seed : ℕ) → is_crowded_run (grown_plan seed) ≡ false
seeds_never_crowd seed = never seed
