-- The small networks: by computing, and the premises of the law in a pair of nodes.
use Rattle.std.proofs.Common.{◌≡◌, ℕ, zero, suc, true, Some, None, arith, refl, ap, ◌∙◌}
use Rattle.std.specs.Prelude.{slice_get}
use Rattle.std.specs.Fmt.{digits}
use Rattle.std.specs.Option.{option_map, unwrap_or}
use Rattle.rsvp_base.specs.Table.{Table, get}
use Rattle.rsvp_base.specs.TokenBucket.{IsSound, TokenBucket}
use Rattle.value_texts.specs.Texts.{addr_text, flow_text, sender_text, session_text}
use Rattle.value_texts.specs.Reports.{entry_line, head_text}
use Rattle.network_model.specs.RouterRules.Rule.{facts_with}
use Rattle.router_rules.specs.Facts.{Facts, PathState, SenderKey, no_facts, sender_keys}
use Rattle.tree_model.specs.Wants.{want}
use Rattle.network_model.specs.ThreeRouters.{first, s1, session, usual}
use Rattle.network_model.specs.Bounds.{AreHosts}
use Rattle.network_model.specs.Locals.{IsLive, senders_at}
use Rattle.network_model.specs.Sound.{ArePathsSound}
use Rattle.laws_network.specs.Example.{quiet_world}
use Rattle.laws_network.proofs.Example.{a_pair_stays_within_bounds}
use Rattle.laws_network.proofs.Known.{of_some}
use Rattle.settle_paths.proofs.Example.{a_pair_meets_the_premises}
use Rattle.settle_passes.specs.Calls.{HasItsPaths}
use Rattle.settle_passes.proofs.Calls.{a_new_sender_is_set_up, spreading_then}
use Rattle.settle_passes.specs.Worked.{AConfirmationIsLate, AMovedTreeLeavesAReservation, APairForgets, APairIsSetUp, AReceiverIsServed, AStrayTearIsTaken, ATradeIsRefused, ended_world, heard_world}
use Rattle.settle_passes.proofs.Spreading.{there_spread}

-- ---- a pair of nodes in which nothing happened yet
no_one : (n : ℕ) (f : Facts) → slice_get quiet_world.nodes n ≡ Some f → no_facts ≡ f
no_one zero f a = of_some no_facts f a
no_one (suc zero) f a = of_some no_facts f a
no_one (suc (suc n)) f a = absurd (cc)

no_sender : (n : ℕ) (f : Facts) (k : SenderKey) (t : TokenBucket) → slice_get quiet_world.nodes n ≡ Some f → get f.senders k ≡ Some t → ⊥
no_sender n f k t a h = let none : get no_facts.senders k ≡ Some t = ap (λ (z : Facts). get z.senders k) (no_one n f a) ∙ h in cc

no_path : (n : ℕ) (f : Facts) (k : SenderKey) (x : PathState) → slice_get quiet_world.nodes n ≡ Some f → get f.paths k ≡ Some x → ⊥
no_path n f k x a h = let none : get no_facts.paths k ≡ Some x = ap (λ (z : Facts). get z.paths k) (no_one n f a) ∙ h in cc

nobody : (n : ℕ) (m : Table sender_keys TokenBucket) (k : SenderKey) (t : TokenBucket) → senders_at quiet_world n ≡ Some m → get m k ≡ Some t → ⊥
nobody zero m k t e h =
    let same : no_facts.senders ≡ m = of_some _ _ e in
    let none : get no_facts.senders k ≡ Some t = ap (λ (z : Table sender_keys TokenBucket). get z k) same ∙ h in
    cc
nobody (suc zero) m k t e h =
    let same : no_facts.senders ≡ m = of_some _ _ e in
    let none : get no_facts.senders k ≡ Some t = ap (λ (z : Table sender_keys TokenBucket). get z k) same ∙ h in
    cc
nobody (suc (suc n)) m k t e h = cc

no_live : (k : SenderKey) (t : TokenBucket) → IsLive quiet_world k t → ⊥
no_live k t l = nobody l.node l.senders k t l.at l.sends

hosts : AreHosts quiet_world
hosts = record {
  placed = λ n f k t a h. absurd (no_sender n f k t a h);
  groups = λ n f k t a h. absurd (no_sender n f k t a h);
  few_senders = λ s. omega arith;
  few_sessions = omega arith;
}

sound : ArePathsSound quiet_world
sound = record { facts = λ n f k x a h. absurd (no_path n f k x a h); items = λ y m x t i. absurd i; named = λ y m i. absurd i }

start : HasItsPaths 7500 quiet_world
start = record { bounds = a_pair_stays_within_bounds.quiet; hosts = hosts; sound = sound; complete = λ k t h live. absurd (no_live k t live); no_tear = λ y m i. absurd i }

fit : IsSound usual
fit = record { rate = omega arith; depth = omega arith; low = omega arith; most = omega arith }

pub a_pair_is_set_up : APairIsSetUp
a_pair_is_set_up = record {
  start = start;
  fit = fit;
  new = λ t live. no_live (session, first) t live;
  hosts = a_pair_meets_the_premises.locals;
  spreading = spreading_then 7500 0 (session, first) usual quiet_world (there_spread 7500 quiet_world start) fit (λ t live. no_live (session, first) t live) a_pair_meets_the_premises.locals;
  not_yet = a_pair_meets_the_premises.not_yet;
}

-- ---- the host ends, once the other node has its path
nobody_then : (n : ℕ) (m : Table sender_keys TokenBucket) (k : SenderKey) (t : TokenBucket) → senders_at ended_world n ≡ Some m → get m k ≡ Some t → ⊥
nobody_then zero m k t e h =
    let same : no_facts.senders ≡ m = of_some _ _ e in
    let none : get no_facts.senders k ≡ Some t = ap (λ (z : Table sender_keys TokenBucket). get z k) same ∙ h in
    cc
nobody_then (suc zero) m k t e h =
    let same : no_facts.senders ≡ m = of_some _ _ e in
    let none : get no_facts.senders k ≡ Some t = ap (λ (z : Table sender_keys TokenBucket). get z k) same ∙ h in
    cc
nobody_then (suc (suc n)) m k t e h = cc

no_sender_then : (n : ℕ) (f : Facts) (k : SenderKey) (t : TokenBucket) → slice_get ended_world.nodes n ≡ Some f → get f.senders k ≡ Some t → ⊥
no_sender_then n f k t a h = nobody_then n f.senders k t (ap (option_map (λ (z : Facts). z.senders)) a) h

hosts_then : AreHosts ended_world
hosts_then = record {
  placed = λ n f k t a h. absurd (no_sender_then n f k t a h);
  groups = λ n f k t a h. absurd (no_sender_then n f k t a h);
  few_senders = λ s. omega arith;
  few_sessions = omega arith;
}

-- what the other node has
abbrev heard_path : PathState
heard_path = record { iface = 0; hop = record { addr = s1; handle = 0 }; tspec = usual; police = true; adspec = None; dies = 157500 }

not_yet : ArePathsSound ended_world → ⊥
not_yet s =
    let l = (s.facts 1 (unwrap_or (slice_get ended_world.nodes 1) no_facts) (session, first) heard_path refl refl).sound.live in
    nobody_then l.node l.senders (session, first) usual l.at l.sends

pub a_pair_forgets : APairForgets
a_pair_forgets = record {
  start = a_new_sender_is_set_up 7500 0 (session, first) usual quiet_world start a_pair_is_set_up.fit a_pair_is_set_up.new a_pair_is_set_up.hosts;
  sends = record { facts = unwrap_or (slice_get heard_world.nodes 0) no_facts; there = refl; sends = refl };
  quiet = λ y m t i. absurd i;
  hosts = hosts_then;
  not_yet = not_yet;
}

-- ---- by computing
pub a_receiver_is_served : AReceiverIsServed
unfolding digits addr_text session_text sender_text flow_text entry_line head_text facts_with
a_receiver_is_served = record { long = refl; text = refl; quit = refl }

pub a_trade_is_refused : ATradeIsRefused
unfolding digits addr_text session_text sender_text flow_text entry_line head_text facts_with want
a_trade_is_refused = record { long = refl; text = refl; nothing = refl; owed = refl }

pub a_stray_tear_is_taken : AStrayTearIsTaken
unfolding facts_with
a_stray_tear_is_taken = record { first_one = refl; second_one = refl }

pub a_confirmation_is_late : AConfirmationIsLate
unfolding digits addr_text session_text sender_text flow_text entry_line head_text facts_with
a_confirmation_is_late = record { long = refl; text = refl }

pub a_moved_tree_leaves_a_reservation : AMovedTreeLeavesAReservation
unfolding digits addr_text session_text sender_text flow_text entry_line head_text facts_with
a_moved_tree_leaves_a_reservation = record { text = refl }
