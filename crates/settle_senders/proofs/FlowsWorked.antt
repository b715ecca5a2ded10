-- A host that sends says another flow in the pair of nodes: the premises of the laws, and what they promise does not hold yet.
use Rattle.std.proofs.Common.{◌≡◌, ◌≤◌, ℕ, zero, suc, ◌∷◌, [], length, Bool, true, false, cond, None, Some, ◌⊎◌, inl, inr, ⊎_elim, arith, sym, refl, ap, ◌∙◌}
use Rattle.std.specs.Prelude.{slice_get, ◌==◌, map as each}
use Rattle.std.specs.Option.{unwrap_or}
use Rattle.std.specs.Ordering.{eq_by_cmp}
use Rattle.rsvp_base.specs.Orders.{sessions}
use Rattle.rsvp_base.specs.Table.{Table, get, put_in}
use Rattle.rsvp_base.proofs.Tables.{got_put_in}
use Rattle.rsvp_base.specs.TokenBucket.{IsSound, TokenBucket}
use Rattle.router_rules.specs.Facts.{Facts, PathState, SenderKey, no_facts, sender_keys}
use Rattle.tree_model.specs.declared.locals.LocalSender.{LocalSender}
use Rattle.tree_model.specs.Networks.{owner}
use Rattle.network_model.specs.Bounds.{AreHosts}
use Rattle.network_model.specs.Links.{is_group}
use Rattle.network_model.specs.Locals.{IsLive, senders_at, sessions_of}
use Rattle.network_model.specs.RouterRules.Rule.{facts_with}
use Rattle.network_model.specs.ThreeRouters.{first, s1, second, session, usual}
use Rattle.laws_network.specs.Example.{pair_net}
use Rattle.laws_network.proofs.Known.{of_some}
use Rattle.settle_paths.proofs.LiveSenders.{one_flow}
use Rattle.settle_network.specs.Settled.{HasSettled}
use Rattle.settle_passes.specs.Worked.{heard_world}
use Rattle.settle_passes.proofs.Calls.{a_new_sender_is_set_up}
use Rattle.settle_passes.proofs.Worked.{a_pair_forgets, a_pair_is_set_up}
use Rattle.settle_passes.proofs.AskedExample.{a_receiver_asks}
use Rattle.settle_senders.specs.Flows.{HasItsFlows, IsTelling}
use Rattle.settle_senders.specs.FlowsWorked.{AHostSaysAnotherFlow, AStrayFlowIsTaken, NoPassIsSparedAFlow, both_begun, both_heard, other_flow, said_anew}
use Rattle.settle_senders.proofs.AdvertsWorked.{a_host_advertises}
use Rattle.settle_senders.proofs.FlowCalls.{a_new_flow_is_said}
use Rattle.settle_senders.proofs.FlowsThere.{flows_that_are_there_are_said}

start : HasItsFlows 7500 heard_world
start = record { paths = a_pair_forgets.start; no_path = λ y m i. absurd i }

abbrev fit : IsSound other_flow
fit = record { rate = omega arith; depth = omega arith; low = omega arith; most = omega arith }

telling : IsTelling 7500 said_anew
telling = a_new_flow_is_said 7500 0 (session, first) other_flow heard_world (flows_that_are_there_are_said 7500 heard_world start) fit a_pair_forgets.sends

-- the path keeps the flow of before, which nobody sends any more
abbrev kept_path : PathState
kept_path = record { iface = 0; hop = record { addr = s1; handle = 0 }; tspec = usual; police = true; adspec = None; dies = 157500 }

apart : usual ≡ other_flow → ⊥
apart same = let bad : false ≡ true = ap (λ (z : TokenBucket). z.r == 3000) same in absurd (cc)

not_settled : HasSettled 7500 said_anew → ⊥
not_settled h =
    let kept = (h.paths_sound.facts 1 (unwrap_or (slice_get said_anew.nodes 1) no_facts) (session, first) kept_path refl refl).sound.live in
    let now : IsLive said_anew (session, first) other_flow = record { node = 0; senders = (unwrap_or (slice_get said_anew.nodes 0) no_facts).senders; at = refl; sends = refl } in
    apart (one_flow said_anew telling.rooted.hosts (session, first) usual other_flow kept now)

-- ---- and where it sends as another sender besides
second_apart : ◌≡◌ {A = SenderKey} (session, second) (session, first) → ⊥
second_apart same = let bad : false ≡ true = ap (λ (z : SenderKey). z.1.port == first.port) same in cc

new_one : (n : ℕ) (m : Table sender_keys TokenBucket) (t : TokenBucket) → senders_at heard_world n ≡ Some m → get m (session, second) ≡ Some t → ⊥
new_one zero m t e h =
    let same : (unwrap_or (slice_get heard_world.nodes 0) no_facts).senders ≡ m = of_some _ _ e in
    let bad : None ≡ Some t = ap (λ (z : Table sender_keys TokenBucket). get z (session, second)) same ∙ h in
    cc
new_one (suc zero) m t e h =
    let same : no_facts.senders ≡ m = of_some _ _ e in
    let bad : None ≡ Some t = ap (λ (z : Table sender_keys TokenBucket). get z (session, second)) same ∙ h in
    cc
new_one (suc (suc n)) m t e h = cc

sender_is : (n : ℕ) (f : Facts) (k : SenderKey) (t : TokenBucket) → slice_get both_begun.nodes n ≡ Some f → get f.senders k ≡ Some t
    → (n ≡ 0) × ((k ≡ (session, first)) ⊎ (k ≡ (session, second)))
sender_is zero f k t e h =
    let one : Table sender_keys TokenBucket = put_in no_facts.senders (session, first) usual in
    ⊎_elim
    (λ (here : (k ≡ (session, second)) × (t ≡ usual)). (refl, inr here.0))
    (λ (old : get one k ≡ Some t).
    ⊎_elim (λ (here : (k ≡ (session, first)) × (t ≡ usual)). (refl, inl here.0)) (λ (none : get no_facts.senders k ≡ Some t). absurd (cc))
    (got_put_in sender_keys no_facts.senders (session, first) usual k t old))
    (got_put_in sender_keys one (session, second) usual k t (ap (λ (z : Facts). get z.senders k) (of_some (unwrap_or (slice_get both_begun.nodes 0) no_facts) f e) ∙ h))
sender_is (suc zero) f k t e h =
    let same = of_some (unwrap_or (slice_get both_begun.nodes 1) no_facts) f e in
    let bad : None ≡ Some t = ap (λ (z : Facts). get z.senders k) same ∙ h in
    absurd (cc)
sender_is (suc (suc n)) f k t e h = absurd (cc)

both_hosts : AreHosts both_begun
both_hosts = record {
  placed = λ n f k t e h.
      let is = sender_is n f k t e h in
      ⊎_elim (λ (z : k ≡ (session, first)). ap (λ (v : SenderKey). owner pair_net.ends v.1.addr) z ∙ ap Some (sym is.0))
      (λ (z : k ≡ (session, second)). ap (λ (v : SenderKey). owner pair_net.ends v.1.addr) z ∙ ap Some (sym is.0)) is.1;
  groups = λ n f k t e h.
      let is = sender_is n f k t e h in
      ⊎_elim (λ (z : k ≡ (session, first)). ap (λ (v : SenderKey). is_group v.0.group) z) (λ (z : k ≡ (session, second)). ap (λ (v : SenderKey). is_group v.0.group) z) is.1;
  few_senders = λ s. few (eq_by_cmp sessions.cmp s session);
  few_sessions = let n : length (sessions_of both_begun) ≡ 1 = refl in omega arith;
}
  where
    few : (b : Bool) → length (each (λ (x : LocalSender). x.sender)
        (cond b ((record { node = 0; session = session; sender = first }) ∷ cond b ((record { node = 0; session = session; sender = second }) ∷ []) [])
        (cond b ((record { node = 0; session = session; sender = second }) ∷ []) []))) ≤ 16
    few true = omega arith
    few false = omega arith

both : HasItsFlows 7500 both_heard
both = record {
  paths = a_new_sender_is_set_up 7500 0 (session, second) usual heard_world a_pair_forgets.start a_pair_is_set_up.fit (λ t l. new_one l.node l.senders t l.at l.sends) both_hosts;
  no_path = λ y m i. absurd i;
}

pub a_host_says_another_flow : AHostSaysAnotherFlow
unfolding facts_with
a_host_says_another_flow = record {
  start = start;
  bounds = start.paths.bounds;
  hosts = start.paths.hosts;
  settled = a_receiver_asks.settled;
  quiet = refl;
  adverts = a_host_advertises.later;
  fit = fit;
  sends = a_pair_forgets.sends;
  telling = telling;
  not_yet = λ h. h.no_path _ _ (inl refl) refl;
  not_settled = not_settled;
  not_advertised = λ h. h.no_path _ _ (inl refl) refl;
  before = refl;
  after = refl;
  both = both;
  sends_too = record { facts = unwrap_or (slice_get both_heard.nodes 0) no_facts; there = refl; sends = refl };
  other = record { node = 0; senders = (unwrap_or (slice_get both_heard.nodes 0) no_facts).senders; at = refl; sends = refl };
  apart = second_apart;
  over = inl refl;
  one_anew = refl;
  other_as_before = refl;
}

-- ---- by computing
pub no_pass_is_spared_a_flow : NoPassIsSparedAFlow
unfolding facts_with
no_pass_is_spared_a_flow = record { long = refl; too_soon = refl; in_time = refl }

pub a_stray_flow_is_taken : AStrayFlowIsTaken
unfolding facts_with
a_stray_flow_is_taken = record { first_one = refl; second_one = refl }
