-- The pair of nodes meets the premises of the laws of paths.
use Rattle.std.proofs.Common.{◌≡◌, ℕ, zero, suc, ◌≤◌, [], ◌∷◌, length, Bool, true, false, cond, Some, inl, ⊎_elim, arith, sym, refl, ap, subst, ◌∙◌}
use Rattle.std.specs.Prelude.{slice_get, map as each}
use Rattle.std.specs.Ordering.{eq_by_cmp}
use Rattle.rsvp_base.specs.Orders.{sessions}
use Rattle.rsvp_base.specs.Table.{Table, empty, get, put_in}
use Rattle.rsvp_base.specs.TokenBucket.{TokenBucket}
use Rattle.rsvp_base.proofs.Tables.{got_put_in}
use Rattle.tree_model.specs.declared.locals.LocalSender.{LocalSender}
use Rattle.router_rules.specs.Facts.{Facts, SenderKey, sender_keys, no_facts}
use Rattle.router_rules.specs.Inputs.{Stale, StalePath}
use Rattle.network_model.specs.ThreeRouters.{session, first, usual}
use Rattle.router_rules.specs.Rule.{facts_with}
use Rattle.router_rules.specs.Steps.{IsFitStale}
use Rattle.tree_model.specs.Networks.{owner}
use Rattle.tree_model.specs.Trees.{trees_of}
use Rattle.network_model.specs.Bounds.{AreBounds, AreHosts}
use Rattle.network_model.specs.Links.{is_group}
use Rattle.network_model.specs.Locals.{IsLive, senders_at, sessions_of}
use Rattle.network_model.specs.Runs.{first_facts}
use Rattle.network_model.specs.Sound.{ArePathsComplete}
use Rattle.network_model.specs.Worlds.{config_of}
use Rattle.laws_network.specs.Example.{pair_net, sending_world}
use Rattle.laws_network.proofs.Beginning.{the_first_world_is_within_bounds}
use Rattle.laws_network.proofs.Calming.{calm_rounds}
use Rattle.laws_network.proofs.Example.{a_pair_stays_within_bounds, hosts, valid}
use Rattle.laws_network.proofs.Known.{of_some}
use Rattle.settle_paths.specs.Example.{MeetsThePremises, APathIsLeftOver, stale_path, stale_plan, stale_world}

-- ---- the one local sender
abbrev none_yet : Table sender_keys TokenBucket
none_yet = empty

sender_is : (n : ℕ) (f : Facts) (k : SenderKey) (t : TokenBucket) → slice_get sending_world.nodes n ≡ Some f → get f.senders k ≡ Some t → (n ≡ 0) × (k ≡ (session, first))
sender_is zero f k t e h =
    let same = of_some _ _ e in
    ⊎_elim
    (λ (here : (k ≡ (session, first)) × (t ≡ usual)). (refl, here.0))
    (λ (old : get none_yet k ≡ Some t). absurd (cc))
    (got_put_in sender_keys none_yet (session, first) usual k t (ap (λ (z : Facts). get z.senders k) same ∙ h))
sender_is (suc zero) f k t e h =
    let same : no_facts ≡ f = of_some _ _ e in
    let none : get no_facts.senders k ≡ Some t = ap (λ (z : Facts). get z.senders k) same ∙ h in
    absurd (cc)
sender_is (suc (suc n)) f k t e h = absurd (cc)

locals : AreHosts sending_world
locals = record {
  placed = λ n f k t e h. let is = sender_is n f k t e h in ap (λ (z : SenderKey). owner pair_net.ends z.1.addr) is.1 ∙ ap Some (sym is.0);
  groups = λ n f k t e h. let is = sender_is n f k t e h in ap (λ (z : SenderKey). is_group z.0.group) is.1;
  few_senders = λ s. few (eq_by_cmp sessions.cmp s session);
  few_sessions = let n : length (sessions_of sending_world) ≡ 1 = refl in omega arith;
}
  where
    few : (b : Bool) → length (each (λ (x : LocalSender). x.sender) (cond b ((record { node = 0; session = session; sender = first }) ∷ []) [])) ≤ 16
    few true = omega arith
    few false = omega arith

live : IsLive sending_world (session, first) usual
live = record { node = 0; senders = put_in none_yet (session, first) usual; at = refl; sends = refl }

not_yet : ArePathsComplete sending_world → ⊥
not_yet complete =
    let p = complete (session, first) usual (record { from = 0; to = 1 }) live (inl refl) in
    let same : no_facts ≡ p.facts = of_some _ _ p.node in
    let none : get no_facts.paths (session, first) ≡ Some p.path = ap (λ (z : Facts). get z.paths (session, first)) same ∙ p.there in
    cc

pub a_pair_meets_the_premises : MeetsThePremises
a_pair_meets_the_premises = record {
  bounds = a_pair_stays_within_bounds.bounds;
  locals = locals;
  live = live;
  hop = refl;
  rounds = λ k. calm_rounds 7500 k sending_world;
  not_yet = not_yet;
}

-- ---- a left-over path
fit_path : IsFitStale (config_of 7500 pair_net (trees_of pair_net.hops) 1) 0 (StalePath (session, first) stale_path)
fit_path = (
  record { later = omega arith; soon = omega arith },
  record { iface = omega arith; tspec = record { rate = omega arith; depth = omega arith; low = omega arith; most = omega arith }; adspec = tt },
)

stale_bounds : AreBounds 7500 stale_world
stale_bounds =
    the_first_world_is_within_bounds stale_plan
    (record {
      period = omega arith;
      net = valid;
      hosts = hosts;
      stale = λ n i lt j.
          ⊎_elim
          (λ (same : (n, i) ≡ (1, StalePath (session, first) stale_path)). subst (λ (z : ℕ × Stale). IsFitStale (config_of 7500 pair_net (trees_of pair_net.hops) z.0) 0 z.1) (sym same) fit_path)
          (λ (no : ⊥). absurd no) j;
    })

-- nobody sends
nobody : (n : ℕ) (m : Table sender_keys TokenBucket) (k : SenderKey) (t : TokenBucket) → senders_at stale_world n ≡ Some m → get m k ≡ Some t → ⊥
unfolding facts_with
nobody zero m k t e h =
    let same : none_yet ≡ m = of_some _ _ e in
    let none : get none_yet k ≡ Some t = ap (λ (z : Table sender_keys TokenBucket). get z k) same ∙ h in
    cc
nobody (suc zero) m k t e h =
    let same : none_yet ≡ m = of_some _ _ e in
    let none : get none_yet k ≡ Some t = ap (λ (z : Table sender_keys TokenBucket). get z k) same ∙ h in
    cc
nobody (suc (suc n)) m k t e h = cc

pub a_path_is_left_over : APathIsLeftOver
unfolding facts_with
a_path_is_left_over = record {
  bounds = stale_bounds;
  rounds = λ k. calm_rounds 7500 k stale_world;
  there = refl;
  not_yet = λ sound. let l = (sound.facts 1 (first_facts stale_plan 1) (session, first) stale_path refl refl).sound.live in nobody l.node l.senders (session, first) usual l.at l.sends;
}
