-- A left-over path that keeps an ADSPEC, and a host that advertises.
use Rattle.std.proofs.Common.{◌≡◌, ℕ, zero, suc, ◌≤◌, [], ◌∷◌, length, Bool, Option, None, Some, true, false, cond, inl, ⊎_elim, arith, sym, refl, ap, subst, ◌∙◌}
use Rattle.std.specs.Prelude.{slice_get, map as each}
use Rattle.std.specs.Ordering.{eq_by_cmp}
use Rattle.std.specs.Int.Count.{count_leading_zeros}
use Rattle.adspec_path.specs.Composing.{start}
use Rattle.adspec_path.specs.RateBelow.{rate_below}
use Rattle.adspec_path.proofs.Proper.{what_is_composed_can_be_written}
use Rattle.rsvp_base.specs.Orders.{sessions}
use Rattle.rsvp_base.specs.Table.{Table, empty, get, put_in}
use Rattle.rsvp_base.specs.TokenBucket.{TokenBucket}
use Rattle.rsvp_base.proofs.Tables.{got_put_in}
use Rattle.router_rules.specs.Facts.{Facts, SenderKey, no_facts, sender_keys}
use Rattle.router_rules.specs.Inputs.{AdvertAs, Stale, StalePath}
use Rattle.router_rules.specs.Rule.{facts_with}
use Rattle.router_rules.specs.Steps.{IsFitStale}
use Rattle.network_model.specs.ThreeRouters.{first, session, usual}
use Rattle.tree_model.specs.declared.hops.LinkHop.{LinkHop}
use Rattle.tree_model.specs.declared.locals.LocalSender.{LocalSender}
use Rattle.tree_model.specs.Networks.{owner}
use Rattle.tree_model.specs.Trees.{trees_of}
use Rattle.network_model.specs.Bounds.{AreBounds, AreHosts}
use Rattle.network_model.specs.Links.{is_group}
use Rattle.network_model.specs.Locals.{IsLive, sessions_of}
use Rattle.network_model.specs.Runs.{first_facts}
use Rattle.network_model.specs.Steps.{At}
use Rattle.network_model.specs.Worlds.{config_of}
use Rattle.laws_network.specs.Example.{pair_net, sending_world}
use Rattle.laws_network.proofs.Beginning.{the_first_world_is_within_bounds}
use Rattle.laws_network.proofs.Calming.{calm_rounds}
use Rattle.laws_network.proofs.Example.{a_pair_stays_within_bounds, hosts, valid}
use Rattle.laws_network.proofs.Keeping.{each_step_keeps_a_world_within_bounds}
use Rattle.laws_network.proofs.Known.{of_some}
use Rattle.settle_adverts.specs.Adverts.{AreAdvertsThere}
use Rattle.settle_adverts.specs.Worked.{ASenderIsAdvertised, AnAdspecIsLeftOver, advertised_world, on, kept_path, kept_plan, kept_world}

-- ---- a left-over path
fit_path : IsFitStale (config_of 7500 pair_net (trees_of pair_net.hops) 1) 0 (StalePath (session, first) kept_path)
fit_path = (
  record { later = omega arith; soon = omega arith },
  record {
    iface = omega arith;
    tspec = record { rate = omega arith; depth = omega arith; low = omega arith; most = omega arith };
    adspec = what_is_composed_can_be_written.start on;
  },
)

within : AreBounds 7500 kept_world
within =
    the_first_world_is_within_bounds kept_plan
    (record {
      period = omega arith;
      net = valid;
      hosts = hosts;
      stale = λ n i lt j.
          ⊎_elim
          (λ (same : (n, i) ≡ (1, StalePath (session, first) kept_path)). subst (λ (z : ℕ × Stale). IsFitStale (config_of 7500 pair_net (trees_of pair_net.hops) z.0) 0 z.1) (sym same) fit_path)
          (λ (no : ⊥). absurd no) j;
    })

-- nobody sends
nobody : (n : ℕ) (f : Facts) (k : SenderKey) (t : TokenBucket) → slice_get kept_world.nodes n ≡ Some f → get f.senders k ≡ Some t → ⊥
unfolding facts_with
nobody zero f k t e h =
    let same : first_facts kept_plan 0 ≡ f = of_some _ _ e in
    let none : get no_facts.senders k ≡ Some t = ap (λ (z : Facts). get z.senders k) same ∙ h in
    cc
nobody (suc zero) f k t e h =
    let same : first_facts kept_plan 1 ≡ f = of_some _ _ e in
    let none : get no_facts.senders k ≡ Some t = ap (λ (z : Facts). get z.senders k) same ∙ h in
    cc
nobody (suc (suc n)) f k t e h = cc

no_hosts : AreHosts kept_world
unfolding facts_with
no_hosts = record {
  placed = λ n f k t e h. absurd (nobody n f k t e h);
  groups = λ n f k t e h. absurd (nobody n f k t e h);
  few_senders = λ s. omega arith;
  few_sessions = omega arith;
}

pub an_adspec_is_left_over : AnAdspecIsLeftOver
unfolding facts_with
an_adspec_is_left_over = record {
  bounds = within;
  hosts = no_hosts;
  rounds = λ k. calm_rounds 7500 k kept_world;
  there = refl;
  not_yet = λ exact. let no : Some (start on) ≡ None = exact.kept 1 (first_facts kept_plan 1) (session, first) kept_path refl refl in cc;
}

-- ---- a host that advertises
abbrev none_yet : Table sender_keys TokenBucket
none_yet = empty

sender_is : (n : ℕ) (f : Facts) (k : SenderKey) (t : TokenBucket) → slice_get advertised_world.nodes n ≡ Some f → get f.senders k ≡ Some t → (n ≡ 0) × (k ≡ (session, first))
sender_is zero f k t e h =
    let same = of_some _ _ e in
    ⊎_elim
    (λ (here : (k ≡ (session, first)) × (t ≡ usual)). (refl, here.0))
    (λ (old : get none_yet k ≡ Some t). absurd (cc))
    (got_put_in sender_keys none_yet (session, first) usual k t (ap (λ (z : Facts). get z.senders k) same ∙ h))
sender_is (suc zero) f k t e h =
    let same : no_facts ≡ f = of_some _ _ e in
    let none : get no_facts.senders k ≡ Some t = ap (λ (z : Facts). get z.senders k) same ∙ h in
    absurd (cc)
sender_is (suc (suc n)) f k t e h = absurd (cc)

one_host : AreHosts advertised_world
one_host = record {
  placed = λ n f k t e h. let is = sender_is n f k t e h in ap (λ (z : SenderKey). owner pair_net.ends z.1.addr) is.1 ∙ ap Some (sym is.0);
  groups = λ n f k t e h. let is = sender_is n f k t e h in ap (λ (z : SenderKey). is_group z.0.group) is.1;
  few_senders = λ s. few (eq_by_cmp sessions.cmp s session);
  few_sessions = let n : length (sessions_of advertised_world) ≡ 1 = refl in omega arith;
}
  where
    few : (b : Bool) → length (each (λ (x : LocalSender). x.sender) (cond b ((record { node = 0; session = session; sender = first }) ∷ []) [])) ≤ 16
    few true = omega arith
    few false = omega arith

live : IsLive advertised_world (session, first) usual
live = record { node = 0; senders = put_in none_yet (session, first) usual; at = refl; sends = refl }

not_yet : AreAdvertsThere advertised_world → ⊥
not_yet told =
    let p = (told (session, first) usual (record { from = 0; to = 1 }) live (inl refl)).0 in
    let same : no_facts ≡ p.facts = of_some _ _ p.node in
    let none : get no_facts.paths (session, first) ≡ Some p.path = ap (λ (z : Facts). get z.paths (session, first)) same ∙ p.there in
    cc

pub a_sender_is_advertised : ASenderIsAdvertised
unfolding start rate_below count_leading_zeros
a_sender_is_advertised = record {
  bounds = each_step_keeps_a_world_within_bounds 7500 sending_world (At 0 (AdvertAs session first)) tt a_pair_stays_within_bounds.bounds;
  hosts = one_host;
  live = live;
  rounds = λ k. calm_rounds 7500 k advertised_world;
  goes = refl;
  composed = refl;
  not_yet = not_yet;
  heard = refl;
}
