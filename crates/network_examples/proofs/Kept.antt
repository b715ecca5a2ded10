-- What is asked and the bounds of a run, by computing.
use Rattle.std.proofs.Common.{◌≡◌, ℕ, length, true, false, inl, arith, refl, ap}
use Rattle.std.specs.Prelude.{slice_get}
use Rattle.std.specs.Option.{unwrap_or}
use Rattle.calm_rounds.specs.Hold.{Visited}
use Rattle.router_rules.specs.Facts.{no_facts}
use Rattle.router_rules.specs.Inputs.{QuitAll, SendAs}
use Rattle.router_examples.specs.ThreeRouters.{first, flow, session, usual}
use Rattle.tree_model.specs.Wants.{Locals}
use Rattle.network_model.specs.Bounds.{AreBounds, AreHosts}
use Rattle.network_model.specs.Runs.{first_world, steps_of_run}
use Rattle.network_model.specs.Steps.{At, machine, step}
use Rattle.network_model.specs.Worlds.{World}
use Rattle.laws_network.specs.Known.{IsSameNet}
use Rattle.laws_network.proofs.Calming.{calm_rounds}
use Rattle.laws_network.proofs.Example.{hosts, valid}
use Rattle.settle_resvs.specs.HopExample.{asking_world}
use Rattle.settle_resvs.proofs.HopExample.{a_pair_says_a_reservation}
use Rattle.network_examples.specs.Kept.{ARunCanBeUnfit, WhatIsAskedCanChange, idle_plan, no_group, private_plan}
use Rattle.network_examples.proofs.Asking.{live}
use Rattle.network_examples.proofs.Ready.{usual_sound}

quits : IsSameNet asking_world (step 7500 (At 1 (QuitAll session)) asking_world) → ⊥
quits same = let no : ◌≡◌ {A = ℕ} 0 1 = ap (λ (z : Locals). length z.wants) same.locals in absurd (omega arith)

pub what_is_asked_can_change : WhatIsAskedCanChange
what_is_asked_can_change = record {
  bounds = a_pair_says_a_reservation.bounds;
  rounds = λ k. calm_rounds 7500 k asking_world;
  sends = live;
  wants = inl refl;
  quits = quits;
}

idle : Visited (machine 7500) (AreBounds 7500) (steps_of_run idle_plan) (first_world idle_plan) → ⊥
idle v =
    let after : World = step 7500 (At 0 (SendAs session first (flow 0 0 0 0))) (first_world idle_plan) in
    let bounds : AreBounds 7500 after = v.1 in
    let sound = (bounds.facts 0 (unwrap_or (slice_get after.nodes 0) no_facts) refl).shapes.senders (session, first) (flow 0 0 0 0) refl in
    let no = sound.rate in
    absurd (omega arith)

private : Visited (machine 7500) (λ u. AreBounds 7500 u × AreHosts u) (steps_of_run private_plan) (first_world private_plan) → ⊥
private v =
    let after : World = step 7500 (At 0 (SendAs no_group first usual)) (first_world private_plan) in
    let kept : AreHosts after = v.1.1 in
    let no : false ≡ true = kept.groups 0 (unwrap_or (slice_get after.nodes 0) no_facts) (no_group, first) usual refl refl in
    cc

pub a_run_can_be_unfit : ARunCanBeUnfit
a_run_can_be_unfit = record {
  fit = record { plan = record { period = omega arith; net = valid; hosts = hosts; stale = λ n i lt j. absurd j }; events = (usual_sound, (tt, tt)) };
  idle = idle;
  fit_but_for_hosts = record { plan = record { period = omega arith; net = valid; hosts = hosts; stale = λ n i lt j. absurd j }; events = (usual_sound, tt) };
  private = private;
}
