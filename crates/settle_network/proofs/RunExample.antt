-- The run of a small script meets the premises.
use Rattle.std.proofs.Common.{◌≡◌, ℕ, ◌≤◌, List, [], ◌∷◌, Bool, true, false, cond, None, ⊎_elim, arith, refl, ap}
use Rattle.std.specs.Prelude.{◌++◌, slice_get, map as each}
use Rattle.std.specs.Ordering.{eq_by_cmp}
use Rattle.rsvp_base.specs.declared.style.StyleKind.{StyleKind}
use Rattle.rsvp_base.specs.declared.style.StyleKind.TheVariants.{Wild}
use Rattle.rsvp_base.specs.declared.style.Unit.TheVariants.{One}
use Rattle.rsvp_base.specs.Orders.{senders as by_sender, sessions}
use Rattle.rsvp_base.specs.Sets.{set_of}
use Rattle.rsvp_base.specs.Table.{size}
use Rattle.style_rules.specs.Limits.{IsWithinLimits}
use Rattle.style_rules.specs.Lines.{held}
use Rattle.router_rules.specs.Facts.{Facts, no_facts}
use Rattle.router_rules.specs.Inputs.{SendAs}
use Rattle.router_rules.specs.Rule.{facts_with}
use Rattle.router_examples.specs.ThreeRouters.{first, session, usual}
use Rattle.std.specs.Option.{unwrap_or}
use Rattle.tree_model.specs.declared.locals.LocalSender.{LocalSender}
use Rattle.tree_model.specs.Goals.{DemandsFit, demand_of}
use Rattle.network_model.specs.Bounds.{IsSettled, all_of}
use Rattle.network_model.specs.Events.{Reports, Rounds, all_steps}
use Rattle.network_model.specs.Links.{is_group}
use Rattle.network_model.specs.Locals.{locals_of, sender_at}
use Rattle.network_model.specs.Runs.{first_world, steps_of_run}
use Rattle.network_model.specs.Steps.{At, Report, Step}
use Rattle.network_model.specs.Worlds.{World}
use Rattle.laws_network.specs.Beginning.{left_key, left_resv}
use Rattle.laws_network.specs.Example.{pair_net}
use Rattle.laws_network.specs.Rounds.{rounds_of}
use Rattle.laws_network.specs.Runs.{AreFew, AreFitSenders, IsFitRun}
use Rattle.laws_network.proofs.Beginning.{a_plan_is_fit}
use Rattle.laws_network.proofs.Calming.{calm_rounds, rounds_is_calm}
use Rattle.settle_resvs.proofs.UnderTheGoal.{want_needs}
use Rattle.settle_network.specs.Settled.{HasSettled}
use Rattle.settle_network.specs.RunExample.{begun, run_plan, so_far, ARunMeetsThePremises}

fit_run : IsFitRun run_plan
fit_run = record {
  plan = record { period = a_plan_is_fit.fit.period; net = a_plan_is_fit.fit.net; hosts = a_plan_is_fit.fit.hosts; stale = a_plan_is_fit.fit.stale };
  events = (record { rate = omega arith; depth = omega arith; low = omega arith; most = omega arith }, (tt, (tt, tt)));
}

nobody : AreFew []
nobody = record { groups = λ l i. absurd i; few_senders = λ s. omega arith; few_sessions = omega arith }

few : (b : Bool) → size (set_of {o = by_sender} (each (λ (l : LocalSender). l.sender) (cond b (sender_at 0 (session, first) ∷ []) []))) ≤ 16
few true = omega arith
few false = omega arith

one : AreFew (sender_at 0 (session, first) ∷ [])
one = record {
  groups = λ l i. ⊎_elim (λ (same : l ≡ sender_at 0 (session, first)). ap (λ (z : LocalSender). is_group z.session.group) same) (λ (no : ⊥). absurd no) i;
  few_senders = λ s. few (eq_by_cmp sessions.cmp s session);
  few_sessions = omega arith;
}

senders : AreFitSenders run_plan
senders = (nobody, (one, (one, one)))

front_of : (n : ℕ) (w : World) → all_steps 7500 (Rounds n ∷ Reports None ∷ []) w ≡ all_of (rounds_of 7500 n w) ++ Report None ∷ []
front_of n w = ap (λ (z : List Step). z ++ Report None ∷ []) (rounds_is_calm 7500 n w).steps

front : steps_of_run run_plan ≡ so_far ++ Report None ∷ []
front = ap (λ (z : List Step). At 0 (SendAs session first usual) ∷ z) (front_of 32 begun)

settled : IsSettled 7500 (first_world run_plan) so_far
settled = record {
  before = At 0 (SendAs session first usual) ∷ [];
  rounds = rounds_of 7500 32 begun;
  parts = refl;
  calm = calm_rounds 7500 32 begun;
  enough = let n = (rounds_is_calm 7500 32 begun).number in omega arith;
}

-- nobody wants anything, so the demands fit
no_limits : (st : StyleKind) → IsWithinLimits st []
no_limits st = record { lines = omega arith; sessions = omega arith; next_hops = λ s. omega arith; names = λ s. omega arith }

fit : DemandsFit pair_net (locals_of begun)
unfolding facts_with
fit = record {
  capacity = λ e x is. let none : held (demand_of pair_net (locals_of begun) e) ≡ 0 = refl in omega arith;
  mtu = λ e x k p is got. absurd (cc);
  one_style = λ v w i j same. absurd i;
  limits = λ n st. no_limits st;
}

abbrev facts_0 : World → Facts
facts_0 u = unwrap_or (slice_get u.nodes 0) no_facts

-- the left-over reservation is not sound
not_yet : HasSettled 7500 begun → ⊥
unfolding facts_with
not_yet h =
    let s = (h.resvs_sound.facts Wild 0 (facts_0 begun) left_key left_resv refl refl).sound in
    (want_needs Wild pair_net (locals_of begun) session s.hop One s.wanted s.is).there

pub a_run_meets_the_premises : ARunMeetsThePremises
a_run_meets_the_premises = record { fit_run = fit_run; senders = senders; front = front; settled = settled; fit = fit; not_yet = not_yet }
