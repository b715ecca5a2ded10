-- A request for a confirmation that nobody answers, by computing.
use Rattle.std.proofs.Common.{◌≡◌, ◌≤◌, ℕ, List, [], ◌∷◌, Bool, true, false, cond, ⊎_elim, arith, refl, sym, ap, subst}
use Rattle.std.specs.Prelude.{◌*◌, ◌++◌, map as each}
use Rattle.std.specs.Ordering.{eq_by_cmp}
use Rattle.std.proofs.lemmas.List.{append-nil}
use Rattle.rsvp_base.specs.Orders.{senders as by_sender, sessions}
use Rattle.rsvp_base.specs.Sets.{set_of}
use Rattle.rsvp_base.specs.Table.{size}
use Rattle.calm_rounds.specs.Machine.{Happens, run}
use Rattle.router_rules.specs.Rule.{facts_with}
use Rattle.router_examples.specs.ThreeRouters.{first, session}
use Rattle.tree_model.specs.declared.locals.LocalSender.{LocalSender}
use Rattle.tree_model.specs.Goals.{DemandsFit}
use Rattle.tree_model.specs.Networks.{Net}
use Rattle.tree_model.specs.Ranks.{longest}
use Rattle.tree_model.specs.Wants.{Locals}
use Rattle.network_model.specs.Bounds.{IsSettled}
use Rattle.network_model.specs.Events.{Pass, Rounds, all_steps, passes, rounds}
use Rattle.network_model.specs.Links.{is_group}
use Rattle.network_model.specs.Locals.{locals_of, sender_at}
use Rattle.network_model.specs.Runs.{first_world, steps_of_run}
use Rattle.network_model.specs.Steps.{Step, machine, step}
use Rattle.network_model.specs.Worlds.{World}
use Rattle.laws_network.specs.Example.{pair_net}
use Rattle.laws_network.specs.Rounds.{rounds_of}
use Rattle.laws_network.specs.Runs.{AreFew, AreFitSenders, IsFitRun}
use Rattle.laws_network.proofs.Calming.{calm_rounds, rounds_is_calm}
use Rattle.laws_network.proofs.Example.{hosts, valid}
use Rattle.network_examples.specs.Unanswered.{ARequestIsNotAnswered, Hears, again, asked_behind, asking_again, asks, begun, begun_steps, wants_usual}
use Rattle.network_examples.proofs.Asking.{asks as asked_locals, fit as asked_fit}
use Rattle.network_examples.proofs.Ready.{usual_sound}

fit_run : IsFitRun asking_again
fit_run = record {
  plan = record { period = omega arith; net = valid; hosts = hosts; stale = λ n i lt j. absurd j };
  events = (usual_sound, ((tt, usual_sound), (tt, ((tt, usual_sound), (tt, tt)))));
}

-- ---- one host sends
nobody : AreFew []
nobody = record { groups = λ l i. absurd i; few_senders = λ s. omega arith; few_sessions = omega arith }

few : (b : Bool) → size (set_of {o = by_sender} (each (λ (l : LocalSender). l.sender) (cond b (sender_at 0 (session, first) ∷ []) []))) ≤ 16
few true = omega arith
few false = omega arith

one : AreFew (sender_at 0 (session, first) ∷ [])
one = record {
  groups = λ l i. ⊎_elim (λ (same : l ≡ sender_at 0 (session, first)). ap (λ (z : LocalSender). is_group z.session.group) same) (λ (none : ⊥). absurd none) i;
  few_senders = λ s. few (eq_by_cmp sessions.cmp s session);
  few_sessions = omega arith;
}

senders : AreFitSenders asking_again
senders = (nobody, (one, (one, (one, (one, one)))))

-- ---- the steps
abbrev so_far : List Step
so_far = begun_steps ++ rounds 7500 32 begun

front : (n : ℕ) (w : World) → all_steps 7500 (Rounds n ∷ wants_usual true ∷ Pass 2 ∷ []) w
    ≡ rounds 7500 n w ++ asks again ∷ passes 7500 2 (step 7500 (asks again) (run (machine 7500) (rounds 7500 n w) w))
front n w = ap (λ (z : List Step). rounds 7500 n w ++ asks again ∷ z) (append-nil (passes 7500 2 (step 7500 (asks again) (run (machine 7500) (rounds 7500 n w) w))))

steps : steps_of_run asking_again ≡ so_far ++ asks again ∷ passes 7500 2 (asked_behind asking_again so_far again)
steps = ap (λ (z : List Step). begun_steps ++ z) (front 32 begun)

settled : IsSettled 7500 (first_world asking_again) so_far
settled = record {
  before = begun_steps;
  rounds = rounds_of 7500 32 begun;
  parts = ap (λ (z : List Step). begun_steps ++ z) (rounds_is_calm 7500 32 begun).steps;
  calm = calm_rounds 7500 32 begun;
  enough = let n = (rounds_is_calm 7500 32 begun).number in omega arith;
}

-- ---- the world in which it was asked for
abbrev u : World
u = asked_behind asking_again so_far again

net : u.net ≡ pair_net
unfolding facts_with
net = refl

locals : locals_of u ≡ asked_locals
unfolding facts_with
locals = refl

fit : DemandsFit u.net (locals_of u)
fit = subst (λ (z : Net × Locals). DemandsFit z.0 z.1) (λ j. (sym net j, sym locals j)) asked_fit

enough : 2 * longest u.net ≤ 2
enough = subst (λ (z : Net). 2 * longest z ≤ 2) (sym net) (omega arith)

quiet : passes 7500 2 u ≡ []
unfolding facts_with
quiet = refl

silent : (run (machine 7500) (steps_of_run asking_again) (first_world asking_again)).flight ≡ []
unfolding facts_with
silent = refl

pub a_request_is_not_answered : ARequestIsNotAnswered
a_request_is_not_answered = record {
  silent = silent;
  wrong = λ claim. subst (λ (z : List Step). Happens (machine 7500) (Hears 7500 1 session) z u) quiet (claim asking_again fit_run senders so_far again 2 steps settled fit enough);
}
