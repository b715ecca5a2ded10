-- A start in which an error is in flight meets the premises; and small networks in which something goes round, by computing.
use Rattle.std.proofs.Common.{◌≡◌, [], ◌∷◌, Bool, true, false, cond, inl, inr, ⊎_elim, arith, sym, refl, ◌∙◌}
use Rattle.std.specs.Prelude.{map as each}
use Rattle.std.specs.Ordering.{eq_by_cmp}
use Rattle.rsvp_base.specs.declared.session.Sender.{Sender}
use Rattle.rsvp_base.specs.declared.session.Session.{Session}
use Rattle.rsvp_base.specs.declared.style.StyleKind.TheVariants.{Shared, Wild}
use Rattle.rsvp_base.specs.Members.{In}
use Rattle.rsvp_base.specs.Orders.{sessions}
use Rattle.router_rules.specs.Inputs.{SendAs}
use Rattle.router_rules.specs.Rule.{facts_with}
use Rattle.tree_model.specs.declared.locals.LocalSender.{LocalSender}
use Rattle.tree_model.specs.Goals.{DemandsFit}
use Rattle.tree_model.specs.Ranks.{longest}
use Rattle.tree_model.specs.Wants.{live}
use Rattle.network_model.specs.Bounds.{AreBounds, AreHosts}
use Rattle.network_model.specs.Events.{AtNode, Injects}
use Rattle.network_model.specs.Locals.{locals_of, sender_at}
use Rattle.network_model.specs.Runs.{Plan, first_world}
use Rattle.network_model.specs.Steps.{At, Inject}
use Rattle.network_model.specs.ThreeRouters.{first, r1, session, usual}
use Rattle.laws_network.specs.Beginning.{left_plan}
use Rattle.laws_network.specs.Runs.{AreFitSenders, IsFitRun}
use Rattle.laws_network.proofs.Calming.{calm_rounds}
use Rattle.laws_network.proofs.Hosts.{each_world_of_a_run_keeps_the_locals}
use Rattle.settle_network.proofs.RunExample.{a_run_meets_the_premises}
use Rattle.settle_network.proofs.RunsSettle.{visited_at}
use Rattle.settle_refreshes.specs.Refreshes.{HasOneSender}
use Rattle.settle_refreshes.specs.Worked.{AConfirmationGoesRound, AnErrorGoesRound, AnErrorIsInFlight, across, both_ways, error_for_all, says_it, wrong_world}

-- ---- the pair, when the error comes
abbrev wrong_plan : Plan
wrong_plan = record left_plan { events = AtNode 0 (SendAs session first usual) ∷ Injects 1 r1 says_it ∷ [] }

fit_run : IsFitRun wrong_plan
fit_run =
    let of = a_run_meets_the_premises.fit_run.plan in
    record {
      plan = record { period = of.period; net = of.net; hosts = of.hosts; stale = of.stale };
      events = (a_run_meets_the_premises.fit_run.events.0, ((omega arith, tt), tt));
    }

senders : AreFitSenders wrong_plan
senders = (a_run_meets_the_premises.senders.0, (a_run_meets_the_premises.senders.1.0, a_run_meets_the_premises.senders.1.1.0))

kept : AreBounds 7500 wrong_world × AreHosts wrong_world
kept =
    visited_at 7500 (λ u. AreBounds 7500 u × AreHosts u) (At 0 (SendAs session first usual) ∷ Inject 1 r1 says_it ∷ []) [] (first_world wrong_plan)
    (each_world_of_a_run_keeps_the_locals wrong_plan fit_run senders)

fit : DemandsFit wrong_world.net (locals_of wrong_world)
unfolding facts_with
fit = a_run_meets_the_premises.fit

-- whatever the session, nobody sends in it, or the first sender alone
one_of : (b : Bool) (x : Sender) → In x (each (λ (l : LocalSender). l.sender) (cond b (sender_at 0 (session, first) ∷ []) [])) → x ≡ first
one_of true x i = ⊎_elim (λ (e : x ≡ first). e) (λ (n : ⊥). absurd n) i
one_of false x i = absurd i

only_first : (s : Session) (x : Sender) → In x (live (locals_of wrong_world) s) → x ≡ first
unfolding facts_with
only_first s x i = one_of (eq_by_cmp sessions.cmp s session) x i

one_sender : (s : Session) → HasOneSender wrong_world s
one_sender s x y i j = only_first s x i ∙ sym (only_first s y j)

pub an_error_is_in_flight : AnErrorIsInFlight
unfolding facts_with
an_error_is_in_flight = record {
  start = record { bounds = kept.0; locals = kept.1; fit = fit };
  rounds = λ n. calm_rounds 7500 n wrong_world;
  none = record { errors = λ s. inl (one_sender s); confirmations = inl one_sender };
  flies = (record { end = 1; dst = r1; arrival = says_it; born = 1 }, inr (inl refl), (error_for_all, refl, refl, (refl, λ wild. let no : Shared ≡ Wild = wild in cc)));
}

-- ---- what goes round
long_pair : longest (both_ways []).net ≡ 1
long_pair = refl

long_across : longest (across []).net ≡ 2
long_across = refl

pub an_error_goes_round : AnErrorGoesRound
an_error_goes_round = record { long = long_pair; text = refl }

pub a_confirmation_goes_round : AConfirmationGoesRound
a_confirmation_goes_round = record { long = long_across; text = refl }
