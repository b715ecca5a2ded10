-- Confirmations in a small network, by computing.
use Rattle.std.proofs.Common.{◌≡◌, inl, ⊎_elim, arith, refl}
use Rattle.calm_rounds.specs.Machine.{Happens}
use Rattle.network_model.specs.Runs.{first_world, steps_of_run}
use Rattle.network_model.specs.Steps.{Deliver, Inject, machine}
use Rattle.router_rules.specs.Inputs.{Spelt}
use Rattle.router_examples.specs.ThreeRouters.{r1}
use Rattle.rsvp_messages.specs.declared.message.Message.TheVariants as message
use Rattle.laws_network.proofs.Example.{hosts, valid}
use Rattle.laws_safety.specs.Confirmations.{Begins}
use Rattle.network_examples.specs.Confirmed.{AConfirmationComesLate, AConfirmationIsGiven, AnInjectedOneBeginsNowhere, ConfirmationsInAPair, injected_plan, usual_conf}
use Rattle.network_examples.proofs.Ready.{usual_sound}

given : AConfirmationIsGiven
given = record {
  fit = record {
    plan = record { period = omega arith; net = valid; hosts = hosts; stale = λ n i lt j. absurd j };
    events = (usual_sound, (tt, ((tt, usual_sound), (tt, tt))));
  };
  parts = refl;
  sends = inl refl;
  flies = inl refl;
  not_yet = refl;
}

nowhere : Happens (machine 7500) (λ s w. Begins 7500 s w usual_conf) (steps_of_run injected_plan) (first_world injected_plan) → ⊥
nowhere h =
    ⊎_elim (λ (b : Begins 7500 (Inject 1 r1 (Spelt (message.ResvConf usual_conf))) (first_world injected_plan) usual_conf).
    let no : Inject 1 r1 (Spelt (message.ResvConf usual_conf)) ≡ Deliver b.at.place = b.at.step_is in cc) (λ (no : ⊥). no) h

injected : AnInjectedOneBeginsNowhere
injected = record {
  fit = record {
    plan = record { period = omega arith; net = valid; hosts = hosts; stale = λ n i lt j. absurd j };
    events = ((omega arith, (record { scope_is = tt; flow_is = usual_sound }, refl)), tt);
  };
  flies = inl refl;
  nowhere = nowhere;
}

late : AConfirmationComesLate
late = record {
  fit = record {
    plan = record { period = omega arith; net = valid; hosts = hosts; stale = λ n i lt j. absurd j };
    events = (usual_sound, (tt, ((tt, usual_sound), (tt, (tt, (tt, tt))))));
  };
  flies = inl refl;
  gone = refl;
}

pub confirmations_in_a_pair : ConfirmationsInAPair
confirmations_in_a_pair = record { given = given; injected = injected; late = late }
