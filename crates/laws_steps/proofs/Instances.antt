-- The facts and inputs that meet the premises of the laws on reservations and errors hold by computing.
use Rattle.std.specs.Prelude.{◌≡◌, true, false, [], ◌∷◌, Some, refl}
use Rattle.std.proofs.Common.{arith, inl, sym, subst, ⊎_elim}
use Rattle.rsvp_base.specs.declared.session.Sender.{Sender}
use Rattle.rsvp_base.specs.declared.style.StyleKind.TheVariants.{Wild}
use Rattle.rsvp_base.specs.Orders.{senders}
use Rattle.rsvp_base.specs.Sets.{set_of}
use Rattle.rsvp_base.specs.Table.{has}
use Rattle.rsvp_base.proofs.Counts.{set_of_in}
use Rattle.laws_bounds.specs.RouterRules.Asking.{stays}
use Rattle.laws_bounds.specs.RouterRules.Inputs.{Wait}
use Rattle.router_examples.specs.ThreeRouters.{s1, scope, session}
use Rattle.laws_steps.specs.Examples.{of_t, one_resv, r, reserved}
use Rattle.laws_steps.specs.ReservationExamples.{BlameLawsHaveExamples, ReservationLawsHaveExamples, spared_in}
use Rattle.laws_steps.specs.ReservationLaws.{IsKnownThen, Touches}
use Rattle.laws_steps.proofs.Exemplary.{frame_laws_have_examples, path_laws_have_examples}
use Rattle.laws_bounds.specs.RouterRules.Steps.{node_step}

-- the one name of the SCOPE is known
scope_known : (x : Sender) → has scope x ≡ true → IsKnownThen (node_step r r 15000 15000 (Wait 15000 0) one_resv) Wild session x
scope_known x h =
    ⊎_elim (λ (is : x ≡ record { addr = s1; port = 0 }). subst (λ z. IsKnownThen (node_step r r 15000 15000 (Wait 15000 0) one_resv) Wild session z) (sym is) refl) (λ (n : ⊥). absurd n)
    (set_of_in senders ((record { addr = s1; port = 0 }) ∷ []) x h)

-- a ResvTear of another sender takes no name of it
takes_none : Touches spared_in Wild of_t reserved → ⊥
takes_none t =
    ⊎_elim
    (λ (is : t.1.name ≡ record { addr = s1; port = 0 }).
    let bad : true ≡ false = subst (λ (z : Sender). stays (Some (set_of ((record { addr = s1; port = 1 }) ∷ []))) z ≡ false) is t.1.goes in
    absurd (cc))
    (λ (n : ⊥). absurd n) (set_of_in senders ((record { addr = s1; port = 0 }) ∷ []) t.1.name t.1.was)

pub reservation_laws_have_examples : ReservationLawsHaveExamples
reservation_laws_have_examples =
    record {
      within = path_laws_have_examples.within_one;
      asked = refl;
      within_one = frame_laws_have_examples.within;
      there = refl;
      later = omega arith;
      untouched = λ n. n;
      known_then = scope_known;
      stays = refl;
      untouched_too = takes_none;
      stays_too = refl;
      touched = ((refl, refl, refl, refl), record { name = record { addr = s1; port = 0 }; was = refl; goes = refl });
      resv_sent = inl refl;
      tear_sent = inl refl;
    }

pub blame_laws_have_examples : BlameLawsHaveExamples
blame_laws_have_examples = record { within = frame_laws_have_examples.within; refused = inl refl; passed_on = inl refl; unit = refl; under_it = refl }
