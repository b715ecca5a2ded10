use Rattle.std.specs.Prelude.{◌≡◌, slice_get, Some}
use Rattle.std.specs.Option.{option_map}
use Rattle.std.proofs.Common.{sym, ap, ◌∙◌, arith}
use Rattle.rsvp_messages.specs.Units.{asked_units}
use Rattle.resv_admission.specs.Units.{asked_unit}
use Rattle.resv_admission.proofs.Order.{one_longer}
use Rattle.resv_admission.proofs.Steps.{refused_more}
use Rattle.resv_admission.proofs.units.refuse_units.Goals as goal

pub loop-k-preserved : goal.loop-k-preserved
loop-k-preserved c =
    let us = asked_units c.args.ask.now in
    let w = c.in-Some.wanted in
    let got : slice_get us c.loop-k.k ≡ Some (asked_unit w) = sym c.unit_at.ensures ∙ ap (option_map asked_unit) c.in-Some.is in
    record {
      errors = λ p o. refused_more p o c.args.code c.args.value us c.loop-k.k (asked_unit w) got c.loop-k.done.errors c.push.new.self c.push.ensures (c.loop-k.invariant.errors p o);
      left_out = c.loop-k.invariant.left_out;
      parts = c.loop-k.invariant.parts;
      few = omega (arith, one_longer c.loop-k.done.errors c.push.new.self _ c.push.ensures, c.loop-k.invariant.few);
    }
