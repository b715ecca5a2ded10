use Rattle.std.proofs.Common.{◌≡◌, take}
use Rattle.rsvp_base.specs.Orders.{units}
use Rattle.rsvp_base.specs.SessionLimits.{IsWithinSessionLimits}
use Rattle.rsvp_base.specs.declared.style.Unit.TheVariants.{Of}
use Rattle.router_arrivals.specs.Asked.{fixed_want}
use Rattle.router_arrivals.proofs.Putting.{put_all}
use Rattle.router_arrivals.proofs.names.put_each.Given as goal

abbrev pub invariant-loop-name : goal.invariant-loop-name
invariant-loop-name l = record {
  put : l.wants ≡ put_all units l.session Of (fixed_want l.flow l.confirm) l.initial.wants (take l.name-index l.list);
  within : IsWithinSessionLimits units l.wants;
}
