use Rattle.std.proofs.Common.{◌≡◌, drop}
use Rattle.std.specs.Prelude.{slice_get}
use Rattle.std.specs.List.{flat_map}
use Rattle.rsvp_base.specs.Table.{keys}
use Rattle.router_core.specs.Adverts.{session_adverts}
use Rattle.router_core.proofs.adverts.advert_among.Given as goal

abbrev pub invariant-loop-i : goal.invariant-loop-i
invariant-loop-i l =
    slice_get (flat_map (session_adverts l.iface l.paths.facts) (drop l.i (keys l.due))) l.before ≡ slice_get (flat_map (session_adverts l.iface l.paths.facts) (keys l.due)) l.k
