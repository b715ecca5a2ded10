use Rattle.std.proofs.Common.{◌≡◌, ◌+◌, length}
use Rattle.std.specs.Prelude.{slice_get}
use Rattle.std.specs.List.{filter_map}
use Rattle.router_core.specs.Adverts.{fact_advert, session_adverts}
use Rattle.router_core.proofs.adverts.advert_in.Given as goal

abbrev pub invariant-loop-fact : goal.invariant-loop-fact
invariant-loop-fact l =
    record {
      at : slice_get (filter_map (fact_advert l.iface) l.fact-iterator) l.before ≡ slice_get (session_adverts l.iface l.paths.facts l.fn.session) l.k;
      count : l.k + length (filter_map (fact_advert l.iface) l.fact-iterator) ≡ length (session_adverts l.iface l.paths.facts l.fn.session) + l.before;
    }
