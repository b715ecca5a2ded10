-- In a run, a report at a settled moment shows of each session that fits exactly what is demanded of it.
use Rattle.std.proofs.Common.{ℕ, ◌∷◌, List, arith}
use Rattle.std.specs.Prelude.{◌++◌}
use Rattle.network_model.specs.Bounds.{IsPurged, IsSettled, to_settle}
use Rattle.network_model.specs.Runs.{first_world}
use Rattle.network_model.specs.Steps.{Report, Step}
use Rattle.network_model.specs.Worlds.{World}
use Rattle.settle_network.specs.Sessions.{HaveTheSameOf}
use Rattle.settle_network.proofs.RunsSettle.{a_session_of_a_run_settles}
use Rattle.script_theorem.specs.Sessions.{ASettledReportShowsEachSession}
use Rattle.script_theorem.proofs.Demands.{session_fits_at_first}
use Rattle.script_theorem.proofs.Purged.{at_most, of_kept}
use Rattle.script_theorem.proofs.Writing.{a_moment_stays_calm}

-- a settled moment is a purged one
purged_too : (q : ℕ) (w : World) (ss : List Step) → IsSettled q w ss → IsPurged q w ss
purged_too q w ss is = record { before = is.before; rounds = is.rounds; parts = is.parts; calm = is.calm; enough = let enough = is.enough in omega (arith, enough) }

pub a_settled_report_shows_each_session : ASettledReportShowsEachSession
a_settled_report_shows_each_session p fit senders uncrowded_run ss still e ts parts is writes =
    let q : ℕ = p.quarter in
    let settled : IsSettled q (first_world p) (ss ++ still) = a_moment_stays_calm to_settle (λ long. omega arith) q (first_world p) ss still writes is in
    record {
      at_most = at_most p fit uncrowded_run ss still e ts parts (purged_too q (first_world p) ss is) writes;
      exact = λ s fits.
          of_kept p fit uncrowded_run ss still e ts parts (HaveTheSameOf s)
          (a_session_of_a_run_settles p fit senders (ss ++ still) (Report e ∷ ts) parts settled s (session_fits_at_first p fit (ss ++ still) (Report e ∷ ts) parts settled s fits)).entries;
    }
