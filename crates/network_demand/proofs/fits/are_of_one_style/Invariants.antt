use Rattle.std.proofs.Common.{take}
use Rattle.std.specs.List.{All}
use Rattle.network_demand.specs.Fits.{IsOfOneStyle}
use Rattle.network_demand.proofs.fits.are_of_one_style.Given as goal

-- those so far are
abbrev pub invariant-loop-session : goal.invariant-loop-session
invariant-loop-session l = All (IsOfOneStyle l.wants) (take l.session-index l.sessions)
