use Rattle.std.proofs.Common.{◌≡◌, drop}
use Rattle.network_demand.specs.Fits.{first_style}
use Rattle.network_demand.proofs.fits.first_style.Given as goal

-- it is the first of the rest
abbrev pub invariant-loop-want : goal.invariant-loop-want
invariant-loop-want l = first_style l.session l.style (drop l.want-index l.wants) ≡ first_style l.session l.style l.wants
