use Rattle.std.proofs.Common.{◌≡◌, take}
use Rattle.std.specs.List.{All}
use Rattle.network_demand.proofs.fits.is_of_one_style.Given as goal

-- those so far have it
abbrev pub invariant-loop-want : goal.invariant-loop-want
invariant-loop-want l = All (λ w. w.session ≡ l.session → w.style ≡ l.first) (take l.want-index l.wants)
