use Rattle.std.proofs.Common.{◌≡◌, ◌∙◌, ℕ, List, true, false, ap, inl, arith}
use Rattle.network_demand.specs.Fits.{room_at}
use Rattle.network_demand.proofs.Rooms.{room_full}
use Rattle.network_demand.proofs.fits.find_room.Goals as goal

pub returns-then-not-take_all-clause-less : goal.returns-then-not-take_all-clause-less
returns-then-not-take_all-clause-less c =
    let off : c.take_all.result ≡ false = grind (arith, c.if-not-take_all.true) in
    let x = c.take_all.ensures.less off in
    let first = ap (λ (xs : List ℕ). room_at 64 xs x.0) c.in_ok-next_hops.ensures ∙ room_full 64 c.nodes.result x.0 in
    let lt = x.1 64 in
    λ e before. (x.0, inl (omega (arith, first, lt)))

pub returns-clause-next_hops : goal.returns-clause-next_hops
returns-clause-next_hops c =
    let on : c.take_all.result ≡ true = grind (arith, c.if-not-take_all.false) in
    λ t n.
    let first = ap (λ (xs : List ℕ). room_at 64 xs n) c.in_ok-next_hops.ensures ∙ room_full 64 c.nodes.result n in
    let left = c.take_all.ensures.room on 64 n in
    omega (arith, first, left)
