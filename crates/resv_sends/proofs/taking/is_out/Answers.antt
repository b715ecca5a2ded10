use Rattle.std.proofs.Common.{◌≤◌, ◌∙◌, arith}
use Rattle.resv_state.proofs.Merged.{not_below, no_bit}
use Rattle.resv_sends.proofs.taking.is_out.Goals as goal

pub returns-else-iface-lt16 : goal.returns-else-iface-lt16
returns-else-iface-lt16 c =
    let far : 16 ≤ c.args.iface = omega (arith, c.if-iface-lt16.false) in
    not_below c.args.iface 16 far ∙ no_bit c.args.outward c.args.iface c.ranges.outward.fits far
