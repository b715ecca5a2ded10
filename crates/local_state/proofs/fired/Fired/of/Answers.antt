use Rattle.std.proofs.Common.{refl}
use Rattle.rsvp_base.specs.Table.{same_rows}
use Rattle.local_state.proofs.fired.Fired.of.Goals as goal

pub returns : goal.returns
returns c = λ up. same_rows _ _ refl
