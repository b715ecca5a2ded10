use Rattle.style_rules.proofs.TallyRoom.{merger_has_room}
use Rattle.style_rules.proofs.laws.a_merger_has_room.Goals as goal

pub returns : goal.returns
returns g c = merger_has_room g.S.Style.kind_is
