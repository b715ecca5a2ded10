use Rattle.network_replay.proofs.Tellings.{kind_found, kind_none}
use Rattle.network_replay.proofs.telling.kind_of.Goals as goal

pub returns-in-Ok : goal.returns-in-Ok
returns-in-Ok c = λ a is. kind_found c.args.bytes.now c.decode.result c.decode.ensures.only c.decode.ensures.first c.in-Ok.message c.kind.result c.in-Ok.is c.kind.ensures a is

pub returns-in-Err : goal.returns-in-Err
returns-in-Err c = λ a is. kind_none c.args.bytes.now c.decode.result c.decode.ensures.only c.decode.ensures.first c.in-Err.field-0 c.in-Err.is a is
