use Rattle.network_model.proofs.Changing.{where_a_send_goes}
use Rattle.network_model.proofs.laws.where_a_send_goes.Goals as goal

pub returns : goal.returns
returns c net a dst = where_a_send_goes net a dst
