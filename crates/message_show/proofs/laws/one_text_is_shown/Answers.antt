use Rattle.message_show.proofs.Shown.{one_text_law}
use Rattle.message_show.proofs.laws.one_text_is_shown.Goals as goal

pub returns : goal.returns
returns c = one_text_law c.a_message_is_one.ensures c.no_fault_where_spelt.ensures c.the_first_fault_is_one.ensures
