use Rattle.message_codec.proofs.Whole.{behind_style_stands_the_list}
use Rattle.message_codec.proofs.laws.behind_style_stands_the_list.Goals as goal

pub returns : goal.returns
returns c = behind_style_stands_the_list
