use Rattle.script_words.specs.Lines.{text_lines}
use Rattle.message_show.proofs.Shown.{all_right}
use Rattle.message_show.proofs.laws.shown_is_right.Goals as goal

pub returns : goal.returns
returns c = λ input text shown. all_right (text_lines input) text shown
