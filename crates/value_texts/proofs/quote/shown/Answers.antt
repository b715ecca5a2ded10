use Rattle.std.proofs.Common.{sym}
use Rattle.std.proofs.lemmas.List.{take_all}
use Rattle.value_texts.proofs.quote.shown.Goals as goal

-- a short word is shown whole
pub returns-then-word-le-MOST_SHOWN : goal.returns-then-word-le-MOST_SHOWN
returns-then-word-le-MOST_SHOWN c = sym (take_all 40 c.args.word.now c.if-word-le-MOST_SHOWN.true)
