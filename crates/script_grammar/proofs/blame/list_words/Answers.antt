use Rattle.script_grammar.proofs.FewWords.{words_few}
use Rattle.script_grammar.proofs.blame.list_words.Goals as goal

pub returns : goal.returns
returns c = c.few_words-all.ensures.words (c.few_words-all.ensures.few.1 (words_few c.args.line.now c.requires.short))
