use Rattle.std.proofs.Common.{sym}
use Rattle.script_words.proofs.PartLemmas.{parts_found, parts_none}
use Rattle.value_texts.proofs.place.first_part.Goals as goal

pub returns-clause-parts : goal.returns-clause-parts
returns-clause-parts c = parts_found 32 c.args.text.now _ _ c.in_ok-at.at (sym c.in_ok-at.ensures) c.split_at.ensures.front c.split_at.ensures.back

pub returns-in_err-at-clause-parts : goal.returns-in_err-at-clause-parts
returns-in_err-at-clause-parts c = rw c.from_residual.ensures (parts_none 32 c.args.text.now (sym c.in_err-at.ensures))
