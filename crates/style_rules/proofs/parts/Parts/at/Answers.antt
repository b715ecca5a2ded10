use Rattle.std.proofs.Common.{Some, sym, ap, ◌∙◌}
use Rattle.std.specs.Option.{option_map}
use Rattle.std.proofs.lemmas.Option.{slice_get-map}
use Rattle.style_rules.proofs.parts.Parts.at.Goals as goal

pub returns : goal.returns
returns c = ap Some c.copy.ensures ∙ ap (option_map (λ row. row.1)) c.in_ok-part.ensures ∙ sym (slice_get-map (λ row. row.1) c.args.self.now.rows c.args.k)
