use Rattle.std.proofs.Common.{map, sym, take, ap, ◌∙◌}
use Rattle.std.proofs.lemmas.List.{take-map}
use Rattle.script_rules.proofs.names.NameTable.keep_first.Goals as goal

pub returns : goal.returns
returns c =
    ap (map (λ k. k.items)) c.truncate.ensures.keys ∙ sym (take-map (λ k. k.items) c.args.count c.self.inside.names.keys) ∙ ap (take c.args.count) c.self.view_is
