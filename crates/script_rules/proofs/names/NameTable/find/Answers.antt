use Rattle.std.proofs.Common.{sym, ap, ◌∙◌}
use Rattle.std.specs.Str.{bytes_eq}
use Rattle.script_grammar.specs.Draft.{place_of}
use Rattle.script_rules.proofs.Positions.{position-map}
use Rattle.script_rules.proofs.names.NameTable.find.Goals as goal

pub returns-clause-number : goal.returns-clause-number
returns-clause-number c =
    c.get_index_of.ensures.index ∙ sym (position-map (bytes_eq c.args.name.now) (λ v. v.items) c.self.inside.names.keys)
    ∙ ap (λ names. place_of names c.args.name.now) c.self.view_is
