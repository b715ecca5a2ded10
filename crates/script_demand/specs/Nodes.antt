-- The node that a line declares.
use Rattle.std.specs.Prelude.{ℕ, List, [], ◌∷◌, Option, None, Some}
use Rattle.script_grammar.specs.declared.line.ScriptLine.{ScriptLine}
use Rattle.script_grammar.specs.declared.line.ScriptLine.TheVariants.{Node}

-- its name, if the line says one
abbrev pub node_of_line : ScriptLine → List (List ℕ)
node_of_line (Node name) = name ∷ []
node_of_line _ = []

abbrev pub node_said : Option ScriptLine → List (List ℕ)
node_said None = []
node_said (Some said) = node_of_line said
