-- What holds of no lines, and is kept by each line, holds of the lines of a script.
use Rattle.std.proofs.Common.{ℕ, List, [], ◌∷◌, sym, subst}
use Rattle.script_grammar.specs.Draft.{Draft}
use Rattle.script_grammar.specs.Grammar.{Follows, Leads}

pub led : (P : Draft → Type 0) → ((d : Draft) (text : List ℕ) (new : Draft) → P d → Follows d text new → P new) → (texts : List (List ℕ)) (d new : Draft) → P d → Leads d texts new → P new
led P each [] d new h l = subst P (sym l) h
led P each (text ∷ texts) d new h l = led P each texts l.0 new (each d text l.0 h l.1) l.2
