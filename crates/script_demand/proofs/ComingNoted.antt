-- How the findings of a script end: at a bad line, and over known input.
use Rattle.std.proofs.Common.{◌≡◌, ◌∙◌, ℕ, Bool, List, ◌++◌, Option, None, Some, append-nil, ap, subst, sym, refl}
use Rattle.std.specs.Io.KnownBytes.{IsAtEnd}
use Rattle.network_demand.specs.declared.late.Begun.{Begun}
use Rattle.script_run.specs.Lines.{all_bytes}
use Rattle.script_grammar.proofs.Scripts.{script_or_bad}
use Rattle.script_grammar.specs.Draft.{Draft, nothing, plan_of, routing}
use Rattle.script_grammar.specs.Grammar.{IsBadLine, Leads}
use Rattle.script_grammar.specs.declared.fault.Fault.{Fault}
use Rattle.script_words.specs.Lines.{text_lines}
use Rattle.script_demand.specs.Begun.{begun_by}
use Rattle.script_demand.specs.Findings.{IsFindingsOf, IsSaidOf, IsSaying}

-- what is said of the lines, from the names of their nodes and from who asks
pub said_of : (bytes text : List ℕ) (said : Bool) (d : Draft) (nodes : List (List ℕ)) (begun : List Begun) → Leads nothing (text_lines bytes) d → nodes ≡ d.nodes → begun ≡ begun_by d.events
    → IsSaying nodes d.names (routing d) d.locals begun said text → IsSaidOf said bytes text
said_of bytes text said d nodes begun leads named asked says =
    let all : IsSaying d.nodes d.names (routing d) d.locals (begun_by d.events) said text = subst (λ (z : List (List ℕ) × List Begun). IsSaying z.0 d.names (routing d) d.locals z.1 said text) (λ i. (named i, asked i)) says in
    record { found = record { lines = d; leads = leads; says = all.says }; noted = all.noted }

-- what has findings has no bad line
pub found_or_bad : (bytes text : List ℕ) (number : ℕ) (why : Fault) → IsFindingsOf bytes text → IsBadLine bytes number why → ⊥
found_or_bad bytes text number why f bad = script_or_bad bytes (plan_of f.lines) number why (record { lines = f.lines; leads = f.leads; says = refl }) bad

-- what was taken to the end is all
pub all_at_end : (new : Option (List ℕ)) (xs : List ℕ) → IsAtEnd new → xs ≡ all_bytes xs new
all_at_end None xs end = refl
all_at_end (Some ys) xs end = sym (append-nil xs) ∙ ap (λ zs. xs ++ zs) (sym end)
