-- What a run comes to, in the words of the grammar.
use Rattle.std.proofs.Common.{◌≡◌, ℕ, List, false, refl, sym, ap, ◌∙◌}
use Rattle.script_grammar.specs.Runs.{Plan, is_crowded_run, run_text}
use Rattle.script_grammar.specs.Draft.{plan_of}
use Rattle.script_grammar.specs.Grammar.{IsBadLine, IsScript}
use Rattle.script_grammar.specs.declared.fault.Fault.{Fault}
use Rattle.script_run.specs.Endings.{ComesTo}
use Rattle.script_run.specs.Laws.{IsRunOfScript}
use Rattle.script_run.specs.declared.ending.Ending.TheVariants.{Done, BadLine}

pub a_script_is_run : (bytes : List ℕ) (p : Plan) → IsScript bytes p → is_crowded_run p ≡ false → ComesTo Done bytes (run_text p)
a_script_is_run bytes p s roomy = record {
  draft = s.lines;
  leads = s.leads;
  run = record { roomy = ap is_crowded_run (sym s.says) ∙ roomy; text_is = ap run_text s.says };
}

pub only_scripts_are_done : (bytes text : List ℕ) → ComesTo Done bytes text → IsRunOfScript bytes text
only_scripts_are_done bytes text h = record {
  plan = plan_of h.draft;
  script = record { lines = h.draft; leads = h.leads; says = refl };
  roomy = h.run.roomy;
  text_is = h.run.text_is;
}

pub a_bad_line_is_first : (bytes text : List ℕ) (number : ℕ) (why : Fault) → ComesTo (BadLine number why) bytes text → IsBadLine bytes number why
a_bad_line_is_first bytes text number why f = record {
  before = f.at.before;
  text = f.at.line;
  after = f.at.after;
  parts = f.at.parts;
  counted = f.counted;
  lines = f.at.ran.draft;
  leads = f.at.ran.leads;
  fault = f.at.holds;
}
