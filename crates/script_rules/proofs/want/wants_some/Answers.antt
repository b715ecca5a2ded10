use Rattle.std.proofs.Common.{◌≡◌, [], List, sym, subst}
use Rattle.std.specs.Prelude.{◌≢◌}
use Rattle.script_words.specs.Sessions.{session_value}
use Rattle.tree_model.specs.declared.locals.LocalWant.{LocalWant}
use Rattle.script_grammar.specs.Adds.{wants_at}
use Rattle.script_grammar.specs.Draft.{node_number}
use Rattle.script_rules.specs.Said.{draft_of}
use Rattle.script_rules.proofs.want.wants_some.Goals as goal

pub returns : goal.returns
returns c =
    let d = draft_of c.args.state.now in
    let l = c.args.line.now in
    let node : c.args.node ≡ node_number d l.node = c.requires.node in
    let session : c.args.session ≡ session_value l.session = c.requires.session in
    let same : wants_at d.locals.wants c.args.node c.args.session ≡ wants_at d.locals.wants (node_number d l.node) (session_value l.session) = λ i. wants_at d.locals.wants (node i) (session i) in (
      λ t. subst (λ (ws : List LocalWant). ws ≢ []) same (c.has_wants.ensures.0 t),
      λ some. c.has_wants.ensures.1 (subst (λ (ws : List LocalWant). ws ≢ []) (sym same) some),
    )
