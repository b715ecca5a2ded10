use Rattle.std.proofs.Common.{◌∷◌, ◌++◌, [], List, map as each, set, sym, ap, ◌∙◌, Vec, Global}
use Rattle.std.proofs.lemmas.List.{map-set}
use Rattle.script_rules.specs.declared.entries.Entry.{Entry}
use Rattle.script_rules.proofs.ListedSlots.{each_same, list_at, on_err}
use Rattle.script_rules.proofs.entries.append.Goals as goal

pub returns-in_err-push-clause-err : goal.returns-in_err-push-clause-err
returns-in_err-push-clause-err c =
    on_err c.from_residual.result (each_same (λ (v : Vec Entry Global). v.items) c.args.entries.now.items c.args.node c.push.new.self c.index_mut.result.now
    (c.in_err-push.ensures.items ∙ ap (λ (v : Vec Entry Global). v.items) c.index_mut.ensures.value))

pub returns-clause-ok : goal.returns-clause-ok
returns-clause-ok c =
    let items = λ (v : Vec Entry Global). v.items in
    let was = ap items c.index_mut.ensures.value ∙ sym (list_at items c.args.entries.now.items c.args.node c.index_mut.result.now c.requires) in
    map-set items c.args.entries.now.items c.args.node c.push.new.self
    ∙ ap (set (each items c.args.entries.now.items) c.args.node) (c.in_ok-push.ensures.items ∙ ap (λ (es : List Entry). es ++ c.args.entry ∷ []) was)
