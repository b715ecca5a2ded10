use Rattle.std.proofs.Common.{◌≡◌, List, length, map as each, ap, ◌∙◌}
use Rattle.std.specs.List.{filter}
use Rattle.tree_model.specs.declared.locals.LocalWant.{LocalWant}
use Rattle.script_grammar.specs.Adds.{wants_at}
use Rattle.script_rules.specs.Entries.{entries_in, entries_of, is_of_session}
use Rattle.script_rules.specs.declared.entries.Entry.{Entry}
use Rattle.script_rules.proofs.ListedSlots.{as_many}
use Rattle.script_rules.proofs.want_table.WantTable.count.Goals as goal

pub returns : goal.returns
returns c =
    let n = c.args.node in
    let s = c.args.session in
    let slots = c.self.inside.slots.items in
    let listed : c.at.result.now ≡ entries_of n slots = c.at.ensures ∙ ap (λ vs. entries_in (each (λ v. v.items) vs) n) c.as_slice.ensures.value ∙ c.self.invariant n in
    c.count_of.ensures
    ∙ ap (λ (es : List Entry). length (filter (is_of_session s) es)) listed
    ∙ as_many slots n s
    ∙ ap (λ (ws : List LocalWant). length (wants_at ws n s)) c.self.view_is
