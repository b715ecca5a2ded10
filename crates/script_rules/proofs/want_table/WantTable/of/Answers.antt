use Rattle.std.proofs.Common.{◌≡◌, [], List, map as each, ap, ◌∙◌}
use Rattle.std.specs.Prelude.{Option}
use Rattle.tree_model.specs.declared.locals.LocalWant.{LocalWant}
use Rattle.script_grammar.specs.Adds.{wants_at}
use Rattle.script_rules.specs.Entries.{entries_in, entries_of, with_slots}
use Rattle.script_rules.specs.declared.entries.Entry.{Entry}
use Rattle.script_rules.proofs.ListedSlots.{own_drawn}
use Rattle.script_rules.proofs.want_table.WantTable.of.Goals as goal

pub returns : goal.returns
returns c =
    let n = c.args.node in
    let s = c.args.session in
    let slots = c.self.inside.slots.items in
    let listed : c.at-entries.result.now ≡ entries_of n slots = c.at-entries.ensures ∙ ap (λ vs. entries_in (each (λ v. v.items) vs) n) c.as_slice.ensures.value ∙ c.self.invariant n in
    c.in_ok-draw.ensures
    ∙ ap (λ (xs : List (Option LocalWant)). with_slots s xs c.new-own.result.items c.at-entries.result.now) c.as_slice-2.ensures.value
    ∙ ap (λ (own : List LocalWant). with_slots s slots own c.at-entries.result.now) c.new-own.ensures.items
    ∙ ap (λ (es : List Entry). with_slots s slots [] es) listed
    ∙ own_drawn slots n s
    ∙ ap (λ (ws : List LocalWant). wants_at ws n s) c.self.view_is
