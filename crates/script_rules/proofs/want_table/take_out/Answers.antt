use Rattle.std.proofs.Common.{◌≡◌, List, map as each, sym, ap, ◌∙◌}
use Rattle.std.specs.Prelude.{Option}
use Rattle.tree_model.specs.declared.locals.LocalWant.{LocalWant}
use Rattle.script_rules.specs.Entries.{cleared, entries_in, entries_of, standing}
use Rattle.script_rules.specs.declared.entries.Entry.{Entry}
use Rattle.script_rules.proofs.ListedSlots.{listed_out, standing_out}
use Rattle.script_rules.proofs.want_table.take_out.Goals as goal

pub returns-clause-listed : goal.returns-clause-listed
returns-clause-listed c =
    let slots = c.args.slots.now.items in
    let lists = each (λ v. v.items) c.args.entries.now.items in
    let n = c.args.node in
    let found : c.at.result.now ≡ entries_in lists n = c.at.ensures ∙ ap (λ vs. entries_in (each (λ v. v.items) vs) n) c.as_slice.ensures.value in
    let rest = c.clear.ensures ∙ ap (λ (es : List Entry). cleared c.args.which slots es) found in λ m.
    ap (λ (ls : List (List Entry)). entries_in ls m) c.strike.ensures
    ∙ listed_out slots lists n c.args.which c.requires m
    ∙ sym (ap (λ (xs : List (Option LocalWant)). entries_of m xs) rest)

pub returns-clause-wants : goal.returns-clause-wants
returns-clause-wants c =
    let slots = c.args.slots.now.items in
    let lists = each (λ v. v.items) c.args.entries.now.items in
    let n = c.args.node in
    let found : c.at.result.now ≡ entries_in lists n = c.at.ensures ∙ ap (λ vs. entries_in (each (λ v. v.items) vs) n) c.as_slice.ensures.value in
    let rest = c.clear.ensures ∙ ap (λ (es : List Entry). cleared c.args.which slots es) found in
    ap (λ (xs : List (Option LocalWant)). standing xs) rest ∙ standing_out slots lists n c.args.which c.requires
