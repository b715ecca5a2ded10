use Rattle.std.proofs.Common.{rules, ◌≡◌, ◌∷◌, ◌++◌, [], List, Some, cond, length, map as each, sym, ap, ◌∙◌}
use Rattle.std.specs.Prelude.{◌==◌, Option}
use Rattle.tree_model.specs.declared.locals.LocalWant.{LocalWant}
use Rattle.script_rules.specs.Entries.{entries_in, entries_of, entry_of, standing}
use Rattle.script_rules.specs.declared.entries.Entry.{Entry}
use Rattle.script_rules.proofs.ListedSlots.{listed_more}
use Rattle.script_rules.proofs.Slots.{standing_more}
use Rattle.script_rules.proofs.want_table.put_behind.Goals as goal

pub returns-clause-listed : goal.returns-clause-listed
returns-clause-listed c =
    let slots = c.args.slots.now.items in
    let w = c.args.want in
    let old = each (λ v. v.items) c.args.entries.now.items in
    let new = each (λ v. v.items) c.put_down.new.entries.items in
    let unit = c.unit.ensures in
    let slot : c.len.result ≡ length slots = search rules in
    let is : record { session = w.session; style = w.style; unit = c.unit.result; slot = c.len.result } ≡ entry_of (length slots, w) =
    λ i. record { session = w.session; style = w.style; unit = unit i; slot = slot i } in
    let items = c.push_reserved.ensures.items ∙ ap (λ (xs : List (Option LocalWant)). xs ++ Some w ∷ []) c.in_ok-reserve.ensures.items in λ n.
    listed_more slots old new w c.requires (λ m. c.in_ok-put_down.ensures.ok m ∙ ap (λ (x : Entry). entries_in old m ++ cond (w.node == m) (x ∷ []) []) is) n
    ∙ sym (ap (λ (xs : List (Option LocalWant)). entries_of n xs) items)

pub returns-clause-ok : goal.returns-clause-ok
returns-clause-ok c =
    let items = c.push_reserved.ensures.items ∙ ap (λ (xs : List (Option LocalWant)). xs ++ Some c.args.want ∷ []) c.in_ok-reserve.ensures.items in
    ap (λ (xs : List (Option LocalWant)). standing xs) items ∙ standing_more c.args.slots.now.items c.args.want
