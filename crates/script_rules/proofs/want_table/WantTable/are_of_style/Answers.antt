use Rattle.std.proofs.Common.{◌≡◌, List, map as each, sym, subst, ap, ◌∙◌}
use Rattle.std.specs.List.{All, list_all}
use Rattle.tree_model.specs.declared.locals.LocalWant.{LocalWant}
use Rattle.script_grammar.specs.Adds.{wants_at}
use Rattle.script_rules.specs.Entries.{entries_in, entries_of, fits}
use Rattle.script_rules.specs.declared.entries.Entry.{Entry}
use Rattle.script_rules.proofs.ListedSlots.{of_style}
use Rattle.script_rules.proofs.want_table.WantTable.are_of_style.Goals as goal

pub returns : goal.returns
returns c =
    let n = c.args.node in
    let s = c.args.session in
    let slots = c.self.inside.slots.items in
    let listed : c.at.result.now ≡ entries_of n slots = c.at.ensures ∙ ap (λ vs. entries_in (each (λ v. v.items) vs) n) c.as_slice.ensures.value ∙ c.self.invariant n in
    let tested = c.fit_in.ensures ∙ ap (λ (es : List Entry). list_all (fits s c.args.style) es) listed in
    let told = of_style slots n s c.args.style in (
      λ t. subst (λ (ws : List LocalWant). All (λ (w : LocalWant). w.style ≡ c.args.style) (wants_at ws n s)) c.self.view_is (told.0 (sym tested ∙ t)),
      λ all. tested ∙ told.1 (subst (λ (ws : List LocalWant). All (λ (w : LocalWant). w.style ≡ c.args.style) (wants_at ws n s)) (sym c.self.view_is) all),
    )
