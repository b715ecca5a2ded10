use Rattle.std.proofs.Common.{◌≡◌, ◌||◌, Bool, List, [], ◌∷◌, map as each, refl, ap, ◌∙◌}
use Rattle.std.specs.List.{list_any}
use Rattle.rsvp_base.specs.Table.{values}
use Rattle.blockade_state.specs.Touched.{Marks, mark_row}
use Rattle.blockade_state.specs.declared.touched.Mark.{Mark}
use Rattle.blockade_state.proofs.touched.Touched.has_any.Goals as goal

any_row : (marks : List Mark) → list_any (λ (m : Mark). m.touched) marks ≡ list_any (λ (b : Bool). b) (each (λ e. e.1) (each mark_row marks))
any_row [] = refl
any_row (m ∷ marks) = ap (λ b. m.touched || b) (any_row marks)

pub returns : goal.returns
returns c = c.any_touched.ensures ∙ ap (list_any (λ (m : Mark). m.touched)) c.as_slice.ensures.value ∙ any_row c.self.inside.list.items
    ∙ ap (λ (m : Marks). list_any (λ (b : Bool). b) (values m)) c.self.view_is
