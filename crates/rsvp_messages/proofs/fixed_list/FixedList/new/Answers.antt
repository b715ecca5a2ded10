use Rattle.std.proofs.Common.{◌++◌, [], ◌∷◌, map as each, ap, ◌∙◌}
use Rattle.rsvp_base.specs.Table.{same_rows}
use Rattle.rsvp_messages.proofs.fixed_list.FixedList.new.Goals as goal

pub returns : goal.returns
returns c = same_rows _ _ (ap (each (λ e. e)) (c.push.ensures.items ∙ ap (λ es. es ++ (c.args.sender, c.args.flow) ∷ []) c.new-rows.ensures))
