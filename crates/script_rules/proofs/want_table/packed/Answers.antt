use Rattle.std.proofs.Common.{◌∷◌, ◌++◌, [], sym, ◌∙◌}
use Rattle.script_rules.proofs.ListedSlots.{next_empty, next_full}
use Rattle.script_rules.proofs.want_table.packed.Goals as goal
use Rattle.script_rules.proofs.want_table.packed.Goals.{in-Some+in_ok-append, in_default}

pub loop-slot-preserved : goal.loop-slot-preserved
loop-slot-preserved c =
    let slots = c.args.slots.now in
    let i = c.loop-slot.slot-index in
    let so_far = c.loop-slot.invariant in
    elim c.match-slot.branch [
      | in-Some+in_ok-append w ↦
          let put = w.to-is ∙ w.in_ok-append.ensures in
          let want = w.copy_of.ensures in
          put ∙ (λ j. so_far j ++ want j ∷ []) ∙ sym (next_full slots i c.loop-slot-test.true c.slot-item.result w.in-Some.want (sym c.slot-item.is ∙ w.in-Some.is))
      | in_default w ↦ w.to-is ∙ so_far ∙ sym (next_empty slots i c.loop-slot-test.true c.slot-item.result (sym c.slot-item.is ∙ w.in_default.is))
    ]
