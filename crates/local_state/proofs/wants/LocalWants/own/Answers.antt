use Rattle.std.proofs.Common.{◌-◌, cond, length, sym, ap, ◌∙◌, arith}
use Rattle.rsvp_base.specs.Orders.{sessions, units}
use Rattle.rsvp_base.specs.Table.{changed, put_in, same_rows}
use Rattle.rsvp_base.specs.Under.{under}
use Rattle.rsvp_base.specs.declared.part.Part.{Part}
use Rattle.std.specs.FinMap.Entries.{put}
use Rattle.style_rules.specs.Merge.{PartTable}
use Rattle.local_state.specs.Wants.{own_part, own_want}
use Rattle.local_state.proofs.Held.{put_few}
use Rattle.local_state.proofs.Owned.{all_asked, asked_from, few_asked, one_asked}
use Rattle.local_state.proofs.wants.LocalWants.own.Goals as goal
use Rattle.local_state.proofs.wants.LocalWants.own.Goals.{then-is_of_style, else-is_of_style}

pub put_own-requires : goal.put_own-requires
put_own-requires c =
    let us = under sessions units c.args.self.now c.args.session in
    let more = put_few units c.loop-i.parts c.index-wants-wants.result.unit c.own_part.result in
    let few = few_asked c.args.style c.args.names.now c.of-wants.result.now us c.of-wants.ensures.rows c.loop-i.i (omega (arith, c.loop-i-test.true)) in
    omega (arith, more, few, ap length c.loop-i.invariant, c.loop-i-test.true, c.of-wants.ensures.few)

pub loop-i-preserved : goal.loop-i-preserved
loop-i-preserved c =
    let us = under sessions units c.args.self.now c.args.session in
    let st = c.args.style in
    let names = c.args.names.now in
    let wants = c.of-wants.result.now in
    let x = c.index-wants-wants.result in
    let old = asked_from st names wants us c.of-wants.ensures.rows (length wants - c.loop-i.i) in
    let next = one_asked st names wants us c.of-wants.ensures.rows c.loop-i.i x c.loop-i-test.true c.index-wants-wants.is in
    elim c.if-is_of_style.branch [
      | then-is_of_style w ↦
          ap (λ (t : PartTable). t.rows) (w.parts-is ∙ w.put_own.ensures ∙ ap (λ (p : Part). put_in c.loop-i.parts x.unit p) w.own_part.ensures)
          ∙ ap (λ es. put units.cmp x.unit (own_part st names x.part) es) c.loop-i.invariant
          ∙ ap (λ b. cond b (put units.cmp x.unit (own_part st names x.part) old) old) (sym w.if-is_of_style.true ∙ c.is_of_style.ensures) ∙ next
      | else-is_of_style w ↦
          ap (λ (t : PartTable). t.rows) w.parts-is ∙ c.loop-i.invariant
          ∙ ap (λ b. cond b (put units.cmp x.unit (own_part st names x.part) old) old) (sym w.if-is_of_style.false ∙ c.is_of_style.ensures) ∙ next
    ]

pub returns : goal.returns
returns c =
    let us = under sessions units c.args.self.now c.args.session in
    same_rows _ (changed (own_want c.args.style c.args.names.now) us)
    (c.loop-i.invariant ∙ all_asked c.args.style c.args.names.now c.of-wants.result.now us c.of-wants.ensures.rows c.loop-i.i (omega (arith, c.loop-i-test.false)))
