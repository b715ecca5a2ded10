use Rattle.std.proofs.Common.{◌||◌, arith}
use Rattle.rsvp_base.specs.Orders.{sessions}
use Rattle.rsvp_base.specs.Table.{changed, has, kept, same_rows}
use Rattle.rsvp_base.proofs.Rows.{are_rows}
use Rattle.rsvp_base.specs.declared.session.Session.{Session}
use Rattle.blockade_state.specs.Touched.{is_touched}
use Rattle.router_rounds.specs.Nears.{near_row, noted_before}
use Rattle.router_rounds.proofs.nears.Nears.note_touched.Goals as goal

pub invariant_of-self-inside : goal.invariant_of-self-inside
invariant_of-self-inside c =
    let left = kept (λ (s : Session). is_touched c.args.touched.now s || has c.args.fired.now s) (changed (noted_before c.args.paths.now.facts c.args.lost.now) c.args.touched.now) in (
      are_rows sessions near_row c.note_some.new.rows.items left c.note_some.ensures.rows,
      (c.note_some.ensures.few, (omega (arith, c.note_some.ensures.capacity, c.clear.ensures.capacity, c.self.inside.room), tt)),
    )

pub returns : goal.returns
returns c = same_rows _ (kept (λ (s : Session). is_touched c.args.touched.now s || has c.args.fired.now s)
    (changed (noted_before c.args.paths.now.facts c.args.lost.now) c.args.touched.now)) c.note_some.ensures.rows
