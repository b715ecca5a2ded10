use Rattle.std.proofs.Common.{is_some, sym, ap, ◌∙◌, refl}
use Rattle.blockade_state.specs.Touched.{sessions_of, touched_by}
use Rattle.blockade_state.proofs.Touching.{touched_more, touched_nobody}
use Rattle.blockade_state.proofs.Walls.{pulled_one}
use Rattle.blockade_state.proofs.table.pull_touching.Goals as goal

pub loop-kept-smaller : goal.loop-kept-smaller
loop-kept-smaller c = pulled_one c.pull_dead.result c.loop-kept.table.dead c.pull_dead.new.self.dead (ap is_some c.in-Some.is) c.pull_dead.ensures.dead c.pull_dead.ensures.pulled

pub loop-kept-preserved : goal.loop-kept-preserved
loop-kept-preserved c =
    record {
      facts = c.pull_dead.ensures.facts ∙ c.loop-kept.invariant.facts;
      room = c.pull_dead.ensures.room ∙ c.loop-kept.invariant.room;
      touched =
          ap (touched_by (sessions_of c.pull_dead.new.self.dead)) c.touch.ensures
          ∙ touched_more c.loop-kept.touched c.in-Some.kept c.loop-kept.table.dead c.pull_dead.new.self.dead c.in-Some.ensures.dead c.in-Some.ensures.pulled
          ∙ c.loop-kept.invariant.touched;
    }

pub returns-clause-touched : goal.returns-clause-touched
returns-clause-touched c =
    sym (touched_nobody c.loop-kept.touched) ∙ ap (λ fs. touched_by (sessions_of fs) c.loop-kept.touched) (sym (c.in_default.ensures.none refl)) ∙ c.loop-kept.invariant.touched
