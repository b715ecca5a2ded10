use Rattle.std.proofs.Common.{◌≡◌, ◌≤◌, false, true, refl}
use Rattle.rsvp_base.specs.Table.{put_in, size}
use Rattle.error_sends.proofs.LeftOver.{as_it_was, at_most, left_there, not_refused, refused}
use Rattle.error_sends.proofs.stale.leave_wall.Goals as goal
use Rattle.error_sends.proofs.stale.leave_wall.Goals.{In-Ok}

few : (c : In-Ok) → size (put_in c.args.walls.now (c.args.session, c.args.target) (c.args.wall, c.args.left)) ≤ 512
few c = at_most _ (λ h. let z : false ≡ true = c.in-Ok.ensures.full.1 h in cc)

pub returns-in-Ok-clause-refused : goal.returns-in-Ok-clause-refused
returns-in-Ok-clause-refused c = λ clock n is. not_refused clock n (c.args.session, c.args.target) c.args.wall c.args.left c.args.walls.now is (few (goal.at.returns-in-Ok-clause-refused c).In-Ok)

pub returns-in-Ok-clause-facts : goal.returns-in-Ok-clause-facts
returns-in-Ok-clause-facts c = λ clock n is. left_there clock n (c.args.session, c.args.target) c.args.wall c.args.left c.args.walls.now is
    (few (goal.at.returns-in-Ok-clause-facts c).In-Ok) _ c.in-Ok.ensures.ok

pub returns-in-Err-clause-refused : goal.returns-in-Err-clause-refused
returns-in-Err-clause-refused c = λ clock n is. refused clock n (c.args.session, c.args.target) c.args.wall c.args.left c.args.walls.now is (c.in-Err.ensures.full.0 refl)

pub returns-in-Err-clause-facts : goal.returns-in-Err-clause-facts
returns-in-Err-clause-facts c = λ clock n is. as_it_was clock n (c.args.session, c.args.target) c.args.wall c.args.left c.args.walls.now is (c.in-Err.ensures.full.0 refl) _ c.in-Err.ensures.err
