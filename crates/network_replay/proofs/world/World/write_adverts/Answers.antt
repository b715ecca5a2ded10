use Rattle.network_flight.specs.Runs.{adverts_report, whole_report}
use Rattle.network_flight.specs.Steps.{Adverts}
use Rattle.network_replay.proofs.Reported.{adverts_ran, adverts_are, unsaid}
use Rattle.network_replay.proofs.world.World.write_adverts.Goals as goal

pub returns-in-Ok-clause-made : goal.returns-in-Ok-clause-made
returns-in-Ok-clause-made g c = λ q w agrees. adverts_ran g.R.Router.seen q c.args.self.now w agrees c.args.out.now.items c.adverts.new.out.items (c.in-Ok.ensures q w agrees)

pub returns-in-Err-clause-made : goal.returns-in-Err-clause-made
returns-in-Err-clause-made g c = λ q w agrees.
    let v = c.args.self.now in
    unsaid g.R.Router.seen q v.names c.in-Err.field-0 c.args.out.now.items c.adverts.new.out.items (whole_report q v.names adverts_report w) v Adverts w
    (adverts_are q v.names w) (c.in-Err.ensures q w agrees)
