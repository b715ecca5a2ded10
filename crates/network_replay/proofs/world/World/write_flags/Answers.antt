use Rattle.std.proofs.Common.{true, None}
use Rattle.network_flight.specs.Steps.{Flags}
use Rattle.network_replay.specs.Reporting.{report_said}
use Rattle.network_replay.proofs.Reported.{flags_ran, flags_are, unsaid}
use Rattle.network_replay.proofs.world.World.write_flags.Goals as goal

pub returns-in-Ok-clause-made : goal.returns-in-Ok-clause-made
returns-in-Ok-clause-made g c = λ q w agrees. flags_ran g.R.Router.seen q c.args.self.now w agrees c.args.out.now.items c.report.new.out.items (c.in-Ok.ensures q w agrees)

pub returns-in-Err-clause-made : goal.returns-in-Err-clause-made
returns-in-Err-clause-made g c = λ q w agrees.
    let v = c.args.self.now in
    unsaid g.R.Router.seen q v.names c.in-Err.field-0 c.args.out.now.items c.report.new.out.items (report_said q v.names true None w) v (Flags) w (flags_are q v.names w) (c.in-Err.ensures q w agrees)
