use Rattle.std.proofs.Common.{rules, ◌≡◌, [], map}
use Rattle.std.specs.Prelude.{string_bytes}
use Rattle.command_run.specs.Tasks.{task_of}
use Rattle.command_run.proofs.Nothing.{did_nothing}
use Rattle.live_router.specs.SeenNode.{seen_node}
use Rattle.rsvpd_run.proofs.program.run.Goals as goal

pub returns-in-Err-clause-does : goal.returns-in-Err-clause-does
returns-in-Err-clause-does g c =
    let left = g.S.Source.left c.args.source.now in
    let holds = g.K.Sink.holds c.args.sink.now in
    let task = task_of (map string_bytes c.args.words.now.items) in
    let advised : c.clear.new.self.items ≡ [] = search rules in
    rw advised (rw c.requires.empty (did_nothing seen_node task left holds (g.S.Source.faults c.args.source.now) (g.K.Sink.faults c.args.sink.now)))
