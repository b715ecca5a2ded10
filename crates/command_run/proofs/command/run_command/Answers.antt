use Rattle.std.proofs.Common.{rules, ◌≡◌, [], None, Some, inl, map, refl}
use Rattle.std.specs.Prelude.{string_bytes}
use Rattle.std.proofs.KnownBytes.{Keeps-refl}
use Rattle.command_run.specs.Tasks.{task_of}
use Rattle.command_run.specs.declared.task.Task.TheVariants as task
use Rattle.script_run.proofs.Shown.{nothing_shown}
use Rattle.command_run.proofs.Nothing.{did_nothing}
use Rattle.command_run.proofs.command.run_command.Goals as goal

pub returns-in-Ok-Replay-clause-does : goal.returns-in-Ok-Replay-clause-does
returns-in-Ok-Replay-clause-does g c =
    let is : task_of (map string_bytes c.args.words.now.items) ≡ Some task.Replay = search rules in
    rw is c.replay.ensures.replayed

pub returns-in-Ok-Demand-clause-does : goal.returns-in-Ok-Demand-clause-does
returns-in-Ok-Demand-clause-does g c =
    let is : task_of (map string_bytes c.args.words.now.items) ≡ Some task.Demand = search rules in
    rw is (c.demand.ensures.demanded, c.requires.empty)

pub returns-in-Ok-Show-clause-does : goal.returns-in-Ok-Show-clause-does
returns-in-Ok-Show-clause-does g c =
    let is : task_of (map string_bytes c.args.words.now.items) ≡ Some task.Show = search rules in
    rw is (c.show_messages.ensures.shown, c.requires.empty)

pub returns-in-Ok-Grow-clause-does : goal.returns-in-Ok-Grow-clause-does
returns-in-Ok-Grow-clause-does g c =
    let is : task_of (map string_bytes c.args.words.now.items) ≡ Some (task.Grow c.in-Ok-Grow.seed) = search rules in
    rw is (c.grow.ensures.grown, record { source = Keeps-refl (g.S.Source.left c.args.source.now); advice = search rules })

pub returns-in-Ok-Node-clause-does : goal.returns-in-Ok-Node-clause-does
returns-in-Ok-Node-clause-does g c =
    let is : task_of (map string_bytes c.args.words.now.items) ≡ Some task.Node = search rules in
    rw is (c.serve_router.ensures.served, c.requires.empty)

pub returns-in-Ok-Police-clause-does : goal.returns-in-Ok-Police-clause-does
returns-in-Ok-Police-clause-does g c =
    let is : task_of (map string_bytes c.args.words.now.items) ≡ Some task.Police = search rules in
    rw is (c.police_packets.ensures.policed, c.requires.empty)

pub returns-in-Err-Usage-clause-does : goal.returns-in-Err-Usage-clause-does
returns-in-Err-Usage-clause-does g c =
    let is : task_of (map string_bytes c.args.words.now.items) ≡ None = search rules in
    rw is (record {
      usage = inl refl;
      unread = record { source = Keeps-refl (g.S.Source.left c.args.source.now); advice = search rules };
      unwritten = Keeps-refl (g.K.Sink.holds c.args.sink.now);
    })

pub returns-clause-does : goal.returns-clause-does
returns-clause-does g c =
    let left = g.S.Source.left c.args.source.now in
    let holds = g.K.Sink.holds c.args.sink.now in
    let see = g.R.Router.seen in
    let task = task_of (map string_bytes c.args.words.now.items) in
    let advised : c.clear.new.self.items ≡ [] = search rules in
    rw advised (rw c.requires.empty (did_nothing see task left holds (g.S.Source.faults c.args.source.now) (g.K.Sink.faults c.args.sink.now)))

pub returns-in-Ok-Replay-clause-told : goal.returns-in-Ok-Replay-clause-told
returns-in-Ok-Replay-clause-told g c = λ done.
    let is : task_of (map string_bytes c.args.words.now.items) ≡ Some task.Replay = search rules in
    rw is (c.replay.ensures.told done)

pub returns-in-Ok-Demand-clause-told : goal.returns-in-Ok-Demand-clause-told
returns-in-Ok-Demand-clause-told g c = λ done.
    let is : task_of (map string_bytes c.args.words.now.items) ≡ Some task.Demand = search rules in
    rw is (nothing_shown g.W.Watch.saw c.args.watch.now)

pub returns-in-Ok-Show-clause-told : goal.returns-in-Ok-Show-clause-told
returns-in-Ok-Show-clause-told g c = λ done.
    let is : task_of (map string_bytes c.args.words.now.items) ≡ Some task.Show = search rules in
    rw is (nothing_shown g.W.Watch.saw c.args.watch.now)

pub returns-in-Ok-Grow-clause-told : goal.returns-in-Ok-Grow-clause-told
returns-in-Ok-Grow-clause-told g c = λ done.
    let is : task_of (map string_bytes c.args.words.now.items) ≡ Some (task.Grow c.in-Ok-Grow.seed) = search rules in
    rw is (c.grow.ensures.told done)

pub returns-in-Ok-Node-clause-told : goal.returns-in-Ok-Node-clause-told
returns-in-Ok-Node-clause-told g c = λ done.
    let is : task_of (map string_bytes c.args.words.now.items) ≡ Some task.Node = search rules in
    rw is (nothing_shown g.W.Watch.saw c.args.watch.now)

pub returns-in-Ok-Police-clause-told : goal.returns-in-Ok-Police-clause-told
returns-in-Ok-Police-clause-told g c = λ done.
    let is : task_of (map string_bytes c.args.words.now.items) ≡ Some task.Police = search rules in
    rw is (nothing_shown g.W.Watch.saw c.args.watch.now)
