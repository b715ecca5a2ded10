use Rattle.std.proofs.Common.{◌≡◌, ◌∙◌, List, [], ◌∷◌, true, ap, sym, subst}
use Rattle.std.specs.Prelude.{IfOk}
use Rattle.tree_model.specs.declared.hops.LinkHop.{LinkHop}
use Rattle.network_flight.specs.Events.{steps_of}
use Rattle.network_flight.specs.Steps.{Reroute}
use Rattle.network_model.specs.Happenings.{event_with}
use Rattle.network_model.specs.declared.event.Event.{Event}
use Rattle.network_replay.specs.Happening.{takes_memory}
use Rattle.network_replay.specs.Running.{Makes}
use Rattle.network_replay.specs.Sights.{ShowsRun, event_sights}
use Rattle.network_replay.specs.declared.world_err.WorldErr.TheVariants.{NoMemory}
use Rattle.network_replay.proofs.Runnings.{failed, not_memory, of_each}
use Rattle.network_replay.proofs.Shown.{none_copied, none_lost, run_no_more, tells_no_more}
use Rattle.network_replay.proofs.world.World.event.Goals as goal

pub returns-in-Local-clause-only : goal.returns-in-Local-clause-only
returns-in-Local-clause-only g c = λ going e. not_memory c.call.result c.call.ensures.crowded (takes_memory c.args.self.now.trace c.args.event.now) e

pub returns-in-Wait-clause-only : goal.returns-in-Wait-clause-only
returns-in-Wait-clause-only g c = λ going e. not_memory c.wait.result c.wait.ensures.crowded (takes_memory c.args.self.now.trace c.args.event.now) e

pub returns-in-Lose-clause-only : goal.returns-in-Lose-clause-only
returns-in-Lose-clause-only g c = λ going e. not_memory c.lose_at.result c.lose_at.ensures.crowded (takes_memory c.args.self.now.trace c.args.event.now) e

pub returns-in-Again-clause-only : goal.returns-in-Again-clause-only
returns-in-Again-clause-only g c = λ going e. not_memory c.copy_at.result c.copy_at.ensures.crowded (takes_memory c.args.self.now.trace c.args.event.now) e

pub returns-in-Clear-clause-only : goal.returns-in-Clear-clause-only
returns-in-Clear-clause-only g c = λ going e. not_memory c.clear.result c.clear.ensures.crowded (takes_memory c.args.self.now.trace c.args.event.now) e

pub returns-in-Trace-clause-only : goal.returns-in-Trace-clause-only
returns-in-Trace-clause-only g c = λ going e. not_memory c.set_trace.result c.set_trace.ensures.crowded (takes_memory c.args.self.now.trace c.args.event.now) e

pub returns-in-Inject-clause-only : goal.returns-in-Inject-clause-only
returns-in-Inject-clause-only g c = λ going e. not_memory c.inject.result c.inject.ensures.crowded (takes_memory c.args.self.now.trace c.args.event.now) e

pub returns-in-Pass-clause-only : goal.returns-in-Pass-clause-only
returns-in-Pass-clause-only g c = λ going e. ap (takes_memory c.args.self.now.trace) c.in-Pass.is ∙ c.passes.ensures.only e

pub returns-in-Deliver-clause-only : goal.returns-in-Deliver-clause-only
returns-in-Deliver-clause-only g c = λ going e. ap (takes_memory c.args.self.now.trace) c.in-Deliver.is ∙ c.deliver_at.ensures.only e

pub returns-in-Rounds-clause-only : goal.returns-in-Rounds-clause-only
returns-in-Rounds-clause-only g c = λ going e. ap (takes_memory c.args.self.now.trace) c.in-Rounds.is ∙ c.rounds.ensures.only e

pub returns-in-Report-clause-only : goal.returns-in-Report-clause-only
returns-in-Report-clause-only g c = λ going e. ap (takes_memory c.args.self.now.trace) c.in-Report.is

pub returns-in-Flags-clause-only : goal.returns-in-Flags-clause-only
returns-in-Flags-clause-only g c = λ going e. ap (takes_memory c.args.self.now.trace) c.in-Flags.is

pub returns-in-Adverts-clause-only : goal.returns-in-Adverts-clause-only
returns-in-Adverts-clause-only g c = λ going e. ap (takes_memory c.args.self.now.trace) c.in-Adverts.is

pub returns-in-Reroute-clause-made : goal.returns-in-Reroute-clause-made
returns-in-Reroute-clause-made g c = λ a read going.
    let see = g.R.Router.seen in
    let old = c.args.self.now in
    let out = c.args.out.now.items in
    let new = c.move_tree.new.self in
    let moved =
    subst (λ (hops : List LinkHop). IfOk c.move_tree.result (λ r. Makes see old r out out new (λ q w. Reroute c.in-Reroute.group c.in-Reroute.source hops ∷ [])))
    c.as_slice-in-Reroute.ensures.value (c.move_tree.ensures.made out) in
    subst (λ (e : Event). IfOk c.move_tree.result (λ r. Makes see old r out out new (λ q w. steps_of q (event_with a e) w))) (sym c.in-Reroute.is) moved

pub returns-in-Reroute-clause-only : goal.returns-in-Reroute-clause-only
returns-in-Reroute-clause-only g c = λ going.
    of_each (λ r. r ≡ failed NoMemory → takes_memory c.args.self.now.trace c.args.event.now ≡ true) c.move_tree.result
    (λ r is. ap (takes_memory c.args.self.now.trace) c.in-Reroute.is)

pub returns-in-Local-clause-told : goal.returns-in-Local-clause-told
returns-in-Local-clause-told g c = λ a read going q w agrees.
    run_no_more g.W.Watch.saw c.call.result c.args.watch.now (event_sights q (event_with a c.args.event.now) w) (ap (λ e. event_sights q (event_with a e) w) c.in-Local.is)

pub returns-in-Lose-clause-told : goal.returns-in-Lose-clause-told
returns-in-Lose-clause-told g c = λ a read going q w agrees.
    run_no_more g.W.Watch.saw c.lose_at.result c.args.watch.now (event_sights q (event_with a c.args.event.now) w) (ap (λ e. event_sights q (event_with a e) w) c.in-Lose.is ∙ none_lost q c.in-Lose.place w)

pub returns-in-Again-clause-told : goal.returns-in-Again-clause-told
returns-in-Again-clause-told g c = λ a read going q w agrees.
    run_no_more g.W.Watch.saw c.copy_at.result c.args.watch.now (event_sights q (event_with a c.args.event.now) w) (ap (λ e. event_sights q (event_with a e) w) c.in-Again.is ∙ none_copied q c.in-Again.place w)

pub returns-in-Clear-clause-told : goal.returns-in-Clear-clause-told
returns-in-Clear-clause-told g c = λ a read going q w agrees.
    run_no_more g.W.Watch.saw c.clear.result c.args.watch.now (event_sights q (event_with a c.args.event.now) w) (ap (λ e. event_sights q (event_with a e) w) c.in-Clear.is)

pub returns-in-Trace-clause-told : goal.returns-in-Trace-clause-told
returns-in-Trace-clause-told g c = λ a read going q w agrees.
    run_no_more g.W.Watch.saw c.set_trace.result c.args.watch.now (event_sights q (event_with a c.args.event.now) w) (ap (λ e. event_sights q (event_with a e) w) c.in-Trace.is)

pub returns-in-Report-clause-told : goal.returns-in-Report-clause-told
returns-in-Report-clause-told g c = λ a read going q w agrees.
    run_no_more g.W.Watch.saw c.write_report.result c.args.watch.now (event_sights q (event_with a c.args.event.now) w) (ap (λ e. event_sights q (event_with a e) w) c.in-Report.is)

pub returns-in-Flags-clause-told : goal.returns-in-Flags-clause-told
returns-in-Flags-clause-told g c = λ a read going q w agrees.
    run_no_more g.W.Watch.saw c.write_flags.result c.args.watch.now (event_sights q (event_with a c.args.event.now) w) (ap (λ e. event_sights q (event_with a e) w) c.in-Flags.is)

pub returns-in-Adverts-clause-told : goal.returns-in-Adverts-clause-told
returns-in-Adverts-clause-told g c = λ a read going q w agrees.
    run_no_more g.W.Watch.saw c.write_adverts.result c.args.watch.now (event_sights q (event_with a c.args.event.now) w) (ap (λ e. event_sights q (event_with a e) w) c.in-Adverts.is)

pub returns-in-Inject-clause-told : goal.returns-in-Inject-clause-told
returns-in-Inject-clause-told g c = λ a read going q w agrees.
    run_no_more g.W.Watch.saw c.inject.result c.args.watch.now (event_sights q (event_with a c.args.event.now) w) (ap (λ e. event_sights q (event_with a e) w) c.in-Inject.is)

pub returns-in-Reroute-clause-told : goal.returns-in-Reroute-clause-told
returns-in-Reroute-clause-told g c = λ a read going.
    tells_no_more g.W.Watch.saw g.R.Router.seen c.args.self.now c.move_tree.result c.args.watch.now (λ q w. event_sights q (event_with a c.args.event.now) w)
    (λ q w. ap (λ e. event_sights q (event_with a e) w) c.in-Reroute.is)

pub returns-in-Wait-clause-told : goal.returns-in-Wait-clause-told
returns-in-Wait-clause-told g c = λ a read going q w agrees.
    subst (λ e. ShowsRun g.W.Watch.saw c.wait.result c.args.watch.now c.wait.new.watch (event_sights q (event_with a e) w)) (sym c.in-Wait.is) (c.wait.ensures.told q w agrees)

pub returns-in-Pass-clause-told : goal.returns-in-Pass-clause-told
returns-in-Pass-clause-told g c = λ a read going q w agrees.
    subst (λ e. ShowsRun g.W.Watch.saw c.passes.result c.args.watch.now c.passes.new.watch (event_sights q (event_with a e) w)) (sym c.in-Pass.is) (c.passes.ensures.told q w agrees)

pub returns-in-Deliver-clause-told : goal.returns-in-Deliver-clause-told
returns-in-Deliver-clause-told g c = λ a read going q w agrees.
    subst (λ e. ShowsRun g.W.Watch.saw c.deliver_at.result c.args.watch.now c.deliver_at.new.watch (event_sights q (event_with a e) w)) (sym c.in-Deliver.is) (c.deliver_at.ensures.told q w agrees)

pub returns-in-Rounds-clause-told : goal.returns-in-Rounds-clause-told
returns-in-Rounds-clause-told g c = λ a read going q w agrees.
    subst (λ e. ShowsRun g.W.Watch.saw c.rounds.result c.args.watch.now c.rounds.new.watch (event_sights q (event_with a e) w)) (sym c.in-Rounds.is) (c.rounds.ensures.told q w agrees)
