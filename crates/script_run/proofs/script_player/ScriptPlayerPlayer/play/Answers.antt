use Rattle.std.proofs.Common.{[], None, Some, refl, sym, subst, append-nil}
use Rattle.network_model.specs.Happenings.{event_with}
use Rattle.script_grammar.specs.Draft.{plan_of}
use Rattle.script_run.proofs.Adding.{event_line}
use Rattle.script_run.specs.Checking.{IsLineTaken}
use Rattle.script_run.specs.Shown.{ShowsOn}
use Rattle.script_run.specs.Standing.{IsAt}
use Rattle.script_run.proofs.Routes.{can_happen}
use Rattle.script_run.proofs.Ran.{event_asks, event_crowds, event_on, not_taken, quiet_on}
use Rattle.script_run.proofs.Shown.{also, event_shown, nothing_more, quiet_shown, stays_also}
use Rattle.script_run.proofs.script_player.ScriptPlayerPlayer.play.Goals as goal

pub returns-in-Ok-None : goal.returns-in-Ok-None
returns-in-Ok-None g c = λ d said at run.
    let see = g.R.Router.seen in
    let saw = g.W.Watch.saw in
    let new = g.C.LinesBefore.lines c.feed.new.self in
    let fed = rw c.in-Ok-None.field-0-is at c.in-Ok-None.ensures in
    let q = subst (λ x. IsLineTaken x c.args.line.now None new) at.same fed in
    let world = c.args.self.now.world in
    let line = c.args.line.now in
    let old = c.args.watch.now in
    let then = c.line_taken.new.self in
    let shown = quiet_shown saw old then d line new q.follows q.event c.line_taken.ensures in
    let on = quiet_on see d line new world said q.follows q.event at.network at.routed run in
    ([], sym (append-nil c.args.out.now.items), also see new world (λ x. ShowsOn saw old then d x) d line said [] on shown)

pub returns-in-Ok-Ok : goal.returns-in-Ok-Ok
returns-in-Ok-Ok g c = λ d said at run.
    let see = g.R.Router.seen in
    let saw = g.W.Watch.saw in
    let new = g.C.LinesBefore.lines c.feed.new.self in
    let event = c.in-Ok-Some.event in
    let fed = rw c.in-Ok-Some.field-0-is at c.in-Ok-Some.ensures in
    let q = subst (λ x. IsLineTaken x c.args.line.now (Some event) new) at.same fed in
    let e = event_with q.event.arrival event in
    let line = c.args.line.now in
    let old = c.args.watch.now in
    let then = c.happen.new.watch in
    let world = c.happen.new.world in
    let plan = event_line d line new e q.follows q.event.events in
    let ran = rw c.in-Ok-Ok.field-0-is at (c.in-Ok-Ok.ensures.runs (plan_of d) q.event.arrival q.event.read at.network plan run.roomy) in
    let told = rw c.in-Ok-Ok.field-0-is at (c.in-Ok-Ok.ensures.told (plan_of d) q.event.arrival q.event.read at.network plan run.roomy) in
    let on = event_on see d line new world said c.args.out.now.items c.happen.new.out.items e q.follows q.event.events at.routed run ran in
    let shown = event_shown saw old then d line new e q.follows q.event.events run.roomy told in
    (on.0, on.1, also see new world (λ x. ShowsOn saw old then d x) d line said on.0 on.2 shown)

pub returns-in-Ok-Err-Crowded : goal.returns-in-Ok-Err-Crowded
returns-in-Ok-Err-Crowded g c = λ d said at run.
    let see = g.R.Router.seen in
    let new = g.C.LinesBefore.lines c.feed.new.self in
    let event = c.in-Ok-Some.event in
    let fed = rw c.in-Ok-Some.field-0-is at c.in-Ok-Some.ensures in
    let q = subst (λ x. IsLineTaken x c.args.line.now (Some event) new) at.same fed in
    let e = event_with q.event.arrival event in
    let happened = rw (c.in-Ok-Err-Crowded.field-0-is, c.in-Ok-Err-Crowded.field-0-0-is) at (c.in-Ok-Err-Crowded.ensures.runs (plan_of d) q.event.arrival q.event.read at.network
    (event_line d c.args.line.now new e q.follows q.event.events) run.roomy) in
    (event_crowds see d c.args.line.now new c.happen.new.world c.args.out.now.items c.happen.new.out.items e q.follows q.event.events happened, tt)

pub returns-in-Ok-Err-NoMemory : goal.returns-in-Ok-Err-NoMemory
returns-in-Ok-Err-NoMemory g c = λ d said at run.
    let see = g.R.Router.seen in
    let new = g.C.LinesBefore.lines c.feed.new.self in
    let event = c.in-Ok-Some.event in
    let fed = rw c.in-Ok-Some.field-0-is at c.in-Ok-Some.ensures in
    let q = subst (λ x. IsLineTaken x c.args.line.now (Some event) new) at.same fed in
    let e = event_with q.event.arrival event in
    let happened = rw (c.in-Ok-Err-NoMemory.field-0-is, c.in-Ok-Err-NoMemory.field-0-0-is) at (c.in-Ok-Err-NoMemory.ensures.runs (plan_of d) q.event.arrival q.event.read at.network
    (event_line d c.args.line.now new e q.follows q.event.events) run.roomy) in
    (event_asks see d c.args.line.now new c.happen.new.world c.args.out.now.items c.happen.new.out.items e q.follows q.event.events happened, tt)

-- no line that was taken has a tree that the network cannot have
pub returns-in-Ok-Some : goal.returns-in-Ok-Some
returns-in-Ok-Some g c = λ d said at run.
    let new = g.C.LinesBefore.lines c.feed.new.self in
    let event = c.in-Ok-Some.event in
    let line = c.args.line.now in
    let fed = rw c.in-Ok-Some.field-0-is at c.in-Ok-Some.ensures in
    let q = subst (λ x. IsLineTaken x line (Some event) new) at.same fed in
    let e = event_with q.event.arrival event in
    let plan = event_line d line new e q.follows q.event.events in
    absurd (c.in-Err-happen.ensures.tree (plan_of d) e at.network plan refl (can_happen d line new q.event.arrival event q.follows q.event.events at.routed))

pub returns : goal.returns
returns g c = λ d said at run.
    let see = g.R.Router.seen in
    let new = g.C.LinesBefore.lines c.feed.new.self in
    let world = c.args.self.now.world in
    let watch = c.args.watch.now in
    let stop = c.in-Err.stop in
    let not = not_taken see (g.C.LinesBefore.lines c.args.self.now.checker) new d c.args.line.now world stop at.same c.in-Err.ensures at.network at.routed in
    (not.0, stays_also (λ x. IsAt see new world x) (λ x. ShowsOn g.W.Watch.saw watch watch d x) d stop not.1 (nothing_more g.W.Watch.saw watch d))
