use Rattle.std.proofs.Common.{◌≡◌, ◌++◌, ◌∷◌, [], List, None, Some, ap, refl, sym, subst, append-nil, ◌∙◌}
use Rattle.network_model.specs.Happenings.{event_with}
use Rattle.script_checker.specs.Checked.{draft_of}
use Rattle.script_grammar.specs.Events.{Event}
use Rattle.script_run.proofs.Adding.{quiet_run}
use Rattle.script_run.specs.Asking.{to_open}
use Rattle.script_run.proofs.Shown.{quiet_shown}
use Rattle.script_run.specs.Checking.{IsLineTaken}
use Rattle.network_tests.proofs.run_endings.SilentPlayer.play.Goals as goal

pub returns-in-Ok-None : goal.returns-in-Ok-None
returns-in-Ok-None g c = λ d said there run.
    let new = draft_of c.feed.new.self in
    let fed = rw c.in-Ok-None.field-0-is at c.in-Ok-None.ensures in
    let q = subst (λ x. IsLineTaken x c.args.line.now None new) there.0 fed in
    let watch = c.args.watch.now in
    let shown = quiet_shown g.W.Watch.saw watch watch d c.args.line.now new q.follows q.event (λ ss h. h) in (
      [],
      sym (append-nil c.args.out.now.items),
      record { new = new; follows = q.follows; stands_there = ((refl, q.event ∙ there.1), shown); run = quiet_run d c.args.line.now new said q.follows q.event run },
    )

pub returns-in-Ok-Some : goal.returns-in-Ok-Some
returns-in-Ok-Some g c = λ d said there run.
    let new = draft_of c.feed.new.self in
    let event = c.in-Ok-Some._event in
    let fed = rw c.in-Ok-Some.field-0-is at c.in-Ok-Some.ensures in
    let q = subst (λ x. IsLineTaken x c.args.line.now (Some event) new) there.0 fed in
    let e = event_with q.event.arrival event in
    let one : new.events ≡ e ∷ [] = q.event.events ∙ ap (λ (es : List Event). es ++ e ∷ []) there.1 in
    (to_open new q.follows there.1 (λ z. let y : e ∷ [] ≡ [] = sym one ∙ z in cc), tt)
