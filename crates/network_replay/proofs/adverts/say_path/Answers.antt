use Rattle.std.proofs.Common.{◌≡◌, ◌++◌, ◌∙◌, ap, refl, subst, List, ℕ}
use Rattle.network_flight.specs.Texts.{advert_text}
use Rattle.network_replay.specs.Reporting.{Says}
use Rattle.network_replay.proofs.Reports.{says_unsaid}
use Rattle.network_replay.proofs.adverts.say_path.Goals as goal

pub returns-in-Ok : goal.returns-in-Ok
returns-in-Ok c =
    let text = advert_text c.args.name.now ((c.args.session, c.args.sender), c.args.adspec.now) in
    let line : c.put_path.new.line.items ≡ text = c.in-Ok.ensures ∙ ap (λ (x : List ℕ). x ++ text) c.clear.ensures.items in
    subst (λ (t : List ℕ). Says c.say_line.result c.args.out.now.items c.say_line.new.out.items t) line c.say_line.ensures

pub returns-in-Err : goal.returns-in-Err
returns-in-Err c = says_unsaid c.in-Err.e c.args.out.now.items c.args.out.now.items (advert_text c.args.name.now ((c.args.session, c.args.sender), c.args.adspec.now)) refl
