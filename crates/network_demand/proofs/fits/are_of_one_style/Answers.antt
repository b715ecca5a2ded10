use Rattle.std.proofs.Common.{◌≡◌, List, get_or, true, false, refl, subst}
use Rattle.std.specs.List.{All}
use Rattle.rsvp_base.specs.declared.session.Session.{Session}
use Rattle.network_demand.specs.Fits.{IsOfOneStyle}
use Rattle.network_demand.proofs.SessionLists.{all_more, taken_all}
use Rattle.network_demand.proofs.StyleLists.{styles_told, styles_tested}
use Rattle.network_demand.proofs.fits.are_of_one_style.Goals as goal

pub returns-then-not-is_of_one_style : goal.returns-then-not-is_of_one_style
returns-then-not-is_of_one_style c = (λ t. absurd (let z : false ≡ true = t in cc), λ all. c.if-not-is_of_one_style.ensures.1 (styles_tested c.args.wants.now _ all))

pub loop-session-preserved : goal.loop-session-preserved
loop-session-preserved c =
    let d : Session = record { group = record { 0 = 0 }; proto = 0; port = 0 } in
    let here : IsOfOneStyle c.args.wants.now (get_or c.args.sessions.now c.loop-session.session-index d) = c.is_of_one_style.ensures.0 c.if-not-is_of_one_style.false in
    all_more (IsOfOneStyle c.args.wants.now) c.args.sessions.now c.loop-session.session-index d c.loop-session-test.true c.loop-session.invariant here

pub returns : goal.returns
returns c =
    let all = taken_all c.args.sessions.now c.loop-session.session-index c.loop-session-test.false c.loop-session.auto.session-index-end in
    (λ t. styles_told c.args.wants.now c.args.sessions.now c.requires (subst (λ (ss : List Session). All (IsOfOneStyle c.args.wants.now) ss) all c.loop-session.invariant), λ few. refl)
