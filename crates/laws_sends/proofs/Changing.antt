-- What is sent where one sender changed.
use Rattle.std.specs.Prelude.{◌≡◌, ◌++◌, refl}
use Rattle.std.specs.List.{filter_map, flat_map}
use Rattle.std.specs.Ordering.{eq_by_cmp}
use Rattle.std.proofs.Common.{ap, ◌∙◌}
use Rattle.rsvp_base.specs.Orders.{sessions}
use Rattle.rsvp_base.specs.Table.{empty}
use Rattle.router_state.specs.RouterRules.Inputs.{only_heard}
use Rattle.router_state.specs.RouterRules.Offers.{offers}
use Rattle.router_state.specs.RouterRules.Sends.{conf_sends, confirmed, error_sends, path_sends, path_tears, resv_send_to, resv_sends, resv_tear, resv_tears}
use Rattle.laws_sends.specs.SendsHere.{OneSenderIsTold, OneSessionIsTold}
use Rattle.laws_sends.proofs.Elsewhere.{resv_sends_here, resv_tears_here}
use Rattle.laws_sends.proofs.Lanes.{lanes_in_order}
use Rattle.laws_sends.proofs.Onward.{onward_told, tears_onward}

pub one_session_is_told : OneSessionIsTold
one_session_is_told p k f g c at none =
    let tears = tears_onward k p f g at.others in
    let paths = onward_told k p f g at.others in
    let torn = resv_tears_here p (eq_by_cmp sessions.cmp k.0) f g at.elsewhere ∙ ap (flat_map (resv_tear p p f g)) (lanes_in_order k.0 f) in
    let sent = resv_sends_here p (eq_by_cmp sessions.cmp k.0) f g at.elsewhere empty c.asked (λ s e. refl) ∙ ap (filter_map (resv_send_to p p f g empty c.asked)) (lanes_in_order k.0 g) in
    (λ i. path_tears p (offers p f) (offers p g) ++ (resv_tears p p f g ++ (error_sends c.errors ++
    (conf_sends (c.confs ++ confirmed p p f g c.asked) ++ (path_sends p (offers p f) (offers p g) (none i) ++ resv_sends p p f g (none i) c.asked)))))
    ∙ (λ i. tears i ++ (torn i ++ (error_sends c.errors ++ (conf_sends (c.confs ++ confirmed p p f g c.asked) ++ (paths i ++ sent i)))))

pub one_sender_is_told : OneSenderIsTold
one_sender_is_told p k f g h at = one_session_is_told p k f g (only_heard h g) at refl
