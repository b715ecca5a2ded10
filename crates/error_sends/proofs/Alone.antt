-- Where nothing else changes, the errors and confirmations of an input are all that is sent.
use Rattle.std.specs.Prelude.{◌≡◌, List, [], ◌∷◌, ◌++◌, None, refl}
use Rattle.std.proofs.Common.{ap, ◌∙◌}
use Rattle.rsvp_base.specs.Table.{empty}
use Rattle.router_rules.specs.Inputs.{Send}
use Rattle.router_rules.specs.Offers.{offers}
use Rattle.router_rules.specs.Sends.{conf_sends, error_sends, path_sends, path_tears, resv_sends, resv_tears}
use Rattle.laws_sends.proofs.Quiet.{nothing_sent}
use Rattle.error_sends.specs.Alone.{AreSentAlone}

none_left : (xs ys : List Send) → xs ++ ys ≡ [] → (xs ≡ []) × (ys ≡ [])
none_left [] ys e = (refl, e)
none_left (x ∷ xs) ys e = absurd (cc)

none_behind : (xs : List Send) → xs ++ [] ≡ xs
none_behind [] = refl
none_behind (x ∷ xs) = ap (λ zs. x ∷ zs) (none_behind xs)

pub sent_alone : AreSentAlone
sent_alone p f es cs h =
    let o = offers p f in
    let rest = path_sends p o o empty ++ resv_sends p p f f empty None in
    let torn = none_left (path_tears p o o) (resv_tears p p f f ++ rest) (nothing_sent p f h) in
    let lanes = none_left (resv_tears p p f f) rest torn.1 in
    (λ i. torn.0 i ++ (lanes.0 i ++ (error_sends es ++ (conf_sends (cs ++ []) ++ lanes.1 i)))) ∙ ap (λ zs. error_sends es ++ zs) (none_behind (conf_sends (cs ++ [])))
