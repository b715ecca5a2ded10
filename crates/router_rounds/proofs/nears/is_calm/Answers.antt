use Rattle.std.specs.Prelude.{◌≡◌, ◌==◌, ◌||◌, true, false, List, [], ◌∷◌, length}
use Rattle.std.proofs.Common.{sym, ap, ◌∙◌, arith}
use Rattle.std.proofs.lemmas.Bool.{eqb-true}
use Rattle.rsvp_base.specs.Orders.{sessions}
use Rattle.rsvp_base.specs.Sets.{Set}
use Rattle.rsvp_base.specs.Table.{has, keys}
use Rattle.rsvp_base.specs.declared.session.Session.{Session}
use Rattle.laws_sends.specs.Several.{is_among}
use Rattle.laws_sends.proofs.Grouping.{among_keys}
use Rattle.router_rounds.proofs.Before.{calm_all}
use Rattle.router_rounds.proofs.nears.is_calm.Goals as goal

none_fired : (fired : Set sessions) (list : List Session) → list ≡ keys fired → (length list == 0) ≡ true → (s : Session) → has fired s ≡ false
none_fired fired [] is none s = sym (among_keys fired s) ∙ ap (λ xs. is_among xs s) (sym is)
none_fired fired (x ∷ xs) is none s = let empty : length (x ∷ xs) ≡ 0 = eqb-true (length (x ∷ xs)) 0 none in absurd (omega (arith, empty))

pub returns : goal.returns
returns c = λ t s.
    let touched = calm_all c.args.touched.now (sym c.has_any.ensures ∙ c.if-has_any.false) s in
    let fired = none_fired c.args.fired.now c.as_slice.result.now c.as_slice.ensures.sessions (sym c.is_empty.ensures ∙ t) s in
    λ i. touched i || fired i
