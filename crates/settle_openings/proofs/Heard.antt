-- A Resv that is heard as taken makes no error.
use Rattle.std.proofs.Common.{◌≡◌, ℕ, List, [], ◌∷◌, Bool, true, false, cond, refl, sym, ap, ◌∙◌}
use Rattle.std.specs.Ordering.{is_lt}
use Rattle.laws_bounds.proofs.Tests.{addr_tested}
use Rattle.laws_steps.specs.AcceptingLaws.{IsTakenWhole, came_resv}
use Rattle.router_rules.specs.declared.answers.Heard.TheVariants as heard
use Rattle.router_rules.specs.Act.{act, act_spelt}
use Rattle.router_rules.specs.Asking.{act_resv, answered, err_place, err_places, errors_in_order, heard_of, taking}
use Rattle.router_rules.specs.Facts.{Facts}
use Rattle.router_rules.specs.Inputs.{Change, ErrMsg, ErrSend, OfPath, OfResv, in_order, put_in_order}
use Rattle.router_rules.specs.Lines.{Line}
use Rattle.router_rules.specs.NodeConfig.{NodeConfig, own}
use Rattle.router_rules.specs.RsvpMessages.declared.message.Message.TheVariants as message
use Rattle.router_rules.specs.RsvpMessages.declared.message.ResvMsg.{ResvMsg}

put_some : (x : ErrSend) (ys : List ErrSend) → (z : ErrSend) × (zs : List ErrSend) × (put_in_order err_places err_place x ys ≡ z ∷ zs)
put_some x [] = (x, [], refl)
put_some x (y ∷ ys) = by (is_lt (err_places.cmp (err_place y) (err_place x)))
  where
    by : (b : Bool) → (z : ErrSend) × (zs : List ErrSend) × (cond b (y ∷ put_in_order err_places err_place x ys) (x ∷ y ∷ ys) ≡ z ∷ zs)
    by true = (y, put_in_order err_places err_place x ys, refl)
    by false = (x, y ∷ ys, refl)

not_answered : (e : ErrMsg) → answered e ≡ heard.Taken → ⊥
not_answered (OfPath m) e = cc
not_answered (OfResv m) e = cc

heard_none : (errors : List ErrSend) (out : Bool) → heard_of (errors_in_order errors) out ≡ heard.Taken → errors ≡ []
heard_none [] out e = refl
heard_none (x ∷ xs) out e =
    let r = put_some x (in_order err_places err_place xs) in
    absurd (not_answered r.0.error (ap (λ (zs : List ErrSend). heard_of zs out) (sym r.2) ∙ e))

pub no_error_made : (p : NodeConfig) (c e : ℕ) (m : ResvMsg) (f : Facts) (gs : List Line) → IsTakenWhole p p c e m f gs → (act p c (came_resv p e m) f).errors ≡ []
no_error_made p c e m f gs taken =
    let act_is : act p c (came_resv p e m) f ≡ act_resv p c e m f = ap (λ (b : Bool). act_spelt p c e (message.Resv m) b f) (addr_tested (own p e) (own p e) refl) in
    let heard_is : heard_of (errors_in_order (taking p c e m f).errors) (taking p c e m f).left_out ≡ heard.Taken = ap (λ (k : Change). k.heard) (sym act_is) ∙ taken.heard_it in
    ap (λ (k : Change). k.errors) act_is ∙ heard_none (taking p c e m f).errors (taking p c e m f).left_out heard_is
