use Rattle.std.proofs.Common.{◌≡◌, ℕ, ◌+◌, ◌-◌, ◌<◌, ◌≤◌, ◌||◌, List, length, Some, true, sym, ap, ◌∙◌, arith, map as each, take, get_or}
use Rattle.std.specs.Prelude.{slice_get}
use Rattle.std.specs.Option.{option_map}
use Rattle.std.specs.Ordering.{eq_by_cmp}
use Rattle.std.proofs.lemmas.Option.{slice_get-get_or, slice_get-map}
use Rattle.rsvp_base.specs.Orders.{sessions}
use Rattle.rsvp_base.specs.declared.session.Session.{Session}
use Rattle.router_aging.specs.declared.dead.DeadPath.{DeadPath}
use Rattle.router_aging.proofs.Counts.{any, any_more}
use Rattle.router_aging.proofs.counting.is_again.Goals as goal

abbrev of_row : DeadPath → Session
of_row d = d.session

again : (list : List DeadPath) (i : ℕ) (s : Session) (d : DeadPath) → (i ≡ 0 → ⊥) → i ≤ length list → eq_by_cmp sessions.cmp s (get_or list (i - 1) d).session ≡ true
    → any (take i (each of_row list)) s ≡ true
again list i s d some le same =
    let ss = each of_row list in
    let next : i - 1 + 1 ≡ i = omega (arith, some) in
    let lt : i - 1 < length list = omega (arith, some, le) in
    let at : slice_get ss (i - 1) ≡ Some (get_or list (i - 1) d).session = slice_get-map of_row list (i - 1) ∙ ap (option_map of_row) (slice_get-get_or list (i - 1) d lt) in
    sym (ap (λ n. any (take n ss) s) next) ∙ any_more ss (i - 1) (get_or list (i - 1) d).session s at ∙ ap (λ b. b || any (take (i - 1) ss) s) same

pub returns : goal.returns
returns c = λ t. again c.args.dead.now c.args.i c.args.session _ c.if-i-eq0.false c.requires (sym c.is_of.ensures ∙ t)
