use Rattle.std.proofs.Common.{ℕ, not, sym, ap, subst, ◌∙◌}
use Rattle.path_state.specs.Paths.{AreByKey, path_keys, via as kept_via}
use Rattle.path_state.specs.declared.fact.PathFact.{PathFact}
use Rattle.rsvp_base.specs.Orders.{Names}
use Rattle.rsvp_base.specs.Sets.{is_none}
use Rattle.rsvp_base.specs.Table.{Table}
use Rattle.error_sends.proofs.Errs.{empty_is, some_via}
use Rattle.error_sends.proofs.resv_err.is_previous_hop.Goals as goal

pub returns : goal.returns
returns c = λ clock n paths.
    let keyed = subst (λ (t : Table path_keys (PathFact × ℕ)). AreByKey t) (sym paths) c.limits.ensures.keyed in
    ap not (empty_is c.senders_via.result c.is_empty.result c.is_empty.ensures) ∙ ap (λ (s : Names). not (is_none s))
    (c.senders_via.ensures ∙ ap (λ (t : Table path_keys (PathFact × ℕ)). kept_via t c.args.session c.args.hop.0 c.args.hop.1) (sym paths))
    ∙ some_via clock n c.args.session c.args.hop keyed
