use Rattle.std.proofs.Common.{◌∙◌, List, subst, sym}
use Rattle.rsvp_base.specs.Members.{In}
use Rattle.rsvp_base.specs.declared.session.Session.{Session}
use Rattle.tree_model.specs.Chains.{NoRepeats}
use Rattle.network_demand.proofs.SessionLists.{among_already, once_push}
use Rattle.network_demand.proofs.allowed.keep.Goals as goal

pub returns-then-is_among-clause-kept : goal.returns-then-is_among-clause-kept
returns-then-is_among-clause-kept c = λ t.
    among_already c.args.found.now.items c.args.session (subst (λ (xs : List Session). In c.args.session xs) c.as_slice.ensures.value (c.is_among.ensures.0 c.if-is_among.true))

pub returns-clause-once : goal.returns-clause-once
returns-clause-once c = λ once.
    subst (λ (xs : List Session). NoRepeats xs) (sym c.push.ensures.items)
    (once_push c.args.found.now.items c.args.session once (λ i. let t = c.is_among.ensures.1 (subst (λ (xs : List Session). In c.args.session xs) (sym c.as_slice.ensures.value) i) in
    let z = sym t ∙ c.if-is_among.false in cc))
