use Rattle.std.proofs.Common.{◌≡◌, ◌++◌, ◌∷◌, [], ◌∙◌, List, sym, subst, arith}
use Rattle.std.proofs.lemmas.Grind.{common_steps}
use Rattle.rsvp_base.specs.Members.{In}
use Rattle.rsvp_base.specs.declared.session.Session.{Session}
use Rattle.tree_model.specs.Chains.{NoRepeats}
use Rattle.network_demand.proofs.SessionLists.{among_already, once_push}
use Rattle.network_demand.proofs.clashing.add_once.Goals as goal

pub returns-then-is_among-clause-all : goal.returns-then-is_among-clause-all
returns-then-is_among-clause-all c =
    among_already c.args.found.now.items c.args.session (subst (λ (xs : List Session). In c.args.session xs) c.as_slice.ensures.value (c.is_among.ensures.0 c.if-is_among.true))

pub returns-clause-once : goal.returns-clause-once
returns-clause-once c =
    let pushed : c.push.new.self.items ≡ c.args.found.now.items ++ c.args.session ∷ [] = grind (arith, common_steps) in
    λ once. subst (λ (xs : List Session). NoRepeats xs) (sym pushed)
    (once_push c.args.found.now.items c.args.session once (λ i. let t = c.is_among.ensures.1 (subst (λ (xs : List Session). In c.args.session xs) (sym c.as_slice.ensures.value) i) in
    let z = sym t ∙ c.if-is_among.false in cc))
