use Rattle.std.proofs.Common.{IfSome, subst}
use Rattle.soft_table.specs.Lists.{IsUpTo}
use Rattle.soft_table.proofs.session_lists.further.Goals as goal

pub key_at-marked-requires : goal.key_at-marked-requires
key_at-marked-requires g c =
    let up_to = subst (λ o. IfSome o (λ s. IsUpTo g.O.RestOrder.rests c.args.keys.now (c.args.session, c.args.rest.now) s)) c.in-Some.is c.pass_marks.ensures in
    (up_to.0, up_to.1)
