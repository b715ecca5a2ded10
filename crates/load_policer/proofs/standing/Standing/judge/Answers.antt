use Rattle.std.proofs.Common.{rules}
use Rattle.load_policer.proofs.Fed.{judged_so}
use Rattle.load_policer.proofs.standing.Standing.judge.Goals as goal

pub returns : goal.returns
returns c = λ d st. judged_so d c.args.self.now c.in-Some.policer c.offer-verdict.new.self c.args.at c.args.size c.offer-verdict.result _ st
    (search rules) c.requires.later c.offer-verdict.ensures.exact c.offer-verdict.ensures.flow (search rules)
