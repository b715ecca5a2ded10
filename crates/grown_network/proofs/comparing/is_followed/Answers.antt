use Rattle.std.proofs.Common.{Some, None, false, true, ◌≡◌}
use Rattle.std.proofs.lemmas.Bool.Decides.{Decides-eqb}
use Rattle.std.proofs.lemmas.Slice.Eq.{strip_prefix_is}
use Rattle.grown_network.proofs.FollowedTexts.{followed}
use Rattle.grown_network.proofs.comparing.is_followed.Goals as goal

pub returns-in-Some : goal.returns-in-Some
returns-in-Some c =
    followed c.args.text.now c.args.front.now c.in-Some.rest.now c.args.line.now c.eq.result
    (strip_prefix_is Decides-eqb c.args.text.now c.args.front.now (Some c.in-Some.rest) c.in-Some.ensures.cases) c.eq.ensures

pub returns-in-None : goal.returns-in-None
returns-in-None c = (λ (t : false ≡ true). absurd (cc), λ e. absurd (strip_prefix_is Decides-eqb c.args.text.now c.args.front.now None c.in-None.ensures.cases c.args.line.now e))
