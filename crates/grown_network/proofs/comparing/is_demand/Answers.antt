use Rattle.std.proofs.Common.{◌≡◌, List, ℕ, ◌++◌, true, sym, ap, ◌∙◌}
use Rattle.network_model.specs.DemandTexts.{last_line}
use Rattle.grown_network.proofs.FollowedTexts.{compared}
use Rattle.grown_network.proofs.comparing.is_demand.Goals as goal

pub returns : goal.returns
returns c = λ told is.
    let line : c.as_slice.result.now ≡ last_line c.args.longest true = c.as_slice.ensures.value ∙ c.in_ok-put_last.ensures
    ∙ ap (λ (xs : List ℕ). xs ++ last_line c.args.longest true) c.new-last.ensures.items in
    compared c.args.report.now c.args.demand.now told c.as_slice.result.now c.is_followed.result c.is_followed.ensures (is ∙ ap (λ (xs : List ℕ). told ++ xs) (sym line))
