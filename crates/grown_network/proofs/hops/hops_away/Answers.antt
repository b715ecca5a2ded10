use Rattle.std.proofs.Common.{ℕ, ◌++◌, List, map, ap, subst, ◌∙◌}
use Rattle.rsvp_base.specs.Members.{In}
use Rattle.tree_model.specs.declared.hops.LinkHop.{LinkHop}
use Rattle.grown_network.specs.Hops.{hop_up, hops_away, hops_down, way_up}
use Rattle.grown_network.proofs.Climbs.{way_within}
use Rattle.grown_network.proofs.hops.hops_away.Goals as goal

pub add_hops_up-requires : goal.add_hops_up-requires
add_hops_up-requires c = λ k i. way_within c.args.root c.requires k (subst (λ (xs : List ℕ). In k xs) (c.as_slice.ensures.value ∙ c.in_ok-way.ensures) i)

pub returns : goal.returns
unfolding hops_away
returns c =
    let one = c.as_slice.ensures.value ∙ c.in_ok-way.ensures in
    let two = c.as_slice-2.ensures.value ∙ c.in_ok-way.ensures in
    c.in_ok-add_hops_down.ensures ∙ ap (λ (xs : List ℕ). c.add_hops_up.new.hops.items ++ hops_down xs 63) two
    ∙ ap (λ (ys : List LinkHop). ys ++ hops_down (way_up c.args.root) 63) (c.in_ok-add_hops_up.ensures ∙ ap (λ (ys : List LinkHop). ys ++ map hop_up c.as_slice.result.now) c.new-hops.ensures.items
    ∙ ap (λ (xs : List ℕ). map hop_up xs) one)
