use Rattle.std.proofs.Common.{sym, ap, ◌∙◌}
use Rattle.router_rules.specs.NodeConfig.{tree}
use Rattle.laws_sends.specs.Seen.{wall_seen, way_seen}
use Rattle.laws_sends.specs.Routes.{ways_out}
use Rattle.path_sends.proofs.via.line_for.Goals as goal

pub returns : goal.returns
unfolding way_seen wall_seen
returns c = λ clock n at aw.
    let name = c.name_of-name.ensures in
    let here = sym at in
    let outward = c.ways_of-outward.ensures ∙ (λ i. ways_out (tree (here i) c.args.session (name i))) in
    let wall = c.wall_for-wall.ensures clock n aw ∙ ap (λ z. wall_seen clock n c.args.session c.args.style c.args.hop z) name in
    λ i. (name i, record { outward = outward i; wall = wall i })
