use Rattle.std.proofs.Common.{◌≡◌, [], List, true, false, ◌∙◌, sym, ap, subst}
use Rattle.std.specs.Prelude.{map as each}
use Rattle.tree_model.specs.Networks.{Net}
use Rattle.tree_model.specs.Valid.{IsValid}
use Rattle.rsvp_base.specs.declared.addr.Addr.{Addr}
use Rattle.tree_model.specs.Trees.{trees_of}
use Rattle.network_replay.specs.Routed.{trees_in}
use Rattle.network_replay.specs.Agreeing.{IsSteady, NetworkState}
use Rattle.network_replay.specs.Posting.{Post}
use Rattle.network_replay.proofs.Opened.{begun_as, opened_of, steady}
use Rattle.network_replay.proofs.world.World.open.Goals as goal

pub invariant_of-result : goal.invariant_of-result
invariant_of-result g c =
    let places = each g.R.Router.seen.place c.args.nodes.items in
    let wires : c.in_ok-mail.mail.net ≡ c.args.routing = ap (λ (m : Post). m.net) c.in_ok-mail.ensures ∙ c.in_ok-wires.ensures in
    let valid : IsValid c.args.routing = subst IsValid c.in_ok-wires.ensures c.routing-valid.ensures.valid in
    let trees : trees_in c.in_ok-routes.routes.items ≡ trees_of c.args.routing.hops = c.in_ok-routes.ensures ∙ ap (λ (n : Net). trees_of n.hops) (c.routing.ensures.net ∙ c.in_ok-wires.ensures) in
    subst (λ (ts : List (Addr × Addr)). IsSteady c.args.quarter c.in_ok-mail.mail.net ts places) (sym trees)
    (subst (λ (n : Net). IsSteady c.args.quarter n (trees_of c.args.routing.hops) places) (sym wires)
    (steady c.args.quarter c.args.routing places valid c.requires.long c.requires.short c.requires.placed))

pub returns-clause-first : goal.returns-clause-first
returns-clause-first g c = λ p by first.
    let net = c.args.routing in
    let posts : c.in_ok-mail.mail ≡ record { net = net; from = 0; flight = []; full = false; in_range = true } = c.in_ok-mail.ensures
    ∙ ap (λ (n : Net). record { net = n; from = 0; flight = []; full = false; in_range = true }) c.in_ok-wires.ensures in
    let trees : trees_in c.in_ok-routes.routes.items ≡ trees_of c.args.routing.hops = c.in_ok-routes.ensures ∙ ap (λ (n : Net). trees_of n.hops) (c.routing.ensures.net ∙ c.in_ok-wires.ensures) in
    let one : NetworkState g.row.R.Denot = begun_as c.args.quarter c.args.seed net c.args.names.items c.args.nodes.items in
    opened_of g.R.Router.seen p c.args.nodes.items c.args.quarter c.args.seed net c.args.names.items by c.requires.placed first
    (record one { post = c.in_ok-mail.mail; trees = trees_in c.in_ok-routes.routes.items })
    (ap (λ (m : Post). record one { post = m; trees = trees_in c.in_ok-routes.routes.items }) posts ∙ ap (λ (ts : List (Addr × Addr)). record one { trees = ts }) trees)
