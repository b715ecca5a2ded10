use Rattle.std.proofs.Common.{◌≡◌, ◌∷◌, [], ◌∙◌, map, ap, sym, arith}
use Rattle.std.specs.List.{filter}
use Rattle.rsvp_base.specs.Sets.{with_key, with_keys}
use Rattle.rsvp_base.specs.Table.{size}
use Rattle.rsvp_base.specs.Styles.{name_of}
use Rattle.network_demand.specs.Steps.{goes_over}
use Rattle.network_demand.proofs.Pools.{insert_more, names_with}
use Rattle.network_demand.proofs.wants.add_over.Goals as goal

pub returns-clause-names : goal.returns-clause-names
returns-clause-names g c =
    let p = goes_over c.args.routing.now c.args.group (c.args.hop ∷ []) in
    let name : c.name_of.result ≡ name_of g.S.Style.kind_is c.args.sender = c.name_of.ensures ∙ g.met.S.Style.name_by_kind c.args.sender in
    let more = insert_more c.insert.result c.args.names.now c.insert.new.self c.name_of.result (size c.args.names.now) c.insert.ensures.ok c.insert.ensures.full (omega arith) c.requires in
    λ rest. ap (λ m. with_keys m (map (name_of g.S.Style.kind_is) (filter p rest))) (more.0 ∙ ap (with_key c.args.names.now) name)
    ∙ names_with (name_of g.S.Style.kind_is) p c.args.names.now c.args.sender rest (sym c.goes_over.ensures ∙ c.if-not-goes_over.false)

pub returns-clause-few : goal.returns-clause-few
returns-clause-few g c =
    (insert_more c.insert.result c.args.names.now c.insert.new.self c.name_of.result (size c.args.names.now) c.insert.ensures.ok c.insert.ensures.full (omega arith) c.requires).1
