use Rattle.std.proofs.Common.{◌≡◌, ◌+◌, ◌∙◌, ◌<◌, map, drop, ap, refl, get_or, arith}
use Rattle.rsvp_base.specs.Sets.{with_key, with_keys}
use Rattle.rsvp_base.specs.declared.session.Sender.{Sender}
use Rattle.rsvp_base.specs.Styles.{name_of}
use Rattle.network_demand.proofs.Pools.{insert_more, one_name}
use Rattle.network_demand.proofs.locals.names_of.Goals as goal

pub loop-sender-preserved : goal.loop-sender-preserved
loop-sender-preserved g c =
    let i = c.loop-sender.sender-index in
    let d : Sender = record { addr = record { 0 = 0 }; port = 0 } in
    let x : Sender = get_or c.args.senders.now i d in
    let lt : i < 16 = omega (arith, c.loop-sender-test.true, c.requires) in
    let name : c.name_of.result ≡ name_of g.S.Style.kind_is x = c.name_of.ensures ∙ g.met.S.Style.name_by_kind x in
    let more = insert_more c.insert.result c.loop-sender.names c.insert.new.self c.name_of.result i c.insert.ensures.ok c.insert.ensures.full c.loop-sender.invariant.few lt in
    record {
      names = ap (λ m. with_keys m (map (name_of g.S.Style.kind_is) (drop (i + 1) c.args.senders.now))) (more.0 ∙ ap (with_key c.loop-sender.names) name)
          ∙ one_name (name_of g.S.Style.kind_is) c.loop-sender.names c.args.senders.now i d x c.loop-sender-test.true refl ∙ c.loop-sender.invariant.names;
      few = more.1;
    }
