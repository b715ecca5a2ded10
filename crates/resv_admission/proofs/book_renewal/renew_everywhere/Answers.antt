use Rattle.std.proofs.Common.{refl, sym, ap, subst, ◌∙◌, arith, ◌≤◌, length}
use Rattle.rsvp_base.specs.Table.{get}
use Rattle.style_rules.specs.Merge.{PartTable}
use Rattle.resv_admission.specs.Kept.{flow_in}
use Rattle.resv_admission.specs.Renewed.{IsNoMore, entry_in}
use Rattle.resv_admission.proofs.Renewals.{everywhere, not_yet, one_more, to_start}
use Rattle.resv_admission.proofs.book_renewal.renew_everywhere.Goals as goal

pub renew-requires : goal.renew-requires
renew-requires g c =
    let now = entry_in g.S.Style.kind_is c.args.table.now.facts in
    let same = not_yet c.args.key.now now c.loop-iface.iface c.args.book.now.entries c.loop-iface.book.entries c.loop-iface.invariant.done in
    subst (λ w. IsNoMore w (get c.loop-iface.book.entries (c.loop-iface.iface, c.args.key.now)))
    (sym (c.flow_of-now.ensures ∙ ap (λ (ps : PartTable). flow_in (get ps c.args.key.now.unit)) c.parts.ensures))
    (subst (λ w. IsNoMore (now c.loop-iface.iface c.args.key.now) w) (sym same) (c.requires.less c.loop-iface.iface))

pub loop-iface-init : goal.loop-iface-init
loop-iface-init g c = record { done = to_start c.args.key.now (entry_in g.S.Style.kind_is c.args.table.now.facts) c.args.book.now.entries; ifaces = refl }

pub loop-iface-preserved : goal.loop-iface-preserved
loop-iface-preserved g c =
    let now = entry_in g.S.Style.kind_is c.args.table.now.facts in
    record {
      done = one_more c.args.key.now now c.loop-iface.iface c.args.book.now.entries c.loop-iface.book.entries c.renew.new.book.entries c.flow_of-now.result
          (c.flow_of-now.ensures ∙ ap (λ (ps : PartTable). flow_in (get ps c.args.key.now.unit)) c.parts.ensures) c.loop-iface.invariant.done c.renew.ensures.entries;
      ifaces = c.renew.ensures.ifaces ∙ c.loop-iface.invariant.ifaces;
    }

pub returns-clause-entries : goal.returns-clause-entries
returns-clause-entries g c =
    let few : length c.args.book.now.ifaces ≤ c.loop-iface.iface = omega (arith, c.requires.few, c.loop-iface-test.false) in
    everywhere c.args.key.now (entry_in g.S.Style.kind_is c.args.table.now.facts) c.args.book.now c.loop-iface.book.entries c.loop-iface.iface c.look_at.ensures few c.requires.less
    c.loop-iface.invariant.done
