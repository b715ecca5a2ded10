use Rattle.std.proofs.Common.{true, sym, ap, subst, ◌∙◌}
use Rattle.rsvp_base.specs.Table.{changed, get, keys}
use Rattle.resv_state.specs.Resvs.{ResvMap}
use Rattle.router_state.specs.State.{resv_at}
use Rattle.resv_admission.specs.Kept.{MovesWith}
use Rattle.resv_admission.specs.Renewed.{IsNoMore}
use Rattle.resv_admission.proofs.Moves.{by_parts, moves_not, names_one_is, parts_entry, tear_moves, tear_no_more, torn_is}
use Rattle.resv_admission.proofs.leaving.tear_names.Goals as goal

pub returns-then-not-remove-clause-had : goal.returns-then-not-remove-clause-had
returns-then-not-remove-clause-had g c b = sym c.if-not-remove.true ∙ c.remove.ensures.had ∙ names_one_is c.args.session (c.args.iface, c.args.next) c.args.gone.now b c.args.table.now.facts

pub returns-then-not-remove-clause-book : goal.returns-then-not-remove-clause-book
returns-then-not-remove-clause-book g c =
    subst (λ (t : ResvMap). MovesWith g.S.Style.kind_is c.args.table.now.facts t.facts c.args.book.now.entries c.args.book.now.entries) (sym (c.remove.ensures.unchanged c.if-not-remove.true))
    (moves_not g.S.Style.kind_is c.args.table.now.facts c.args.book.now.entries)

pub renew_names-requires : goal.renew_names-requires
renew_names-requires g c =
    let st = g.S.Style.kind_is in
    let new = c.remove.new.self.facts in
    record {
      less = λ k t. subst (λ w. IsNoMore w (get c.args.book.now.entries (c.args.iface, k)))
          (sym (parts_entry st new c.args.session c.args.iface c.parts-kept.result (keys c.args.gone.now) c.args.iface k c.parts-kept.ensures t))
          (tear_no_more st c.args.table.now.facts c.look.ensures.style c.args.session (c.args.iface, c.args.next) c.args.gone.now new
          (ap (λ (t : ResvMap). t.facts) c.remove.ensures.facts) c.look-2.ensures.style c.args.book.now.entries c.requires.kept k t);
    }

pub returns-clause-had : goal.returns-clause-had
returns-clause-had g c b = sym c.if-not-remove.false ∙ c.remove.ensures.had ∙ names_one_is c.args.session (c.args.iface, c.args.next) c.args.gone.now b c.args.table.now.facts

pub returns-clause-table : goal.returns-clause-table
returns-clause-table g c b = ap (λ (t : ResvMap). changed (resv_at b) t.facts) c.remove.ensures.facts ∙ torn_is c.args.session (c.args.iface, c.args.next) c.args.gone.now b c.args.table.now.facts

pub returns-clause-book : goal.returns-clause-book
returns-clause-book g c =
    let st = g.S.Style.kind_is in
    let new = c.remove.new.self.facts in
    tear_moves st c.args.table.now.facts c.look.ensures.style c.args.session (c.args.iface, c.args.next) c.args.gone.now new
    (ap (λ (t : ResvMap). t.facts) c.remove.ensures.facts) c.look-2.ensures.style c.args.book.now.entries c.renew_names.new.book.entries
    (by_parts st new c.args.session c.args.iface c.parts-kept.result (keys c.args.gone.now) c.args.book.now.entries c.renew_names.new.book.entries c.parts-kept.ensures c.renew_names.ensures.entries)
