use Rattle.std.proofs.Common.{sym, ap, subst, ◌∙◌}
use Rattle.rsvp_base.specs.Table.{changed, empty}
use Rattle.resv_state.specs.Resvs.{ResvFacts, ResvMap}
use Rattle.laws_bounds.proofs.Leaving.{table_put}
use Rattle.resv_admission.specs.State.{resv_at}
use Rattle.blockade_state.specs.Touched.{touched_by}
use Rattle.resv_admission.specs.Kept.{IsBookOf, facts_with}
use Rattle.router_aging.specs.Passed.{sessions_in}
use Rattle.router_aging.proofs.aging.age_resvs.Goals as goal

pub pull_all-requires : goal.pull_all-requires
pull_all-requires g c =
    let st = g.S.Style.kind_is in
    let k = c.requires.kept in
    record {
      clock = k.clock;
      facts = facts_with st k.clock c.age.new.table.facts k.facts;
      resvs = table_put st (changed (resv_at k.clock) c.age.new.table.facts) k.facts.resvs;
      book = c.age.ensures.book k.clock k.clock k.facts c.args.book.now.entries k.resvs k.book;
    }

pub returns-clause-table : goal.returns-clause-table
returns-clause-table g c = c.pull_all.ensures.table ∙ (λ i. record { facts = c.age.ensures.facts i; dead = empty })

pub returns-clause-touched : goal.returns-clause-touched
returns-clause-touched g c = c.pull_all.ensures.touched ∙ (λ i. touched_by (sessions_in (c.age.ensures.dead i)) c.args.touched.now)

pub returns-clause-book : goal.returns-clause-book
returns-clause-book g c = λ clock later f same book.
    let st = g.S.Style.kind_is in
    let last = c.pull_all.ensures.book later (facts_with st later c.age.new.table.facts f) (table_put st (changed (resv_at later) c.age.new.table.facts) f.resvs)
    (c.age.ensures.book clock later f c.args.book.now.entries same book) in
    let kept = ap (λ (t : ResvMap). t.facts) c.pull_all.ensures.table in
    subst (λ (m : ResvFacts). IsBookOf (facts_with st later m f) c.pull_all.new.book.entries) (sym kept) last
