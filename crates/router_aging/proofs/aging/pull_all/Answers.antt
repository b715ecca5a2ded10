use Rattle.std.proofs.Common.{◌≡◌, refl, sym, ap, ◌∙◌, arith}
use Rattle.rsvp_base.specs.Table.{Table, changed, empty, same_rows, size, without}
use Rattle.rsvp_base.proofs.SessionCounts.{size-without}
use Rattle.resv_state.specs.Resvs.{ResvFacts, ResvMap, resv_key}
use Rattle.resv_state.specs.declared.fact.ResvFact.{ResvFact}
use Rattle.style_rules.specs.Lines.{LineKey, line_keys}
use Rattle.resv_admission.specs.State.{resv_at}
use Rattle.blockade_state.specs.Touched.{touched_by}
use Rattle.blockade_state.proofs.Touching.{touched_nobody, touched_pulled}
use Rattle.router_aging.specs.Passed.{sessions_in}
use Rattle.router_aging.proofs.Moves.{still_but}
use Rattle.router_aging.proofs.aging.pull_all.Goals as goal

pub loop-gone-init : goal.loop-gone-init
loop-gone-init g c = record { facts = refl; kept = c.requires; book = λ clock f same but. but; touched = refl; ifaces = refl }

pub pull_dead-requires : goal.pull_dead-requires
pull_dead-requires g c = record { kept = c.loop-gone.invariant.kept }

pub loop-gone-preserved : goal.loop-gone-preserved
loop-gone-preserved g c =
    let st = g.S.Style.kind_is in
    let m = c.loop-gone.table.dead in
    let key : LineKey = resv_key st c.in-Some.gone in
    let is : c.pull_dead.new.table ≡ record c.loop-gone.table { dead = without m key } = c.in-Some.ensures.pulled in
    record {
      facts = ap (λ (t : ResvMap). t.facts) is ∙ c.loop-gone.invariant.facts;
      kept = still_but st c.loop-gone.table c.pull_dead.new.table c.loop-gone.book.entries c.pull_dead.new.book.entries
          (ap (λ (t : ResvMap). t.facts) is) c.loop-gone.invariant.kept c.pull_dead.ensures.book;
      book = λ clock f same but. c.pull_dead.ensures.book clock f (same ∙ ap (λ (m : ResvFacts). changed (resv_at clock) m) (sym c.loop-gone.invariant.facts))
          (c.loop-gone.invariant.book clock f same but);
      touched =
          (λ i. touched_by (sessions_in (is i).dead) (c.touch.ensures i)) ∙ touched_pulled line_keys (λ (k : LineKey). k.0) c.loop-gone.touched key c.in-Some.gone m.rows c.in-Some.ensures.dead
          ∙ c.loop-gone.invariant.touched;
      ifaces = c.pull_dead.ensures.ifaces ∙ c.loop-gone.invariant.ifaces;
    }

pub loop-gone-smaller : goal.loop-gone-smaller
loop-gone-smaller g c =
    let st = g.S.Style.kind_is in
    let m = c.loop-gone.table.dead in
    let less = size-without line_keys m (resv_key st c.in-Some.gone) c.in-Some.gone c.in-Some.ensures.dead in
    let same = ap (λ (t : ResvMap). size t.dead) c.in-Some.ensures.pulled in
    omega (arith, less, same)

pub returns-clause-table : goal.returns-clause-table
returns-clause-table g c =
    let none : c.loop-gone.table.dead ≡ empty = same_rows _ empty (c.in_default.ensures.none refl) in
    c.in_default.ensures.unchanged_table refl ∙ (λ i. record { facts = c.loop-gone.invariant.facts i; dead = none i })

pub returns-clause-touched : goal.returns-clause-touched
returns-clause-touched g c =
    let none : c.loop-gone.table.dead ≡ empty = same_rows _ empty (c.in_default.ensures.none refl) in
    sym (touched_nobody c.loop-gone.touched) ∙ ap (λ (m : Table line_keys ResvFact). touched_by (sessions_in m) c.loop-gone.touched) (sym none) ∙ c.loop-gone.invariant.touched

pub returns-clause-book : goal.returns-clause-book
returns-clause-book g c = λ clock f same but. c.in_default.ensures.whole refl f (c.loop-gone.invariant.book clock f same but)

pub returns-clause-ifaces : goal.returns-clause-ifaces
returns-clause-ifaces g c = c.pull_dead.ensures.ifaces ∙ c.loop-gone.invariant.ifaces
