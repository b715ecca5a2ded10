use Rattle.std.proofs.Common.{◌≡◌, sym, ap, subst, ◌∙◌}
use Rattle.std.specs.Prelude.{IfErr, IfSome, List, OnOk, Option, Result}
use Rattle.std.proofs.lemmas.Result.{err_from_is_err_and}
use Rattle.rsvp_base.specs.declared.iface.Iface.{Iface}
use Rattle.router_rules.specs.Bounds.{AreWithinLimits}
use Rattle.router_rules.specs.Facts.{Facts, ResvTables}
use Rattle.stale_state.specs.AtNodes.{ifaces_at_node}
use Rattle.stale_state.specs.Kept.{facts_of, stale_of}
use Rattle.stale_state.specs.Reserved.{ifaces_in, resvs_in, tables_in}
use Rattle.stale_state.specs.Standing.{IsLeftOut, Stands, answer_of}
use Rattle.stale_state.specs.Tables.{learnt, paths_of, walls_of}
use Rattle.stale_state.specs.declared.fact.Left.TheVariants as left_as
use Rattle.stale_state.specs.declared.refused.LeftErr.{LeftErr}
use Rattle.stale_state.specs.declared.resvs.ResvsLeft.{ResvsLeft}
use Rattle.stale_state.proofs.Answering.{resv_answer}
use Rattle.stale_state.proofs.at_node.AtNode.add_resv.Goals as goal

pub returns-in-Some-clause-ok : goal.returns-in-Some-clause-ok
returns-in-Some-clause-ok c =
    let r = c.in-Some.resvs in
    let same : r.book.ifaces ≡ ifaces_at_node c.args.ends.now c.args.node = subst (λ (o : Option ResvsLeft). IfSome (ifaces_in o)
    (λ is. is ≡ ifaces_at_node c.args.ends.now c.args.node)) c.in-Some.is c.requires.booked in
    let a = resv_answer r.book.ifaces (paths_of c.args.self.now.paths) (walls_of c.args.self.now.walls) (tables_in r)
    (tables_in c.stand.new.self) c.args.style c.args.fact c.args.left c.iface-on.result c.iface-on.ensures c.stand.result c.stand.ensures.cause c.stand.ensures.tables
    (subst (λ (o : Option ResvsLeft). AreWithinLimits (learnt (paths_of c.args.self.now.paths) (resvs_in o) (walls_of c.args.self.now.walls))) c.in-Some.is c.args.self.now.within) r.admitted in
    subst (λ (x : Result (Unit {0}) LeftErr). OnOk x (Stands (ifaces_at_node c.args.ends.now c.args.node) (stale_of (left_as.Resv c.args.style c.args.fact) c.args.left) (facts_of c.args.self.now)
    (learnt (paths_of c.args.self.now.paths) (tables_in c.stand.new.self) (walls_of c.args.self.now.walls)))) (sym c.answer.ensures)
    (subst (λ (o : Option ResvsLeft). OnOk (answer_of c.iface-on.result c.stand.result) (Stands (ifaces_at_node c.args.ends.now c.args.node)
    (stale_of (left_as.Resv c.args.style c.args.fact) c.args.left) (learnt (paths_of c.args.self.now.paths) (resvs_in o) (walls_of c.args.self.now.walls))
    (learnt (paths_of c.args.self.now.paths) (tables_in c.stand.new.self) (walls_of c.args.self.now.walls)))) (sym c.in-Some.is)
    (subst (λ (is : List Iface). OnOk (answer_of c.iface-on.result c.stand.result) (Stands is (stale_of (left_as.Resv c.args.style c.args.fact) c.args.left)
    (learnt (paths_of c.args.self.now.paths) (tables_in r) (walls_of c.args.self.now.walls))
    (learnt (paths_of c.args.self.now.paths) (tables_in c.stand.new.self) (walls_of c.args.self.now.walls)))) same a.ok))

pub returns-in-Some-clause-refused : goal.returns-in-Some-clause-refused
returns-in-Some-clause-refused c =
    let r = c.in-Some.resvs in
    let same : r.book.ifaces ≡ ifaces_at_node c.args.ends.now c.args.node = subst (λ (o : Option ResvsLeft). IfSome (ifaces_in o)
    (λ is. is ≡ ifaces_at_node c.args.ends.now c.args.node)) c.in-Some.is c.requires.booked in
    let a = resv_answer r.book.ifaces (paths_of c.args.self.now.paths) (walls_of c.args.self.now.walls) (tables_in r)
    (tables_in c.stand.new.self) c.args.style c.args.fact c.args.left c.iface-on.result c.iface-on.ensures c.stand.result c.stand.ensures.cause c.stand.ensures.tables
    (subst (λ (o : Option ResvsLeft). AreWithinLimits (learnt (paths_of c.args.self.now.paths) (resvs_in o) (walls_of c.args.self.now.walls))) c.in-Some.is c.args.self.now.within) r.admitted in
    subst (λ (x : Result (Unit {0}) LeftErr). IfErr x (IsLeftOut (ifaces_at_node c.args.ends.now c.args.node) (stale_of (left_as.Resv c.args.style c.args.fact) c.args.left)
    (facts_of c.args.self.now))) (sym c.answer.ensures)
    (subst (λ (o : Option ResvsLeft). IfErr (answer_of c.iface-on.result c.stand.result) (IsLeftOut (ifaces_at_node c.args.ends.now c.args.node)
    (stale_of (left_as.Resv c.args.style c.args.fact) c.args.left) (learnt (paths_of c.args.self.now.paths) (resvs_in o) (walls_of c.args.self.now.walls)))) (sym c.in-Some.is)
    (subst (λ (is : List Iface). IfErr (answer_of c.iface-on.result c.stand.result) (IsLeftOut is (stale_of (left_as.Resv c.args.style c.args.fact) c.args.left)
    (learnt (paths_of c.args.self.now.paths) (tables_in r) (walls_of c.args.self.now.walls)))) same a.refused))

pub returns-in_err-answer-in-None-clause-refused : goal.returns-in_err-answer-in-None-clause-refused
returns-in_err-answer-in-None-clause-refused c =
    let r = c.in_ok-resvs-in-None.resvs in
    let same : r.book.ifaces ≡ ifaces_at_node c.args.ends.now c.args.node = c.in_ok-resvs-in-None.ensures.ifaces ∙ c.in_ok-ifaces-in-None.ensures in
    let first : learnt (paths_of c.args.self.now.paths) (tables_in r) (walls_of c.args.self.now.walls) ≡ facts_of c.args.self.now =
    ap (λ (ts : ResvTables). learnt (paths_of c.args.self.now.paths) ts (walls_of c.args.self.now.walls)) c.in_ok-resvs-in-None.ensures.none
    ∙ ap (λ (o : Option ResvsLeft). learnt (paths_of c.args.self.now.paths) (resvs_in o) (walls_of c.args.self.now.walls)) (sym c.in-None.is) in
    let a = resv_answer r.book.ifaces (paths_of c.args.self.now.paths) (walls_of c.args.self.now.walls) (tables_in r)
    (tables_in c.stand-in-None.new.self) c.args.style c.args.fact c.args.left c.iface-on-in-None.result c.iface-on-in-None.ensures c.stand-in-None.result c.stand-in-None.ensures.cause
    c.stand-in-None.ensures.tables
    (subst AreWithinLimits (sym first) c.args.self.now.within) r.admitted in
    let p = err_from_is_err_and c.from_residual-in_err-answer-in-None.result c.from_residual-in_err-answer-in-None.ensures.1 in
    rw (p.1, p.2)
    (subst (λ (x : Result (Unit {0}) LeftErr). IfErr x (IsLeftOut (ifaces_at_node c.args.ends.now c.args.node) (stale_of (left_as.Resv c.args.style c.args.fact) c.args.left)
    (facts_of c.args.self.now))) (sym c.in_err-answer-in-None.ensures)
    (subst (λ (f : Facts). IfErr (answer_of c.iface-on-in-None.result c.stand-in-None.result)
    (IsLeftOut (ifaces_at_node c.args.ends.now c.args.node) (stale_of (left_as.Resv c.args.style c.args.fact) c.args.left) f)) first
    (subst (λ (is : List Iface). IfErr (answer_of c.iface-on-in-None.result c.stand-in-None.result)
    (IsLeftOut is (stale_of (left_as.Resv c.args.style c.args.fact) c.args.left) (learnt (paths_of c.args.self.now.paths) (tables_in r) (walls_of c.args.self.now.walls)))) same a.refused)))

pub returns-in_ok-answer-in-None-clause-ok : goal.returns-in_ok-answer-in-None-clause-ok
returns-in_ok-answer-in-None-clause-ok c =
    let r = c.in_ok-resvs-in-None.resvs in
    let same : r.book.ifaces ≡ ifaces_at_node c.args.ends.now c.args.node = c.in_ok-resvs-in-None.ensures.ifaces ∙ c.in_ok-ifaces-in-None.ensures in
    let first : learnt (paths_of c.args.self.now.paths) (tables_in r) (walls_of c.args.self.now.walls) ≡ facts_of c.args.self.now =
    ap (λ (ts : ResvTables). learnt (paths_of c.args.self.now.paths) ts (walls_of c.args.self.now.walls)) c.in_ok-resvs-in-None.ensures.none
    ∙ ap (λ (o : Option ResvsLeft). learnt (paths_of c.args.self.now.paths) (resvs_in o) (walls_of c.args.self.now.walls)) (sym c.in-None.is) in
    let a = resv_answer r.book.ifaces (paths_of c.args.self.now.paths) (walls_of c.args.self.now.walls) (tables_in r)
    (tables_in c.stand-in-None.new.self) c.args.style c.args.fact c.args.left c.iface-on-in-None.result c.iface-on-in-None.ensures c.stand-in-None.result c.stand-in-None.ensures.cause
    c.stand-in-None.ensures.tables
    (subst AreWithinLimits (sym first) c.args.self.now.within) r.admitted in
    subst (λ (x : Result (Unit {0}) LeftErr). OnOk x (Stands (ifaces_at_node c.args.ends.now c.args.node) (stale_of (left_as.Resv c.args.style c.args.fact) c.args.left) (facts_of c.args.self.now)
    (learnt (paths_of c.args.self.now.paths) (tables_in c.stand-in-None.new.self) (walls_of c.args.self.now.walls)))) (sym c.in_ok-answer-in-None.ensures)
    (subst (λ (f : Facts). OnOk (answer_of c.iface-on-in-None.result c.stand-in-None.result)
    (Stands (ifaces_at_node c.args.ends.now c.args.node) (stale_of (left_as.Resv c.args.style c.args.fact) c.args.left) f
    (learnt (paths_of c.args.self.now.paths) (tables_in c.stand-in-None.new.self) (walls_of c.args.self.now.walls)))) first
    (subst (λ (is : List Iface). OnOk (answer_of c.iface-on-in-None.result c.stand-in-None.result)
    (Stands is (stale_of (left_as.Resv c.args.style c.args.fact) c.args.left) (learnt (paths_of c.args.self.now.paths) (tables_in r) (walls_of c.args.self.now.walls))
    (learnt (paths_of c.args.self.now.paths) (tables_in c.stand-in-None.new.self) (walls_of c.args.self.now.walls)))) same a.ok))
