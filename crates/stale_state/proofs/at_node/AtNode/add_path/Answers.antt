use Rattle.std.proofs.Common.{◌≡◌, Some, sym, ap, subst, ◌∙◌}
use Rattle.std.specs.Prelude.{IfErr, OnOk, Option}
use Rattle.path_state.specs.Paths.{PathMap}
use Rattle.router_rules.specs.Bounds.{AreWithinLimits}
use Rattle.router_rules.specs.Facts.{Facts}
use Rattle.stale_state.specs.Kept.{stale_of}
use Rattle.stale_state.specs.Reserved.{resvs_in}
use Rattle.stale_state.specs.Standing.{IsLeftOut, Stands}
use Rattle.stale_state.specs.Tables.{learnt, paths_of, walls_of}
use Rattle.stale_state.specs.declared.fact.Left.TheVariants as left_as
use Rattle.stale_state.proofs.Answering.{dead_learnt, path_answer}
use Rattle.stale_state.proofs.Admission.{path_stands}
use Rattle.stale_state.proofs.at_node.AtNode.add_path.Goals as goal

pub invariant_of-self : goal.invariant_of-self
invariant_of-self c = record {
  no_path_waits = λ t e.
      let same : c.learn.new.paths ≡ t = cc in
      sym (ap (λ (m : PathMap). m.dead.rows) same) ∙ dead_learnt c.learn.result c.in-Some.paths c.learn.new.paths _ c.learn.ensures.ok c.learn.ensures.err
      ∙ c.args.self.now.no_path_waits c.in-Some.paths c.in-Some.is;
  within = (path_answer c.in-Some.paths c.learn.new.paths (resvs_in c.args.self.now.resvs)
      (walls_of c.args.self.now.walls) c.args.fact c.args.left c.learn.result c.learn.ensures.ok c.learn.ensures.room c.learn.ensures.full c.learn.ensures.why c.learn.ensures.err
      (subst (λ (o : Option PathMap). AreWithinLimits (learnt (paths_of o) (resvs_in c.args.self.now.resvs) (walls_of c.args.self.now.walls))) c.in-Some.is c.args.self.now.within)).limits;
}

pub returns-in-Some-clause-ok : goal.returns-in-Some-clause-ok
returns-in-Some-clause-ok c = λ is.
    subst (λ (o : Option PathMap). OnOk c.learn.result (Stands is (stale_of (left_as.Path c.args.fact) c.args.left)
    (learnt (paths_of o) (resvs_in c.args.self.now.resvs) (walls_of c.args.self.now.walls))
    (learnt (paths_of (Some c.learn.new.paths)) (resvs_in c.args.self.now.resvs) (walls_of c.args.self.now.walls)))) (sym c.in-Some.is)
    ((path_answer c.in-Some.paths c.learn.new.paths (resvs_in c.args.self.now.resvs)
    (walls_of c.args.self.now.walls) c.args.fact c.args.left c.learn.result c.learn.ensures.ok c.learn.ensures.room c.learn.ensures.full c.learn.ensures.why c.learn.ensures.err
    (subst (λ (o : Option PathMap). AreWithinLimits (learnt (paths_of o) (resvs_in c.args.self.now.resvs) (walls_of c.args.self.now.walls))) c.in-Some.is c.args.self.now.within)).ok is)

pub returns-in-Some-clause-refused : goal.returns-in-Some-clause-refused
returns-in-Some-clause-refused c = λ is.
    subst (λ (o : Option PathMap). IfErr c.learn.result (IsLeftOut is (stale_of (left_as.Path c.args.fact) c.args.left)
    (learnt (paths_of o) (resvs_in c.args.self.now.resvs) (walls_of c.args.self.now.walls)))) (sym c.in-Some.is)
    ((path_answer c.in-Some.paths c.learn.new.paths (resvs_in c.args.self.now.resvs)
    (walls_of c.args.self.now.walls) c.args.fact c.args.left c.learn.result c.learn.ensures.ok c.learn.ensures.room c.learn.ensures.full c.learn.ensures.why c.learn.ensures.err
    (subst (λ (o : Option PathMap). AreWithinLimits (learnt (paths_of o) (resvs_in c.args.self.now.resvs) (walls_of c.args.self.now.walls))) c.in-Some.is c.args.self.now.within)).refused is)

pub returns-in_ok-learn-in-None-clause-ok : goal.returns-in_ok-learn-in-None-clause-ok
returns-in_ok-learn-in-None-clause-ok c = λ is.
    let t : PathMap = c.in_ok-paths-in-None.paths in
    let first : learnt (paths_of (Some t)) (resvs_in c.args.self.now.resvs) (walls_of c.args.self.now.walls)
    ≡ learnt (paths_of c.args.self.now.paths) (resvs_in c.args.self.now.resvs) (walls_of c.args.self.now.walls) =
    ap (λ (m : PathMap). learnt (paths_of (Some m)) (resvs_in c.args.self.now.resvs) (walls_of c.args.self.now.walls)) c.in_ok-paths-in-None.ensures
    ∙ ap (λ (o : Option PathMap). learnt (paths_of o) (resvs_in c.args.self.now.resvs) (walls_of c.args.self.now.walls)) (sym c.in-None.is) in
    let second = ap (λ (m : PathMap). learnt (paths_of (Some m)) (resvs_in c.args.self.now.resvs) (walls_of c.args.self.now.walls)) (sym c.in_ok-learn-in-None.ensures.ok) in
    subst (λ (z : Facts × Facts). Stands is (stale_of (left_as.Path c.args.fact) c.args.left) z.0 z.1) (λ i. (first i, second i))
    (path_stands t (resvs_in c.args.self.now.resvs) (walls_of c.args.self.now.walls) c.args.fact c.args.left
    (subst AreWithinLimits (sym first) c.args.self.now.within) c.in_ok-learn-in-None.ensures.room is)
