use Rattle.std.proofs.Common.{◌≡◌, Some, sym, ap, subst, ◌∙◌}
use Rattle.std.specs.Prelude.{IfErr, OnOk, Option}
use Rattle.blockade_state.specs.Blockades.{WallMap}
use Rattle.router_rules.specs.Bounds.{AreWithinLimits}
use Rattle.router_rules.specs.Facts.{Facts}
use Rattle.stale_state.specs.Kept.{stale_of}
use Rattle.stale_state.specs.Reserved.{resvs_in}
use Rattle.stale_state.specs.Standing.{IsLeftOut, Stands}
use Rattle.stale_state.specs.Tables.{learnt, paths_of, walls_of}
use Rattle.stale_state.specs.declared.fact.Left.TheVariants as left_as
use Rattle.stale_state.proofs.Answering.{wall_answer}
use Rattle.stale_state.proofs.Admission.{wall_stands}
use Rattle.stale_state.proofs.at_node.AtNode.add_wall.Goals as goal

pub invariant_of-self : goal.invariant_of-self
invariant_of-self c = record {
  no_path_waits = c.args.self.now.no_path_waits;
  within = (wall_answer (paths_of c.args.self.now.paths)
      (resvs_in c.args.self.now.resvs) c.in-Some.walls c.set.new.walls c.args.session c.args.target c.args.wall c.args.left c.set.result c.set.ensures.ok c.set.ensures.room c.set.ensures.full
      c.set.ensures.why c.set.ensures.err
      (subst (λ (o : Option WallMap). AreWithinLimits (learnt (paths_of c.args.self.now.paths) (resvs_in c.args.self.now.resvs) (walls_of o))) c.in-Some.is c.args.self.now.within)).limits;
}

pub returns-in-Some-clause-ok : goal.returns-in-Some-clause-ok
returns-in-Some-clause-ok c = λ is.
    subst (λ (o : Option WallMap). OnOk c.set.result (Stands is (stale_of (left_as.Wall c.args.session c.args.target c.args.wall) c.args.left)
    (learnt (paths_of c.args.self.now.paths) (resvs_in c.args.self.now.resvs) (walls_of o))
    (learnt (paths_of c.args.self.now.paths) (resvs_in c.args.self.now.resvs) (walls_of (Some c.set.new.walls))))) (sym c.in-Some.is)
    ((wall_answer (paths_of c.args.self.now.paths)
    (resvs_in c.args.self.now.resvs) c.in-Some.walls c.set.new.walls c.args.session c.args.target c.args.wall c.args.left c.set.result c.set.ensures.ok c.set.ensures.room c.set.ensures.full
    c.set.ensures.why c.set.ensures.err
    (subst (λ (o : Option WallMap). AreWithinLimits (learnt (paths_of c.args.self.now.paths) (resvs_in c.args.self.now.resvs) (walls_of o))) c.in-Some.is c.args.self.now.within)).ok is)

pub returns-in-Some-clause-refused : goal.returns-in-Some-clause-refused
returns-in-Some-clause-refused c = λ is.
    subst (λ (o : Option WallMap). IfErr c.set.result (IsLeftOut is (stale_of (left_as.Wall c.args.session c.args.target c.args.wall) c.args.left)
    (learnt (paths_of c.args.self.now.paths) (resvs_in c.args.self.now.resvs) (walls_of o)))) (sym c.in-Some.is)
    ((wall_answer (paths_of c.args.self.now.paths)
    (resvs_in c.args.self.now.resvs) c.in-Some.walls c.set.new.walls c.args.session c.args.target c.args.wall c.args.left c.set.result c.set.ensures.ok c.set.ensures.room c.set.ensures.full
    c.set.ensures.why c.set.ensures.err
    (subst (λ (o : Option WallMap). AreWithinLimits (learnt (paths_of c.args.self.now.paths) (resvs_in c.args.self.now.resvs) (walls_of o))) c.in-Some.is c.args.self.now.within)).refused is)

pub returns-in_ok-set-in-None-clause-ok : goal.returns-in_ok-set-in-None-clause-ok
returns-in_ok-set-in-None-clause-ok c = λ is.
    let t : WallMap = c.in_ok-walls-in-None.walls in
    let first : learnt (paths_of c.args.self.now.paths) (resvs_in c.args.self.now.resvs) (walls_of (Some t))
    ≡ learnt (paths_of c.args.self.now.paths) (resvs_in c.args.self.now.resvs) (walls_of c.args.self.now.walls) =
    ap (λ (m : WallMap). learnt (paths_of c.args.self.now.paths) (resvs_in c.args.self.now.resvs) (walls_of (Some m))) c.in_ok-walls-in-None.ensures
    ∙ ap (λ (o : Option WallMap). learnt (paths_of c.args.self.now.paths) (resvs_in c.args.self.now.resvs) (walls_of o)) (sym c.in-None.is) in
    let second = ap (λ (m : WallMap). learnt (paths_of c.args.self.now.paths) (resvs_in c.args.self.now.resvs) (walls_of (Some m))) (sym c.in_ok-set-in-None.ensures.ok) in
    subst (λ (z : Facts × Facts). Stands is (stale_of (left_as.Wall c.args.session c.args.target c.args.wall) c.args.left) z.0 z.1) (λ i. (first i, second i))
    (wall_stands (paths_of c.args.self.now.paths) (resvs_in c.args.self.now.resvs) t c.args.session c.args.target c.args.wall c.args.left
    (subst AreWithinLimits (sym first) c.args.self.now.within) c.in_ok-set-in-None.ensures.room is)
