use Rattle.std.proofs.Common.{◌≡◌, ℕ, suc, ◌+◌, ◌-◌, ◌∙◌, List, length, ap, refl, sym, arith}
use Rattle.tree_routing.specs.Levels.{lifts}
use Rattle.tree_routing.proofs.LevelLaws.{settled}
use Rattle.tree_routing.proofs.levels.settle.Goals as goal

pub loop-pass-preserved : goal.loop-pass-preserved
loop-pass-preserved c =
    let e : length c.args.hops.now - c.loop-pass._pass ≡ suc (length c.args.hops.now - (c.loop-pass._pass + 1)) = omega arith in
    ap (λ (ls : List ℕ). lifts (length c.args.hops.now - (c.loop-pass._pass + 1)) c.args.hops.now ls) c.lift_all.ensures.lifted
    ∙ sym (ap (λ (n : ℕ). lifts n c.args.hops.now c.loop-pass.levels) e) ∙ c.loop-pass.invariant

pub returns-then-not-lift_all : goal.returns-then-not-lift_all
returns-then-not-lift_all c =
    settled (length c.args.hops.now - c.loop-pass._pass) c.args.hops.now c.loop-pass.levels c.lift_all.new.levels
    (lifts (length c.args.hops.now) c.args.hops.now c.args.levels.now) c.lift_all.ensures.lifted (c.if-not-lift_all.ensures.still refl) c.loop-pass.invariant
