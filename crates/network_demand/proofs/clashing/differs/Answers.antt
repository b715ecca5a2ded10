use Rattle.std.proofs.Common.{◌≡◌, true, false, List, sym, subst, refl}
use Rattle.std.specs.List.{All}
use Rattle.network_demand.proofs.AllowedLaws.{all_in}
use Rattle.network_demand.proofs.Inside.{index_in}
use Rattle.network_demand.proofs.SessionLists.{taken_all}
use Rattle.rsvp_base.specs.Members.{In}
use Rattle.tree_model.specs.declared.locals.LocalWant.{LocalWant}
use Rattle.network_demand.specs.Misfits.{IsOtherStyle}
use Rattle.network_demand.proofs.clashing.differs.Goals as goal

pub returns-then-is_other_style : goal.returns-then-is_other_style
returns-then-is_other_style c =
    let ws = c.args.wants.now in
    let v : LocalWant = c.other-item.result in (
      λ t. record {
        other = v;
        wanted = subst (λ (x : LocalWant). In x ws) (sym c.other-item.is) (index_in ws c.loop-other.other-index v c.loop-other-test.true);
        differ = c.is_other_style.ensures.0 c.if-is_other_style.true;
      },
      λ d. refl,
    )

pub returns : goal.returns
returns c =
    let ws = c.args.wants.now in
    let none = subst (λ (vs : List LocalWant). All (λ v. ¬ IsOtherStyle v c.args.want.now) vs) (taken_all ws c.loop-other.other-index c.loop-other-test.false c.loop-other.auto.other-index-end) c.loop-other.invariant in (
      λ t. absurd (let z : false ≡ true = t in cc),
      λ d. absurd (all_in (λ v. ¬ IsOtherStyle v c.args.want.now) ws none d.other d.wanted d.differ),
    )
