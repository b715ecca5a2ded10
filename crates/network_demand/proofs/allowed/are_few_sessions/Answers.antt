use Rattle.std.proofs.Common.{◌≡◌, List, map, true, false, refl, subst, sym}
use Rattle.rsvp_base.specs.Members.{In}
use Rattle.tree_model.specs.declared.locals.LocalWant.{LocalWant}
use Rattle.network_demand.proofs.SessionLists.{few_told, many_told, named_before, named_there, one_more_of, taken_all}
use Rattle.network_demand.proofs.allowed.are_few_sessions.Goals as goal

pub returns-then-not-keep : goal.returns-then-not-keep
returns-then-not-keep c =
    let w : LocalWant = c.want-item.result in
    let ws = c.args.wants.now in
    let i = c.loop-want.want-index in
    let kept = c.loop-want.invariant in
    let full = c.if-not-keep.ensures.full refl in (
      λ t. absurd (let z : false ≡ true = t in cc),
      λ few. absurd
          (many_told (map (λ (x : LocalWant). x.session) ws) c.loop-want.found.items w.session kept.once full.1
          (named_there (λ (x : LocalWant). x.session) ws i w w w.session c.loop-want-test.true c.want-item.is refl)
          (λ z j. named_before (λ (x : LocalWant). x.session) ws i z ((kept.all z).0 j)) full.0 few),
    )

pub loop-want-preserved : goal.loop-want-preserved
loop-want-preserved c =
    record {
      few = c.keep.ensures.few;
      once = c.keep.ensures.once c.loop-want.invariant.once;
      all = one_more_of (λ (x : LocalWant). x.session) c.loop-want.found.items c.keep.new.found.items c.args.wants.now c.loop-want.want-index c.want-item.result c.want-item.result
          c.loop-want-test.true c.want-item.is c.loop-want.invariant.all
          (c.keep.ensures.kept c.if-not-keep.false);
    }

pub returns : goal.returns
returns c =
    let ws = c.args.wants.now in
    let all = taken_all ws c.loop-want.want-index c.loop-want-test.false c.loop-want.auto.want-index-end in (
      λ t. few_told (map (λ (x : LocalWant). x.session) ws) c.loop-want.found.items (λ s j. (c.loop-want.invariant.all s).1
          (subst (λ (xs : List LocalWant). In s (map (λ (x : LocalWant). x.session) xs)) (sym all) j)) c.loop-want.invariant.few,
      λ few. refl,
    )
