use Rattle.std.proofs.Common.{◌↔◌, List, subst}
use Rattle.network_demand.proofs.SessionLists.{taken_all}
use Rattle.rsvp_base.specs.Members.{In}
use Rattle.rsvp_base.specs.declared.session.Session.{Session}
use Rattle.tree_model.specs.declared.locals.LocalWant.{LocalWant}
use Rattle.network_demand.proofs.Clashes.{IsFoundBy, found_all, found_next}
use Rattle.network_demand.proofs.clashing.clashing.Goals as goal

pub loop-want-preserved : goal.loop-want-preserved
loop-want-preserved c =
    record {
      once = c.in_ok-add_if.ensures.once c.loop-want.invariant.once;
      all = found_next c.args.wants.now c.loop-want.want-index c.want-item.result c.differs.result c.loop-want.found.items c.add_if.new.found.items c.loop-want-test.true c.want-item.is c.differs.ensures
          c.loop-want.invariant.all c.in_ok-add_if.ensures.all;
    }

pub returns-clause-all : goal.returns-clause-all
returns-clause-all c =
    found_all c.args.wants.now c.loop-want.found.items
    (subst (λ (ws : List LocalWant). (s : Session) → In s c.loop-want.found.items ↔ IsFoundBy c.args.wants.now ws s)
    (taken_all c.args.wants.now c.loop-want.want-index c.loop-want-test.false c.loop-want.auto.want-index-end) c.loop-want.invariant.all)
