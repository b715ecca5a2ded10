use Rattle.std.proofs.Common.{◌↔◌, List, map, subst}
use Rattle.rsvp_base.specs.Members.{In}
use Rattle.rsvp_base.specs.declared.session.Session.{Session}
use Rattle.tree_model.specs.declared.locals.LocalWant.{LocalWant}
use Rattle.network_demand.proofs.SessionLists.{one_more_of, taken_all}
use Rattle.network_demand.proofs.ends.sessions_of.Goals as goal

pub loop-want-preserved : goal.loop-want-preserved
loop-want-preserved c =
    record {
      once = c.in_ok-add_session.ensures.once c.loop-want.invariant.once;
      all = one_more_of (λ (w : LocalWant). w.session) c.loop-want.sessions.items c.add_session.new.sessions.items c.args.wants.now c.loop-want.want-index c.want-item.result c.want-item.result
          c.loop-want-test.true c.want-item.is c.loop-want.invariant.all c.in_ok-add_session.ensures.all;
    }

pub returns-clause-all : goal.returns-clause-all
returns-clause-all c =
    subst (λ (ws : List LocalWant). (s : Session) → In s c.loop-want.sessions.items ↔ In s (map (λ (w : LocalWant). w.session) ws))
    (taken_all c.args.wants.now c.loop-want.want-index c.loop-want-test.false c.loop-want.auto.want-index-end) c.loop-want.invariant.all
