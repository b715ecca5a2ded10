use Rattle.std.proofs.Common.{◌↔◌, List, get_or, map, refl, subst}
use Rattle.rsvp_base.specs.Members.{In}
use Rattle.rsvp_base.specs.declared.session.Session.{Session}
use Rattle.tree_model.specs.declared.locals.LocalSender.{LocalSender}
use Rattle.network_demand.proofs.SessionLists.{one_more_of, taken_all}
use Rattle.network_demand.proofs.sessions.sessions_of.Goals as goal

pub loop-sender-preserved : goal.loop-sender-preserved
loop-sender-preserved c =
    let d : LocalSender = record { node = 0; session = record { group = record { 0 = 0 }; proto = 0; port = 0 }; sender = record { addr = record { 0 = 0 }; port = 0 } } in
    record {
      once = c.in_ok-add_session.ensures.once c.loop-sender.invariant.once;
      all = one_more_of (λ (x : LocalSender). x.session) c.loop-sender.sessions.items c.add_session.new.sessions.items c.args.senders.now c.loop-sender.sender-index d
          (get_or c.args.senders.now c.loop-sender.sender-index d) c.loop-sender-test.true refl c.loop-sender.invariant.all c.in_ok-add_session.ensures.all;
    }

pub returns-clause-all : goal.returns-clause-all
returns-clause-all c =
    subst (λ (ws : List LocalSender). (s : Session) → In s c.loop-sender.sessions.items ↔ In s (map (λ (x : LocalSender). x.session) ws))
    (taken_all c.args.senders.now c.loop-sender.sender-index c.loop-sender-test.false c.loop-sender.auto.sender-index-end) c.loop-sender.invariant.all
