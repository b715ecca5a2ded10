use Rattle.std.proofs.Common.{◌≡◌, List, map, subst, sum_by, ap, ◌∙◌, arith}
use Rattle.std.specs.Prelude.{◌↔◌}
use Rattle.rsvp_base.specs.Members.{In}
use Rattle.rsvp_base.specs.declared.session.Session.{Session}
use Rattle.tree_model.specs.declared.locals.LocalSender.{LocalSender}
use Rattle.network_demand.specs.Asked.{locals_of}
use Rattle.network_demand.specs.Counts.{paths_of, resvs_of}
use Rattle.network_demand.proofs.Counted.{overhead_is}
use Rattle.network_demand.proofs.counting.overhead.Goals as goal

pub returns : goal.returns
returns c =
    let net = c.args.routing.now in
    let l = locals_of c.args.locals.now in
    let order = c.by_rank-order.result.now in
    let ss : List Session = c.in_ok-sessions.sessions.items in
    let paths : c.in_ok-paths.paths ≡ sum_by (paths_of net) l.senders = c.in_ok-paths.ensures.paths ∙ ap (λ (xs : List LocalSender). sum_by (paths_of net) xs) c.as_slice-2.ensures.value in
    let resvs : c.in_ok-resvs.resvs ≡ sum_by (resvs_of net l order) ss = c.in_ok-resvs.ensures.resvs ∙ ap (λ (xs : List Session). sum_by (resvs_of net l order) xs) c.as_slice-3.ensures.value in
    let these = subst (λ (xs : List LocalSender). (s : Session) → In s ss ↔ In s (map (λ (x : LocalSender). x.session) xs)) c.as_slice.ensures.value c.in_ok-sessions.ensures.all in
    let all = overhead_is net l order c.nodes-nodes.ensures.valid c.by_rank-order.ensures ss c.in_ok-sessions.ensures.once these in
    omega (arith, paths, resvs, all)
