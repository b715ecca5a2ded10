use Rattle.std.proofs.Common.{ℕ, fold, sym, ap, ◌∙◌}
use Rattle.path_state.specs.Paths.{path_keys}
use Rattle.path_state.specs.declared.fact.PathFact.{PathFact}
use Rattle.rsvp_base.specs.Table.{Table, get, has}
use Rattle.rsvp_base.specs.TokenBucket.{TokenBucket}
use Rattle.rsvp_messages.specs.declared.message.Message.TheVariants as message
use Rattle.router_rules.specs.Facts.{sender_keys}
use Rattle.router_rules.specs.Sends.{once}
use Rattle.router_rules.specs.NodeConfig.{NodeConfig, goes_out}
use Rattle.error_sends.proofs.PathErrs.{found_path, local_heard, local_sent, no_path, nobody_heard, nobody_sent, on_heard, on_sent, outside_heard, outside_sent, unknown_heard, unknown_sent}
use Rattle.error_sends.proofs.path_err.pass_path_err.Goals as goal

pub returns-in_default-clause-heard : goal.returns-in_default-clause-heard
returns-in_default-clause-heard g c = λ clock n place senders paths. nobody_heard clock n c.args.iface c.args.message.now c.in_default.is

pub returns-in_default-clause-sent : goal.returns-in_default-clause-sent
returns-in_default-clause-sent g c = λ clock n place senders paths. ap (fold g.O.Outbox.posted c.args.out.now) (nobody_sent clock n c.args.iface c.args.message.now c.in_default.is)

pub returns-then-not-goes_out-clause-heard : goal.returns-then-not-goes_out-clause-heard
returns-then-not-goes_out-clause-heard g c = λ clock n place senders paths.
    outside_heard clock n c.args.iface c.args.message.now c.in-Some.sender c.in-Some.is (ap (λ (p : NodeConfig). goes_out p c.args.message.now.session c.args.iface c.in-Some.sender) place
    ∙ sym c.goes_out.ensures ∙ c.if-not-goes_out.true)

pub returns-then-not-goes_out-clause-sent : goal.returns-then-not-goes_out-clause-sent
returns-then-not-goes_out-clause-sent g c = λ clock n place senders paths.
    ap (fold g.O.Outbox.posted c.args.out.now)
    (outside_sent clock n c.args.iface c.args.message.now c.in-Some.sender c.in-Some.is (ap (λ (p : NodeConfig). goes_out p c.args.message.now.session c.args.iface c.in-Some.sender) place
    ∙ sym c.goes_out.ensures ∙ c.if-not-goes_out.true))

pub returns-then-is_some-clause-heard : goal.returns-then-is_some-clause-heard
returns-then-is_some-clause-heard g c = λ clock n place senders paths.
    local_heard clock n c.args.iface c.args.message.now c.in-Some.sender c.in-Some.is (ap (λ (p : NodeConfig). goes_out p c.args.message.now.session c.args.iface c.in-Some.sender) place
    ∙ sym c.goes_out.ensures ∙ c.if-not-goes_out.false)
    (ap (λ (t : Table sender_keys TokenBucket). has t (c.args.message.now.session, c.in-Some.sender)) senders ∙ sym c.find.ensures.there ∙ sym c.is_some.ensures ∙ c.if-is_some.true)

pub returns-then-is_some-clause-sent : goal.returns-then-is_some-clause-sent
returns-then-is_some-clause-sent g c = λ clock n place senders paths.
    ap (fold g.O.Outbox.posted c.args.out.now)
    (local_sent clock n c.args.iface c.args.message.now c.in-Some.sender c.in-Some.is (ap (λ (p : NodeConfig). goes_out p c.args.message.now.session c.args.iface c.in-Some.sender) place
    ∙ sym c.goes_out.ensures ∙ c.if-not-goes_out.false)
    (ap (λ (t : Table sender_keys TokenBucket). has t (c.args.message.now.session, c.in-Some.sender)) senders ∙ sym c.find.ensures.there ∙ sym c.is_some.ensures ∙ c.if-is_some.true))

pub returns-in_default-find-clause-heard : goal.returns-in_default-find-clause-heard
returns-in_default-find-clause-heard g c = λ clock n place senders paths.
    unknown_heard clock n c.args.iface c.args.message.now c.in-Some.sender c.in-Some.is (ap (λ (p : NodeConfig). goes_out p c.args.message.now.session c.args.iface c.in-Some.sender) place
    ∙ sym c.goes_out.ensures ∙ c.if-not-goes_out.false)
    (ap (λ (t : Table sender_keys TokenBucket). has t (c.args.message.now.session, c.in-Some.sender)) senders ∙ sym c.find.ensures.there ∙ sym c.is_some.ensures ∙ c.if-is_some.false)
    (ap (λ (t : Table path_keys (PathFact × ℕ)). get t (c.args.message.now.session, c.in-Some.sender)) paths
    ∙ no_path (get c.args.paths.now.facts (c.args.message.now.session, c.in-Some.sender)) c.in_default-find.ensures.fact)

pub returns-in_default-find-clause-sent : goal.returns-in_default-find-clause-sent
returns-in_default-find-clause-sent g c = λ clock n place senders paths.
    ap (fold g.O.Outbox.posted c.args.out.now)
    (unknown_sent clock n c.args.iface c.args.message.now c.in-Some.sender c.in-Some.is (ap (λ (p : NodeConfig). goes_out p c.args.message.now.session c.args.iface c.in-Some.sender) place
    ∙ sym c.goes_out.ensures ∙ c.if-not-goes_out.false)
    (ap (λ (t : Table sender_keys TokenBucket). has t (c.args.message.now.session, c.in-Some.sender)) senders ∙ sym c.find.ensures.there ∙ sym c.is_some.ensures ∙ c.if-is_some.false)
    (ap (λ (t : Table path_keys (PathFact × ℕ)). get t (c.args.message.now.session, c.in-Some.sender)) paths
    ∙ no_path (get c.args.paths.now.facts (c.args.message.now.session, c.in-Some.sender)) c.in_default-find.ensures.fact))

pub returns-clause-heard : goal.returns-clause-heard
returns-clause-heard g c = λ clock n place senders paths.
    let found = found_path (get c.args.paths.now.facts (c.args.message.now.session, c.in-Some.sender)) c.in-Some-find.path.now c.in-Some-find.ensures.fact in
    on_heard clock n c.args.iface c.args.message.now c.in-Some.sender c.in-Some.is (ap (λ (p : NodeConfig). goes_out p c.args.message.now.session c.args.iface c.in-Some.sender) place
    ∙ sym c.goes_out.ensures ∙ c.if-not-goes_out.false)
    (ap (λ (t : Table sender_keys TokenBucket). has t (c.args.message.now.session, c.in-Some.sender)) senders ∙ sym c.find.ensures.there ∙ sym c.is_some.ensures ∙ c.if-is_some.false)
    found.0 (ap (λ (t : Table path_keys (PathFact × ℕ)). get t (c.args.message.now.session, c.in-Some.sender)) paths ∙ found.1)

pub returns-clause-sent : goal.returns-clause-sent
returns-clause-sent g c = λ clock n place senders paths.
    let found = found_path (get c.args.paths.now.facts (c.args.message.now.session, c.in-Some.sender)) c.in-Some-find.path.now c.in-Some-find.ensures.fact in
    let sent = on_sent clock n c.args.iface c.args.message.now c.in-Some.sender c.in-Some.is
    (ap (λ (p : NodeConfig). goes_out p c.args.message.now.session c.args.iface c.in-Some.sender) place ∙ sym c.goes_out.ensures ∙ c.if-not-goes_out.false)
    (ap (λ (t : Table sender_keys TokenBucket). has t (c.args.message.now.session, c.in-Some.sender)) senders ∙ sym c.find.ensures.there ∙ sym c.is_some.ensures ∙ c.if-is_some.false)
    found.0 (ap (λ (t : Table path_keys (PathFact × ℕ)). get t (c.args.message.now.session, c.in-Some.sender)) paths ∙ found.1) in
    c.post.ensures ∙ ap (λ (f : PathFact). g.O.Outbox.posted c.args.out.now (once f.iface f.hop.addr (message.PathErr c.args.message.now))) (sym found.2)
    ∙ ap (fold g.O.Outbox.posted c.args.out.now) sent
