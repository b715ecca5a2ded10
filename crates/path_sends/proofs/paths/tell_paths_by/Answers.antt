use Rattle.std.proofs.Common.{◌≡◌, ℕ, ◌==◌, map as each, fold, length, slice_get, sym, ap, ◌∙◌, arith}
use Rattle.std.specs.Int.{bit_at}
use Rattle.std.specs.List.{filter, range_with_len}
use Rattle.router_rules.specs.Sends.{path_send}
use Rattle.path_sends.specs.Offering.{as_offer}
use Rattle.laws_sends.specs.Told.{offer_key}
use Rattle.path_sends.proofs.Telling.{said_none, said_one, there}
use Rattle.path_sends.proofs.paths.tell_paths_by.Goals as goal
use Rattle.path_sends.proofs.paths.tell_paths_by.Goals.{then-is_out, else-is_out}

pub loop-i-preserved : goal.loop-i-preserved
loop-i-preserved g c =
    elim c.if-is_out.branch [
      | then-is_out w ↦
          let say = λ (i : ℕ). path_send c.args.config.now c.args.refresh (offer_key (c.args.session, c.args.sender) i, as_offer c.args.offered.now) in
          let at = sym (ap (λ xs. slice_get xs c.loop-i.i) c.ifaces-ifaces.ensures.is) ∙ there c.ifaces-ifaces.result.now c.loop-i.i _ c.loop-i-test.true in
          let here : g.O.Outbox.posted c.loop-i.out (record { iface = c.loop-i.i; dst = c.args.session.group; message = w.path_by-message.result; refresh = c.args.refresh })
          ≡ g.O.Outbox.posted c.loop-i.out (say c.loop-i.i) =
          ap (λ m. g.O.Outbox.posted c.loop-i.out (record { iface = c.loop-i.i; dst = c.args.session.group; message = m; refresh = c.args.refresh }))
          (w.path_by-message.ensures c.args.config.now c.loop-i.i c.args.refresh at (sym c.period-period.ensures)) in
          w.out-is ∙ w.post.ensures ∙ here ∙ said_one g.O.Outbox.posted say (λ i. bit_at c.args.ways i == 1) c.args.out.now c.loop-i.i c.loop-i.out (sym c.is_out.ensures ∙ w.if-is_out.true) c.loop-i.invariant
      | else-is_out w ↦
          let say = λ (i : ℕ). path_send c.args.config.now c.args.refresh (offer_key (c.args.session, c.args.sender) i, as_offer c.args.offered.now) in
          w.out-is ∙ said_none g.O.Outbox.posted say (λ i. bit_at c.args.ways i == 1) c.args.out.now c.loop-i.i c.loop-i.out (sym c.is_out.ensures ∙ w.if-is_out.false) c.loop-i.invariant
    ]

pub returns : goal.returns
returns g c =
    let p = c.args.config.now in
    let say = λ (i : ℕ). path_send p c.args.refresh (offer_key (c.args.session, c.args.sender) i, as_offer c.args.offered.now) in
    let same = ap length c.ifaces-ifaces.ensures.is in
    let end : c.loop-i.i ≡ length p.ifaces = omega (arith, same, c.loop-i.auto.i-end, c.loop-i-test.false) in
    c.loop-i.invariant ∙ ap (λ n. fold g.O.Outbox.posted c.args.out.now (each say (filter (λ i. bit_at c.args.ways i == 1) (range_with_len 0 n)))) end
