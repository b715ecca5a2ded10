use Rattle.std.proofs.Common.{◌≡◌, ℕ, Bool, ◌==◌, ◌&&◌, false, map as each, fold, length, slice_get, sym, ap, ◌∙◌, arith}
use Rattle.std.specs.Int.{bit_at}
use Rattle.std.specs.List.{filter, range_with_len}
use Rattle.std.specs.Option.{option_map}
use Rattle.router_rules.specs.Inputs.{Send}
use Rattle.router_rules.specs.Sends.{is_new_offer, path_send}
use Rattle.path_sends.specs.Offering.{as_offer}
use Rattle.laws_sends.specs.Told.{offer_key}
use Rattle.path_sends.proofs.Telling.{filter_both, said_none, said_one, there}
use Rattle.path_sends.proofs.paths.tell_new_by.Goals as goal
use Rattle.path_sends.proofs.paths.tell_new_by.Goals.{then-is_told, else-is_told}

pub loop-i-preserved : goal.loop-i-preserved
loop-i-preserved g c =
    let p = c.args.config.now in
    let o = as_offer c.args.offered.now in
    let before = option_map as_offer c.args.before.now in
    let say : ℕ → Send = λ i. path_send p false (offer_key (c.args.session, c.args.sender) i, o) in
    let on : ℕ → Bool = λ i. (bit_at c.args.ways i == 1) && is_new_offer p i o before in
    let at = sym (ap (λ xs. slice_get xs c.loop-i.i) c.ifaces-ifaces.ensures.is) ∙ there c.ifaces-ifaces.result.now c.loop-i.i _ c.loop-i-test.true in
    let told = c.is_told.ensures p at in
    elim c.if-is_told.branch [
      | then-is_told w ↦
          let here : g.O.Outbox.posted c.loop-i.out (record { iface = c.loop-i.i; dst = c.args.session.group; message = w.path_by-message.result; refresh = false })
          ≡ g.O.Outbox.posted c.loop-i.out (say c.loop-i.i) =
          ap (λ m. g.O.Outbox.posted c.loop-i.out (record { iface = c.loop-i.i; dst = c.args.session.group; message = m; refresh = false }))
          (w.path_by-message.ensures p c.loop-i.i false at (sym c.period-period.ensures)) in
          w.out-is ∙ w.post.ensures ∙ here ∙ said_one g.O.Outbox.posted say on c.args.out.now c.loop-i.i c.loop-i.out (sym told ∙ w.if-is_told.true) c.loop-i.invariant
      | else-is_told w ↦
          w.out-is ∙ said_none g.O.Outbox.posted say on c.args.out.now c.loop-i.i c.loop-i.out (sym told ∙ w.if-is_told.false) c.loop-i.invariant
    ]

pub returns : goal.returns
returns g c =
    let p = c.args.config.now in
    let o = as_offer c.args.offered.now in
    let before = option_map as_offer c.args.before.now in
    let say : ℕ → Send = λ i. path_send p false (offer_key (c.args.session, c.args.sender) i, o) in
    let out : ℕ → Bool = λ i. bit_at c.args.ways i == 1 in
    let new : ℕ → Bool = λ i. is_new_offer p i o before in
    let same = ap length c.ifaces-ifaces.ensures.is in
    let end : c.loop-i.i ≡ length p.ifaces = omega (arith, same, c.loop-i.auto.i-end, c.loop-i-test.false) in
    c.loop-i.invariant ∙ ap (λ n. fold g.O.Outbox.posted c.args.out.now (each say (filter (λ i. out i && new i) (range_with_len 0 n)))) end
    ∙ ap (λ is. fold g.O.Outbox.posted c.args.out.now (each say is)) (filter_both out new (range_with_len 0 (length p.ifaces)))
