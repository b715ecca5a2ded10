use Rattle.std.proofs.Common.{◌≡◌, ℕ, false, ◌==◌, Some, map as each, fold, length, slice_get, sym, ap, ◌∙◌, arith}
use Rattle.std.specs.Int.{bit_at}
use Rattle.std.specs.List.{filter, range_with_len}
use Rattle.rsvp_base.specs.declared.addr.Addr.{Addr}
use Rattle.rsvp_messages.specs.declared.message.Message.TheVariants as message
use Rattle.router_rules.specs.Inputs.{Send}
use Rattle.router_rules.specs.NodeConfig.{addr_of}
use Rattle.router_rules.specs.Sends.{path_tear}
use Rattle.laws_sends.specs.Told.{offer_key}
use Rattle.path_sends.proofs.Telling.{own_read, said_none, said_one}
use Rattle.path_sends.proofs.paths.tell_tears_by.Goals as goal
use Rattle.path_sends.proofs.paths.tell_tears_by.Goals.{then-is_out, else-is_out}

pub loop-i-preserved : goal.loop-i-preserved
loop-i-preserved g c =
    elim c.if-is_out.branch [
      | then-is_out w ↦
          let say = λ (i : ℕ). path_tear c.args.config.now (offer_key (c.args.session, c.args.sender) i) in
          let from : Addr → Send = λ (a : Addr). record {
            iface = c.loop-i.i;
            dst = c.args.session.group;
            message = message.PathTear
                (record { session = c.args.session; hop = record { addr = a; handle = 0 }; sender = Some c.args.sender });
            refresh = false;
          } in
          let addr = sym (own_read c.ifaces-ifaces.result.now c.loop-i.i _ c.loop-i-test.true) ∙ ap (λ xs. addr_of (slice_get xs c.loop-i.i)) c.ifaces-ifaces.ensures.is in
          let here : g.O.Outbox.posted c.loop-i.out (from _) ≡ g.O.Outbox.posted c.loop-i.out (say c.loop-i.i) = λ j. g.O.Outbox.posted c.loop-i.out (from (addr j)) in
          w.out-is ∙ w.post.ensures ∙ here ∙ said_one g.O.Outbox.posted say (λ i. bit_at c.args.ways i == 1) c.args.out.now c.loop-i.i c.loop-i.out (sym c.is_out.ensures ∙ w.if-is_out.true) c.loop-i.invariant
      | else-is_out w ↦
          let say = λ (i : ℕ). path_tear c.args.config.now (offer_key (c.args.session, c.args.sender) i) in
          w.out-is ∙ said_none g.O.Outbox.posted say (λ i. bit_at c.args.ways i == 1) c.args.out.now c.loop-i.i c.loop-i.out (sym c.is_out.ensures ∙ w.if-is_out.false) c.loop-i.invariant
    ]

pub returns : goal.returns
returns g c =
    let p = c.args.config.now in
    let say = λ (i : ℕ). path_tear p (offer_key (c.args.session, c.args.sender) i) in
    let same = ap length c.ifaces-ifaces.ensures.is in
    let end : c.loop-i.i ≡ length p.ifaces = omega (arith, same, c.loop-i.auto.i-end, c.loop-i-test.false) in
    c.loop-i.invariant ∙ ap (λ n. fold g.O.Outbox.posted c.args.out.now (each say (filter (λ i. bit_at c.args.ways i == 1) (range_with_len 0 n)))) end
