use Rattle.std.proofs.Common.{◌≡◌, ◌<◌, ◌≤◌, ◌+◌, ◌++◌, ◌∙◌, ℕ, List, true, refl, sym, ap, arith, length, take, drop, get_or, subst, eq-eqb}
use Rattle.std.specs.Prelude.{map as each}
use Rattle.std.specs.List.{filter}
use Rattle.std.proofs.lemmas.List.{take_all}
use Rattle.rsvp_base.specs.declared.addr.Addr.{Addr}
use Rattle.message_codec.specs.Encoding.{encoding}
use Rattle.network_model.specs.NodeConfig.{is_addr}
use Rattle.tree_model.specs.Goals.{addr_of}
use Rattle.network_flight.specs.Parcels.{Parcel, parcel}
use Rattle.network_flight.proofs.Puts.{all_put, stops_at, stops_over, filter_split}
use Rattle.network_flight.proofs.sending.put_addressed.Goals as goal

pub returns-in_err-send-clause-put : goal.returns-in_err-send-clause-put
returns-in_err-send-clause-put c =
    let ends = c.args.ends.now in
    let i = c.loop-end.end-index in
    let f = parcel c.args.dst (encoding c.args.message.now) in
    let wanted = λ (e : ℕ). is_addr (addr_of c.args.wires.now e) c.args.dst in
    let here = c.loop-end.flight in
    let lt : i < length ends = omega (arith, c.loop-end-test.true) in
    let is : wanted (get_or ends i 0) ≡ true = eq-eqb _ _ (ap (λ (a : Addr). a.0) (sym c.addr_of.ensures) ∙ c.if-addr_of-dst.true) in
    c.in_err-send.ensures.err
    ∙ stops_at c.args.flight.now here (each f (filter wanted (take i ends))) (f (get_or ends i 0)) (each f (filter wanted (drop (i + 1) ends))) c.loop-end.invariant.put
    (c.in_err-send.ensures.full.0 refl) (each f (filter wanted ends)) (filter_split f wanted ends i 0 lt is)
    (subst (λ (l : List Parcel). length l ≤ 8192) c.in_err-send.ensures.err c.send.ensures.most)

pub returns-in_err-send-clause-full : goal.returns-in_err-send-clause-full
returns-in_err-send-clause-full c =
    let ends = c.args.ends.now in
    let i = c.loop-end.end-index in
    let f = parcel c.args.dst (encoding c.args.message.now) in
    let wanted = λ (e : ℕ). is_addr (addr_of c.args.wires.now e) c.args.dst in
    let here = c.loop-end.flight in
    let lt : i < length ends = omega (arith, c.loop-end-test.true) in
    let is : wanted (get_or ends i 0) ≡ true = eq-eqb _ _ (ap (λ (a : Addr). a.0) (sym c.addr_of.ensures) ∙ c.if-addr_of-dst.true) in (
      λ err. stops_over c.args.flight.now here (each f (filter wanted (take i ends))) (f (get_or ends i 0)) (each f (filter wanted (drop (i + 1) ends))) c.loop-end.invariant.put
          (c.in_err-send.ensures.full.0 refl) (each f (filter wanted ends)) (filter_split f wanted ends i 0 lt is),
      λ lt. c.from_residual.ensures.0,
    )

pub returns-clause-put : goal.returns-clause-put
returns-clause-put c =
    let ends = c.args.ends.now in
    let i = c.loop-end.end-index in
    let f = parcel c.args.dst (encoding c.args.message.now) in
    let wanted = λ (e : ℕ). is_addr (addr_of c.args.wires.now e) c.args.dst in
    let all : take i ends ≡ ends = take_all i ends (omega (arith, c.loop-end-test.false)) in
    all_put c.args.flight.now c.loop-end.flight (each f (filter wanted ends)) (c.loop-end.invariant.put ∙ ap (λ es. c.args.flight.now ++ each f (filter wanted es)) all) c.len.ensures.most
