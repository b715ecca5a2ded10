use Rattle.std.proofs.Common.{◌≡◌, ◌<◌, ◌≤◌, ◌+◌, ◌++◌, ◌∙◌, List, refl, ap, arith, length, take, drop, get_or, subst}
use Rattle.std.specs.Prelude.{map as each}
use Rattle.std.proofs.lemmas.List.{take_all}
use Rattle.message_codec.specs.Encoding.{encoding}
use Rattle.network_flight.specs.Parcels.{Parcel, parcel}
use Rattle.network_flight.proofs.Puts.{all_put, stops_at, each_split}
use Rattle.network_flight.proofs.sending.put_each.Goals as goal

pub returns-in_err-send-clause-put : goal.returns-in_err-send-clause-put
returns-in_err-send-clause-put c =
    let ends = c.args.ends.now in
    let i = c.loop-end.end-index in
    let f = parcel c.args.dst (encoding c.args.message.now) in
    let here = c.loop-end.flight in
    let lt : i < length ends = omega (arith, c.loop-end-test.true) in
    c.in_err-send.ensures.err
    ∙ stops_at c.args.flight.now here (each f (take i ends)) (f (get_or ends i 0)) (each f (drop (i + 1) ends)) c.loop-end.invariant.put (c.in_err-send.ensures.full.0 refl) (each f ends)
    (each_split f ends i 0 lt)
    (subst (λ (l : List Parcel). length l ≤ 8192) c.in_err-send.ensures.err c.send.ensures.most)

pub returns-clause-put : goal.returns-clause-put
returns-clause-put c =
    let ends = c.args.ends.now in
    let i = c.loop-end.end-index in
    let f = parcel c.args.dst (encoding c.args.message.now) in
    let all : take i ends ≡ ends = take_all i ends (omega (arith, c.loop-end-test.false)) in
    all_put c.args.flight.now c.loop-end.flight (each f ends) (c.loop-end.invariant.put ∙ ap (λ es. c.args.flight.now ++ each f es) all) c.len.ensures.most
