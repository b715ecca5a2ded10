use Rattle.std.proofs.Common.{◌≡◌, ◌+◌, ◌-◌, ◌++◌, length, drop, ap, get_or, ◌∙◌, arith}
use Rattle.message_codec.specs.Sum.{ones_sum}
use Rattle.message_codec.specs.Encoding.{header, sealed}
use Rattle.message_codec.proofs.Sums.{sealed_right}
use Rattle.message_codec.proofs.Sealing.{sized, summed, small_behind}
use Rattle.message_codec.proofs.encoding.seal.Goals as goal

pub returns-clause-text : goal.returns-clause-text
unfolding sealed
returns-clause-text c =
    let k = c.args.kind in
    let old = c.args.packet.now in
    let body = drop 8 old in
    let long : length old ≡ 8 + length body = omega (arith, ap length c.requires.head) in
    let n : length c.bytes-text.result.now ≡ 8 + length body = ap length c.bytes-text.ensures.bytes ∙ long in
    let with-size : c.set-2.new.self ≡ header k 0 (8 + length body) ++ body = sized k old body c.set.new.self c.set-2.new.self c.to_be_bytes-size.result
    (length c.bytes-text.result.now) c.requires.head c.to_be_bytes-size.ensures c.set.ensures c.set-2.ensures ∙ (λ i. header k 0 (n i) ++ body) in
    let sum : c.ones_sum.result ≡ ones_sum (header k 0 (8 + length body) ++ body) = c.ones_sum.ensures.is ∙ ap ones_sum (c.bytes.ensures.bytes ∙ with-size) in
    summed k c.set-2.new.self body c.set-3.new.self c.set-4.new.self c.to_be_bytes-sum.result (65535 - c.ones_sum.result)
    (8 + length body) with-size c.to_be_bytes-sum.ensures c.set-3.ensures c.set-4.ensures ∙ (λ i. header k (65535 - sum i) (8 + length body) ++ body)

pub returns-clause-right : goal.returns-clause-right
unfolding sealed
returns-clause-right c =
    let long : length c.args.packet.now ≡ 8 + length (drop 8 c.args.packet.now) = omega (arith, ap length c.requires.head) in
    let small = small_behind c.args.kind c.args.packet.now (drop 8 c.args.packet.now) c.requires.head
    (λ i. let here : get_or c.bytes-text.result.now i 0 ≡ get_or c.args.packet.now i 0 = λ j. get_or (c.bytes-text.ensures.bytes j) i 0 in omega (arith, c.know_bytes.ensures i, here)) in
    sealed_right c.args.kind (drop 8 c.args.packet.now) (omega (arith, long, c.requires.short)) small
