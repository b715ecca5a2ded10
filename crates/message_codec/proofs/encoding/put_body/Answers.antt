use Rattle.std.proofs.Common.{refl, arith}
use Rattle.message_codec.proofs.Sizes.{body_short}
use Rattle.message_codec.proofs.encoding.put_body.Goals as goal

pub unreachable-requires : goal.unreachable-requires
unreachable-requires c =
    let full = c.in-Err.ensures.full refl in
    omega (arith, full, body_short c.args.message.now c.know_lengths.ensures, c.requires)

pub returns-clause-short : goal.returns-clause-short
returns-clause-short c = body_short c.args.message.now c.know_lengths.ensures
