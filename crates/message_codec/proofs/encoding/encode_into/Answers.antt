use Rattle.std.proofs.Common.{rules, ◌≡◌, ap, ◌∙◌}
use Rattle.message_codec.specs.Sum.{ones_sum}
use Rattle.message_codec.proofs.ProperRead.{bytes_of}
use Rattle.message_codec.specs.Encoding.{encoding}
use Rattle.message_codec.proofs.Ranged.{writable}
use Rattle.message_codec.proofs.ReadAgain.{again_by_text}
use Rattle.message_codec.proofs.encoding.encode_into.Goals as goal

pub returns-clause-again : goal.returns-clause-again
unfolding encoding
returns-clause-again c =
    let text : c.seal.new.packet ≡ encoding c.args.message.now = search rules in
    let right : ones_sum c.seal.new.packet ≡ 65535 = ap ones_sum c.seal.ensures.text ∙ c.seal.ensures.right in
    λ h. again_by_text c.args.message.now c.seal.new.packet text (bytes_of c.seal.new.packet c.seal.ensures.bytes) right (writable c.args.message.now h c.know_fields.ensures c.know_lengths.ensures)
