use Rattle.std.proofs.Common.{◌≡◌, ◌+◌, ◌*◌, ◌++◌, ◌∷◌, List, ℕ, ap, append_assoc, ◌∙◌, arith}
use Rattle.std.specs.List.{flat_map}
use Rattle.std.proofs.lemmas.Grind.{common_steps}
use Rattle.rsvp_objects.specs.Fields.{half, word}
use Rattle.rsvp_objects.specs.AdspecSpelling.{load_words, general_bytes}
use Rattle.rsvp_objects.proofs.Bytes.{object_is}
use Rattle.rsvp_objects.proofs.adspec_writing.put_text.Goals as goal

pub returns : goal.returns
returns c =
    let a = c.args.adspec.now in
    let front : List ℕ = half (44 + 4 * c.args.words) ++ 13 ∷ 2 ∷ general_bytes a in
    let begun : c.append.new.self ≡ c.args.packet.now ++ front = grind (arith, common_steps) in
    c.put_words.ensures
    ∙ ap (λ (t : List ℕ). t ++ flat_map word c.words.result.now) c.put_load.ensures
    ∙ ap (λ (ws : List ℕ). (c.append.new.self ++ flat_map word (load_words a.load)) ++ flat_map word ws) c.words.ensures.words
    ∙ ap (λ (t : List ℕ). (t ++ flat_map word (load_words a.load)) ++ flat_map word a.others) begun
    ∙ append_assoc4 c.args.packet.now front (flat_map word (load_words a.load)) (flat_map word a.others)
    ∙ ap (λ (t : List ℕ). c.args.packet.now ++ t) (object_is a c.args.words c.requires.number)
  where
    append_assoc4 : (p x y z : List ℕ) → ((p ++ x) ++ y) ++ z ≡ p ++ ((x ++ y) ++ z)
    append_assoc4 p x y z = ap (λ (t : List ℕ). t ++ z) (append_assoc p x y) ∙ append_assoc p (x ++ y) z
