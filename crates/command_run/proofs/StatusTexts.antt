-- The text of an address, put together from its four numbers.
use Rattle.std.proofs.Common.{◌≡◌, ℕ, ◌/◌, ◌%◌, List, ◌∷◌, ◌++◌, ◌∙◌, append_assoc}
use Rattle.std.specs.Prelude.{codes}
use Rattle.std.specs.Fmt.{decimal}
use Rattle.rsvp_base.specs.declared.addr.Addr.{Addr}
use Rattle.value_texts.specs.Texts.{addr_text}

four_parts : (a b c d : List ℕ) → a ++ codes "." ++ b ++ codes "." ++ c ++ codes "." ++ d ≡ a ++ (46 ∷ (b ++ (46 ∷ (c ++ (46 ∷ d)))))
four_parts a b c d =
    let dot = codes "." in
    append_assoc (a ++ dot ++ b ++ dot ++ c) dot d ∙ append_assoc (a ++ dot ++ b ++ dot) c (46 ∷ d) ∙ append_assoc (a ++ dot ++ b) dot (c ++ (46 ∷ d))
    ∙ append_assoc (a ++ dot) b (46 ∷ (c ++ (46 ∷ d)))
    ∙ append_assoc a dot (b ++ (46 ∷ (c ++ (46 ∷ d))))

pub dotted : (a : Addr) → addr_text a ≡ decimal (a.0 / 16777216) ++ (46 ∷ (decimal (a.0 / 65536 % 256) ++ (46 ∷ (decimal (a.0 / 256 % 256) ++ (46 ∷ decimal (a.0 % 256))))))
unfolding addr_text
dotted a = four_parts (decimal (a.0 / 16777216)) (decimal (a.0 / 65536 % 256)) (decimal (a.0 / 256 % 256)) (decimal (a.0 % 256))
