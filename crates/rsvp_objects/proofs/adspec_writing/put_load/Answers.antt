use Rattle.std.proofs.Common.{◌++◌, List, ℕ, Option, Bool, sym, ap, ◌∙◌}
use Rattle.std.specs.List.{flat_map}
use Rattle.rsvp_objects.specs.Fields.{word}
use Rattle.rsvp_objects.specs.AdspecSpelling.{load_word, load_words}
use Rattle.rsvp_objects.proofs.Bytes.{one_word}
use Rattle.rsvp_objects.proofs.adspec_writing.put_load.Goals as goal

pub returns-in-Some : goal.returns-in-Some
returns-in-Some c = c.put_word.ensures ∙ ap (λ (n : ℕ). c.args.packet.now ++ word n) c.load_word.ensures ∙ ap (λ (t : List ℕ). c.args.packet.now ++ t) (sym (one_word (load_word c.in-Some.broken)))
    ∙ ap (λ (o : Option Bool). c.args.packet.now ++ flat_map word (load_words o)) (sym c.in-Some.is)
