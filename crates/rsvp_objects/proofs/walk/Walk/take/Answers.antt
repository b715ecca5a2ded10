use Rattle.std.proofs.Common.{◌≡◌, ◌∷◌, ℕ, sym, ap, ◌∙◌, arith}
use Rattle.rsvp_objects.specs.Fragment.{more_in}
use Rattle.rsvp_objects.proofs.Walks.{general_again}
use Rattle.rsvp_objects.proofs.walk.Walk.take.Goals as goal

pub returns-in-1-clause-none : goal.returns-in-1-clause-none
returns-in-1-clause-none c =
    let s = c.args.self.now in
    let none : s.due ≡ 0 = omega arith in
    λ _ ws. ap (λ (n : ℕ). more_in n s.load s.kept.items (c.args.word ∷ ws)) none ∙ general_again s.load s.kept.items c.args.word ws (sym c.service.ensures ∙ c.in-1.is)
