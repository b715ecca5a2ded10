use Rattle.std.proofs.Common.{◌≡◌, ◌∷◌, ℕ, Bool, Option, Some, sym, ap, ◌∙◌, arith}
use Rattle.rsvp_objects.specs.Fragment.{more_in, counted}
use Rattle.rsvp_objects.proofs.Walks.{begin_load, any_load, no_load, load_with_words}
use Rattle.rsvp_objects.proofs.walk.Walk.begin_load.Goals as goal

pub returns-then-is_some-clause-none : goal.returns-then-is_some-clause-none
returns-then-is_some-clause-none c =
    let s = c.args.self.now in
    λ _ ws. ap (λ (n : ℕ). more_in n s.load s.kept.items (c.args.word ∷ ws)) c.requires.due ∙ any_load s.load s.kept.items c.args.word ws (sym c.is_some.ensures ∙ c.if-is_some.true) c.requires.service

pub returns-then-counted-gt0-clause-none : goal.returns-then-counted-gt0-clause-none
returns-then-counted-gt0-clause-none c =
    let s = c.args.self.now in
    λ _ ws. ap (λ (n : ℕ). more_in n s.load s.kept.items (c.args.word ∷ ws)) c.requires.due
    ∙ ap (λ (o : Option Bool). more_in 0 o s.kept.items (c.args.word ∷ ws)) (no_load s.load (sym c.is_some.ensures ∙ c.if-is_some.false))
    ∙ load_with_words s.kept.items c.args.word ws c.requires.service (omega (arith, c.counted.ensures.is, c.if-counted-gt0.true))

pub returns-clause-some : goal.returns-clause-some
returns-clause-some c =
    let s = c.args.self.now in
    let none : counted c.args.word ≡ 0 = omega (arith, c.counted.ensures.is, c.if-counted-gt0.false) in
    λ ws. ap (λ (n : ℕ). more_in n s.load s.kept.items (c.args.word ∷ ws)) c.requires.due
    ∙ ap (λ (o : Option Bool). more_in 0 o s.kept.items (c.args.word ∷ ws)) (no_load s.load (sym c.is_some.ensures ∙ c.if-is_some.false))
    ∙ begin_load s.kept.items c.args.word ws c.requires.service none
    ∙ ap (λ (b : Bool). more_in 0 (Some b) s.kept.items ws) (sym c.is_broken.ensures)
    ∙ ap (λ (n : ℕ). more_in n (Some c.is_broken.result) s.kept.items ws) (sym c.requires.due)
