use Rattle.std.proofs.Common.{◌≡◌, [], List, ℕ, sym, ap, ◌∙◌, arith}
use Rattle.rsvp_objects.specs.Fragment.{more_in}
use Rattle.rsvp_objects.proofs.Walks.{not_whole, at_end}
use Rattle.rsvp_objects.proofs.walk.Walk.end.Goals as goal

pub returns-then-self-gt0 : goal.returns-then-self-gt0
returns-then-self-gt0 c = sym (not_whole c.args.self.due c.args.self.load c.args.self.kept.items c.if-self-gt0.true)

pub returns : goal.returns
returns c =
    let s = c.args.self in
    let none : s.due ≡ 0 = omega arith in
    sym (ap (λ (n : ℕ). more_in n s.load s.kept.items []) none ∙ ap (λ (xs : List ℕ). more_in 0 s.load xs []) (sym c.of.ensures.is) ∙ at_end s.load c.of.result c.of.ensures.few)
