use Rattle.std.proofs.Common.{◌≡◌, ◌∷◌, ◌++◌, [], List, ℕ, sym, ap, ◌∙◌, length}
use Rattle.std.proofs.lemmas.Bool.{eqb-true}
use Rattle.rsvp_objects.specs.Fragment.{more_in, missing, heads, all_other}
use Rattle.rsvp_objects.proofs.Lists.{begin_missing}
use Rattle.rsvp_objects.proofs.Lists as lists
use Rattle.rsvp_objects.proofs.Walks.{begin_other, other_full}
use Rattle.rsvp_objects.proofs.walk.Walk.begin_other.Goals as goal

pub returns-then-is_full-clause-none : goal.returns-then-is_full-clause-none
returns-then-is_full-clause-none c =
    let s = c.args.self.now in
    let full : length s.kept.items ≡ 24 = eqb-true (length s.kept.items) 24 (sym c.is_full.ensures.value ∙ c.if-is_full.true) in
    λ _ ws. ap (λ (n : ℕ). more_in n s.load s.kept.items (c.args.word ∷ ws)) c.requires.due ∙ other_full s.load s.kept.items c.args.word ws c.requires.load full

pub invariant_of-self : goal.invariant_of-self
invariant_of-self c =
    let s = c.args.self.now in
    let none = s.whole ∙ c.requires.due in
    record {
      whole = ap (missing 0) c.push.ensures.items ∙ begin_missing s.kept.items c.args.word none ∙ sym c.counted-self.ensures.is;
      other = ap (λ (xs : List ℕ). all_other (heads 0 xs)) c.push.ensures.items ∙ lists.begin_other s.kept.items c.args.word none c.requires.general c.requires.load s.other;
    }

pub returns-clause-some : goal.returns-clause-some
returns-clause-some c =
    let s = c.args.self.now in
    λ ws. ap (λ (n : ℕ). more_in n s.load s.kept.items (c.args.word ∷ ws)) c.requires.due
    ∙ begin_other s.load s.kept.items c.args.word ws c.requires.general c.requires.load
    ∙ ap (λ (n : ℕ). more_in n s.load (s.kept.items ++ c.args.word ∷ []) ws) (sym c.counted-self.ensures.is)
    ∙ ap (λ (xs : List ℕ). more_in c.counted-self.result s.load xs ws) (sym c.push.ensures.items)
