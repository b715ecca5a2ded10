use Rattle.std.proofs.Common.{◌-◌, List, ℕ, sym, ap, ◌∙◌, length}
use Rattle.std.proofs.lemmas.Bool.{eqb-true}
use Rattle.rsvp_objects.specs.Fragment.{more_in, missing, heads, all_other}
use Rattle.rsvp_objects.proofs.Lists.{follow_missing, follow_other}
use Rattle.rsvp_objects.proofs.Walks.{follow, follow_full}
use Rattle.rsvp_objects.proofs.walk.Walk.follow.Goals as goal

pub returns-then-is_full-clause-none : goal.returns-then-is_full-clause-none
returns-then-is_full-clause-none c =
    let s = c.args.self.now in
    λ _ ws. follow_full s.due s.load s.kept.items c.args.word ws c.requires (eqb-true (length s.kept.items) 24 (sym c.is_full.ensures.value ∙ c.if-is_full.true))

pub invariant_of-self : goal.invariant_of-self
invariant_of-self c =
    let s = c.args.self.now in
    record {
      whole = ap (missing 0) c.push.ensures.items ∙ follow_missing s.kept.items c.args.word s.due s.whole c.requires;
      other = ap (λ (xs : List ℕ). all_other (heads 0 xs)) c.push.ensures.items ∙ follow_other s.kept.items c.args.word s.due s.whole c.requires s.other;
    }

pub returns-clause-some : goal.returns-clause-some
returns-clause-some c =
    let s = c.args.self.now in
    λ ws. follow s.due s.load s.kept.items c.args.word ws c.requires ∙ ap (λ (xs : List ℕ). more_in (s.due - 1) s.load xs ws) (sym c.push.ensures.items)
