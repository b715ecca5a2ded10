-- A list of senders names someone.
use Rattle.std.specs.Prelude.{◌≡◌, ◌<◌, List, [], ◌∷◌, length}
use Rattle.std.proofs.Common.{inl, ⊎_elim, arith, refl}
use Rattle.rsvp_base.specs.declared.session.Sender.{Sender}
use Rattle.rsvp_base.specs.Orders.{names_from, senders as by_sender}
use Rattle.rsvp_base.specs.Sets.{set_of}
use Rattle.rsvp_base.specs.Table.{size}
use Rattle.rsvp_base.proofs.Counts.{set_below}

pub some_named : (xs : List Sender) → 0 < length xs → 0 < size (names_from xs)
some_named [] lt = absurd (omega arith)
some_named (x ∷ ys) lt =
    let le = set_below by_sender (x ∷ []) (x ∷ ys) (λ k i. ⊎_elim (λ (e : k ≡ x). inl e) (λ (e : ⊥). absurd e) i) in
    let one : size (set_of {o = by_sender} (x ∷ [])) ≡ 1 = refl in
    omega (arith, le, one)
