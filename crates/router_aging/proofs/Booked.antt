-- The book of the facts, as the steps of a wait want it and leave it.
use Rattle.std.specs.Prelude.{◌≡◌, ℕ, List, [], ◌∷◌, ◌++◌, Bool, ◌||◌, Some, refl}
use Rattle.std.specs.List.{list_any}
use Rattle.std.specs.Ordering.{eq_by_cmp}
use Rattle.std.proofs.Common.{sym, ap, ◌∙◌}
use Rattle.rsvp_base.specs.Orders.{sessions}
use Rattle.rsvp_base.specs.declared.session.Session.{Session}
use Rattle.rsvp_base.proofs.Changed.{changed_same, changed_twice}
use Rattle.rsvp_base.proofs.SetLaws.{or_assoc}
use Rattle.rsvp_base.specs.Table.{empty}
use Rattle.router_state.specs.State.{facts_of}
use Rattle.router_state.specs.Whole.{IsBooked, state_of}
use Rattle.router_state.specs.declared.tables.Tables.{Tables}
use Rattle.resv_admission.specs.Kept.{IsBookOf}
use Rattle.blockade_state.specs.Touched.{Marks, touched_at, touched_by}

-- sessions that are touched at once, or one list after another
pub touched_both : (xs ys : List Session) (m : Marks) → touched_by ys (touched_by xs m) ≡ touched_by (xs ++ ys) m
touched_both xs ys m = changed_twice sessions (touched_at xs) (touched_at ys) m ∙ changed_same sessions _ (touched_at (xs ++ ys)) (λ s b. ap Some (at s b)) m
  where
    any_both : (s : Session) (xs : List Session) → list_any (eq_by_cmp sessions.cmp s) (xs ++ ys) ≡ (list_any (eq_by_cmp sessions.cmp s) xs || list_any (eq_by_cmp sessions.cmp s) ys)
    any_both s [] = refl
    any_both s (x ∷ xs) = ap (λ b. eq_by_cmp sessions.cmp s x || b) (any_both s xs) ∙ sym
        (or_assoc (eq_by_cmp sessions.cmp s x) (list_any (eq_by_cmp sessions.cmp s) xs) (list_any (eq_by_cmp sessions.cmp s) ys))

    at : (s : Session) (b : Bool) → ((b || list_any (eq_by_cmp sessions.cmp s) xs) || list_any (eq_by_cmp sessions.cmp s) ys) ≡ (b || list_any (eq_by_cmp sessions.cmp s) (xs ++ ys))
    at s b = or_assoc b (list_any (eq_by_cmp sessions.cmp s) xs) (list_any (eq_by_cmp sessions.cmp s) ys) ∙ ap (λ c. b || c) (sym (any_both s xs))

-- the book at a clock
pub book_at : (t : Tables) → IsBooked t → (c : ℕ) → IsBookOf (facts_of c (state_of t empty)) t.book.entries
book_at t booked c = record { at = booked c }
