-- A session that comes after the last of those in order goes behind them all.
use Rattle.std.specs.Prelude.{◌≡◌, ℕ, ◌-◌, ◌<◌, true, List, length, slice_get, Some, Err}
use Rattle.std.specs.Ordering.{is_lt}
use Rattle.std.specs.declared.cmp.Ordering.{Ordering}
use Rattle.std.specs.declared.cmp.Ordering.TheVariants.{Less, Equal, Greater}
use Rattle.std.proofs.Common.{ap, inl, inr, refl, ◌∙◌, arith, get_or}
use Rattle.std.proofs.lemmas.Bool.{cases_eq}
use Rattle.std.proofs.lemmas.Option.{slice_get-get_or}
use Rattle.rsvp_base.specs.Orders.{sessions}
use Rattle.rsvp_base.specs.Rows.{AreRows, LacksRowAt}
use Rattle.rsvp_base.specs.Table.{passes}
use Rattle.rsvp_base.specs.declared.session.Session.{Session}
use Rattle.rsvp_base.proofs.Places.{greater}
use Rattle.rsvp_base.proofs.Rows.{searched_absent}
use Rattle.blockade_state.specs.Touched.{mark_row}
use Rattle.blockade_state.specs.declared.touched.Mark.{Mark}

less_if : (w : Ordering) → is_lt w ≡ true → w ≡ Less
less_if Less e = refl
less_if Equal e = cc
less_if Greater e = cc

pub behind_last : (marks : List Mark) (s : Session) → AreRows sessions mark_row marks → ((e : Mark) → slice_get marks (length marks - 1) ≡ Some e → is_lt (sessions.cmp e.session s) ≡ true)
    → LacksRowAt sessions mark_row marks s (length marks)
behind_last marks s up last = searched_absent sessions mark_row marks s (Err (length marks)) up (omega arith) (λ _. (λ j e low lt. before j e lt, λ j e low lt. absurd (omega (arith, low, lt))))
  where
    end : (e : Mark) → 0 < length marks → sessions.cmp (get_or marks (length marks - 1) e).session s ≡ Less
    end e some = less_if _ (last (get_or marks (length marks - 1) e) (slice_get-get_or marks (length marks - 1) e (omega (arith, some))))

    before : (j : ℕ) (e : Mark) → j < length marks → sessions.cmp (get_or marks j e).session s ≡ Less
    before j e lt = elim (cases_eq j (length marks - 1)) [
      | inl q ↦ ap (λ i. sessions.cmp (get_or marks i e).session s) q ∙ end e (omega (arith, lt))
      | inr ne ↦
          let step = greater sessions mark_row marks (passes _ up) j (length marks - 1) e (omega (arith, lt, ne)) (omega (arith, lt)) in
          sessions.total.trans (get_or marks j e).session (get_or marks (length marks - 1) e).session s step (end e (omega (arith, lt)))
    ]
