-- Calls, waits and deliveries write nothing while the trace is off.
use Rattle.std.proofs.Common.{◌≡◌, ℕ, ◌*◌, zero, suc, Bool, true, false, cond, List, [], ◌∷◌, ◌++◌, length, refl, ap, ◌∙◌, inl, inr, ⊎_elim}
use Rattle.std.specs.Prelude.{map as each, slice_get}
use Rattle.std.specs.List.{repeat}
use Rattle.rsvp_base.specs.Members.{In}
use Rattle.rsvp_base.proofs.Members.{in_append, in_each}
use Rattle.calm_rounds.specs.Machine.{run}
use Rattle.tree_model.specs.declared.locals.LocalSender.{LocalSender}
use Rattle.network_model.specs.Events.{a_round, half, halves, pass, rounds}
use Rattle.network_model.specs.Runs.{heard_line, text_of}
use Rattle.network_model.specs.Steps.{At, ClearAt, Copy, Deliver, Flags, Adverts, Inject, Lose, Piece, Report, Reroute, Step, Trace, machine, step}
use Rattle.network_model.specs.Worlds.{World}
use Rattle.grown_network.specs.declared.hosts.Wanted.{Wanted}
use Rattle.laws_grown.proofs.Sending.{send_step}
use Rattle.laws_grown.proofs.Wanting.{want_step}

abbrev pub is_silent : Step → Bool
is_silent (Piece ms) = true
is_silent (Deliver k) = true
is_silent (At n l) = true
is_silent _ = false

abbrev pub AreSilent : List Step → Type 0
AreSilent ss = (s : Step) → In s ss → is_silent s ≡ true

pub both_silent : (ss ts : List Step) → AreSilent ss → AreSilent ts → AreSilent (ss ++ ts)
both_silent ss ts a b s i = ⊎_elim (λ (j : In s ss). a s j) (λ (j : In s ts). b s j) (in_append s ss ts i)

pub calls_silent : (xs : List LocalSender) (ws : List Wanted) → AreSilent (each send_step xs ++ each want_step ws)
calls_silent xs ws =
    both_silent (each send_step xs) (each want_step ws) (λ s i. let x = in_each send_step s xs i in ap is_silent x.2) (λ s i. let w = in_each want_step s ws i in ap is_silent w.2)

deliveries : (n : ℕ) → AreSilent (repeat n (Deliver 0 ∷ []))
deliveries zero s i = absurd i
deliveries (suc n) s i = ⊎_elim (λ (is : s ≡ Deliver 0). ap is_silent is) (λ (j : In s (repeat n (Deliver 0 ∷ []))). deliveries n s j) i

module _ (q : ℕ) where
  half_silent : (w : World) → AreSilent (half q w)
  half_silent w s i =
      ⊎_elim (λ (is : s ≡ Piece (2 * q)). ap is_silent is) (λ (j : In s (pass q (step q (Piece (2 * q)) w))). deliveries (length (step q (Piece (2 * q)) w).flight) s j) i

  halves_silent : (n : ℕ) (w : World) → AreSilent (halves q n w)
  halves_silent zero w = λ s i. absurd i
  halves_silent (suc n) w = both_silent (half q w) (halves q n (run (machine q) (half q w) w)) (half_silent w) (halves_silent n (run (machine q) (half q w) w))

  pub rounds_silent : (n : ℕ) (w : World) → AreSilent (rounds q n w)
  rounds_silent zero w = λ s i. absurd i
  rounds_silent (suc n) w = both_silent (a_round q w) (rounds q n (run (machine q) (a_round q w) w)) (halves_silent 4 w) (rounds_silent n (run (machine q) (a_round q w) w))

  pub nothing_written : (names : List (List ℕ)) (ss : List Step) (w : World) → AreSilent ss → w.trace ≡ false → text_of q names ss w ≡ []
  nothing_written names [] w silent off = refl
  nothing_written names (s ∷ ss) w silent off = by s (silent s (inl refl)) (λ u still. nothing_written names ss u (λ t i. silent t (inr i)) still)
    where
      by : (s : Step) → is_silent s ≡ true → ((u : World) → u.trace ≡ false → text_of q names ss u ≡ []) → text_of q names (s ∷ ss) w ≡ []
      by (Piece ms) is rest = rest (step q (Piece ms) w) off
      by (Deliver k) is rest =
          ap (λ (b : Bool). cond b (heard_line q names (Deliver k) w (slice_get w.flight k)) [] ++ text_of q names ss (step q (Deliver k) w)) off ∙ rest (step q (Deliver k) w) off
      by (At n l) is rest = rest (step q (At n l) w) off
      by (Lose k) is rest = absurd (cc)
      by (Copy k) is rest = absurd (cc)
      by (ClearAt n) is rest = absurd (cc)
      by (Trace on) is rest = absurd (cc)
      by (Report e) is rest = absurd (cc)
      by Flags is rest = absurd (cc)
      by Adverts is rest = absurd (cc)
      by (Inject e dst a) is rest = absurd (cc)
      by (Reroute g x hops) is rest = absurd (cc)
