-- The network is a machine of rounds: its clock runs, and its items are numbered.
use Rattle.std.proofs.Common.{◌≡◌, ℕ, Bool, true, Some, ◌⊎◌, inl, inr, ⊎_elim, arith, refl, sym, ap, subst}
use Rattle.std.proofs.lemmas.Bool.{leb-true}
use Rattle.rsvp_base.proofs.SetLaws.{and_both}
use Rattle.std.specs.Prelude.{nat_le, ◌*◌, ◌≤◌, slice_get, map as each}
use Rattle.rsvp_base.specs.Members.{In}
use Rattle.rsvp_base.proofs.Members.{in_append, in_each}
use Rattle.calm_rounds.specs.Machine.{IsClocked, IsStamped, items_of}
use Rattle.calm_rounds.proofs.Renewing.{in_option}
use Rattle.network_model.specs.Steps.{Step, Piece, Deliver, Lose, Copy, At, ClearAt, Trace, Report, Flags, Adverts, Inject, Reroute, is_calm, is_quiet, ms_of, arrived, rest, sent, step, machine}
use Rattle.network_model.specs.Worlds.{Item, World}
use Rattle.network_model.proofs.Changing.{what_is_sent_is_copied}
use Rattle.rsvp_base.proofs.Fronts.{got_in}
use Rattle.network_model.proofs.Listing.{in_remove}
use Rattle.network_model.proofs.Quiet.{arrival_is}

-- a step of a calm round is quiet and short
pub quiet_of : (q : ℕ) (s : Step) → is_calm q s ≡ true → is_quiet s ≡ true
quiet_of q s e = (and_both (is_quiet s) (nat_le (ms_of s) (2 * q)) e).0

pub short_of : (q : ℕ) (s : Step) → is_calm q s ≡ true → ms_of s ≤ 2 * q
short_of q s e = leb-true (ms_of s) (2 * q) (and_both (is_quiet s) (nat_le (ms_of s) (2 * q)) e).1

pub born_sent : (q : ℕ) (s : Step) (w : World) (x : Item × Bool) → In x (sent q s w) → x.0.born ≡ w.made
born_sent q s w x i = ap (λ (z : Item × Bool). z.0.born) ((what_is_sent_is_copied q s w x).0 i).is

-- what stays in flight was there
pub in_rest : (s : Step) (w : World) (x : Item) → is_quiet s ≡ true → In x (rest s w) → In x w.flight
in_rest (Piece ms) w x q i = i
in_rest (Deliver k) w x q i = in_remove x k w.flight i
in_rest (Lose k) w x q i = in_remove x k w.flight i
in_rest (Copy k) w x q i =
    ⊎_elim (λ (j : In x w.flight). j)
    (λ (j : In x (items_of (slice_get w.flight k))). got_in w.flight k x (in_option x (slice_get w.flight k) j))
    (in_append x w.flight (items_of (slice_get w.flight k)) i)
in_rest (At n l) w x q i = i
in_rest (ClearAt n) w x q i = i
in_rest (Trace on) w x q i = i
in_rest (Report e) w x q i = i
in_rest Flags w x q i = i
in_rest Adverts w x q i = i
in_rest (Inject e dst a) w x q i = absurd (cc)
in_rest (Reroute g s hops) w x q i = i

pub in_arrived : (s : Step) (w : World) (x : Item) → arrived s w ≡ Some x → In x w.flight
in_arrived s w x e = let d = arrival_is s w x e in got_in w.flight d.0 x d.2

-- what is in flight after a step was there, or is sent by it
pub in_flight_after : (q : ℕ) (s : Step) (u : World) (x : Item) → is_quiet s ≡ true → In x (step q s u).flight → In x u.flight ⊎ ((b : Bool) × In (x, b) (sent q s u))
in_flight_after q s u x quiet i =
    ⊎_elim (λ (j : In x (rest s u)). inl (in_rest s u x quiet j))
    (λ (j : In x (each (λ y. y.0) (sent q s u))).
    let r = in_each (λ (y : Item × Bool). y.0) x (sent q s u) j in
    inr (r.0.1, subst (λ (z : Item). In (z, r.0.1) (sent q s u)) (sym r.2) r.1))
    (in_append x (rest s u) (each (λ y. y.0) (sent q s u)) i)

pub time_passes : (q : ℕ) → IsClocked (machine q)
time_passes q = record { clock = λ s u e. refl }

pub items_are_numbered : (q : ℕ) → IsStamped (machine q)
items_are_numbered q = record {
  made = λ s u. omega arith;
  appended = λ s u x e i.
      ⊎_elim (λ (old : In x u.flight). inl old)
      (λ (new : (b : Bool) × In (x, b) (sent q s u)). let born = born_sent q s u (x, new.0) new.1 in inr (omega arith))
      (in_flight_after q s u x (quiet_of q s e) i);
  arrived = λ s u x e. in_arrived s u x e;
}
