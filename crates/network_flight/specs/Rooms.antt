-- The rooms of datagrams, by number: each is in use or free.
use Rattle.std.specs.Prelude.{◌≡◌, ℕ, ◌+◌, ◌==◌, nat_lt, Bool, true, false, cond, List, [], ◌∷◌, ◌++◌, length, get_or, map}
use Rattle.std.specs.List.{count_by, filter}
use Rattle.network_flight.specs.Parcels.{Parcel}
use Rattle.network_flight.specs.declared.flight.Parcel.{Parcel as Packed}

-- how often a room is listed
abbrev pub times : ℕ → List ℕ → ℕ
times r rooms = count_by (λ x. x == r) rooms

-- of so many rooms each is in use or free, and is listed once
pub record AreApart (used free : List ℕ) (made : ℕ) : Type 0 where
  pub once : (r : ℕ) → times r used + times r free ≡ cond (nat_lt r made) 1 0
  pub all : length used + length free ≡ made

-- a room is in use besides others from now on, and each other one has the bytes that it had
pub record IsTaken (r : ℕ) (old_free free : List ℕ) (old_rooms rooms : List (List ℕ)) : Type 0 where
  pub apart : (used : List ℕ) → AreApart used old_free (length old_rooms) → AreApart (used ++ r ∷ []) free (length rooms)
  pub others : (k : ℕ) → (k ≡ r → ⊥) → get_or rooms k [] ≡ get_or old_rooms k []

-- ---- rooms of two sizes
abbrev pub is_long : Packed → Bool
is_long p = p.long

abbrev pub is_short : Packed → Bool
is_short p = cond p.long false true

-- the rooms of a size that datagrams are in
abbrev pub rooms_of : (Packed → Bool) → List Packed → List ℕ
rooms_of size q = map (λ p. p.room) (filter size q)

-- a datagram with the bytes of its room
abbrev pub seen : List (List ℕ) → List (List ℕ) → Packed → Parcel
seen short long p = record { end = p.end; dst = p.dst; bytes = get_or (cond p.long long short) p.room [] }
