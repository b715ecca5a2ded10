-- Numbers of bytes have room in their fields.
use Rattle.std.proofs.Common.{◌≡◌, ℕ, zero, suc, ◌+◌, ◌*◌, ◌^◌, ◌<◌, List, [], ◌∷◌, take, drop, arith}
use Rattle.rsvp_objects.specs.Fields.{byte_at, half_at, word_at, AreBytes}

pub bytes_behind : (n : ℕ) (xs : List ℕ) → AreBytes xs → AreBytes (drop n xs)
bytes_behind zero xs h = h
bytes_behind (suc n) [] h = tt
bytes_behind (suc n) (x ∷ xs) h = bytes_behind n xs h.1

pub bytes_before : (n : ℕ) (xs : List ℕ) → AreBytes xs → AreBytes (take n xs)
bytes_before zero xs h = tt
bytes_before (suc n) [] h = tt
bytes_before (suc n) (x ∷ xs) h = (h.0, bytes_before n xs h.1)

pub byte_small : (i : ℕ) (xs : List ℕ) → AreBytes xs → byte_at i xs < 2 ^ 8
byte_small i [] h = omega arith
byte_small zero (x ∷ xs) h = h.0
byte_small (suc i) (x ∷ xs) h = byte_small i xs h.1

pub half_small : (i : ℕ) (xs : List ℕ) → AreBytes xs → half_at i xs < 2 ^ 16
half_small i xs h =
    let d = bytes_behind i xs h in
    let a = byte_small 0 (drop i xs) d in
    let b = byte_small 1 (drop i xs) d in
    omega arith

pub word_small : (i : ℕ) (xs : List ℕ) → AreBytes xs → word_at i xs < 2 ^ 32
word_small i xs h =
    let s = bytes_behind i xs h in
    let a = byte_small 0 (drop i xs) s in
    let b = byte_small 1 (drop i xs) s in
    let c = byte_small 2 (drop i xs) s in
    let d = byte_small 3 (drop i xs) s in
    omega arith
