-- The fields of objects: numbers in network byte order, flags, and how an object is spelt.
use Rattle.std.specs.Prelude.{ℕ, ◌+◌, ◌<◌, ◌^◌, Bool, ◌==◌, List, ◌∷◌, ◌++◌, length, drop, slice_index, if◌then◌else◌}
use Rattle.std.specs.List.{AllByRecursion}
use Rattle.std.specs.Int.RustNames.{bit_and}
use Rattle.byteorder.specs.Endian.{big_number, big_bytes}
use Rattle.rsvp_base.specs.declared.addr.Addr.{Addr}

-- the byte, the 16-bit number, the 32-bit number and the address at a place
abbrev pub byte_at : ℕ → List ℕ → ℕ
byte_at place bytes = slice_index bytes place

abbrev pub half_at : ℕ → List ℕ → ℕ
half_at place bytes = big_number 2 (drop place bytes)

abbrev pub word_at : ℕ → List ℕ → ℕ
word_at place bytes = big_number 4 (drop place bytes)

abbrev pub addr_at : ℕ → List ℕ → Addr
addr_at place bytes = record { 0 = word_at place bytes }

-- the bytes of a 16-bit and of a 32-bit number
abbrev pub half : ℕ → List ℕ
half n = big_bytes 2 n

abbrev pub word : ℕ → List ℕ
word n = big_bytes 4 n

-- a flag of a byte of flags
abbrev pub has_flag : ℕ → ℕ → Bool
has_flag flag byte = bit_and byte flag == flag

abbrev pub flag_if : Bool → ℕ → ℕ
flag_if on flag = if on then flag else 0

-- an object: a length that counts its own four bytes, Class-Num, C-Type, contents (RFC 2205, 3.1.2)
abbrev pub spelt : ℕ → ℕ → List ℕ → List ℕ
spelt n ctype body = half (4 + length body) ++ n ∷ ctype ∷ body

abbrev pub AreBytes : List ℕ → Type 0
AreBytes bytes = AllByRecursion (λ b. b < 2 ^ 8) bytes
