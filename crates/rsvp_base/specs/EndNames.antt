-- Names of nodes and ends.
use Rattle.std.specs.Prelude.{ℕ, List, Bool, Option, None, Some, ◌&&◌, ◌||◌, ◌==◌, nat_le, length, slice_index, if◌then◌else◌}
use Rattle.std.specs.List.{list_all}
use Rattle.std.specs.Str.{byte}

abbrev pub is_digit : ℕ → Bool
is_digit c = nat_le (byte "0") c && nat_le c (byte "9")

abbrev pub is_lower_case : ℕ → Bool
is_lower_case c = nat_le (byte "a") c && nat_le c (byte "z")

-- a lower-case letter, a digit or _
abbrev pub is_name_byte : ℕ → Bool
is_name_byte c = is_lower_case c || (is_digit c || c == byte "_")

-- 1 to 16 lower-case letters, digits and _, beginning with a letter
abbrev pub is_name : List ℕ → Bool
is_name word = nat_le (length word) 16 && (is_lower_case (slice_index word 0) && list_all is_name_byte word)

-- the name that a word is
abbrev pub name_of : List ℕ → Option (List ℕ)
name_of word = if is_name word then Some word else None
