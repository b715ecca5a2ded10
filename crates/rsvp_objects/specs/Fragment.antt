-- The words behind the general part of an ADSPEC (RFC 2210, 3.3): fragments of services, one behind the other.
--
--     +-------------+-------------+-------------+-------------+
--     |   service   |b|  //////   |          length           |
--     +-------------+-------------+-------------+-------------+
--     //               as many words as that                 //
--     +-------------+-------------+-------------+-------------+
--
-- b is the break bit. Words are numbers of 32 bits.
use Rattle.std.specs.Prelude.{◌≡◌, ℕ, zero, suc, ◌+◌, ◌/◌, ◌%◌, ◌^◌, ◌≤◌, Bool, true, false, not, ◌&&◌, ◌==◌, nat_le, List, [], ◌∷◌, ◌++◌, length, Option, Some, None, if◌then◌else◌}

-- ---- the first word of a fragment

abbrev pub service : ℕ → ℕ
service w = w / 2 ^ 24

abbrev pub is_broken : ℕ → Bool
is_broken w = w / 2 ^ 23 % 2 == 1

-- how many words follow it
abbrev pub counted : ℕ → ℕ
counted w = w % 2 ^ 16

abbrev pub is_general : ℕ → Bool
is_general w = service w == 1

abbrev pub is_load : ℕ → Bool
is_load w = service w == 5

abbrev pub with_break : ℕ → ℕ
with_break w = if is_broken w then w else w + 2 ^ 23

-- ---- words cut into fragments. Where `due` is not 0, so many words of the fragment before come first

-- the first word of each fragment
abbrev pub heads : ℕ → List ℕ → List ℕ
heads due [] = []
heads (suc due) (w ∷ ws) = heads due ws
heads zero (w ∷ ws) = w ∷ heads (counted w) ws

-- how many words of the last fragment are not there
abbrev pub missing : ℕ → List ℕ → ℕ
missing due [] = due
missing (suc due) (w ∷ ws) = missing due ws
missing zero (w ∷ ws) = missing (counted w) ws

-- all words but the first words of controlled-load fragments
abbrev pub others : ℕ → List ℕ → List ℕ
others due [] = []
others (suc due) (w ∷ ws) = w ∷ others due ws
others zero (w ∷ ws) = if is_load w then others (counted w) ws else w ∷ others (counted w) ws

-- the same words with the break bit set in the first word of each fragment
abbrev pub marked : ℕ → List ℕ → List ℕ
marked due [] = []
marked (suc due) (w ∷ ws) = w ∷ marked due ws
marked zero (w ∷ ws) = with_break w ∷ marked (counted w) ws

-- ---- whole fragments of services other than the general one and controlled load

abbrev pub all_other : List ℕ → Bool
all_other [] = true
all_other (w ∷ ws) = not (is_general w) && not (is_load w) && all_other ws

-- at most 24 words in all
pub record IsFragments (ws : List ℕ) : Type 0 where
  pub few : length ws ≤ 24
  pub whole : missing 0 ws ≡ 0
  pub other : all_other (heads 0 ws) ≡ true

-- ---- what may stand behind the general part

abbrev pub none_general : List ℕ → Bool
none_general [] = true
none_general (w ∷ ws) = not (is_general w) && none_general ws

-- the first words of controlled-load fragments
abbrev pub loads : List ℕ → List ℕ
loads [] = []
loads (w ∷ ws) = if is_load w then w ∷ loads ws else loads ws

-- at most one, and no words follow it
abbrev pub is_one_load : List ℕ → Bool
is_one_load [] = true
is_one_load (w ∷ []) = counted w == 0
is_one_load _ = false

-- whether its break bit is set
abbrev pub load_in : List ℕ → Option Bool
load_in [] = None
load_in (w ∷ ws) = Some (is_broken w)

-- whole fragments, none of the general service, at most one of controlled load, at most 24 words of others
abbrev pub are_fragments : List ℕ → Bool
are_fragments ws = missing 0 ws == 0 && none_general (heads 0 ws) && is_one_load (loads (heads 0 ws)) && nat_le (length (others 0 ws)) 24

-- what these words say: of controlled load its break bit, and the other fragments as they are
unfoldable pub behind_in : List ℕ → Option (Option Bool × List ℕ)
behind_in ws = if are_fragments ws then Some (load_in (loads (heads 0 ws)), others 0 ws) else None

-- ---- the same where a part was read before: `due` words of its last fragment still come, `load` is what its controlled
-- load said, and `kept` are the words of its other fragments

abbrev pub is_one_more : Option Bool → List ℕ → Bool
is_one_more None ws = is_one_load ws
is_one_more (Some broken) [] = true
is_one_more (Some broken) (w ∷ ws) = false

abbrev pub or_later : Option Bool → Option Bool → Option Bool
or_later None later = later
or_later (Some broken) later = Some broken

abbrev pub are_more : ℕ → Option Bool → List ℕ → List ℕ → Bool
are_more due load kept ws = missing due ws == 0 && none_general (heads due ws) && is_one_more load (loads (heads due ws)) && nat_le (length (kept ++ others due ws)) 24

unfoldable pub more_in : ℕ → Option Bool → List ℕ → List ℕ → Option (Option Bool × List ℕ)
more_in due load kept ws = if are_more due load kept ws then Some (or_later load (load_in (loads (heads due ws))), kept ++ others due ws) else None
