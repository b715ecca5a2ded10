-- What is asked of the ends of a link.
use Rattle.std.specs.Prelude.{ℕ, Bool, true, false, not, ◌&&◌, ◌||◌, ◌==◌, nat_lt, List, [], ◌∷◌, length}
use Rattle.std.specs.List.{list_any}
use Rattle.tree_model.specs.declared.hops.End.{End}
use Rattle.tree_model.specs.declared.hops.LinkHop.{LinkHop}
use Rattle.tree_model.specs.Networks.{among, link_of, node_of}

-- the hop is not on the link of these ends, or goes out of this one
abbrev pub leaves_link : List ℕ → ℕ → LinkHop → Bool
leaves_link link e x = not (among x.from link) || (x.from == e)

-- the end is there, and in no link
abbrev pub is_none : List ℕ → Bool
is_none [] = true
is_none (e ∷ es) = false

abbrev pub is_free : List End → List (List ℕ) → ℕ → Bool
is_free ends links e = nat_lt e (length ends) && is_none (link_of links e)

-- no two of the ends are of one node
abbrev pub is_at : List End → ℕ → ℕ → Bool
is_at ends n e = node_of ends e == n

abbrev pub are_apart : List End → List ℕ → Bool
are_apart ends [] = true
are_apart ends (e ∷ es) = not (list_any (is_at ends (node_of ends e)) es) && are_apart ends es
