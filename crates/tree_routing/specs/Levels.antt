-- Levels of vertices, lifted along edges: how long a chain from each is, at least.
use Rattle.std.specs.Prelude.{ℕ, ◌+◌, zero, suc, Bool, false, ◌&&◌, nat_le, nat_lt, List, [], ◌∷◌, length, map as each, replicate, Option, None, Some, slice_index, slice_set, if◌then◌else◌}
use Rattle.tree_model.specs.Chains.{largest}
use Rattle.tree_routing.specs.declared.known.Known.{Known}

abbrev pub level : List ℕ → ℕ → ℕ
level ls v = slice_index ls v

-- the first vertex is there and does not stand above the second yet; levels stay below 2^16
abbrev pub rises : Option ℕ → ℕ → List ℕ → Bool
rises None v ls = false
rises (Some a) v ls = nat_lt a (length ls) && (nat_le (level ls a) (level ls v) && nat_lt (level ls v) 65535)

abbrev pub lift_along : Option ℕ → ℕ → List ℕ → List ℕ
lift_along None v ls = ls
lift_along (Some a) v ls = if rises (Some a) v ls then slice_set ls a (level ls v + 1) else ls

-- along each edge once
abbrev pub lift : List Known → List ℕ → List ℕ
lift [] ls = ls
lift (k ∷ ks) ls = lift ks (lift_along k.before k.vertex ls)

abbrev pub lifts : ℕ → List Known → List ℕ → List ℕ
lifts zero ks ls = ls
lifts (suc n) ks ls = lifts n ks (lift ks ls)

-- each vertex at 1, and then along all edges as often as there are hops
abbrev pub levels : List Known → List ℕ
levels ks = lifts (length ks) ks (replicate (length ks) 1)

abbrev pub highest : List Known → List ℕ → ℕ
highest ks ls = largest (each (λ k. level ls k.vertex) ks)
