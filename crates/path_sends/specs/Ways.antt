-- Interfaces of a set: bit i stands for interface i.
use Rattle.std.specs.Prelude.{ℕ, ◌==◌, ◌&&◌, not, length, List}
use Rattle.std.specs.Int.{bit_at}
use Rattle.std.specs.List.{filter, range_with_len}
use Rattle.router_rules.specs.NodeConfig.{NodeConfig}

abbrev pub ways_in : NodeConfig → ℕ → List ℕ
ways_in p ways = filter (λ i. bit_at ways i == 1) (range_with_len 0 (length p.ifaces))

-- those of one set that are not in another
abbrev pub ways_but : NodeConfig → ℕ → ℕ → List ℕ
ways_but p these those = filter (λ i. (bit_at these i == 1) && not (bit_at those i == 1)) (range_with_len 0 (length p.ifaces))
