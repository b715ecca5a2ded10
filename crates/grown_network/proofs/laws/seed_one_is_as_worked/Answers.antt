use Rattle.std.specs.Fmt.{digits}
use Rattle.std.specs.Prelude.{refl}
use Rattle.grown_network.specs.Hops.{hops_away, hops_down, way_up}
use Rattle.grown_network.specs.Hosts.{senders, wants_up_to}
use Rattle.grown_network.specs.Nodes.{ends_up_to, names_up_to}
use Rattle.grown_network.proofs.laws.seed_one_is_as_worked.Goals as goal

pub returns : goal.returns
unfolding digits senders wants_up_to hops_away hops_down way_up ends_up_to names_up_to
returns c = record { words = refl; senders = refl; first = refl; second = refl; how_many = refl; asked = refl; hops = refl; all_hops = refl; names = refl; ends = refl }
