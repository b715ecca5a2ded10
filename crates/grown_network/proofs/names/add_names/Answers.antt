use Rattle.grown_network.proofs.NameLists.{names_are}
use Rattle.grown_network.proofs.names.add_names.Goals as goal

pub name-requires : goal.name-requires
name-requires c = (names_are c.args.node c.requires.1).0

pub name-requires-2 : goal.name-requires-2
name-requires-2 c = (names_are c.args.node c.requires.1).1
