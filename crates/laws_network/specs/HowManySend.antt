-- Who sends, along the events: any number of senders may send one after another, and 17 of a session at once are too many.
use Rattle.std.specs.Prelude.{◌≡◌, true, List, [], ◌∷◌, map as each}
use Rattle.std.specs.List.{range_with_len}
use Rattle.rsvp_base.specs.Members.{In}
use Rattle.network_model.specs.ThreeRouters.{s1, session, usual}
use Rattle.network_model.specs.RouterRules.Inputs.{SendAs, DropAs}
use Rattle.tree_model.specs.declared.locals.LocalSender.{LocalSender}
use Rattle.network_model.specs.Events.{Event, AtNode}
use Rattle.network_model.specs.Links.{is_group}
use Rattle.laws_network.specs.Runs.{AreFewSenders}

abbrev pub begins : LocalSender → Event
begins x = AtNode x.node (SendAs x.session x.sender usual)

abbrev pub ends : LocalSender → Event
ends x = AtNode x.node (DropAs x.session x.sender)

abbrev pub one_after_another : List LocalSender → List Event
one_after_another [] = []
one_after_another (x ∷ xs) = begins x ∷ ends x ∷ one_after_another xs

-- ports 5001 to 5017 of an address
abbrev pub seventeen : List LocalSender
seventeen = each (λ port. record { node = 0; session = session; sender = record { addr = s1; port = port } }) (range_with_len 5001 17)

pub record HowManySend : Type 0 where
  pub one_by_one : (xs : List LocalSender) → ((x : LocalSender) → In x xs → is_group x.session.group ≡ true) → AreFewSenders [] (one_after_another xs)
  pub at_once : AreFewSenders [] (each begins seventeen) → ⊥
