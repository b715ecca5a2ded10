-- Who is advertised behind some lines, computed.
use Rattle.std.specs.Prelude.{◌≡◌, true, [], ◌∷◌}
use Rattle.rsvp_base.specs.Table.{empty, has}
use Rattle.router_rules.specs.Inputs.{DropAs}
use Rattle.router_examples.specs.ThreeRouters.{first, session}
use Rattle.network_model.specs.Events.{AtNode, Event}
use Rattle.script_theorem.specs.Example.{advertises, sends}
use Rattle.script_theorem.specs.Standing.{advertised_behind}

abbrev pub drops : Event
drops = AtNode 0 (DropAs session first)

-- a host sends, advertises, ends that and sends again; and advertises once more
pub record ADropEndsTheAdvert : Type 0 where
  pub advertised : has (advertised_behind (sends ∷ advertises ∷ []) empty) (session, first) ≡ true
  pub dropped : advertised_behind (sends ∷ advertises ∷ drops ∷ sends ∷ []) empty ≡ empty
  pub again : has (advertised_behind (sends ∷ advertises ∷ drops ∷ sends ∷ advertises ∷ []) empty) (session, first) ≡ true
