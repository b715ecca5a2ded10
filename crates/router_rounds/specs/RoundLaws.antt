-- What is said of rounds over several sessions: the claims of the public laws.
use Rattle.std.specs.Prelude.{◌≡◌, ℕ, List, map as each, None}
use Rattle.std.specs.List.{filter_map, flat_map}
use Rattle.rsvp_base.specs.Orders.{sessions}
use Rattle.rsvp_base.specs.Sets.{Set}
use Rattle.rsvp_base.specs.Table.{changed, has}
use Rattle.rsvp_base.specs.declared.session.Session.{Session}
use Rattle.router_rules.specs.Known.{Lane}
use Rattle.router_rules.specs.Requests.{toward}
use Rattle.router_rules.specs.Sends.{resv_send_to, resv_tear, unmarked, used_marks}
use Rattle.router_state.specs.State.{IsSaid, Said, State, facts_of}
use Rattle.laws_sends.specs.Saying.{IsRoomy}
use Rattle.laws_sends.specs.Several.{lanes_for}
use Rattle.router_rounds.specs.Rounds.{AreCleared, AreRounds, AreTold, told_round, torn_near, wants_told, with_hops}

abbrev pub ClocksDoNotMatter : Type 0
ClocksDoNotMatter = (n : State) (c d : ℕ) (l : Lane) → toward n.place (facts_of c n) l ≡ toward n.place (facts_of d n) l

-- the node before may be seen at another clock than that after
abbrev pub RoundsAreTorn : Type 0
RoundsAreTorn =
    (ss : List Session) (n m : State) → AreRounds ss n m → (c d : ℕ)
    → flat_map (torn_near d m m.said) (each (with_hops (facts_of c n)) ss) ≡ flat_map (resv_tear n.place m.place (facts_of c n) (facts_of d m)) (lanes_for ss (facts_of c n))

abbrev pub ClearedIsRoomy : Type 0
ClearedIsRoomy = (ss : List Session) (n m : State) → AreRounds ss n m → (c : ℕ) (said : Said) → AreCleared m (each (with_hops (facts_of c n)) ss) said → IsRoomy m said

abbrev pub RoundsAreTold : Type 0
RoundsAreTold =
    (ss : List Session) (n m : State) → AreRounds ss n m → (c d : ℕ) (said : Said) → AreCleared m (each (with_hops (facts_of c n)) ss) said → (fired : Set sessions)
    → flat_map (λ s. told_round d m (has fired s) said s) ss ≡ filter_map (resv_send_to n.place m.place (facts_of c n) (facts_of d m) fired None) (lanes_for ss (facts_of d m))

abbrev pub RoundsAreMarked : Type 0
RoundsAreMarked =
    (ss : List Session) (n m : State) → AreRounds ss n m → (c d : ℕ) (said : Said) → AreCleared m (each (with_hops (facts_of c n)) ss) said
    → wants_told d m said ss ≡ changed (unmarked (used_marks n.place m.place (facts_of c n) (facts_of d m) None)) m.wants

-- what is kept last is what goes toward each hop, before marks are taken away and after
pub record RoundsAreSaid : Type 0 where
  pub said : (ss : List Session) (n m : State) → AreRounds ss n m → (c : ℕ) (said : Said) → AreCleared m (each (with_hops (facts_of c n)) ss) said
      → (last : Said) → AreTold (record m { said = said }) ss last → IsRoomy m last → IsSaid last m
  pub unmarked : (m : State) (c : ℕ) (said : Said) (ss : List Session) (last : Said) → IsSaid last m → IsSaid last (record m { wants = wants_told c m said ss })
