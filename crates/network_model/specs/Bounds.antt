-- The bounds that every world of a run keeps, and settled moments.
use Rattle.std.specs.Prelude.{◌≡◌, ℕ, ◌+◌, ◌*◌, ◌<◌, ◌≤◌, true, List, [], ◌∷◌, ◌++◌, length, slice_get, Some}
use Rattle.rsvp_base.specs.declared.session.Session.{Session}
use Rattle.rsvp_base.specs.Members.{In}
use Rattle.rsvp_base.specs.Table.{get}
use Rattle.rsvp_base.specs.TokenBucket.{TokenBucket}
use Rattle.router_examples.specs.RsvpMessages.Proper.{IsProper}
use Rattle.calm_rounds.specs.Machine.{run}
use Rattle.calm_rounds.specs.Rounds.{Rounds}
use Rattle.tree_model.specs.Goals.{DemandsFit}
use Rattle.tree_model.specs.Wants.{live}
use Rattle.router_examples.specs.RouterRules.Bounds.{IsWithinBounds}
use Rattle.router_examples.specs.RouterRules.Facts.{Facts, SenderKey}
use Rattle.router_examples.specs.RouterRules.Inputs.{Arrival, Spelt, Unspelt}
use Rattle.tree_model.specs.declared.hops.TreeHop.{TreeHop}
use Rattle.tree_model.specs.Networks.{owner}
use Rattle.tree_model.specs.Ranks.{longest}
use Rattle.tree_model.specs.Valid.{IsValid}
use Rattle.network_model.specs.Links.{is_group, NoEndIsAGroup}
use Rattle.network_model.specs.Locals.{locals_of, sessions_of}
use Rattle.network_model.specs.Steps.{Step, machine}
use Rattle.network_model.specs.Worlds.{Item, World, config_of}

-- ---- bounds
abbrev pub IsProperArrival : Arrival → Type 0
IsProperArrival (Spelt m) = IsProper m
IsProperArrival (Unspelt e) = Unit {0}

-- an item goes to an end that is there, was sent by a step that was made, and is a proper message if it is one
pub record IsItem (w : World) (x : Item) : Type 0 where
  pub end : x.end < length w.net.ends
  pub born : x.born < w.made
  pub proper : IsProperArrival x.arrival

pub record AreBounds (q : ℕ) (w : World) : Type 0 where
  pub period : 1 ≤ q
  pub net : IsValid w.net
  pub hosts : NoEndIsAGroup w.net
  -- nodes have a route for each tree that has a hop
  pub routed : (r : TreeHop) → In r w.net.hops → In (r.group, r.source) w.trees
  pub nodes : length w.nodes ≡ w.net.nodes
  pub facts : (n : ℕ) (f : Facts) → slice_get w.nodes n ≡ Some f → IsWithinBounds (config_of q w.net w.trees n) w.clock f
  pub flight : (x : Item) → In x w.flight → IsItem w x

-- ---- what local senders keep besides
pub record AreHosts (w : World) : Type 0 where
  -- a sender has an address of its node
  pub placed : (n : ℕ) (f : Facts) (k : SenderKey) (t : TokenBucket) → slice_get w.nodes n ≡ Some f → get f.senders k ≡ Some t → owner w.net.ends k.1.addr ≡ Some n
  pub groups : (n : ℕ) (f : Facts) (k : SenderKey) (t : TokenBucket) → slice_get w.nodes n ≡ Some f → get f.senders k ≡ Some t → is_group k.0.group ≡ true
  pub few_senders : (s : Session) → length (live (locals_of w) s) ≤ 16
  pub few_sessions : length (sessions_of w) ≤ 32

-- ---- where convergence starts: bounds, a routing without loops, and demands that fit
pub record IsStart (q : ℕ) (w : World) : Type 0 where
  pub bounds : AreBounds q w
  pub locals : AreHosts w
  pub fit : DemandsFit w.net (locals_of w)

-- ---- calm at the end: the steps end in so many calm rounds, one after the other, by the routing in force in them
abbrev pub all_of : List (List Step) → List Step
all_of [] = []
all_of (r ∷ rs) = r ++ all_of rs

-- at least as many rounds as are wanted where the longest chain has this length
pub record EndsInCalm (wanted : ℕ → ℕ) (q : ℕ) (w : World) (ss : List Step) : Type 0 where
  pub before : List Step
  pub rounds : List (List Step)
  pub parts : ss ≡ before ++ all_of rounds
  pub calm : Rounds (machine q) rounds (run (machine q) before w)
  pub enough : wanted (longest (run (machine q) before w).net) ≤ length rounds

-- 13 H + 13 rounds, H the length of the longest chain of hops: all has settled where the demands fit
abbrev pub to_settle : ℕ → ℕ
to_settle long = 13 * long + 13

abbrev pub IsSettled : ℕ → World → List Step → Type 0
IsSettled = EndsInCalm to_settle

-- 10 H + 9 rounds: nothing stale is left, whether or not the demands fit
abbrev pub to_purge : ℕ → ℕ
to_purge long = 10 * long + 9

abbrev pub IsPurged : ℕ → World → List Step → Type 0
IsPurged = EndsInCalm to_purge
