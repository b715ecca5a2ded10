-- Who is told that a reservation stands, which wishes go on, and when a mark is used: the claims of the public laws.
use Rattle.std.specs.Prelude.{◌≡◌, ◌⊎◌, ◌↔◌, true, false, not, ◌&&◌, List, Option, Some, None}
use Rattle.router_rules.specs.RsvpBase.declared.addr.Addr.{Addr}
use Rattle.router_rules.specs.RsvpBase.declared.style.StyleKind.{StyleKind}
use Rattle.router_rules.specs.RsvpBase.declared.style.Unit.{Unit as UnitOf}
use Rattle.router_rules.specs.RsvpBase.Members.{In}
use Rattle.router_rules.specs.RsvpBase.Table.{changed, empty, get, has}
use Rattle.router_rules.specs.RsvpBase.Sets.{Set}
use Rattle.router_rules.specs.RsvpMessages.declared.ask.Ask.{Ask}
use Rattle.router_rules.specs.Toward.{IsRequestOf, Request, request_unit}
use Rattle.router_rules.specs.Facts.{Facts, Want, WantKey, Wants, want_keys}
use Rattle.router_rules.specs.Inputs.{Asked, ConfSend}
use Rattle.router_rules.specs.Known.{Lane, lanes}
use Rattle.router_rules.specs.NodeConfig.{NodeConfig, own}
use Rattle.router_rules.specs.Requests.{requests, toward, want_request}
use Rattle.router_rules.specs.Sends.{confirm_for, confirmed, goes_on, is_sent_new, marked_units, takes_part, unmarked, used_marks, without_scope}

-- ---- a Resv goes toward a hop for a change: something goes there, and it is another than before
pub record IsNewThere (old p : NodeConfig) (before after : Facts) (l : Lane) : Type 0 where
  pub some : toward p after l ≡ empty → ⊥
  pub changed : toward old before l ≡ toward p after l → ⊥

-- something new goes on in the session of a wish
pub record GoesOn (old p : NodeConfig) (before after : Facts) (a : Asked) : Type 0 where
  pub lane : Lane
  pub there : has (lanes after) lane ≡ true
  pub session : lane.session ≡ a.session
  pub new : IsNewThere old p before after lane

-- a wish that is granted here: something was taken, and nothing new goes on
pub record IsGranted (old p : NodeConfig) (before after : Facts) (asked : Option Asked) (s : ConfSend) : Type 0 where
  pub wish : Asked
  pub wished : asked ≡ Some wish
  pub taken : Ask
  pub what : wish.taken ≡ Some taken
  pub ends : GoesOn old p before after wish → ⊥
  pub is : s ≡ record {
    iface = wish.iface;
    dst = wish.hop;
    conf = record {
      session = wish.session;
      err = record { node = own p wish.iface; in_place = false; not_guilty = false; code = 0; value = 0 };
      confirm = wish.confirm;
      ask = without_scope taken;
    };
  }

pub record WishesAreGranted : Type 0 where
  pub new : (old p : NodeConfig) (before after : Facts) (l : Lane) → (is_sent_new old p before after l ≡ true) ↔ IsNewThere old p before after l
  pub on : (old p : NodeConfig) (before after : Facts) (a : Asked) → (goes_on old p before after a ≡ true) ↔ GoesOn old p before after a
  pub granted : (old p : NodeConfig) (before after : Facts) (asked : Option Asked) (s : ConfSend) → In s (confirmed old p before after asked) ↔ IsGranted old p before after asked s

-- ---- a request takes part in what goes toward a hop: it is open, or none of its unit is
abbrev pub TakesPart : StyleKind → List Request → Request → Type 0
TakesPart st all r = (r.blockaded ≡ false) ⊎ ((q : Request) → IsRequestOf st all (request_unit st r) q → q.blockaded ≡ true)

-- a local want with a mark that takes part toward a hop
pub record IsMarked (p : NodeConfig) (f : Facts) (l : Lane) (u : UnitOf) : Type 0 where
  pub want : Want
  pub there : get f.wants (l.session, u) ≡ Some want
  pub marked : want.confirm ≡ true
  pub request : Request
  pub asks : want_request f l (u, want) ≡ Some request
  pub takes : TakesPart l.style (requests p f l) request

-- a mark that is used: the want takes part in a Resv that goes for a change
pub record IsUsed (old p : NodeConfig) (before after : Facts) (k : WantKey) : Type 0 where
  pub lane : Lane
  pub there : has (lanes after) lane ≡ true
  pub session : lane.session ≡ k.0
  pub new : IsNewThere old p before after lane
  pub marked : IsMarked p after lane k.1

pub record MarksAreUsed : Type 0 where
  pub takes : (st : StyleKind) (all : List Request) (r : Request) → (takes_part st all (Some r) ≡ true) ↔ TakesPart st all r
  pub marked : (p : NodeConfig) (f : Facts) (l : Lane) (u : UnitOf) → In u (marked_units p f l) ↔ IsMarked p f l u
  -- a Resv for a change asks for its node where a marked want takes part, unless the message that made it has a wish
  pub asks : (p : NodeConfig) (f : Facts) (l : Lane) (a : Addr) → (confirm_for p f l None ≡ Some a) ↔ ((a ≡ own p l.hop.0) × ((u : UnitOf) × IsMarked p f l u))
  pub used : (old p : NodeConfig) (before after : Facts) (k : WantKey) → (has (used_marks old p before after None) k ≡ true) ↔ IsUsed old p before after k
  -- where a message has a wish of its own the marks wait
  pub waits : (old p : NodeConfig) (before after : Facts) (a : Asked) → used_marks old p before after (Some a) ≡ empty
  -- a want stands with the mark that is left
  pub left : (used : Set want_keys) (wants : Wants) (k : WantKey) (w : Want) → get wants k ≡ Some w
      → get (changed (unmarked used) wants) k ≡ Some (record w { confirm = w.confirm && not (has used k) })
