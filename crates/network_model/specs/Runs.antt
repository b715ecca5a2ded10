-- The run of a script: its first world, its steps, and the text that they write.
use Rattle.std.specs.Prelude.{ℕ, ◌==◌, nat_lt, Bool, true, false, cond, List, [], ◌∷◌, ◌++◌, map as each, length, codes, Option, None, Some, slice_get}
use Rattle.std.specs.Fmt.{decimal}
use Rattle.std.specs.List.{flat_map, range_with_len}
use Rattle.router_examples.specs.RsvpMessages.declared.message.Kind.{Kind}
use Rattle.router_examples.specs.RsvpMessages.declared.message.Kind.TheVariants as kind
use Rattle.router_examples.specs.RsvpMessages.Kinds.{kind_of}
use Rattle.calm_rounds.specs.Machine.{run}
use Rattle.router_examples.specs.RouterRules.declared.answers.Heard.{Heard}
use Rattle.router_examples.specs.RouterRules.declared.answers.Heard.TheVariants as heard
use Rattle.router_examples.specs.RouterRules.declared.answers.Why.{Why}
use Rattle.router_examples.specs.RouterRules.declared.answers.Why.TheVariants as why
use Rattle.router_examples.specs.RouterRules.Adverts.{adverts_at}
use Rattle.router_examples.specs.RouterRules.Books.{book}
use Rattle.router_examples.specs.RouterRules.Facts.{Facts, no_facts}
use Rattle.router_examples.specs.RouterRules.Flags.{entries_at}
use Rattle.router_examples.specs.RouterRules.Inputs.{Arrival, Spelt, Unspelt, Stale}
use Rattle.router_examples.specs.RouterRules.NodeConfig.{NodeConfig}
use Rattle.router_examples.specs.RouterRules.Rule.{facts_with}
use Rattle.tree_model.specs.declared.hops.End.{End}
use Rattle.tree_model.specs.Networks.{Net, iface_of}
use Rattle.tree_model.specs.Trees.{trees_of}
use Rattle.network_model.specs.Events.{Event, all_steps}
use Rattle.network_model.specs.Steps.{Step, Deliver, Report, Flags, Adverts, step, outcome, machine}
use Rattle.network_model.specs.Texts.{adverts_text, flags_text, table_text}
use Rattle.network_model.specs.Worlds.{Item, World, config_of}

-- what a script says: the network, the names of its ends, what is left over at which nodes, and what happens
pub record Plan : Type 0 where
  pub quarter : ℕ
  pub seed : ℕ
  pub net : Net
  pub names : List (List ℕ)
  pub stale : List (ℕ × Stale)
  pub events : List Event

-- ---- the first world: what is left over, at the moment 0
abbrev pub left_over : NodeConfig → ℕ → List (ℕ × Stale) → Facts → Facts
left_over p n [] f = f
left_over p n (s ∷ ss) f = left_over p n ss (cond (s.0 == n) (facts_with p 0 s.1 f) f)

abbrev pub first_facts : Plan → ℕ → Facts
first_facts p n = left_over (config_of p.quarter p.net (trees_of p.net.hops) n) n p.stale no_facts

abbrev pub first_world : Plan → World
first_world p = record {
  net = p.net;
  trees = trees_of p.net.hops;
  clock = 0;
  nodes = each (first_facts p) (range_with_len 0 p.net.nodes);
  words = p.seed;
  trace = false;
  delivered = 0;
  made = 0;
  flight = [];
}

-- ---- crowded: more datagrams in flight than a world has room for
abbrev pub is_crowded : World → Bool
is_crowded w = nat_lt 8192 (length w.flight)

module _ (q : ℕ) where
  -- some step leads to a crowded world
  abbrev pub crowds : List Step → World → Bool
  crowds [] w = false
  crowds (s ∷ ss) w = cond (is_crowded (step q s w)) true (crowds ss (step q s w))

  -- the steps before the one that would
  abbrev pub uncrowded : List Step → World → List Step
  uncrowded [] w = []
  uncrowded (s ∷ ss) w = cond (is_crowded (step q s w)) [] (s ∷ uncrowded ss (step q s w))

-- ---- what is heard
abbrev pub kind_text : Kind → List ℕ
kind_text kind.Path = codes "Path"
kind_text kind.Resv = codes "Resv"
kind_text kind.PathErr = codes "PathErr"
kind_text kind.ResvErr = codes "ResvErr"
kind_text kind.PathTear = codes "PathTear"
kind_text kind.ResvTear = codes "ResvTear"
kind_text kind.ResvConf = codes "ResvConf"

abbrev pub arrival_text : Arrival → List ℕ
arrival_text (Spelt m) = kind_text (kind_of m)
arrival_text (Unspelt m) = codes "?"

abbrev pub why_text : Why → List ℕ
why_text why.Unspelt = codes "Unspelt"
why_text why.NotMine = codes "NotMine"
why_text why.NoSender = codes "NoSender"
why_text why.NotInward = codes "NotInward"
why_text why.NotOutward = codes "NotOutward"
why_text why.NoState = codes "NoState"
why_text why.Full = codes "Full"

abbrev pub heard_text : Heard → List ℕ
heard_text heard.Taken = codes "taken"
heard_text (heard.Dropped w) = codes "dropped " ++ why_text w
heard_text (heard.Answered code value) = codes "answered " ++ decimal code ++ codes "/" ++ decimal value

-- END KIND OUTCOME
abbrev pub delivery_text : List ℕ → Arrival → Heard → List ℕ
delivery_text name a h = name ++ codes " " ++ arrival_text a ++ codes " " ++ heard_text h ++ codes "\n"

-- ---- reports
-- the report of an end of this name, from the facts of its node
abbrev pub plain_report : NodeConfig → List ℕ → End → ℕ → Facts → List ℕ
plain_report p name e iface f = table_text name e.iface.capacity (book f iface)

abbrev pub flags_report : NodeConfig → List ℕ → End → ℕ → Facts → List ℕ
flags_report p name e iface f = flags_text name e.iface.capacity (entries_at p f iface)

-- what the paths offer that came by an end
abbrev pub adverts_report : NodeConfig → List ℕ → End → ℕ → Facts → List ℕ
adverts_report p name e iface f = adverts_text name (adverts_at f iface)

-- of what is there
abbrev pub with_parts : (List ℕ → End → Facts → List ℕ) → Option (List ℕ) → Option End → Option Facts → List ℕ
with_parts t None e f = []
with_parts t (Some name) None f = []
with_parts t (Some name) (Some e) None = []
with_parts t (Some name) (Some e) (Some f) = t name e f

abbrev pub node_facts : World → Option End → Option Facts
node_facts w None = None
node_facts w (Some e) = slice_get w.nodes e.node

module _ (q : ℕ) (names : List (List ℕ)) where
  abbrev pub end_report : (NodeConfig → List ℕ → End → ℕ → Facts → List ℕ) → World → ℕ → List ℕ
  end_report t w e =
      with_parts (λ name x f. t (config_of q w.net w.trees x.node) name x (iface_of w.net.ends e) f) (slice_get names e) (slice_get w.net.ends e) (node_facts w (slice_get w.net.ends e))

  abbrev pub whole_report : (NodeConfig → List ℕ → End → ℕ → Facts → List ℕ) → World → List ℕ
  whole_report t w = flat_map (end_report t w) (range_with_len 0 (length w.net.ends))

  -- what is heard of an item that is delivered
  abbrev pub heard_line : Step → World → Option Item → List ℕ
  heard_line s w None = []
  heard_line s w (Some x) =
      with_parts (λ name e f. delivery_text name x.arrival (outcome q s w e.node f).heard) (slice_get names x.end) (slice_get w.net.ends x.end) (node_facts w (slice_get w.net.ends x.end))

  -- what a step writes
  abbrev pub written : Step → World → List ℕ
  written (Deliver k) w = cond w.trace (heard_line (Deliver k) w (slice_get w.flight k)) []
  written (Report None) w = whole_report plain_report w
  written (Report (Some e)) w = end_report plain_report w e
  written Flags w = whole_report flags_report w
  written Adverts w = whole_report adverts_report w
  written _ w = []

  abbrev pub text_of : List Step → World → List ℕ
  text_of [] w = []
  text_of (s ∷ ss) w = written s w ++ text_of ss (step q s w)

-- ---- the run
abbrev pub steps_of_run : Plan → List Step
steps_of_run p = all_steps p.quarter p.events (first_world p)

abbrev pub is_crowded_run : Plan → Bool
is_crowded_run p = crowds p.quarter (steps_of_run p) (first_world p)

abbrev pub last_world : Plan → World
last_world p = run (machine p.quarter) (uncrowded p.quarter (steps_of_run p) (first_world p)) (first_world p)

-- its text, as far as it goes
abbrev pub run_text : Plan → List ℕ
run_text p = text_of p.quarter p.names (uncrowded p.quarter (steps_of_run p) (first_world p)) (first_world p)
