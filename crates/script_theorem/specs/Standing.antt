-- Behind the lines of a script its network has what they ask, and the senders are advertised of which the lines say so; so a report there
-- is what `demand` writes of the script, and an `adverts` line writes what the lines say of the routing and of who is advertised.
use Rattle.std.specs.Prelude.{◌≡◌, ◌↔◌, ℕ, ◌+◌, ◌*◌, ◌≤◌, ◌++◌, false, List, [], ◌∷◌, Option}
use Rattle.rsvp_base.specs.Members.{In}
use Rattle.rsvp_base.specs.Sets.{Set}
use Rattle.rsvp_base.specs.Table.{empty}
use Rattle.router_rules.specs.Calls.{advertised_with}
use Rattle.router_rules.specs.Facts.{sender_keys}
use Rattle.tree_model.specs.declared.locals.LocalSender.{LocalSender}
use Rattle.tree_model.specs.declared.locals.LocalWant.{LocalWant}
use Rattle.tree_model.specs.Goals.{DemandsFit}
use Rattle.tree_model.specs.Networks.{Net}
use Rattle.tree_model.specs.Ranks.{longest}
use Rattle.tree_model.specs.Wants.{Locals}
use Rattle.network_model.specs.DemandTexts.{demand_text}
use Rattle.network_model.specs.Bounds.{IsSettled}
use Rattle.network_model.specs.Events.{AtNode, Event, Reports, ReportsAdverts, all_steps}
use Rattle.network_model.specs.Locals.{locals_of}
use Rattle.network_model.specs.Runs.{first_world, is_crowded_run, run_text, steps_of_run, text_of}
use Rattle.network_model.specs.Steps.{Adverts, Report, Step, step}
use Rattle.network_model.specs.Worlds.{World}
use Rattle.settle_adverts.specs.Demanded.{advertised_senders, demanded_adverts}
use Rattle.script_grammar.specs.Draft.{Draft, nothing, plan_of, routing}
use Rattle.script_grammar.specs.Grammar.{Leads}
use Rattle.script_words.specs.Lines.{text_lines}
use Rattle.script_theorem.specs.AdvertReports.{AreAdvertsSettled}
use Rattle.script_theorem.specs.Demands.{moment}
use Rattle.script_theorem.specs.RoundsAmong.{AreRoundsAndWriting, rounds_among}
use Rattle.script_theorem.specs.Writing.{OnlyWrite}

-- the same senders and wants, in whatever order
pub record AskTheSame (a b : Locals) : Type 0 where
  pub senders : (x : LocalSender) → In x a.senders ↔ In x b.senders
  pub wants : (w : LocalWant) → In w a.wants ↔ In w b.wants

-- then the same is demanded
pub record IsSameDemand (net : Net) (a b : Locals) : Type 0 where
  pub text : (names : List (List ℕ)) (e : Option ℕ) → demand_text names net a e ≡ demand_text names net b e
  pub fits : DemandsFit net a ↔ DemandsFit net b

abbrev pub TheSameIsDemanded : Type 0
TheSameIsDemanded = (net : Net) (a b : Locals) → AskTheSame a b → IsSameDemand net a b

-- ---- scripts
-- the world behind all that happens in these lines
abbrev pub world_behind : Draft → World
world_behind d = moment (plan_of d) (steps_of_run (plan_of d))

-- what a node is told changes who is advertised as by the rules: a sender is so from an `advert` line on, until a line drops it. No other
-- event makes a difference
abbrev pub advertised_then : Event → Set sender_keys → Set sender_keys
advertised_then (AtNode n l) ks = advertised_with l ks
advertised_then _ ks = ks

-- who is advertised behind these events, where at first these are
abbrev pub advertised_behind : List Event → Set sender_keys → Set sender_keys
advertised_behind [] ks = ks
advertised_behind (e ∷ es) ks = advertised_behind es (advertised_then e ks)

-- the routing in force, who sends and who wants what, and which senders are advertised
pub record HasWhatIsAsked (d : Draft) : Type 0 where
  pub net : (world_behind d).net ≡ routing d
  pub locals : AskTheSame (locals_of (world_behind d)) d.locals
  pub advertised : advertised_senders (world_behind d) ≡ advertised_behind d.events empty

abbrev pub ScriptsStand : Type 0
ScriptsStand = (bytes : List ℕ) (d : Draft) → Leads nothing (text_lines bytes) d → HasWhatIsAsked d

-- ---- the text of a part of a script
-- the text of these events from this world on, and the world behind the first events of a script
abbrev pub events_text : Draft → List Event → World → List ℕ
events_text d es w = text_of (plan_of d).quarter d.names (all_steps (plan_of d).quarter es w) w

abbrev pub world_after : Draft → List Event → World
world_after d es = moment (plan_of d) (all_steps (plan_of d).quarter es (first_world (plan_of d)))

-- ---- a report behind which the script only writes
-- at a settled moment or behind steps that only write after one, where what the lines ask fits: the text is that of the steps before the
-- report, then what `demand` writes of the script but for the last line, and then that of the steps behind it, if there are any, in the
-- world there
abbrev pub TheLastReportIsTheDemand : Type 0
TheLastReportIsTheDemand =
    (bytes : List ℕ) (d : Draft) → Leads nothing (text_lines bytes) d → is_crowded_run (plan_of d) ≡ false → (ss still later : List Step) (e : Option ℕ)
    → steps_of_run (plan_of d) ≡ (ss ++ still) ++ Report e ∷ later → IsSettled (plan_of d).quarter (first_world (plan_of d)) ss → OnlyWrite still → OnlyWrite later
    → DemandsFit (routing d) d.locals
    → run_text (plan_of d) ≡ text_of (plan_of d).quarter d.names (ss ++ still) (first_world (plan_of d))
    ++ (demand_text d.names (routing d) d.locals e ++ text_of (plan_of d).quarter d.names later (step (plan_of d).quarter (Report e) (moment (plan_of d) (ss ++ still))))

-- so in a script whose last lines are at least 13 H + 13 rounds, H the longest chain of hops of the routing in force, among lines that only
-- write, the report, and lines that only write
abbrev pub RoundsBringTheDemand : Type 0
RoundsBringTheDemand =
    (bytes : List ℕ) (d : Draft) → Leads nothing (text_lines bytes) d → is_crowded_run (plan_of d) ≡ false → (es fs gs : List Event) (e : Option ℕ)
    → d.events ≡ es ++ (fs ++ Reports e ∷ gs) → AreRoundsAndWriting fs → 13 * longest (routing d) + 13 ≤ rounds_among fs → AreRoundsAndWriting gs → rounds_among gs ≡ 0
    → DemandsFit (routing d) d.locals
    → run_text (plan_of d) ≡ events_text d (es ++ fs) (first_world (plan_of d))
    ++ (demand_text d.names (routing d) d.locals e ++ events_text d gs (step (plan_of d).quarter (Report e) (world_after d (es ++ fs))))

-- ---- an `adverts` line behind which the script only writes
-- what it is due, of the lines alone: the advertisements of the routing in force, of the senders that the lines advertise
abbrev pub asked_adverts : Draft → List ℕ
asked_adverts d = demanded_adverts d.names (routing d) (advertised_behind d.events empty)

-- behind 7 H + 4 calm rounds or steps that only write after them, whether or not what the lines ask fits: the text is that of the steps
-- before the line, then this, and then that of the steps behind the line, if there are any, in the world there
abbrev pub TheLastAdvertsAreDemanded : Type 0
TheLastAdvertsAreDemanded =
    (bytes : List ℕ) (d : Draft) → Leads nothing (text_lines bytes) d → is_crowded_run (plan_of d) ≡ false → (ss still later : List Step)
    → steps_of_run (plan_of d) ≡ (ss ++ still) ++ Adverts ∷ later → AreAdvertsSettled (plan_of d).quarter (first_world (plan_of d)) ss → OnlyWrite still → OnlyWrite later
    → run_text (plan_of d) ≡ text_of (plan_of d).quarter d.names (ss ++ still) (first_world (plan_of d))
    ++ (asked_adverts d ++ text_of (plan_of d).quarter d.names later (step (plan_of d).quarter Adverts (moment (plan_of d) (ss ++ still))))

-- so in a script whose last lines are at least so many rounds, H the longest chain of hops of the routing in force, among lines that only
-- write, the `adverts` line, and lines that only write
abbrev pub RoundsBringTheAdverts : Type 0
RoundsBringTheAdverts =
    (bytes : List ℕ) (d : Draft) → Leads nothing (text_lines bytes) d → is_crowded_run (plan_of d) ≡ false → (es fs gs : List Event)
    → d.events ≡ es ++ (fs ++ ReportsAdverts ∷ gs) → AreRoundsAndWriting fs → 7 * longest (routing d) + 4 ≤ rounds_among fs → AreRoundsAndWriting gs → rounds_among gs ≡ 0
    → run_text (plan_of d) ≡ events_text d (es ++ fs) (first_world (plan_of d)) ++ (asked_adverts d ++ events_text d gs (step (plan_of d).quarter Adverts (world_after d (es ++ fs))))
