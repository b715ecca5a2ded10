-- What the rule leaves, table by table: the claims of the public laws on waiting, forgetting and countdowns.
use Rattle.std.specs.Prelude.{◌≡◌, not, ℕ, ◌+◌, ◌<◌, ◌≤◌, ◌↔◌, Bool, true, false, cond, [], Some, None}
use Rattle.std.specs.Option.{unwrap_or}
use Rattle.router_rules.specs.RsvpBase.declared.session.Sender.{Sender}
use Rattle.router_rules.specs.RsvpBase.declared.session.Session.{Session}
use Rattle.router_rules.specs.RsvpBase.declared.style.StyleKind.{StyleKind}
use Rattle.router_rules.specs.RsvpBase.Table.{get, has, kept, changed}
use Rattle.router_rules.specs.Lines.{LineKey}
use Rattle.router_rules.specs.Parts.{has_name}
use Rattle.router_rules.specs.Act.{act}
use Rattle.router_rules.specs.Asking.{left_of}
use Rattle.router_rules.specs.Facts.{Facts, Blockade, PathState, Resvs, ResvState, ResvTables, SenderKey, Want, WantKey, each_table, resvs_of, table_of, with_resvs}
use Rattle.router_rules.specs.Targets.{WallKey}
use Rattle.router_rules.specs.Forgetting.{counted, forget, is_lost, remembered, settle}
use Rattle.router_rules.specs.Inputs.{Input}
use Rattle.router_rules.specs.Known.{Lane, known, named_as}
use Rattle.router_rules.specs.NodeConfig.{NodeConfig, period}
use Rattle.router_rules.specs.Requests.{toward}
use Rattle.router_rules.specs.Rule.{is_silent, rule, settled}
use Rattle.router_rules.specs.Sends.{sends, unmarked, used_marks}
use Rattle.router_rules.specs.Waiting.{act_wait, next_due}

-- ---- one table of reservations for each style
pub record TablesByStyle : Type 0 where
  pub each : (st : StyleKind) (g : StyleKind → Resvs → Resvs) (ts : ResvTables) → table_of st (each_table g ts) ≡ g st (table_of st ts)
  pub put : (st : StyleKind) (t : Resvs) (f : Facts) → resvs_of st (with_resvs st t f) ≡ t
  pub other : (st other : StyleKind) (t : Resvs) (f : Facts) → (st ≡ other → ⊥) → resvs_of st (with_resvs other t f) ≡ resvs_of st f

-- ---- waiting: what dies later than the clock stays as it is, and what is due moves
pub record WaitingLeavesTheLiving : Type 0 where
  pub of_paths : (p : NodeConfig) (c word : ℕ) (f : Facts) (k : SenderKey) (x : PathState) → (get (act_wait p c word f).facts.paths k ≡ Some x) ↔ ((get f.paths k ≡ Some x) × (c < x.dies))
  pub of_resvs : (p : NodeConfig) (c word : ℕ) (f : Facts) (st : StyleKind) (k : LineKey) (r : ResvState)
      → (get (resvs_of st (act_wait p c word f).facts) k ≡ Some r) ↔ ((get (resvs_of st f) k ≡ Some r) × (c < r.dies))
  pub of_walls : (p : NodeConfig) (c word : ℕ) (f : Facts) (k : WallKey) (b : Blockade) → (get (act_wait p c word f).facts.walls k ≡ Some b) ↔ ((get f.walls k ≡ Some b) × (c < b.dies))
  pub of_due : (p : NodeConfig) (c word : ℕ) (f : Facts) (s : Session) (t : ℕ) → get f.due s ≡ Some t → get (act_wait p c word f).facts.due s ≡ Some (next_due p c word t)
  pub of_fired : (p : NodeConfig) (c word : ℕ) (f : Facts) (s : Session) → (has (act_wait p c word f).fired s ≡ true) ↔ ((t : ℕ) × (get f.due s ≡ Some t) × (t ≤ c))

-- ---- what is left of a reservation: the names that stay, if one does, and all else as it was
pub record IsLeft (stays : Sender → Bool) (r x : ResvState) : Type 0 where
  pub senders : x.part.senders ≡ kept stays r.part.senders
  pub flow : x.part.flow ≡ r.part.flow
  pub confirm : x.confirm ≡ r.confirm
  pub dies : x.dies ≡ r.dies
  pub named : has_name x.part ≡ true

pub record LeftByNames : Type 0 where
  pub told : (stays : Sender → Bool) (r x : ResvState) → left_of stays r ≡ Some x → IsLeft stays r x
  -- something is left where one name stays
  pub some : (stays : Sender → Bool) (r : ResvState) (s : Sender) → has r.part.senders s ≡ true → stays s ≡ true → (x : ResvState) × (left_of stays r ≡ Some x)
  pub whole : (stays : Sender → Bool) (r : ResvState) → has_name r.part ≡ true → ((s : Sender) → has r.part.senders s ≡ true → stays s ≡ true) → left_of stays r ≡ Some r
  pub nobody : (stays : Sender → Bool) (r : ResvState) → ((s : Sender) → has r.part.senders s ≡ true → stays s ≡ false) → left_of stays r ≡ None

-- ---- forgetting
pub record ForgettingByNames : Type 0 where
  pub at : (before after : Facts) (st : StyleKind) (k : LineKey) (x : ResvState) → get (resvs_of st (forget before after)) k ≡ Some x
      → (r : ResvState) × (get (resvs_of st after) k ≡ Some r) × (remembered st before after k r ≡ Some x)
  pub lost : (st : StyleKind) (before after : Facts) (s : Session) (x : Sender) → (is_lost st before after s x ≡ true)
      ↔ ((has (named_as st (known before s)) x ≡ true) × (has (named_as st (known after s)) x ≡ false))
  -- a reservation that loses no name stays as it is
  pub stays : (before after : Facts) (st : StyleKind) (k : LineKey) (r : ResvState) → get (resvs_of st after) k ≡ Some r → has_name r.part ≡ true
      → ((x : Sender) → has r.part.senders x ≡ true → is_lost st before after k.0 x ≡ false)
      → get (resvs_of st (forget before after)) k ≡ Some r
  -- one that keeps a name stays with the names that it keeps
  pub some : (before after : Facts) (st : StyleKind) (k : LineKey) (r : ResvState) (s : Sender) → get (resvs_of st after) k ≡ Some r
      → has r.part.senders s ≡ true → is_lost st before after k.0 s ≡ false
      → (x : ResvState) × (get (resvs_of st (forget before after)) k ≡ Some x) × IsLeft (λ y. not (is_lost st before after k.0 y)) r x
  -- and one that loses all goes
  pub goes : (before after : Facts) (st : StyleKind) (k : LineKey) (r : ResvState) → get (resvs_of st after) k ≡ Some r
      → ((x : Sender) → has r.part.senders x ≡ true → is_lost st before after k.0 x ≡ true)
      → get (resvs_of st (forget before after)) k ≡ None

-- ---- countdowns
abbrev pub CountdownsSettle : Type 0
CountdownsSettle = (p : NodeConfig) (c : ℕ) (f : Facts) (s : Session) → get (settle p c f).due s ≡ cond (has (counted f) s) (Some (unwrap_or (get f.due s) (c + period p))) None

-- ---- the rule in its parts
-- a want keeps all but its mark
pub record IsWant (w x : Want) : Type 0 where
  pub style : x.style ≡ w.style
  pub part : x.part ≡ w.part

pub record RuleInParts : Type 0 where
  pub senders : (old p : NodeConfig) (c : ℕ) (i : Input) (f : Facts) → (rule old p c i f).facts.senders ≡ (act p c i f).facts.senders
  pub advertised : (old p : NodeConfig) (c : ℕ) (i : Input) (f : Facts) → (rule old p c i f).facts.advertised ≡ (act p c i f).facts.advertised
  pub paths : (old p : NodeConfig) (c : ℕ) (i : Input) (f : Facts) → (rule old p c i f).facts.paths ≡ (act p c i f).facts.paths
  pub walls : (old p : NodeConfig) (c : ℕ) (i : Input) (f : Facts) → (rule old p c i f).facts.walls ≡ (act p c i f).facts.walls
  pub resvs : (old p : NodeConfig) (c : ℕ) (i : Input) (f : Facts) → (rule old p c i f).facts.resvs ≡ (forget f (act p c i f).facts).resvs
  pub due : (old p : NodeConfig) (c : ℕ) (i : Input) (f : Facts) → (rule old p c i f).facts.due ≡ (settle p c (act p c i f).facts).due
  pub wants : (old p : NodeConfig) (c : ℕ) (i : Input) (f : Facts) (k : WantKey) (x : Want) → get (rule old p c i f).facts.wants k ≡ Some x
      → (w : Want) × (get (act p c i f).facts.wants k ≡ Some w) × IsWant w x
  -- each want is still there, its mark used where a request that holds it was sent for a change
  pub marks : (old p : NodeConfig) (c : ℕ) (i : Input) (f : Facts) → is_silent i ≡ false
      → (rule old p c i f).facts.wants
      ≡ changed (unmarked (used_marks old p f (settled p c f (act p c i f).facts) (act p c i f).asked)) (act p c i f).facts.wants
  pub quiet : (old p : NodeConfig) (c : ℕ) (i : Input) (f : Facts) → is_silent i ≡ true → (rule old p c i f).facts.wants ≡ (act p c i f).facts.wants
  pub heard : (old p : NodeConfig) (c : ℕ) (i : Input) (f : Facts) → (rule old p c i f).heard ≡ (act p c i f).heard
  pub loud : (old p : NodeConfig) (c : ℕ) (i : Input) (f : Facts) → is_silent i ≡ false → (rule old p c i f).sent ≡ sends old p f (settled p c f (act p c i f).facts) (act p c i f)
  pub silent : (old p : NodeConfig) (c : ℕ) (i : Input) (f : Facts) → is_silent i ≡ true → (rule old p c i f).sent ≡ []
  -- marks do not matter to what goes toward a hop
  pub toward_same : (old p : NodeConfig) (c : ℕ) (i : Input) (f : Facts) (l : Lane) → toward p (rule old p c i f).facts l ≡ toward p (settled p c f (act p c i f).facts) l
