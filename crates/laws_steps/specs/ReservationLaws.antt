-- Where reservations come from, what keeps them, and what is sent for them: the claims of the public laws.
use Rattle.std.specs.Prelude.{◌≡◌, ℕ, ◌+◌, ◌<◌, ◌⊎◌, true, false, not, Option, Some, None}
use Rattle.rsvp_base.specs.declared.addr.Addr.{Addr}
use Rattle.rsvp_base.specs.declared.part.Part.{Part}
use Rattle.rsvp_base.specs.declared.session.Sender.{Sender}
use Rattle.rsvp_base.specs.declared.session.Session.{Session}
use Rattle.rsvp_base.specs.declared.style.StyleKind.{StyleKind}
use Rattle.rsvp_base.specs.Members.{In}
use Rattle.rsvp_base.specs.Orders.{Names}
use Rattle.rsvp_base.specs.Table.{get, has}
use Rattle.rsvp_base.specs.TokenBucket.{TokenBucket}
use Rattle.rsvp_messages.specs.declared.ask.Ask.TheVariants as ask
use Rattle.rsvp_messages.specs.declared.message.Message.{Message}
use Rattle.rsvp_messages.specs.declared.message.Message.TheVariants as message
use Rattle.rsvp_messages.specs.declared.message.ResvMsg.{ResvMsg}
use Rattle.rsvp_messages.specs.declared.message.ResvTearMsg.{ResvTearMsg}
use Rattle.rsvp_messages.specs.Units.{AskedUnit, ask_style, asked_units, tear_names, tear_style}
use Rattle.style_rules.specs.Lines.{LineKey}
use Rattle.style_rules.specs.Parts.{has_name}
use Rattle.laws_bounds.specs.RouterRules.Asking.{ask_of, asker_of, matched, stays}
use Rattle.laws_bounds.specs.RouterRules.Facts.{Facts, ResvState, resvs_of}
use Rattle.laws_bounds.specs.RouterRules.Forgetting.{is_lost}
use Rattle.laws_bounds.specs.RouterRules.Inputs.{Call, Came, Clear, Input, Moved, Send, Spelt, Unspelt, Wait}
use Rattle.laws_bounds.specs.RouterRules.Known.{Lane, known, lanes, named_as, names_via}
use Rattle.laws_bounds.specs.RouterRules.NodeConfig.{NodeConfig, lifetime, own, period}
use Rattle.laws_bounds.specs.RouterRules.Requests.{toward}
use Rattle.laws_bounds.specs.RouterRules.Sends.{hop_to, tear_of}
use Rattle.laws_bounds.specs.FactLaws.{ComesBy}
use Rattle.laws_bounds.specs.SendLaws.{IsGone}
use Rattle.laws_bounds.specs.RuleLaws.{IsLeft}
use Rattle.laws_bounds.specs.RouterRules.Steps.{IsLeftOf, NodeStep, Begins, left_by, sent_by, fired_by}

-- ---- where a reservation comes from
-- names that are listed; all are where there is no list
abbrev pub IsListed : Option Names → Sender → Type 0
IsListed None x = Unit {0}
IsListed (Some names) x = has names x ≡ true

-- a Resv that came to this node by the reservation's interface, from its next hop, for its session and style
pub record CameForIt (p : NodeConfig) (i : Input) (st : StyleKind) (k : LineKey) : Type 0 where
  pub resv : ResvMsg
  pub came : i ≡ Came k.1.0.0 (own p k.1.0.0) (Spelt (message.Resv resv))
  pub session : resv.session ≡ k.0
  pub next : resv.hop.addr ≡ k.1.0.1
  pub style : ask_style resv.ask ≡ st

-- the reservation is of a unit that such a Resv asked for: with its flow, and with those of its names that match, which are
-- known and whose trees go out of the interface
pub record IsAskedFor (p : NodeConfig) (c : ℕ) (i : Input) (f : Facts) (st : StyleKind) (k : LineKey) (x : ResvState) : Type 0 where
  pub by : CameForIt p i st k
  pub unit : AskedUnit
  pub asks : In unit (asked_units by.resv.ask)
  pub at : unit.unit ≡ k.1.1
  pub flow : x.part.flow ≡ unit.flow
  pub listed : (s : Sender) → has x.part.senders s ≡ true → IsListed unit.names s
  pub match : (s : Sender) → has x.part.senders s ≡ true → has (matched p f (asker_of p c k.1.0.0 by.resv)) s ≡ true
  pub named : has_name x.part ≡ true
  pub dies : x.dies ≡ c + lifetime p by.resv.period

-- it was there, with all of its names or fewer, its flow and its death; or it was asked for
abbrev pub WhereAReservationFactComesFrom : Type 0
WhereAReservationFactComesFrom =
    (step : NodeStep) → Begins step → (st : StyleKind) (k : LineKey) (x : ResvState) → get (resvs_of st (left_by step)) k ≡ Some x
    → ((r : ResvState) × (get (resvs_of st step.facts) k ≡ Some r) × IsLeftOf r x) ⊎ IsAskedFor step.now step.after step.input step.facts st k x

-- ---- what keeps a reservation
-- a message that may take a reservation away or replace it is of its session and style, by its interface from its next hop: a
-- Resv, or a ResvTear that takes one of its names (RFC 2209, 2)
abbrev pub SpeaksOf : Session → ℕ → Addr → StyleKind → StyleKind → LineKey → Type 0
SpeaksOf s e a said st k = (s ≡ k.0) × (e ≡ k.1.0.0) × (a ≡ k.1.0.1) × (said ≡ st)

-- a ResvTear takes a name of the part
pub record TakesName (m : ResvTearMsg) (v : Part) : Type 0 where
  pub name : Sender
  pub was : has v.senders name ≡ true
  pub goes : stays (tear_names m.tear) name ≡ false

abbrev pub TouchesBy : ℕ → Message → StyleKind → LineKey → ResvState → Type 0
TouchesBy e (message.Path m) st k r = ⊥
TouchesBy e (message.Resv m) st k r = SpeaksOf m.session e m.hop.addr (ask_style m.ask) st k
TouchesBy e (message.PathErr m) st k r = ⊥
TouchesBy e (message.ResvErr m) st k r = ⊥
TouchesBy e (message.PathTear m) st k r = ⊥
TouchesBy e (message.ResvTear m) st k r = SpeaksOf m.session e m.hop.addr (tear_style m.tear) st k × TakesName m r.part
TouchesBy e (message.ResvConf m) st k r = ⊥

abbrev pub Touches : Input → StyleKind → LineKey → ResvState → Type 0
Touches (Call l) st k r = ⊥
Touches (Wait ms word) st k r = ⊥
Touches Clear st k r = Unit {0}
Touches (Came e dst (Spelt m)) st k r = TouchesBy e m st k r
Touches (Came e dst (Unspelt m)) st k r = ⊥
Touches Moved st k r = ⊥

-- the name of a known sender, after the step
abbrev pub IsKnownThen : NodeStep → StyleKind → Session → Sender → Type 0
IsKnownThen step st s x = has (named_as st (known (left_by step) s)) x ≡ true

pub record WhatKeepsAReservationFact : Type 0 where
  -- it stays as it is while it lives, nothing touches it, and each of its names is known
  pub whole : (step : NodeStep) → Begins step → (st : StyleKind) (k : LineKey) (r : ResvState) → get (resvs_of st step.facts) k ≡ Some r → step.after < r.dies → (Touches step.input st k r → ⊥)
      → ((x : Sender) → has r.part.senders x ≡ true → IsKnownThen step st k.0 x) → get (resvs_of st (left_by step)) k ≡ Some r
  -- and with the names that are not forgotten while one of its names is known
  pub some : (step : NodeStep) → Begins step → (st : StyleKind) (k : LineKey) (r : ResvState) → get (resvs_of st step.facts) k ≡ Some r → step.after < r.dies → (Touches step.input st k r → ⊥)
      → (x : Sender) → has r.part.senders x ≡ true → IsKnownThen step st k.0 x
      → (y : ResvState) × (get (resvs_of st (left_by step)) k ≡ Some y) × IsLeft (λ s. not (is_lost st step.facts (left_by step) k.0 s)) r y

-- ---- what a sent Resv says
-- what goes toward a previous hop after the step, whole
pub record IsOfLane (p : NodeConfig) (f : Facts) (s : Send) (m : ResvMsg) : Type 0 where
  pub lane : Lane
  pub there : has (lanes f) lane ≡ true
  -- a path of the session comes from the hop
  pub by : (x : Sender) × ComesBy f lane.session lane.hop x
  pub asks : ask_of lane.style (toward p f lane) ≡ Some m.ask
  pub style : ask_style m.ask ≡ lane.style
  pub session : m.session ≡ lane.session
  pub hop : m.hop ≡ hop_to p f lane
  pub from : m.hop.addr ≡ own p lane.hop.0
  pub period : m.period ≡ period p
  pub iface : s.iface ≡ lane.hop.0
  pub dst : s.dst ≡ lane.hop.1

pub record WhatAResvSentSays : Type 0 where
  pub says : (step : NodeStep) → Begins step → (s : Send) (m : ResvMsg) → In s (sent_by step) → s.message ≡ message.Resv m → IsOfLane step.now (left_by step) s m
  -- a wildcard Resv has its SCOPE
  pub scope : (step : NodeStep) → Begins step → (s : Send) (m : ResvMsg) → In s (sent_by step) → s.message ≡ message.Resv m → (scope : Option Names) (flow : TokenBucket) → m.ask ≡ ask.Wild scope flow
      → (names : Names) × (scope ≡ Some names)
  -- it is the refresh of a session that came due, or what goes toward the hop changed
  pub refresh : (step : NodeStep) → Begins step → (s : Send) (m : ResvMsg) → In s (sent_by step) → s.message ≡ message.Resv m → s.refresh ≡ has (fired_by step) m.session
  pub why : (step : NodeStep) → Begins step → (s : Send) (m : ResvMsg) → In s (sent_by step) → s.message ≡ message.Resv m → s.refresh ≡ false
      → (l : Lane) × (s.iface ≡ l.hop.0) × (s.dst ≡ l.hop.1) × (m.session ≡ l.session) × (ask_style m.ask ≡ l.style) × (toward step.old step.facts l ≡ toward step.now (left_by step) l → ⊥)

-- ---- why a ResvTear is sent: some units went toward a hop before and do no more. It names those of their names that are
-- still via the hop
pub record IsOfGoneUnits (old p : NodeConfig) (before after : Facts) (s : Send) (m : ResvTearMsg) : Type 0 where
  pub lane : Lane
  pub was : has (lanes before) lane ≡ true
  pub names : Names
  pub some : (x : Sender) × (has names x ≡ true)
  pub gone : (x : Sender) → has names x ≡ true → IsGone (toward old before lane) (toward p after lane) x
  pub via_hop : (x : Sender) → has names x ≡ true → has (names_via after lane) x ≡ true
  pub is : m ≡ record { session = lane.session; hop = hop_to p after lane; tear = tear_of lane.style names }
  pub iface : s.iface ≡ lane.hop.0
  pub dst : s.dst ≡ lane.hop.1
  pub refresh : s.refresh ≡ false

abbrev pub WhyAResvTearIsSent : Type 0
WhyAResvTearIsSent =
    (step : NodeStep) → Begins step → (s : Send) (m : ResvTearMsg) → In s (sent_by step) → s.message ≡ message.ResvTear m → IsOfGoneUnits step.old step.now step.facts (left_by step) s m
