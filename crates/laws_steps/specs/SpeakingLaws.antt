-- What is sent for path state, and why; and which sends are refreshes: the claims of the public laws.
use Rattle.std.specs.Prelude.{◌≡◌, ℕ, ◌<◌, ◌⊎◌, true, false, length, Option, Some}
use Rattle.rsvp_base.specs.declared.addr.Addr.{Addr}
use Rattle.rsvp_base.specs.declared.session.Sender.{Sender}
use Rattle.rsvp_base.specs.declared.session.Session.{Session}
use Rattle.rsvp_base.specs.Members.{In}
use Rattle.rsvp_base.specs.Table.{get, has}
use Rattle.rsvp_messages.specs.declared.ask.Ask.{Ask}
use Rattle.rsvp_messages.specs.declared.message.Message.TheVariants as message
use Rattle.rsvp_messages.specs.declared.message.PathMsg.{PathMsg}
use Rattle.rsvp_messages.specs.declared.message.PathTearMsg.{PathTearMsg}
use Rattle.rsvp_messages.specs.declared.message.ResvMsg.{ResvMsg}
use Rattle.laws_bounds.specs.RouterRules.Asking.{ask_of}
use Rattle.laws_bounds.specs.RouterRules.Facts.{Facts}
use Rattle.laws_bounds.specs.RouterRules.Inputs.{Input, Send, Wait}
use Rattle.laws_bounds.specs.RouterRules.Known.{Lane, known}
use Rattle.laws_bounds.specs.RouterRules.Offers.{Offer, OfferKey, offer_at, offers}
use Rattle.laws_bounds.specs.RouterRules.NodeConfig.{NodeConfig, goes_out, own, period}
use Rattle.laws_bounds.specs.RouterRules.Requests.{toward}
use Rattle.laws_bounds.specs.RouterRules.Sends.{is_new_offer, path_send, resv_send, told_at}
use Rattle.laws_bounds.specs.FactLaws.{is_way}
use Rattle.laws_bounds.specs.RouterRules.Steps.{fired_then, NodeStep, Begins, left_by, sent_by, fired_by}
use Rattle.laws_bounds.specs.Sources.{IsLocalOffer, IsPathOffer}

-- ---- a Path that is sent is of an offer after the step: its sender is known then, and its tree goes out of the interface,
-- which is there. It goes to the group, its hop is the node's own address of the interface, and its ADSPEC what the interface makes of
-- that of the offer
pub record IsOfOffer (p : NodeConfig) (f : Facts) (s : Send) (m : PathMsg) : Type 0 where
  pub key : OfferKey
  pub offer : Offer
  pub known_then : has (known f key.session) key.sender ≡ true
  pub there : key.iface < length p.ifaces
  pub way : goes_out p key.session key.iface key.sender ≡ true
  pub offered : offer_at f key ≡ Some offer
  pub source : IsLocalOffer f key offer ⊎ IsPathOffer f key offer
  pub iface : s.iface ≡ key.iface
  pub dst : s.dst ≡ key.session.group
  pub is : m ≡ record {
    session = key.session;
    police = offer.local;
    hop = record { addr = own p key.iface; handle = 0 };
    period = period p;
    sender = Some (key.sender, offer.tspec);
    adspec = told_at p key.iface offer;
  }

pub record WhatAPathSentSays : Type 0 where
  pub says : (step : NodeStep) → Begins step → (s : Send) (m : PathMsg) → In s (sent_by step) → s.message ≡ message.Path m → IsOfOffer step.now (left_by step) s m
  -- it is the refresh of a session that came due, or its offer is new at its interface
  pub refresh : (step : NodeStep) → Begins step → (s : Send) (m : PathMsg) → In s (sent_by step) → s.message ≡ message.Path m → s.refresh ≡ has (fired_by step) m.session
  pub why : (step : NodeStep) → Begins step → (s : Send) (m : PathMsg) → In s (sent_by step) → s.message ≡ message.Path m → s.refresh ≡ false
      → (key : OfferKey) × (offer : Offer) × (s ≡ path_send step.now false (key, offer)) × (get (offers step.now (left_by step)) key ≡ Some offer)
      × (is_new_offer step.now key.iface offer (get (offers step.old step.facts) key) ≡ true)

-- ---- a PathTear is sent for an offer of before that is none after: its sender is known no more, or its tree goes out there
-- no more. It goes where the Paths of the offer went
pub record IsOfGoneOffer (old p : NodeConfig) (before after : Facts) (s : Send) (m : PathTearMsg) : Type 0 where
  pub key : OfferKey
  pub was : has (offers old before) key ≡ true
  pub known_before : has (known before key.session) key.sender ≡ true
  pub there : key.iface < length old.ifaces
  pub way : goes_out old key.session key.iface key.sender ≡ true
  pub gone : (is_way p key ≡ false) ⊎ (has (known after key.session) key.sender ≡ false)
  pub iface : s.iface ≡ key.iface
  pub dst : s.dst ≡ key.session.group
  pub is : m ≡ record { session = key.session; hop = record { addr = own p key.iface; handle = 0 }; sender = Some key.sender }
  pub refresh : s.refresh ≡ false

abbrev pub WhyAPathTearIsSent : Type 0
WhyAPathTearIsSent =
    (step : NodeStep) → Begins step → (s : Send) (m : PathTearMsg) → In s (sent_by step) → s.message ≡ message.PathTear m → IsOfGoneOffer step.old step.now step.facts (left_by step) s m

-- ---- refreshes
-- a Path or a Resv of a session that came due
pub record IsPathRefresh (p : NodeConfig) (c : ℕ) (i : Input) (f : Facts) (s : Send) : Type 0 where
  pub path : PathMsg
  pub says : s.message ≡ message.Path path
  pub fired : has (fired_then p c i f) path.session ≡ true

pub record IsResvRefresh (p : NodeConfig) (c : ℕ) (i : Input) (f : Facts) (s : Send) : Type 0 where
  pub resv : ResvMsg
  pub says : s.message ≡ message.Resv resv
  pub fired : has (fired_then p c i f) resv.session ≡ true

pub record RefreshesAreMarked : Type 0 where
  -- of a session that came due each offer is sent, with the mark; so each known sender goes out of each interface of its tree
  pub offered : (step : NodeStep) → Begins step → (key : OfferKey) (offer : Offer) → has (fired_by step) key.session ≡ true → get (offers step.now (left_by step)) key ≡ Some offer
      → In (path_send step.now true (key, offer)) (sent_by step)
  pub known_ones : (step : NodeStep) → Begins step → (s : Session) (x : Sender) (e : ℕ) → has (fired_by step) s ≡ true → has (known (left_by step) s) x ≡ true → e < length step.now.ifaces
      → goes_out step.now s e x ≡ true → (offer : Offer) × (offer_at (left_by step) (record { session = s; sender = x; iface = e }) ≡ Some offer)
      × In (path_send step.now true (record { session = s; sender = x; iface = e }, offer)) (sent_by step)
  -- and what goes toward each hop, if something does
  pub resvs : (step : NodeStep) → Begins step → (l : Lane) (ask : Ask) → has (fired_by step) l.session ≡ true → ask_of l.style (toward step.now (left_by step) l) ≡ Some ask
      → (confirm : Option Addr) × In (resv_send step.now (left_by step) l confirm true ask) (sent_by step)
  -- nothing else has the mark, and it is set while time passes alone
  pub only : (step : NodeStep) → Begins step → (s : Send) → In s (sent_by step) → s.refresh ≡ true
      → IsPathRefresh step.now step.after step.input step.facts s ⊎ IsResvRefresh step.now step.after step.input step.facts s
  pub waited : (step : NodeStep) → Begins step → (s : Send) → In s (sent_by step) → s.refresh ≡ true → (ms : ℕ) × (word : ℕ) × (step.input ≡ Wait ms word)
