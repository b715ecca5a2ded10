-- What a list of sends contains, what it asks for, and which units are gone: the claims of the public laws.
use Rattle.std.specs.Prelude.{◌≡◌, ◌⊎◌, ◌↔◌, true, false, cond, ◌||◌, ◌++◌, Some, None}
use Rattle.router_rules.specs.RsvpBase.declared.part.Part.{Part}
use Rattle.router_rules.specs.RsvpBase.declared.session.Sender.{Sender}
use Rattle.router_rules.specs.RsvpBase.declared.style.StyleKind.{StyleKind}
use Rattle.router_rules.specs.RsvpBase.declared.style.Unit.{Unit as UnitOf}
use Rattle.router_rules.specs.RsvpBase.Members.{In}
use Rattle.router_rules.specs.RsvpBase.Sets.{is_none}
use Rattle.router_rules.specs.RsvpBase.Table.{empty, get, has}
use Rattle.router_rules.specs.Merge.{PartTable}
use Rattle.router_rules.specs.Parts.{IsOfStyle}
use Rattle.router_rules.specs.RsvpBase.Styles.{part_unit}
use Rattle.router_rules.specs.RsvpMessages.declared.ask.Ask.{Ask}
use Rattle.router_rules.specs.RsvpMessages.Units.{AskedUnit, ask_style, asked_units}
use Rattle.router_rules.specs.Asking.{ask_of}
use Rattle.router_rules.specs.Facts.{Facts}
use Rattle.router_rules.specs.Inputs.{Change, ConfSend, ErrSend, Send}
use Rattle.router_rules.specs.Known.{Lane, lanes}
use Rattle.router_rules.specs.Offers.{Offer, OfferKey, offers}
use Rattle.router_rules.specs.NodeConfig.{NodeConfig}
use Rattle.router_rules.specs.Requests.{toward}
use Rattle.router_rules.specs.Sends.{conf_send, confirm_for, confirmed, error_send, gone_names, is_changed, is_new_offer, path_send, path_tear, resv_send, resv_tear_send, sends, torn_names}

module _ (old p : NodeConfig) (before after : Facts) (k : Change) (s : Send) where
  -- an offer that is gone
  pub record IsPathTear : Type 0 where
    pub key : OfferKey
    pub was : has (offers old before) key ≡ true
    pub gone : has (offers p after) key ≡ false
    pub is : s ≡ path_tear p key

  -- units that are gone toward a hop, with the names that are still via it
  pub record IsResvTear : Type 0 where
    pub lane : Lane
    pub was : has (lanes before) lane ≡ true
    pub some : is_none (torn_names old p before after lane) ≡ false
    pub is : s ≡ resv_tear_send p after lane (torn_names old p before after lane)

  pub record IsError : Type 0 where
    pub error : ErrSend
    pub made : In error k.errors
    pub is : s ≡ error_send error

  pub record IsConf : Type 0 where
    pub conf : ConfSend
    pub made : In conf (k.confs ++ confirmed old p before after k.asked)
    pub is : s ≡ conf_send conf

  -- an offer whose session came due, or that is new at its interface; it is a refresh where its session came due
  pub record IsPath : Type 0 where
    pub key : OfferKey
    pub offer : Offer
    pub offered : get (offers p after) key ≡ Some offer
    pub why : (has k.fired key.session || is_new_offer p key.iface offer (get (offers old before) key)) ≡ true
    pub is : s ≡ path_send p (has k.fired key.session) (key, offer)

  -- what goes toward a hop whose session came due, or where it changed; it is a refresh where its session came due
  pub record IsResv : Type 0 where
    pub lane : Lane
    pub there : has (lanes after) lane ≡ true
    pub ask : Ask
    pub whole : ask_of lane.style (toward p after lane) ≡ Some ask
    pub why : (has k.fired lane.session || is_changed old p before after lane) ≡ true
    pub is : s ≡ resv_send p after lane (cond (is_changed old p before after lane) (confirm_for p after lane k.asked) None) (has k.fired lane.session) ask

  abbrev pub IsSend : Type 0
  IsSend = IsPathTear ⊎ (IsResvTear ⊎ (IsError ⊎ (IsConf ⊎ (IsPath ⊎ IsResv))))

-- each send is one of six kinds, and each of these is sent
pub record SendsAreOfSixKinds : Type 0 where
  pub each : (old p : NodeConfig) (before after : Facts) (k : Change) (s : Send) → In s (sends old p before after k) ↔ IsSend old p before after k s

-- ---- what parts by unit ask for
-- each part is of its style and stands under its unit
abbrev pub ArePartsOf : StyleKind → PartTable → Type 0
ArePartsOf st ps = (u : UnitOf) (part : Part) → get ps u ≡ Some part → IsOfStyle st part × (part_unit st part ≡ u)

-- the unit is asked for with its part's names and flow
pub record IsAskedOf (ps : PartTable) (u : AskedUnit) : Type 0 where
  pub part : Part
  pub there : get ps u.unit ≡ Some part
  pub names : u.names ≡ Some part.senders
  pub flow : u.flow ≡ part.flow

pub record AsksOfParts : Type 0 where
  pub style : (st : StyleKind) (ps : PartTable) (a : Ask) → ask_of st ps ≡ Some a → ask_style a ≡ st
  pub units : (st : StyleKind) (ps : PartTable) (a : Ask) (u : AskedUnit) → ArePartsOf st ps → ask_of st ps ≡ Some a → In u (asked_units a) ↔ IsAskedOf ps u
  pub nothing : (st : StyleKind) (ps : PartTable) → ArePartsOf st ps → ask_of st ps ≡ None → ps ≡ empty

-- ---- units that are gone
pub record IsGone (before after : PartTable) (x : Sender) : Type 0 where
  pub unit : UnitOf
  pub part : Part
  pub was : get before unit ≡ Some part
  pub gone : has after unit ≡ false
  pub named : has part.senders x ≡ true

pub record GoneByUnits : Type 0 where
  pub each : (before after : PartTable) (x : Sender) → (has (gone_names before after) x ≡ true) ↔ IsGone before after x
