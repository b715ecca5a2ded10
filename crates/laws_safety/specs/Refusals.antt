-- What is refused: a local call, or a unit of a Resv that came (RFC 2205, 3.5 and 3.11; RFC 2209, 2).
use Rattle.std.specs.Prelude.{◌≡◌, ◌⊎◌, ℕ, suc, true, false, [], Some, None, slice_get}
use Rattle.admission_book.specs.declared.refused.Refused.{Refused}
use Rattle.rsvp_base.specs.declared.part.Part.{Part}
use Rattle.rsvp_base.specs.declared.style.StyleKind.{StyleKind}
use Rattle.rsvp_base.specs.Members.{In}
use Rattle.rsvp_base.specs.Orders.{Names}
use Rattle.rsvp_base.specs.Sets.{is_none}
use Rattle.rsvp_base.specs.Table.{get}
use Rattle.rsvp_messages.specs.declared.message.Message.TheVariants as message
use Rattle.rsvp_messages.specs.declared.message.ResvMsg.{ResvMsg}
use Rattle.rsvp_messages.specs.Units.{AskedUnit, ask_style, asked_units}
use Rattle.style_rules.specs.Lines.{LineKey}
use Rattle.style_rules.specs.Parts.{part_of}
use Rattle.laws_bounds.specs.AskLaws.{IsUnitAt, IsTried}
use Rattle.router_rules.specs.declared.answers.LocalErr.{LocalErr}
use Rattle.router_rules.specs.Asking.{Asker, Taking, asker_of, book_refuses, has_room, matched, names_that_match, nothing_taken, resv_state, style_conflict}
use Rattle.router_rules.specs.Calls.{call_refusal}
use Rattle.router_rules.specs.Facts.{Facts, resvs_of}
use Rattle.router_rules.specs.Inputs.{Local, Spelt}
use Rattle.router_rules.specs.Known.{known}
use Rattle.router_rules.specs.NodeConfig.{NodeConfig, own}
use Rattle.tree_model.specs.declared.hops.End.{End}
use Rattle.tree_model.specs.Networks.{iface_of}
use Rattle.network_model.specs.Laws.{config_in}
use Rattle.network_model.specs.Steps.{At, Deliver, Step, step}
use Rattle.network_model.specs.Worlds.{Item, World}

-- ---- a refused call: the world is as it was, but for the number of steps made; nothing is sent, and no time passes
abbrev pub ARefusedCallChangesNothing : ℕ → Step → World → Type 0
ARefusedCallChangesNothing q s w =
    (n : ℕ) (l : Local) (f : Facts) (why : LocalErr) → s ≡ At n l → slice_get w.nodes n ≡ Some f → call_refusal (config_in q w n) l f ≡ Some why → step q s w ≡ record w { made = suc w.made }

-- ---- a unit that is put to the test behind those before it and is not taken
-- nobody of it matches, there is no room for it, or the book refuses it
pub record HasNoPlace (p : NodeConfig) (o : Asker) (f : Facts) (all : Names) (t : Taking) (u : AskedUnit) (part : Part) : Type 0 where
  pub part_is : part_of (names_that_match u.names all) u.flow ≡ Some part
  pub refused : (has_room o u.unit part t.table ≡ false) ⊎ ((has_room o u.unit part t.table ≡ true) × ((why : Refused) × (book_refuses p o f u.unit part t.table ≡ Some why)))

abbrev pub IsNotTaken : NodeConfig → Asker → Facts → Names → Taking → AskedUnit → Type 0
IsNotTaken p o f all t u = (part_of (names_that_match u.names all) u.flow ≡ None) ⊎ ((part : Part) × HasNoPlace p o f all t u part)

module _ (p : NodeConfig) (c e : ℕ) (m : ResvMsg) (f : Facts) where
  abbrev pub asker : Asker
  asker = asker_of p c e m

  -- no sender is known, or the session has another style
  abbrev pub IsRefusedWhole : Type 0
  IsRefusedWhole = (is_none (known f m.session) ≡ true) ⊎ ((other : StyleKind) × (style_conflict f m.session (ask_style m.ask) ≡ Some other))

  pub record IsRefusedAlone (u : AskedUnit) : Type 0 where
    pub before : Taking
    pub at : IsUnitAt p asker f (matched p f asker) (nothing_taken (resvs_of (ask_style m.ask) f) []) (asked_units m.ask) u before
    pub not_taken : IsNotTaken p asker f (matched p f asker) before u

  -- the Resv is refused as a whole, or this unit of it is
  abbrev pub IsUntaken : AskedUnit → Type 0
  IsUntaken u = In u (asked_units m.ask) × (IsRefusedWhole ⊎ IsRefusedAlone u)

  -- a unit that passes the tests of those before it: the Resv is for this node, a sender is known, no other style stands, some
  -- name matches, there is room, and the book of the interface, with the unit in the place of what its next hop had, lets it in
  pub record Passes (u : AskedUnit) (part : Part) (before : Taking) : Type 0 where
    pub known : is_none (known f m.session) ≡ false
    pub style : style_conflict f m.session (ask_style m.ask) ≡ None
    pub tried : IsTried p asker f (matched p f asker) (nothing_taken (resvs_of (ask_style m.ask) f) []) (asked_units m.ask) u part before None

-- ---- a Resv that arrives by the step, at a node with these facts before it and after it
pub record IsResvAt (q : ℕ) (s : Step) (w : World) (y : Item) (m : ResvMsg) (e : End) (f g : Facts) : Type 0 where
  pub place : ℕ
  pub step_is : s ≡ Deliver place
  pub item : slice_get w.flight place ≡ Some y
  pub end : slice_get w.net.ends y.end ≡ Some e
  pub resv : y.arrival ≡ Spelt (message.Resv m)
  pub before : slice_get w.nodes e.node ≡ Some f
  pub after : slice_get (step q s w).nodes e.node ≡ Some g

-- where the unit would stand
abbrev pub key_of : World → Item → ResvMsg → AskedUnit → LineKey
key_of w y m u = (m.session, ((iface_of w.net.ends y.end, m.hop.addr), u.unit))

-- what stood for the unit stands after the step, with its names, its flow and the moment of its death: neither the refusal nor
-- the refused refresh changed anything of it
abbrev pub AnUntakenUnitChangesNothing : ℕ → Step → World → Type 0
AnUntakenUnitChangesNothing q s w =
    (y : Item) (m : ResvMsg) (e : End) (f g : Facts) (u : AskedUnit) → IsResvAt q s w y m e f g → IsUntaken (config_in q w e.node) w.clock (iface_of w.net.ends y.end) m f u
    → get (resvs_of (ask_style m.ask) g) (key_of w y m u) ≡ get (resvs_of (ask_style m.ask) f) (key_of w y m u)

-- no unit of the Resv takes this place: where one of them would stand there, the Resv is for another address than that of the
-- interface by which it comes, or the unit is not taken
abbrev pub IsNoPlaceOf : ℕ → World → Item → ResvMsg → End → Facts → StyleKind → LineKey → Type 0
IsNoPlaceOf q w y m e f st k =
    (u : AskedUnit) → In u (asked_units m.ask) → st ≡ ask_style m.ask → k ≡ key_of w y m u → y.dst ≡ own (config_in q w e.node) (iface_of w.net.ends y.end)
    → IsUntaken (config_in q w e.node) w.clock (iface_of w.net.ends y.end) m f u

-- a Resv changes no reservations of the node but those of its units that are taken: what stood in any other place, of whichever
-- session, hop and style, stands there after the step, and nothing new does
abbrev pub AResvChangesWhatItTakesAlone : ℕ → Step → World → Type 0
AResvChangesWhatItTakesAlone q s w =
    (y : Item) (m : ResvMsg) (e : End) (f g : Facts) (st : StyleKind) (k : LineKey) → IsResvAt q s w y m e f g → IsNoPlaceOf q w y m e f st k → get (resvs_of st g) k ≡ get (resvs_of st f) k

-- a Resv that is refused as a whole changes no reservation of the node
abbrev pub ARefusedResvChangesNoReservation : ℕ → Step → World → Type 0
ARefusedResvChangesNoReservation q s w =
    (y : Item) (m : ResvMsg) (e : End) (f g : Facts) → IsResvAt q s w y m e f g → IsRefusedWhole (config_in q w e.node) w.clock (iface_of w.net.ends y.end) m f → g.resvs ≡ f.resvs

-- a unit that passes is booked: it stands after the step with the names that match, its flow, and a lifetime that begins anew
abbrev pub AUnitThatPassesIsBooked : ℕ → Step → World → Type 0
AUnitThatPassesIsBooked q s w =
    (y : Item) (m : ResvMsg) (e : End) (f g : Facts) (u : AskedUnit) (part : Part) (before : Taking) → IsResvAt q s w y m e f g → y.dst ≡ own (config_in q w e.node) (iface_of w.net.ends y.end)
    → Passes (config_in q w e.node) w.clock (iface_of w.net.ends y.end) m f u part before
    → get (resvs_of (ask_style m.ask) g) (key_of w y m u) ≡ Some (resv_state (asker (config_in q w e.node) w.clock (iface_of w.net.ends y.end) m f) part (get before.table (key_of w y m u)))
