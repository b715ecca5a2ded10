-- A Resv that arrives at a node: what its units leave after the step.
use Rattle.std.proofs.Common.{◌≡◌, ℕ, Bool, true, false, Some, ⊎_elim, refl, sym, ap, subst, ◌∙◌}
use Rattle.std.specs.Prelude.{slice_get, ◌&&◌, not}
use Rattle.rsvp_base.specs.declared.addr.Addr.{Addr}
use Rattle.rsvp_base.specs.declared.part.Part.{Part}
use Rattle.rsvp_base.specs.declared.session.Session.{Session}
use Rattle.rsvp_base.specs.declared.style.StyleKind.{StyleKind}
use Rattle.rsvp_base.specs.Members.{In}
use Rattle.rsvp_base.specs.Table.{get}
use Rattle.rsvp_messages.specs.declared.message.Message.TheVariants as message
use Rattle.rsvp_messages.specs.declared.message.ResvMsg.{ResvMsg}
use Rattle.rsvp_messages.specs.Units.{AskedUnit, ask_style, asked_units}
use Rattle.style_rules.specs.Lines.{LineKey}
use Rattle.style_rules.specs.Parts.{has_name}
use Rattle.laws_bounds.specs.AskLaws.{IsOfUnit}
use Rattle.laws_bounds.proofs.Framing.{act_paths, act_senders}
use Rattle.laws_bounds.proofs.Wholes.{resvs_in_steps}
use Rattle.laws_bounds.proofs.Leaving.{as_it_was}
use Rattle.laws_bounds.proofs.Ruling.{rule_in_parts}
use Rattle.laws_bounds.proofs.Tests.{addr_told}
use Rattle.router_rules.specs.Act.{act, act_spelt, is_mine}
use Rattle.router_rules.specs.Asking.{Taking, act_resv, key_at, matched, resv_state}
use Rattle.router_rules.specs.Bounds.{IsWithinBounds}
use Rattle.router_rules.specs.Facts.{Facts, ResvState, ResvTables, Resvs, resvs_of, with_table}
use Rattle.router_rules.specs.Inputs.{Arrival, Came, Input, Spelt}
use Rattle.router_rules.specs.Known.{known}
use Rattle.router_rules.specs.NodeConfig.{NodeConfig, own}
use Rattle.router_rules.specs.Rule.{rule}
use Rattle.router_rules.specs.Steps.{facts_then}
use Rattle.laws_bounds.proofs.Putting.{style_same}
use Rattle.laws_steps.proofs.Framing.{forget_nobody}
use Rattle.tree_model.specs.declared.hops.End.{End}
use Rattle.tree_model.specs.Networks.{iface_of}
use Rattle.tree_model.proofs.Following.{addr_itself}
use Rattle.network_model.specs.Bounds.{AreBounds}
use Rattle.network_model.specs.Laws.{config_in}
use Rattle.network_model.specs.Steps.{Step, step}
use Rattle.network_model.specs.Worlds.{Item, World}
use Rattle.network_model.proofs.Changing.{a_delivery_changes_one_node}
use Rattle.laws_network.proofs.Known.{of_some}
use Rattle.laws_safety.specs.Refusals.{ARefusedResvChangesNoReservation, AResvChangesWhatItTakesAlone, AUnitThatPassesIsBooked, AnUntakenUnitChangesNothing}
use Rattle.laws_safety.specs.Refusals.{IsNoPlaceOf, IsRefusedWhole, IsResvAt, IsUntaken, Passes, asker, key_of}
use Rattle.laws_safety.proofs.Units.{booked, refused_whole, source, taken_alone, untaken_unit}

not_both : (a b : Bool) → a ≡ b → (a && not b) ≡ false
not_both true b e = ap not (sym e)
not_both false b e = refl

-- ---- by itself a Resv leaves senders and paths, so no name is forgotten
module _ (p : NodeConfig) (c e : ℕ) (dst : Addr) (m : ResvMsg) (f : Facts) (within : IsWithinBounds p c f) where
  abbrev input : Input
  input = Came e dst (Spelt (message.Resv m))

  abbrev made : Facts
  made = (act p c input f).facts

  same_known : (s : Session) → known f s ≡ known made s
  same_known s =
      let senders = sym (act_senders p c input f refl) in
      let paths = sym (act_paths p c input f refl) in
      λ j. known (record f { senders = senders j; paths = paths j }) s

  named_by_table : (st : StyleKind) (k : LineKey) (r : ResvState) → get (resvs_of st (act_resv p c e m f).facts) k ≡ Some r → has_name r.part ≡ true
  named_by_table st k r h =
      ⊎_elim
      (λ (same : st ≡ ask_style m.ask).
      ⊎_elim (λ (old : get (resvs_of (ask_style m.ask) f) k ≡ Some r). (within.shapes.resvs (ask_style m.ask) k r old).style.named)
      (λ (new : IsOfUnit (asker p c e m f) (matched p f (asker p c e m f)) (asked_units m.ask) k r). new.named)
      (source p c e m f k r (ap (λ (t : Resvs). get t k) (sym (resvs_in_steps.table p c e m f)) ∙ ap (λ (z : StyleKind). get (resvs_of z (act_resv p c e m f).facts) k) (sym same) ∙ h)))
      (λ (other : st ≡ ask_style m.ask → ⊥). (within.shapes.resvs st k r (ap (λ (t : Resvs). get t k) (sym (resvs_in_steps.others p c e m f st other)) ∙ h)).style.named)
      (style_same st (ask_style m.ask))

  named : (mine : Bool) (st : StyleKind) (k : LineKey) (r : ResvState) → get (resvs_of st (act_spelt p c e (message.Resv m) mine f).facts) k ≡ Some r → has_name r.part ≡ true
  named false st k r h = (within.shapes.resvs st k r h).style.named
  named true st k r h = named_by_table st k r h

  -- what the step leaves of reservations
  left : (facts_then p p c input f).resvs ≡ made.resvs
  left = rule_in_parts.resvs p p c input f ∙ forget_nobody f made same_known (λ st k r h. named (is_mine p e dst (message.Resv m)) st k r h)

  -- one for others changes none
  abbrev table_by : Bool → Resvs
  table_by mine = resvs_of (ask_style m.ask) (act_spelt p c e (message.Resv m) mine f).facts

  untaken_by : (mine : Bool) (u : AskedUnit) → IsUntaken p c e m f u → get (table_by mine) (key_at (asker p c e m f) u.unit) ≡ get (resvs_of (ask_style m.ask) f) (key_at (asker p c e m f) u.unit)
  untaken_by false u h = refl
  untaken_by true u h =
      ap (λ (t : Resvs). get t (key_at (asker p c e m f) u.unit)) (resvs_in_steps.table p c e m f) ∙ untaken_unit p c e m f u h

  pub untaken : (u : AskedUnit) → IsUntaken p c e m f u → get (resvs_of (ask_style m.ask) (facts_then p p c input f)) (key_at (asker p c e m f) u.unit)
      ≡ get (resvs_of (ask_style m.ask) f) (key_at (asker p c e m f) u.unit)
  untaken u h = ap (λ (ts : ResvTables). get (resvs_of (ask_style m.ask) (record f { resvs = ts })) (key_at (asker p c e m f) u.unit)) left ∙ untaken_by (is_mine p e dst (message.Resv m)) u h

  alone_by : (mine : Bool) (st : StyleKind) (k : LineKey)
      → ((u : AskedUnit) → In u (asked_units m.ask) → st ≡ ask_style m.ask → k ≡ key_at (asker p c e m f) u.unit → mine ≡ true → IsUntaken p c e m f u)
      → get (resvs_of st (act_spelt p c e (message.Resv m) mine f).facts) k ≡ get (resvs_of st f) k
  alone_by false st k h = refl
  alone_by true st k h =
      ⊎_elim
      (λ (same : st ≡ ask_style m.ask).
      ap (λ (z : StyleKind). get (resvs_of z (act_resv p c e m f).facts) k) same
      ∙ ap (λ (t : Resvs). get t k) (resvs_in_steps.table p c e m f)
      ∙ taken_alone p c e m f k (λ u i at. h u i same at refl)
      ∙ ap (λ (z : StyleKind). get (resvs_of z f) k) (sym same))
      (λ (other : st ≡ ask_style m.ask → ⊥). ap (λ (t : Resvs). get t k) (resvs_in_steps.others p c e m f st other))
      (style_same st (ask_style m.ask))

  pub alone : (st : StyleKind) (k : LineKey)
      → ((u : AskedUnit) → In u (asked_units m.ask) → st ≡ ask_style m.ask → k ≡ key_at (asker p c e m f) u.unit → dst ≡ own p e → IsUntaken p c e m f u)
      → get (resvs_of st (facts_then p p c input f)) k ≡ get (resvs_of st f) k
  alone st k h =
      ap (λ (ts : ResvTables). get (resvs_of st (record f { resvs = ts })) k) left
      ∙ alone_by (is_mine p e dst (message.Resv m)) st k (λ u i same at mine. h u i same at (addr_told dst (own p e) mine))

  refused_by : (mine : Bool) → IsRefusedWhole p c e m f → (act_spelt p c e (message.Resv m) mine f).facts.resvs ≡ f.resvs
  refused_by false h = refl
  refused_by true h = ap (λ (t : Resvs). with_table (ask_style m.ask) t f.resvs) (refused_whole p c e m f h) ∙ as_it_was (ask_style m.ask) f.resvs

  pub refused : IsRefusedWhole p c e m f → (facts_then p p c input f).resvs ≡ f.resvs
  refused h = left ∙ refused_by (is_mine p e dst (message.Resv m)) h

  pub passed : (u : AskedUnit) (part : Part) (before : Taking) → dst ≡ own p e → Passes p c e m f u part before
      → get (resvs_of (ask_style m.ask) (facts_then p p c input f)) (key_at (asker p c e m f) u.unit) ≡ Some (resv_state (asker p c e m f) part (get before.table (key_at (asker p c e m f) u.unit)))
  passed u part before mine h =
      let here : is_mine p e dst (message.Resv m) ≡ true = ap (λ (a : Addr). is_mine p e a (message.Resv m)) mine ∙ addr_itself (own p e) in
      ap (λ (ts : ResvTables). get (resvs_of (ask_style m.ask) (record f { resvs = ts })) (key_at (asker p c e m f) u.unit)) left
      ∙ ap (λ (b : Bool). get (table_by b) (key_at (asker p c e m f) u.unit)) here
      ∙ ap (λ (t : Resvs). get t (key_at (asker p c e m f) u.unit)) (resvs_in_steps.table p c e m f) ∙ booked p c e m f u part before h

-- ---- at a node of a network
module _ (q : ℕ) (s : Step) (w : World) (bounds : AreBounds q w) (y : Item) (m : ResvMsg) (e : End) (f g : Facts) (at : IsResvAt q s w y m e f g) where
  abbrev p : NodeConfig
  p = config_in q w e.node

  abbrev on : ℕ
  on = iface_of w.net.ends y.end

  ruled : facts_then p p w.clock (Came on y.dst (Spelt (message.Resv m))) f ≡ g
  ruled =
      let made = (a_delivery_changes_one_node q w at.place y e at.item at.end).node f at.before in
      let same : Some (rule p p w.clock (Came on y.dst y.arrival) f).facts ≡ Some g = sym made ∙ ap (λ (z : Step). slice_get (step q z w).nodes e.node) (sym at.step_is) ∙ at.after in
      ap (λ (a : Arrival). (rule p p w.clock (Came on y.dst a) f).facts) (sym at.resv) ∙ of_some (rule p p w.clock (Came on y.dst y.arrival) f).facts g same

  within : IsWithinBounds p w.clock f
  within = bounds.facts e.node f at.before

  untaken_here : (u : AskedUnit) → IsUntaken p w.clock on m f u → get (resvs_of (ask_style m.ask) g) (key_of w y m u) ≡ get (resvs_of (ask_style m.ask) f) (key_of w y m u)
  untaken_here u h = subst (λ (z : Facts). get (resvs_of (ask_style m.ask) z) (key_of w y m u) ≡ get (resvs_of (ask_style m.ask) f) (key_of w y m u)) ruled (untaken p w.clock on y.dst m f within u h)

  alone_here : (st : StyleKind) (k : LineKey) → IsNoPlaceOf q w y m e f st k → get (resvs_of st g) k ≡ get (resvs_of st f) k
  alone_here st k h = subst (λ (z : Facts). get (resvs_of st z) k ≡ get (resvs_of st f) k) ruled (alone p w.clock on y.dst m f within st k h)

  refused_here : IsRefusedWhole p w.clock on m f → g.resvs ≡ f.resvs
  refused_here h = subst (λ (z : Facts). z.resvs ≡ f.resvs) ruled (refused p w.clock on y.dst m f within h)

  passed_here : (u : AskedUnit) (part : Part) (before : Taking) → y.dst ≡ own p on → Passes p w.clock on m f u part before
      → get (resvs_of (ask_style m.ask) g) (key_of w y m u) ≡ Some (resv_state (asker p w.clock on m f) part (get before.table (key_of w y m u)))
  passed_here u part before mine h =
      subst (λ (z : Facts). get (resvs_of (ask_style m.ask) z) (key_of w y m u) ≡ Some (resv_state (asker p w.clock on m f) part (get before.table (key_of w y m u)))) ruled
      (passed p w.clock on y.dst m f within u part before mine h)

pub an_untaken_unit : (q : ℕ) (s : Step) (w : World) → AreBounds q w → AnUntakenUnitChangesNothing q s w
an_untaken_unit q s w bounds y m e f g u at h = untaken_here q s w bounds y m e f g at u h

pub a_resv_alone : (q : ℕ) (s : Step) (w : World) → AreBounds q w → AResvChangesWhatItTakesAlone q s w
a_resv_alone q s w bounds y m e f g st k at h = alone_here q s w bounds y m e f g at st k h

pub a_refused_resv : (q : ℕ) (s : Step) (w : World) → AreBounds q w → ARefusedResvChangesNoReservation q s w
a_refused_resv q s w bounds y m e f g at h = refused_here q s w bounds y m e f g at h

pub a_unit_that_passes : (q : ℕ) (s : Step) (w : World) → AreBounds q w → AUnitThatPassesIsBooked q s w
a_unit_that_passes q s w bounds y m e f g u part before at mine h = passed_here q s w bounds y m e f g at u part before mine h
