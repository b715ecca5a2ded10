-- A Resv that is taken whole and asks to be confirmed: each unit of it is kept with the mark, and it is answered where nothing new goes on.
use Rattle.std.proofs.Common.{◌≡◌, ℕ, ◌<◌, length, arith, List, [], ◌∷◌, Bool, true, false, cond, Option, None, Some, ◌⊎◌, inl, inr, ⊎_elim, sym, refl, ap, subst, ◌∙◌}
use Rattle.std.specs.Prelude.{is_some, not, ◌++◌, ◌||◌, ◌&&◌, map as each}
use Rattle.std.specs.Ordering.{eq_by_cmp, is_lt}
use Rattle.admission_book.specs.declared.refused.Refused.{Refused}
use Rattle.rsvp_base.specs.declared.addr.Addr.{Addr}
use Rattle.rsvp_base.specs.declared.part.Part.{Part}
use Rattle.rsvp_base.specs.declared.session.Sender.{Sender}
use Rattle.rsvp_base.specs.declared.session.Session.{Session}
use Rattle.rsvp_base.specs.declared.style.StyleKind.{StyleKind}
use Rattle.rsvp_base.specs.declared.style.Unit.{Unit as UnitOf}
use Rattle.rsvp_base.specs.declared.style.Unit.TheVariants.{Of, One}
use Rattle.rsvp_base.specs.Members.{In}
use Rattle.rsvp_base.specs.Orders.{Names, senders, units}
use Rattle.rsvp_base.specs.Sets.{cut, is_none}
use Rattle.rsvp_base.specs.Table.{get, has, keys, kept}
use Rattle.rsvp_base.specs.TokenBucket.{TokenBucket}
use Rattle.rsvp_base.proofs.Counts.{in_found, set_of_in}
use Rattle.rsvp_base.proofs.Fronts.{to_keys}
use Rattle.rsvp_base.proofs.Members.{any_in, in_each, in_right, to_each}
use Rattle.rsvp_base.proofs.SetLaws.{and_both, and_made, has-cut}
use Rattle.rsvp_base.proofs.Tables.{either, get-put_in, get-put_in_same}
use Rattle.rsvp_messages.specs.declared.ask.Ask.{Ask}
use Rattle.rsvp_messages.specs.declared.ask.Ask.TheVariants as ask
use Rattle.rsvp_messages.specs.declared.message.Message.TheVariants as message
use Rattle.rsvp_messages.specs.declared.message.ResvConfMsg.{ResvConfMsg}
use Rattle.rsvp_messages.specs.declared.message.ResvMsg.{ResvMsg}
use Rattle.rsvp_messages.specs.Proper.{IsProperAsk}
use Rattle.rsvp_messages.specs.Units.{AskedUnit, ask_style, asked_units, fixed_unit, only}
use Rattle.style_rules.specs.CutLaws.{made_of, part_of_some, some_within}
use Rattle.style_rules.specs.Lines.{Line, LineKey}
use Rattle.style_rules.specs.Merge.{PartTable}
use Rattle.style_rules.specs.Parts.{has_name, part_of}
use Rattle.laws_bounds.specs.AskLaws.{IsTaken, IsUnitAt, book_refusal}
use Rattle.laws_bounds.specs.SendLaws.{ArePartsOf, IsConf, IsError, IsPath, IsPathTear, IsResv, IsResvTear}
use Rattle.laws_bounds.specs.WishLaws.{GoesOn}
use Rattle.laws_bounds.proofs.Asks.{nothing_asked, style_told, units_told}
use Rattle.laws_bounds.proofs.Framing.{act_advertised, act_paths, act_senders}
use Rattle.laws_bounds.proofs.Leaving.{forgetting_by_names}
use Rattle.laws_bounds.proofs.Lists.{one_name}
use Rattle.laws_bounds.proofs.Stepping.{send_told}
use Rattle.laws_bounds.proofs.Taking.{units_one_by_one}
use Rattle.laws_bounds.proofs.Tests.{addr_tested, not_new, parts_tested}
use Rattle.laws_bounds.proofs.Wholes.{resvs_in_steps, units_in_full}
use Rattle.laws_bounds.proofs.Wishing.{wishes_are_granted}
use Rattle.laws_bounds.proofs.Folding.{names_listed, unit_shape}
use Rattle.laws_bounds.proofs.Putting.{style_same}
use Rattle.laws_steps.specs.AcceptingLaws.{CanBeTaken, came_resv}
use Rattle.laws_steps.specs.ReservationLaws.{IsAskedFor}
use Rattle.laws_steps.proofs.Admitting.{what_is_accepted}
use Rattle.laws_steps.proofs.Asking.{where_a_reservation_fact_comes_from}
use Rattle.laws_steps.proofs.Speaking.{send_made}
use Rattle.laws_safety.proofs.Arrivals.{passed}
use Rattle.laws_network.proofs.Known.{has_some, of_some}
use Rattle.router_rules.specs.declared.answers.Heard.TheVariants as heard
use Rattle.router_rules.specs.Act.{act, act_spelt}
use Rattle.router_rules.specs.Asking.{Asker, Taking, act_resv, answered, ask_of, asker_of, book_refuses, confirm_kept, err_place, err_places, errors_in_order, has_room, heard_of, key_at}
use Rattle.router_rules.specs.Asking.{lost, matched, names_that_match, nothing_taken, or_kept, put_tested, put_unit, refusal, resv_state, style_conflict, style_value}
use Rattle.router_rules.specs.Asking.{take_unit, take_units, taking, tell_lost}
use Rattle.router_rules.specs.Bounds.{IsWithinBounds}
use Rattle.router_rules.specs.Confirming.{speaks_of}
use Rattle.router_rules.specs.Facts.{Facts, ResvState, Resvs, resvs_of}
use Rattle.router_rules.specs.Forgetting.{is_lost}
use Rattle.router_rules.specs.Inputs.{Asked, Came, Change, ConfSend, ErrMsg, ErrSend, Input, OfPath, OfResv, Send, Spelt, in_order, put_in_order}
use Rattle.router_rules.specs.Known.{Lane, known, lanes, named_as}
use Rattle.router_rules.specs.NodeConfig.{NodeConfig, goes_out, own}
use Rattle.router_rules.specs.Offers.{Offer, Offers, offers}
use Rattle.router_rules.specs.Requests.{toward}
use Rattle.router_rules.specs.Rule.{settled}
use Rattle.router_rules.specs.Sends.{conf_send, confirm_for, confirmed, goes_on, is_changed, is_new_offer, once, resv_send, without_scope}
use Rattle.router_rules.specs.Steps.{IsLeftOf, facts_then, node_step, sent_then}

-- ---- what is heard as taken had no error and left nothing out
put_some : (x : ErrSend) (ys : List ErrSend) → (z : ErrSend) × (zs : List ErrSend) × (put_in_order err_places err_place x ys ≡ z ∷ zs)
put_some x [] = (x, [], refl)
put_some x (y ∷ ys) = by (is_lt (err_places.cmp (err_place y) (err_place x)))
  where
    by : (b : Bool) → (z : ErrSend) × (zs : List ErrSend) × (cond b (y ∷ put_in_order err_places err_place x ys) (x ∷ y ∷ ys) ≡ z ∷ zs)
    by true = (y, put_in_order err_places err_place x ys, refl)
    by false = (x, y ∷ ys, refl)

not_answered : (e : ErrMsg) → answered e ≡ heard.Taken → ⊥
not_answered (OfPath m) e = cc
not_answered (OfResv m) e = cc

heard_none : (errors : List ErrSend) (left : Bool) → heard_of (errors_in_order errors) left ≡ heard.Taken → (errors ≡ []) × (left ≡ false)
heard_none [] true e = absurd (cc)
heard_none [] false e = (refl, refl)
heard_none (x ∷ xs) left e =
    let r = put_some x (in_order err_places err_place xs) in
    absurd (not_answered r.0.error (ap (λ (zs : List ErrSend). heard_of zs left) (sym r.2) ∙ e))

-- ---- lists
split_at : {A : Type 0} (x : A) (xs : List A) → In x xs → (front : List A) × (back : List A) × (xs ≡ front ++ x ∷ back)
split_at x [] i = absurd i
split_at {A} x (y ∷ ys) i =
    ⊎_elim (λ (e : x ≡ y). ([], ys, ap (λ (z : A). z ∷ ys) (sym e)))
    (λ (j : In x ys). let r = split_at x ys j in (y ∷ r.0, r.1, ap (λ (zs : List A). y ∷ zs) r.2)) i

none_each : {A B : Type 0} (g : A → B) (xs : List A) (x : A) → In x xs → each g xs ≡ [] → ⊥
none_each g [] x i e = i
none_each g (y ∷ ys) x i e = cc

pub some_unit : (a : Ask) → IsProperAsk a → (u : AskedUnit) × In u (asked_units a)
some_unit (ask.Wild scope flow) proper = (record { unit = One; names = scope; flow = flow }, inl refl)
some_unit (ask.Shared part) proper = (record { unit = One; names = Some part.senders; flow = part.flow }, inl refl)
some_unit (ask.Fixed list) proper = by list.rows proper.some
  where
    by : (rows : List (Sender × TokenBucket)) → 0 < length rows → (u : AskedUnit) × In u (each fixed_unit rows)
    by [] h = absurd (omega (arith, h))
    by (e ∷ es) h = (fixed_unit e, inl refl)

-- no two units of it are the same
pub one_unit : (a : Ask) (u v : AskedUnit) → In u (asked_units a) → In v (asked_units a) → u.unit ≡ v.unit → u ≡ v
one_unit (ask.Wild scope flow) u v i j e = alone u i ∙ sym (alone v j)
  where
    alone : (z : AskedUnit) → In z (record { unit = One; names = scope; flow = flow } ∷ []) → z ≡ record { unit = One; names = scope; flow = flow }
    alone z k = ⊎_elim (λ (is : z ≡ record { unit = One; names = scope; flow = flow }). is) (λ (no : ⊥). absurd no) k
one_unit (ask.Shared part) u v i j e = alone u i ∙ sym (alone v j)
  where
    alone : (z : AskedUnit) → In z (record { unit = One; names = Some part.senders; flow = part.flow } ∷ []) → z ≡ record { unit = One; names = Some part.senders; flow = part.flow }
    alone z k = ⊎_elim (λ (is : z ≡ record { unit = One; names = Some part.senders; flow = part.flow }). is) (λ (no : ⊥). absurd no) k
one_unit (ask.Fixed list) u v i j e =
    let a = in_each fixed_unit u list.rows i in
    let b = in_each fixed_unit v list.rows j in
    let units_are : Of a.0.0 ≡ Of b.0.0 = sym (ap (λ (z : AskedUnit). z.unit) a.2) ∙ e ∙ ap (λ (z : AskedUnit). z.unit) b.2 in
    let sender : a.0.0 ≡ b.0.0 = cc in
    let flow : a.0.1 ≡ b.0.1 = of_some a.0.1 b.0.1 (sym (in_found senders list a.0.0 a.0.1 a.1) ∙ ap (λ (z : Sender). get list z) sender ∙ in_found senders list b.0.0 b.0.1 b.1) in
    a.2 ∙ (λ t. fixed_unit (sender t, flow t)) ∙ sym b.2

-- ---- what counts as taken stays so
module _ (p : NodeConfig) (o : Asker) (f : Facts) (all : Names) where
  put_has : (u : UnitOf) (part : Part) (b : Bool) (why : Option Refused) (t : Taking) (k : UnitOf) → has t.taken k ≡ true → has (put_tested p o f u part b why t).taken k ≡ true
  put_has u part false why t k h = h
  put_has u part true (Some why) t k h = h
  put_has u part true None t k h = ap is_some (get-put_in units t.taken u part k) ∙ by (eq_by_cmp units.cmp k u)
    where
      by : (b : Bool) → is_some (cond b (Some part) (get t.taken k)) ≡ true
      by true = refl
      by false = h

  unit_has : (t : Taking) (u : AskedUnit) (k : UnitOf) → has t.taken k ≡ true → has (take_unit p o f all t u).taken k ≡ true
  unit_has t u k h = by (part_of (names_that_match u.names all) u.flow)
    where
      by : (w : Option Part) → has (put_unit p o f u.unit w (tell_lost p o u.flow (lost o.style u.names all) t)).taken k ≡ true
      by None = h
      by (Some part) =
          put_has u.unit part (has_room o u.unit part t.table) (book_refuses p o f u.unit part t.table) (tell_lost p o u.flow (lost o.style u.names all) t) k h

  units_has : (us : List AskedUnit) (t : Taking) (k : UnitOf) → has t.taken k ≡ true → has (take_units p o f all t us).taken k ≡ true
  units_has [] t k h = h
  units_has (u ∷ us) t k h = units_has us (take_unit p o f all t u) k (unit_has t u k h)

-- ---- what a ResvConf speaks of
same_style : (a : Ask) → ask_style (without_scope a) ≡ ask_style a
same_style (ask.Wild scope flow) = refl
same_style (ask.Fixed list) = refl
same_style (ask.Shared part) = refl

-- it has the flows of what was taken
without_units : (a : Ask) (u : AskedUnit) → In u (asked_units (without_scope a)) → (v : AskedUnit) × In v (asked_units a) × (u.flow ≡ v.flow)
without_units (ask.Wild scope flow) u i =
    ⊎_elim (λ (e : u ≡ record { unit = One; names = None; flow = flow }). (record { unit = One; names = scope; flow = flow }, inl refl, ap (λ (z : AskedUnit). z.flow) e))
    (λ (no : ⊥). absurd no) i
without_units (ask.Fixed list) u i = (u, i, refl)
without_units (ask.Shared part) u i = (u, i, refl)

pub in_only : (x y : Sender) → has (only x) y ≡ true → y ≡ x
in_only x y h = ⊎_elim (λ (e : y ≡ x). e) (λ (no : ⊥). absurd no) (set_of_in senders (x ∷ []) y h)

with_units : (a : Ask) (v : AskedUnit) → In v (asked_units a) → (u : AskedUnit) × In u (asked_units (without_scope a)) × (u.unit ≡ v.unit) × (u.flow ≡ v.flow)
with_units (ask.Wild scope flow) v i =
    let is : v ≡ record { unit = One; names = scope; flow = flow } = ⊎_elim (λ (e : v ≡ record { unit = One; names = scope; flow = flow }). e) (λ (no : ⊥). absurd no) i in
    (record { unit = One; names = None; flow = flow }, inl refl, ap (λ (z : AskedUnit). z.unit) (sym is), ap (λ (z : AskedUnit). z.flow) (sym is))
with_units (ask.Fixed list) v i = (v, i, refl, refl)
with_units (ask.Shared part) v i = (v, i, refl, refl)

-- of each list that has a name which a unit of it lists
speaks_for : (a : Ask) (v : AskedUnit) (ns listed : Names) (x : Sender) → In v (asked_units a) → v.names ≡ Some listed → has listed x ≡ true → has ns x ≡ true → speaks_of (without_scope a) ns ≡ true
speaks_for (ask.Wild scope flow) v ns listed x i e h g = refl
speaks_for (ask.Fixed list) v ns listed x i e h g =
    let r = in_each fixed_unit v list.rows i in
    let is : only r.0.0 ≡ listed = of_some (only r.0.0) listed (sym (ap (λ (z : AskedUnit). z.names) r.2) ∙ e) in
    let same : x ≡ r.0.0 = in_only r.0.0 x (subst (λ (z : Names). has z x ≡ true) (sym is) h) in
    any_in (has ns) r.0.0 (keys list) (to_each (λ (z : Sender × TokenBucket). z.0) r.0 list.rows r.1) (subst (λ (z : Sender). has ns z ≡ true) same g)
speaks_for (ask.Shared part) v ns listed x i e h g =
    let is : v.names ≡ Some part.senders = ⊎_elim (λ (z : v ≡ _). ap (λ (y : AskedUnit). y.names) z) (λ (no : ⊥). absurd no) i in
    let same : part.senders ≡ listed = of_some part.senders listed (sym is ∙ e) in
    any_in (has ns) x (keys part.senders) (to_keys senders part.senders x (subst (λ (z : Names). has z x ≡ true) (sym same) h)) g

-- ---- the Resv
module _ (p : NodeConfig) (c e : ℕ) (m : ResvMsg) (f : Facts) (gs : List Line) (within : IsWithinBounds p c f) (can : CanBeTaken p c e m f gs) (a : Addr) (wish : m.confirm ≡ Some a) where
  abbrev o : Asker
  o = asker_of p c e m

  abbrev all : Names
  all = matched p f o

  abbrev us : List AskedUnit
  us = asked_units m.ask

  abbrev first : Taking
  first = nothing_taken (resvs_of o.style f) []

  abbrev pub input : Input
  input = came_resv p e m

  abbrev pub change : Change
  change = act p c input f

  abbrev pub after : Facts
  after = settled p c f change.facts

  act_is : act p c input f ≡ act_resv p c e m f
  act_is = ap (λ (b : Bool). act_spelt p c e (message.Resv m) b f) (addr_tested (own p e) (own p e) refl)

  quiet : ((taking p c e m f).errors ≡ []) × ((taking p c e m f).left_out ≡ false)
  quiet = heard_none (taking p c e m f).errors (taking p c e m f).left_out (sym (ap (λ (k : Change). k.heard) act_is) ∙ (what_is_accepted.whole p p c c e m f gs within can).heard_it)

  not_whole : (code value : ℕ) → taking p c e m f ≡ nothing_taken (resvs_of (ask_style m.ask) f) (each (λ (u : AskedUnit). refusal p o false code value u.names u.flow) us) → ⊥
  not_whole code value is =
      let u = some_unit m.ask can.proper in
      none_each (λ (u : AskedUnit). refusal p o false code value u.names u.flow) us u.0 u.1 (sym (ap (λ (t : Taking). t.errors) is) ∙ quiet.0)

  someone : is_none (known f m.session) ≡ false
  someone = either (is_none (known f m.session)) (λ yes. absurd (not_whole 3 0 (resvs_in_steps.no_path p c e m f yes))) (λ no. no)

  no_conflict : style_conflict f m.session (ask_style m.ask) ≡ None
  no_conflict = by (style_conflict f m.session (ask_style m.ask)) refl
    where
      by : (w : Option StyleKind) → style_conflict f m.session (ask_style m.ask) ≡ w → style_conflict f m.session (ask_style m.ask) ≡ None
      by None is = is
      by (Some other) is = absurd (not_whole 5 (style_value other) (resvs_in_steps.conflict p c e m f other someone is))

  taking_is : taking p c e m f ≡ take_units p o f all first us
  taking_is = resvs_in_steps.by_units p c e m f someone no_conflict

  -- ---- a unit of it
  module _ (u : AskedUnit) (i : In u us) where
    abbrev part : Part
    part = record { senders = names_that_match u.names all; flow = u.flow }

    some : is_none (names_that_match u.names all) ≡ false
    some =
        let place = can.units u i in
        ap (λ (w : Option Names). is_none (names_that_match w all)) place.listed
        ∙ some_within place.names (cut place.names all) (λ x h. has-cut senders place.names all x ∙ and_made _ _ h (place.match x h)) place.some

    part_is : part_of (names_that_match u.names all) u.flow ≡ Some part
    part_is = part_of_some (names_that_match u.names all) u.flow some

    abbrev before : Taking
    before = take_units p o f all first (split_at u us i).0

    at : IsUnitAt p o f all first us u before
    at = record { front = (split_at u us i).0; back = (split_at u us i).1; split = (split_at u us i).2; is = refl }

    room : has_room o u.unit part before.table ≡ true
    room = either (has_room o u.unit part before.table) (λ yes. yes) (λ no.
        let out : (take_units p o f all first us).left_out ≡ true =
        (units_in_full.outs p o f all first us).1 (inr (record { unit = u; part = part; before = before; at = at; some = part_is; room = no })) in
        let bad : true ≡ false = sym out ∙ ap (λ (t : Taking). t.left_out) (sym taking_is) ∙ quiet.1 in
        absurd (cc))

    open_to : book_refuses p o f u.unit part before.table ≡ None
    open_to = by (book_refuses p o f u.unit part before.table) refl
      where
        by : (w : Option Refused) → book_refuses p o f u.unit part before.table ≡ w → book_refuses p o f u.unit part before.table ≡ None
        by None is = is
        by (Some why) is =
            let error : ErrSend = book_refusal p o f before u part why in
            let told : In error (take_units p o f all first us).errors =
            (units_in_full.errors p o f all first us error).1
            (inr (inr (record { unit = u; part = part; before = before; why = why; tried = record { at = at; some = part_is; room = room; says = is }; is = refl }))) in
            absurd (subst (λ (zs : List ErrSend). In error zs) (ap (λ (t : Taking). t.errors) (sym taking_is) ∙ quiet.0) told)

    -- it is kept with the mark
    pub kept_mark : (r : ResvState) → get (resvs_of (ask_style m.ask) (facts_then p p c input f)) (key_at o u.unit) ≡ Some r → r.confirm ≡ Some a
    kept_mark r there =
        let stands = passed p c e (own p e) m f within u part before refl (record { known = someone; style = no_conflict; tried = record { at = at; some = part_is; room = room; says = open_to } }) in
        let old : Option ResvState = get before.table (key_at o u.unit) in
        let is : r ≡ resv_state o part old = of_some r (resv_state o part old) (sym there ∙ stands) in
        ap (λ (z : ResvState). z.confirm) is ∙ ap (λ (w : Option Addr). or_kept w (confirm_kept old)) wish

    -- and counts as taken
    took : has (taking p c e m f).taken u.unit ≡ true
    took =
        let s = split_at u us i in
        ap (λ (t : Taking). has t.taken u.unit)
        (taking_is ∙ ap (λ (zs : List AskedUnit). take_units p o f all first zs) s.2 ∙ units_in_full.after p o f all first s.0 (u ∷ s.1))
        ∙ units_has p o f all s.1 (take_unit p o f all before u) u.unit
        (ap (λ (t : Taking). has t.taken u.unit) (units_in_full.taken p o f all before u part part_is room open_to) ∙ ap is_some (get-put_in_same units before.taken u.unit part))

  -- ---- a reservation that no unit of it is for stays as it is
  abbrev pub IsBeside : StyleKind → LineKey → Type 0
  IsBeside st k = (u : AskedUnit) → In u us → st ≡ ask_style m.ask → k ≡ key_at o u.unit → ⊥

  table_beside : (st : StyleKind) (k : LineKey) → IsBeside st k → get (resvs_of st change.facts) k ≡ get (resvs_of st f) k
  table_beside st k beside =
      ap (λ (z : Change). get (resvs_of st z.facts) k) act_is
      ∙ ⊎_elim
      (λ (same : st ≡ ask_style m.ask).
      ap (λ (z : StyleKind). get (resvs_of z (act_resv p c e m f).facts) k) same ∙ ap (λ (t : Resvs). get t k) (resvs_in_steps.table p c e m f) ∙ ap (λ (t : Taking). get t.table k) taking_is
      ∙ units_one_by_one.others p o f all us first k (λ u i is. beside u i same is) ∙ ap (λ (z : StyleKind). get (resvs_of z f) k) (sym same))
      (λ (other : st ≡ ask_style m.ask → ⊥). ap (λ (t : Resvs). get t k) (resvs_in_steps.others p c e m f st other)) (style_same st (ask_style m.ask))

  -- by itself a Resv leaves senders and paths, so no name is forgotten
  none_lost : (st : StyleKind) (s : Session) (x : Sender) → is_lost st f change.facts s x ≡ false
  none_lost st s x =
      let from = sym (act_senders p c input f refl) in
      let paths = sym (act_paths p c input f refl) in
      not_both (has (named_as st (known f s)) x) (has (named_as st (known change.facts s)) x) (λ j. has (named_as st (known (record f { senders = from j; paths = paths j }) s)) x)
    where
      not_both : (a b : Bool) → a ≡ b → (a && not b) ≡ false
      not_both true b e = ap not (sym e)
      not_both false b e = refl

  beside_stays : (st : StyleKind) (k : LineKey) (r : ResvState) → IsBeside st k → get (resvs_of st f) k ≡ Some r → get (resvs_of st (facts_then p p c input f)) k ≡ Some r
  beside_stays st k r beside there =
      forgetting_by_names.stays f change.facts st k r (table_beside st k beside ∙ there) (within.shapes.resvs st k r there).style.named (λ x h. none_lost st k.0 x)

  pub beside_same : (st : StyleKind) (k : LineKey) → IsBeside st k → get (resvs_of st f) k ≡ get (resvs_of st (facts_then p p c input f)) k
  beside_same st k beside = by (get (resvs_of st f) k) (get (resvs_of st (facts_then p p c input f)) k) refl refl
    where
      by : (a b : Option ResvState) → get (resvs_of st f) k ≡ a → get (resvs_of st (facts_then p p c input f)) k ≡ b → get (resvs_of st f) k ≡ get (resvs_of st (facts_then p p c input f)) k
      by (Some r) b h h' = h ∙ sym (beside_stays st k r beside h)
      by None None h h' = h ∙ sym h'
      by None (Some z) h h' =
          ⊎_elim (λ (old : (r : ResvState) × (get (resvs_of st f) k ≡ Some r) × IsLeftOf r z). let bad : None ≡ Some old.0 = sym h ∙ old.1 in absurd (cc))
          (λ (new : IsAskedFor p c input f st k z).
          let came : Came e (own p e) (Spelt (message.Resv m)) ≡ Came k.1.0.0 (own p k.1.0.0) (Spelt (message.Resv new.by.resv)) = new.by.came in
          let same : m ≡ new.by.resv = cc in
          let at : e ≡ k.1.0.0 = cc in
          absurd (beside new.unit (subst (λ (w : ResvMsg). In new.unit (asked_units w.ask)) (sym same) new.asks) (sym new.by.style ∙ ap (λ (w : ResvMsg). ask_style w.ask) (sym same))
          (λ j. ((sym new.by.session ∙ ap (λ (w : ResvMsg). w.session) (sym same)) j, ((sym at j, (sym new.by.next ∙ ap (λ (w : ResvMsg). w.hop.addr) (sym same)) j), sym new.at j)))))
          (where_a_reservation_fact_comes_from (node_step p p c c input f) within st k z h')

  -- ---- what was taken, as a ResvConf says it
  record TookUnit (u : UnitOf) (part : Part) : Type 0 where
    unit : AskedUnit
    asks : In unit us
    key : u ≡ unit.unit
    some : part_of (names_that_match unit.names all) unit.flow ≡ Some part

  took_unit : (u : UnitOf) (part : Part) → get (taking p c e m f).taken u ≡ Some part → TookUnit u part
  took_unit u part h =
      ⊎_elim (λ (no : None ≡ Some part). absurd (cc))
      (λ (t : IsTaken p o f all first us u part).
      record {
        unit = t.unit;
        asks = subst (λ (zs : List AskedUnit). In t.unit zs) (sym t.tried.at.split) (in_right t.unit t.tried.at.front (t.unit ∷ t.tried.at.back) (inl refl));
        key = t.key;
        some = t.tried.some;
      })
      (units_in_full.takes p o f all first us u part (ap (λ (t : Taking). get t.taken u) (sym taking_is) ∙ h))

  of_style : ArePartsOf (ask_style m.ask) (taking p c e m f).taken
  of_style u part h =
      let t = took_unit u part h in
      let s = unit_shape m.ask can.proper all (λ x i. names_listed o.style (kept (goes_out p o.session o.iface) (known f o.session)) x i) t.unit t.asks part t.some in
      (s.style, sym s.unit ∙ sym t.key)

  -- ---- the answer
  pub record IsAnswer (s : Send) : Type 0 where
    pub conf : ResvConfMsg
    pub is : s ≡ once e m.hop.addr (message.ResvConf conf)
    pub session : conf.session ≡ m.session
    pub style : ask_style conf.ask ≡ ask_style m.ask
    pub confirm : conf.confirm ≡ a
    -- it speaks of whom the Resv lists: of each list that has this one of its names
    pub unit : AskedUnit
    pub asks : In unit us
    pub listed : Names
    pub lists : unit.names ≡ Some listed
    pub name : Sender
    pub named : has listed name ≡ true
    pub speaks : (ns : Names) → has ns name ≡ true → speaks_of conf.ask ns ≡ true
    -- each flow of it is one that the Resv asks for
    pub flows : (v : AskedUnit) → In v (asked_units conf.ask) → (z : AskedUnit) × In z us × (v.flow ≡ z.flow)
    -- and each unit of the Resv is confirmed
    pub units : (z : AskedUnit) → In z us → (v : AskedUnit) × In v (asked_units conf.ask) × (v.unit ≡ z.unit) × (v.flow ≡ z.flow)

  abbrev pub asked : Asked
  asked = record { session = m.session; confirm = a; iface = e; hop = m.hop.addr; taken = ask_of (ask_style m.ask) (taking p c e m f).taken }

  asked_is : change.asked ≡ Some asked
  asked_is = ap (λ (k : Change). k.asked) act_is ∙ resvs_in_steps.wish p c e m f a wish

  cut_told : (w : Option Names) (x : Sender) (listed : Names) → w ≡ Some listed → has (names_that_match w all) x ≡ true → has listed x ≡ true
  cut_told w x listed is h = (and_both _ _ (sym (has-cut senders listed all x) ∙ ap (λ (z : Option Names). has (names_that_match z all) x) (sym is) ∙ h)).0

  answer_with : (taken : Ask) → ask_of (ask_style m.ask) (taking p c e m f).taken ≡ Some taken → goes_on p p f after asked ≡ false → (s : Send) × In s (sent_then p p c input f) × IsAnswer s
  answer_with taken what ends =
      let conf : ResvConfMsg =
      record { session = m.session; err = record { node = own p e; in_place = false; not_guilty = false; code = 0; value = 0 }; confirm = a; ask = without_scope taken } in
      let told : ConfSend = record { iface = e; dst = m.hop.addr; conf = conf } in
      let granted : In told (confirmed p p f after change.asked) =
      (wishes_are_granted.granted p p f after change.asked told).1
      (record {
        wish = asked;
        wished = asked_is;
        taken = taken;
        what = what;
        ends = λ g. let bad : true ≡ false = sym ((wishes_are_granted.on p p f after asked).1 g) ∙ ends in cc;
        is = refl;
      }) in
      let send : Send = conf_send told in
      let sends : In send (sent_then p p c input f) =
      send_made p p c input f send refl (inr (inr (inr (inl (record { conf = told; made = in_right told change.confs (confirmed p p f after change.asked) granted; is = refl }))))) in
      let u = some_unit m.ask can.proper in
      let part = has_some (get (taking p c e m f).taken u.0.unit) (took u.0 u.1) in
      let parts = of_style u.0.unit part.0 part.1 in
      let name = one_name part.0.senders (not_none part.0 parts.0.named) in
      let v : AskedUnit = record { unit = u.0.unit; names = Some part.0.senders; flow = part.0.flow } in
      let among : In v (asked_units taken) = (units_told (ask_style m.ask) (taking p c e m f).taken taken v of_style what).1 (record { part = part.0; there = part.1; names = refl; flow = refl }) in
      let t = took_unit u.0.unit part.0 part.1 in
      let place = can.units t.unit t.asks in (
        send,
        sends,
        record {
          conf = conf;
          is = refl;
          session = refl;
          style = same_style taken ∙ style_told (ask_style m.ask) (taking p c e m f).taken taken what;
          confirm = refl;
          unit = t.unit;
          asks = t.asks;
          listed = place.names;
          lists = place.listed;
          name = name.0;
          named = cut_told t.unit.names name.0 place.names place.listed
              (subst (λ (z : Names). has z name.0 ≡ true) ((made_of (names_that_match t.unit.names all) t.unit.flow part.0 t.some).senders) name.1);
          speaks = λ ns h. speaks_for taken v ns part.0.senders name.0 among refl name.1 h;
          flows = λ z i.
              let b = without_units taken z i in
              let k = (units_told (ask_style m.ask) (taking p c e m f).taken taken b.0 of_style what).0 b.1 in
              let d = took_unit b.0.unit k.part k.there in
              (d.unit, d.asks, b.2 ∙ k.flow ∙ (made_of (names_that_match d.unit.names all) d.unit.flow k.part d.some).flow);
          units = λ z i.
              let b = has_some (get (taking p c e m f).taken z.unit) (took z i) in
              let d = took_unit z.unit b.0 b.1 in
              let same : d.unit ≡ z = one_unit m.ask d.unit z d.asks i (sym d.key) in
              let w : AskedUnit = record { unit = z.unit; names = Some b.0.senders; flow = b.0.flow } in
              let there : In w (asked_units taken) = (units_told (ask_style m.ask) (taking p c e m f).taken taken w of_style what).1 (record { part = b.0; there = b.1; names = refl; flow = refl }) in
              let k = with_units taken w there in
              (k.0, k.1, k.2, k.3 ∙ (made_of (names_that_match d.unit.names all) d.unit.flow b.0 d.some).flow ∙ ap (λ (o : AskedUnit). o.flow) same);
        },
      )
    where
      not_none : (x : Part) → has_name x ≡ true → is_none x.senders ≡ false
      not_none x h = either (is_none x.senders) (λ yes. let bad : false ≡ true = ap not (sym yes) ∙ h in absurd (cc)) (λ no. no)

  -- it is answered, or something new goes on for it
  pub answered_or_on : ((s : Send) × In s (sent_then p p c input f) × IsAnswer s) ⊎ GoesOn p p f after asked
  answered_or_on = by (goes_on p p f after asked) refl
    where
      by : (b : Bool) → goes_on p p f after asked ≡ b → ((s : Send) × In s (sent_then p p c input f) × IsAnswer s) ⊎ GoesOn p p f after asked
      by true is = inr ((wishes_are_granted.on p p f after asked).0 is)
      by false is = inl (by_ask (ask_of (ask_style m.ask) (taking p c e m f).taken) refl)
        where
          by_ask : (w : Option Ask) → ask_of (ask_style m.ask) (taking p c e m f).taken ≡ w → (s : Send) × In s (sent_then p p c input f) × IsAnswer s
          by_ask None what =
              let none = nothing_asked (ask_style m.ask) (taking p c e m f).taken of_style what in
              let u = some_unit m.ask can.proper in
              let bad : true ≡ false = sym (took u.0 u.1) ∙ ap (λ (z : PartTable). has z u.0.unit) none in
              absurd (cc)
          by_ask (Some taken) what = answer_with taken what is

  -- ---- all else that it makes the node send
  same_offers : offers p f ≡ offers p after
  same_offers =
      let from = sym (act_senders p c input f refl) in
      let told = sym (act_advertised p c input f refl) in
      let paths = sym (act_paths p c input f refl) in
      λ j. offers p (record f { senders = from j; advertised = told j; paths = paths j })

  -- a Resv, which asks for the same, where something changed
  pub record IsPassedOn (s : Send) : Type 0 where
    pub resv : ResvMsg
    pub says : s.message ≡ message.Resv resv
    pub mark : resv.confirm ≡ Some a
    pub lane : Lane
    pub there : has (lanes after) lane ≡ true
    pub session : resv.session ≡ lane.session
    pub dst : s.dst ≡ lane.hop.1
    pub hop : resv.hop.addr ≡ own p lane.hop.0
    pub changed : toward p f lane ≡ toward p after lane → ⊥
    pub whole : ask_of lane.style (toward p after lane) ≡ Some resv.ask

  abbrev pub IsKind : Send → Type 0
  IsKind s = IsResvTear p p f after change s ⊎ (((conf : ResvConfMsg) × (s.message ≡ message.ResvConf conf)) ⊎ IsPassedOn s)

  no_path : (s : Send) → IsPath p p f after change s → ⊥
  no_path s x =
      let old : get (offers p f) x.key ≡ Some x.offer = ap (λ (z : Offers). get z x.key) same_offers ∙ x.offered in
      let new : is_new_offer p x.key.iface x.offer (get (offers p f) x.key) ≡ false = ap (λ (w : Option Offer). is_new_offer p x.key.iface x.offer w) old ∙ not_new p x.key.iface x.offer in
      let fired : has change.fired x.key.session ≡ false = ap (λ (k : Change). has k.fired x.key.session) act_is in
      let bad : true ≡ false = sym x.why ∙ (λ j. fired j || new j) in
      cc

  resv_kind : (s : Send) → IsResv p p f after change s → IsPassedOn s
  resv_kind s x =
      let fired : has change.fired x.lane.session ≡ false = ap (λ (k : Change). has k.fired x.lane.session) act_is in
      let changed_one : is_changed p p f after x.lane ≡ true = ap (λ (b : Bool). b || is_changed p p f after x.lane) (sym fired) ∙ x.why in
      let wish : cond (is_changed p p f after x.lane) (confirm_for p after x.lane change.asked) None ≡ Some a =
      (λ j. cond (changed_one j) (confirm_for p after x.lane (asked_is j)) None) in
      let is : s ≡ resv_send p after x.lane (Some a) (has change.fired x.lane.session) x.ask =
      x.is ∙ ap (λ (w : Option Addr). resv_send p after x.lane w (has change.fired x.lane.session) x.ask) wish in
      record {
        resv = _;
        says = ap (λ (z : Send). z.message) is;
        mark = refl;
        lane = x.lane;
        there = x.there;
        session = refl;
        dst = ap (λ (z : Send). z.dst) is;
        hop = refl;
        changed = λ same. let bad : true ≡ false = sym changed_one ∙ ap not (parts_tested (toward p f x.lane) (toward p after x.lane) same) in cc;
        whole = x.whole;
      }

  pub sent_kind : (s : Send) → In s (sent_then p p c input f) → IsKind s
  sent_kind s i =
      ⊎_elim
      (λ (x : IsPathTear p p f after change s). let bad : true ≡ false = sym x.was ∙ ap (λ (z : Offers). has z x.key) same_offers ∙ x.gone in absurd (cc))
      (λ k. ⊎_elim (λ (x : IsResvTear p p f after change s). inl x)
      (λ k. ⊎_elim
      (λ (x : IsError p p f after change s). absurd (subst (λ (zs : List ErrSend). In x.error zs) (ap (λ (z : Change). z.errors) act_is ∙ quiet.0) x.made))
      (λ k. ⊎_elim (λ (x : IsConf p p f after change s). inr (inl (x.conf.conf, ap (λ (z : Send). z.message) x.is)))
      (λ k. ⊎_elim (λ (x : IsPath p p f after change s). absurd (no_path s x)) (λ (x : IsResv p p f after change s). inr (inr (resv_kind s x))) k) k) k) k)
      (send_told p p c input f s i)
