-- The Resv as a whole: units with all that is done, and what is heard.
use Rattle.std.specs.Prelude.{◌≡◌, ◌⊎◌, ℕ, Bool, true, false, cond, List, [], ◌∷◌, ◌++◌, Option, Some, None, refl}
use Rattle.std.proofs.Common.{sym, ap, subst, ◌∙◌, inl, inr, ⊎_elim}
use Rattle.admission_book.specs.declared.refused.Refused.{Refused}
use Rattle.rsvp_base.specs.declared.part.Part.{Part}
use Rattle.rsvp_base.specs.declared.style.StyleKind.{StyleKind}
use Rattle.rsvp_base.specs.declared.style.Unit.{Unit as UnitOf}
use Rattle.rsvp_base.specs.Members.{In}
use Rattle.rsvp_base.specs.Orders.{Names, units}
use Rattle.rsvp_base.specs.Sets.{is_none}
use Rattle.rsvp_base.specs.Table.{get}
use Rattle.rsvp_base.proofs.Members.{in_append, in_left, in_right}
use Rattle.rsvp_base.proofs.Tables.{got_put_in}
use Rattle.router_rules.specs.RsvpMessages.declared.message.ResvMsg.{ResvMsg}
use Rattle.router_rules.specs.RsvpMessages.Units.{AskedUnit, ask_style, asked_units}
use Rattle.router_rules.specs.Parts.{part_of}
use Rattle.router_rules.specs.declared.answers.Heard.TheVariants as heard
use Rattle.router_rules.specs.declared.answers.Why.TheVariants as why
use Rattle.router_rules.specs.Asking.{Asker, Taking, ask_of, asked_of, asker_of, book_refuses, end_taking, errors_in_order, has_room, heard_of, losses, lost, names_that_match, put_tested}
use Rattle.router_rules.specs.Asking.{put_unit, refusal, style_conflict, take_unit, take_units, taking, taking_of, Blamed, Nobody, Everyone, These}
use Rattle.router_rules.specs.Facts.{Facts, Resvs, ResvTables, with_resvs}
use Rattle.router_rules.specs.Inputs.{ErrSend}
use Rattle.router_rules.specs.Known.{known}
use Rattle.router_rules.specs.NodeConfig.{NodeConfig}
use Rattle.laws_bounds.proofs.Leaving.{as_it_was, table_other, table_put}
use Rattle.laws_bounds.specs.AskLaws.{IsBookRefusal, IsLeftOut, IsLoss, IsTaken, IsTried, IsUnitAt, ResvsInSteps, UnitsInFull, book_refusal, told_before}
use Rattle.laws_bounds.proofs.Taking.{unit_by, units_errors}
use Rattle.laws_bounds.proofs.Blame.{lost_listing}

-- ---- units with all that is done
module _ (p : NodeConfig) (o : Asker) (f : Facts) (all : Names) where
  units_after : (t : Taking) (us vs : List AskedUnit) → take_units p o f all t (us ++ vs) ≡ take_units p o f all (take_units p o f all t us) vs
  units_after t [] vs = refl
  units_after t (u ∷ us) vs = units_after (take_unit p o f all t u) us vs

  unit_nobody : (t : Taking) (u : AskedUnit) → part_of (names_that_match u.names all) u.flow ≡ None → take_unit p o f all t u ≡ told_before p o all t u
  unit_nobody t u is = ap (λ w. put_unit p o f u.unit w (told_before p o all t u)) is

  -- the first unit stands in the list, and what stands in the rest stands in the whole
  at_first : (t : Taking) (u : AskedUnit) (us : List AskedUnit) → IsUnitAt p o f all t (u ∷ us) u t
  at_first t u us = record { front = []; back = us; split = refl; is = refl }

  at_later : (t : Taking) (u : AskedUnit) (us : List AskedUnit) (unit : AskedUnit) (before : Taking) → IsUnitAt p o f all (take_unit p o f all t u) us unit before
      → IsUnitAt p o f all t (u ∷ us) unit before
  at_later t u us unit before q = record { front = u ∷ q.front; back = q.back; split = ap (λ vs. u ∷ vs) q.split; is = q.is }

  tried_later : (t : Taking) (u : AskedUnit) (us : List AskedUnit) (unit : AskedUnit) (part : Part) (before : Taking) (why : Option Refused)
      → IsTried p o f all (take_unit p o f all t u) us unit part before why
      → IsTried p o f all t (u ∷ us) unit part before why
  tried_later t u us unit part before why q = record { at = at_later t u us unit before q.at; some = q.some; room = q.room; says = q.says }

  -- the list up to a unit, the unit, and the rest
  up_to : (t : Taking) (us : List AskedUnit) (unit : AskedUnit) (before : Taking) (q : IsUnitAt p o f all t us unit before)
      → take_units p o f all t us ≡ take_units p o f all (take_unit p o f all before unit) q.back
  up_to t us unit before q =
      ap (take_units p o f all t) q.split ∙ units_after t q.front (unit ∷ q.back) ∙ ap (λ (z : Taking). take_units p o f all (take_unit p o f all z unit) q.back) (sym q.is)

  -- ---- errors
  loss_told : (u : AskedUnit) (us : List AskedUnit) (e : ErrSend) (w : Blamed) → lost o.style u.names all ≡ w → In e (losses p o u.flow w) → IsLoss p o f all (u ∷ us) e
  loss_told u us e Nobody is i = absurd i
  loss_told u us e Everyone is i =
      record { unit = u; asks = inl refl; names = None; lost = is; is = ⊎_elim (λ (z : e ≡ refusal p o false 4 0 None u.flow). z) (λ (n : ⊥). absurd n) i }
  loss_told u us e (These names) is i =
      record { unit = u; asks = inl refl; names = Some names; lost = is; is = ⊎_elim (λ (z : e ≡ refusal p o false 4 0 (Some names) u.flow). z) (λ (n : ⊥). absurd n) i }

  before_told : (t : Taking) (u : AskedUnit) (us : List AskedUnit) (e : ErrSend) → In e (told_before p o all t u).errors
      → In e t.errors ⊎ (IsLoss p o f all (u ∷ us) e ⊎ IsBookRefusal p o f all t (u ∷ us) e)
  before_told t u us e i =
      ⊎_elim (λ (a : In e t.errors). inl a) (λ (a : In e (losses p o u.flow (lost o.style u.names all))). inr (inl (loss_told u us e (lost o.style u.names all) refl a)))
      (in_append e t.errors (losses p o u.flow (lost o.style u.names all)) i)

  unit_told : (t : Taking) (u : AskedUnit) (us : List AskedUnit) (e : ErrSend) → In e (take_unit p o f all t u).errors
      → In e t.errors ⊎ (IsLoss p o f all (u ∷ us) e ⊎ IsBookRefusal p o f all t (u ∷ us) e)
  unit_told t u us e i = by_part (part_of (names_that_match u.names all) u.flow) refl i
    where
      by_tests : (part : Part) (room : Bool) (why : Option Refused) → part_of (names_that_match u.names all) u.flow ≡ Some part → has_room o u.unit part t.table ≡ room
          → book_refuses p o f u.unit part t.table ≡ why
          → In e (put_tested p o f u.unit part room why (told_before p o all t u)).errors → In e t.errors ⊎ (IsLoss p o f all (u ∷ us) e ⊎ IsBookRefusal p o f all t (u ∷ us) e)
      by_tests part false why is r w i = before_told t u us e i
      by_tests part true None is r w i = before_told t u us e i
      by_tests part true (Some why) is r w i =
          ⊎_elim (λ (a : In e (told_before p o all t u).errors). before_told t u us e a)
          (λ (a : In e (book_refusal p o f t u part why ∷ [])).
          inr (inr (record {
            unit = u;
            part = part;
            before = t;
            why = why;
            tried = record { at = at_first t u us; some = is; room = r; says = w };
            is = ⊎_elim (λ (z : e ≡ book_refusal p o f t u part why). z) (λ (n : ⊥). absurd n) a;
          })))
          (in_append e (told_before p o all t u).errors (book_refusal p o f t u part why ∷ []) i)

      by_part : (w : Option Part) → part_of (names_that_match u.names all) u.flow ≡ w → In e (put_unit p o f u.unit w (told_before p o all t u)).errors
          → In e t.errors ⊎ (IsLoss p o f all (u ∷ us) e ⊎ IsBookRefusal p o f all t (u ∷ us) e)
      by_part None is i = before_told t u us e i
      by_part (Some part) is i = by_tests part (has_room o u.unit part t.table) (book_refuses p o f u.unit part t.table) is refl refl i

  pub errors_told : (t : Taking) (us : List AskedUnit) (e : ErrSend) → In e (take_units p o f all t us).errors → In e t.errors ⊎ (IsLoss p o f all us e ⊎ IsBookRefusal p o f all t us e)
  errors_told t [] e i = inl i
  errors_told t (u ∷ us) e i =
      ⊎_elim (λ (a : In e (take_unit p o f all t u).errors). unit_told t u us e a)
      (λ (a : IsLoss p o f all us e ⊎ IsBookRefusal p o f all (take_unit p o f all t u) us e).
      inr
      (⊎_elim (λ (q : IsLoss p o f all us e). inl (record { unit = q.unit; asks = inr q.asks; names = q.names; lost = q.lost; is = q.is }))
      (λ (q : IsBookRefusal p o f all (take_unit p o f all t u) us e).
      inr (record { unit = q.unit; part = q.part; before = q.before; why = q.why; tried = tried_later t u us q.unit q.part q.before (Some q.why) q.tried; is = q.is })) a))
      (errors_told (take_unit p o f all t u) us e i)

  -- what was told before a unit is put stays told
  told_stays : (t : Taking) (u : AskedUnit) (e : ErrSend) → In e (told_before p o all t u).errors → In e (take_unit p o f all t u).errors
  told_stays t u e i = by_part (part_of (names_that_match u.names all) u.flow)
    where
      by_tests : (part : Part) (room : Bool) (why : Option Refused) → In e (put_tested p o f u.unit part room why (told_before p o all t u)).errors
      by_tests part false why = i
      by_tests part true None = i
      by_tests part true (Some why) = in_left e (told_before p o all t u).errors (book_refusal p o f t u part why ∷ []) i

      by_part : (w : Option Part) → In e (put_unit p o f u.unit w (told_before p o all t u)).errors
      by_part None = i
      by_part (Some part) = by_tests part (has_room o u.unit part t.table) (book_refuses p o f u.unit part t.table)

  loss_made : (t : Taking) (us : List AskedUnit) (e : ErrSend) (q : IsLoss p o f all us e) → In e (take_units p o f all t us).errors
  loss_made t [] e q = absurd q.asks
  loss_made t (u ∷ us) e q =
      ⊎_elim
      (λ (is : q.unit ≡ u).
      units_errors p o f all us (take_unit p o f all t u) e
      (told_stays t u e
      (in_right e t.errors (losses p o u.flow (lost o.style u.names all))
      (subst (λ w. In e (losses p o u.flow w)) (sym (ap (λ (z : AskedUnit). lost o.style z.names all) (sym is) ∙ q.lost))
      (subst (λ zs. In e zs) (sym (lost_listing p o u.flow q.names)) (inl (q.is ∙ ap (λ (z : AskedUnit). refusal p o false 4 0 q.names z.flow) is)))))))
      (λ (i : In q.unit us). loss_made (take_unit p o f all t u) us e (record { unit = q.unit; asks = i; names = q.names; lost = q.lost; is = q.is }))
      q.asks

  refusal_made : (t : Taking) (us : List AskedUnit) (e : ErrSend) (q : IsBookRefusal p o f all t us e) → In e (take_units p o f all t us).errors
  refusal_made t us e q =
      let full = unit_by p o f all q.before q.unit q.part true (Some q.why) q.tried.some q.tried.room q.tried.says in
      subst (λ (z : Taking). In e z.errors) (sym (up_to t us q.unit q.before q.tried.at))
      (units_errors p o f all q.tried.at.back (take_unit p o f all q.before q.unit) e
      (subst (λ (z : Taking). In e z.errors) (sym full) (in_right e (told_before p o all q.before q.unit).errors (book_refusal p o f q.before q.unit q.part q.why ∷ []) (inl q.is))))

  pub errors_made : (t : Taking) (us : List AskedUnit) (e : ErrSend) → In e t.errors ⊎ (IsLoss p o f all us e ⊎ IsBookRefusal p o f all t us e) → In e (take_units p o f all t us).errors
  errors_made t us e q =
      ⊎_elim (λ (i : In e t.errors). units_errors p o f all us t e i)
      (λ (a : IsLoss p o f all us e ⊎ IsBookRefusal p o f all t us e). ⊎_elim (λ (b : IsLoss p o f all us e). loss_made t us e b) (λ (b : IsBookRefusal p o f all t us e). refusal_made t us e b) a) q

  -- ---- units without room
  unit_out : (t : Taking) (u : AskedUnit) (us : List AskedUnit) → (take_unit p o f all t u).left_out ≡ true → (t.left_out ≡ true) ⊎ IsLeftOut p o f all t (u ∷ us)
  unit_out t u us e = by_part (part_of (names_that_match u.names all) u.flow) refl e
    where
      by_tests : (part : Part) (room : Bool) (why : Option Refused) → part_of (names_that_match u.names all) u.flow ≡ Some part → has_room o u.unit part t.table ≡ room
          → (put_tested p o f u.unit part room why (told_before p o all t u)).left_out ≡ true
          → (t.left_out ≡ true) ⊎ IsLeftOut p o f all t (u ∷ us)
      by_tests part false why is r e = inr (record { unit = u; part = part; before = t; at = at_first t u us; some = is; room = r })
      by_tests part true None is r e = inl e
      by_tests part true (Some why) is r e = inl e

      by_part : (w : Option Part) → part_of (names_that_match u.names all) u.flow ≡ w → (put_unit p o f u.unit w (told_before p o all t u)).left_out ≡ true
          → (t.left_out ≡ true) ⊎ IsLeftOut p o f all t (u ∷ us)
      by_part None is e = inl e
      by_part (Some part) is e = by_tests part (has_room o u.unit part t.table) (book_refuses p o f u.unit part t.table) is refl e

  outs_told : (t : Taking) (us : List AskedUnit) → (take_units p o f all t us).left_out ≡ true → (t.left_out ≡ true) ⊎ IsLeftOut p o f all t us
  outs_told t [] e = inl e
  outs_told t (u ∷ us) e =
      ⊎_elim (λ (a : (take_unit p o f all t u).left_out ≡ true). unit_out t u us a)
      (λ (q : IsLeftOut p o f all (take_unit p o f all t u) us). inr
      (record { unit = q.unit; part = q.part; before = q.before; at = at_later t u us q.unit q.before q.at; some = q.some; room = q.room }))
      (outs_told (take_unit p o f all t u) us e)

  -- who was left out stays so
  out_stays : (t : Taking) (u : AskedUnit) → t.left_out ≡ true → (take_unit p o f all t u).left_out ≡ true
  out_stays t u e = by_part (part_of (names_that_match u.names all) u.flow)
    where
      by_tests : (part : Part) (room : Bool) (why : Option Refused) → (put_tested p o f u.unit part room why (told_before p o all t u)).left_out ≡ true
      by_tests part false why = refl
      by_tests part true None = e
      by_tests part true (Some why) = e

      by_part : (w : Option Part) → (put_unit p o f u.unit w (told_before p o all t u)).left_out ≡ true
      by_part None = e
      by_part (Some part) = by_tests part (has_room o u.unit part t.table) (book_refuses p o f u.unit part t.table)

  outs_stay : (t : Taking) (us : List AskedUnit) → t.left_out ≡ true → (take_units p o f all t us).left_out ≡ true
  outs_stay t [] e = e
  outs_stay t (u ∷ us) e = outs_stay (take_unit p o f all t u) us (out_stays t u e)

  outs_made : (t : Taking) (us : List AskedUnit) → (t.left_out ≡ true) ⊎ IsLeftOut p o f all t us → (take_units p o f all t us).left_out ≡ true
  outs_made t us q =
      ⊎_elim (λ (e : t.left_out ≡ true). outs_stay t us e)
      (λ (a : IsLeftOut p o f all t us).
      ap (λ (z : Taking). z.left_out) (up_to t us a.unit a.before a.at)
      ∙ outs_stay (take_unit p o f all a.before a.unit) a.at.back
      (ap (λ (z : Taking). z.left_out) (unit_by p o f all a.before a.unit a.part false (book_refuses p o f a.unit.unit a.part a.before.table) a.some a.room refl)))
      q

  -- ---- what counts as taken
  unit_takes : (t : Taking) (u : AskedUnit) (us : List AskedUnit) (k : UnitOf) (x : Part) → get (take_unit p o f all t u).taken k ≡ Some x → (get t.taken k ≡ Some x) ⊎ IsTaken p o f all t (u ∷ us) k x
  unit_takes t u us k x e = by_part (part_of (names_that_match u.names all) u.flow) refl e
    where
      by_tests : (part : Part) (room : Bool) (why : Option Refused) → part_of (names_that_match u.names all) u.flow ≡ Some part → has_room o u.unit part t.table ≡ room
          → book_refuses p o f u.unit part t.table ≡ why
          → get (put_tested p o f u.unit part room why (told_before p o all t u)).taken k ≡ Some x → (get t.taken k ≡ Some x) ⊎ IsTaken p o f all t (u ∷ us) k x
      by_tests part false why is r w e = inl e
      by_tests part true (Some why) is r w e = inl e
      by_tests part true None is r w e =
          ⊎_elim
          (λ (new : (k ≡ u.unit) × (x ≡ part)).
          inr (record {
            unit = u;
            before = t;
            key = new.0;
            tried = subst (λ (z : Part). IsTried p o f all t (u ∷ us) u z t None) (sym new.1)
                (record { at = at_first t u us; some = is; room = r; says = w });
          }))
          (λ (old : get t.taken k ≡ Some x). inl old) (got_put_in units t.taken u.unit part k x e)

      by_part : (w : Option Part) → part_of (names_that_match u.names all) u.flow ≡ w → get (put_unit p o f u.unit w (told_before p o all t u)).taken k ≡ Some x
          → (get t.taken k ≡ Some x) ⊎ IsTaken p o f all t (u ∷ us) k x
      by_part None is e = inl e
      by_part (Some part) is e = by_tests part (has_room o u.unit part t.table) (book_refuses p o f u.unit part t.table) is refl refl e

  pub takes_told : (t : Taking) (us : List AskedUnit) (k : UnitOf) (x : Part) → get (take_units p o f all t us).taken k ≡ Some x → (get t.taken k ≡ Some x) ⊎ IsTaken p o f all t us k x
  takes_told t [] k x e = inl e
  takes_told t (u ∷ us) k x e =
      ⊎_elim (λ (a : get (take_unit p o f all t u).taken k ≡ Some x). unit_takes t u us k x a)
      (λ (q : IsTaken p o f all (take_unit p o f all t u) us k x). inr (record { unit = q.unit; before = q.before; key = q.key; tried = tried_later t u us q.unit x q.before None q.tried }))
      (takes_told (take_unit p o f all t u) us k x e)

pub units_in_full : UnitsInFull
units_in_full =
    record {
      taken = λ p o f all t u part is r w. unit_by p o f all t u part true None is r w;
      refused = λ p o f all t u part why is r w. unit_by p o f all t u part true (Some why) is r w;
      left_out = λ p o f all t u part is r. unit_by p o f all t u part false (book_refuses p o f u.unit part t.table) is r refl;
      nobody = unit_nobody;
      after = units_after;
      errors = λ p o f all t us e. (errors_told p o f all t us e, errors_made p o f all t us e);
      outs = λ p o f all t us. (outs_told p o f all t us, outs_made p o f all t us);
      takes = takes_told;
    }

-- ---- the Resv as a whole
taking_by : (p : NodeConfig) (c e : ℕ) (m : ResvMsg) (f : Facts) (b : Bool) (w : Option StyleKind) → is_none (known f m.session) ≡ b → style_conflict f m.session (ask_style m.ask) ≡ w
    → taking p c e m f ≡ taking_of p (asker_of p c e m) (asked_units m.ask) f b w
taking_by p c e m f b w s t = λ i. taking_of p (asker_of p c e m) (asked_units m.ask) f (s i) (t i)

abbrev whole : NodeConfig → ℕ → ℕ → ResvMsg → Facts → Taking → Facts
whole p c e m f t = (end_taking (asker_of p c e m) f t).facts

resv_rest : (st : StyleKind) (t : Resvs) (f : Facts) → record (with_resvs st t f) { resvs = f.resvs } ≡ f
resv_rest st t f = refl

pub resvs_in_steps : ResvsInSteps
resvs_in_steps =
    record {
      no_path = λ p c e m f s. taking_by p c e m f true (style_conflict f m.session (ask_style m.ask)) s refl;
      conflict = λ p c e m f other s t. taking_by p c e m f false (Some other) s t;
      unchanged = λ p c e m f code value h. ap (whole p c e m f) h ∙ ap (λ (ts : ResvTables). record f { resvs = ts }) (as_it_was (ask_style m.ask) f.resvs);
      by_units = λ p c e m f s t. taking_by p c e m f false None s t;
      table = λ p c e m f. table_put (ask_style m.ask) (taking p c e m f).table f.resvs;
      others = λ p c e m f st apart. table_other st (ask_style m.ask) (taking p c e m f).table f.resvs apart;
      rest = λ p c e m f. resv_rest (ask_style m.ask) (taking p c e m f).table f;
      errors = λ p c e m f. refl;
      told = λ p c e m f s ss h. ap (λ es. heard_of es (taking p c e m f).left_out) h;
      full = λ p c e m f none out. ap (λ es. heard_of (errors_in_order es) (taking p c e m f).left_out) none ∙ ap (λ b. cond b (heard.Dropped why.Full) heard.Taken) out;
      taken = λ p c e m f none out. ap (λ es. heard_of (errors_in_order es) (taking p c e m f).left_out) none ∙ ap (λ b. cond b (heard.Dropped why.Full) heard.Taken) out;
      no_wish = λ p c e m f none. ap (asked_of (asker_of p c e m) (ask_of (ask_style m.ask) (taking p c e m f).taken)) none;
      wish = λ p c e m f a some. ap (asked_of (asker_of p c e m) (ask_of (ask_style m.ask) (taking p c e m f).taken)) some;
    }
