-- A Resv as a whole: what the code did is what the rule says.
use Rattle.std.specs.Prelude.{◌≡◌, ℕ, Bool, true, false, cond, List, [], ◌∷◌, map as each, Some, None, refl}
use Rattle.std.specs.Cmp.{tied_itself}
use Rattle.std.specs.Ordering.{is_lt, ordering_then}
use Rattle.std.proofs.Common.{sym, ap, subst, ◌∙◌}
use Rattle.admission_book.specs.Book.{Entries}
use Rattle.resv_state.specs.Resvs.{ResvFacts}
use Rattle.rsvp_base.specs.Keys.{options}
use Rattle.rsvp_base.specs.Orders.{Names, senders}
use Rattle.rsvp_base.specs.Sets.{is_none}
use Rattle.rsvp_base.specs.Table.{changed, empty, kept}
use Rattle.rsvp_base.specs.declared.style.StyleKind.{StyleKind}
use Rattle.rsvp_messages.specs.Units.{AskedUnit, ask_style, asked_units}
use Rattle.rsvp_messages.specs.declared.ask.Ask.{Ask}
use Rattle.rsvp_messages.specs.declared.message.ResvMsg.{ResvMsg}
use Rattle.style_rules.specs.Lines.{next_hops}
use Rattle.router_rules.specs.Asking.{Taking, ask_of, asked_of, asker_of, end_taking, err_place, err_places, errors_in_order, heard_of, matched, nothing_taken, refusal, refuse_all}
use Rattle.router_rules.specs.Asking.{style_conflict, style_value, take_units, taking, taking_of, Asker as AskerOf}
use Rattle.router_rules.specs.Facts.{Facts, Resvs, resvs_of, with_resvs}
use Rattle.router_rules.specs.Inputs.{ErrSend, in_order, put_in_order}
use Rattle.router_rules.specs.Known.{known, named_as}
use Rattle.router_rules.specs.NodeConfig.{NodeConfig, goes_out}
use Rattle.laws_bounds.proofs.Leaving.{as_it_was}
use Rattle.router_state.specs.State.{resv_at}
use Rattle.resv_admission.specs.Kept.{IsBookOf}
use Rattle.resv_admission.specs.Order.{first_refused}
use Rattle.resv_admission.specs.Units.{IsSoFar, asker_at, refusal_of}
use Rattle.resv_admission.specs.declared.refusals.Refusal.{Refusal}
use Rattle.resv_admission.specs.declared.unit.Asker.{Asker}
use Rattle.resv_admission.specs.declared.unit.Taken.{Taken}
use Rattle.router_arrivals.specs.Taken.{IsAnswer, IsDone, taking_from}
use Rattle.router_arrivals.specs.declared.taking.Answer.{Answer}

-- ---- unit by unit, in the table of the style
module _ (p : NodeConfig) (c : ℕ) (a : Asker) (f : Facts) (all : Names) (ask : Ask) (m : ResvFacts) (es : Entries) (done : Taken) (st : StyleKind) (same : ask_style ask ≡ st)
    (so : IsSoFar p c st a f m es done (take_units p (asker_at c st a) f all (nothing_taken (resvs_of st f) []) (asked_units ask))) where
  pub done_is : IsDone p (asker_at c (ask_style ask) a) done (taking_from p c a all ask f)
  done_is = subst (λ z. IsDone p (asker_at c z a) done (take_units p (asker_at c z a) f all (nothing_taken (resvs_of z f) []) (asked_units ask))) (sym same)
      (record { errors = so.errors; left_out = so.left_out; taken = so.taken })

  pub facts_are : with_resvs st (changed (resv_at c) m) f ≡ with_resvs (ask_style ask) (taking_from p c a all ask f).table f
  facts_are = (λ i. with_resvs st (sym so.table i) f) ∙ ap (λ z. with_resvs z (take_units p (asker_at c z a) f all (nothing_taken (resvs_of z f) []) (asked_units ask)).table f) (sym same)

  pub book_is : IsBookOf (with_resvs st (changed (resv_at c) m) f) es
  book_is = subst (λ (t : Resvs). IsBookOf (with_resvs st t f) es) so.table so.book

-- ---- refused whole
pub refused_is : (p : NodeConfig) (o : AskerOf) (code value : ℕ) (us : List AskedUnit) (t : Resvs) (done : Taken)
    → each (refusal_of p o) done.errors ≡ each (λ (u : AskedUnit). refusal p o false code value u.names u.flow) us → done.left_out ≡ false → done.parts ≡ empty
    → IsDone p o done (refuse_all p o code value us t)
refused_is p o code value us t done errors left_out parts = record { errors = sym errors; left_out = sym left_out; taken = sym parts }

-- nothing changed
pub nothing_put : (st : StyleKind) (f : Facts) → f ≡ with_resvs st (resvs_of st f) f
nothing_put st f = λ i. record f { resvs = sym (as_it_was st f.resvs) i }

module _ (p : NodeConfig) (c e : ℕ) (m : ResvMsg) (f : Facts) where
  abbrev o : AskerOf
  o = asker_of p c e m

  abbrev us : List AskedUnit
  us = asked_units m.ask

  abbrev t : Resvs
  t = resvs_of (ask_style m.ask) f

  pub none_known : is_none (known f m.session) ≡ true → taking p c e m f ≡ refuse_all p o 3 0 us t
  none_known none = ap (λ b. taking_of p o us f b (style_conflict f m.session (ask_style m.ask))) none

  pub in_conflict : (other : StyleKind) → is_none (known f m.session) ≡ false → style_conflict f m.session (ask_style m.ask) ≡ Some other → taking p c e m f ≡ refuse_all p o 5 (style_value other) us t
  in_conflict other some against = λ i. taking_of p o us f (some i) (against i)

  pub by_units : is_none (known f m.session) ≡ false → style_conflict f m.session (ask_style m.ask) ≡ None → taking p c e m f ≡ take_units p o f (matched p f o) (nothing_taken t []) us
  by_units some against = λ i. taking_of p o us f (some i) (against i)

-- ---- unit by unit, of the senders that match
module _ (p : NodeConfig) (c e : ℕ) (m : ResvMsg) (f : Facts) (a : Asker) (all : Names) (st : StyleKind) (ks : Names) (style : st ≡ ask_style m.ask)
    (who : asker_at c (ask_style m.ask) a ≡ asker_of p c e m) (known_is : ks ≡ known f m.session)
    (all_is : all ≡ named_as st (kept (goes_out p m.session e) ks)) (some : is_none ks ≡ false) (none : style_conflict f m.session st ≡ None) where
  pub same_taking : taking_from p c a all m.ask f ≡ taking p c e m f
  same_taking =
      let matching : all ≡ matched p f (asker_of p c e m) = all_is ∙ (λ i. named_as (style i) (kept (goes_out p m.session e) (known_is i))) in
      (λ i. take_units p (who i) f (matching i) (nothing_taken (resvs_of (ask_style m.ask) f) []) (asked_units m.ask))
      ∙ sym (by_units p c e m f (ap is_none (sym known_is) ∙ some) (ap (style_conflict f m.session) (sym style) ∙ none))

  pub whole_done : (done : Taken) → IsDone p (asker_at c (ask_style m.ask) a) done (taking_from p c a all m.ask f) → IsDone p (asker_of p c e m) done (taking p c e m f)
  whole_done done is = subst (λ (z : AskerOf × Taking). IsDone p z.0 done z.1) (λ i. (who i, same_taking i)) is

-- ---- refusals in order
module _ (p : NodeConfig) (o : AskerOf) where
  abbrev told : Refusal → ErrSend
  told = refusal_of p o

  -- all go to one next hop
  before_same : (x y : Refusal) → is_lt (err_places.cmp (err_place (told y)) (err_place (told x))) ≡ is_lt ((options senders).cmp (first_refused y) (first_refused x))
  before_same x y = ap (λ r. is_lt (ordering_then r ((options senders).cmp (first_refused y) (first_refused x)))) (tied_itself next_hops.total (o.iface, o.next))

  put_same : (x : Refusal) (ys : List Refusal) → put_in_order err_places err_place (told x) (each told ys) ≡ each told (put_in_order (options senders) first_refused x ys)
  put_same x [] = refl
  put_same x (y ∷ ys) =
      ap (λ b. cond b (told y ∷ put_in_order err_places err_place (told x) (each told ys)) (told x ∷ told y ∷ each told ys)) (before_same x y)
      ∙ by (is_lt ((options senders).cmp (first_refused y) (first_refused x))) (put_same x ys)
    where
      by : (b : Bool) → put_in_order err_places err_place (told x) (each told ys) ≡ each told (put_in_order (options senders) first_refused x ys)
          → cond b (told y ∷ put_in_order err_places err_place (told x) (each told ys)) (told x ∷ told y ∷ each told ys)
          ≡ each told (cond b (y ∷ put_in_order (options senders) first_refused x ys) (x ∷ y ∷ ys))
      by true h = ap (λ zs. told y ∷ zs) h
      by false h = refl

  order_same : (xs : List Refusal) → errors_in_order (each told xs) ≡ each told (in_order (options senders) first_refused xs)
  order_same [] = refl
  order_same (x ∷ xs) = ap (put_in_order err_places err_place (told x)) (order_same xs) ∙ put_same x (in_order (options senders) first_refused xs)

  -- ---- the whole
  pub answer_is : (done : Taken) (t : Taking) (f : Facts) (r : Answer) → IsDone p o done t → r.done.errors ≡ in_order (options senders) first_refused done.errors
      → r.heard ≡ heard_of (each told r.done.errors) done.left_out
      → asked_of o r.taken o.confirm ≡ asked_of o (ask_of o.style done.parts) o.confirm → IsAnswer p o r (end_taking o f t)
  answer_is done t f r is ordered heard asked =
      let errors : errors_in_order t.errors ≡ each told r.done.errors = ap errors_in_order is.errors ∙ order_same done.errors ∙ ap (each told) (sym ordered) in
      record {
        errors = errors;
        heard = (λ i. heard_of (errors i) (is.left_out i)) ∙ sym heard;
        asked = ap (λ ps. asked_of o (ask_of o.style ps) o.confirm) is.taken ∙ sym asked;
      }
