-- A walk along a session's reservations, as the map of a table says.
use Rattle.std.proofs.Common.{◌≡◌, ◌+◌, ℕ, zero, suc, List, [], ◌∷◌, drop, Option, Some, None, refl, sym, ap, ◌∙◌, arith}
use Rattle.std.specs.Prelude.{slice_get}
use Rattle.std.specs.List.{cons_option, filter_map}
use Rattle.std.specs.Option.{option_map}
use Rattle.rsvp_base.specs.Orders.{sessions}
use Rattle.rsvp_base.specs.Table.{get}
use Rattle.rsvp_base.specs.Under.{under}
use Rattle.rsvp_base.specs.declared.session.Session.{Session}
use Rattle.rsvp_base.specs.declared.style.StyleKind.{StyleKind}
use Rattle.rsvp_base.proofs.Counts.{in_found}
use Rattle.rsvp_base.proofs.Fronts.{got_in}
use Rattle.rsvp_base.proofs.UnderLaws.{get-under}
use Rattle.style_rules.specs.Lines.{LineKey, NextHop}
use Rattle.resv_state.specs.Merging.{SessionRow}
use Rattle.resv_state.specs.Resvs.{AreOfStyle, ResvFacts}
use Rattle.resv_state.specs.Walks.{rests}
use Rattle.resv_state.specs.declared.fact.ResvFact.{ResvFact}

one_more : (n : ℕ) → suc n ≡ n + 1
one_more n = omega arith

dropped_at : {A : Type 0} (es : List A) (k : ℕ) (x : A) → slice_get es k ≡ Some x → drop k es ≡ x ∷ drop (suc k) es
dropped_at [] k x at = cc
dropped_at (e ∷ es) zero x at = let is : e ≡ x = cc in ap (λ z. z ∷ es) is
dropped_at (e ∷ es) (suc k) x at = dropped_at es k x at

dropped_all : {A : Type 0} (es : List A) (k : ℕ) → slice_get es k ≡ None → drop k es ≡ []
dropped_all [] zero at = refl
dropped_all [] (suc k) at = refl
dropped_all (e ∷ es) zero at = cc
dropped_all (e ∷ es) (suc k) at = dropped_all es k at

abbrev pub rows_in : ResvFacts → Session → List SessionRow
rows_in m s = (under sessions rests m s).rows

abbrev pub fact_in : ResvFacts → Session → ℕ → Option ResvFact
fact_in m s k = option_map (λ (e : SessionRow). e.1.0) (slice_get (rows_in m s) k)

-- a step of the walk, at a reservation that was found
pub record Met (m : ResvFacts) (s : Session) (k : ℕ) (f : ResvFact) : Type 0 where
  pub row : SessionRow
  pub there : get m (s, row.0) ≡ Some row.1
  pub here : drop k (rows_in m s) ≡ row ∷ drop (k + 1) (rows_in m s)
  pub fact : row.1.0 ≡ f
  pub session : f.session ≡ s
  pub hop : ◌≡◌ {A = NextHop} row.0.0 (f.iface, f.next)

pub met : (st : StyleKind) (m : ResvFacts) → AreOfStyle st m → (s : Session) (k : ℕ) (f : ResvFact) → Some f ≡ fact_in m s k → Met m s k f
met st m of s k f is = by (slice_get (rows_in m s) k) refl is
  where
    by : (w : Option SessionRow) → slice_get (rows_in m s) k ≡ w → Some f ≡ option_map (λ (e : SessionRow). e.1.0) w → Met m s k f
    by None at e = cc
    by (Some x) at e =
        let same : x.1.0 ≡ f = cc in
        let there : get m (s, x.0) ≡ Some x.1 = sym (get-under sessions rests m s x.0) ∙ in_found rests (under sessions rests m s) x.0 x.1 (got_in (rows_in m s) k x at) in
        let key = of.key (s, x.0) x.1 there in
        record {
          row = x;
          there = there;
          here = dropped_at (rows_in m s) k x at ∙ ap (λ n. x ∷ drop n (rows_in m s)) (one_more k);
          fact = same;
          session = ap (λ (g : ResvFact). g.session) (sym same) ∙ ap (λ (q : LineKey). q.0) key;
          hop = sym (ap (λ (q : LineKey). q.1.0) key) ∙ (λ i. ((same i).iface, (same i).next));
        }

pub ended : (m : ResvFacts) (s : Session) (k : ℕ) → None ≡ fact_in m s k → drop k (rows_in m s) ≡ []
ended m s k is = by (slice_get (rows_in m s) k) refl is
  where
    by : (w : Option SessionRow) → slice_get (rows_in m s) k ≡ w → None ≡ option_map (λ (e : SessionRow). e.1.0) w → drop k (rows_in m s) ≡ []
    by None at e = dropped_all (rows_in m s) k at
    by (Some x) at e = cc

-- the one behind it, in the same session
pub following : (m : ResvFacts) (s t : Session) (f : ResvFact) (r : Option ResvFact) (k : ℕ) → t ≡ s → ((j : ℕ) → Some f ≡ fact_in m t j → r ≡ fact_in m t (j + 1)) → Some f ≡ fact_in m s k
    → r ≡ fact_in m s (k + 1)
following m s t f r k same next is = next k (is ∙ ap (λ z. fact_in m z k) (sym same)) ∙ ap (λ z. fact_in m z (k + 1)) same

-- what the rows from here on give
pub given_here : {B : Type 0} (g : SessionRow → Option B) (m : ResvFacts) (s : Session) (k : ℕ) (f : ResvFact) (w : Met m s k f)
    → filter_map g (drop k (rows_in m s)) ≡ cons_option (g w.row) (filter_map g (drop (k + 1) (rows_in m s)))
given_here g m s k f w = ap (filter_map g) w.here
