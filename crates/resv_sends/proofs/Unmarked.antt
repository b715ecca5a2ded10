-- Marks that are taken away one after another.
use Rattle.std.specs.Prelude.{◌≡◌, Bool, true, false, not, ◌&&◌, ◌||◌, List, [], ◌∷◌, ◌++◌, Option, Some, None, refl}
use Rattle.std.specs.List.{list_any}
use Rattle.std.specs.Ordering.{eq_by_cmp}
use Rattle.std.proofs.Common.{sym, ap, subst, ◌∙◌}
use Rattle.std.proofs.lemmas.List.Folds.{list_any-append}
use Rattle.rsvp_base.specs.Orders.{sessions, units}
use Rattle.rsvp_base.specs.Table.{changed, get, keys}
use Rattle.rsvp_base.specs.declared.session.Session.{Session}
use Rattle.rsvp_base.specs.declared.style.Unit.{Unit as UnitOf}
use Rattle.rsvp_base.proofs.SetLaws.{and_both, and_made}
use Rattle.rsvp_base.proofs.Tables.{get-changed, same_table, then_do, tied_same, tied_self}
use Rattle.router_rules.specs.Facts.{Want, WantKey, Wants, want_keys}
use Rattle.router_rules.specs.NodeConfig.{is_session}
use Rattle.local_state.specs.Wants.{unmarked_at}
use Rattle.laws_sends.proofs.Passing.{changed_same, changed_twice}
use Rattle.laws_sends.proofs.Routed.{same_test}
use Rattle.laws_sends.specs.Marks.{unmarked_in}
use Rattle.resv_sends.specs.Units.{UnitSet}
use Rattle.resv_sends.proofs.Sets.{has_keys}

-- without the marks of these units of a session
abbrev pub without_marks : Session → List UnitOf → WantKey → Want → Option Want
without_marks s us k w = Some (record w { confirm = w.confirm && not (is_session s k.0 && list_any (eq_by_cmp units.cmp k.1) us) })

pub without_none : (s : Session) (m : Wants) → m ≡ changed (without_marks s []) m
without_none s m = same_table want_keys _ _ (λ q. by q (get m q) ∙ sym (get-changed want_keys (without_marks s []) m q))
  where
    stays : (a b : Bool) → a ≡ (a && not (b && false))
    stays true true = refl
    stays true false = refl
    stays false b = refl

    by : (q : WantKey) (w : Option Want) → w ≡ then_do w (without_marks s [] q)
    by q None = refl
    by q (Some w) = λ i. Some (record w { confirm = stays w.confirm (is_session s q.0) i })

is_key : (s : Session) (u : UnitOf) (k : WantKey) → eq_by_cmp want_keys.cmp k (s, u) ≡ (is_session s k.0 && eq_by_cmp units.cmp k.1 u)
is_key s u k = same_test _ _ to from
  where
    to : eq_by_cmp want_keys.cmp k (s, u) ≡ true → (is_session s k.0 && eq_by_cmp units.cmp k.1 u) ≡ true
    to e =
        let same = tied_same want_keys k (s, u) e in
        subst (λ (z : WantKey). (is_session s z.0 && eq_by_cmp units.cmp z.1 u) ≡ true) (sym same) (and_made _ _ (tied_self sessions s) (tied_self units u))

    from : (is_session s k.0 && eq_by_cmp units.cmp k.1 u) ≡ true → eq_by_cmp want_keys.cmp k (s, u) ≡ true
    from e =
        let b = and_both _ _ e in
        let first = tied_same sessions s k.0 b.0 in
        let second = tied_same units k.1 u b.1 in
        let P : WantKey → Type 0 = λ z. eq_by_cmp want_keys.cmp k z ≡ true in
        subst P (λ i. (sym first i, second i)) (tied_self want_keys k)

pub without_more : (s : Session) (us : List UnitOf) (u : UnitOf) (m first : Wants) → m ≡ changed (without_marks s us) first
    → changed (unmarked_at (s, u)) m ≡ changed (without_marks s (us ++ u ∷ [])) first
without_more s us u m first is = ap (changed (unmarked_at (s, u))) is ∙ changed_twice want_keys (without_marks s us) (unmarked_at (s, u)) first ∙ changed_same want_keys _ _ step first
  where
    joined : (a b d e : Bool) → ((a && not (b && d)) && not (b && e)) ≡ (a && not (b && (d || (e || false))))
    joined false b d e = refl
    joined true false d e = refl
    joined true true true e = refl
    joined true true false true = refl
    joined true true false false = refl

    step : (k : WantKey) (w : Want) → then_do (without_marks s us k w) (unmarked_at (s, u) k) ≡ without_marks s (us ++ u ∷ []) k w
    step k w =
        let among = list_any (eq_by_cmp units.cmp k.1) us in
        (λ i. Some (record w { confirm = (w.confirm && not (is_session s k.0 && among)) && not (is_key s u k i) }))
        ∙ (λ i. Some (record w { confirm = joined w.confirm (is_session s k.0) among (eq_by_cmp units.cmp k.1 u) i }))
        ∙ (λ i. Some (record w { confirm = w.confirm && not (is_session s k.0 && sym (list_any-append (eq_by_cmp units.cmp k.1) us (u ∷ [])) i) }))

pub without_all : (s : Session) (used : UnitSet) (m : Wants) → changed (without_marks s (keys used)) m ≡ changed (unmarked_in s used) m
without_all s used m = changed_same {X = Want} {Y = Want} want_keys (without_marks s (keys used)) (unmarked_in s used)
    (λ k w. λ i. Some (record w { confirm = w.confirm && not (is_session s k.0 && sym (has_keys units used k.1) i) })) m
