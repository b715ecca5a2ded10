-- Sessions with the previous hops that they had.
use Rattle.std.specs.Prelude.{◌≡◌, ℕ, ◌+◌, ◌≤◌, Bool, false, List, [], ◌∷◌, ◌++◌, map as each, length, Some, slice_get, take, zero, suc, refl}
use Rattle.std.proofs.Common.{sym, ap, inl, inr, ◌∙◌, arith}
use Rattle.std.proofs.lemmas.List.{take_all}
use Rattle.std.proofs.lemmas.Option.{same_Some}
use Rattle.path_state.specs.Paths.{HopSet, hops_by, path_keys}
use Rattle.path_state.specs.declared.fact.PathFact.{PathFact}
use Rattle.rsvp_base.specs.Members.{In}
use Rattle.rsvp_base.specs.Orders.{senders, sessions}
use Rattle.rsvp_base.specs.Table.{Table, changed, changed_rows, kept, keys}
use Rattle.rsvp_base.specs.Under.{under}
use Rattle.rsvp_base.specs.declared.session.Session.{Session}
use Rattle.rsvp_base.proofs.Counts.{in_found}
use Rattle.rsvp_base.proofs.Fronts.{front_more}
use Rattle.rsvp_base.proofs.Tables.{either, got_changed, got_kept}
use Rattle.laws_bounds.proofs.Once.{keys_rise}
use Rattle.router_state.specs.State.{State, facts_of}
use Rattle.laws_sends.specs.SendsHere.{hops_in}
use Rattle.laws_sends.proofs.Saying.{fresh}
use Rattle.laws_sends.specs.Several.{AreSessions, is_among}
use Rattle.laws_sends.proofs.Grouping.{in_among}
use Rattle.resv_sends.proofs.Sent.{hops_are}
use Rattle.router_rounds.specs.Rounds.{with_hops}
use Rattle.router_rounds.specs.Nears.{NearTable, hops_then}

-- ---- rows that are made one after another
pub some_rows : {K X Y : Type 0} (g : K → X → Y) (es : List (K × X)) → changed_rows (λ k x. Some (g k x)) es ≡ each (λ e. (e.0, g e.0 e.1)) es
some_rows g [] = refl
some_rows g (e ∷ es) = ap (λ rs. (e.0, g e.0 e.1) ∷ rs) (some_rows g es)

-- ---- the sessions, in order
pub near_sessions : (t : NearTable) → AreSessions (keys t)
near_sessions t = keys_rise sessions t

-- one does not stand before itself
pub not_before : (t : NearTable) (i : ℕ) (s : Session) → slice_get (keys t) i ≡ Some s → is_among (take i (keys t)) s ≡ false
not_before t i s at =
    either (is_among (take i (keys t)) s)
    (λ h. absurd (fresh sessions t.rows i s t.sorted at (in_among (take i (keys t)) s h)))
    (λ e. e)

-- ---- each with the hops that it had
module _ (n : State) (c : ℕ) (test : Session → Bool) where
  abbrev pub near_of : NearTable
  near_of = kept test (changed (hops_then n.paths) n.due)

  pub hops_had : (e : Session × HopSet) → In e near_of.rows → e.1 ≡ hops_in (facts_of c n) e.0
  hops_had e i =
      let k = got_kept sessions test (changed (hops_then n.paths) n.due) e.0 e.1 (in_found sessions near_of e.0 e.1 i) in
      let g = got_changed sessions (hops_then n.paths) n.due e.0 e.1 k.1 in
      sym (same_Some (hops_by (under sessions senders n.paths e.0).rows) e.1 g.2) ∙ hops_are c n e.0

  pub near_rows : near_of.rows ≡ each (with_hops (facts_of c n)) (keys near_of)
  near_rows = by near_of.rows hops_had
    where
      by : (es : List (Session × HopSet)) → ((e : Session × HopSet) → In e es → e.1 ≡ hops_in (facts_of c n) e.0) → es ≡ each (with_hops (facts_of c n)) (each (λ e. e.0) es)
      by [] h = refl
      by (e ∷ es) h = λ i. (e.0, h e (inl refl) i) ∷ by es (λ d j. h d (inr j)) i

-- ---- rows that are noted
-- a row more
pub noted_more : (paths : Table path_keys (PathFact × ℕ)) (due : Table sessions ℕ) (k : ℕ) (s : Session) (left : ℕ) → slice_get due.rows k ≡ Some (s, left)
    → take (k + 1) (changed (hops_then paths) due).rows ≡ take k (changed (hops_then paths) due).rows ++ (s, hops_by (under sessions senders paths s).rows) ∷ []
noted_more paths due k s left at = front_more (changed (hops_then paths) due).rows k (s, hops_by (under sessions senders paths s).rows) (by due.rows k at)
  where
    by : (es : List (Session × ℕ)) (k : ℕ) → slice_get es k ≡ Some (s, left) → slice_get (changed_rows (hops_then paths) es) k ≡ Some (s, hops_by (under sessions senders paths s).rows)
    by [] k e = cc
    by (e ∷ es) zero is = let same = same_Some e (s, left) is in ap (λ (z : Session × ℕ). Some (z.0, hops_by (under sessions senders paths z.0).rows)) same
    by (e ∷ es) (suc k) is = by es k is

pub noted_all : (paths : Table path_keys (PathFact × ℕ)) (due : Table sessions ℕ) (k : ℕ) → length due.rows ≤ k → take k (changed (hops_then paths) due).rows ≡ (changed (hops_then paths) due).rows
noted_all paths due k h = take_all k (changed (hops_then paths) due).rows (let same = by due.rows in omega (arith, h, same))
  where
    by : (es : List (Session × ℕ)) → length (changed_rows (hops_then paths) es) ≡ length es
    by [] = refl
    by (e ∷ es) = let rest = by es in omega (arith, rest)
