-- What a walk along a session's paths finds, one at a time.
use Rattle.std.proofs.Common.{◌≡◌, ◌<◌, ◌≤◌, ◌+◌, ◌||◌, ℕ, zero, suc, Bool, true, false, cond, Some, List, [], ◌∷◌, ◌++◌, length, take, drop, map as each, refl, sym, ap, ◌∙◌, arith}
use Rattle.std.specs.Prelude.{nat_lt, slice_get}
use Rattle.std.specs.List.{list_any}
use Rattle.std.specs.FinMap.Entries.{where_key}
use Rattle.std.specs.Ordering.{eq_by_cmp}
use Rattle.std.proofs.lemmas.Bool.Decides.{nat_tests}
use Rattle.std.proofs.lemmas.List.{length-map, length-take}
use Rattle.std.proofs.lemmas.Option.{slice_get_within}
use Rattle.rsvp_base.specs.Orders.{sessions, senders}
use Rattle.rsvp_base.specs.Sets.{set_of, with_key}
use Rattle.rsvp_base.specs.Table.{has, size}
use Rattle.rsvp_base.specs.declared.addr.Addr.{Addr}
use Rattle.rsvp_base.specs.declared.session.Sender.{Sender}
use Rattle.rsvp_base.specs.declared.session.Session.{Session}
use Rattle.rsvp_base.proofs.Counts.{has-set_of, size-set_of}
use Rattle.rsvp_base.proofs.Fronts.{front_more}
use Rattle.rsvp_base.proofs.SetLaws.{same_set, has-with_key, size-with_key}
use Rattle.rsvp_base.proofs.SessionCounts.{is_full}
use Rattle.rsvp_base.proofs.Tables.{either}
use Rattle.soft_table.specs.Facts.{facts_by}
use Rattle.soft_table.proofs.Steps.{Step}
use Rattle.path_state.specs.declared.fact.PathFact.{PathFact}
use Rattle.path_state.specs.Paths.{HopSet, path_hops, path_key, path_keys, paths_under, hop_of, hops_by, is_from}
use Rattle.path_state.proofs.Vias.{any_last}

-- ---- places
-- a row that is found stands below the number of rows
pub below : {A : Type 0} (es : List A) (k : ℕ) (x : A) → slice_get es k ≡ Some x → length es ≤ 16 → k < 16
below es k x at few = let lt = slice_get_within es k x at in omega (arith, lt, few)

-- where nothing stands from a place on, all stand before it
pub passed : {A : Type 0} (es : List A) (k : ℕ) → drop k es ≡ [] → take k es ≡ es
passed [] zero is = refl
passed [] (suc k) is = refl
passed (x ∷ es) zero is = cc
passed (x ∷ es) (suc k) is = ap (λ zs. x ∷ zs) (passed es k is)

-- ---- previous hops
each_last : {A B : Type 0} (f : A → B) (xs : List A) (x : A) → each f (xs ++ x ∷ []) ≡ each f xs ++ f x ∷ []
each_last f [] x = refl
each_last f (y ∷ ys) x = ap (λ zs. f y ∷ zs) (each_last f ys x)

hops_last : (hs : List (ℕ × Addr)) (h : ℕ × Addr) → set_of {o = path_hops} (hs ++ h ∷ []) ≡ with_key (set_of hs) h
hops_last hs h =
    same_set path_hops _ _ (λ q. has-set_of path_hops (hs ++ h ∷ []) q ∙ any_last (eq_by_cmp path_hops.cmp q) hs h ∙ ap (λ b. eq_by_cmp path_hops.cmp q h || b) (sym (has-set_of path_hops hs q))
    ∙ sym (has-with_key path_hops (set_of hs) h q))

module _ (s : Session) (fs : List (PathFact × ℕ)) (k : ℕ) (f : PathFact) (st : Step senders path_key s fs k f) where
  abbrev us : List (Sender × (PathFact × ℕ))
  us = paths_under s fs

  pub hops_more : (old : HopSet) → old ≡ hops_by (take k us) → with_key old (f.iface, f.hop.addr) ≡ hops_by (take (k + 1) us)
  hops_more old so_far =
      ap (λ (h : HopSet). with_key h (f.iface, f.hop.addr)) so_far ∙ ap (λ (g : PathFact). with_key (hops_by (take k us)) (g.iface, g.hop.addr)) (sym st.fact)
      ∙ sym (hops_last (each hop_of (take k us)) (hop_of st.row)) ∙ ap (set_of {o = path_hops}) (sym (each_last hop_of (take k us) st.row)) ∙ ap hops_by (sym (front_more us k st.row st.at))

  pub hops_few : (old : HopSet) (h : ℕ × Addr) → length us ≤ 16 → old ≡ hops_by (take k us) → size (with_key old h) ≤ 16
  hops_few old h most so_far =
      let lt = below us k st.row st.at most in
      let many = ap size so_far in
      let few = size-set_of path_hops (each hop_of (take k us)) in
      let listed = length-map (take k us) hop_of in
      let front = length-take k us in
      either (has old h)
      (λ t. let n = size-with_key path_hops old h ∙ ap (λ b. cond b (size old) (size old + 1)) t in omega (arith, n, many, few, listed, front))
      (λ t. let n = size-with_key path_hops old h ∙ ap (λ b. cond b (size old) (size old + 1)) t in omega (arith, n, many, few, listed, front))

-- ---- addresses
abbrev of_session : Session → List (PathFact × ℕ) → List ((Session × Sender) × (PathFact × ℕ))
of_session s fs = where_key path_keys.cmp (λ k. eq_by_cmp sessions.cmp s k.0) (facts_by path_key fs)

abbrev cut : List ((Session × Sender) × (PathFact × ℕ)) → List (Sender × (PathFact × ℕ))
cut es = each (λ e. (e.0.1, e.1)) es

-- whether a fact's sender has an address, by the facts or by their keys
pub among : (addr : Addr) (s : Session) (fs : List (PathFact × ℕ)) → list_any (λ (f : PathFact). is_from addr f.sender) (each (λ e. e.1.0) (paths_under s fs))
    ≡ list_any (is_from addr) (each (λ e. e.0) (paths_under s fs))
among addr s [] = refl
among addr s (f ∷ fs) = by (eq_by_cmp sessions.cmp s f.0.session) (among addr s fs)
  where
    by : (b : Bool) → list_any (λ (f : PathFact). is_from addr f.sender) (each (λ e. e.1.0) (cut (of_session s fs))) ≡ list_any (is_from addr) (each (λ e. e.0) (cut (of_session s fs)))
        → list_any (λ (f : PathFact). is_from addr f.sender) (each (λ e. e.1.0) (cut (cond b ((path_key f.0, f) ∷ of_session s fs) (of_session s fs))))
        ≡ list_any (is_from addr) (each (λ e. e.0) (cut (cond b ((path_key f.0, f) ∷ of_session s fs) (of_session s fs))))
    by true ih = ap (λ b. is_from addr f.0.sender || b) ih
    by false ih = ih

-- the senders of the facts are those of their keys
pub named : (s : Session) (fs : List (PathFact × ℕ)) → each (λ (f : PathFact). f.sender) (each (λ e. e.1.0) (paths_under s fs)) ≡ each (λ e. e.0) (paths_under s fs)
named s [] = refl
named s (f ∷ fs) = by (eq_by_cmp sessions.cmp s f.0.session) (named s fs)
  where
    by : (b : Bool) → each (λ (f : PathFact). f.sender) (each (λ e. e.1.0) (cut (of_session s fs))) ≡ each (λ e. e.0) (cut (of_session s fs))
        → each (λ (f : PathFact). f.sender) (each (λ e. e.1.0) (cut (cond b ((path_key f.0, f) ∷ of_session s fs) (of_session s fs))))
        ≡ each (λ e. e.0) (cut (cond b ((path_key f.0, f) ∷ of_session s fs) (of_session s fs)))
    by true ih = ap (λ xs. f.0.sender ∷ xs) ih
    by false ih = ih

-- ---- whether there are some
pub full_many : {A : Type 0} (xs : List A) → is_full xs ≡ nat_lt 0 (length xs)
full_many [] = refl
full_many (x ∷ xs) = many (length xs)
  where
    many : (n : ℕ) → true ≡ nat_lt 0 (suc n)
    many n = grind (arith, nat_tests)
