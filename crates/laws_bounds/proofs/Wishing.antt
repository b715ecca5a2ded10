-- Who is told that a reservation stands, which wishes go on, and when a mark is used.
use Rattle.std.specs.Prelude.{◌≡◌, ◌↔◌, nat_lt, Bool, true, false, cond, not, ◌&&◌, List, [], ◌∷◌, length, map as each, Option, Some, None, refl}
use Rattle.std.proofs.Common.{arith, sym, ap, subst, ◌∙◌, inl, inr, ⊎_elim}
use Rattle.std.proofs.lemmas.Bool.{lt-ltb}
use Rattle.std.specs.List.{filter, flat_map}
use Rattle.router_rules.specs.RsvpBase.declared.addr.Addr.{Addr}
use Rattle.router_rules.specs.RsvpBase.declared.part.Part.{Part}
use Rattle.router_rules.specs.RsvpBase.declared.style.StyleKind.{StyleKind}
use Rattle.router_rules.specs.RsvpBase.declared.style.Unit.{Unit as UnitOf}
use Rattle.router_rules.specs.RsvpBase.Members.{In}
use Rattle.router_rules.specs.RsvpBase.Orders.{sessions, units}
use Rattle.router_rules.specs.RsvpBase.Table.{empty, has, keys, size, same_rows}
use Rattle.router_rules.proofs.RsvpBase.Counts.{found_in, in_found, in_set_of, set_of_in}
use Rattle.router_rules.proofs.RsvpBase.Members.{any_in, in_any, in_each, in_filter, in_flat_map, to_each, to_filter, to_flat_map}
use Rattle.router_rules.proofs.RsvpBase.SetLaws.{and_both, and_made, or_either, or_left, or_right}
use Rattle.router_rules.proofs.RsvpBase.Tables.{either, get-changed, then_do}
use Rattle.router_rules.proofs.RsvpBase.UnderLaws.{get-under}
use Rattle.router_rules.specs.RsvpMessages.declared.ask.Ask.{Ask}
use Rattle.router_rules.specs.Merge.{PartTable}
use Rattle.router_rules.specs.Toward.{IsRequestOf, Request, open_of, request_unit, requests_at}
use Rattle.router_rules.proofs.Merges.{in_those, to_those}
use Rattle.router_rules.specs.Facts.{Facts, Want, WantKey, want_keys, wants_in}
use Rattle.router_rules.specs.Inputs.{Asked, ConfSend}
use Rattle.router_rules.specs.Known.{Lane, lane_keys, lanes}
use Rattle.router_rules.specs.NodeConfig.{NodeConfig, is_session, own}
use Rattle.router_rules.specs.Requests.{requests, toward, want_request}
use Rattle.router_rules.specs.Sends.{conf_for, confirmed, goes_on, is_changed, is_empty, is_marked, is_sent_new, marked_units, own_wish, same_parts, takes_part, unmarked, used_marks}
use Rattle.laws_bounds.specs.WishLaws.{GoesOn, IsGranted, IsMarked, IsNewThere, IsUsed, MarksAreUsed, TakesPart, WishesAreGranted}
use Rattle.router_rules.proofs.RsvpBase.Fronts.{in_keys, to_keys}
use Rattle.laws_bounds.proofs.Lists.{none_in, some_same}
use Rattle.laws_bounds.proofs.Sending.{not_told}
use Rattle.laws_bounds.proofs.Tests.{parts_told, parts_tested, session_told, ties}

-- ---- what goes toward a hop for a change
some_parts : (t : PartTable) → (nat_lt 0 (size t) ≡ true) ↔ (t ≡ empty → ⊥)
some_parts t =
    (λ e n. let z : true ≡ false = sym e ∙ ap (λ (z : PartTable). nat_lt 0 (size z)) n in cc, λ n. by t.rows refl n)
  where
    by : (es : List (UnitOf × Part)) → t.rows ≡ es → (t ≡ empty → ⊥) → nat_lt 0 (size t) ≡ true
    by [] is n = absurd (n (same_rows t empty is))
    by (e ∷ es) is n = ap (λ zs. nat_lt 0 (length zs)) is ∙ lt-ltb 0 (length (e ∷ es)) (omega arith)

module _ (old p : NodeConfig) (before after : Facts) where
  new_told : (l : Lane) → is_sent_new old p before after l ≡ true → IsNewThere old p before after l
  new_told l e =
      let r = and_both (nat_lt 0 (size (toward p after l))) (is_changed old p before after l) e in
      record { some = (some_parts (toward p after l)).0 r.0; changed = λ same. let z : true ≡ false = sym (parts_tested (toward old before l) (toward p after l) same) ∙ not_told _ r.1 in cc }

  new_made : (l : Lane) → IsNewThere old p before after l → is_sent_new old p before after l ≡ true
  new_made l q =
      and_made (nat_lt 0 (size (toward p after l))) (is_changed old p before after l) ((some_parts (toward p after l)).1 q.some)
      (ap not (either (same_parts (toward old before l) (toward p after l)) (λ same. absurd (q.changed (parts_told (toward old before l) (toward p after l) same))) (λ b. b)))

  abbrev is_on : Asked → Lane → Bool
  is_on a l = is_session l.session a.session && is_sent_new old p before after l

  on_told : (a : Asked) → goes_on old p before after a ≡ true → GoesOn old p before after a
  on_told a e =
      let r = in_any (is_on a) (keys (lanes after)) e in
      let b = and_both (is_session r.0.session a.session) (is_sent_new old p before after r.0) r.2 in
      record { lane = r.0; there = in_keys lane_keys (lanes after) r.0 r.1; session = session_told r.0.session a.session b.0; new = new_told r.0 b.1 }

  on_made : (a : Asked) → GoesOn old p before after a → goes_on old p before after a ≡ true
  on_made a q = any_in (is_on a) q.lane (keys (lanes after)) (to_keys lane_keys (lanes after) q.lane q.there) (and_made _ _ (ties sessions q.lane.session a.session q.session) (new_made q.lane q.new))

  granted_told : (asked : Option Asked) (s : ConfSend) → In s (confirmed old p before after asked) → IsGranted old p before after asked s
  granted_told None s i = absurd i
  granted_told (Some a) s i = by (goes_on old p before after a) (a.taken) refl refl i
    where
      by : (b : Bool) (w : Option Ask) → goes_on old p before after a ≡ b → a.taken ≡ w → In s (cond b [] (conf_for p a w)) → IsGranted old p before after (Some a) s
      by true w e t i = absurd i
      by false None e t i = absurd i
      by false (Some taken) e t i =
          record { wish = a; wished = refl; taken = taken; what = t; ends = λ q. let z : true ≡ false = sym (on_made a q) ∙ e in cc; is = ⊎_elim (λ (is : s ≡ _). is) (λ (n : ⊥). absurd n) i }

  granted_made : (asked : Option Asked) (s : ConfSend) → IsGranted old p before after asked s → In s (confirmed old p before after asked)
  granted_made asked s q =
      subst (λ w. In s (confirmed old p before after w)) (sym q.wished)
      (subst (λ b. In s (cond b [] (conf_for p q.wish q.wish.taken))) (sym (either (goes_on old p before after q.wish) (λ e. absurd (q.ends (on_told q.wish e))) (λ b. b)))
      (subst (λ w. In s (conf_for p q.wish w)) (sym q.what) (inl q.is)))

pub wishes_are_granted : WishesAreGranted
wishes_are_granted =
    record {
      new = λ old p before after l. (new_told old p before after l, new_made old p before after l);
      on = λ old p before after a. (on_told old p before after a, on_made old p before after a);
      granted = λ old p before after asked s. (granted_told old p before after asked s, granted_made old p before after asked s);
    }

-- ---- who takes part
empty_told : {A : Type 0} (xs : List A) → is_empty xs ≡ true → (x : A) → In x xs → ⊥
empty_told [] e x i = i
empty_told (y ∷ ys) e x i = let z : false ≡ true = e in cc

takes_told : (st : StyleKind) (all : List Request) (r : Request) → takes_part st all (Some r) ≡ true → TakesPart st all r
takes_told st all r e =
    ⊎_elim (λ (a : not r.blockaded ≡ true). inl (not_told _ a))
    (λ (a : is_empty (open_of (requests_at st (request_unit st r) all)) ≡ true).
    inr
    (λ q is.
    either q.blockaded (λ b. b)
    (λ b.
    absurd
    (empty_told (open_of (requests_at st (request_unit st r) all)) a q
    (to_filter (λ (q : Request). not q.blockaded) q (requests_at st (request_unit st r) all)
    (to_those units (request_unit st) (λ (q : Request). q.part) (request_unit st r) q all is.among is.named is.unit) (ap not b))))))
    (or_either (not r.blockaded) (is_empty (open_of (requests_at st (request_unit st r) all))) e)

takes_made : (st : StyleKind) (all : List Request) (r : Request) → TakesPart st all r → takes_part st all (Some r) ≡ true
takes_made st all r t =
    ⊎_elim (λ (a : r.blockaded ≡ false). or_left (not r.blockaded) (is_empty (open_of (requests_at st (request_unit st r) all))) (ap not a))
    (λ (a : (q : Request) → IsRequestOf st all (request_unit st r) q → q.blockaded ≡ true).
    or_right (not r.blockaded) (is_empty (open_of (requests_at st (request_unit st r) all)))
    (ap is_empty
    (none_in (open_of (requests_at st (request_unit st r) all))
    (λ q i.
    let f = in_filter (λ (q : Request). not q.blockaded) q (requests_at st (request_unit st r) all) i in
    let m = in_those units (request_unit st) (λ (q : Request). q.part) (request_unit st r) q all f.0 in
    let z : true ≡ false = sym (a q (record { among = m.0; named = m.1; unit = m.2 })) ∙ not_told _ f.1 in
    cc))))
    t

-- ---- marked wants
module _ (p : NodeConfig) (f : Facts) (l : Lane) where
  marked_told : (u : UnitOf) → In u (marked_units p f l) → IsMarked p f l u
  marked_told u i =
      let r = in_each (λ (e : UnitOf × Want). e.0) u (filter (is_marked p f l) (wants_in f l.session).rows) i in
      let t = in_filter (is_marked p f l) r.0 (wants_in f l.session).rows r.1 in
      let b = and_both r.0.1.confirm (takes_part l.style (requests p f l) (want_request f l r.0)) t.1 in
      by u r.0.1 (λ i. (sym r.2 i, r.0.1)) t.0 b.0 (subst (λ (z : UnitOf). takes_part l.style (requests p f l) (want_request f l (z, r.0.1)) ≡ true) (sym r.2) b.1) (want_request f l (u, r.0.1)) refl
    where
      by : (u : UnitOf) (want : Want) → {e : UnitOf × Want} → e ≡ (u, want) → In e (wants_in f l.session).rows → want.confirm ≡ true
          → takes_part l.style (requests p f l) (want_request f l (u, want)) ≡ true
          → (w : Option Request) → want_request f l (u, want) ≡ w → IsMarked p f l u
      by u want is i m t None g = let z : false ≡ true = ap (takes_part l.style (requests p f l)) (sym g) ∙ t in absurd (cc)
      by u want is i m t (Some r) g =
          record {
            want = want;
            there = sym (get-under sessions units f.wants l.session u) ∙ in_found units (wants_in f l.session) u want (subst (λ (z : UnitOf × Want). In z (wants_in f l.session).rows) is i);
            marked = m;
            request = r;
            asks = g;
            takes = takes_told l.style (requests p f l) r (ap (takes_part l.style (requests p f l)) (sym g) ∙ t);
          }

  marked_made : (u : UnitOf) → IsMarked p f l u → In u (marked_units p f l)
  marked_made u q =
      to_each (λ (e : UnitOf × Want). e.0) (u, q.want) (filter (is_marked p f l) (wants_in f l.session).rows)
      (to_filter (is_marked p f l) (u, q.want) (wants_in f l.session).rows (found_in units (wants_in f l.session) u q.want (get-under sessions units f.wants l.session u ∙ q.there))
      (and_made _ _ q.marked (ap (takes_part l.style (requests p f l)) q.asks ∙ takes_made l.style (requests p f l) q.request q.takes)))

  asks_told : (a : Addr) (us : List UnitOf) → own_wish p l us ≡ Some a → (a ≡ own p l.hop.0) × ((u : UnitOf) × In u us)
  asks_told a [] e = absurd (cc)
  asks_told a (u ∷ us) e = (sym (some_same _ _ e), (u, inl refl))

  asks_made : (a : Addr) (u : UnitOf) (us : List UnitOf) → a ≡ own p l.hop.0 → In u us → own_wish p l us ≡ Some a
  asks_made a u [] e i = absurd i
  asks_made a u (v ∷ vs) e i = ap Some (sym e)

-- ---- used marks
module _ (old p : NodeConfig) (before after : Facts) where
  abbrev keys_of : Lane → List WantKey
  keys_of l = each (λ u. (l.session, u)) (marked_units p after l)

  abbrev news : List Lane
  news = filter (is_sent_new old p before after) (keys (lanes after))

  used_told : (k : WantKey) → has (used_marks old p before after None) k ≡ true → IsUsed old p before after k
  used_told k e =
      let r = in_flat_map keys_of k news (set_of_in want_keys (flat_map keys_of news) k e) in
      let t = in_filter (is_sent_new old p before after) r.0 (keys (lanes after)) r.1 in
      let u = in_each (λ (u : UnitOf). (r.0.session, u)) k (marked_units p after r.0) r.2 in
      record {
        lane = r.0;
        there = in_keys lane_keys (lanes after) r.0 t.0;
        session = sym (ap (λ (z : WantKey). z.0) u.2);
        new = new_told old p before after r.0 t.1;
        marked = subst (λ (z : UnitOf). IsMarked p after r.0 z) (sym (ap (λ (z : WantKey). z.1) u.2)) (marked_told p after r.0 u.0 u.1);
      }

  used_made : (k : WantKey) → IsUsed old p before after k → has (used_marks old p before after None) k ≡ true
  used_made k q =
      in_set_of want_keys (flat_map keys_of news) k
      (to_flat_map keys_of q.lane k news (to_filter (is_sent_new old p before after) q.lane (keys (lanes after)) (to_keys lane_keys (lanes after) q.lane q.there)
      (new_made old p before after q.lane q.new))
      (subst (λ (z : WantKey). In z (keys_of q.lane)) (λ i. (q.session i, k.1)) (to_each (λ (u : UnitOf). (q.lane.session, u)) k.1 (marked_units p after q.lane)
      (marked_made p after q.lane k.1 q.marked))))

pub marks_are_used : MarksAreUsed
marks_are_used =
    record {
      takes = λ st all r. (takes_told st all r, takes_made st all r);
      marked = λ p f l u. (marked_told p f l u, marked_made p f l u);
      asks = λ p f l a. (
        λ e. let r = asks_told p f l a (marked_units p f l) e in (r.0, (r.1.0, marked_told p f l r.1.0 r.1.1)),
        λ r. asks_made p f l a r.1.0 (marked_units p f l) r.0 (marked_made p f l r.1.0 r.1.1),
      );
      used = λ old p before after k. (used_told old p before after k, used_made old p before after k);
      waits = λ old p before after a. refl;
      left = λ used wants k w g. get-changed want_keys (unmarked used) wants k ∙ ap (λ v. then_do v (unmarked used k)) g;
    }
