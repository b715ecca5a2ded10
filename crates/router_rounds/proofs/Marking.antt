-- Marks that are used, where several sessions changed.
use Rattle.std.specs.Prelude.{◌≡◌, ℕ, Bool, true, false, cond, nat_lt, not, ◌&&◌, List, [], map as each, None, refl}
use Rattle.std.specs.List.{filter, flat_map}
use Rattle.std.proofs.Common.{sym, ap, subst, ◌∙◌}
use Rattle.rsvp_base.specs.Members.{In}
use Rattle.rsvp_base.specs.Orders.{units}
use Rattle.rsvp_base.specs.Sets.{Set}
use Rattle.rsvp_base.specs.Table.{has, keys, size}
use Rattle.rsvp_base.specs.declared.session.Session.{Session}
use Rattle.rsvp_base.specs.declared.style.Unit.{Unit as UnitOf}
use Rattle.rsvp_base.proofs.Counts.{in_set_of, set_of_in}
use Rattle.rsvp_base.proofs.Filters.{same_test}
use Rattle.rsvp_base.proofs.Fronts.{in_keys, to_keys}
use Rattle.rsvp_base.proofs.Members.{in_each, in_filter, in_flat_map, to_each, to_filter, to_flat_map}
use Rattle.rsvp_base.proofs.SetLaws.{and_both, and_made}
use Rattle.rsvp_base.proofs.Tables.{either}
use Rattle.style_rules.specs.Merge.{PartTable}
use Rattle.laws_bounds.proofs.Tests.{parts_tested}
use Rattle.router_rules.specs.Facts.{Facts, WantKey, want_keys}
use Rattle.router_rules.specs.Known.{Lane, lane_keys, lanes}
use Rattle.router_rules.specs.Requests.{toward}
use Rattle.router_rules.specs.Sends.{is_changed, is_sent_new, marked_units, same_parts, used_marks}
use Rattle.router_state.specs.State.{Said, State, facts_of, said_at}
use Rattle.laws_sends.specs.Before.{lanes_by}
use Rattle.laws_sends.specs.Marks.{is_new_at, used_at}
use Rattle.laws_sends.specs.Saying.{SessionLane, lane_by}
use Rattle.laws_sends.specs.SendsHere.{hops_in}
use Rattle.laws_sends.proofs.Telling.{are_lanes}
use Rattle.laws_sends.specs.Several.{is_among}
use Rattle.router_rounds.specs.Rounds.{AreCleared, AreRounds, used_of, with_hops}
use Rattle.router_rounds.proofs.Clearing.{as_said, was}

-- of a list that is there where a test passes
when_true : {A : Type 0} (b : Bool) (xs : List A) (x : A) → In x (cond b xs []) → (b ≡ true) × In x xs
when_true true xs x i = (refl, i)
when_true false xs x i = absurd i

to_when : {A : Type 0} (b : Bool) (xs : List A) (x : A) → b ≡ true → In x xs → In x (cond b xs [])
to_when b xs x e i = subst (λ z. In x (cond z xs [])) (sym e) i

module _ (ss : List Session) (n m : State) (at : AreRounds ss n m) (c d : ℕ) (said : Said) (cleared : AreCleared m (each (with_hops (facts_of c n)) ss) said) where
  abbrev f : Facts
  f = facts_of c n

  abbrev g : Facts
  g = facts_of d m

  abbrev es : Session → List SessionLane
  es s = lanes_by (keys (hops_in g s))

  abbrev new : Lane → Bool
  new l = is_sent_new n.place m.place f g l

  -- what was said to a lane that is there
  before : (l : Lane) → has (lanes g) l ≡ true → said_at said l ≡ toward n.place f l
  before l on = as_said ss n m at c said cleared d l on ∙ was ss n m at c said cleared c l

  new_is : (s : Session) (e : SessionLane) → In e (es s) → is_new_at m.place g s said e ≡ new (lane_by s e)
  new_is s e i = ap (λ (v : PartTable). nat_lt 0 (size (toward m.place g (lane_by s e))) && not (same_parts v (toward m.place g (lane_by s e)))) (before (lane_by s e) ((are_lanes s g).only e i))

  -- a lane that is told something new is of one of the sessions
  mine : (l : Lane) → new l ≡ true → is_among ss l.session ≡ true
  mine l h =
      either (is_among ss l.session) (λ t. t)
      (λ off.
      let same : toward n.place f l ≡ toward m.place g l = sym (was ss n m at c said cleared c l) ∙ was ss n m at c said cleared d l ∙ at.others d l off in
      let z : true ≡ false = sym (and_both (nat_lt 0 (size (toward m.place g l))) (is_changed n.place m.place f g l) h).1 ∙ ap not (parts_tested (toward n.place f l) (toward m.place g l) same) in
      absurd (cc))

  abbrev every : Set want_keys
  every = used_marks n.place m.place f g None

  abbrev keys_at : Lane → List WantKey
  keys_at l = each (λ u. (l.session, u)) (marked_units m.place g l)

  pub same_used : (key : WantKey) → has every key ≡ (is_among ss key.0 && has (used_of m.place g said key.0) key.1)
  same_used key = same_test (has every key) (is_among ss key.0 && has (used_of m.place g said key.0) key.1) to from
    where
      to : has every key ≡ true → (is_among ss key.0 && has (used_of m.place g said key.0) key.1) ≡ true
      to h =
          let a = in_flat_map keys_at key (filter new (keys (lanes g))) (set_of_in want_keys (flat_map keys_at (filter new (keys (lanes g)))) key h) in
          let b = in_filter new a.0 (keys (lanes g)) a.1 in
          let u = in_each (λ (u : UnitOf). (a.0.session, u)) key (marked_units m.place g a.0) a.2 in
          let of : a.0.session ≡ key.0 = λ i. (sym u.2 i).0 in
          let e = (are_lanes key.0 g).all a.0 (in_keys lane_keys (lanes g) a.0 b.0) of in
          let unit : In key.1 (marked_units m.place g (lane_by key.0 e.0)) = subst (λ z. In z (marked_units m.place g (lane_by key.0 e.0))) (λ i. (sym u.2 i).1)
          (subst (λ z. In u.0 (marked_units m.place g z)) e.2 u.1) in
          let fresh : is_new_at m.place g key.0 said e.0 ≡ true = new_is key.0 e.0 e.1 ∙ ap new (sym e.2) ∙ b.1 in
          let used = to_flat_map (used_at m.place g key.0 said) e.0 key.1 (es key.0) e.1 (to_when (is_new_at m.place g key.0 said e.0) (marked_units m.place g (lane_by key.0 e.0)) key.1 fresh unit) in
          and_made _ _ (ap (is_among ss) (sym of) ∙ mine a.0 b.1) (in_set_of units (flat_map (used_at m.place g key.0 said) (es key.0)) key.1 used)

      from : (is_among ss key.0 && has (used_of m.place g said key.0) key.1) ≡ true → has every key ≡ true
      from h =
          let parts = and_both (is_among ss key.0) (has (used_of m.place g said key.0) key.1) h in
          let a = in_flat_map (used_at m.place g key.0 said) key.1 (es key.0) (set_of_in units (flat_map (used_at m.place g key.0 said) (es key.0)) key.1 parts.1) in
          let b = when_true (is_new_at m.place g key.0 said a.0) (marked_units m.place g (lane_by key.0 a.0)) key.1 a.2 in
          let lane = to_filter new (lane_by key.0 a.0) (keys (lanes g)) (to_keys lane_keys (lanes g) (lane_by key.0 a.0) ((are_lanes key.0 g).only a.0 a.1)) (sym (new_is key.0 a.0 a.1) ∙ b.0) in
          let unit : In key (keys_at (lane_by key.0 a.0)) = to_each (λ (u : UnitOf). (key.0, u)) key.1 (marked_units m.place g (lane_by key.0 a.0)) b.1 in
          in_set_of want_keys (flat_map keys_at (filter new (keys (lanes g)))) key (to_flat_map keys_at (lane_by key.0 a.0) key (filter new (keys (lanes g))) lane unit)
