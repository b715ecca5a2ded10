-- What is left of a part toward a previous hop.
use Rattle.std.specs.Prelude.{◌≡◌, ◌==◌, ◌&&◌, ◌||◌, ℕ, Bool, true, false, cond, List, [], ◌∷◌, map as each, length, Option, Some, None, refl}
use Rattle.std.specs.List.{filter, list_any}
use Rattle.std.proofs.Common.{sym, ap, ◌∙◌, arith}
use Rattle.std.proofs.lemmas.Bool.{ne_eqb}
use Rattle.rsvp_base.specs.Orders.{Names}
use Rattle.rsvp_base.specs.Sets.{cut, is_none}
use Rattle.rsvp_base.specs.Styles.{unit_of, unit_of_first}
use Rattle.rsvp_base.specs.Table.{get, has, keys, kept}
use Rattle.rsvp_base.specs.TokenBucket.{TokenBucket}
use Rattle.rsvp_base.specs.declared.part.Part.{Part}
use Rattle.rsvp_base.specs.declared.session.Sender.{Sender}
use Rattle.rsvp_base.specs.declared.style.StyleKind.{StyleKind}
use Rattle.rsvp_base.specs.declared.style.Unit.{Unit as UnitOf}
use Rattle.rsvp_base.proofs.Lists.{filter_keys}
use Rattle.style_rules.specs.Parts.{part_of}
use Rattle.style_rules.specs.Ways.{WayTable}
use Rattle.resv_state.specs.Merging.{is_by, is_way_walled, names_by, request_of}
use Rattle.resv_state.proofs.Merged.{has-by}
use Rattle.router_rules.specs.Asking.{first_of}
use Rattle.resv_sends.specs.Taking.{asks_for}

-- ---- lists
pub any_of_filter : {A : Type 0} (p q : A → Bool) (xs : List A) → list_any p (filter q xs) ≡ list_any (λ x. q x && p x) xs
any_of_filter p q [] = refl
any_of_filter p q (x ∷ xs) = by (q x) (any_of_filter p q xs)
  where
    by : (b : Bool) → list_any p (filter q xs) ≡ list_any (λ y. q y && p y) xs → list_any p (cond b (x ∷ filter q xs) (filter q xs)) ≡ ((b && p x) || list_any (λ y. q y && p y) xs)
    by true ih = ap (λ b. p x || b) ih
    by false ih = ih

-- the first that passes a test, from some place on
pub first_here : (test : Sender → Bool) (x : Sender) (xs : List Sender) → test x ≡ true → Some x ≡ first_of (filter test (x ∷ xs))
first_here test x xs t = ap (λ b. first_of (cond b (x ∷ filter test xs) (filter test xs))) (sym t)

pub not_here : (test : Sender → Bool) (x : Sender) (xs : List Sender) → test x ≡ false → filter test (x ∷ xs) ≡ filter test xs
not_here test x xs t = ap (λ b. cond b (x ∷ filter test xs) (filter test xs)) t

-- ---- the names that are left
module _ (up : WayTable) (iface : Option ℕ) where
  abbrev pub stays : Sender → Bool
  stays x = is_by iface (get up x)

  abbrev pub left : Part → Names
  left part = cut part.senders (names_by iface up)

  same_test : (x : Sender) → stays x ≡ has (names_by iface up) x
  same_test x = sym (has-by iface up x)

  pub keys_left : (part : Part) → filter stays (keys part.senders) ≡ keys (left part)
  keys_left part = filter_keys stays part.senders ∙ (λ i. keys (kept (λ x. same_test x i) part.senders))

  pub held_left : (part : Part) → list_any (λ x. stays x && is_way_walled part.flow (get up x)) (keys part.senders) ≡ list_any (λ x. is_way_walled part.flow (get up x)) (keys (left part))
  held_left part = sym (any_of_filter (λ x. is_way_walled part.flow (get up x)) stays (keys part.senders)) ∙ ap (list_any (λ x. is_way_walled part.flow (get up x))) (keys_left part)

-- ---- what it asks for
module _ (st : StyleKind) (up : WayTable) (flow : TokenBucket) (s : Names) where
  abbrev made : Part
  made = record { senders = s; flow = flow }

  pub asks_some : (x : Sender) → Some x ≡ first_of (keys s) → (u : UnitOf) → u ≡ unit_of st x → (b : Bool) → b ≡ list_any (λ y. is_way_walled flow (get up y)) (keys s)
      → Some (record { unit = u; blockaded = b }) ≡ asks_for st (request_of up (part_of s flow))
  asks_some x first u unit b held = by s.rows refl
    where
      by : (es : List (Sender × Unit {0})) → s.rows ≡ es → Some (record { unit = u; blockaded = b }) ≡ asks_for st (request_of up (part_of s flow))
      by [] e = let none : Some x ≡ None = first ∙ ap (λ (rs : List (Sender × Unit {0})). first_of (each (λ r. r.0) rs)) e in cc
      by (r ∷ rs) e =
          let some : is_none s ≡ false = ap (λ (ws : List (Sender × Unit {0})). length ws == 0) e ∙ ne_eqb (length (r ∷ rs)) 0 (omega arith) in
          let is : Some x ≡ Some r.0 = first ∙ ap (λ (ws : List (Sender × Unit {0})). first_of (each (λ w. w.0) ws)) e in
          let same : x ≡ r.0 = cc in
          let all : u ≡ unit_of_first st (keys s) = unit ∙ ap (unit_of st) same ∙ sym (ap (λ (ws : List (Sender × Unit {0})). unit_of_first st (each (λ w. w.0) ws)) e) in
          (λ i. Some (record { unit = all i; blockaded = held i })) ∙ sym (ap (λ b. asks_for st (request_of up (cond b None (Some made)))) some)

  pub asks_none : None ≡ first_of (keys s) → None ≡ asks_for st (request_of up (part_of s flow))
  asks_none first = by s.rows refl
    where
      by : (es : List (Sender × Unit {0})) → s.rows ≡ es → None ≡ asks_for st (request_of up (part_of s flow))
      by [] e = sym (ap (λ (ws : List (Sender × Unit {0})). asks_for st (request_of up (cond (length ws == 0) None (Some made)))) e)
      by (r ∷ rs) e = let is : None ≡ Some r.0 = first ∙ ap (λ (ws : List (Sender × Unit {0})). first_of (each (λ w. w.0) ws)) e in cc
