-- Walks along the reservations of a session.
use Rattle.std.specs.Prelude.{◌≤◌, ℕ, Bool, true, false, cond, List, [], ◌∷◌, map as each, length}
use Rattle.std.specs.Ordering.{eq_by_cmp}
use Rattle.rsvp_base.specs.Keys.{Keys, pairs}
use Rattle.rsvp_base.specs.Orders.{Names, sessions, units}
use Rattle.rsvp_base.specs.Sets.{Set, set_of, with_key, union}
use Rattle.rsvp_base.specs.Under.{rows_under}
use Rattle.rsvp_base.specs.declared.session.Session.{Session}
use Rattle.rsvp_base.specs.declared.style.Unit.{Unit as UnitOf}
use Rattle.style_rules.specs.Lines.{NextHop, next_hops}
use Rattle.soft_table.specs.Facts.{facts_by}
use Rattle.resv_state.specs.declared.fact.Held.{Held}
use Rattle.resv_state.specs.Resvs.{held_key}

-- the rest of a key: next hop and unit
abbrev pub Rest : Type 0
Rest = NextHop × UnitOf

abbrev pub rests : Keys Rest
rests = pairs next_hops units

abbrev pub held_under : Session → List (Held × ℕ) → List (Rest × (Held × ℕ))
held_under s fs = rows_under sessions rests s (facts_by held_key fs)

abbrev pub hops_in : List (Rest × (Held × ℕ)) → List NextHop
hops_in es = each (λ e. e.0.0) es

-- these names, with those of all reservations but the one of this rest
abbrev pub with_names : Rest → Names → List (Rest × (Held × ℕ)) → Names
with_names r names [] = names
with_names r names (e ∷ es) = with_names r (cond (eq_by_cmp rests.cmp r e.0) names (union names e.1.0.fact.part.senders)) es

-- the next hops, with this one
abbrev pub with_hop : NextHop → List (Rest × (Held × ℕ)) → Set next_hops
with_hop hop es = with_key (set_of (hops_in es)) hop

abbrev pub is_full : List (Rest × (Held × ℕ)) → Bool
is_full [] = false
is_full (e ∷ es) = true

-- at most 1,024, so that a walk ends
abbrev pub AreFew : List (Rest × (Held × ℕ)) → Type 0
AreFew es = length es ≤ 1024
