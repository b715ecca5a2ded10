-- The styles of a session, by the tables.
use Rattle.std.specs.Prelude.{◌≡◌, ℕ, ◌||◌, ◌&&◌, not, cond, Bool, true, false, nat_lt, List, [], ◌∷◌, map as each, Some, refl}
use Rattle.std.specs.List.{list_any}
use Rattle.std.proofs.Common.{sym, ap, ◌∙◌}
use Rattle.rsvp_base.specs.Orders.{sessions}
use Rattle.rsvp_base.specs.Table.{changed, empty, size}
use Rattle.rsvp_base.specs.Under.{under}
use Rattle.rsvp_base.specs.declared.session.Session.{Session}
use Rattle.rsvp_base.specs.declared.style.StyleKind.{StyleKind}
use Rattle.rsvp_base.specs.declared.style.StyleKind.TheVariants.{Wild, Fixed, Shared}
use Rattle.resv_state.specs.Resvs.{ResvFacts}
use Rattle.resv_state.specs.Walks.{rests}
use Rattle.rsvp_base.proofs.Changed.{under_changed}
use Rattle.rsvp_base.proofs.Sizes.{size_same}
use Rattle.local_state.specs.Wants.{asked_row}
use Rattle.local_state.specs.declared.wants.LocalWant.{LocalWant}
use Rattle.router_rules.specs.Asking.{has_style, other_style}
use Rattle.router_rules.specs.Facts.{Facts, resvs_in}
use Rattle.router_rules.specs.Requests.{is_style}
use Rattle.router_state.specs.State.{Said, facts_of, resv_at, table_in}
use Rattle.router_state.proofs.Settling.{has_changed}
use Rattle.router_state.specs.Whole.{state_of}
use Rattle.router_state.specs.declared.tables.Tables.{Tables}

pub any_asked : (st : StyleKind) (xs : List LocalWant) → list_any (λ r. is_style r.style st) xs ≡ list_any (λ w. is_style w.style st) (each (λ e. e.1) (each asked_row xs))
any_asked st [] = refl
any_asked st (x ∷ xs) = ap (λ b. is_style x.style st || b) (any_asked st xs)

-- a session has as many reservations at a clock as its table has
under_at : (c : ℕ) (m : ResvFacts) (s : Session) → size (under sessions rests (changed (resv_at c) m) s) ≡ size (under sessions rests m s)
under_at c m s =
    ap (λ t. size t) (under_changed sessions rests (resv_at c) m s) ∙ size_same rests (changed (λ j e. resv_at c (s, j) e) (under sessions rests m s)) (under sessions rests m s)
    (has_changed rests (λ j e. resv_at c (s, j) e) (λ j e. refl) (under sessions rests m s))

pub resvs_seen : (c : ℕ) (t : Tables) (said : Said) (st : StyleKind) (s : Session) → nat_lt 0 (size (under sessions rests (table_in st (state_of t empty)) s))
    ≡ nat_lt 0 (size (resvs_in st (facts_of c (state_of t said)) s))
resvs_seen c t said Wild s = ap (nat_lt 0) (sym (under_at c t.wild.facts s))
resvs_seen c t said Fixed s = ap (nat_lt 0) (sym (under_at c t.fixed.facts s))
resvs_seen c t said Shared s = ap (nat_lt 0) (sym (under_at c t.shared.facts s))

-- ---- the first that stands against a style
module _ (f : Facts) (s : Session) (st : StyleKind) where
  abbrev against : StyleKind → Bool
  against x = not (is_style x st) && has_style f s x

  pub first_against : (x : StyleKind) (xs : List StyleKind) → true ≡ against x → Some x ≡ other_style f s st (x ∷ xs)
  first_against x xs h = ap (λ b. cond b (Some x) (other_style f s st xs)) h

  pub not_against : (x : StyleKind) (xs : List StyleKind) → false ≡ against x → other_style f s st xs ≡ other_style f s st (x ∷ xs)
  not_against x xs h = ap (λ b. cond b (Some x) (other_style f s st xs)) h
