-- The book of the facts, as the calls on one table want it.
use Rattle.std.specs.Prelude.{ℕ, ◌≤◌, refl}
use Rattle.std.proofs.Common.{ap, arith}
use Rattle.rsvp_base.specs.Table.{empty, size}
use Rattle.rsvp_base.specs.declared.style.StyleKind.{StyleKind}
use Rattle.rsvp_base.specs.declared.style.StyleKind.TheVariants.{Wild, Fixed, Shared}
use Rattle.resv_state.specs.Resvs.{ResvFacts, resv_lines}
use Rattle.resv_state.proofs.Limits.{lines_counted, one_style}
use Rattle.style_rules.specs.Limits.{IsWithinLimits, line_keys_of}
use Rattle.router_rules.specs.Facts.{resvs_of}
use Rattle.router_state.specs.State.{State, facts_of, table_in}
use Rattle.router_state.specs.Whole.{IsBooked, state_of}
use Rattle.router_state.specs.declared.tables.Tables.{Tables}
use Rattle.resv_admission.specs.Kept.{IsBookOf, IsBookWith}
use Rattle.resv_admission.specs.Placing.{IsBookAmong}
use Rattle.resv_admission.proofs.Stands.{size_is}
use Rattle.router_arrivals.specs.Taken.{AreFew}

pub book_at : (t : Tables) → IsBooked t → (c : ℕ) → IsBookOf (facts_of c (state_of t empty)) t.book.entries
book_at t booked c = record { at = booked c }

pub kept_in : (st : StyleKind) (t : Tables) → IsBooked t → IsBookWith st (table_in st (state_of t empty)) t.book.entries
kept_in Wild t booked = record { clock = 0; facts = facts_of 0 (state_of t empty); resvs = refl; book = book_at t booked 0 }
kept_in Fixed t booked = record { clock = 0; facts = facts_of 0 (state_of t empty); resvs = refl; book = book_at t booked 0 }
kept_in Shared t booked = record { clock = 0; facts = facts_of 0 (state_of t empty); resvs = refl; book = book_at t booked 0 }

-- ---- beside tables of at most 1,024
pub few_in : (st : StyleKind) (m : ResvFacts) → IsWithinLimits st (resv_lines st m) → size m ≤ 1024
few_in st m w = omega (arith, lines_counted st m, w.lines, ap (λ ls. size (line_keys_of ls)) (one_style st m))

few_at : (n : State) → AreFew n → (st : StyleKind) → size (resvs_of st (facts_of 0 n)) ≤ 1024
few_at n few Wild = omega (arith, size_is 0 n.wild, few Wild)
few_at n few Fixed = omega (arith, size_is 0 n.fixed, few Fixed)
few_at n few Shared = omega (arith, size_is 0 n.shared, few Shared)

pub among_in : (st : StyleKind) (t : Tables) → IsBooked t → AreFew (state_of t empty) → IsBookAmong st (table_in st (state_of t empty)) t.book.entries
among_in Wild t booked few = record { clock = 0; facts = facts_of 0 (state_of t empty); resvs = refl; book = book_at t booked 0; others = λ s off. few_at (state_of t empty) few s }
among_in Fixed t booked few = record { clock = 0; facts = facts_of 0 (state_of t empty); resvs = refl; book = book_at t booked 0; others = λ s off. few_at (state_of t empty) few s }
among_in Shared t booked few = record { clock = 0; facts = facts_of 0 (state_of t empty); resvs = refl; book = book_at t booked 0; others = λ s off. few_at (state_of t empty) few s }

pub few_all : (n : State) → size n.wild ≤ 1024 → size n.fixed ≤ 1024 → size n.shared ≤ 1024 → AreFew n
few_all n wild fixed shared Wild = wild
few_all n wild fixed shared Fixed = fixed
few_all n wild fixed shared Shared = shared
