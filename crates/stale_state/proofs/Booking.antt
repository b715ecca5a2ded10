-- A reservation stands in a table of one style: what becomes of all of them.
use Rattle.std.specs.Prelude.{◌≡◌, ℕ, ◌≤◌, [], List, refl}
use Rattle.std.proofs.Common.{sym, ap, subst, ◌∙◌}
use Rattle.admission_book.specs.Book.{Entries}
use Rattle.rsvp_base.specs.Table.{changed, put_in, size}
use Rattle.rsvp_base.specs.declared.iface.Iface.{Iface}
use Rattle.rsvp_base.specs.declared.style.StyleKind.{StyleKind}
use Rattle.rsvp_base.specs.declared.style.StyleKind.TheVariants.{Wild, Fixed, Shared}
use Rattle.rsvp_base.proofs.Changed.{changed_put}
use Rattle.style_rules.specs.Limits.{IsWithinLimits}
use Rattle.style_rules.specs.Lines.{line_keys}
use Rattle.style_rules.proofs.Room.{within_tested}
use Rattle.resv_state.specs.Resvs.{ResvFacts, ResvMap, resv_key}
use Rattle.resv_state.specs.declared.fact.ResvFact.{ResvFact}
use Rattle.resv_admission.specs.RouterState.State.{resv_at}
use Rattle.router_rules.specs.Books.{lines_of}
use Rattle.router_rules.specs.Bounds.{AreWithinLimits}
use Rattle.router_rules.specs.Facts.{Resvs, ResvTables, resvs_of, table_of, with_table}
use Rattle.router_rules.proofs.Bounding.{no_facts_are_within_bounds}
use Rattle.stale_state.proofs.Admission.{resv_taken}
use Rattle.resv_admission.specs.Kept.{IsBookOf}
use Rattle.resv_admission.specs.Placing.{IsBookAmong, chosen, placed_in, stands}
use Rattle.resv_admission.specs.declared.placing.Placed.{Placed}
use Rattle.resv_admission.specs.declared.placing.Placed.TheVariants as placed
use Rattle.resv_admission.proofs.Stands.{as_stale, fits_is, size_is, stale_is}
use Rattle.resv_admission.proofs.Room.{within_few}
use Rattle.stale_state.specs.Tables.{AreAdmitted, only_resvs, place_with, tables_of}

-- a table of a style within its limits has at most 1,024
few_in : (st : StyleKind) (m : ResvFacts) → IsWithinLimits st (lines_of st (changed (resv_at 0) m)) → size (changed (resv_at 0) m) ≤ 1024
few_in st m within =
    subst (λ (n : ℕ). n ≤ 1024) (sym (size_is 0 m))
    (within_few st m (sym (fits_is st 0 m) ∙ within_tested st (lines_of st (changed (resv_at 0) m)) within))

abbrev AllWithin : ResvTables → Type 0
AllWithin ts = (s : StyleKind) → IsWithinLimits s (lines_of s (table_of s ts))

-- the book is that of these facts, whichever style is looked at
pub among : (wild fixed shared : ResvFacts) (es : Entries) → IsBookOf (only_resvs (tables_of wild fixed shared)) es → AllWithin (tables_of wild fixed shared)
    → IsBookAmong Wild wild es × IsBookAmong Fixed fixed es × IsBookAmong Shared shared es
among wild fixed shared es booked within = (
  record { clock = 0; facts = only_resvs (tables_of wild fixed shared); resvs = refl; book = booked; others = λ s other. few s },
  record { clock = 0; facts = only_resvs (tables_of wild fixed shared); resvs = refl; book = booked; others = λ s other. few s },
  record { clock = 0; facts = only_resvs (tables_of wild fixed shared); resvs = refl; book = booked; others = λ s other. few s },
)
  where
    few : (s : StyleKind) → size (resvs_of s (only_resvs (tables_of wild fixed shared))) ≤ 1024
    few Wild = few_in Wild wild (within Wild)
    few Fixed = few_in Fixed fixed (within Fixed)
    few Shared = few_in Shared shared (within Shared)

-- ---- one reservation stands, or does not
pub dead_same : (old new : ResvMap) (fs : ResvFacts) → new ≡ record old { facts = fs } → new.dead.rows ≡ old.dead.rows
dead_same old new fs is = ap (λ (m : ResvMap). m.dead.rows) is

-- without local senders, wants, paths and blockades
limits_of : (ts : ResvTables) → AllWithin ts → AreWithinLimits (only_resvs ts)
limits_of ts within = let none = (no_facts_are_within_bounds (place_with []) 0).limits in record { senders = none.senders; wants = none.wants; paths = none.paths; resvs = within; walls = none.walls }

pub still : (st : StyleKind) (ts new : ResvTables) (fact : ResvFact) (left : ℕ) (ifaces : List Iface) (r : Placed)
    → r ≡ placed_in (place_with ifaces) st 0 fact left (only_resvs ts)
    → new ≡ chosen r (with_table st (put_in (table_of st ts) (resv_key st fact) (stands 0 fact left)) ts) ts → AllWithin ts → AreAdmitted ifaces (only_resvs ts)
    → AllWithin new × AreAdmitted ifaces (only_resvs new)
still st ts new fact left ifaces placed.Taken cause is within admitted =
    let open_to = sym (stale_is (place_with ifaces) st 0 fact left (only_resvs ts)) ∙ sym (ap as_stale cause) in
    let t = resv_taken (place_with ifaces) st (resv_key st fact) (stands 0 fact left) (only_resvs ts) open_to (limits_of ts within) admitted in
    subst (λ (z : ResvTables). AllWithin z × AreAdmitted ifaces (only_resvs z)) (sym is) (t.0.resvs, t.1)
still st ts new fact left ifaces placed.LeftOut cause is within admitted = subst (λ (z : ResvTables). AllWithin z × AreAdmitted ifaces (only_resvs z)) (sym is) (within, admitted)
still st ts new fact left ifaces (placed.Refused why) cause is within admitted = subst (λ (z : ResvTables). AllWithin z × AreAdmitted ifaces (only_resvs z)) (sym is) (within, admitted)

module _ (wild fixed shared : ResvFacts) (fact : ResvFact) (left : ℕ) where
  abbrev ts : ResvTables
  ts = tables_of wild fixed shared

  abbrev stood : StyleKind → ResvTables
  stood st = with_table st (put_in (table_of st ts) (resv_key st fact) (stands 0 fact left)) ts

  wild_stood : tables_of (put_in wild (resv_key Wild fact) (fact, left)) fixed shared ≡ stood Wild
  wild_stood = ap (λ (w : Resvs). record ts { wild = w }) (changed_put line_keys (resv_at 0) wild (resv_key Wild fact) (fact, left) (stands 0 fact left) refl)

  fixed_stood : tables_of wild (put_in fixed (resv_key Fixed fact) (fact, left)) shared ≡ stood Fixed
  fixed_stood = ap (λ (w : Resvs). record ts { fixed = w }) (changed_put line_keys (resv_at 0) fixed (resv_key Fixed fact) (fact, left) (stands 0 fact left) refl)

  shared_stood : tables_of wild fixed (put_in shared (resv_key Shared fact) (fact, left)) ≡ stood Shared
  shared_stood = ap (λ (w : Resvs). record ts { shared = w }) (changed_put line_keys (resv_at 0) shared (resv_key Shared fact) (fact, left) (stands 0 fact left) refl)

  pub wild_placed : (r : Placed) → tables_of (chosen r (put_in wild (resv_key Wild fact) (fact, left)) wild) fixed shared ≡ chosen r (stood Wild) ts
  wild_placed placed.Taken = wild_stood
  wild_placed placed.LeftOut = refl
  wild_placed (placed.Refused why) = refl

  pub fixed_placed : (r : Placed) → tables_of wild (chosen r (put_in fixed (resv_key Fixed fact) (fact, left)) fixed) shared ≡ chosen r (stood Fixed) ts
  fixed_placed placed.Taken = fixed_stood
  fixed_placed placed.LeftOut = refl
  fixed_placed (placed.Refused why) = refl

  pub shared_placed : (r : Placed) → tables_of wild fixed (chosen r (put_in shared (resv_key Shared fact) (fact, left)) shared) ≡ chosen r (stood Shared) ts
  shared_placed placed.Taken = shared_stood
  shared_placed placed.LeftOut = refl
  shared_placed (placed.Refused why) = refl
