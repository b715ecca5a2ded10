-- What becomes of a reservation that is to stand.
use Rattle.std.specs.Prelude.{◌≡◌, ℕ, ◌+◌, ◌≤◌, Bool, true, false, Option, Some, None, Result, Ok, Err}
use Rattle.admission_book.specs.Book.{Entries}
use Rattle.admission_book.specs.declared.refused.Refused.{Refused}
use Rattle.resv_state.specs.Resvs.{ResvFacts, resv_key}
use Rattle.resv_state.specs.declared.fact.ResvFact.{ResvFact}
use Rattle.rsvp_base.specs.Styles.{part_unit}
use Rattle.rsvp_base.specs.Table.{changed, put_in, size}
use Rattle.rsvp_base.specs.declared.entry_key.EntryKey.{EntryKey}
use Rattle.rsvp_base.specs.declared.style.StyleKind.{StyleKind}
use Rattle.router_rules.specs.Books.{book, fits, refused}
use Rattle.router_rules.specs.Facts.{Facts, Resvs, ResvState, resvs_of, with_resvs}
use Rattle.router_rules.specs.NodeConfig.{NodeConfig}
use Rattle.router_state.specs.State.{resv_at}
use Rattle.resv_admission.specs.Kept.{IsBookOf}
use Rattle.resv_admission.specs.declared.placing.Placed.{Placed}
use Rattle.resv_admission.specs.declared.placing.Placed.TheVariants as placed

-- it is the book of some facts whose reservations of the style are these, and of which each other style has at most 1,024
pub record IsBookAmong (st : StyleKind) (m : ResvFacts) (es : Entries) : Type 0 where
  pub clock : ℕ
  pub facts : Facts
  pub resvs : resvs_of st facts ≡ changed (resv_at clock) m
  pub book : IsBookOf facts es
  pub others : (s : StyleKind) → (s ≡ st → ⊥) → size (resvs_of s facts) ≤ 1024

abbrev pub entry_key_of : StyleKind → ResvFact → EntryKey
entry_key_of st f = record { session = f.session; style = st; unit = part_unit st f.part }

-- a reservation with so much left, at a clock
abbrev pub stands : ℕ → ResvFact → ℕ → ResvState
stands c f left = record { part = f.part; confirm = f.confirm; dies = c + left }

-- the reservations of the style with it in its place
abbrev pub stood : StyleKind → ℕ → ResvFact → ℕ → Facts → Resvs
stood st c fact left f = put_in (resvs_of st f) (resv_key st fact) (stands c fact left)

-- whether the table has room, and why the book refuses it
abbrev pub outcome : Bool → Option Refused → Placed
outcome false why = placed.LeftOut
outcome true (Some why) = placed.Refused why
outcome true None = placed.Taken

abbrev pub placed_in : NodeConfig → StyleKind → ℕ → ResvFact → ℕ → Facts → Placed
placed_in p st c fact left f = outcome (fits st (stood st c fact left f)) (refused p fact.iface (entry_key_of st fact) (book (with_resvs st (stood st c fact left f) f) fact.iface))

-- what there is after a reservation was taken, and what there was otherwise
abbrev pub chosen : {X : Type 0} → Placed → X → X → X
chosen placed.LeftOut new old = old
chosen (placed.Refused why) new old = old
chosen placed.Taken new old = new

-- why a call was refused
abbrev pub err_of : {E : Type 0} → Result (Unit {0}) E → Option E
err_of (Ok u) = None
err_of (Err e) = Some e
