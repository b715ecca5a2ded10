-- Reservations that died, while they wait to be pulled: they are in the table no more, and the book still has their entries.
use Rattle.std.specs.Prelude.{◌≡◌, ℕ, Some}
use Rattle.admission_book.specs.Book.{Entries}
use Rattle.resv_state.specs.Resvs.{ResvFacts}
use Rattle.resv_state.specs.declared.fact.ResvFact.{ResvFact}
use Rattle.rsvp_base.specs.Table.{Table, changed, get}
use Rattle.rsvp_base.specs.declared.addr.Addr.{Addr}
use Rattle.rsvp_base.specs.declared.entry_key.EntryKey.{EntryKey}
use Rattle.rsvp_base.specs.declared.style.StyleKind.{StyleKind}
use Rattle.style_rules.specs.Lines.{line_keys}
use Rattle.router_rules.specs.Books.{book}
use Rattle.router_rules.specs.Facts.{Facts, resvs_of}
use Rattle.router_state.specs.State.{resv_at}
use Rattle.resv_admission.specs.Kept.{flow_in}
use Rattle.resv_admission.specs.Renewed.{IsNoMore}

-- no dead one of the style waits that was of an entry
abbrev pub NoneWaits : StyleKind → Table line_keys ResvFact → ℕ → EntryKey → Type 0
NoneWaits st dead i k = k.style ≡ st → (a : Addr) (d : ResvFact) → get dead (k.session, ((i, a), k.unit)) ≡ Some d → ⊥

-- the book of the facts, but for the entries of the dead ones of a style that wait: those may still have more
pub record IsBookBut (st : StyleKind) (dead : Table line_keys ResvFact) (f : Facts) (es : Entries) : Type 0 where
  pub at : (i : ℕ) (k : EntryKey) → NoneWaits st dead i k → get es (i, k) ≡ flow_in (get (book f i) k)
  pub less : (i : ℕ) (k : EntryKey) → IsNoMore (flow_in (get (book f i) k)) (get es (i, k))

-- it is so of some facts whose reservations of the style are these
pub record IsBookButWith (st : StyleKind) (m : ResvFacts) (dead : Table line_keys ResvFact) (es : Entries) : Type 0 where
  pub clock : ℕ
  pub facts : Facts
  pub resvs : resvs_of st facts ≡ changed (resv_at clock) m
  pub book : IsBookBut st dead facts es
