-- A node without facts has an empty book.
use Rattle.std.specs.Prelude.{◌≡◌, ℕ, Option, None, refl}
use Rattle.std.specs.Option.{option_map}
use Rattle.std.proofs.Common.{ap, sym, ◌∙◌}
use Rattle.admission_book.specs.Book.{Bookings}
use Rattle.blockade_state.specs.Blockades.{WallMap}
use Rattle.local_state.specs.Rows.{Announced}
use Rattle.path_state.specs.Paths.{PathMap}
use Rattle.resv_state.specs.Resvs.{ResvMap}
use Rattle.rsvp_base.specs.Orders.{sessions}
use Rattle.rsvp_base.specs.Table.{Table, empty, get}
use Rattle.router_rules.specs.Facts.{Wants}
use Rattle.rsvp_base.specs.TokenBucket.{TokenBucket}
use Rattle.rsvp_base.specs.declared.entry_key.EntryKey.{EntryKey}
use Rattle.rsvp_base.specs.declared.part.Part.{Part}
use Rattle.router_rules.specs.Books.{book as books}
use Rattle.router_rules.specs.NodeConfig.{NodeConfig}
use Rattle.router_state.specs.State.{State, facts_of, no_state}

none_booked : (p : NodeConfig) (c i : ℕ) (k : EntryKey) → ◌≡◌ {A = Option TokenBucket} None (option_map (λ (part : Part). part.flow) (get (books (facts_of c (no_state p)) i) k))
none_booked p c i k = refl

pub booked_none : (p : NodeConfig) (n : State) (b : Bookings) → n ≡ no_state p → b ≡ record { ifaces = p.ifaces; entries = empty } → (c i : ℕ) (k : EntryKey)
    → get b.entries (i, k) ≡ option_map (λ (part : Part). part.flow) (get (books (facts_of c n) i) k)
booked_none p n b made is c i k =
    let none : get b.entries (i, k) ≡ None = ap (λ (z : Bookings). get z.entries (i, k)) is in
    none ∙ none_booked p c i k ∙ sym (ap (λ (z : State). option_map (λ (part : Part). part.flow) (get (books (facts_of c z) i) k)) made)

-- tables of which each is empty
module _ (p : NodeConfig) (senders : Announced) (wants : Wants) (due : Table sessions ℕ) (wild fixed shared : ResvMap) (paths : PathMap) (walls : WallMap) (s : senders ≡ record { tspecs = empty; advertised = empty })
    (w : wants ≡ empty) (d : due ≡ empty)
    (a : wild ≡ record { facts = empty; dead = empty }) (b : fixed ≡ record { facts = empty; dead = empty }) (e : shared ≡ record { facts = empty; dead = empty })
    (q : paths ≡ record { facts = empty; dead = empty }) (l : walls ≡ empty) where
  abbrev of_tables : State
  of_tables = record {
    place = p;
    senders = senders.tspecs;
    advertised = senders.advertised;
    wants = wants;
    paths = paths.facts;
    wild = wild.facts;
    fixed = fixed.facts;
    shared = shared.facts;
    walls = walls;
    due = due;
    said = empty;
  }

  pub is_opened : of_tables ≡ no_state p
  is_opened = λ i.
      record {
        place = p;
        senders = (s i).tspecs;
        advertised = (s i).advertised;
        wants = w i;
        paths = (q i).facts;
        wild = (a i).facts;
        fixed = (b i).facts;
        shared = (e i).facts;
        walls = l i;
        due = d i;
        said = empty;
      }

  pub is_booked : (book : Bookings) → book ≡ record { ifaces = p.ifaces; entries = empty } → (c i : ℕ) (k : EntryKey)
      → get book.entries (i, k) ≡ option_map (λ (part : Part). part.flow) (get (books (facts_of c of_tables) i) k)
  is_booked book is = booked_none p of_tables book is_opened is
