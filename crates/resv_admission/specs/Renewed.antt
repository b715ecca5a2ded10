-- Entries that are worked out anew from a table of reservations.
use Rattle.std.specs.Prelude.{◌≡◌, ℕ, ◌≤◌, Bool, ◌==◌, ◌&&◌, cond, List, Option, Some}
use Rattle.std.specs.List.{list_any}
use Rattle.std.specs.Ordering.{eq_by_cmp}
use Rattle.admission_book.specs.Book.{Entries}
use Rattle.resv_state.specs.Merging.{parts_on}
use Rattle.resv_state.specs.Resvs.{ResvFacts}
use Rattle.resv_state.specs.Walks.{rests}
use Rattle.rsvp_base.specs.Orders.{entry_keys, sessions}
use Rattle.rsvp_base.specs.Styles.{unit_of}
use Rattle.rsvp_base.specs.Table.{get}
use Rattle.rsvp_base.specs.TokenBucket.{TokenBucket}
use Rattle.rsvp_base.specs.Under.{under}
use Rattle.rsvp_base.specs.declared.entry_key.EntryKey.{EntryKey}
use Rattle.rsvp_base.specs.declared.session.Sender.{Sender}
use Rattle.rsvp_base.specs.declared.session.Session.{Session}
use Rattle.rsvp_base.specs.declared.style.StyleKind.{StyleKind}
use Rattle.style_rules.specs.Merge.{merge}
use Rattle.resv_admission.specs.Kept.{flow_in}

-- the flow that a table of a style has for an entry of an interface
abbrev pub entry_in : StyleKind → ResvFacts → ℕ → EntryKey → Option TokenBucket
entry_in st m i k = flow_in (get (merge st (parts_on i (under sessions rests m k.session).rows)) k.unit)

-- a flow is of no higher rate and no larger packets than another, and there is none where there is no other
abbrev pub IsNoMore : Option TokenBucket → Option TokenBucket → Type 0
IsNoMore now old = (f : TokenBucket) → now ≡ Some f → (g : TokenBucket) × (old ≡ Some g) × (f.r ≤ g.r) × (f.most ≤ g.most)

-- the entries for which a test holds are these, and the others as they were
pub record AreRenewed (those : ℕ → EntryKey → Bool) (now : ℕ → EntryKey → Option TokenBucket) (old new : Entries) : Type 0 where
  pub at : (i : ℕ) (k : EntryKey) → get new (i, k) ≡ cond (those i k) (now i k) (get old (i, k))

-- ---- which entries
abbrev pub is_place : ℕ → EntryKey → ℕ → EntryKey → Bool
is_place at key i k = at == i && eq_by_cmp entry_keys.cmp key k

abbrev pub is_key : EntryKey → ℕ → EntryKey → Bool
is_key key i k = eq_by_cmp entry_keys.cmp key k

-- the entry of the unit of a name
abbrev pub name_key : StyleKind → Session → Sender → EntryKey
name_key st s x = record { session = s; style = st; unit = unit_of st x }

abbrev pub is_named : StyleKind → Session → ℕ → List Sender → ℕ → EntryKey → Bool
is_named st s at xs i k = at == i && list_any (λ x. eq_by_cmp entry_keys.cmp (name_key st s x) k) xs
