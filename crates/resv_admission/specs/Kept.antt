-- The book that a router keeps beside its reservations is that of its facts (RFC 2209, 1: a TCSB for each entry).
use Rattle.std.specs.Prelude.{◌≡◌, ℕ, Option}
use Rattle.std.specs.Option.{option_map}
use Rattle.admission_book.specs.Book.{Entries}
use Rattle.resv_state.specs.Resvs.{ResvFacts}
use Rattle.rsvp_base.specs.Table.{changed, get}
use Rattle.rsvp_base.specs.TokenBucket.{TokenBucket}
use Rattle.rsvp_base.specs.declared.entry_key.EntryKey.{EntryKey}
use Rattle.rsvp_base.specs.declared.part.Part.{Part}
use Rattle.rsvp_base.specs.declared.style.StyleKind.{StyleKind}
use Rattle.router_rules.specs.Books.{book}
use Rattle.router_rules.specs.Facts.{Facts, resvs_of, with_resvs}
use Rattle.router_state.specs.State.{resv_at}

abbrev pub flow_in : Option Part → Option TokenBucket
flow_in w = option_map (λ (part : Part). part.flow) w

-- on each interface each entry has the flow of the entry that is computed
pub record IsBookOf (f : Facts) (es : Entries) : Type 0 where
  pub at : (i : ℕ) (k : EntryKey) → get es (i, k) ≡ flow_in (get (book f i) k)

-- it is the book of some facts whose reservations of the style are these
pub record IsBookWith (st : StyleKind) (m : ResvFacts) (es : Entries) : Type 0 where
  pub clock : ℕ
  pub facts : Facts
  pub resvs : resvs_of st facts ≡ changed (resv_at clock) m
  pub book : IsBookOf facts es

-- the facts with these reservations of a style
abbrev pub facts_with : StyleKind → ℕ → ResvFacts → Facts → Facts
facts_with st c m f = with_resvs st (changed (resv_at c) m) f

-- of all facts whose reservations of the style are the old ones, a book of them is now that of the facts with the new ones
abbrev pub MovesWith : StyleKind → ResvFacts → ResvFacts → Entries → Entries → Type 0
MovesWith st old new before after = (c : ℕ) (f : Facts) → resvs_of st f ≡ changed (resv_at c) old → IsBookOf f before → IsBookOf (facts_with st c new f) after
