-- Worked rows of the definitions, by computing.
use Rattle.std.specs.Prelude.{◌≡◌, ℕ, Bool, true, false, List, [], ◌∷◌, refl}
use Rattle.rsvp_base.specs.declared.flow.Peak.TheVariants.{Infinite}
use Rattle.rsvp_base.specs.declared.part.Part.{Part}
use Rattle.rsvp_base.specs.declared.session.Sender.{Sender}
use Rattle.rsvp_base.specs.declared.session.Session.{Session}
use Rattle.rsvp_base.specs.declared.style.StyleKind.TheVariants.{Wild, Fixed, Shared}
use Rattle.rsvp_base.specs.declared.style.Unit.TheVariants.{One, Of}
use Rattle.rsvp_base.specs.Sets.{set_of}
use Rattle.rsvp_base.specs.TokenBucket.{TokenBucket}
use Rattle.style_rules.specs.Merge.{merge}
use Rattle.style_rules.specs.Toward.{Request, toward}
use Rattle.style_rules.specs.Tally.{tally_of, parts_of_tally}
use Rattle.style_rules.specs.Lines.{Line, book_of_end, held}
use Rattle.style_rules.specs.Limits.{within_limits}

abbrev at : ℕ → Sender
at port = record { addr = record { 0 = 167772417 }; port = port }

abbrev bucket : ℕ → ℕ → ℕ → ℕ → TokenBucket
bucket r b low most = record { r = r; b = b; p = Infinite; low = low; most = most }

abbrev part : List Sender → TokenBucket → Part
part names flow = record { senders = set_of names; flow = flow }

-- two fixed filters stay apart, a shared one joins, and what names nobody falls away
two : List Part
two = part (at 5006 ∷ []) (bucket 500 500 64 1500) ∷ part (at 5004 ∷ []) (bucket 300 300 64 1500) ∷ part [] (bucket 900 900 64 1500) ∷ []

fixed_row : (merge Fixed two).rows ≡ (Of (at 5004), part (at 5004 ∷ []) (bucket 300 300 64 1500)) ∷ (Of (at 5006), part (at 5006 ∷ []) (bucket 500 500 64 1500)) ∷ []
unfolding two
fixed_row = refl

shared_row : (merge Shared two).rows ≡ (One, part (at 5004 ∷ at 5006 ∷ []) (bucket 500 500 64 1500)) ∷ []
unfolding two
shared_row = refl

-- blockaded requests merge to their meet; an open one stands alone
abbrev asked : Bool → Bool → List Request
asked b c = record { part = part (at 0 ∷ []) (bucket 9 20 1 1500); blockaded = b } ∷ record { part = part (at 0 ∷ []) (bucket 10 8 4 1000); blockaded = c } ∷ []

all_blockaded : (toward Wild (asked true true)).rows ≡ (One, part (at 0 ∷ []) (bucket 9 8 4 1000)) ∷ []
all_blockaded = refl

first_open : (toward Wild (asked false true)).rows ≡ (One, part (at 0 ∷ []) (bucket 9 20 1 1500)) ∷ []
first_open = refl

tally_of_both : (parts_of_tally (tally_of Wild (asked true false))).rows ≡ (One, part (at 0 ∷ []) (bucket 10 8 4 1000)) ∷ []
tally_of_both = refl

-- the book of an end has the larger flow of two next hops, and the limits have room for both
abbrev session : Session
session = record { group = record { 0 = 4009820417 }; proto = 17; port = 5004 }

abbrev line : ℕ → ℕ → Part → Line
line end next p = record { style = Wild; session = session; end = end; next = record { 0 = next }; unit = One; part = p }

abbrev lines : List Line
lines = line 1 7 (part (at 0 ∷ []) (bucket 300 600 64 1500)) ∷ line 1 8 (part (at 0 ∷ []) (bucket 500 400 128 1000)) ∷ line 2 9 (part (at 0 ∷ []) (bucket 800 1 1 1)) ∷ []

book_row : (book_of_end 1 lines).rows ≡ (record { session = session; style = Wild; unit = One }, part (at 0 ∷ []) (bucket 500 600 64 1500)) ∷ []
book_row = refl

held_row : held (book_of_end 1 lines) ≡ 500
held_row = refl

room_row : within_limits Wild lines ≡ true
room_row = refl
