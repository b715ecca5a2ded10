-- The texts of what messages say. Each begins with the space before its first word.
use Rattle.std.specs.Prelude.{ℕ, Bool, true, false, List, [], ◌∷◌, ◌++◌, Option, Some, None, codes}
use Rattle.std.specs.Fmt.{decimal}
use Rattle.std.specs.List.{flat_map}
use Rattle.rsvp_base.specs.Orders.{Names}
use Rattle.rsvp_base.specs.Table.{keys}
use Rattle.rsvp_base.specs.TokenBucket.{TokenBucket}
use Rattle.rsvp_base.specs.declared.addr.Addr.{Addr}
use Rattle.rsvp_base.specs.declared.err_spec.ErrSpec.{ErrSpec}
use Rattle.rsvp_base.specs.declared.hop.Hop.{Hop}
use Rattle.rsvp_base.specs.declared.session.Sender.{Sender}
use Rattle.rsvp_base.specs.declared.style.StyleKind.{StyleKind}
use Rattle.rsvp_base.specs.declared.style.StyleKind.TheVariants as style
use Rattle.rsvp_messages.specs.Units.{tear_style, tear_names}
use Rattle.rsvp_messages.specs.declared.ask.Ask.{Ask}
use Rattle.rsvp_messages.specs.declared.ask.Ask.TheVariants as ask
use Rattle.rsvp_messages.specs.declared.ask.Blame.{Blame}
use Rattle.rsvp_messages.specs.declared.ask.Tear.{Tear}
use Rattle.value_texts.specs.Texts.{addr_text, sender_text, names_text, flow_text, style_text}

-- hop ADDR/HANDLE
unfoldable pub hop_text : Hop → List ℕ
hop_text h = codes " hop " ++ addr_text h.addr ++ codes "/" ++ decimal h.handle

-- period MS
unfoldable pub period_text : ℕ → List ℕ
period_text ms = codes " period " ++ decimal ms

-- confirm ADDR
unfoldable pub confirm_text : Addr → List ℕ
confirm_text addr = codes " confirm " ++ addr_text addr

-- a word where something is set
abbrev pub where_set : Bool → List ℕ → List ℕ
where_set true word = word
where_set false word = []

-- the text of what is there
abbrev pub where_there : {X : Type 0} → (X → List ℕ) → Option X → List ℕ
where_there text None = []
where_there text (Some x) = text x

-- error NODE CODE/VALUE, then inplace and notguilty where set
unfoldable pub error_text : ErrSpec → List ℕ
error_text e =
    codes " error " ++ addr_text e.node ++ codes " " ++ decimal e.code ++ codes "/" ++ decimal e.value ++ where_set e.in_place (codes " inplace") ++ where_set e.not_guilty (codes " notguilty")

-- SENDERS
unfoldable pub senders_text : Names → List ℕ
senders_text names = codes " " ++ names_text style.Shared (keys names)

-- FLOW
unfoldable pub amount_text : TokenBucket → List ℕ
amount_text flow = codes " " ++ flow_text flow

-- SENDER FLOW
unfoldable pub offer_text : Sender × TokenBucket → List ℕ
offer_text e = codes " " ++ sender_text e.0 ++ codes " " ++ flow_text e.1

-- addresses joined by commas; - where there are none
abbrev pub scope_word : List Sender → List ℕ
scope_word [] = codes "-"
scope_word (s ∷ more) = names_text style.Wild (s ∷ more)

-- scope ADDRS
unfoldable pub scope_text : Names → List ℕ
scope_text names = codes " scope " ++ scope_word (keys names)

-- whom a message of this style lists: its scope or its senders, where there
abbrev pub listed_text : StyleKind → Option Names → List ℕ
listed_text style.Wild names = where_there scope_text names
listed_text style.Fixed names = where_there senders_text names
listed_text style.Shared names = where_there senders_text names

-- WF, the scope where there, FLOW; or FF, and SENDER FLOW for each; or SE SENDERS FLOW
abbrev pub ask_text : Ask → List ℕ
ask_text (ask.Wild scope flow) = codes " WF" ++ where_there scope_text scope ++ amount_text flow
ask_text (ask.Fixed list) = codes " FF" ++ flat_map offer_text list.rows
ask_text (ask.Shared part) = codes " SE" ++ senders_text part.senders ++ amount_text part.flow

-- STYLE, the scope or the senders
unfoldable pub tear_text : Tear → List ℕ
tear_text t = codes " " ++ style_text (tear_style t) ++ listed_text (tear_style t) (tear_names t)

-- STYLE, the scope or the senders where there, FLOW where there
unfoldable pub blame_text : Blame → List ℕ
blame_text b = codes " " ++ style_text b.style ++ listed_text b.style b.senders ++ where_there amount_text b.flow
