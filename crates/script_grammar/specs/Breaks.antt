-- Which part of a rule a line breaks: what is there already, which limit is passed, which style stands.
use Rattle.std.specs.Prelude.{◌≡◌, ◌≢◌, ◌⊎◌, ℕ, ◌+◌, List, [], ◌∷◌, Bool, true, false, ◌||◌, Option, None, Some, IfSome, nat_le, codes, length, option_map, slice_get, unwrap_or, if◌then◌else◌}
use Rattle.std.specs.List.{list_any}
use Rattle.std.specs.Str.{byte, bytes_eq}
use Rattle.rsvp_base.specs.declared.session.Session.{Session}
use Rattle.rsvp_base.specs.declared.style.StyleKind.{StyleKind}
use Rattle.tree_model.specs.Networks.{link_of}
use Rattle.script_words.specs.Parts.{parts_of}
use Rattle.script_words.specs.Sessions.{IsSession, session_of, session_value}
use Rattle.script_words.specs.declared.raw.SessionWord.{SessionWord}
use Rattle.script_grammar.specs.Adds.{wants_at}
use Rattle.script_grammar.specs.Draft.{Draft, end_number, node_number}
use Rattle.script_grammar.specs.Rules.{HasRoomForSession, most_senders}
use Rattle.script_grammar.specs.Known.{is_declared}
use Rattle.script_grammar.specs.declared.kind.Kind.{Kind}
use Rattle.script_grammar.specs.declared.kind.Kind.TheVariants.{End, Link, StalePath, StaleResv, WildResv, HopBlockade, SenderBlockade, Send, Want, WildWant}
use Rattle.script_grammar.specs.declared.named.Named.TheVariants as named
use Rattle.script_grammar.specs.declared.rule.Rule.{Rule}
use Rattle.script_grammar.specs.declared.rule.Rule.TheVariants.{New, NewName, NewAddress, NewSender, WithinLimits, OneSender, FewSenders, FewSessions}

-- the word at this place behind the first
abbrev pub word_behind : List (List ℕ) → ℕ → List ℕ
word_behind behind place = unwrap_or (slice_get behind place) []

-- ---- lists of senders: what commas join
abbrev pub listed : List ℕ → List (List ℕ)
listed word = parts_of (byte ",") word

-- one of them stands twice
abbrev pub has_twice : List (List ℕ) → Bool
has_twice [] = false
has_twice (part ∷ parts) = list_any (bytes_eq part) parts || has_twice parts

-- ---- what is there already
abbrev pub new_of_list : List ℕ → Rule
new_of_list senders = if has_twice (listed senders) then NewSender else New

-- none of a link, of which one end is
abbrev pub new_rule : Draft → Kind → List (List ℕ) → Option Rule
new_rule d End behind = Some (if is_declared d named.End (word_behind behind 0) then NewName else NewAddress)
new_rule d Link behind = None
new_rule d StaleResv behind = Some (new_of_list (word_behind behind 4))
new_rule d WildResv behind = Some (new_of_list (word_behind behind 4))
new_rule d kind behind = Some New

-- the end of this name is in a link
abbrev pub IsLinked : Draft → List ℕ → Type 0
IsLinked d name = link_of d.net.links (end_number d name) ≢ []

-- the place of the first of these ends that is, if one is, where the first one is at this place
abbrev pub IsLinkedFrom : Draft → ℕ → List (List ℕ) → Option ℕ → Type 0
IsLinkedFrom d place [] found = found ≡ None
IsLinkedFrom d place (name ∷ names) found = ((IsLinked d name → ⊥) × IsLinkedFrom d (place + 1) names found) ⊎ (IsLinked d name × (found ≡ Some place))

abbrev pub IsFirstLinked : Draft → List (List ℕ) → Option ℕ → Type 0
IsFirstLinked d behind found = IsLinkedFrom d 0 behind found

-- ---- which limit is passed: in the order of the words, then what the tables keep
-- that of the list of senders
abbrev pub limit_of_list : List ℕ → Rule
limit_of_list senders = if nat_le (length (listed senders)) most_senders then WithinLimits else FewSenders

-- a fixed filter names one sender
abbrev pub limit_of_style : List ℕ → List ℕ → Rule
limit_of_style style senders = if bytes_eq style (codes "FF") then (if nat_le (length (listed senders)) 1 then WithinLimits else OneSender) else limit_of_list senders

abbrev pub limit_by_words : Kind → List (List ℕ) → Rule
limit_by_words StaleResv behind = limit_of_style (word_behind behind 2) (word_behind behind 4)
limit_by_words WildResv behind = limit_of_list (word_behind behind 4)
limit_by_words Want behind = limit_of_list (word_behind behind 3)
limit_by_words kind behind = WithinLimits

-- lines of this kind name a session, which is the second word behind the first
abbrev pub names_session : Kind → Bool
names_session StalePath = true
names_session StaleResv = true
names_session WildResv = true
names_session HopBlockade = true
names_session SenderBlockade = true
names_session Send = true
names_session Want = true
names_session WildWant = true
names_session kind = false

-- the session of this word is one of those that are named, or there is room for one more
abbrev pub HasRoomForWord : Draft → List ℕ → Type 0
HasRoomForWord d word = IfSome (session_of word) (λ s. IsSession s → HasRoomForSession d (session_value s))

abbrev pub session_word : Kind → List (List ℕ) → Option (List ℕ)
session_word kind behind = if names_session kind then Some (word_behind behind 1) else None

abbrev pub HasRoomForLine : Draft → Kind → List (List ℕ) → Type 0
HasRoomForLine d kind behind = IfSome (session_word kind behind) (HasRoomForWord d)

abbrev pub IsLimit : Draft → Kind → List (List ℕ) → Rule → Type 0
IsLimit d kind behind broken =
    (HasRoomForLine d kind behind × (broken ≡ limit_by_words kind behind)) ⊎ ((HasRoomForLine d kind behind → ⊥) × (broken ≡ FewSessions))

-- ---- the style of the wishes that stand in a session at a node
abbrev pub standing_style : Draft → List ℕ → Session → Option StyleKind
standing_style d node s = option_map (λ w. w.style) (slice_get (wants_at d.locals.wants (node_number d node) s) 0)

pub record IsOtherStyle (d : Draft) (behind : List (List ℕ)) (style : StyleKind) : Type 0 where
  pub session : SessionWord
  pub said : session_of (word_behind behind 1) ≡ Some session
  pub stands : standing_style d (word_behind behind 0) (session_value session) ≡ Some style
