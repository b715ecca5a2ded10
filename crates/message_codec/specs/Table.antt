-- Which classes of objects a message of each kind may have (RFC 2205, 3.1.3 to 3.1.9).
use Rattle.std.specs.Prelude.{ℕ, Bool, true, false, ◌||◌, ◌==◌, List, [], ◌∷◌, if◌then◌else◌}
use Rattle.rsvp_objects.specs.Classes.{null, session, rsvp_hop, time_values, error_spec, scope, style, flowspec, sender_template, sender_tspec, adspec, policy_data, resv_confirm, has_high_bit}
use Rattle.rsvp_messages.specs.declared.message.Kind.{Kind}
use Rattle.rsvp_messages.specs.declared.message.Kind.TheVariants as kind
use Rattle.message_codec.specs.declared.role.Role.{Role}
use Rattle.message_codec.specs.declared.role.Role.TheVariants.{Needed, Once, Unread, Nowhere}

-- the classes that stand once and are needed, that may stand once, and that may stand any number of times and are skipped.
-- Behind a STYLE stands a list of its own, whose classes are not among these.
pub record Row : Type 0 where
  pub needed : List ℕ
  pub once : List ℕ
  pub unread : List ℕ

abbrev pub row_of : Kind → Row
row_of kind.Path =
    record {
      needed = session ∷ rsvp_hop ∷ time_values ∷ [];
      once = sender_template ∷ sender_tspec ∷ adspec ∷ [];
      unread = policy_data ∷ [];
    }
row_of kind.Resv =
    record {
      needed = session ∷ rsvp_hop ∷ time_values ∷ style ∷ [];
      once = scope ∷ resv_confirm ∷ [];
      unread = policy_data ∷ [];
    }
row_of kind.PathErr =
    record {
      needed = session ∷ error_spec ∷ [];
      once = sender_template ∷ [];
      unread = sender_tspec ∷ adspec ∷ policy_data ∷ [];
    }
row_of kind.ResvErr =
    record {
      needed = session ∷ rsvp_hop ∷ error_spec ∷ style ∷ [];
      once = scope ∷ [];
      unread = policy_data ∷ [];
    }
row_of kind.PathTear =
    record {
      needed = session ∷ rsvp_hop ∷ [];
      once = sender_template ∷ [];
      unread = sender_tspec ∷ adspec ∷ policy_data ∷ [];
    }
row_of kind.ResvTear =
    record {
      needed = session ∷ rsvp_hop ∷ style ∷ [];
      once = scope ∷ [];
      unread = policy_data ∷ [];
    }
row_of kind.ResvConf =
    record {
      needed = session ∷ error_spec ∷ style ∷ resv_confirm ∷ [];
      once = [];
      unread = policy_data ∷ [];
    }

abbrev pub is_among : ℕ → List ℕ → Bool
is_among n [] = false
is_among n (m ∷ ms) = n == m || is_among n ms

-- what the table says of a class
unfoldable pub role_of : Kind → ℕ → Role
role_of k n =
    if is_among n (row_of k).needed then Needed else
    if is_among n (row_of k).once then Once else
    if is_among n (row_of k).unread then Unread else Nowhere

abbrev pub may_stand : Role → Bool
may_stand Nowhere = false
may_stand _ = true

abbrev pub stands_once : Role → Bool
stands_once Needed = true
stands_once Once = true
stands_once _ = false

-- NULL, and the unknown classes that a receiver may skip, stand anywhere (RFC 2205, 3.10)
abbrev pub is_anywhere : ℕ → Bool
is_anywhere n = n == null || has_high_bit n

abbrev pub is_tear_flow : Kind → ℕ → Bool
is_tear_flow kind.ResvTear n = n == flowspec
is_tear_flow _ n = false

abbrev pub is_unread_role : Role → Bool
is_unread_role Unread = true
is_unread_role _ = false

-- skipped whatever its contents are: by the table, or a FLOWSPEC among the filters of a ResvTear
abbrev pub is_unread : Kind → ℕ → Bool
is_unread k n = is_tear_flow k n || is_unread_role (role_of k n)
