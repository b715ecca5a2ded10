-- Names that are to be forgotten when paths die (RFC 2209, 2: an RSB without a matching PSB).
use Rattle.std.specs.Prelude.{◌≡◌, true, false, cond, List, Option, Some, None}
use Rattle.std.specs.List.{filter_map, list_any}
use Rattle.rsvp_base.specs.Sets.{Set}
use Rattle.rsvp_base.specs.Styles.{name_of}
use Rattle.rsvp_base.specs.Table.{has, keys}
use Rattle.rsvp_base.specs.declared.session.Sender.{Sender}
use Rattle.rsvp_base.specs.declared.session.Session.{Session}
use Rattle.rsvp_base.specs.declared.style.StyleKind.{StyleKind}
use Rattle.router_rules.specs.Facts.{Facts, SenderKey, sender_keys}
use Rattle.router_rules.specs.Forgetting.{is_lost}
use Rattle.router_rules.specs.Known.{known, named_as}
use Rattle.path_sends.specs.RouterState.Forgotten.{is_gone}

-- the name that goes with a sender, if no known sender has it any more
abbrev pub lost_at : StyleKind → Facts → SenderKey → Option (Session × Sender)
lost_at st g k = cond (has (named_as st (known g k.0)) (name_of st k.1)) None (Some (k.0, name_of st k.1))

abbrev pub lost_names : StyleKind → Facts → List SenderKey → List (Session × Sender)
lost_names st g ks = filter_map (lost_at st g) ks

-- where those that died were known, and are all that are known no more, the names that go with them are those that are lost
abbrev pub NamesOfTheDead : Type 0
NamesOfTheDead =
    (st : StyleKind) (f g : Facts) (dead : Set sender_keys) → ((k : SenderKey) → has dead k ≡ true → has (known f k.0) k.1 ≡ true)
    → ((k : SenderKey) → has (known f k.0) k.1 ≡ true → has (known g k.0) k.1 ≡ false → has dead k ≡ true) → (s : Session) (x : Sender)
    → list_any (is_gone s x) (lost_names st g (keys dead)) ≡ is_lost st f g s x
