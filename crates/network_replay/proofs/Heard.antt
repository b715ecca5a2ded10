-- What bytes are, by what was read of them.
use Rattle.std.proofs.Common.{◌≡◌, ℕ, List, sym, ap, ◌∙◌}
use Rattle.std.specs.Prelude.{Result, Ok, Err}
use Rattle.message_codec.specs.Spells.{Spells, IsFirstFault}
use Rattle.rsvp_messages.specs.declared.fault.MsgErr.{MsgErr}
use Rattle.rsvp_messages.specs.declared.message.Message.{Message}
use Rattle.router_rules.specs.Inputs.{Arrival, Spelt, Unspelt}
use Rattle.network_replay.specs.Following.{IsArrival}

module _ (bytes : List ℕ) (r : Result Message MsgErr) (only : (v : Message) → Spells bytes v → r ≡ Ok v) (first : (e : MsgErr) → IsFirstFault bytes e → r ≡ Err e) where
  pub read_as : (m : Message) → r ≡ Ok m → (a : Arrival) → IsArrival bytes a → Spelt m ≡ a
  read_as m is (Spelt v) s = let same : Ok m ≡ Ok v = sym is ∙ only v s in let eq : m ≡ v = cc in ap (λ (x : Message). Spelt x) eq
  read_as m is (Unspelt f) s = let no : Ok m ≡ Err f = sym is ∙ first f s in absurd (cc)

  pub unread_as : (f : MsgErr) → r ≡ Err f → (a : Arrival) → IsArrival bytes a → Unspelt f ≡ a
  unread_as f is (Spelt v) s = let no : Err f ≡ Ok v = sym is ∙ only v s in absurd (cc)
  unread_as f is (Unspelt g) s = let same : Err f ≡ Err g = sym is ∙ first g s in let eq : f ≡ g = cc in ap (λ (x : MsgErr). Unspelt x) eq
