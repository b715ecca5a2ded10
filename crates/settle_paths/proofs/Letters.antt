-- Letters of a sender at an end: the Paths and PathTears of its key that come there.
use Rattle.std.proofs.Common.{◌≡◌, ℕ, true, Option, None, Some, ◌⊎◌, inl, inr, refl, ap, ◌∙◌}
use Rattle.std.specs.Prelude.{◌==◌}
use Rattle.std.specs.Ordering.{eq_by_cmp}
use Rattle.rsvp_base.specs.declared.session.Sender.{Sender}
use Rattle.rsvp_base.specs.declared.session.Session.{Session}
use Rattle.rsvp_base.specs.TokenBucket.{TokenBucket}
use Rattle.rsvp_base.proofs.SetLaws.{and_both, and_made}
use Rattle.rsvp_base.proofs.Tables.{tied_same, tied_self}
use Rattle.rsvp_messages.specs.declared.message.Message.{Message}
use Rattle.rsvp_messages.specs.declared.message.Message.TheVariants as message
use Rattle.rsvp_messages.specs.declared.message.PathMsg.{PathMsg}
use Rattle.rsvp_messages.specs.declared.message.PathTearMsg.{PathTearMsg}
use Rattle.router_rules.specs.Facts.{SenderKey, sender_keys}
use Rattle.router_rules.specs.Inputs.{Arrival, Spelt, Unspelt}
use Rattle.tree_model.proofs.Following.{same_number, number_same}
use Rattle.network_model.specs.Steps.{sender_of}
use Rattle.network_model.specs.Worlds.{Item}
use Rattle.settle_paths.specs.Telling.{is_of, letter_message, letter_arrival, is_letter}

of_found : (k : SenderKey) (s : Session) (x : Option Sender) → is_of k s x ≡ true → (s ≡ k.0) × (x ≡ Some k.1)
of_found k s None e = absurd (cc)
of_found k s (Some x) e = let same = tied_same sender_keys (s, x) k e in (ap (λ (z : SenderKey). z.0) same, ap (λ (z : SenderKey). Some z.1) same)

pub of_made : (k : SenderKey) (s : Session) (x : Option Sender) → s ≡ k.0 → x ≡ Some k.1 → is_of k s x ≡ true
of_made k s x a b = ap (λ (z : Option Sender). is_of k s z) b ∙ ap (λ (z : Session). eq_by_cmp sender_keys.cmp (z, k.1) k) a ∙ tied_self sender_keys k

pub sender_found : (m : PathMsg) (x : Sender) → sender_of m.sender ≡ Some x → (t : TokenBucket) × (m.sender ≡ Some (x, t))
sender_found m x e = by m.sender refl e
  where
    by : (o : Option (Sender × TokenBucket)) → m.sender ≡ o → sender_of o ≡ Some x → (t : TokenBucket) × (m.sender ≡ Some (x, t))
    by None a h = absurd (cc)
    by (Some y) a h = let same : y.0 ≡ x = cc in (y.1, a ∙ ap (λ (z : Sender). Some (z, y.1)) same)

-- a Path or a PathTear of the key
pub record IsPathLetter (k : SenderKey) (y : Item) : Type 0 where
  pub path : PathMsg
  pub spelt : y.arrival ≡ Spelt (message.Path path)
  pub session : path.session ≡ k.0
  pub tspec : TokenBucket
  pub sender : path.sender ≡ Some (k.1, tspec)

pub record IsTearLetter (k : SenderKey) (y : Item) : Type 0 where
  pub tear : PathTearMsg
  pub spelt : y.arrival ≡ Spelt (message.PathTear tear)
  pub session : tear.session ≡ k.0
  pub sender : tear.sender ≡ Some k.1

pub letter_found : (k : SenderKey) (e : ℕ) (y : Item) → is_letter k e y ≡ true → (y.end ≡ e) × (IsPathLetter k y ⊎ IsTearLetter k y)
letter_found k e y t = let both = and_both (y.end == e) (letter_arrival k y.arrival) t in (same_number y.end e both.0, by y.arrival refl both.1)
  where
    by_message : (m : Message) → y.arrival ≡ Spelt m → letter_message k m ≡ true → IsPathLetter k y ⊎ IsTearLetter k y
    by_message (message.Path m) a h =
        let of = of_found k m.session (sender_of m.sender) h in
        let s = sender_found m k.1 of.1 in
        inl (record { path = m; spelt = a; session = of.0; tspec = s.0; sender = s.1 })
    by_message (message.PathTear m) a h = let of = of_found k m.session m.sender h in inr (record { tear = m; spelt = a; session = of.0; sender = of.1 })
    by_message (message.Resv m) a h = absurd (cc)
    by_message (message.PathErr m) a h = absurd (cc)
    by_message (message.ResvErr m) a h = absurd (cc)
    by_message (message.ResvTear m) a h = absurd (cc)
    by_message (message.ResvConf m) a h = absurd (cc)

    by : (b : Arrival) → y.arrival ≡ b → letter_arrival k b ≡ true → IsPathLetter k y ⊎ IsTearLetter k y
    by (Spelt m) a h = by_message m a h
    by (Unspelt f) a h = absurd (cc)

pub path_letter : (k : SenderKey) (e : ℕ) (y : Item) (m : PathMsg) (t : TokenBucket) → y.end ≡ e → y.arrival ≡ Spelt (message.Path m) → m.session ≡ k.0 → m.sender ≡ Some (k.1, t)
    → is_letter k e y ≡ true
path_letter k e y m t end spelt session sender =
    and_made _ _ (number_same y.end e end) (ap (letter_arrival k) spelt ∙ of_made k m.session (sender_of m.sender) session (ap (λ (o : Option (Sender × TokenBucket)). sender_of o) sender))

pub tear_letter : (k : SenderKey) (e : ℕ) (y : Item) (m : PathTearMsg) → y.end ≡ e → y.arrival ≡ Spelt (message.PathTear m) → m.session ≡ k.0 → m.sender ≡ Some k.1 → is_letter k e y ≡ true
tear_letter k e y m end spelt session sender =
    and_made _ _ (number_same y.end e end) (ap (letter_arrival k) spelt ∙ of_made k m.session m.sender session sender)
