-- Senders added one after another.
use Rattle.std.specs.Prelude.{◌≡◌, ℕ, ◌+◌, ◌≤◌, ◌<◌, cond, take, List, [], ◌∷◌, ◌++◌, map as each, length, refl}
use Rattle.std.proofs.Common.{sym, ap, ◌∙◌, arith, get_or}
use Rattle.std.proofs.lemmas.List.{map-append, take_more}
use Rattle.rsvp_base.specs.Orders.{Names, senders}
use Rattle.rsvp_base.specs.Sets.{with_key, with_keys}
use Rattle.rsvp_base.specs.Table.{has, size}
use Rattle.rsvp_base.specs.declared.session.Sender.{Sender}
use Rattle.rsvp_base.proofs.SetLaws.{size-with_key}
use Rattle.rsvp_base.proofs.Tables.{either}
use Rattle.local_state.specs.declared.senders.LocalSender.{LocalSender}

with_last : (s : Names) (xs : List Sender) (x : Sender) → with_keys s (xs ++ x ∷ []) ≡ with_key (with_keys s xs) x
with_last s [] x = refl
with_last s (y ∷ xs) x = with_last (with_key s y) xs x

pub size_next : (s : Names) (x : Sender) → size (with_key s x) ≤ size s + 1
size_next s x =
    let n = size-with_key senders s x in
    either (has s x) (λ t. let e = n ∙ ap (λ b. cond b (size s) (size s + 1)) t in omega (arith, e)) (λ t. let e = n ∙ ap (λ b. cond b (size s) (size s + 1)) t in omega (arith, e))

-- ---- local ones
abbrev name : LocalSender → Sender
name r = r.sender

pub own_more : (old found : Names) (own : List LocalSender) (i : ℕ) (d : LocalSender) → i < length own → found ≡ with_keys old (each (λ (r : LocalSender). r.sender) (take i own))
    → with_key found (get_or own i d).sender ≡ with_keys old (each (λ (r : LocalSender). r.sender) (take (i + 1) own))
own_more old found own i d lt is =
    ap (λ (m : Names). with_key m (get_or own i d).sender) is ∙ sym (with_last old (each name (take i own)) (get_or own i d).sender)
    ∙ ap (with_keys old) (sym (map-append name (take i own) (get_or own i d ∷ [])) ∙ ap (each name) (sym (take_more own i d lt)))
