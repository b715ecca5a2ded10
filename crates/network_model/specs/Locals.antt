-- What the hosts of a network ask of it, read off a world.
use Rattle.std.specs.Prelude.{◌≡◌, ℕ, suc, List, [], ◌∷◌, ◌++◌, map as each, slice_get, Option, Some}
use Rattle.std.specs.Option.{option_map}
use Rattle.rsvp_base.specs.declared.session.Session.{Session}
use Rattle.rsvp_base.specs.Orders.{sessions}
use Rattle.rsvp_base.specs.Sets.{set_of}
use Rattle.rsvp_base.specs.Table.{Table, get, keys}
use Rattle.rsvp_base.specs.TokenBucket.{TokenBucket}
use Rattle.tree_model.specs.declared.locals.LocalSender.{LocalSender}
use Rattle.tree_model.specs.declared.locals.LocalWant.{LocalWant}
use Rattle.tree_model.specs.Wants.{Locals}
use Rattle.router_examples.specs.RouterRules.Facts.{Facts, SenderKey, sender_keys, WantKey, Want}
use Rattle.network_model.specs.Worlds.{World}

-- ---- senders and wants of the nodes from number n on
abbrev pub sender_at : ℕ → SenderKey → LocalSender
sender_at n k = record { node = n; session = k.0; sender = k.1 }

abbrev pub senders_from : ℕ → List Facts → List LocalSender
senders_from n [] = []
senders_from n (f ∷ fs) = each (sender_at n) (keys f.senders) ++ senders_from (suc n) fs

abbrev pub want_at : ℕ → WantKey × Want → LocalWant
want_at n e = record { node = n; session = e.0.0; style = e.1.style; part = e.1.part }

abbrev pub wants_from : ℕ → List Facts → List LocalWant
wants_from n [] = []
wants_from n (f ∷ fs) = each (want_at n) f.wants.rows ++ wants_from (suc n) fs

abbrev pub locals_of : World → Locals
locals_of w = record { senders = senders_from 0 w.nodes; wants = wants_from 0 w.nodes }

-- the sessions that have a sender, each once
abbrev pub sessions_of : World → List Session
sessions_of w = keys (set_of {o = sessions} (each (λ x. x.session) (senders_from 0 w.nodes)))

-- ---- live senders: those that are local senders of a node, with what they send
abbrev pub senders_at : World → ℕ → Option (Table sender_keys TokenBucket)
senders_at w n = option_map (λ f. f.senders) (slice_get w.nodes n)

pub record IsLive (w : World) (k : SenderKey) (tspec : TokenBucket) : Type 0 where
  pub node : ℕ
  pub senders : Table sender_keys TokenBucket
  pub at : senders_at w node ≡ Some senders
  pub sends : get senders k ≡ Some tspec
