-- What the call for a want makes wanted at its node, by its style.
use Rattle.std.proofs.Common.{◌≡◌, ℕ, List, [], ◌∷◌, false, refl, ap, ◌∙◌}
use Rattle.std.specs.Prelude.{map as each}
use Rattle.rsvp_base.specs.Orders.{Names}
use Rattle.rsvp_base.specs.Table.{empty, keys}
use Rattle.rsvp_base.specs.TokenBucket.{TokenBucket}
use Rattle.rsvp_base.specs.declared.session.Sender.{Sender}
use Rattle.rsvp_base.specs.declared.style.StyleKind.{StyleKind}
use Rattle.rsvp_base.specs.declared.style.StyleKind.TheVariants.{Wild, Fixed, Shared}
use Rattle.rsvp_base.specs.declared.style.Unit.TheVariants.{Of}
use Rattle.rsvp_messages.specs.Units.{only}
use Rattle.router_rules.specs.Facts.{Want, WantKey}
use Rattle.tree_model.specs.declared.locals.LocalWant.{LocalWant}
use Rattle.network_model.specs.Locals.{want_at}
use Rattle.grown_network.specs.declared.hosts.Wanted.{Wanted}
use Rattle.grown_network.specs.Grown.{local_wants}
use Rattle.grown_network.specs.Hosts.{session_of}
use Rattle.grown_network.specs.Asking.{want_of}

abbrev pub by_style : StyleKind → Wanted → List LocalWant
by_style Wild w = want_of w empty ∷ []
by_style Fixed w = each (λ x. want_of w (only x)) (keys w.senders)
by_style Shared w = want_of w w.senders ∷ []

module _ (n : ℕ) (names : Names) (flow : TokenBucket) where
  abbrev fixed : Wanted
  fixed = record { node = n; style = Fixed; senders = names; flow = flow }

  abbrev row : Sender → WantKey × Want
  row x = ((session_of Fixed, Of x), record { style = Fixed; part = record { senders = only x; flow = flow }; confirm = false })

  one_each : (xs : List Sender) → each (want_at n) (each row xs) ≡ each (λ x. want_of fixed (only x)) xs
  one_each [] = refl
  one_each (x ∷ xs) = ap (λ (ws : List LocalWant). want_of fixed (only x) ∷ ws) (one_each xs)

  told_by : (st : StyleKind) → local_wants (record { node = n; style = st; senders = names; flow = flow }) ≡ by_style st (record { node = n; style = st; senders = names; flow = flow })
  told_by Wild = refl
  told_by Fixed = one_each (keys names)
  told_by Shared = refl

pub told : (w : Wanted) (st : StyleKind) → w.style ≡ st → local_wants w ≡ by_style st w
told w st is = told_by w.node w.senders w.flow w.style ∙ ap (λ (k : StyleKind). by_style k w) is
