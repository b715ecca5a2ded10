-- Who meets nobody: senders whose tree goes nowhere, and why no sender meets a want.
use Rattle.std.specs.Prelude.{ℕ, ◌+◌, Bool, true, ◌&&◌, ◌==◌, List, [], ◌∷◌, length, if◌then◌else◌}
use Rattle.std.specs.List.{list_any}
use Rattle.rsvp_base.specs.Table.{has}
use Rattle.rsvp_base.specs.declared.style.StyleKind.{StyleKind}
use Rattle.rsvp_base.specs.declared.style.StyleKind.TheVariants.{Wild, Fixed, Shared}
use Rattle.tree_model.specs.Networks.{Net}
use Rattle.tree_model.specs.Trees.{outward}
use Rattle.tree_model.specs.Wants.{Locals, of_session}
use Rattle.tree_model.specs.declared.locals.LocalSender.{LocalSender}
use Rattle.tree_model.specs.declared.locals.LocalWant.{LocalWant}
use Rattle.network_demand.specs.declared.stray.Why.{Why}
use Rattle.network_demand.specs.declared.stray.Why.TheVariants.{NobodySends, NoSuchSender, NoTree}

-- ---- senders
-- the tree of a sender has no hop out of its node
abbrev pub is_idle : Net → LocalSender → Bool
is_idle net x = length (outward net x.node x.session.group x.sender.addr) == 0

abbrev pub idle_from : Net → ℕ → List LocalSender → List ℕ
idle_from net place [] = []
idle_from net place (x ∷ xs) = if is_idle net x then place ∷ idle_from net (place + 1) xs else idle_from net (place + 1) xs

-- such senders, by place
abbrev pub idle : Net → List LocalSender → List ℕ
idle net xs = idle_from net 0 xs

-- ---- wants
-- a sender sends in the session of a want
abbrev pub sends_in : LocalWant → LocalSender → Bool
sends_in w x = of_session w.session x

-- a want names a sender, or is a wildcard one
abbrev pub names_as : StyleKind → LocalWant → LocalSender → Bool
names_as Wild w x = true
names_as Fixed w x = has w.part.senders x.sender
names_as Shared w x = has w.part.senders x.sender

abbrev pub names : LocalWant → LocalSender → Bool
names w x = names_as w.style w x

-- a want is for a sender
abbrev pub is_for : LocalWant → LocalSender → Bool
is_for w x = sends_in w x && names w x

-- why no sender meets a want that asks nowhere: nobody sends in its session, or nobody whom it is for, or the trees of these do not
-- come into its node
abbrev pub why_stray : Locals → LocalWant → Why
why_stray l w =
    if list_any (sends_in w) l.senders then (
    if list_any (is_for w) l.senders then NoTree else NoSuchSender) else NobodySends
