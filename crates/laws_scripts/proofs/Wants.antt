-- What stands of wants behind a line that sends or wants.
use Rattle.std.proofs.Common.{◌≡◌, ℕ, List, [], ◌∷◌, Bool, true, false, ◌⊎◌, inl, inr, ⊎_elim, refl, ap}
use Rattle.std.specs.Prelude.{◌++◌, not, if◌then◌else◌}
use Rattle.std.specs.List.{filter}
use Rattle.rsvp_base.specs.declared.session.Sender.{Sender}
use Rattle.rsvp_base.specs.declared.session.Session.{Session}
use Rattle.rsvp_base.specs.declared.style.StyleKind.{StyleKind}
use Rattle.rsvp_base.specs.declared.style.StyleKind.TheVariants.{Wild, Fixed, Shared}
use Rattle.rsvp_base.specs.Members.{In}
use Rattle.rsvp_base.specs.Orders.{Names}
use Rattle.rsvp_base.specs.Table.{keys}
use Rattle.rsvp_base.specs.TokenBucket.{TokenBucket}
use Rattle.rsvp_base.proofs.Members.{in_append, in_each, in_filter}
use Rattle.rsvp_messages.specs.Units.{only}
use Rattle.tree_model.specs.declared.locals.LocalWant.{LocalWant}
use Rattle.tree_model.specs.Wants.{Locals}
use Rattle.script_grammar.specs.Adds.{is_in_place_of, sends, wanted, with_sender, with_want, with_wants}

-- who sends changes no want
pub wants_same : (l : Locals) (n : ℕ) (s : Session) (x : Sender) → (with_sender l n s x).wants ≡ l.wants
wants_same l n s x = by (sends l.senders s x)
  where
    by : (b : Bool) → (if b then l else record l { senders = l.senders ++ (record { node = n; session = s; sender = x }) ∷ [] }).wants ≡ l.wants
    by true = refl
    by false = refl

-- a want is one of those before, or a new one
pub new_want : (ws news : List LocalWant) (w : LocalWant) → In w (with_wants ws news) → In w ws ⊎ In w news
new_want ws [] w i = inl i
new_want ws (x ∷ more) w i =
    ⊎_elim
    (λ (j : In w (with_want ws x)).
    ⊎_elim (λ (k : In w (filter (λ z. not (is_in_place_of x z)) ws)). inl (in_filter (λ z. not (is_in_place_of x z)) w ws k).0)
    (λ (k : In w (x ∷ [])). ⊎_elim (λ (e : w ≡ x). inr (inl e)) (λ (e : ⊥). absurd e) k) (in_append w (filter (λ z. not (is_in_place_of x z)) ws) (x ∷ []) j))
    (λ (j : In w more). inr (inr j)) (new_want (with_want ws x) more w i)

abbrev fixed_want : ℕ → Session → TokenBucket → Sender → LocalWant
fixed_want n s flow x = record { node = n; session = s; style = Fixed; part = record { senders = only x; flow = flow } }

-- what a line wants, it wants at its node, of its session
abbrev IsOf : ℕ → Session → LocalWant → Type 0
IsOf n s w = (w.node ≡ n) × (w.session ≡ s)

pub of_line : (n : ℕ) (s : Session) (st : StyleKind) (names : Names) (flow : TokenBucket) (w : LocalWant) → In w (wanted n s st names flow) → IsOf n s w
of_line n s Wild names flow w i = ⊎_elim (λ e. (ap (λ (z : LocalWant). z.node) e, ap (λ (z : LocalWant). z.session) e)) (λ (e : ⊥). absurd e) i
of_line n s Fixed names flow w i = let e = in_each (fixed_want n s flow) w (keys names) i in (ap (λ (z : LocalWant). z.node) e.2, ap (λ (z : LocalWant). z.session) e.2)
of_line n s Shared names flow w i = ⊎_elim (λ e. (ap (λ (z : LocalWant). z.node) e, ap (λ (z : LocalWant). z.session) e)) (λ (e : ⊥). absurd e) i
