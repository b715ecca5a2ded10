-- A part for one sender with port 0 is of each style.
use Rattle.std.proofs.Common.{◌≡◌, true, not, [], ◌∷◌, sym, ap, ◌∙◌, ⊎_elim}
use Rattle.rsvp_base.specs.Orders.{Names, senders}
use Rattle.rsvp_base.specs.Sets.{set_of, is_none}
use Rattle.rsvp_base.specs.Table.{has, size}
use Rattle.rsvp_base.specs.declared.part.Part.{Part}
use Rattle.rsvp_base.specs.declared.session.Sender.{Sender}
use Rattle.rsvp_base.specs.declared.style.StyleKind.{StyleKind}
use Rattle.rsvp_base.specs.declared.style.StyleKind.TheVariants.{Wild, Fixed, Shared}
use Rattle.rsvp_base.proofs.Counts.{set_of_in}
use Rattle.style_rules.specs.Parts.{IsOfStyle, has_name}
use Rattle.style_rules.proofs.StyleLaws.{wild_parts, fixed_parts, shared_parts}
use Rattle.library_tests.proofs.resv_tables.make_fact.Goals as goal

only_one : (p : Part) (x s : Sender) → p.senders ≡ set_of (x ∷ []) → has p.senders s ≡ true → s ≡ x
only_one p x s is h = ⊎_elim (λ (e : s ≡ x). e) (λ (j : ⊥). absurd j) (set_of_in senders (x ∷ []) s (ap (λ (n : Names). has n s) (sym is) ∙ h))

named : (p : Part) (x : Sender) → p.senders ≡ set_of (x ∷ []) → has_name p ≡ true
named p x is = ap (λ (n : Names). not (is_none n)) is

of_each_style : (st : StyleKind) (p : Part) (x : Sender) → p.senders ≡ set_of (x ∷ []) → x.port ≡ 0 → IsOfStyle st p
of_each_style Wild p x is none = (wild_parts p).1 (named p x is, λ s h. ap (λ (z : Sender). z.port) (only_one p x s is h) ∙ none)
of_each_style Fixed p x is none = (fixed_parts p).1 (ap (λ (n : Names). size n) is)
of_each_style Shared p x is none = (shared_parts p).1 (named p x is)

pub returns : goal.returns
returns c = λ st. of_each_style st _ c.sender.result c.only.ensures c.sender.ensures
