-- What a unit asks for, of those that match, is of the style and of its unit.
use Rattle.std.specs.Prelude.{◌≡◌, Bool, true, false, not, [], ◌∷◌, Option, Some, None, refl}
use Rattle.std.proofs.Common.{sym, ap, subst, ◌∙◌, ⊎_elim}
use Rattle.rsvp_base.specs.Members.{In}
use Rattle.rsvp_base.specs.Orders.{Names, senders}
use Rattle.rsvp_base.specs.Sets.{IsWithin, is_none}
use Rattle.rsvp_base.specs.Styles.{name_of, part_unit, unit_of}
use Rattle.rsvp_base.specs.Table.{has}
use Rattle.rsvp_base.specs.TokenBucket.{TokenBucket}
use Rattle.rsvp_base.specs.declared.part.Part.{Part}
use Rattle.rsvp_base.specs.declared.session.Sender.{Sender}
use Rattle.rsvp_base.specs.declared.style.StyleKind.{StyleKind}
use Rattle.rsvp_base.specs.declared.style.StyleKind.TheVariants.{Wild, Fixed, Shared}
use Rattle.rsvp_base.specs.declared.style.Unit.{Unit as UnitOf}
use Rattle.rsvp_base.specs.declared.style.Unit.TheVariants.{One, Of}
use Rattle.rsvp_base.proofs.Counts.{set_of_in}
use Rattle.rsvp_base.proofs.Members.{in_each}
use Rattle.rsvp_base.proofs.SetLaws.{and_both, has-cut}
use Rattle.rsvp_messages.specs.Units.{AskedUnit, ask_style, asked_units, fixed_unit, only}
use Rattle.rsvp_messages.specs.declared.ask.Ask.{Ask}
use Rattle.rsvp_messages.specs.declared.ask.Ask.TheVariants as ask
use Rattle.style_rules.specs.CutLaws.{made_named, made_of}
use Rattle.style_rules.specs.Parts.{IsOfStyle, part_of}
use Rattle.style_rules.proofs.StyleLaws.{a_name, unit_of_names}
use Rattle.router_rules.specs.Asking.{names_that_match}

-- those that match are among all
matching_within : (names : Option Names) (all : Names) → IsWithin (names_that_match names all) all
matching_within None all x e = e
matching_within (Some names) all x e = (and_both _ _ (sym (has-cut senders names all x) ∙ e)).1

no_not : (b : Bool) → not b ≡ true → b ≡ false
no_not true e = cc
no_not false e = refl

-- the unit of a part is that of each of its names
unit_by : (st : StyleKind) (u : UnitOf) (part : Part) → IsOfStyle st part → ((x : Sender) → has part.senders x ≡ true → unit_of st x ≡ u) → part_unit st part ≡ u
unit_by st u part own each = let x = a_name part.senders (no_not (is_none part.senders) own.named) in unit_of_names st part x.0 own x.1 ∙ each x.0 x.1

abbrev Fits : StyleKind → Names → AskedUnit → Type 0
Fits st all u = (part : Part) → part_of (names_that_match u.names all) u.flow ≡ Some part → IsOfStyle st part × (part_unit st part ≡ u.unit)

wild_fits : (scope : Option Names) (flow : TokenBucket) (all : Names) → ((x : Sender) → has all x ≡ true → name_of Wild x ≡ x) → Fits Wild all (record { unit = One; names = scope; flow = flow })
wild_fits scope flow all listed part e =
    let m = made_of (names_that_match scope all) flow part e in
    let own : IsOfStyle Wild part = record {
      named = made_named (names_that_match scope all) flow part e;
      listed = λ s h. listed s
          (matching_within scope all s (ap (λ (z : Names). has z s) (sym m.senders) ∙ h));
      one_unit = λ s t h g. refl;
    } in
    (own, unit_by Wild One part own (λ x h. refl))

shared_fits : (names : Option Names) (flow : TokenBucket) (all : Names) → Fits Shared all (record { unit = One; names = names; flow = flow })
shared_fits names flow all part e =
    let own : IsOfStyle Shared part = record { named = made_named (names_that_match names all) flow part e; listed = λ s h. refl; one_unit = λ s t h g. refl } in
    (own, unit_by Shared One part own (λ x h. refl))

fixed_fits : (row : Sender × TokenBucket) (all : Names) → Fits Fixed all (fixed_unit row)
fixed_fits row all part e =
    let own : IsOfStyle Fixed part = record {
      named = made_named (names_that_match (Some (only row.0)) all) row.1 part e;
      listed = λ s h. refl;
      one_unit = λ s t h g. ap Of
          (one s h ∙ sym (one t g));
    } in
    (own, unit_by Fixed (Of row.0) part own (λ x h. ap Of (one x h)))
  where
    one : (x : Sender) → has part.senders x ≡ true → x ≡ row.0
    one x h =
        let m = made_of (names_that_match (Some (only row.0)) all) row.1 part e in
        ⊎_elim (λ (is : x ≡ row.0). is) (λ (n : ⊥). absurd n) (set_of_in senders (row.0 ∷ []) x
        (and_both _ _ (sym (has-cut senders (only row.0) all x) ∙ ap (λ (z : Names). has z x) (sym m.senders) ∙ h)).0)

pub ask_fits : (a : Ask) (all : Names) → ((x : Sender) → has all x ≡ true → name_of (ask_style a) x ≡ x) → (u : AskedUnit) → In u (asked_units a) → Fits (ask_style a) all u
ask_fits (ask.Wild scope flow) all listed u i = ⊎_elim (λ (is : u ≡ record { unit = One; names = scope; flow = flow }). subst (Fits Wild all) (sym is) (wild_fits scope flow all listed))
    (λ (n : ⊥). absurd n) i
ask_fits (ask.Fixed list) all listed u i = let r = in_each fixed_unit u list.rows i in subst (Fits Fixed all) (sym r.2) (fixed_fits r.0 all)
ask_fits (ask.Shared whole) all listed u i = ⊎_elim (λ (is : u ≡ record { unit = One; names = Some whole.senders; flow = whole.flow }). subst (Fits Shared all) (sym is)
    (shared_fits (Some whole.senders) whole.flow all)) (λ (n : ⊥). absurd n) i
