-- The units of a Resv one after another: what each one keeps, all of them keep. And the shape of what a unit asks for.
use Rattle.std.specs.Prelude.{◌≡◌, Bool, true, false, List, [], ◌∷◌, Option, Some, None, refl}
use Rattle.std.proofs.Common.{sym, ap, subst, ◌∙◌, inl, inr, ⊎_elim}
use Rattle.admission_book.specs.declared.refused.Refused.{Refused}
use Rattle.rsvp_base.specs.declared.part.Part.{Part}
use Rattle.rsvp_base.specs.declared.session.Sender.{Sender}
use Rattle.rsvp_base.specs.declared.style.StyleKind.{StyleKind}
use Rattle.rsvp_base.specs.declared.style.StyleKind.TheVariants.{Wild, Fixed, Shared}
use Rattle.rsvp_base.specs.declared.style.Unit.{Unit as UnitOf}
use Rattle.rsvp_base.specs.declared.style.Unit.TheVariants.{One, Of}
use Rattle.rsvp_base.specs.Members.{In}
use Rattle.rsvp_base.specs.Orders.{Names, senders}
use Rattle.rsvp_base.specs.Sets.{IsWithin}
use Rattle.rsvp_base.specs.Table.{has}
use Rattle.rsvp_base.specs.TokenBucket.{TokenBucket, IsSound}
use Rattle.rsvp_base.proofs.Counts.{in_found, set_of_in}
use Rattle.rsvp_base.proofs.Members.{in_each}
use Rattle.rsvp_base.proofs.SetLaws.{and_both, has-cut}
use Rattle.rsvp_messages.specs.declared.ask.Ask.{Ask}
use Rattle.rsvp_messages.specs.declared.ask.Ask.TheVariants as ask
use Rattle.rsvp_messages.specs.Proper.{IsProperAsk}
use Rattle.rsvp_messages.specs.Units.{AskedUnit, asked_units, ask_style, fixed_unit, only}
use Rattle.style_rules.specs.CutLaws.{made_named, made_of}
use Rattle.style_rules.specs.Parts.{IsOfStyle, has_name, part_of}
use Rattle.rsvp_base.specs.Styles.{part_unit, name_of}
use Rattle.style_rules.proofs.StyleLaws.{unit_name}
use Rattle.router_rules.specs.Asking.{Asker, Taking, book_refuses, has_room, lost, names_that_match, put_tested, put_unit, table_with, take_unit, take_units, tell_lost}
use Rattle.router_rules.specs.Facts.{Facts, Resvs}
use Rattle.router_rules.specs.Known.{named_as}
use Rattle.router_rules.specs.NodeConfig.{NodeConfig}
use Rattle.laws_bounds.proofs.Knowing.{named_told}

module _ (p : NodeConfig) (o : Asker) (f : Facts) (all : Names) (P : Resvs → Type 0) where
  -- what a unit keeps that has room and is not refused
  abbrev pub Keeps : AskedUnit → Type 0
  Keeps u = (part : Part) → part_of (names_that_match u.names all) u.flow ≡ Some part → (t : Resvs) → P t → has_room o u.unit part t ≡ true → book_refuses p o f u.unit part t ≡ None
      → P (table_with o u.unit part t)

  unit_keeps : (u : AskedUnit) → Keeps u → (t : Taking) → P t.table → P (take_unit p o f all t u).table
  unit_keeps u keeps t h = by_part (part_of (names_that_match u.names all) u.flow) refl
    where
      told : Taking
      told = tell_lost p o u.flow (lost o.style u.names all) t

      by_tests : (part : Part) → part_of (names_that_match u.names all) u.flow ≡ Some part → (b : Bool) (why : Option Refused) → has_room o u.unit part t.table ≡ b
          → book_refuses p o f u.unit part t.table ≡ why
          → P (put_tested p o f u.unit part b why (tell_lost p o u.flow (lost o.style u.names all) t)).table
      by_tests part is false why r w = h
      by_tests part is true (Some why) r w = h
      by_tests part is true None r w = keeps part is t.table h r w

      by_part : (w : Option Part) → part_of (names_that_match u.names all) u.flow ≡ w → P (put_unit p o f u.unit w (tell_lost p o u.flow (lost o.style u.names all) t)).table
      by_part None is = h
      by_part (Some part) is = by_tests part is (has_room o u.unit part t.table) (book_refuses p o f u.unit part t.table) refl refl

  pub units_keep : (us : List AskedUnit) → ((u : AskedUnit) → In u us → Keeps u) → (t : Taking) → P t.table → P (take_units p o f all t us).table
  units_keep [] keeps t h = h
  units_keep (u ∷ us) keeps t h = units_keep us (λ v i. keeps v (inr i)) (take_unit p o f all t u) (unit_keeps u (keeps u (inl refl)) t h)

-- ---- names under which a style lists senders
name_twice : (st : StyleKind) (x : Sender) → name_of st (name_of st x) ≡ name_of st x
name_twice Wild x = refl
name_twice Fixed x = refl
name_twice Shared x = refl

pub names_listed : (st : StyleKind) (names : Names) (x : Sender) → has (named_as st names) x ≡ true → name_of st x ≡ x
names_listed st names x e = let n = named_told st names x e in ap (name_of st) n.name ∙ name_twice st n.sender ∙ sym n.name

-- ---- the shape of what a unit asks for
pub record IsUnitShape (st : StyleKind) (u : UnitOf) (part : Part) : Type 0 where
  pub style : IsOfStyle st part
  pub unit : u ≡ part_unit st part
  pub flow : IsSound part.flow

-- those that match are among all
matching_within : (names : Option Names) (all : Names) → IsWithin (names_that_match names all) all
matching_within None all x e = e
matching_within (Some names) all x e = (and_both _ _ (sym (has-cut senders names all x) ∙ e)).1

pub only_one : (s x : Sender) → has (only s) x ≡ true → x ≡ s
only_one s x e = ⊎_elim (λ (is : x ≡ s). is) (λ (n : ⊥). absurd n) (set_of_in senders (s ∷ []) x e)

wild_shape : (scope : Option Names) (flow : TokenBucket) (all : Names) (part : Part) → IsSound flow → ((x : Sender) → has all x ≡ true → name_of Wild x ≡ x)
    → part_of (names_that_match scope all) flow ≡ Some part → IsUnitShape Wild One part
wild_shape scope flow all part sound listed e =
    let m = made_of (names_that_match scope all) flow part e in
    let named : has_name part ≡ true = made_named (names_that_match scope all) flow part e in
    record {
      style = record { named = named; listed = λ s h. listed s (matching_within scope all s (ap (λ (z : Names). has z s) (sym m.senders) ∙ h)); one_unit = λ s t h g. refl };
      unit = sym (unit_name Wild part named).unit;
      flow = subst IsSound (sym m.flow) sound;
    }

shared_shape : (names all : Names) (flow : TokenBucket) (part : Part) → IsSound flow → part_of (names_that_match (Some names) all) flow ≡ Some part → IsUnitShape Shared One part
shared_shape names all flow part sound e =
    let m = made_of (names_that_match (Some names) all) flow part e in
    let named : has_name part ≡ true = made_named (names_that_match (Some names) all) flow part e in
    record { style = record { named = named; listed = λ s h. refl; one_unit = λ s t h g. refl }; unit = sym (unit_name Shared part named).unit; flow = subst IsSound (sym m.flow) sound }

fixed_shape : (s : Sender) (all : Names) (flow : TokenBucket) (part : Part) → IsSound flow → part_of (names_that_match (Some (only s)) all) flow ≡ Some part → IsUnitShape Fixed (Of s) part
fixed_shape s all flow part sound e =
    let m = made_of (names_that_match (Some (only s)) all) flow part e in
    let named : has_name part ≡ true = made_named (names_that_match (Some (only s)) all) flow part e in
    let first = unit_name Fixed part named in
    record {
      style = record { named = named; listed = λ x h. refl; one_unit = λ x y h g. ap Of (one x h ∙ sym (one y g)) };
      unit = ap Of (sym (one first.name first.there)) ∙ sym first.unit;
      flow = subst IsSound (sym m.flow) sound;
    }
  where
    one : (x : Sender) → has part.senders x ≡ true → x ≡ s
    one x h =
        let m = made_of (names_that_match (Some (only s)) all) flow part e in
        only_one s x (and_both _ _ (sym (has-cut senders (only s) all x) ∙ ap (λ (z : Names). has z x) (sym m.senders) ∙ h)).0

pub unit_shape : (a : Ask) → IsProperAsk a → (all : Names) → ((x : Sender) → has all x ≡ true → name_of (ask_style a) x ≡ x) → (u : AskedUnit) → In u (asked_units a) → (part : Part)
    → part_of (names_that_match u.names all) u.flow ≡ Some part
    → IsUnitShape (ask_style a) u.unit part
unit_shape (ask.Wild scope flow) proper all listed u i part e =
    ⊎_elim
    (λ (is : u ≡ record { unit = One; names = scope; flow = flow }).
    subst (λ (z : UnitOf). IsUnitShape Wild z part) (ap (λ (z : AskedUnit). z.unit) (sym is))
    (wild_shape scope flow all part proper.flow_is listed (ap (λ (z : AskedUnit). part_of (names_that_match z.names all) z.flow) (sym is) ∙ e)))
    (λ (n : ⊥). absurd n)
    i
unit_shape (ask.Fixed list) proper all listed u i part e =
    let r = in_each fixed_unit u list.rows i in
    let s = r.0.0 in
    subst (λ (z : UnitOf). IsUnitShape Fixed z part) (ap (λ (z : AskedUnit). z.unit) (sym r.2))
    (fixed_shape r.0.0 all r.0.1 part (proper.flows r.0.0 r.0.1 (in_found senders list r.0.0 r.0.1 r.1)) (ap (λ (z : AskedUnit). part_of (names_that_match z.names all) z.flow) (sym r.2) ∙ e))
unit_shape (ask.Shared whole) proper all listed u i part e =
    ⊎_elim
    (λ (is : u ≡ record { unit = One; names = Some whole.senders; flow = whole.flow }).
    subst (λ (z : UnitOf). IsUnitShape Shared z part) (ap (λ (z : AskedUnit). z.unit) (sym is))
    (shared_shape whole.senders all whole.flow part proper.flow (ap (λ (z : AskedUnit). part_of (names_that_match z.names all) z.flow) (sym is) ∙ e)))
    (λ (n : ⊥). absurd n)
    i
