-- A node that comes to know more senders, and whose reservations name no fewer, asks for no fewer names toward a previous hop.
use Rattle.std.proofs.Common.{◌≡◌, ℕ, Bool, true, false, Some, ◌⊎◌, inl, inr, ⊎_elim, sym, refl, ap, subst, ◌∙◌}
use Rattle.std.specs.Prelude.{◌||◌}
use Rattle.rsvp_base.specs.declared.part.Part.{Part}
use Rattle.rsvp_base.specs.declared.session.Sender.{Sender}
use Rattle.rsvp_base.specs.declared.style.StyleKind.{StyleKind}
use Rattle.rsvp_base.specs.declared.style.StyleKind.TheVariants.{Wild, Fixed, Shared}
use Rattle.rsvp_base.specs.declared.style.Unit.{Unit as UnitOf}
use Rattle.rsvp_base.specs.Members.{In}
use Rattle.rsvp_base.specs.Orders.{Names, senders}
use Rattle.rsvp_base.specs.Sets.{cut}
use Rattle.rsvp_base.specs.Styles.{name_of}
use Rattle.rsvp_base.specs.Table.{get, has}
use Rattle.rsvp_base.proofs.SetLaws.{and_both, and_made, has-cut, has-union}
use Rattle.router_rules.specs.CutLaws.{cut_of, made_named, made_of, part_of_some}
use Rattle.router_rules.specs.Lines.{NextHop}
use Rattle.router_rules.specs.Parts.{IsOfStyle, part_cut, part_join}
use Rattle.router_rules.specs.Toward.{IsRequestOf, Request}
use Rattle.router_rules.proofs.StyleRules.StyleLaws.{common_unit, cut_of_style, wild_parts}
use Rattle.router_rules.proofs.Towards.{open_below, toward_keeps, toward_there}
use Rattle.laws_bounds.specs.FactLaws.{ComesBy, IsResvRequest, IsWantRequest}
use Rattle.laws_bounds.proofs.Knowing.{known_and_via}
use Rattle.laws_bounds.proofs.Lists.{has_some as some_names}
use Rattle.laws_bounds.proofs.Requesting.{requests_and_toward}
use Rattle.router_rules.specs.Bounds.{IsWantShape, IsWithinBounds}
use Rattle.router_rules.specs.Facts.{Facts, ResvState, Want, resvs_of}
use Rattle.router_rules.specs.Known.{Lane, names_via, names_via_where}
use Rattle.router_rules.specs.NodeConfig.{NodeConfig, goes_out}
use Rattle.router_rules.specs.Requests.{requests, toward, want_part}
use Rattle.laws_network.proofs.Known.{has_some}
use Rattle.settle_resvs.specs.Sessions.{HasNoBlockade}
use Rattle.settle_resvs.proofs.TowardIsTheWant.{unmarked}

-- a name of a part that stays in a cut
cut_with : (p : Part) (ns : Names) (x : Sender) → has p.senders x ≡ true → has ns x ≡ true → (y : Part) × (part_cut p ns ≡ Some y) × (has y.senders x ≡ true)
cut_with p ns x a b =
    let both : has (cut p.senders ns) x ≡ true = has-cut senders p.senders ns x ∙ and_made _ _ a b in
    (record { senders = cut p.senders ns; flow = p.flow }, part_of_some (cut p.senders ns) p.flow (some_names (cut p.senders ns) x both), both)

cut_names : (p y : Part) (ns : Names) (x : Sender) → part_cut p ns ≡ Some y → has y.senders x ≡ true → (has p.senders x ≡ true) × (has ns x ≡ true)
cut_names p y ns x e h = and_both _ _ (sym (has-cut senders p.senders ns x) ∙ ap (λ (z : Names). has z x) (sym (cut_of p y ns e).senders) ∙ h)

-- a want of more names, too
want_with : (st : StyleKind) (ns ns' : Names) (p y : Part) (x : Sender) → want_part st ns p ≡ Some y → has y.senders x ≡ true → ((z : Sender) → has ns z ≡ true → has ns' z ≡ true)
    → (y' : Part) × (want_part st ns' p ≡ Some y') × (has y'.senders x ≡ true)
want_with Wild ns ns' p y x e h more =
    let m = made_of ns p.flow y e in
    let there = more x (ap (λ (z : Names). has z x) (sym m.senders) ∙ h) in
    (record { senders = ns'; flow = p.flow }, part_of_some ns' p.flow (some_names ns' x there), there)
want_with Fixed ns ns' p y x e h more = let b = cut_names p y ns x e h in cut_with p ns' x b.0 (more x b.1)
want_with Shared ns ns' p y x e h more = let b = cut_names p y ns x e h in cut_with p ns' x b.0 (more x b.1)

-- ---- each request is of its style
want_style : (st : StyleKind) (ns : Names) → ((x : Sender) → has ns x ≡ true → name_of st x ≡ x) → (u : UnitOf) (p q : Part) → IsWantShape st u p → want_part st ns p ≡ Some q → IsOfStyle st q
want_style Wild ns listed u p q is e =
    let m = made_of ns p.flow q e in
    (wild_parts q).1 (made_named ns p.flow q e, λ x t. sym (ap (λ (z : Sender). z.port) (listed x (subst (λ (z : Names). has z x ≡ true) m.senders t))))
want_style Fixed ns listed u p q is e = cut_of_style Fixed p q ns is.0 e
want_style Shared ns listed u p q is e = cut_of_style Shared p q ns is.0 e

name_again : (st : StyleKind) (a : Sender) → name_of st (name_of st a) ≡ name_of st a
name_again Wild a = refl
name_again Fixed a = refl
name_again Shared a = refl

request : (p : NodeConfig) (c : ℕ) (f : Facts) → IsWithinBounds p c f → (l : Lane) (x : Request) → In x (requests p f l) → IsOfStyle l.style x.part
request p c f within l x i =
    ⊎_elim
    (λ (r : IsResvRequest p f l x).
    cut_of_style l.style r.resv.part x.part (names_via_where f l (goes_out p l.session r.key.0.0)) (within.shapes.resvs l.style (l.session, r.key) r.resv r.there).style r.part)
    (λ (r : IsWantRequest f l x).
    want_style l.style (names_via f l) (λ y e. let a = (known_and_via.all_by f l y).0 e in ap (name_of l.style) a.name ∙ name_again l.style a.sender ∙ sym a.name) r.unit r.want.part x.part
    (subst (λ (z : StyleKind). IsWantShape z r.unit r.want.part) r.style (within.shapes.wants (l.session, r.unit) r.want r.there).shape) r.part)
    ((requests_and_toward.each p f l x).0 i)

module _ (p : NodeConfig) (b c : ℕ) (f g : Facts) (within : IsWithinBounds p b f) (within' : IsWithinBounds p c g) (l : Lane) (free : HasNoBlockade l.session g.walls)
    (wants_on : (u : UnitOf) (x : Want) → get f.wants (l.session, u) ≡ Some x → (y : Want) × (get g.wants (l.session, u) ≡ Some y) × (y.style ≡ x.style) × (y.part ≡ x.part))
    (via_on : (x : Sender) → ComesBy f l.session l.hop x → ComesBy g l.session l.hop x)
    (resvs_on : (key : NextHop × UnitOf) (r : ResvState) (x : Sender) → get (resvs_of l.style f) (l.session, key) ≡ Some r → has r.part.senders x ≡ true
    → (r' : ResvState) × (get (resvs_of l.style g) (l.session, key) ≡ Some r') × (has r'.part.senders x ≡ true)) where
  where_on : (test : Sender → Bool) (x : Sender) → has (names_via_where f l test) x ≡ true → has (names_via_where g l test) x ≡ true
  where_on test x e =
      let a = (known_and_via.names_by f l test x).0 e in
      (known_and_via.names_by g l test x).1
      (record {
        sender = a.sender;
        among = (known_and_via.via_by g l.session l.hop a.sender).1 (via_on a.sender ((known_and_via.via_by f l.session l.hop a.sender).0 a.among));
        passes = a.passes;
        name = a.name;
      })

  all_on : (x : Sender) → has (names_via f l) x ≡ true → has (names_via g l) x ≡ true
  all_on x e =
      let a = (known_and_via.all_by f l x).0 e in
      (known_and_via.all_by g l x).1
      (record {
        sender = a.sender;
        among = (known_and_via.via_by g l.session l.hop a.sender).1 (via_on a.sender ((known_and_via.via_by f l.session l.hop a.sender).0 a.among));
        passes = a.passes;
        name = a.name;
      })

  -- the request that asks for the name afterwards
  record StillAsks (u : UnitOf) (x : Sender) : Type 0 where
    by : Request
    is : IsRequestOf l.style (requests p g l) u by
    names_it : has by.part.senders x ≡ true

  made : (u : UnitOf) (x : Sender) (r : Request) → IsRequestOf l.style (requests p f l) u r → has r.part.senders x ≡ true → (y : Request) → In y (requests p g l) → has y.part.senders x ≡ true
      → StillAsks u x
  made u x r is e y among there =
      let old = request p b f within l r is.among in
      let new = request p c g within' l y among in
      record { by = y; is = record { among = among; named = new.named; unit = is.unit ∙ common_unit l.style r.part y.part x old new e there }; names_it = there }

  still_asks : (u : UnitOf) (x : Sender) (r : Request) → IsRequestOf l.style (requests p f l) u r → has r.part.senders x ≡ true → StillAsks u x
  still_asks u x r is e =
      ⊎_elim
      (λ (a : IsResvRequest p f l r).
      let ns : Names = names_via_where f l (goes_out p l.session a.key.0.0) in
      let both = cut_names a.resv.part r.part ns x a.part e in
      let on = resvs_on a.key a.resv x a.there both.0 in
      let y = cut_with on.0.part (names_via_where g l (goes_out p l.session a.key.0.0)) x on.2 (where_on (goes_out p l.session a.key.0.0) x both.1) in
      let q : Request = record { part = y.0; blockaded = _ } in
      made u x r is e q ((requests_and_toward.each p g l q).1 (inl (record { key = a.key; resv = on.0; there = on.1; part = y.1; blockaded = refl }))) y.2)
      (λ (a : IsWantRequest f l r).
      let z = wants_on a.unit a.want a.there in
      let y = want_with l.style (names_via f l) (names_via g l) a.want.part r.part x a.part e all_on in
      let q : Request = record { part = y.0; blockaded = _ } in
      made u x r is e q
      ((requests_and_toward.each p g l q).1
      (inr (record { unit = a.unit; want = z.0; there = z.1; style = z.2 ∙ a.style; part = ap (want_part l.style (names_via g l)) z.3 ∙ y.1; blockaded = refl }))) y.2)
      ((requests_and_toward.each p f l r).0 is.among)

  abbrev Asks : UnitOf → Part → Type 0
  Asks u t = (x : Sender) → has t.senders x ≡ true → StillAsks u x

  pub names_rise : (u : UnitOf) (t : Part) (x : Sender) → get (toward p f l) u ≡ Some t → has t.senders x ≡ true → (t' : Part) × (get (toward p g l) u ≡ Some t') × (has t'.senders x ≡ true)
  names_rise u t x e h =
      let s = toward_keeps l.style (Asks u)
      (λ a d m n y i. ⊎_elim (λ (z : has a.senders y ≡ true). m y z) (λ (z : has d.senders y ≡ true). n y z) (either_of a d y i))
      (λ a d m n y i. ⊎_elim (λ (z : has a.senders y ≡ true). m y z) (λ (z : has d.senders y ≡ true). n y z) (either_of a d y i))
      (requests p f l) u t e (λ r is y i. still_asks u y r is i) x h in
      let there = has_some (get (toward p g l) u) (toward_there l.style (requests p g l) u s.by s.is) in
      let up = open_below l.style (requests p g l) u there.0 s.by (record { request = s.is; unmarked = unmarked p g l free s.by s.is.among }) there.1 in
      (there.0, there.1, up.names x s.names_it)
    where
      or_which : (m n : Bool) → (m || n) ≡ true → (m ≡ true) ⊎ (n ≡ true)
      or_which true n e = inl refl
      or_which false n e = inr e

      either_of : (a d : Part) (y : Sender) → has (part_join a d).senders y ≡ true → (has a.senders y ≡ true) ⊎ (has d.senders y ≡ true)
      either_of a d y i = or_which (has a.senders y) (has d.senders y) (sym (has-union senders a.senders d.senders y) ∙ i)
