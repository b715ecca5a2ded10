-- What goes on is below the blockades that speak of it, and a blockade stays until it dies, is replaced or goes with its node's
-- state.
use Rattle.std.proofs.Common.{leb-false, ◌≡◌, ℕ, ◌<◌, List, [], ◌∷◌, Bool, true, false, cond, Option, Some, inl, ⊎_elim, refl, sym, ap, subst, ◌∙◌}
use Rattle.std.specs.Prelude.{nat_le, ◌==◌, ◌&&◌, is_some, map as each}
use Rattle.std.specs.List.{list_any}
use Rattle.std.specs.Option.{option_map}
use Rattle.rsvp_base.specs.declared.part.Part.{Part}
use Rattle.rsvp_base.specs.declared.session.Sender.{Sender}
use Rattle.rsvp_base.specs.declared.style.StyleKind.{StyleKind}
use Rattle.rsvp_base.specs.declared.style.StyleKind.TheVariants.{Wild, Fixed, Shared}
use Rattle.rsvp_base.specs.declared.style.Unit.{Unit as UnitOf}
use Rattle.rsvp_base.specs.declared.style.Unit.TheVariants.{Of}
use Rattle.rsvp_base.specs.Members.{In}
use Rattle.rsvp_base.specs.Orders.{Names, senders}
use Rattle.rsvp_base.specs.Styles.{unit_of_first}
use Rattle.rsvp_base.specs.Table.{get, has, keys}
use Rattle.rsvp_base.specs.TokenBucket.{TokenBucket}
use Rattle.rsvp_base.proofs.Counts.{found_in, in_found}
use Rattle.rsvp_base.proofs.Members.{any_in, to_each}
use Rattle.flow_merge.specs.Blockade.{does_blockade}
use Rattle.style_rules.specs.declared.target.Target.TheVariants as target
use Rattle.style_rules.specs.declared.wall.Wall.{Wall}
use Rattle.style_rules.specs.Targets.{WallKey}
use Rattle.style_rules.specs.Toward.{IsOpenRequestOf, Request, is_walled}
use Rattle.style_rules.proofs.Towards.{open_charge, open_most, toward_join, toward_there}
use Rattle.laws_bounds.specs.FactLaws.{IsResvRequest, IsWantRequest}
use Rattle.laws_bounds.proofs.Requesting.{requests_and_toward}
use Rattle.router_rules.specs.Facts.{Blockade, Facts, Walls}
use Rattle.router_rules.specs.Known.{Lane}
use Rattle.router_rules.specs.NodeConfig.{NodeConfig}
use Rattle.router_rules.specs.Requests.{is_blockaded, requests, toward, wall_at}
use Rattle.laws_network.proofs.Known.{has_some}
use Rattle.laws_safety.specs.Blockades.{IsBelow, SpeaksOf, WhatGoesOnIsBelow}

-- ---- one request
below_by : (wall : Wall) (flow : TokenBucket) → does_blockade wall.flow wall.sub flow ≡ false → IsBelow wall flow
below_by wall flow free = record {
  rate = λ two. leb-false wall.flow.r flow.r (sym (ap (λ (n : ℕ). cond (n == 2) (nat_le wall.flow.r flow.r) ((n == 3) && nat_le wall.flow.most flow.most)) two) ∙ free);
  size = λ three. leb-false wall.flow.most flow.most (sym (ap (λ (n : ℕ). cond (n == 2) (nat_le wall.flow.r flow.r) ((n == 3) && nat_le wall.flow.most flow.most)) three) ∙ free);
}

walled_below : (w : Walls) (k : WallKey) (b : Blockade) (flow : TokenBucket) → get w k ≡ Some b → is_walled flow (wall_at w k) ≡ false → IsBelow b.wall flow
walled_below w k b flow there free = below_by b.wall flow (sym (ap (λ (o : Option Blockade). is_walled flow (option_map (λ (x : Blockade). x.wall) o)) there) ∙ free)

none_of : {A : Type 0} (test : A → Bool) (x : A) (xs : List A) → In x xs → list_any test xs ≡ false → test x ≡ false
none_of test x xs i free = by (test x) refl
  where
    by : (b : Bool) → test x ≡ b → b ≡ false
    by true e = let z : true ≡ false = sym (any_in test x xs i e) ∙ free in cc
    by false e = refl

in_names : (names : Names) (x : Sender) → has names x ≡ true → In x (keys names)
in_names names x h = let v = has_some (get names x) h in to_each (λ (e : Sender × Unit {0}). e.0) (x, v.0) names.rows (found_in senders names x v.0 v.1)

by_senders : (w : Walls) (l : Lane) (p : Part) (k : WallKey) (b : Blockade) → list_any (λ s. is_walled p.flow (wall_at w (l.session, target.Sender s))) (keys p.senders) ≡ false
    → (x : Sender) × (has p.senders x ≡ true) × (k ≡ (l.session, target.Sender x)) → get w k ≡ Some b → IsBelow b.wall p.flow
by_senders w l p k b free x there =
    walled_below w (l.session, target.Sender x.0) b p.flow (ap (get w) (sym x.2) ∙ there)
    (none_of (λ s. is_walled p.flow (wall_at w (l.session, target.Sender s))) x.0 (keys p.senders) (in_names p.senders x.0 x.1) free)

open_below : (st : StyleKind) (w : Walls) (l : Lane) (p : Part) (k : WallKey) (b : Blockade) → is_blockaded st w l p ≡ false → SpeaksOf l st p k → get w k ≡ Some b → IsBelow b.wall p.flow
open_below Wild w l p k b free is there = walled_below w (l.session, target.Hop l.hop.0 l.hop.1) b p.flow (ap (get w) (sym is) ∙ there) free
open_below Fixed w l p k b free x there = by_senders w l p k b free x there
open_below Shared w l p k b free x there = by_senders w l p k b free x there

module _ (p : NodeConfig) (f : Facts) (l : Lane) where
  request_below : (r : Request) (k : WallKey) (b : Blockade) → In r (requests p f l) → r.blockaded ≡ false → SpeaksOf l l.style r.part k → get f.walls k ≡ Some b → IsBelow b.wall r.part.flow
  request_below r k b i free speaks there =
      let judged : r.blockaded ≡ is_blockaded l.style f.walls l r.part =
      ⊎_elim (λ (x : IsResvRequest p f l r). x.blockaded) (λ (x : IsWantRequest f l r). x.blockaded) ((requests_and_toward.each p f l r).0 i) in
      open_below l.style f.walls l r.part k b (sym judged ∙ free) speaks there

  -- ---- what goes on of a unit
  goes_on : (u : UnitOf) (r : Request) → IsOpenRequestOf l.style (requests p f l) u r → (t : Part) × (get (toward p f l) u ≡ Some t)
  goes_on u r free = has_some (get (toward p f l) u) (toward_there l.style (requests p f l) u r free.request)

  -- its rate and its packet size are those of free requests
  unit_below : (u : UnitOf) (r : Request) (t : Part) (k : WallKey) (b : Blockade) → IsOpenRequestOf l.style (requests p f l) u r → get (toward p f l) u ≡ Some t → get f.walls k ≡ Some b
      → ((x : Request) → IsOpenRequestOf l.style (requests p f l) u x → SpeaksOf l l.style x.part k) → IsBelow b.wall t.flow
  unit_below u r t k b free goes there speaks =
      let c = open_charge l.style (requests p f l) u t r free goes in
      let m = open_most l.style (requests p f l) u t r free goes in
      record {
        rate = λ two. subst (λ (z : ℕ). z < b.wall.flow.r) c.2 ((request_below c.0 k b c.1.request.among c.1.unmarked (speaks c.0 c.1) there).rate two);
        size = λ three. subst (λ (z : ℕ). z < b.wall.flow.most) m.2 ((request_below m.0 k b m.1.request.among m.1.unmarked (speaks m.0 m.1) there).size three);
      }

-- the sender of a fixed unit is named
first_named : (names : Names) (x : Sender) → Of x ≡ unit_of_first Fixed (keys names) → has names x ≡ true
first_named names x e = by names.rows refl e
  where
    by : (rows : List (Sender × Unit {0})) → names.rows ≡ rows → Of x ≡ unit_of_first Fixed (each (λ (e : Sender × Unit {0}). e.0) rows) → has names x ≡ true
    by [] is g = absurd (cc)
    by (y ∷ ys) is g =
        let same : y.0 ≡ x = cc in
        ap is_some (ap (get names) (sym same) ∙ in_found senders names y.0 y.1 (subst (λ (z : List (Sender × Unit {0})). In y z) (sym is) (inl refl)))

pub what_goes_on_is_below : WhatGoesOnIsBelow
what_goes_on_is_below p f l u r free = (
  t,
  record {
    goes = goes;
    join = sym goes ∙ toward_join l.style (requests p f l) u r free.request free.unmarked;
    each = λ x k b free speaks there. request_below p f l x k b free.request.among free.unmarked speaks there;
    wild = λ b style there.
        unit_below p f l u r t (l.session, target.Hop l.hop.0 l.hop.1) b free goes there
        (λ x h. subst (λ (st : StyleKind). SpeaksOf l st x.part (l.session, target.Hop l.hop.0 l.hop.1)) (sym style) refl);
    fixed = λ x b style unit there.
        unit_below p f l u r t (l.session, target.Sender x) b free goes there
        (λ y h.
        let named : Of x ≡ unit_of_first Fixed (keys y.part.senders) = sym unit ∙ h.request.unit ∙ ap (λ (st : StyleKind). unit_of_first st (keys y.part.senders)) style in
        subst (λ (st : StyleKind). SpeaksOf l st y.part (l.session, target.Sender x)) (sym style) (x, first_named y.part.senders x named, refl));
  },
)
  where
    t : Part
    t = (goes_on p f l u r free).0

    goes : get (toward p f l) u ≡ Some t
    goes = (goes_on p f l u r free).1
