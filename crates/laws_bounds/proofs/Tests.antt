-- What the tests tell.
use Rattle.std.specs.Prelude.{◌≡◌, ℕ, true, false, not, Option, Some, None, refl}
use Rattle.std.proofs.Common.{sym, ap, subst, ◌∙◌}
use Rattle.std.proofs.lemmas.Bool.{eqb-true, eq-eqb}
use Rattle.std.specs.Ordering.{eq_by_cmp}
use Rattle.router_rules.proofs.AdspecPath.Same.{itself as told_itself}
use Rattle.router_rules.specs.RsvpBase.declared.addr.Addr.{Addr}
use Rattle.router_rules.specs.RsvpBase.declared.part.Part.{Part}
use Rattle.router_rules.specs.RsvpBase.declared.session.Session.{Session}
use Rattle.router_rules.specs.RsvpBase.declared.style.StyleKind.{StyleKind}
use Rattle.router_rules.specs.RsvpBase.declared.style.Unit.{Unit as UnitOf}
use Rattle.router_rules.specs.RsvpBase.Keys.{Keys}
use Rattle.router_rules.specs.RsvpBase.Orders.{addr_apart, sessions, styles, units}
use Rattle.router_rules.specs.RsvpBase.Table.{get}
use Rattle.router_rules.specs.RsvpBase.TokenBucket.{TokenBucket}
use Rattle.router_rules.proofs.RsvpBase.Counts.{in_found, found_in}
use Rattle.router_rules.proofs.RsvpBase.Members.{all_in, in_all}
use Rattle.router_rules.proofs.RsvpBase.SetLaws.{and_both, and_made}
use Rattle.router_rules.proofs.RsvpBase.Tables.{same_table, tied_same, tied_self}
use Rattle.router_rules.proofs.Lattice.{at_most_itself, same_flow as flows_same}
use Rattle.router_rules.proofs.Told.{at_most_told, at_most_tested}
use Rattle.router_rules.specs.Lines.{NextHop}
use Rattle.router_rules.specs.Merge.{PartTable}
use Rattle.router_rules.specs.Parts.{part_le}
use Rattle.router_rules.specs.PartLaws.{part_at_most_told, part_at_most_tested, part_at_most_itself, part_at_most_both_ways}
use Rattle.router_rules.proofs.Room.{within_told, within_tested}
use Rattle.router_rules.specs.Books.{lines_of}
use Rattle.router_rules.specs.Facts.{PathState}
use Rattle.router_rules.specs.Known.{came_by}
use Rattle.router_rules.specs.NodeConfig.{NodeConfig, is_addr, is_session}
use Rattle.router_rules.specs.Offers.{Offer}
use Rattle.router_rules.specs.Requests.{is_style}
use Rattle.router_rules.specs.Sends.{is_new_offer, is_part_in, parts_le, same_flow, same_parts, stands_for, told_at}
use Rattle.laws_bounds.specs.FactLaws.{TestsTell}

-- keys tie exactly where they are one
pub ties : {K : Type 0} (o : Keys K) (a b : K) → a ≡ b → eq_by_cmp o.cmp a b ≡ true
ties o a b e = subst (λ c. eq_by_cmp o.cmp a c ≡ true) e (tied_self o a)

pub addr_told : (a b : Addr) → is_addr a b ≡ true → a ≡ b
addr_told a b e = addr_apart a b (eqb-true a.0 b.0 e)

pub addr_tested : (a b : Addr) → a ≡ b → is_addr a b ≡ true
addr_tested a b e = eq-eqb a.0 b.0 (ap (λ (x : Addr). x.0) e)

pub session_told : (s t : Session) → is_session s t ≡ true → s ≡ t
session_told s t e = tied_same sessions s t e

pub style_told : (a b : StyleKind) → is_style a b ≡ true → a ≡ b
style_told a b e = tied_same styles a b e

pub came_told : (hop : NextHop) (x : PathState) → came_by hop x ≡ true → (x.iface ≡ hop.0) × (x.hop.addr ≡ hop.1)
came_told hop x e = let r = and_both _ _ e in (eqb-true x.iface hop.0 r.0, addr_told x.hop.addr hop.1 r.1)

pub came_tested : (hop : NextHop) (x : PathState) → (x.iface ≡ hop.0) × (x.hop.addr ≡ hop.1) → came_by hop x ≡ true
came_tested hop x r = and_made _ _ (eq-eqb x.iface hop.0 r.0) (addr_tested x.hop.addr hop.1 r.1)

pub flow_told : (a b : TokenBucket) → same_flow a b ≡ true → a ≡ b
flow_told a b e = let r = and_both _ _ e in flows_same a b (at_most_told a b r.0) (at_most_told b a r.1)

pub flow_tested : (a b : TokenBucket) → a ≡ b → same_flow a b ≡ true
flow_tested a b e = subst (λ c. same_flow a c ≡ true) e (and_made _ _ (at_most_tested a a (at_most_itself a)) (at_most_tested a a (at_most_itself a)))

-- what was offered is not new at any interface
pub not_new : (p : NodeConfig) (i : ℕ) (o : Offer) → is_new_offer p i o (Some o) ≡ false
not_new p i o = ap not (and_made _ _ (flow_tested o.tspec o.tspec refl) (told_itself (told_at p i o)))

-- ---- tables of parts
stands_told : (part : Part) (w : Option Part) → stands_for part w ≡ true → (other : Part) × (w ≡ Some other) × (part_le part other ≡ true)
stands_told part None e = cc
stands_told part (Some other) e = (other, refl, e)

-- each part of the one has one in the other that can stand for it
below_told : (s t : PartTable) → parts_le s t ≡ true → (u : UnitOf) (x : Part) → get s u ≡ Some x → (y : Part) × (get t u ≡ Some y) × (part_le x y ≡ true)
below_told s t e u x g = stands_told x (get t u) (all_in (is_part_in t) s.rows e (u, x) (found_in units s u x g))

below_itself : (t : PartTable) → parts_le t t ≡ true
below_itself t = in_all (is_part_in t) t.rows (λ e i. ap (stands_for e.1) (in_found units t e.0 e.1 i) ∙ part_at_most_tested e.1 e.1 (part_at_most_itself e.1))

pub parts_told : (s t : PartTable) → same_parts s t ≡ true → s ≡ t
parts_told s t e = same_table units s t (λ u. by u (get s u) (get t u) refl refl)
  where
    both : (parts_le s t ≡ true) × (parts_le t s ≡ true)
    both = and_both (parts_le s t) (parts_le t s) e

    by : (u : UnitOf) (v w : Option Part) → get s u ≡ v → get t u ≡ w → v ≡ w
    by u None None g h = refl
    by u (Some x) None g h = let r = below_told s t both.0 u x g in let z : Some r.0 ≡ None = sym r.1 ∙ h in absurd (cc)
    by u None (Some y) g h = let r = below_told t s both.1 u y h in let z : Some r.0 ≡ None = sym r.1 ∙ g in absurd (cc)
    by u (Some x) (Some y) g h =
        let r = below_told s t both.0 u x g in
        let q = below_told t s both.1 u y h in
        let a : Some r.0 ≡ Some y = sym r.1 ∙ h in
        let b : Some q.0 ≡ Some x = sym q.1 ∙ g in
        let under : r.0 ≡ y = cc in
        let over : q.0 ≡ x = cc in
        ap Some (part_at_most_both_ways x y (part_at_most_told x y (subst (λ z. part_le x z ≡ true) under r.2)) (part_at_most_told y x (subst (λ z. part_le y z ≡ true) over q.2)))

pub parts_tested : (s t : PartTable) → s ≡ t → same_parts s t ≡ true
parts_tested s t e = subst (λ z. same_parts s z ≡ true) e (and_made _ _ (below_itself s) (below_itself s))

pub tests_tell : TestsTell
tests_tell =
    record {
      by_addr = λ a b. (addr_told a b, addr_tested a b);
      by_session = λ s t. (session_told s t, ties sessions s t);
      by_style = λ a b. (style_told a b, ties styles a b);
      by_flow = λ a b. (flow_told a b, flow_tested a b);
      by_parts = λ s t. (parts_told s t, parts_tested s t);
      by_hop = λ hop x. (came_told hop x, came_tested hop x);
      by_limits = λ st t. (within_told st (lines_of st t), within_tested st (lines_of st t));
    }
