-- What goes toward a hop, against the merge and the meet of the same requests.
use Rattle.std.specs.Prelude.{◌≡◌, ◌⊎◌, ℕ, max, Bool, true, false, cond, not, ◌||◌, Option, Some, None, List, [], ◌∷◌, map as each, is_some, refl}
use Rattle.std.proofs.Common.{sym, ap, subst, ◌∙◌, arith, inl, inr, ⊎_elim}
use Rattle.std.proofs.lemmas.Bool.{cases_lt}
use Rattle.std.specs.List.{fold}
use Rattle.rsvp_base.specs.declared.part.Part.{Part}
use Rattle.rsvp_base.specs.declared.style.StyleKind.{StyleKind}
use Rattle.rsvp_base.specs.declared.style.Unit.{Unit as UnitOf}
use Rattle.rsvp_base.specs.Members.{In}
use Rattle.rsvp_base.specs.Orders.{units, senders}
use Rattle.rsvp_base.specs.Sets.{union, IsWithin}
use Rattle.rsvp_base.specs.Table.{get, has}
use Rattle.rsvp_base.specs.TokenBucket.{TokenBucket}
use Rattle.rsvp_base.proofs.Members.{in_each, to_each, in_filter, to_filter}
use Rattle.rsvp_base.proofs.Tables.{same_table}
use Rattle.rsvp_base.proofs.SetLaws.{has-union}
use Rattle.flow_merge.specs.FlowOrder.{IsAtMost, flow_join, flow_meet}
use Rattle.flow_merge.proofs.Lattice.{at_most_itself, at_most_along, join_above_left, meet_below_left, meet_below_right}
use Rattle.style_rules.specs.Parts.{part_join, part_meet, part_charge, IsPartAtMost}
use Rattle.rsvp_base.specs.Styles.{part_unit}
use Rattle.style_rules.specs.Merge.{all_by, merge}
use Rattle.style_rules.specs.Toward.{Request, request_unit, parts_of, open_of, requests_at, or_else, toward_at, toward, IsRequestOf, IsOpenRequestOf, flows_of, meet_at}
use Rattle.style_rules.specs.PartLaws.{part_at_most_itself, part_at_most_along, part_join_above_left, part_join_above_right, part_join_least}
use Rattle.style_rules.proofs.Folds.{all_keeps, all_above, all_some, some_all, all_under}
use Rattle.style_rules.proofs.Merges.{get-table_at_all, none_those, in_those, to_those, get-merge_of, merge_of-each}

-- ---- look-up
or_none : {X : Type 0} (v w : Option X) → v ≡ None → w ≡ None → or_else v w ≡ None
or_none None w e f = f
or_none (Some x) w e f = e

pub get-toward : (st : StyleKind) (rs : List Request) (u : UnitOf) → get (toward st rs) u ≡ toward_at st rs u
get-toward st rs u =
    get-table_at_all units (toward_at st rs) (each (request_unit st) rs) u
    (λ h. let none = none_those units (request_unit st) (λ (r : Request). r.part) u rs h in
    or_none (all_by part_join (parts_of (open_of (requests_at st u rs)))) (all_by part_meet (parts_of (requests_at st u rs))) (ap (λ zs. all_by part_join (parts_of (open_of zs))) none)
    (ap (λ zs. all_by part_meet (parts_of zs)) none))

-- the merge of all requests, at a unit
pub get-merge-parts_of : (st : StyleKind) (rs : List Request) (u : UnitOf) → get (merge st (parts_of rs)) u ≡ all_by part_join (parts_of (requests_at st u rs))
get-merge-parts_of st rs u =
    ap (λ m. get m u) (merge_of-each units (part_unit st) (λ (p : Part). p) (λ (r : Request). r.part) rs)
    ∙ get-merge_of units (request_unit st) (λ (r : Request). r.part) rs u

-- ---- meets of parts
-- a meet of fewer and smaller parts, below a join of more and larger ones
meet_under : (a b : Part) (xs : List Part) → IsPartAtMost a b → IsPartAtMost (fold part_meet a xs) (fold part_join b xs)
meet_under a b [] h = h
meet_under a b (x ∷ xs) h = meet_under (part_meet a x) (part_join b x) xs (record {
  names = wider;
  flow = at_most_along (flow_meet a.flow x.flow) a.flow (flow_join b.flow x.flow)
      (meet_below_left a.flow x.flow) (at_most_along a.flow b.flow (flow_join b.flow x.flow) h.flow (join_above_left b.flow x.flow));
})
  where
    or_wider : (p q r : Bool) → (p ≡ true → q ≡ true) → (p || r) ≡ true → (q || r) ≡ true
    or_wider true q r f e = ap (λ z. z || r) (f refl)
    or_wider false true r f e = refl
    or_wider false false r f e = e

    wider : IsWithin (union a.senders x.senders) (union b.senders x.senders)
    wider q e = has-union senders b.senders x.senders q ∙ or_wider (has a.senders q) (has b.senders q) (has x.senders q) (h.names q) (sym (has-union senders a.senders x.senders q) ∙ e)

meet_below_merge : (ps : List Part) (x y : Part) → all_by part_meet ps ≡ Some x → all_by part_join ps ≡ Some y → IsPartAtMost x y
meet_below_merge [] x y e f = absurd (cc)
meet_below_merge (p ∷ ps) x y e f =
    let is : fold part_meet p ps ≡ x = cc in
    let at : fold part_join p ps ≡ y = cc in
    subst (IsPartAtMost x) at (subst (λ z. IsPartAtMost z (fold part_join p ps)) is (meet_under p p ps (part_at_most_itself p)))

-- ---- at most the merge
-- the parts of open requests are parts of requests
open_part : (rs : List Request) (p : Part) → In p (parts_of (open_of rs)) → In p (parts_of rs)
open_part rs p i =
    let s = in_each (λ (r : Request). r.part) p (open_of rs) i in
    let t = in_filter (λ (r : Request). not r.blockaded) s.0 rs s.1 in
    subst (λ z. In z (parts_of rs)) (sym s.2) (to_each (λ (r : Request). r.part) s.0 rs t.0)

by_open : (rs : List Request) (t m : Part) (v : Option Part) → all_by part_join (parts_of (open_of rs)) ≡ v → or_else v (all_by part_meet (parts_of rs)) ≡ Some t
    → all_by part_join (parts_of rs) ≡ Some m → IsPartAtMost t m
by_open rs t m None e f g = meet_below_merge (parts_of rs) t m f g
by_open rs t m (Some x) e f g =
    let is : x ≡ t = cc in
    all_keeps part_join (λ p. IsPartAtMost p m) (λ a b h k. part_join_least a b m h k) (parts_of (open_of rs)) t (e ∙ f)
    (λ p i. all_above part_join IsPartAtMost part_at_most_itself part_at_most_along part_join_above_left part_join_above_right (parts_of rs) m g p (open_part rs p i))

pub toward_below : (st : StyleKind) (rs : List Request) (u : UnitOf) (t m : Part) → get (toward st rs) u ≡ Some t → get (merge st (parts_of rs)) u ≡ Some m → IsPartAtMost t m
toward_below st rs u t m e f = by_open (requests_at st u rs) t m (all_by part_join (parts_of (open_of (requests_at st u rs)))) refl (sym (get-toward st rs u) ∙ e)
    (sym (get-merge-parts_of st rs u) ∙ f)

-- ---- the same units
some_or : (rs : List Request) → is_some (or_else (all_by part_join (parts_of (open_of rs))) (all_by part_meet (parts_of rs))) ≡ is_some (all_by part_join (parts_of rs))
some_or rs = by rs (all_by part_join (parts_of (open_of rs))) refl
  where
    meets : (ps : List Part) → is_some (all_by part_meet ps) ≡ is_some (all_by part_join ps)
    meets [] = refl
    meets (p ∷ ps) = refl

    by : (rs : List Request) (v : Option Part) → all_by part_join (parts_of (open_of rs)) ≡ v → is_some (or_else v (all_by part_meet (parts_of rs))) ≡ is_some (all_by part_join (parts_of rs))
    by rs None e = meets (parts_of rs)
    by rs (Some x) e =
        let s = some_all part_join (parts_of (open_of rs)) x e in
        let t = all_some part_join (parts_of rs) s.0 (open_part rs s.0 s.1) in
        sym (ap is_some t.1)

pub toward_units : (st : StyleKind) (rs : List Request) (u : UnitOf) → has (toward st rs) u ≡ has (merge st (parts_of rs)) u
toward_units st rs u = ap is_some (get-toward st rs u) ∙ some_or (requests_at st u rs) ∙ sym (ap is_some (get-merge-parts_of st rs u))

-- ---- where none is blockaded
all_open : (rs : List Request) → ((r : Request) → In r rs → r.blockaded ≡ false) → open_of rs ≡ rs
all_open [] h = refl
all_open (r ∷ rs) h =
    ap (λ b. cond (not b) (r ∷ open_of rs) (open_of rs)) (h r (inl refl)) ∙ ap (λ zs. r ∷ zs) (all_open rs (λ q i. h q (inr i)))

or_same : (ps : List Part) → or_else (all_by part_join ps) (all_by part_meet ps) ≡ all_by part_join ps
or_same [] = refl
or_same (p ∷ ps) = refl

pub request_in : (st : StyleKind) (rs : List Request) (u : UnitOf) (r : Request) → In r (requests_at st u rs) → IsRequestOf st rs u r
request_in st rs u r i = let s = in_those units (request_unit st) (λ (z : Request). z.part) u r rs i in record { among = s.0; named = s.1; unit = s.2 }

pub in_request : (st : StyleKind) (rs : List Request) (u : UnitOf) (r : Request) → IsRequestOf st rs u r → In r (requests_at st u rs)
in_request st rs u r is = to_those units (request_unit st) (λ (z : Request). z.part) u r rs is.among is.named is.unit

pub toward_of_open : (st : StyleKind) (rs : List Request) (u : UnitOf) → ((r : Request) → IsRequestOf st rs u r → r.blockaded ≡ false) → get (toward st rs) u ≡ get (merge st (parts_of rs)) u
toward_of_open st rs u h =
    get-toward st rs u
    ∙ ap (λ zs. or_else (all_by part_join (parts_of zs)) (all_by part_meet (parts_of (requests_at st u rs)))) (all_open (requests_at st u rs) (λ r i. h r (request_in st rs u r i)))
    ∙ or_same (parts_of (requests_at st u rs)) ∙ sym (get-merge-parts_of st rs u)

pub toward_open : (st : StyleKind) (rs : List Request) → ((r : Request) → In r rs → r.blockaded ≡ false) → toward st rs ≡ merge st (parts_of rs)
toward_open st rs h = same_table units (toward st rs) (merge st (parts_of rs)) (λ u. toward_of_open st rs u (λ r is. h r is.among))

-- ---- a unit is there exactly where a request of it names someone
pub toward_source : (st : StyleKind) (rs : List Request) (u : UnitOf) → has (toward st rs) u ≡ true → (r : Request) × IsRequestOf st rs u r
toward_source st rs u e = by (all_by part_join (parts_of (requests_at st u rs))) refl (sym (ap is_some (get-merge-parts_of st rs u)) ∙ (sym (toward_units st rs u) ∙ e))
  where
    by : (v : Option Part) → all_by part_join (parts_of (requests_at st u rs)) ≡ v → is_some (all_by part_join (parts_of (requests_at st u rs))) ≡ true → (r : Request) × IsRequestOf st rs u r
    by None f g = let z : false ≡ true = sym (ap is_some f) ∙ g in absurd (cc)
    by (Some m) f g =
        let s = some_all part_join (parts_of (requests_at st u rs)) m f in
        let t = in_each (λ (r : Request). r.part) s.0 (requests_at st u rs) s.1 in
        (t.0, request_in st rs u t.0 t.1)

pub toward_there : (st : StyleKind) (rs : List Request) (u : UnitOf) (r : Request) → IsRequestOf st rs u r → has (toward st rs) u ≡ true
toward_there st rs u r is =
    let there = to_each (λ (z : Request). z.part) r (requests_at st u rs) (in_request st rs u r is) in
    let m = all_some part_join (parts_of (requests_at st u rs)) r.part there in
    toward_units st rs u ∙ ap is_some (get-merge-parts_of st rs u ∙ m.1)

-- ---- at least the meet
flows_are : (rs : List Request) → each (λ (p : Part). p.flow) (parts_of rs) ≡ flows_of rs
flows_are [] = refl
flows_are (r ∷ rs) = ap (λ zs. r.part.flow ∷ zs) (flows_are rs)

above_meet : (rs : List Request) (t : Part) (f : TokenBucket) (v : Option Part) → all_by part_join (parts_of (open_of rs)) ≡ v → or_else v (all_by part_meet (parts_of rs)) ≡ Some t
    → all_by flow_meet (flows_of rs) ≡ Some f → IsAtMost f t.flow
above_meet rs t f None e g h =
    let met = all_under part_meet flow_meet (λ (p : Part). p.flow) (λ a b. refl) (parts_of rs) t g in
    let same : Some f ≡ Some t.flow = sym h ∙ (sym (ap (all_by flow_meet) (flows_are rs)) ∙ met) in
    let is : f ≡ t.flow = cc in
    subst (IsAtMost f) is (at_most_itself f)
above_meet rs t f (Some x) e g h =
    let s = some_all part_join (parts_of (open_of rs)) x e in
    let up = all_above part_join IsPartAtMost part_at_most_itself part_at_most_along part_join_above_left part_join_above_right (parts_of (open_of rs)) t (e ∙ g) s.0 s.1 in
    let r = in_each (λ (z : Request). z.part) s.0 (open_of rs) s.1 in
    let o = in_filter (λ (z : Request). not z.blockaded) r.0 rs r.1 in
    let low : IsAtMost f r.0.part.flow = all_above flow_meet (λ a b. IsAtMost b a) at_most_itself (λ a b c p q. at_most_along c b a q p) meet_below_left meet_below_right
    (flows_of rs) f h r.0.part.flow (to_each (λ (z : Request). z.part.flow) r.0 rs o.0) in
    at_most_along f s.0.flow t.flow (subst (λ (p : Part). IsAtMost f p.flow) (sym r.2) low) up.flow

pub toward_above_meet : (st : StyleKind) (rs : List Request) (u : UnitOf) (t : Part) (f : TokenBucket) → get (toward st rs) u ≡ Some t → meet_at st rs u ≡ Some f → IsAtMost f t.flow
toward_above_meet st rs u t f e h = above_meet (requests_at st u rs) t f (all_by part_join (parts_of (open_of (requests_at st u rs)))) refl (sym (get-toward st rs u) ∙ e) h

pub meet_there : (st : StyleKind) (rs : List Request) (u : UnitOf) (t : Part) → get (toward st rs) u ≡ Some t → (f : TokenBucket) × (meet_at st rs u ≡ Some f)
meet_there st rs u t e =
    let r = toward_source st rs u (ap is_some e) in
    all_some flow_meet (flows_of (requests_at st u rs)) r.0.part.flow (to_each (λ (z : Request). z.part.flow) r.0 (requests_at st u rs) (in_request st rs u r.0 r.1))

-- what each request of the unit has, and two together have, is had by what goes toward the hop
pub toward_keeps : (st : StyleKind) (P : Part → Type 0) → ((a b : Part) → P a → P b → P (part_join a b)) → ((a b : Part) → P a → P b → P (part_meet a b)) → (rs : List Request) (u : UnitOf) (t : Part)
    → get (toward st rs) u ≡ Some t
    → ((r : Request) → IsRequestOf st rs u r → P r.part) → P t
toward_keeps st P joins meets rs u t e every = by (all_by part_join (parts_of (open_of (requests_at st u rs)))) refl (sym (get-toward st rs u) ∙ e)
  where
    each_part : (p : Part) → In p (parts_of (requests_at st u rs)) → P p
    each_part p i = let s = in_each (λ (r : Request). r.part) p (requests_at st u rs) i in subst P (sym s.2) (every s.0 (request_in st rs u s.0 s.1))

    by : (v : Option Part) → all_by part_join (parts_of (open_of (requests_at st u rs))) ≡ v → or_else v (all_by part_meet (parts_of (requests_at st u rs))) ≡ Some t → P t
    by None f g = all_keeps part_meet P meets (parts_of (requests_at st u rs)) t g each_part
    by (Some x) f g = all_keeps part_join P joins (parts_of (open_of (requests_at st u rs))) t (f ∙ g) (λ p i. each_part p (open_part (requests_at st u rs) p i))

-- ---- the join of the open ones
open_or : (v w : Option Part) (x : Part) → v ≡ Some x → or_else v w ≡ v
open_or None w x e = absurd (cc)
open_or (Some y) w x e = refl

pub toward_join : (st : StyleKind) (rs : List Request) (u : UnitOf) (r : Request) → IsRequestOf st rs u r → r.blockaded ≡ false
    → get (toward st rs) u ≡ all_by part_join (parts_of (open_of (requests_at st u rs)))
toward_join st rs u r is free =
    let i = to_filter (λ (z : Request). not z.blockaded) r (requests_at st u rs) (in_request st rs u r is) (ap not free) in
    let j = to_each (λ (z : Request). z.part) r (open_of (requests_at st u rs)) i in
    let m = all_some part_join (parts_of (open_of (requests_at st u rs))) r.part j in
    get-toward st rs u ∙ open_or (all_by part_join (parts_of (open_of (requests_at st u rs)))) (all_by part_meet (parts_of (requests_at st u rs))) m.0 m.1

open_in : (st : StyleKind) (rs : List Request) (u : UnitOf) (r : Request) → In r (open_of (requests_at st u rs)) → IsOpenRequestOf st rs u r
open_in st rs u r i =
    let s = in_filter (λ (z : Request). not z.blockaded) r (requests_at st u rs) i in
    record { request = request_in st rs u r s.0; unmarked = not_false r.blockaded s.1 }
  where
    not_false : (b : Bool) → not b ≡ true → b ≡ false
    not_false true e = cc
    not_false false e = refl

in_open : (st : StyleKind) (rs : List Request) (u : UnitOf) (r : Request) → IsOpenRequestOf st rs u r → In r.part (parts_of (open_of (requests_at st u rs)))
in_open st rs u r is = to_each (λ (z : Request). z.part) r (open_of (requests_at st u rs))
    (to_filter (λ (z : Request). not z.blockaded) r (requests_at st u rs) (in_request st rs u r is.request) (ap not is.unmarked))

-- each open request is at most what goes toward the hop
pub open_below : (st : StyleKind) (rs : List Request) (u : UnitOf) (t : Part) (r : Request) → IsOpenRequestOf st rs u r → get (toward st rs) u ≡ Some t → IsPartAtMost r.part t
open_below st rs u t r is e =
    all_above part_join IsPartAtMost part_at_most_itself part_at_most_along part_join_above_left part_join_above_right (parts_of (open_of (requests_at st u rs))) t
    (sym (toward_join st rs u r is.request is.unmarked) ∙ e) r.part (in_open st rs u r is)

-- and one of them has its charge, and one its packet size
attains : (v : Part → ℕ) → ((a b : Part) → v (part_join a b) ≡ max (v a) (v b)) → (ps : List Part) (t : Part) → all_by part_join ps ≡ Some t → (p : Part) × In p ps × (v p ≡ v t)
attains v joins [] t e = absurd (cc)
attains v joins (p ∷ ps) t e = let is : fold part_join p ps ≡ t = cc in let r = of_fold p ps in (r.0, r.1, r.2 ∙ ap v is)
  where
    larger : (a b m : ℕ) → m ≡ max a b → (m ≡ a) ⊎ (m ≡ b)
    larger a b m e = ⊎_elim (λ h. inr (omega arith)) (λ h. inl (omega arith)) (cases_lt a b)

    of_fold : (p : Part) (ps : List Part) → (q : Part) × In q (p ∷ ps) × (v q ≡ v (fold part_join p ps))
    of_fold p [] = (p, inl refl, refl)
    of_fold p (q ∷ ps) =
        let r = of_fold (part_join p q) ps in
        ⊎_elim
        (λ (h : r.0 ≡ part_join p q).
        let here : v (part_join p q) ≡ v (fold part_join (part_join p q) ps) = ap v (sym h) ∙ r.2 in
        ⊎_elim (λ (z : v (part_join p q) ≡ v p). (p, inl refl, sym z ∙ here)) (λ (z : v (part_join p q) ≡ v q). (q, inr (inl refl), sym z ∙ here)) (larger (v p) (v q) (v (part_join p q)) (joins p q)))
        (λ (j : In r.0 ps). (r.0, inr (inr j), r.2)) r.1

open_attains : (v : Part → ℕ) → ((a b : Part) → v (part_join a b) ≡ max (v a) (v b)) → (st : StyleKind) (rs : List Request) (u : UnitOf) (t : Part) (r : Request) → IsOpenRequestOf st rs u r
    → get (toward st rs) u ≡ Some t → (q : Request) × IsOpenRequestOf st rs u q × (v q.part ≡ v t)
open_attains v joins st rs u t r is e =
    let a = attains v joins (parts_of (open_of (requests_at st u rs))) t (sym (toward_join st rs u r is.request is.unmarked) ∙ e) in
    let b = in_each (λ (z : Request). z.part) a.0 (open_of (requests_at st u rs)) a.1 in
    (b.0, open_in st rs u b.0 b.1, ap v (sym b.2) ∙ a.2)

pub open_charge : (st : StyleKind) (rs : List Request) (u : UnitOf) (t : Part) (r : Request) → IsOpenRequestOf st rs u r → get (toward st rs) u ≡ Some t
    → (q : Request) × IsOpenRequestOf st rs u q × (part_charge q.part ≡ part_charge t)
open_charge = open_attains part_charge (λ a b. refl)

pub open_most : (st : StyleKind) (rs : List Request) (u : UnitOf) (t : Part) (r : Request) → IsOpenRequestOf st rs u r → get (toward st rs) u ≡ Some t
    → (q : Request) × IsOpenRequestOf st rs u q × (q.part.flow.most ≡ t.flow.most)
open_most = open_attains (λ p. p.flow.most) (λ a b. refl)
