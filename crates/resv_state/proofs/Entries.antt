-- What an entry would be with another reservation in place of one.
use Rattle.std.proofs.Common.{◌≡◌, ◌+◌, ℕ, Bool, true, false, cond, not, ◌==◌, List, [], ◌∷◌, drop, map as each, ◌⊎◌, Option, Some, None, refl, sym, ap, subst, ◌∙◌, inl, inr, ⊎_elim}
use Rattle.std.specs.Option.{option_map}
use Rattle.std.specs.Ordering.{eq_by_cmp}
use Rattle.std.proofs.lemmas.Bool.{eqb-true, eq-eqb, both_ways}
use Rattle.flow_merge.specs.FlowOrder.{IsAtMost, flow_join}
use Rattle.flow_merge.proofs.Lattice.{at_most_itself, at_most_along, same_flow, join_above_left, join_above_right, join_least}
use Rattle.rsvp_base.specs.Members.{In}
use Rattle.rsvp_base.specs.Orders.{sessions, units}
use Rattle.rsvp_base.specs.Table.{Table, get, put_in, changed_rows}
use Rattle.rsvp_base.specs.TokenBucket.{TokenBucket}
use Rattle.rsvp_base.specs.Under.{under}
use Rattle.rsvp_base.specs.declared.part.Part.{Part}
use Rattle.rsvp_base.specs.declared.session.Session.{Session}
use Rattle.rsvp_base.specs.declared.style.StyleKind.{StyleKind}
use Rattle.rsvp_base.specs.declared.style.Unit.{Unit as UnitOf}
use Rattle.rsvp_base.proofs.Counts.{in_found, found_in}
use Rattle.rsvp_base.proofs.Fronts.{in_filter_map, to_filter_map}
use Rattle.rsvp_base.proofs.SetLaws.{and_both, and_made}
use Rattle.rsvp_base.proofs.Tables.{either, tied_same, tied_self, get-put_in, get-put_in_same}
use Rattle.rsvp_base.proofs.UnderLaws.{get-under, under-put_in_same}
use Rattle.style_rules.specs.Merge.{merge}
use Rattle.style_rules.specs.Parts.{IsOfStyle, IsPartAtMost, has_name}
use Rattle.rsvp_base.specs.Styles.{part_unit}
use Rattle.style_rules.proofs.Merges.{merge_above, merge_least}
use Rattle.soft_table.proofs.Steps.{Step}
use Rattle.resv_state.specs.declared.fact.Held.{Held}
use Rattle.resv_state.specs.declared.fact.ResvFact.{ResvFact}
use Rattle.resv_state.specs.Merging.{SessionRow, part_on, parts_on, held_said, is_beside, joined_with}
use Rattle.resv_state.specs.Resvs.{ResvFacts, AreOfStyle, resv_key, held_key}
use Rattle.resv_state.specs.Walks.{Rest, rests, held_under}
use Rattle.resv_state.proofs.Facts.{said}
use Rattle.resv_state.proofs.Walked.{from_here}

-- ---- the walk
pub joined_here : (r : Rest) (flow : TokenBucket) (s : Session) (fs : List (Held × ℕ)) (k : ℕ) (h : Held) (st : Step rests held_key s fs k h)
    → joined_with r flow (each held_said (drop k (held_under s fs))) ≡ joined_with r (cond (is_beside r (held_key h).1) (flow_join flow h.fact.part.flow) flow)
    (each held_said (drop (k + 1) (held_under s fs)))
joined_here r flow s fs k h st =
    let rest = each held_said (drop (k + 1) (held_under s fs)) in
    ap (λ es. joined_with r flow (each held_said es)) (from_here s fs k h st)
    ∙ ap (λ (q : Rest). joined_with r (cond (is_beside r q) (flow_join flow st.row.1.0.fact.part.flow) flow) rest) st.rest
    ∙ ap (λ (g : Held). joined_with r (cond (is_beside r (held_key h).1) (flow_join flow g.fact.part.flow) flow) rest) st.fact

pub each_said : (es : List (Rest × (Held × ℕ))) → each held_said es ≡ changed_rows (λ k e. Some (said e)) es
each_said [] = refl
each_said (e ∷ es) = ap (λ zs. held_said e ∷ zs) (each_said es)

-- ---- the join is the least above
module _ (r : Rest) where
  above_own : (f : TokenBucket) (es : List SessionRow) → IsAtMost f (joined_with r f es)
  above_own f [] = at_most_itself f
  above_own f (e ∷ es) = by (is_beside r e.0) (λ g. above_own g es)
    where
      by : (b : Bool) → ((g : TokenBucket) → IsAtMost g (joined_with r g es)) → IsAtMost f (joined_with r (cond b (flow_join f e.1.0.part.flow) f) es)
      by true rest = at_most_along f (flow_join f e.1.0.part.flow) (joined_with r (flow_join f e.1.0.part.flow) es) (join_above_left f e.1.0.part.flow) (rest (flow_join f e.1.0.part.flow))
      by false rest = rest f

  above_beside : (f : TokenBucket) (es : List SessionRow) (e : SessionRow) → In e es → is_beside r e.0 ≡ true → IsAtMost e.1.0.part.flow (joined_with r f es)
  above_beside f [] e i b = absurd i
  above_beside f (x ∷ xs) e i b =
      ⊎_elim (λ (same : e ≡ x). subst (λ (z : SessionRow). IsAtMost z.1.0.part.flow (joined_with r f (x ∷ xs))) (sym same)
      (here (is_beside r x.0) (ap (λ (z : SessionRow). is_beside r z.0) (sym same) ∙ b)))
      (λ (j : In e xs). above_beside (cond (is_beside r x.0) (flow_join f x.1.0.part.flow) f) xs e j b) i
    where
      here : (b : Bool) → b ≡ true → IsAtMost x.1.0.part.flow (joined_with r (cond b (flow_join f x.1.0.part.flow) f) xs)
      here true t = at_most_along x.1.0.part.flow (flow_join f x.1.0.part.flow) (joined_with r (flow_join f x.1.0.part.flow) xs) (join_above_right f x.1.0.part.flow)
          (above_own (flow_join f x.1.0.part.flow) xs)
      here false t = absurd (cc)

  least_joined : (f g : TokenBucket) (es : List SessionRow) → IsAtMost f g → ((e : SessionRow) → In e es → is_beside r e.0 ≡ true → IsAtMost e.1.0.part.flow g) → IsAtMost (joined_with r f es) g
  least_joined f g [] own every = own
  least_joined f g (e ∷ es) own every = by (is_beside r e.0) refl (λ h own. least_joined h g es own (λ x i b. every x (inr i) b))
    where
      by : (b : Bool) → is_beside r e.0 ≡ b → ((h : TokenBucket) → IsAtMost h g → IsAtMost (joined_with r h es) g) → IsAtMost (joined_with r (cond b (flow_join f e.1.0.part.flow) f) es) g
      by true t rest = rest (flow_join f e.1.0.part.flow) (join_least f e.1.0.part.flow g own (every e (inl refl) t))
      by false t rest = rest f own

-- ---- the entry
module _ (st : StyleKind) (m : ResvFacts) (of : AreOfStyle st m) (f : ResvFact) (own : IsOfStyle st f.part) (left : ℕ) where
  abbrev r : Rest
  r = (resv_key st f).1

  abbrev u : UnitOf
  u = part_unit st f.part

  abbrev us : Table rests (ResvFact × ℕ)
  us = under sessions rests m f.session

  abbrev all : Table rests (ResvFact × ℕ)
  all = put_in us r (f, left)

  abbrev ps : List Part
  ps = parts_on f.iface all.rows

  -- a reservation stands under its unit, and names someone
  unit_is : (q : Rest) (e : ResvFact × ℕ) → get us q ≡ Some e → (q.1 ≡ part_unit st e.0.part) × (has_name e.0.part ≡ true)
  unit_is q e at =
      let there : get m (f.session, q) ≡ Some e = sym (get-under sessions rests m f.session q) ∙ at in
      (sym (ap (λ k. k.1.1) (of.key (f.session, q) e there)), (of.style (f.session, q) e there).named)

  part_told : (e : SessionRow) (p : Part) → part_on f.iface e ≡ Some p → ((e.0.0.0 == f.iface) ≡ true) × (e.1.0.part ≡ p)
  part_told e p is = by (e.0.0.0 == f.iface) refl is
    where
      by : (b : Bool) → (e.0.0.0 == f.iface) ≡ b → cond b (Some e.1.0.part) None ≡ Some p → ((e.0.0.0 == f.iface) ≡ true) × (e.1.0.part ≡ p)
      by true t is = let same : e.1.0.part ≡ p = cc in (t, same)
      by false t is = let none : ◌≡◌ {A = Option Part} None (Some p) = is in absurd (cc)

  flipped : (q : Rest) → eq_by_cmp rests.cmp q r ≡ false → eq_by_cmp rests.cmp r q ≡ false
  flipped q apart =
      either (eq_by_cmp rests.cmp r q)
      (λ t. absurd (both_ways (eq_by_cmp rests.cmp q r) apart (ap (λ z. eq_by_cmp rests.cmp q z) (tied_same rests r q t) ∙ tied_self rests q)))
      (λ t. t)

  -- what is on the interface and of the unit is the reservation itself, or stands beside it
  among_told : (p : Part) → In p ps → u ≡ part_unit st p → (p ≡ f.part) ⊎ ((e : SessionRow) × In e us.rows × (is_beside r e.0 ≡ true) × (e.1.0.part ≡ p))
  among_told p i unit =
      let d = in_filter_map (part_on f.iface) p all.rows i in
      let e = d.0 in
      let told = part_told e p d.2 in
      let at : get all e.0 ≡ Some e.1 = in_found rests all e.0 e.1 d.1 in
      let split : cond (eq_by_cmp rests.cmp e.0 r) (Some (f, left)) (get us e.0) ≡ Some e.1 = sym (get-put_in rests us r (f, left) e.0) ∙ at in
      either (eq_by_cmp rests.cmp e.0 r)
      (λ t. let same : Some (f, left) ≡ Some e.1 = sym (ap (λ b. cond b (Some (f, left)) (get us e.0)) t) ∙ split in let is : (f, left) ≡ e.1 = cc in
      inl (sym told.1 ∙ ap (λ (z : ResvFact × ℕ). z.0.part) (sym is)))
      (λ t.
      let there : get us e.0 ≡ Some e.1 = sym (ap (λ b. cond b (Some (f, left)) (get us e.0)) t) ∙ split in
      let its = unit_is e.0 e.1 there in
      let one : u ≡ e.0.1 = unit ∙ ap (part_unit st) (sym told.1) ∙ sym its.0 in
      inr (
        e,
        found_in rests us e.0 e.1 there,
        and_made (f.iface == e.0.0.0) _ (eq-eqb f.iface e.0.0.0 (sym (eqb-true e.0.0.0 f.iface told.0)))
            (and_made (eq_by_cmp units.cmp u e.0.1) _ (subst (λ (z : UnitOf). eq_by_cmp units.cmp u z ≡ true) one (tied_self units u)) (ap not (flipped e.0 t))),
        told.1,
      ))

  beside_among : (e : SessionRow) → In e us.rows → is_beside r e.0 ≡ true → In e.1.0.part ps × (u ≡ part_unit st e.1.0.part) × (has_name e.1.0.part ≡ true)
  beside_among e i b =
      let parts = and_both (f.iface == e.0.0.0) _ b in
      let rest = and_both (eq_by_cmp units.cmp u e.0.1) _ parts.1 in
      let there : get us e.0 ≡ Some e.1 = in_found rests us e.0 e.1 i in
      let its = unit_is e.0 e.1 there in
      let at : get all e.0 ≡ Some e.1 = get-put_in rests us r (f, left) e.0 ∙ ap (λ c. cond c (Some (f, left)) (get us e.0)) (apart e.0 rest.1) ∙ there in
      let on : part_on f.iface e ≡ Some e.1.0.part = ap (λ c. cond c (Some e.1.0.part) None) (eq-eqb e.0.0.0 f.iface (sym (eqb-true f.iface e.0.0.0 parts.0))) in
      (to_filter_map (part_on f.iface) e.1.0.part e all.rows (found_in rests all e.0 e.1 at) on, tied_same units u e.0.1 rest.0 ∙ its.0, its.1)
    where
      apart : (q : Rest) → not (eq_by_cmp rests.cmp r q) ≡ true → eq_by_cmp rests.cmp q r ≡ false
      apart q n =
          either (eq_by_cmp rests.cmp q r)
          (λ t. let same : eq_by_cmp rests.cmp r q ≡ true = ap (λ z. eq_by_cmp rests.cmp r z) (tied_same rests q r t) ∙ tied_self rests r in
          absurd (both_ways (not (eq_by_cmp rests.cmp r q)) (ap not same) n))
          (λ t. t)

  own_among : In f.part ps
  own_among = to_filter_map (part_on f.iface) f.part (r, (f, left)) all.rows (found_in rests all r (f, left) (get-put_in_same rests us r (f, left)))
      (ap (λ c. cond c (Some f.part) None) (eq-eqb f.iface f.iface refl))

  entry_flow : option_map (λ (p : Part). p.flow) (get (merge st ps) u) ≡ Some (joined_with r f.part.flow us.rows)
  entry_flow =
      let a = merge_above units (part_unit st) (λ (p : Part). p) ps f.part own_among own.named in
      let p = a.0 in
      let j = joined_with r f.part.flow us.rows in
      let found : (q : Part) → In q ps → has_name q ≡ true → u ≡ part_unit st q → IsPartAtMost q p = λ q i named unit.
      let b = merge_above units (part_unit st) (λ (x : Part). x) ps q i named in
      let same : Some b.0 ≡ Some p = sym b.1 ∙ ap (get (merge st ps)) (sym unit) ∙ a.1 in
      let is : b.0 ≡ p = cc in
      subst (λ (x : Part). IsPartAtMost q x) is b.2 in
      let under_p = least_joined r f.part.flow p.flow us.rows a.2.flow (λ e i b. let k = beside_among e i b in (found e.1.0.part k.0 k.2 k.1).flow) in
      let c : Part = record { senders = p.senders; flow = j } in
      let over = merge_least units (part_unit st) (λ (x : Part). x) ps u p c a.1 (λ q i named unit.
      record { names = (found q i named unit).names; flow = flow_of q (among_told q i unit) }) in
      ap (option_map (λ (x : Part). x.flow)) a.1 ∙ ap Some (same_flow p.flow j over.flow under_p)
    where
      flow_of : (q : Part) → (q ≡ f.part) ⊎ ((e : SessionRow) × In e us.rows × (is_beside r e.0 ≡ true) × (e.1.0.part ≡ q)) → IsAtMost q.flow (joined_with r f.part.flow us.rows)
      flow_of q (inl is) = subst (λ (x : Part). IsAtMost x.flow (joined_with r f.part.flow us.rows)) (sym is) (above_own r f.part.flow us.rows)
      flow_of q (inr w) = subst (λ (x : Part). IsAtMost x.flow (joined_with r f.part.flow us.rows)) w.3 (above_beside r f.part.flow us.rows w.0 w.1 w.2)

  pub entry_is : option_map (λ (p : Part). p.flow) (get (merge st (parts_on f.iface (under sessions rests (put_in m (resv_key st f) (f, left)) f.session).rows)) u)
      ≡ Some (joined_with r f.part.flow us.rows)
  entry_is = ap (λ (t : Table rests (ResvFact × ℕ)). option_map (λ (p : Part). p.flow) (get (merge st (parts_on f.iface t.rows)) u)) (under-put_in_same sessions rests m f.session r (f, left))
      ∙ entry_flow
