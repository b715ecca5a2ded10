-- A line that wants something, or quits: its call is not refused, and its node has what the line says.
use Rattle.std.proofs.Common.{le-leb, ◌≡◌, ℕ, ◌≤◌, Bool, true, false, cond, List, [], ◌∷◌, length, Some, None, refl, sym, ap, subst, ◌∙◌, inl, inr, ⊎_elim, arith}
use Rattle.std.specs.Prelude.{map as each, not, ◌&&◌, slice_get, is_some, ◌==◌}
use Rattle.std.specs.List.{filter, list_any}
use Rattle.std.specs.Ordering.{eq_by_cmp}
use Rattle.std.proofs.lemmas.Bool.{lt-ltb}
use Rattle.std.proofs.lemmas.List.{length-map}
use Rattle.rsvp_base.specs.declared.part.Part.{Part}
use Rattle.rsvp_base.specs.declared.session.Sender.{Sender}
use Rattle.rsvp_base.specs.declared.session.Session.{Session}
use Rattle.rsvp_base.specs.declared.style.StyleKind.{StyleKind}
use Rattle.rsvp_base.specs.declared.style.StyleKind.TheVariants.{Wild, Fixed, Shared}
use Rattle.rsvp_base.specs.declared.style.Unit.{Unit as UnitOf}
use Rattle.rsvp_base.specs.declared.style.Unit.TheVariants.{Of, One}
use Rattle.rsvp_base.specs.Members.{In}
use Rattle.rsvp_base.specs.Orders.{Names, sessions as by_session, styles as by_style, units as by_unit}
use Rattle.rsvp_base.specs.SessionLimits.{has_room_at, sessions_in}
use Rattle.rsvp_base.specs.Sets.{set_of}
use Rattle.rsvp_base.specs.Styles.{part_unit, unit_of_first}
use Rattle.rsvp_base.specs.Table.{get, keys, put_in, size, values, with_rows}
use Rattle.rsvp_base.specs.Under.{under}
use Rattle.rsvp_base.specs.TokenBucket.{TokenBucket}
use Rattle.rsvp_base.proofs.Counts.{in_found, in_set_of, set_below, size-set_of, size_below}
use Rattle.rsvp_base.proofs.Filters.{each_each}
use Rattle.rsvp_base.proofs.Members.{in_any, in_append, in_each, in_filter, in_left, in_right, to_each, to_filter}
use Rattle.rsvp_base.proofs.SessionCounts.{some_rows}
use Rattle.rsvp_base.proofs.SetLaws.{and_both, and_made}
use Rattle.rsvp_base.proofs.Tables.{either, get-kept, get-put_in_other, get-put_in_same, got_kept, got_put_in, tied_same, tied_self}
use Rattle.rsvp_base.proofs.UnderLaws.{get-under}
use Rattle.rsvp_messages.specs.Units.{only}
use Rattle.router_rules.specs.declared.answers.LocalErr.TheVariants as local
use Rattle.router_rules.specs.Bounds.{IsWantShape, IsWithinBounds}
use Rattle.router_rules.specs.Calls.{needs, wanted}
use Rattle.router_rules.specs.Facts.{Facts, Want, WantKey, Wants, want_keys, wants_in}
use Rattle.router_rules.specs.Inputs.{QuitAll, WantAs}
use Rattle.router_rules.specs.NodeConfig.{is_session}
use Rattle.router_rules.specs.Requests.{is_style}
use Rattle.tree_model.specs.declared.locals.LocalWant.{LocalWant}
use Rattle.tree_model.specs.Wants.{Locals}
use Rattle.tree_model.proofs.Following.{number_same, same_number}
use Rattle.network_model.specs.Locals.{want_at}
use Rattle.network_model.specs.Worlds.{World, config_of}
use Rattle.laws_network.proofs.Known.{has_some, of_some}
use Rattle.script_grammar.specs.Adds.{is_in_place_of, is_want_at, wanted as asked_for, wants_at, with_want, with_wants, without_wants}
use Rattle.script_grammar.specs.Draft.{same_session}
use Rattle.laws_scripts.proofs.Wants.{new_want}
use Rattle.script_theorem.proofs.Calling.{Makes}
use Rattle.script_theorem.proofs.Keeping.{Stands}

-- ---- units
wild_unit : (xs : List Sender) → unit_of_first Wild xs ≡ One
wild_unit [] = refl
wild_unit (x ∷ xs) = refl

shared_unit : (xs : List Sender) → unit_of_first Shared xs ≡ One
shared_unit [] = refl
shared_unit (x ∷ xs) = refl

-- a want stands under the unit of its part
shape_unit : (st : StyleKind) (u : UnitOf) (p : Part) → IsWantShape st u p → u ≡ part_unit st p
shape_unit Wild u p shape = shape.0 ∙ sym (wild_unit (keys p.senders))
shape_unit Fixed u p shape = shape.1
shape_unit Shared u p shape = shape.1 ∙ sym (shared_unit (keys p.senders))

abbrev HasUnit : WantKey × Want → Type 0
HasUnit e = e.0.1 ≡ part_unit e.1.style e.1.part

-- ---- a want in the place of another
in_place_told : (new w : LocalWant) → is_in_place_of new w ≡ true → (new.session ≡ w.session) × (new.style ≡ w.style) × (part_unit new.style new.part ≡ part_unit w.style w.part)
in_place_told new w e =
    let a = and_both (is_want_at new.node new.session w) (eq_by_cmp by_style.cmp new.style w.style && eq_by_cmp by_unit.cmp (part_unit new.style new.part) (part_unit w.style w.part)) e in
    let b = and_both (w.node == new.node) (same_session new.session w.session) a.0 in
    let c = and_both (eq_by_cmp by_style.cmp new.style w.style) (eq_by_cmp by_unit.cmp (part_unit new.style new.part) (part_unit w.style w.part)) a.1 in
    (tied_same by_session new.session w.session b.1, tied_same by_style new.style w.style c.0, tied_same by_unit (part_unit new.style new.part) (part_unit w.style w.part) c.1)

in_place_made : (new w : LocalWant) → w.node ≡ new.node → new.session ≡ w.session → new.style ≡ w.style → part_unit new.style new.part ≡ part_unit w.style w.part → is_in_place_of new w ≡ true
in_place_made new w node session style unit =
    and_made (is_want_at new.node new.session w) (eq_by_cmp by_style.cmp new.style w.style && eq_by_cmp by_unit.cmp (part_unit new.style new.part) (part_unit w.style w.part))
    (and_made (w.node == new.node) (same_session new.session w.session) (number_same w.node new.node node) (ap (eq_by_cmp by_session.cmp new.session) (sym session) ∙ tied_self by_session new.session))
    (and_made (eq_by_cmp by_style.cmp new.style w.style) (eq_by_cmp by_unit.cmp (part_unit new.style new.part) (part_unit w.style w.part))
    (ap (eq_by_cmp by_style.cmp new.style) (sym style) ∙ tied_self by_style new.style)
    (ap (eq_by_cmp by_unit.cmp (part_unit new.style new.part)) (sym unit) ∙ tied_self by_unit (part_unit new.style new.part)))

-- ---- the wants of a node, in its table and in a list
module _ (n : ℕ) where
  pub record Holds (t : Wants) (ws : List LocalWant) : Type 0 where
    pub told : (k : WantKey) (v : Want) → get t k ≡ Some v → In (want_at n (k, v)) ws
    pub made : (w : LocalWant) → In w ws → w.node ≡ n → (k : WantKey) × (v : Want) × (get t k ≡ Some v) × (w ≡ want_at w.node (k, v))
    pub unit : (k : WantKey) (v : Want) → get t k ≡ Some v → HasUnit (k, v)

  abbrev OfOneStyle : Session → StyleKind → List LocalWant → Type 0
  OfOneStyle s st ws = (w : LocalWant) → In w ws → w.node ≡ n → w.session ≡ s → w.style ≡ st

  module _ (t : Wants) (ws : List LocalWant) (h : Holds t ws) (k : WantKey) (v : Want) (unit : HasUnit (k, v)) (style : OfOneStyle k.0 v.style ws) where
    abbrev new : LocalWant
    new = want_at n (k, v)

    in_new : In new (with_want ws new)
    in_new = in_right new (filter (λ w. not (is_in_place_of new w)) ws) (new ∷ []) (inl refl)

    put_told : (j : WantKey) (x : Want) → get (put_in t k v) j ≡ Some x → In (want_at n (j, x)) (with_want ws new)
    put_told j x e =
        either (eq_by_cmp want_keys.cmp j k)
        (λ tie.
        let key : j ≡ k = tied_same want_keys j k tie in
        let is : x ≡ v = of_some x v (sym e ∙ ap (get (put_in t k v)) key ∙ get-put_in_same want_keys t k v) in
        subst (λ (z : WantKey × Want). In (want_at n z) (with_want ws new)) (λ i. (sym key i, sym is i)) in_new)
        (λ apart.
        let old : get t j ≡ Some x = sym (get-put_in_other want_keys t k v j apart) ∙ e in
        in_left (want_at n (j, x)) (filter (λ w. not (is_in_place_of new w)) ws) (new ∷ [])
        (to_filter (λ w. not (is_in_place_of new w)) (want_at n (j, x)) ws (h.told j x old)
        (either (is_in_place_of new (want_at n (j, x)))
        (λ place.
        let same = in_place_told new (want_at n (j, x)) place in
        let key : j ≡ k = (λ i. (sym same.0 i, (h.unit j x old ∙ sym same.2 ∙ sym unit) i)) in
        let no : true ≡ false = sym (tied_self want_keys k) ∙ ap (λ (z : WantKey). eq_by_cmp want_keys.cmp z k) (sym key) ∙ apart in absurd (cc))
        (λ off. ap not off))))

    put_made : (w : LocalWant) → In w (with_want ws new) → w.node ≡ n → (j : WantKey) × (x : Want) × (get (put_in t k v) j ≡ Some x) × (w ≡ want_at w.node (j, x))
    put_made w i node =
        ⊎_elim
        (λ (old : In w (filter (λ z. not (is_in_place_of new z)) ws)).
        let f = in_filter (λ z. not (is_in_place_of new z)) w ws old in
        let r = h.made w f.0 node in
        either (eq_by_cmp want_keys.cmp r.0 k)
        (λ tie.
        let key : r.0 ≡ k = tied_same want_keys r.0 k tie in
        let session : w.session ≡ k.0 = ap (λ (z : LocalWant). z.session) r.3 ∙ ap (λ (z : WantKey). z.0) key in
        let st : w.style ≡ v.style = style w f.0 node session in
        let same : part_unit v.style v.part ≡ part_unit w.style w.part = sym unit ∙ ap (λ (z : WantKey). z.1) (sym key) ∙ h.unit r.0 r.1 r.2
        ∙ ap (λ (z : LocalWant). part_unit z.style z.part) (sym r.3) in
        let place = in_place_made new w node (sym session) (sym st) same in
        let no : false ≡ true = ap not (sym place) ∙ f.1 in absurd (cc))
        (λ apart. (r.0, r.1, get-put_in_other want_keys t k v r.0 apart ∙ r.2, r.3)))
        (λ (last : In w (new ∷ [])).
        ⊎_elim (λ (is : w ≡ new). (k, v, get-put_in_same want_keys t k v, is ∙ ap (λ (z : ℕ). want_at z (k, v)) (sym node))) (λ (none : ⊥). absurd none) last)
        (in_append w (filter (λ z. not (is_in_place_of new z)) ws) (new ∷ []) i)

    one_more : Holds (put_in t k v) (with_want ws new)
    one_more = record {
      told = put_told;
      made = put_made;
      unit = λ j x e.
          ⊎_elim (λ (r : (j ≡ k) × (x ≡ v)). subst HasUnit (λ i. (sym r.0 i, sym r.1 i)) unit) (λ (old : get t j ≡ Some x). h.unit j x old) (got_put_in want_keys t k v j x e);
    }

    still_style : OfOneStyle k.0 v.style (with_want ws new)
    still_style w i node session =
        ⊎_elim (λ (old : In w (filter (λ z. not (is_in_place_of new z)) ws)). style w (in_filter (λ z. not (is_in_place_of new z)) w ws old).0 node session)
        (λ (last : In w (new ∷ [])). ⊎_elim (λ (is : w ≡ new). ap (λ (z : LocalWant). z.style) is) (λ (none : ⊥). absurd none) last)
        (in_append w (filter (λ z. not (is_in_place_of new z)) ws) (new ∷ []) i)

  -- rows of one session and style, each under the unit of its part
  pub record AreOf (s : Session) (st : StyleKind) (es : List (WantKey × Want)) : Type 0 where
    pub session : (e : WantKey × Want) → In e es → e.0.0 ≡ s
    pub style : (e : WantKey × Want) → In e es → e.1.style ≡ st
    pub units : (e : WantKey × Want) → In e es → HasUnit e

  pub all_more : (s : Session) (st : StyleKind) (es : List (WantKey × Want)) (t : Wants) (ws : List LocalWant) → AreOf s st es → Holds t ws → OfOneStyle s st ws
      → Holds (with_rows t es) (with_wants ws (each (want_at n) es))
  all_more s st [] t ws are h style = h
  all_more s st (e ∷ es) t ws are h style =
      let session = are.session e (inl refl) in
      let of = are.style e (inl refl) in
      let unit = are.units e (inl refl) in
      let here : OfOneStyle e.0.0 e.1.style ws = (λ w i node same. style w i node (same ∙ session) ∙ sym of) in
      let more = one_more t ws h e.0 e.1 unit here in
      let still = still_style t ws h e.0 e.1 unit here in
      all_more s st es (put_in t e.0 e.1) (with_want ws (want_at n e)) (record { session = λ x i. are.session x (inr i); style = λ x i. are.style x (inr i); units = λ x i. are.units x (inr i) }) more
      (λ w i node same. still w i node (same ∙ sym session) ∙ of)

-- ---- the rows of a call
rows_are : (n : ℕ) (s : Session) (st : StyleKind) (names : Names) (flow : TokenBucket) (mark : Bool) → AreOf n s st (wanted s st names flow mark)
rows_are n s Wild names flow mark = record {
  session = λ e i. ⊎_elim (λ is. ap (λ (z : WantKey × Want). z.0.0) is) (λ (none : ⊥). absurd none) i;
  style = λ e i. ⊎_elim (λ is. ap (λ (z : WantKey × Want). z.1.style) is) (λ (none : ⊥). absurd none) i;
  units = λ e i. ⊎_elim (λ is. subst HasUnit (sym is) refl) (λ (none : ⊥). absurd none) i;
}
rows_are n s Fixed names flow mark =
    let row : Sender → WantKey × Want = λ (x : Sender). ((s, Of x), record { style = Fixed; part = record { senders = only x; flow = flow }; confirm = mark }) in
    record {
      session = λ e i. let x = in_each row e (keys names) i in ap (λ (z : WantKey × Want). z.0.0) x.2;
      style = λ e i. let x = in_each row e (keys names) i in ap (λ (z : WantKey × Want). z.1.style) x.2;
      units = λ e i. let x = in_each row e (keys names) i in subst HasUnit (sym x.2) refl;
    }
rows_are n s Shared names flow mark = record {
  session = λ e i. ⊎_elim (λ is. ap (λ (z : WantKey × Want). z.0.0) is) (λ (none : ⊥). absurd none) i;
  style = λ e i. ⊎_elim (λ is. ap (λ (z : WantKey × Want). z.1.style) is) (λ (none : ⊥). absurd none) i;
  units = λ e i. ⊎_elim (λ is. subst HasUnit (sym is) (sym (shared_unit (keys names)))) (λ (none : ⊥). absurd none) i;
}

-- are what a line asks for
asked_rows : (n : ℕ) (s : Session) (st : StyleKind) (names : Names) (flow : TokenBucket) (mark : Bool) → each (want_at n) (wanted s st names flow mark) ≡ asked_for n s st names flow
asked_rows n s Wild names flow mark = refl
asked_rows n s Fixed names flow mark = each_each (λ (x : Sender). ((s, Of x), record { style = Fixed; part = record { senders = only x; flow = flow }; confirm = mark })) (want_at n) (keys names)
asked_rows n s Shared names flow mark = refl

module _ (q : ℕ) (u : World) (l : Locals) (h : Stands l u) (n : ℕ) (bounds : (f : Facts) → slice_get u.nodes n ≡ Some f → IsWithinBounds (config_of q u.net u.trees n) u.clock f) where
  held : (f : Facts) → slice_get u.nodes n ≡ Some f → Holds n f.wants l.wants
  held f at = record {
    told = λ k v e. h.want_told n f k v at e;
    made = λ w i node.
        let r = h.want_made w i in
        let same : r.0 ≡ f = of_some r.0 f (sym (ap (slice_get u.nodes) (sym node) ∙ r.3) ∙ at) in
        (r.1, r.2, ap (λ (z : Facts). get z.wants r.1) (sym same) ∙ r.4, r.5);
    unit = λ k v e. shape_unit v.style k.1 v.part ((bounds f at).shapes.wants k v e).shape;
  }

  module _ (s : Session) where
    -- ---- a want more
    module _ (st : StyleKind) (names : Names) (flow : TokenBucket) (mark : Bool) (style : OfOneStyle n s st l.wants) (named : List Session)
        (sessions : (w : LocalWant) → In w (with_wants l.wants (asked_for n s st names flow)) → In w.session named) (few : length named ≤ 32)
        (units : length (wants_at (with_wants l.wants (asked_for n s st names flow)) n s) ≤ 16)
        (inside : (w : LocalWant) → In w (with_wants l.wants (asked_for n s st names flow)) → w.node ≡ n → (f : Facts) × (slice_get u.nodes n ≡ Some f)) where
      abbrev more : Locals
      more = record l { wants = with_wants l.wants (asked_for n s st names flow) }

      abbrev rows : List (WantKey × Want)
      rows = wanted s st names flow mark

      then_held : (f : Facts) → slice_get u.nodes n ≡ Some f → Holds n (with_rows f.wants rows) more.wants
      then_held f at = subst (λ (ws : List LocalWant). Holds n (with_rows f.wants rows) (with_wants l.wants ws)) (asked_rows n s st names flow mark)
          (all_more n s st rows f.wants l.wants (rows_are n s st names flow mark) (held f at) style)

      room : (f : Facts) (at : slice_get u.nodes n ≡ Some f) → has_room_at by_unit (with_rows f.wants rows) s ≡ true
      room f at = and_made _ _ (le-leb (size (sessions_in by_unit (with_rows f.wants rows))) 32 in_all) (le-leb (size (under by_session by_unit (with_rows f.wants rows) s)) 16 in_one)
        where
          in_all : size (sessions_in by_unit (with_rows f.wants rows)) ≤ 32
          in_all =
              let below = set_below by_session (each (λ (k : WantKey). k.0) (keys (with_rows f.wants rows))) named
              (λ z i.
              let k = in_each (λ (k : WantKey). k.0) z (keys (with_rows f.wants rows)) i in
              let e = in_each (λ (r : WantKey × Want). r.0) k.0 (with_rows f.wants rows).rows k.1 in
              let there = (then_held f at).told e.0.0 e.0.1 (in_found want_keys (with_rows f.wants rows) e.0.0 e.0.1 e.1) in
              subst (λ (y : Session). In y named) (sym (k.2 ∙ ap (λ (y : WantKey). y.0) e.2)) (sessions (want_at n e.0) there)) in
              let most = size-set_of by_session named in
              omega (arith, below, most, few)

          unit_in : LocalWant → UnitOf
          unit_in w = part_unit w.style w.part

          in_one : size (under by_session by_unit (with_rows f.wants rows) s) ≤ 16
          in_one =
              let own : List LocalWant = wants_at more.wants n s in
              let below = size_below by_unit (under by_session by_unit (with_rows f.wants rows) s) (set_of {o = by_unit} (each (λ (w : LocalWant). part_unit w.style w.part) own))
              (λ x t.
              let v = has_some (get (under by_session by_unit (with_rows f.wants rows) s) x) t in
              let found : get (with_rows f.wants rows) (s, x) ≡ Some v.0 = sym (get-under by_session by_unit (with_rows f.wants rows) s x) ∙ v.1 in
              let there = (then_held f at).told (s, x) v.0 found in
              let is : part_unit v.0.style v.0.part ≡ x = sym ((then_held f at).unit (s, x) v.0 found) in
              let listed = to_filter (is_want_at n s) (want_at n ((s, x), v.0)) more.wants there (and_made (n == n) (same_session s s) (number_same n n refl) (tied_self by_session s)) in
              in_set_of by_unit (each (λ (w : LocalWant). part_unit w.style w.part) own) x
              (subst (λ (z : UnitOf). In z (each (λ (w : LocalWant). part_unit w.style w.part) own)) is
              (to_each (λ (w : LocalWant). part_unit w.style w.part) (want_at n ((s, x), v.0)) own listed))) in
              let most = size-set_of by_unit (each (λ (w : LocalWant). part_unit w.style w.part) own) in
              let same = length-map own (λ (w : LocalWant). part_unit w.style w.part) in
              omega (arith, below, most, same, units)

      one_style : (f : Facts) (at : slice_get u.nodes n ≡ Some f) → list_any (λ (w : Want). not (is_style w.style st)) (values (wants_in f s)) ≡ false
      one_style f at =
          either (list_any (λ (w : Want). not (is_style w.style st)) (values (wants_in f s)))
          (λ t.
          let w = in_any (λ (z : Want). not (is_style z.style st)) (values (wants_in f s)) t in
          let e = in_each (λ (r : UnitOf × Want). r.1) w.0 (wants_in f s).rows w.1 in
          let found : get f.wants (s, e.0.0) ≡ Some e.0.1 = sym (get-under by_session by_unit f.wants s e.0.0) ∙ in_found by_unit (wants_in f s) e.0.0 e.0.1 e.1 in
          let same : e.0.1.style ≡ st = style (want_at n ((s, e.0.0), e.0.1)) (h.want_told n f (s, e.0.0) e.0.1 at found) refl refl in
          let tied : is_style w.0.style st ≡ true = ap (λ (z : Want). is_style z.style st) e.2 ∙ ap (λ (z : StyleKind). is_style z st) same ∙ tied_self by_style st in
          let no : false ≡ true = ap not (sym tied) ∙ w.2 in absurd (cc)) (λ off. off)

      pub want_makes : Makes q u n (WantAs s st names flow mark) l more
      want_makes = record {
        taken = λ f at.
            ap (λ (b : Bool). needs (not b) local.Style (needs (has_room_at by_unit (with_rows f.wants rows) s) local.Full None)) (one_style f at)
            ∙ ap (λ (b : Bool). needs b local.Full None) (room f at);
        senders_stay = λ y i away. i;
        senders_were = λ y i away. i;
        sends = λ f k t at e. h.sender_told n f k t at e;
        sent = λ y i node. let r = h.sender_made y i in (r.0, r.1, ap (slice_get u.nodes) (sym node) ∙ r.2, r.3);
        wants_stay = λ w i away. stays (asked_for n s st names flow) l.wants (λ z j. of_node z j) w i away;
        wants_were = λ w i away. ⊎_elim (λ (j : In w l.wants). j) (λ (j : In w (asked_for n s st names flow)). absurd (away (of_node w j))) (new_want l.wants (asked_for n s st names flow) w i);
        wants = λ f k v at e. (then_held f at).told k v e;
        wanted = λ w i node.
            let f = inside w i node in
            let r = (then_held f.0 f.1).made w i node in
            (f.0, r.0, r.1, f.1, r.2, r.3);
      }
        where
          of_node : (w : LocalWant) → In w (asked_for n s st names flow) → w.node ≡ n
          of_node w i =
              let e = in_each (want_at n) w rows (subst (λ (ws : List LocalWant). In w ws) (sym (asked_rows n s st names flow mark)) i) in
              ap (λ (z : LocalWant). z.node) e.2

          stays : (news ws : List LocalWant) → ((z : LocalWant) → In z news → z.node ≡ n) → (w : LocalWant) → In w ws → (w.node ≡ n → ⊥) → In w (with_wants ws news)
          stays [] ws of w i away = i
          stays (x ∷ news) ws of w i away =
              stays news (with_want ws x) (λ z j. of z (inr j)) w
              (in_left w (filter (λ z. not (is_in_place_of x z)) ws) (x ∷ [])
              (to_filter (λ z. not (is_in_place_of x z)) w ws i
              (either (is_in_place_of x w)
              (λ t.
              let a = and_both (is_want_at x.node x.session w) (eq_by_cmp by_style.cmp x.style w.style && eq_by_cmp by_unit.cmp (part_unit x.style x.part) (part_unit w.style w.part)) t in
              let b = and_both (w.node == x.node) (same_session x.session w.session) a.0 in
              absurd (away (same_number w.node x.node b.0 ∙ of x (inl refl))))
              (λ off. ap not off)))) away

    -- ---- all wants of a session go
    module _ (some : (w : LocalWant) × In w l.wants × (w.node ≡ n) × (w.session ≡ s)) where
      abbrev fewer : Locals
      fewer = without_wants l n s

      pub quit_makes : Makes q u n (QuitAll s) l fewer
      quit_makes = record {
        taken = λ f at.
            let r = (held f at).made some.0 some.1 some.2 in
            let key : r.0 ≡ (s, r.0.1) = (λ i. ((ap (λ (z : LocalWant). z.session) (sym r.3) ∙ some.3) i, r.0.1)) in
            let found : get (wants_in f s) r.0.1 ≡ Some r.1 = get-under by_session by_unit f.wants s r.0.1 ∙ ap (get f.wants) (sym key) ∙ r.2 in
            let many = some_rows by_unit r.0.1 (wants_in f s).rows (ap is_some found) in
            ap (λ (b : Bool). needs b local.Absent None) (lt-ltb 0 (size (wants_in f s)) (omega (arith, many)));
        senders_stay = λ y i away. i;
        senders_were = λ y i away. i;
        sends = λ f k t at e. h.sender_told n f k t at e;
        sent = λ y i node. let r = h.sender_made y i in (r.0, r.1, ap (slice_get u.nodes) (sym node) ∙ r.2, r.3);
        wants_stay = λ w i away. stays w i (λ node session. away node);
        wants_were = λ w i away. (was w i).0;
        wants = λ f k v at e.
            let g = got_kept want_keys (λ z. not (is_session z.0 s)) f.wants k v e in
            stays (want_at n (k, v)) (h.want_told n f k v at g.1) (λ node session. let tied : is_session k.0 s ≡ true = ap (λ (z : Session). is_session z s) session ∙ tied_self by_session s in
            let no : false ≡ true = ap not (sym tied) ∙ g.0 in absurd (cc));
        wanted = λ w i node.
            let old = was w i in
            let r = h.want_made w old.0 in
            let session : w.session ≡ r.1.0 = ap (λ (z : LocalWant). z.session) r.5 in
            let keeps : not (is_session r.1.0 s) ≡ true =
            either (is_session r.1.0 s) (λ tie. absurd (old.1 node (session ∙ tied_same by_session r.1.0 s tie))) (λ off. ap not off) in (
              r.0,
              r.1,
              r.2,
              ap (slice_get u.nodes) (sym node) ∙ r.3,
              get-kept want_keys (λ z. not (is_session z.0 s)) r.0.wants r.1 ∙ ap (λ (b : Bool). cond b (get r.0.wants r.1) None) keeps ∙ r.4,
              r.5,
            );
      }
        where
          stays : (w : LocalWant) → In w l.wants → (w.node ≡ n → w.session ≡ s → ⊥) → In w fewer.wants
          stays w i apart =
              to_filter (λ z. not (is_want_at n s z)) w l.wants i
              (either (is_want_at n s w)
              (λ t. let a = and_both (w.node == n) (same_session s w.session) t in absurd (apart (same_number w.node n a.0) (sym (tied_same by_session s w.session a.1))))
              (λ off. ap not off))

          was : (w : LocalWant) → In w fewer.wants → In w l.wants × (w.node ≡ n → w.session ≡ s → ⊥)
          was w i =
              let f = in_filter (λ z. not (is_want_at n s z)) w l.wants i in (
                f.0,
                λ node session.
                    let t : is_want_at n s w ≡ true = and_made (w.node == n) (same_session s w.session) (number_same w.node n node)
                    (ap (eq_by_cmp by_session.cmp s) session ∙ tied_self by_session s) in
                    let no : false ≡ true = ap not (sym t) ∙ f.1 in absurd (cc),
              )
