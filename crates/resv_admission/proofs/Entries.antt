-- An entry of a computed book is that of the reservations of its key.
use Rattle.std.specs.Prelude.{◌≡◌, ℕ, ◌+◌, ◌==◌, true, cond, List, Option, Some, None, refl}
use Rattle.std.proofs.Common.{sym, ap, subst, ◌∙◌, arith}
use Rattle.std.proofs.lemmas.Option.{same_Some}
use Rattle.rsvp_base.specs.Members.{In}
use Rattle.rsvp_base.specs.Orders.{entry_keys, sessions, units}
use Rattle.rsvp_base.specs.Styles.{part_unit}
use Rattle.rsvp_base.specs.Table.{Table, changed, get}
use Rattle.rsvp_base.specs.Under.{under}
use Rattle.rsvp_base.specs.declared.addr.Addr.{Addr}
use Rattle.rsvp_base.specs.declared.entry_key.EntryKey.{EntryKey}
use Rattle.rsvp_base.specs.declared.part.Part.{Part}
use Rattle.rsvp_base.proofs.Counts.{found_in, in_found}
use Rattle.rsvp_base.proofs.Fronts.{in_filter_map, to_filter_map}
use Rattle.rsvp_base.proofs.Members.{in_filter, to_filter}
use Rattle.rsvp_base.proofs.Tables.{get-changed, got_changed, then_do}
use Rattle.rsvp_base.proofs.UnderLaws.{get-under}
use Rattle.resv_state.specs.Merging.{SessionRow, part_on, parts_on}
use Rattle.resv_state.specs.Resvs.{AreOfStyle, ResvFacts}
use Rattle.resv_state.specs.Walks.{rests}
use Rattle.style_rules.specs.CutLaws.{named_above}
use Rattle.style_rules.specs.Lines.{Line, LineKey, at_end, entry_key, line_keys}
use Rattle.style_rules.specs.Merge.{merge}
use Rattle.style_rules.specs.PartLaws.{part_at_most_along, part_at_most_both_ways}
use Rattle.style_rules.specs.Parts.{IsPartAtMost, has_name}
use Rattle.style_rules.proofs.Merges.{merge_above, merge_least, merge_source}
use Rattle.router_rules.specs.Books.{book, line_of, lines}
use Rattle.router_rules.specs.Facts.{Facts, ResvState, resvs_of}
use Rattle.laws_bounds.proofs.Lists.{passed}
use Rattle.laws_bounds.proofs.Requesting.{lines_told, to_lines}
use Rattle.router_state.specs.State.{resv_at}

abbrev part_of_line : Line → Part
part_of_line l = l.part

-- ---- two books at one entry
module _ (i : ℕ) (k : EntryKey) where
  -- the reservations of the entry
  abbrev pub key_of : Addr → LineKey
  key_of a = (k.session, ((i, a), k.unit))

  -- each has one that can stand for it
  abbrev pub IsBelow : Facts → Facts → Type 0
  IsBelow f g = (a : Addr) (r : ResvState) → get (resvs_of k.style f) (key_of a) ≡ Some r → (x : ResvState) × (get (resvs_of k.style g) (key_of a) ≡ Some x) × IsPartAtMost r.part x.part

  -- a line of the entry stands for a reservation
  pub record IsOfEntry (f : Facts) (l : Line) : Type 0 where
    pub next : Addr
    pub resv : ResvState
    pub there : get (resvs_of k.style f) (key_of next) ≡ Some resv
    pub part : l.part ≡ resv.part

  pub of_entry : (f : Facts) (l : Line) → In l (at_end i (lines f)) → k ≡ entry_key l → IsOfEntry f l
  of_entry f l h e =
      let w = in_filter (λ (z : Line). z.end == i) l (lines f) h in
      let t = lines_told f l w.0 in
      let spot : k ≡ record { session = t.key.0; style = t.style; unit = t.key.1.1 } = e ∙ ap entry_key t.is in
      let end : t.key.1.0.0 ≡ i = same_number (t.key.1.0.0) i (ap (λ (z : Line). z.end == i) (sym t.is) ∙ w.1) in
      let key : ◌≡◌ {A = LineKey} t.key (key_of t.key.1.0.1) = λ j. ((sym spot j).session, ((end j, t.key.1.0.1), (sym spot j).unit)) in
      record {
        next = t.key.1.0.1;
        resv = t.resv;
        there = sym (ap (λ z. get (resvs_of z f) t.key) (λ j. (sym spot j).style) ∙ ap (get (resvs_of k.style f)) key) ∙ t.there;
        part = ap (λ (z : Line). z.part) t.is;
      }
    where
      same_number : (a b : ℕ) → (a == b) ≡ true → a ≡ b
      same_number a b h = grind arith

  line_in : (f : Facts) (a : Addr) (r : ResvState) → get (resvs_of k.style f) (key_of a) ≡ Some r → In (line_of k.style (key_of a, r)) (at_end i (lines f))
  line_in f a r e = to_filter (λ (z : Line). z.end == i) (line_of k.style (key_of a, r)) (lines f)
      (to_lines f (line_of k.style (key_of a, r)) (record { style = k.style; key = key_of a; resv = r; there = e; is = refl })) (itself i)
    where
      itself : (a : ℕ) → (a == a) ≡ true
      itself a = grind arith

  -- a reservation that names someone is below the entry
  pub under_entry : (f : Facts) (a : Addr) (r : ResvState) → get (resvs_of k.style f) (key_of a) ≡ Some r → has_name r.part ≡ true → (y : Part) × (get (book f i) k ≡ Some y) × IsPartAtMost r.part y
  under_entry f a r e named = merge_above entry_keys entry_key part_of_line (at_end i (lines f)) (line_of k.style (key_of a, r)) (line_in f a r e) named

  pub entry_below : (f g : Facts) → IsBelow f g → (x : Part) → get (book f i) k ≡ Some x → (y : Part) × (get (book g i) k ≡ Some y) × IsPartAtMost x y
  entry_below f g below x e =
      let source = merge_source entry_keys entry_key part_of_line (at_end i (lines f)) k x e in
      let y = above source.0 source.1 source.2 source.3 in (
        y.0,
        y.1,
        merge_least entry_keys entry_key part_of_line (at_end i (lines f)) k x y.0 e
            (λ l h named at. let z = above l h named at in subst (IsPartAtMost l.part) (same_Some z.0 y.0 (sym z.1 ∙ y.1)) z.2),
      )
    where
      above : (l : Line) → In l (at_end i (lines f)) → has_name l.part ≡ true → k ≡ entry_key l → (y : Part) × (get (book g i) k ≡ Some y) × IsPartAtMost l.part y
      above l h named at =
          let o = of_entry f l h at in
          let x = below o.next o.resv o.there in
          let y = under_entry g o.next x.0 x.1 (named_above o.resv.part x.0.part x.2 (ap has_name (sym o.part) ∙ named)) in
          (y.0, y.1, subst (λ z. IsPartAtMost z y.0) (sym o.part) (part_at_most_along o.resv.part x.0.part y.0 x.2 y.2))

  -- where the reservations of the entry have the same parts, it is the same
  pub entry_same : (f g : Facts) → IsBelow f g → IsBelow g f → get (book f i) k ≡ get (book g i) k
  entry_same f g to from = by (get (book f i) k) refl (get (book g i) k) refl
    where
      by : (v : Option Part) → get (book f i) k ≡ v → (w : Option Part) → get (book g i) k ≡ w → v ≡ w
      by None a None b = refl
      by None a (Some n) b = let r = entry_below g f from n b in let z : ◌≡◌ {A = Option Part} None (Some r.0) = sym a ∙ r.1 in absurd (cc)
      by (Some m) a None b = let r = entry_below f g to m a in let z : ◌≡◌ {A = Option Part} None (Some r.0) = sym b ∙ r.1 in absurd (cc)
      by (Some m) a (Some n) b =
          let r = entry_below f g to m a in
          let s = entry_below g f from n b in
          ap Some (part_at_most_both_ways m n (subst (IsPartAtMost m) (same_Some r.0 n (sym r.1 ∙ b)) r.2) (subst (IsPartAtMost n) (same_Some s.0 m (sym s.1 ∙ a)) s.2))

-- ---- an entry is what the table of its style merges on the interface
module _ (f : Facts) (c : ℕ) (m : ResvFacts) (i : ℕ) (k : EntryKey) (is : resvs_of k.style f ≡ changed (resv_at c) m) (styled : AreOfStyle k.style m) where
  abbrev rows : List SessionRow
  rows = (under sessions rests m k.session).rows

  -- a part of the table is a reservation of the entry
  in_table : (a : Addr) (r : ResvState) → get (resvs_of k.style f) (key_of i k a) ≡ Some r → (e : _) × (get m (key_of i k a) ≡ Some e) × (e.0.part ≡ r.part)
  in_table a r e =
      let g = got_changed line_keys (resv_at c) m (key_of i k a) r (ap (λ (z : Table line_keys ResvState). get z (key_of i k a)) (sym is) ∙ e) in
      (g.0, g.1, ap (λ (z : ResvState). z.part) (same_Some _ r g.2))

  pub merged_below : (x : Part) → get (book f i) k ≡ Some x → (y : Part) × (get (merge k.style (parts_on i rows)) k.unit ≡ Some y) × IsPartAtMost x y
  merged_below x e =
      let source = merge_source entry_keys entry_key part_of_line (at_end i (lines f)) k x e in
      let y = above source.0 source.1 source.2 source.3 in (
        y.0,
        y.1,
        merge_least entry_keys entry_key part_of_line (at_end i (lines f)) k x y.0 e
            (λ l h named at. let z = above l h named at in subst (IsPartAtMost l.part) (same_Some z.0 y.0 (sym z.1 ∙ y.1)) z.2),
      )
    where
      itself : (a : ℕ) → (a == a) ≡ true
      itself a = grind arith

      above : (l : Line) → In l (at_end i (lines f)) → has_name l.part ≡ true → k ≡ entry_key l → (y : Part) × (get (merge k.style (parts_on i rows)) k.unit ≡ Some y) × IsPartAtMost l.part y
      above l h named at =
          let o = of_entry i k f l h at in
          let g = in_table o.next o.resv o.there in
          let same : l.part ≡ g.0.0.part = o.part ∙ sym g.2 in
          let row : get (under sessions rests m k.session) ((i, o.next), k.unit) ≡ Some g.0 = get-under sessions rests m k.session ((i, o.next), k.unit) ∙ g.1 in
          let among : In g.0.0.part (parts_on i rows) = to_filter_map (part_on i) g.0.0.part (((i, o.next), k.unit), g.0) rows
          (found_in rests (under sessions rests m k.session) ((i, o.next), k.unit) g.0 row) (ap (λ b. cond b (Some g.0.0.part) None) (itself i)) in
          let unit : part_unit k.style g.0.0.part ≡ k.unit = λ j. (styled.key (key_of i k o.next) g.0 g.1 j).1.1 in
          let y = merge_above units (part_unit k.style) (λ (p : Part). p) (parts_on i rows) g.0.0.part among (ap has_name (sym same) ∙ named) in
          (y.0, ap (get (merge k.style (parts_on i rows))) (sym unit) ∙ y.1, subst (λ z. IsPartAtMost z y.0) (sym same) y.2)

  pub merged_above : (x : Part) → get (merge k.style (parts_on i rows)) k.unit ≡ Some x → (y : Part) × (get (book f i) k ≡ Some y) × IsPartAtMost x y
  merged_above x e =
      let source = merge_source units (part_unit k.style) (λ (p : Part). p) (parts_on i rows) k.unit x e in
      let y = above source.0 source.1 source.2 source.3 in (
        y.0,
        y.1,
        merge_least units (part_unit k.style) (λ (p : Part). p) (parts_on i rows) k.unit x y.0 e
            (λ p h named at. let z = above p h named at in subst (IsPartAtMost p) (same_Some z.0 y.0 (sym z.1 ∙ y.1)) z.2),
      )
    where
      same_number : (a b : ℕ) → (a == b) ≡ true → a ≡ b
      same_number a b h = grind arith

      above : (p : Part) → In p (parts_on i rows) → has_name p ≡ true → k.unit ≡ part_unit k.style p → (y : Part) × (get (book f i) k ≡ Some y) × IsPartAtMost p y
      above p h named at =
          let t = in_filter_map (part_on i) p rows h in
          let w = passed (t.0.0.0.0 == i) (Some t.0.1.0.part) p t.2 in
          let part : t.0.1.0.part ≡ p = same_Some t.0.1.0.part p w.1 in
          let key : LineKey = (k.session, t.0.0) in
          let got : get m key ≡ Some t.0.1 = sym (get-under sessions rests m k.session t.0.0) ∙ in_found rests (under sessions rests m k.session) t.0.0 t.0.1 t.1 in
          let unit : t.0.0.1 ≡ k.unit = (λ j. (sym (styled.key key t.0.1 got) j).1.1) ∙ ap (part_unit k.style) part ∙ sym at in
          let end : t.0.0.0.0 ≡ i = same_number t.0.0.0.0 i w.0 in
          let spot : ◌≡◌ {A = LineKey} key (key_of i k t.0.0.0.1) = λ j. (k.session, ((end j, t.0.0.0.1), unit j)) in
          let resv : ResvState = record { part = t.0.1.0.part; confirm = t.0.1.0.confirm; dies = c + t.0.1.1 } in
          let fact : get (resvs_of k.style f) (key_of i k t.0.0.0.1) ≡ Some resv = ap (get (resvs_of k.style f)) (sym spot) ∙ ap (λ (z : Table line_keys ResvState). get z key) is
          ∙ get-changed line_keys (resv_at c) m key ∙ ap (λ z. then_do z (resv_at c key)) got in
          let y = under_entry i k f t.0.0.0.1 resv fact (ap has_name part ∙ named) in
          (y.0, y.1, subst (λ z. IsPartAtMost z y.0) part y.2)

  pub entry_is : get (book f i) k ≡ get (merge k.style (parts_on i rows)) k.unit
  entry_is = by (get (book f i) k) refl (get (merge k.style (parts_on i rows)) k.unit) refl
    where
      by : (v : Option Part) → get (book f i) k ≡ v → (w : Option Part) → get (merge k.style (parts_on i rows)) k.unit ≡ w → v ≡ w
      by None a None b = refl
      by None a (Some n) b = let r = merged_above n b in let z : ◌≡◌ {A = Option Part} None (Some r.0) = sym a ∙ r.1 in absurd (cc)
      by (Some m) a None b = let r = merged_below m a in let z : ◌≡◌ {A = Option Part} None (Some r.0) = sym b ∙ r.1 in absurd (cc)
      by (Some m) a (Some n) b =
          let r = merged_below m a in
          let s = merged_above n b in
          ap Some (part_at_most_both_ways m n (subst (IsPartAtMost m) (same_Some r.0 n (sym r.1 ∙ b)) r.2) (subst (IsPartAtMost n) (same_Some s.0 m (sym s.1 ∙ a)) s.2))
