-- A reservation takes its place: what becomes of the lines and the books.
use Rattle.std.specs.Prelude.{◌≡◌, ℕ, ◌+◌, ◌-◌, ◌≤◌, ◌==◌, nat_lt, ◌⊎◌, Bool, true, false, cond, not, ◌&&◌, List, [], ◌∷◌, slice_get, map as each, option_and_then, Option, Some, None, refl}
use Rattle.std.proofs.Common.{sym, ap, subst, ◌∙◌, inl, inr, ⊎_elim, arith}
use Rattle.std.proofs.lemmas.Bool.{ltb-false, eqb-true, eqb-false}
use Rattle.std.specs.Option.{option_map}
use Rattle.std.specs.List.{filter}
use Rattle.std.specs.Ordering.{eq_by_cmp}
use Rattle.rsvp_base.specs.declared.iface.Iface.{Iface}
use Rattle.admission_book.specs.Charges.{refusal_beside}
use Rattle.rsvp_base.specs.declared.part.Part.{Part}
use Rattle.rsvp_base.specs.declared.style.StyleKind.{StyleKind}
use Rattle.rsvp_base.specs.Members.{In}
use Rattle.rsvp_base.specs.Orders.{styles, entry_keys}
use Rattle.rsvp_base.specs.Table.{get, put_in, without}
use Rattle.rsvp_base.proofs.Counts.{sum_below}
use Rattle.rsvp_base.proofs.Members.{in_filter, to_filter}
use Rattle.rsvp_base.proofs.Sums.{number_of, sum-without}
use Rattle.rsvp_base.proofs.Tables.{either, get-without, got_put_in, tied_same, tied_self}
use Rattle.style_rules.specs.Limits.{IsWithinLimits}
use Rattle.style_rules.specs.Lines.{AreUnder, BookTable, IsUnder, Line, LineKey, at_end, entry_key, held, line_keys, merged_book}
use Rattle.rsvp_base.specs.declared.entry_key.EntryKey.{EntryKey}
use Rattle.style_rules.specs.Merge.{all_by, those_at}
use Rattle.style_rules.specs.PartLaws.{charge_below, most_below, part_at_most_itself}
use Rattle.style_rules.specs.Parts.{IsPartAtMost, has_name, part_charge, part_join}
use Rattle.style_rules.proofs.Books.{book_below, held_below}
use Rattle.style_rules.proofs.Merges.{get-merge_of, in_those}
use Rattle.style_rules.proofs.Room.{within_told}
use Rattle.router_rules.specs.Books.{book, fits, lines, lines_of, refused}
use Rattle.router_rules.specs.Bounds.{AreBooked}
use Rattle.router_rules.specs.Calls.{entry_of}
use Rattle.router_rules.specs.Facts.{Facts, Resvs, ResvState, resvs_of, with_resvs}
use Rattle.router_rules.specs.NodeConfig.{NodeConfig}
use Rattle.laws_bounds.proofs.Leaving.{table_other, table_put}
use Rattle.laws_bounds.proofs.Requesting.{lines_told, to_lines}

-- ---- two styles are one, or are not
pub style_same : (a b : StyleKind) → (a ≡ b) ⊎ (a ≡ b → ⊥)
style_same a b = either (eq_by_cmp styles.cmp a b) (λ tie. inl (tied_same styles a b tie))
    (λ apart. inr (λ e. let z : true ≡ false = sym (ap (λ c. eq_by_cmp styles.cmp a c) (sym e) ∙ tied_self styles a) ∙ apart in cc))

-- ---- filters
filter_twice : {A : Type 0} (test : A → Bool) (xs : List A) → filter test (filter test xs) ≡ filter test xs
filter_twice test [] = refl
filter_twice {A} test (x ∷ xs) = by (test x) refl (filter_twice test xs)
  where
    by : (b : Bool) → test x ≡ b → filter test (filter test xs) ≡ filter test xs → filter test (cond b (x ∷ filter test xs) (filter test xs)) ≡ cond b (x ∷ filter test xs) (filter test xs)
    by true is rest = ap (λ b. cond b (x ∷ filter test (filter test xs)) (filter test (filter test xs))) is ∙ ap (λ zs. x ∷ zs) rest
    by false is rest = rest

-- an entry of a book is that of the lines of its key
only_its_lines : (ls : List Line) (q : EntryKey) → get (merged_book (those_at entry_keys entry_key (λ l. l.part) q ls)) q ≡ get (merged_book ls) q
only_its_lines ls q =
    get-merge_of entry_keys entry_key (λ (l : Line). l.part) (those_at entry_keys entry_key (λ l. l.part) q ls) q
    ∙ ap (λ (zs : List Line). all_by part_join (each (λ (l : Line). l.part) zs)) (filter_twice (λ (l : Line). has_name l.part && eq_by_cmp entry_keys.cmp q (entry_key l)) ls)
    ∙ sym (get-merge_of entry_keys entry_key (λ (l : Line). l.part) ls q)

-- ---- what is not refused
admitted : {A : Type 0} (a b : Bool) (x y : A) → cond a (Some x) (cond b (Some y) None) ≡ None → (a ≡ false) × (b ≡ false)
admitted true b x y e = absurd (cc)
admitted false true x y e = absurd (cc)
admitted false false x y e = (refl, refl)

module _ (p : NodeConfig) (st : StyleKind) (k : LineKey) (x : ResvState) (f : Facts) (t : Resvs) where
  -- facts before and after
  abbrev pub before_put : Facts
  before_put = with_resvs st t f

  abbrev pub after_put : Facts
  after_put = with_resvs st (put_in t k x) f

  -- a reservation is the new one, or was there
  pub record IsPut (s : StyleKind) (q : LineKey) (r : ResvState) : Type 0 where
    pub style : s ≡ st
    pub key : q ≡ k
    pub is : r ≡ x

  pub put_source : (s : StyleKind) (q : LineKey) (r : ResvState) → get (resvs_of s after_put) q ≡ Some r → IsPut s q r ⊎ (get (resvs_of s before_put) q ≡ Some r)
  put_source s q r e =
      ⊎_elim
      (λ (same : s ≡ st).
      let here : get (put_in t k x) q ≡ Some r = sym (ap (λ (z : Resvs). get z q) (ap (λ z. resvs_of z after_put) same ∙ table_put st (put_in t k x) f.resvs)) ∙ e in
      ⊎_elim
      (λ (new : (q ≡ k) × (r ≡ x)). inl (record { style = same; key = new.0; is = new.1 }))
      (λ (old : get t q ≡ Some r). inr (ap (λ (z : Resvs). get z q) (ap (λ z. resvs_of z before_put) same ∙ table_put st t f.resvs) ∙ old))
      (got_put_in line_keys t k x q r here))
      (λ (other : s ≡ st → ⊥).
      inr (ap (λ (z : Resvs). get z q) (table_other s st t f.resvs other ∙ sym (table_other s st (put_in t k x) f.resvs other)) ∙ e))
      (style_same s st)

  -- ---- lines
  abbrev at : ℕ
  at = k.1.0.0

  abbrev entry : EntryKey
  entry = entry_of st k

  line_source : (l : Line) → In l (lines after_put) → ((l.end ≡ at) × (entry_key l ≡ entry)) ⊎ In l (lines before_put)
  line_source l i =
      let s = lines_told after_put l i in
      ⊎_elim
      (λ (new : IsPut s.style s.key s.resv). inl (
        ap (λ (z : Line). z.end) s.is ∙ ap (λ (q : LineKey). q.1.0.0) new.key,
        ap entry_key s.is ∙ (λ j. record { session = (new.key j).0; style = new.style j; unit = (new.key j).1.1 }),
      ))
      (λ (old : get (resvs_of s.style before_put) s.key ≡ Some s.resv). inr (to_lines before_put l (record { style = s.style; key = s.key; resv = s.resv; there = old; is = s.is })))
      (put_source s.style s.key s.resv (s.there))

  itself : (l : Line) → IsUnder l l
  itself l = record { style = refl; key = refl; part = part_at_most_itself l.part }

  -- at other interfaces all is as it was
  elsewhere : (i : ℕ) → (i ≡ at → ⊥) → AreUnder (at_end i (lines after_put)) (at_end i (lines before_put))
  elsewhere i other l h =
      let s = in_filter (λ (z : Line). z.end == i) l (lines after_put) h in
      let here : l.end ≡ i = eqb-true l.end i s.1 in
      ⊎_elim (λ (new : (l.end ≡ at) × (entry_key l ≡ entry)). absurd (other (sym here ∙ new.0)))
      (λ (old : In l (lines before_put)). (l, to_filter (λ (z : Line). z.end == i) l (lines before_put) old s.1, itself l)) (line_source l s.0)

  -- and so are the other entries of the interface
  pub other_entries : (i : ℕ) (q : EntryKey) (x : Part) → (q ≡ entry → ⊥) → get (book after_put i) q ≡ Some x → (y : Part) × (get (book before_put i) q ≡ Some y) × IsPartAtMost x y
  other_entries i q x other e =
      book_below (those_at entry_keys entry_key (λ l. l.part) q (at_end i (lines after_put))) (at_end i (lines before_put)) under q x (only_its_lines (at_end i (lines after_put)) q ∙ e)
    where
      under : AreUnder (those_at entry_keys entry_key (λ l. l.part) q (at_end i (lines after_put))) (at_end i (lines before_put))
      under l h =
          let m = in_those entry_keys entry_key (λ (z : Line). z.part) q l (at_end i (lines after_put)) h in
          let s = in_filter (λ (z : Line). z.end == i) l (lines after_put) m.0 in
          ⊎_elim (λ (new : (l.end ≡ at) × (entry_key l ≡ entry)). absurd (other (m.2 ∙ new.1)))
          (λ (old : In l (lines before_put)). (l, to_filter (λ (z : Line). z.end == i) l (lines before_put) old s.1, itself l)) (line_source l s.0)

  others_held : (i : ℕ) → held (without (book after_put i) entry) ≤ held (book before_put i)
  others_held i = sum_below entry_keys (λ e. part_charge e.1) (λ e. part_charge e.1) (without (book after_put i) entry) (book before_put i) each_one
    where
      each_one : (q : EntryKey) (x : Part) → get (without (book after_put i) entry) q ≡ Some x → (y : Part) × (get (book before_put i) q ≡ Some y) × (part_charge x ≤ part_charge y)
      each_one q x e = by (eq_by_cmp entry_keys.cmp entry q) refl (sym (get-without entry_keys (book after_put i) entry q) ∙ e)
        where
          by : (b : Bool) → eq_by_cmp entry_keys.cmp entry q ≡ b → cond (not b) (get (book after_put i) q) None ≡ Some x
              → (y : Part) × (get (book before_put i) q ≡ Some y) × (part_charge x ≤ part_charge y)
          by true tie e = absurd (cc)
          by false apart e =
              let other : q ≡ entry → ⊥ = λ same. let z : true ≡ false = sym (ap (eq_by_cmp entry_keys.cmp entry) same ∙ tied_self entry_keys entry) ∙ apart in cc in
              let y = other_entries i q x other e in (y.0, y.1, charge_below x y.0 y.2)

  -- ---- capacity and packet size, where the book does not refuse the entry
  module _ (w : AreBooked p before_put) (on : Iface) (there : slice_get p.ifaces at ≡ Some on) (open_to : refused p at entry (book after_put at) ≡ None) where
    abbrev b1 : BookTable
    b1 = book after_put at

    abbrev others : ℕ
    others = held (without b1 entry)

    admits : refusal_beside on others (option_map (λ (z : Part). z.flow) (get b1 entry)) ≡ None
    admits = sym (ap (λ v. option_and_then (λ (on : Iface). refusal_beside on others (option_map (λ (z : Part). z.flow) (get b1 entry))) v) there) ∙ open_to

    record Admitted (y : Part) : Type 0 where
      size : y.flow.most ≤ on.mtu
      rate : y.flow.r ≤ on.capacity - others

    entry_admitted : (y : Part) → get b1 entry ≡ Some y → Admitted y
    entry_admitted y e =
        let a = admitted (nat_lt on.mtu y.flow.most) (nat_lt (on.capacity - others) y.flow.r) _ _ (sym (ap (λ v. refusal_beside on others (option_map (λ (z : Part). z.flow) v)) e) ∙ admits) in
        record { size = ltb-false on.mtu y.flow.most a.0; rate = ltb-false (on.capacity - others) y.flow.r a.1 }

    pub put_capacity : held b1 ≤ on.capacity
    put_capacity = by (get b1 entry) refl
      where
        sums : held b1 ≡ others + number_of (λ (e : EntryKey × Part). part_charge e.1) entry (get b1 entry)
        sums = sum-without entry_keys (λ (e : EntryKey × Part). part_charge e.1) b1 entry

        by : (v : Option Part) → get b1 entry ≡ v → held b1 ≤ on.capacity
        by None e =
            let s : held b1 ≡ others + 0 = sums ∙ ap (λ v. others + number_of (λ (e : EntryKey × Part). part_charge e.1) entry v) e in
            let less = others_held at in let most = w.capacity at on there in omega (arith, s, less, most)
        by (Some y) e =
            let s : held b1 ≡ others + y.flow.r = sums ∙ ap (λ v. others + number_of (λ (e : EntryKey × Part). part_charge e.1) entry v) e in
            let less = others_held at in let most = w.capacity at on there in let rate = (entry_admitted y e).rate in omega (arith, s, less, most, rate)

    pub put_mtu : (q : EntryKey) (x : Part) → get b1 q ≡ Some x → x.flow.most ≤ on.mtu
    put_mtu q x e =
        either (eq_by_cmp entry_keys.cmp q entry)
        (λ tie. (entry_admitted x (ap (get b1) (sym (tied_same entry_keys q entry tie)) ∙ e)).size)
        (λ apart.
        let other : q ≡ entry → ⊥ = λ same. let z : true ≡ false = sym (ap (λ k. eq_by_cmp entry_keys.cmp q k) (sym same) ∙ tied_self entry_keys q) ∙ apart in cc in
        let y = other_entries at q x other e in let less = most_below x y.0 y.2 in let most = w.mtu at on q y.0 there y.1 in omega (arith, less, most))

  pub put_booked : AreBooked p before_put → refused p at entry (book after_put at) ≡ None → AreBooked p after_put
  put_booked w open_to =
      record {
        capacity = λ i on e. at_iface i on e (either (i == at) (λ b. inl (eqb-true i at b)) (λ b. inr (not_same i b)));
        mtu = λ i on k x e h. mtu_at i on e k x h (either (i == at) (λ b. inl (eqb-true i at b)) (λ b. inr (not_same i b)));
      }
    where
      not_same : (i : ℕ) → (i == at) ≡ false → i ≡ at → ⊥
      not_same i b e = let n = eqb-false i at b in n e

      at_iface : (i : ℕ) (on : Iface) → slice_get p.ifaces i ≡ Some on → (i ≡ at) ⊎ (i ≡ at → ⊥) → held (book after_put i) ≤ on.capacity
      at_iface i on e s =
          ⊎_elim (λ (same : i ≡ at). subst (λ j. held (book after_put j) ≤ on.capacity) (sym same) (put_capacity w on (ap (slice_get p.ifaces) (sym same) ∙ e) open_to))
          (λ (other : i ≡ at → ⊥). let less = held_below (at_end i (lines after_put)) (at_end i (lines before_put)) (elsewhere i other) in let most = w.capacity i on e in omega (arith, less, most)) s

      mtu_at : (i : ℕ) (on : Iface) → slice_get p.ifaces i ≡ Some on → (k : EntryKey) (x : Part) → get (book after_put i) k ≡ Some x → (i ≡ at) ⊎ (i ≡ at → ⊥) → x.flow.most ≤ on.mtu
      mtu_at i on e k x h s =
          ⊎_elim (λ (same : i ≡ at). put_mtu w on (ap (slice_get p.ifaces) (sym same) ∙ e) open_to k x (ap (λ j. get (book after_put j) k) (sym same) ∙ h))
          (λ (other : i ≡ at → ⊥).
          let y = book_below (at_end i (lines after_put)) (at_end i (lines before_put)) (elsewhere i other) k x h in let less = most_below x y.0 y.2 in let most = w.mtu i on k y.0 e y.1 in
          omega (arith, less, most)) s

  -- ---- limits, where there is room
  pub put_limits : ((s : StyleKind) → IsWithinLimits s (lines_of s (resvs_of s before_put))) → fits st (put_in t k x) ≡ true → (s : StyleKind) → IsWithinLimits s (lines_of s (resvs_of s after_put))
  put_limits w room s =
      ⊎_elim
      (λ (same : s ≡ st).
      let put : resvs_of s after_put ≡ put_in t k x = ap (λ z. resvs_of z after_put) same ∙ table_put st (put_in t k x) f.resvs in
      subst (λ (z : StyleKind × Resvs). IsWithinLimits z.0 (lines_of z.0 z.1)) (λ j. (sym same j, sym put j)) (within_told st (lines_of st (put_in t k x)) room))
      (λ (other : s ≡ st → ⊥).
      subst (λ (z : Resvs). IsWithinLimits s (lines_of s z)) (table_other s st t f.resvs other ∙ sym (table_other s st (put_in t k x) f.resvs other)) (w s))
      (style_same s st)
