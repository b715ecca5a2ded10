-- What is accepted: one unit under lines that can be held, all units, and the Resv.
use Rattle.std.specs.Prelude.{◌≡◌, ℕ, ◌+◌, ◌-◌, ◌≤◌, nat_lt, Bool, true, false, cond, List, slice_get, option_and_then, Option, Some, None, refl}
use Rattle.std.proofs.Common.{sym, ap, subst, ◌∙◌, ⊎_elim, arith}
use Rattle.std.proofs.lemmas.Bool.{ltb-true, le-leb}
use Rattle.std.specs.List.{flat_map}
use Rattle.std.specs.Option.{option_map}
use Rattle.std.specs.Ordering.{eq_by_cmp}
use Rattle.rsvp_base.specs.declared.iface.Iface.{Iface}
use Rattle.admission_book.specs.declared.refused.Refused.{Refused}
use Rattle.admission_book.specs.Charges.{refusal_beside}
use Rattle.rsvp_base.specs.declared.part.Part.{Part}
use Rattle.rsvp_base.specs.declared.style.Unit.{Unit as UnitOf}
use Rattle.rsvp_base.specs.Members.{In}
use Rattle.rsvp_base.specs.Orders.{senders, sessions, styles, entry_keys}
use Rattle.rsvp_base.specs.Sets.{IsWithin}
use Rattle.rsvp_base.specs.Table.{get, keys, size, without}
use Rattle.rsvp_base.proofs.Counts.{in_set_of}
use Rattle.rsvp_base.proofs.Members.{to_filter, to_flat_map}
use Rattle.rsvp_base.proofs.SetLaws.{and_made, size_within}
use Rattle.rsvp_base.proofs.Sums.{number_of, sum-without}
use Rattle.rsvp_base.proofs.Tables.{either, tied_self}
use Rattle.style_rules.specs.Limits.{names_of, of_session, of_style}
use Rattle.style_rules.specs.Lines.{AreUnder, BookTable, IsUnder, Line, LineKey, at_end, held}
use Rattle.rsvp_base.specs.declared.entry_key.EntryKey.{EntryKey}
use Rattle.style_rules.specs.PartLaws.{most_below, part_at_most_along}
use Rattle.style_rules.specs.Parts.{part_charge}
use Rattle.style_rules.proofs.Books.{book_below, held_at_end_below, under_at_end}
use Rattle.style_rules.proofs.Room.{within_below, within_tested}
use Rattle.style_rules.proofs.StyleLaws.{named_in}
use Rattle.laws_bounds.specs.RouterRules.Asking.{Asker, entry_at, has_room, key_at, resv_state, table_with}
use Rattle.laws_bounds.specs.RouterRules.Books.{book, line_of, lines, lines_of}
use Rattle.laws_bounds.specs.RouterRules.Facts.{Facts, Resvs, resvs_of, with_resvs}
use Rattle.laws_bounds.specs.RouterRules.NodeConfig.{NodeConfig}
use Rattle.laws_bounds.proofs.Leaving.{table_put}
use Rattle.laws_bounds.proofs.Requesting.{lines_told, to_lines}
use Rattle.laws_bounds.proofs.Putting.{IsPut, put_source}
use Rattle.laws_bounds.proofs.Shrinking.{table_lines_told}
use Rattle.laws_steps.specs.AcceptingLaws.{CanBeHeld, HasPlace, IsBooked, line_at}

-- ---- under, one after another
pub under_along : (l g h : Line) → IsUnder l g → IsUnder g h → IsUnder l h
under_along l g h a b = record { style = a.style ∙ b.style; key = a.key ∙ b.key; part = part_at_most_along l.part g.part h.part a.part b.part }

-- the parts of a line that is another's
under_as : (l k g : Line) → l ≡ k → IsUnder k g → IsUnder l g
under_as l k g same u = subst (λ (z : Line). IsUnder z g) (sym same) u

module _ (p : NodeConfig) (o : Asker) (f : Facts) (t : Resvs) (u : UnitOf) (part : Part) (gs : List Line) (can : CanBeHeld p o.session o.iface gs) (there : AreUnder (lines (with_resvs o.style t f)) gs)
    (place : HasPlace o u part gs) where
  abbrev after_it : Facts
  after_it = with_resvs o.style (table_with o u part t) f

  -- the unit's line, or one that was there
  after_under : AreUnder (lines after_it) gs
  after_under l i =
      let s = lines_told after_it l i in
      ⊎_elim
      (λ (new : IsPut p o.style (key_at o u) (resv_state o part (get t (key_at o u))) f t s.style s.key s.resv).
      let is : l ≡ line_at o u part = s.is ∙ (λ j. line_of (new.style j) (new.key j, new.is j)) in (place.0, place.1, under_as l (line_at o u part) place.0 is place.2))
      (λ (old : get (resvs_of s.style (with_resvs o.style t f)) s.key ≡ Some s.resv). there l
      (to_lines (with_resvs o.style t f) l (record { style = s.style; key = s.key; resv = s.resv; there = old; is = s.is })))
      (put_source p o.style (key_at o u) (resv_state o part (get t (key_at o u))) f t s.style s.key s.resv s.there)

  -- ---- room
  table_under : AreUnder (lines_of o.style (table_with o u part t)) gs
  table_under l i =
      let s = table_lines_told o.style (table_with o u part t) l i in
      after_under l (to_lines after_it l (record { style = o.style; key = s.0; resv = s.1; there = ap (λ (z : Resvs). get z s.0) (table_put o.style (table_with o u part t) f.resvs) ∙ s.2; is = s.3 }))

  -- the names of the part are among those of its session
  few_names : size part.senders ≤ 16
  few_names =
      let g = place.0 in
      let session : g.session ≡ o.session = sym (ap (λ (k : LineKey). k.0) place.2.key) in
      let mine : In g (of_session o.session (of_style o.style gs)) =
      to_filter (λ (l : Line). eq_by_cmp sessions.cmp o.session l.session) g (of_style o.style gs)
      (to_filter (λ (l : Line). eq_by_cmp styles.cmp o.style l.style) g gs place.1 (ap (eq_by_cmp styles.cmp o.style) (sym place.2.style) ∙ tied_self styles o.style))
      (ap (eq_by_cmp sessions.cmp o.session) session ∙ tied_self sessions o.session) in
      let among : IsWithin part.senders (names_of (of_session o.session (of_style o.style gs))) =
      λ x e. in_set_of senders (flat_map (λ (l : Line). keys l.part.senders) (of_session o.session (of_style o.style gs))) x
      (to_flat_map (λ (l : Line). keys l.part.senders) g x (of_session o.session (of_style o.style gs)) mine (named_in g.part x (place.2.part.names x e))) in
      let less = size_within senders part.senders (names_of (of_session o.session (of_style o.style gs))) among in
      let most = (can.limits o.style).names o.session in omega (arith, less, most)

  room : has_room o u part t ≡ true
  room =
      and_made _ _ (le-leb (size part.senders) 16 few_names)
      (within_tested o.style (lines_of o.style (table_with o u part t)) (within_below o.style (lines_of o.style (table_with o u part t)) gs table_under (can.limits o.style)))

  -- ---- the book
  abbrev b1 : BookTable
  b1 = book after_it o.iface

  open_by : (v : Option Iface) → slice_get p.ifaces o.iface ≡ v → option_and_then (λ (on : Iface). refusal_beside on (held (without b1 (entry_at o u)))
      (option_map (λ (z : Part). z.flow) (get b1 (entry_at o u)))) v ≡ None
  open_by None is = refl
  open_by (Some on) is = by (get b1 (entry_at o u)) refl
    where
      passes : (a c : Bool) (x y : Refused) → a ≡ false → c ≡ false → cond a (Some x) (cond c (Some y) None) ≡ None
      passes true c x y e g = absurd (cc)
      passes false true x y e g = absurd (cc)
      passes false false x y e g = refl

      no_less : (a b : ℕ) → b ≤ a → nat_lt a b ≡ false
      no_less a b h = either (nat_lt a b) (λ yes. let less = ltb-true a b yes in absurd (omega (arith, less, h))) (λ no. no)

      by : (v : Option Part) → get b1 (entry_at o u) ≡ v → refusal_beside on (held (without b1 (entry_at o u))) (option_map (λ (z : Part). z.flow) v) ≡ None
      by None e = refl
      by (Some y) e =
          let y_below = book_below (at_end o.iface (lines after_it)) (at_end o.iface gs) (under_at_end o.iface (lines after_it) gs after_under) (entry_at o u) y e in
          let most = most_below y y_below.0 y_below.2 in
          let mtu = can.mtu on (entry_at o u) y_below.0 is refl y_below.1 in
          let sums : held b1 ≡ held (without b1 (entry_at o u)) + y.flow.r =
          sum-without entry_keys (λ (z : EntryKey × Part). part_charge z.1) b1 (entry_at o u)
          ∙ ap (λ v. held (without b1 (entry_at o u)) + number_of (λ (z : EntryKey × Part). part_charge z.1) (entry_at o u) v) e in
          let all = held_at_end_below o.iface (lines after_it) gs after_under in
          let capacity = can.capacity on is in
          passes _ _ _ _ (no_less on.mtu y.flow.most (omega (arith, most, mtu))) (no_less (on.capacity - held (without b1 (entry_at o u))) y.flow.r (omega (arith, sums, all, capacity)))

  pub unit_booked : IsBooked p o f t u part gs
  unit_booked = record { room = room; open_to = open_by (slice_get p.ifaces o.iface) refl; under = after_under }
