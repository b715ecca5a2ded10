-- A reservation that stands already, of the same part: the lines of its table and the book are as they were.
use Rattle.std.specs.Prelude.{◌≡◌, ℕ, ◌-◌, nat_lt, if◌then◌else◌, Bool, true, false, cond, ◌++◌, List, [], ◌∷◌, map as each, slice_get, option_and_then, Option, Some, None, refl}
use Rattle.std.specs.Option.{option_map}
use Rattle.std.specs.Ordering.{eq_by_cmp}
use Rattle.std.proofs.Common.{sym, ap, ◌∙◌, arith}
use Rattle.std.proofs.lemmas.Bool.Decides.{nat_tests}
use Rattle.admission_book.specs.Book.{Bookings, Entries}
use Rattle.admission_book.specs.Charges.{charge, charges, refusal, refusal_beside}
use Rattle.admission_book.specs.Within.{IsWithin}
use Rattle.admission_book.specs.declared.refused.Refused.TheVariants.{Mtu, Rate}
use Rattle.admission_book.proofs.ChargeLaws.{charges_at}
use Rattle.resv_state.specs.Resvs.{AreOfStyle, ResvFacts, resv_key, resv_lines, soft_resv}
use Rattle.resv_state.specs.declared.fact.ResvFact.{ResvFact}
use Rattle.rsvp_base.specs.Table.{changed, changed_rows, get, put_in, without}
use Rattle.rsvp_base.specs.TokenBucket.{TokenBucket}
use Rattle.rsvp_base.specs.declared.entry_key.EntryKey.{EntryKey}
use Rattle.rsvp_base.specs.declared.iface.Iface.{Iface}
use Rattle.rsvp_base.specs.declared.part.Part.{Part}
use Rattle.rsvp_base.specs.declared.style.StyleKind.{StyleKind}
use Rattle.rsvp_base.specs.declared.style.StyleKind.TheVariants.{Wild, Fixed, Shared}
use Rattle.rsvp_base.proofs.Tables.{get-changed, get-put_in, same_table, then_do, tied_same}
use Rattle.style_rules.specs.Limits.{IsWithinLimits, within_limits}
use Rattle.style_rules.specs.Lines.{Line, LineKey, book_of_end, line_keys}
use Rattle.style_rules.specs.Parts.{IsOfStyle}
use Rattle.style_rules.proofs.Room.{within_tested}
use Rattle.router_rules.specs.Books.{book, line_of, lines, lines_of, refused}
use Rattle.router_rules.specs.Facts.{Facts, Resvs, resvs_of, with_resvs}
use Rattle.router_rules.specs.NodeConfig.{NodeConfig}
use Rattle.router_state.specs.State.{resv_at}
use Rattle.resv_admission.specs.Kept.{IsBookOf, MovesWith, facts_with, flow_in}
use Rattle.resv_admission.specs.Placing.{entry_key_of, placed_in}
use Rattle.resv_admission.specs.declared.placing.Placed.TheVariants as placed
use Rattle.resv_admission.proofs.Stands.{placed_is, refusal_is, stood_is}
use Rattle.resv_admission.specs.Standing.{Stands, part_of_row, parts_in}

-- ---- lines go by keys and parts
abbrev part_line : StyleKind → LineKey × Part → Line
part_line st e = record { style = st; session = e.0.0; end = e.0.1.0.0; next = e.0.1.0.1; unit = e.0.1.1; part = e.1 }

lines_by_parts : (st : StyleKind) (es : List (LineKey × (ResvFact × ℕ))) → each (part_line st) (changed_rows part_of_row es) ≡ each (soft_resv st) es
lines_by_parts st [] = refl
lines_by_parts st (e ∷ es) = ap (λ ls. soft_resv st e ∷ ls) (lines_by_parts st es)

lines_at : (st : StyleKind) (c : ℕ) (es : List (LineKey × (ResvFact × ℕ))) → each (line_of st) (changed_rows (resv_at c) es) ≡ each (soft_resv st) es
lines_at st c [] = refl
lines_at st c (e ∷ es) = ap (λ ls. soft_resv st e ∷ ls) (lines_at st c es)

module _ (st : StyleKind) (a b : ResvFacts) (same : parts_in a ≡ parts_in b) where
  pub same_lines : resv_lines st a ≡ resv_lines st b
  same_lines = sym (lines_by_parts st a.rows) ∙ ap (λ t. each (part_line st) t.rows) same ∙ lines_by_parts st b.rows

  -- and so does the book of the facts
  pub same_book : (c : ℕ) (f : Facts) → resvs_of st f ≡ changed (resv_at c) b → (i : ℕ) → book (facts_with st c a f) i ≡ book f i
  same_book c f is i = ap (book_of_end i) (by st (lines_at st c a.rows ∙ same_lines ∙ sym (lines_at st c b.rows) ∙ ap (lines_of st) (sym is)))
    where
      by : (s : StyleKind) → lines_of s (changed (resv_at c) a) ≡ lines_of s (resvs_of s f) → lines (with_resvs s (changed (resv_at c) a) f) ≡ lines f
      by Wild e = ap (λ ls. ls ++ (lines_of Fixed f.resvs.fixed ++ lines_of Shared f.resvs.shared)) e
      by Fixed e = ap (λ ls. lines_of Wild f.resvs.wild ++ (ls ++ lines_of Shared f.resvs.shared)) e
      by Shared e = ap (λ ls. lines_of Wild f.resvs.wild ++ (lines_of Fixed f.resvs.fixed ++ ls)) e

  pub same_moves : (es : Entries) → MovesWith st b a es es
  same_moves es c f is booked = record { at = λ i k. booked.at i k ∙ ap (λ z. flow_in (get z k)) (sym (same_book c f is i)) }

-- ---- what a book has is not refused
module _ (b : Bookings) (within : IsWithin b) (i : ℕ) (k : EntryKey) where
  fits_beside : (on : Iface) → slice_get b.ifaces i ≡ Some on → (w : Option TokenBucket) → get b.entries (i, k) ≡ w → refusal_beside on (charges (without b.entries (i, k)) i) w ≡ None
  fits_beside on there None e = refl
  fits_beside on there (Some f) e =
      let others = charges (without b.entries (i, k)) i in
      let small = within.sized i k f on e there in
      let sum = charges_at b.entries i k in
      let own = ap charge e in
      let all = within.charged i on there in
      let packets : nat_lt on.mtu f.most ≡ false = grind (arith, nat_tests) in
      let rate : nat_lt (on.capacity - others) f.r ≡ false = grind (arith, nat_tests) in
      λ j. if packets j then Some (Mtu f.most on.mtu) else (if rate j then Some (Rate f.r (on.capacity - others)) else None)

  pub never_over : refusal b i k (get b.entries (i, k)) ≡ None
  never_over = by (slice_get b.ifaces i) refl
    where
      by : (w : Option Iface) → slice_get b.ifaces i ≡ w → option_and_then (λ on. refusal_beside on (charges (without b.entries (i, k)) i) (get b.entries (i, k))) w ≡ None
      by None e = refl
      by (Some on) e = fits_beside on e (get b.entries (i, k)) refl

-- ---- a reservation of the part that stands there
pub stands_as : (w : Option (ResvFact × ℕ)) (d : ResvFact) → option_map (λ (e : ResvFact × ℕ). e.0) w ≡ Some d → option_map (λ (e : ResvFact × ℕ). e.0.part) w ≡ Some d.part
stands_as None d is = cc
stands_as (Some e) d is = let same : e.0 ≡ d = cc in ap (λ (x : ResvFact). Some x.part) same

module _ (st : StyleKind) (m : ResvFacts) (d : ResvFact) (left : ℕ) (there : Stands m (resv_key st d) d.part) where
  abbrev new : ResvFacts
  new = put_in m (resv_key st d) (d, left)

  pub stands_on : parts_in new ≡ parts_in m
  stands_on =
      same_table line_keys _ _ (λ q.
      get-changed line_keys part_of_row new q ∙ ap (λ w. then_do w (part_of_row q)) (get-put_in line_keys m (resv_key st d) (d, left) q) ∙ by q (eq_by_cmp line_keys.cmp q (resv_key st d)) refl
      ∙ sym (get-changed line_keys part_of_row m q))
    where
      as_map : (q : LineKey) (w : Option (ResvFact × ℕ)) → option_map (λ (e : ResvFact × ℕ). e.0.part) w ≡ then_do w (part_of_row q)
      as_map q None = refl
      as_map q (Some e) = refl

      by : (q : LineKey) (b : Bool) → eq_by_cmp line_keys.cmp q (resv_key st d) ≡ b → then_do (cond b (Some (d, left)) (get m q)) (part_of_row q) ≡ then_do (get m q) (part_of_row q)
      by q false e = refl
      by q true e = sym there ∙ ap (λ z. option_map (λ (e : ResvFact × ℕ). e.0.part) (get m z)) (sym (tied_same line_keys q (resv_key st d) e)) ∙ as_map q (get m q)

  pub room_still : IsWithinLimits st (resv_lines st m) → within_limits st (resv_lines st new) ≡ true
  room_still limits = ap (within_limits st) (same_lines st new m stands_on) ∙ within_tested st (resv_lines st m) limits

  pub renewed : (styled : AreOfStyle st m) (own : IsOfStyle st d.part) → IsWithinLimits st (resv_lines st m) → (b : Bookings) → IsWithin b → (p : NodeConfig) (c : ℕ) (f : Facts) → p.ifaces ≡ b.ifaces
      → resvs_of st f ≡ changed (resv_at c) m → IsBookOf f b.entries
      → placed.Taken ≡ placed_in p st c d left f
  renewed styled own limits b within p c f ifaces is booked =
      let key : EntryKey = entry_key_of st d in
      let kept : None ≡ refused p d.iface key (book f d.iface) =
      sym (never_over b within d.iface key) ∙ refusal_is b.ifaces f f b.entries booked d.iface key (λ q off. refl) p ifaces (get b.entries (d.iface, key)) (sym (booked.at d.iface key)) in
      placed_is st m styled d own left p c f is true None (sym (room_still limits))
      (kept ∙ ap (refused p d.iface key) (sym (same_book st new m stands_on c f is d.iface))
      ∙ ap (λ (t : Resvs). refused p d.iface key (book (with_resvs st t f) d.iface)) (sym (stood_is st m styled d own left c f is)))

  pub moves_on : (es : Entries) → MovesWith st m new es es
  moves_on es = same_moves st new m stands_on es
