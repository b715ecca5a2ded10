-- A book has no more entries than its facts have lines.
use Rattle.std.specs.Prelude.{◌≡◌, ℕ, ◌+◌, ◌≤◌, ◌==◌, nat_le, true, false, length, map as each, is_some, Option, Some, None, refl}
use Rattle.std.proofs.Common.{sym, ap, subst, ◌∙◌, arith, length-append}
use Rattle.std.proofs.lemmas.Bool.{leb-true}
use Rattle.std.proofs.lemmas.List.{length-map}
use Rattle.admission_book.specs.Book.{Entries}
use Rattle.admission_book.specs.EntryKeys.{places}
use Rattle.rsvp_base.specs.Members.{In}
use Rattle.rsvp_base.specs.Orders.{entry_keys}
use Rattle.rsvp_base.specs.Sets.{set_of}
use Rattle.rsvp_base.specs.Table.{get, has, size}
use Rattle.rsvp_base.specs.TokenBucket.{TokenBucket}
use Rattle.rsvp_base.specs.declared.entry_key.EntryKey.{EntryKey}
use Rattle.rsvp_base.specs.declared.part.Part.{Part}
use Rattle.rsvp_base.specs.declared.style.StyleKind.{StyleKind}
use Rattle.rsvp_base.specs.declared.style.StyleKind.TheVariants.{Wild, Fixed, Shared}
use Rattle.rsvp_base.proofs.Counts.{in_set_of, size-set_of, size_below}
use Rattle.rsvp_base.proofs.Members.{in_filter, to_each}
use Rattle.rsvp_base.proofs.SetLaws.{and_both}
use Rattle.resv_state.specs.Resvs.{ResvFacts, resv_lines}
use Rattle.resv_state.proofs.Limits.{lines_counted, one_style}
use Rattle.style_rules.specs.Limits.{table_within, within_limits, line_keys_of}
use Rattle.style_rules.specs.Lines.{Line, at_end, entry_key}
use Rattle.style_rules.proofs.Merges.{merge_source}
use Rattle.router_rules.specs.Books.{book, line_of, lines}
use Rattle.router_rules.specs.Facts.{Facts, resvs_of}
use Rattle.resv_admission.specs.Kept.{IsBookOf, flow_in}

abbrev place_of : Line → ℕ × EntryKey
place_of l = (l.end, entry_key l)

pub entries_few : (f : Facts) (es : Entries) → IsBookOf f es → size es ≤ size (resvs_of Wild f) + (size (resvs_of Fixed f) + size (resvs_of Shared f))
entries_few f es booked =
    let below : size es ≤ size (set_of {o = places} (each place_of (lines f))) = size_below places es (set_of (each place_of (lines f))) (λ q h. member q.0 q.1 h) in
    let few = size-set_of places (each place_of (lines f)) in
    let many : length (each place_of (lines f)) ≡ length (lines f) = length-map (lines f) place_of in
    let all : length (lines f) ≡ size (resvs_of Wild f) + (size (resvs_of Fixed f) + size (resvs_of Shared f)) =
    length-append (each (line_of Wild) (resvs_of Wild f).rows) _ ∙ (λ j. length-map (resvs_of Wild f).rows (line_of Wild) j +
    (length-append (each (line_of Fixed) (resvs_of Fixed f).rows) (each (line_of Shared) (resvs_of Shared f).rows)
    ∙ (λ i. length-map (resvs_of Fixed f).rows (line_of Fixed) i + length-map (resvs_of Shared f).rows (line_of Shared) i)) j) in
    omega (arith, below, few, many, all)
  where
    some_entry : (w : Option TokenBucket) (v : Option Part) → w ≡ flow_in v → is_some w ≡ true → (x : Part) × (v ≡ Some x)
    some_entry w None e h = let z : false ≡ true = ap is_some (sym e) ∙ h in absurd (cc)
    some_entry w (Some x) e h = (x, refl)

    same_number : (a b : ℕ) → (a == b) ≡ true → a ≡ b
    same_number a b h = grind arith

    member : (i : ℕ) (k : EntryKey) → has es (i, k) ≡ true → has (set_of {o = places} (each place_of (lines f))) (i, k) ≡ true
    member i k h =
        let x = some_entry (get es (i, k)) (get (book f i) k) (booked.at i k) h in
        let l = merge_source entry_keys entry_key (λ (l : Line). l.part) (at_end i (lines f)) k x.0 x.1 in
        let w = in_filter (λ (z : Line). z.end == i) l.0 (lines f) l.1 in
        let end = same_number l.0.end i w.1 in
        let spot : ◌≡◌ {A = ℕ × EntryKey} (place_of l.0) (i, k) = λ j. (end j, sym l.3 j) in
        in_set_of places (each place_of (lines f)) (i, k) (subst (λ z. In z (each place_of (lines f))) spot (to_each place_of l.0 (lines f) w.0))

-- a table within its limits has at most 1,024
pub within_few : (st : StyleKind) (m : ResvFacts) → within_limits st (resv_lines st m) ≡ true → size m ≤ 1024
within_few st m h =
    let one : table_within (resv_lines st m) ≡ true = ap table_within (sym (one_style st m)) ∙ h in
    let few : size (line_keys_of (resv_lines st m)) ≤ 1024 = leb-true (size (line_keys_of (resv_lines st m))) 1024 (and_both (nat_le (size (line_keys_of (resv_lines st m))) 1024) _ one).0 in
    omega (arith, few, lines_counted st m)
