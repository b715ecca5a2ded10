-- An interface has no more entries than there is room for reservations.
use Rattle.std.specs.Prelude.{◌≡◌, ℕ, ◌+◌, ◌≤◌, ◌==◌, Bool, true, false, List, [], ◌∷◌, length, map as each, is_some, Option, Some, None, refl}
use Rattle.std.proofs.Common.{sym, ap, subst, ◌∙◌, arith, length-append}
use Rattle.std.proofs.lemmas.List.{length-map}
use Rattle.rsvp_base.specs.Members.{In}
use Rattle.rsvp_base.specs.Orders.{entry_keys}
use Rattle.rsvp_base.specs.Sets.{set_of}
use Rattle.rsvp_base.specs.Table.{get, has, size}
use Rattle.rsvp_base.specs.declared.entry_key.EntryKey.{EntryKey}
use Rattle.rsvp_base.specs.declared.part.Part.{Part}
use Rattle.rsvp_base.specs.declared.style.StyleKind.{StyleKind}
use Rattle.rsvp_base.specs.declared.style.StyleKind.TheVariants.{Wild, Fixed, Shared}
use Rattle.rsvp_base.proofs.Counts.{in_set_of, size-set_of, size_below}
use Rattle.rsvp_base.proofs.Members.{to_each}
use Rattle.resv_state.specs.Resvs.{ResvFacts, resv_lines}
use Rattle.resv_state.proofs.Limits.{lines_counted, one_style}
use Rattle.resv_admission.proofs.Stands.{size_is}
use Rattle.style_rules.specs.Limits.{IsWithinLimits, line_keys_of}
use Rattle.style_rules.specs.Lines.{Line, at_end, entry_key}
use Rattle.style_rules.proofs.Merges.{merge_source}
use Rattle.router_rules.specs.Books.{book, line_of, lines}
use Rattle.router_rules.specs.Facts.{Facts, resvs_of}
use Rattle.router_rules.specs.Flags.{entries_of, entry_at}
use Rattle.router_rules.specs.NodeConfig.{NodeConfig}
use Rattle.router_state.specs.State.{State, facts_of}

few_in : (st : StyleKind) (m : ResvFacts) → IsWithinLimits st (resv_lines st m) → size m ≤ 1024
few_in st m within = omega (arith, within.lines, ap (λ (ls : List Line). size (line_keys_of ls)) (one_style st m), lines_counted st m)

fewer : (i : ℕ) (ls : List Line) → length (at_end i ls) ≤ length ls
fewer i [] = omega arith
fewer i (l ∷ ls) = by (l.end == i) refl (fewer i ls)
  where
    by : (b : Bool) → (l.end == i) ≡ b → length (at_end i ls) ≤ length ls → length (at_end i (l ∷ ls)) ≤ length (l ∷ ls)
    by true e less = rw e (omega (arith, less))
    by false e less = rw e (omega (arith, less))

module _ (f : Facts) (i : ℕ) where
  some_part : (w : Option Part) → is_some w ≡ true → (x : Part) × (w ≡ Some x)
  some_part None h = absurd (cc)
  some_part (Some x) h = (x, refl)

  member : (k : EntryKey) → has (book f i) k ≡ true → has (set_of {o = entry_keys} (each entry_key (at_end i (lines f)))) k ≡ true
  member k h =
      let x = some_part (get (book f i) k) h in
      let l = merge_source entry_keys entry_key (λ (l : Line). l.part) (at_end i (lines f)) k x.0 x.1 in
      in_set_of entry_keys (each entry_key (at_end i (lines f))) k (subst (λ z. In z (each entry_key (at_end i (lines f)))) (sym l.3) (to_each entry_key l.0 (at_end i (lines f)) l.1))

  rows_few : size (book f i) ≤ length (lines f)
  rows_few =
      omega (
        arith,
        size_below entry_keys (book f i) (set_of (each entry_key (at_end i (lines f)))) member,
        size-set_of entry_keys (each entry_key (at_end i (lines f))),
        length-map (at_end i (lines f)) entry_key,
        fewer i (lines f),
      )

lines_are : (f : Facts) → length (lines f) ≡ size (resvs_of Wild f) + (size (resvs_of Fixed f) + size (resvs_of Shared f))
lines_are f =
    length-append (each (line_of Wild) (resvs_of Wild f).rows) _
    ∙ (λ j. length-map (resvs_of Wild f).rows (line_of Wild) j + (length-append (each (line_of Fixed) (resvs_of Fixed f).rows) (each (line_of Shared) (resvs_of Shared f).rows)
    ∙ (λ i. length-map (resvs_of Fixed f).rows (line_of Fixed) i + length-map (resvs_of Shared f).rows (line_of Shared) i)) j)

pub entries_few : (c : ℕ) (n : State) (i : ℕ) (p : NodeConfig) (wild fixed shared : ResvFacts) → n.wild ≡ wild → n.fixed ≡ fixed → n.shared ≡ shared → IsWithinLimits Wild (resv_lines Wild wild)
    → IsWithinLimits Fixed (resv_lines Fixed fixed) → IsWithinLimits Shared (resv_lines Shared shared)
    → length (entries_of p (facts_of c n) i) ≤ 3072
unfolding entries_of
entries_few c n i p wild fixed shared a b d x y z =
    let f = facts_of c n in
    let all = lines_are f in
    omega (
      arith,
      length-map (book f i).rows (entry_at p f i),
      rows_few f i,
      all,
      size_is c n.wild,
      size_is c n.fixed,
      size_is c n.shared,
      ap (λ (m : ResvFacts). size m) a,
      ap (λ (m : ResvFacts). size m) b,
      ap (λ (m : ResvFacts). size m) d,
      few_in Wild wild x,
      few_in Fixed fixed y,
      few_in Shared shared z,
    )
