-- What an end can carry, by its rows.
use Rattle.std.specs.Prelude.{◌≡◌, ◌↔◌, ℕ, ◌≤◌, Bool, true, false, List, [], ◌∷◌, map as each, sum_by, refl}
use Rattle.std.specs.List.{All}
use Rattle.std.proofs.Common.{sym, ap, subst, ◌∙◌, arith}
use Rattle.std.proofs.lemmas.List.Sums.{sum_by-cons}
use Rattle.rsvp_base.specs.Members.{In}
use Rattle.rsvp_base.specs.Rows.{table_of}
use Rattle.rsvp_base.specs.declared.part.Part.{Part}
use Rattle.rsvp_base.proofs.Counts.{in_found, found_in}
use Rattle.rsvp_base.proofs.Members.{in_each, to_each}
use Rattle.rsvp_base.specs.declared.iface.Iface.{Iface}
use Rattle.rsvp_base.specs.declared.entry_key.EntryKey.{EntryKey}
use Rattle.style_rules.specs.Lines.{BookTable, held}
use Rattle.rsvp_base.specs.Orders.{entry_keys}
use Rattle.style_rules.specs.Parts.{part_charge}
use Rattle.network_demand.specs.Books.{book_row, AreInOrder}
use Rattle.network_demand.specs.Fits.{IsCarried}
use Rattle.network_demand.proofs.AllowedLaws.{all_in, in_all}

sum_rows : (rows : List (EntryKey × Part)) → sum_by (λ (e : EntryKey × Part). part_charge e.1) (each book_row rows) ≡ sum_by (λ (r : EntryKey × Part). part_charge r.1) rows
sum_rows [] = refl
sum_rows (r ∷ rs) =
    let a = sum_by-cons (λ (e : EntryKey × Part). part_charge e.1) (book_row r) (each book_row rs) in
    let b = sum_by-cons (λ (r : EntryKey × Part). part_charge r.1) r rs in
    let c = sum_rows rs in
    omega (arith, a, b, c)

module _ (rows : List (EntryKey × Part)) (up : AreInOrder rows) (b : BookTable) (view : table_of entry_keys book_row rows up ≡ b) (i : Iface) where
  held_is : sum_by (λ (r : EntryKey × Part). part_charge r.1) rows ≡ held b
  held_is = sym (sum_rows rows) ∙ ap held view

  rows_are : each book_row rows ≡ b.rows
  rows_are = ap (λ (t : BookTable). t.rows) view

  abbrev is_short : EntryKey × Part → Type 0
  is_short r = r.1.flow.most ≤ i.mtu

  -- rates are within capacity, so that sizes decide
  pub carried_then : (short : Bool) (xs ys : List (EntryKey × Part)) → xs ≡ rows → ys ≡ rows → sum_by (λ (r : EntryKey × Part). part_charge r.1) xs ≤ i.capacity → (short ≡ true)
      ↔ All (λ r. r.1.flow.most ≤ i.mtu) ys → (short ≡ true) ↔ IsCarried b i
  carried_then short xs ys e f le decides = (
    λ t.
        let all : All is_short rows = subst (λ (zs : List (EntryKey × Part)). All is_short zs) f (decides.0 t) in
        record {
          capacity = subst (λ (k : ℕ). k ≤ i.capacity) (ap (sum_by (λ (r : EntryKey × Part). part_charge r.1)) e ∙ held_is) le;
          mtu = λ k p got.
              let r = in_each book_row (k, p) rows (subst (λ (zs : List (EntryKey × Part)). In (k, p) zs) (sym rows_are) (found_in entry_keys b k p got)) in
              subst (λ (q : Part). q.flow.most ≤ i.mtu) (sym (ap (λ (x : EntryKey × Part). x.1) r.2)) (all_in is_short rows all r.0 r.1);
        },
    λ c.
        decides.1
        (subst (λ (zs : List (EntryKey × Part)). All is_short zs) (sym f)
        (in_all is_short rows (λ r j. c.mtu r.0 r.1 (in_found entry_keys b r.0 r.1 (subst (λ (zs : List (EntryKey × Part)). In (book_row r) zs) rows_are (to_each book_row r rows j)))))),
  )

  -- they are not
  pub carried_else : (within : Bool) (xs : List (EntryKey × Part)) → xs ≡ rows → within ≡ false → (within ≡ true) ↔ (sum_by (λ (r : EntryKey × Part). part_charge r.1) xs ≤ i.capacity)
      → (within ≡ true) ↔ IsCarried b i
  carried_else within xs e off decides = (
    λ t. absurd (let z : false ≡ true = sym off ∙ t in cc),
    λ c. decides.1 (subst (λ (k : ℕ). k ≤ i.capacity) (sym (ap (sum_by (λ (r : EntryKey × Part). part_charge r.1)) e ∙ held_is)) c.capacity),
  )
