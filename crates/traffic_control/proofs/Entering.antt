-- The entries of an interface, as a kept book and the tables have them.
use Rattle.std.specs.Prelude.{◌≡◌, ℕ, zero, suc, List, [], ◌∷◌, map as each, slice_get, Option, Some, None, refl}
use Rattle.std.proofs.Common.{sym, ap, ◌∙◌}
use Rattle.std.specs.Option.{option_map}
use Rattle.admission_book.specs.Book.{Entries, entries_on}
use Rattle.resv_admission.specs.Kept.{IsBookOf, flow_in}
use Rattle.resv_admission.proofs.Entries.{entry_is}
use Rattle.resv_state.specs.Merging.{parts_on}
use Rattle.resv_state.specs.Resvs.{AreOfStyle}
use Rattle.resv_state.specs.Walks.{rests}
use Rattle.rsvp_base.specs.Keys.{numbers}
use Rattle.rsvp_base.specs.Orders.{entry_keys, sessions}
use Rattle.rsvp_base.specs.Table.{Table, changed, changed_rows, get}
use Rattle.rsvp_base.specs.TokenBucket.{TokenBucket}
use Rattle.rsvp_base.specs.Under.{under}
use Rattle.rsvp_base.specs.declared.entry_key.EntryKey.{EntryKey}
use Rattle.rsvp_base.specs.declared.part.Part.{Part}
use Rattle.rsvp_base.proofs.Counts.{in_found}
use Rattle.rsvp_base.proofs.Fronts.{got_in}
use Rattle.rsvp_base.proofs.Tables.{get-changed, same_table, then_do}
use Rattle.rsvp_base.proofs.UnderLaws.{get-under}
use Rattle.style_rules.specs.Merge.{merge}
use Rattle.router_rules.specs.Books.{book}
use Rattle.router_rules.specs.Facts.{Facts}
use Rattle.router_rules.specs.Flags.{entries_of, entry_at}
use Rattle.router_rules.specs.declared.entry.Entry.{Entry}
use Rattle.router_rules.specs.declared.entry.Police.{Police}
use Rattle.router_state.specs.State.{State, facts_of, table_in}
use Rattle.error_sends.proofs.Confs.{table_seen}
use Rattle.traffic_control.specs.Policing.{police_seen}

kth_each : {A B : Type 0} (g : A → B) (xs : List A) (k : ℕ) → slice_get (each g xs) k ≡ option_map g (slice_get xs k)
kth_each g [] k = refl
kth_each g (x ∷ xs) zero = refl
kth_each g (x ∷ xs) (suc k) = kth_each g xs k

kth_changed : {K X Y : Type 0} (h : X → Y) (es : List (K × X)) (k : ℕ) → slice_get (changed_rows (λ k x. Some (h x)) es) k ≡ option_map (λ (e : K × X). (e.0, h e.1)) (slice_get es k)
kth_changed h [] k = refl
kth_changed h (e ∷ es) zero = refl
kth_changed h (e ∷ es) (suc k) = kth_changed h es k

abbrev flow_row : EntryKey × Part → EntryKey × TokenBucket
flow_row e = (e.0, e.1.flow)

module _ (c : ℕ) (n : State) (i : ℕ) (es : Entries) (of : IsBookOf (facts_of c n) es) (k : ℕ) where
  abbrev f : Facts
  f = facts_of c n

  rows_are : entries_on es i ≡ changed (λ key (part : Part). Some part.flow) (book f i)
  rows_are = same_table entry_keys _ _ (λ key. get-under numbers entry_keys es i key ∙ of.at i key ∙ by (get (book f i) key)
      ∙ sym (get-changed entry_keys (λ key (part : Part). Some part.flow) (book f i) key))
    where
      by : (w : Option Part) → flow_in w ≡ then_do w (λ part. Some part.flow)
      by None = refl
      by (Some part) = refl

  kth_is : slice_get (entries_on es i).rows k ≡ option_map flow_row (slice_get (book f i).rows k)
  kth_is = ap (λ (t : Table entry_keys TokenBucket). slice_get t.rows k) rows_are ∙ kth_changed (λ (part : Part). part.flow) (book f i).rows k

  -- there is none
  pub no_entry : None ≡ slice_get (entries_on es i).rows k → None ≡ slice_get (entries_of n.place f i) k
  unfolding entries_of
  no_entry none = by (slice_get (book f i).rows k) (none ∙ kth_is) ∙ sym (kth_each (entry_at n.place f i) (book f i).rows k)
    where
      by : (w : Option (EntryKey × Part)) → None ≡ option_map flow_row w → None ≡ option_map (entry_at n.place f i) w
      by None e = refl
      by (Some x) e = absurd (cc)

  -- the entry of a key, as the facts have it
  record Kth (key : EntryKey) : Type 0 where
    part : Part
    there : slice_get (book f i).rows k ≡ Some (key, part)
    merged : get (merge key.style (parts_on i (under sessions rests (table_in key.style n) key.session).rows)) key.unit ≡ Some part

  kth : (key : EntryKey) (flow : TokenBucket) → Some (key, flow) ≡ slice_get (entries_on es i).rows k → AreOfStyle key.style (table_in key.style n) → Kth key
  kth key flow is styled = by (slice_get (book f i).rows k) refl (is ∙ kth_is)
    where
      by : (w : Option (EntryKey × Part)) → slice_get (book f i).rows k ≡ w → Some (key, flow) ≡ option_map flow_row w → Kth key
      by None at e = absurd (cc)
      by (Some x) at e =
          let row : ◌≡◌ {A = EntryKey × TokenBucket} (key, flow) (flow_row x) = cc in
          let own : x.0 ≡ key = sym (ap (λ (z : EntryKey × TokenBucket). z.0) row) in
          let there : slice_get (book f i).rows k ≡ Some (key, x.1) = at ∙ ap (λ (z : EntryKey). Some (z, x.1)) own in
          record {
            part = x.1;
            there = there;
            merged = sym (entry_is f c (table_in key.style n) i key (table_seen c n key.style) styled)
                ∙ in_found entry_keys (book f i) key x.1 (got_in (book f i).rows k (key, x.1) there);
          }

  module _ (key : EntryKey) (flow : TokenBucket) (is : Some (key, flow) ≡ slice_get (entries_on es i).rows k) (styled : AreOfStyle key.style (table_in key.style n)) where
    abbrev merged : Option Part
    merged = get (merge key.style (parts_on i (under sessions rests (table_in key.style n) key.session).rows)) key.unit

    -- its part is there
    pub no_part : None ≡ merged → None ≡ slice_get (entries_of n.place f i) k
    no_part none = let w = kth key flow is styled in let z : ◌≡◌ {A = Option Part} None (Some w.part) = none ∙ w.merged in absurd (cc)

    pub one_entry : (part : Part) (police : Police) → Some part ≡ merged → police ≡ police_seen c n i key part
        → ◌≡◌ {A = Option Entry} (Some (record { key = key; part = part; police = police })) (slice_get (entries_of n.place f i) k)
    unfolding entries_of police_seen
    one_entry part police got seen =
        let w = kth key flow is styled in
        let same : part ≡ w.part = let z = got ∙ w.merged in cc in
        ap (λ (q : Police). Some (record { key = key; part = part; police = q })) seen ∙ ap (λ (z : Part). Some (entry_at n.place f i (key, z))) same
        ∙ sym (ap (option_map (entry_at n.place f i)) w.there) ∙ sym (kth_each (entry_at n.place f i) (book f i).rows k)
