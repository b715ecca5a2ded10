-- A reservation that stands as it is asked for is renewed in its place.
use Rattle.std.specs.Prelude.{◌≡◌, ℕ, option_and_then, List, Option, Some, None, refl}
use Rattle.std.proofs.Common.{sym, ap, subst, ◌∙◌}
use Rattle.std.specs.FinMap.Entries.{find, put}
use Rattle.std.specs.Option.{option_map}
use Rattle.rsvp_base.specs.Rows.{AreRows, table_of}
use Rattle.rsvp_base.specs.Table.{changed, changed_rows, get, put_in, same_rows}
use Rattle.rsvp_base.specs.declared.style.StyleKind.{StyleKind}
use Rattle.style_rules.specs.Limits.{IsWithinLimits}
use Rattle.style_rules.specs.Lines.{LineKey, line_keys}
use Rattle.soft_table.specs.Facts.{facts_by}
use Rattle.soft_table.proofs.Valued.{get-valued, valued-put_in}
use Rattle.resv_state.specs.declared.fact.Held.{Held}
use Rattle.resv_state.specs.declared.fact.ResvFact.{ResvFact}
use Rattle.resv_state.specs.Resvs.{AreOfStyle, ResvFacts, asked_in, fact_of, held_key, held_row, resv_key, resv_lines, wish_kept}
use Rattle.resv_state.proofs.Facts.{put_style, said}
use Rattle.resv_state.proofs.Refresh.{still_within}

-- ---- the one that is asked for
module _ (st : StyleKind) (m : ResvFacts) (f : ResvFact) where
  wish_here : (d : ResvFact) (was : ℕ) → get m (resv_key st f) ≡ Some (d, was) → wish_kept f.confirm d.confirm ≡ (asked_in st m f).confirm
  wish_here d was at = ap (λ w. wish_kept f.confirm (option_and_then (λ (x : ResvFact). x.confirm) (option_map (λ (e : ResvFact × ℕ). e.0) w))) (sym at)

  pub as_asked : AreOfStyle st m → (d : ResvFact) (was : ℕ) → get m (resv_key st f) ≡ Some (d, was) → d.part ≡ f.part → d.confirm ≡ wish_kept f.confirm d.confirm → d ≡ asked_in st m f
  as_asked styled d was at part wish =
      let key : resv_key st d ≡ resv_key st f = styled.key (resv_key st f) (d, was) at in
      let confirm : d.confirm ≡ (asked_in st m f).confirm = wish ∙ wish_here d was at in
      λ i. record { session = (key i).0; iface = (key i).1.0.0; next = (key i).1.0.1; part = part i; confirm = confirm i }

  pub asked_is : (d : ResvFact) (was : ℕ) → get m (resv_key st f) ≡ Some (d, was) → d ≡ asked_in st m f → (d.part ≡ f.part) × (d.confirm ≡ wish_kept f.confirm d.confirm)
  asked_is d was at e = (ap (λ (x : ResvFact). x.part) e, ap (λ (x : ResvFact). x.confirm) e ∙ sym (wish_here d was at))

-- ---- the map after it
module _ (st : StyleKind) (m : ResvFacts) (k : LineKey) (f : ResvFact) (was left : ℕ) (stood : get m k ≡ Some (f, was)) where
  pub renew_style : AreOfStyle st m → AreOfStyle st (put_in m k (f, left))
  renew_style styled = subst (λ (z : LineKey). AreOfStyle st (put_in m z (f, left))) (styled.key k (f, was) stood) (put_style st m f left (styled.style k (f, was) stood) styled)

  pub renew_within : IsWithinLimits st (resv_lines st m) → IsWithinLimits st (resv_lines st (put_in m k (f, left)))
  renew_within = still_within st m k (f, left) (f, was) stood (λ q h. h)

-- ---- how a table keeps it
module _ (fs : List (Held × ℕ)) (up : AreRows line_keys held_row fs) (k : LineKey) (h : Held) (was : ℕ) (found : find line_keys.cmp k (facts_by held_key fs) ≡ Some (h, was)) where
  pub stood_said : get (changed fact_of (table_of line_keys held_row fs up)) k ≡ Some (h.fact, was)
  stood_said = get-valued line_keys said (table_of line_keys held_row fs up) k ∙ ap (option_map said) found

  pub renew_said : (left : ℕ) (n : ResvFacts) → n.rows ≡ changed_rows fact_of (put line_keys.cmp k (h, left) (facts_by held_key fs))
      → n ≡ put_in (changed fact_of (table_of line_keys held_row fs up)) k (h.fact, left)
  renew_said left n is = same_rows n (changed fact_of (put_in (table_of line_keys held_row fs up) k (h, left))) is ∙ valued-put_in line_keys said (table_of line_keys held_row fs up) k (h, left)

-- what a table keeps of a reservation that the map has
module _ (fs : List (Held × ℕ)) (up : AreRows line_keys held_row fs) (k : LineKey) (e : ResvFact × ℕ) where
  pub held_said : get (changed fact_of (table_of line_keys held_row fs up)) k ≡ Some e → (x : Held × ℕ) × (find line_keys.cmp k (facts_by held_key fs) ≡ Some x) × (said x ≡ e)
  held_said is = by (find line_keys.cmp k (facts_by held_key fs)) (sym (get-valued line_keys said (table_of line_keys held_row fs up) k) ∙ is)
    where
      by : (w : Option (Held × ℕ)) → option_map said w ≡ Some e → (x : Held × ℕ) × (w ≡ Some x) × (said x ≡ e)
      by None z = cc
      by (Some x) z = (x, refl, (cc))
