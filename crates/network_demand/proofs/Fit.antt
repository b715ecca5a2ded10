-- Where demands fit nothing is found.
use Rattle.std.specs.Prelude.{◌≡◌, ◌↔◌, ℕ, ◌≤◌, not, ◌&&◌, Bool, true, false, List, [], ◌∷◌, length, Option, None, Some, refl, slice_get}
use Rattle.std.specs.List.{range_with_len}
use Rattle.std.proofs.Common.{sym, ap, ◌∙◌, inl, inr, arith}
use Rattle.std.proofs.lemmas.Bool.{le-ltb}
use Rattle.std.proofs.Math.Nat.{max-le}
use Rattle.rsvp_base.proofs.Counts.{in_found}
use Rattle.rsvp_base.specs.Members.{In}
use Rattle.rsvp_base.specs.Orders.{entry_keys}
use Rattle.rsvp_base.specs.declared.entry_key.EntryKey.{EntryKey}
use Rattle.rsvp_base.specs.declared.part.Part.{Part}
use Rattle.rsvp_base.specs.declared.session.Session.{Session}
use Rattle.network_demand.specs.Books.{book_at}
use Rattle.network_demand.specs.Demands.{AreDemands}
use Rattle.style_rules.specs.Lines.{BookTable, held}
use Rattle.tree_model.specs.Goals.{DemandsFit, demand_of}
use Rattle.tree_model.specs.Networks.{Net}
use Rattle.tree_model.specs.Wants.{Locals}
use Rattle.tree_model.specs.declared.hops.End.{End}
use Rattle.network_demand.specs.Misfits.{AreMisfits, AreNone, HasTwoStyles, is_large, is_over, largest_of, numbers_with}
use Rattle.network_demand.specs.declared.misfits.Misfits.{Misfits}
use Rattle.network_demand.proofs.Ranges.{in_range, kept_none, kept_same}

-- what ends owe is their demand
pub numbers_same : (p : Option End → BookTable → Bool) (net : Net) (l : Locals) (books : List BookTable) → AreDemands net l books → numbers_with p net.ends (book_at books) ≡ numbers_with p net.ends (demand_of net l)
numbers_same p net l books are =
    kept_same (λ e. p (slice_get net.ends e) (book_at books e)) (λ e. p (slice_get net.ends e) (demand_of net l e)) (range_with_len 0 (length net.ends))
    (λ e i. let lt = in_range e 0 (length net.ends) i in ap (p (slice_get net.ends e)) (are.each e (omega (arith, lt))))

-- ---- ends
none_over : (net : Net) (l : Locals) → DemandsFit net l → (e : ℕ) (o : Option End) → slice_get net.ends e ≡ o → is_over o (demand_of net l e) ≡ false
none_over net l fit e None at = refl
none_over net l fit e (Some x) at = le-ltb x.iface.capacity (held (demand_of net l e)) (fit.capacity e x at)

pub nothing_over : (net : Net) (l : Locals) → DemandsFit net l → numbers_with is_over net.ends (demand_of net l) ≡ []
nothing_over net l fit = kept_none (λ e. is_over (slice_get net.ends e) (demand_of net l e)) (range_with_len 0 (length net.ends)) (λ e i. none_over net l fit e (slice_get net.ends e) refl)

largest_least : (rows : List (EntryKey × Part)) (m : ℕ) → ((r : EntryKey × Part) → In r rows → r.1.flow.most ≤ m) → largest_of rows ≤ m
largest_least [] m all = omega arith
largest_least (r ∷ rs) m all = max-le (all r (inl refl)) (largest_least rs m (λ q j. all q (inr j)))

none_large : (net : Net) (l : Locals) → DemandsFit net l → (e : ℕ) (o : Option End) → slice_get net.ends e ≡ o → is_large o (demand_of net l e) ≡ false
none_large net l fit e None at = refl
none_large net l fit e (Some x) at =
    let b : BookTable = demand_of net l e in
    le-ltb x.iface.mtu (largest_of b.rows) (largest_least b.rows x.iface.mtu (λ r i. fit.mtu e x r.0 r.1 at (in_found entry_keys b r.0 r.1 i)))

pub nothing_large : (net : Net) (l : Locals) → DemandsFit net l → numbers_with is_large net.ends (demand_of net l) ≡ []
nothing_large net l fit = kept_none (λ e. is_large (slice_get net.ends e) (demand_of net l e)) (range_with_len 0 (length net.ends)) (λ e i. none_large net l fit e (slice_get net.ends e) refl)

-- ---- sessions
empty_list : (ss : List Session) → ((s : Session) → In s ss → ⊥) → ss ≡ []
empty_list [] none = refl
empty_list (s ∷ ss) none = absurd (none s (inl refl))

pub nothing_clashing : (net : Net) (l : Locals) (ss : List Session) → DemandsFit net l → ((s : Session) → In s ss → HasTwoStyles l.wants s) → ss ≡ []
nothing_clashing net l ss fit two = empty_list ss (λ s i.
    let h = two s i in h.differs.differ.1 (fit.one_style h.differs.other h.one h.differs.wanted h.wanted h.differs.differ.0))

-- ---- tables
pub tables_told : (m : Misfits) (net : Net) (l : Locals) (fits nothing : Bool) → m.tables ≡ (not fits && nothing)
    → (nothing ≡ true) ↔ ((m.over.items ≡ []) × (m.large.items ≡ []) × (m.clashing.items ≡ [])) → (fits ≡ true) ↔ DemandsFit net l
    → (m.tables ≡ true) ↔ ((m.over.items ≡ []) × (m.large.items ≡ []) × (m.clashing.items ≡ []) × (DemandsFit net l → ⊥))
tables_told m net l true nothing tables of_nothing of_fits = (λ told. absurd (let z : false ≡ true = sym tables ∙ told in cc), λ r. absurd (r.3 (of_fits.0 refl)))
tables_told m net l false true tables of_nothing of_fits = (
  λ told. let r = of_nothing.0 refl in (r.0, r.1, r.2, λ fit. absurd (let z : false ≡ true = of_fits.1 fit in cc)),
  λ r. tables,
)
tables_told m net l false false tables of_nothing of_fits = (
  λ told. absurd (let z : false ≡ true = sym tables ∙ told in cc),
  λ r. absurd (let z : false ≡ true = of_nothing.1 (r.0, r.1, r.2) in cc),
)

-- ---- all
pub none_told : (m : Misfits) (net : Net) (l : Locals) (fits nothing : Bool) → m.tables ≡ (not fits && nothing) → (nothing ≡ true) ↔ ((m.over.items ≡ []) × (m.large.items ≡ []) × (m.clashing.items ≡ []))
    → (fits ≡ true) ↔ DemandsFit net l → AreMisfits net l m → AreNone m ↔ DemandsFit net l
none_told m net l true nothing tables of_nothing of_fits are = (
  λ none. of_fits.0 refl,
  λ fit. record {
    over = are.over ∙ nothing_over net l fit;
    large = are.large ∙ nothing_large net l fit;
    clashing = nothing_clashing net l m.clashing.items fit (λ s i. (are.clashing s).0 i);
    tables = tables;
  },
)
none_told m net l false true tables of_nothing of_fits are = (
  λ none. absurd (let z : false ≡ true = sym none.tables ∙ tables in cc),
  λ fit. absurd (let z : false ≡ true = of_fits.1 fit in cc),
)
none_told m net l false false tables of_nothing of_fits are = (
  λ none. absurd (let z : false ≡ true = of_nothing.1 (none.over, none.large, none.clashing) in cc),
  λ fit. absurd (let z : false ≡ true = of_fits.1 fit in cc),
)
