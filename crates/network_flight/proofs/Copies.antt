-- Where copies go.
use Rattle.std.proofs.Common.{◌≡◌, ℕ, zero, suc, ◌<◌, List, [], ◌∷◌, Bool, true, false, length, get_or, take, refl, ap, arith}
use Rattle.std.specs.List.{filter, list_any}
use Rattle.rsvp_base.specs.declared.addr.Addr.{Addr}
use Rattle.tree_model.specs.Goals.{addr_of}
use Rattle.network_model.specs.NodeConfig.{is_addr}
use Rattle.tree_model.specs.Networks.{Net}
use Rattle.network_model.specs.Links.{or_all, ends_toward}

none_filtered : (p : ℕ → Bool) (es : List ℕ) → list_any p es ≡ false → filter p es ≡ []
none_filtered p [] e = refl
none_filtered p (x ∷ xs) e = by (p x) refl (λ h. none_filtered p xs h) e
  where
    by : (b : Bool) → p x ≡ b → (list_any p xs ≡ false → filter p xs ≡ []) → list_any p (x ∷ xs) ≡ false → filter p (x ∷ xs) ≡ []
    by true t more e = absurd (let z : true ≡ false = rw t at e in cc)
    by false t more e = rw t (more (rw t at e))

some_filtered : (p : ℕ → Bool) (es all : List ℕ) → list_any p es ≡ true → or_all (filter p es) all ≡ filter p es
some_filtered p [] all e = absurd (cc)
some_filtered p (x ∷ xs) all e = by (p x) refl (λ h. some_filtered p xs all h) e
  where
    by : (b : Bool) → p x ≡ b → (list_any p xs ≡ true → or_all (filter p xs) all ≡ filter p xs) → list_any p (x ∷ xs) ≡ true → or_all (filter p (x ∷ xs)) all ≡ filter p (x ∷ xs)
    by true t more e = rw t refl
    by false t more e = rw t (more (rw t at e))

-- one that is wanted stands behind those of a front
pub filtered_before : (p : ℕ → Bool) (xs : List ℕ) (i d : ℕ) → i < length xs → p (get_or xs i d) ≡ true → length (filter p (take i xs)) < length (filter p xs)
filtered_before p [] i d lt t = absurd (omega arith)
filtered_before p (x ∷ xs) zero d lt t = rw t (omega arith)
filtered_before p (x ∷ xs) (suc i) d lt t = by (p x) refl (filtered_before p xs i d (omega arith) t)
  where
    by : (b : Bool) → p x ≡ b → length (filter p (take i xs)) < length (filter p xs) → length (filter p (x ∷ take i xs)) < length (filter p (x ∷ xs))
    by true e more = rw e (omega (arith, more))
    by false e more = rw e more

module _ (net : Net) (dst : Addr) (es : List ℕ) where
  pub to_group : (g : Bool) → g ≡ true → ends_toward net g dst es ≡ es
  to_group true e = refl
  to_group false e = absurd (cc)

  pub to_addressed : (g : Bool) → g ≡ false → list_any (λ e. is_addr (addr_of net e) dst) es ≡ true → ends_toward net g dst es ≡ filter (λ e. is_addr (addr_of net e) dst) es
  to_addressed true e any = absurd (cc)
  to_addressed false e any = some_filtered (λ e. is_addr (addr_of net e) dst) es es any

  pub to_none : (g : Bool) → g ≡ false → list_any (λ e. is_addr (addr_of net e) dst) es ≡ false → ends_toward net g dst es ≡ es
  to_none true e any = absurd (cc)
  to_none false e any = ap (λ xs. or_all xs es) (none_filtered (λ e. is_addr (addr_of net e) dst) es any)
