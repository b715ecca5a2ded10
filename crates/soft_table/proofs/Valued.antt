-- Tables seen through a function of their values, as a map shows of its facts what they say.
use Rattle.std.specs.Prelude.{◌≡◌, Bool, true, false, cond, not, List, [], ◌∷◌, length, Option, Some, None, refl}
use Rattle.std.proofs.Common.{suc, sym, ap, ◌∙◌}
use Rattle.std.specs.Option.{option_map}
use Rattle.std.specs.Ordering.{eq_by_cmp}
use Rattle.rsvp_base.specs.Keys.{Keys}
use Rattle.rsvp_base.specs.Table.{Table, get, size, put_in, without, changed, changed_rows}
use Rattle.rsvp_base.proofs.Tables.{then_do, same_table, get-put_in, get-without, get-changed}

abbrev pub valued : {K X Y : Type 0} {o : Keys K} → (X → Y) → Table o X → Table o Y
valued h m = changed (λ k x. Some (h x)) m

module _ {K X Y : Type 0} (o : Keys K) (h : X → Y) where
  as_map : (w : Option X) → then_do w (λ x. Some (h x)) ≡ option_map h w
  as_map None = refl
  as_map (Some x) = refl

  pub get-valued : (m : Table o X) (q : K) → get (valued h m) q ≡ option_map h (get m q)
  get-valued m q = get-changed o (λ k x. Some (h x)) m q ∙ as_map (get m q)

  size_rows : (es : List (K × X)) → length (changed_rows (λ k x. Some (h x)) es) ≡ length es
  size_rows [] = refl
  size_rows (e ∷ es) = ap suc (size_rows es)

  pub size-valued : (m : Table o X) → size (valued h m) ≡ size m
  size-valued m = size_rows m.rows

  by_test : (b : Bool) (v : X) (w : Option X) → option_map h (cond b (Some v) w) ≡ cond b (Some (h v)) (option_map h w)
  by_test true v w = refl
  by_test false v w = refl

  by_other : (b : Bool) (w : Option X) → option_map h (cond b w None) ≡ cond b (option_map h w) None
  by_other true w = refl
  by_other false w = refl

  pub valued-put_in : (m : Table o X) (k : K) (v : X) → valued h (put_in m k v) ≡ put_in (valued h m) k (h v)
  valued-put_in m k v =
      same_table o _ _ (λ q. get-valued (put_in m k v) q ∙ ap (option_map h) (get-put_in o m k v q) ∙ by_test (eq_by_cmp o.cmp q k) v (get m q)
      ∙ ap (cond (eq_by_cmp o.cmp q k) (Some (h v))) (sym (get-valued m q)) ∙ sym (get-put_in o (valued h m) k (h v) q))

  pub valued-without : (m : Table o X) (k : K) → valued h (without m k) ≡ without (valued h m) k
  valued-without m k =
      same_table o _ _ (λ q. get-valued (without m k) q ∙ ap (option_map h) (get-without o m k q) ∙ by_other (not (eq_by_cmp o.cmp k q)) (get m q)
      ∙ ap (λ w. cond (not (eq_by_cmp o.cmp k q)) w None) (sym (get-valued m q)) ∙ sym (get-without o (valued h m) k q))

module _ {K X Y V W : Type 0} (o : Keys K) (h : X → Y) (g : V → W) (f : K → X → Option V) (f2 : K → Y → Option W) (alike : (k : K) (x : X) → option_map g (f k x) ≡ f2 k (h x)) where
  through : (q : K) (w : Option X) → option_map g (then_do w (f q)) ≡ then_do (option_map h w) (f2 q)
  through q None = refl
  through q (Some x) = alike q x

  -- each row changed alike, before and after
  pub valued-changed : (m : Table o X) → valued g (changed f m) ≡ changed f2 (valued h m)
  valued-changed m =
      same_table o _ _ (λ q. get-valued o g (changed f m) q ∙ ap (option_map g) (get-changed o f m q) ∙ through q (get m q)
      ∙ ap (λ w. then_do w (f2 q)) (sym (get-valued o h m q)) ∙ sym (get-changed o f2 (valued h m) q))
