-- What a map over a table says of its facts: each fact through a function, with what is left of it.
use Rattle.std.proofs.Common.{◌≡◌, ◌-◌, ℕ, zero, suc, Bool, true, false, cond, is_some, List, [], ◌∷◌, Option, Some, None, Bor, refl, sym, ap, ◌∙◌}
use Rattle.std.specs.Prelude.{nat_le, slice_get, Result, Ok, Err, IsErr, OnOk}
use Rattle.std.specs.Option.{option_map, option_copied}
use Rattle.rsvp_base.specs.Keys.{Keys, pairs}
use Rattle.rsvp_base.specs.Table.{Table, changed, changed_rows}
use Rattle.rsvp_base.specs.Under.{under}
use Rattle.rsvp_base.proofs.Tables.{same_table}
use Rattle.rsvp_base.proofs.UnderLaws.{get-under}
use Rattle.soft_table.specs.Facts.{lives_on, dies}
use Rattle.soft_table.proofs.Valued.{valued, get-valued, valued-changed}

-- a look-up found something exactly where there is something
pub some_copied : {A B : Type 0} (f : B → A) (r : Option (Bor A)) (w : Option B) → option_copied r ≡ option_map f w → is_some w ≡ is_some r
some_copied f None None e = refl
some_copied f None (Some x) e = cc
some_copied f (Some a) None e = cc
some_copied f (Some a) (Some x) e = refl

-- an answer that is not refused
pub when_ok : {A E : Type 0} (r : Result A E) {P : Type 0} → (IsErr r → ⊥) → OnOk r P → P
when_ok (Ok x) never ok = ok
when_ok (Err e) never ok = absurd (never refl)

-- rows and tables through a function of their values
module _ {X Y : Type 0} (h : X → Y) where
  pub kth-valued : {K : Type 0} (es : List (K × X)) (k : ℕ) → slice_get (changed_rows (λ k x. Some (h x)) es) k ≡ option_map (λ e. (e.0, h e.1)) (slice_get es k)
  kth-valued [] k = refl
  kth-valued (e ∷ es) zero = refl
  kth-valued (e ∷ es) (suc k) = kth-valued es k

  pub under-valued : {A B : Type 0} (o : Keys A) (p : Keys B) (t : Table (pairs o p) X) (a : A) → under o p (valued h t) a ≡ valued h (under o p t a)
  under-valued o p t a =
      same_table p _ _ (λ b. get-under o p (valued h t) a b ∙ get-valued (pairs o p) h t (a, b) ∙ ap (option_map h) (sym (get-under o p t a b)) ∙ sym (get-valued p h (under o p t a) b))

module _ {F Y : Type 0} (told : F → Y) where
  abbrev pub said_by : F × ℕ → Y × ℕ
  said_by e = (told e.0, e.1)

  -- ---- what was found
  pub looked_up : (r : Option F) (w : Option (F × ℕ)) → r ≡ option_map (λ e. e.0) w → option_map told r ≡ option_map (λ (e : Y × ℕ). e.0) (option_map said_by w)
  looked_up None None e = refl
  looked_up None (Some x) e = cc
  looked_up (Some f) None e = cc
  looked_up (Some f) (Some x) e = let is : f ≡ x.0 = cc in ap (λ z. Some (told z)) is

  pub kth_told : {R : Type 0} (r : Option F) (w : Option (R × (F × ℕ))) → r ≡ option_map (λ e. e.1.0) w
      → option_map told r ≡ option_map (λ (e : R × (Y × ℕ)). e.1.0) (option_map (λ e. (e.0, said_by e.1)) w)
  kth_told None None e = refl
  kth_told None (Some x) e = cc
  kth_told (Some f) None e = cc
  kth_told (Some f) (Some x) e = let is : f ≡ x.1.0 = cc in ap (λ z. Some (told z)) is

  -- ---- time
  pub lived_on : {K : Type 0} (o : Keys K) (ms : ℕ) (t : Table o (F × ℕ)) → valued said_by (changed (λ k e. lives_on ms e) t) ≡ changed (λ k e. lives_on ms e) (valued said_by t)
  lived_on {K} o ms t = valued-changed o said_by said_by (λ k e. lives_on ms e) (λ k e. lives_on ms e) (λ k e. by e (nat_le e.1 ms)) t
    where
      by : (e : F × ℕ) (b : Bool) → option_map said_by (cond b None (Some (e.0, e.1 - ms))) ≡ cond b None (Some (told e.0, e.1 - ms))
      by e true = refl
      by e false = refl

  pub died : {K : Type 0} (o : Keys K) (ms : ℕ) (t : Table o (F × ℕ)) → valued told (changed (λ k e. dies ms e) t) ≡ changed (λ k e. dies ms e) (valued said_by t)
  died {K} o ms t = valued-changed o said_by told (λ k e. dies ms e) (λ k e. dies ms e) (λ k e. by e (nat_le e.1 ms)) t
    where
      by : (e : F × ℕ) (b : Bool) → option_map told (cond b (Some e.0) None) ≡ cond b (Some (told e.0)) None
      by e true = refl
      by e false = refl
