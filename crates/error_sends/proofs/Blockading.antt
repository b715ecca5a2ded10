-- Blockades that are set, as the rule sets them.
use Rattle.std.specs.Prelude.{◌≡◌, ℕ, zero, suc, ◌+◌, ◌-◌, ◌≤◌, ◌<◌, nat_le, Bool, true, false, cond, not, ◌&&◌, ◌||◌, is_some, List, [], ◌∷◌, ◌++◌, map as each, length, slice_index_or}
use Rattle.std.specs.Prelude.{take, Option, Some, None, refl}
use Rattle.std.proofs.Common.{T, sym, ap, ◌∙◌, inl, inr, arith}
use Rattle.std.proofs.lemmas.Bool.Decides.{nat_tests}
use Rattle.std.specs.FinMap.Entries.{below_all, is_sorted}
use Rattle.std.specs.List.{filter}
use Rattle.std.specs.Ordering.{eq_by_cmp, is_lt}
use Rattle.rsvp_base.specs.Members.{In}
use Rattle.rsvp_base.specs.Orders.{Names, senders, sessions}
use Rattle.rsvp_base.specs.Table.{changed, first, get, has, keys, put_in, second, size, with_rows}
use Rattle.rsvp_base.specs.TokenBucket.{TokenBucket}
use Rattle.rsvp_base.specs.declared.session.Sender.{Sender}
use Rattle.rsvp_base.specs.declared.session.Session.{Session}
use Rattle.rsvp_base.specs.declared.style.StyleKind.{StyleKind}
use Rattle.rsvp_base.specs.declared.style.StyleKind.TheVariants.{Wild, Fixed, Shared}
use Rattle.rsvp_base.proofs.Changed.{has_changed}
use Rattle.rsvp_base.proofs.Filters.{each_each, filter_same}
use Rattle.rsvp_base.proofs.Members.{in_each}
use Rattle.rsvp_base.proofs.Sizes.{size_same}
use Rattle.rsvp_base.proofs.Tables.{either, get-put_in_other, holds, size-put_in, tied_same, tied_self}
use Rattle.rsvp_messages.specs.declared.message.ResvErrMsg.{ResvErrMsg}
use Rattle.style_rules.specs.Targets.{WallKey, target_place, wall_keys}
use Rattle.style_rules.specs.declared.target.Target.TheVariants as target
use Rattle.style_rules.specs.declared.wall.Wall.{Wall}
use Rattle.blockade_state.specs.Blockades.{WallMap}
use Rattle.router_rules.specs.Errors.{blamed_senders, blockade_of, is_admission, sets_walls, walled_by, walls_with}
use Rattle.router_rules.specs.Facts.{Blockade}
use Rattle.router_rules.specs.NodeConfig.{NodeConfig, wall_lifetime}
use Rattle.laws_bounds.proofs.Once.{not_below_itself}
use Rattle.laws_sends.specs.State.{wall_at}
use Rattle.laws_sends.proofs.Via.{take_one}
use Rattle.error_sends.specs.ResvErrs.{have_room, sender_wall, walls_by, walls_put, walls_set}
use Rattle.error_sends.proofs.Going.{changed_with}

-- ---- at a clock
abbrev standing : ℕ → Wall × ℕ → Blockade
standing c e = record { wall = e.0; dies = c + e.1 }

module _ (p : NodeConfig) (e : ℕ) (m : ResvErrMsg) (w : WallMap) (c : ℕ) where
  set_told : (flow : TokenBucket) → changed (wall_at c) (walls_by m.err.value p e m flow w) ≡ with_rows (changed (wall_at c) w) (each (λ k. (k, blockade_of p c m flow)) (walled_by e m m.blame.style))
  set_told flow =
      changed_with wall_keys (standing c) (each (λ k. (k, (record { flow = flow; sub = m.err.value }, wall_lifetime p))) (walled_by e m m.blame.style)) w
      ∙ ap (with_rows (changed (wall_at c) w)) (each_each (λ k. (k, (record { flow = flow; sub = m.err.value }, wall_lifetime p))) (λ (r : WallKey × (Wall × ℕ)). (r.0, standing c r.1))
      (walled_by e m m.blame.style))

  -- those that the rule sets
  pub walls_told : (flow : Option TokenBucket) → changed (wall_at c) (walls_set p e m flow w) ≡ walls_with p c e m flow (changed (wall_at c) w)
  walls_told None = refl
  walls_told (Some flow) = by (is_admission m.err)
    where
      by : (b : Bool) → changed (wall_at c) (cond b (walls_by m.err.value p e m flow w) w)
          ≡ cond b (with_rows (changed (wall_at c) w) (each (λ k. (k, blockade_of p c m flow)) (walled_by e m m.blame.style))) (changed (wall_at c) w)
      by true = set_told flow
      by false = refl

  pub room_told : have_room p e m w ≡ (not (sets_walls m) || nat_le (size (walls_with p c e m m.blame.flow (changed (wall_at c) w))) 512)
  room_told =
      ap (λ n. not (sets_walls m) || nat_le n 512)
      (sym (size_same wall_keys (changed (wall_at c) (walls_set p e m m.blame.flow w)) (walls_set p e m m.blame.flow w)
      (has_changed wall_keys (wall_at c) (λ k x. refl) (walls_set p e m m.blame.flow w))) ∙ ap size (walls_told m.blame.flow))

-- ---- the cases of a ResvErr
module _ (p : NodeConfig) (e : ℕ) (m : ResvErrMsg) (w : WallMap) where
  pub other_sets : is_admission m.err ≡ false → w ≡ walls_set p e m m.blame.flow w
  other_sets off = by m.blame.flow
    where
      by : (flow : Option TokenBucket) → w ≡ walls_set p e m flow w
      by None = refl
      by (Some flow) = sym (ap (λ b. cond b (walls_by m.err.value p e m flow w) w) off)

  pub other_room : is_admission m.err ≡ false → true ≡ have_room p e m w
  other_room off = sym (ap (λ b. not (b && is_some m.blame.flow) || nat_le (size (walls_set p e m m.blame.flow w)) 512) off)

  pub flowless_sets : m.blame.flow ≡ None → w ≡ walls_set p e m m.blame.flow w
  flowless_sets none = sym (ap (λ flow. walls_set p e m flow w) none)

  pub flowless_room : m.blame.flow ≡ None → true ≡ have_room p e m w
  flowless_room none = sym (ap (λ (flow : Option TokenBucket). not (is_admission m.err && is_some flow) || nat_le (size (walls_set p e m m.blame.flow w)) 512) none ∙ by (is_admission m.err))
    where
      by : (b : Bool) → (not (b && false) || nat_le (size (walls_set p e m m.blame.flow w)) 512) ≡ true
      by true = refl
      by false = refl

  module _ (flow : TokenBucket) (on : is_admission m.err ≡ true) (some : m.blame.flow ≡ Some flow) where
    pub sets : walls_set p e m m.blame.flow w ≡ walls_by m.err.value p e m flow w
    sets = ap (λ fl. walls_set p e m fl w) some ∙ ap (λ b. cond b (walls_by m.err.value p e m flow w) w) on

    pub room : have_room p e m w ≡ nat_le (size (walls_by m.err.value p e m flow w)) 512
    room = (λ i. not (on i && is_some (some i)) || nat_le (size (sets i)) 512)

-- ---- walls toward senders, one after another
module _ (s : Session) (wall : Wall) (left : ℕ) where
  abbrev pub put_all : WallMap → List Sender → WallMap
  put_all w xs = walls_put w wall left (each (sender_wall s) xs)

  pub put_more : (xs : List Sender) (x : Sender) (w : WallMap) → put_in (put_all w xs) (sender_wall s x) (wall, left) ≡ put_all w (xs ++ x ∷ [])
  put_more [] x w = refl
  put_more (y ∷ xs) x w = put_more xs x (put_in w (sender_wall s y) (wall, left))

  pub one_set : (xs : List Sender) (i : ℕ) (d : Sender) (w now : WallMap) → now ≡ put_all w (take i xs) → i < length xs
      → put_in now (sender_wall s (slice_index_or xs i d)) (wall, left) ≡ put_all w (take (i + 1) xs)
  one_set xs i d w now is lt = ap (λ (t : WallMap). put_in t (sender_wall s (slice_index_or xs i d)) (wall, left)) is ∙ put_more (take i xs) (slice_index_or xs i d) w
      ∙ ap (put_all w) (sym (take_one xs i d lt))

  grows_one : (w : WallMap) (k : WallKey) → size w ≤ size (put_in w k (wall, left))
  grows_one w k = let is = size-put_in wall_keys w k (wall, left) in by (has w k) (size (put_in w k (wall, left))) is
    where
      by : (b : Bool) (n : ℕ) → n ≡ cond b (size w) (size w + 1) → size w ≤ n
      by true n is = omega (arith, is)
      by false n is = omega (arith, is)

  grows : (xs : List Sender) (w : WallMap) → size w ≤ size (put_all w xs)
  grows [] w = omega arith
  grows (x ∷ xs) w = let a = grows_one w (sender_wall s x) in let b = grows xs (put_in w (sender_wall s x) (wall, left)) in omega (arith, a, b)

  pub fewer : (xs : List Sender) (i : ℕ) (w : WallMap) → size (put_all w (take i xs)) ≤ size (put_all w xs)
  fewer xs zero w = grows xs w
  fewer [] (suc i) w = omega arith
  fewer (x ∷ xs) (suc i) w = fewer xs i (put_in w (sender_wall s x) (wall, left))

  -- where all have room, each has
  pub never_full : (xs : List Sender) (i : ℕ) (d : Sender) (w now : WallMap) → now ≡ put_all w (take i xs) → i < length xs → size (put_all w xs) ≤ 512
      → 512 < size (put_in now (sender_wall s (slice_index_or xs i d)) (wall, left)) → ⊥
  never_full xs i d w now is lt all full = let here = ap size (one_set xs i d w now is lt) in let more = fewer xs (i + 1) w in omega (arith, here, more, all, full)

  abbrev is_new : WallMap → Sender → Bool
  is_new w x = not (has w (sender_wall s x))

  apart : (x y : Sender) → (x ≡ y → ⊥) → eq_by_cmp wall_keys.cmp (sender_wall s x) (sender_wall s y) ≡ false
  apart x y ne =
      either (eq_by_cmp wall_keys.cmp (sender_wall s x) (sender_wall s y))
      (λ t.
      let same = tied_same wall_keys (sender_wall s x) (sender_wall s y) t in
      let first : ◌≡◌ {A = Option Sender} (Some x) (Some y) = λ k. (target_place (same k).1).0 in
      absurd (ne (cc)))
      (λ t. t)

  above : (x : Sender) (y : Sender × Unit {0}) (es : List (Sender × Unit {0})) → T (below_all senders.cmp x es) → In y es → is_lt (senders.cmp x y.0) ≡ true
  above x y [] h i = absurd i
  above x y (e ∷ es) h i =
      elim i [ inl is ↦ ap (λ (z : Sender × Unit {0}). is_lt (senders.cmp x z.0)) is ∙ holds _ (first _ _ h) | inr j ↦ above x y es (second _ _ h) j ]

  counted : (es : List (Sender × Unit {0})) (w : WallMap) → T (is_sorted senders.cmp es) → size (put_all w (each (λ e. e.0) es)) ≡ size w + length (filter (is_new w) (each (λ e. e.0) es))
  counted [] w up = omega arith
  counted (e ∷ es) w up =
      let w2 = put_in w (sender_wall s e.0) (wall, left) in
      let same : filter (is_new w2) (each (λ e. e.0) es) ≡ filter (is_new w) (each (λ e. e.0) es) =
      filter_same (is_new w2) (is_new w) (each (λ e. e.0) es)
      (λ x i.
      let r = in_each (λ (e : Sender × Unit {0}). e.0) x es i in
      let lt = above e.0 r.0 es (first _ _ up) r.1 in
      let ne : x ≡ e.0 → ⊥ = λ is. let z : true ≡ false = sym lt ∙ ap (λ y. is_lt (senders.cmp e.0 y)) (sym r.2 ∙ is) ∙ not_below_itself senders e.0 in cc in
      ap (λ (v : Option (Wall × ℕ)). not (is_some v)) (get-put_in_other wall_keys w (sender_wall s e.0) (wall, left) (sender_wall s x) (apart x e.0 ne))) in
      let rest = counted es w2 (second _ _ up) ∙ ap (λ xs. size w2 + length xs) same in
      let more = size-put_in wall_keys w (sender_wall s e.0) (wall, left) in
      rest ∙ ap (λ n. n + length (filter (is_new w) (each (λ e. e.0) es))) more ∙ by (has w (sender_wall s e.0)) (filter (is_new w) (each (λ e. e.0) es))
    where
      by : (b : Bool) (xs : List Sender) → cond b (size w) (size w + 1) + length xs ≡ size w + length (cond (not b) (e.0 ∷ xs) xs)
      by true xs = refl
      by false xs = omega arith

  pub count_is : (names : Names) (w : WallMap) → size (put_all w (keys names)) ≡ size w + length (filter (is_new w) (keys names))
  count_is names w = counted names.rows w names.sorted

pub over : (n free count size : ℕ) → n ≡ size + count → free ≡ 512 - size → free < count → false ≡ nat_le n 512
over n free count size a b c = grind (arith, nat_tests)

pub under : (n free count size : ℕ) → n ≡ size + count → free ≡ 512 - size → size ≤ 512 → count ≤ free → n ≤ 512
under n free count size a b few c = omega (arith, a, b, c, few)

pub fits : (n : ℕ) → n ≤ 512 → true ≡ nat_le n 512
fits n le = grind (arith, nat_tests)

pub too_many : (n : ℕ) → 512 < n → false ≡ nat_le n 512
too_many n lt = grind (arith, nat_tests)

-- ---- those of other sessions stay
put_apart : (s : Session) (v : Wall × ℕ) (ks : List WallKey) → ((k : WallKey) → In k ks → s ≡ k.0) → (w : WallMap) (j : WallKey) → eq_by_cmp sessions.cmp s j.0 ≡ false
    → get (with_rows w (each (λ k. (k, v)) ks)) j ≡ get w j
put_apart s v [] mine w j off = refl
put_apart s v (k ∷ ks) mine w j off =
    put_apart s v ks (λ q i. mine q (inr i)) (put_in w k v) j off ∙ get-put_in_other wall_keys w k v j (either (eq_by_cmp wall_keys.cmp j k) (λ t. absurd (no t)) (λ f. f))
  where
    no : eq_by_cmp wall_keys.cmp j k ≡ true → ⊥
    no t =
        let same : s ≡ j.0 = mine k (inl refl) ∙ ap (λ (q : WallKey). q.0) (sym (tied_same wall_keys j k t)) in
        let z : true ≡ false = sym (tied_self sessions s) ∙ ap (eq_by_cmp sessions.cmp s) same ∙ off in
        cc

pub set_apart : (p : NodeConfig) (e : ℕ) (m : ResvErrMsg) (flow : Option TokenBucket) (w : WallMap) (j : WallKey) → eq_by_cmp sessions.cmp m.session j.0 ≡ false
    → get w j ≡ get (walls_set p e m flow w) j
set_apart p e m None w j off = refl
set_apart p e m (Some flow) w j off = by (is_admission m.err)
  where
    of_senders : (xs : List Sender) (k : WallKey) → In k (each (λ x. (m.session, target.Sender x)) xs) → m.session ≡ k.0
    of_senders xs k i = let r = in_each (λ (x : Sender). sender_wall m.session x) k xs i in λ i. (sym r.2 i).0

    mine : (st : StyleKind) (k : WallKey) → In k (walled_by e m st) → m.session ≡ k.0
    mine Wild k (inl same) = λ i. (sym same i).0
    mine Wild k (inr none) = absurd none
    mine Fixed k i = of_senders (blamed_senders m.blame.senders) k i
    mine Shared k i = of_senders (blamed_senders m.blame.senders) k i

    by : (b : Bool) → get w j ≡ get (cond b (walls_by m.err.value p e m flow w) w) j
    by true = sym (put_apart m.session (record { flow = flow; sub = m.err.value }, wall_lifetime p) (walled_by e m m.blame.style) (mine m.blame.style) w j off)
    by false = refl
