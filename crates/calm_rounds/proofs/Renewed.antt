-- What is refreshed never dies, where of so many successive refreshes one arrives in time.
use Rattle.std.proofs.Common.{◌≡◌, ℕ, zero, suc, ◌+◌, ◌*◌, ◌≤◌, ◌<◌, List, [], ◌∷◌, ◌++◌, Bool, true, false, Option, None, Some, ◌⊎◌, inl, inr, ⊎_elim, arith, sym, refl, ◌∙◌, ap, subst, leb}
use Rattle.std.proofs.lemmas.Bool.Decides.{leb_tells}
use Rattle.rsvp_base.specs.Members.{In}
use Rattle.rsvp_base.proofs.Members.{in_append, in_left, in_right}
use Rattle.calm_rounds.specs.Machine.{Machine, run, all_arrived, items_of, Fresh, IsClocked, IsStamped}
use Rattle.calm_rounds.specs.Rounds.{AreQuiet}
use Rattle.calm_rounds.specs.Hold.{Visited}
use Rattle.calm_rounds.specs.SoftStates.{SoftState, DueLaws, Stands, Good, Moves}
use Rattle.calm_rounds.proofs.Holding.{visited_start, visited_map, visited_both, visited_keep, clock_run, fresh_step}
use Rattle.calm_rounds.proofs.Renewing.{in_option}
use Rattle.calm_rounds.specs.Loss.{ArrivesBefore, IsRefresh, IsInTime, OneOfNext, OneOfAny}
use Rattle.calm_rounds.specs.Pace.{PaceLaws}

lt_or_le : (a b : ℕ) → (a < b) ⊎ (b ≤ a)
lt_or_le a b = ⊎_elim (λ (le : (leb b a ≡ true) × (b ≤ a)). inr le.1) (λ (lt : (leb b a ≡ false) × (a < b)). inl lt.1) (leb_tells b a)

-- ---- the front of a stretch
module _ {W S I K : Type 0} (m : Machine W S I K) where
  -- what holds at the end of each front holds in each world that is visited
  visited_ends : (Q : W → Type 0) (ss : List S) (w : W) → ((fs bs : List S) → fs ++ bs ≡ ss → Q (run m fs w)) → Visited m Q ss w
  visited_ends Q [] w f = f [] [] refl
  visited_ends Q (s ∷ ss) w f = (f [] (s ∷ ss) refl, visited_ends Q ss (m.step s w) (λ fs bs e. f (s ∷ fs) bs (ap (λ z. s ∷ z) e)))

  quiet_front : (fs bs : List S) → AreQuiet m (fs ++ bs) → AreQuiet m fs
  quiet_front [] bs q = tt
  quiet_front (a ∷ fs) bs q = (q.0, quiet_front fs bs q.1)

  quiet_back : (fs bs : List S) → AreQuiet m (fs ++ bs) → AreQuiet m bs
  quiet_back [] bs q = q
  quiet_back (a ∷ fs) bs q = quiet_back fs bs q.1

  pub visited_any : (ss : List S) (w : W) → Visited m (λ _. Unit {0}) ss w
  visited_any [] w = tt
  visited_any (s ∷ ss) w = (tt, visited_any ss (m.step s w))

  pub visited_front : (Q : W → Type 0) (fs bs : List S) (w : W) → Visited m Q (fs ++ bs) w → Visited m Q fs w
  visited_front Q [] bs w v = visited_start m Q bs w v
  visited_front Q (a ∷ fs) bs w v = (v.0, visited_front Q fs bs (m.step a w) v.1)

  module _ (c : IsClocked m) where
    before_now : (b : ℕ) (x : I) (ss : List S) (w : W) → AreQuiet m ss → ArrivesBefore m b x ss w → m.clock w < b
    before_now b x [] w q h = h
    before_now b x (s ∷ ss) w q h =
        ⊎_elim
        (λ (now : (m.arrived s w ≡ Some x) × (m.clock w < b)). now.1)
        (λ (later : ArrivesBefore m b x ss (m.step s w)). let lt = before_now b x ss (m.step s w) q.1 later in omega (arith, c.clock s w q.0, lt))
        h

    before_front : (b : ℕ) (x : I) (fs bs : List S) (w : W) → AreQuiet m (fs ++ bs) → ArrivesBefore m b x (fs ++ bs) w → ArrivesBefore m b x fs w
    before_front b x [] bs w q h = before_now b x bs w q h
    before_front b x (a ∷ fs) bs w q h =
        ⊎_elim
        (λ (now : (m.arrived a w ≡ Some x) × (m.clock w < b)). inl now)
        (λ (later : ArrivesBefore m b x (fs ++ bs) (m.step a w)). inr (before_front b x fs bs (m.step a w) q.1 later))
        h

    module _ (due : W → Option ℕ) (track : Option K) (wait : ℕ) where
      next_front : (few : ℕ) (fs bs : List S) (w : W) → AreQuiet m (fs ++ bs) → OneOfNext m due track wait few (fs ++ bs) w → OneOfNext m due track wait few fs w
      next_front zero fs bs w q h = h
      next_front (suc few) [] bs w q h = tt
      next_front (suc few) (a ∷ fs) bs w q h =
          ⊎_elim
          (λ (none : ((x : I) → IsRefresh m due track a w x → ⊥) × OneOfNext m due track wait (suc few) (fs ++ bs) (m.step a w)).
          inl (none.0, next_front (suc few) fs bs (m.step a w) q.1 none.1))
          (λ (some : IsInTime m due track wait a (fs ++ bs) w ⊎ OneOfNext m due track wait few (fs ++ bs) (m.step a w)).
          inr (⊎_elim
          (λ (now : IsInTime m due track wait a (fs ++ bs) w).
          inl (record { item = now.item; refresh = now.refresh; moment = now.moment; reached = now.reached; arrives = before_front (now.moment + wait) now.item fs bs (m.step a w) q.1 now.arrives }))
          (λ (later : OneOfNext m due track wait few (fs ++ bs) (m.step a w)). inr (next_front few fs bs (m.step a w) q.1 later))
          some))
          h

      pub any_start : (few : ℕ) (ss : List S) (w : W) → OneOfAny m due track wait few ss w → OneOfNext m due track wait few ss w
      any_start few [] w h = h
      any_start few (s ∷ ss) w h = h.0

      any_front : (few : ℕ) (fs bs : List S) (w : W) → AreQuiet m (fs ++ bs) → OneOfAny m due track wait few (fs ++ bs) w → OneOfAny m due track wait few fs w
      any_front few [] bs w q h = next_front few [] bs w q (any_start few bs w h)
      any_front few (a ∷ fs) bs w q h = (next_front few (a ∷ fs) bs w q h.0, any_front few fs bs (m.step a w) q.1 h.1)

  -- what arrives before a moment that the steps reach arrives by one of them
  arrived_in : (b : ℕ) (x : I) (ss : List S) (w : W) → b ≤ m.clock (run m ss w) → ArrivesBefore m b x ss w → In x (all_arrived m ss w)
  arrived_in b x [] w le h = absurd (omega (arith, le, h))
  arrived_in b x (s ∷ ss) w le h =
      ⊎_elim
      (λ (now : (m.arrived s w ≡ Some x) × (m.clock w < b)).
      in_left x (items_of (m.arrived s w)) (all_arrived m ss (m.step s w)) (subst (λ (o : Option I). In x (items_of o)) (sym now.0) (inl refl)))
      (λ (later : ArrivesBefore m b x ss (m.step s w)). in_right x (items_of (m.arrived s w)) (all_arrived m ss (m.step s w)) (arrived_in b x ss (m.step s w) le later))
      h

module _ {W S I K V : Type 0} (m : Machine W S I K) (c : IsClocked m) (stamps : IsStamped m) (l : SoftState W S I K V) (laws : DueLaws m l) (paced : PaceLaws m l) where
  module _ (v : V) (n : ℕ) (moves : Moves m l v n) where
    abbrev Able : W → Type 0
    Able u = Good m l v n u × Fresh m n u

    -- the value stands, and lives until the moment at least
    abbrev Till : ℕ → W → Type 0
    Till b u = (d : ℕ) × (l.kept u ≡ Some (v, d)) × (b ≤ d) × (b ≤ m.clock u + 21 * m.quarter)

    till_set : (b : ℕ) (s : S) (u : W) (x : I) → m.quiet s ≡ true → Able u → b ≤ m.clock u + 21 * m.quarter → m.arrived s u ≡ Some x → l.letter x ≡ true → Till b (m.step s u)
    till_set b s u x q a le e is =
        let i : In x (m.flight u) = stamps.arrived s u x e in
        let says = a.0.letters x i (a.1 x i) is in
        (m.clock u + 21 * m.quarter, a.0.takes s x q e says.0 says.1, le, omega (arith, le, c.clock s u q))

    till_step : (b : ℕ) (s : S) (u : W) → m.quiet s ≡ true → Able u → Able (m.step s u) → m.clock (m.step s u) < b → Till b u → Till b (m.step s u)
    till_step b s u q a a' before till = by_item (m.arrived s u) refl
      where
        rests : ((x : I) → m.arrived s u ≡ Some x → l.letter x ≡ false) → Till b (m.step s u)
        rests none =
            (till.0, moves.rests s u till.0 q a.0 a'.0 none till.1 (omega (arith, before, till.2)), till.2, omega (arith, till.3, c.clock s u q))

        by_letter : (x : I) → m.arrived s u ≡ Some x → (t : Bool) → l.letter x ≡ t → Till b (m.step s u)
        by_letter x e true is = till_set b s u x q a till.3 e is
        by_letter x e false is = rests (λ y f. let same : x ≡ y = cc in subst (λ (z : I). l.letter z ≡ false) same is)

        by_item : (o : Option I) → m.arrived s u ≡ o → Till b (m.step s u)
        by_item None e = rests (λ x f. absurd (cc))
        by_item (Some x) e = by_letter x e (l.letter x) refl

    till_run : (b : ℕ) (ss : List S) (w : W) → AreQuiet m ss → Visited m Able ss w → m.clock (run m ss w) < b → Till b w → Till b (run m ss w)
    till_run b [] w quiet a before till = till
    till_run b (s ∷ ss) w quiet a before till =
        let a' = visited_start m Able ss (m.step s w) a.1 in
        till_run b ss (m.step s w) quiet.1 a.1 before (till_step b s w quiet.0 a.0 a' (omega (arith, clock_run m c ss (m.step s w) quiet.1, before)) till)

    -- a letter arrives by the steps
    till_got : (b : ℕ) (x : I) → l.letter x ≡ true → (ss : List S) (w : W) → AreQuiet m ss → Visited m Able ss w → b ≤ m.clock w + 21 * m.quarter → m.clock (run m ss w) < b
        → In x (all_arrived m ss w) → Till b (run m ss w)
    till_got b x is [] w quiet a le before i = absurd i
    till_got b x is (s ∷ ss) w quiet a le before i =
        ⊎_elim
        (λ (now : In x (items_of (m.arrived s w))).
        till_run b ss (m.step s w) quiet.1 a.1 before (till_set b s w x quiet.0 a.0 le (in_option x (m.arrived s w) now) is))
        (λ (later : In x (all_arrived m ss (m.step s w))).
        till_got b x is ss (m.step s w) quiet.1 a.1 (omega (arith, le, c.clock s w quiet.0)) before later)
        (in_append x (items_of (m.arrived s w)) (all_arrived m ss (m.step s w)) i)

    same_moment : (a b : ℕ) → ◌≡◌ {A = Option ℕ} (Some a) (Some b) → a ≡ b
    same_moment a b e = cc

    -- of the next refreshes one arrives in time, and where they are all due in the stretch the value stands at its end
    module _ (wait few : ℕ) (room : 6 * m.quarter * suc few + wait ≤ 21 * m.quarter) where
      abbrev Any : List S → W → Type 0
      Any ss w = OneOfAny m l.due l.track wait (suc few) ss w

      found : (k : ℕ) (ss : List S) (w : W) → AreQuiet m ss → Visited m Able ss w → OneOfNext m l.due l.track wait k ss w → Any ss w
          → (t : ℕ) → l.due w ≡ Some t → t + 6 * m.quarter * k + wait ≤ m.clock (run m ss w) + 6 * m.quarter → Stands m l v (run m ss w)
      found zero ss w quiet a one any t e le = absurd one
      found (suc k) [] w quiet a one any t e le = absurd (omega (arith, le, laws.due_room w t a.0.sane e))
      found (suc k) (s ∷ ss) w quiet a one any t e le =
          ⊎_elim
          (λ (none : ((x : I) → IsRefresh m l.due l.track s w x → ⊥) × OneOfNext m l.due l.track wait (suc k) ss (m.step s w)).
          let same : t' ≡ t = ⊎_elim (λ (z : t' ≡ t). z)
          (λ (z : l.fires s w × (t ≤ m.clock (m.step s w)) × (t' ≤ t + 6 * m.quarter)). absurd (unsent none.0 z.0)) next in
          found (suc k) ss (m.step s w) quiet.1 a.1 none.1 any.1 t' due' (omega (arith, same, le)))
          (λ (some : IsInTime m l.due l.track wait s ss w ⊎ OneOfNext m l.due l.track wait k ss (m.step s w)).
          ⊎_elim
          (λ (now : IsInTime m l.due l.track wait s ss w).
          in_time now (λ soon. found (suc few) ss (m.step s w) quiet.1 a.1 (any_start m c l.due l.track wait (suc few) ss (m.step s w) any.1) any.1 t' due' soon))
          (λ (later : OneOfNext m l.due l.track wait k ss (m.step s w)).
          found k ss (m.step s w) quiet.1 a.1 later any.1 t' due' (⊎_elim (λ (z : t' ≡ t). omega (arith, z, le))
          (λ (z : l.fires s w × (t ≤ m.clock (m.step s w)) × (t' ≤ t + 6 * m.quarter)). omega (arith, z.2, le)) next))
          some)
          one
        where
          able' : Able (m.step s w)
          able' = visited_start m Able ss (m.step s w) a.1

          t' : ℕ
          t' = able'.0.counts.0

          due' : l.due (m.step s w) ≡ Some t'
          due' = able'.0.counts.1

          next : (t' ≡ t) ⊎ (l.fires s w × (t ≤ m.clock (m.step s w)) × (t' ≤ t + 6 * m.quarter))
          next = paced.pace s w t t' quiet.0 a.0.0.sane able'.0.sane e due'

          unsent : ((x : I) → IsRefresh m l.due l.track s w x → ⊥) → l.fires s w → ⊥
          unsent none f = let x = moves.calls s w quiet.0 a.0.0 able'.0 f in none x.0 (record { sent = x.1; goes = x.2 })

          after_it : (t' + 6 * m.quarter * suc few + wait ≤ m.clock (run m ss (m.step s w)) + 6 * m.quarter → Stands m l v (run m ss (m.step s w)))
              → (b : ℕ) → b ≤ m.clock (m.step s w) + 21 * m.quarter → t' + 15 * m.quarter ≤ b → (x : I) → l.letter x ≡ true → In x (all_arrived m ss (m.step s w))
              → Stands m l v (run m ss (m.step s w))
          after_it again b le' near x is i =
              ⊎_elim
              (λ (lt : m.clock (run m ss (m.step s w)) < b). let till = till_got b x is ss (m.step s w) quiet.1 a.1 le' lt i in (till.0, till.1))
              (λ (ge : b ≤ m.clock (run m ss (m.step s w))). again (omega (arith, room, ge, near)))
              (lt_or_le (m.clock (run m ss (m.step s w))) b)

          in_time : IsInTime m l.due l.track wait s ss w
              → (t' + 6 * m.quarter * suc few + wait ≤ m.clock (run m ss (m.step s w)) + 6 * m.quarter → Stands m l v (run m ss (m.step s w)))
              → Stands m l v (run m ss (m.step s w))
          in_time now again =
              let same = same_moment now.moment t (sym now.reached ∙ e) in
              let is : l.letter now.item ≡ true = moves.tracks s w now.item quiet.0 a.0.0 able'.0 now.refresh.sent now.refresh.goes in
              let i = arrived_in m (now.moment + wait) now.item ss (m.step s w) (omega (arith, same, le)) now.arrives in
              ⊎_elim
              (λ (z : t' ≡ t). after_it again (t + 15 * m.quarter) (omega (arith, (laws.due_room w t a.0.0.sane e).1, c.clock s w quiet.0)) (omega (arith, z)) now.item is i)
              (λ (z : l.fires s w × (t ≤ m.clock (m.step s w)) × (t' ≤ t + 6 * m.quarter)). after_it again (t + 21 * m.quarter) (omega (arith, z.1)) (omega (arith, z.2)) now.item is i)
              next

      -- what is known of the stretch is known of each front of it
      front_found : (ss : List S) (w : W) → AreQuiet m ss → Visited m Able ss w → Any ss w → (t : ℕ) → l.due w ≡ Some t
          → t + 6 * m.quarter * suc few + wait ≤ m.clock (run m ss w) + 6 * m.quarter → Stands m l v (run m ss w)
      front_found ss w quiet a any t e le = found (suc few) ss w quiet a (any_start m c l.due l.track wait (suc few) ss w any) any t e le

      able_all : (ss : List S) (w : W) → AreQuiet m ss → n ≤ m.made w → Fresh m n w → Visited m (Good m l v n) ss w → Visited m Able ss w
      able_all ss w quiet made fresh good =
          visited_both m (Good m l v n) (Fresh m n) ss w good
          (visited_map m (λ u. (n ≤ m.made u) × Fresh m n u) (Fresh m n) (λ u h. h.1) ss w
          (visited_keep m (λ u. Good m l v n u) (λ u. (n ≤ m.made u) × Fresh m n u) (λ s u q _ _ h. fresh_step m stamps n s u q h) ss w quiet good (made, fresh)))

      pub is_kept : (ss : List S) (w : W) → AreQuiet m ss → Any ss w → n ≤ m.made w → Fresh m n w → Visited m (Good m l v n) ss w
          → Visited m (λ u. m.clock w + 21 * m.quarter ≤ m.clock u → Stands m l v u) ss w
      is_kept ss w quiet any made fresh good =
          let a = able_all ss w quiet made fresh good in
          let g = visited_start m (Good m l v n) ss w good in
          visited_ends m (λ u. m.clock w + 21 * m.quarter ≤ m.clock u → Stands m l v u) ss w
          (λ fs bs e le.
          front_found fs w (quiet_front m fs bs (subst (AreQuiet m) (sym e) quiet)) (visited_front m Able fs bs w (subst (λ z. Visited m Able z w) (sym e) a))
          (any_front m c l.due l.track wait (suc few) fs bs w (subst (AreQuiet m) (sym e) quiet) (subst (λ z. Any z w) (sym e) any))
          g.counts.0 g.counts.1 (omega (arith, room, le, laws.due_room w g.counts.0 g.sane g.counts.1)))

      pub never_dies : (ss : List S) (w : W) → AreQuiet m ss → Any ss w → n ≤ m.made w → Fresh m n w → Visited m (Good m l v n) ss w
          → (d : ℕ) → l.kept w ≡ Some (v, d) → (t : ℕ) → l.due w ≡ Some t → t + 6 * m.quarter * suc few + wait ≤ d + 6 * m.quarter → Visited m (Stands m l v) ss w
      never_dies ss w quiet any made fresh good d kept t e long =
          let a = able_all ss w quiet made fresh good in
          let b : ℕ = t + 6 * m.quarter * few + wait in
          let soon = laws.due_room w t (visited_start m (Good m l v n) ss w good).sane e in
          let till : Till b w = (d, kept, omega (arith, long), omega (arith, room, soon)) in
          visited_ends m (Stands m l v) ss w
          (λ fs bs same.
          let q = quiet_front m fs bs (subst (AreQuiet m) (sym same) quiet) in
          let a1 = visited_front m Able fs bs w (subst (λ z. Visited m Able z w) (sym same) a) in
          ⊎_elim
          (λ (lt : m.clock (run m fs w) < b). let end = till_run b fs w q a1 lt till in (end.0, end.1))
          (λ (le : b ≤ m.clock (run m fs w)).
          front_found fs w q a1 (any_front m c l.due l.track wait (suc few) fs bs w (subst (AreQuiet m) (sym same) quiet) (subst (λ z. Any z w) (sym same) any)) t e (omega (arith, le)))
          (lt_or_le (m.clock (run m fs w)) b))
