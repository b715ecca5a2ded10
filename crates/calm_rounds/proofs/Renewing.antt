-- What is said again and again is kept.
use Rattle.std.proofs.Common.{◌≡◌, ℕ, ◌+◌, ◌*◌, ◌≤◌, ◌<◌, List, [], ◌∷◌, Bool, true, false, Option, None, Some, inl, inr, ⊎_elim, arith, sym, refl, ◌∙◌, ap, subst}
use Rattle.rsvp_base.specs.Members.{In}
use Rattle.rsvp_base.proofs.Members.{in_append, in_left, in_right}
use Rattle.calm_rounds.specs.Machine.{Machine, run, all_sent, all_arrived, items_of, Fresh, Happens, IsClocked, IsStamped}
use Rattle.calm_rounds.specs.Rounds.{AreQuiet, Calm, Rounds}
use Rattle.calm_rounds.specs.Hold.{Visited, Hold}
use Rattle.calm_rounds.specs.SoftStates.{SoftState, DueLaws, Stands, Good, Moves}
use Rattle.calm_rounds.proofs.Holding.{visited_start, visited_map, visited_end, visited_both, hold_map, hold_both, hold_later, hold_flush, clock_run}

pub in_option : {A : Type 0} (x : A) (o : Option A) → In x (items_of o) → o ≡ Some x
in_option x None i = absurd i
in_option x (Some y) i = ⊎_elim (λ (e : x ≡ y). ap (λ z. Some z) (sym e)) (λ (j : ⊥). absurd j) i

module _ {W S I K V : Type 0} (m : Machine W S I K) (c : IsClocked m) (l : SoftState W S I K V) (laws : DueLaws m l) where
  -- the next refresh is due before b, or it has happened
  due_by : (b : ℕ) (ss : List S) (w : W) → AreQuiet m ss → Visited m (λ u. l.sane u × ((t : ℕ) × (l.due u ≡ Some t))) ss w
      → (t : ℕ) → l.due w ≡ Some t → t ≤ b → b ≤ m.clock (run m ss w) → Happens m l.fires ss w
  due_by b [] w quiet v t e le after = absurd (omega (arith, laws.due_room w t v.0 e))
  due_by b (s ∷ ss) w quiet v t e le after =
      let next = visited_start m (λ u. l.sane u × ((t : ℕ) × (l.due u ≡ Some t))) ss (m.step s w) v.1 in
      ⊎_elim
      (λ (same : next.1.0 ≡ t). inr (due_by b ss (m.step s w) quiet.1 v.1 next.1.0 next.1.1 (omega arith) after))
      (λ (f : l.fires s w). inl f)
      (laws.moved s w t next.1.0 quiet.0 v.0.0 next.0 e next.1.1)

  pub comes_due : (r : List S) (w : W) → Calm m r w → Visited m l.sane r w → Visited m (λ u. (t : ℕ) × (l.due u ≡ Some t)) r w → Happens m l.fires r w
  comes_due r w calm sane counts =
      let d = visited_start m (λ u. (t : ℕ) × (l.due u ≡ Some t)) r w counts in
      let q = visited_start m l.sane r w sane in
      due_by (m.clock w + 6 * m.quarter) r w calm.silent (visited_both m l.sane (λ u. (t : ℕ) × (l.due u ≡ Some t)) r w sane counts)
      d.0 d.1 (laws.due_room w d.0 q d.1).1 (omega (arith, clock_run m c r w calm.silent, calm.long))

module _ {W S I K V : Type 0} (m : Machine W S I K) (c : IsClocked m) (stamps : IsStamped m) (l : SoftState W S I K V) (laws : DueLaws m l) where
  -- the value stands, and no death comes before c + life
  abbrev pub Firm : V → ℕ → W → Type 0
  Firm v b u = (d : ℕ) × (l.kept u ≡ Some (v, d)) × (b + 21 * m.quarter ≤ d) × (b ≤ m.clock u)

  module _ (v : V) (n : ℕ) (moves : Moves m l v n) where
    abbrev Able : W → Type 0
    Able u = Good m l v n u × Fresh m n u

    -- an item that arrives is a letter, or is none
    taken : (s : S) (u : W) (x : I) → m.quiet s ≡ true → Able u → m.arrived s u ≡ Some x → l.letter x ≡ true → l.kept (m.step s u) ≡ Some (v, m.clock u + 21 * m.quarter)
    taken s u x q a e is =
        let i : In x (m.flight u) = stamps.arrived s u x e in
        let says = a.0.letters x i (a.1 x i) is in
        a.0.takes s x q e says.0 says.1

    firm_step : (b : ℕ) (s : S) (u : W) → m.quiet s ≡ true → Able u → Able (m.step s u) → m.clock (m.step s u) < b + 21 * m.quarter → Firm v b u → Firm v b (m.step s u)
    firm_step b s u q a a' before firm = by_item (m.arrived s u) refl
      where
        rests : ((x : I) → m.arrived s u ≡ Some x → l.letter x ≡ false) → Firm v b (m.step s u)
        rests none =
            (firm.0, moves.rests s u firm.0 q a.0 a'.0 none firm.1 (omega (arith, firm.2)), firm.2, omega (arith, firm.3, c.clock s u q))

        by_letter : (x : I) → m.arrived s u ≡ Some x → (t : Bool) → l.letter x ≡ t → Firm v b (m.step s u)
        by_letter x e true is = (m.clock u + 21 * m.quarter, taken s u x q a e is, omega (arith, firm.3), omega (arith, firm.3, c.clock s u q))
        by_letter x e false is = rests (λ y f. let same : x ≡ y = cc in subst (λ (z : I). l.letter z ≡ false) same is)

        by_item : (o : Option I) → m.arrived s u ≡ o → Firm v b (m.step s u)
        by_item None e = rests (λ x f. absurd (cc))
        by_item (Some x) e = by_letter x e (l.letter x) refl

    firm_run : (b : ℕ) (ss : List S) (w : W) → AreQuiet m ss → Visited m Able ss w → m.clock (run m ss w) < b + 21 * m.quarter → Firm v b w → Visited m (Firm v b) ss w
    firm_run b [] w quiet a before firm = firm
    firm_run b (s ∷ ss) w quiet a before firm =
        let a' = visited_start m Able ss (m.step s w) a.1 in (
          firm,
          firm_run b ss (m.step s w) quiet.1 a.1 before
              (firm_step b s w quiet.0 a.0 a' (omega (arith, clock_run m c ss (m.step s w) quiet.1, before)) firm),
        )

    -- a letter that arrives in the stretch
    firm_got : (b : ℕ) (y : I) → l.letter y ≡ true → (ss : List S) (w : W) → AreQuiet m ss → Visited m Able ss w → b ≤ m.clock w → m.clock (run m ss w) < b + 21 * m.quarter
        → In y (all_arrived m ss w) → Firm v b (run m ss w)
    firm_got b y is [] w quiet a le before i = absurd i
    firm_got b y is (s ∷ ss) w quiet a le before i =
        ⊎_elim
        (λ (now : In y (items_of (m.arrived s w))).
        visited_end m (Firm v b) ss (m.step s w)
        (firm_run b ss (m.step s w) quiet.1 a.1 before
        (m.clock w + 21 * m.quarter, taken s w y quiet.0 a.0 (in_option y (m.arrived s w) now) is, omega arith, omega (arith, c.clock s w quiet.0))))
        (λ (later : In y (all_arrived m ss (m.step s w))).
        firm_got b y is ss (m.step s w) quiet.1 a.1 (omega (arith, c.clock s w quiet.0)) before later)
        (in_append y (items_of (m.arrived s w)) (all_arrived m ss (m.step s w)) i)

    -- a refresh of it was sent
    called : (ss : List S) (w : W) → AreQuiet m ss → Visited m Able ss w → Happens m l.fires ss w → (x : I) × In (x, true) (all_sent m ss w) × (m.track x ≡ l.track)
    called [] w quiet a f = absurd f
    called (s ∷ ss) w quiet a f =
        ⊎_elim
        (λ (now : l.fires s w).
        let x = moves.calls s w quiet.0 a.0.0 (visited_start m Able ss (m.step s w) a.1).0 now in
        (x.0, in_left (x.0, true) (m.sent s w) (all_sent m ss (m.step s w)) x.1, x.2))
        (λ (later : Happens m l.fires ss (m.step s w)).
        let x = called ss (m.step s w) quiet.1 a.1 later in
        (x.0, in_right (x.0, true) (m.sent s w) (all_sent m ss (m.step s w)) x.1, x.2))
        f

    sent_letter : (y : I) → m.track y ≡ l.track → (ss : List S) (w : W) → AreQuiet m ss → Visited m Able ss w → In (y, true) (all_sent m ss w) → l.letter y ≡ true
    sent_letter y e [] w quiet a i = absurd i
    sent_letter y e (s ∷ ss) w quiet a i =
        ⊎_elim
        (λ (now : In (y, true) (m.sent s w)). moves.tracks s w y quiet.0 a.0.0 (visited_start m Able ss (m.step s w) a.1).0 now e)
        (λ (later : In (y, true) (all_sent m ss (m.step s w))). sent_letter y e ss (m.step s w) quiet.1 a.1 later)
        (in_append (y, true) (m.sent s w) (all_sent m ss (m.step s w)) i)

    pub round_get : (1 ≤ m.quarter) → (r : List S) (w : W) → Calm m r w → Visited m l.sane r w → Visited m Able r w → Firm v (m.clock w) (run m r w)
    round_get q r w calm sane a =
        let counts = visited_map m Able (λ u. (t : ℕ) × (l.due u ≡ Some t)) (λ u h. h.0.counts) r w a in
        let x = called r w calm.silent a (comes_due m c l laws r w calm sane counts) in
        let on = (visited_start m Able r w a).0.serves in
        let y = calm.crossed x.0 on.0 x.1 (x.2 ∙ on.1) on.2 in
        firm_got (m.clock w) y.0 (sent_letter y.0 (y.2 ∙ x.2) r w calm.silent a y.1) r w calm.silent a (omega arith)
        (omega (arith, clock_run m c r w calm.silent, calm.short)) y.3

    firm_rounds : (1 ≤ m.quarter) → (b : ℕ) (rs : List (List S)) (w : W) → Rounds m rs w → Hold m 0 rs w l.sane → Hold m 0 rs w Able → m.clock w ≤ b + 10 * m.quarter → Firm v b w
        → Hold m 0 rs w (Stands m l v)
    firm_rounds q b [] w calm sane a le firm = (firm.0, firm.1)
    firm_rounds q b (r ∷ rs) w calm sane a le firm = (
      visited_map m (Firm v b) (Stands m l v) (λ u h. (h.0, h.1)) r w
          (firm_run b r w calm.0.silent a.0 (omega (arith, clock_run m c r w calm.0.silent, calm.0.short)) firm),
      firm_rounds q (m.clock w) rs (run m r w) calm.1 sane.1 a.1 (omega (arith, clock_run m c r w calm.0.silent, calm.0.short))
          (round_get q r w calm.0 sane.0 a.0),
    )

  pub what_is_said_is_kept : (v : V) → (1 ≤ m.quarter) → (rs : List (List S)) (w : W) → Rounds m rs w → Moves m l v (m.made w)
      → Hold m 0 rs w (Good m l v (m.made w)) → Hold m 2 rs w (Stands m l v)
  what_is_said_is_kept v q [] w calm moves good = tt
  what_is_said_is_kept v q (r ∷ []) w calm moves good = tt
  what_is_said_is_kept v q (r ∷ r2 ∷ rs) w calm moves good =
      let sane = hold_map m (Good m l v (m.made w)) l.sane (λ u g. g.sane) 0 (r ∷ r2 ∷ rs) w good in
      let able = hold_both m (Good m l v (m.made w)) (Fresh m (m.made w)) 1 (r ∷ r2 ∷ rs) w
      (hold_later m (Good m l v (m.made w)) 0 1 (r ∷ r2 ∷ rs) w (omega arith) good) (hold_flush m stamps (r ∷ r2 ∷ rs) w calm) in
      firm_rounds v (m.made w) moves q (m.clock (run m r w)) rs (run m r2 (run m r w)) calm.1.1 sane.1.1 able.1
      (omega (arith, clock_run m c r2 (run m r w) calm.1.0.silent, calm.1.0.short))
      (round_get v (m.made w) moves q r2 (run m r w) calm.1.0 sane.1.0 able.0)
