-- The level of a bucket is the most that a stretch of the packets passed has beyond its time.
use Rattle.std.specs.Prelude.{◌≡◌, ℕ, ◌+◌, ◌*◌, ◌-◌, ◌<◌, ◌≤◌, List, [], ◌∷◌, ◌++◌}
use Rattle.std.proofs.Common.{sym, ap, subst, ◌∙◌, ◌⊎◌, inl, inr, ⊎_elim, arith, refl}
use Rattle.std.proofs.Math.Nat.{mul-add, mul-zero, mul-le-mul_left}
use Rattle.std.proofs.lemmas.Bool.{cases_lt}
use Rattle.rsvp_base.specs.TokenBucket.{TokenBucket}
use Rattle.load_policer.specs.Policing.{Agrees, Bucket, IsVerdict, Packet, IsOver, Rises, TheLevelTells, counted_all, last_at, level, level_with}
use Rattle.load_policer.specs.declared.policer.Verdict.TheVariants.{Pass, Over}

-- the last is not before
rises_to : (t : ℕ) (xs : List Packet) → Rises t xs → t ≤ last_at t xs
rises_to t [] r = omega arith
rises_to t (x ∷ xs) r = let more = rises_to x.at xs r.1 in let now = r.0 in omega (arith, more, now)

-- what drains in two times is what drains in both
drains : (r a b c : ℕ) → a ≤ b → b ≤ c → r * (b - a) + r * (c - b) ≡ r * (c - a)
drains r a b c ab bc =
    let whole : (b - a) + (c - b) ≡ c - a = omega (arith, ab, bc) in
    sym (mul-add r (b - a) (c - b)) ∙ ap (λ (n : ℕ). r * n) whole

still : (r a : ℕ) → r * (a - a) ≡ 0
still r a = let none : a - a ≡ 0 = omega arith in ap (λ (n : ℕ). r * n) none ∙ mul-zero r

module _ (f : TokenBucket) where
  -- all packets, and what was in the bucket before
  whole_below : (l t : ℕ) (xs : List Packet) → Rises t xs → counted_all f xs * 1000000 + l ≤ level f l t xs + f.r * (last_at t xs - t)
  whole_below l t [] r = omega arith
  whole_below l t (x ∷ xs) r =
      let more = whole_below (level_with f l t x) x.at xs r.1 in
      let both = drains f.r t x.at (last_at x.at xs) r.0 (rises_to x.at xs r.1) in
      omega (arith, more, both)

  -- each stretch that ends with the last packet
  stretch_below : (l t : ℕ) (xs before : List Packet) (first : Packet) (rest : List Packet) → Rises t xs → xs ≡ before ++ first ∷ rest
      → counted_all f (first ∷ rest) * 1000000 ≤ level f l t xs + f.r * (last_at t xs - first.at)
  stretch_below l t xs [] first rest r is =
      subst (λ (ys : List Packet). counted_all f (first ∷ rest) * 1000000 ≤ level f l t ys + f.r * (last_at t ys - first.at)) (sym is)
      (let rise : Rises t (first ∷ rest) = subst (Rises t) is r in
      let more = whole_below (level_with f l t first) first.at rest rise.1 in omega (arith, more))
  stretch_below l t xs (y ∷ before) first rest r is =
      subst (λ (ys : List Packet). counted_all f (first ∷ rest) * 1000000 ≤ level f l t ys + f.r * (last_at t ys - first.at)) (sym is)
      (let rise : Rises t (y ∷ (before ++ first ∷ rest)) = subst (Rises t) is r in
      stretch_below (level_with f l t y) y.at (before ++ first ∷ rest) before first rest rise.1 refl)

  -- a stretch that has as much beyond its time as is in the bucket
  record IsMost (l t : ℕ) (xs : List Packet) : Type 0 where
    before : List Packet
    first : Packet
    rest : List Packet
    stretch : xs ≡ before ++ first ∷ rest
    most : level f l t xs + f.r * (last_at t xs - first.at) ≤ counted_all f (first ∷ rest) * 1000000

  -- some stretch has, or all packets with what was in the bucket before
  attained : (l t : ℕ) (x : Packet) (xs : List Packet) → Rises t (x ∷ xs)
      → IsMost l t (x ∷ xs) ⊎ (level f l t (x ∷ xs) + f.r * (last_at t (x ∷ xs) - t) ≤ counted_all f (x ∷ xs) * 1000000 + l)
  attained l t x [] r =
      ⊎_elim
      (λ (less : f.r * (x.at - t) < l). inr (omega (arith, less, still f.r x.at)))
      (λ (more : l ≤ f.r * (x.at - t)). inl (record { before = []; first = x; rest = []; stretch = refl; most = omega (arith, more, still f.r x.at) }))
      (cases_lt (f.r * (x.at - t)) l)
  attained l t x (y ∷ ys) r =
      let both = drains f.r t x.at (last_at x.at (y ∷ ys)) r.0 (rises_to x.at (y ∷ ys) r.1) in
      ⊎_elim
      (λ (m : IsMost (level_with f l t x) x.at (y ∷ ys)).
      inl (record { before = x ∷ m.before; first = m.first; rest = m.rest; stretch = ap (λ (zs : List Packet). x ∷ zs) m.stretch; most = m.most }))
      (λ (all : level f (level_with f l t x) x.at (y ∷ ys) + f.r * (last_at x.at (y ∷ ys) - x.at) ≤ counted_all f (y ∷ ys) * 1000000 + level_with f l t x).
      ⊎_elim
      (λ (less : f.r * (x.at - t) < l). inr (omega (arith, less, all, both)))
      (λ (more : l ≤ f.r * (x.at - t)). inl (record { before = []; first = x; rest = y ∷ ys; stretch = refl; most = omega (arith, more, all) }))
      (cases_lt (f.r * (x.at - t)) l))
      (attained (level_with f l t x) x.at y ys r.1)

  last_of : (t : ℕ) (ps : List Packet) (x : Packet) → last_at t (ps ++ x ∷ []) ≡ x.at
  last_of t [] x = refl
  last_of t (y ∷ ps) x = last_of y.at ps x

  rises_before : (t : ℕ) (ps : List Packet) (x : Packet) → Rises t (ps ++ x ∷ []) → Rises t ps
  rises_before t [] x r = tt
  rises_before t (y ∷ ps) x r = (r.0, rises_before y.at ps x r.1)

  -- a packet that comes last has more than its time allows, in some stretch, where the level passes the bucket
  over_by : (ps : List Packet) (x : Packet) → IsMost 0 0 (ps ++ x ∷ []) → f.b * 1000000 < level f 0 0 (ps ++ x ∷ []) → IsOver f ps x
  over_by ps x m passes = record {
    before = m.before;
    first = m.first;
    rest = m.rest;
    stretch = m.stretch;
    above = let last = last_of 0 ps x in let most = subst (λ (n : ℕ). level f 0 0 (ps ++ x ∷ []) + f.r * (n - m.first.at) ≤ counted_all f (m.first ∷ m.rest) * 1000000) last m.most in
        omega (arith, most, passes);
  }

  as_list : (ps : List Packet) (x : Packet) → (y : Packet) × (ys : List Packet) × (ps ++ x ∷ [] ≡ y ∷ ys)
  as_list [] x = (x, [], refl)
  as_list (y ∷ ps) x = (y, ps ++ x ∷ [], refl)

  -- all packets are a stretch
  most_of_all : (y : Packet) (ys : List Packet) → level f 0 0 (y ∷ ys) + f.r * (last_at 0 (y ∷ ys) - 0) ≤ counted_all f (y ∷ ys) * 1000000 + 0 → IsMost 0 0 (y ∷ ys)
  most_of_all y ys all = record {
    before = [];
    first = y;
    rest = ys;
    stretch = refl;
    most = let less : last_at y.at ys - y.at ≤ last_at y.at ys - 0 = omega arith in let drained = mul-le-mul_left f.r less in omega (arith, all, drained);
  }

  some_most : (ps : List Packet) (x : Packet) → Rises 0 (ps ++ x ∷ []) → IsMost 0 0 (ps ++ x ∷ [])
  some_most ps x r =
      let l = as_list ps x in
      subst (IsMost 0 0) (sym l.2)
      (⊎_elim (λ (m : IsMost 0 0 (l.0 ∷ l.1)). m) (most_of_all l.0 l.1) (attained 0 0 l.0 l.1 (subst (Rises 0) l.2 r)))

  passes_by : (ps : List Packet) (x : Packet) → Rises 0 (ps ++ x ∷ []) → IsOver f ps x → f.b * 1000000 < level f 0 0 (ps ++ x ∷ [])
  passes_by ps x r over =
      let below = stretch_below 0 0 (ps ++ x ∷ []) over.before over.first over.rest r over.stretch in
      let last = last_of 0 ps x in
      let most = subst (λ (n : ℕ). counted_all f (over.first ∷ over.rest) * 1000000 ≤ level f 0 0 (ps ++ x ∷ []) + f.r * (n - over.first.at)) last below in
      let above = over.above in
      omega (arith, most, above)

pub the_level_tells : TheLevelTells
the_level_tells f ps x r = (passes_by f ps x r, over_by f ps x (some_most f ps x r))

-- ---- one packet more
level_behind : (f : TokenBucket) (l t : ℕ) (ps : List Packet) (x : Packet) → level f l t (ps ++ x ∷ []) ≡ level_with f (level f l t ps) (last_at t ps) x
level_behind f l t [] x = refl
level_behind f l t (y ∷ ps) x = level_behind f (level_with f l t y) y.at ps x

rises_behind : (t : ℕ) (ps : List Packet) (x : Packet) → Rises t ps → last_at t ps ≤ x.at → Rises t (ps ++ x ∷ [])
rises_behind t [] x r le = (le, tt)
rises_behind t (y ∷ ps) x r le = (r.0, rises_behind y.at ps x r.1 le)

module _ (b : Bucket) (ps : List Packet) (x : Packet) (a : Agrees b ps) (later : b.at ≤ x.at) where
  rises_now : Rises 0 (ps ++ x ∷ [])
  rises_now = let at = a.at in rises_behind 0 ps x a.rises (omega (arith, at, later))

  level_now : level_with b.flow b.level b.at x ≡ level b.flow 0 0 (ps ++ x ∷ [])
  level_now = (λ i. level_with b.flow (a.level i) (a.at i) x) ∙ sym (level_behind b.flow 0 0 ps x)

  pub over_now : x.size ≤ b.flow.most → b.flow.b * 1000000 < level_with b.flow b.level b.at x → IsVerdict b.flow ps x Over
  over_now fits passes = (fits, (the_level_tells b.flow ps x rises_now).1 (subst (λ (n : ℕ). b.flow.b * 1000000 < n) level_now passes))

  pub pass_now : (g : TokenBucket) (n : ℕ) → g ≡ b.flow → n ≡ level_with b.flow b.level b.at x → x.size ≤ b.flow.most → n ≤ b.flow.b * 1000000
      → IsVerdict b.flow ps x Pass × Agrees (record { flow = g; level = n; at = x.at }) (ps ++ x ∷ [])
  pass_now g n same is fits room = (
    (fits, λ over. let passes = (the_level_tells b.flow ps x rises_now).0 over in let now = level_now in omega (arith, passes, now, room, is)),
    record { level = is ∙ level_now ∙ ap (λ (z : TokenBucket). level z 0 0 (ps ++ x ∷ [])) (sym same); at = sym (last_of b.flow 0 ps x); rises = rises_now },
  )
