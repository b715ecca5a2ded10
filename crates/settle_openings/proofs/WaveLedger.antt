-- What is in flight is paid for: each datagram has a number, and those that a delivery sends are paid by the one that is delivered, and by what
-- falls besides; refreshes have none, and are gone with the next pass. So no more is in flight than the numbers come to, and the refreshes of one
-- half period.
use Rattle.std.proofs.Common.{◌≡◌, ℕ, zero, suc, ◌+◌, ◌*◌, ◌≤◌, List, [], ◌∷◌, ◌++◌, length, arith, sym, refl, ap, subst, append_assoc}
use Rattle.std.specs.List.{repeat}
use Rattle.calm_rounds.specs.Hold.{Visited}
use Rattle.calm_rounds.specs.Machine.{run}
use Rattle.calm_rounds.proofs.Holding.{visited_start}
use Rattle.network_model.specs.Events.{a_round, half, halves, pass, rounds}
use Rattle.network_model.specs.Steps.{Deliver, Piece, Step, machine, step}
use Rattle.network_model.specs.Worlds.{World}

-- ---- lists of numbers: how many are 0, and what they come to
abbrev pub zeros : List ℕ → ℕ
zeros [] = 0
zeros (zero ∷ cs) = suc (zeros cs)
zeros (suc c ∷ cs) = zeros cs

abbrev pub total : List ℕ → ℕ
total [] = 0
total (c ∷ cs) = c + total cs

pub zeros_append : (xs ys : List ℕ) → zeros (xs ++ ys) ≡ zeros xs + zeros ys
zeros_append [] ys = omega arith
zeros_append (zero ∷ xs) ys = let rest = zeros_append xs ys in omega (arith, rest)
zeros_append (suc c ∷ xs) ys = zeros_append xs ys

pub total_append : (xs ys : List ℕ) → total (xs ++ ys) ≡ total xs + total ys
total_append [] ys = omega arith
total_append (c ∷ xs) ys = let rest = total_append xs ys in omega (arith, rest)

few_by_total : (cs : List ℕ) → length cs ≤ total cs + zeros cs
few_by_total [] = omega arith
few_by_total (zero ∷ cs) = let rest = few_by_total cs in omega (arith, rest)
few_by_total (suc c ∷ cs) = let rest = few_by_total cs in omega (arith, rest)

zeros_later : (c : ℕ) (cs : List ℕ) → zeros cs ≤ zeros (c ∷ cs)
zeros_later zero cs = omega arith
zeros_later (suc c) cs = omega arith

append_none : {A : Type 0} (xs : List A) → xs ++ [] ≡ xs
append_none [] = refl
append_none (x ∷ xs) = ap (λ ys. x ∷ ys) (append_none xs)

-- ---- stretches of steps, one after the other
run_then : (q : ℕ) (ss ts : List Step) (w : World) → run (machine q) (ss ++ ts) w ≡ run (machine q) ts (run (machine q) ss w)
run_then q [] ts w = refl
run_then q (s ∷ ss) ts w = run_then q ss ts (step q s w)

visited_join : (q : ℕ) (Q : World → Type 0) (ss ts : List Step) (u : World) → Visited (machine q) Q ss u → Visited (machine q) Q ts (run (machine q) ss u) → Visited (machine q) Q (ss ++ ts) u
visited_join q Q [] ts u v t = t
visited_join q Q (s ∷ ss) ts u v t = (v.0, visited_join q Q ss ts (step q s u) v.1 t)

-- ---- how what is in flight is paid for, in worlds of I, and as half periods begin in worlds of Rest: left is what may still be called up, and most
-- what a half period refreshes
pub record Ledger (q most : ℕ) (I Rest : World → Type 0) (Pays : World → List ℕ → Type 0) (left : World → ℕ) : Type 0 where
  pub many : (u : World) (cs : List ℕ) → I u → Pays u cs → length cs ≡ length u.flight
  -- what a delivery sends
  pub delivered : (u : World) (c : ℕ) (cs : List ℕ) → I u → I (step q (Deliver 0) u) → Pays u (c ∷ cs)
      → (ds : List ℕ) × Pays (step q (Deliver 0) u) (cs ++ ds) × (zeros ds ≡ 0) × (total ds + left (step q (Deliver 0) u) ≤ c + left u)
  -- and half a period
  pub waited : (u : World) (cs : List ℕ) → Rest u → Pays u cs
      → (ds : List ℕ) × Pays (step q (Piece (2 * q)) u) (cs ++ ds) × (total ds ≡ 0) × (length ds ≤ most) × (left (step q (Piece (2 * q)) u) ≤ left u)

module _ (q most top : ℕ) (I Rest : World → Type 0) (Pays : World → List ℕ → Type 0) (left : World → ℕ) (ledger : Ledger q most I Rest Pays left)
    (half_rests : (u : World) → Rest u → Visited (machine q) I (half q u) u × Rest (run (machine q) (half q u) u)) where
  abbrev pub HasRoom : World → Type 0
  HasRoom u = length u.flight ≤ top + most

  -- between passes all is paid for
  pub record IsPaid (u : World) : Type 0 where
    pub cs : List ℕ
    pub pays : Pays u cs
    pub none : zeros cs ≡ 0
    pub below : total cs + left u ≤ top

  -- in a pass: what is still to be delivered, and what was sent meanwhile
  record IsPaying (u : World) (n : ℕ) : Type 0 where
    old : List ℕ
    new : List ℕ
    pays : Pays u (old ++ new)
    here : length old ≡ n
    few : zeros old ≤ most
    none : zeros new ≡ 0
    below : total (old ++ new) + left u ≤ top

  roomy : (u : World) (n : ℕ) → I u → IsPaying u n → HasRoom u
  roomy u n i p =
      let a = ledger.many u (p.old ++ p.new) i p.pays in
      let b = few_by_total (p.old ++ p.new) in
      let c = zeros_append p.old p.new in
      let few = p.few in
      let none = p.none in
      let below = p.below in
      omega (arith, a, b, c, few, none, below)

  next_paying : (u : World) (n : ℕ) → I u → I (step q (Deliver 0) u) → IsPaying u (suc n) → IsPaying (step q (Deliver 0) u) n
  next_paying u n i j p = by p.old refl
    where
      by : (cs : List ℕ) → p.old ≡ cs → IsPaying (step q (Deliver 0) u) n
      by [] e = let here = p.here in let none = ap length e in absurd (omega (arith, here, none))
      by (c ∷ cs) e =
          let r = ledger.delivered u c (cs ++ p.new) i j (subst (λ (z : List ℕ). Pays u (z ++ p.new)) e p.pays) in
          let assoc : (cs ++ p.new) ++ r.0 ≡ cs ++ (p.new ++ r.0) = append_assoc cs p.new r.0 in
          let here = p.here in
          let size = ap length e in
          let few = p.few in
          let zs = ap zeros e in
          let fewer = zeros_later c cs in
          let none = p.none in
          let more = r.2 in
          let joined = zeros_append p.new r.0 in
          let below = p.below in
          let before = ap (λ (z : List ℕ). total (z ++ p.new)) e in
          let sum1 = total_append (cs ++ p.new) r.0 in
          let sum2 = ap total assoc in
          let paid = r.3 in
          record {
            old = cs;
            new = p.new ++ r.0;
            pays = subst (λ (z : List ℕ). Pays (step q (Deliver 0) u) z) assoc r.1;
            here = omega (arith, here, size);
            few = omega (arith, few, zs, fewer);
            none = omega (arith, none, more, joined);
            below = omega (arith, below, before, sum1, sum2, paid);
          }

  paid_pass : (n : ℕ) (u : World) → Visited (machine q) I (repeat n (Deliver 0 ∷ [])) u → IsPaying u n
      → Visited (machine q) HasRoom (repeat n (Deliver 0 ∷ [])) u × IsPaid (run (machine q) (repeat n (Deliver 0 ∷ [])) u)
  paid_pass zero u i p = (roomy u zero i p, by p.old refl)
    where
      by : (cs : List ℕ) → p.old ≡ cs → IsPaid u
      by [] e =
          record { cs = p.new; pays = subst (λ (z : List ℕ). Pays u (z ++ p.new)) e p.pays; none = p.none; below = subst (λ (z : List ℕ). total (z ++ p.new) + left u ≤ top) e p.below }
      by (c ∷ cs) e = let here = p.here in let some = ap length e in absurd (omega (arith, here, some))
  paid_pass (suc n) u i p =
      let there = visited_start (machine q) I (repeat n (Deliver 0 ∷ [])) (step q (Deliver 0) u) i.1 in
      let r = paid_pass n (step q (Deliver 0) u) i.1 (next_paying u n i.0 there p) in
      ((roomy u (suc n) i.0 p, r.0), r.1)

  paid_half : (u : World) → Rest u → IsPaid u → Visited (machine q) HasRoom (half q u) u × IsPaid (run (machine q) (half q u) u)
  paid_half u rest p =
      let i = (half_rests u rest).0 in
      let next : World = step q (Piece (2 * q)) u in
      let there = visited_start (machine q) I (pass q next) next i.1 in
      let r = ledger.waited u p.cs rest p.pays in
      let many = ledger.many next (p.cs ++ r.0) there r.1 in
      let few = r.3 in
      let nothing = r.2 in
      let none = p.none in
      let below = p.below in
      let less = r.4 in
      let zs = zeros_append p.cs r.0 in
      let zmost = zeros_few r.0 in
      let sum = total_append p.cs r.0 in
      let all : IsPaying next (length next.flight) = record {
        old = p.cs ++ r.0;
        new = [];
        pays = subst (λ (z : List ℕ). Pays next z) (sym (append_none (p.cs ++ r.0))) r.1;
        here = many;
        few = omega (arith, few, zs, none, zmost);
        none = refl;
        below = (let same = ap total (append_none (p.cs ++ r.0)) in omega (arith, below, less, sum, nothing, same));
      } in
      let x = paid_pass (length next.flight) next i.1 all in
      let a = ledger.many u p.cs i.0 p.pays in
      let b = few_by_total p.cs in
      ((omega (arith, a, b, none, below), x.0), x.1)
    where
      zeros_few : (cs : List ℕ) → zeros cs ≤ length cs
      zeros_few [] = omega arith
      zeros_few (zero ∷ cs) = let rest = zeros_few cs in omega (arith, rest)
      zeros_few (suc c ∷ cs) = let rest = zeros_few cs in omega (arith, rest)

  room_here : (u : World) → Rest u → IsPaid u → HasRoom u
  room_here u rest p =
      let i = visited_start (machine q) I (half q u) u (half_rests u rest).0 in
      let a = ledger.many u p.cs i p.pays in
      let b = few_by_total p.cs in
      let none = p.none in
      let below = p.below in
      omega (arith, a, b, none, below)

  paid_halves : (n : ℕ) (u : World) → Rest u → IsPaid u → Visited (machine q) HasRoom (halves q n u) u × IsPaid (run (machine q) (halves q n u) u) × Rest (run (machine q) (halves q n u) u)
  paid_halves zero u rest p = (room_here u rest p, p, rest)
  paid_halves (suc n) u rest p =
      let mid : World = run (machine q) (half q u) u in
      let a = paid_half u rest p in
      let b = paid_halves n mid (half_rests u rest).1 a.1 in
      let then = sym (run_then q (half q u) (halves q n mid) u) in
      (visited_join q HasRoom (half q u) (halves q n mid) u a.0 b.0, subst IsPaid then b.1, subst Rest then b.2)

  pub paid_rounds : (n : ℕ) (u : World) → Rest u → IsPaid u → Visited (machine q) HasRoom (rounds q n u) u
  paid_rounds zero u rest p = room_here u rest p
  paid_rounds (suc n) u rest p =
      let mid : World = run (machine q) (a_round q u) u in
      let a = paid_halves 4 u rest p in
      visited_join q HasRoom (a_round q u) (rounds q n mid) u a.0 (paid_rounds n mid a.2 a.1)
