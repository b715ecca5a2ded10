-- Time that passes over the tables is time that passes over the facts.
use Rattle.std.specs.Prelude.{◌≡◌, ℕ, ◌+◌, ◌-◌, ◌*◌, ◌%◌, ◌≤◌, ◌<◌, nat_le, nat_lt, Bool, true, false, cond, not, Option, Some, None, refl}
use Rattle.std.proofs.Common.{sym, ap, ◌∙◌, arith}
use Rattle.std.proofs.lemmas.Bool.{leb-true, leb-false, le-leb, ltb-true, lt-ltb}
use Rattle.rsvp_base.specs.Keys.{Keys}
use Rattle.rsvp_base.specs.Orders.{sessions}
use Rattle.rsvp_base.specs.Table.{Table, changed, get}
use Rattle.rsvp_base.proofs.Tables.{either, get-changed, same_table, then_do}
use Rattle.path_state.specs.Paths.{path_keys}
use Rattle.resv_state.specs.Resvs.{ResvFacts, later as later_resv}
use Rattle.resv_state.specs.StyleRules.Lines.{line_keys}
use Rattle.resv_state.specs.StyleRules.Targets.{wall_keys}
use Rattle.laws_bounds.specs.RouterRules.Facts.{PathState, ResvState, Blockade}
use Rattle.laws_bounds.specs.RouterRules.Waiting.{act_wait, living, living_resvs}
use Rattle.router_state.specs.State.{State, facts_of, resv_at, due_at}
use Rattle.router_state.specs.Waited.{aged, later_due, ticked}

-- ---- one table after another
pub changed_same : {K X Y : Type 0} (o : Keys K) (g h : K → X → Option Y) → ((k : K) (x : X) → g k x ≡ h k x) → (m : Table o X) → changed g m ≡ changed h m
changed_same o g h e m = λ i. changed (λ k x. e k x i) m

module _ {K X Y Z : Type 0} (o : Keys K) where
  pub changed_twice : (g : K → X → Option Y) (f : K → Y → Option Z) (m : Table o X) → changed f (changed g m) ≡ changed (λ k x. then_do (g k x) (f k)) m
  changed_twice g f m = same_table o _ _ (λ q. get-changed o f (changed g m) q ∙ ap (λ w. then_do w (f q)) (get-changed o g m q) ∙ by q (get m q)
      ∙ sym (get-changed o (λ k x. then_do (g k x) (f k)) m q))
    where
      by : (q : K) (w : Option X) → then_do (then_do w (g q)) (f q) ≡ then_do w (λ x. then_do (g q x) (f q))
      by q None = refl
      by q (Some x) = refl

-- what is left after some time, and what dies later than the clock
lives : (c ms left : ℕ) → nat_lt (c + ms) (c + left) ≡ not (nat_le left ms)
lives c ms left =
    either (nat_le left ms)
    (λ t. off (nat_lt (c + ms) (c + left)) (λ l. let a = ltb-true (c + ms) (c + left) l in let b = leb-true left ms t in absurd (omega (arith, a, b))) ∙ ap not (sym t))
    (λ f. lt-ltb (c + ms) (c + left) (over left ms f) ∙ ap not (sym f))
  where
    off : (b : Bool) → (b ≡ true → ⊥) → b ≡ false
    off true h = absurd (h refl)
    off false h = refl

    over : (a b : ℕ) → nat_le a b ≡ false → c + b < c + a
    over a b f = let l = leb-false a b f in omega (arith, l)

module _ {K X Y : Type 0} (o : Keys K) (c ms : ℕ) (dies : Y → ℕ) (make : K → X → ℕ → Y) (is : (k : K) (x : X) (n : ℕ) → dies (make k x n) ≡ n) where
  abbrev at : ℕ → K → X × ℕ → Option Y
  at clock k e = Some (make k e.0 (clock + e.1))

  abbrev later : K → X × ℕ → Option (X × ℕ)
  later k e = cond (nat_le e.1 ms) None (Some (e.0, e.1 - ms))

  pub table_ages : (m : Table o (X × ℕ)) → changed (at (c + ms)) (changed later m) ≡ changed (λ k. living (c + ms) dies) (changed (at c) m)
  table_ages m = changed_twice o later (at (c + ms)) m ∙ changed_same o _ _ row m ∙ sym (changed_twice o (at c) (λ k. living (c + ms) dies) m)
    where
      row : (k : K) (e : X × ℕ) → then_do (later k e) (at (c + ms) k) ≡ living (c + ms) dies (make k e.0 (c + e.1))
      row k e =
          let test : nat_lt (c + ms) (dies (make k e.0 (c + e.1))) ≡ not (nat_le e.1 ms) = ap (nat_lt (c + ms)) (is k e.0 (c + e.1)) ∙ lives c ms e.1 in
          either (nat_le e.1 ms)
          (λ t. ap (λ b. then_do (cond b None (Some (e.0, e.1 - ms))) (at (c + ms) k)) t ∙ sym (ap (λ b. cond b (Some (make k e.0 (c + e.1))) None) (test ∙ ap not t)))
          (λ f. ap (λ b. then_do (cond b None (Some (e.0, e.1 - ms))) (at (c + ms) k)) f ∙ ap (λ n. Some (make k e.0 n)) (moment e.1 f)
          ∙ sym (ap (λ b. cond b (Some (make k e.0 (c + e.1))) None) (test ∙ ap not f)))
        where
          moment : (l : ℕ) → nat_le l ms ≡ false → c + ms + (l - ms) ≡ c + l
          moment l f = let g = leb-false l ms f in omega (arith, g)

due_ages : (q c ms word : ℕ) (m : Table sessions ℕ) → ms ≤ 2 * q → changed (due_at (c + ms)) (changed (later_due q ms word) m)
    ≡ changed (λ s t. Some (cond (nat_le t (c + ms)) (t + 2 * q + word % (4 * q + 1)) t)) (changed (due_at c) m)
due_ages q c ms word m half = changed_twice sessions (later_due q ms word) (due_at (c + ms)) m ∙ changed_same sessions _ _ (λ s l. row l) m
    ∙ sym (changed_twice sessions (due_at c) (λ s t. Some (cond (nat_le t (c + ms)) (t + 2 * q + word % (4 * q + 1)) t)) m)
  where
    same : (l : ℕ) → nat_le (c + l) (c + ms) ≡ nat_le l ms
    same l = either (nat_le l ms) (λ t. le-leb (c + l) (c + ms) (let a = leb-true l ms t in omega (arith, a)) ∙ sym t)
        (λ f. either (nat_le (c + l) (c + ms)) (λ t. let z : true ≡ false = sym (le-leb l ms (let a = leb-true (c + l) (c + ms) t in omega (arith, a))) ∙ f in absurd (cc)) (λ g. g ∙ sym f))

    row : (l : ℕ) → ◌≡◌ {A = Option ℕ} (Some (c + ms + ticked q ms word l)) (Some (cond (nat_le (c + l) (c + ms)) (c + l + 2 * q + word % (4 * q + 1)) (c + l)))
    row l =
        either (nat_le l ms)
        (λ t. ap (λ b. Some (c + ms + cond b (l + 2 * q + word % (4 * q + 1) - ms) (l - ms))) t ∙ ap Some (again l (word % (4 * q + 1)))
        ∙ sym (ap (λ b. Some (cond b (c + l + 2 * q + word % (4 * q + 1)) (c + l))) (same l ∙ t)))
        (λ f. ap (λ b. Some (c + ms + cond b (l + 2 * q + word % (4 * q + 1) - ms) (l - ms))) f ∙ ap Some (on l f)
        ∙ sym (ap (λ b. Some (cond b (c + l + 2 * q + word % (4 * q + 1)) (c + l))) (same l ∙ f)))
      where
        again : (l w : ℕ) → c + ms + (l + 2 * q + w - ms) ≡ c + l + 2 * q + w
        again l w = omega (arith, half)

        on : (l : ℕ) → nat_le l ms ≡ false → c + ms + (l - ms) ≡ c + l
        on l f = let g = leb-false l ms f in omega (arith, g)

pub time_passes : (n : State) (c ms word : ℕ) → ms ≤ 2 * n.place.quarter → facts_of (c + ms) (aged ms word n) ≡ (act_wait n.place (c + ms) word (facts_of c n)).facts
time_passes n c ms word half =
    let paths = table_ages path_keys c ms (λ (x : PathState). x.dies) (λ k f d. record { iface = f.iface; hop = f.hop; tspec = f.tspec; police = f.police; adspec = f.adspec; dies = d }) (λ k f d. refl) n.paths in
    let resvs : (m : ResvFacts) → changed (resv_at (c + ms)) (changed (later_resv ms) m) ≡ living_resvs (c + ms) (changed (resv_at c) m) =
    λ m. table_ages line_keys c ms (λ (x : ResvState). x.dies) (λ k f d. record { part = f.part; confirm = f.confirm; dies = d }) (λ k f d. refl) m in
    let wild = resvs n.wild in
    let fixed = resvs n.fixed in
    let shared = resvs n.shared in
    let walls = table_ages wall_keys c ms (λ (x : Blockade). x.dies) (λ k w d. record { wall = w; dies = d }) (λ k f d. refl) n.walls in
    let due = due_ages n.place.quarter c ms word n.due half in
    λ i. record (facts_of c n) { paths = paths i; resvs = record { wild = wild i; fixed = fixed i; shared = shared i }; walls = walls i; due = due i }
