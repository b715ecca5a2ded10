-- The rounds of a script are calm.
use Rattle.std.proofs.Common.{le-leb, ◌≡◌, ℕ, zero, suc, ◌+◌, ◌*◌, ◌≤◌, List, [], ◌∷◌, ◌++◌, length, Bool, true, false, None, ◌⊎◌, inl, inr, ⊎_elim, arith, sym, refl, ap, subst, ◌∙◌}
use Rattle.rsvp_base.specs.Members.{In}
use Rattle.rsvp_base.specs.Table.{has}
use Rattle.rsvp_base.specs.declared.session.Session.{Session}
use Rattle.rsvp_base.proofs.Members.{in_append, in_left, in_right, in_each, to_each}
use Rattle.calm_rounds.specs.Machine.{Machine, run, waits, all_sent, all_arrived, items_of, Fresh, IsStamped}
use Rattle.calm_rounds.specs.Rounds.{AreQuiet, Calm, Rounds}
use Rattle.calm_rounds.proofs.Holding.{made_run, fresh_step}
use Rattle.rsvp_base.specs.declared.addr.Addr.{Addr}
use Rattle.network_model.specs.RouterRules.Act.{act}
use Rattle.network_model.specs.RouterRules.Facts.{Facts}
use Rattle.network_model.specs.RouterRules.Inputs.{Arrival, Change, Input, Wait, Came, Send}
use Rattle.network_model.specs.RouterRules.NodeConfig.{NodeConfig}
use Rattle.network_model.specs.RouterRules.Rule.{Outcome, rule, settled}
use Rattle.laws_steps.specs.LawsBounds.SendLaws.{IsPathTear, IsResvTear, IsError, IsConf, IsPath, IsResv}
use Rattle.laws_steps.proofs.LawsBounds.Sending.{sends_are_of_six_kinds}
use Rattle.tree_model.specs.Networks.{iface_of}
use Rattle.laws_steps.proofs.Counting.{reached}
use Rattle.network_model.specs.Events.{pass, half, halves, a_round, rounds}
use Rattle.network_model.specs.Steps.{Step, Piece, Deliver, input_at, outcome, still, sent, step, machine}
use Rattle.network_model.specs.Worlds.{Item, World, config_of}
use Rattle.network_model.specs.Bounds.{all_of}
use Rattle.laws_network.specs.Rounds.{rounds_of, RoundsIsCalm}
use Rattle.network_model.proofs.Machines.{items_are_numbered, born_sent}
use Rattle.network_model.proofs.Quiet.{IsWaited, IsCame, FollowsRule, input_found, outcome_quiet}
use Rattle.network_model.proofs.Changing.{what_is_sent_is_copied}
use Rattle.laws_network.proofs.Passing.{items, deliveries, pass_arrives, pass_leaves}

-- ---- stretches of steps put together
module _ {W S I K : Type 0} (m : Machine W S I K) where
  pub run_append : (ss ts : List S) (w : W) → run m (ss ++ ts) w ≡ run m ts (run m ss w)
  run_append [] ts w = refl
  run_append (s ∷ ss) ts w = run_append ss ts (m.step s w)

  waits_append : (ss ts : List S) → waits m (ss ++ ts) ≡ waits m ss + waits m ts
  waits_append [] ts = omega arith
  waits_append (s ∷ ss) ts = omega (arith, waits_append ss ts)

  quiet_append : (ss ts : List S) → AreQuiet m ss → AreQuiet m ts → AreQuiet m (ss ++ ts)
  quiet_append [] ts a b = b
  quiet_append (s ∷ ss) ts a b = (a.0, quiet_append ss ts a.1 b)

  -- what the second part sends and takes, at the world where it begins
  sent_append : (x : I × Bool) (ss ts : List S) (w : W) → In x (all_sent m (ss ++ ts) w) → In x (all_sent m ss w) ⊎ In x (all_sent m ts (run m ss w))
  sent_append x [] ts w i = inr i
  sent_append x (s ∷ ss) ts w i =
      ⊎_elim (λ (j : In x (m.sent s w)). inl (in_left x (m.sent s w) (all_sent m ss (m.step s w)) j))
      (λ (j : In x (all_sent m (ss ++ ts) (m.step s w))).
      ⊎_elim (λ (k : In x (all_sent m ss (m.step s w))). inl (in_right x (m.sent s w) (all_sent m ss (m.step s w)) k)) (λ (k : In x (all_sent m ts (run m ss (m.step s w)))). inr k)
      (sent_append x ss ts (m.step s w) j))
      (in_append x (m.sent s w) (all_sent m (ss ++ ts) (m.step s w)) i)

  arrived_left : (x : I) (ss ts : List S) (w : W) → In x (all_arrived m ss w) → In x (all_arrived m (ss ++ ts) w)
  arrived_left x [] ts w i = absurd i
  arrived_left x (s ∷ ss) ts w i =
      ⊎_elim (λ (j : In x (items_of (m.arrived s w))). in_left x (items_of (m.arrived s w)) (all_arrived m (ss ++ ts) (m.step s w)) j)
      (λ (j : In x (all_arrived m ss (m.step s w))). in_right x (items_of (m.arrived s w)) (all_arrived m (ss ++ ts) (m.step s w)) (arrived_left x ss ts (m.step s w) j))
      (in_append x (items_of (m.arrived s w)) (all_arrived m ss (m.step s w)) i)

  arrived_right : (x : I) (ss ts : List S) (w : W) → In x (all_arrived m ts (run m ss w)) → In x (all_arrived m (ss ++ ts) w)
  arrived_right x [] ts w i = i
  arrived_right x (s ∷ ss) ts w i = in_right x (items_of (m.arrived s w)) (all_arrived m (ss ++ ts) (m.step s w)) (arrived_right x ss ts (m.step s w) i)

  fresh_run : IsStamped m → (n : ℕ) (ss : List S) (w : W) → AreQuiet m ss → (n ≤ m.made w) × Fresh m n w → (n ≤ m.made (run m ss w)) × Fresh m n (run m ss w)
  fresh_run c n [] w e h = h
  fresh_run c n (s ∷ ss) w e h = fresh_run c n ss (m.step s w) e.1 (fresh_step m c n s w e.0 h)

-- ---- what is sent for an arrival is no refresh
module _ (p : NodeConfig) (c e : ℕ) (dst : Addr) (a : Arrival) (f : Facts) (s : Send) where
  abbrev change : Change
  change = act p c (Came e dst a) f

  abbrev after : Facts
  after = settled p c f change.facts

  not_due : (x : Session) → has change.fired x ≡ true → ⊥
  not_due x due = let r = reached p c (Came e dst a) f x due in let no : Came e dst a ≡ Wait r.ms r.word = r.waited in absurd (cc)

  pub came_unmarked : In s (rule p p c (Came e dst a) f).sent → s.refresh ≡ true → ⊥
  came_unmarked h mark =
      ⊎_elim
      (λ (r : IsPathTear p p f after change s). let no : false ≡ true = sym (ap (λ (z : Send). z.refresh) r.is) ∙ mark in absurd (cc))
      (λ k. ⊎_elim
      (λ (r : IsResvTear p p f after change s). let no : false ≡ true = sym (ap (λ (z : Send). z.refresh) r.is) ∙ mark in absurd (cc))
      (λ k. ⊎_elim
      (λ (r : IsError p p f after change s). let no : false ≡ true = sym (ap (λ (z : Send). z.refresh) r.is) ∙ mark in absurd (cc))
      (λ k. ⊎_elim
      (λ (r : IsConf p p f after change s). let no : false ≡ true = sym (ap (λ (z : Send). z.refresh) r.is) ∙ mark in absurd (cc))
      (λ k. ⊎_elim
      (λ (r : IsPath p p f after change s). not_due r.key.session (sym (ap (λ (z : Send). z.refresh) r.is) ∙ mark))
      (λ (r : IsResv p p f after change s). not_due r.lane.session (sym (ap (λ (z : Send). z.refresh) r.is) ∙ mark)) k) k) k) k) ((sends_are_of_six_kinds.each p p f after change s).0 h)

-- ---- rounds
module _ (q : ℕ) where
  -- a delivery sends no refresh
  none_in_delivery : (w : World) (k : ℕ) (x : Item) → In (x, true) (sent q (Deliver k) w) → ⊥
  none_in_delivery w k x i =
      let c = (what_is_sent_is_copied q (Deliver k) w (x, true)).0 i in
      let o : Outcome = outcome q (Deliver k) w c.node c.facts in
      let p : NodeConfig = config_of q w.net w.trees c.node in
      let mark : c.send.refresh ≡ true = sym (ap (λ (z : Item × Bool). z.1) c.is) in
      ⊎_elim
      (λ (h : (input_at (Deliver k) w c.node ≡ None) × (o ≡ still c.facts)).
      let none : o.sent ≡ [] = ap (λ (z : Outcome). z.sent) h.1 in
      absurd (subst (λ (z : List Send). In c.send z) none c.sent))
      (λ (h : FollowsRule q (Deliver k) w c.node c.facts o).
      let sends : In c.send (rule p p (w.clock + 0) h.input c.facts).sent = subst (λ (z : Outcome). In c.send z.sent) h.is c.sent in
      ⊎_elim
      (λ (t : IsWaited (Deliver k) w c.node h.input). let no : Deliver k ≡ Piece t.ms = t.step in absurd (cc))
      (λ (t : IsCame (Deliver k) w c.node h.input).
      came_unmarked p (w.clock + 0) (iface_of w.net.ends t.item.end) t.item.dst t.item.arrival c.facts c.send
      (subst (λ (z : Input). In c.send (rule p p (w.clock + 0) z c.facts).sent) t.is sends) mark)
      (input_found (Deliver k) w c.node h.input refl h.came))
      (outcome_quiet q (Deliver k) w c.node c.facts refl)

  none_in_pass : (n : ℕ) (w : World) (x : Item) → In (x, true) (all_sent (machine q) (deliveries q n) w) → ⊥
  none_in_pass zero w x i = absurd i
  none_in_pass (suc n) w x i =
      ⊎_elim
      (λ (j : In (x, true) (sent q (Deliver 0) w)). none_in_delivery w 0 x j)
      (λ (j : In (x, true) (all_sent (machine q) (deliveries q n) (step q (Deliver 0) w))). none_in_pass n (step q (Deliver 0) w) x j)
      (in_append (x, true) (sent q (Deliver 0) w) (all_sent (machine q) (deliveries q n) (step q (Deliver 0) w)) i)

  quiet_pass : (n : ℕ) → AreQuiet (machine q) (deliveries q n)
  quiet_pass zero = tt
  quiet_pass (suc n) = (le-leb 0 (2 * q) (omega arith), quiet_pass n)

  waits_pass : (n : ℕ) → waits (machine q) (deliveries q n) ≡ 0
  waits_pass zero = refl
  waits_pass (suc n) = omega (arith, waits_pass n)

  quiet_halves : (n : ℕ) (w : World) → AreQuiet (machine q) (halves q n w)
  quiet_halves zero w = tt
  quiet_halves (suc n) w =
      quiet_append (machine q) (half q w) (halves q n (run (machine q) (half q w) w))
      (le-leb (2 * q) (2 * q) (omega arith), quiet_pass (length (step q (Piece (2 * q)) w).flight)) (quiet_halves n (run (machine q) (half q w) w))

  waits_halves : (n : ℕ) (w : World) → waits (machine q) (halves q n w) ≡ 2 * q * n
  waits_halves zero w = omega arith
  waits_halves (suc n) w =
      omega (
        arith,
        waits_append (machine q) (half q w) (halves q n (run (machine q) (half q w) w)),
        waits_pass (length (step q (Piece (2 * q)) w).flight),
        waits_halves n (run (machine q) (half q w) w),
      )

  sent_fresh : (ss : List Step) (w : World) (x : Item) (b : Bool) → In (x, b) (all_sent (machine q) ss w) → w.made ≤ x.born
  sent_fresh [] w x b i = absurd i
  sent_fresh (s ∷ ss) w x b i =
      ⊎_elim (λ (j : In (x, b) (sent q s w)). let e = born_sent q s w (x, b) j in omega arith)
      (λ (j : In (x, b) (all_sent (machine q) ss (step q s w))). omega (arith, sent_fresh ss (step q s w) x b j))
      (in_append (x, b) (sent q s w) (all_sent (machine q) ss (step q s w)) i)

  fresh_half : (w : World) → Fresh (machine q) w.made (run (machine q) (half q w) w)
  fresh_half w x i =
      let u : World = step q (Piece (2 * q)) w in
      let j : In x (items (all_sent (machine q) (pass q u) u)) = rw (pass_leaves q u) at i in
      let r = in_each (λ (y : Item × Bool). y.0) x (all_sent (machine q) (pass q u) u) j in
      let le = sent_fresh (pass q u) u r.0.0 r.0.1 r.1 in
      let same = ap (λ (y : Item). y.born) r.2 in
      omega arith

  -- each refresh of a half is delivered in it
  crossed_half : (w : World) (x : Item) → In (x, true) (all_sent (machine q) (half q w) w) → In x (all_arrived (machine q) (half q w) w)
  crossed_half w x i =
      let u : World = step q (Piece (2 * q)) w in
      ⊎_elim
      (λ (j : In (x, true) (sent q (Piece (2 * q)) w)).
      let k : In x u.flight = in_right x w.flight (items (sent q (Piece (2 * q)) w)) (to_each (λ (y : Item × Bool). y.0) (x, true) (sent q (Piece (2 * q)) w) j) in
      rw (pass_arrives q u) k)
      (λ (j : In (x, true) (all_sent (machine q) (pass q u) u)). absurd (none_in_pass (length u.flight) u x j))
      (in_append (x, true) (sent q (Piece (2 * q)) w) (all_sent (machine q) (pass q u) u) i)

  crossed_halves : (n : ℕ) (w : World) (x : Item) → In (x, true) (all_sent (machine q) (halves q n w) w) → In x (all_arrived (machine q) (halves q n w) w)
  crossed_halves zero w x i = absurd i
  crossed_halves (suc n) w x i =
      let u : World = run (machine q) (half q w) w in
      ⊎_elim
      (λ (j : In (x, true) (all_sent (machine q) (half q w) w)). arrived_left (machine q) x (half q w) (halves q n u) w (crossed_half w x j))
      (λ (j : In (x, true) (all_sent (machine q) (halves q n u) u)). arrived_right (machine q) x (half q w) (halves q n u) w (crossed_halves n u x j))
      (sent_append (machine q) (x, true) (half q w) (halves q n u) w i)

  fresh_halves : (n : ℕ) (w : World) → Fresh (machine q) w.made (run (machine q) (halves q (suc n) w) w)
  fresh_halves n w =
      let u : World = run (machine q) (half q w) w in
      rw (run_append (machine q) (half q w) (halves q n u) w)
      (fresh_run (machine q) (items_are_numbered q) w.made (halves q n u) u (quiet_halves n u)
      (made_run (machine q) (items_are_numbered q) (half q w) w, fresh_half w)).1

  calm_round : (w : World) → Calm (machine q) (a_round q w) w
  calm_round w = record {
    silent = quiet_halves 4 w;
    long = omega (arith, waits_halves 4 w);
    short = omega (arith, waits_halves 4 w);
    flushed = fresh_halves 3 w;
    crossed = λ x t i e on. (x, i, refl, crossed_halves 4 w x i);
  }

  -- the rounds of the command, one by one
  pub calm_rounds : (n : ℕ) (w : World) → Rounds (machine q) (rounds_of q n w) w
  calm_rounds zero w = tt
  calm_rounds (suc n) w = (calm_round w, calm_rounds n (run (machine q) (a_round q w) w))

  pub all_rounds : (n : ℕ) (w : World) → rounds q n w ≡ all_of (rounds_of q n w)
  all_rounds zero w = refl
  all_rounds (suc n) w = ap (λ (ss : List Step). a_round q w ++ ss) (all_rounds n (run (machine q) (a_round q w) w))

  counted : (n : ℕ) (w : World) → length (rounds_of q n w) ≡ n
  counted zero w = refl
  counted (suc n) w = ap suc (counted n (run (machine q) (a_round q w) w))

  pub rounds_is_calm : (n : ℕ) (w : World) → RoundsIsCalm q n w
  rounds_is_calm n w = record { steps = all_rounds n w; number = counted n w; calm = calm_rounds n w }
