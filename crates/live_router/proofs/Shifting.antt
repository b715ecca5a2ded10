-- Bounds at one clock are bounds at each: the moments of facts move with the clock, and nothing else of them.
use Rattle.std.specs.Prelude.{◌≡◌, ℕ, ◌+◌, ◌*◌, ◌≤◌, ◌++◌, map as each, length, List, [], ◌∷◌, Option, Some, suc, refl}
use Rattle.std.proofs.Common.{sym, ap, subst, ◌∙◌, arith}
use Rattle.std.proofs.lemmas.Option.{same_Some}
use Rattle.rsvp_base.specs.declared.session.Session.{Session}
use Rattle.rsvp_base.specs.declared.style.StyleKind.{StyleKind}
use Rattle.rsvp_base.specs.declared.style.StyleKind.TheVariants.{Wild, Fixed, Shared}
use Rattle.rsvp_base.specs.Keys.{Keys}
use Rattle.rsvp_base.specs.Orders.{sessions, senders}
use Rattle.rsvp_base.specs.Sets.{set_of}
use Rattle.rsvp_base.specs.Table.{Table, changed, changed_rows, get, has, keys, size}
use Rattle.rsvp_base.proofs.Tables.{get-changed, got_changed, then_do}
use Rattle.path_state.specs.Paths.{path_keys}
use Rattle.path_state.specs.declared.fact.PathFact.{PathFact}
use Rattle.resv_state.specs.Resvs.{ResvFacts}
use Rattle.resv_state.specs.declared.fact.ResvFact.{ResvFact}
use Rattle.style_rules.specs.Limits.{IsWithinLimits}
use Rattle.style_rules.specs.Lines.{LineKey, book_of_end, held, line_keys}
use Rattle.style_rules.specs.Targets.{WallKey, wall_keys}
use Rattle.style_rules.specs.declared.wall.Wall.{Wall}
use Rattle.router_rules.specs.Books.{book, line_of, lines, lines_of}
use Rattle.router_rules.specs.Bounds.{AreAlive, AreBooked, AreDue, AreShaped, AreWithinLimits, IsPathShaped, IsShaped, IsWallShaped, IsWithinBounds, LivesUpTo}
use Rattle.router_rules.specs.Facts.{Blockade, PathState, ResvState, SenderKey, resvs_of}
use Rattle.router_rules.specs.Forgetting.{counted}
use Rattle.router_rules.specs.NodeConfig.{NodeConfig, lifetime, period, wall_lifetime}
use Rattle.router_state.specs.State.{State, facts_of, resv_at}
use Rattle.router_state.proofs.Room.{within_same}
use Rattle.router_state.proofs.Settling.{has_changed}
use Rattle.live_router.specs.Bounded.{IsBounded}

-- ---- one table at two clocks
module _ {K X Y : Type 0} (o : Keys K) (make : ℕ → K → X → Y) where
  abbrev at : ℕ → K → X → Option Y
  at c k e = Some (make c k e)

  -- what stands under a key at one clock stands there at another
  pub stood : (m : Table o X) (b c : ℕ) (k : K) (y : Y) → get (changed (at c) m) k ≡ Some y → (e : X) × (make c k e ≡ y) × (get (changed (at b) m) k ≡ Some (make b k e))
  stood m b c k y h =
      let g = got_changed o (at c) m k y h in
      (g.0, same_Some _ y g.2, get-changed o (at b) m k ∙ ap (λ w. then_do w (at b k)) g.1)

  pub same_has : (m : Table o X) (b c : ℕ) (k : K) → has (changed (at b) m) k ≡ has (changed (at c) m) k
  same_has m b c k = has_changed o (at b) (λ q e. refl) m k ∙ sym (has_changed o (at c) (λ q e. refl) m k)

  same_length : (rows : List (K × X)) (b c : ℕ) → length (changed_rows (at b) rows) ≡ length (changed_rows (at c) rows)
  same_length [] b c = refl
  same_length (e ∷ es) b c = ap (λ n. suc n) (same_length es b c)

  pub same_size : (m : Table o X) (b c : ℕ) → size (changed (at b) m) ≡ size (changed (at c) m)
  same_size m b c = same_length m.rows b c

  key_rows : (rows : List (K × X)) (b c : ℕ) → each (λ e. e.0) (changed_rows (at b) rows) ≡ each (λ e. e.0) (changed_rows (at c) rows)
  key_rows [] b c = refl
  key_rows (e ∷ es) b c = ap (λ ks. e.0 ∷ ks) (key_rows es b c)

  pub same_keys : (m : Table o X) (b c : ℕ) → keys (changed (at b) m) ≡ keys (changed (at c) m)
  same_keys m b c = key_rows m.rows b c

-- ---- what facts are at a clock
abbrev path_made : ℕ → SenderKey → PathFact × ℕ → PathState
path_made c k e = record { iface = e.0.iface; hop = e.0.hop; tspec = e.0.tspec; police = e.0.police; adspec = e.0.adspec; dies = c + e.1 }

abbrev resv_made : ℕ → LineKey → ResvFact × ℕ → ResvState
resv_made c k e = record { part = e.0.part; confirm = e.0.confirm; dies = c + e.1 }

abbrev wall_made : ℕ → WallKey → Wall × ℕ → Blockade
wall_made c k e = record { wall = e.0; dies = c + e.1 }

abbrev due_made : ℕ → Session → ℕ → ℕ
due_made c s left = c + left

-- ---- the lines of reservations do not move
line_rows : (st : StyleKind) (rows : List (LineKey × (ResvFact × ℕ))) (b c : ℕ) → each (line_of st) (changed_rows (resv_at b) rows) ≡ each (line_of st) (changed_rows (resv_at c) rows)
line_rows st [] b c = refl
line_rows st (e ∷ es) b c = ap (λ ls. line_of st (e.0, resv_made 0 e.0 e.1) ∷ ls) (line_rows st es b c)

same_lines : (st : StyleKind) (m : ResvFacts) (b c : ℕ) → lines_of st (changed (resv_at b) m) ≡ lines_of st (changed (resv_at c) m)
same_lines st m b c = line_rows st m.rows b c

module _ (n : State) (b c : ℕ) where
  resv_lines : (st : StyleKind) → lines_of st (resvs_of st (facts_of b n)) ≡ lines_of st (resvs_of st (facts_of c n))
  resv_lines Wild = same_lines Wild n.wild b c
  resv_lines Fixed = same_lines Fixed n.fixed b c
  resv_lines Shared = same_lines Shared n.shared b c

  all_lines : lines (facts_of b n) ≡ lines (facts_of c n)
  all_lines = λ i. resv_lines Wild i ++ (resv_lines Fixed i ++ resv_lines Shared i)

  pub same_book : (i : ℕ) → book (facts_of b n) i ≡ book (facts_of c n) i
  same_book i = ap (book_of_end i) all_lines

  same_counted : counted (facts_of b n) ≡ counted (facts_of c n)
  same_counted = ap (λ (ks : List SenderKey). set_of {o = sessions} (each (λ (k : SenderKey). k.0) (keys n.senders) ++ each (λ (k : SenderKey). k.0) ks)) (same_keys path_keys path_made n.paths b c)

  -- a reservation at one clock stands at the other
  resv_stood : (st : StyleKind) (k : LineKey) (r : ResvState) → get (resvs_of st (facts_of c n)) k ≡ Some r
      → (e : ResvFact × ℕ) × (resv_made c k e ≡ r) × (get (resvs_of st (facts_of b n)) k ≡ Some (resv_made b k e))
  resv_stood Wild k r h = stood line_keys resv_made n.wild b c k r h
  resv_stood Fixed k r h = stood line_keys resv_made n.fixed b c k r h
  resv_stood Shared k r h = stood line_keys resv_made n.shared b c k r h

-- ---- bounds
module _ (p : NodeConfig) (n : State) (b c : ℕ) (w : IsWithinBounds p b (facts_of b n)) where
  lives : (life left dies : ℕ) → c + left ≡ dies → LivesUpTo b life (b + left) → LivesUpTo c life dies
  lives life left dies is l = let later = l.later in let soon = l.soon in record { later = omega (arith, is, later); soon = omega (arith, is, soon) }

  alive : AreAlive p c (facts_of c n)
  alive =
      record {
        paths = λ k x h. let s = stood path_keys path_made n.paths b c k x h in lives (lifetime p (period p)) s.0.1 x.dies (ap (λ (z : PathState). z.dies) s.1)
            (w.alive.paths k (path_made b k s.0) s.2);
        resvs = λ st k r h. let s = resv_stood n b c st k r h in lives (lifetime p (period p)) s.0.1 r.dies (ap (λ (z : ResvState). z.dies) s.1) (w.alive.resvs st k (resv_made b k s.0) s.2);
        walls = λ k x h. let s = stood wall_keys wall_made n.walls b c k x h in lives (wall_lifetime p) s.0.1 x.dies (ap (λ (z : Blockade). z.dies) s.1) (w.alive.walls k (wall_made b k s.0) s.2);
      }

  due : AreDue p c (facts_of c n)
  due =
      record {
        counted = λ s. same_has sessions due_made n.due c b s ∙ w.due.counted s ∙ ap (λ z. has z s) (same_counted n b c);
        moment = λ s t h. let g = stood sessions due_made n.due b c s t h in lives (6 * p.quarter) g.0 t g.1 (w.due.moment s (b + g.0) g.2);
      }

  shapes : AreShaped p (facts_of c n)
  shapes =
      record {
        senders = w.shapes.senders;
        paths = λ k x h.
            let s = stood path_keys path_made n.paths b c k x h in
            let is = w.shapes.paths k (path_made b k s.0) s.2 in
            subst (IsPathShaped p) s.1 (record { iface = is.iface; tspec = is.tspec; adspec = is.adspec });
        resvs = λ st k r h.
            let s = resv_stood n b c st k r h in
            let is = w.shapes.resvs st k (resv_made b k s.0) s.2 in
            subst (IsShaped p st k) s.1 (record { iface = is.iface; style = is.style; unit = is.unit; names = is.names; flow = is.flow });
        wants = w.shapes.wants;
        walls = λ k x h.
            let s = stood wall_keys wall_made n.walls b c k x h in
            let is = w.shapes.walls k (wall_made b k s.0) s.2 in
            subst (IsWallShaped p k) s.1 (record { iface = is.iface; flow = is.flow });
        one_style = w.shapes.one_style;
      }

  limits : AreWithinLimits (facts_of c n)
  limits =
      record {
        senders = w.limits.senders;
        wants = w.limits.wants;
        paths = within_same senders (facts_of b n).paths (facts_of c n).paths (λ k. same_has path_keys path_made n.paths b c k) w.limits.paths;
        resvs = λ st. subst (IsWithinLimits st) (resv_lines n b c st) (w.limits.resvs st);
        walls = let same = same_size wall_keys wall_made n.walls b c in let few = w.limits.walls in omega (arith, same, few);
      }

  booked : AreBooked p (facts_of c n)
  booked =
      record {
        capacity = λ i on e. let same = ap held (same_book n b c i) in let some = w.booked.capacity i on e in omega (arith, same, some);
        mtu = λ i on k part e g. w.booked.mtu i on k part e (ap (λ z. get z k) (same_book n b c i) ∙ g);
      }

  pub at_each_clock : IsWithinBounds p c (facts_of c n)
  at_each_clock = record { alive = alive; due = due; shapes = shapes; limits = limits; booked = booked }

-- a node that is within bounds at one clock is at each
pub bounded_at : (n : State) (b : ℕ) → 1 ≤ n.place.quarter → IsWithinBounds n.place b (facts_of b n) → IsBounded n
bounded_at n b some w = record { some = some; within = λ c. at_each_clock n.place n b c w }
