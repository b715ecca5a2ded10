-- A left-over fact keeps a node within bounds.
use Rattle.std.specs.Prelude.{◌≡◌, ℕ, ◌*◌, ◌≤◌, nat_le, Bool, true, false, is_some, not, Option, Some, None, refl}
use Rattle.std.proofs.Common.{sym, subst, ⊎_elim}
use Rattle.std.proofs.lemmas.Bool.{leb-true}
use Rattle.admission_book.specs.declared.refused.Refused.{Refused}
use Rattle.rsvp_base.specs.declared.session.Session.{Session}
use Rattle.rsvp_base.specs.declared.style.StyleKind.{StyleKind}
use Rattle.rsvp_base.specs.Orders.{senders}
use Rattle.rsvp_base.specs.SessionLimits.{has_room_at}
use Rattle.rsvp_base.specs.Table.{get, put_in, size}
use Rattle.rsvp_base.proofs.SessionRoom.{put_room}
use Rattle.rsvp_base.proofs.Tables.{got_put_in}
use Rattle.style_rules.specs.Lines.{LineKey}
use Rattle.router_rules.specs.declared.answers.StaleErr.{StaleErr}
use Rattle.router_rules.specs.Books.{book, fits, refused}
use Rattle.router_rules.specs.Bounds.{AreAlive, AreBooked, AreShaped, AreWithinLimits, IsPathShaped, IsWallShaped, IsWithinBounds, LivesUpTo}
use Rattle.router_rules.specs.Calls.{act_stale, entry_of, needs, stale_refusal, unless, with_left}
use Rattle.router_rules.specs.Facts.{Blockade, Facts, PathState, ResvState, SenderKey, resvs_of, sender_keys, with_resvs}
use Rattle.style_rules.specs.Targets.{WallKey, wall_keys}
use Rattle.router_rules.specs.Forgetting.{forget}
use Rattle.router_rules.specs.Inputs.{Stale, StalePath, StaleResv, StaleWall}
use Rattle.router_rules.specs.NodeConfig.{NodeConfig, lifetime, period, wall_lifetime}
use Rattle.router_rules.specs.Rule.{settled}
use Rattle.router_rules.proofs.Fronting.{fronts_are_the_rule}
use Rattle.router_rules.specs.Steps.{IsFitStale}
use Rattle.laws_bounds.specs.BoundLaws.{LeftOverFactsAreWithinBounds}
use Rattle.laws_bounds.proofs.Keeping.{due_settled}
use Rattle.laws_bounds.proofs.Reserving.{AreResvsWithin, forgotten_within, of_bounds, placed_within, replaced_within, same_resvs}

-- ---- what is not refused
met : {E : Type 0} (test : Bool) (e : E) (later : Option E) → needs test e later ≡ None → (test ≡ true) × (later ≡ None)
met true e later open_to = (refl, open_to)
met false e later open_to = absurd (cc)

not_refused : (v : Option Refused) → not (is_some v) ≡ true → v ≡ None
not_refused None open_to = refl
not_refused (Some why) open_to = absurd (cc)

-- a fact that is refused changes nothing
by_refusal : (P : Facts → Type 0) (why : Option StaleErr) (new old : Facts) → (why ≡ None → P new) → P old → P (unless why new old)
by_refusal P None new old taken left = taken refl
by_refusal P (Some e) new old taken left = left

-- ---- within bounds but for countdowns, which live and may not have settled yet
record IsUnsettled (p : NodeConfig) (c : ℕ) (f : Facts) : Type 0 where
  alive : AreAlive p c f
  due : (s : Session) (t : ℕ) → get f.due s ≡ Some t → LivesUpTo c (6 * p.quarter) t
  shapes : AreShaped p f
  limits : AreWithinLimits f
  booked : AreBooked p f

unsettled : (p : NodeConfig) (c : ℕ) (f : Facts) → IsWithinBounds p c f → IsUnsettled p c f
unsettled p c f w = record { alive = w.alive; due = w.due.moment; shapes = w.shapes; limits = w.limits; booked = w.booked }

settled_within : (p : NodeConfig) (c : ℕ) (f g : Facts) → 1 ≤ p.quarter → IsUnsettled p c g → IsWithinBounds p c (settled p c f g)
settled_within p c f g some w =
    let there : AreResvsWithin p c g = record { lives = w.alive.resvs; shapes = w.shapes.resvs; limits = w.limits.resvs; booked = w.booked } in
    let resvs = same_resvs p c (forget f g) (settled p c f g) refl (forgotten_within p c f g there) in
    let due = due_settled p c (forget f g) some w.due in
    record {
      alive = record { paths = w.alive.paths; resvs = resvs.lives; walls = w.alive.walls };
      due = record { counted = λ s. due.counted s; moment = λ s t e. due.moment s t e };
      shapes = record { senders = w.shapes.senders; paths = w.shapes.paths; resvs = resvs.shapes; wants = w.shapes.wants; walls = w.shapes.walls; one_style = w.shapes.one_style };
      limits = record { senders = w.limits.senders; wants = w.limits.wants; paths = w.limits.paths; resvs = resvs.limits; walls = w.limits.walls };
      booked = resvs.booked;
    }

-- ---- each of them, where it is not refused
module _ (p : NodeConfig) (c : ℕ) (f : Facts) (w : IsWithinBounds p c f) where
  path_left : (k : SenderKey) (x : PathState) → IsFitStale p c (StalePath k x) → stale_refusal p (StalePath k x) f ≡ None → IsUnsettled p c (with_left (StalePath k x) f)
  path_left k x fit open_to =
      record {
        alive =
            record {
              paths = λ q y e.
                  ⊎_elim (λ (new : (q ≡ k) × (y ≡ x)). subst (λ (z : PathState). LivesUpTo c (lifetime p (period p)) z.dies) (sym new.1) fit.0)
                  (λ (old : get f.paths q ≡ Some y). w.alive.paths q y old)
                  (got_put_in sender_keys f.paths k x q y e);
              resvs = w.alive.resvs;
              walls = w.alive.walls;
            };
        due = w.due.moment;
        shapes =
            record {
              senders = w.shapes.senders;
              paths = λ q y e.
                  ⊎_elim (λ (new : (q ≡ k) × (y ≡ x)). subst (IsPathShaped p) (sym new.1) fit.1) (λ (old : get f.paths q ≡ Some y). w.shapes.paths q y old) (got_put_in sender_keys f.paths k x q y e);
              resvs = w.shapes.resvs;
              wants = w.shapes.wants;
              walls = w.shapes.walls;
              one_style = w.shapes.one_style;
            };
        limits =
            record {
              senders = w.limits.senders;
              wants = w.limits.wants;
              paths = (put_room senders f.paths k x w.limits.paths).0 (met (has_room_at senders (put_in f.paths k x) k.0) _ _ open_to).0;
              resvs = w.limits.resvs;
              walls = w.limits.walls;
            };
        booked = record { capacity = w.booked.capacity; mtu = w.booked.mtu };
      }

  resv_left : (st : StyleKind) (k : LineKey) (r : ResvState) → IsFitStale p c (StaleResv st k r) → stale_refusal p (StaleResv st k r) f ≡ None → IsUnsettled p c (with_left (StaleResv st k r) f)
  resv_left st k r fit open_to =
      let tests = met (fits st (put_in (resvs_of st f) k r)) _ _ open_to in
      let free = not_refused (refused p k.1.0.0 (entry_of st k) (book (with_resvs st (put_in (resvs_of st f) k r) f) k.1.0.0)) (met _ _ _ tests.1).0 in
      let resvs = placed_within p c st k r f (resvs_of st f) fit.0 fit.1 tests.0 free (replaced_within p c st f (of_bounds p c f w)) in
      record {
        alive = record { paths = w.alive.paths; resvs = resvs.lives; walls = w.alive.walls };
        due = w.due.moment;
        shapes = record { senders = w.shapes.senders; paths = w.shapes.paths; resvs = resvs.shapes; wants = w.shapes.wants; walls = w.shapes.walls; one_style = w.shapes.one_style };
        limits = record { senders = w.limits.senders; wants = w.limits.wants; paths = w.limits.paths; resvs = resvs.limits; walls = w.limits.walls };
        booked = record { capacity = resvs.booked.capacity; mtu = resvs.booked.mtu };
      }

  wall_left : (k : WallKey) (b : Blockade) → IsFitStale p c (StaleWall k b) → stale_refusal p (StaleWall k b) f ≡ None → IsUnsettled p c (with_left (StaleWall k b) f)
  wall_left k b fit open_to =
      record {
        alive =
            record {
              paths = w.alive.paths;
              resvs = w.alive.resvs;
              walls = λ q y e.
                  ⊎_elim (λ (new : (q ≡ k) × (y ≡ b)). subst (λ (z : Blockade). LivesUpTo c (wall_lifetime p) z.dies) (sym new.1) fit.0) (λ (old : get f.walls q ≡ Some y). w.alive.walls q y old)
                  (got_put_in wall_keys f.walls k b q y e);
            };
        due = w.due.moment;
        shapes =
            record {
              senders = w.shapes.senders;
              paths = w.shapes.paths;
              resvs = w.shapes.resvs;
              wants = w.shapes.wants;
              walls = λ q y e.
                  ⊎_elim
                  (λ (new : (q ≡ k) × (y ≡ b)). subst (λ (z : WallKey × Blockade). IsWallShaped p z.0 z.1) (λ j. (sym new.0 j, sym new.1 j)) fit.1)
                  (λ (old : get f.walls q ≡ Some y). w.shapes.walls q y old)
                  (got_put_in wall_keys f.walls k b q y e);
              one_style = w.shapes.one_style;
            };
        limits =
            record {
              senders = w.limits.senders;
              wants = w.limits.wants;
              paths = w.limits.paths;
              resvs = w.limits.resvs;
              walls = leb-true (size (put_in f.walls k b)) 512 (met (nat_le (size (put_in f.walls k b)) 512) _ _ open_to).0;
            };
        booked = record { capacity = w.booked.capacity; mtu = w.booked.mtu };
      }

  left : (i : Stale) → IsFitStale p c i → stale_refusal p i f ≡ None → IsUnsettled p c (with_left i f)
  left (StalePath k x) fit open_to = path_left k x fit open_to
  left (StaleResv st k r) fit open_to = resv_left st k r fit open_to
  left (StaleWall k b) fit open_to = wall_left k b fit open_to

pub left_over_facts_are_within_bounds : LeftOverFactsAreWithinBounds
left_over_facts_are_within_bounds p c i f some fit w =
    subst (IsWithinBounds p c) (sym (fronts_are_the_rule.left p c i f))
    (settled_within p c f (act_stale p i f) some (by_refusal (IsUnsettled p c) (stale_refusal p i f) (with_left i f) f (left p c f w i fit) (unsettled p c f w)))
