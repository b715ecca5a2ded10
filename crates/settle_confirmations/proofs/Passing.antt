-- A request is answered: by passes, one hop each, up and down again.
use Rattle.std.proofs.Common.{◌≡◌, ℕ, suc, ◌+◌, ◌*◌, ◌<◌, ◌≤◌, [], length, Some, ◌⊎◌, inl, inr, ⊎_elim, arith, sym, ap, subst, ◌∙◌}
use Rattle.std.specs.Prelude.{slice_get}
use Rattle.rsvp_base.specs.declared.session.Sender.{Sender}
use Rattle.rsvp_base.specs.declared.session.Session.{Session}
use Rattle.rsvp_base.specs.declared.style.StyleKind.{StyleKind}
use Rattle.rsvp_base.specs.Members.{In}
use Rattle.rsvp_base.specs.TokenBucket.{TokenBucket}
use Rattle.rsvp_messages.specs.Proper.{IsProperAsk}
use Rattle.rsvp_messages.specs.Units.{ask_style}
use Rattle.calm_rounds.specs.Machine.{Happens}
use Rattle.router_rules.specs.Inputs.{Arrival}
use Rattle.tree_model.specs.Ranks.{longest, rank}
use Rattle.tree_model.specs.Trees.{tree}
use Rattle.tree_model.proofs.Following.{tree_group}
use Rattle.tree_model.proofs.RankLaws.{rank_falls}
use Rattle.network_model.specs.Bounds.{IsProperArrival}
use Rattle.network_model.specs.Events.{passes}
use Rattle.network_model.specs.Steps.{Deliver, Step, machine, step}
use Rattle.network_model.specs.Worlds.{Item, World}
use Rattle.settle_paths.proofs.PreviousHops.{ends_there, same_by_addr}
use Rattle.settle_passes.specs.Reserving.{IsReserving}
use Rattle.settle_confirmations.specs.Requests.{IsAnswered, IsForAtLeast, IsOnlySender, IsRequest, arrival_units}
use Rattle.settle_confirmations.proofs.Answering.{GoesOnThere, IsAnsweredThere, up_moves}
use Rattle.settle_confirmations.proofs.Moving.{IsAsking, IsDown, IsUp, down_next, in_tree, up_next}
use Rattle.settle_confirmations.proofs.Returning.{GoesDown, asking_next, down_moves}
use Rattle.settle_confirmations.proofs.Taken.{some_unit}
use Rattle.settle_confirmations.proofs.Waiting.{happens_in, happens_so}

-- an answer, in a world of which something holds that deliveries keep
module _ (q : ℕ) (s : Session) (st : StyleKind) (x : Sender) (flow : TokenBucket) (e : ℕ) (Holds : World → Type 0)
    (keeps : (u : World) → IsAsking q s st x e u → Holds u → Holds (step q (Deliver 0) u)) where
  abbrev pub Answers : Step → World → Type 0
  Answers t u = IsAnswered s st x flow e t u × Holds u

  -- an item that is on its way, with so many passes to come at most
  abbrev IsUnder : ℕ → World → Item → Type 0
  IsUnder k w y =
      ((v : IsUp w s st x e y) × (2 * longest w.net + 1 ≤ k + rank w.net s.group v.hop)) ⊎ ((d : IsDown w s st x e y) × (rank w.net s.group d.hop ≤ k))

  abbrev IsOnItsWay : ℕ → World → Type 0
  IsOnItsWay k w = (y : Item) × In y w.flight × IsUnder k w y × IsForAtLeast flow y

  pub ranks_up : (w : World) → IsAsking q s st x e w → (y : Item) (v : IsUp w s st x e y) → (1 ≤ rank w.net s.group v.hop) × (rank w.net s.group v.hop ≤ longest w.net)
  ranks_up w a y v = (rank_falls w.net a.reserving.paths.bounds.net.loop_free).hops s.group v.hop (tree_group w.net.hops s.group x.addr v.hop v.there)

  pub ranks_down : (w : World) → IsAsking q s st x e w → (y : Item) (d : IsDown w s st x e y) → (1 ≤ rank w.net s.group d.hop) × (rank w.net s.group d.hop ≤ longest w.net)
  ranks_down w a y d = (rank_falls w.net a.reserving.paths.bounds.net.loop_free).hops s.group d.hop (tree_group w.net.hops s.group x.addr d.hop d.there)

  -- one pass at least
  not_over : (w : World) → IsAsking q s st x e w → (y : Item) → IsUnder 0 w y → ⊥
  not_over w a y k =
      ⊎_elim (λ (v : (v : IsUp w s st x e y) × (2 * longest w.net + 1 ≤ 0 + rank w.net s.group v.hop)). let most = (ranks_up w a y v.0).1 in let le = v.1 in omega (arith, most, le))
      (λ (d : (d : IsDown w s st x e y) × (rank w.net s.group d.hop ≤ 0)). let some = (ranks_down w a y d.0).0 in let le = d.1 in omega (arith, some, le)) k

  module _ (u : World) (a : IsAsking q s st x e u) (holds : Holds u) where
    abbrev next : World
    next = step q (Deliver 0) u

    stays_under : (k : ℕ) (y : Item) → IsUnder k u y → IsUnder k next y
    stays_under k y z =
        ⊎_elim (λ (v : (v : IsUp u s st x e y) × (2 * longest u.net + 1 ≤ k + rank u.net s.group v.hop)). inl (up_next q s st x e u a y v.0, v.1))
        (λ (d : (d : IsDown u s st x e y) × (rank u.net s.group d.hop ≤ k)). inr (down_next q s st x e u a y d.0, d.1)) z

    -- what is delivered is the answer, or makes something that has a pass less to come
    moves : (k : ℕ) (y : Item) → slice_get u.flight 0 ≡ Some y → IsUnder (suc k) u y → IsForAtLeast flow y → Answers (Deliver 0) u ⊎ IsOnItsWay k next
    moves k y arr z least =
        ⊎_elim
        (λ (v : (v : IsUp u s st x e y) × (2 * longest u.net + 1 ≤ suc k + rank u.net s.group v.hop)).
        let most = (ranks_up u a y v.0).1 in
        let le = v.1 in
        ⊎_elim
        (λ (t : IsAnsweredThere q s st x e u a y arr v.0).
        let same : rank u.net s.group t.down.hop ≡ rank u.net s.group v.0.hop = ap (rank u.net s.group) t.hop in
        inr (t.item, t.flight, inr (t.down, omega (arith, most, le, same)), t.least flow least))
        (λ (t : GoesOnThere q s st x e u a y arr v.0).
        let higher = t.onward.before.lower in
        inr (t.item, t.flight, inl (t.onward.up, omega (arith, le, higher)), t.onward.least flow least))
        (up_moves q s st x e u a y arr v.0))
        (λ (d : (d : IsDown u s st x e y) × (rank u.net s.group d.hop ≤ suc k)).
        let le = d.1 in
        ⊎_elim (λ (t : IsAnswered s st x flow e (Deliver 0) u). inl (t, holds))
        (λ (t : GoesDown q s st x e u a y d.0).
        let low = t.lower in
        inr (t.item, t.flight, inr (t.down, omega (arith, le, low)), λ b i. least b (subst (λ (w : Arrival). In b (arrival_units w)) (sym t.same) i)))
        (down_moves q s st x e u a flow y arr d.0 least)) z

  less : (k : ℕ) (w : World) (y : Item) → IsUnder k w y → IsUnder (suc k) w y
  less k w y z =
      ⊎_elim (λ (v : (v : IsUp w s st x e y) × (2 * longest w.net + 1 ≤ k + rank w.net s.group v.hop)). let le = v.1 in inl (v.0, omega (arith, le)))
      (λ (d : (d : IsDown w s st x e y) × (rank w.net s.group d.hop ≤ k)). let le = d.1 in inr (d.0, omega (arith, le))) z

  pub answered_in : (k : ℕ) (u : World) → IsAsking q s st x e u → Holds u → IsOnItsWay k u → Happens (machine q) Answers (passes q k u) u
  answered_in k u a h z =
      happens_in q Answers (λ w. IsAsking q s st x e w × Holds w) (λ w b. (asking_next q s st x e w b.0, keeps w b.0 b.1)) (λ k w y. IsUnder k w y × IsForAtLeast flow y)
      (λ w b y under. not_over w b.0 y under.0) (λ k w y under. (less k w y under.0, under.1)) (λ w b k y under. (stays_under w b.0 b.1 k y under.0, under.1))
      (λ w b k y arr under.
      ⊎_elim (λ (now : Answers (Deliver 0) w). inl now) (λ (later : IsOnItsWay k (step q (Deliver 0) w)). inr (later.0, later.1, (later.2, later.3))) (moves w b.0 b.1 k y arr under.0 under.1))
      k u (a, h) (z.0, z.1, (z.2, z.3))

-- ---- requests of an end, in a network that reserves
abbrev Anything : World → Type 0
Anything u = Unit {0}

module _ (q : ℕ) (s : Session) (st : StyleKind) (x : Sender) (e : ℕ) (w : World) (r : IsReserving q s w) (only : IsOnlySender w s x) (lt : e < length w.net.ends) where
  pub begins : (y : Item) → In y w.flight → IsRequest w s st e y → IsUp w s st x e y
  begins y i t =
      let proper : IsProperAsk t.resv.ask = subst IsProperArrival t.says (r.paths.bounds.flight y i).proper in
      let unit = some_unit t.resv.ask proper in
      let item = r.sound.items y t.resv unit.0 i t.says unit.1 in
      let sound = item.sound in
      let only_m : IsOnlySender w t.resv.session x = subst (λ (z : Session). IsOnlySender w z x) (sym t.session) only in
      let there : In sound.hop (tree w.net.hops t.resv.session.group x.addr) =
      in_tree w t.resv.session x only_m (ask_style t.resv.ask) y.end t.resv.hop.addr unit.0.unit (record { senders = item.names; flow = unit.0.flow }) sound in
      let inside = ends_there w.net r.paths.bounds.net t.resv.session.group sound.hop sound.there in
      record {
        resv = t.resv;
        says = t.says;
        session = t.session;
        style = t.style;
        wish = t.wish;
        hop = sound.hop;
        there = subst (λ (z : Session). In sound.hop (tree w.net.hops z.group x.addr)) t.session there;
        from = sound.from;
        to = sound.to;
        hops = [];
        leads = same_by_addr w.net r.paths.bounds.net sound.hop.to e inside.1 lt (sound.to ∙ t.hop);
      }

  pub all_asking : ((z : Item) → In z w.flight → IsRequest w s st e z) → IsAsking q s st x e w
  all_asking each = record { reserving = r; only = only; each = λ z j. inl (begins z j (each z j)) }

  pub requests_are_answered : (flow : TokenBucket) (y : Item) → In y w.flight → IsForAtLeast flow y → ((z : Item) → In z w.flight → IsRequest w s st e z)
      → Happens (machine q) (IsAnswered s st x flow e) (passes q (2 * longest w.net) w) w
  requests_are_answered flow y i least each =
      let a : IsAsking q s st x e w = all_asking each in
      let v = begins y i (each y i) in
      let some = (ranks_up q s st x flow e Anything (λ u b h. tt) w a y v).0 in
      happens_so q (Answers q s st x flow e Anything (λ u b h. tt)) (IsAnswered s st x flow e) (λ t u z. z.0) (passes q (2 * longest w.net) w) w
      (answered_in q s st x flow e Anything (λ u b h. tt) (2 * longest w.net) w a tt (y, i, inl (v, omega (arith, some)), least))
