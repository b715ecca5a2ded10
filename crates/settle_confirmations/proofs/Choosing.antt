-- A request of a fixed filter is answered for one of its senders: by passes, one hop each, up and down again.
use Rattle.std.proofs.Common.{◌≡◌, ℕ, suc, ◌+◌, ◌*◌, ◌<◌, ◌≤◌, List, [], ◌∷◌, length, true, false, Some, ◌⊎◌, inl, inr, ⊎_elim, arith, sym, refl, ap, subst, ◌∙◌}
use Rattle.std.specs.Prelude.{slice_get}
use Rattle.rsvp_base.specs.declared.session.Sender.{Sender}
use Rattle.rsvp_base.specs.declared.session.Session.{Session}
use Rattle.rsvp_base.specs.declared.style.StyleKind.TheVariants.{Fixed, Shared, Wild}
use Rattle.rsvp_base.specs.declared.style.Unit.TheVariants.{Of}
use Rattle.rsvp_base.specs.Members.{In}
use Rattle.rsvp_base.specs.Orders.{Names}
use Rattle.rsvp_base.specs.Table.{has, keys}
use Rattle.rsvp_base.specs.TokenBucket.{TokenBucket}
use Rattle.rsvp_base.proofs.Members.{any_in, in_each, to_each}
use Rattle.rsvp_base.proofs.Tables.{either}
use Rattle.rsvp_messages.specs.declared.ask.Ask.{Ask}
use Rattle.rsvp_messages.specs.declared.ask.Ask.TheVariants as ask
use Rattle.rsvp_messages.specs.Units.{AskedUnit, ask_style, asked_units, fixed_unit}
use Rattle.style_rules.specs.Lines.{LineKey}
use Rattle.calm_rounds.specs.Machine.{Happens}
use Rattle.router_rules.specs.Confirming.{speaks_of}
use Rattle.router_rules.specs.NodeConfig.{is_own}
use Rattle.tree_model.specs.declared.hops.LinkHop.{LinkHop}
use Rattle.tree_model.specs.Goals.{addr_of}
use Rattle.tree_model.specs.Networks.{iface_of, node_of}
use Rattle.tree_model.specs.Ranks.{longest, rank}
use Rattle.tree_model.specs.Trees.{tree}
use Rattle.tree_model.proofs.Following.{tree_group}
use Rattle.tree_model.proofs.RankLaws.{rank_falls}
use Rattle.tree_model.proofs.TreeLaws.{one}
use Rattle.network_model.specs.Events.{passes}
use Rattle.network_model.specs.Steps.{Deliver, machine, step}
use Rattle.network_model.specs.Worlds.{Item, World, config_of}
use Rattle.laws_network.proofs.Standing.{to_there}
use Rattle.settle_resvs.specs.SoftResvs.{resv_at}
use Rattle.settle_resvs.proofs.SoftResvs.{resv_found}
use Rattle.settle_confirmations.specs.Requests.{IsAnsweredForOne}
use Rattle.settle_confirmations.proofs.Leading.{IsDownFor, IsMarkedFor, IsRising, IsUpFor, LeadsFor}
use Rattle.settle_confirmations.proofs.Moving.{IsNext}
use Rattle.settle_confirmations.proofs.Onward.{GoesOnIn, IsAnsweredIn, led_on, leads_on, rising_next, up_moves_for, up_on}
use Rattle.settle_confirmations.proofs.Returning.{own_node, passed_down}
use Rattle.settle_confirmations.proofs.Saying.{fixed_name}
use Rattle.settle_confirmations.proofs.Waiting.{happens_in}

-- a ResvConf with a fixed filter speaks of each list that has a sender which it confirms
speaks_fixed : (k : Ask) (b : AskedUnit) (x : Sender) (ns : Names) → ask_style k ≡ Fixed → In b (asked_units k) → b.unit ≡ Of x → has ns x ≡ true → speaks_of k ns ≡ true
speaks_fixed (ask.Wild scope t) b x ns st i e h = let bad : Wild ≡ Fixed = st in absurd (cc)
speaks_fixed (ask.Shared p) b x ns st i e h = let bad : Shared ≡ Fixed = st in absurd (cc)
speaks_fixed (ask.Fixed list) b x ns st i e h =
    let r = in_each fixed_unit b list.rows i in
    let is : Of r.0.0 ≡ Of x = ap (λ (z : AskedUnit). z.unit) (sym r.2) ∙ e in
    let same : x ≡ r.0.0 = cc in
    any_in (has ns) r.0.0 (keys list) (to_each (λ (z : Sender × TokenBucket). z.0) r.0 list.rows r.1) (subst (λ (z : Sender). has ns z ≡ true) same h)

-- ---- the hop at which the marks end goes into the end that asked
record IsLastFor (u : World) (s : Session) (x : Sender) (e : ℕ) (h : LinkHop) : Type 0 where
  hop : LinkHop
  there : In hop (tree u.net.hops s.group x.addr)
  to : hop.to ≡ e
  lower : rank u.net s.group hop ≤ rank u.net s.group h

last_for : (u : World) (s : Session) (x : Sender) (e : ℕ) (hs : List LinkHop) (h : LinkHop) → In h (tree u.net.hops s.group x.addr) → LeadsFor u s x e hs h → IsLastFor u s x e h
last_for u s x e [] h there l = record { hop = h; there = there; to = l; lower = omega arith }
last_for u s x e (h' ∷ hs) h there l =
    let next_one : IsNext u.net s x h h' = l.0 in
    let z = last_for u s x e hs h' next_one.there l.2 in
    let low = next_one.lower in
    let low' = z.lower in
    record { hop = z.hop; there = z.there; to = z.to; lower = omega (arith, low, low') }

module _ (q : ℕ) (s : Session) (names : Names) (flow : TokenBucket) (e : ℕ) where
  -- ---- an answer that arrives: it has come to the end, or goes on
  record GoesDownFor (u : World) (y : Item) (d : IsDownFor u s names flow e y) : Type 0 where
    item : Item
    flight : In item (step q (Deliver 0) u).flight
    down : IsDownFor (step q (Deliver 0) u) s names flow e item
    lower : rank u.net s.group down.hop < rank u.net s.group d.hop

  down_moves_for : (u : World) → IsRising q s names flow e u → (y : Item) → slice_get u.flight 0 ≡ Some y → (d : IsDownFor u s names flow e y)
      → IsAnsweredForOne s names flow e (Deliver 0) u ⊎ GoesDownFor u y d
  down_moves_for u a y arr d = by d.led.hops d.led.leads
    where
      by : (hs : List LinkHop) → LeadsFor u s d.sender e hs d.hop → IsAnsweredForOne s names flow e (Deliver 0) u ⊎ GoesDownFor u y d
      by [] l =
          inl (record {
            item = y;
            conf = d.conf;
            arrives = arr;
            says = d.says;
            end = d.end ∙ l;
            dst = d.dst ∙ ap (addr_of u.net) l;
            session = d.session;
            style = d.style;
            confirm = d.confirm;
            sender = d.sender;
            among = d.led.among;
            unit = d.unit;
            confirms = d.confirms;
            of = d.is;
            covers = d.led.covers;
          })
      by (h' ∷ hs) l =
          let bounds = a.reserving.paths.bounds in
          let next_one : IsNext u.net s d.sender d.hop h' = l.0 in
          let mark : IsMarkedFor u s d.sender (addr_of u.net e) h' = l.1 in
          -- it is for another node: else the tree would come to this one twice
          let last = last_for u s d.sender e hs h' next_one.there l.2 in
          let e_there = to_there u.net bounds.net s.group d.sender.addr last.hop last.there in
          let e_lt : e < length u.net.ends = subst (λ (z : ℕ). z < length u.net.ends) last.to e_there in
          let not_own : is_own (config_of q u.net u.trees (node_of u.net.ends y.end)) d.conf.confirm ≡ false =
          either (is_own (config_of q u.net u.trees (node_of u.net.ends y.end)) d.conf.confirm)
          (λ yes.
          let node : node_of u.net.ends e ≡ node_of u.net.ends y.end =
          own_node q u.net u.trees (node_of u.net.ends y.end) e bounds.net e_lt (ap (is_own (config_of q u.net u.trees (node_of u.net.ends y.end))) (sym d.confirm) ∙ yes) in
          let same : last.hop ≡ d.hop =
          one u.net bounds.net s.group d.sender.addr last.hop d.hop last.there d.led.there (ap (node_of u.net.ends) last.to ∙ node ∙ ap (node_of u.net.ends) d.end) in
          let ranks : rank u.net s.group last.hop ≡ rank u.net s.group d.hop = ap (rank u.net s.group) same in
          let low = last.lower in
          let low' = next_one.lower in
          absurd (omega (arith, low, low', ranks)))
          (λ no. no) in
          -- the mark to which it goes on
          let key : LineKey = (s, ((iface_of u.net.ends h'.from, addr_of u.net h'.to), Of d.sender)) in
          let kept = resv_found u (node_of u.net.ends h'.from) Fixed key mark.resv mark.there in
          let shape = (bounds.facts (node_of u.net.ends h'.from) kept.0 kept.1).shapes.resvs Fixed key mark.resv kept.2 in
          let on = passed_down q s u a.reserving y arr (d.conf, d.says) d.hop h' d.sender.addr d.end d.dst next_one.there next_one.meet not_own (Of d.sender) mark.resv
          ((λ j. resv_at u (node_of u.net.ends h'.from) (d.style j) (d.session j, ((iface_of u.net.ends h'.from, addr_of u.net h'.to), Of d.sender))) ∙ mark.there)
          (mark.wish ∙ ap Some (sym d.confirm))
          (speaks_fixed d.conf.ask d.unit d.sender mark.resv.part.senders d.style d.confirms d.is (fixed_name mark.resv.part d.sender shape.style (sym shape.unit))) in
          inr (record {
            item = on.item;
            flight = on.flight;
            down = record {
              conf = d.conf;
              says = sym on.same ∙ d.says;
              session = d.session;
              style = d.style;
              confirm = d.confirm;
              sender = d.sender;
              unit = d.unit;
              confirms = d.confirms;
              is = d.is;
              hop = h';
              end = on.end;
              dst = on.dst;
              led = record { among = d.led.among; there = next_one.there; covers = d.led.covers; hops = hs; leads = leads_on q s names flow e u a d.sender hs h' l.2 };
            };
            lower = next_one.lower;
          })

  -- ---- an item that is on its way, with so many passes to come at most
  abbrev IsUnder : ℕ → World → Item → Type 0
  IsUnder k w y =
      ((v : IsUpFor w s names flow e y) × (2 * longest w.net + 1 ≤ k + rank w.net s.group v.hop)) ⊎ ((d : IsDownFor w s names flow e y) × (rank w.net s.group d.hop ≤ k))

  ranks : (w : World) → IsRising q s names flow e w → (x : Sender) (h : LinkHop) → In h (tree w.net.hops s.group x.addr) → (1 ≤ rank w.net s.group h) × (rank w.net s.group h ≤ longest w.net)
  ranks w a x h there = (rank_falls w.net a.reserving.paths.bounds.net.loop_free).hops s.group h (tree_group w.net.hops s.group x.addr h there)

  -- one pass at least
  not_over : (w : World) → IsRising q s names flow e w → (y : Item) → IsUnder 0 w y → ⊥
  not_over w a y k =
      ⊎_elim
      (λ (v : (v : IsUpFor w s names flow e y) × (2 * longest w.net + 1 ≤ 0 + rank w.net s.group v.hop)).
      let most = (ranks w a v.0.sender v.0.hop v.0.led.there).1 in let le = v.1 in omega (arith, most, le))
      (λ (d : (d : IsDownFor w s names flow e y) × (rank w.net s.group d.hop ≤ 0)). let some = (ranks w a d.0.sender d.0.hop d.0.led.there).0 in let le = d.1 in omega (arith, some, le)) k

  less : (k : ℕ) (w : World) (y : Item) → IsUnder k w y → IsUnder (suc k) w y
  less k w y z =
      ⊎_elim (λ (v : (v : IsUpFor w s names flow e y) × (2 * longest w.net + 1 ≤ k + rank w.net s.group v.hop)). let le = v.1 in inl (v.0, omega (arith, le)))
      (λ (d : (d : IsDownFor w s names flow e y) × (rank w.net s.group d.hop ≤ k)). let le = d.1 in inr (d.0, omega (arith, le))) z

  module _ (u : World) (a : IsRising q s names flow e u) where
    down_on : (y : Item) (d : IsDownFor u s names flow e y) → (k : IsDownFor (step q (Deliver 0) u) s names flow e y) × (k.hop ≡ d.hop)
    down_on y d = (
      record {
        conf = d.conf;
        says = d.says;
        session = d.session;
        style = d.style;
        confirm = d.confirm;
        sender = d.sender;
        unit = d.unit;
        confirms = d.confirms;
        is = d.is;
        hop = d.hop;
        end = d.end;
        dst = d.dst;
        led = led_on q s names flow e u a d.sender d.hop d.unit.flow d.led;
      },
      refl,
    )

    stays_under : (k : ℕ) (y : Item) → IsUnder k u y → IsUnder k (step q (Deliver 0) u) y
    stays_under k y z =
        ⊎_elim (λ (v : (v : IsUpFor u s names flow e y) × (2 * longest u.net + 1 ≤ k + rank u.net s.group v.hop)). inl (up_on q s names flow e u a y v.0, v.1))
        (λ (d : (d : IsDownFor u s names flow e y) × (rank u.net s.group d.hop ≤ k)).
        let z = down_on y d.0 in
        let same : rank u.net s.group z.0.hop ≡ rank u.net s.group d.0.hop = ap (rank u.net s.group) z.1 in
        let le = d.1 in
        inr (z.0, omega (arith, le, same))) z

    -- what is delivered is the answer, or makes something that has a pass less to come
    moves_under : (k : ℕ) (y : Item) → slice_get u.flight 0 ≡ Some y → IsUnder (suc k) u y
        → IsAnsweredForOne s names flow e (Deliver 0) u ⊎ ((z : Item) × In z (step q (Deliver 0) u).flight × IsUnder k (step q (Deliver 0) u) z)
    moves_under k y arr z =
        ⊎_elim
        (λ (v : (v : IsUpFor u s names flow e y) × (2 * longest u.net + 1 ≤ suc k + rank u.net s.group v.hop)).
        let most = (ranks u a v.0.sender v.0.hop v.0.led.there).1 in
        let le = v.1 in
        ⊎_elim
        (λ (t : IsAnsweredIn q s names flow e u a y arr v.0).
        let same : rank u.net s.group t.down.hop ≡ rank u.net s.group v.0.hop = ap (rank u.net s.group) t.hop in
        inr (t.item, t.flight, inr (t.down, omega (arith, most, le, same))))
        (λ (t : GoesOnIn q s names flow e u a y arr v.0).
        let higher = t.onward.lower in
        inr (t.item, t.flight, inl (t.onward.up, omega (arith, le, higher))))
        (up_moves_for q s names flow e u a y arr v.0))
        (λ (d : (d : IsDownFor u s names flow e y) × (rank u.net s.group d.hop ≤ suc k)).
        let le = d.1 in
        ⊎_elim (λ (t : IsAnsweredForOne s names flow e (Deliver 0) u). inl t)
        (λ (t : GoesDownFor u y d.0).
        let low = t.lower in
        inr (t.item, t.flight, inr (t.down, omega (arith, le, low))))
        (down_moves_for u a y arr d.0)) z

  -- ---- so a request is answered for one of its senders
  pub answered_for_one : (u : World) → IsRising q s names flow e u → (y : Item) → In y u.flight → IsUpFor u s names flow e y
      → Happens (machine q) (IsAnsweredForOne s names flow e) (passes q (2 * longest u.net) u) u
  answered_for_one u a y i v =
      let some = (ranks u a v.sender v.hop v.led.there).0 in
      happens_in q (IsAnsweredForOne s names flow e) (IsRising q s names flow e) (λ w b. rising_next q s names flow e w b) IsUnder not_over less (λ w b k z under. stays_under w b k z under)
      (λ w b k z arr under. moves_under w b k z arr under) (2 * longest u.net) u a (y, i, inl (v, omega (arith, some)))
