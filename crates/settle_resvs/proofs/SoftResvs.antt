-- How a reservation that comes over a hop comes and goes, by quiet steps of a network; and that only what is said is kept.
use Rattle.std.proofs.Common.{◌≡◌, ℕ, ◌+◌, ◌*◌, ◌<◌, ◌≤◌, List, length, true, Option, None, Some, ◌⊎◌, inl, inr, ⊎_elim, arith, sym, refl, ap, subst, ◌∙◌}
use Rattle.std.specs.Prelude.{slice_get, option_and_then}
use Rattle.std.specs.Option.{option_map}
use Rattle.rsvp_base.specs.declared.addr.Addr.{Addr}
use Rattle.rsvp_base.specs.declared.part.Part.{Part}
use Rattle.rsvp_base.specs.declared.session.Sender.{Sender}
use Rattle.rsvp_base.specs.declared.style.StyleKind.{StyleKind}
use Rattle.rsvp_base.specs.Orders.{Names}
use Rattle.rsvp_base.specs.Table.{get, has}
use Rattle.rsvp_messages.specs.declared.message.Message.TheVariants as message
use Rattle.style_rules.specs.Lines.{LineKey}
use Rattle.style_rules.specs.Parts.{has_name}
use Rattle.calm_rounds.specs.Hold.{Hold}
use Rattle.calm_rounds.specs.SoftStates.{IsClosed, KeepLaws, KeepsOnly, SaysOnly}
use Rattle.calm_rounds.specs.Rounds.{Rounds}
use Rattle.calm_rounds.proofs.Settling.{only_what_is_said_is_kept}
use Rattle.tree_model.specs.Goals.{addr_of}
use Rattle.router_rules.specs.Facts.{Facts, ResvState, resvs_of}
use Rattle.router_rules.specs.Inputs.{Wait, Came, Spelt}
use Rattle.router_rules.specs.NodeConfig.{own}
use Rattle.router_rules.specs.Rule.{Outcome}
use Rattle.router_rules.specs.Steps.{IsLeftOf, node_step}
use Rattle.laws_steps.specs.ReservationLaws.{IsAskedFor, IsListed}
use Rattle.laws_steps.proofs.Asking.{where_a_reservation_fact_comes_from}
use Rattle.tree_model.specs.Networks.{Net, node_of, end_at, iface_of}
use Rattle.tree_model.proofs.Ifaces.{interfaces_are_ends}
use Rattle.network_model.specs.Bounds.{AreBounds}
use Rattle.network_model.specs.Steps.{Step, is_quiet, ms_of, arrived, word_for, input_at, outcome, still, step, machine}
use Rattle.network_model.specs.Worlds.{Item, World, config_of}
use Rattle.network_model.proofs.Machines.{quiet_of, time_passes, items_are_numbered}
use Rattle.network_model.proofs.Quiet.{IsWaited, IsCame, FollowsRule, input_found, outcome_quiet}
use Rattle.network_model.proofs.Stepping.{facts_after_found}
use Rattle.laws_network.specs.Known.{IsKnown}
use Rattle.laws_network.proofs.Due.{full_life}
use Rattle.laws_network.proofs.Known.{known_hold, end_found}
use Rattle.laws_network.proofs.Standing.{own_end}
use Rattle.settle_resvs.specs.SoftResvs.{ResvKey, IsCut, AsksFor, SaysResv, line_key_of, resv_at, kept_of, soft_resv}

-- ---- look-up
pub resv_found : (u : World) (n : ℕ) (st : StyleKind) (key : LineKey) (r : ResvState) → resv_at u n st key ≡ Some r → (f : Facts) × (slice_get u.nodes n ≡ Some f) × (get (resvs_of st f) key ≡ Some r)
resv_found u n st key r e = by (slice_get u.nodes n) refl e
  where
    by : (o : Option Facts) → slice_get u.nodes n ≡ o → option_and_then (λ (f : Facts). get (resvs_of st f) key) o ≡ Some r
        → (f : Facts) × (slice_get u.nodes n ≡ Some f) × (get (resvs_of st f) key ≡ Some r)
    by None t h = absurd (cc)
    by (Some f) t h = (f, t, h)

pub resv_made : (u : World) (n : ℕ) (st : StyleKind) (key : LineKey) (f : Facts) → slice_get u.nodes n ≡ Some f → resv_at u n st key ≡ get (resvs_of st f) key
resv_made u n st key f a = ap (λ (o : Option Facts). option_and_then (λ (g : Facts). get (resvs_of st g) key) o) a

pub kept_found : (o : Option ResvState) (v : Part) (d : ℕ) → option_map kept_of o ≡ Some (v, d) → (r : ResvState) × (o ≡ Some r) × (v ≡ r.part) × (d ≡ r.dies)
kept_found None v d e = absurd (cc)
kept_found (Some r) v d e = let same : ◌≡◌ {A = Part × ℕ} (kept_of r) (v, d) = cc in (r, refl, sym (ap (λ (z : Part × ℕ). z.0) same), sym (ap (λ (z : Part × ℕ). z.1) same))

-- ---- where it comes from: it was there, with its flow and its death and no more names, or an item that arrives asks for it
pub record WasThere (net : Net) (k : ResvKey) (u : World) (x : ResvState) : Type 0 where
  pub resv : ResvState
  pub there : resv_at u (node_of net.ends k.to) k.style (line_key_of net k) ≡ Some resv
  pub left : IsLeftOf resv x

pub record IsAsked (net : Net) (k : ResvKey) (s : Step) (u : World) (x : ResvState) : Type 0 where
  pub item : Item
  pub arrives : arrived s u ≡ Some item
  pub part : Part
  pub says : SaysResv net k item part
  pub cut : IsCut x.part part

-- the part that a unit asks for of which the one is a cut
asked_part : (list : Option Names) (x : Part) → ((s : Sender) → has x.senders s ≡ true → IsListed list s) → has_name x ≡ true → (v : Part) × AsksFor list v.senders × (v.flow ≡ x.flow) × IsCut x v
asked_part None x listed named = (x, tt, refl, record { names = λ s h. h; flow = refl; named = named })
asked_part (Some names) x listed named = (record { senders = names; flow = x.flow }, refl, refl, record { names = λ s h. listed s h; flow = refl; named = named })

module _ (q : ℕ) (o : World) (k : ResvKey) (lt : k.to < length o.net.ends) (s : Step) (u : World) (quiet : is_quiet s ≡ true) (a : IsKnown q o u) where
  abbrev n : ℕ
  n = node_of o.net.ends k.to

  abbrev key : LineKey
  key = line_key_of o.net k

  asked : (f : Facts) (x : ResvState) (h : FollowsRule q s u n f (outcome q s u n f)) → IsAskedFor (config_of q u.net u.trees n) (u.clock + ms_of s) h.input f k.style key x → IsAsked o.net k s u x
  asked f x h l =
      let i : ℕ = iface_of o.net.ends k.to in
      let dst : Addr = own (config_of q u.net u.trees n) i in
      ⊎_elim
      (λ (t : IsWaited s u n h.input). let no : Wait t.ms (word_for u.words n) ≡ Came i dst (Spelt (message.Resv l.by.resv)) = sym t.is ∙ l.by.came in absurd (cc))
      (λ (t : IsCame s u n h.input).
      let same : Came (iface_of u.net.ends t.item.end) t.item.dst t.item.arrival ≡ Came i dst (Spelt (message.Resv l.by.resv)) = sym t.is ∙ l.by.came in
      let iface : iface_of u.net.ends t.item.end ≡ i = cc in
      let spelt : t.item.arrival ≡ Spelt (message.Resv l.by.resv) = cc in
      let to : t.item.dst ≡ dst = cc in
      let end : t.item.end ≡ k.to = end_found q o u a k.to lt s h.input t iface in
      let at : end_at u.net.ends n i ≡ Some k.to = subst (λ (z : Net). end_at z.ends n i ≡ Some k.to) (sym a.same.net) ((interfaces_are_ends o.net).end_of_iface k.to lt) in
      let addr : dst ≡ addr_of o.net k.to = own_end q u.net u.trees n i k.to at ∙ ap (λ (z : Net). addr_of z k.to) a.same.net in
      let part = asked_part l.unit.names x.part l.listed l.named in
      record {
        item = t.item;
        arrives = t.arrives;
        part = part.0;
        says = record {
          end = end;
          dst = to ∙ addr;
          resv = l.by.resv;
          spelt = spelt;
          session = l.by.session;
          style = l.by.style;
          hop = l.by.next;
          unit = l.unit;
          asks = l.asks;
          at = l.at;
          names = part.1;
          flow = part.2 ∙ l.flow;
        };
        cut = part.3;
      })
      (input_found s u n h.input quiet h.came)

  pub resv_source : (x : ResvState) → resv_at (step q s u) n k.style key ≡ Some x → WasThere o.net k u x ⊎ IsAsked o.net k s u x
  resv_source x e =
      let g = resv_found (step q s u) n k.style key x e in
      let f = facts_after_found q s u n g.0 g.1 in
      let now : get (resvs_of k.style (outcome q s u n f.0).facts) key ≡ Some x = ap (λ (z : Facts). get (resvs_of k.style z) key) (sym f.2) ∙ g.2 in
      let there = resv_made u n k.style key f.0 f.1 in
      ⊎_elim
      (λ (h : (input_at s u n ≡ None) × (outcome q s u n f.0 ≡ still f.0)).
      let old : get (resvs_of k.style f.0) key ≡ Some x = sym (ap (λ (z : Outcome). get (resvs_of k.style z.facts) key) h.1) ∙ now in
      let shaped = (a.bounds.facts n f.0 f.1).shapes.resvs k.style key x old in
      inl (record { resv = x; there = there ∙ old; left = record { names = λ z i. i; flow = refl; named = shaped.style.named; dies = refl } }))
      (λ (h : FollowsRule q s u n f.0 (outcome q s u n f.0)).
      ⊎_elim
      (λ (old : (r : ResvState) × (get (resvs_of k.style f.0) key ≡ Some r) × IsLeftOf r x). inl (record { resv = old.0; there = there ∙ old.1; left = old.2 }))
      (λ (new : IsAskedFor (config_of q u.net u.trees n) (u.clock + ms_of s) h.input f.0 k.style key x). inr (asked f.0 x h new))
      (where_a_reservation_fact_comes_from (node_step (config_of q u.net u.trees n) (config_of q u.net u.trees n) u.clock (u.clock + ms_of s) h.input f.0) (a.bounds.facts n f.0 f.1) k.style key x
      (sym (ap (λ (z : Outcome). get (resvs_of k.style z.facts) key) h.is) ∙ now)))
      (outcome_quiet q s u n f.0 quiet)

-- ---- how long it lives
pub resv_room : (q : ℕ) (u : World) (n : ℕ) (st : StyleKind) (key : LineKey) (r : ResvState) → AreBounds q u → resv_at u n st key ≡ Some r → (u.clock < r.dies) × (r.dies ≤ u.clock + 21 * q)
resv_room q u n st key r bounds e =
    let f = resv_found u n st key r e in
    let lives = (bounds.facts n f.0 f.1).alive.resvs st key r f.2 in
    (lives.later, subst (λ (z : ℕ). r.dies ≤ u.clock + z) (full_life q bounds.period) lives.soon)

-- ---- the soft state
pub resv_keeps : (q : ℕ) (w : World) (k : ResvKey) → k.to < length w.net.ends → KeepLaws (machine q) (soft_resv q w k)
resv_keeps q w k lt = record {
  set = λ s u v d quiet a a' h.
      let n : ℕ = node_of w.net.ends k.to in
      let x = kept_found (resv_at (step q s u) n k.style (line_key_of w.net k)) v d h in
      ⊎_elim
      (λ (old : WasThere w.net k u x.0).
      inl (
        old.resv.part,
        ap (option_map kept_of) old.there ∙ (λ i. Some (old.resv.part, (sym old.left.dies ∙ sym x.3) i)),
        subst (λ (z : Part). IsCut z old.resv.part) (sym x.2) (record { names = old.left.names; flow = old.left.flow; named = old.left.named }),
      ))
      (λ (new : IsAsked w.net k s u x.0). inr (new.item, new.part, new.arrives, new.says, subst (λ (z : Part). IsCut z new.part) (sym x.2) new.cut))
      (resv_source q w k lt s u (quiet_of q s quiet) a x.0 x.1);
  room = λ u v d a h.
      let x = kept_found (resv_at u (node_of w.net.ends k.to) k.style (line_key_of w.net k)) v d h in
      let r = resv_room q u (node_of w.net.ends k.to) k.style (line_key_of w.net k) x.0 a.bounds x.1 in
      (omega (arith, r.0, x.3), omega (arith, r.1, x.3));
}

-- ---- only what is said is kept
pub only_resvs_as_claimed_are_kept : (q : ℕ) (w : World) (k : ResvKey) → k.to < length w.net.ends → (claim : Part → Type 0) → IsClosed IsCut claim → (rs : List (List Step)) → Rounds (machine q) rs w
    → Hold (machine q) 0 rs w (AreBounds q)
    → Hold (machine q) 0 rs w (SaysOnly (machine q) (soft_resv q w k) claim w.made)
    → Hold (machine q) 5 rs w (λ u. KeepsOnly (machine q) (soft_resv q w k) claim u × SaysOnly (machine q) (soft_resv q w k) claim 0 u)
only_resvs_as_claimed_are_kept q w k lt claim cuts rs calm bounds says =
    only_what_is_said_is_kept (machine q) (time_passes q) (items_are_numbered q) (soft_resv q w k) (resv_keeps q w k lt) claim cuts rs w calm (known_hold q w rs calm bounds) says
