-- Live senders: there are few, each has one flow, and what is kept of them alone is within the limits of a table.
use Rattle.std.proofs.Common.{◌≡◌, ℕ, zero, suc, List, [], ◌∷◌, true, Option, None, Some, arith, sym, refl, ap, subst, ◌∙◌}
use Rattle.std.specs.Prelude.{slice_get, map as each}
use Rattle.std.specs.Option.{option_map}
use Rattle.std.proofs.lemmas.List.{length-map}
use Rattle.rsvp_base.specs.declared.session.Sender.{Sender}
use Rattle.rsvp_base.specs.declared.session.Session.{Session}
use Rattle.rsvp_base.specs.Members.{In}
use Rattle.rsvp_base.specs.Orders.{sessions, senders}
use Rattle.rsvp_base.specs.Sets.{set_of}
use Rattle.rsvp_base.specs.SessionLimits.{IsWithinSessionLimits}
use Rattle.rsvp_base.specs.Table.{Table, get, has, keys}
use Rattle.rsvp_base.specs.TokenBucket.{TokenBucket}
use Rattle.rsvp_base.specs.Under.{under}
use Rattle.rsvp_base.proofs.Counts.{in_found, found_in, in_set_of, set_below, size-set_of, size_below}
use Rattle.rsvp_base.proofs.Members.{in_each, to_each, to_filter, in_left, in_right}
use Rattle.rsvp_base.proofs.Tables.{tied_self}
use Rattle.rsvp_base.proofs.UnderLaws.{get-under}
use Rattle.tree_model.specs.declared.locals.LocalSender.{LocalSender}
use Rattle.tree_model.specs.Wants.{live, of_session}
use Rattle.router_rules.specs.Facts.{Facts, SenderKey, sender_keys}
use Rattle.network_model.specs.Bounds.{AreHosts}
use Rattle.network_model.specs.Locals.{sender_at, senders_from, locals_of, senders_at, IsLive}
use Rattle.network_model.specs.Worlds.{World}
use Rattle.laws_network.proofs.Known.{has_some}

pub senders_found : (o : World) (n : ℕ) (m : Table sender_keys TokenBucket) → senders_at o n ≡ Some m → (f : Facts) × (slice_get o.nodes n ≡ Some f) × (f.senders ≡ m)
senders_found o n m e = by (slice_get o.nodes n) refl e
  where
    by : (p : Option Facts) → slice_get o.nodes n ≡ p → option_map (λ (f : Facts). f.senders) p ≡ Some m → (f : Facts) × (slice_get o.nodes n ≡ Some f) × (f.senders ≡ m)
    by None t h = absurd (cc)
    by (Some f) t h = (f, t, (cc))

listed : (j n : ℕ) (fs : List Facts) (f : Facts) (k : SenderKey) → slice_get fs n ≡ Some f → In k (keys f.senders) → (node : ℕ) × In (sender_at node k) (senders_from j fs)
listed j n [] f k e i = absurd (cc)
listed j zero (g ∷ fs) f k e i =
    let same : f ≡ g = cc in
    (j, in_left (sender_at j k) (each (sender_at j) (keys g.senders)) (senders_from (suc j) fs) (to_each (sender_at j) k (keys g.senders) (subst (λ (z : Facts). In k (keys z.senders)) same i)))
listed j (suc n) (g ∷ fs) f k e i =
    let r = listed (suc j) n fs f k e i in
    (r.0, in_right (sender_at r.0 k) (each (sender_at j) (keys g.senders)) (senders_from (suc j) fs) r.1)

pub live_listed : (o : World) (k : SenderKey) (t : TokenBucket) → IsLive o k t → (node : ℕ) × In (sender_at node k) (senders_from 0 o.nodes)
live_listed o k t l =
    let f = senders_found o l.node l.senders l.at in
    let row = found_in sender_keys f.0.senders k t (ap (λ (m : Table sender_keys TokenBucket). get m k) f.2 ∙ l.sends) in
    listed 0 l.node o.nodes f.0 k f.1 (to_each (λ (e : SenderKey × TokenBucket). e.0) (k, t) f.0.senders.rows row)

module _ (o : World) (locals : AreHosts o) where
  -- a sender has one flow
  pub one_flow : (k : SenderKey) (t t' : TokenBucket) → IsLive o k t → IsLive o k t' → t ≡ t'
  one_flow k t t' a b =
      let f = senders_found o a.node a.senders a.at in
      let g = senders_found o b.node b.senders b.at in
      let x = locals.placed a.node f.0 k t f.1 (ap (λ (m : Table sender_keys TokenBucket). get m k) f.2 ∙ a.sends) in
      let y = locals.placed b.node g.0 k t' g.1 (ap (λ (m : Table sender_keys TokenBucket). get m k) g.2 ∙ b.sends) in
      let node : a.node ≡ b.node = (let z : Some a.node ≡ Some b.node = sym x ∙ y in cc) in
      let table : a.senders ≡ b.senders = (let z : Some a.senders ≡ Some b.senders = sym a.at ∙ ap (senders_at o) node ∙ b.at in cc) in
      let z : Some t ≡ Some t' = sym a.sends ∙ ap (λ (m : Table sender_keys TokenBucket). get m k) table ∙ b.sends in
      cc

  -- a table with live senders alone is within the limits
  pub live_fits : {X : Type 0} (m : Table sender_keys X) → ((k : SenderKey) (x : X) → get m k ≡ Some x → (t : TokenBucket) × IsLive o k t) → IsWithinSessionLimits senders m
  live_fits {X} m alive = record {
    all =
        let below = set_below sessions (each (λ (k : SenderKey). k.0) (keys m)) (each (λ (x : LocalSender). x.session) (senders_from 0 o.nodes)) (λ s i. session_listed s i) in
        let few = locals.few_sessions in
        let same = length-map (set_of {o = sessions} (each (λ (x : LocalSender). x.session) (senders_from 0 o.nodes))).rows (λ (e : Session × Unit {0}). e.0) in
        omega arith;
    one = λ s.
        let below = size_below senders (under sessions senders m s) (set_of {o = senders} (live (locals_of o) s)) (λ x h. in_set_of senders (live (locals_of o) s) x (sender_listed s x h)) in
        let small = size-set_of senders (live (locals_of o) s) in
        let few = locals.few_senders s in
        omega arith;
  }
    where
      session_listed : (s : Session) → In s (each (λ (k : SenderKey). k.0) (keys m)) → In s (each (λ (x : LocalSender). x.session) (senders_from 0 o.nodes))
      session_listed s i =
          let k = in_each (λ (k : SenderKey). k.0) s (keys m) i in
          let row = in_each (λ (e : SenderKey × X). e.0) k.0 m.rows k.1 in
          let found = in_found sender_keys m row.0.0 row.0.1 row.1 in
          let l = alive row.0.0 row.0.1 found in
          let at = live_listed o row.0.0 l.0 l.1 in
          subst (λ (z : Session). In z (each (λ (x : LocalSender). x.session) (senders_from 0 o.nodes))) (sym (k.2 ∙ ap (λ (z : SenderKey). z.0) row.2))
          (to_each (λ (x : LocalSender). x.session) (sender_at at.0 row.0.0) (senders_from 0 o.nodes) at.1)

      sender_listed : (s : Session) (x : Sender) → has (under sessions senders m s) x ≡ true → In x (live (locals_of o) s)
      sender_listed s x h =
          let y = has_some (get (under sessions senders m s) x) h in
          let found : get m (s, x) ≡ Some y.0 = sym (get-under sessions senders m s x) ∙ y.1 in
          let l = alive (s, x) y.0 found in
          let at = live_listed o (s, x) l.0 l.1 in
          to_each (λ (z : LocalSender). z.sender) (sender_at at.0 (s, x)) _ (to_filter (of_session s) (sender_at at.0 (s, x)) (senders_from 0 o.nodes) at.1 (tied_self sessions s))
