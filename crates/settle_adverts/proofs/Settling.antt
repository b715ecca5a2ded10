-- Advertisements settle: five rounds for each hop, after the first four.
use Rattle.std.proofs.Common.{◌≡◌, ℕ, zero, suc, ◌+◌, ◌*◌, ◌<◌, ◌≤◌, List, [], ◌∷◌, length, Bool, Option, true, false, cond, None, Some, ⊎_elim, arith, sym, refl, ap, subst, ◌∙◌}
use Rattle.std.specs.Prelude.{slice_get, ◌++◌}
use Rattle.std.specs.Option.{option_and_then, option_map}
use Rattle.rsvp_base.specs.declared.iface.Iface.{Iface}
use Rattle.rsvp_base.specs.declared.session.Sender.{Sender}
use Rattle.rsvp_base.specs.Members.{In}
use Rattle.rsvp_base.specs.Table.{Table, get, has}
use Rattle.rsvp_base.specs.TokenBucket.{TokenBucket}
use Rattle.rsvp_messages.specs.RsvpObjects.declared.adspec.Adspec.{Adspec}
use Rattle.calm_rounds.specs.Hold.{Hold}
use Rattle.calm_rounds.specs.Rounds.{Rounds}
use Rattle.calm_rounds.specs.SoftStates.{KeepsOnly, SaysOnly}
use Rattle.calm_rounds.proofs.Holding.{hold_all, hold_both, hold_keep, hold_later, hold_map, hold_stack, hold_start}
use Rattle.calm_rounds.proofs.Settling.{dies_out, only_what_is_said_is_kept}
use Rattle.router_rules.specs.Facts.{Facts, PathState, SenderKey, sender_keys}
use Rattle.router_rules.specs.Offers.{advert_by, advert_of, own_advert}
use Rattle.tree_model.specs.declared.hops.End.{End}
use Rattle.tree_model.specs.declared.hops.LinkHop.{LinkHop}
use Rattle.tree_model.specs.Networks.{Net, iface_of, node_of, owner, peers}
use Rattle.tree_model.specs.Ranks.{longest}
use Rattle.tree_model.specs.Trees.{depth, inward, outward, tree}
use Rattle.tree_model.specs.Valid.{IsValid}
use Rattle.tree_model.proofs.Depths.{depth_and_rank_within_longest}
use Rattle.tree_model.proofs.Links.{one_sending_end_on_a_link}
use Rattle.network_model.specs.Bounds.{AreBounds, AreHosts}
use Rattle.network_model.specs.Locals.{IsLive}
use Rattle.network_model.specs.Sound.{ArePathsComplete, ArePathsSound, IsPathAt}
use Rattle.network_model.specs.Steps.{Step, is_quiet, machine, sent, step}
use Rattle.network_model.specs.Worlds.{Item, World}
use Rattle.network_model.proofs.Machines.{in_flight_after, items_are_numbered, quiet_of, time_passes}
use Rattle.laws_network.specs.Known.{IsKnown, IsSameNet, advertised_at}
use Rattle.laws_network.proofs.Known.{known_hold, of_some}
use Rattle.laws_network.proofs.Standing.{from_there, inward_there, some_at}
use Rattle.settle_paths.specs.SoftPaths.{path_at}
use Rattle.settle_paths.proofs.CompletePaths.{paths_settle}
use Rattle.settle_paths.proofs.LiveSenders.{senders_found}
use Rattle.settle_paths.proofs.SoftPaths.{path_made}
use Rattle.settle_paths.proofs.SoundPaths.{Spot, no_one, path_end}
use Rattle.settle_adverts.specs.Demanded.{HasSettledAdverts}
use Rattle.settle_adverts.specs.Adverts.{AreAdvertsExact, AreAdvertsThere, is_advertised, is_among, advert_at, advert_over}
use Rattle.settle_adverts.specs.Ways.{way}
use Rattle.settle_adverts.proofs.Composing.{first_told, next_told}
use Rattle.settle_adverts.proofs.Sending.{IsAdspecSent, IsBegun, IsPassed, adspec_sent}
use Rattle.settle_adverts.proofs.SoftAdspecs.{CarriesAdspec, adspec_keeps, adspec_made, says_path, soft_adspec}
use Rattle.settle_adverts.proofs.Ways.{a_way_goes_hop_by_hop}

-- a hop of the sender's tree comes to the end, and this is what is told of the sender there
record IsTold (w : World) (k : SenderKey) (e : ℕ) (a : Option Adspec) : Type 0 where
  hop : LinkHop
  there : In hop (tree w.net.hops k.0.group k.1.addr)
  to : hop.to ≡ e
  is : a ≡ advert_at w k (node_of w.net.ends e)

-- ---- worlds with one network, of which the same is asked, tell the same
pub told_again : (o u : World) (k : SenderKey) (n : ℕ) → IsSameNet o u → advert_at u k n ≡ advert_at o k n
told_again o u k n same =
    ap (λ (z : Net). cond (is_among (option_and_then (advertised_at u) (owner z.ends k.1.addr)) k) (advert_over z (way z k.0.group k.1.addr n)) None) same.net
    ∙ ap (λ (b : Bool). cond b (advert_over o.net (way o.net k.0.group k.1.addr n)) None) (by (owner o.net.ends k.1.addr))
  where
    by : (at : Option ℕ) → is_among (option_and_then (advertised_at u) at) k ≡ is_among (option_and_then (advertised_at o) at) k
    by None = refl
    by (Some m) = ap (λ z. is_among z k) (same.advertised m)

module _ (q : ℕ) (o : World) (valid : IsValid o.net) (hosts : AreHosts o) where
  -- what is told at that end alone is kept there, and carried to it by Paths in flight
  abbrev TellsIn : SenderKey → ℕ → World → Type 0
  TellsIn k e u = KeepsOnly (machine q) (soft_adspec q o k e) (IsTold o k e) u × SaysOnly (machine q) (soft_adspec q o k e) (IsTold o k e) 0 u

  abbrev Level : ℕ → World → Type 0
  Level d u = (a : Spot q o valid d) → TellsIn a.0 a.1 u

  -- to the root comes no Path
  nothing : (k : SenderKey) (e : ℕ) → depth o.net k.0.group k.1.addr (node_of o.net.ends e) ≤ 0 → (y : Item) (a : Option Adspec) → CarriesAdspec o.net k e y a → ⊥
  nothing k e le y a c = no_one q o valid k e le y (c.path.hop.addr, c.tspec) (says_path o.net k e y a c)

  level_0 : (rs : List (List Step)) (w : World) → Rounds (machine q) rs w → Hold (machine q) 0 rs w (IsKnown q o) → Hold (machine q) 4 rs w (Level 0)
  level_0 rs w calm known =
      hold_all (machine q) (λ (a : Spot q o valid 0) u. TellsIn a.0 a.1 u) 4 rs w
      (λ a.
      hold_map (machine q) (KeepsOnly (machine q) (soft_adspec q o a.0 a.1) (λ _. ⊥)) (TellsIn a.0 a.1)
      (λ u none. ((λ v d h. absurd (none v d h)), (λ y v i le c. absurd (nothing a.0 a.1 a.3 y v c)))) 4 rs w
      (dies_out (machine q) (time_passes q) (items_are_numbered q) (soft_adspec q o a.0 a.1) (adspec_keeps q o a.0 a.1 a.2) (λ _. ⊥) (λ v v0 b f. f) rs w calm known
      (hold_map (machine q) (IsKnown q o) (SaysOnly (machine q) (soft_adspec q o a.0 a.1) (λ _. ⊥) 0) (λ u g y v i le c. nothing a.0 a.1 a.3 y v c) 0 rs w known)))

  -- ---- over a hop
  -- a local sender is advertised at its node where it is advertised
  marked_there : (u' : World) → IsKnown q o u' → (n : ℕ) (f : Facts) (k : SenderKey) → slice_get u'.nodes n ≡ Some f → owner o.net.ends k.1.addr ≡ Some n → has f.advertised k ≡ is_advertised o k
  marked_there u' known n f k at own =
      ap (λ z. is_among z k) (sym (ap (option_map (λ (g : Facts). g.advertised)) at) ∙ known.same.advertised n)
      ∙ ap (λ (z : Option ℕ). is_among (option_and_then (advertised_at o) z) k) (sym own)

  -- and its node has its address
  own_there : (u' : World) → IsKnown q o u' → (n : ℕ) (f : Facts) (k : SenderKey) (t : TokenBucket) → slice_get u'.nodes n ≡ Some f → get f.senders k ≡ Some t
      → owner o.net.ends k.1.addr ≡ Some n
  own_there u' known n f k t at sends =
      let g = senders_found o n f.senders (sym (known.same.senders n) ∙ ap (option_map (λ (z : Facts). z.senders)) at) in
      hosts.placed n g.0 k t g.1 (ap (λ (z : Table sender_keys TokenBucket). get z k) g.2 ∙ sends)

  -- what begins at the root
  first_over : (k : SenderKey) (h : LinkHop) (x : End) → In h (tree o.net.hops k.0.group k.1.addr) → slice_get o.net.ends h.from ≡ Some x
      → owner o.net.ends k.1.addr ≡ Some (node_of o.net.ends h.from)
      → advert_by (Some x.iface) (own_advert (is_advertised o k)) ≡ advert_at o k (node_of o.net.ends h.to)
  first_over k h x there is own = by (is_advertised o k)
    where
      goes : way o.net k.0.group k.1.addr (node_of o.net.ends h.to) ≡ h ∷ []
      goes =
          (a_way_goes_hop_by_hop o.net valid).along k.0.group k.1.addr h there
          ∙ ap (λ (hs : List LinkHop). hs ++ h ∷ []) ((a_way_goes_hop_by_hop o.net valid).root k.0.group k.1.addr (node_of o.net.ends h.from) own)

      by : (b : Bool) → advert_by (Some x.iface) (own_advert b) ≡ cond b (advert_over o.net (way o.net k.0.group k.1.addr (node_of o.net.ends h.to))) None
      by true = first_told o.net h x is ∙ ap (advert_over o.net) (sym goes)
      by false = refl

  -- what is told over one more
  next_over : (k : SenderKey) (g h : LinkHop) (x : End) → In g (tree o.net.hops k.0.group k.1.addr) → In h (tree o.net.hops k.0.group k.1.addr) → slice_get o.net.ends h.from ≡ Some x
      → node_of o.net.ends g.to ≡ node_of o.net.ends h.from
      → advert_by (Some x.iface) (advert_of (advert_at o k (node_of o.net.ends h.from))) ≡ advert_at o k (node_of o.net.ends h.to)
  next_over k g h x first there is meet = by (is_advertised o k)
    where
      up : List LinkHop
      up = way o.net k.0.group k.1.addr (node_of o.net.ends g.from)

      comes : way o.net k.0.group k.1.addr (node_of o.net.ends h.from) ≡ up ++ g ∷ []
      comes = ap (way o.net k.0.group k.1.addr) (sym meet) ∙ (a_way_goes_hop_by_hop o.net valid).along k.0.group k.1.addr g first

      goes : way o.net k.0.group k.1.addr (node_of o.net.ends h.to) ≡ (up ++ g ∷ []) ++ h ∷ []
      goes = (a_way_goes_hop_by_hop o.net valid).along k.0.group k.1.addr h there ∙ ap (λ (hs : List LinkHop). hs ++ h ∷ []) comes

      by : (b : Bool) → advert_by (Some x.iface) (advert_of (cond b (advert_over o.net (way o.net k.0.group k.1.addr (node_of o.net.ends h.from))) None))
          ≡ cond b (advert_over o.net (way o.net k.0.group k.1.addr (node_of o.net.ends h.to))) None
      by true =
          let y = some_at o.net.ends g.from (from_there o.net valid k.0.group k.1.addr g first) in
          ap (λ (hs : List LinkHop). advert_by (Some x.iface) (advert_of (advert_over o.net hs))) comes ∙ next_told o.net up g h y.0 x y.1 is ∙ ap (advert_over o.net) (sym goes)
      by false = refl

  -- ---- a node that is less far from the root tells so
  sent_told : (d : ℕ) (k : SenderKey) (e : ℕ) → depth o.net k.0.group k.1.addr (node_of o.net.ends e) ≤ suc d → (u' : World) → IsKnown q o u' → Level d u'
      → (y : Item) (a : Option Adspec) (c : CarriesAdspec o.net k e y a) → IsAdspecSent o.net u' y c.path → IsTold o k e a
  sent_told d k e le u' known level y a c p =
      let both : ◌≡◌ {A = Sender × TokenBucket} (p.sender, p.tspec) (k.1, c.tspec) = of_some (p.sender, p.tspec) (k.1, c.tspec) (sym p.of ∙ c.sender) in
      let key : ◌≡◌ {A = SenderKey} (c.path.session, p.sender) k = (let x : p.sender ≡ k.1 = ap (λ (z : Sender × TokenBucket). z.0) both in λ i. (c.session i, x i)) in
      let leaves : In p.end (outward o.net (node_of o.net.ends p.end) k.0.group k.1.addr) =
      subst (λ (z : ℕ). In p.end (outward o.net z k.0.group k.1.addr)) (sym p.at) (subst (λ (z : SenderKey). In p.end (outward o.net p.node z.0.group z.1.addr)) key p.leaves) in
      let to : In e (peers o.net.links p.end) = subst (λ (z : ℕ). In z (peers o.net.links p.end)) c.end p.to in
      let h = (one_sending_end_on_a_link o.net valid).hop k.0.group k.1.addr p.end e leaves to c.inward in
      let along = (depth_and_rank_within_longest o.net valid).along k.0.group k.1.addr h.0 h.1 in
      let from : node_of o.net.ends h.0.from ≡ p.node = ap (node_of o.net.ends) h.2 ∙ p.at in
      let into : node_of o.net.ends h.0.to ≡ node_of o.net.ends e = ap (node_of o.net.ends) h.3 in
      let low : depth o.net k.0.group k.1.addr p.node ≤ d =
      (let x = ap (λ (z : ℕ). depth o.net k.0.group k.1.addr z) from in
      let y = ap (λ (z : ℕ). depth o.net k.0.group k.1.addr z) into in
      omega (arith, x, y, along, le)) in
      let on : slice_get o.net.ends h.0.from ≡ Some p.on = ap (λ (z : ℕ). slice_get o.net.ends z) h.2 ∙ p.is in
      record {
        hop = h.0;
        there = h.1;
        to = h.3;
        is = c.adspec
            ∙ ⊎_elim {C = c.path.adspec ≡ advert_at o k (node_of o.net.ends h.0.to)}
            (λ (l : IsBegun p.on p.facts p.sender p.tspec c.path).
            let sends : get p.facts.senders k ≡ Some p.tspec = ap (λ (z : SenderKey). get p.facts.senders z) (sym key) ∙ l.0 in
            let own : owner o.net.ends k.1.addr ≡ Some p.node = own_there u' known p.node p.facts k p.tspec p.after sends in
            l.1 ∙ ap (λ (z : SenderKey). advert_by (Some p.on.iface) (own_advert (has p.facts.advertised z))) key
            ∙ ap (λ (b : Bool). advert_by (Some p.on.iface) (own_advert b)) (marked_there u' known p.node p.facts k p.after own)
            ∙ first_over k h.0 p.on h.1 on (own ∙ ap Some (sym from)))
            (λ (l : IsPassed p.on p.facts p.sender c.path).
            let there : get p.facts.paths k ≡ Some l.0 = ap (λ (z : SenderKey). get p.facts.paths z) (sym key) ∙ l.1 in
            let b = path_end q o u' p.node p.facts k l.0 known p.after there in
            let told : IsTold o k b.0 l.0.adspec =
            (level (k, b.0, b.2, subst (λ (z : ℕ). depth o.net k.0.group k.1.addr z ≤ d) (sym b.3) low)).0 l.0.adspec l.0.dies
            (adspec_made (iface_of o.net.ends b.0) (path_at u' (node_of o.net.ends b.0) k) l.0 (ap (λ (z : ℕ). path_at u' z k) b.3 ∙ path_made u' p.node k l.0 p.facts p.after there) (sym b.4)) in
            let meet : node_of o.net.ends told.hop.to ≡ node_of o.net.ends h.0.from = ap (node_of o.net.ends) told.to ∙ b.3 ∙ sym from in
            l.2 ∙ ap (λ (z : Option Adspec). advert_by (Some p.on.iface) (advert_of z)) (told.is ∙ ap (advert_at o k) (b.3 ∙ sym from))
            ∙ next_over k told.hop h.0 p.on told.there h.1 on meet)
            p.source
            ∙ ap (advert_at o k) into;
      }

  carried_step : (d n : ℕ) (k : SenderKey) (e : ℕ) → depth o.net k.0.group k.1.addr (node_of o.net.ends e) ≤ suc d → (s : Step) (u : World) → is_quiet s ≡ true
      → IsKnown q o u × Level d u → IsKnown q o (step q s u) × Level d (step q s u)
      → SaysOnly (machine q) (soft_adspec q o k e) (IsTold o k e) n u → SaysOnly (machine q) (soft_adspec q o k e) (IsTold o k e) n (step q s u)
  carried_step d n k e le s u quiet now then j y a i born c =
      ⊎_elim
      (λ (old : In y u.flight). j y a old born c)
      (λ (new : (b : Bool) × In (y, b) (sent q s u)).
      sent_told d k e le (step q s u) then.0 then.1 y a c
      (subst (λ (z : Net). IsAdspecSent z (step q s u) y c.path) now.0.same.net (adspec_sent q s u quiet now.0.bounds y new.0 c.path new.1 c.spelt)))
      (in_flight_after q s u y quiet i)

  level_up : (d : ℕ) (rs : List (List Step)) (w : World) → Rounds (machine q) rs w → Hold (machine q) 0 rs w (λ u. IsKnown q o u × Level d u) → Hold (machine q) 5 rs w (Level (suc d))
  level_up d rs w calm both =
      let known : Hold (machine q) 0 rs w (IsKnown q o) = hold_map (machine q) (λ u. IsKnown q o u × Level d u) (IsKnown q o) (λ u h. h.0) 0 rs w both in
      hold_all (machine q) (λ (a : Spot q o valid (suc d)) u. TellsIn a.0 a.1 u) 5 rs w
      (λ a.
      only_what_is_said_is_kept (machine q) (time_passes q) (items_are_numbered q) (soft_adspec q o a.0 a.1) (adspec_keeps q o a.0 a.1 a.2) (IsTold o a.0 a.1)
      (λ v v0 b f. subst (IsTold o a.0 a.1) (sym b) f) rs w calm known
      (hold_keep (machine q) (λ u. IsKnown q o u × Level d u) (SaysOnly (machine q) (soft_adspec q o a.0 a.1) (IsTold o a.0 a.1) w.made)
      (λ s u quiet b b' j. carried_step d w.made a.0 a.1 a.3 s u (quiet_of q s quiet) b b' j) rs w calm both
      (λ y v i born c. let old = ((hold_start (machine q) (IsKnown q o) rs w known).bounds.flight y i).born in absurd (omega (arith, born, old)))))

  levels : (d : ℕ) (rs : List (List Step)) (w : World) → Rounds (machine q) rs w → Hold (machine q) 0 rs w (IsKnown q o) → Hold (machine q) (4 + 5 * d) rs w (Level d)
  levels zero rs w calm known = level_0 rs w calm known
  levels (suc d) rs w calm known =
      let e : (4 + 5 * d) + 5 ≡ 4 + 5 * suc d = omega arith in
      rw (← e)
      (hold_stack (machine q) (λ u. IsKnown q o u × Level d u) (Level (suc d)) 5 (level_up d) (4 + 5 * d) rs w calm
      (hold_both (machine q) (IsKnown q o) (Level d) (4 + 5 * d) rs w
      (hold_later (machine q) (IsKnown q o) 0 (4 + 5 * d) rs w (omega arith) known) (levels d rs w calm known)))

  -- ---- all together
  all_told : (u : World) → IsKnown q o u → Level (longest o.net) u → AreAdvertsExact u
  all_told u known level = record {
    kept = λ n f k x there h.
        let b = path_end q o u n f k x known there h in
        let deep = (depth_and_rank_within_longest o.net valid).every k.0.group k.1.addr (node_of o.net.ends b.0) in
        let told : IsTold o k b.0 x.adspec =
        (level (k, b.0, b.2, deep)).0 x.adspec x.dies
        (adspec_made (iface_of o.net.ends b.0) (path_at u (node_of o.net.ends b.0) k) x (ap (λ (z : ℕ). path_at u z k) b.3 ∙ path_made u n k x f there h) (sym b.4)) in
        told.is ∙ ap (advert_at o k) b.3 ∙ sym (told_again o u k n known.same);
    carried = λ y m x t i spelt sender way.
        let inside : inward o.net (node_of o.net.ends y.end) m.session.group x.addr ≡ Some y.end =
        subst (λ (z : Net). inward z (node_of z.ends y.end) m.session.group x.addr ≡ Some y.end) known.same.net way in
        let deep = (depth_and_rank_within_longest o.net valid).every m.session.group x.addr (node_of o.net.ends y.end) in
        let told : IsTold o (m.session, x) y.end m.adspec =
        (level ((m.session, x), y.end, (inward_there o.net valid (node_of o.net.ends y.end) y.end m.session.group x.addr inside).0, deep)).1 y m.adspec i (omega arith)
        (record { end = refl; path = m; tspec = t; spelt = spelt; session = refl; sender = sender; adspec = refl; inward = inside }) in
        told.is ∙ sym (told_again o u (m.session, x) (node_of o.net.ends y.end) known.same)
        ∙ ap (λ (z : Net). advert_at u (m.session, x) (node_of z.ends y.end)) (sym known.same.net);
  }

pub adverts_are_exact : (q : ℕ) (w : World) (rs : List (List Step)) → Rounds (machine q) rs w → AreHosts w → Hold (machine q) 0 rs w (AreBounds q)
    → Hold (machine q) (4 + 5 * longest w.net) rs w AreAdvertsExact
adverts_are_exact q w rs calm hosts bounds =
    let valid : IsValid w.net = (hold_start (machine q) (AreBounds q) rs w bounds).net in
    let known = known_hold q w rs calm bounds in
    let k : ℕ = 4 + 5 * longest w.net in
    hold_map (machine q) (λ u. IsKnown q w u × Level q w valid hosts (longest w.net) u) AreAdvertsExact (λ u h. all_told q w valid hosts u h.0 h.1) k rs w
    (hold_both (machine q) (IsKnown q w) (Level q w valid hosts (longest w.net)) k rs w (hold_later (machine q) (IsKnown q w) 0 k rs w (omega arith) known)
    (levels q w valid hosts (longest w.net) rs w calm known))

-- ---- where paths are complete, each is there
there_told : (u : World) → ArePathsComplete u → AreAdvertsExact u → AreAdvertsThere u
there_told u complete exact k t h live there = let p = complete k t h live there in (p, exact.kept (node_of u.net.ends h.to) p.facts k p.path p.node p.there)

pub all_adverts_settle : (q : ℕ) (w : World) (rs : List (List Step)) → Rounds (machine q) rs w → AreHosts w → Hold (machine q) 0 rs w (AreBounds q)
    → Hold (machine q) (4 + 7 * longest w.net) rs w (HasSettledAdverts q)
all_adverts_settle q w rs calm hosts bounds =
    let k : ℕ = 4 + 7 * longest w.net in
    hold_map (machine q) (λ u. AreBounds q u × ((ArePathsSound u × ArePathsComplete u) × AreAdvertsExact u)) (HasSettledAdverts q)
    (λ u h. record { bounds = h.0; sound = h.1.0.0; exact = h.1.1; there = there_told u h.1.0.1 h.1.1 }) k rs w
    (hold_both (machine q) (AreBounds q) (λ u. (ArePathsSound u × ArePathsComplete u) × AreAdvertsExact u) k rs w (hold_later (machine q) (AreBounds q) 0 k rs w (omega arith) bounds)
    (hold_both (machine q) (λ u. ArePathsSound u × ArePathsComplete u) AreAdvertsExact k rs w
    (hold_later (machine q) (λ u. ArePathsSound u × ArePathsComplete u) ((4 + 5 * longest w.net) + 2 * longest w.net) k rs w (omega arith) (paths_settle q w rs calm hosts bounds))
    (hold_later (machine q) AreAdvertsExact (4 + 5 * longest w.net) k rs w (omega arith) (adverts_are_exact q w rs calm hosts bounds))))

pub adverts_settle : (q : ℕ) (w : World) (rs : List (List Step)) → Rounds (machine q) rs w → AreHosts w → Hold (machine q) 0 rs w (AreBounds q)
    → Hold (machine q) (4 + 7 * longest w.net) rs w AreAdvertsThere
adverts_settle q w rs calm hosts bounds =
    hold_map (machine q) (HasSettledAdverts q) AreAdvertsThere (λ u h. h.there) (4 + 7 * longest w.net) rs w (all_adverts_settle q w rs calm hosts bounds)
