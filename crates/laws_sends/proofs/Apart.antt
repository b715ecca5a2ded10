-- Where one sender changed, the facts of other sessions and the offers of other senders are as they were.
use Rattle.std.specs.Prelude.{◌≡◌, ℕ, Bool, true, false, cond, not, is_some, Some, None, refl}
use Rattle.std.specs.Option.{option_map}
use Rattle.std.specs.Ordering.{eq_by_cmp}
use Rattle.std.proofs.Common.{sym, ap, ◌∙◌}
use Rattle.router_state.specs.PathState.Paths.{path_keys}
use Rattle.router_state.specs.PathState.declared.fact.PathFact.{PathFact}
use Rattle.rsvp_base.specs.Keys.{pairs}
use Rattle.rsvp_base.specs.Orders.{sessions, senders, units}
use Rattle.rsvp_base.specs.Table.{changed, get, put_in, without}
use Rattle.rsvp_base.specs.TokenBucket.{TokenBucket}
use Rattle.rsvp_base.specs.declared.session.Session.{Session}
use Rattle.rsvp_base.specs.declared.style.StyleKind.{StyleKind}
use Rattle.rsvp_base.specs.declared.style.StyleKind.TheVariants.{Wild, Fixed, Shared}
use Rattle.rsvp_base.proofs.Tables.{either, get-changed, get-put_in_other, get-without, same_table, then_do, tied_same, tied_self}
use Rattle.rsvp_base.proofs.UnderLaws.{get-under}
use Rattle.router_state.specs.StyleRules.Lines.{LineKey, line_keys, next_hops}
use Rattle.router_state.specs.StyleRules.Targets.{wall_keys}
use Rattle.router_state.specs.StyleRules.Toward.{or_else}
use Rattle.router_state.specs.RouterRules.Facts.{ResvState, SenderKey, paths_in, resvs_in, resvs_of, sender_keys, senders_in, wants_in}
use Rattle.router_state.specs.RouterRules.Offers.{OfferKey, offers, own_offer, path_offer}
use Rattle.router_state.specs.RouterRules.NodeConfig.{NodeConfig}
use Rattle.router_state.specs.FactLaws.{is_way}
use Rattle.router_state.proofs.Offering.{offers_by_way}
use Rattle.router_state.specs.Changes.{advertised_put, paths_put, paths_without, recounted, senders_put, senders_without}
use Rattle.router_state.specs.State.{State, facts_of, path_at, resv_at, table_in, wall_at}
use Rattle.laws_sends.specs.Changed.{IsChangedFor}
use Rattle.laws_sends.specs.SendsHere.{AreSameOf, IsChangedAt}

pub resvs_at : (st : StyleKind) (c : ℕ) (n : State) → resvs_of st (facts_of c n) ≡ changed (resv_at c) (table_in st n)
resvs_at Wild c n = refl
resvs_at Fixed c n = refl
resvs_at Shared c n = refl

-- a sender of another session is another sender
pub session_apart : (k j : SenderKey) → eq_by_cmp sessions.cmp k.0 j.0 ≡ false → eq_by_cmp sender_keys.cmp k j ≡ false
session_apart k j off =
    either (eq_by_cmp sender_keys.cmp k j)
    (λ t. let e = tied_same sender_keys k j t in let z : true ≡ false = sym (tied_self sessions k.0) ∙ ap (λ (x : SenderKey). eq_by_cmp sessions.cmp k.0 x.0) e ∙ off in absurd (cc))
    (λ f. f)

module _ (k : SenderKey) (n m : State) (ch : IsChangedFor k n m) (c : ℕ) where
  path_same : (j : SenderKey) → eq_by_cmp sender_keys.cmp k j ≡ false → get (facts_of c n).paths j ≡ get (facts_of c m).paths j
  path_same j off = get-changed path_keys (path_at c) n.paths j ∙ ap (λ w. then_do w (path_at c j)) (ch.paths j off) ∙ sym (get-changed path_keys (path_at c) m.paths j)

  same_of : (s : Session) → eq_by_cmp sessions.cmp k.0 s ≡ false → AreSameOf s (facts_of c n) (facts_of c m)
  same_of s off = record {
    senders = same_table senders (senders_in (facts_of c n) s) (senders_in (facts_of c m) s)
        (λ x. get-under sessions senders n.senders s x ∙ ch.senders (s, x) (session_apart k (s, x) off) ∙ sym (get-under sessions senders m.senders s x));
    advertised = λ x. ch.advertised (s, x) (session_apart k (s, x) off);
    paths = same_table senders (paths_in (facts_of c n) s) (paths_in (facts_of c m) s) (λ x. get-under sessions senders (facts_of c n).paths s x ∙ path_same (s, x) (session_apart k (s, x) off)
        ∙ sym (get-under sessions senders (facts_of c m).paths s x));
    wants = same_table units (wants_in (facts_of c n) s) (wants_in (facts_of c m) s) (λ u. get-under sessions units n.wants s u ∙ ch.wants (s, u) off ∙ sym (get-under sessions units m.wants s u));
    resvs = λ st.
        same_table (pairs next_hops units) (resvs_in st (facts_of c n) s) (resvs_in st (facts_of c m) s) (λ q.
        get-under sessions (pairs next_hops units) (resvs_of st (facts_of c n)) s q ∙ resv_same st (s, q) off ∙ sym (get-under sessions (pairs next_hops units) (resvs_of st (facts_of c m)) s q));
    walls = λ t. get-changed wall_keys (wall_at c) n.walls (s, t) ∙ ap (λ w. then_do w (wall_at c (s, t))) (ch.walls (s, t) off) ∙ sym (get-changed wall_keys (wall_at c) m.walls (s, t));
  }
    where
      resv_same : (st : StyleKind) (q : LineKey) → eq_by_cmp sessions.cmp k.0 q.0 ≡ false → get (resvs_of st (facts_of c n)) q ≡ get (resvs_of st (facts_of c m)) q
      resv_same st q off =
          ap (λ t. get t q) (resvs_at st c n) ∙ get-changed line_keys (resv_at c) (table_in st n) q ∙ ap (λ w. then_do w (resv_at c q)) (ch.resvs st q off)
          ∙ sym (get-changed line_keys (resv_at c) (table_in st m) q) ∙ sym (ap (λ t. get t q) (resvs_at st c m))

  pub changed_at : (p : NodeConfig) → IsChangedAt p k (facts_of c n) (facts_of c m)
  changed_at p = record {
    elsewhere = same_of;
    others = λ j off.
        offers_by_way p (facts_of c n) j
        ∙ (λ i. cond (is_way p j) (or_else (option_map (own_offer (ch.advertised (j.session, j.sender) off i)) (ch.senders (j.session, j.sender) off i)) (option_map path_offer (path_same (j.session, j.sender) off i))) None)
        ∙ sym (offers_by_way p (facts_of c m) j);
  }

-- ---- one more or less
turned : (k j : SenderKey) → eq_by_cmp sender_keys.cmp k j ≡ false → eq_by_cmp sender_keys.cmp j k ≡ false
turned k j off =
    either (eq_by_cmp sender_keys.cmp j k)
    (λ t. let e = tied_same sender_keys j k t in let z : true ≡ false = sym (ap (eq_by_cmp sender_keys.cmp k) e ∙ tied_self sender_keys k) ∙ off in absurd (cc))
    (λ f. f)

module _ (n : State) (k : SenderKey) where
  -- a path that is learnt
  pub path_put : (fact : PathFact) (left : ℕ) → IsChangedFor k n (paths_put n k fact left)
  path_put fact left = record {
    place = refl;
    senders = λ j off. refl;
    advertised = λ j off. refl;
    paths = λ j off. sym (get-put_in_other path_keys n.paths k (fact, left) j (turned k j off));
    wants = λ j off. refl;
    walls = λ j off. refl;
    resvs = same;
  }
    where
      same : (st : StyleKind) (q : LineKey) → eq_by_cmp sessions.cmp k.0 q.0 ≡ false → get (table_in st n) q ≡ get (table_in st (paths_put n k fact left)) q
      same Wild q off = refl
      same Fixed q off = refl
      same Shared q off = refl

  -- a path that is gone
  pub path_out : IsChangedFor k n (paths_without n k)
  path_out = record {
    place = refl;
    senders = λ j off. refl;
    advertised = λ j off. refl;
    paths = λ j off. sym (get-without path_keys n.paths k j ∙ ap (λ b. cond (not b) (get n.paths j) None) off);
    wants = λ j off. refl;
    walls = λ j off. refl;
    resvs = same;
  }
    where
      same : (st : StyleKind) (q : LineKey) → eq_by_cmp sessions.cmp k.0 q.0 ≡ false → get (table_in st n) q ≡ get (table_in st (paths_without n k)) q
      same Wild q off = refl
      same Fixed q off = refl
      same Shared q off = refl

  -- a local sender that begins or changes
  pub sender_put : (tspec : TokenBucket) → IsChangedFor k n (senders_put n k tspec)
  sender_put tspec = record {
    place = refl;
    senders = λ j off. sym (get-put_in_other sender_keys n.senders k tspec j (turned k j off));
    advertised = λ j off. refl;
    paths = λ j off. refl;
    wants = λ j off. refl;
    walls = λ j off. refl;
    resvs = same;
  }
    where
      same : (st : StyleKind) (q : LineKey) → eq_by_cmp sessions.cmp k.0 q.0 ≡ false → get (table_in st n) q ≡ get (table_in st (senders_put n k tspec)) q
      same Wild q off = refl
      same Fixed q off = refl
      same Shared q off = refl

  -- a local sender that is gone
  pub sender_out : IsChangedFor k n (senders_without n k)
  sender_out = record {
    place = refl;
    senders = λ j off. sym (get-without sender_keys n.senders k j ∙ ap (λ b. cond (not b) (get n.senders j) None) off);
    advertised = λ j off. sym (ap is_some (get-without sender_keys n.advertised k j ∙ ap (λ b. cond (not b) (get n.advertised j) None) off));
    paths = λ j off. refl;
    wants = λ j off. refl;
    walls = λ j off. refl;
    resvs = same;
  }
    where
      same : (st : StyleKind) (q : LineKey) → eq_by_cmp sessions.cmp k.0 q.0 ≡ false → get (table_in st n) q ≡ get (table_in st (senders_without n k)) q
      same Wild q off = refl
      same Fixed q off = refl
      same Shared q off = refl

-- a local sender that is advertised
pub sender_advertised : (n : State) (k : SenderKey) → IsChangedFor k n (advertised_put n k)
sender_advertised n k = record {
  place = refl;
  senders = λ j off. refl;
  advertised = λ j off. sym (ap is_some (get-put_in_other sender_keys n.advertised k tt j (turned k j off)));
  paths = λ j off. refl;
  wants = λ j off. refl;
  walls = λ j off. refl;
  resvs = same;
}
  where
    same : (st : StyleKind) (q : LineKey) → eq_by_cmp sessions.cmp k.0 q.0 ≡ false → get (table_in st n) q ≡ get (table_in st (advertised_put n k)) q
    same Wild q off = refl
    same Fixed q off = refl
    same Shared q off = refl

-- countdowns are no sender's
pub recounted_change : (k : SenderKey) (n m : State) (s : Session) (counts : Bool) → IsChangedFor k n m → IsChangedFor k n (recounted m s counts)
recounted_change k n m s counts ch = record { place = ch.place; senders = ch.senders; advertised = ch.advertised; paths = ch.paths; wants = ch.wants; walls = ch.walls; resvs = same }
  where
    same : (st : StyleKind) (q : LineKey) → eq_by_cmp sessions.cmp k.0 q.0 ≡ false → get (table_in st n) q ≡ get (table_in st (recounted m s counts)) q
    same Wild q off = ch.resvs Wild q off
    same Fixed q off = ch.resvs Fixed q off
    same Shared q off = ch.resvs Shared q off
