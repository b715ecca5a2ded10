-- Where nothing goes elsewhere than before, no lane is told anything: a path that is heard again by the same hop.
use Rattle.std.specs.Prelude.{◌≡◌, ℕ, ◌+◌, true, false, cond, List, [], ◌∷◌, ◌++◌, Option, Some, None, refl}
use Rattle.std.specs.List.{cons_option, filter_map, flat_map}
use Rattle.std.specs.Ordering.{eq_by_cmp}
use Rattle.std.proofs.Common.{sym, ap, ◌∙◌}
use Rattle.std.proofs.lemmas.Option.{same_Some}
use Rattle.router_state.specs.PathState.Paths.{path_keys}
use Rattle.router_state.specs.PathState.declared.fact.PathFact.{PathFact}
use Rattle.rsvp_base.specs.Orders.{senders, sessions}
use Rattle.rsvp_base.specs.Table.{changed, empty, get, has, keys, put_in}
use Rattle.rsvp_base.specs.declared.session.Sender.{Sender}
use Rattle.rsvp_base.specs.declared.session.Session.{Session}
use Rattle.rsvp_base.proofs.SetLaws.{same_set}
use Rattle.rsvp_base.proofs.Tables.{either, get-changed, get-put_in, then_do, tied_same}
use Rattle.router_state.specs.StyleRules.Lines.{NextHop}
use Rattle.router_state.specs.RouterRules.Facts.{Facts, PathState, SenderKey}
use Rattle.router_state.specs.RouterRules.Inputs.{only_heard}
use Rattle.router_state.specs.RouterRules.Known.{Lane, via}
use Rattle.router_state.specs.RouterRules.Offers.{Offer}
use Rattle.router_state.specs.RouterRules.NodeConfig.{NodeConfig}
use Rattle.router_state.specs.RouterRules.Requests.{toward}
use Rattle.router_state.specs.RouterRules.Sends.{resv_send_to, resv_tear, sends}
use Rattle.router_state.specs.RouterRules.declared.answers.Heard.{Heard}
use Rattle.router_state.proofs.Knowing.{via_made, via_told}
use Rattle.router_state.proofs.Tests.{came_tested, came_told}
use Rattle.router_state.specs.Changes.{paths_put}
use Rattle.router_state.specs.State.{State, facts_of, path_at}
use Rattle.router_state.proofs.Routed.{same_test}
use Rattle.laws_sends.specs.SendsHere.{AreSameOff, hops_in, lanes_at, sent_at}
use Rattle.laws_sends.specs.Told.{offered, told_gone, told_new}
use Rattle.laws_sends.proofs.Changing.{one_sender_is_told}
use Rattle.laws_sends.proofs.Elsewhere.{no_send, no_tear, toward_alike}
use Rattle.laws_sends.proofs.Onward.{told_same}

module _ (p : NodeConfig) (f g : Facts) (same : (l : Lane) → toward p f l ≡ toward p g l) where
  pub no_tears : (ls : List Lane) → flat_map (resv_tear p p f g) ls ≡ []
  no_tears [] = refl
  no_tears (l ∷ ls) = ap (λ ss. ss ++ flat_map (resv_tear p p f g) ls) (no_tear p f g l (same l)) ∙ no_tears ls

  pub no_sends : (ls : List Lane) → filter_map (resv_send_to p p f g empty None) ls ≡ []
  no_sends [] = refl
  no_sends (l ∷ ls) = ap (λ w. cons_option w (filter_map (resv_send_to p p f g empty None) ls)) (no_send p f g l (same l) empty None refl) ∙ no_sends ls

  -- a sender that is offered still is told of where that is new
  pub only_paths : (k : SenderKey) (o : Offer) → offered g k ≡ Some o → sent_at p k f g ≡ told_new p k (offered f k) (offered g k)
  only_paths k o there =
      let torn = no_tears (lanes_at k.0 (keys (hops_in f k.0))) in
      let sent = no_sends (lanes_at k.0 (keys (hops_in g k.0))) in
      let gone = still (offered f k) in
      (λ i. gone i ++ (torn i ++ (told_new p k (offered f k) (offered g k) ++ sent i))) ∙ none_behind (told_new p k (offered f k) (offered g k))
    where
      still : (w : Option Offer) → told_gone p k w (offered g k) ≡ []
      still None = refl
      still (Some x) = ap (told_gone p k (Some x)) there

      none_behind : {A : Type 0} (xs : List A) → xs ++ [] ≡ xs
      none_behind [] = refl
      none_behind (x ∷ xs) = ap (λ ys. x ∷ ys) (none_behind xs)

-- where nothing changed, nothing is sent
pub nothing_sent : (p : NodeConfig) (f : Facts) (h : Heard) → sends p p f f (only_heard h f) ≡ []
nothing_sent p f h =
    let k : SenderKey = (record { group = record { 0 = 0 }; proto = 0; port = 0 }, record { addr = record { 0 = 0 }; port = 0 }) in
    let torn = no_tears p f f (λ l. refl) (lanes_at k.0 (keys (hops_in f k.0))) in
    let sent = no_sends p f f (λ l. refl) (lanes_at k.0 (keys (hops_in f k.0))) in
    let gone = gone_same k (offered f k) in
    let new = told_same p k (offered f k) in
    let same : AreSameOff (eq_by_cmp sessions.cmp k.0) f f = λ s off. record { senders = refl; advertised = λ x. refl; paths = refl; wants = refl; resvs = λ st. refl; walls = λ t. refl } in
    one_sender_is_told p k f f h (record { elsewhere = same; others = λ j off. refl })
    ∙ (λ i. gone i ++ (torn i ++ (new i ++ sent i)))
  where
    gone_same : (k : SenderKey) (w : Option Offer) → told_gone p k w w ≡ []
    gone_same k None = refl
    gone_same k (Some o) = refl

-- ---- a path that is heard again by the same hop
-- what a fact says at a clock
abbrev state_of : ℕ → PathFact → ℕ → PathState
state_of c fact left = record { iface = fact.iface; hop = fact.hop; tspec = fact.tspec; police = fact.police; adspec = fact.adspec; dies = c + left }

module _ (n : State) (k : SenderKey) (old : PathFact × ℕ) (there : get n.paths k ≡ Some old) (fact : PathFact) (left : ℕ) (iface : old.0.iface ≡ fact.iface) (addr : old.0.hop.addr ≡ fact.hop.addr)
    (c : ℕ) where
  abbrev after : State
  after = paths_put n k fact left

  was_at : (j : SenderKey) → get (facts_of c n).paths j ≡ then_do (get n.paths j) (path_at c j)
  was_at j = get-changed path_keys (path_at c) n.paths j

  now_at : (j : SenderKey) → get (facts_of c after).paths j ≡ then_do (cond (eq_by_cmp path_keys.cmp j k) (Some (fact, left)) (get n.paths j)) (path_at c j)
  now_at j = get-changed path_keys (path_at c) (put_in n.paths k (fact, left)) j ∙ ap (λ w. then_do w (path_at c j)) (get-put_in path_keys n.paths k (fact, left) j)

  old_at : (j : SenderKey) → eq_by_cmp path_keys.cmp j k ≡ true → get (facts_of c n).paths j ≡ Some (state_of c old.0 old.1)
  old_at j t = was_at j ∙ ap (λ w. then_do w (path_at c j)) (ap (get n.paths) (tied_same path_keys j k t) ∙ there)

  new_at : (j : SenderKey) → eq_by_cmp path_keys.cmp j k ≡ true → get (facts_of c after).paths j ≡ Some (state_of c fact left)
  new_at j t = now_at j ∙ ap (λ b. then_do (cond b (Some (fact, left)) (get n.paths j)) (path_at c j)) t

  same_at : (j : SenderKey) → eq_by_cmp path_keys.cmp j k ≡ false → get (facts_of c n).paths j ≡ get (facts_of c after).paths j
  same_at j t = was_at j ∙ sym (now_at j ∙ ap (λ b. then_do (cond b (Some (fact, left)) (get n.paths j)) (path_at c j)) t)

  to : (s : Session) (hop : NextHop) (x : Sender) → has (via (facts_of c n) s hop) x ≡ true → has (via (facts_of c after) s hop) x ≡ true
  to s hop x h =
      let t = via_told (facts_of c n) s hop x h in
      let came = came_told hop t.path t.by in
      either (eq_by_cmp path_keys.cmp (s, x) k)
      (λ e.
      let is = same_Some _ _ (sym t.there ∙ old_at (s, x) e) in
      via_made (facts_of c after) s hop x (record {
        path = state_of c fact left;
        there = new_at (s, x) e;
        by = came_tested hop (state_of c fact left) (sym iface ∙ ap (λ (y : PathState). y.iface) (sym is) ∙ came.0, sym addr ∙ ap (λ (y : PathState). y.hop.addr) (sym is) ∙ came.1);
      }))
      (λ e. via_made (facts_of c after) s hop x (record { path = t.path; there = sym (same_at (s, x) e) ∙ t.there; by = t.by }))

  from : (s : Session) (hop : NextHop) (x : Sender) → has (via (facts_of c after) s hop) x ≡ true → has (via (facts_of c n) s hop) x ≡ true
  from s hop x h =
      let t = via_told (facts_of c after) s hop x h in
      let came = came_told hop t.path t.by in
      either (eq_by_cmp path_keys.cmp (s, x) k)
      (λ e.
      let is = same_Some _ _ (sym t.there ∙ new_at (s, x) e) in
      via_made (facts_of c n) s hop x (record {
        path = state_of c old.0 old.1;
        there = old_at (s, x) e;
        by = came_tested hop (state_of c old.0 old.1) (iface ∙ ap (λ (y : PathState). y.iface) (sym is) ∙ came.0, addr ∙ ap (λ (y : PathState). y.hop.addr) (sym is) ∙ came.1);
      }))
      (λ e. via_made (facts_of c n) s hop x (record { path = t.path; there = same_at (s, x) e ∙ t.there; by = t.by }))

  pub toward_refreshed : (p : NodeConfig) (l : Lane) → toward p (facts_of c n) l ≡ toward p (facts_of c after) l
  toward_refreshed p l = toward_alike (facts_of c n) (facts_of c after) l (same_set senders _ _ (λ x. same_test _ _ (to l.session l.hop x) (from l.session l.hop x))) (λ t. refl) refl refl p
