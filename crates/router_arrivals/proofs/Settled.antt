-- Wants and blockades take no part in what is known, nor in what is due, and a reservation only by the names that it has: where
-- they change, the facts are settled still.
use Rattle.std.specs.Prelude.{◌≡◌, ◌⊎◌, ℕ, Bool, true, Option, Some, None}
use Rattle.std.proofs.Common.{inl, inr, sym, ap, ◌∙◌}
use Rattle.rsvp_base.specs.Orders.{Names}
use Rattle.rsvp_base.specs.Table.{get, put_in}
use Rattle.rsvp_base.specs.TokenBucket.{TokenBucket}
use Rattle.rsvp_base.specs.declared.session.Session.{Session}
use Rattle.rsvp_base.specs.declared.style.StyleKind.{StyleKind}
use Rattle.rsvp_base.specs.declared.style.StyleKind.TheVariants.{Wild, Fixed, Shared}
use Rattle.rsvp_base.proofs.Tables.{got_put_in}
use Rattle.style_rules.specs.Lines.{LineKey, line_keys}
use Rattle.style_rules.specs.Parts.{has_name}
use Rattle.style_rules.specs.Targets.{WallKey}
use Rattle.router_rules.specs.Calls.{act_call, act_stale, call_refusal, stale_refusal, unless, wants_with, with_left}
use Rattle.router_rules.specs.Facts.{Blockade, Facts, ResvState, ResvTables, Walls, Wants, resvs_of, with_resvs}
use Rattle.router_rules.specs.Forgetting.{settle}
use Rattle.router_rules.specs.Inputs.{Local, QuitAll, StaleResv, StaleWall, WantAs}
use Rattle.router_rules.specs.NodeConfig.{NodeConfig}
use Rattle.router_rules.specs.Rule.{settled}
use Rattle.router_rules.specs.declared.answers.StaleErr.{StaleErr}
use Rattle.router_state.specs.State.{AreNamed, IsSettled, State, facts_of}
use Rattle.router_state.proofs.Counted.{same_settles}
use Rattle.router_state.proofs.Settling.{forget_none, none_lost}
use Rattle.router_arrivals.proofs.Wanting.{unless_same}

-- ---- a node between two inputs, with any wants
pub still_settled : (n : State) (w : Wants) → IsSettled n → IsSettled (record n { wants = w })
still_settled n w kept = record { counted = kept.counted; named = kept.named }

-- ---- each reservation names someone still, with one more that does
module _ (f : Facts) (named : AreNamed f) (st : StyleKind) (k : LineKey) (r : ResvState) (some : has_name r.part ≡ true) where
  one_named : (q : LineKey) (e : ResvState) → get (put_in (resvs_of st f) k r) q ≡ Some e → has_name e.part ≡ true
  one_named q e h = by (got_put_in line_keys (resvs_of st f) k r q e h)
    where
      by : ((q ≡ k) × (e ≡ r)) ⊎ (get (resvs_of st f) q ≡ Some e) → has_name e.part ≡ true
      by (inl is) = ap (λ (z : ResvState). has_name z.part) is.1 ∙ some
      by (inr was) = named st q e was

  put_named : AreNamed (with_resvs st (put_in (resvs_of st f) k r) f)
  put_named at q e h = by st at (one_named q e) h
    where
      by : (s at : StyleKind) → (get (put_in (resvs_of s f) k r) q ≡ Some e → has_name e.part ≡ true) → get (resvs_of at (with_resvs s (put_in (resvs_of s f) k r) f)) q ≡ Some e
          → has_name e.part ≡ true
      by Wild Wild one h = one h
      by Wild Fixed one h = named Fixed q e h
      by Wild Shared one h = named Shared q e h
      by Fixed Wild one h = named Wild q e h
      by Fixed Fixed one h = one h
      by Fixed Shared one h = named Shared q e h
      by Shared Wild one h = named Wild q e h
      by Shared Fixed one h = named Fixed q e h
      by Shared Shared one h = one h

  pub left_named : (p : NodeConfig) → AreNamed (act_stale p (StaleResv st k r) f)
  left_named p = by (stale_refusal p (StaleResv st k r) f)
    where
      by : (o : Option StaleErr) → AreNamed (unless o (with_left (StaleResv st k r) f) f)
      by None = put_named
      by (Some e) = named

-- ---- the facts
module _ (p : NodeConfig) (c : ℕ) (n : State) (kept : IsSettled n) where
  abbrev f : Facts
  f = facts_of c n

  due_same : (settle p c f).due ≡ f.due
  due_same = ap (λ (g : Facts). g.due) (same_settles p c n kept)

  -- with the same senders, paths and countdowns
  with_others : (wants : Wants) (walls : Walls) (resvs : ResvTables) → AreNamed (record f { resvs = resvs })
      → settled p c f (record f { wants = wants; walls = walls; resvs = resvs }) ≡ record f { wants = wants; walls = walls; resvs = resvs }
  with_others wants walls resvs named =
      let g : Facts = record f { wants = wants; walls = walls; resvs = resvs } in
      ap (settle p c) (forget_none f g (none_lost f g (λ s x h. h)) named) ∙ (λ i. record g { due = due_same i })

  -- the wants after a call
  abbrev after : Local → Wants
  after l = unless (call_refusal p l f) (wants_with l n.wants) n.wants

  called : (l : Local) (g : Facts) → record f { wants = after l } ≡ g → settled p c f g ≡ g
  called l g is = ap (settled p c f) (sym is) ∙ with_others (after l) f.walls f.resvs (kept.named c) ∙ is

  pub want_settled : (s : Session) (st : StyleKind) (names : Names) (flow : TokenBucket) (mark : Bool)
      → settled p c f (act_call p (WantAs s st names flow mark) f).facts ≡ (act_call p (WantAs s st names flow mark) f).facts
  want_settled s st names flow mark =
      let l : Local = WantAs s st names flow mark in
      called l (act_call p l f).facts (λ i. record f { senders = unless_same (call_refusal p l f) f.senders i; advertised = unless_same (call_refusal p l f) f.advertised i; wants = after l })

  pub quit_settled : (s : Session) → settled p c f (act_call p (QuitAll s) f).facts ≡ (act_call p (QuitAll s) f).facts
  quit_settled s =
      let l : Local = QuitAll s in
      called l (act_call p l f).facts (λ i. record f { senders = unless_same (call_refusal p l f) f.senders i; advertised = unless_same (call_refusal p l f) f.advertised i; wants = after l })

  -- ---- what is left over
  same_settled : settled p c f f ≡ f
  same_settled = same_settles p c n kept

  pub wall_settled : (k : WallKey) (b : Blockade) → settled p c f (act_stale p (StaleWall k b) f) ≡ act_stale p (StaleWall k b) f
  wall_settled k b = by (stale_refusal p (StaleWall k b) f)
    where
      by : (o : Option StaleErr) → settled p c f (unless o (with_left (StaleWall k b) f) f) ≡ unless o (with_left (StaleWall k b) f) f
      by None = with_others f.wants (put_in f.walls k b) f.resvs (kept.named c)
      by (Some e) = same_settled

  pub resv_settled : (st : StyleKind) (k : LineKey) (r : ResvState) → has_name r.part ≡ true → settled p c f (act_stale p (StaleResv st k r) f) ≡ act_stale p (StaleResv st k r) f
  resv_settled st k r some = by (stale_refusal p (StaleResv st k r) f)
    where
      by : (o : Option StaleErr) → settled p c f (unless o (with_left (StaleResv st k r) f) f) ≡ unless o (with_left (StaleResv st k r) f) f
      by None = let g : Facts = with_resvs st (put_in (resvs_of st f) k r) f in with_others f.wants f.walls g.resvs (put_named f (kept.named c) st k r some)
      by (Some e) = same_settled
