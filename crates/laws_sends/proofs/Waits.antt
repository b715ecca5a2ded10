-- A wait leaves alone the sessions of which nothing dies, and what it sends is that of the others.
use Rattle.std.specs.Prelude.{◌≡◌, ℕ, ◌≤◌, ◌⊎◌, Bool, true, false, not, ◌&&◌, nat_lt, Option, Some, None, List, refl}
use Rattle.std.specs.Option.{option_map}
use Rattle.std.proofs.Common.{sym, ap, inl, inr, ◌∙◌}
use Rattle.std.proofs.lemmas.Bool.{ltb-false, ltb-true}
use Rattle.rsvp_base.specs.Keys.{pairs}
use Rattle.rsvp_base.specs.Orders.{sessions, senders, units}
use Rattle.rsvp_base.specs.Sets.{Set, union}
use Rattle.rsvp_base.specs.Table.{Table, get, has}
use Rattle.rsvp_base.specs.TokenBucket.{TokenBucket}
use Rattle.rsvp_base.specs.declared.session.Sender.{Sender}
use Rattle.rsvp_base.specs.declared.session.Session.{Session}
use Rattle.rsvp_base.specs.declared.style.StyleKind.{StyleKind}
use Rattle.rsvp_base.specs.declared.style.Unit.{Unit as UnitOf}
use Rattle.rsvp_base.proofs.Tables.{either, same_table}
use Rattle.rsvp_base.proofs.UnderLaws.{get-under}
use Rattle.style_rules.specs.Lines.{NextHop, next_hops}
use Rattle.style_rules.specs.Toward.{or_else}
use Rattle.style_rules.specs.declared.target.Target.{Target}
use Rattle.router_rules.specs.Facts.{Blockade, Facts, PathState, ResvState, SenderKey, paths_in, resvs_in, resvs_of, senders_in, sender_keys}
use Rattle.router_rules.specs.Forgetting.{is_lost}
use Rattle.router_rules.specs.Known.{Lane, keys_where, known, lanes, named_as}
use Rattle.router_rules.specs.NodeConfig.{NodeConfig}
use Rattle.router_rules.specs.Offers.{Offer, own_offer, path_offer}
use Rattle.router_rules.specs.Waiting.{act_wait}
use Rattle.router_state.proofs.Knowing.{lanes_made, lanes_told}
use Rattle.router_state.proofs.LawsBounds.Leaving.{forgetting_by_names, got_forget, waiting_leaves_the_living}
use Rattle.router_state.specs.State.{AreNamed}
use Rattle.laws_sends.specs.SendsHere.{AreSameOf}
use Rattle.laws_sends.specs.Told.{offered}
use Rattle.laws_sends.specs.SeveralLaws.{IsPassage}
use Rattle.laws_sends.specs.Waits.{IsUnharmed, IsWatched, UnharmedStays, WaitIsTold, waited}
use Rattle.laws_sends.proofs.Laned.{passage_is_told}

module _ (p : NodeConfig) (c word : ℕ) (f : Facts) where
  abbrev after : Facts
  after = (act_wait p c word f).facts

  -- ---- what is there after was there before
  path_was : (k : SenderKey) (v : PathState) → get after.paths k ≡ Some v → get f.paths k ≡ Some v
  path_was k v e = ((waiting_leaves_the_living.of_paths p c word f k v).0 e).0

  path_gone : (k : SenderKey) → get f.paths k ≡ None → get after.paths k ≡ None
  path_gone k e = by (get after.paths k) refl
    where
      by : (w : Option PathState) → get after.paths k ≡ w → w ≡ None
      by None t = refl
      by (Some v) t = let z : ◌≡◌ {A = Option PathState} (Some v) None = sym (path_was k v t) ∙ e in absurd (cc)

  wall_gone : (s : Session) (t : Target) → get f.walls (s, t) ≡ None → get after.walls (s, t) ≡ None
  wall_gone s t e = by (get after.walls (s, t)) refl
    where
      by : (w : Option Blockade) → get after.walls (s, t) ≡ w → w ≡ None
      by None h = refl
      by (Some b) h = let z : ◌≡◌ {A = Option Blockade} (Some b) None = sym ((waiting_leaves_the_living.of_walls p c word f (s, t) b).0 h).0 ∙ e in absurd (cc)

  -- ---- a session of which nothing dies
  module _ (s : Session) (named : AreNamed f) (safe : IsUnharmed c f s) where
    same_path : (x : Sender) → get f.paths (s, x) ≡ get after.paths (s, x)
    same_path x = by (get f.paths (s, x)) refl
      where
        by : (w : Option PathState) → get f.paths (s, x) ≡ w → w ≡ get after.paths (s, x)
        by None e = sym (path_gone (s, x) e)
        by (Some v) e = sym ((waiting_leaves_the_living.of_paths p c word f (s, x) v).1 (e, safe.paths x v e))

    same_paths : paths_in f s ≡ paths_in after s
    same_paths = same_table senders (paths_in f s) (paths_in after s) (λ x. get-under sessions senders f.paths s x ∙ same_path x ∙ sym (get-under sessions senders after.paths s x))

    same_known : known f s ≡ known after s
    same_known = ap (λ (t : Table senders PathState). union (keys_where (λ x tspec. true) (senders_in f s)) (keys_where (λ x path. true) t)) same_paths

    none_lost : (st : StyleKind) (x : Sender) → is_lost st f after s x ≡ false
    none_lost st x = ap (λ names. has (named_as st (known f s)) x && not (has (named_as st names) x)) (sym same_known) ∙ never (has (named_as st (known f s)) x)
      where
        never : (b : Bool) → (b && not b) ≡ false
        never true = refl
        never false = refl

    same_resv : (st : StyleKind) (k : NextHop × UnitOf) → get (resvs_of st f) (s, k) ≡ get (resvs_of st (waited p c word f)) (s, k)
    same_resv st k = by (get (resvs_of st f) (s, k)) refl
      where
        gone : get (resvs_of st f) (s, k) ≡ None → (w : Option ResvState) → get (resvs_of st (waited p c word f)) (s, k) ≡ w → None ≡ w
        gone e None h = refl
        gone e (Some x) h =
            let r = got_forget f after st (s, k) x h in
            let z : ◌≡◌ {A = Option ResvState} (Some r.0) None = sym ((waiting_leaves_the_living.of_resvs p c word f st (s, k) r.0).0 r.1).0 ∙ e in
            absurd (cc)

        by : (w : Option ResvState) → get (resvs_of st f) (s, k) ≡ w → w ≡ get (resvs_of st (waited p c word f)) (s, k)
        by None e = gone e (get (resvs_of st (waited p c word f)) (s, k)) refl
        by (Some r) e =
            sym (forgetting_by_names.stays f after st (s, k) r ((waiting_leaves_the_living.of_resvs p c word f st (s, k) r).1 (e, safe.resvs st k r e)) (named st (s, k) r e) (λ x h. none_lost st x))

    same_wall : (t : Target) → get f.walls (s, t) ≡ get after.walls (s, t)
    same_wall t = by (get f.walls (s, t)) refl
      where
        by : (w : Option Blockade) → get f.walls (s, t) ≡ w → w ≡ get after.walls (s, t)
        by None e = sym (wall_gone s t e)
        by (Some b) e = sym ((waiting_leaves_the_living.of_walls p c word f (s, t) b).1 (e, safe.walls t b e))

    stays : AreSameOf s f (waited p c word f)
    stays =
        record {
          senders = refl;
          advertised = λ x. refl;
          paths = same_paths;
          wants = refl;
          resvs = λ st. same_table (pairs next_hops units) (resvs_in st f s) (resvs_in st (waited p c word f) s)
              (λ k. get-under sessions (pairs next_hops units) (resvs_of st f) s k ∙ same_resv st k ∙ sym (get-under sessions (pairs next_hops units) (resvs_of st (waited p c word f)) s k));
          walls = same_wall;
        }

  -- ---- what is offered
  offer_was : (j : SenderKey) (o : Offer) → offered (waited p c word f) j ≡ Some o → offered f j ≡ Some o
  offer_was j o e = by (get f.senders j) (get after.paths j) refl refl e
    where
      by : (v : Option TokenBucket) (w : Option PathState) → get f.senders j ≡ v → get after.paths j ≡ w
          → or_else {X = Offer} (option_map (own_offer (has f.advertised j)) v) (option_map path_offer w) ≡ Some o → offered f j ≡ Some o
      by (Some t) w a b e = ap (λ v. or_else {X = Offer} (option_map (own_offer (has f.advertised j)) v) (option_map path_offer (get f.paths j))) a ∙ e
      by None (Some x) a b e =
          (λ i. or_else {X = Offer} (option_map (own_offer (has f.advertised j)) (a i)) (option_map path_offer (path_was j x b i))) ∙ e
      by None None a b e = absurd (cc)

  died : (j : SenderKey) (o : Offer) → offered f j ≡ Some o → offered (waited p c word f) j ≡ None → (v : PathState) × (get f.paths j ≡ Some v) × (v.dies ≤ c)
  died j o here gone = by (get f.senders j) (get f.paths j) refl refl here gone
    where
      by : (v : Option TokenBucket) (w : Option PathState) → get f.senders j ≡ v → get f.paths j ≡ w
          → or_else {X = Offer} (option_map (own_offer (has f.advertised j)) v) (option_map path_offer w) ≡ Some o
          → or_else {X = Offer} (option_map (own_offer (has f.advertised j)) (get f.senders j)) (option_map path_offer (get after.paths j))
          ≡ None
          → (v : PathState) × (get f.paths j ≡ Some v) × (v.dies ≤ c)
      by (Some t) w a b h g =
          let z : ◌≡◌ {A = Option Offer} (Some (own_offer (has f.advertised j) t)) None =
          sym (ap (λ v. or_else {X = Offer} (option_map (own_offer (has f.advertised j)) v) (option_map path_offer (get after.paths j))) a)
          ∙ g in
          absurd (cc)
      by None None a b h g = absurd (cc)
      by None (Some x) a b h g = (
        x,
        b,
        either (nat_lt c x.dies)
            (λ t.
            let lives = (waiting_leaves_the_living.of_paths p c word f j x).1 (b, ltb-true c x.dies t) in
            let z : ◌≡◌ {A = Option Offer} (Some (path_offer x)) None =
            sym (λ i. or_else {X = Offer} (option_map (own_offer (has f.advertised j)) (a i)) (option_map path_offer (lives i))) ∙ g in
            absurd (cc))
            (λ t. ltb-false c x.dies t),
      )

  lane_was : (l : Lane) → has (lanes (waited p c word f)) l ≡ true → has (lanes f) l ≡ true
  lane_was l h = let r = lanes_told (waited p c word f) l h in lanes_made f l r.0 (record { path = r.1.path; there = path_was (l.session, r.0) r.1.path r.1.there; by = r.1.by })

  passes : (ss : List Session) (dead : Set sender_keys) → AreNamed f → IsWatched ss dead p c word f → IsPassage ss dead f (waited p c word f) (act_wait p c word f)
  passes ss dead named at =
      record {
        sessions = at.sessions;
        elsewhere = λ l off there. stays l.session named (at.others l off (here l there));
        fired = at.fired;
        gone = λ j o h g. let r = died j o h g in at.dying j r.0 r.1 r.2;
        known = offer_was;
        errors = refl;
        confs = refl;
        asked = refl;
      }
    where
      here : (l : Lane) → (has (lanes f) l ≡ true) ⊎ (has (lanes (waited p c word f)) l ≡ true) → has (lanes f) l ≡ true
      here l (inl h) = h
      here l (inr h) = lane_was l h

pub unharmed_stays : UnharmedStays
unharmed_stays p c word f s named safe = stays p c word f s named safe

pub wait_is_told : WaitIsTold
wait_is_told p c word f ss dead named at = passage_is_told p ss dead f (waited p c word f) (act_wait p c word f) (passes p c word f ss dead named at)
