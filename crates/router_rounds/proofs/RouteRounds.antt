-- Other routes than before are rounds over all sessions that have paths.
use Rattle.std.specs.Prelude.{◌≡◌, ℕ, ◌++◌, ◌||◌, Bool, true, false, cond, is_some, List, [], ◌∷◌, map as each, Option, Some, None, refl}
use Rattle.std.specs.List.{filter, flat_map}
use Rattle.std.specs.Option.{option_map}
use Rattle.std.proofs.Common.{sym, ap, subst, inl, inr, ◌∙◌}
use Rattle.std.proofs.lemmas.List.Concat.{flat_map-append}
use Rattle.rsvp_base.specs.Members.{In}
use Rattle.rsvp_base.specs.Table.{changed, empty, get, has, keys}
use Rattle.rsvp_base.specs.TokenBucket.{TokenBucket}
use Rattle.rsvp_base.specs.declared.session.Sender.{Sender}
use Rattle.rsvp_base.specs.declared.session.Session.{Session}
use Rattle.rsvp_base.proofs.Counts.{in_found}
use Rattle.rsvp_base.proofs.Filters.{flat_each}
use Rattle.rsvp_base.proofs.Members.{in_each}
use Rattle.rsvp_base.proofs.SetLaws.{or_right}
use Rattle.rsvp_base.proofs.Tables.{either}
use Rattle.style_rules.specs.Toward.{or_else}
use Rattle.laws_bounds.proofs.Knowing.{counted_made, has-known, lanes_told}
use Rattle.laws_bounds.proofs.Requesting.{nowhere}
use Rattle.router_rules.specs.Act.{act}
use Rattle.router_rules.specs.Facts.{Facts, PathState, SenderKey, sender_keys}
use Rattle.router_rules.specs.Inputs.{Change, Moved}
use Rattle.router_rules.specs.Known.{Lane, known, lanes}
use Rattle.router_rules.specs.NodeConfig.{NodeConfig}
use Rattle.router_rules.specs.Offers.{Offer, own_offer, path_offer}
use Rattle.router_rules.specs.Rule.{facts_after, sent_after, settled}
use Rattle.router_rules.specs.Sends.{sends, unmarked, used_marks}
use Rattle.router_state.specs.State.{State, facts_of}
use Rattle.router_state.proofs.Counted.{same_settles}
use Rattle.laws_sends.specs.Before.{lanes_by}
use Rattle.laws_sends.specs.Saying.{SessionLane, lane_by}
use Rattle.laws_sends.specs.Told.{offered}
use Rattle.laws_sends.proofs.Telling.{are_lanes}
use Rattle.laws_sends.specs.Several.{is_among, known_offers, offer_of, offers_for, offers_in, paths_of, tears_of}
use Rattle.laws_sends.proofs.Blocks.{known_at}
use Rattle.laws_sends.proofs.Laned.{rerouting_is_told}
use Rattle.laws_sends.proofs.Ordered.{offers_grouped}
use Rattle.router_aging.proofs.Offers.{known_keys}
use Rattle.router_rounds.specs.RouteRounds.{IsMovedOver, MoveIsRounds, new_ways, rerouted, torn_ways}
use Rattle.router_rounds.specs.Rounds.{AreCleared, AreRounds, SessionHops, told_round, torn_near, wants_told, with_hops}
use Rattle.router_rounds.proofs.Clocks.{lane_clock}
use Rattle.router_rounds.proofs.RoundClaims.{rounds_are_marked, rounds_are_told, rounds_are_torn}

-- of all a test finds all
whole : {A : Type 0} (t : A → Bool) (xs : List A) → ((x : A) → In x xs → t x ≡ true) → filter t xs ≡ xs
whole t [] h = refl
whole t (x ∷ xs) h = ap (λ b. cond b (x ∷ filter t xs) (filter t xs)) (h x (inl refl)) ∙ ap (λ ys. x ∷ ys) (whole t xs (λ y i. h y (inr i)))

module _ (ss : List Session) (p : NodeConfig) (n : State) (at : IsMovedOver ss n) where
  abbrev m : State
  m = rerouted p n

  -- a session with a previous hop, or a known sender, has a countdown
  has_known : (c : ℕ) (s : Session) (x : Sender) → has (known (facts_of c n) s) x ≡ true → is_among ss s ≡ true
  has_known c s x h = at.all s (at.settled.counted c s ∙ counted_made (facts_of c n) s x h)

  has_lane : (c : ℕ) (l : Lane) → has (lanes (facts_of c n)) l ≡ true → is_among ss l.session ≡ true
  has_lane c l h =
      let r = lanes_told (facts_of c n) l h in
      has_known c l.session r.0 (has-known (facts_of c n) l.session r.0 ∙ or_right (has n.senders (l.session, r.0)) (has (facts_of c n).paths (l.session, r.0)) (ap is_some r.1.there))

  no_lane : (c : ℕ) (l : Lane) → is_among ss l.session ≡ false → has (lanes (facts_of c n)) l ≡ false
  no_lane c l off = either (has (lanes (facts_of c n)) l) (λ t. let z : true ≡ false = sym (has_lane c l t) ∙ off in absurd (cc)) (λ e. e)

  are_rounds : AreRounds ss n m
  are_rounds = record {
    sessions = at.sessions;
    said = at.said;
    others = λ c l off. nowhere n.place (facts_of c n) l (no_lane c l off) ∙ sym (nowhere p (facts_of c n) l (no_lane c l off));
  }

  -- each lane is there still
  are_cleared : (c : ℕ) → AreCleared m (each (with_hops (facts_of c n)) ss) n.said
  are_cleared c = record {
    at = λ d l. inl refl;
    gone = λ d e i q j off. let k = in_each (with_hops (facts_of c n)) e ss i in absurd (there c d e k.0 k.2 q j off);
    some = at.said.some;
  }
    where
      there : (c d : ℕ) (e : SessionHops) (s : Session) → e ≡ with_hops (facts_of c n) s → (q : SessionLane) → In q (lanes_by (keys e.1)) → has (lanes (facts_of d m)) (lane_by e.0 q) ≡ false → ⊥
      there c d e s is q j off =
          let i = subst (λ (z : SessionHops). In q (lanes_by (keys z.1))) is j in
          let on = lane_clock n c d (lane_by s q) ((are_lanes s (facts_of c n)).only q i) in
          let z : true ≡ false = sym on ∙ ap (λ (z : SessionHops). has (lanes (facts_of d n)) (lane_by z.0 q)) (sym is) ∙ off in
          cc

  module _ (c : ℕ) where
    abbrev f : Facts
    f = facts_of c n

    abbrev k : Change
    k = act p c Moved f

    -- ---- senders, session after session
    known_of : (q : SenderKey) (o : Offer) → offered f q ≡ Some o → has (known f q.0) q.1 ≡ true
    known_of q o e = has-known f q.0 q.1 ∙ by (get f.senders q) (get f.paths q) ∙ ap is_some e
      where
        by : (v : Option TokenBucket) (w : Option PathState)
            → (is_some v || is_some w) ≡ is_some (or_else {X = Offer} (option_map (own_offer (has f.advertised q)) v) (option_map path_offer w))
        by (Some v) w = refl
        by None (Some w) = refl
        by None None = refl

    offer_among : (e : SenderKey × Offer) → In e (known_offers f).rows → is_among ss e.0.0 ≡ true
    offer_among e i = has_known c e.0.0 e.0.1 (known_of e.0 e.1 (sym (known_at f e.0) ∙ in_found sender_keys (known_offers f) e.0 e.1 i))

    offers_all : (known_offers f).rows ≡ offers_for ss f
    offers_all = sym (whole (λ e. is_among ss e.0.0) (known_offers f).rows offer_among) ∙ offers_grouped ss at.sessions f

    tears_one : (s : Session) → flat_map (λ e. tears_of n.place p f f e.0) (each (offer_of s) (offers_in f s).rows) ≡ torn_ways n.place c m s
    tears_one s =
        flat_each (offer_of s) (λ e. tears_of n.place p f f e.0) (offers_in f s).rows ∙ sym (flat_each (λ (e : Sender × Offer). e.0) (λ x. tears_of n.place p f f (s, x)) (offers_in f s).rows)
        ∙ ap (flat_map (λ x. tears_of n.place p f f (s, x))) (sym (known_keys f s))

    tears_all : (xs : List Session) → flat_map (λ e. tears_of n.place p f f e.0) (offers_for xs f) ≡ flat_map (torn_ways n.place c m) xs
    tears_all [] = refl
    tears_all (s ∷ xs) = flat_map-append (λ e. tears_of n.place p f f e.0) (each (offer_of s) (offers_in f s).rows) (offers_for xs f) ∙ (λ i. tears_one s i ++ tears_all xs i)

    paths_all : (xs : List Session) → flat_map (paths_of n.place p f f empty) (offers_for xs f) ≡ flat_map (new_ways n.place c m) xs
    paths_all [] = refl
    paths_all (s ∷ xs) = flat_map-append (paths_of n.place p f f empty) (each (offer_of s) (offers_in f s).rows) (offers_for xs f) ∙ ap (λ ys. new_ways n.place c m s ++ ys) (paths_all xs)

    -- ---- facts and sends
    same_facts : settled p c f f ≡ f
    same_facts = same_settles p c n at.settled

    facts_are : facts_of c (record m { wants = wants_told c m n.said ss }) ≡ facts_after n.place p c Moved f
    unfolding facts_after
    facts_are =
        let marks = rounds_are_marked ss n m are_rounds c c n.said (are_cleared c) in
        (λ i. record f { wants = marks i }) ∙ ap (λ (z : Facts). record z { wants = changed (unmarked (used_marks n.place p f z None)) z.wants }) (sym same_facts)

    sent_is : flat_map (torn_ways n.place c m) ss ++ (flat_map (torn_near c m n.said) (each (with_hops f) ss) ++
        (flat_map (new_ways n.place c m) ss ++ flat_map (λ s. told_round c m false n.said s) ss)) ≡ sent_after n.place p c Moved f
    unfolding sent_after
    sent_is =
        let old = n.place in
        let tears = sym (flat_each (λ (e : SenderKey × Offer). e.0) (tears_of old p f f) (known_offers f).rows ∙ ap (flat_map (λ e. tears_of old p f f e.0)) offers_all ∙ tears_all ss) in
        let torn = rounds_are_torn ss n m are_rounds c c in
        let paths = sym (ap (flat_map (paths_of old p f f empty)) offers_all ∙ paths_all ss) in
        let told = rounds_are_told ss n m are_rounds c c n.said (are_cleared c) empty in
        (λ i. tears i ++ (torn i ++ (paths i ++ told i)))
        ∙ sym (rerouting_is_told old p ss f k (record { sessions = at.sessions; all = has_lane c; errors = refl; confs = refl; asked = refl }))
        ∙ ap (λ (z : Facts). sends old p f z k) (sym same_facts)

pub move_is_rounds : MoveIsRounds
move_is_rounds = record { rounds = are_rounds; cleared = are_cleared; facts = facts_are; sent = sent_is }
