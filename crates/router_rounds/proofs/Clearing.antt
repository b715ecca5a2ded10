-- Lanes of several sessions are cleared.
use Rattle.std.specs.Prelude.{◌≡◌, ℕ, nat_lt, true, false, List, [], ◌∷◌, ◌++◌, map as each, Some, refl}
use Rattle.std.specs.Option.{unwrap_or}
use Rattle.std.proofs.Common.{sym, ap, inl, inr, subst, ◌∙◌, ⊎_elim}
use Rattle.rsvp_base.specs.Members.{In}
use Rattle.rsvp_base.specs.Sets.{Set}
use Rattle.rsvp_base.specs.Table.{empty, get, has, keys, size}
use Rattle.rsvp_base.specs.declared.session.Session.{Session}
use Rattle.rsvp_base.proofs.Members.{in_append, to_each}
use Rattle.rsvp_base.proofs.Tables.{either}
use Rattle.style_rules.specs.Lines.{next_hops}
use Rattle.style_rules.specs.Merge.{PartTable}
use Rattle.laws_bounds.proofs.Lists.{some_is}
use Rattle.laws_bounds.proofs.Requesting.{nowhere}
use Rattle.router_rules.specs.Known.{Lane, lanes}
use Rattle.router_rules.specs.Requests.{toward}
use Rattle.router_state.specs.State.{Said, State, facts_of, said_at}
use Rattle.laws_sends.specs.Before.{lanes_by}
use Rattle.laws_sends.specs.Saying.{IsCleared, IsRoomy, SessionLane, lane_by}
use Rattle.laws_sends.proofs.Telling.{are_lanes}
use Rattle.laws_sends.specs.Several.{is_among}
use Rattle.laws_sends.proofs.Grouping.{in_among}
use Rattle.router_rounds.specs.Rounds.{AreCleared, AreRounds, SessionHops, with_hops}

-- ---- one session after another
module _ (m : State) where
  pub cleared_nothing : ((l : Lane) (t : PartTable) → get m.said l ≡ Some t → nat_lt 0 (size t) ≡ true) → AreCleared m [] m.said
  cleared_nothing some = record { at = λ c l. inl refl; gone = λ c e i d j off. absurd i; some = some }

  pub cleared_more : (es : List SessionHops) (said : Said) → AreCleared m es said → (s : Session) (hops : Set next_hops) (new : Said)
      → IsCleared (record m { said = said }) s (lanes_by (keys hops)) new
      → AreCleared m (es ++ (s, hops) ∷ []) new
  cleared_more es said done s hops new next = record {
    at = λ c l. ⊎_elim
        (λ (a : said_at new l ≡ said_at said l). ⊎_elim (λ (b : said_at said l ≡ said_at m.said l). inl (a ∙ b))
        (λ (b : (said_at said l ≡ empty) × (has (lanes (facts_of c m)) l ≡ false)). inr (a ∙ b.0, b.1)) (done.at c l))
        (λ (a : (said_at new l ≡ empty) × (has (lanes (facts_of c m)) l ≡ false)). inr (a.0, a.1)) (next.at c l);
    gone = λ c e i d j off. ⊎_elim
        (λ (k : In e es). ⊎_elim (λ (a : said_at new (lane_by e.0 d) ≡ said_at said (lane_by e.0 d)). a ∙ done.gone c e k d j off)
        (λ (a : (said_at new (lane_by e.0 d) ≡ empty) × (has (lanes (facts_of c m)) (lane_by e.0 d) ≡ false)). a.0) (next.at c (lane_by e.0 d)))
        (λ (k : In e ((s, hops) ∷ [])). last c e k d j off) (in_append e es ((s, hops) ∷ []) i);
    some = next.some;
  }
    where
      last : (c : ℕ) (e : SessionHops) → In e ((s, hops) ∷ []) → (d : SessionLane) → In d (lanes_by (keys e.1)) → has (lanes (facts_of c m)) (lane_by e.0 d) ≡ false
          → said_at new (lane_by e.0 d) ≡ empty
      last c e (inl is) d j off =
          ap (λ (z : SessionHops). said_at new (lane_by z.0 d)) is
          ∙ next.gone c d (subst (λ (z : SessionHops). In d (lanes_by (keys z.1))) is j) (ap (λ (z : SessionHops). has (lanes (facts_of c m)) (lane_by z.0 d)) (sym is) ∙ off)
      last c e (inr i) d j off = absurd i

-- ---- then nothing is kept of a lane that is no more
module _ (ss : List Session) (n m : State) (at : AreRounds ss n m) (c : ℕ) (said : Said) (cleared : AreCleared m (each (with_hops (facts_of c n)) ss) said) where
  -- what goes toward a hop before, at each clock
  pub was : (d : ℕ) (l : Lane) → said_at m.said l ≡ toward n.place (facts_of d n) l
  was d l = at.said.at d l

  -- of a lane of one of the sessions
  none_here : (d : ℕ) (l : Lane) → has (lanes (facts_of d m)) l ≡ false → is_among ss l.session ≡ true → said_at said l ≡ said_at m.said l → said_at said l ≡ empty
  none_here d l off among same =
      either (has (lanes (facts_of c n)) l)
      (λ on.
      let g = (are_lanes l.session (facts_of c n)).all l on refl in
      ap (said_at said) g.2
      ∙ cleared.gone d (with_hops (facts_of c n) l.session) (to_each (with_hops (facts_of c n)) l.session ss (in_among ss l.session among)) g.0 g.1
      (ap (λ z. has (lanes (facts_of d m)) z) (sym g.2) ∙ off))
      (λ none. same ∙ was c l ∙ nowhere n.place (facts_of c n) l none)

  pub none_left : (d : ℕ) (l : Lane) → has (lanes (facts_of d m)) l ≡ false → said_at said l ≡ empty
  none_left d l off =
      ⊎_elim
      (λ (a : said_at said l ≡ said_at m.said l).
      either (is_among ss l.session) (λ t. none_here d l off t a) (λ t. a ∙ was d l ∙ at.others d l t ∙ nowhere m.place (facts_of d m) l off))
      (λ (b : (said_at said l ≡ empty) × (has (lanes (facts_of d m)) l ≡ false)). b.0)
      (cleared.at d l)

  -- what is kept of one that is there is what was said
  pub as_said : (d : ℕ) (l : Lane) → has (lanes (facts_of d m)) l ≡ true → said_at said l ≡ said_at m.said l
  as_said d l on =
      ⊎_elim (λ (a : said_at said l ≡ said_at m.said l). a) (λ (b : (said_at said l ≡ empty) × (has (lanes (facts_of d m)) l ≡ false)). let z : true ≡ false = sym on ∙ b.1 in absurd (cc))
      (cleared.at d l)

  pub cleared_roomy : IsRoomy m said
  cleared_roomy = record {
    some = cleared.some;
    within = λ d l h.
        either (has (lanes (facts_of d m)) l) (λ t. t)
        (λ off.
        let g = some_is (get said l) h in
        let z : false ≡ true = sym (ap (λ (v : PartTable). nat_lt 0 (size v)) (sym (ap (λ w. unwrap_or w empty) g.1) ∙ none_left d l off)) ∙ cleared.some l g.0 g.1 in
        absurd (cc));
  }
