-- Rounds over several sessions: the claims.
use Rattle.std.specs.Prelude.{◌≡◌, ℕ, ◌++◌, true, false, not, ◌&&◌, List, [], ◌∷◌, map as each, Some, None, refl}
use Rattle.std.specs.List.{filter_map, flat_map}
use Rattle.std.specs.Option.{unwrap_or}
use Rattle.std.proofs.Common.{sym, ap, ◌∙◌}
use Rattle.std.proofs.lemmas.List.Concat.{flat_map-append}
use Rattle.std.proofs.lemmas.List.Elements.{filter_map-append}
use Rattle.rsvp_base.specs.Orders.{sessions}
use Rattle.rsvp_base.specs.Sets.{Set}
use Rattle.rsvp_base.specs.Table.{empty, get, has, keys}
use Rattle.rsvp_base.specs.declared.session.Session.{Session}
use Rattle.rsvp_base.proofs.Changed.{changed_same}
use Rattle.rsvp_base.proofs.Filters.{flat_each}
use Rattle.rsvp_base.proofs.Tables.{either}
use Rattle.laws_bounds.proofs.Lists.{none_is}
use Rattle.laws_bounds.proofs.Requesting.{nowhere}
use Rattle.router_rules.specs.Facts.{Facts, Want, want_keys}
use Rattle.router_rules.specs.Inputs.{Send}
use Rattle.router_rules.specs.Known.{Lane, lanes}
use Rattle.router_rules.specs.Requests.{toward}
use Rattle.router_rules.specs.Sends.{resv_send_to, resv_tear, unmarked, used_marks}
use Rattle.router_state.specs.State.{Said, State, facts_of, said_at}
use Rattle.laws_sends.specs.Before.{lanes_by}
use Rattle.laws_sends.specs.Saying.{IsRoomy, SessionLane, lane_by, told_lane, told_seen, torn_lane, torn_seen}
use Rattle.laws_sends.specs.SendsHere.{hops_in, lanes_at}
use Rattle.laws_sends.proofs.Telling.{are_lanes, lanes_are}
use Rattle.laws_sends.specs.Several.{is_among, lanes_for}
use Rattle.laws_sends.proofs.Laned.{lanes_are_said}
use Rattle.router_rounds.specs.Rounds.{AreCleared, AreRounds, AreTold, told_round, torn_near, unmarked_among, wants_told, with_hops}
use Rattle.router_rounds.specs.RoundLaws.{ClearedIsRoomy, RoundsAreMarked, RoundsAreSaid, RoundsAreTold, RoundsAreTorn}
use Rattle.router_rounds.proofs.Alike.{flat_among}
use Rattle.router_rounds.proofs.Clearing.{as_said, was, cleared_roomy as roomy_of}
use Rattle.router_rounds.proofs.Marking.{same_used}
use Rattle.router_rounds.proofs.Telling.{toward_kept}

-- ---- ResvTears
module _ (ss : List Session) (n m : State) (at : AreRounds ss n m) (c d : ℕ) where
  abbrev f : Facts
  f = facts_of c n

  abbrev g : Facts
  g = facts_of d m

  abbrev tear : Lane → List Send
  tear l = resv_tear n.place m.place f g l

  torn_one : (s : Session) → torn_near d m m.said (with_hops f s) ≡ flat_map tear (lanes_at s (keys (hops_in f s)))
  unfolding torn_near torn_seen
  torn_one s =
      let es : List SessionLane = lanes_by (keys (hops_in f s)) in
      flat_among (λ e. torn_lane m.place g (lane_by s e) (said_at m.said (lane_by s e))) (λ e. tear (lane_by s e)) es
      (λ e i. lanes_are_said.tears n.place m.place f g m.said (at.said.at c) (lane_by s e))
      ∙ sym (flat_each (lane_by s) tear es) ∙ ap (flat_map tear) (lanes_are s (keys (hops_in f s)))

  torn_all : (xs : List Session) → flat_map (torn_near d m m.said) (each (with_hops f) xs) ≡ flat_map tear (lanes_for xs f)
  torn_all [] = refl
  torn_all (s ∷ xs) = (λ i. torn_one s i ++ torn_all xs i) ∙ sym (flat_map-append tear (lanes_at s (keys (hops_in f s))) (lanes_for xs f))

  -- ---- Resvs
  module _ (said : Said) (cleared : AreCleared m (each (with_hops f) ss) said) (fired : Set sessions) where
    told_one : (s : Session) → told_round d m (has fired s) said s ≡ filter_map (resv_send_to n.place m.place f g fired None) (lanes_at s (keys (hops_in g s)))
    unfolding told_round told_seen
    told_one s =
        let es : List SessionLane = lanes_by (keys (hops_in g s)) in
        flat_among (λ e. told_lane m.place g (lane_by s e) None (has fired s) (said_at said (lane_by s e)))
        (λ e. told_lane m.place g (lane_by s e) None (has fired s) (said_at m.said (lane_by s e))) es
        (λ e i. ap (told_lane m.place g (lane_by s e) None (has fired s)) (as_said ss n m at c said cleared d (lane_by s e) ((are_lanes s g).only e i)))
        ∙ sym (flat_each (lane_by s) (λ l. told_lane m.place g l None (has fired l.session) (said_at m.said l)) es)
        ∙ lanes_are_said.resvs n.place m.place f g m.said (at.said.at c) fired (each (lane_by s) es) ∙ ap (filter_map (resv_send_to n.place m.place f g fired None)) (lanes_are s (keys (hops_in g s)))

    told_all : (xs : List Session) → flat_map (λ s. told_round d m (has fired s) said s) xs ≡ filter_map (resv_send_to n.place m.place f g fired None) (lanes_for xs g)
    told_all [] = refl
    told_all (s ∷ xs) = (λ i. told_one s i ++ told_all xs i) ∙ sym (filter_map-append (resv_send_to n.place m.place f g fired None) (lanes_at s (keys (hops_in g s))) (lanes_for xs g))

pub rounds_are_torn : RoundsAreTorn
rounds_are_torn ss n m at c d = torn_all ss n m at c d ss

pub cleared_is_roomy : ClearedIsRoomy
cleared_is_roomy ss n m at c said cleared = roomy_of ss n m at c said cleared

pub rounds_are_told : RoundsAreTold
rounds_are_told ss n m at c d said cleared fired = told_all ss n m at c d said cleared fired ss

-- ---- marks
pub rounds_are_marked : RoundsAreMarked
unfolding wants_told
rounds_are_marked ss n m at c d said cleared =
    changed_same {X = Want} {Y = Want} want_keys (unmarked_among m.place (facts_of d m) said ss) (unmarked (used_marks n.place m.place (facts_of c n) (facts_of d m) None))
    (λ k w. λ i. Some (record w { confirm = w.confirm && not (sym (same_used ss n m at c d said cleared k) i) })) m.wants

-- ---- what is kept last
module _ (ss : List Session) (n m : State) (at : AreRounds ss n m) (c : ℕ) (said : Said) (cleared : AreCleared m (each (with_hops (facts_of c n)) ss) said) (last : Said)
    (told : AreTold (record m { said = said }) ss last) (roomy : IsRoomy m last) where
  kept : (d : ℕ) (l : Lane) → said_at last l ≡ toward m.place (facts_of d m) l
  kept d l =
      either (has (lanes (facts_of d m)) l)
      (λ on.
      either (is_among ss l.session) (λ t. told.here d l t on)
      (λ t. told.rest l t ∙ as_said ss n m at c said cleared d l on ∙ was ss n m at c said cleared d l ∙ at.others d l t))
      (λ off. nothing d l off ∙ sym (nowhere m.place (facts_of d m) l off))
    where
      nothing : (d : ℕ) (l : Lane) → has (lanes (facts_of d m)) l ≡ false → said_at last l ≡ empty
      nothing d l off =
          either (has last l)
          (λ t. let z : true ≡ false = sym (roomy.within d l t) ∙ off in absurd (cc))
          (λ t. ap (λ w. unwrap_or w empty) (none_is (get last l) t))

pub rounds_are_said : RoundsAreSaid
rounds_are_said = record {
  said = λ ss n m at c said cleared last told roomy. record { at = kept ss n m at c said cleared last told roomy; some = roomy.some };
  unmarked = λ m c said ss last all. record { at = λ d l. all.at d l ∙ sym (toward_kept m said c ss d l); some = all.some };
}
