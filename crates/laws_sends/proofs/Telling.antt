-- What is told lane by lane is what the rule sends.
use Rattle.std.specs.Prelude.{◌≡◌, ℕ, ◌+◌, ◌<◌, Bool, true, false, cond, not, ◌&&◌, ◌||◌, length, List, [], ◌∷◌, ◌++◌, map as each, Option, Some, None, fold, slice_get, take, refl}
use Rattle.std.specs.List.{cons_option, filter_map, flat_map}
use Rattle.std.specs.Option.{option_map}
use Rattle.std.specs.Ordering.{eq_by_cmp}
use Rattle.std.proofs.Common.{sym, ap, subst, inl, inr, ◌∙◌, ⊎_elim}
use Rattle.std.proofs.lemmas.List.{map-append}
use Rattle.rsvp_base.specs.Members.{In}
use Rattle.rsvp_base.specs.Orders.{sessions, senders}
use Rattle.rsvp_base.specs.Sets.{Set, cut, is_none}
use Rattle.rsvp_base.specs.Table.{Table, empty, get, has, keys}
use Rattle.rsvp_base.specs.declared.addr.Addr.{Addr}
use Rattle.rsvp_base.specs.declared.session.Session.{Session}
use Rattle.rsvp_base.specs.declared.style.StyleKind.{StyleKind}
use Rattle.rsvp_base.specs.declared.style.StyleKind.TheVariants.{Wild, Fixed, Shared}
use Rattle.rsvp_base.specs.declared.style.Unit.{Unit as UnitOf}
use Rattle.rsvp_base.proofs.Counts.{in_found}
use Rattle.rsvp_base.proofs.Fronts.{in_keys, to_keys}
use Rattle.rsvp_base.proofs.Members.{in_append, in_each, in_left, in_right, to_each}
use Rattle.rsvp_base.proofs.Tables.{get-changed, tied_same, tied_self}
use Rattle.rsvp_base.proofs.UnderLaws.{get-under}
use Rattle.router_state.specs.RsvpMessages.declared.ask.Ask.{Ask}
use Rattle.router_state.specs.StyleRules.Lines.{NextHop, next_hops}
use Rattle.router_state.specs.StyleRules.Merge.{PartTable}
use Rattle.router_state.specs.RouterRules.Asking.{ask_of}
use Rattle.router_state.specs.RouterRules.Facts.{Facts, SenderKey, Want, Wants, wants_in}
use Rattle.router_state.specs.RouterRules.Inputs.{Asked, Send}
use Rattle.router_state.specs.RouterRules.Known.{Lane, lane_keys, lanes, names_via}
use Rattle.router_state.specs.RouterRules.NodeConfig.{NodeConfig}
use Rattle.router_state.specs.RouterRules.Requests.{toward}
use Rattle.router_state.specs.RouterRules.Sends.{gone_names, is_changed, is_marked, marked_units, own_wish, resv_send, resv_send_of, resv_send_to, resv_tear, same_parts}
use Rattle.router_state.specs.FactLaws.{ComesBy}
use Rattle.router_state.proofs.Knowing.{lanes_made, lanes_told}
use Rattle.router_state.specs.State.{Said, State, facts_of, said_at}
use Rattle.laws_sends.specs.Before.{IsBefore, lanes_by}
use Rattle.laws_sends.specs.Saying.{AreLanesOf, SessionLane, lane_by, told_ask, told_lane, torn_lane}
use Rattle.laws_sends.specs.SayingLaws.{LanesAreTold}
use Rattle.laws_sends.specs.SendsHere.{hops_in, lanes_at, lanes_toward}
use Rattle.laws_sends.proofs.Lanes.{hops_made, hops_told}

-- ---- the list of lanes
module _ (s : Session) where
  toward_by : (st : StyleKind) (hops : List NextHop) → each (lane_by s) (each (λ hop. (st, hop)) hops) ≡ lanes_toward s st hops
  toward_by st [] = refl
  toward_by st (h ∷ hops) = ap (λ ls. lane_by s (st, h) ∷ ls) (toward_by st hops)

  pub lanes_are : (hops : List NextHop) → each (lane_by s) (lanes_by hops) ≡ lanes_at s hops
  lanes_are hops =
      map-append (lane_by s) (each (λ hop. (Wild, hop)) hops) (each (λ hop. (Fixed, hop)) hops ++ each (λ hop. (Shared, hop)) hops)
      ∙ ap (λ ls. each (lane_by s) (each (λ hop. (Wild, hop)) hops) ++ ls) (map-append (lane_by s) (each (λ hop. (Fixed, hop)) hops) (each (λ hop. (Shared, hop)) hops))
      ∙ (λ i. toward_by Wild hops i ++ (toward_by Fixed hops i ++ toward_by Shared hops i))

  to_lanes : (st : StyleKind) (hop : NextHop) (hops : List NextHop) → In hop hops → In (st, hop) (lanes_by hops)
  to_lanes Wild hop hops i = in_left _ (each (λ h. (Wild, h)) hops) _ (to_each (λ h. (Wild, h)) hop hops i)
  to_lanes Fixed hop hops i = in_right _ (each (λ h. (Wild, h)) hops) _ (in_left _ (each (λ h. (Fixed, h)) hops) _ (to_each (λ h. (Fixed, h)) hop hops i))
  to_lanes Shared hop hops i = in_right _ (each (λ h. (Wild, h)) hops) _ (in_right _ (each (λ h. (Fixed, h)) hops) _ (to_each (λ h. (Shared, h)) hop hops i))

  in_lanes : (e : SessionLane) (hops : List NextHop) → In e (lanes_by hops) → In e.1 hops
  in_lanes e hops i = ⊎_elim (of Wild) (λ j. ⊎_elim (of Fixed) (of Shared) (in_append e (each (λ h. (Fixed, h)) hops) (each (λ h. (Shared, h)) hops) j))
      (in_append e (each (λ h. (Wild, h)) hops) (each (λ h. (Fixed, h)) hops ++ each (λ h. (Shared, h)) hops) i)
    where
      of : (st : StyleKind) → In e (each (λ h. (st, h)) hops) → In e.1 hops
      of st j = let g = in_each (λ (h : NextHop). (st, h)) e hops j in subst (λ z. In z hops) (λ k. (sym g.2 k).1) g.1

  -- the lanes toward a session's previous hops are the session's lanes
  pub are_lanes : (f : Facts) → AreLanesOf f s (lanes_by (keys (hops_in f s)))
  are_lanes f = record {
    all = λ l h e.
        let g = lanes_told f l h in
        let there = hops_made f s l.hop g.0 (subst (λ z. ComesBy f z l.hop g.0) e g.1) in
        ((l.style, l.hop), to_lanes l.style l.hop (keys (hops_in f s)) (to_keys next_hops (hops_in f s) l.hop there), λ i. record { session = e i; style = l.style; hop = l.hop });
    only = λ e i. let g = hops_told f s e.1 (in_keys next_hops (hops_in f s) e.1 (in_lanes e (keys (hops_in f s)) i)) in lanes_made f (lane_by s e) g.0 g.1;
  }

-- ---- ResvTears
module _ (p : NodeConfig) (f g : Facts) (s : Session) (said : Said) (is : (l : Lane) → said_at said l ≡ toward p f l) where
  pub tears_by_lane : (es : List SessionLane) → flat_map (λ e. torn_lane p g (lane_by s e) (said_at said (lane_by s e))) es ≡ flat_map (resv_tear p p f g) (each (lane_by s) es)
  tears_by_lane [] = refl
  tears_by_lane (e ∷ es) = let rest = tears_by_lane es in λ i. torn_lane p g (lane_by s e) (is (lane_by s e) i) ++ rest i

-- ---- Resvs
abbrev pub asked_by : Option Asked → Option Addr
asked_by asked = option_map (λ a. a.confirm) asked

module _ (p : NodeConfig) (f g : Facts) (s : Session) (said : Said) (is : (l : Lane) → said_at said l ≡ toward p f l) (asked : Option Asked) where
  one_lane : (l : Lane) → told_lane p g l (asked_by asked) false (said_at said l) ≡ cons_option (resv_send_to p p f g empty asked l) []
  one_lane l = ap (told_lane p g l (asked_by asked) false) (is l) ∙ by (not (same_parts (toward p f l) (toward p g l))) (ask_of l.style (toward p g l)) asked
    where
      by : (b : Bool) (a : Option Ask) (asked : Option Asked) → told_ask p g l (asked_by asked) b false a ≡ cons_option (resv_send_of p g l b false asked a) []
      by b None asked = refl
      by true (Some a) None = refl
      by true (Some a) (Some q) = refl
      by false (Some a) asked = refl

  pub sends_by_lane : (es : List SessionLane) → flat_map (λ e. told_lane p g (lane_by s e) (asked_by asked) false (said_at said (lane_by s e))) es
      ≡ filter_map (resv_send_to p p f g empty asked) (each (lane_by s) es)
  sends_by_lane [] = refl
  sends_by_lane (e ∷ es) = (λ i. one_lane (lane_by s e) i ++ sends_by_lane es i) ∙ one_more (resv_send_to p p f g empty asked (lane_by s e)) _
    where
      one_more : (w : Option Send) (ss : List Send) → cons_option w [] ++ ss ≡ cons_option w ss
      one_more None ss = refl
      one_more (Some x) ss = refl

pub lanes_are_told : LanesAreTold
lanes_are_told = record { tears = tears_by_lane; resvs = sends_by_lane; lanes = are_lanes }
