-- What a session's lanes are told depends on its own wants alone.
use Rattle.std.specs.Prelude.{◌≡◌, nat_lt, Bool, true, false, cond, not, ◌&&◌, List, [], ◌∷◌, ◌++◌, map as each, Option, Some, None, refl}
use Rattle.std.specs.List.{filter, flat_map}
use Rattle.std.proofs.Common.{ap, inl, inr, ◌∙◌}
use Rattle.rsvp_base.specs.Members.{In}
use Rattle.rsvp_base.specs.Sets.{set_of}
use Rattle.rsvp_base.specs.Table.{size}
use Rattle.rsvp_base.specs.declared.session.Session.{Session}
use Rattle.rsvp_messages.specs.declared.ask.Ask.{Ask}
use Rattle.style_rules.specs.Merge.{PartTable}
use Rattle.style_rules.specs.Toward.{toward as merged_toward}
use Rattle.router_rules.specs.Asking.{ask_of}
use Rattle.router_rules.specs.Facts.{Facts, Wants, wants_in}
use Rattle.router_rules.specs.Known.{Lane}
use Rattle.router_rules.specs.NodeConfig.{NodeConfig}
use Rattle.router_rules.specs.Requests.{requests, toward, want_request}
use Rattle.router_rules.specs.Sends.{marked_units, own_wish, resv_send, same_parts, takes_part}
use Rattle.router_state.specs.State.{Said, said_at}
use Rattle.laws_sends.specs.Marks.{used_at, used_in}
use Rattle.laws_sends.specs.Saying.{SessionLane, lane_by, told_ask, told_lane}
use Rattle.laws_sends.proofs.Elsewhere.{requests_alike}

pub flat_among : {A B : Type 0} (g h : A → List B) (xs : List A) → ((x : A) → In x xs → g x ≡ h x) → flat_map g xs ≡ flat_map h xs
flat_among g h [] same = refl
flat_among g h (x ∷ xs) same = λ i. same x (inl refl) i ++ flat_among g h xs (λ y j. same y (inr j)) i

-- the facts with these wants, where those of the session are the same
module _ (p : NodeConfig) (g : Facts) (ws : Wants) (s : Session) (same : wants_in (record g { wants = ws }) s ≡ wants_in g s) where
  abbrev h : Facts
  h = record g { wants = ws }

  module _ (st_hop : SessionLane) where
    abbrev l : Lane
    l = lane_by s st_hop

    requests_so : requests p h l ≡ requests p g l
    requests_so = requests_alike h g l refl (λ t. refl) refl same p

    pub toward_so : toward p h l ≡ toward p g l
    toward_so = ap (merged_toward l.style) requests_so

    pub marked_so : marked_units p h l ≡ marked_units p g l
    marked_so = λ i. each (λ e. e.0) (filter (λ e. e.1.confirm && takes_part l.style (requests_so i) (want_request g l e)) (same i).rows)

    ask_so : (new due : Bool) (a : Option Ask) → told_ask p h l None new due a ≡ told_ask p g l None new due a
    ask_so new due None = refl
    ask_so true due (Some ask) = ap (λ us. resv_send p g l (own_wish p l us) due ask ∷ []) marked_so
    ask_so false true (Some ask) = refl
    ask_so false false (Some ask) = refl

    pub told_so : (due : Bool) (was : PartTable) → told_lane p h l None due was ≡ told_lane p g l None due was
    told_so due was = (λ i. told_ask p h l None (not (same_parts was (toward_so i))) due (ask_of l.style (toward_so i)))
        ∙ ask_so (not (same_parts was (toward p g l))) due (ask_of l.style (toward p g l))

    used_at_so : (said other : Said) → said_at said l ≡ said_at other l → used_at p h s said st_hop ≡ used_at p g s other st_hop
    used_at_so said other was = λ i. cond (nat_lt 0 (size (toward_so i)) && not (same_parts (was i) (toward_so i))) (marked_so i) []

  -- of what was said to these lanes
  pub used_so : (said other : Said) (es : List SessionLane) → ((e : SessionLane) → In e es → said_at said (lane_by s e) ≡ said_at other (lane_by s e)) → used_in p h s said es ≡ used_in p g s other es
  used_so said other es was = ap (λ us. set_of us) (flat_among (used_at p h s said) (used_at p g s other) es (λ e i. used_at_so e said other (was e i)))
