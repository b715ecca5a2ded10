-- Lanes told by what was said before; and all six groups.
use Rattle.std.specs.Prelude.{◌≡◌, Bool, true, false, cond, not, List, [], ◌∷◌, ◌++◌, Option, Some, None, refl}
use Rattle.std.specs.List.{cons_option, filter, filter_map, flat_map}
use Rattle.std.proofs.Common.{sym, ap, inl, inr, ◌∙◌}
use Rattle.rsvp_base.specs.Members.{In}
use Rattle.rsvp_base.specs.Orders.{sessions}
use Rattle.rsvp_base.specs.Sets.{Set}
use Rattle.rsvp_base.specs.Table.{has, keys}
use Rattle.rsvp_base.specs.declared.session.Session.{Session}
use Rattle.rsvp_base.proofs.Filters.{filter_map_among}
use Rattle.rsvp_base.proofs.Fronts.{in_keys}
use Rattle.rsvp_messages.specs.declared.ask.Ask.{Ask}
use Rattle.router_rules.specs.Asking.{ask_of}
use Rattle.router_rules.specs.Facts.{Facts, sender_keys}
use Rattle.router_rules.specs.Inputs.{Change, Send}
use Rattle.router_rules.specs.Known.{Lane, lane_keys, lanes}
use Rattle.router_rules.specs.NodeConfig.{NodeConfig}
use Rattle.router_rules.specs.Offers.{offers}
use Rattle.router_rules.specs.Requests.{toward}
use Rattle.router_rules.specs.Sends.{conf_sends, confirmed, error_sends, path_tears, resv_send_of, resv_send_to, resv_sends, resv_tear, resv_tears, same_parts}
use Rattle.router_state.specs.State.{Said, said_at}
use Rattle.laws_sends.specs.Saying.{told_ask, told_lane, torn_lane}
use Rattle.laws_sends.proofs.Elsewhere.{no_send, no_tear, toward_same}
use Rattle.laws_sends.specs.Several.{AreSessions, is_among, lanes_for}
use Rattle.laws_sends.specs.SeveralLaws.{IsPassage, LanesAreSaid, PassageIsTold, ReroutingIsTold}
use Rattle.laws_sends.proofs.Ordered.{lanes_grouped}
use Rattle.laws_sends.proofs.Senders.{all_again, all_gone, all_paths, all_tears}

module _ (old p : NodeConfig) (f g : Facts) (said : Said) (is : (l : Lane) → said_at said l ≡ toward old f l) where
  torn_so : (l : Lane) → torn_lane p g l (said_at said l) ≡ resv_tear old p f g l
  torn_so l = ap (torn_lane p g l) (is l)

  module _ (fired : Set sessions) where
    one_lane : (l : Lane) → told_lane p g l None (has fired l.session) (said_at said l) ≡ cons_option (resv_send_to old p f g fired None l) []
    one_lane l = ap (told_lane p g l None (has fired l.session)) (is l) ∙ by (not (same_parts (toward old f l) (toward p g l))) (has fired l.session) (ask_of l.style (toward p g l))
      where
        by : (b d : Bool) (a : Option Ask) → told_ask p g l None b d a ≡ cons_option (resv_send_of p g l b d None a) []
        by b d None = refl
        by true d (Some a) = refl
        by false true (Some a) = refl
        by false false (Some a) = refl

    told_so : (ls : List Lane) → flat_map (λ l. told_lane p g l None (has fired l.session) (said_at said l)) ls ≡ filter_map (resv_send_to old p f g fired None) ls
    told_so [] = refl
    told_so (l ∷ ls) = (λ i. one_lane l i ++ told_so ls i) ∙ one_more (resv_send_to old p f g fired None l) _
      where
        one_more : (w : Option Send) (ss : List Send) → cons_option w [] ++ ss ≡ cons_option w ss
        one_more None ss = refl
        one_more (Some x) ss = refl

pub lanes_are_said : LanesAreSaid
lanes_are_said = record { tears = torn_so; resvs = told_so }

-- ---- all six groups
quiet : (old p : NodeConfig) (f g : Facts) (k : Change) → k.errors ≡ [] → k.confs ≡ [] → k.asked ≡ None → (rest : List Send)
    → error_sends k.errors ++ (conf_sends (k.confs ++ confirmed old p f g k.asked) ++ rest) ≡ rest
quiet old p f g k errors confs asked rest = λ i. error_sends (errors i) ++ (conf_sends (confs i ++ confirmed old p f g (asked i)) ++ rest)

flat_only : {A B : Type 0} (t : A → Bool) (h : A → List B) (xs : List A) → ((x : A) → In x xs → t x ≡ false → h x ≡ []) → flat_map h xs ≡ flat_map h (filter t xs)
flat_only t h [] none = refl
flat_only t h (x ∷ xs) none =
    let rest = flat_only t h xs (λ y i. none y (inr i)) in
    elim (t x) as (λ b. t x ≡ b → (h x ++ flat_map h xs) ≡ flat_map h (cond b (x ∷ filter t xs) (filter t xs))) [
      | true ↦ λ e. ap (λ ys. h x ++ ys) rest
      | false ↦ λ e. ap (λ ys. ys ++ flat_map h xs) (none x (inl refl) e) ∙ rest
    ] refl

module _ (p : NodeConfig) (ss : List Session) (dead : Set sender_keys) (f g : Facts) (k : Change) (at : IsPassage ss dead f g k) where
  torn_here : resv_tears p p f g ≡ flat_map (resv_tear p p f g) (lanes_for ss f)
  torn_here =
      flat_only (λ l. is_among ss l.session) (resv_tear p p f g) (keys (lanes f)) (λ l i off. no_tear p f g l (toward_same f g l (at.elsewhere l off (inl (in_keys lane_keys (lanes f) l i))) p))
      ∙ ap (flat_map (resv_tear p p f g)) (lanes_grouped ss at.sessions f)

  sent_here : resv_sends p p f g k.fired k.asked ≡ filter_map (resv_send_to p p f g k.fired None) (lanes_for ss g)
  sent_here =
      filter_map_among (λ l. is_among ss l.session) (resv_send_to p p f g k.fired k.asked) (keys (lanes g))
      (λ l i off. no_send p f g l (toward_same f g l (at.elsewhere l off (inr (in_keys lane_keys (lanes g) l i))) p) k.fired k.asked (at.fired l.session off))
      ∙ ap (filter_map (resv_send_to p p f g k.fired k.asked)) (lanes_grouped ss at.sessions g) ∙ (λ i. filter_map (resv_send_to p p f g k.fired (at.asked i)) (lanes_for ss g))

pub passage_is_told : PassageIsTold
passage_is_told p ss dead f g k at =
    let tears = all_gone p f g dead at.gone in
    let torn = torn_here p ss dead f g k at in
    let paths = all_again p f g k.fired at.known in
    let resvs = sent_here p ss dead f g k at in
    ap (λ r. path_tears p (offers p f) (offers p g) ++ (resv_tears p p f g ++ r)) (quiet p p f g k at.errors at.confs at.asked _) ∙ (λ i. tears i ++ (torn i ++ (paths i ++ resvs i)))

all_lanes : (ss : List Session) → AreSessions ss → (f : Facts) → ((l : Lane) → has (lanes f) l ≡ true → is_among ss l.session ≡ true) → keys (lanes f) ≡ lanes_for ss f
all_lanes ss up f all = sym (whole (keys (lanes f)) (λ l i. all l (in_keys lane_keys (lanes f) l i))) ∙ lanes_grouped ss up f
  where
    whole : (ls : List Lane) → ((l : Lane) → In l ls → is_among ss l.session ≡ true) → filter (λ l. is_among ss l.session) ls ≡ ls
    whole [] h = refl
    whole (l ∷ ls) h = ap (λ b. cond b (l ∷ filter (λ l. is_among ss l.session) ls) (filter (λ l. is_among ss l.session) ls)) (h l (inl refl)) ∙ ap (λ ms. l ∷ ms) (whole ls (λ m i. h m (inr i)))

pub rerouting_is_told : ReroutingIsTold
rerouting_is_told old p ss f k at =
    let tears = all_tears old p f f in
    let torn = ap (flat_map (resv_tear old p f f)) (all_lanes ss at.sessions f at.all) in
    let paths = all_paths old p f f k.fired in
    let resvs : resv_sends old p f f k.fired k.asked ≡ filter_map (resv_send_to old p f f k.fired None) (lanes_for ss f) =
    λ i. filter_map (resv_send_to old p f f k.fired (at.asked i)) (all_lanes ss at.sessions f at.all i) in
    ap (λ r. path_tears p (offers old f) (offers p f) ++ (resv_tears old p f f ++ r)) (quiet old p f f k at.errors at.confs at.asked _) ∙ (λ i. tears i ++ (torn i ++ (paths i ++ resvs i)))
