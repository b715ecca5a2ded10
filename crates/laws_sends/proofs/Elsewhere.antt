-- What one session's change leaves alone: toward the hops of another session goes what went before, and nothing is sent.
use Rattle.std.specs.Prelude.{◌≡◌, Bool, true, false, cond, not, is_some, List, [], ◌∷◌, ◌++◌, map as each, Option, Some, None, refl, ◌||◌}
use Rattle.std.specs.List.{cons_option, filter, filter_map, flat_map, list_any}
use Rattle.std.specs.Option.{option_map}
use Rattle.std.specs.Ordering.{eq_by_cmp}
use Rattle.std.proofs.Common.{sym, ap, ◌∙◌, inl, inr}
use Rattle.rsvp_base.specs.Orders.{sessions, senders}
use Rattle.rsvp_base.specs.Sets.{Set, cut, is_none}
use Rattle.rsvp_base.specs.Table.{Table, empty, get, has, keys, kept}
use Rattle.rsvp_base.specs.declared.part.Part.{Part}
use Rattle.rsvp_base.specs.declared.session.Session.{Session}
use Rattle.rsvp_base.specs.declared.style.StyleKind.{StyleKind}
use Rattle.rsvp_base.specs.declared.style.StyleKind.TheVariants.{Wild, Fixed, Shared}
use Rattle.rsvp_base.specs.declared.style.Unit.{Unit as UnitOf}
use Rattle.rsvp_base.proofs.Tables.{either}
use Rattle.rsvp_base.proofs.UnderLaws.{get-under}
use Rattle.router_state.specs.StyleRules.Lines.{NextHop}
use Rattle.router_state.specs.StyleRules.Merge.{PartTable}
use Rattle.router_state.specs.StyleRules.Parts.{part_cut}
use Rattle.router_state.specs.StyleRules.Toward.{is_walled, toward as merged_toward, or_else}
use Rattle.router_state.specs.RouterRules.Facts.{Facts, ResvState, PathState, Want, resvs_in, wants_in, paths_in, senders_in}
use Rattle.router_state.specs.RouterRules.Inputs.{Asked}
use Rattle.router_state.specs.RouterRules.Known.{Lane, came_by, keys_where, lanes, named_as, names_via, via}
use Rattle.router_state.specs.RouterRules.NodeConfig.{NodeConfig, goes_out}
use Rattle.router_state.specs.RouterRules.Requests.{is_blockaded, is_style, request_of, requests, resv_part, resv_request, toward, wall_at, want_part, want_request}
use Rattle.router_state.specs.RouterRules.Sends.{gone_names, is_changed, resv_send_of, resv_send_to, resv_sends, resv_tear, resv_tears, is_new_offer, path_send, path_send_of, path_sends}
use Rattle.router_state.specs.RouterRules.Sends.{path_tear, path_tears, resv_tear_send}
use Rattle.router_state.specs.RouterRules.Asking.{ask_of}
use Rattle.rsvp_base.specs.Members.{In}
use Rattle.rsvp_base.specs.TokenBucket.{TokenBucket}
use Rattle.rsvp_base.proofs.Counts.{in_found}
use Rattle.rsvp_base.proofs.Fronts.{in_keys}
use Rattle.rsvp_base.proofs.SetLaws.{same_set}
use Rattle.router_state.specs.RsvpMessages.declared.ask.Ask.{Ask}
use Rattle.router_state.specs.RouterRules.Offers.{OfferKey, offer_keys, offers, own_offer, path_offer}
use Rattle.laws_sends.specs.SendsHere.{AreSameOf, AreSameOff}
use Rattle.router_state.specs.FactLaws.{is_way}
use Rattle.router_state.proofs.Asks.{gone_told}
use Rattle.router_state.proofs.Offering.{offers_by_way}
use Rattle.router_state.proofs.Tests.{not_new, parts_tested}
use Rattle.router_state.specs.StyleRules.declared.target.Target.{Target}
use Rattle.router_state.specs.StyleRules.declared.target.Target.TheVariants as target

-- ---- lists of which only some elements give something
module _ {A B : Type 0} (t : A → Bool) where
  pub flat_map_only : (h : A → List B) → ((x : A) → t x ≡ false → h x ≡ []) → (xs : List A) → flat_map h xs ≡ flat_map h (filter t xs)
  flat_map_only h none [] = refl
  flat_map_only h none (x ∷ xs) =
      elim (t x) as (λ b. t x ≡ b → (h x ++ flat_map h xs) ≡ flat_map h (cond b (x ∷ filter t xs) (filter t xs))) [
        | true ↦ λ e. ap (λ ys. h x ++ ys) (flat_map_only h none xs)
        | false ↦ λ e. ap (λ ys. ys ++ flat_map h xs) (none x e) ∙ flat_map_only h none xs
      ] refl

  pub filter_map_among : (h : A → Option B) → (xs : List A) → ((x : A) → In x xs → t x ≡ false → h x ≡ None) → filter_map h xs ≡ filter_map h (filter t xs)
  filter_map_among h [] none = refl
  filter_map_among h (x ∷ xs) none =
      let rest = filter_map_among h xs (λ y i. none y (inr i)) in
      elim (t x) as (λ b. t x ≡ b → filter_map h (x ∷ xs) ≡ filter_map h (cond b (x ∷ filter t xs) (filter t xs))) [
        | true ↦ λ e. ap (cons_option (h x)) rest
        | false ↦ λ e. ap (λ w. cons_option w (filter_map h xs)) (none x (inl refl) e) ∙ rest
      ] refl

  pub filter_map_only : (h : A → Option B) → ((x : A) → t x ≡ false → h x ≡ None) → (xs : List A) → filter_map h xs ≡ filter_map h (filter t xs)
  filter_map_only h none xs = filter_map_among h xs (λ x i e. none x e)

module _ {A : Type 0} (t q : A → Bool) where
  -- those of a test are among those of another, where what fails the one fails the other
  pub filter_only : (xs : List A) → ((x : A) → In x xs → t x ≡ false → q x ≡ false) → filter q xs ≡ filter q (filter t xs)
  filter_only [] none = refl
  filter_only (x ∷ xs) none =
      let rest = filter_only xs (λ y i. none y (inr i)) in
      elim (t x) as (λ b. t x ≡ b → cond (q x) (x ∷ filter q xs) (filter q xs) ≡ filter q (cond b (x ∷ filter t xs) (filter t xs))) [
        | true ↦ λ e. λ i. cond (q x) (x ∷ rest i) (rest i)
        | false ↦ λ e. ap (λ b. cond b (x ∷ filter q xs) (filter q xs)) (none x (inl refl) e) ∙ rest
      ] refl

-- ---- facts of one session
-- what is asked for toward a hop depends on the names via it, the session's reservations and wants, and its blockades
module _ (f g : Facts) (l : Lane) (same_via : via f l.session l.hop ≡ via g l.session l.hop) (walls : (t : Target) → get f.walls (l.session, t) ≡ get g.walls (l.session, t))
    (resvs : resvs_in l.style f l.session ≡ resvs_in l.style g l.session) (wants : wants_in f l.session ≡ wants_in g l.session) where
  wall_same : (t : Target) → wall_at f.walls (l.session, t) ≡ wall_at g.walls (l.session, t)
  wall_same t = ap (λ w. option_map (λ b. b.wall) w) (walls t)

  blockaded_same : (st : StyleKind) (p : Part) → is_blockaded st f.walls l p ≡ is_blockaded st g.walls l p
  blockaded_same Wild p = ap (λ w. is_walled p.flow w) (wall_same (target.Hop l.hop.0 l.hop.1))
  blockaded_same Fixed p = λ i. list_any (λ s. is_walled p.flow (wall_same (target.Sender s) i)) (keys p.senders)
  blockaded_same Shared p = λ i. list_any (λ s. is_walled p.flow (wall_same (target.Sender s) i)) (keys p.senders)

  request_same : (o : Option Part) → request_of f.walls l o ≡ request_of g.walls l o
  request_same None = refl
  request_same (Some p) = λ i. Some (record { part = p; blockaded = blockaded_same l.style p i })

  pub requests_alike : (p : NodeConfig) → requests p f l ≡ requests p g l
  requests_alike p =
      let resv : (e : (NextHop × UnitOf) × ResvState) → resv_request p f l e ≡ resv_request p g l e =
      λ e. request_same (resv_part p f l e) ∙ (λ i. request_of g.walls l (part_cut e.1.part (named_as l.style (kept (goes_out p l.session e.0.0.0) (same_via i))))) in
      let want : (e : UnitOf × Want) → want_request f l e ≡ want_request g l e =
      λ e. ap (λ o. cond (is_style e.1.style l.style) o None) (request_same (want_part l.style (names_via f l) e.1.part)
      ∙ (λ i. request_of g.walls l (want_part l.style (named_as l.style (same_via i)) e.1.part))) in
      λ i. filter_map (λ e. resv e i) (resvs i).rows ++ filter_map (λ e. want e i) (wants i).rows

  pub toward_alike : (p : NodeConfig) → toward p f l ≡ toward p g l
  toward_alike p = ap (merged_toward l.style) (requests_alike p)

module _ (f g : Facts) (l : Lane) (same : AreSameOf l.session f g) where
  pub via_same : via f l.session l.hop ≡ via g l.session l.hop
  via_same = ap (λ (t : Table senders PathState). keys_where (λ x path. came_by l.hop path) t) same.paths

  pub toward_same : (p : NodeConfig) → toward p f l ≡ toward p g l
  toward_same p = toward_alike f g l via_same same.walls (same.resvs l.style) same.wants p

-- ---- where the facts of a lane's session are the same, nothing is torn or sent there
gone_none : (t : PartTable) → gone_names t t ≡ empty
gone_none t = same_set senders _ empty (λ x. either (has (gone_names t t) x) (λ h. let g = gone_told t t x h in let a : true ≡ false = sym (ap is_some g.was) ∙ g.gone in absurd (cc)) (λ h. h))

module _ (p : NodeConfig) (f g : Facts) (l : Lane) (same : toward p f l ≡ toward p g l) where
  pub no_tear : resv_tear p p f g l ≡ []
  no_tear =
      let gone : gone_names (toward p f l) (toward p g l) ≡ empty = ap (λ t. gone_names t (toward p g l)) same ∙ gone_none (toward p g l) in
      λ i. cond (is_none (cut (gone i) (names_via g l))) [] (resv_tear_send p g l (cut (gone i) (names_via g l)) ∷ [])

  pub not_changed : is_changed p p f g l ≡ false
  not_changed = ap not (parts_tested (toward p f l) (toward p g l) same)

  pub no_send : (fired : Set sessions) (asked : Option Asked) → has fired l.session ≡ false → resv_send_to p p f g fired asked l ≡ None
  no_send fired asked off = (λ i. resv_send_of p g l (not_changed i) (off i) asked (ask_of l.style (toward p g l))) ∙ by (ask_of l.style (toward p g l))
    where
      by : (o : Option Ask) → resv_send_of p g l false false asked o ≡ None
      by None = refl
      by (Some a) = refl

-- ---- so what is torn and sent is that of the sessions that may have changed
abbrev pub is_at : Session → Lane → Bool
is_at s l = eq_by_cmp sessions.cmp s l.session

module _ (p : NodeConfig) (t : Session → Bool) (f g : Facts) (same : AreSameOff t f g) where
  pub resv_tears_here : resv_tears p p f g ≡ flat_map (resv_tear p p f g) (filter (λ l. t l.session) (keys (lanes f)))
  resv_tears_here = flat_map_only (λ l. t l.session) (resv_tear p p f g) (λ l off. no_tear p f g l (toward_same f g l (same l.session off) p)) (keys (lanes f))

  pub resv_sends_here : (fired : Set sessions) (asked : Option Asked) → ((s : Session) → t s ≡ false → has fired s ≡ false)
      → resv_sends p p f g fired asked ≡ filter_map (resv_send_to p p f g fired asked) (filter (λ l. t l.session) (keys (lanes g)))
  resv_sends_here fired asked off = filter_map_only (λ l. t l.session) (resv_send_to p p f g fired asked)
      (λ l e. no_send p f g l (toward_same f g l (same l.session e) p) fired asked (off l.session e)) (keys (lanes g))

  pub offer_same : (k : OfferKey) → t k.session ≡ false → get (offers p f) k ≡ get (offers p g) k
  offer_same k off =
      let of = same k.session off in
      let own : get f.senders (k.session, k.sender) ≡ get g.senders (k.session, k.sender) = sym (get-under sessions senders f.senders k.session k.sender)
      ∙ ap (λ (t : Table senders TokenBucket). get t k.sender) of.senders ∙ get-under sessions senders g.senders k.session k.sender in
      let path : get f.paths (k.session, k.sender) ≡ get g.paths (k.session, k.sender) = sym (get-under sessions senders f.paths k.session k.sender)
      ∙ ap (λ (t : Table senders PathState). get t k.sender) of.paths ∙ get-under sessions senders g.paths k.session k.sender in
      offers_by_way p f k ∙ (λ i. cond (is_way p k) (or_else (option_map (own_offer (of.advertised k.sender i)) (own i)) (option_map path_offer (path i))) None) ∙ sym (offers_by_way p g k)

  pub path_tears_here : path_tears p (offers p f) (offers p g) ≡ each (path_tear p) (filter (λ k. not (has (offers p g) k)) (filter (λ k. t k.session) (keys (offers p f))))
  path_tears_here =
      ap (λ ks. each (path_tear p) ks) (filter_only (λ k. t k.session) (λ k. not (has (offers p g) k)) (keys (offers p f))
      (λ k i off. ap not (ap is_some (sym (offer_same k off)) ∙ in_keys offer_keys (offers p f) k i)))

  pub path_sends_here : (fired : Set sessions) → ((s : Session) → t s ≡ false → has fired s ≡ false)
      → path_sends p (offers p f) (offers p g) fired ≡ filter_map (path_send_of p (offers p f) fired) (filter (λ e. t e.0.session) (offers p g).rows)
  path_sends_here fired off =
      filter_map_among (λ e. t e.0.session) (path_send_of p (offers p f) fired) (offers p g).rows
      (λ e i out.
      let there : get (offers p f) e.0 ≡ Some e.1 = offer_same e.0 out ∙ in_found offer_keys (offers p g) e.0 e.1 i in
      (λ j. cond (off e.0.session out j || is_new_offer p e.0.iface e.1 (there j)) (Some (path_send p (has fired e.0.session) e)) None)
      ∙ ap (λ b. cond b (Some (path_send p (has fired e.0.session) e)) None) (not_new p e.0.iface e.1))
