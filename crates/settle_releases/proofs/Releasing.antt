-- A receiver wants less, or nothing any more: its node says so at once, and all else stays. And what comes of it in a settled network.
use Rattle.std.proofs.Common.{◌≡◌, ℕ, ◌+◌, List, [], ◌∷◌, ◌++◌, Bool, true, false, Option, None, Some, ◌⊎◌, inl, inr, ⊎_elim, arith, sym, refl, ap, subst, ◌∙◌, append_assoc}
use Rattle.std.specs.Prelude.{slice_get}
use Rattle.std.specs.Ordering.{eq_by_cmp}
use Rattle.rsvp_base.specs.declared.part.Part.{Part}
use Rattle.rsvp_base.specs.declared.session.Session.{Session}
use Rattle.rsvp_base.specs.declared.style.StyleKind.{StyleKind}
use Rattle.rsvp_base.specs.Members.{In}
use Rattle.rsvp_base.specs.Orders.{Names, sessions, styles}
use Rattle.rsvp_base.specs.Sets.{Set}
use Rattle.rsvp_base.specs.Table.{get, has}
use Rattle.rsvp_base.specs.TokenBucket.{IsSound, TokenBucket}
use Rattle.rsvp_base.proofs.Tables.{either, tied_same, tied_self}
use Rattle.rsvp_messages.specs.Units.{ask_style}
use Rattle.style_rules.specs.Lines.{LineKey}
use Rattle.style_rules.specs.Merge.{PartTable}
use Rattle.style_rules.specs.PartLaws.{part_at_most_itself, part_at_most_along}
use Rattle.style_rules.specs.Parts.{IsPartAtMost}
use Rattle.laws_bounds.proofs.Calling.{call_refusals, calls_leave}
use Rattle.laws_bounds.proofs.Framing.{wants_then}
use Rattle.router_rules.specs.declared.answers.LocalErr.{LocalErr}
use Rattle.router_rules.specs.Calls.{advertised_with, call_refusal, unless, wanted, wants_with}
use Rattle.router_rules.specs.Facts.{Facts, ResvState, Want, WantKey, resvs_of, sender_keys, table_of}
use Rattle.router_rules.specs.Inputs.{Call, Local, WantAs, DropAs, AdvertAs, QuitAll, SendAs}
use Rattle.router_rules.specs.Known.{names_via}
use Rattle.router_rules.specs.NodeConfig.{NodeConfig}
use Rattle.router_rules.specs.Requests.{toward}
use Rattle.router_rules.specs.Rule.{Outcome}
use Rattle.router_rules.specs.Steps.{IsFitList, IsFitCall}
use Rattle.tree_model.specs.declared.hops.LinkHop.{LinkHop}
use Rattle.tree_model.specs.Goals.{addr_of}
use Rattle.tree_model.specs.Networks.{iface_of, node_of, Net}
use Rattle.tree_model.specs.Ranks.{longest}
use Rattle.tree_model.specs.Trees.{hops_of}
use Rattle.tree_model.specs.Wants.{want}
use Rattle.tree_model.specs.declared.locals.LocalWant.{LocalWant}
use Rattle.tree_model.proofs.RankLaws.{rank_falls}
use Rattle.network_model.specs.Bounds.{IsStart}
use Rattle.network_model.specs.Locals.{locals_of, want_at}
use Rattle.network_model.specs.Steps.{At, ms_of, outcome, sent, still, step}
use Rattle.network_model.specs.Worlds.{Item, World, config_of}
use Rattle.network_model.proofs.NodeLocals.{node_wants, want_of_node}
use Rattle.network_model.proofs.Stepping.{facts_after_found, facts_after_made}
use Rattle.settle_resvs.specs.Said.{HopKey, hop_over, lane_of, resv_key}
use Rattle.settle_resvs.specs.SoftResvs.{line_key_of, resv_at}
use Rattle.settle_resvs.proofs.ExactResvs.{toward_at}
use Rattle.settle_resvs.proofs.SoftResvs.{resv_made, resv_found}
use Rattle.settle_resvs.proofs.WantStyles.{want_parts}
use Rattle.settle_passes.specs.Calls.{HasItsPaths}
use Rattle.settle_passes.specs.Passes.{after_passes}
use Rattle.settle_passes.specs.Reserving.{HasReserved, IsKeptOver, IsReserving, after_want}
use Rattle.settle_passes.proofs.Fitting.{as_before}
use Rattle.settle_passes.proofs.Reserving.{ready}
use Rattle.settle_passes.proofs.Turns.{Turns, addressed_in_turn, news}
use Rattle.settle_resvs.proofs.Accepting.{fits_again}
use Rattle.settle_network.specs.Settled.{HasSettled}
use Rattle.laws_bounds.specs.Frames.{calls_on_advertised, calls_on_senders}
use Rattle.settle_paths.proofs.PreviousHops.{via_is}
use Rattle.settle_paths.specs.PreviousHops.{IsPrevious}
use Rattle.settle_resvs.proofs.SoundResvs.{part_again}
use Rattle.settle_passes.proofs.Growing.{HasNoLess}
use Rattle.settle_passes.proofs.Serving.{settled_again, settled_is_reserved}
use Rattle.settle_passes.proofs.Called.{IsCalled, called, free_then, in_flight_then, no_error_then, paths_then, resvs_same, senders_then, spares_senders, turns}
use Rattle.settle_passes.proofs.Wanting.{wanted_told}
use Rattle.settle_passes.proofs.Arriving.{asked_then}
use Rattle.settle_releases.specs.Releases.{AsksNoMore, after_quit, after_quits}
use Rattle.settle_releases.proofs.Within.{WantedMore, same_names, AreKeptWithin}
use Rattle.settle_releases.proofs.Fitting.{less_fits}
use Rattle.settle_releases.proofs.Accepting.{AreResvsWithin, within_after}
use Rattle.settle_releases.proofs.TakenBack.{AllWithin, AreTakenBack, ComesWithin, IsForgotten, IsHeldWithin, IsTornLater, IsWithinLast, NoneAsks}
use Rattle.settle_releases.proofs.TakenBack.{comes_within, gone_before_or_now, none_append, none_asks, torn_later}
use Rattle.settle_releases.proofs.Receding.{IsReceding}
use Rattle.settle_releases.proofs.Falling.{reservations_recede, sound_where_reserved}
use Rattle.laws_network.specs.Known.{IsSameNet}

-- nor does one that speaks of no advertised sender change which are advertised
pub advertised_left : (l : Local) → calls_on_advertised l ≡ false → (t : Set sender_keys) → advertised_with l t ≡ t
advertised_left (SendAs s x tspec) e t = refl
advertised_left (DropAs s x) e t = absurd (cc)
advertised_left (AdvertAs s x) e t = absurd (cc)
advertised_left (WantAs s st names flow mark) e t = refl
advertised_left (QuitAll s) e t = refl

-- a want that was there in its place, of its style and no less
pub record WasWanted (f : Facts) (k : WantKey) (x : Want) : Type 0 where
  pub want : Want
  pub there : get f.wants k ≡ Some want
  pub style : want.style ≡ x.style
  pub part : IsPartAtMost x.part want.part

-- ---- a call at a node
module _ (q n : ℕ) (call : Local) (w : World) (start : HasItsPaths q w) (fit : IsFitCall call) (spares : calls_on_senders call ≡ false) where
  abbrev asked : World
  asked = step q (At n call) w

  turned : (m : ℕ) (f : Facts) → slice_get w.nodes m ≡ Some f → (outcome q (At n call) w m f ≡ still f) ⊎ Turns q (At n call) w m f
  turned = turns q n call w

  pub paths : HasItsPaths q asked
  paths = paths_then q n call w spares fit start

  -- ---- where the call asks for no more, all wants do
  module _ (fewer : (f : Facts) → slice_get w.nodes n ≡ Some f → call_refusal (config_of q w.net w.trees n) call f ≡ None
      → (k : WantKey) (x : Want) → get (wants_with call f.wants) k ≡ Some x → WasWanted f k x) where
    was_wanted : (m : ℕ) (f : Facts) → slice_get w.nodes m ≡ Some f → IsCalled q w n call m f → (k : WantKey) (x : Want) → (o : Option LocalErr) → call_refusal (config_of q w.net w.trees m) call f ≡ o
        → get (unless o (wants_with call f.wants) f.wants) k ≡ Some x → WasWanted f k x
    was_wanted m f at h k x (Some why) refused e = record { want = x; there = e; style = refl; part = part_at_most_itself x.part }
    was_wanted m f at h k x None taken e =
        fewer f (ap (λ (z : ℕ). slice_get w.nodes z) h.node ∙ at) (ap (λ (z : ℕ). call_refusal (config_of q w.net w.trees z) call f) h.node ∙ taken) k x e

    want_back : (m : ℕ) (f : Facts) → slice_get w.nodes m ≡ Some f → (k : WantKey) (x : Want) → get (outcome q (At n call) w m f).facts.wants k ≡ Some x → WasWanted f k x
    want_back m f at k x e =
        ⊎_elim
        (λ (z : outcome q (At n call) w m f ≡ still f). record { want = x; there = sym (ap (λ (o : Outcome). get o.facts.wants k) z) ∙ e; style = refl; part = part_at_most_itself x.part })
        (λ (h : IsCalled q w n call m f).
        let p : NodeConfig = config_of q w.net w.trees m in
        let marks = wants_then p p (w.clock + ms_of (At n call)) (Call call) f in
        let b = marks.source k x (sym (ap (λ (o : Outcome). get o.facts.wants k) h.is) ∙ e) in
        let y = was_wanted m f at h k b.0 (call_refusal p call f) refl b.1 in
        record { want = y.want; there = y.there; style = y.style ∙ sym b.2.style; part = subst (λ (z : Part). IsPartAtMost z y.want.part) (sym b.2.part) y.part })
        (called q w n call m f)

    no_less : (x : LocalWant) → In x (locals_of asked).wants → HasNoLess (locals_of w).wants x
    no_less x i =
        let r = want_of_node asked x i in
        let f = facts_after_found q (At n call) w x.node r.0 r.3 in
        let d = want_back x.node f.0 f.1 r.1 r.2 (ap (λ (z : Facts). get z.wants r.1) (sym f.2) ∙ r.4) in
        record {
          want = want_at x.node (r.1, d.want);
          among = node_wants w x.node f.0 r.1 d.want f.1 d.there;
          node = refl;
          session = ap (λ (z : LocalWant). z.session) (sym r.5);
          style = d.style ∙ ap (λ (z : LocalWant). z.style) (sym r.5);
          part = subst (λ (z : Part). IsPartAtMost z d.want.part) (ap (λ (z : LocalWant). z.part) (sym r.5)) d.part;
        }

    -- what stands is what stood
    stands_on : (m : ℕ) (st : StyleKind) (key : LineKey) (x : ResvState) → resv_at w m st key ≡ Some x → resv_at asked m st key ≡ Some x
    stands_on m st key x e =
        let f = resv_found w m st key x e in
        resv_made asked m st key (outcome q (At n call) w m f.0).facts (facts_after_made q (At n call) w m f.0 f.1)
        ∙ ap (λ (z : _). get (table_of st z) key) (resvs_same q n call w spares start.bounds m f.0 f.1) ∙ f.2

    stood_back : (m : ℕ) (st : StyleKind) (key : LineKey) (x : ResvState) → resv_at asked m st key ≡ Some x → resv_at w m st key ≡ Some x
    stood_back m st key x e =
        let g = resv_found asked m st key x e in
        let f = facts_after_found q (At n call) w m g.0 g.1 in
        resv_made w m st key f.0 f.1 ∙ ap (λ (z : _). get (table_of st z) key) (sym (resvs_same q n call w spares start.bounds m f.0 f.1) ∙ ap (λ (z : Facts). z.resvs) (sym f.2)) ∙ g.2

    none_on : (m : ℕ) (st : StyleKind) (key : LineKey) → resv_at w m st key ≡ None → resv_at asked m st key ≡ None
    none_on m st key none = by (resv_at asked m st key) refl
      where
        by : (o : Option ResvState) → resv_at asked m st key ≡ o → resv_at asked m st key ≡ None
        by None e = e
        by (Some x) e = let bad : None ≡ Some x = sym none ∙ stood_back m st key x e in absurd (cc)

    held_then : (k : HopKey) (ns : Names) → IsHeldWithin w k ns → IsHeldWithin asked k ns
    held_then k ns held x h = held x (stood_back (node_of w.net.ends k.to) k.style (line_key_of w.net (resv_key w.net k)) x h)

    comes_then : (k : HopKey) (ns : Names) (ys : List Item) → ComesWithin w k ns ys → ComesWithin asked k ns ys
    comes_then k ns ys c =
        ⊎_elim (λ (a : IsHeldWithin w k ns × AllWithin w.net k ns ys). inl (held_then k ns a.0, a.1)) (λ (b : IsWithinLast w.net k ns ys). inr b) c

    kept_then : (k : HopKey) (v : Part) → IsKeptOver w k v → IsKeptOver asked k v
    kept_then k v x = record { resv = x.resv; there = stands_on (node_of w.net.ends k.to) k.style (line_key_of w.net (resv_key w.net k)) x.resv x.there; is = x.is }

    -- ---- so reservations recede still
    module _ (s : Session) (before : List Facts) (r : IsReceding q s before w) where
      more_then : WantedMore before asked
      more_then = record {
        senders = r.more.senders ∙ sym (senders_then q n call w (spares_senders q n call w spares));
        parts = r.more.parts;
        wants = λ x i.
            let a = no_less x i in
            let b = r.more.wants a.want a.among in
            record {
              want = b.want;
              among = b.among;
              node = b.node ∙ a.node;
              session = b.session ∙ a.session;
              style = b.style ∙ a.style;
              part = part_at_most_along x.part a.want.part b.want.part a.part b.part;
            };
      }

      -- reservations stay, and what is sent asks for no more than was wanted
      facts_within : AreKeptWithin before asked
      facts_within st m g k x at h =
          let f = facts_after_found q (At n call) w m g at in
          let old : get (resvs_of st f.0) k ≡ Some x = ap (λ (z : _). get (table_of st z) k) (sym (resvs_same q n call w spares start.bounds m f.0 f.1) ∙ ap (λ (z : Facts). z.resvs) (sym f.2)) ∙ h in
          let y = r.within.facts st m f.0 k x f.1 old in
          record { end = y.end; at = y.at; sound = part_again st (as_before before w) (as_before before asked) k.0 y.end k.1.0.1 k.1.1 x.part refl refl y.sound }

      within_then : AreResvsWithin before asked
      within_then = within_after q (At n call) w start.bounds turned before paths.bounds paths.sound more_then facts_within r.within (in_flight_then q n call w)

      -- nodes have their paths from where they had them
      via_same : (k : HopKey) → In (hop_over k) (hops_of w.net.hops k.session.group) → (f : Facts) → slice_get w.nodes (node_of w.net.ends k.from) ≡ Some f
          → names_via f (lane_of w.net k) ≡ names_via (outcome q (At n call) w (node_of w.net.ends k.from) f).facts (lane_of w.net k)
      via_same k there f at =
          let m : ℕ = node_of w.net.ends k.from in
          let previous : IsPrevious w.net m k.session (lane_of w.net k).hop (hop_over k) = record { there = there; node = refl; iface = refl; addr = refl } in
          via_is w start.bounds.net start.sound start.complete m f at (lane_of w.net k) (hop_over k) previous
          ∙ sym (same_names before w r.more k.style k.session (hop_over k ∷ [])) ∙ same_names before asked more_then k.style k.session (hop_over k ∷ [])
          ∙ sym (via_is asked paths.bounds.net paths.sound paths.complete m (outcome q (At n call) w m f).facts (facts_after_made q (At n call) w m f at) (lane_of w.net k) (hop_over k) previous)

      taken_back_then : AreTakenBack q s asked
      taken_back_then k g of there at none =
          let m : ℕ = node_of w.net.ends k.from in
          let f = facts_after_found q (At n call) w m g at in
          let none' : get (toward (config_of q w.net w.trees m) (outcome q (At n call) w m f.0).facts (lane_of w.net k)) k.unit ≡ None =
          ap (λ (z : Facts). get (toward (config_of q w.net w.trees m) z (lane_of w.net k)) k.unit) (sym f.2) ∙ none in
          let new : List Item = news q (At n call) w in
          let quiet : NoneAsks w.net k new = none_asks q (At n call) w start.bounds turned paths.bounds paths.sound k there g at none in
          gone_before_or_now q (At n call) w start.bounds turned paths.bounds paths.sound k there asked f.0 f.1 none' (λ z i. ap (λ (ns : Names). has ns z) (sym (via_same k there f.0 f.1)) ∙ i)
          (λ e.
          ⊎_elim
          (λ (x : IsForgotten w k).
          inl (record {
            none = none_on (node_of w.net.ends k.to) k.style (line_key_of w.net (resv_key w.net k)) x.none;
            quiet = none_append w.net k w.flight new x.quiet quiet;
          }))
          (λ (x : IsTornLater w k).
          inr (record {
            front = x.front;
            item = x.item;
            back = x.back ++ new;
            is = ap (λ (zs : List Item). zs ++ new) x.is ∙ append_assoc x.front (x.item ∷ x.back) new;
            names = x.names;
            tears = x.tears;
            within = comes_then k x.names x.front x.within;
            quiet = none_append w.net k x.back new x.quiet quiet;
          }))
          (r.torn k f.0 of there f.1 e))
          (λ v e x.
          inr (torn_later asked k x.names w.flight new x.item refl x.new x.tears
          (comes_then k x.names w.flight (comes_within w k v x.names x.less w.flight (r.asked k v f.0 of there f.1 e))) quiet))

      pub receding_then : IsReceding q s before asked
      receding_then = record {
        paths = paths;
        more = more_then;
        within = within_then;
        fit = r.fit;
        free = free_then q n call w s r.free;
        no_error = no_error_then q n call w start.bounds s r.no_error;
        addressed = λ y m i spelt.
            ⊎_elim (λ (old : In y w.flight). r.addressed y m old spelt)
            (λ (new : (b : Bool) × In (y, b) (sent q (At n call) w)). addressed_in_turn q (At n call) w start.bounds turned paths.bounds paths.sound y new.0 m new.1 spelt)
            (in_flight_then q n call w y i);
        asked = asked_then q n call w start.bounds paths.bounds paths.sound s (λ k v there x. kept_then k v x) r.asked;
        torn = taken_back_then;
      }

-- ---- how it begins, where reservations are exact and no Resv is in flight
taken_back : (q : ℕ) (s : Session) (w : World) → IsReserving q s w → HasReserved s w → AreTakenBack q s w
taken_back q s w r reserved k f of there at none =
    inl (record {
      none = by (resv_at w (node_of w.net.ends k.to) k.style key) refl;
      quiet = λ y v i says. reserved.no_resv y says.resv i says.spelt (says.session ∙ of);
    })
  where
    h : LinkHop
    h = hop_over k

    key : LineKey
    key = line_key_of w.net (resv_key w.net k)

    is : toward (config_of q w.net w.trees (node_of w.net.ends k.from)) f (lane_of w.net k) ≡ want k.style w.net (locals_of w) k.session h
    is =
        let most = (rank_falls w.net r.paths.bounds.net.loop_free).hops k.session.group h there in
        toward_at q s (longest w.net) w (record { ready = ready q s w r; free = r.free; addressed = λ y m i born spelt. r.addressed y m i spelt })
        (λ st' h' there' near. reserved.exact st' h' there') (node_of w.net.ends k.from) f at (lane_of w.net k) of h
        (record { there = there; node = refl; iface = refl; addr = refl }) (omega (arith, most.1))

    by : (o : Option ResvState) → resv_at w (node_of w.net.ends k.to) k.style key ≡ o → resv_at w (node_of w.net.ends k.to) k.style key ≡ None
    by None e = e
    by (Some x) e =
        let y = reserved.exact k.style h (subst (λ (z : Session). In h (hops_of w.net.hops z.group)) of there) in
        let stands : get (want k.style w.net (locals_of w) s h) k.unit ≡ Some x.part =
        y.stands k.unit x
        (ap (λ (z : Session). get (resvs_of k.style y.facts) (z, ((iface_of w.net.ends k.to, addr_of w.net k.from), k.unit))) (sym of)
        ∙ sym (resv_made w (node_of w.net.ends k.to) k.style key y.facts y.node) ∙ e) in
        let bad : None ≡ Some x.part = sym none ∙ ap (λ (z : PartTable). get z k.unit) is ∙ ap (λ (z : Session). get (want k.style w.net (locals_of w) z h) k.unit) of ∙ stands in
        absurd (cc)

recedes : (q : ℕ) (s : Session) (w : World) → IsReserving q s w → HasReserved s w → IsReceding q s w.nodes w
recedes q s w r reserved = record {
  paths = r.paths;
  more = record {
    senders = refl;
    parts = want_parts q w r.paths.bounds;
    wants = λ x i. record { want = x; among = i; node = refl; session = refl; style = refl; part = part_at_most_itself x.part };
  };
  within = record {
    facts = λ st n f k x at h.
        let y = r.sound.facts st n f k x at h in
        record { end = y.end; at = y.at; sound = part_again st w (as_before w.nodes w) k.0 y.end k.1.0.1 k.1.1 x.part refl refl y.sound };
    items = λ y m u i spelt asks.
        let x = r.sound.items y m u i spelt asks in
        record {
          names = x.names;
          named = x.named;
          sound = part_again (ask_style m.ask) w (as_before w.nodes w) m.session y.end m.hop.addr u.unit (record { senders = x.names; flow = u.flow }) refl refl x.sound;
        };
  };
  fit = r.fit;
  free = r.free;
  no_error = r.no_error;
  addressed = r.addressed;
  asked = r.asked;
  torn = taken_back q s w r reserved;
}

-- ---- so each session is reserved again H passes after calls that ask for no more
pub reserved_again : (q : ℕ) (before : List Facts) (w : World) → ((c : Session) → IsReceding q c before w) → (c : Session)
    → IsReserving q c (after_passes q (longest w.net) w) × HasReserved c (after_passes q (longest w.net) w)
reserved_again q before w r c =
    let d = fallen c in (
      record {
        paths = d.0.paths;
        sound = record {
          facts = λ st m f k x at h. let e = fallen k.0 in sound_where_reserved q k.0 before later e.0 e.1.exact st m f k x at h refl;
          items = λ y m v i spelt asks. absurd ((fallen m.session).1.no_resv y m i spelt refl);
        };
        fit = fits_again c w later d.2 (less_fits before w (r c).paths.bounds.net (want_parts q w (r c).paths.bounds) (r c).more c (r c).fit);
        free = d.0.free;
        no_error = d.0.no_error;
        addressed = d.0.addressed;
        asked = d.0.asked;
      },
      d.1,
    )
  where
    later : World
    later = after_passes q (longest w.net) w

    fallen : (c : Session) → IsReceding q c before later × HasReserved c later × IsSameNet w later
    fallen c = reservations_recede q c before w (r c)

pub some_session : Session
some_session = record { group = record { 0 = 0 }; proto = 0; port = 0 }

pub settles_again : (q : ℕ) (before : List Facts) (w : World) → ((c : Session) → IsReceding q c before w) → HasSettled q (after_passes q (longest w.net) w)
settles_again q before w r =
    settled_again q some_session (after_passes q (longest w.net) w) (λ c. (reserved_again q before w r c).0) (λ c. (reserved_again q before w r c).1.exact)

-- a settled network in which nothing is in flight
pub settled_recedes : (q : ℕ) (w : World) → IsStart q w → HasSettled q w → w.flight ≡ [] → (c : Session) → IsReceding q c w.nodes w
settled_recedes q w start settled quiet c =
    recedes q c w (settled_is_reserved q w start settled quiet c)
    (record { exact = λ st h there. settled.resvs_exact st c h there; no_resv = λ y m i. absurd (subst (λ (z : List Item). In y z) quiet i) })

-- ---- a receiver quits
pub quit_kept : (c : Session) (f : Facts) (k : WantKey) (x : Want) → get (wants_with (QuitAll c) f.wants) k ≡ Some x → get f.wants k ≡ Some x
quit_kept c f k x e =
    either (eq_by_cmp sessions.cmp k.0 c)
    (λ yes.
    let same = tied_same sessions k.0 c yes in
    let bad : None ≡ Some x = sym (calls_leave.quit c f.wants k.1) ∙ ap (λ (z : Session). get (wants_with (QuitAll c) f.wants) (z, k.1)) (sym same) ∙ e in
    absurd (cc))
    (λ no. sym (calls_leave.quit_beside c f.wants k (λ same. let bad : true ≡ false = sym (ap (λ (z : Session). eq_by_cmp sessions.cmp z c) same ∙ tied_self sessions c) ∙ no in cc)) ∙ e)

-- so reservations recede still
pub quit_recedes : (q n : ℕ) (c : Session) (before : List Facts) (w : World) (s : Session) → IsReceding q s before w → IsReceding q s before (after_quit q n c w)
quit_recedes q n c before w s r =
    receding_then q n (QuitAll c) w r.paths tt refl (λ f at taken k x e. record { want = x; there = quit_kept c f k x e; style = refl; part = part_at_most_itself x.part }) s before r

quits_on : (q : ℕ) (before : List Facts) (xs : List (ℕ × Session)) (w : World) → ((c : Session) → IsReceding q c before w)
    → ((c : Session) → IsReceding q c before (after_quits q xs w)) × ((after_quits q xs w).net ≡ w.net)
quits_on q before [] w r = (r, refl)
quits_on q before (x ∷ xs) w r = quits_on q before xs (after_quit q x.0 x.1 w) (λ c. quit_recedes q x.0 x.1 before w c (r c))

pub a_settled_network_releases : (q : ℕ) (xs : List (ℕ × Session)) (w : World) → IsStart q w → HasSettled q w → w.flight ≡ [] → HasSettled q (after_passes q (longest w.net) (after_quits q xs w))
a_settled_network_releases q xs w start settled quiet =
    let r = quits_on q w.nodes xs w (settled_recedes q w start settled quiet) in
    subst (λ (z : Net). HasSettled q (after_passes q (longest z) (after_quits q xs w))) r.1
    (settles_again q w.nodes (after_quits q xs w) r.0)

pub a_reserved_network_releases : (q : ℕ) (xs : List (ℕ × Session)) (w : World) → ((s : Session) → IsReserving q s w × HasReserved s w) → (s : Session)
    → IsReserving q s (after_passes q (longest w.net) (after_quits q xs w)) × HasReserved s (after_passes q (longest w.net) (after_quits q xs w))
a_reserved_network_releases q xs w reserved s =
    let r = quits_on q w.nodes xs w (λ c. recedes q c w (reserved c).0 (reserved c).1) in
    subst (λ (z : Net). IsReserving q s (after_passes q (longest z) (after_quits q xs w)) × HasReserved s (after_passes q (longest z) (after_quits q xs w))) r.1
    (reserved_again q w.nodes (after_quits q xs w) r.0 s)

-- ---- a receiver asks for no more than before
module _ (q n : ℕ) (c : Session) (st : StyleKind) (names : Names) (flow : TokenBucket) (confirm : Bool) (w : World) (no_more : AsksNoMore w n c st names flow confirm) where
  asks_less : (f : Facts) → slice_get w.nodes n ≡ Some f → call_refusal (config_of q w.net w.trees n) (WantAs c st names flow confirm) f ≡ None → (k : WantKey) (x : Want)
      → get (wants_with (WantAs c st names flow confirm) f.wants) k ≡ Some x → WasWanted f k x
  asks_less f at taken k x e =
      ⊎_elim
      (λ (old : get f.wants k ≡ Some x). record { want = x; there = old; style = refl; part = part_at_most_itself x.part })
      (λ (new : In (k, x) (wanted c st names flow confirm)).
      let told = wanted_told c st names flow confirm k x new in
      let d = no_more f k x at new in
      let there : get f.wants (c, k.1) ≡ Some d.0 = ap (λ (z : Session). get f.wants (z, k.1)) (sym told.0) ∙ d.1 in
      let one : d.0.style ≡ st = either (eq_by_cmp styles.cmp d.0.style st) (λ tied. tied_same styles d.0.style st tied)
      (λ apart. absurd (((call_refusals.wants (config_of q w.net w.trees n) f c st names flow confirm).0 taken).0
      (record {
        unit = k.1;
        want = d.0;
        there = there;
        other = λ same_style. let bad : true ≡ false = sym (ap (λ (z : StyleKind). eq_by_cmp styles.cmp z st) same_style ∙ tied_self styles st) ∙ apart in cc;
      }))) in
      record { want = d.0; there = d.1; style = one ∙ sym told.1; part = d.2 })
      (calls_leave.wanted_source c st names flow confirm f.wants k x e)

  pub less_recedes : IsFitList st names × IsSound flow → (before : List Facts) (s : Session) → IsReceding q s before w → IsReceding q s before (after_want q n c st names flow confirm w)
  less_recedes fit before s r = receding_then q n (WantAs c st names flow confirm) w r.paths fit refl asks_less s before r

pub a_settled_network_serves_less : (q n : ℕ) (s : Session) (st : StyleKind) (names : Names) (flow : TokenBucket) (confirm : Bool) (w : World) → IsStart q w → HasSettled q w → w.flight ≡ []
    → IsFitList st names → IsSound flow → AsksNoMore w n s st names flow confirm
    → HasSettled q (after_passes q (longest w.net) (after_want q n s st names flow confirm w))
a_settled_network_serves_less q n s st names flow confirm w start settled quiet list sound no_more =
    settles_again q w.nodes (after_want q n s st names flow confirm w)
    (λ c. less_recedes q n s st names flow confirm w no_more (list, sound) w.nodes c (settled_recedes q w start settled quiet c))

pub a_reserved_network_serves_less : (q n : ℕ) (c : Session) (st : StyleKind) (names : Names) (flow : TokenBucket) (confirm : Bool) (w : World)
    → ((s : Session) → IsReserving q s w × HasReserved s w) → IsFitList st names → IsSound flow → AsksNoMore w n c st names flow confirm → (s : Session)
    → IsReserving q s (after_passes q (longest w.net) (after_want q n c st names flow confirm w)) × HasReserved s (after_passes q (longest w.net) (after_want q n c st names flow confirm w))
a_reserved_network_serves_less q n c st names flow confirm w reserved list sound no_more s =
    reserved_again q w.nodes (after_want q n c st names flow confirm w)
    (λ d. less_recedes q n c st names flow confirm w no_more (list, sound) w.nodes d (recedes q d w (reserved d).0 (reserved d).1)) s
