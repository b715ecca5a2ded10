-- ResvErrs that name senders, or are of a wildcard filter, are gone: each goes on along a chain of hops whose trees have a sender in common, one hop a round.
use Rattle.std.proofs.Common.{◌≡◌, ◌⊎◌, ℕ, suc, ◌+◌, ◌<◌, ◌≤◌, List, [], ◌∷◌, Bool, true, Option, None, Some, inl, inr, ⊎_elim, arith, sym, refl, ap, subst, ◌∙◌}
use Rattle.std.specs.Prelude.{is_some}
use Rattle.rsvp_base.specs.declared.session.Session.{Session}
use Rattle.rsvp_base.specs.declared.style.StyleKind.{StyleKind}
use Rattle.rsvp_base.specs.declared.style.StyleKind.TheVariants.{Wild, Fixed, Shared}
use Rattle.rsvp_base.specs.Members.{In}
use Rattle.rsvp_base.specs.Orders.{Names}
use Rattle.rsvp_base.specs.Sets.{IsWithin}
use Rattle.rsvp_base.specs.Table.{has}
use Rattle.rsvp_messages.specs.declared.message.Message.TheVariants as message
use Rattle.rsvp_messages.specs.declared.message.ResvErrMsg.{ResvErrMsg}
use Rattle.style_rules.specs.PartLaws.{part_at_most_told}
use Rattle.calm_rounds.specs.Hold.{Hold}
use Rattle.calm_rounds.specs.Rounds.{Rounds}
use Rattle.calm_rounds.proofs.Holding.{hold_both, hold_later, hold_map}
use Rattle.router_rules.specs.Act.{act}
use Rattle.router_rules.specs.Asking.{Everyone, These, as_listed}
use Rattle.router_rules.specs.Errors.{blamed, error_listing}
use Rattle.router_rules.specs.Facts.{ResvState}
use Rattle.router_rules.specs.Inputs.{ErrSend, OfResv, Send, Spelt}
use Rattle.router_rules.specs.NodeConfig.{NodeConfig, own}
use Rattle.router_rules.specs.Rule.{settled}
use Rattle.router_rules.specs.Sends.{error_send}
use Rattle.laws_bounds.proofs.Lists.{one_name}
use Rattle.laws_bounds.proofs.Stepping.{send_told}
use Rattle.laws_steps.specs.ReservationLaws.{IsListed}
use Rattle.laws_steps.proofs.Blaming.{where_an_error_with_a_flow_comes_from}
use Rattle.tree_model.specs.declared.hops.LinkHop.{LinkHop}
use Rattle.tree_model.specs.Networks.{Net, node_of}
use Rattle.tree_model.specs.Ranks.{longest, rank}
use Rattle.tree_model.specs.Trees.{hops_of}
use Rattle.tree_model.specs.Valid.{IsValid}
use Rattle.tree_model.specs.Wants.{Locals, names}
use Rattle.tree_model.proofs.RankLaws.{rank_falls, rank_falls_at, rank_some}
use Rattle.tree_model.proofs.WantLaws.{a_common_name, want_names}
use Rattle.network_model.specs.Locals.{locals_of}
use Rattle.network_model.specs.Steps.{Step, is_quiet, machine, ms_of, sent}
use Rattle.network_model.specs.Worlds.{Item, World, config_of}
use Rattle.settle_paths.proofs.Sends.{IsSentByRule, sent_by_rule}
use Rattle.settle_refreshes.proofs.Fading.{Are, fades}
use Rattle.settle_refreshes.proofs.Going.{IsAllReady, all_spelt, came_item, lands, leaves, none_refused}
use Rattle.settle_refreshes.proofs.Sources.{GoesAhead, GoesBack, IsRefused, IsReply, ahead_is, error_source, listing_says, not_of_path, resv_err_made}

-- it names senders, or is of a wildcard filter
abbrev pub IsNamed : ResvErrMsg → Type 0
IsNamed m = (is_some m.blame.senders ≡ true) ⊎ (m.blame.style ≡ Wild)

abbrev pub HasNoNamedErr : World → Type 0
HasNoNamedErr u = (y : Item) (m : ResvErrMsg) → In y u.flight → y.arrival ≡ Spelt (message.ResvErr m) → IsNamed m → ⊥

-- it comes over a hop whose names it names, from which no chain is longer than a number
pub record IsAlong (net : Net) (l : Locals) (j : ℕ) (y : Item) (m : ResvErrMsg) : Type 0 where
  pub named : Names
  pub listed : m.blame.senders ≡ Some named
  pub hop : LinkHop
  pub there : In hop (hops_of net.hops m.session.group)
  pub to : hop.to ≡ y.end
  pub within : IsWithin named (names m.blame.style net l m.session (hop ∷ []))
  pub near : rank net m.session.group hop ≤ j

-- or the number is beyond all chains
abbrev pub IsLow : Net × Locals → ℕ → Item → ResvErrMsg → Type 0
IsLow z j y m = (longest z.0 < j) ⊎ IsAlong z.0 z.1 j y m

abbrev pub Along : Net × Locals → ℕ → Item → Type 0
Along z j y = (m : ResvErrMsg) → y.arrival ≡ Spelt (message.ResvErr m) → IsNamed m → IsLow z j y m

-- what goes on names senders, or is of a wildcard filter, where what came did
named_before : (st : StyleKind) (listed out : Option Names) (all : Names) → blamed st listed all ≡ as_listed out → (is_some out ≡ true) ⊎ (st ≡ Wild) → (is_some listed ≡ true) ⊎ (st ≡ Wild)
named_before st (Some names) out all e h = inl refl
named_before Wild None out all e h = inr refl
named_before Fixed None (Some names) all e h = let no : Everyone ≡ These names = e in absurd (cc)
named_before Fixed None None all e h = ⊎_elim (λ (no : is_some {T = Names} None ≡ true). absurd (cc)) (λ (no : Fixed ≡ Wild). absurd (cc)) h
named_before Shared None (Some names) all e h = let no : Everyone ≡ These names = e in absurd (cc)
named_before Shared None None all e h = ⊎_elim (λ (no : is_some {T = Names} None ≡ true). absurd (cc)) (λ (no : Shared ≡ Wild). absurd (cc)) h

module _ (q : ℕ) (o u : World) (all : IsAllReady q o u) (s : Step) (quiet : is_quiet s ≡ true) (j : ℕ) (low : (y : Item) → In y u.flight → Along (u.net, locals_of u) (suc j) y) where
  along : (y : Item) (m : ResvErrMsg) → IsNamed m → (r : IsSentByRule q s u y (message.ResvErr m)) (e : ErrSend) → r.send ≡ error_send e → e.error ≡ OfResv m
      → GoesAhead (config_of q u.net u.trees r.node) (u.clock + ms_of s) r.facts e r.by.input → IsAlong u.net (locals_of u) j y m
  along y m named r e is of x =
      let valid = all.known.bounds.net in
      let p : NodeConfig = config_of q u.net u.trees r.node in
      let st : StyleKind = x.error.blame.style in
      let on : Session = x.error.session in
      let resv : ResvState = x.to.spoken.resv in
      let t = came_item s u r.node r.by.input quiet r.by.came x.at (own p x.at) (Spelt (message.ResvErr x.error)) x.came in
      let goes : e ≡ (error_listing p x.error x.to.hop x.to.names).1 = ahead_is p (u.clock + ms_of s) r.facts e r.by.input x in
      let says = listing_says p x.error x.to.hop x.to.names m (ap (λ (z : ErrSend). z.error) (sym goes) ∙ of) in
      let iface : r.send.iface ≡ x.to.hop.0 = ap (λ (z : Send). z.iface) is ∙ ap (λ (z : ErrSend). z.iface) goes in
      let dst : r.send.dst ≡ x.to.hop.1 = ap (λ (z : Send). z.dst) is ∙ ap (λ (z : ErrSend). z.dst) goes in
      -- the reservation over whose hop it goes on
      let sound = (all.ready on).resvs.facts st r.node r.facts (on, (x.to.hop, x.to.unit)) resv r.there x.to.spoken.there in
      let h : LinkHop = sound.sound.hop in
      let from : node_of u.net.ends h.from ≡ r.node = leaves u valid all.known.bounds.hosts r.node st (on, (x.to.hop, x.to.unit)) resv sound r.send.iface r.send.dst iface dst y.end r.to in
      let to : h.to ≡ y.end = lands u valid all.known.bounds.hosts r.node st (on, (x.to.hop, x.to.unit)) resv sound r.send.iface r.send.dst iface dst y.end r.to in
      -- its names
      let named' : (is_some x.to.names ≡ true) ⊎ (st ≡ Wild) =
      ⊎_elim (λ (z : is_some m.blame.senders ≡ true). inl (ap (λ (v : Option Names). is_some v) (sym says.2) ∙ z)) (λ (z : m.blame.style ≡ Wild). inr (sym says.1 ∙ z)) named in
      let which : IsNamed x.error = named_before st x.error.blame.senders x.to.names resv.part.senders x.to.spoken.blames named' in
      let got = where_an_error_with_a_flow_comes_from.names p u.clock r.facts (all.known.bounds.facts r.node r.facts r.there) st (on, (x.to.hop, x.to.unit)) resv x.error.blame.senders x.to.names
      x.to.spoken.there x.to.spoken.blames which in
      let up = part_at_most_told resv.part sound.sound.wanted sound.sound.below in
      let within : IsWithin got.0 (names st u.net (locals_of u) on (h ∷ [])) =
      (λ z i. want_names st u.net (locals_of u) on h x.to.unit sound.sound.wanted sound.sound.is z (up.names z (got.2.in_resv z i))) in
      let near : rank u.net on.group h ≤ j =
      ⊎_elim (λ (far : longest u.net < suc j). let most = (rank_falls u.net valid.loop_free).hops on.group h sound.sound.there in omega (arith, most.1, far))
      (λ (al : IsAlong u.net (locals_of u) (suc j) t.item x.error).
      let one = one_name got.0 got.2.some in
      let in_named : has al.named one.0 ≡ true = subst (λ (z : Option Names). IsListed z one.0) al.listed (got.2.in_error one.0 one.1) in
      let follows = (a_common_name st u.net (locals_of u) on al.hop h one.0 (al.within one.0 in_named) (within one.0 one.1) (from ∙ sym t.node ∙ ap (node_of u.net.ends) (sym al.to))).1 in
      let falls = rank_falls_at u.net valid.loop_free on.group al.hop h follows in
      let close = al.near in
      omega (arith, falls, close))
      (low t.item t.flies x.error t.says which) in
      record {
        named = got.0;
        listed = says.2 ∙ got.1;
        hop = h;
        there = subst (λ (z : Session). In h (hops_of u.net.hops z.group)) (sym says.0) sound.sound.there;
        to = to;
        within = subst (λ (z : StyleKind × Session). IsWithin got.0 (names z.0 u.net (locals_of u) z.1 (h ∷ []))) (λ k. (sym says.1 k, sym says.0 k)) within;
        near = subst (λ (z : Session). rank u.net z.group h ≤ j) (sym says.0) near;
      }

  sent_along : (y : Item) (b : Bool) → In (y, b) (sent q s u) → Along (u.net, locals_of u) j y
  sent_along y b i m spelt named =
      let r = sent_by_rule q s u y b (message.ResvErr m) quiet i spelt in
      let p : NodeConfig = config_of q u.net u.trees r.node in
      let c : ℕ = u.clock + ms_of s in
      let e = resv_err_made p p r.facts (settled p c r.facts (act p c r.by.input r.facts).facts) (act p c r.by.input r.facts) r.send m r.says (send_told p p c r.by.input r.facts r.send r.sent) in
      ⊎_elim
      (λ (x : IsRefused p c r.facts e.0 r.by.input).
      absurd (none_refused q o u all s quiet r.node r.facts r.there r.by.input r.by.came x.at x.resv x.came r.send m r.sent r.says))
      (λ k.
      ⊎_elim (λ (x : GoesBack p c r.facts e.0 r.by.input). absurd (not_of_path x.error m (sym (ap (λ (z : ErrSend). z.error) x.is) ∙ e.3)))
      (λ k.
      ⊎_elim (λ (x : GoesAhead p c r.facts e.0 r.by.input). inr (along y m named r e.0 e.2 e.3 x))
      (λ (x : IsReply p c r.facts e.0 r.by.input). all_spelt q o u all s quiet r.node r.facts r.there r.by.input r.by.came x.at x.dst x.fault x.came) k) k)
      (error_source p c r.facts e.0 r.by.input e.1)

pub named_errors_go : (q : ℕ) (o w : World) (rs : List (List Step)) → Rounds (machine q) rs w → Hold (machine q) 0 rs w (IsAllReady q o) → Hold (machine q) (suc (longest o.net)) rs w HasNoNamedErr
named_errors_go q o w rs calm all =
    let k : ℕ = suc (longest o.net) in
    hold_map (machine q) (λ u. IsAllReady q o u × Are q (IsAllReady q o) (Along (o.net, locals_of o)) 0 0 u) HasNoNamedErr
    (λ u h y m i spelt named.
    ⊎_elim (λ (far : longest o.net < 0). absurd (omega (arith, far)))
    (λ (al : IsAlong o.net (locals_of o) 0 y m).
    let valid = subst IsValid h.0.known.same.net h.0.known.bounds.net in
    let some = rank_some o.net valid.loop_free m.session.group al.hop al.there in
    let close = al.near in
    absurd (omega (arith, some, close)))
    (h.1 y i (omega arith) m spelt named)) k rs w
    (hold_both (machine q) (IsAllReady q o) (Are q (IsAllReady q o) (Along (o.net, locals_of o)) 0 0) k rs w (hold_later (machine q) (IsAllReady q o) 0 k rs w (omega arith) all)
    (fades q (IsAllReady q o) (Along (o.net, locals_of o)) (λ u h. h.known.bounds) k (λ u h y i born m spelt named. inl (omega arith))
    (λ j s u quiet a a' low y b i.
    let same : ◌≡◌ {A = Net × Locals} (u.net, locals_of u) (o.net, locals_of o) = (λ d. (a.known.same.net d, a.known.same.locals d)) in
    subst (λ (z : Net × Locals). Along z j y) same
    (sent_along q o u a s quiet j (λ x d. subst (λ (z : Net × Locals). Along z (suc j) x) (sym same) (low x d (omega arith))) y b i)) k 0 (omega arith) rs w calm all))
