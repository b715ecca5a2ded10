-- What is refused while a sender that ended is forgotten goes back over a hop, and names some of the names that were asked for over it: so an
-- error has as many hops to go at most as the longest chain.
use Rattle.std.proofs.Common.{◌≡◌, ℕ, ◌+◌, ◌≤◌, List, [], ◌∷◌, Bool, true, false, cond, Option, None, Some, inl, inr, ⊎_elim, sym, refl, ap, subst, ◌∙◌}
use Rattle.std.specs.Prelude.{slice_get, not, map as each}
use Rattle.settle_senders.proofs.TakenFor.{part_taken}
use Rattle.settle_senders.proofs.Refusing.{GoesMildly, HasPlaces, carries, of_error, placed, unit_mild}
use Rattle.settle_senders.proofs.Ending.{IsLettingGo}
use Rattle.settle_resvs.proofs.Errors.{IsAlong}
use Rattle.laws_network.proofs.Sends.{IsSentByRule}
use Rattle.router_rules.specs.Asking.{unmatched, Asker, Blamed, Everyone, Nobody, Taking, These, asker_of, losses, lost, matched}
use Rattle.router_rules.specs.Asking.{names_that_match, nothing_taken, put_unit, refusal, style_conflict, style_value, take_unit, take_units, taking, taking_of, tell_lost}
use Rattle.rsvp_base.proofs.SetLaws.{and_both, has-kept}
use Rattle.rsvp_base.specs.Table.{has, kept}
use Rattle.rsvp_base.specs.declared.part.Part.{Part}
use Rattle.rsvp_base.specs.declared.style.StyleKind.{StyleKind}
use Rattle.rsvp_base.specs.declared.style.StyleKind.TheVariants.{Fixed, Shared, Wild}
use Rattle.rsvp_base.specs.Members.{In}
use Rattle.rsvp_base.specs.Orders.{Names}
use Rattle.rsvp_base.specs.Sets.{IsWithin, is_none, cut}
use Rattle.rsvp_base.specs.TokenBucket.{TokenBucket}
use Rattle.rsvp_base.proofs.Members.{in_append, in_each}
use Rattle.rsvp_messages.specs.declared.message.Message.TheVariants as message
use Rattle.rsvp_messages.specs.declared.message.ResvErrMsg.{ResvErrMsg}
use Rattle.rsvp_messages.specs.declared.message.ResvMsg.{ResvMsg}
use Rattle.rsvp_messages.specs.Units.{AskedUnit, ask_style, asked_units}
use Rattle.style_rules.specs.Lines.{AreUnder, Line}
use Rattle.style_rules.specs.Parts.{part_of}
use Rattle.laws_steps.specs.AcceptingLaws.{CanBeHeld}
use Rattle.laws_steps.specs.BlameLaws.{IsRefusal}
use Rattle.router_rules.specs.Books.{lines}
use Rattle.router_rules.specs.Facts.{Facts, ResvTables, SenderKey, resvs_of, table_of, with_table}
use Rattle.router_rules.specs.Inputs.{Came, ErrSend, OfResv, Spelt}
use Rattle.router_rules.specs.Known.{known}
use Rattle.router_rules.specs.NodeConfig.{NodeConfig, own}
use Rattle.tree_model.specs.Goals.{DemandsFit, addr_of, addr_of_end}
use Rattle.tree_model.specs.Networks.{Net, iface_of, node_of, node_of_end, end_at, peers}
use Rattle.network_model.specs.Locals.{locals_of}
use Rattle.network_model.specs.Steps.{Deliver}
use Rattle.network_model.specs.Worlds.{Item, World, config_of}
use Rattle.network_model.proofs.Machines.{in_arrived}
use Rattle.settle_resvs.specs.GoalByIface.{goal_at}
use Rattle.settle_resvs.specs.Sessions.{SessionFits}
use Rattle.settle_resvs.proofs.GoalByIface.{each_fits, session_can_be_held}
use Rattle.settle_resvs.proofs.UnderTheGoal.{sound_under}
use Rattle.settle_passes.proofs.Deliveries.{came_by_delivery}
use Rattle.settle_passes.proofs.Fitting.{as_before}
use Rattle.rsvp_base.specs.declared.addr.Addr.{Addr}
use Rattle.rsvp_base.specs.declared.session.Session.{Session}
use Rattle.style_rules.specs.PartLaws.{part_at_most_told}
use Rattle.tree_model.specs.declared.hops.End.{End}
use Rattle.tree_model.specs.declared.hops.LinkHop.{LinkHop}
use Rattle.tree_model.specs.Ranks.{longest, rank}
use Rattle.tree_model.specs.Trees.{hops_of, tree}
use Rattle.tree_model.proofs.Following.{in_group, to_tree}
use Rattle.tree_model.proofs.Ifaces.{interfaces_are_ends}
use Rattle.tree_model.proofs.Links.{hop_linked}
use Rattle.tree_model.proofs.RankLaws.{rank_falls}
use Rattle.tree_model.proofs.WantLaws.{want_names}
use Rattle.network_model.specs.Links.{goes_to, is_group}
use Rattle.network_model.proofs.Changing.{where_a_send_goes}
use Rattle.laws_network.proofs.Known.{of_some}
use Rattle.laws_network.proofs.Standing.{own_end, peer_there, some_at}
use Rattle.settle_paths.proofs.PreviousHops.{ends_there, same_by_addr}
use Rattle.rsvp_base.specs.Orders.{senders}
use Rattle.tree_model.specs.Wants.{names}

-- ---- what is refused goes back over the hop of the Resv, and names some of its names
pub record IsBack (p : NodeConfig) (o : Asker) (us : List AskedUnit) (e : ErrSend) : Type 0 where
  pub unit : AskedUnit
  pub asks : In unit us
  pub names : Names
  pub listed : unit.names ≡ Some names
  pub blames : Names
  pub some : is_none blames ≡ false
  pub less : IsWithin blames names
  pub iface : e.iface ≡ o.iface
  pub dst : e.dst ≡ o.next
  pub session : (w : ResvErrMsg) → e.error ≡ OfResv w → w.session ≡ o.session
  pub style : (w : ResvErrMsg) → e.error ≡ OfResv w → w.blame.style ≡ o.style
  pub hop : (w : ResvErrMsg) → e.error ≡ OfResv w → w.hop.addr ≡ own p o.iface
  pub senders : (w : ResvErrMsg) → e.error ≡ OfResv w → w.blame.senders ≡ Some blames

module _ (p : NodeConfig) (o : Asker) (f : Facts) (gs : List Line) (can : CanBeHeld p o.session o.iface gs) (whole : List AskedUnit) where
  made_of_refusal : (code value : ℕ) (names : Option Names) (flow : TokenBucket) (w : ResvErrMsg) → (refusal p o false code value names flow).error ≡ OfResv w
      → (w.session ≡ o.session) × (w.blame.style ≡ o.style) × (w.hop.addr ≡ own p o.iface) × (w.blame.senders ≡ names)
  made_of_refusal code value names flow w e =
      let made : ResvErrMsg = record {
        session = o.session;
        hop = record { addr = own p o.iface; handle = 0 };
        err = record { node = own p o.iface; in_place = false; not_guilty = false; code = code; value = value };
        blame = record { style = o.style; senders = names; flow = Some flow };
      } in
      let same : OfResv made ≡ OfResv w = e in
      let is : w ≡ made = cc in
      (ap (λ (z : ResvErrMsg). z.session) is, ap (λ (z : ResvErrMsg). z.blame.style) is, ap (λ (z : ResvErrMsg). z.hop.addr) is, ap (λ (z : ResvErrMsg). z.blame.senders) is)

  back : (u : AskedUnit) → In u whole → (names ns : Names) → u.names ≡ Some names → is_none ns ≡ false → IsWithin ns names → (code value : ℕ) (flow : TokenBucket)
      → IsBack p o whole (refusal p o false code value (Some ns) flow)
  back u i names ns listed some less code value flow = record {
    unit = u;
    asks = i;
    names = names;
    listed = listed;
    blames = ns;
    some = some;
    less = less;
    iface = refl;
    dst = refl;
    session = λ w e. (made_of_refusal code value (Some ns) flow w e).0;
    style = λ w e. (made_of_refusal code value (Some ns) flow w e).1;
    hop = λ w e. (made_of_refusal code value (Some ns) flow w e).2;
    senders = λ w e. (made_of_refusal code value (Some ns) flow w e).3;
  }

  unmatched_within : (names all ns : Names) → unmatched (Some names) all ≡ These ns → (is_none ns ≡ false) × IsWithin ns names
  unmatched_within names all ns e = by (is_none (kept (λ x. not (has all x)) names)) refl e
    where
      rest : Names
      rest = kept (λ x. not (has all x)) names

      by : (b : Bool) → is_none (kept (λ x. not (has all x)) names) ≡ b → cond b Nobody (These (kept (λ x. not (has all x)) names)) ≡ These ns → (is_none ns ≡ false) × IsWithin ns names
      by true n h = let bad : Nobody ≡ These ns = h in absurd (cc)
      by false n h =
          let same : These (kept (λ x. not (has all x)) names) ≡ These ns = h in
          let is : kept (λ x. not (has all x)) names ≡ ns = cc in
          (ap is_none (sym is) ∙ n, λ x i. (and_both _ _ (sym (has-kept senders (λ z. not (has all z)) names x) ∙ ap (λ (z : Names). has z x) is ∙ i)).0)

  -- whom a loss blames
  blamed_within : (st : StyleKind) (names all ns : Names) → is_none names ≡ false → lost st (Some names) all ≡ These ns → (is_none ns ≡ false) × IsWithin ns names
  blamed_within Wild names all ns some e = by (is_none (cut names all)) e
    where
      by : (b : Bool) → cond b (These names) Nobody ≡ These ns → (is_none ns ≡ false) × IsWithin ns names
      by true h = let same : These names ≡ These ns = h in let is : names ≡ ns = cc in (ap is_none (sym is) ∙ some, λ x i. ap (λ (z : Names). has z x) is ∙ i)
      by false h = let bad : Nobody ≡ These ns = h in absurd (cc)
  blamed_within Fixed names all ns some e = unmatched_within names all ns e
  blamed_within Shared names all ns some e = unmatched_within names all ns e

  never_all : (st : StyleKind) (names all : Names) → lost st (Some names) all ≡ Everyone → ⊥
  never_all Wild names all e = by (is_none (cut names all)) e
    where
      by : (b : Bool) → cond b (These names) Nobody ≡ Everyone → ⊥
      by true h = let bad : These names ≡ Everyone = h in absurd (cc)
      by false h = let bad : Nobody ≡ Everyone = h in absurd (cc)
  never_all Fixed names all e = by (is_none (kept (λ x. not (has all x)) names)) e
    where
      by : (b : Bool) → cond b Nobody (These (kept (λ x. not (has all x)) names)) ≡ Everyone → ⊥
      by true h = let bad : Nobody ≡ Everyone = h in absurd (cc)
      by false h = let bad : These (kept (λ x. not (has all x)) names) ≡ Everyone = h in absurd (cc)
  never_all Shared names all e = by (is_none (kept (λ x. not (has all x)) names)) e
    where
      by : (b : Bool) → cond b Nobody (These (kept (λ x. not (has all x)) names)) ≡ Everyone → ⊥
      by true h = let bad : Nobody ≡ Everyone = h in absurd (cc)
      by false h = let bad : These (kept (λ x. not (has all x)) names) ≡ Everyone = h in absurd (cc)

  loss_back : (u : AskedUnit) → In u whole → (names all : Names) → u.names ≡ Some names → is_none names ≡ false → (b : Blamed) → lost o.style (Some names) all ≡ b → (e : ErrSend)
      → In e (losses p o u.flow b) → IsBack p o whole e
  loss_back u i names all listed some Nobody is e j = absurd j
  loss_back u i names all listed some Everyone is e j = absurd (never_all o.style names all is)
  loss_back u i names all listed some (These ns) is e j =
      let w = blamed_within o.style names all ns some is in
      ⊎_elim (λ (x : e ≡ refusal p o false 4 0 (Some ns) u.flow). subst (IsBack p o whole) (sym x) (back u i names ns listed w.0 w.1 4 0 u.flow)) (λ (no_more : ⊥). absurd no_more) j

  module _ (all : Names) where
    unit_back : (t : Taking) (u : AskedUnit) → In u whole → (places : HasPlaces o gs u) → is_none places.names ≡ false → GoesMildly p o f gs can t → ((e : ErrSend) → In e t.errors
        → IsBack p o whole e)
        → (e : ErrSend) → In e (take_unit p o f all t u).errors → IsBack p o whole e
    unit_back t u i places some mild old e j = by (part_of (names_that_match u.names all) u.flow) refl
      where
        told_back : In e (tell_lost p o u.flow (lost o.style u.names all) t).errors → IsBack p o whole e
        told_back n =
            ⊎_elim (λ (z : In e t.errors). old e z)
            (λ (z : In e (losses p o u.flow (lost o.style u.names all))).
            loss_back u i places.names all places.listed some (lost o.style u.names all) (ap (λ (b : Option Names). lost o.style b all) (sym places.listed)) e z)
            (in_append e t.errors (losses p o u.flow (lost o.style u.names all)) n)

        by : (w : Option Part) → part_of (names_that_match u.names all) u.flow ≡ w → IsBack p o whole e
        by None h = told_back (subst (λ (z : Option Part). In e (put_unit p o f u.unit z (tell_lost p o u.flow (lost o.style u.names all) t)).errors) h j)
        by (Some part) h = told_back (subst (λ (z : Taking). In e z.errors) (part_taken p o f gs can all t u places mild part h) j)

    units_back : (us : List AskedUnit) → ((u : AskedUnit) → In u us → In u whole) → (places : (u : AskedUnit) → In u us → HasPlaces o gs u)
        → ((u : AskedUnit) (i : In u us) → is_none (places u i).names ≡ false) → (t : Taking) → GoesMildly p o f gs can t → ((e : ErrSend) → In e t.errors → IsBack p o whole e)
        → (e : ErrSend) → In e (take_units p o f all t us).errors → IsBack p o whole e
    units_back [] among places some t mild old e j = old e j
    units_back (u ∷ us) among places some t mild old e j =
        units_back us (λ v i. among v (inr i)) (λ v i. places v (inr i)) (λ v i. some v (inr i)) (take_unit p o f all t u) (unit_mild p o f gs can all t u (places u (inl refl)) mild)
        (λ z n. unit_back t u (among u (inl refl)) (places u (inl refl)) (some u (inl refl)) mild old z n) e j

as_it_stood : (st : StyleKind) (ts : ResvTables) → with_table st (table_of st ts) ts ≡ ts
as_it_stood Wild ts = refl
as_it_stood Fixed ts = refl
as_it_stood Shared ts = refl

pub taking_back : (p : NodeConfig) (c e : ℕ) (m : ResvMsg) (f : Facts) (gs : List Line) → CanBeHeld p m.session e gs → AreUnder (lines f) gs
    → (places : (u : AskedUnit) → In u (asked_units m.ask) → HasPlaces (asker_of p c e m) gs u) → ((u : AskedUnit) (i : In u (asked_units m.ask)) → is_none (places u i).names ≡ false)
    → (x : ErrSend) → In x (taking p c e m f).errors → IsBack p (asker_of p c e m) (asked_units m.ask) x
taking_back p c e m f gs can there places some x i = by (is_none (known f m.session)) (style_conflict f m.session (ask_style m.ask)) i
  where
    o : Asker
    o = asker_of p c e m

    all_back : (code value : ℕ) → In x (each (λ (u : AskedUnit). refusal p o false code value u.names u.flow) (asked_units m.ask)) → IsBack p o (asked_units m.ask) x
    all_back code value j =
        let z = in_each (λ (u : AskedUnit). refusal p o false code value u.names u.flow) x (asked_units m.ask) j in
        let h = places z.0 z.1 in
        subst (IsBack p o (asked_units m.ask)) (ap (λ (b : Option Names). refusal p o false code value b z.0.flow) (sym h.listed) ∙ sym z.2)
        (back p o f gs can (asked_units m.ask) z.0 z.1 h.names h.names h.listed (some z.0 z.1) (λ b n. n) code value z.0.flow)

    by : (b : Bool) (other : Option StyleKind) → In x (taking_of p o (asked_units m.ask) f b other).errors → IsBack p o (asked_units m.ask) x
    by true other j = all_back 3 0 j
    by false (Some st) j = all_back 5 (style_value st) j
    by false None j =
        units_back p o f gs can (asked_units m.ask) (matched p f o) (asked_units m.ask) (λ u n. n) places some (nothing_taken (resvs_of o.style f) [])
        (record { errors = λ z n. absurd n; under = subst (λ (ts : ResvTables). AreUnder (lines (record f { resvs = ts })) gs) (sym (as_it_stood o.style f.resvs)) there }) (λ z n. absurd n) x j

-- ---- so a refusal goes along a hop of the Resv
module _ (q : ℕ) (d : SenderKey) (w u : World) (r : IsLettingGo q d w u) (net : u.net ≡ w.net) (fit : DemandsFit w.net (locals_of w)) where
  pub refusal_along : (y : Item) (m : ResvErrMsg) (s : IsSentByRule q (Deliver 0) u y (message.ResvErr m))
      → IsRefusal (config_of q u.net u.trees s.node) (config_of q u.net u.trees s.node) (u.clock + 0) s.by.input s.facts s.send → IsAlong u.net (locals_of w) (longest u.net) y m
  refusal_along y m s x =
      let valid = r.fading.bounds.net in
      let p : NodeConfig = config_of q u.net u.trees s.node in
      let t = came_by_delivery q 0 u r.fading.bounds s.node s.by.input s.by.came in
      let node : node_of u.net.ends t.item.end ≡ s.node = ap node_of_end t.there ∙ t.node in
      let input : Came (iface_of u.net.ends t.item.end) t.item.dst t.item.arrival ≡ Came x.at (own p x.at) (Spelt (message.Resv x.resv)) = sym t.is ∙ x.came in
      let iface : iface_of u.net.ends t.item.end ≡ x.at = cc in
      let said : t.item.arrival ≡ Spelt (message.Resv x.resv) = cc in
      let i : In t.item u.flight = in_arrived (Deliver 0) u t.item t.arrives in
      let fits : SessionFits u.net (locals_of w) x.resv.session = subst (λ (z : Net). SessionFits z (locals_of w) x.resv.session) (sym net) (each_fits w.net (locals_of w) fit x.resv.session) in
      let e : ℕ = node_of u.net.ends t.item.end in
      let here : NodeConfig = config_of q u.net u.trees e in
      let j : ℕ = iface_of u.net.ends t.item.end in
      let at : slice_get u.nodes e ≡ Some s.facts = ap (λ (z : ℕ). slice_get u.nodes z) node ∙ s.there in
      let made : In x.error (taking here (u.clock + 0) j x.resv s.facts).errors =
      subst (λ (z : ℕ × ℕ). In x.error (taking (config_of q u.net u.trees z.0) (u.clock + 0) z.1 x.resv s.facts).errors) (λ c. (sym node c, sym iface c)) x.made in
      let z = taking_back here (u.clock + 0) j x.resv s.facts (goal_at u.net (locals_of w) e)
      (session_can_be_held q u.net u.trees (locals_of w) x.resv.session t.item.end valid fits (carries q (u.clock + 0) w.nodes u r.fading.bounds r.within t.item x.resv i said fits s.facts at))
      (sound_under (as_before w.nodes u) e s.facts (λ st k a h. r.within.facts st e s.facts k a at h)) (placed q (u.clock + 0) w.nodes u r.fading.bounds r.within t.item x.resv i said fits s.facts at)
      (λ un n. (placed q (u.clock + 0) w.nodes u r.fading.bounds r.within t.item x.resv i said fits s.facts at un n).some) x.error made in
      let error : x.error.error ≡ OfResv m = of_error x.error.error m (sym (ap (λ (b : _). b.message) x.is) ∙ s.says) in
      let k = r.within.items t.item x.resv z.unit i said z.asks in
      let h = k.sound.hop in
      let inside = ends_there u.net valid x.resv.session.group h k.sound.there in
      let same : z.names ≡ k.names = of_some z.names k.names (sym z.listed ∙ k.named) in
      let up = part_at_most_told (record { senders = k.names; flow = z.unit.flow }) k.sound.wanted k.sound.below in
      let session : m.session ≡ x.resv.session = z.session m error in
      let style : m.blame.style ≡ ask_style x.resv.ask = z.style m error in
      let within : IsWithin z.blames (names (ask_style x.resv.ask) u.net (locals_of w) x.resv.session (h ∷ [])) =
      (λ c n. want_names (ask_style x.resv.ask) u.net (locals_of w) x.resv.session h z.unit.unit k.sound.wanted k.sound.is c (up.names c (ap (λ (b : Names). has b c) (sym same) ∙ z.less c n))) in
      -- where it goes
      let lt = (r.fading.bounds.flight t.item i).end in
      let end : end_at u.net.ends e j ≡ Some t.item.end = (interfaces_are_ends u.net).end_of_iface t.item.end lt in
      let by_iface : s.send.iface ≡ j = ap (λ (b : _). b.iface) x.is ∙ z.iface in
      let by_dst : s.send.dst ≡ x.resv.hop.addr = ap (λ (b : _). b.dst) x.is ∙ z.dst in
      let found : end_at u.net.ends s.node s.send.iface ≡ Some t.item.end = (λ c. end_at u.net.ends (sym node c) (by_iface c)) ∙ end in
      let goes : In y.end (goes_to u.net (Some t.item.end) x.resv.hop.addr) = subst (λ (b : Option ℕ × Addr). In y.end (goes_to u.net b.0 b.1)) (λ c. (found c, by_dst c)) s.to in
      let g = in_group u.net.hops x.resv.session.group h k.sound.there in
      let in_tree : In h (tree u.net.hops g.0.group g.0.source) = subst (λ (b : LinkHop). In b (tree u.net.hops g.0.group g.0.source)) g.3 (to_tree u.net.hops g.0 g.1) in
      let linked : In h.to (peers u.net.links h.from) = hop_linked u.net valid g.0.group g.0.source h in_tree in
      let peer : In h.to (peers u.net.links t.item.end) = subst (λ (b : ℕ). In h.to (peers u.net.links b)) k.sound.from linked in
      let no_group : is_group (addr_of u.net h.to) ≡ false = (let b = some_at u.net.ends h.to inside.1 in ap (λ (c : Option End). is_group (addr_of_end c)) b.1 ∙ r.fading.bounds.hosts h.to b.0 b.1) in
      let host : is_group x.resv.hop.addr ≡ false = subst (λ (b : Addr). is_group b ≡ false) k.sound.to no_group in
      let to = ((where_a_send_goes u.net t.item.end x.resv.hop.addr).one host h.to peer k.sound.to y.end).0 goes in
      let most = (rank_falls u.net valid.loop_free).hops x.resv.session.group h k.sound.there in
      record {
        named = z.blames;
        listed = z.senders m error;
        some = z.some;
        hop = h;
        there = subst (λ (b : Session). In h (hops_of u.net.hops b.group)) (sym session) k.sound.there;
        to = same_by_addr u.net valid h.to y.end inside.1 (peer_there u.net valid t.item.end y.end to.0) (k.sound.to ∙ sym to.1);
        from = ap (addr_of u.net) k.sound.from ∙ sym (own_end q u.net u.trees e j t.item.end end) ∙ sym (z.hop m error);
        within = subst (λ (b : StyleKind × Session). IsWithin z.blames (names b.0 u.net (locals_of w) b.1 (h ∷ []))) (λ c. (sym style c, sym session c)) within;
        near = subst (λ (b : Session). rank u.net b.group h ≤ longest u.net) (sym session) most.1;
      }
