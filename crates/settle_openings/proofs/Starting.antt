-- An untouched network opens.
use Rattle.std.proofs.Common.{◌≡◌, ℕ, List, [], ◌∷◌, true, false, None, Some, inl, inr, sym, refl, ap, subst, ◌∙◌}
use Rattle.std.specs.Prelude.{slice_get, ◌||◌}
use Rattle.rsvp_base.specs.declared.part.Part.{Part}
use Rattle.rsvp_base.specs.declared.session.Sender.{Sender}
use Rattle.rsvp_base.specs.declared.session.Session.{Session}
use Rattle.rsvp_base.specs.declared.style.StyleKind.{StyleKind}
use Rattle.rsvp_base.specs.declared.style.StyleKind.TheVariants.{Wild, Fixed, Shared}
use Rattle.rsvp_base.specs.declared.style.Unit.{Unit as UnitOf}
use Rattle.rsvp_base.specs.Members.{In}
use Rattle.rsvp_base.specs.Table.{get, has}
use Rattle.rsvp_base.specs.TokenBucket.{TokenBucket}
use Rattle.rsvp_base.proofs.Tables.{either}
use Rattle.router_rules.specs.RsvpMessages.declared.message.Message.{Message}
use Rattle.router_rules.specs.RsvpMessages.declared.message.Message.TheVariants as message
use Rattle.router_rules.specs.RsvpMessages.declared.message.PathMsg.{PathMsg}
use Rattle.router_rules.specs.Lines.{LineKey}
use Rattle.router_rules.specs.Merge.{PartTable}
use Rattle.laws_bounds.proofs.Knowing.{has-known, known_and_via}
use Rattle.laws_bounds.proofs.Requesting.{nowhere}
use Rattle.router_rules.specs.Facts.{Facts, PathState, Paths, ResvState, ResvTables, SenderKey, Walls, no_resvs, resvs_of, table_of}
use Rattle.router_rules.specs.Inputs.{Spelt}
use Rattle.router_rules.specs.Known.{Lane, lanes}
use Rattle.router_rules.specs.NodeConfig.{NodeConfig}
use Rattle.router_rules.specs.Requests.{toward}
use Rattle.tree_model.specs.declared.hops.LinkHop.{LinkHop}
use Rattle.tree_model.specs.Networks.{node_of}
use Rattle.tree_model.specs.Trees.{inward, outward, tree}
use Rattle.tree_model.proofs.Links.{one_sending_end_on_a_link}
use Rattle.tree_model.proofs.TreeLaws.{one, way_in_tested}
use Rattle.network_model.specs.Laws.{config_in}
use Rattle.network_model.specs.Locals.{locals_of}
use Rattle.network_model.specs.Sound.{ArePathsSound}
use Rattle.network_model.specs.Worlds.{Item, World}
use Rattle.laws_network.proofs.Known.{of_some}
use Rattle.settle_paths.proofs.PathSends.{IsPathSent}
use Rattle.settle_resvs.specs.Said.{HopKey, lane_of, resv_key}
use Rattle.settle_resvs.specs.SoftResvs.{line_key_of, resv_at}
use Rattle.settle_resvs.proofs.GoalByIface.{each_fits}
use Rattle.settle_resvs.proofs.SoftResvs.{resv_found}
use Rattle.settle_passes.specs.Passes.{Knows}
use Rattle.settle_passes.proofs.Deliveries.{sent_is_sound}
use Rattle.settle_senders.specs.Following.{IsFollowing}
use Rattle.settle_senders.proofs.Knowing.{own_known}
use Rattle.settle_openings.specs.Opening.{IsNamedOn, IsRested, IsUntouched, Names}

module _ (q : ℕ) (w : World) (u : IsUntouched q w) where
  -- ---- nothing is kept
  no_path : {A : Type 0} (n : ℕ) (f : Facts) (k : SenderKey) (x : PathState) → slice_get w.nodes n ≡ Some f → get f.paths k ≡ Some x → A
  no_path n f k x at e = let bad : None ≡ Some x = ap (λ (z : Paths). get z k) (sym (u.paths n f at)) ∙ e in absurd (cc)

  none_there : (st : StyleKind) (key : LineKey) → get (table_of st no_resvs) key ≡ None
  none_there Wild key = refl
  none_there Fixed key = refl
  none_there Shared key = refl

  no_resv : {A : Type 0} (st : StyleKind) (n : ℕ) (f : Facts) (key : LineKey) (r : ResvState) → slice_get w.nodes n ≡ Some f → get (resvs_of st f) key ≡ Some r → A
  no_resv st n f key r at e = let bad : None ≡ Some r = sym (none_there st key) ∙ ap (λ (z : ResvTables). get (table_of st z) key) (sym (u.resvs n f at)) ∙ e in absurd (cc)

  no_resv_over : {A : Type 0} (k : HopKey) (r : ResvState) → resv_at w (node_of w.net.ends k.to) k.style (line_key_of w.net (resv_key w.net k)) ≡ Some r → A
  no_resv_over k r e =
      let f = resv_found w (node_of w.net.ends k.to) k.style (line_key_of w.net (resv_key w.net k)) r e in
      no_resv k.style (node_of w.net.ends k.to) f.0 (line_key_of w.net (resv_key w.net k)) r f.1 f.2

  -- ---- only Paths are in flight
  no_other : {A : Type 0} (y : Item) (m : Message) → In y w.flight → y.arrival ≡ Spelt m → ((p : PathMsg) → m ≡ message.Path p → ⊥) → A
  no_other y m i spelt not_one = let x = u.sent y i in let same : Spelt (message.Path x.path) ≡ Spelt m = sym x.spelt ∙ spelt in absurd (not_one x.path (cc))

  sent_one : (y : Item) (m : PathMsg) → In y w.flight → y.arrival ≡ Spelt (message.Path m) → IsPathSent q w.net w y m
  sent_one y m i spelt =
      let x = u.sent y i in
      let both : Spelt (message.Path x.path) ≡ Spelt (message.Path m) = sym x.spelt ∙ spelt in
      let is : x.path ≡ m = cc in
      subst (λ (z : PathMsg). IsPathSent q w.net w y z) is
      (record {
        node = x.node;
        facts = x.facts;
        after = x.there;
        sender = x.sender;
        tspec = x.tspec;
        of = x.of;
        source = inl x.sends;
        end = x.end;
        at = x.at;
        leaves = x.leaves;
        hop = x.hop;
        to = x.to;
        dst = x.dst;
        period = x.period;
      })

  sound : ArePathsSound w
  sound = record {
    facts = λ n f k x at e. no_path n f k x at e;
    items = λ y m x t i spelt sender way. sent_is_sound q w u.bounds.net y m x t (λ n g z at e. no_path n g (m.session, x) z at e) (sent_one y m i spelt) sender way;
    named = λ y m i spelt none. let p = sent_one y m i spelt in let bad : Some (p.sender, p.tspec) ≡ None = sym p.of ∙ none in absurd (cc);
  }

  -- a node that knows a sender sends as it
  own_one : (n : ℕ) (k : SenderKey) → (x : Knows w n k) → has x.facts.senders k ≡ true
  own_one n k x =
      either (has x.facts.senders k) (λ yes. yes)
      (λ no.
      let none : has x.facts.paths k ≡ false = ap (λ (z : Paths). has z k) (u.paths n x.facts x.there) in
      let bad : true ≡ false = sym x.known_one ∙ has-known x.facts k.0 k.1 ∙ (λ j. no j || none j) in
      absurd (cc))

  -- a Path comes from a node that sends as its sender
  from_known : (y : Item) (m : PathMsg) (x : Sender) (flow : TokenBucket) (h : LinkHop) → In y w.flight → y.arrival ≡ Spelt (message.Path m) → m.sender ≡ Some (x, flow)
      → In h (tree w.net.hops m.session.group x.addr) → h.to ≡ y.end → Knows w (node_of w.net.ends h.from) (m.session, x)
  from_known y m x flow h i spelt sender there to =
      let z = u.sent y i in
      let both : Spelt (message.Path z.path) ≡ Spelt (message.Path m) = sym z.spelt ∙ spelt in
      let is : z.path ≡ m = cc in
      let name : z.sender ≡ x = ap (λ (d : Sender × TokenBucket). d.0) (of_some (z.sender, z.tspec) (x, flow) (sym z.of ∙ ap (λ (d : PathMsg). d.sender) is ∙ sender)) in
      let leaves : In z.end (outward w.net (node_of w.net.ends z.end) m.session.group x.addr) =
      subst (λ (d : ℕ). In z.end (outward w.net d m.session.group x.addr)) (sym z.at)
      (subst (λ (d : PathMsg × Sender). In z.end (outward w.net z.node d.0.session.group d.1.addr)) (λ j. (is j, name j)) z.leaves) in
      let way : inward w.net (node_of w.net.ends y.end) m.session.group x.addr ≡ Some y.end =
      way_in_tested w.net u.bounds.net (node_of w.net.ends y.end) y.end m.session.group x.addr (h, there, to, refl) in
      let g = (one_sending_end_on_a_link w.net u.bounds.net).hop m.session.group x.addr z.end y.end leaves z.to way in
      let same : h ≡ g.0 = one w.net u.bounds.net m.session.group x.addr h g.0 there g.1 (ap (node_of w.net.ends) (to ∙ sym g.3)) in
      let node : node_of w.net.ends h.from ≡ z.node = ap (λ (d : LinkHop). node_of w.net.ends d.from) same ∙ ap (node_of w.net.ends) g.2 ∙ z.at in
      record {
        facts = z.facts;
        there = ap (λ (d : ℕ). slice_get w.nodes d) node ∙ z.there;
        known_one = own_known z.facts m.session x z.tspec ((λ j. get z.facts.senders ((sym is j).session, sym name j)) ∙ z.sends);
      }

  -- nothing goes toward a hop
  nothing_goes : {A : Type 0} (n : ℕ) (p : NodeConfig) (f : Facts) (l : Lane) (v : Part) (e : UnitOf) → slice_get w.nodes n ≡ Some f → get (toward p f l) e ≡ Some v → A
  nothing_goes n p f l v e at goes =
      either (has (lanes f) l) (λ yes. let c = (known_and_via.lanes_by f l).0 yes in no_path n f (l.session, c.0) c.1.path at c.1.there)
      (λ no. let bad : None ≡ Some v = ap (λ (z : PartTable). get z e) (sym (nowhere p f l no)) ∙ goes in absurd (cc))

  follows : (s : Session) → IsFollowing q s w
  follows s = record {
    paths = record {
      bounds = u.bounds;
      hosts = u.hosts;
      sound = sound;
      no_tear = λ y m i spelt. no_other y (message.PathTear m) i spelt (λ p e. let bad : message.PathTear m ≡ message.Path p = e in cc);
      offered = λ k t h live there knows. inr (u.all k t h knows.facts live there knows.there (own_one (node_of w.net.ends h.from) k knows));
    };
    from_known = record { facts = λ n f k x h at e there node. no_path n f k x at e; items = λ y m x t h i spelt sender there to. from_known y m x t h i spelt sender there to };
    names = record {
      kept = λ k v x there c e. no_resv_over k c.resv c.there;
      items = λ y m v names x i spelt asks named e. no_other y (message.Resv m) i spelt (λ p z. let bad : message.Resv m ≡ message.Path p = z in cc);
    };
    sound = record {
      facts = λ st n f k r at e. no_resv st n f k r at e;
      items = λ y m v i spelt asks. no_other y (message.Resv m) i spelt (λ p z. let bad : message.Resv m ≡ message.Path p = z in cc);
    };
    fit = each_fits w.net (locals_of w) u.fit s;
    free = λ n f at t. ap (λ (z : Walls). get z (s, t)) (u.walls n f at);
    no_error = λ y m i spelt of. no_other y (message.ResvErr m) i spelt (λ p z. let bad : message.ResvErr m ≡ message.Path p = z in cc);
    addressed = λ y m i spelt. no_other y (message.Resv m) i spelt (λ p z. let bad : message.Resv m ≡ message.Path p = z in cc);
    asked = λ k v f of there at goes. nothing_goes (node_of w.net.ends k.from) (config_in q w (node_of w.net.ends k.from)) f (lane_of w.net k) v k.unit at goes;
  }

  not_named : {A : Type 0} (k : HopKey) (x : Sender) (y : Item) → In y w.flight → Names w.net k x y → A
  not_named k x y i n = no_other y (message.Resv n.1.resv) i n.1.spelt (λ p z. let bad : message.Resv n.1.resv ≡ message.Path p = z in cc)

  in_order : (k : HopKey) (x : Sender) (ys : List Item) → ((y : Item) → In y ys → In y w.flight) → IsNamedOn w.net k x ys
  in_order k x [] inside = tt
  in_order k x (y ∷ ys) inside = (λ n. not_named k x y (inside y (inl refl)) n, in_order k x ys (λ z i. inside z (inr i)))

  pub an_untouched_network_rests : IsRested q w
  an_untouched_network_rests = record {
    on = record {
      follows = follows;
      only = λ y i. let x = u.sent y i in inl (x.path, x.spelt);
      waits = record {
        resvs = λ n f st k r at e. no_resv st n f k r at e;
        wants = λ n f k x at e. u.unmarked n f k x at e;
        items = λ y m i spelt. no_other y (message.Resv m) i spelt (λ p z. let bad : message.Resv m ≡ message.Path p = z in cc);
      };
      full = record {
        paths = λ y m i spelt. let p = sent_one y m i spelt in (p.period, p.dst);
        resvs = λ y m i spelt. no_other y (message.Resv m) i spelt (λ p z. let bad : message.Resv m ≡ message.Path p = z in cc);
      };
      names = record {
        kept = λ k v x there c e. no_resv_over k c.resv c.there;
        items = λ k x y there i n. not_named k x y i n;
        order = λ k x there. in_order k x w.flight (λ y i. i);
      };
    };
    lasting = record { paths = λ m f k x h at e there node. no_path m f k x at e; resvs = λ k r there e. no_resv_over k r e };
  }
