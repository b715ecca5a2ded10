-- What is said again and again over a hop is kept: path state that is refreshed.
use Rattle.std.proofs.Common.{◌≡◌, ℕ, ◌+◌, ◌*◌, ◌<◌, ◌≤◌, List, Bool, true, false, Option, None, Some, ◌⊎◌, inl, inr, ⊎_elim, arith, sym, refl, ap, subst, ◌∙◌}
use Rattle.std.specs.Prelude.{slice_get, max, min, ◌/◌}
use Rattle.std.specs.Option.{option_and_then}
use Rattle.rsvp_base.specs.declared.addr.Addr.{Addr}
use Rattle.rsvp_base.specs.declared.session.Sender.{Sender}
use Rattle.rsvp_base.specs.Members.{In}
use Rattle.rsvp_base.specs.Table.{get, has}
use Rattle.rsvp_base.specs.TokenBucket.{TokenBucket}
use Rattle.rsvp_base.proofs.Members.{any_in}
use Rattle.rsvp_base.proofs.SetLaws.{and_both, and_made}
use Rattle.rsvp_messages.specs.declared.message.Message.{Message}
use Rattle.rsvp_messages.specs.declared.message.Message.TheVariants as message
use Rattle.rsvp_messages.specs.declared.message.PathMsg.{PathMsg}
use Rattle.rsvp_messages.specs.Units.{ask_style}
use Rattle.calm_rounds.specs.Rounds.{Rounds}
use Rattle.calm_rounds.specs.Hold.{Hold}
use Rattle.calm_rounds.specs.SoftStates.{SoftState, DueLaws, Good, Moves, Stands}
use Rattle.calm_rounds.proofs.Holding.{hold_map, hold_both, hold_start, hold_keep}
use Rattle.calm_rounds.proofs.Renewing.{what_is_said_is_kept}
use Rattle.tree_model.specs.Goals.{addr_of}
use Rattle.laws_network.specs.PathLaws.{IsReplaced, PathGoes}
use Rattle.laws_network.proofs.Learning.{how_a_path_fact_goes}
use Rattle.laws_network.proofs.Speaking.{refreshes_are_marked}
use Rattle.router_rules.specs.Facts.{Facts, SenderKey, PathState}
use Rattle.router_rules.specs.Forgetting.{counted}
use Rattle.router_rules.specs.Inputs.{Arrival, Input, Wait, Clear, Came, Send, Spelt, Unspelt}
use Rattle.router_rules.specs.Known.{known, came_by}
use Rattle.router_rules.specs.Offers.{OfferKey}
use Rattle.router_rules.specs.NodeConfig.{NodeConfig, own, goes_out, lifetime}
use Rattle.router_rules.specs.Rule.{Outcome}
use Rattle.router_rules.specs.Sends.{path_send}
use Rattle.laws_bounds.proofs.Knowing.{known_and_via}
use Rattle.laws_bounds.proofs.Tests.{addr_tested}
use Rattle.tree_model.specs.declared.hops.LinkHop.{LinkHop}
use Rattle.tree_model.specs.Networks.{Net, node_of, end_at, iface_of, peers}
use Rattle.tree_model.specs.Trees.{tree, inward, outward}
use Rattle.tree_model.specs.Valid.{IsValid}
use Rattle.tree_model.proofs.Following.{same_number, number_same, in_tree}
use Rattle.tree_model.proofs.Ifaces.{interfaces_are_ends}
use Rattle.tree_model.proofs.Links.{hop_linked}
use Rattle.tree_model.proofs.TreeLaws.{out_tested, way_in_tested}
use Rattle.network_model.specs.Bounds.{AreBounds}
use Rattle.network_model.specs.Links.{is_group, goes_to, copy_to}
use Rattle.network_model.specs.Steps.{Step, Track, OfSender, OfStyle, goes_along, is_quiet, serves, serves_key, ms_of, arrived, input_at, word_for, outcome, still, sender_of, track}
use Rattle.network_model.specs.Steps.{path_track, arrival_track, sent, step, machine}
use Rattle.network_model.specs.Worlds.{Item, World, config_of}
use Rattle.network_model.proofs.Changing.{where_a_send_goes}
use Rattle.network_model.proofs.Machines.{quiet_of, time_passes, items_are_numbered, in_flight_after, in_arrived}
use Rattle.network_model.proofs.Quiet.{IsWaited, IsCame, FollowsRule, input_found, arrival_takes_no_time, outcome_by, outcome_quiet}
use Rattle.network_model.proofs.Stepping.{copies_made, facts_after_made, sent_made}
use Rattle.laws_network.specs.Known.{IsKnown}
use Rattle.laws_network.specs.Refreshes.{due_at, Refreshes}
use Rattle.laws_network.proofs.Due.{full_life, due_found, due_made, due_moves, refresh_follows}
use Rattle.laws_network.proofs.Known.{of_some, has_some, known_hold, node_there, end_found, came_there}
use Rattle.laws_network.proofs.Standing.{own_end, iface_less, comes_in_told, goes_out_made, from_there, to_there}
use Rattle.settle_paths.specs.SoftPaths.{PathValue, path_at, by_iface, SaysPath, soft_path}
use Rattle.settle_paths.specs.Said.{IsSaidPath}
use Rattle.settle_paths.specs.Telling.{letter_message, letter_arrival, is_letter, life_of}
use Rattle.settle_paths.proofs.Letters.{IsPathLetter, IsTearLetter, of_made, sender_found, letter_found, path_letter}
use Rattle.settle_paths.proofs.SoftPaths.{path_found, path_made, iface_found, iface_made}
use Rattle.settle_paths.proofs.PathSends.{path_sent}
use Rattle.router_rules.specs.Steps.{facts_then, node_step}

came_iface : (i : ℕ) (a : Addr) (x : PathState) → came_by (i, a) x ≡ true → x.iface ≡ i
came_iface i a x e = same_number x.iface i (and_both _ _ e).0

module _ (q : ℕ) (o : World) where
  -- ---- the routes of a tree with a hop are there
  pub routed : (u : World) (g s : Addr) (h : LinkHop) → IsKnown q o u → In h (tree o.net.hops g s) → In (g, s) u.trees
  routed u g s h a i =
      let r = in_tree o.net.hops g s h i in
      let there : In (r.0.group, r.0.source) u.trees = a.bounds.routed r.0 (subst (λ (z : Net). In r.0 z.hops) (sym a.same.net) r.1) in
      subst (λ (z : Addr). In (g, z) u.trees) r.3 (subst (λ (z : Addr). In (z, r.0.source) u.trees) r.2 there)

  -- ---- Paths are sent for a full lifetime
  abbrev pub AreFull : ℕ → World → Type 0
  AreFull b u = (y : Item) (m : PathMsg) → In y u.flight → b ≤ y.born → y.arrival ≡ Spelt (message.Path m) → m.period ≡ 4 * q

  pub full_step : (b : ℕ) (s : Step) (u : World) → is_quiet s ≡ true → IsKnown q o u → AreFull b u → AreFull b (step q s u)
  full_step b s u quiet a j y m i born spelt =
      ⊎_elim (λ (old : In y u.flight). j y m old born spelt)
      (λ (new : (mark : Bool) × In (y, mark) (sent q s u)). (path_sent q s u quiet a.bounds y new.0 m new.1 spelt).period)
      (in_flight_after q s u y quiet i)

module _ (q : ℕ) (o : World) (valid : IsValid o.net) (k : SenderKey) (h : LinkHop) (there : In h (tree o.net.hops k.0.group k.1.addr)) (group : is_group k.0.group ≡ true) (v : PathValue) (b : ℕ) where
  abbrev at_to : ℕ
  at_to = node_of o.net.ends h.to

  abbrev at_from : ℕ
  at_from = node_of o.net.ends h.from

  into : inward o.net at_to k.0.group k.1.addr ≡ Some h.to
  into = way_in_tested o.net valid at_to h.to k.0.group k.1.addr (h, there, refl, refl)

  leaves : In h.from (outward o.net at_from k.0.group k.1.addr)
  leaves = out_tested o.net at_from h.from k.0.group k.1.addr (h, there, refl, refl)

  pub record IsFirm (u : World) : Type 0 where
    pub known : IsKnown q o u
    pub said : IsSaidPath q o.net k h v b u
    pub full : AreFull q o b u

  abbrev pub over : Track
  over = record { from = addr_of o.net h.from; to = h.to; session = k.0; key = OfSender k.1 }

  abbrev pub line : SoftState World Step Item Track PathValue
  line = record {
    sane = IsFirm;
    kept = λ u. by_iface (iface_of o.net.ends h.to) (path_at u at_to k);
    says = λ y x. (b ≤ y.born) × SaysPath o.net k h.to y x;
    letter = is_letter k h.to;
    life = λ y. life_of q y.arrival;
    below = λ x x0. x ≡ x0;
    due = λ u. due_at u at_from k.0;
    fires = Refreshes at_from k.0;
    track = Some over;
  }

  -- ---- a letter says the value, for a full lifetime
  abbrev Tells : Item → Type 0
  Tells y = ((b ≤ y.born) × SaysPath o.net k h.to y v) × (life_of q y.arrival ≡ 21 * q)

  letters : (u : World) → IsFirm u → (y : Item) → In y u.flight → b ≤ y.born → is_letter k h.to y ≡ true → Tells y
  letters u g y i born is =
      let f = letter_found k h.to y is in
      ⊎_elim
      (λ (l : IsPathLetter k y). (
        (born, g.said.carried y l.path l.tspec i born f.0 l.spelt l.session l.sender),
        ap (life_of q) l.spelt ∙ ap (λ (z : ℕ). (21 * max 1 (min z (4 * q)) + 3) / 4) (g.full y l.path i born l.spelt) ∙ full_life q g.known.bounds.period,
      ))
      (λ (l : IsTearLetter k y). absurd (g.said.spared y l.tear i born f.0 l.spelt l.session l.sender)) f.1

  -- ---- what is said and arrives is taken
  takes : (s : Step) (u : World) (y : Item) → is_quiet s ≡ true → IsFirm u → arrived s u ≡ Some y → b ≤ y.born → SaysPath o.net k h.to y v → life_of q y.arrival ≡ 21 * q
      → by_iface (iface_of o.net.ends h.to) (path_at (step q s u) at_to k) ≡ Some (v, u.clock + 21 * q)
  takes s u y quiet g arr born says life =
      let lt = to_there o.net valid k.0.group k.1.addr h there in
      let f = node_there q o valid u h.to g.known lt in
      let p : NodeConfig = config_of q u.net u.trees at_to in
      let input : Input = Came (iface_of o.net.ends h.to) y.dst (Spelt (message.Path says.path)) in
      let came : input_at s u at_to ≡ Some input = came_there q o u g.known h.to lt s y arr says.end ∙ (λ i. Some (Came (iface_of o.net.ends h.to) y.dst (says.spelt i))) in
      let taken = g.said.taken y (in_arrived s u y arr) born says f.0 f.1 in
      let ms : u.clock + ms_of s ≡ u.clock = (let e = arrival_takes_no_time s u y arr in omega arith) in
      let same : (outcome q s u at_to f.0).facts ≡ facts_then p p u.clock input f.0 = ap (λ (z : Outcome). z.facts) (outcome_by q s u at_to f.0 input quiet came)
      ∙ (λ i. facts_then p p (ms i) input f.0) in
      let after : slice_get (step q s u).nodes at_to ≡ Some (outcome q s u at_to f.0).facts = facts_after_made q s u at_to f.0 f.1 in
      let full : lifetime p says.path.period ≡ 21 * q = ap (life_of q) (sym says.spelt) ∙ life in
      let dies : u.clock + lifetime p says.path.period ≡ u.clock + 21 * q = ap (λ z. u.clock + z) full in
      ap (λ (z : Option Facts). by_iface (iface_of o.net.ends h.to) (option_and_then (λ (x : Facts). get x.paths k) z)) after
      ∙ ap (λ (z : Facts). by_iface (iface_of o.net.ends h.to) (get z.paths k)) same
      ∙ taken
      ∙ (λ i. Some (v, dies i))

  -- a node that knows the sender has a moment for its next refresh
  counts : (u : World) → IsFirm u → (m : ℕ) × (due_at u at_from k.0 ≡ Some m)
  counts u g =
      let f = node_there q o valid u h.from g.known (from_there o.net valid k.0.group k.1.addr h there) in
      let count : has (counted f.0) k.0 ≡ true = (known_and_via.counted_by f.0 k.0).1 (k.1, g.said.knows f.0 f.1) in
      let due : has f.0.due k.0 ≡ true = (g.known.bounds.facts at_from f.0 f.1).due.counted k.0 ∙ count in
      let m = has_some (get f.0.due k.0) due in
      (m.0, due_made u at_from k.0 m.0 f.0 f.1 m.1)

  -- the Path goes over a hop of the tree
  serves_it : (u : World) → IsFirm u → serves u over ≡ true
  serves_it u g =
      subst (λ (z : Net). serves_key z over over.key ≡ true) (sym g.known.same.net)
      (any_in (goes_along o.net over) h (tree o.net.hops k.0.group k.1.addr) there (and_made _ _ (number_same h.to h.to refl) (addr_tested (addr_of o.net h.from) (addr_of o.net h.from) refl)))

  pub good : (u : World) → IsFirm u → Good (machine q) line v b u
  good u g = record {
    sane = g;
    letters = λ y i born is. letters u g y i born is;
    takes = λ s y calm arr says life. takes s u y (quiet_of q s calm) g arr says.0 says.1 life;
    counts = counts u g;
    serves = (over, refl, serves_it u g);
  }

  -- ---- where no letter arrives the path stays until it dies
  -- what comes to the node over the hop's end is no letter of the key
  no_letter : (s : Step) (u : World) → IsKnown q o u → ((y : Item) → arrived s u ≡ Some y → is_letter k h.to y ≡ false) → (i : Input) → IsCame s u at_to i → (e : ℕ) (g : Addr) (m : Message)
      → i ≡ Came e g (Spelt m) → e ≡ iface_of o.net.ends h.to
      → letter_message k m ≡ true → ⊥
  no_letter s u a none i c e g m is at letter =
      let same : Came (iface_of u.net.ends c.item.end) c.item.dst c.item.arrival ≡ Came e g (Spelt m) = sym c.is ∙ is in
      let iface : iface_of u.net.ends c.item.end ≡ e = cc in
      let spelt : c.item.arrival ≡ Spelt m = cc in
      let end : c.item.end ≡ h.to = end_found q o u a h.to (to_there o.net valid k.0.group k.1.addr h there) s i c (iface ∙ at) in
      let yes : is_letter k h.to c.item ≡ true = and_made _ _ (number_same c.item.end h.to end) (ap (letter_arrival k) spelt ∙ letter) in
      let bad : true ≡ false = sym yes ∙ none c.item c.arrives in
      absurd (cc)

  rests : (s : Step) (u : World) (dies : ℕ) → is_quiet s ≡ true → IsFirm u → ((y : Item) → arrived s u ≡ Some y → is_letter k h.to y ≡ false)
      → by_iface (iface_of o.net.ends h.to) (path_at u at_to k) ≡ Some (v, dies) → (step q s u).clock < dies → by_iface (iface_of o.net.ends h.to) (path_at (step q s u) at_to k) ≡ Some (v, dies)
  rests s u dies quiet sure none kept lt =
      let x = iface_found (iface_of o.net.ends h.to) (path_at u at_to k) v dies kept in
      let f = path_found u at_to k x.0 x.1 in
      let p : NodeConfig = config_of q u.net u.trees at_to in
      let after : slice_get (step q s u).nodes at_to ≡ Some (outcome q s u at_to f.0).facts = facts_after_made q s u at_to f.0 f.1 in
      let value_is = sym x.3 in
      let dies_is = sym x.4 in
      let end_it : get (outcome q s u at_to f.0).facts.paths k ≡ Some x.0 → by_iface (iface_of o.net.ends h.to) (path_at (step q s u) at_to k) ≡ Some (v, dies) =
      (λ g. iface_made (iface_of o.net.ends h.to) (path_at (step q s u) at_to k) x.0 (path_made (step q s u) at_to k x.0 (outcome q s u at_to f.0).facts after g) x.2
      ∙ (λ j. Some (value_is j, dies_is j))) in
      ⊎_elim
      (λ (z : (input_at s u at_to ≡ None) × (outcome q s u at_to f.0 ≡ still f.0)). end_it (ap (λ (w : Outcome). get w.facts.paths k) z.1 ∙ f.2))
      (λ (r : FollowsRule q s u at_to f.0 (outcome q s u at_to f.0)).
      ⊎_elim
      (λ (stays : get (facts_then p p (u.clock + ms_of s) r.input f.0).paths k ≡ Some x.0). end_it (ap (λ (w : Outcome). get w.facts.paths k) r.is ∙ stays))
      (λ (other : IsReplaced p (u.clock + ms_of s) r.input (facts_then p p (u.clock + ms_of s) r.input f.0) k
      ⊎ ((get (facts_then p p (u.clock + ms_of s) r.input f.0).paths k ≡ None) × PathGoes (u.clock + ms_of s) r.input k x.0)).
      absurd (by_input x.0 x.2 (omega (arith, x.4, lt)) r.input other (input_found s u at_to r.input quiet r.came)))
      (how_a_path_fact_goes (node_step p p u.clock (u.clock + ms_of s) r.input f.0) (sure.known.bounds.facts at_to f.0 f.1) k x.0 f.2))
      (outcome_quiet q s u at_to f.0 quiet)
    where
      by_input : (x : PathState) → x.iface ≡ iface_of o.net.ends h.to → u.clock + ms_of s < x.dies → (i : Input) → {f' : Facts}
          → IsReplaced (config_of q u.net u.trees at_to) (u.clock + ms_of s) i f' k ⊎ ((get f'.paths k ≡ None) × PathGoes (u.clock + ms_of s) i k x)
          → IsWaited s u at_to i ⊎ IsCame s u at_to i → ⊥
      by_input x iface later i (inl rep) (inl w) =
          let bad : Wait w.ms (word_for u.words at_to) ≡ Came rep.learnt.by.at k.0.group (Spelt (message.Path rep.learnt.by.path)) = sym w.is ∙ rep.learnt.by.came in absurd (cc)
      by_input x iface later i (inl rep) (inr c) =
          let by = rep.learnt.by in
          let way = comes_in_told q u.net u.trees at_to k.0 by.at k.1 by.tree in
          let way_in : inward o.net at_to k.0.group k.1.addr ≡ Some way.0 = subst (λ (z : Net). inward z at_to k.0.group k.1.addr ≡ Some way.0) sure.known.same.net way.1 in
          let end : way.0 ≡ h.to = of_some way.0 h.to (sym way_in ∙ into) in
          let at : by.at ≡ iface_of o.net.ends h.to = sym way.2 ∙ ap (λ (z : Net). iface_of z.ends way.0) sure.known.same.net ∙ ap (iface_of o.net.ends) end in
          no_letter s u sure.known none i c by.at k.0.group (message.Path by.path) by.came at
          (of_made k by.path.session (sender_of by.path.sender) by.session (ap (λ (z : Option (Sender × TokenBucket)). sender_of z) by.sender))
      by_input x iface later i (inr gone) came = by_reason gone.1 came
        where
          by_reason : PathGoes (u.clock + ms_of s) i k x → IsWaited s u at_to i ⊎ IsCame s u at_to i → ⊥
          by_reason (inl dead) c = let z = dead.dies in absurd (omega arith)
          by_reason (inr (inl torn)) (inl w) = let bad : Wait w.ms (word_for u.words at_to) ≡ Came torn.at k.0.group (Spelt (message.PathTear torn.tear)) = sym w.is ∙ torn.came in absurd (cc)
          by_reason (inr (inl torn)) (inr c) =
              no_letter s u sure.known none i c torn.at k.0.group (message.PathTear torn.tear) torn.came (sym (came_iface torn.at torn.tear.hop.addr x torn.hop) ∙ iface)
              (of_made k torn.tear.session torn.tear.sender torn.session torn.sender)
          by_reason (inr (inr clear)) (inl w) = let bad : Wait w.ms (word_for u.words at_to) ≡ Clear = sym w.is ∙ clear in absurd (cc)
          by_reason (inr (inr clear)) (inr c) = let bad : Came (iface_of u.net.ends c.item.end) c.item.dst c.item.arrival ≡ Clear = sym c.is ∙ clear in absurd (cc)

  -- ---- the refresh of the hop
  calls : (s : Step) (u : World) → is_quiet s ≡ true → IsFirm u → IsFirm (step q s u) → Refreshes at_from k.0 s u
      → (y : Item) × In (y, true) (sent q s u) × (track y ≡ Some over)
  calls s u quiet sure sure' r =
      let p : NodeConfig = config_of q u.net u.trees at_from in
      let c : ℕ = u.clock + ms_of s in
      let i : ℕ = iface_of o.net.ends h.from in
      let at : end_at u.net.ends at_from i ≡ Some h.from = subst (λ (z : Net). end_at z.ends at_from i ≡ Some h.from) (sym sure.known.same.net)
      ((interfaces_are_ends o.net).end_of_iface h.from (from_there o.net valid k.0.group k.1.addr h there)) in
      let two = refresh_follows q s u at_from k.0 quiet r in
      let f = two.0 in
      let within = sure.known.bounds.facts at_from r.facts r.there in
      let after : slice_get (step q s u).nodes at_from ≡ Some (outcome q s u at_from r.facts).facts = facts_after_made q s u at_from r.facts r.there in
      let known_then : has (known (facts_then p p c f.input r.facts) k.0) k.1 ≡ true = ap (λ (z : Outcome). has (known z.facts k.0) k.1) (sym f.is)
      ∙ sure'.said.knows (outcome q s u at_from r.facts).facts after in
      let out : goes_out p k.0 i k.1 ≡ true =
      subst (λ (z : Net). goes_out (config_of q z u.trees at_from) k.0 i k.1 ≡ true) (sym sure.known.same.net)
      (goes_out_made q o.net u.trees at_from k.0 h.from k.1 (routed q o u k.0.group k.1.addr h sure.known there) leaves) in
      let less = iface_less q u.net u.trees at_from i h.from at in
      let offer = refreshes_are_marked.known_ones (node_step p p u.clock c f.input r.facts) within k.0 k.1 i two.1 known_then less out in
      let key : OfferKey = record { session = k.0; sender = k.1; iface = i } in
      let send : Send = path_send p true (key, offer.0) in
      let sends : In send (outcome q s u at_from r.facts).sent = subst (λ (z : Outcome). In send z.sent) (sym f.is) offer.2 in
      let peer : In h.to (peers u.net.links h.from) = subst (λ (z : Net). In h.to (peers z.links h.from)) (sym sure.known.same.net) (hop_linked o.net valid k.0.group k.1.addr h there) in
      let goes : In h.to (goes_to u.net (end_at u.net.ends at_from i) k.0.group) =
      subst (λ (z : Option ℕ). In h.to (goes_to u.net z k.0.group)) (sym at) (subst (λ (z : List ℕ). In h.to z) (sym ((where_a_send_goes u.net h.from k.0.group).group group)) peer) in
      let made = copies_made u.net u.made at_from (outcome q s u at_from r.facts).sent send h.to sends goes in
      let own_is : own p i ≡ addr_of o.net h.from = own_end q u.net u.trees at_from i h.from at ∙ ap (λ (z : Net). addr_of z h.from) sure.known.same.net in
      ((copy_to u.made send h.to).0, sent_made q s u at_from r.facts (copy_to u.made send h.to) r.there made, (λ j. Some (record { from = own_is j; to = h.to; session = k.0; key = OfSender k.1 })))

  -- what goes on the track is a letter
  lanes : (y : Item) → track y ≡ Some over → is_letter k h.to y ≡ true
  lanes y e = by y.arrival refl e
    where
      on_path : (m : PathMsg) (x : Option Sender) → sender_of m.sender ≡ x → y.arrival ≡ Spelt (message.Path m) → path_track y.end m.hop.addr m.session x ≡ Some over → is_letter k h.to y ≡ true
      on_path m None a b f = absurd (cc)
      on_path m (Some x) a b f =
          let same : ◌≡◌ {A = Track} (record { from = m.hop.addr; to = y.end; session = m.session; key = OfSender x }) over = of_some _ _ f in
          let end : y.end ≡ h.to = ap (λ (z : Track). z.to) same in
          let session : m.session ≡ k.0 = ap (λ (z : Track). z.session) same in
          let key : OfSender x ≡ OfSender k.1 = ap (λ (z : Track). z.key) same in
          let sender : x ≡ k.1 = cc in
          let s = sender_found m x a in
          path_letter k h.to y m s.0 end b session (s.1 ∙ ap (λ (z : Sender). Some (z, s.0)) sender)

      by_message : (m : Message) → y.arrival ≡ Spelt m → arrival_track y.end (Spelt m) ≡ Some over → is_letter k h.to y ≡ true
      by_message (message.Path m) b f = on_path m (sender_of m.sender) refl b f
      by_message (message.Resv m) b f =
          let same : ◌≡◌ {A = Track} (record { from = m.hop.addr; to = y.end; session = m.session; key = OfStyle (ask_style m.ask) }) over = of_some _ _ f in
          let key : OfStyle (ask_style m.ask) ≡ OfSender k.1 = ap (λ (z : Track). z.key) same in
          absurd (cc)
      by_message (message.PathErr m) b f = absurd (cc)
      by_message (message.ResvErr m) b f = absurd (cc)
      by_message (message.PathTear m) b f = absurd (cc)
      by_message (message.ResvTear m) b f = absurd (cc)
      by_message (message.ResvConf m) b f = absurd (cc)

      by : (b : Arrival) → y.arrival ≡ b → arrival_track y.end b ≡ Some over → is_letter k h.to y ≡ true
      by (Spelt m) b f = by_message m b f
      by (Unspelt g) b f = absurd (cc)

  pub moves : Moves (machine q) line v b
  moves = record {
    rests = λ s u dies calm g g' none kept lt. rests s u dies (quiet_of q s calm) g.sane none kept lt;
    calls = λ s u calm g g' r. calls s u (quiet_of q s calm) g.sane g'.sane r;
    tracks = λ s u y calm g g' i e. lanes y e;
  }

  -- ---- the moment of the next refresh
  pub falls_due : DueLaws (machine q) line
  falls_due = record {
    moved = λ s u m m' calm a a' e e'. due_moves q s u at_from k.0 m m' (quiet_of q s calm) a.known.bounds e e';
    due_room = λ u m a e. let f = due_found u at_from k.0 m e in let r = (a.known.bounds.facts at_from f.0 f.1).due.moment k.0 m f.2 in (r.later, r.soon);
  }

-- ---- two rounds on it is kept, in worlds with the network of o
pub said_from : (q : ℕ) (o : World) (valid : IsValid o.net) (k : SenderKey) (h : LinkHop) (v : PathValue) → In h (tree o.net.hops k.0.group k.1.addr) → is_group k.0.group ≡ true
    → (rs : List (List Step)) (w : World) → Rounds (machine q) rs w
    → Hold (machine q) 0 rs w (IsKnown q o) → Hold (machine q) 0 rs w (IsSaidPath q o.net k h v w.made) → Hold (machine q) 2 rs w (Stands (machine q) (soft_path q o k h.to) v)
said_from q o valid k h v there group rs w calm known said =
    let first = hold_start (machine q) (IsKnown q o) rs w known in
    let firm : Hold (machine q) 0 rs w (IsFirm q o valid k h there group v w.made) =
    hold_map (machine q) (λ u. (IsKnown q o u × IsSaidPath q o.net k h v w.made u) × AreFull q o w.made u) (IsFirm q o valid k h there group v w.made)
    (λ u g. record { known = g.0.0; said = g.0.1; full = g.1 }) 0 rs w
    (hold_both (machine q) (λ u. IsKnown q o u × IsSaidPath q o.net k h v w.made u) (AreFull q o w.made) 0 rs w
    (hold_both (machine q) (IsKnown q o) (IsSaidPath q o.net k h v w.made) 0 rs w known said)
    (hold_keep (machine q) (IsKnown q o) (AreFull q o w.made) (λ s u c a a' j. full_step q o w.made s u (quiet_of q s c) a j) rs w calm known
    (λ y m i born spelt. let old = (first.bounds.flight y i).born in absurd (omega arith)))) in
    what_is_said_is_kept (machine q) (time_passes q) (items_are_numbered q) (line q o valid k h there group v w.made) (falls_due q o valid k h there group v w.made) v first.bounds.period rs w calm
    (moves q o valid k h there group v w.made)
    (hold_map (machine q) (IsFirm q o valid k h there group v w.made) (Good (machine q) (line q o valid k h there group v w.made) v w.made)
    (λ u g. good q o valid k h there group v w.made u g) 0 rs w firm)

pub said_paths_are_kept : (q : ℕ) (w : World) (k : SenderKey) (h : LinkHop) (v : PathValue) → In h (tree w.net.hops k.0.group k.1.addr) → is_group k.0.group ≡ true → (rs : List (List Step))
    → Rounds (machine q) rs w → Hold (machine q) 0 rs w (AreBounds q)
    → Hold (machine q) 0 rs w (IsSaidPath q w.net k h v w.made) → Hold (machine q) 2 rs w (Stands (machine q) (soft_path q w k h.to) v)
said_paths_are_kept q w k h v there group rs calm bounds said =
    said_from q w (hold_start (machine q) (AreBounds q) rs w bounds).net k h v there group rs w calm (known_hold q w rs calm bounds) said
