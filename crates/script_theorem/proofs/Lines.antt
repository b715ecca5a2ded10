-- Behind the lines of a script the network has what they ask: by the lines, one after the other.
use Rattle.std.proofs.Common.{◌≡◌, ℕ, ◌+◌, ◌<◌, ◌≤◌, suc, Bool, true, false, cond, List, [], ◌∷◌, ◌++◌, Option, Some, None, refl, sym, ap, subst, ◌∙◌, inl, inr, ⊎_elim, arith, append_assoc}
use Rattle.std.specs.Prelude.{slice_get, ◌==◌}
use Rattle.std.specs.List.{All}
use Rattle.std.specs.Ordering.{eq_by_cmp}
use Rattle.std.proofs.lemmas.List.{append-nil}
use Rattle.rsvp_base.specs.declared.session.Sender.{Sender}
use Rattle.rsvp_base.specs.declared.session.Session.{Session}
use Rattle.rsvp_base.specs.Sets.{Set}
use Rattle.rsvp_base.specs.Table.{empty as nobody_told, get, has}
use Rattle.rsvp_base.specs.Members.{In}
use Rattle.rsvp_base.specs.Orders.{senders as by_sender, sessions as by_session}
use Rattle.rsvp_base.proofs.Members.{in_any, in_filter, to_filter}
use Rattle.rsvp_base.proofs.SetLaws.{and_both, and_made}
use Rattle.rsvp_base.proofs.Tables.{tied_same, tied_self}
use Rattle.calm_rounds.specs.Hold.{Visited}
use Rattle.calm_rounds.specs.Machine.{run}
use Rattle.calm_rounds.proofs.Holding.{visited_end}
use Rattle.router_rules.specs.declared.answers.StaleErr.{StaleErr}
use Rattle.router_rules.specs.Calls.{SendersOf, stale_refusal, unless, with_left}
use Rattle.router_rules.specs.Facts.{Facts, Wants, no_facts, sender_keys}
use Rattle.router_rules.specs.Inputs.{QuitAll, Stale}
use Rattle.router_rules.specs.NodeConfig.{NodeConfig}
use Rattle.router_rules.specs.Rule.{facts_with}
use Rattle.script_words.specs.Addresses.{addr_value}
use Rattle.script_words.specs.Flows.{flow_value}
use Rattle.script_words.specs.Sessions.{sender_value, session_value}
use Rattle.tree_model.specs.declared.hops.TreeHop.{TreeHop}
use Rattle.tree_model.specs.declared.locals.LocalWant.{LocalWant}
use Rattle.tree_model.specs.Networks.{Net, owner}
use Rattle.tree_model.specs.Trees.{trees_of}
use Rattle.tree_model.specs.Valid.{IsValid}
use Rattle.tree_model.specs.Wants.{Locals}
use Rattle.tree_model.proofs.Following.{number_same, same_number}
use Rattle.network_model.specs.Bounds.{AreBounds}
use Rattle.network_model.specs.Events.{AtNode, ClearNode, CopyAt, DeliverAt, Event, Injects, LoseAt, Pass, Reports, ReportsFlags, ReportsAdverts, Reroutes, Rounds, Traces, Waits, all_steps, at_place}
use Rattle.network_model.specs.Events.{passes, pieces, rounds, steps_of}
use Rattle.network_model.specs.Locals.{sender_at}
use Rattle.network_model.specs.Runs.{Plan, first_facts, first_world, left_over, steps_of_run}
use Rattle.network_model.specs.Steps.{At, ClearAt, Copy, Deliver, Flags, Adverts, Inject, Lose, Piece, Report, Reroute, Step, Trace, is_calm, machine, step}
use Rattle.network_model.specs.Worlds.{World, config_of}
use Rattle.network_model.proofs.Machines.{quiet_of}
use Rattle.network_model.proofs.Quiet.{net_quiet}
use Rattle.laws_network.specs.Runs.{net_then}
use Rattle.laws_network.proofs.Beginning.{each_found}
use Rattle.laws_network.proofs.Known.{has_some, of_some}
use Rattle.laws_network.proofs.Runs.{no_time, passes_calm, pieces_calm, place_calm, rounds_calm}
use Rattle.laws_network.proofs.Standing.{some_at}
use Rattle.script_grammar.specs.Adds.{Adds, is_sender, is_want_at, net_rerouted, with_event, with_local, with_sender, with_wants, wants_at, wants_value, without_sender, without_wants}
use Rattle.script_grammar.specs.Draft.{Draft, end_number, node_number, nothing, plan_of, routing, same_session}
use Rattle.script_grammar.specs.Grammar.{Follows, Leads}
use Rattle.script_grammar.specs.Rules.{Keeps, KeepsAll, is_sender_at}
use Rattle.script_grammar.specs.Values.{advert_value, drop_value, hop_values, send_value, senders_value, tree_hop_value, want_value}
use Rattle.script_grammar.specs.declared.line.SenderLine.{SenderLine}
use Rattle.script_grammar.specs.declared.line.ScriptLine.{ScriptLine}
use Rattle.script_grammar.specs.declared.line.ScriptLine.TheVariants as line
use Rattle.script_grammar.specs.declared.line.QuitLine.{QuitLine}
use Rattle.script_grammar.specs.declared.line.SendLine.{SendLine}
use Rattle.script_grammar.specs.declared.line.WantLine.{WantLine}
use Rattle.laws_scripts.specs.Asked.{CanBeAsked}
use Rattle.laws_scripts.proofs.AskedLines.{what_lines_ask_can_be_asked}
use Rattle.laws_scripts.proofs.EventLines.{routing_is_valid}
use Rattle.laws_scripts.proofs.Leading.{led}
use Rattle.laws_scripts.proofs.SenderLines.{sending_behind}
use Rattle.laws_scripts.proofs.Senders.{Sending, not_empty}
use Rattle.laws_network.proofs.Calming.{run_append}
use Rattle.script_theorem.specs.Standing.{advertised_behind, advertised_then, world_behind}
use Rattle.script_theorem.proofs.Advertising.{AreAdvertised, advert_advertises, behind_push, drop_advertises, has_put, plain_advertises, steps_advertise}
use Rattle.script_theorem.proofs.Calling.{call_stands}
use Rattle.script_theorem.proofs.Keeping.{Stands, is_call, steps_keep}
use Rattle.script_theorem.proofs.Senders.{advert_makes, drop_makes, owner_inside, send_makes}
use Rattle.script_theorem.proofs.Wanted.{quit_makes, want_makes}

-- ---- at first nodes have nothing: what is left over is no sender and no want
abbrev nobody : Locals
nobody = record { senders = []; wants = [] }

abbrev HasNone : Facts → Type 0
HasNone f = (f.senders ≡ no_facts.senders) × (f.wants ≡ no_facts.wants) × (f.advertised ≡ no_facts.advertised)

none_with : (p : NodeConfig) (i : Stale) (f : Facts) → HasNone f → HasNone (facts_with p 0 i f)
unfolding facts_with
none_with p i f h = by (stale_refusal p i f)
  where
    by : (r : Option StaleErr) → HasNone (unless r (with_left i f) f)
    by None = h
    by (Some e) = h

none_left : (p : NodeConfig) (n : ℕ) (ss : List (ℕ × Stale)) (f : Facts) → HasNone f → HasNone (left_over p n ss f)
none_left p n [] f h = h
none_left p n (s ∷ ss) f h = none_left p n ss (cond (s.0 == n) (facts_with p 0 s.1 f) f) (by (s.0 == n))
  where
    by : (b : Bool) → HasNone (cond b (facts_with p 0 s.1 f) f)
    by true = none_with p s.1 f h
    by false = h

first_none : (p : Plan) (n : ℕ) (f : Facts) → slice_get (first_world p).nodes n ≡ Some f → HasNone f
first_none p n f at = subst HasNone (each_found (first_facts p) 0 p.net.nodes n f at) (none_left (config_of p.quarter p.net (trees_of p.net.hops) (0 + n)) (0 + n) p.stale no_facts (refl, refl, refl))

first_stands : (p : Plan) → Stands nobody (first_world p)
first_stands p = record {
  sender_told = λ n f k t at e.
      let none = first_none p n f at in
      let no : None ≡ Some t = ap (λ (z : SendersOf). get z k) (sym none.0) ∙ e in absurd (cc);
  sender_made = λ x i. absurd i;
  want_told = λ n f k v at e.
      let none = first_none p n f at in
      let no : None ≡ Some v = ap (λ (z : Wants). get z k) (sym none.1) ∙ e in absurd (cc);
  want_made = λ w i. absurd i;
}

-- and nobody is advertised
first_advertises : (p : Plan) → AreAdvertised nobody_told (first_world p)
first_advertises p = record {
  told = λ n f k at e.
      let none = first_none p n f at in
      let no : false ≡ true = ap (λ (z : Set sender_keys). has z k) (sym none.2) ∙ e in absurd (cc);
  made = λ k e. absurd (cc);
}

-- ---- events that call nothing
abbrev calls : Event → Bool
calls (AtNode n l) = true
calls _ = false

module _ (q : ℕ) (some : 1 ≤ q) where
  calm_no_call : (s : Step) → is_calm q s ≡ true → is_call s ≡ false
  calm_no_call (At n l) c = absurd (cc)
  calm_no_call (Piece ms) c = refl
  calm_no_call (Deliver x) c = refl
  calm_no_call (Lose x) c = refl
  calm_no_call (Copy x) c = refl
  calm_no_call (ClearAt n) c = refl
  calm_no_call (Trace on) c = refl
  calm_no_call (Report e) c = refl
  calm_no_call Flags c = refl
  calm_no_call Adverts c = refl
  calm_no_call (Inject e dst a) c = refl
  calm_no_call (Reroute g x hops) c = refl

  abbrev Goes : Event → World → Locals → Set sender_keys → Type 0
  Goes e u l ks = Stands l (run (machine q) (steps_of q e u) u) × ((run (machine q) (steps_of q e u) u).net ≡ net_then e u.net)
      × AreAdvertised (advertised_then e ks) (run (machine q) (steps_of q e u) u)

  calm_net : (ss : List Step) (u : World) → ((s : Step) → In s ss → is_calm q s ≡ true) → (run (machine q) ss u).net ≡ u.net
  calm_net [] u calm = refl
  calm_net (s ∷ ss) u calm = calm_net ss (step q s u) (λ x i. calm x (inr i)) ∙ net_quiet s u (quiet_of q s (calm s (inl refl)))

  calm_goes : (ss : List Step) (u : World) (l : Locals) (ks : Set sender_keys) → ((s : Step) → In s ss → is_calm q s ≡ true) → Stands l u → AreAdvertised ks u
      → Stands l (run (machine q) ss u) × ((run (machine q) ss u).net ≡ u.net) × AreAdvertised ks (run (machine q) ss u)
  calm_goes ss u l ks calm h a = (steps_keep q ss u l (λ s i. calm_no_call s (calm s i)) h, calm_net ss u calm, steps_advertise q ss u ks (λ s i. calm_no_call s (calm s i)) a)

  only : (s : Step) → is_call s ≡ false → (x : Step) → In x (s ∷ []) → is_call x ≡ false
  only s off x i = ⊎_elim (λ (same : x ≡ s). ap is_call same ∙ off) (λ (none : ⊥). absurd none) i

  one : (s : Step) (u : World) (l : Locals) → is_call s ≡ false → Stands l u → Stands l (step q s u)
  one s u l off h = steps_keep q (s ∷ []) u l (only s off) h

  same : (s : Step) (u : World) (ks : Set sender_keys) → is_call s ≡ false → AreAdvertised ks u → AreAdvertised ks (step q s u)
  same s u ks off a = steps_advertise q (s ∷ []) u ks (only s off) a

  pub event_goes : (e : Event) (u : World) (l : Locals) (ks : Set sender_keys) → calls e ≡ false → Stands l u → AreAdvertised ks u → Goes e u l ks
  event_goes (AtNode n c) u l ks off h a = absurd (cc)
  event_goes (Waits ms) u l ks off h a = calm_goes (pieces q ms) u l ks (pieces_calm q some ms) h a
  event_goes (Pass n) u l ks off h a = calm_goes (passes q n u) u l ks (passes_calm q some n u) h a
  event_goes (DeliverAt k) u l ks off h a = calm_goes (at_place Deliver k) u l ks (place_calm q some Deliver k (λ m. no_time q some)) h a
  event_goes (LoseAt k) u l ks off h a = calm_goes (at_place Lose k) u l ks (place_calm q some Lose k (λ m. no_time q some)) h a
  event_goes (CopyAt k) u l ks off h a = calm_goes (at_place Copy k) u l ks (place_calm q some Copy k (λ m. no_time q some)) h a
  event_goes (ClearNode n) u l ks off h a = (one (ClearAt n) u l refl h, refl, same (ClearAt n) u ks refl a)
  event_goes (Rounds n) u l ks off h a = calm_goes (rounds q n u) u l ks (rounds_calm q some n u) h a
  event_goes (Traces on) u l ks off h a = (one (Trace on) u l refl h, refl, same (Trace on) u ks refl a)
  event_goes (Reports e) u l ks off h a = (one (Report e) u l refl h, refl, same (Report e) u ks refl a)
  event_goes ReportsFlags u l ks off h a = (one Flags u l refl h, refl, same Flags u ks refl a)
  event_goes ReportsAdverts u l ks off h a = (one Adverts u l refl h, refl, same Adverts u ks refl a)
  event_goes (Injects e dst b) u l ks off h a = (one (Inject e dst b) u l refl h, refl, same (Inject e dst b) u ks refl a)
  event_goes (Reroutes g x hops) u l ks off h a = (one (Reroute g x hops) u l refl h, refl, same (Reroute g x hops) u ks refl a)

-- ---- one event more
steps_push : (q : ℕ) (es : List Event) (e : Event) (w : World) → all_steps q (es ++ e ∷ []) w ≡ all_steps q es w ++ steps_of q e (run (machine q) (all_steps q es w) w)
steps_push q [] e w = append-nil (steps_of q e w)
steps_push q (x ∷ es) e w =
    let u : World = run (machine q) (steps_of q x w) w in
    ap (λ (ss : List Step). steps_of q x w ++ ss) (steps_push q es e u)
    ∙ sym (append_assoc (steps_of q x w) (all_steps q es u) (steps_of q e (run (machine q) (all_steps q es u) u)))
    ∙ ap (λ (v : World). (steps_of q x w ++ all_steps q es u) ++ steps_of q e v) (sym (run_append (machine q) (steps_of q x w) (all_steps q es u) w))

visited_front : (q : ℕ) (P : World → Type 0) (ss ts : List Step) (w : World) → Visited (machine q) P (ss ++ ts) w → Visited (machine q) P ss w
visited_front q P [] [] w v = v
visited_front q P [] (t ∷ ts) w v = v.0
visited_front q P (s ∷ ss) ts w v = (v.0, visited_front q P ss ts (step q s w) v.1)

-- ---- what is kept, line by line
abbrev AreWithin : Draft → Type 0
AreWithin d = Visited (machine (plan_of d).quarter) (AreBounds (plan_of d).quarter) (steps_of_run (plan_of d)) (first_world (plan_of d))

pub record Standing (d : Draft) : Type 0 where
  pub early : d.events ≡ [] → d.force ≡ d.net.hops
  pub none : d.events ≡ [] → d.locals ≡ nobody
  pub net : AreWithin d → (world_behind d).net ≡ routing d
  pub stands : AreWithin d → Stands d.locals (world_behind d)
  pub advertised : AreWithin d → AreAdvertised (advertised_behind d.events nobody_told) (world_behind d)

-- nothing happened yet
declared : (d new : Draft) → Standing d → d.events ≡ [] → new.events ≡ d.events → new.locals ≡ d.locals → new.force ≡ new.net.hops → Standing new
declared d new h none events locals force =
    let empty = events ∙ none in
    let nothing_asked = locals ∙ h.none none in
    let here : world_behind new ≡ first_world (plan_of new) = ap (λ (es : List Event). run (machine (plan_of new).quarter) (all_steps (plan_of new).quarter es (first_world (plan_of new)))
    (first_world (plan_of new))) empty in
    record {
      early = λ e. force;
      none = λ e. nothing_asked;
      net = λ within. ap (λ (w : World). w.net) here ∙ (λ i. record { nodes = new.net.nodes; ends = new.net.ends; links = new.net.links; hops = sym force i });
      stands = λ within. subst (λ (w : World). Stands new.locals w) (sym here) (subst (λ (l : Locals). Stands l (first_world (plan_of new))) (sym nothing_asked) (first_stands (plan_of new)));
      advertised = λ within.
          subst (AreAdvertised (advertised_behind new.events nobody_told)) (sym here)
          (subst (λ (es : List Event). AreAdvertised (advertised_behind es nobody_told) (first_world (plan_of new))) (sym empty) (first_advertises (plan_of new)));
    }

module _ (d : Draft) (h : Standing d) (e : Event) (l : Locals) (ss : List Session) (hops : List TreeHop) where
  abbrev more : Draft
  more = record (with_event d e) { locals = l; sessions = ss; force = hops }

  abbrev q : ℕ
  q = (plan_of d).quarter

  abbrev w : World
  w = first_world (plan_of d)

  abbrev u : World
  u = world_behind d

  then_is : world_behind more ≡ run (machine q) (steps_of q e u) u
  then_is = ap (λ (zs : List Step). run (machine q) zs w) (steps_push q d.events e w) ∙ run_append (machine q) (steps_of_run (plan_of d)) (steps_of q e u) w

  before : AreWithin more → AreWithin d
  before within = visited_front q (AreBounds q) (steps_of_run (plan_of d)) (steps_of q e u) w (subst (λ (zs : List Step). Visited (machine q) (AreBounds q) zs w) (steps_push q d.events e w) within)

  abbrev ks : Set sender_keys
  ks = advertised_behind d.events nobody_told

  abbrev Then : Type 0
  Then = Stands l (run (machine q) (steps_of q e u) u) × ((run (machine q) (steps_of q e u) u).net ≡ routing more) × AreAdvertised (advertised_then e ks) (run (machine q) (steps_of q e u) u)

  pub happened : (AreBounds q u → u.net ≡ routing d → Stands d.locals u → AreAdvertised ks u → Then) → Standing more
  happened goes = record {
    early = λ empty. absurd (not_empty d.events e empty);
    none = λ empty. absurd (not_empty d.events e empty);
    net = λ within. ap (λ (z : World). z.net) then_is ∙ (now within).1;
    stands = λ within. subst (Stands l) (sym then_is) (now within).0;
    advertised = λ within.
        subst (λ (z : Set sender_keys). AreAdvertised z (world_behind more)) (sym (behind_push d.events e nobody_told)) (subst (AreAdvertised (advertised_then e ks)) (sym then_is) (now within).2);
  }
    where
      now : AreWithin more → Then
      now within = let old = before within in goes (visited_end (machine q) (AreBounds q) (steps_of_run (plan_of d)) w old) (h.net old) (h.stands old) (h.advertised old)

-- an event that calls nothing
passed : (d : Draft) (e : Event) (hops : List TreeHop) → calls e ≡ false → net_then e (routing d) ≡ routing (record d { force = hops }) → Standing d
    → Standing (record (with_event d e) { force = hops })
passed d e hops off net h =
    happened d h e d.locals d.sessions hops
    (λ bounds is stands told.
    let goes = event_goes (plan_of d).quarter bounds.period e (world_behind d) d.locals (advertised_behind d.events nobody_told) off stands told in
    (goes.0, goes.1 ∙ ap (net_then e) is ∙ net, goes.2))

-- ---- calls
all_told : {A : Type 0} (P : A → Type 0) (xs : List A) → All P xs → (x : A) → In x xs → P x
all_told P [] all x i = absurd i
all_told P (y ∷ ys) all x i =
    ⊎_elim (λ (e : x ≡ y). subst P (sym e) (all 0 y (omega arith))) (λ (j : In x ys). all_told P ys (λ k d lt. all (suc k) d (omega arith)) x j) i

node_facts : (q : ℕ) (u : World) (net : Net) (n : ℕ) → AreBounds q u → u.net ≡ net → n < net.nodes → (f : Facts) × (slice_get u.nodes n ≡ Some f)
node_facts q u net n bounds is lt = let many = bounds.nodes in let same = ap (λ (z : Net). z.nodes) is in some_at u.nodes n (omega (arith, many, same, lt))

module _ (d : Draft) (h : Standing d) (valid : IsValid (routing d)) (sending : Sending d) where
  sends : (l : SendLine) → KeepsAll (Keeps d (line.Send l)) → Sending (with_local d l.node (session_value l.session) (send_value l)
      (with_sender d.locals (node_number d l.node) (session_value l.session) (sender_value l.sender)))
      → Standing (with_local d l.node (session_value l.session) (send_value l) (with_sender d.locals (node_number d l.node) (session_value l.session) (sender_value l.sender)))
  sends l rules new =
      let n = node_number d l.node in
      let s = session_value l.session in
      let x = sender_value l.sender in
      let own = rules.known.own in
      happened d h (AtNode n (send_value l)) (with_sender d.locals n s x) _ d.force
      (λ bounds is stands told.
      let makes = send_makes d.net.ends d.locals n s x sending.placed own (plan_of d).quarter (world_behind d) (flow_value l.flow) stands (ap (λ (z : Net). z.ends) is)
      (node_facts (plan_of d).quarter (world_behind d) (routing d) n bounds is (owner_inside (routing d) valid x.addr n own))
      _ new.named new.few_sessions (new.few_senders s) in (
        call_stands (plan_of d).quarter (world_behind d) n (send_value l) d.locals (with_sender d.locals n s x) stands makes,
        is,
        plain_advertises (plan_of d).quarter (world_behind d) n (send_value l) makes.taken _ told (λ t. refl) (λ T k e. has_put T (s, x) (flow_value l.flow) k e),
      ))

  drops : (l : SenderLine) → KeepsAll (Keeps d (line.Drop l)) → Standing (with_local d l.node (session_value l.session) (drop_value l)
      (without_sender d.locals (session_value l.session) (sender_value l.sender)))
  drops l rules =
      let n = node_number d l.node in
      let s = session_value l.session in
      let x = sender_value l.sender in
      let y = in_any (is_sender_at n s x) d.locals.senders rules.known.sends in
      let a = and_both (y.0.node == n) (is_sender s x y.0) y.2 in
      let b = and_both (same_session s y.0.session) (eq_by_cmp by_sender.cmp x y.0.sender) a.1 in
      let node = same_number y.0.node n a.0 in
      let session : y.0.session ≡ s = sym (tied_same by_session s y.0.session b.0) in
      let sender : y.0.sender ≡ x = sym (tied_same by_sender x y.0.sender b.1) in
      happened d h (AtNode n (drop_value l)) (without_sender d.locals s x) _ d.force
      (λ bounds is stands told.
      let own = ap (λ (z : Sender). owner d.net.ends z.addr) (sym sender) ∙ sending.placed y.0 y.1 ∙ ap Some node in
      let makes = drop_makes d.net.ends d.locals n s x sending.placed own (plan_of d).quarter (world_behind d) stands (y.0, y.1, node, session, sender) in (
        call_stands (plan_of d).quarter (world_behind d) n (drop_value l) d.locals (without_sender d.locals s x) stands makes,
        is,
        drop_advertises (plan_of d).quarter (world_behind d) n s x _ told makes.taken
            (λ m f away at e.
            let t = has_some (get f.senders (s, x)) e in
            let there = sending.placed (sender_at m (s, x)) (stands.sender_told m f (s, x) t.0 at t.1) in
            away (of_some n m (sym own ∙ there))),
      ))

  advertises : (l : SenderLine) → KeepsAll (Keeps d (line.Advert l)) → Standing (with_local d l.node (session_value l.session) (advert_value l) d.locals)
  advertises l rules =
      let n = node_number d l.node in
      let s = session_value l.session in
      let x = sender_value l.sender in
      let y = in_any (is_sender_at n s x) d.locals.senders rules.known.sends in
      let a = and_both (y.0.node == n) (is_sender s x y.0) y.2 in
      let b = and_both (same_session s y.0.session) (eq_by_cmp by_sender.cmp x y.0.sender) a.1 in
      let node = same_number y.0.node n a.0 in
      let session : y.0.session ≡ s = sym (tied_same by_session s y.0.session b.0) in
      let sender : y.0.sender ≡ x = sym (tied_same by_sender x y.0.sender b.1) in
      happened d h (AtNode n (advert_value l)) d.locals _ d.force
      (λ bounds is stands told.
      let own = ap (λ (z : Sender). owner d.net.ends z.addr) (sym sender) ∙ sending.placed y.0 y.1 ∙ ap Some node in
      let f = stands.sender_made y.0 y.1 in
      let makes = advert_makes d.net.ends d.locals n s x sending.placed own (plan_of d).quarter (world_behind d) stands (y.0, y.1, node, session, sender) in (
        call_stands (plan_of d).quarter (world_behind d) n (advert_value l) d.locals d.locals stands makes,
        is,
        advert_advertises (plan_of d).quarter (world_behind d) n s x _ told makes.taken (f.0, ap (slice_get (world_behind d).nodes) (sym node) ∙ f.2),
      ))

  wants : (l : WantLine) → KeepsAll (Keeps d (line.Want l)) → (new : Draft) → new ≡ with_local d l.node (session_value l.session) (want_value l)
      (record d.locals { wants = with_wants d.locals.wants (wants_value d l) }) → Sending new → CanBeAsked new → Standing new
  wants l rules new adds named can =
      let n = node_number d l.node in
      let s = session_value l.session in
      let all = record d.locals { wants = with_wants d.locals.wants (wants_value d l) } in
      subst Standing (sym adds)
      (happened d h (AtNode n (want_value l)) all _ d.force
      (λ bounds is stands told.
      let makes = want_makes (plan_of d).quarter (world_behind d) d.locals stands n (λ f at. bounds.facts n f at) s l.style (senders_value l.senders) (flow_value l.flow) l.confirm
      (λ w i node session. all_told (λ (z : LocalWant). z.style ≡ l.style) (wants_at d.locals.wants n s) rules.of_style w
      (to_filter (is_want_at n s) w d.locals.wants i (and_made (w.node == n) (same_session s w.session) (number_same w.node n node)
      (ap (λ (z : Session). same_session s z) session ∙ tied_self by_session s))))
      new.sessions (λ w i. named.wanted w (subst (λ (z : Draft). In w z.locals.wants) (sym adds) i)) named.few_sessions rules.within_limits.few_units
      (λ w i node. node_facts (plan_of d).quarter (world_behind d) (routing d) n bounds is
      (subst (λ (z : ℕ). z < (routing d).nodes) node (subst (λ (z : Draft). w.node < (routing z).nodes) adds (can.locals.nodes w (subst (λ (z : Draft). In w z.locals.wants) (sym adds) i))))) in (
        call_stands (plan_of d).quarter (world_behind d) n (want_value l) d.locals all stands makes,
        is,
        plain_advertises (plan_of d).quarter (world_behind d) n (want_value l) makes.taken _ told (λ t. refl) (λ T k e. e),
      )))

  some_want : (ws : List LocalWant) → (ws ≡ [] → ⊥) → (w : LocalWant) × In w ws
  some_want [] some = absurd (some refl)
  some_want (w ∷ ws) some = (w, inl refl)

  quits : (l : QuitLine) → KeepsAll (Keeps d (line.Quit l)) → Standing (with_local d l.node (session_value l.session) (QuitAll (session_value l.session))
      (without_wants d.locals (node_number d l.node) (session_value l.session)))
  quits l rules =
      let n = node_number d l.node in
      let s = session_value l.session in
      let one = some_want (wants_at d.locals.wants n s) rules.known.wants in
      let f = in_filter (is_want_at n s) one.0 d.locals.wants one.1 in
      let a = and_both (one.0.node == n) (same_session s one.0.session) f.1 in
      happened d h (AtNode n (QuitAll s)) (without_wants d.locals n s) _ d.force
      (λ bounds is stands told.
      let makes = quit_makes (plan_of d).quarter (world_behind d) d.locals stands n (λ g at. bounds.facts n g at) s
      (one.0, f.0, same_number one.0.node n a.0, sym (tied_same by_session s one.0.session a.1)) in (
        call_stands (plan_of d).quarter (world_behind d) n (QuitAll s) d.locals (without_wants d.locals n s) stands makes,
        is,
        plain_advertises (plan_of d).quarter (world_behind d) n (QuitAll s) makes.taken _ told (λ t. refl) (λ T k e. e),
      ))

-- ---- each line
by_line : (d : Draft) (said : ScriptLine) (new : Draft) → Standing d → IsValid (routing d) → Sending d → Sending new → CanBeAsked new → KeepsAll (Keeps d said) → Adds d said new → Standing new
by_line d line.Skipped new h valid sending after can rules adds = subst Standing (sym adds) h
by_line d (line.Period ms) new h valid sending after can rules adds = declared d new h rules.in_time.no_event (ap (λ (z : Draft). z.events) adds) (ap (λ (z : Draft). z.locals) adds)
    (ap (λ (z : Draft). z.force) adds ∙ h.early rules.in_time.no_event ∙ sym (ap (λ (z : Draft). z.net.hops) adds))
by_line d (line.Seed n) new h valid sending after can rules adds = declared d new h rules.in_time.no_event (ap (λ (z : Draft). z.events) adds) (ap (λ (z : Draft). z.locals) adds)
    (ap (λ (z : Draft). z.force) adds ∙ h.early rules.in_time.no_event ∙ sym (ap (λ (z : Draft). z.net.hops) adds))
by_line d (line.Node name) new h valid sending after can rules adds = declared d new h rules.in_time.no_event (ap (λ (z : Draft). z.events) adds) (ap (λ (z : Draft). z.locals) adds)
    (ap (λ (z : Draft). z.force) adds ∙ h.early rules.in_time.no_event ∙ sym (ap (λ (z : Draft). z.net.hops) adds))
by_line d (line.End l) new h valid sending after can rules adds = declared d new h rules.in_time.no_event (ap (λ (z : Draft). z.events) adds) (ap (λ (z : Draft). z.locals) adds)
    (ap (λ (z : Draft). z.force) adds ∙ h.early rules.in_time.no_event ∙ sym (ap (λ (z : Draft). z.net.hops) adds))
by_line d (line.Latency l) new h valid sending after can rules adds = declared d new h rules.in_time.no_event (ap (λ (z : Draft). z.events) adds) (ap (λ (z : Draft). z.locals) adds)
    (ap (λ (z : Draft). z.force) adds ∙ h.early rules.in_time.no_event ∙ sym (ap (λ (z : Draft). z.net.hops) adds))
by_line d (line.Link names) new h valid sending after can rules adds = declared d new h rules.in_time.no_event (ap (λ (z : Draft). z.events) adds) (ap (λ (z : Draft). z.locals) adds)
    (ap (λ (z : Draft). z.force) adds ∙ h.early rules.in_time.no_event ∙ sym (ap (λ (z : Draft). z.net.hops) adds))
by_line d (line.Hop l) new h valid sending after can rules adds =
    declared d new h rules.in_time.no_event (ap (λ (z : Draft). z.events) adds) (ap (λ (z : Draft). z.locals) adds)
    (ap (λ (z : Draft). z.force) adds ∙ ap (λ (z : List TreeHop). z ++ tree_hop_value d l ∷ []) (h.early rules.in_time.no_event) ∙ sym (ap (λ (z : Draft). z.net.hops) adds))
by_line d (line.StalePath l) new h valid sending after can rules adds = declared d new h rules.in_time (ap (λ (z : Draft). z.events) adds) (ap (λ (z : Draft). z.locals) adds)
    (ap (λ (z : Draft). z.force) adds ∙ h.early rules.in_time ∙ sym (ap (λ (z : Draft). z.net.hops) adds))
by_line d (line.StaleResv l) new h valid sending after can rules adds = declared d new h rules.in_time (ap (λ (z : Draft). z.events) adds) (ap (λ (z : Draft). z.locals) adds)
    (ap (λ (z : Draft). z.force) adds ∙ h.early rules.in_time ∙ sym (ap (λ (z : Draft). z.net.hops) adds))
by_line d (line.StaleHopWall l) new h valid sending after can rules adds = declared d new h rules.in_time (ap (λ (z : Draft). z.events) adds) (ap (λ (z : Draft). z.locals) adds)
    (ap (λ (z : Draft). z.force) adds ∙ h.early rules.in_time ∙ sym (ap (λ (z : Draft). z.net.hops) adds))
by_line d (line.StaleSenderWall l) new h valid sending after can rules adds = declared d new h rules.in_time (ap (λ (z : Draft). z.events) adds) (ap (λ (z : Draft). z.locals) adds)
    (ap (λ (z : Draft). z.force) adds ∙ h.early rules.in_time ∙ sym (ap (λ (z : Draft). z.net.hops) adds))
by_line d (line.Send l) new h valid sending after can rules adds = subst Standing (sym adds) (sends d h valid sending l rules (subst Sending adds after))
by_line d (line.Drop l) new h valid sending after can rules adds = subst Standing (sym adds) (drops d h valid sending l rules)
by_line d (line.Advert l) new h valid sending after can rules adds = subst Standing (sym adds) (advertises d h valid sending l rules)
by_line d (line.Want l) new h valid sending after can rules adds = wants d h valid sending l rules new adds after can
by_line d (line.Quit l) new h valid sending after can rules adds = subst Standing (sym adds) (quits d h valid sending l rules)
by_line d (line.Wait ms) new h valid sending after can rules adds = subst Standing (sym adds) (passed d (Waits ms) d.force refl refl h)
by_line d (line.Pass n) new h valid sending after can rules adds = subst Standing (sym adds) (passed d (Pass n) d.force refl refl h)
by_line d (line.Deliver k) new h valid sending after can rules adds = subst Standing (sym adds) (passed d (DeliverAt k) d.force refl refl h)
by_line d (line.Lose k) new h valid sending after can rules adds = subst Standing (sym adds) (passed d (LoseAt k) d.force refl refl h)
by_line d (line.Copy k) new h valid sending after can rules adds = subst Standing (sym adds) (passed d (CopyAt k) d.force refl refl h)
by_line d (line.Clear node) new h valid sending after can rules adds = subst Standing (sym adds) (passed d (ClearNode (node_number d node)) d.force refl refl h)
by_line d (line.Rounds n) new h valid sending after can rules adds = subst Standing (sym adds) (passed d (Rounds n) d.force refl refl h)
by_line d (line.Trace on) new h valid sending after can rules adds = subst Standing (sym adds) (passed d (Traces on) d.force refl refl h)
by_line d line.Report new h valid sending after can rules adds = subst Standing (sym adds) (passed d (Reports None) d.force refl refl h)
by_line d (line.ReportEnd end) new h valid sending after can rules adds = subst Standing (sym adds) (passed d (Reports (Some (end_number d end))) d.force refl refl h)
by_line d line.Flags new h valid sending after can rules adds = subst Standing (sym adds) (passed d ReportsFlags d.force refl refl h)
by_line d line.Adverts new h valid sending after can rules adds = subst Standing (sym adds) (passed d ReportsAdverts d.force refl refl h)
by_line d (line.Inject l) new h valid sending after can rules adds =
    subst Standing (sym adds.2) (passed d (Injects (end_number d l.end) (addr_value l.dst) adds.0) d.force refl refl h)
by_line d (line.Reroute l) new h valid sending after can rules adds =
    subst Standing (sym adds) (passed d (Reroutes (addr_value l.group) (addr_value l.source) (hop_values d l)) (net_rerouted d l).hops refl refl h)

-- ---- all of them
pub record Led (d : Draft) : Type 0 where
  pub done : List (List ℕ)
  pub leads : Leads nothing done d
  pub standing : Standing d

push : (done : List (List ℕ)) (a d new : Draft) (text : List ℕ) → Leads a done d → Follows d text new → Leads a (done ++ text ∷ []) new
push [] a d new text leads f = (new, subst (λ (z : Draft). Follows z text new) leads f, refl)
push (x ∷ done) a d new text leads f = (leads.0, leads.1, push done leads.0 d new text leads.2 f)

at_first : Led nothing
at_first = record {
  done = [];
  leads = refl;
  standing = record { early = λ e. refl; none = λ e. refl; net = λ within. refl; stands = λ within. first_stands (plan_of nothing); advertised = λ within. first_advertises (plan_of nothing) };
}

pub standing_behind : (lines : List (List ℕ)) (d : Draft) → Leads nothing lines d → Standing d
standing_behind lines d leads =
    (led Led
    (λ d text new h f.
    let more = push h.done nothing d new text h.leads f in
    record {
      done = h.done ++ text ∷ [];
      leads = more;
      standing = by_line d f.said new h.standing (routing_is_valid h.done d h.leads) (sending_behind h.done d h.leads) (sending_behind (h.done ++ text ∷ []) new more)
          (what_lines_ask_can_be_asked (h.done ++ text ∷ []) new more) f.valid f.adds;
    })
    lines nothing d at_first leads).standing
