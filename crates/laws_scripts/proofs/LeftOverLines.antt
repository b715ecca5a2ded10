-- Each line of a script keeps that what is left over is fit at its node.
use Rattle.std.proofs.Common.{◌≡◌, ℕ, ◌≤◌, ◌<◌, ◌*◌, List, [], ◌∷◌, length, true, Option, Some, inl, ⊎_elim, arith, refl, sym, ap, subst, ◌∙◌, length-append}
use Rattle.std.specs.Prelude.{◌+◌, ◌++◌, ◌/◌, ◌==◌, max, min, not, unwrap_or}
use Rattle.rsvp_base.specs.declared.addr.Addr.{Addr}
use Rattle.rsvp_base.specs.declared.session.Sender.{Sender}
use Rattle.rsvp_base.specs.declared.style.StyleKind.{StyleKind}
use Rattle.rsvp_base.specs.declared.style.StyleKind.TheVariants.{Wild, Fixed, Shared}
use Rattle.rsvp_base.specs.declared.style.Unit.TheVariants.{Of}
use Rattle.rsvp_base.specs.Members.{In}
use Rattle.rsvp_base.specs.Orders.{names_from, senders as by_sender}
use Rattle.rsvp_base.specs.Sets.{set_of}
use Rattle.rsvp_base.specs.Styles.{name_of, unit_of}
use Rattle.rsvp_base.specs.Table.{has, size}
use Rattle.rsvp_base.specs.TokenBucket.{IsSound}
use Rattle.rsvp_base.proofs.Counts.{set_below, set_of_in}
use Rattle.rsvp_base.proofs.Members.{in_append, in_each}
use Rattle.rsvp_base.proofs.Tables.{either}
use Rattle.script_words.specs.declared.raw.FlowWord.{FlowWord}
use Rattle.script_words.specs.declared.raw.SenderWord.{SenderWord}
use Rattle.script_words.specs.Flows.{IsFlow, flow_value}
use Rattle.script_words.specs.Lines.{text_lines}
use Rattle.script_words.specs.Sessions.{sender_value}
use Rattle.router_rules.specs.Bounds.{LivesUpTo}
use Rattle.router_rules.specs.Inputs.{Stale}
use Rattle.router_rules.specs.Steps.{IsFitStale}
use Rattle.tree_model.specs.Networks.{Net, end_at, iface_of, node_of}
use Rattle.tree_model.specs.Trees.{trees_of}
use Rattle.tree_model.proofs.Following.{same_number}
use Rattle.tree_model.proofs.Ifaces.{interfaces_are_ends}
use Rattle.tree_routing.proofs.Latencies.{latency_length}
use Rattle.network_model.specs.Worlds.{config_of}
use Rattle.laws_network.specs.Beginning.{IsFitPlan}
use Rattle.laws_network.proofs.Standing.{iface_less}
use Rattle.script_grammar.specs.Adds.{Adds}
use Rattle.script_grammar.specs.declared.line.ScriptLine.{ScriptLine}
use Rattle.script_grammar.specs.declared.line.ScriptLine.TheVariants as line
use Rattle.script_grammar.specs.declared.line.StalePathLine.{StalePathLine}
use Rattle.script_grammar.specs.declared.line.StaleResvLine.{StaleResvLine}
use Rattle.script_grammar.specs.declared.line.StaleHopWallLine.{StaleHopWallLine}
use Rattle.script_grammar.specs.declared.line.StaleSenderWallLine.{StaleSenderWallLine}
use Rattle.script_grammar.specs.Draft.{Draft, end_number, node_number, nothing, period_of, plan_of, usual_period}
use Rattle.script_grammar.specs.Grammar.{Leads}
use Rattle.script_grammar.specs.Rules.{IsListOfStyle, Keeps, KeepsAll, sender_list, stale_node}
use Rattle.script_grammar.specs.Values.{end_value, senders_value, stale_hop_wall_value, stale_path_value, stale_resv_value, stale_sender_wall_value}
use Rattle.laws_scripts.specs.Scripts.{EachScriptLeavesFitFacts}
use Rattle.laws_scripts.proofs.DeclaredLines.{place_inside, valid_behind}
use Rattle.laws_scripts.proofs.HostLines.{hosts_behind}
use Rattle.laws_scripts.proofs.Leading.{led}
use Rattle.laws_scripts.proofs.Words.{Formed, formed}
use Rattle.script_grammar.proofs.LineForms.{IsResvForm}
use Rattle.std.proofs.lemmas.List.{length-map}

abbrev quarter : Draft → ℕ
quarter d = period_of d / 4

-- the period is made of four quarters, and what is left over is fit at its node, whatever its routes
pub record Fitting (d : Draft) : Type 0 where
  pub names : length d.names ≡ length d.net.ends
  pub some : 1 ≤ quarter d
  pub quarters : 4 * quarter d ≡ period_of d
  pub stale : (ts : List (Addr × Addr)) (n : ℕ) (i : Stale) → In (n, i) d.stale → IsFitStale (config_of (quarter d) d.net ts n) 0 i

-- ---- flows, senders and times
pub sound : (w : FlowWord) → IsFlow w → IsSound (flow_value w)
sound w h = let some = h.some_low in let most = h.low in record { rate = h.some_rate; depth = h.some_depth; low = h.some_low; most = omega (arith, some, most) }

pub some_named : (xs : List Sender) → 0 < length xs → 0 < size (names_from xs)
some_named [] lt = absurd (omega arith)
some_named (x ∷ ys) lt =
    let le = set_below by_sender (x ∷ []) (x ∷ ys) (λ k i. ⊎_elim (λ (e : k ≡ x). inl e) (λ (e : ⊥). absurd e) i) in
    let one : size (set_of {o = by_sender} (x ∷ [])) ≡ 1 = refl in
    omega (arith, le, one)

named : (n : ℕ) → 0 < n → not (n == 0) ≡ true
named n some = either (n == 0) (λ t. let zero : n ≡ 0 = same_number n 0 t in absurd (omega (arith, some, zero))) (λ f. ap not f)

lives : (q left : ℕ) → 1 ≤ q → 1 ≤ left → left ≤ 21 * q → LivesUpTo 0 ((21 * max 1 (min (4 * q) (4 * q)) + 3) / 4) left
lives q left some later soon = record { later = omega (arith, later); soon = omega (arith, some, soon) }

module _ (d : Draft) (h : Fitting d) (ts : List (Addr × Addr)) where
  -- an end is an interface of its node
  inside : (e n : ℕ) → e < length d.net.ends → node_of d.net.ends e ≡ n → iface_of d.net.ends e < length (config_of (quarter d) d.net ts n).ifaces
  inside e n lt of =
      iface_less (quarter d) d.net ts n (iface_of d.net.ends e) e
      (subst (λ (z : ℕ). end_at d.net.ends z (iface_of d.net.ends e) ≡ Some e) of ((interfaces_are_ends d.net).end_of_iface e lt))

  path : (l : StalePathLine) → KeepsAll (Keeps d (line.StalePath l)) → IsFitStale (config_of (quarter d) d.net ts (node_number d l.node)) 0 (stale_path_value d l)
  path l rules = (
    lives (quarter d) l.left h.some rules.in_range.left.some rules.in_range.left.few,
    record {
      iface = inside (end_number d l.end) (node_number d l.node) (subst (λ (z : ℕ). end_number d l.end < z) h.names (place_inside d.names l.end rules.known.end_there)) rules.known.of_node;
      tspec = sound l.flow rules.in_range.flow;
      adspec = tt;
    },
  )

  -- a part as the style has them
  one_of : (x y a : Sender) (xs : List Sender) → length (a ∷ xs) ≡ 1 → In x (a ∷ xs) → In y (a ∷ xs) → x ≡ y
  one_of x y a [] one i j =
      let p : x ≡ a = ⊎_elim (λ (e : x ≡ a). e) (λ (no : ⊥). absurd no) i in
      let q : y ≡ a = ⊎_elim (λ (e : y ≡ a). e) (λ (no : ⊥). absurd no) j in
      p ∙ sym q
  one_of x y a (b ∷ xs) one i j = absurd (omega (arith, one))

  only_one : (x y : Sender) (xs : List Sender) → length xs ≡ 1 → In x xs → In y xs → x ≡ y
  only_one x y [] one i j = absurd i
  only_one x y (a ∷ xs) one i j = one_of x y a xs one i j

  some_words : (st : StyleKind) (words : List SenderWord) → IsResvForm st words → 0 < length (sender_list words)
  some_words Wild words form = let some = form.0 in let size = length-map words sender_value in omega (arith, some, size)
  some_words Fixed words form = let size = length-map words sender_value in omega (arith, form, size)
  some_words Shared words form = let size = length-map words sender_value in omega (arith, form, size)

  names_style : (st : StyleKind) (words : List SenderWord) → IsResvForm st words → (s : Sender) → has (senders_value words) s ≡ true → name_of st s ≡ s
  names_style Wild words form s there =
      let w = in_each sender_value s words (set_of_in by_sender (sender_list words) s there) in
      let port : s.port ≡ 0 = ap (λ (z : Sender). z.port) w.2 ∙ form.1 w.0 w.1 in
      λ i. record { addr = s.addr; port = sym port i }
  names_style Fixed words form s there = refl
  names_style Shared words form s there = refl

  unit_style : (st : StyleKind) (words : List SenderWord) → IsListOfStyle st (sender_list words) → (s t : Sender) → has (senders_value words) s ≡ true → has (senders_value words) t ≡ true
      → unit_of st s ≡ unit_of st t
  unit_style Wild words one s t a b = refl
  unit_style Fixed words one s t a b = ap Of (only_one s t (sender_list words) one (set_of_in by_sender (sender_list words) s a) (set_of_in by_sender (sender_list words) t b))
  unit_style Shared words one s t a b = refl

  resv : (l : StaleResvLine) → IsResvForm l.style l.senders → KeepsAll (Keeps d (line.StaleResv l)) → IsFitStale (config_of (quarter d) d.net ts (stale_node d l)) 0 (stale_resv_value d l)
  resv l form rules = (
    lives (quarter d) l.left h.some rules.in_range.left.some rules.in_range.left.few,
    record {
      iface = inside (end_number d l.end) (stale_node d l) (subst (λ (z : ℕ). end_number d l.end < z) h.names (place_inside d.names l.end rules.known)) refl;
      style = record {
        named = named (size (senders_value l.senders)) (some_named (sender_list l.senders) (some_words l.style l.senders form));
        listed = names_style l.style l.senders form;
        one_unit = unit_style l.style l.senders rules.within_limits.one_sender;
      };
      unit = refl;
      names = rules.within_limits.few_senders;
      flow = sound l.flow rules.in_range.flow;
    },
  )

  walls : (left : ℕ) → 1 ≤ left → left ≤ 4 * period_of d → LivesUpTo 0 (4 * (4 * quarter d)) left
  walls left later soon = let all = h.quarters in record { later = omega (arith, later); soon = omega (arith, soon, all) }

  hop_wall : (l : StaleHopWallLine) → KeepsAll (Keeps d (line.StaleHopWall l)) → IsFitStale (config_of (quarter d) d.net ts (node_number d l.node)) 0 (stale_hop_wall_value d l)
  hop_wall l rules = (
    walls l.left rules.in_range.left.some rules.in_range.left.few,
    record {
      iface = inside (end_number d l.end) (node_number d l.node) (subst (λ (z : ℕ). end_number d l.end < z) h.names (place_inside d.names l.end rules.known.end_there)) rules.known.of_node;
      flow = sound l.flow rules.in_range.flow;
    },
  )

  sender_wall : (l : StaleSenderWallLine) → KeepsAll (Keeps d (line.StaleSenderWall l)) → IsFitStale (config_of (quarter d) d.net ts (node_number d l.node)) 0 (stale_sender_wall_value l)
  sender_wall l rules = (walls l.left rules.in_range.left.some rules.in_range.left.few, record { iface = tt; flow = sound l.flow rules.in_range.flow })

-- ---- each line
-- nothing is left over yet
declared : (d new : Draft) → Fitting d → d.stale ≡ [] → new.stale ≡ d.stale → new.period ≡ d.period → length new.names ≡ length new.net.ends → Fitting new
declared d new h none stale period names = record {
  names = names;
  some = subst (λ (z : Option ℕ). 1 ≤ unwrap_or z usual_period / 4) (sym period) h.some;
  quarters = subst (λ (z : Option ℕ). 4 * (unwrap_or z usual_period / 4) ≡ unwrap_or z usual_period) (sym period) h.quarters;
  stale = λ ts n i at. absurd (subst (λ (z : List (ℕ × Stale)). In (n, i) z) (stale ∙ none) at);
}

same_names : (d new : Draft) → Fitting d → new.names ≡ d.names → new.net.ends ≡ d.net.ends → length new.names ≡ length new.net.ends
same_names d new h names ends = ap length names ∙ h.names ∙ sym (ap length ends)

same : (d new : Draft) → Fitting d → new.net ≡ d.net → new.names ≡ d.names → new.period ≡ d.period → new.stale ≡ d.stale → Fitting new
same d new h net names period stale = record {
  names = same_names d new h names (ap (λ (z : Net). z.ends) net);
  some = subst (λ (z : Option ℕ). 1 ≤ unwrap_or z usual_period / 4) (sym period) h.some;
  quarters = subst (λ (z : Option ℕ). 4 * (unwrap_or z usual_period / 4) ≡ unwrap_or z usual_period) (sym period) h.quarters;
  stale = λ ts n i at.
      subst (λ (z : Option ℕ × Net). IsFitStale (config_of (unwrap_or z.0 usual_period / 4) z.1 ts n) 0 i) (λ k. (sym period k, sym net k))
      (h.stale ts n i (subst (λ (z : List (ℕ × Stale)). In (n, i) z) stale at));
}

added : (d : Draft) → Fitting d → (n : ℕ) (i : Stale) → ((ts : List (Addr × Addr)) → IsFitStale (config_of (quarter d) d.net ts n) 0 i)
    → (ts : List (Addr × Addr)) (m : ℕ) (j : Stale) → In (m, j) (d.stale ++ (n, i) ∷ []) → IsFitStale (config_of (quarter d) d.net ts m) 0 j
added d h n i fit ts m j at =
    ⊎_elim (λ (old : In (m, j) d.stale). h.stale ts m j old)
    (λ (new : In (m, j) ((n, i) ∷ [])).
    ⊎_elim (λ (e : (m, j) ≡ (n, i)). subst (λ (z : ℕ × Stale). IsFitStale (config_of (quarter d) d.net ts z.0) 0 z.1) (sym e) (fit ts)) (λ (no : ⊥). absurd no) new)
    (in_append (m, j) d.stale ((n, i) ∷ []) at)

pub fitting_line : (d : Draft) (said : ScriptLine) (new : Draft) → Fitting d → Formed said → KeepsAll (Keeps d said) → Adds d said new → Fitting new
fitting_line d (line.Period ms) new h form rules adds =
    let from = rules.in_range.from in
    let quarters = rules.in_range.quarters in
    subst Fitting (sym adds)
    (record {
      names = h.names;
      some = omega (arith, from);
      quarters = omega (arith, quarters);
      stale = λ ts n i at. absurd (subst (λ (z : List (ℕ × Stale)). In (n, i) z) rules.in_time.no_fact at);
    })
fitting_line d (line.End l) new h form rules adds =
    let size = length-append d.names (l.name ∷ []) in
    let more = length-append d.net.ends (end_value d l ∷ []) in
    let are = h.names in
    let lengths : length (d.names ++ l.name ∷ []) ≡ length (d.net.ends ++ end_value d l ∷ []) = omega (arith, size, more, are) in
    declared d new h rules.in_time.no_fact (ap (λ (z : Draft). z.stale) adds) (ap (λ (z : Draft). z.period) adds)
    (ap (λ (z : Draft). length z.names) adds ∙ lengths ∙ sym (ap (λ (z : Draft). length z.net.ends) adds))
fitting_line d (line.Node name) new h form rules adds = declared d new h rules.in_time.no_fact (ap (λ (z : Draft). z.stale) adds) (ap (λ (z : Draft). z.period) adds)
    (same_names d new h (ap (λ (z : Draft). z.names) adds) (ap (λ (z : Draft). z.net.ends) adds))
fitting_line d (line.Latency l) new h form rules adds = declared d new h rules.in_time.no_fact (ap (λ (z : Draft). z.stale) adds) (ap (λ (z : Draft). z.period) adds)
    (ap (λ (z : Draft). length z.names) adds ∙ h.names ∙ sym (latency_length d.net.ends (end_number d l.end) l.latency) ∙ sym (ap (λ (z : Draft). length z.net.ends) adds))
fitting_line d (line.Link names) new h form rules adds = declared d new h rules.in_time.no_fact (ap (λ (z : Draft). z.stale) adds) (ap (λ (z : Draft). z.period) adds)
    (same_names d new h (ap (λ (z : Draft). z.names) adds) (ap (λ (z : Draft). z.net.ends) adds))
fitting_line d (line.Hop l) new h form rules adds = declared d new h rules.in_time.no_fact (ap (λ (z : Draft). z.stale) adds) (ap (λ (z : Draft). z.period) adds)
    (same_names d new h (ap (λ (z : Draft). z.names) adds) (ap (λ (z : Draft). z.net.ends) adds))
fitting_line d (line.StalePath l) new h form rules adds =
    subst Fitting (sym adds) (record { names = h.names; some = h.some; quarters = h.quarters; stale = added d h (node_number d l.node) (stale_path_value d l) (λ ts. path d h ts l rules) })
fitting_line d (line.StaleResv l) new h form rules adds =
    subst Fitting (sym adds) (record { names = h.names; some = h.some; quarters = h.quarters; stale = added d h (stale_node d l) (stale_resv_value d l) (λ ts. resv d h ts l form rules) })
fitting_line d (line.StaleHopWall l) new h form rules adds =
    subst Fitting (sym adds) (record { names = h.names; some = h.some; quarters = h.quarters; stale = added d h (node_number d l.node) (stale_hop_wall_value d l) (λ ts. hop_wall d h ts l rules) })
fitting_line d (line.StaleSenderWall l) new h form rules adds =
    subst Fitting (sym adds) (record { names = h.names; some = h.some; quarters = h.quarters; stale = added d h (node_number d l.node) (stale_sender_wall_value l) (λ ts. sender_wall d h ts l rules) })
fitting_line d (line.Inject l) new h form rules adds = same d new h (ap (λ (z : Draft). z.net) adds.2) (ap (λ (z : Draft). z.names) adds.2) (ap (λ (z : Draft). z.period) adds.2)
    (ap (λ (z : Draft). z.stale) adds.2)
fitting_line d _ new h form rules adds = same d new h (ap (λ (z : Draft). z.net) adds) (ap (λ (z : Draft). z.names) adds) (ap (λ (z : Draft). z.period) adds) (ap (λ (z : Draft). z.stale) adds)

pub fitting_first : Fitting nothing
fitting_first = record { names = refl; some = omega arith; quarters = refl; stale = λ ts n i at. absurd at }

-- behind lines that may begin a script
pub fit_plan_behind : (lines : List (List ℕ)) (d : Draft) → Leads nothing lines d → IsFitPlan (plan_of d)
fit_plan_behind lines d leads =
    let h = led Fitting (λ d text new g f. fitting_line d f.said new g (formed text f.said f.reads) f.valid f.adds) lines nothing d fitting_first leads in
    let hosts = hosts_behind lines d leads in
    record {
      period = hosts.period;
      net = valid_behind lines d leads;
      hosts = hosts.hosts;
      stale = λ n i lt at. h.stale (trees_of d.net.hops) n i at;
    }

pub each_script_leaves_fit_facts : EachScriptLeavesFitFacts
each_script_leaves_fit_facts bytes p is = subst IsFitPlan (sym is.says) (fit_plan_behind (text_lines bytes) is.lines is.leads)
