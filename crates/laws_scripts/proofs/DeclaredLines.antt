-- Each line of a script keeps the network that is declared valid.
use Rattle.std.proofs.Common.{◌≡◌, ℕ, suc, ◌<◌, List, [], ◌∷◌, length, Bool, true, false, cond, Some, None, inl, inr, ⊎_elim, arith, refl, sym, ap, subst, ◌∙◌, length-append}
use Rattle.std.specs.Prelude.{◌++◌, map as each, nat_lt, unwrap_or, IsSome}
use Rattle.std.specs.List.{All, position_or_len}
use Rattle.std.specs.Str.{bytes_eq}
use Rattle.std.proofs.lemmas.Bool.{ltb-true}
use Rattle.rsvp_base.specs.declared.addr.Addr.{Addr}
use Rattle.rsvp_base.specs.Members.{In}
use Rattle.rsvp_base.proofs.Members.{in_each, in_left, in_right}
use Rattle.script_words.specs.Lines.{text_lines}
use Rattle.tree_model.specs.Chains.{Chain, NoRepeats}
use Rattle.tree_model.specs.declared.hops.LinkHop.{LinkHop}
use Rattle.tree_model.specs.Networks.{Net, link_of, node_of}
use Rattle.tree_model.specs.Ranks.{followers}
use Rattle.tree_model.specs.Valid.{IsValid}
use Rattle.laws_network.proofs.Standing.{place_in}
use Rattle.tree_routing.specs.Answers.{no_net, rising, with_end, with_hop, with_link, with_node}
use Rattle.tree_routing.proofs.Latencies.{latency_length, valid_latency}
use Rattle.tree_routing.proofs.LinkLaws.{rising_length}
use Rattle.tree_routing.proofs.ValidMore.{valid_end, valid_hop, valid_link, valid_node}
use Rattle.network_model.specs.Runs.{Plan}
use Rattle.script_grammar.specs.Adds.{Adds, link_value, with_latency_line}
use Rattle.script_grammar.specs.declared.line.EndLine.{EndLine}
use Rattle.script_grammar.specs.declared.line.HopLine.{HopLine}
use Rattle.script_grammar.specs.declared.line.LatencyLine.{LatencyLine}
use Rattle.script_grammar.specs.declared.line.ScriptLine.{ScriptLine}
use Rattle.script_grammar.specs.declared.line.ScriptLine.TheVariants as line
use Rattle.script_grammar.specs.Draft.{Draft, end_number, node_number, nothing, place_of}
use Rattle.script_grammar.specs.Grammar.{Leads}
use Rattle.script_grammar.specs.Rules.{AreOfDifferentNodes, IsEnd, Keeps, KeepsAll}
use Rattle.script_grammar.specs.Values.{end_value, tree_hop_value}
use Rattle.laws_scripts.specs.Networks.{HasFitLinks}
use Rattle.laws_scripts.specs.Scripts.{EachScriptDeclaresAValidNetwork}
use Rattle.laws_scripts.proofs.FitLinks.{links_behind}
use Rattle.laws_scripts.proofs.Leading.{led}

-- ---- names and their numbers
pub place_inside : (names : List (List ℕ)) (name : List ℕ) → IsSome (place_of names name) → unwrap_or (place_of names name) 0 < length names
place_inside names name some = by (nat_lt (position_or_len (bytes_eq name) names) (length names)) refl some
  where
    by : (b : Bool) → nat_lt (position_or_len (bytes_eq name) names) (length names) ≡ b → IsSome (cond b (Some (position_or_len (bytes_eq name) names)) None)
        → unwrap_or (cond b (Some (position_or_len (bytes_eq name) names)) None) 0 < length names
    by true e h = ltb-true (position_or_len (bytes_eq name) names) (length names) e
    by false e h = absurd (cc)

of_all : {A : Type 0} (P : A → Type 0) (xs : List A) (x : A) → All P xs → In x xs → P x
of_all P [] x h i = absurd i
of_all P (y ∷ ys) x h i =
    ⊎_elim (λ (e : x ≡ y). subst P (sym e) (h 0 y (omega arith))) (λ (j : In x ys). of_all P ys x (λ k d lt. h (suc k) d (omega (arith, lt))) j) i

-- no two of one node
nodes_once : (d : Draft) (names : List (List ℕ)) → ((x : List ℕ) → In x names → IsEnd d x) → AreOfDifferentNodes d names → NoRepeats (each (node_of d.net.ends) (each (end_number d) names))
nodes_once d [] known apart = tt
nodes_once d (n ∷ ns) known apart = (
  λ i.
      let e = in_each (node_of d.net.ends) (node_of d.net.ends (end_number d n)) (each (end_number d) ns) i in
      let m = in_each (end_number d) e.0 ns e.1 in
      let k = place_in m.0 ns m.1 in
      let same : node_of d.net.ends (end_number d n) ≡ node_of d.net.ends (end_number d m.0) = e.2 ∙ ap (node_of d.net.ends) m.2 in
      let z : 0 ≡ suc k.0 = apart 0 (suc k.0) n m.0 refl k.1 (known n (inl refl)) (known m.0 (inr m.1)) same in
      omega (arith, z),
  nodes_once d ns (λ x j. known x (inr j)) (λ i j a b p q s t same. let z : suc i ≡ suc j = apart (suc i) (suc j) a b p q s t same in omega (arith, z)),
)

-- ---- the network that is declared
pub record Declared (d : Draft) : Type 0 where
  pub nodes : length d.nodes ≡ d.net.nodes
  pub names : length d.names ≡ length d.net.ends
  pub valid : HasFitLinks d.net → IsValid d.net

same : (d new : Draft) → Declared d → new.net ≡ d.net → new.nodes ≡ d.nodes → new.names ≡ d.names → Declared new
same d new h net nodes names = record {
  nodes = ap length nodes ∙ h.nodes ∙ ap (λ (z : Net). z.nodes) (sym net);
  names = ap length names ∙ h.names ∙ ap (λ (z : Net). length z.ends) (sym net);
  valid = λ fit. subst IsValid (sym net) (h.valid (subst HasFitLinks net fit));
}

node_line : (d : Draft) (name : List ℕ) → Declared d → KeepsAll (Keeps d (line.Node name)) → Declared (record d { nodes = d.nodes ++ name ∷ []; net = with_node d.net })
node_line d name h rules =
    let size = length-append d.nodes (name ∷ []) in
    let are = h.nodes in
    let room = rules.within_limits in
    record { nodes = omega (arith, size, are); names = h.names; valid = λ fit. valid_node d.net (h.valid (λ l i. fit l i)) (omega (arith, are, room)) }

end_line : (d : Draft) (l : EndLine) → Declared d → KeepsAll (Keeps d (line.End l)) → Declared (record d { names = d.names ++ l.name ∷ []; net = with_end d.net (end_value d l) })
end_line d l h rules =
    let size = length-append d.names (l.name ∷ []) in
    let more = length-append d.net.ends (end_value d l ∷ []) in
    let are = h.names in
    let inside = place_inside d.nodes l.node rules.known in
    record {
      nodes = h.nodes;
      names = omega (arith, size, more, are);
      valid = λ fit.
          valid_end d.net (h.valid (λ x i. fit x i)) (end_value d l)
          (record { node = subst (λ (z : ℕ). node_number d l.node < z) h.nodes inside; room = rules.within_limits; address = rules.new.addr });
    }

latency_line : (d : Draft) (l : LatencyLine) → Declared d → Declared (with_latency_line d l)
latency_line d l h = record {
  nodes = h.nodes;
  names = h.names ∙ sym (latency_length d.net.ends (end_number d l.end) l.latency);
  valid = λ fit. valid_latency d.net (end_number d l.end) l.latency (h.valid (λ x i. fit x i));
}

link_line : (d : Draft) (names : List (List ℕ)) → Declared d → KeepsAll (Keeps d (line.Link names)) → Declared (record d { net = with_link d.net (link_value d names) })
link_line d names h rules = record {
  nodes = h.nodes;
  names = h.names;
  valid = λ fit.
      let es : List ℕ = link_value d names in
      let mine = fit (rising es) (in_right (rising es) d.net.links (rising es ∷ []) (inl refl)) in
      let size = rising_length es in
      let some = mine.0 in
      let few = mine.1 in
      let known = λ (x : List ℕ) (i : In x names). of_all (IsEnd d) names x rules.known i in
      valid_link d.net (h.valid (λ x i. fit x (in_left x d.net.links (rising es ∷ []) i))) es
      (record {
        some = omega (arith, size, some);
        few = omega (arith, size, few);
        there = λ e i.
            let m = in_each (end_number d) e names i in
            subst (λ (z : ℕ). z < length d.net.ends) (sym m.2) (subst (λ (z : ℕ). end_number d m.0 < z) h.names (place_inside d.names m.0 (known m.0 m.1)));
        free = λ e i. of_all (λ (z : ℕ). link_of d.net.links z ≡ []) es e rules.new i;
        apart = nodes_once d names known rules.in_range;
        room = rules.within_limits;
      });
}

hop_line : (d : Draft) (l : HopLine) → Declared d → KeepsAll (Keeps d (line.Hop l)) → (new : Draft) → new.net ≡ with_hop d.net (tree_hop_value d l) → new.nodes ≡ d.nodes → new.names ≡ d.names
    → Declared new
hop_line d l h rules new net nodes names = record {
  nodes = ap length nodes ∙ h.nodes ∙ ap (λ (z : Net). z.nodes) (sym net);
  names = ap length names ∙ h.names ∙ ap (λ (z : Net). length z.ends) (sym net);
  valid = λ fit.
      let old : HasFitLinks d.net = λ x i. subst HasFitLinks net fit x i in
      subst IsValid (sym net) (valid_hop d.net (h.valid old) (tree_hop_value d l) rules.within_limits rules.of_tree rules.loop_free);
}

pub declared_line : (d : Draft) (said : ScriptLine) (new : Draft) → Declared d → KeepsAll (Keeps d said) → Adds d said new → Declared new
declared_line d (line.Node name) new h rules adds = subst Declared (sym adds) (node_line d name h rules)
declared_line d (line.End l) new h rules adds = subst Declared (sym adds) (end_line d l h rules)
declared_line d (line.Latency l) new h rules adds = subst Declared (sym adds) (latency_line d l h)
declared_line d (line.Link names) new h rules adds = subst Declared (sym adds) (link_line d names h rules)
declared_line d (line.Hop l) new h rules adds = hop_line d l h rules new (ap (λ (z : Draft). z.net) adds) (ap (λ (z : Draft). z.nodes) adds) (ap (λ (z : Draft). z.names) adds)
declared_line d line.Skipped new h rules adds = same d new h (ap (λ (z : Draft). z.net) adds) (ap (λ (z : Draft). z.nodes) adds) (ap (λ (z : Draft). z.names) adds)
declared_line d (line.Period ms) new h rules adds = same d new h (ap (λ (z : Draft). z.net) adds) (ap (λ (z : Draft). z.nodes) adds) (ap (λ (z : Draft). z.names) adds)
declared_line d (line.Seed n) new h rules adds = same d new h (ap (λ (z : Draft). z.net) adds) (ap (λ (z : Draft). z.nodes) adds) (ap (λ (z : Draft). z.names) adds)
declared_line d (line.StalePath l) new h rules adds = same d new h (ap (λ (z : Draft). z.net) adds) (ap (λ (z : Draft). z.nodes) adds) (ap (λ (z : Draft). z.names) adds)
declared_line d (line.StaleResv l) new h rules adds = same d new h (ap (λ (z : Draft). z.net) adds) (ap (λ (z : Draft). z.nodes) adds) (ap (λ (z : Draft). z.names) adds)
declared_line d (line.StaleHopWall l) new h rules adds = same d new h (ap (λ (z : Draft). z.net) adds) (ap (λ (z : Draft). z.nodes) adds) (ap (λ (z : Draft). z.names) adds)
declared_line d (line.StaleSenderWall l) new h rules adds = same d new h (ap (λ (z : Draft). z.net) adds) (ap (λ (z : Draft). z.nodes) adds) (ap (λ (z : Draft). z.names) adds)
declared_line d (line.Send l) new h rules adds = same d new h (ap (λ (z : Draft). z.net) adds) (ap (λ (z : Draft). z.nodes) adds) (ap (λ (z : Draft). z.names) adds)
declared_line d (line.Drop l) new h rules adds = same d new h (ap (λ (z : Draft). z.net) adds) (ap (λ (z : Draft). z.nodes) adds) (ap (λ (z : Draft). z.names) adds)
declared_line d (line.Advert l) new h rules adds = same d new h (ap (λ (z : Draft). z.net) adds) (ap (λ (z : Draft). z.nodes) adds) (ap (λ (z : Draft). z.names) adds)
declared_line d (line.Want l) new h rules adds = same d new h (ap (λ (z : Draft). z.net) adds) (ap (λ (z : Draft). z.nodes) adds) (ap (λ (z : Draft). z.names) adds)
declared_line d (line.Quit l) new h rules adds = same d new h (ap (λ (z : Draft). z.net) adds) (ap (λ (z : Draft). z.nodes) adds) (ap (λ (z : Draft). z.names) adds)
declared_line d (line.Wait ms) new h rules adds = same d new h (ap (λ (z : Draft). z.net) adds) (ap (λ (z : Draft). z.nodes) adds) (ap (λ (z : Draft). z.names) adds)
declared_line d (line.Pass n) new h rules adds = same d new h (ap (λ (z : Draft). z.net) adds) (ap (λ (z : Draft). z.nodes) adds) (ap (λ (z : Draft). z.names) adds)
declared_line d (line.Deliver k) new h rules adds = same d new h (ap (λ (z : Draft). z.net) adds) (ap (λ (z : Draft). z.nodes) adds) (ap (λ (z : Draft). z.names) adds)
declared_line d (line.Lose k) new h rules adds = same d new h (ap (λ (z : Draft). z.net) adds) (ap (λ (z : Draft). z.nodes) adds) (ap (λ (z : Draft). z.names) adds)
declared_line d (line.Copy k) new h rules adds = same d new h (ap (λ (z : Draft). z.net) adds) (ap (λ (z : Draft). z.nodes) adds) (ap (λ (z : Draft). z.names) adds)
declared_line d (line.Clear node) new h rules adds = same d new h (ap (λ (z : Draft). z.net) adds) (ap (λ (z : Draft). z.nodes) adds) (ap (λ (z : Draft). z.names) adds)
declared_line d (line.Rounds n) new h rules adds = same d new h (ap (λ (z : Draft). z.net) adds) (ap (λ (z : Draft). z.nodes) adds) (ap (λ (z : Draft). z.names) adds)
declared_line d (line.Trace on) new h rules adds = same d new h (ap (λ (z : Draft). z.net) adds) (ap (λ (z : Draft). z.nodes) adds) (ap (λ (z : Draft). z.names) adds)
declared_line d line.Report new h rules adds = same d new h (ap (λ (z : Draft). z.net) adds) (ap (λ (z : Draft). z.nodes) adds) (ap (λ (z : Draft). z.names) adds)
declared_line d (line.ReportEnd end) new h rules adds = same d new h (ap (λ (z : Draft). z.net) adds) (ap (λ (z : Draft). z.nodes) adds) (ap (λ (z : Draft). z.names) adds)
declared_line d line.Flags new h rules adds = same d new h (ap (λ (z : Draft). z.net) adds) (ap (λ (z : Draft). z.nodes) adds) (ap (λ (z : Draft). z.names) adds)
declared_line d line.Adverts new h rules adds = same d new h (ap (λ (z : Draft). z.net) adds) (ap (λ (z : Draft). z.nodes) adds) (ap (λ (z : Draft). z.names) adds)
declared_line d (line.Inject l) new h rules adds = same d new h (ap (λ (z : Draft). z.net) adds.2) (ap (λ (z : Draft). z.nodes) adds.2) (ap (λ (z : Draft). z.names) adds.2)
declared_line d (line.Reroute l) new h rules adds = same d new h (ap (λ (z : Draft). z.net) adds) (ap (λ (z : Draft). z.nodes) adds) (ap (λ (z : Draft). z.names) adds)

no_chain : (g : Addr) (h : LinkHop) (c : List LinkHop) → Chain (followers no_net g) [] (h ∷ c) → ⊥
no_chain g h [] i = i
no_chain g h (x ∷ c) i = i.0

pub declared_first : Declared nothing
declared_first = record {
  nodes = refl;
  names = refl;
  valid = λ fit. record {
    few_nodes = omega arith;
    few_ends = λ n. omega arith;
    few_links = omega arith;
    few_hops = omega arith;
    placed = λ e i. absurd i;
    one_address = λ i j d e a b same. absurd (cc);
    linked = λ l i. absurd i;
    nodes_apart = λ l a b i j k same. absurd i;
    ends_of_links = λ l e i j. absurd i;
    rising = λ l i. absurd i;
    apart = λ i j l m e a b u v. absurd (cc);
    one_link = λ a b e. absurd (cc);
    grown = λ g s. tt;
    loop_free = λ g h c closed. no_chain g h c closed.0;
  };
}

-- behind lines that may begin a script
pub valid_behind : (lines : List (List ℕ)) (d : Draft) → Leads nothing lines d → IsValid d.net
valid_behind lines d leads = (led Declared (λ d text new g f. declared_line d f.said new g f.valid f.adds) lines nothing d declared_first leads).valid (links_behind lines d leads)

pub each_script_declares_a_valid_network : EachScriptDeclaresAValidNetwork
each_script_declares_a_valid_network bytes p is = subst IsValid (sym (ap (λ (z : Plan). z.net) is.says)) (valid_behind (text_lines bytes) is.lines is.leads)
