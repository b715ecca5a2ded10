-- Each line of a script keeps that what is wanted, is wanted at a node that is there.
use Rattle.std.proofs.Common.{◌≡◌, ℕ, ◌+◌, ◌<◌, ◌≤◌, List, ⊎_elim, arith, sym, ap, subst, ◌∙◌}
use Rattle.std.specs.Prelude.{not, map as each}
use Rattle.rsvp_base.specs.declared.session.Session.{Session}
use Rattle.rsvp_base.specs.Members.{In}
use Rattle.rsvp_base.specs.Orders.{sessions as by_session}
use Rattle.rsvp_base.specs.Sets.{set_of}
use Rattle.rsvp_base.specs.Table.{size}
use Rattle.rsvp_base.proofs.Counts.{set_below, size-set_of}
use Rattle.rsvp_base.proofs.Members.{in_each, in_filter}
use Rattle.script_words.specs.Flows.{flow_value}
use Rattle.script_words.specs.Sessions.{sender_value, session_value}
use Rattle.tree_model.specs.declared.locals.LocalWant.{LocalWant}
use Rattle.script_grammar.specs.Adds.{Adds, is_want_at, wants_value}
use Rattle.script_grammar.specs.declared.line.ScriptLine.{ScriptLine}
use Rattle.script_grammar.specs.declared.line.ScriptLine.TheVariants as line
use Rattle.script_grammar.specs.declared.line.WantLine.{WantLine}
use Rattle.script_grammar.specs.Draft.{Draft, node_number, nothing}
use Rattle.script_grammar.specs.Grammar.{Leads}
use Rattle.script_grammar.specs.Rules.{Keeps, KeepsAll}
use Rattle.script_grammar.specs.Values.{senders_value}
use Rattle.laws_scripts.specs.Asked.{WhatLinesAskCanBeAsked}
use Rattle.laws_scripts.proofs.DeclaredLines.{Declared, declared_first, declared_line, place_inside}
use Rattle.laws_scripts.proofs.EventLines.{routing_is_valid}
use Rattle.laws_scripts.proofs.Leading.{led}
use Rattle.laws_scripts.proofs.SenderLines.{sending_behind}
use Rattle.laws_scripts.proofs.Senders.{Sending}
use Rattle.laws_scripts.proofs.Wants.{new_want, of_line, wants_same}

-- the nodes that are declared, and at each want one of them
record Placed (d : Draft) : Type 0 where
  declared : Declared d
  inside : (w : LocalWant) → In w d.locals.wants → w.node < d.net.nodes

abbrev AreInside : Draft → Type 0
AreInside d = (w : LocalWant) → In w d.locals.wants → w.node < d.net.nodes

-- no want is new
same : (d new : Draft) → AreInside d → new.locals.wants ≡ d.locals.wants → new.net.nodes ≡ d.net.nodes → AreInside new
same d new h wants nodes w i = subst (λ (n : ℕ). w.node < n) (sym nodes) (h w (subst (λ (ws : List LocalWant). In w ws) wants i))

one_more : (d new : Draft) → AreInside d → new.locals.wants ≡ d.locals.wants → new.net.nodes ≡ d.net.nodes + 1 → AreInside new
one_more d new h wants nodes w i = let lt = h w (subst (λ (ws : List LocalWant). In w ws) wants i) in omega (arith, lt, nodes)

wanted : (d : Draft) (l : WantLine) → Placed d → KeepsAll (Keeps d (line.Want l)) → (w : LocalWant) → In w (wants_value d l) → w.node < d.net.nodes
wanted d l h rules w i =
    let at = (of_line (node_number d l.node) (session_value l.session) l.style (senders_value l.senders) (flow_value l.flow) w i).0 in
    let there = place_inside d.nodes l.node rules.known in
    let all = h.declared.nodes in
    omega (arith, at, there, all)

inside_line : (d : Draft) (said : ScriptLine) (new : Draft) → Placed d → KeepsAll (Keeps d said) → Adds d said new → AreInside new
inside_line d (line.Node name) new h rules adds = one_more d new h.inside (ap (λ (z : Draft). z.locals.wants) adds) (ap (λ (z : Draft). z.net.nodes) adds)
inside_line d (line.Send l) new h rules adds =
    same d new h.inside (ap (λ (z : Draft). z.locals.wants) adds ∙ wants_same d.locals (node_number d l.node) (session_value l.session) (sender_value l.sender)) (ap (λ (z : Draft). z.net.nodes) adds)
inside_line d (line.Want l) new h rules adds =
    subst AreInside (sym adds) (λ w i. ⊎_elim (λ (j : In w d.locals.wants). h.inside w j) (λ (j : In w (wants_value d l)). wanted d l h rules w j) (new_want d.locals.wants (wants_value d l) w i))
inside_line d (line.Quit l) new h rules adds = subst AreInside (sym adds) (λ w i. h.inside w
    (in_filter (λ z. not (is_want_at (node_number d l.node) (session_value l.session) z)) w d.locals.wants i).0)
inside_line d (line.Inject l) new h rules adds = same d new h.inside (ap (λ (z : Draft). z.locals.wants) adds.2) (ap (λ (z : Draft). z.net.nodes) adds.2)
inside_line d _ new h rules adds = same d new h.inside (ap (λ (z : Draft). z.locals.wants) adds) (ap (λ (z : Draft). z.net.nodes) adds)

placed_behind : (lines : List (List ℕ)) (d : Draft) → Leads nothing lines d → Placed d
placed_behind lines d leads =
    led Placed (λ d text new h f. record { declared = declared_line d f.said new h.declared f.valid f.adds; inside = inside_line d f.said new h f.valid f.adds }) lines nothing d
    (record { declared = declared_first; inside = λ w i. absurd i }) leads

-- what is wanted, is wanted of sessions that were named
few_wanted : (d : Draft) → Sending d → size (set_of {o = by_session} (each (λ (w : LocalWant). w.session) d.locals.wants)) ≤ 32
few_wanted d h =
    let below = set_below by_session (each (λ (w : LocalWant). w.session) d.locals.wants) d.sessions
    (λ s i. let e = in_each (λ (w : LocalWant). w.session) s d.locals.wants i in subst (λ (z : Session). In z d.sessions) (sym e.2) (h.wanted e.0 e.1)) in
    let named = size-set_of by_session d.sessions in
    let few = h.few_sessions in
    omega (arith, below, named, few)

pub what_lines_ask_can_be_asked : WhatLinesAskCanBeAsked
what_lines_ask_can_be_asked lines d leads =
    let sending = sending_behind lines d leads in
    record {
      valid = routing_is_valid lines d leads;
      locals = record { nodes = (placed_behind lines d leads).inside; few_sessions = few_wanted d sending; few_senders = sending.few_senders };
    }
