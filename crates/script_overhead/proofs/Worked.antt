-- The script of two nodes, line by line, and its run.
use Rattle.std.proofs.Common.{◌≡◌, ℕ, zero, suc, List, [], ◌∷◌, ◌++◌, length, Bool, true, false, cond, Some, None, inl, ⊎_elim, sym, refl, ap, subst, ◌∙◌, arith}
use Rattle.std.specs.Prelude.{◌==◌, ◌&&◌, codes}
use Rattle.std.specs.List.{All}
use Rattle.rsvp_base.specs.declared.style.StyleKind.{StyleKind}
use Rattle.rsvp_base.specs.Members.{In}
use Rattle.rsvp_base.proofs.RateBits.{one_is_rate}
use Rattle.rsvp_base.proofs.SetLaws.{and_both}
use Rattle.calm_rounds.specs.Machine.{run}
use Rattle.router_rules.specs.Inputs.{SendAs}
use Rattle.router_rules.specs.Rule.{facts_with}
use Rattle.style_rules.specs.Limits.{IsWithinLimits}
use Rattle.style_rules.specs.Lines.{held}
use Rattle.tree_model.specs.Goals.{DemandsFit, demand_of}
use Rattle.tree_model.specs.Networks.{node_of}
use Rattle.tree_model.specs.Wants.{want}
use Rattle.tree_model.proofs.Following.{same_number}
use Rattle.network_model.specs.Bounds.{IsSettled, all_of}
use Rattle.network_model.specs.Events.{AtNode, Rounds, all_steps, rounds}
use Rattle.network_model.specs.Runs.{first_world, is_crowded, is_crowded_run, steps_of_run}
use Rattle.network_model.specs.Steps.{At, Piece, Step, machine, step}
use Rattle.network_model.specs.ThreeRouters.{first, session as told_session, flow as told_flow}
use Rattle.network_model.specs.Worlds.{Item, World}
use Rattle.laws_network.specs.Example.{pair_net}
use Rattle.laws_network.specs.Rounds.{rounds_of}
use Rattle.laws_network.proofs.Calming.{calm_rounds, rounds_is_calm}
use Rattle.laws_network.proofs.Example.{valid}
use Rattle.network_demand.specs.Overhead.{overhead}
use Rattle.script_words.specs.declared.raw.DottedQuad.{DottedQuad}
use Rattle.script_words.specs.declared.raw.FlowWord.{FlowWord}
use Rattle.script_words.specs.declared.raw.SenderWord.{SenderWord}
use Rattle.script_words.specs.declared.raw.SessionWord.{SessionWord}
use Rattle.script_words.specs.Addresses.{IsAddr, quad_of}
use Rattle.script_words.specs.Flows.{IsFlow, flow_of}
use Rattle.script_words.specs.Lines.{text_lines}
use Rattle.script_words.specs.Sessions.{IsSender, IsSession, sender_of, session_of}
use Rattle.script_grammar.specs.Adds.{with_event, with_send}
use Rattle.script_grammar.specs.Draft.{Draft, end_number, nothing, routing}
use Rattle.script_grammar.specs.Grammar.{Follows, Leads}
use Rattle.script_grammar.specs.LineKinds.{end_line, hop_line, link_line, node_line, said_at_node, said_by, said_in_flight, said_left_over, script_line_of, send_line}
use Rattle.script_grammar.specs.Rules.{AreInNoLink, AreOfDifferentNodes, IsEnd}
use Rattle.script_grammar.specs.declared.line.EndLine.{EndLine}
use Rattle.script_grammar.specs.declared.line.HopLine.{HopLine}
use Rattle.script_grammar.specs.declared.line.SendLine.{SendLine}
use Rattle.script_grammar.specs.declared.line.ScriptLine.TheVariants as line
use Rattle.script_grammar.proofs.Scripts.{leads_one}
use Rattle.script_demand.specs.Begun.{begun_by}
use Rattle.script_demand.specs.Findings.{IsFindingsOf, IsFindingsText}
use Rattle.script_demand.specs.Texts.{findings_text, room_line, room_text}
use Rattle.script_demand.proofs.Sayings.{fit_unsaid}
use Rattle.settle_refreshes.specs.Plain.{IsPlainEvent}
use Rattle.settle_refreshes.specs.Refreshes.{HasOnlyRefreshes}
use Rattle.script_overhead.specs.Plain.{ArePlainEvents, EndsInRounds, EndsPlainly}
use Rattle.script_overhead.specs.Roomy.{SaysRoomFor, end_of}
use Rattle.script_overhead.specs.Worked.{APairHasTheRoomThatIsSaid, pair_plan, pair_text}

-- ---- what its lines say
abbrev own : DottedQuad
own = record { a = 10; b = 0; c = 1; d = 1 }

abbrev other : DottedQuad
other = record { a = 10; b = 0; c = 1; d = 2 }

abbrev group : DottedQuad
group = record { a = 239; b = 1; c = 1; d = 1 }

abbrev session : SessionWord
session = record { group = group; proto = 17; port = 5004 }

abbrev sender : SenderWord
sender = record { addr = own; port = 5004 }

abbrev flow : FlowWord
flow = record { r = 1; b = 1; p = None; low = 1; most = 1500 }

abbrev s1 : List ℕ
s1 = codes "s1"

abbrev r1 : List ℕ
r1 = codes "r1"

abbrev end_s : EndLine
end_s = record { name = s1; node = codes "s"; addr = own; capacity = 10000; mtu = 1500 }

abbrev end_r : EndLine
end_r = record { name = r1; node = codes "r"; addr = other; capacity = 10000; mtu = 1500 }

abbrev hop : HopLine
hop = record { group = group; source = own; ends = record { from = s1; to = r1 } }

abbrev sends : SendLine
sends = record { node = codes "s"; session = session; sender = sender; flow = flow }

node_read : script_line_of (codes "node s") ≡ Some (line.Node (codes "s"))
unfolding said_by node_line
node_read = refl

other_read : script_line_of (codes "node r") ≡ Some (line.Node (codes "r"))
unfolding said_by node_line
other_read = refl

end_read : script_line_of (codes "end s1 s 10.0.1.1 10000 1500") ≡ Some (line.End end_s)
unfolding said_by end_line quad_of
end_read = refl

other_end_read : script_line_of (codes "end r1 r 10.0.1.2 10000 1500") ≡ Some (line.End end_r)
unfolding said_by end_line quad_of
other_end_read = refl

link_read : script_line_of (codes "link s1 r1") ≡ Some (line.Link (s1 ∷ r1 ∷ []))
unfolding said_by link_line
link_read = refl

hop_read : script_line_of (codes "hop 239.1.1.1 10.0.1.1 s1 r1") ≡ Some (line.Hop hop)
unfolding said_by hop_line quad_of
hop_read = refl

send_read : script_line_of (codes "send s 239.1.1.1/17/5004 10.0.1.1:5004 1/1/inf/1/1500") ≡ Some (line.Send sends)
unfolding said_by said_left_over said_at_node send_line quad_of session_of sender_of flow_of
send_read = refl

rounds_read : script_line_of (codes "rounds 28") ≡ Some (line.Rounds 28)
unfolding said_by said_left_over said_at_node said_in_flight
rounds_read = refl

-- ---- ranges
own_addr : IsAddr own
own_addr = record { a = omega arith; b = omega arith; c = omega arith; d = omega arith }

other_addr : IsAddr other
other_addr = record { a = omega arith; b = omega arith; c = omega arith; d = omega arith }

group_addr : IsAddr group
group_addr = record { a = omega arith; b = omega arith; c = omega arith; d = omega arith }

fit_session : IsSession session
fit_session = record { addr = group_addr; group = record { from = omega arith; to = omega arith }; some_proto = omega arith; proto = omega arith; port = omega arith }

fit_sender : IsSender sender
fit_sender = record { addr = own_addr; port = omega arith }

fit_flow : IsFlow flow
fit_flow = record { rate = one_is_rate; some_rate = omega arith; depth = one_is_rate; some_depth = omega arith; peak = tt; some_low = omega arith; low = omega arith; most = omega arith }

-- ---- each follows those before
abbrev with_s : Draft
with_s = record nothing { nodes = codes "s" ∷ []; net = record { nodes = 1; ends = []; links = []; hops = [] } }

abbrev with_r : Draft
with_r = record with_s { nodes = codes "s" ∷ codes "r" ∷ []; net = record { nodes = 2; ends = []; links = []; hops = [] } }

abbrev with_s1 : Draft
with_s1 =
    record with_r {
      names = s1 ∷ [];
      net = record { nodes = 2; ends = (record { node = 0; iface = record { addr = record { 0 = 167772417 }; capacity = 10000; mtu = 1500; latency = 0 } }) ∷ []; links = []; hops = [] };
    }

abbrev with_r1 : Draft
with_r1 = record with_s1 { names = s1 ∷ r1 ∷ []; net = record { nodes = 2; ends = pair_net.ends; links = []; hops = [] } }

abbrev linked : Draft
linked = record with_r1 { net = record { nodes = 2; ends = pair_net.ends; links = pair_net.links; hops = [] } }

abbrev grown : Draft
grown = record linked { net = pair_net; force = pair_net.hops }

abbrev sending : Draft
sending = with_send grown sends

abbrev passed : Draft
passed = with_event sending (Rounds 28)

both_ends : All (IsEnd with_r1) (s1 ∷ r1 ∷ [])
both_ends zero d lt = refl
both_ends (suc zero) d lt = refl
both_ends (suc (suc k)) d lt = absurd (omega (arith, lt))

no_link : AreInNoLink with_r1 (s1 ∷ r1 ∷ [])
no_link zero d lt = refl
no_link (suc zero) d lt = refl
no_link (suc (suc k)) d lt = absurd (omega (arith, lt))

abbrev node_at : List ℕ → ℕ
node_at name = node_of with_r1.net.ends (end_number with_r1 name)

apart : (a b : List ℕ) → s1 ≡ a → r1 ≡ b → node_at a ≡ node_at b → ⊥
apart a b x y e = let z : ◌≡◌ {A = ℕ} 0 1 = ap node_at x ∙ e ∙ sym (ap node_at y) in omega (arith, z)

two_nodes : AreOfDifferentNodes with_r1 (s1 ∷ r1 ∷ [])
two_nodes zero zero a b x y k m e = refl
two_nodes (suc zero) (suc zero) a b x y k m e = refl
two_nodes zero (suc zero) a b x y k m e = let p : s1 ≡ a = cc in let q : r1 ≡ b = cc in absurd (apart a b p q e)
two_nodes (suc zero) zero a b x y k m e = let p : r1 ≡ a = cc in let q : s1 ≡ b = cc in absurd (apart b a q p (sym e))
two_nodes (suc (suc i)) j a b x y k m e = absurd (cc)
two_nodes zero (suc (suc j)) a b x y k m e = absurd (cc)
two_nodes (suc zero) (suc (suc j)) a b x y k m e = absurd (cc)

node_follows : Follows nothing (codes "node s") with_s
node_follows = record {
  short = omega arith;
  said = line.Node (codes "s");
  reads = node_read;
  valid = record {
    in_time = record { no_fact = refl; no_event = refl };
    in_range = tt;
    known = tt;
    new = refl;
    of_style = tt;
    within_limits = omega arith;
    of_tree = tt;
    within_capacity = tt;
    loop_free = tt;
  };
  adds = refl;
}

other_follows : Follows with_s (codes "node r") with_r
other_follows = record {
  short = omega arith;
  said = line.Node (codes "r");
  reads = other_read;
  valid = record {
    in_time = record { no_fact = refl; no_event = refl };
    in_range = tt;
    known = tt;
    new = refl;
    of_style = tt;
    within_limits = omega arith;
    of_tree = tt;
    within_capacity = tt;
    loop_free = tt;
  };
  adds = refl;
}

end_follows : Follows with_r (codes "end s1 s 10.0.1.1 10000 1500") with_s1
end_follows = record {
  short = omega arith;
  said = line.End end_s;
  reads = end_read;
  valid = record {
    in_time = record { no_fact = refl; no_event = refl };
    in_range = record { addr = own_addr; host = record { no_group = λ g. omega (arith, g.from); some = λ e. omega (arith, e) }; capacity = omega arith; mtu = record { some = omega arith; few = omega arith } };
    known = refl;
    new = record { name = refl; addr = refl };
    of_style = tt;
    within_limits = omega arith;
    of_tree = tt;
    within_capacity = tt;
    loop_free = tt;
  };
  adds = refl;
}

other_end_follows : Follows with_s1 (codes "end r1 r 10.0.1.2 10000 1500") with_r1
other_end_follows = record {
  short = omega arith;
  said = line.End end_r;
  reads = other_end_read;
  valid = record {
    in_time = record { no_fact = refl; no_event = refl };
    in_range = record { addr = other_addr; host = record { no_group = λ g. omega (arith, g.from); some = λ e. omega (arith, e) }; capacity = omega arith; mtu = record { some = omega arith; few = omega arith } };
    known = refl;
    new = record { name = refl; addr = refl };
    of_style = tt;
    within_limits = omega arith;
    of_tree = tt;
    within_capacity = tt;
    loop_free = tt;
  };
  adds = refl;
}

link_follows : Follows with_r1 (codes "link s1 r1") linked
link_follows = record {
  short = omega arith;
  said = line.Link (s1 ∷ r1 ∷ []);
  reads = link_read;
  valid = record {
    in_time = record { no_fact = refl; no_event = refl };
    in_range = two_nodes;
    known = both_ends;
    new = no_link;
    of_style = tt;
    within_limits = omega arith;
    of_tree = tt;
    within_capacity = tt;
    loop_free = tt;
  };
  adds = refl;
}

hop_follows : Follows linked (codes "hop 239.1.1.1 10.0.1.1 s1 r1") grown
hop_follows = record {
  short = omega arith;
  said = line.Hop hop;
  reads = hop_read;
  valid = record {
    in_time = record { no_fact = refl; no_event = refl };
    in_range = record { addr = group_addr; group = record { from = omega arith; to = omega arith }; source = own_addr };
    known = record { from = refl; to = refl; source = refl };
    new = tt;
    of_style = tt;
    within_limits = omega arith;
    of_tree = record { linked = refl; from_reached = refl; to_new = refl; alone = refl };
    within_capacity = tt;
    loop_free = valid.loop_free (record { 0 = 4009820417 });
  };
  adds = refl;
}

send_follows : Follows grown (codes "send s 239.1.1.1/17/5004 10.0.1.1:5004 1/1/inf/1/1500") sending
send_follows = record {
  short = omega arith;
  said = line.Send sends;
  reads = send_read;
  valid = record {
    in_time = tt;
    in_range = record { session = fit_session; sender = fit_sender; flow = fit_flow };
    known = record { node = refl; own = refl };
    new = tt;
    of_style = tt;
    within_limits = record { session = omega arith; few_senders = omega arith };
    of_tree = tt;
    within_capacity = tt;
    loop_free = tt;
  };
  adds = refl;
}

rounds_follows : Follows sending (codes "rounds 28") passed
rounds_follows = record {
  short = omega arith;
  said = line.Rounds 28;
  reads = rounds_read;
  valid = record {
    in_time = tt;
    in_range = record { some = omega arith; few = omega arith };
    known = tt;
    new = tt;
    of_style = tt;
    within_limits = tt;
    of_tree = tt;
    within_capacity = tt;
    loop_free = tt;
  };
  adds = refl;
}

leads : Leads nothing (text_lines pair_text) passed
leads = (
  with_s,
  node_follows,
  (with_r, other_follows, (with_s1, end_follows, (with_r1, other_end_follows, (linked, link_follows, (grown, hop_follows, (sending, send_follows, (passed, rounds_follows, refl))))))),
)

-- ---- its run
abbrev call : Step
call = At 0 (SendAs told_session first (told_flow 1 1 1 1500))

abbrev begun : World
begun = step 7500 call (first_world pair_plan)

nothing_behind : {A : Type 0} (xs : List A) → xs ++ [] ≡ xs
nothing_behind [] = refl
nothing_behind (x ∷ xs) = ap (λ ys. x ∷ ys) (nothing_behind xs)

steps_are : (n : ℕ) (w : World) → all_steps 7500 (Rounds n ∷ []) w ≡ all_of (rounds_of 7500 n w)
steps_are n w = nothing_behind (rounds 7500 n w) ∙ (rounds_is_calm 7500 n w).steps

settled : IsSettled 7500 (first_world pair_plan) (steps_of_run pair_plan)
settled = record {
  before = call ∷ [];
  rounds = rounds_of 7500 28 begun;
  parts = ap (λ (z : List Step). call ∷ z) (steps_are 28 begun);
  calm = calm_rounds 7500 28 begun;
  enough = let n = (rounds_is_calm 7500 28 begun).number in omega arith;
}

uncrowded : is_crowded_run pair_plan ≡ false
unfolding facts_with
uncrowded = refl

-- each world is looked at on the way, so that none is computed twice
abbrev is_met : World → Bool
is_met w = (length w.flight == 0) && (length (step 7500 (Piece 15000) w).flight == 1)

abbrev ends_so : List Step → World → Bool
ends_so [] w = is_met w
ends_so (s ∷ ss) w = cond (is_crowded (step 7500 s w)) false (ends_so ss (step 7500 s w))

ended_so : (ss : List Step) (w : World) → ends_so ss w ≡ true → is_met (run (machine 7500) ss w) ≡ true
ended_so [] w e = e
ended_so (s ∷ ss) w e = by (is_crowded (step 7500 s w)) (ended_so ss (step 7500 s w)) e
  where
    by : (b : Bool) → (ends_so ss (step 7500 s w) ≡ true → is_met (run (machine 7500) ss (step 7500 s w)) ≡ true) → cond b false (ends_so ss (step 7500 s w)) ≡ true
        → is_met (run (machine 7500) ss (step 7500 s w)) ≡ true
    by true rest t = absurd (cc)
    by false rest t = rest t

met_there : ends_so (steps_of_run pair_plan) (first_world pair_plan) ≡ true
unfolding facts_with
met_there = refl

both : (length (end_of pair_plan).flight ≡ 0) × (length (step 7500 (Piece 15000) (end_of pair_plan)).flight ≡ 1)
both =
    let r = and_both (length (end_of pair_plan).flight == 0) (length (step 7500 (Piece 15000) (end_of pair_plan)).flight == 1)
    (ended_so (steps_of_run pair_plan) (first_world pair_plan) met_there) in
    (same_number (length (end_of pair_plan).flight) 0 r.0, same_number (length (step 7500 (Piece 15000) (end_of pair_plan)).flight) 1 r.1)

none_in : (xs : List Item) (x : Item) → length xs ≡ 0 → In x xs → ⊥
none_in [] x e i = i
none_in (y ∷ ys) x e i = omega (arith, e)

only : HasOnlyRefreshes (end_of pair_plan)
only y i = absurd (none_in (end_of pair_plan).flight y both.0 i)

-- ---- what is said
no_limits : (st : StyleKind) → IsWithinLimits st []
no_limits st = record { lines = omega arith; sessions = omega arith; next_hops = λ s. omega arith; names = λ s. omega arith }

-- nobody wants anything, so the demands fit
fit : DemandsFit (routing passed) passed.locals
fit = record {
  capacity = λ e x is. let none : held (demand_of (routing passed) passed.locals e) ≡ 0 = refl in omega arith;
  mtu = λ e x k p is got. absurd (cc);
  one_style = λ v w i j same. absurd i;
  limits = λ n st. no_limits st;
}

one_path : overhead (routing passed) passed.locals ≡ 1
unfolding want
one_path = refl

said : (text : List ℕ) → IsFindingsOf pair_text text → SaysRoomFor 1 text
said text found =
    let same : found.lines ≡ passed = leads_one nothing (text_lines pair_text) found.lines passed found.leads leads in
    let t : IsFindingsText passed.nodes passed.names (routing passed) passed.locals (begun_by passed.events) text =
    subst (λ (d : Draft). IsFindingsText d.nodes d.names (routing d) d.locals (begun_by d.events) text) same found.says in
    let front : List ℕ = findings_text passed.nodes passed.names (routing passed).ends passed.locals t.found in
    record {
      fits = fit_unsaid passed.nodes passed.names (routing passed) passed.locals (begun_by passed.events) text t fit;
      front = front;
      ends = t.text_is ∙ ap (λ (b : Bool). front ++ room_text b (overhead (routing passed) passed.locals)) (t.told.1 fit) ∙ ap (λ (n : ℕ). front ++ room_line n) one_path;
      few = omega arith;
    }

-- ---- what is read of its lines
plain_event : ArePlainEvents pair_plan.events
plain_event e i =
    ⊎_elim (λ (same : e ≡ AtNode 0 (SendAs told_session first (told_flow 1 1 1 1500))). subst IsPlainEvent (sym same) tt)
    (λ (more : In e (Rounds 28 ∷ [])). ⊎_elim (λ (same : e ≡ Rounds 28). subst IsPlainEvent (sym same) tt) (λ (no : ⊥). absurd no) more) i

plain_end : EndsPlainly pair_plan
plain_end = record {
  uncrowded = uncrowded;
  plain = plain_event;
  calm = record {
    before = call ∷ [];
    rounds = rounds_of 7500 28 begun;
    parts = ap (λ (z : List Step). call ∷ z) (steps_are 28 begun);
    calm = calm_rounds 7500 28 begun;
    enough = let n = (rounds_is_calm 7500 28 begun).number in omega arith;
  };
}

last_rounds : EndsInRounds passed
last_rounds = record {
  before = AtNode 0 (SendAs told_session first (told_flow 1 1 1 1500)) ∷ [];
  last = Rounds 28 ∷ [];
  parts = refl;
  only = tt;
  enough = inl (plain_event, omega arith);
}

pub a_pair_has_the_room_that_is_said : APairHasTheRoomThatIsSaid
a_pair_has_the_room_that_is_said = record {
  script = record { lines = passed; leads = leads; says = refl };
  ends = record { uncrowded = uncrowded; settled = settled; refreshes = only };
  plain = plain_end;
  last = last_rounds;
  said = said;
  none = both.0;
  met = both.1;
}
