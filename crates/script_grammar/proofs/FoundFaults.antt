-- The first bad lines of some scripts.
use Rattle.std.proofs.Common.{◌≡◌, ℕ, List, [], ◌∷◌, ◌++◌, None, Some, true, false, refl, arith}
use Rattle.std.specs.Prelude.{codes}
use Rattle.script_words.specs.Addresses.{quad_of, IsAddr, IsHost}
use Rattle.network_model.specs.Events.{Waits}
use Rattle.script_grammar.specs.Draft.{Draft, nothing}
use Rattle.script_grammar.specs.Values.{IsEndInRange, IsHopInRange}
use Rattle.script_grammar.specs.declared.line.EndLine.{EndLine}
use Rattle.script_grammar.specs.declared.line.HopLine.{HopLine}
use Rattle.script_grammar.specs.Grammar.{Follows, HasFault, IsBadLine, Leads, broken, unread}
use Rattle.script_grammar.specs.LineKinds.{clear_line, end_line, hop_line, script_line_of, node_line, period_line, said_at_node, said_by, said_in_flight, said_left_over, said_other}
use Rattle.script_grammar.specs.Rows.{FaultsAreFound}
use Rattle.script_grammar.specs.declared.fault.Fault.TheVariants.{Late, Name, NotTree, Range, Twice, Word}
use Rattle.script_grammar.specs.declared.line.ScriptLine.TheVariants as line

-- ---- what the lines say
frob : script_line_of (codes "frob") ≡ None
unfolding said_by said_left_over said_at_node said_in_flight said_other
frob = refl

wait_1 : script_line_of (codes "wait 1") ≡ Some (line.Wait 1)
unfolding said_by said_left_over said_at_node said_in_flight
wait_1 = refl

node_x : script_line_of (codes "node x") ≡ Some (line.Node (codes "x"))
unfolding said_by node_line
node_x = refl

node_a : script_line_of (codes "node a") ≡ Some (line.Node (codes "a"))
unfolding said_by node_line
node_a = refl

period_1002 : script_line_of (codes "period 1002") ≡ Some (line.Period 1002)
unfolding said_by period_line
period_1002 = refl

end_a1 : script_line_of (codes "end a1 a 10.0.0.1 5 1500")
    ≡ Some (line.End (record { name = codes "a1"; node = codes "a"; addr = record { a = 10; b = 0; c = 0; d = 1 }; capacity = 5; mtu = 1500 }))
unfolding said_by end_line quad_of
end_a1 = refl

-- ---- the lines that are valid
abbrev after_wait : Draft
after_wait = record nothing { events = Waits 1 ∷ [] }

abbrev after_node : Draft
after_node = record nothing { nodes = codes "a" ∷ []; net = record { nodes = 1; ends = []; links = []; hops = [] } }

wait_follows : Follows nothing (codes "wait 1") after_wait
wait_follows =
    record {
      short = omega arith;
      said = line.Wait 1;
      reads = wait_1;
      valid = record {
        in_time = tt;
        in_range = record { some = omega arith; few = omega arith };
        known = tt;
        new = tt;
        of_style = tt;
        within_limits = tt;
        of_tree = tt;
        within_capacity = tt;
        loop_free = tt;
      };
      adds = refl;
    }

node_follows : Follows nothing (codes "node a") after_node
node_follows =
    record {
      short = omega arith;
      said = line.Node (codes "a");
      reads = node_a;
      valid = record {
        in_time = record { no_fact = refl; no_event = refl };
        in_range = tt;
        known = tt;
        new = refl;
        of_style = tt;
        within_limits = omega arith;
        of_tree = tt;
        within_capacity = tt;
        loop_free = tt;
      };
      adds = refl;
    }

abbrev a1 : EndLine
a1 = record { name = codes "a1"; node = codes "a"; addr = record { a = 10; b = 0; c = 0; d = 1 }; capacity = 5; mtu = 1500 }

end_in_range : IsEndInRange a1
end_in_range =
    record {
      addr = record { a = omega arith; b = omega arith; c = omega arith; d = omega arith };
      host = record { no_group = λ g. omega (arith, g.from); some = λ e. omega (arith, e) };
      capacity = omega arith;
      mtu = record { some = omega arith; few = omega arith };
    }

abbrev after_end : Draft
after_end =
    record after_node {
      names = codes "a1" ∷ [];
      net = record { nodes = 1; ends = (record { node = 0; iface = record { addr = record { 0 = 167772161 }; capacity = 5; mtu = 1500; latency = 0 } }) ∷ []; links = []; hops = [] };
    }

end_follows : Follows after_node (codes "end a1 a 10.0.0.1 5 1500") after_end
end_follows =
    record {
      short = omega arith;
      said = line.End a1;
      reads = end_a1;
      valid = record {
        in_time = record { no_fact = refl; no_event = refl };
        in_range = end_in_range;
        known = refl;
        new = record { name = refl; addr = refl };
        of_style = tt;
        within_limits = omega
            arith;
        of_tree = tt;
        within_capacity = tt;
        loop_free = tt;
      };
      adds = refl;
    }

abbrev a1_a1 : HopLine
a1_a1 = record { group = record { a = 239; b = 1; c = 1; d = 1 }; source = record { a = 10; b = 0; c = 0; d = 1 }; ends = record { from = codes "a1"; to = codes "a1" } }

hop_a1 : script_line_of (codes "hop 239.1.1.1 10.0.0.1 a1 a1") ≡ Some (line.Hop a1_a1)
unfolding said_by hop_line quad_of
hop_a1 = refl

hop_in_range : IsHopInRange a1_a1
hop_in_range =
    record {
      addr = record { a = omega arith; b = omega arith; c = omega arith; d = omega arith };
      group = record { from = omega arith; to = omega arith };
      source = record { a = omega arith; b = omega arith; c = omega arith; d = omega arith };
    }

-- ---- and those that are not
pub found : FaultsAreFound
found =
    record {
      word = record { before = []; text = codes "frob"; after = []; parts = refl; counted = refl; lines = nothing; leads = refl; fault = unread (omega arith) frob };
      late = record {
        before = codes "wait 1" ∷ [];
        text = codes "node x";
        after = [];
        parts = refl;
        counted = refl;
        lines = after_wait;
        leads = (after_wait, wait_follows, refl);
        fault = broken (line.Node (codes "x")) Late (omega arith) node_x (λ t. let e : Waits 1 ∷ [] ≡ [] = t.no_event in cc);
      };
      range = record {
        before = [];
        text = codes "period 1002";
        after = [];
        parts = refl;
        counted = refl;
        lines = nothing;
        leads = refl;
        fault = broken (line.Period 1002) Range (omega arith) period_1002 (record { no_node = refl; no_fact = refl; no_event = refl }, λ r. let e : 2 ≡ 0 = r.quarters in omega (arith, e));
      };
      name = record {
        before = [];
        text = codes "end a1 a 10.0.0.1 5 1500";
        after = [];
        parts = refl;
        counted = refl;
        lines = nothing;
        leads = refl;
        fault = broken (line.End a1) Name (omega arith) end_a1 (record { no_fact = refl; no_event = refl }, end_in_range, λ k. let e : false ≡ true = k in cc);
      };
      twice = record {
        before = codes "node a" ∷ [];
        text = codes "node a";
        after = [];
        parts = refl;
        counted = refl;
        lines = after_node;
        leads = (after_node, node_follows, refl);
        fault = broken (line.Node (codes "a")) Twice (omega arith) node_a (record { no_fact = refl; no_event = refl }, tt, tt, λ n. let e : Some 0 ≡ None = n in cc);
      };
      not_tree = record {
        before = codes "node a" ∷ codes "end a1 a 10.0.0.1 5 1500" ∷ [];
        text = codes "hop 239.1.1.1 10.0.0.1 a1 a1";
        after = [];
        parts = refl;
        counted = refl;
        lines = after_end;
        leads = (after_node, node_follows, (after_end, end_follows, refl));
        fault = broken (line.Hop a1_a1) NotTree (omega arith) hop_a1
            (record { no_fact = refl; no_event = refl }, hop_in_range, record { from = refl; to = refl; source = refl }, tt, tt, omega arith, λ f. let e : false ≡ true = f.linked in cc);
      };
    }
