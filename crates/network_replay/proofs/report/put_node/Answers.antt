use Rattle.std.proofs.Common.{List, ℕ, subst}
use Rattle.std.specs.Prelude.{Err}
use Rattle.std.specs.List.{flat_map}
use Rattle.value_texts.specs.Reports.{head_text}
use Rattle.router_rules.specs.Flags.{entries_of}
use Rattle.network_replay.specs.Reporting.{Says, entry_said}
use Rattle.network_replay.proofs.Reports.{node_text, says_stop, says_then}
use Rattle.network_replay.proofs.report.put_node.Goals as goal

pub returns-in-Ok : goal.returns-in-Ok
returns-in-Ok g c = λ t e at.
    let see = g.R.Router.seen in
    let r = c.args.node.now in
    let head = head_text c.args.name.now c.held-held.result c.args.capacity in
    let rest = flat_map (entry_said c.args.flags) (entries_of (see.place r) (see.facts r t) c.args.iface) in
    subst (λ (x : List ℕ). Says c.put_entries.result c.args.out.now.items c.put_entries.new.out.items x)
    (node_text c.args.flags (see.place r) c.args.name.now e c.args.iface (see.facts r t) c.held-held.result c.args.capacity (c.held-held.ensures t) at)
    (says_then c.put_entries.result c.args.out.now.items c.say_head.new.out.items c.put_entries.new.out.items head rest c.in-Ok.ensures (c.put_entries.ensures t))

pub returns-in-Err : goal.returns-in-Err
returns-in-Err g c = λ t e at.
    let see = g.R.Router.seen in
    let r = c.args.node.now in
    let head = head_text c.args.name.now c.held-held.result c.args.capacity in
    let rest = flat_map (entry_said c.args.flags) (entries_of (see.place r) (see.facts r t) c.args.iface) in
    let stop = says_stop c.in-Err.e c.args.out.now.items c.say_head.new.out.items head rest c.in-Err.ensures in
    subst (λ (x : List ℕ). Says (Err c.in-Err.e) c.args.out.now.items c.say_head.new.out.items x)
    (node_text c.args.flags (see.place r) c.args.name.now e c.args.iface (see.facts r t) c.held-held.result c.args.capacity (c.held-held.ensures t) at)
    stop
