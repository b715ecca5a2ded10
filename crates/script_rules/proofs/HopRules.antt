-- A hop that was not taken: the rule of the grammar that it breaks first.
use Rattle.std.specs.Prelude.{ℕ, ◌<◌, Result, Ok, Err, IfErr, length}
use Rattle.std.proofs.Common.{◌∙◌}
use Rattle.rsvp_base.specs.declared.addr.Addr.{Addr}
use Rattle.tree_model.specs.declared.hops.TreeHop.{TreeHop}
use Rattle.tree_routing.specs.Answers.{HopAnswer}
use Rattle.tree_routing.specs.declared.hop_err.HopErr.TheVariants as hop_err
use Rattle.script_grammar.specs.Draft.{Draft}
use Rattle.script_grammar.specs.Rules.{IsHopKnown, OnlyDeclares}
use Rattle.script_grammar.specs.Values.{IsHopInRange, tree_hop_value}
use Rattle.script_grammar.specs.declared.fault.Fault.{Fault}
use Rattle.script_grammar.specs.declared.fault.Fault.TheVariants as fault
use Rattle.script_grammar.specs.declared.line.HopLine.{HopLine}
use Rattle.script_grammar.specs.declared.line.ScriptLine.TheVariants as line
use Rattle.script_grammar.specs.declared.stop.Stop.{Stop}
use Rattle.script_grammar.specs.declared.stop.Stop.TheVariants.{Bad, Crowded, NoMemory}
use Rattle.script_rules.specs.HopRefusals.{IsHopRefused, IsLoopNamed}
use Rattle.script_rules.specs.Refusals.{Refuses}

-- a closed chain, told by the names of the ends of its least hop
pub loop_named : (d : Draft) (r : TreeHop) (group : Addr) (from to : ℕ) → HopAnswer d.net r (Err (hop_err.Loop group from to)) → (x : Fault) → IsLoopNamed d group (record { from = from; to = to }) x
    → IsHopRefused d r (Bad x)
loop_named d r group from to answer (fault.Loop g f t) told =
    (answer.0, λ free. free answer.2.on.head answer.2.on.rest answer.2.on.closed, (told.0 ∙ answer.1, record { from = from; to = to }, answer.2, told.1))
loop_named d r group from to answer why told = absurd told

-- a hop that keeps the rules before those of trees
pub hop_refused : (d : Draft) (l : HopLine) → OnlyDeclares d → IsHopInRange l → IsHopKnown d l → length d.net.hops < 8192 → (x : Stop) → IsHopRefused d (tree_hop_value d l) x
    → Refuses d (line.Hop l) x
hop_refused d l in_time in_range known room (Bad fault.NotTree) no_tree = (in_time, in_range, known, tt, tt, room, no_tree)
hop_refused d l in_time in_range known room (Bad (fault.Loop g f t)) loop = (in_time, in_range, known, tt, tt, room, loop.0, tt, loop.1, loop.2)
hop_refused d l in_time in_range known room Crowded x = absurd x
hop_refused d l in_time in_range known room NoMemory x = tt
hop_refused d l in_time in_range known room (Bad why) x = absurd x

pub err_refused : {A : Type 0} {P Q : Stop → Type 0} → ((x : Stop) → P x → Q x) → (r : Result A Stop) → IfErr r P → IfErr r Q
err_refused f (Ok a) p = tt
err_refused f (Err e) p = f e p
