use Rattle.std.proofs.Common.{sym, subst, ◌∙◌}
use Rattle.script_grammar.specs.Draft.{plan_of}
use Rattle.script_run.specs.Standing.{IsNetworkOf}
use Rattle.script_run.proofs.script_run.run_script.Goals as goal

-- the network that is left is that of the player
pub returns-in-Done-clause-run : goal.returns-in-Done-clause-run
returns-in-Done-clause-run g c =
    let r = c.in-Done.ensures.run in
    record {
      taken = r.taken;
      took = r.took;
      text = r.text;
      wrote = r.wrote;
      counted = r.counted;
      ended = record {
        all = r.ended.all;
        ran = r.ended.ran;
        stands_there = subst (λ w. IsNetworkOf g.R.Router.seen w (plan_of r.ended.ran.draft)) (sym (c.leave.ensures ∙ c.into_world.ensures)) r.ended.stands_there.0.network;
      };
    }
