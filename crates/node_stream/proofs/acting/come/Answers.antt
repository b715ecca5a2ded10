use Rattle.std.proofs.Common.{List, ℕ, ◌++◌, ◌∙◌, ap}
use Rattle.node_stream.specs.Answers.{heard_frame}
use Rattle.router_rules.specs.Inputs.{Came}
use Rattle.router_rules.specs.declared.answers.Heard.{Heard}
use Rattle.node_stream.specs.Serving.{frames_with, sends_for}
use Rattle.node_stream.specs.States.{stands_at}
use Rattle.node_stream.proofs.acting.come.Goals as goal

pub returns-clause-heard : goal.returns-clause-heard
returns-clause-heard g c = λ t within.
    let see = g.R.Router.seen in
    let k = c.take_in-heard.ensures.taken in
    let d = k.done t within in
    record {
      arrival = k.arrival;
      reads = k.reads;
      stands = d.stands;
      text_is = c.put_heard.ensures ∙ ap (λ (b : List ℕ). b ++ heard_frame c.take_in-heard.result) d.posted
          ∙ ap (λ (h : Heard). frames_with (sends_for (stands_at see c.args.router.now t) (Came c.args.iface c.args.dst k.arrival)) ++ heard_frame h) (k.said t);
    }

pub returns-clause-within : goal.returns-clause-within
returns-clause-within g c = λ t within. (c.take_in-heard.ensures.taken.done t within).within
