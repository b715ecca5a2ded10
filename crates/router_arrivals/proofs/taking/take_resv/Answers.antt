use Rattle.std.proofs.Common.{refl, ap, ◌∙◌}
use Rattle.router_rules.specs.Asking.{ask_of, asked_of, asker_of, taking, Asker as AskerOf}
use Rattle.router_state.specs.State.{facts_of}
use Rattle.router_state.specs.Whole.{state_of}
use Rattle.router_arrivals.proofs.Wholes.{answer_is}
use Rattle.router_arrivals.proofs.taking.take_resv.Goals as goal

pub returns-clause-answer : goal.returns-clause-answer
returns-clause-answer c = λ clock said.
    let t = c.args.tables.now in
    let m = c.args.message.now in
    let p = t.config in
    let f = facts_of clock (state_of t said) in
    let o : AskerOf = asker_of p clock c.args.iface m in
    let done = c.take_or_refuse.new.done in
    answer_is p o done (taking p clock c.args.iface m f) f _ (c.take_or_refuse.ensures.done clock said) c.sort.ensures (c.heard_of-answer.ensures p o)
    (c.note_taken.ensures o refl ∙ ap (λ z. asked_of o (ask_of z done.parts) o.confirm) c.style_of-style.ensures)
