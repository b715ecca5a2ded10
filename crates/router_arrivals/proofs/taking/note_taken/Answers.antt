use Rattle.std.proofs.Common.{sym, ap, ◌∙◌}
use Rattle.router_rules.specs.Asking.{ask_of, asked_of}
use Rattle.router_arrivals.proofs.taking.note_taken.Goals as goal

pub returns-in-Some : goal.returns-in-Some
returns-in-Some c = λ o same. ap (λ w. asked_of o w o.confirm) c.put_taken.ensures

pub returns-in-None : goal.returns-in-None
returns-in-None c = λ o same. let none = same ∙ c.in-None.is in ap (asked_of o c.args.taken.now) none ∙ sym (ap (asked_of o (ask_of c.args.style c.args.parts.now)) none)
