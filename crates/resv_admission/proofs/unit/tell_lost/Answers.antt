use Rattle.std.proofs.Common.{◌++◌, ◌∷◌, [], map, sym, ap, ◌∙◌}
use Rattle.router_rules.specs.Asking.{losses}
use Rattle.resv_admission.specs.Units.{blamed, refusal_of}
use Rattle.resv_admission.specs.declared.lost.Lost.{Lost}
use Rattle.resv_admission.specs.declared.refusals.Refusal.{Refusal}
use Rattle.resv_admission.proofs.Steps.{told_none, told_one}
use Rattle.resv_admission.proofs.unit.tell_lost.Goals as goal

pub returns-in-Nobody-clause-told : goal.returns-in-Nobody-clause-told
returns-in-Nobody-clause-told c p o = told_none p o c.args.errors.now ∙ ap (λ (l : Lost). map (refusal_of p o) c.args.errors.now ++ losses p o c.args.flow (blamed l)) (sym c.in-Nobody.is)

pub returns-in-Everyone-clause-told : goal.returns-in-Everyone-clause-told
returns-in-Everyone-clause-told c p o =
    told_one p o c.args.errors.now c.push.new.self c.no_sender.result c.push.ensures ∙ ap (λ (r : Refusal). map (refusal_of p o) c.args.errors.now ++ refusal_of p o r ∷ []) c.no_sender.ensures
    ∙ ap (λ (l : Lost). map (refusal_of p o) c.args.errors.now ++ losses p o c.args.flow (blamed l)) (sym c.in-Everyone.is)

pub returns-in-These-clause-told : goal.returns-in-These-clause-told
returns-in-These-clause-told c p o =
    told_one p o c.args.errors.now c.push-in-These.new.self c.no_sender-in-These.result c.push-in-These.ensures
    ∙ ap (λ (r : Refusal). map (refusal_of p o) c.args.errors.now ++ refusal_of p o r ∷ []) c.no_sender-in-These.ensures
    ∙ ap (λ (l : Lost). map (refusal_of p o) c.args.errors.now ++ losses p o c.args.flow (blamed l)) (sym c.in-These.is)
