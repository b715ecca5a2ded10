use Rattle.std.proofs.Common.{Some, None, cond, ap, sym, ◌∙◌}
use Rattle.rsvp_base.specs.Styles.{name_of}
use Rattle.rsvp_base.specs.declared.session.Sender.{Sender}
use Rattle.router_aging.proofs.lost_names.lost_name.Goals as goal

pub returns-then-has_name : goal.returns-then-has_name
returns-then-has_name c = λ clock n own paths.
    sym (ap (λ b. cond b None (Some (c.args.dead.now.session, name_of c.args.style c.args.dead.now.sender))) (sym (c.has_name.ensures clock n own paths) ∙ c.if-has_name.true))

pub returns : goal.returns
returns c = λ clock n own paths.
    ap (λ (x : Sender). Some (c.args.dead.now.session, x)) c.name_of.ensures
    ∙ sym (ap (λ b. cond b None (Some (c.args.dead.now.session, name_of c.args.style c.args.dead.now.sender))) (sym (c.has_name.ensures clock n own paths) ∙ c.if-has_name.false))
