use Rattle.std.proofs.Common.{fold, sym, ap}
use Rattle.path_sends.proofs.Renewed.{is_no_news}
use Rattle.path_sends.proofs.renewal.tell_renewal.Goals as goal

pub returns-in_default : goal.returns-in_default
returns-in_default g c = λ old now news.
    ap (fold g.O.Outbox.posted c.args.out.now) (sym (is_no_news c.args.renewal.now c.in_default.is old now news c.args.config.now (c.args.session, c.args.sender)))
