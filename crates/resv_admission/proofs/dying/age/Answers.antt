use Rattle.resv_admission.proofs.Deaths.{ages}
use Rattle.resv_admission.proofs.dying.age.Goals as goal

pub returns-clause-book : goal.returns-clause-book
returns-clause-book g c b d f es is booked =
    ages g.S.Style.kind_is c.args.table.now.facts c.advance.new.self.facts c.advance.new.self.dead c.args.ms c.advance.ensures.facts c.advance.ensures.dead b d f es is booked
