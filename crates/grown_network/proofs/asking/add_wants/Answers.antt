use Rattle.std.proofs.Common.{◌≡◌, List, ◌++◌, sym, subst}
use Rattle.std.specs.Prelude.{OnOk}
use Rattle.rsvp_base.specs.declared.style.StyleKind.TheVariants.{Fixed}
use Rattle.tree_model.specs.declared.locals.LocalWant.{LocalWant}
use Rattle.grown_network.proofs.WantsByStyle.{told}
use Rattle.grown_network.proofs.asking.add_wants.Goals as goal

pub returns-in-Fixed : goal.returns-in-Fixed
returns-in-Fixed c = subst (λ (ws : List LocalWant). OnOk c.add_each.result (c.add_each.new.all.items ≡ c.args.all.now.items ++ ws))
    (sym (told c.args.wanted.now Fixed c.in-Fixed.is)) c.add_each.ensures
