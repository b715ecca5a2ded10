use Rattle.tree_model.specs.Goals.{goal}
use Rattle.settle_resvs.proofs.GoalByIface.{book_at, limits_at}
use Rattle.settle_resvs.proofs.goals.the_goal_by_iface.Goals as goal

pub returns : goal.returns
returns c net l n valid = record { limits = λ st h. limits_at net st (goal net l n) h; book = book_at net valid l n }
