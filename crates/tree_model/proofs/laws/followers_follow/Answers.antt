use Rattle.tree_model.proofs.Following.{followers_follow}
use Rattle.tree_model.proofs.laws.followers_follow.Goals as goal

pub returns : goal.returns
returns c = followers_follow
