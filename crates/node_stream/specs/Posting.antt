-- The outbox of a stream: the frames of what is posted, as many as there is room for.
use Rattle.std.specs.Prelude.{ℕ, ◌+◌, nat_lt, List, [], ◌++◌, cond}
use Rattle.laws_bounds.specs.CountLaws.{most_sends}
use Rattle.router_rules.specs.Inputs.{Send}
use Rattle.node_stream.specs.Serving.{frame_with}

-- the bytes of the answers, and how many messages were posted among them
pub record Posted : Type 0 where
  pub bytes : List ℕ
  pub count : ℕ

abbrev pub nothing_posted : Posted
nothing_posted = record { bytes = []; count = 0 }

-- with a message more, where there is room for it
abbrev pub with_post : Posted → Send → Posted
with_post box s = cond (nat_lt box.count most_sends) (record { bytes = box.bytes ++ frame_with s; count = box.count + 1 }) box
