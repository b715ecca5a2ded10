use Rattle.std.proofs.Common.{◌≡◌, take}
use Rattle.error_sends.proofs.Blockading.{put_all}
use Rattle.error_sends.proofs.walls.set_all.Given as goal

abbrev pub invariant-loop-name : goal.invariant-loop-name
invariant-loop-name l = l.walls ≡ put_all l.session l.wall l.left l.initial.walls (take l.name-index l.list)
