use Rattle.std.proofs.Common.{◌≡◌, ◌+◌, ◌*◌, ◌++◌, ◌∷◌, [], take, length}
use Rattle.std.specs.List.{flat_map}
use Rattle.rsvp_base.specs.Table.{keys}
use Rattle.rsvp_objects.specs.Fields.{half}
use Rattle.rsvp_objects.specs.Contents.{source_bytes}
use Rattle.rsvp_objects.proofs.put.put_scope.Given as goal

abbrev pub invariant-loop-source : goal.invariant-loop-source
invariant-loop-source l = record {
  text : l.packet ≡ l.fn.packet ++ ((half (4 + 4 * length (keys l.senders)) ++ 7 ∷ 1 ∷ []) ++ flat_map source_bytes (take l.source-index (keys l.senders)));
  room : length l.packet ≡ length l.fn.packet + 4 + 4 * l.source-index;
}
