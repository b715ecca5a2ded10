use Rattle.std.proofs.Common.{◌≡◌, [], ◌∷◌, ◌++◌, Ok, sym, ap, subst, ◌∙◌}
use Rattle.message_codec.specs.declared.seen.Seen.{Seen}
use Rattle.message_codec.specs.Said.{with_object}
use Rattle.message_codec.specs.Places.{object_in}
use Rattle.message_codec.proofs.Gathered.{seen_more}
use Rattle.message_codec.proofs.Standing.{stand_more}
use Rattle.message_codec.proofs.Taken.{took}
use Rattle.message_codec.proofs.reading.walk.Goals as goal

pub loop-at-preserved : goal.loop-at-preserved
loop-at-preserved c =
    let far = c.loop-at.invariant.so_far in
    let next = c.step.new.at in
    let read = took _ _ _ next c.in_ok-step.ensures.takes in
    let x = read.0 in
    let here = subst (λ (s : Seen). object_in c.args.kind s c.loop-at.at c.args.bytes.now ≡ Ok (x, next)) far.2 read.1 in
    record {
      inside = c.in_ok-step.ensures.bounds.1;
      so_far = (
        far.0 ++ x ∷ [],
        stand_more c.args.kind c.args.bytes.now [] 8 far.0 c.loop-at.at x next far.1 here,
        read.2 ∙ ap (λ (s : Seen). with_object s x) far.2 ∙ sym (seen_more far.0 x),
      );
    }
