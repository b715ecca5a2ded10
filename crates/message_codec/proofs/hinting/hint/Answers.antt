use Rattle.std.proofs.Common.{[], Result, refl, sym, ap, ◌∙◌}
use Rattle.rsvp_objects.specs.declared.object.Object.{Object}
use Rattle.rsvp_objects.specs.declared.obj_err.ObjErr.{ObjErr}
use Rattle.rsvp_messages.specs.declared.fault.Hint.{Hint}
use Rattle.message_codec.specs.Hints.{first_said, with_next, readable}
use Rattle.message_codec.proofs.Hinted.{said_at, hint_more, follow_more}
use Rattle.message_codec.proofs.hinting.hint.Goals as goal

pub loop-at-init : goal.loop-at-init
unfolding first_said
loop-at-init c = record { inside = c.requires.long; so_far = ([], refl, c.no_hint-hint.ensures) }

pub loop-at-preserved : goal.loop-at-preserved
loop-at-preserved c =
    let far = c.loop-at.invariant.so_far in
    let h = c.in-Ok.head in
    let y = said_at c.args.bytes.now c.loop-at.at h in
    record {
      inside = c.in-Ok.ensures.bounds.1;
      so_far = (
        _,
        follow_more c.args.bytes.now 8 far.0 c.loop-at.at h far.1 (sym c.in-Ok.ensures.is),
        c.with_next-hint.ensures ∙ ap (λ (r : Result Object ObjErr). with_next c.loop-at.hint (readable r)) c.object_with-found.ensures ∙ ap (λ (t : Hint). with_next t y) far.2
            ∙ sym (hint_more far.0 y),
      );
    }
