use Rattle.std.proofs.Common.{◌≡◌, sym, ap, ◌∙◌, subst}
use Rattle.rsvp_objects.specs.Fragment.{IsFragments, marked}
use Rattle.rsvp_objects.proofs.Lists.{whole_marked, marked_fragments}
use Rattle.rsvp_objects.proofs.fragments.Fragments.broken.Goals as goal

pub of-requires : goal.of-requires
of-requires c =
    let all = c.words-all.result.now in
    let whole : c.loop-word.words.items ≡ marked 0 all = whole_marked c.loop-word.words.items c.loop-word.due c.loop-word.word-index all c.loop-word-test.false c.loop-word.invariant.text in
    subst IsFragments (sym (whole ∙ ap (marked 0) c.words-all.ensures.words)) (marked_fragments c.args.self.now c.words-all.ensures.fragments)
