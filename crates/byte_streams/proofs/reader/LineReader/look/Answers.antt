use Rattle.std.proofs.Common.{◌≡◌, ◌∙◌, ◌+◌, ◌++◌, List, ℕ, None, Some, length, refl, sym, ap, subst, arith, rules}
use Rattle.std.specs.Io.KnownBytes.{prepend_known}
use Rattle.byte_streams.proofs.Counting.{counted_more}
use Rattle.byte_streams.proofs.Cutting.{cut_of, last_cut, moved_more, one_more_ends, one_too_many}
use Rattle.byte_streams.specs.Streams.{Cuts, HasFeed, HasNoFeed, Held, IsCut}
use Rattle.byte_streams.specs.declared.answer.NextLine.TheVariants.{Long}
use Rattle.byte_streams.proofs.Keeping.{has_long, keeps_more, no_feed, nothing_more}
use Rattle.byte_streams.proofs.reader.LineReader.look.Goals as goal

pub returns-in-Some-clause-counted : goal.returns-in-Some-clause-counted
returns-in-Some-clause-counted g c =
    let r = c.in-Ok.ensures.read in
    counted_more (g.S.Source.left c.args.source.now) (g.S.Source.left c.loop-self.source)
    (g.S.Source.left c.take_more.new.source) c.args.self.now.taken c.loop-self.self.taken c.take_more.new.self.taken r.0
    c.loop-self.invariant.counted r.1 (r.4 ∙ ap (λ n. n + length r.0) c.front.ensures.taken)

pub loop-self-preserved : goal.loop-self-preserved
loop-self-preserved g c =
    let r = c.in-Ok.ensures.read in
    let part = c.front.ensures.part c.in-Part.is in
    let going : c.take_more.new.self.ended ≡ None = search rules in
    record {
      kept = keeps_more (prepend_known c.args.self.now.bytes (g.S.Source.left c.args.source.now)) (g.S.Source.left c.loop-self.source)
          (g.S.Source.left c.take_more.new.source) c.loop-self.self.bytes c.take_more.new.self.bytes r.0
          c.loop-self.invariant.kept r.1 (r.2 ∙ ap (λ (l : List ℕ). l ++ r.0) part.0);
      later = omega (arith, c.loop-self.invariant.later, c.take_more.ensures.later);
      no_fault = c.in-Ok.ensures.no_fault ∙ c.loop-self.invariant.no_fault;
      counted = counted_more (g.S.Source.left c.args.source.now) (g.S.Source.left c.loop-self.source)
          (g.S.Source.left c.take_more.new.source) c.args.self.now.taken c.loop-self.self.taken c.take_more.new.self.taken r.0
          c.loop-self.invariant.counted r.1 (r.4 ∙ ap (λ n. n + length r.0) c.front.ensures.taken);
      moved = moved_more (g.S.Source.left c.args.source.now) (g.S.Source.left c.loop-self.source)
          (g.S.Source.left c.take_more.new.source) c.args.self.now.taken c.loop-self.self.taken c.take_more.new.self.taken
          c.args.self.now.bytes c.loop-self.self.bytes c.take_more.new.self.bytes r.0 c.loop-self.invariant.moved r.1 (r.4 ∙ ap (λ n. n + length r.0) c.front.ensures.taken)
          (r.2 ∙ ap (λ (l : List ℕ). l ++ r.0) part.0);
      numbered = c.take_more.ensures.number ∙ c.front.ensures.same_number c.in-Part.is ∙ c.loop-self.invariant.numbered;
      going = going;
      asked = λ h. absurd (no_feed c.loop-self.self.bytes (subst HasFeed (sym (c.loop-self.invariant.asked h).0) h) part.1);
    }

pub returns-in-Long-clause-long : goal.returns-in-Long-clause-long
returns-in-Long-clause-long g c = λ e.
    has_long (prepend_known c.args.self.now.bytes (g.S.Source.left c.args.source.now)) (g.S.Source.left c.loop-self.source) c.loop-self.self.bytes c.loop-self.invariant.kept
    (c.front.ensures.long c.in-Long.is).1

pub returns-in-Long-clause-cut : goal.returns-in-Long-clause-cut
returns-in-Long-clause-cut g c =
    let a = g.S.Source.left c.args.source.now in
    let b = g.S.Source.left c.loop-self.source in
    let now = c.end_with.new.self in
    let long = c.front.ensures.long c.in-Long.is in
    subst (λ r. Cuts a b c.args.self.now r now) (sym c.end_with.ensures.same)
    (cut_of a b c.args.self.now now Long c.loop-self.self.taken c.loop-self.self.bytes c.loop-self.invariant.moved (ap (λ (h : Held). h.taken) c.end_with.ensures.ended ∙ c.front.ensures.taken)
    (ap (λ (h : Held). h.bytes) c.end_with.ensures.ended ∙ long.0, long.1))

pub returns-in-Ok-eq0-clause-counted : goal.returns-in-Ok-eq0-clause-counted
returns-in-Ok-eq0-clause-counted g c =
    let r = c.in-Ok-eq0.ensures.read in
    counted_more (g.S.Source.left c.args.source.now) (g.S.Source.left c.loop-self.source)
    (g.S.Source.left c.take_more.new.source) c.args.self.now.taken c.loop-self.self.taken c.last.new.self.taken r.0 c.loop-self.invariant.counted r.1
    (c.last.ensures.taken ∙ r.4 ∙ ap (λ n. n + length r.0) c.front.ensures.taken)

pub returns-in-Ok-eq0-clause-cut : goal.returns-in-Ok-eq0-clause-cut
returns-in-Ok-eq0-clause-cut g c =
    let r = c.in-Ok-eq0.ensures.read in
    let part = c.front.ensures.part c.in-Part.is in
    let all = c.take_more.new.self.bytes in
    let moved = moved_more (g.S.Source.left c.args.source.now) (g.S.Source.left c.loop-self.source)
    (g.S.Source.left c.take_more.new.source) c.args.self.now.taken c.loop-self.self.taken c.take_more.new.self.taken c.args.self.now.bytes c.loop-self.self.bytes all
    r.0 c.loop-self.invariant.moved r.1 (r.4 ∙ ap (λ n. n + length r.0) c.front.ensures.taken) (r.2 ∙ ap (λ (l : List ℕ). l ++ r.0) part.0) in
    let zero : 0 ≡ length r.0 = search rules in
    let none : HasNoFeed all = subst HasNoFeed (sym (nothing_more c.front.new.self.bytes all r.0 r.2 zero ∙ part.0)) part.1 in
    cut_of (g.S.Source.left c.args.source.now) (g.S.Source.left c.take_more.new.source) c.args.self.now c.last.new.self c.last.result c.take_more.new.self.taken all moved c.last.ensures.taken
    (last_cut all c.last.new.self c.last.result c.last.ensures.others c.last.ensures.whole (λ e. (c.last.ensures.line e).1)
    (λ e. (let l = c.last.ensures.end e in (l.1, l.2))) c.last.ensures.ended none)

pub returns-in-Some-clause-cut : goal.returns-in-Some-clause-cut
returns-in-Some-clause-cut g c =
    let r = c.in-Ok.ensures.read in
    let part = c.front.ensures.part c.in-Part.is in
    let now = c.take_more.new.self in
    let moved = moved_more (g.S.Source.left c.args.source.now) (g.S.Source.left c.loop-self.source)
    (g.S.Source.left c.take_more.new.source) c.args.self.now.taken c.loop-self.self.taken now.taken c.args.self.now.bytes c.loop-self.self.bytes now.bytes
    r.0 c.loop-self.invariant.moved r.1 (r.4 ∙ ap (λ n. n + length r.0) c.front.ensures.taken) (r.2 ∙ ap (λ (l : List ℕ). l ++ r.0) part.0) in
    let some : now.ended ≡ Some c.in-Some.answer = search rules in
    let one = one_more_ends now c.in-Some.answer c.in-Ok.field-0 some c.in-Ok.ensures.many in
    let none : HasNoFeed c.front.new.self.bytes = subst HasNoFeed (sym part.0) part.1 in
    cut_of (g.S.Source.left c.args.source.now) (g.S.Source.left c.take_more.new.source) c.args.self.now now c.in-Some.answer now.taken now.bytes moved refl
    (subst (λ a. IsCut a now.bytes now) one.0 (one_too_many now.bytes c.front.new.self.bytes r.0 c.in-Ok.field-0 now one.1 r.3 none r.2 refl))
