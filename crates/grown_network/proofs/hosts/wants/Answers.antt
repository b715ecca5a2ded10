use Rattle.std.proofs.Common.{◌≡◌, ◌++◌, ap, ◌∙◌, arith}
use Rattle.rsvp_base.specs.declared.style.StyleKind.TheVariants.{Wild, Fixed, Shared}
use Rattle.grown_network.specs.Hosts.{wanted_by, wants_up_to}
use Rattle.grown_network.proofs.HostLists.{session_words, wants_none, wants_pushed, want_words}
use Rattle.grown_network.proofs.hosts.wants.Goals as goal

pub loop-node-init : goal.loop-node-init
loop-node-init c =
    let words = session_words c.args.seed c.new-words.result.state c.next-wild.new.self.state c.next-fixed.new.self.state c.next-shared.new.self.state c.next-wild.result c.next-fixed.result
    c.next-shared.result c.new-words.ensures c.next-wild.ensures.state c.next-wild.ensures.word c.next-fixed.ensures.state c.next-fixed.ensures.word c.next-shared.ensures.state
    c.next-shared.ensures.word in
    record { state = words.1; all = wants_none c.args.seed c.new-all.result.items c.new-all.ensures.items }

pub loop-node-preserved : goal.loop-node-preserved
loop-node-preserved c =
    let seed = c.args.seed in
    let n = c.loop-node.node in
    let own = session_words c.args.seed c.new-words.result.state c.next-wild.new.self.state c.next-fixed.new.self.state c.next-shared.new.self.state c.next-wild.result c.next-fixed.result
    c.next-shared.result c.new-words.ensures c.next-wild.ensures.state c.next-wild.ensures.word c.next-fixed.ensures.state c.next-fixed.ensures.word c.next-shared.ensures.state
    c.next-shared.ensures.word in
    let s1 = c.next.new.self.state in
    let s2 = c.next-in-loop-node.new.self.state in
    let s3 = c.next-in-loop-node-2.new.self.state in
    let drawn = want_words seed n c.loop-node.words.state s1 s2 s3 c.next.result c.next-in-loop-node.result c.next-in-loop-node-2.result c.loop-node.invariant.state c.next.ensures.state
    c.next.ensures.word c.next-in-loop-node.ensures.state c.next-in-loop-node.ensures.word c.next-in-loop-node-2.ensures.state c.next-in-loop-node-2.ensures.word in
    record {
      state = drawn.1;
      all =
          wants_pushed seed n c.next.result c.next-in-loop-node.result c.next-in-loop-node-2.result c.loop-node.all.items c.add_wanted.new.all.items c.add_wanted-in-loop-node.new.all.items
          c.add_wanted-in-loop-node-2.new.all.items c.loop-node.invariant.all drawn.0.wild drawn.0.fixed drawn.0.shared
          (c.in_ok-add_wanted.ensures ∙ ap (λ w. c.loop-node.all.items ++ wanted_by Wild w n c.next.result) own.0.wild)
          (c.in_ok-add_wanted-2.ensures ∙ ap (λ w. c.add_wanted.new.all.items ++ wanted_by Fixed w n c.next-in-loop-node.result) own.0.fixed)
          (c.in_ok-add_wanted-3.ensures ∙ ap (λ w. c.add_wanted-in-loop-node.new.all.items ++ wanted_by Shared w n c.next-in-loop-node-2.result) own.0.shared);
    }

pub returns : goal.returns
returns c = let all : c.loop-node.node ≡ 64 = omega arith in c.loop-node.invariant.all ∙ ap (wants_up_to c.args.seed) all
