use Rattle.std.proofs.Common.{◌≡◌, ◌∙◌, ◌++◌, List, length, take, ap, sym, subst, arith}
use Rattle.std.proofs.Math.Seq.{take-length}
use Rattle.rsvp_base.specs.Members.{In}
use Rattle.style_rules.specs.Lines.{Line}
use Rattle.tree_model.specs.Goals.{addr_of}
use Rattle.network_demand.specs.declared.hop_want.HopWant.{HopWant}
use Rattle.network_demand.specs.Books.{HaveLines, wants_lines}
use Rattle.network_demand.proofs.BookLaws.{wants_more, only_one}
use Rattle.network_demand.proofs.Inside.{index_in}
use Rattle.network_demand.proofs.charging.charge_wants.Goals as goal

pub charge_want-requires-clause-inside : goal.charge_want-requires-clause-inside
charge_want-requires-clause-inside g c =
    let w : HopWant = c.want-item.result in
    let there : In w c.args.wants.now = subst (λ (x : HopWant). In x c.args.wants.now) (sym c.want-item.is) (index_in c.args.wants.now c.loop-want.want-index w c.loop-want-test.true) in
    λ v i.
    let in_all = only_one w v c.args.wants.now there i in
    let lt = c.requires.inside v in_all in
    let size = c.loop-want.invariant.size in
    omega arith

pub charge_want-requires-clause-room : goal.charge_want-requires-clause-room
charge_want-requires-clause-room g c =
    let w : HopWant = c.want-item.result in
    let there : In w c.args.wants.now = subst (λ (x : HopWant). In x c.args.wants.now) (sym c.want-item.is) (index_in c.args.wants.now c.loop-want.want-index w c.loop-want-test.true) in
    let room = c.requires.room in
    record {
      all = room.all;
      few = room.few;
      entries = c.loop-want.invariant.names room.all room.entries room.parts;
      parts = λ v e i j. room.parts v e (only_one w v c.args.wants.now there i) j;
      named = λ v e i j. room.named v e (only_one w v c.args.wants.now there i) j;
    }

pub loop-want-preserved : goal.loop-want-preserved
loop-want-preserved g c =
    let w : HopWant = c.want-item.result in
    let i = c.loop-want.want-index in
    let ws = c.args.wants.now in
    let there : In w ws = subst (λ (x : HopWant). In x ws) (sym c.want-item.is) (index_in ws i w c.loop-want-test.true) in
    record {
      size = c.in_ok-charge_want.ensures.size ∙ c.loop-want.invariant.size;
      lines = λ fed net have.
          subst (λ (ls : List Line). HaveLines ls c.charge_want.new.books.items) (sym (wants_more g.S.Style.kind_is c.args.session net ws i w w fed c.loop-want-test.true c.want-item.is))
          (c.in_ok-charge_want.ensures.lines (fed ++ wants_lines g.S.Style.kind_is c.args.session net (take i ws)) (addr_of net w.hop.to) (c.loop-want.invariant.lines fed net have));
      names = λ all only within. c.in_ok-charge_want.ensures.names all (c.loop-want.invariant.names all only within) (λ e j. within w e there j);
    }

pub returns-clause-lines : goal.returns-clause-lines
returns-clause-lines g c =
    let ws = c.args.wants.now in
    let i = c.loop-want.want-index in
    let all : take i ws ≡ ws = ap (λ k. take k ws) (let e : i ≡ length ws = omega arith in e) ∙ take-length ws in
    λ fed net have. subst (λ (xs : List HopWant). HaveLines (fed ++ wants_lines g.S.Style.kind_is c.args.session net xs) c.loop-want.books.items) all (c.loop-want.invariant.lines fed net have)
