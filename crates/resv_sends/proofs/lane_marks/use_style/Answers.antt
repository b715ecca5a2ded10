use Rattle.std.proofs.Common.{◌++◌, sym, ap, ◌∙◌, take}
use Rattle.std.proofs.lemmas.List.{append-nil, append_assoc, take_all}
use Rattle.router_state.specs.Whole.{state_of}
use Rattle.resv_sends.specs.Wishes.{lanes_in, used_seen}
use Rattle.resv_sends.proofs.Used.{lanes_more}
use Rattle.resv_sends.proofs.lane_marks.use_style.Goals as goal

pub loop-i-init : goal.loop-i-init
loop-i-init c = record { used = λ clock any es e. e ∙ ap (used_seen clock (state_of c.args.tables.now any) c.args.session c.args.said.now) (sym (append-nil es)); wanted = c.requires }

pub use_lane-requires : goal.use_lane-requires
use_lane-requires c = c.loop-i.invariant.wanted

pub loop-i-preserved : goal.loop-i-preserved
loop-i-preserved c =
    let list = c.as_slice-list.result.now in
    let st = c.args.style in
    record {
      used = λ clock any es e.
          c.use_lane.ensures.used clock any (es ++ lanes_in st (take c.loop-i.i list)) (c.loop-i.invariant.used clock any es e)
          ∙ ap (used_seen clock (state_of c.args.tables.now any) c.args.session c.args.said.now)
          (append_assoc es (lanes_in st (take c.loop-i.i list)) _ ∙ ap (λ ds. es ++ ds) (sym (lanes_more st list c.loop-i.i _ c.loop-i-test.true)));
      wanted = c.use_lane.ensures.wanted;
    }

pub returns-clause-used : goal.returns-clause-used
returns-clause-used c = λ clock any es e.
    c.loop-i.invariant.used clock any es e
    ∙ ap (λ hops. used_seen clock (state_of c.args.tables.now any) c.args.session c.args.said.now (es ++ lanes_in c.args.style hops))
    (take_all c.loop-i.i c.as_slice-list.result.now c.loop-i-test.false ∙ c.as_slice-list.ensures.hops)

pub returns-clause-wanted : goal.returns-clause-wanted
returns-clause-wanted c = c.loop-i.invariant.wanted
