use Rattle.std.proofs.Common.{◌∙◌}
use Rattle.resv_state.proofs.Walked.{hop_near, hop_full, hop_over}
use Rattle.resv_state.proofs.walks.fits_hop.Goals as goal

pub returns-then-count-lt-NEXT_HOPS : goal.returns-then-count-lt-NEXT_HOPS
returns-then-count-lt-NEXT_HOPS c = hop_near c.args.hop c.args.session c.args.table.now.facts c.count_hops-count.result c.requires.rising c.count_hops-count.ensures c.if-count-lt-NEXT_HOPS.true

pub returns-then-count-eq-NEXT_HOPS : goal.returns-then-count-eq-NEXT_HOPS
returns-then-count-eq-NEXT_HOPS c = c.has_hop.ensures
    ∙ hop_full c.args.hop c.args.session c.args.table.now.facts c.count_hops-count.result c.requires.rising c.count_hops-count.ensures c.if-count-eq-NEXT_HOPS.true

pub returns-else-count-eq-NEXT_HOPS : goal.returns-else-count-eq-NEXT_HOPS
returns-else-count-eq-NEXT_HOPS c =
    hop_over c.args.hop c.args.session c.args.table.now.facts c.count_hops-count.result c.requires.rising c.count_hops-count.ensures c.if-count-lt-NEXT_HOPS.false c.if-count-eq-NEXT_HOPS.false
