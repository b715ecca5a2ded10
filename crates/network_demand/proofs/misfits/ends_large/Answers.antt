use Rattle.std.proofs.Common.{◌<◌, length, arith}
use Rattle.std.proofs.lemmas.Option.{slice_get-get_or}
use Rattle.network_demand.proofs.BookLaws.{read_at}
use Rattle.tree_model.specs.declared.hops.End.{End}
use Rattle.network_demand.specs.Misfits.{is_large}
use Rattle.network_demand.proofs.CountedEnds.{all_ends, one_end_more}
use Rattle.network_demand.proofs.misfits.ends_large.Goals as goal

pub loop-end-preserved : goal.loop-end-preserved
loop-end-preserved c =
    let ends = c.args.ends.now in
    let books = c.args.books.now in
    let end = c.loop-end.end in
    let there : end < length ends = c.loop-end-test.true in
    let d : End = record { node = 0; iface = record { addr = record { 0 = 0 }; capacity = 0; mtu = 0; latency = 0 } } in
    let book = read_at books end c.index-books-end.result (omega (arith, there, c.requires)) c.index-books-end.is in
    one_end_more is_large ends books end _ _ c.is_large.result _ _ (slice_get-get_or ends end d there) book c.is_large.ensures c.loop-end.invariant c.in_ok-keep_if.ensures

pub returns : goal.returns
returns c = all_ends is_large c.args.ends.now c.args.books.now c.loop-end.end _ (omega (arith, c.loop-end-test.false, c.loop-end.auto.end-end)) c.loop-end.invariant
