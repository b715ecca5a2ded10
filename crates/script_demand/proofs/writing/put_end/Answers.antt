use Rattle.std.proofs.Common.{refl}
use Rattle.std.proofs.lemmas.Option.{slice_get_read}
use Rattle.script_demand.proofs.Owed.{owes_written}
use Rattle.script_demand.proofs.writing.put_end.Goals as goal

pub returns : goal.returns
returns c =
    let name = c.in-Some.name.now in
    let there = slice_get_read c.args.names.now _ c.args.end name refl c.in-Some.ensures.lookup.3.0 c.in-Some.ensures.lookup.1 in
    owes_written c.put_entries.result c.args.out.now.items c.put_head.new.out.items c.put_entries.new.out.items name c.bytes.result.now c.args.capacity c.sum_of_rates.result c.args.owes.now
    c.as_slice-entries.result.now _ there c.bytes.ensures.value c.as_slice-entries.ensures
    c.sum_of_rates.ensures c.in_ok-put_head.ensures c.put_entries.ensures
