use Rattle.network_replay.proofs.Reports.{says_whole}
use Rattle.network_replay.proofs.report.say_line.Goals as goal

pub returns : goal.returns
returns c = says_whole c.put_whole.result c.args.out.now.items c.put_whole.new.out.items c.as_slice.result.now c.args.line.now.items c.as_slice.ensures.value c.put_whole.ensures.ok
    c.put_whole.ensures.err
