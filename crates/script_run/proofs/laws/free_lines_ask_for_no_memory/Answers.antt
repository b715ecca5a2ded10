use Rattle.script_run.proofs.Free.{free_lines_ask_for_no_memory}
use Rattle.script_run.proofs.laws.free_lines_ask_for_no_memory.Goals as goal

pub returns : goal.returns
returns c = free_lines_ask_for_no_memory
