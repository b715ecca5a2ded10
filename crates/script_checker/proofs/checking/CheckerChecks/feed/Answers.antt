use Rattle.script_rules.specs.Said.{draft_of}
use Rattle.script_checker.proofs.FedLines.{skipped}
use Rattle.script_checker.proofs.checking.CheckerChecks.feed.Goals as goal

pub returns-then-is_skipped : goal.returns-then-is_skipped
returns-then-is_skipped c = skipped (draft_of c.args.self.now.state) c.args.line.now c.requires (c.is_skipped.ensures c.if-is_skipped.true)
