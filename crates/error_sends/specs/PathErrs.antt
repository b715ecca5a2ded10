-- What a PathErr does, as the tables are seen at a clock.
use Rattle.std.specs.Prelude.{ℕ, List}
use Rattle.rsvp_messages.specs.declared.message.PathErrMsg.{PathErrMsg}
use Rattle.router_rules.specs.Errors.{act_path_err}
use Rattle.router_rules.specs.Inputs.{Send}
use Rattle.router_rules.specs.Sends.{error_sends}
use Rattle.router_rules.specs.declared.answers.Heard.{Heard}
use Rattle.laws_sends.specs.State.{State, facts_of}

unfoldable pub path_err_heard : ℕ → State → ℕ → PathErrMsg → Heard
path_err_heard c n e m = (act_path_err n.place e m (facts_of c n)).heard

unfoldable pub path_err_sent : ℕ → State → ℕ → PathErrMsg → List Send
path_err_sent c n e m = error_sends (act_path_err n.place e m (facts_of c n)).errors
