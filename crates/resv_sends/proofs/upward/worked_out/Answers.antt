use Rattle.std.proofs.Common.{refl}
use Rattle.router_state.specs.Whole.{state_of}
use Rattle.resv_sends.proofs.Named.{own_is}
use Rattle.resv_sends.proofs.upward.worked_out.Goals as goal

pub returns : goal.returns
returns c = λ clock said.
    c.merged.ensures clock said (c.upstream-up.ensures clock (state_of c.args.tables.now said) refl refl refl)
    (own_is clock (state_of c.args.tables.now said) c.args.session c.args.style c.args.hop c.names_via-names.result c.own-own.result (c.names_via-names.ensures clock said) c.own-own.ensures)
