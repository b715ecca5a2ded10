use Rattle.std.proofs.Common.{sym, ap, ◌∙◌, cond}
use Rattle.rsvp_base.specs.Sets.{with_key}
use Rattle.router_rounds.proofs.nears.add_lost.Goals as goal

pub add-requires : goal.add-requires
add-requires c = c.requires (sym c.is_of.ensures ∙ c.if-is_of.true)

pub returns-then-is_of : goal.returns-then-is_of
returns-then-is_of c = c.add.ensures ∙ sym (ap (λ b. cond b (with_key c.args.hops.now c.args.lost.now.hop) c.args.hops.now) (sym c.is_of.ensures ∙ c.if-is_of.true))

pub returns-else-is_of : goal.returns-else-is_of
returns-else-is_of c = sym (ap (λ b. cond b (with_key c.args.hops.now c.args.lost.now.hop) c.args.hops.now) (sym c.is_of.ensures ∙ c.if-is_of.false))
