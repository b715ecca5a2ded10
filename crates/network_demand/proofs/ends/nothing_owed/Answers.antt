use Rattle.std.proofs.Common.{◌≡◌, ◌++◌, ◌∷◌, [], ◌∙◌, ◌+◌, ◌-◌, replicate, ap, sym, append_assoc, arith}
use Rattle.std.proofs.lemmas.Grind.{common_steps}
use Rattle.rsvp_base.specs.Table.{empty}
use Rattle.style_rules.specs.Lines.{BookTable}
use Rattle.network_demand.proofs.Pools.{rest_more}
use Rattle.network_demand.proofs.ends.nothing_owed.Goals as goal

pub loop-end-preserved : goal.loop-end-preserved
loop-end-preserved c =
    let nothing : BookTable = empty in
    let more = rest_more nothing c.args.ends c.loop-end._end (omega arith) in
    let pushed : c.push.new.self.items ≡ c.loop-end.books.items ++ c.new.result ∷ [] = grind (arith, common_steps) in
    ap (λ xs. xs ++ replicate (c.args.ends - (c.loop-end._end + 1)) nothing) (pushed ∙ ap (λ x. c.loop-end.books.items ++ x ∷ []) c.new.ensures)
    ∙ append_assoc c.loop-end.books.items (nothing ∷ []) (replicate (c.args.ends - (c.loop-end._end + 1)) nothing)
    ∙ ap (λ xs. c.loop-end.books.items ++ xs) (sym more) ∙ c.loop-end.invariant
