use Rattle.std.proofs.Common.{◌≡◌, ◌∙◌, ◌<◌, ◌∷◌, [], List, ℕ, length, sym, ap, subst, arith, rules}
use Rattle.byte_streams.specs.Streams.{Held}
use Rattle.byte_streams.proofs.Fronts.{last_line, nothing_behind}
use Rattle.byte_streams.proofs.reader.LineReader.last.Goals as goal

pub returns-clause-line : goal.returns-clause-line
returns-clause-line c = λ e.
    let view : c.behind-rest.result.now ≡ c.args.self.now.bytes = c.behind-rest.ensures.value ∙ ap (λ (h : Held). h.bytes) c.self.view_is in
    let some : 0 < length c.behind-rest.result.now = search rules in
    let some' = subst (λ (h : List ℕ). 0 < length h) view some in (
      last_line c.args.self.now.bytes c.requires.part some' ∙ ap (λ l. l ∷ []) (sym view ∙ sym c.put.ensures.items),
      nothing_behind c.self.inside.kept.items c.len-self-inside.result (omega (arith, c.len-self-inside.ensures, c.self.inside.kept.ok.0)),
    )
