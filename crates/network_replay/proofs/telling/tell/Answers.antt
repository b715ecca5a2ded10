use Rattle.std.proofs.Common.{◌≡◌, ◌∙◌, ◌++◌, [], List, ℕ, Some, ap, refl, subst}
use Rattle.std.specs.Prelude.{cond, slice_get, OnOk}
use Rattle.std.proofs.lemmas.Option.{slice_get_read}
use Rattle.network_replay.specs.Due.{told}
use Rattle.network_replay.specs.Telling.{arrival_kind, told_line}
use Rattle.network_replay.proofs.Tellings.{told_at}
use Rattle.network_replay.proofs.telling.tell.Goals as goal

pub returns-clause-ok : goal.returns-clause-ok
returns-clause-ok c = λ a read.
    let out = c.args.out.now.items in
    let line = c.as_slice.result.now in
    let name = c.in-Some.name.now in
    let h = c.in-Some-heard.heard in
    let there : slice_get c.args.names.now c.args.end ≡ Some name = slice_get_read c.args.names.now _ c.args.end name refl c.in-Some.ensures.lookup.3.0 c.in-Some.ensures.lookup.1 in
    let text : line ≡ told_line name (arrival_kind a) h =
    c.as_slice.ensures.value ∙ c.in_ok-put_delivery.ensures ∙ ap (λ (xs : List ℕ). xs ++ told_line c.bytes.result.now c.kind_of.result h) c.clear.ensures.items
    ∙ ap (λ (n : List ℕ). told_line n c.kind_of.result h) c.bytes.ensures.value
    ∙ ap (λ k. told_line name k h) (c.kind_of.ensures a read) in
    let is : line ≡ cond c.args.trace (told (slice_get c.args.names.now c.args.end) a c.args.heard) [] = text
    ∙ told_at c.args.trace (slice_get c.args.names.now c.args.end) a c.args.heard name h c.if-not-trace.false there c.in-Some-heard.is in
    subst (λ (t : List ℕ). OnOk c.put_whole.result (c.put_whole.new.out.items ≡ out ++ t)) is c.put_whole.ensures.ok
