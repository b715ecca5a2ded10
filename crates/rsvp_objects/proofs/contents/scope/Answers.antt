use Rattle.std.proofs.Common.{◌≡◌, ◌<◌, ◌∷◌, refl, sym, ap, subst, ◌∙◌, arith, drop}
use Rattle.rsvp_base.specs.Table.{size}
use Rattle.rsvp_base.specs.Sets.{with_key, with_keys, listed}
use Rattle.rsvp_base.specs.Orders.{senders}
use Rattle.rsvp_base.specs.declared.addr.Addr.{Addr}
use Rattle.rsvp_base.proofs.SetLaws.{size-with_rows}
use Rattle.rsvp_objects.specs.Fields.{word_at}
use Rattle.rsvp_objects.specs.Contents.{source, sources_in, scope_in}
use Rattle.rsvp_objects.proofs.Sources.{sources_cons}
use Rattle.rsvp_objects.proofs.contents.scope.Goals as goal

pub returns-then-is_err-clause-none : goal.returns-then-is_err-clause-none
returns-then-is_err-clause-none c =
    let rest = c.loop-rest.rest.now in
    let next = source (word_at 0 rest) in
    let more = sources_in (drop 4 rest) in
    let whole : with_keys c.loop-rest.senders (next ∷ more) ≡ scope_in c.args.body.now = ap (with_keys c.loop-rest.senders) (sym (sources_cons rest c.loop-rest-test.true)) ∙ c.loop-rest.invariant in
    let said : 16 < size (with_key c.loop-rest.senders (record { addr = c.addr_at.result; port = 0 })) = c.insert.ensures.full.0 (sym c.is_err.ensures.value ∙ c.if-is_err.true) in
    let big : 16 < size (with_key c.loop-rest.senders next) = subst (λ (a : Addr). 16 < size (with_key c.loop-rest.senders (record { addr = a; port = 0 }))) c.addr_at.ensures said in
    let grows = size-with_rows senders (listed more) (with_key c.loop-rest.senders next) in
    (λ _. omega (arith, big, grows, ap size whole), λ _. refl)
