use Rattle.std.proofs.Common.{true, ◌≡◌, ◌∙◌, ◌++◌, ℕ, List, Option, Bool, ap, ap₂, subst, take, length}
use Rattle.std.specs.Prelude.{map as each, nat_lt, ◌||◌, is_err}
use Rattle.message_codec.specs.Encoding.{encoding}
use Rattle.network_flight.specs.Links.{goes_to}
use Rattle.tree_model.specs.Networks.{end_at}
use Rattle.network_flight.specs.Parcels.{Parcel, parcel}
use Rattle.network_replay.specs.Posting.{Post, put_behind}
use Rattle.network_replay.proofs.Behind.{some_inside, told}
use Rattle.network_replay.proofs.mail.Mail.send.Goals as goal

pub put_copies-put-requires : goal.put_copies-put-requires
put_copies-put-requires c = some_inside c.end_at-from.result _ c.end_at-from.ensures.inside

pub returns : goal.returns
returns c =
    let i = c.self.inside in
    let f = parcel c.args.dst (encoding c.args.message.now) in
    let xs : Option ℕ → List Parcel = λ o. each f (goes_to i.wires o c.args.dst) in
    let from : c.end_at-from.result ≡ end_at i.wires.ends i.from c.args.iface = c.end_at-from.ensures.end in
    let flights : c.put_copies-put.new.flight ≡ take 8192 (i.flight ++ xs (end_at i.wires.ends i.from c.args.iface)) = c.put_copies-put.ensures.put ∙ ap (λ o. take 8192 (i.flight ++ xs o)) from in
    let over : c.is_err-over.result ≡ nat_lt 8192 (length (i.flight ++ xs (end_at i.wires.ends i.from c.args.iface))) =
    c.is_err-over.ensures.value ∙ told (is_err c.put_copies-put.result) (length (i.flight ++ xs c.end_at-from.result)) c.put_copies-put.ensures.full
    ∙ ap (λ o. nat_lt 8192 (length (i.flight ++ xs o))) from in
    let fulls = c.either-self-inside.ensures ∙ ap (λ b. i.full || b) over in
    let before : Post = record { net = i.wires; from = i.from; flight = i.flight; full = i.full; in_range = true } in
    subst (λ (m : Post). (record { net = i.wires; from = i.from; flight = c.put_copies-put.new.flight; full = c.either-self-inside.result; in_range = true })
    ≡ put_behind (each f (goes_to m.net (end_at m.net.ends m.from c.args.iface) c.args.dst)) m) c.self.view_is
    (ap₂ (λ (g : List Parcel) (b : Bool). record before { flight = g; full = b }) flights fulls)
