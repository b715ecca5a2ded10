use Rattle.std.proofs.Common.{true, ◌≡◌, ◌∙◌, ◌∷◌, [], List, Bool, ap, ap₂, subst}
use Rattle.std.specs.Prelude.{◌||◌}
use Rattle.network_flight.specs.Parcels.{Parcel, parcel}
use Rattle.network_replay.specs.Posting.{Post, put_behind}
use Rattle.network_replay.proofs.Behind.{one_put}
use Rattle.network_replay.proofs.mail.Mail.put.Goals as goal

pub returns : goal.returns
returns c =
    let i = c.self.inside in
    let p = parcel c.args.dst c.args.bytes.now c.args.end in
    let r = one_put c.put-put.result i.flight c.put-put.new.self p c.put-put.ensures.ok c.put-put.ensures.most c.put-put.ensures.full c.put-put.ensures.err in
    let fulls = c.either-self-inside.ensures ∙ ap (λ b. i.full || b) (c.is_err-over.ensures.value ∙ r.1) in
    let before : Post = record { net = i.wires; from = i.from; flight = i.flight; full = i.full; in_range = true } in
    subst (λ (m : Post). (record { net = i.wires; from = i.from; flight = c.put-put.new.self; full = c.either-self-inside.result; in_range = true }) ≡ put_behind (p ∷ []) m) c.self.view_is
    (ap₂ (λ (g : List Parcel) (b : Bool). record before { flight = g; full = b }) r.0 fulls)
