use Rattle.std.proofs.Common.{◌≡◌, ◌<◌, ◌≤◌, ◌+◌, ◌*◌, ℕ, List, [], ◌∷◌, ◌++◌, sym, ap, subst, ◌∙◌, append_assoc, arith, length, length-append, take, get_or}
use Rattle.std.specs.List.{flat_map}
use Rattle.rsvp_base.specs.Table.{keys}
use Rattle.rsvp_base.specs.declared.session.Sender.{Sender}
use Rattle.rsvp_objects.specs.Fields.{half}
use Rattle.rsvp_objects.specs.Contents.{source_bytes, scope_bytes}
use Rattle.rsvp_objects.proofs.Sources.{fours, text_more, text_whole}
use Rattle.rsvp_objects.proofs.put.put_scope.Goals as goal

abbrev head : ℕ → List ℕ
head n = half (4 + 4 * n) ++ 7 ∷ 1 ∷ []

pub loop-source-preserved : goal.loop-source-preserved
loop-source-preserved c =
    let front = c.args.packet.now in
    let xs = keys c.args.senders.now in
    let k = c.loop-source.source-index in
    let is : c.as_slice-sources.result.now ≡ xs = c.as_slice-sources.ensures.senders in
    let lt : k < length xs = subst (λ (ys : List Sender). k < length ys) is c.loop-source-test.true in
    let d : Sender = record { addr = record { 0 = 0 }; port = 0 } in
    let added : c.put_source.new.packet ≡ c.loop-source.packet ++ source_bytes (get_or xs k d) =
    subst (λ (ys : List Sender). c.put_source.new.packet ≡ c.loop-source.packet ++ source_bytes (get_or ys k d)) is c.put_source.ensures in
    record {
      text = added ∙ ap (λ (t : List ℕ). t ++ source_bytes (get_or xs k d)) c.loop-source.invariant.text
          ∙ append_assoc front (head (length xs) ++ flat_map source_bytes (take k xs)) (source_bytes (get_or xs k d))
          ∙ ap (λ (t : List ℕ). front ++ (head (length xs) ++ t)) (sym (text_more xs k d lt));
      room = ap length added ∙ length-append c.loop-source.packet (source_bytes (get_or xs k d)) ∙ (let r = c.loop-source.invariant.room in omega arith);
    }

pub returns : goal.returns
returns c =
    let front = c.args.packet.now in
    let xs = keys c.args.senders.now in
    let k = c.loop-source.source-index in
    let end : length xs ≤ k = subst (λ (ys : List Sender). length ys ≤ k) c.as_slice-sources.ensures.senders c.loop-source-test.false in
    let text : flat_map source_bytes (take k xs) ≡ scope_bytes c.args.senders.now = text_whole xs k end in
    let size : 4 * length xs ≡ length (scope_bytes c.args.senders.now) = sym (fours xs) in
    c.loop-source.invariant.text ∙ ap (λ (t : List ℕ). front ++ (head (length xs) ++ t)) text ∙ ap (λ (n : ℕ). front ++ ((half (4 + n) ++ 7 ∷ 1 ∷ []) ++ scope_bytes c.args.senders.now)) size
