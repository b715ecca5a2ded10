-- A host that sends already says another flow: its node offers it at once, and all else stays. So the flow that is offered over each hop is kept behind
-- it in the end still, and what is offered of adverts, too.
use Rattle.std.proofs.Common.{◌≡◌, ℕ, true, false, Option, Some, None, ⊎_elim, sym, refl, ap, ◌∙◌}
use Rattle.std.specs.Prelude.{slice_get, is_some}
use Rattle.std.specs.Ordering.{eq_by_cmp}
use Rattle.rsvp_base.specs.Table.{Table, has, put_in}
use Rattle.rsvp_base.specs.TokenBucket.{IsSound, TokenBucket}
use Rattle.rsvp_base.proofs.Tables.{either, get-put_in_other, get-put_in_same, tied_same}
use Rattle.laws_bounds.specs.Frames.{calls_on_senders}
use Rattle.router_rules.specs.declared.answers.LocalErr.{LocalErr}
use Rattle.router_rules.specs.Calls.{call_refusal, unless}
use Rattle.router_rules.specs.Facts.{Facts, SenderKey, sender_keys}
use Rattle.router_rules.specs.Inputs.{Local, SendAs}
use Rattle.router_rules.specs.Rule.{Outcome}
use Rattle.router_rules.specs.Steps.{IsFitCall}
use Rattle.tree_model.specs.Ranks.{longest}
use Rattle.network_model.specs.Locals.{locals_of}
use Rattle.network_model.specs.Steps.{At, outcome, step, still}
use Rattle.network_model.specs.Worlds.{World, config_of}
use Rattle.laws_network.proofs.Known.{of_some}
use Rattle.settle_passes.specs.Calls.{SendsAt, after_send}
use Rattle.settle_passes.specs.Passes.{after_passes}
use Rattle.settle_passes.proofs.Called.{KeepsSenders, senders_then, spares_senders, wants_same, IsCalled, called}
use Rattle.settle_senders.specs.Flows.{HasItsFlows, IsTelling, flows}
use Rattle.settle_senders.proofs.FlowsThere.{flows_are_set_up, flows_that_are_there_are_said, flows_faithful}
use Rattle.settle_senders.specs.Adverts.{HasItsAdverts, adverts}
use Rattle.settle_senders.proofs.OfferCalls.{offers_call, rooted_call, there_call}
use Rattle.settle_senders.proofs.OfferPasses.{offers_after}
use Rattle.settle_senders.proofs.AdvertsThere.{adverts_faithful, adverts_that_are_there_are_said, exact_then}
use Rattle.settle_senders.specs.Readings.{AreRooted}

pub put_has_same : (r : Option LocalErr) (m : Table sender_keys TokenBucket) (k : SenderKey) (t : TokenBucket) (j : SenderKey) → has m k ≡ true → has (unless r (put_in m k t) m) j ≡ has m j
put_has_same None m k t j there =
    either (eq_by_cmp sender_keys.cmp j k)
    (λ yes.
    let same = tied_same sender_keys j k yes in
    ap (λ (z : SenderKey). has (put_in m k t) z) same ∙ ap (λ (o : Option TokenBucket). is_some o) (get-put_in_same sender_keys m k t) ∙ sym there ∙ ap (has m) (sym same))
    (λ no. ap (λ (o : Option TokenBucket). is_some o) (get-put_in_other sender_keys m k t j no))
put_has_same (Some e) m k t j there = refl

-- ---- a call that leaves those who send, whatever they send then
telling_then : (q n : ℕ) (call : Local) (w : World) → IsFitCall call → KeepsSenders q n call w → IsTelling q w → IsTelling q (step q (At n call) w)
telling_then q n call w fit keeps s =
    let r : AreRooted q (step q (At n call) w) = rooted_call q n call w s.rooted.bounds fit keeps s.rooted in
    record { rooted = r; there = there_call q n call w s.rooted.bounds fit keeps s.there; offers = offers_call q n call w s.rooted.bounds flows flows_faithful r.hosts r.paths s.offers }

pub a_call_is_told : (q n : ℕ) (l : Local) (w : World) → IsTelling q w → IsFitCall l → calls_on_senders l ≡ false → IsTelling q (step q (At n l) w)
a_call_is_told q n l w start fit spares = telling_then q n l w fit (spares_senders q n l w spares) start

-- ---- and one of a host that sends already, and says another flow
module _ (q n : ℕ) (k : SenderKey) (t : TokenBucket) (w : World) (sends : SendsAt w n k) where
  abbrev saying : Local
  saying = SendAs k.0 k.1 t

  -- who sends is who sent
  pub says_as_before : KeepsSenders q n saying w
  says_as_before m f at j =
      ⊎_elim (λ (h : outcome q (At n saying) w m f ≡ still f). ap (λ (o : Outcome). has o.facts.senders j) h)
      (λ (h : IsCalled q w n saying m f).
      let one : sends.facts ≡ f = of_some sends.facts f (sym sends.there ∙ ap (λ (z : ℕ). slice_get w.nodes z) h.node ∙ at) in
      let there : has f.senders k ≡ true = ap (λ (z : Facts). has z.senders k) (sym one) ∙ sends.sends in
      ap (λ (o : Outcome). has o.facts.senders j) h.is ∙ put_has_same (call_refusal (config_of q w.net w.trees m) saying f) f.senders k t j there)
      (called q w n saying m f)

  pub locals_same : locals_of (after_send q n k t w) ≡ locals_of w
  locals_same = λ i. record { senders = senders_then q n saying w says_as_before i; wants = wants_same q n saying w refl i }

pub a_new_flow_is_said : (q n : ℕ) (k : SenderKey) (t : TokenBucket) (w : World) → IsTelling q w → IsSound t → SendsAt w n k → IsTelling q (after_send q n k t w)
a_new_flow_is_said q n k t w start fit sends = telling_then q n (SendAs k.0 k.1 t) w fit (says_as_before q n k t w sends) start

pub a_new_flow_is_set_up : (q n : ℕ) (k : SenderKey) (t : TokenBucket) (w : World) → HasItsFlows q w → IsSound t → SendsAt w n k
    → HasItsFlows q (after_passes q (longest w.net) (after_send q n k t w))
a_new_flow_is_set_up q n k t w start fit sends = flows_are_set_up q (after_send q n k t w) (a_new_flow_is_said q n k t w (flows_that_are_there_are_said q w start) fit sends)

-- ---- what paths keep of adverts comes to be the same again
pub a_new_flow_leaves_adverts : (q n : ℕ) (k : SenderKey) (t : TokenBucket) (w : World) → HasItsAdverts q w → IsSound t → SendsAt w n k
    → HasItsAdverts q (after_passes q (longest w.net) (after_send q n k t w))
a_new_flow_leaves_adverts q n k t w start fit sends =
    let u : World = after_send q n k t w in
    let told : IsTelling q u = a_new_flow_is_said q n k t w (flows_that_are_there_are_said q w (record { paths = start.paths; no_path = start.no_path })) fit sends in
    let offers = offers_call q n (SendAs k.0 k.1 t) w start.paths.bounds adverts adverts_faithful told.rooted.hosts told.rooted.paths (adverts_that_are_there_are_said q w start).offers in
    let r = offers_after adverts adverts_faithful q (longest w.net) u told.rooted offers in
    let later = flows_are_set_up q u told in
    record {
      paths = later.paths;
      exact = exact_then q (after_passes q (longest w.net) u) r.0 (λ j v h live there. (v, later.paths.complete j v h live there)) later.no_path r.1;
      no_path = later.no_path;
    }
