-- Requests in small networks, by computing.
use Rattle.std.proofs.Common.{◌≡◌, ℕ, zero, suc, true, None, Some, inl, ⊎_elim, refl, ap, subst, ◌∙◌}
use Rattle.std.specs.Prelude.{slice_get}
use Rattle.std.specs.Fmt.{digits}
use Rattle.std.specs.Option.{unwrap_or}
use Rattle.rsvp_base.specs.declared.session.Sender.{Sender}
use Rattle.rsvp_base.specs.Members.{In}
use Rattle.rsvp_base.specs.declared.style.StyleKind.TheVariants.{Wild}
use Rattle.rsvp_base.specs.Table.{Table, empty, get}
use Rattle.rsvp_base.specs.TokenBucket.{TokenBucket}
use Rattle.rsvp_base.proofs.Counts.{found_in}
use Rattle.router_rules.specs.Facts.{Facts, SenderKey, no_facts, sender_keys}
use Rattle.tree_model.specs.Goals.{DemandsFit}
use Rattle.tree_model.specs.Wants.{Locals}
use Rattle.network_model.specs.Locals.{locals_of, senders_at}
use Rattle.network_model.specs.RouterRules.Rule.{facts_with}
use Rattle.network_model.specs.ThreeRouters.{first, session, usual}
use Rattle.laws_network.proofs.Known.{of_some}
use Rattle.laws_network.specs.Example.{pair_net}
use Rattle.settle_passes.specs.Reserving.{AsksNoLess}
use Rattle.settle_passes.specs.Worked.{asked_world, heard_world}
use Rattle.settle_passes.proofs.AskedExample.{a_receiver_asks}
use Rattle.settle_confirmations.specs.Requests.{IsOnlySender}
use Rattle.settle_confirmations.specs.Worked.{AReceiverHasItAlready, AReceiverHears, AReceiverTurnsAway, ARequestIsRefused, AnAnswerIsEarly, AnAnswerIsForMore}
use Rattle.settle_confirmations.specs.Worked.{AnAnswerLeavesOut, AnAnswerSpeaksOfAnother, LessIsConfirmed, TwoEndsHearNothing, TwoReceiversAskAtOnce, wishing_world}

-- whether a confirmation is asked for makes no difference to what is wanted
same_locals : locals_of asked_world ≡ locals_of wishing_world
same_locals = refl

abbrev senders_of : ℕ → Table sender_keys TokenBucket
senders_of n = (unwrap_or (slice_get heard_world.nodes n) no_facts).senders

first_alone : (n : ℕ) (m : Table sender_keys TokenBucket) (y : Sender) (t : TokenBucket) → senders_at heard_world n ≡ Some m → get m (session, y) ≡ Some t → y ≡ first
first_alone zero m y t e h =
    let same : senders_of 0 ≡ m = of_some (senders_of 0) m e in
    let among : In ((session, y), t) (senders_of 0).rows = found_in sender_keys (senders_of 0) (session, y) t (ap (λ (z : Table sender_keys TokenBucket). get z (session, y)) same ∙ h) in
    ⊎_elim (λ (is : ((session, y), t) ≡ ((session, first), usual)). ap (λ (z : SenderKey × TokenBucket). z.0.1) is) (λ (no : ⊥). absurd no) among
first_alone (suc zero) m y t e h =
    let same : senders_of 1 ≡ m = of_some (senders_of 1) m e in
    let bad : None ≡ Some t = ap (λ (z : Table sender_keys TokenBucket). get z (session, y)) same ∙ h in
    absurd (cc)
first_alone (suc (suc n)) m y t e h = absurd (cc)

only : IsOnlySender heard_world session first
only y t l = first_alone l.node l.senders y t l.at l.sends

-- nobody asked before
no_less : AsksNoLess heard_world 1 session Wild empty usual true
no_less f k old new a h i =
    let bad : None ≡ Some old = ap (λ (z : Facts). get z.wants k) (of_some (unwrap_or (slice_get heard_world.nodes 1) no_facts) f a) ∙ h in absurd (cc)

pub a_receiver_hears : AReceiverHears
unfolding facts_with
a_receiver_hears = record {
  begins = a_receiver_asks.begins;
  settled = a_receiver_asks.settled;
  quiet = refl;
  only = only;
  list = tt;
  flow = a_receiver_asks.flow;
  no_less = no_less;
  fit = subst (λ (z : Locals). DemandsFit pair_net z) same_locals a_receiver_asks.all_fit;
  sends = (_, inl refl);
  long = refl;
  text = refl;
  last = refl;
  flows = refl;
}

pub an_answer_speaks_of_another : AnAnswerSpeaksOfAnother
unfolding facts_with
an_answer_speaks_of_another = record { text = refl }

pub an_answer_leaves_out : AnAnswerLeavesOut
unfolding facts_with
an_answer_leaves_out = record { text = refl; asked = refl; answered = refl }

pub two_ends_hear_nothing : TwoEndsHearNothing
unfolding facts_with
two_ends_hear_nothing = record { text = refl; fixed = refl }

pub two_receivers_ask_at_once : TwoReceiversAskAtOnce
unfolding facts_with
two_receivers_ask_at_once = record { long = refl; text = refl }

pub a_receiver_turns_away : AReceiverTurnsAway
unfolding facts_with
a_receiver_turns_away = record { text = refl }

pub a_receiver_has_it_already : AReceiverHasItAlready
unfolding facts_with
a_receiver_has_it_already = record { text = refl }

pub a_request_is_refused : ARequestIsRefused
unfolding digits facts_with
a_request_is_refused = record { text = refl }

pub an_answer_is_for_more : AnAnswerIsForMore
unfolding facts_with
an_answer_is_for_more = record { flows = refl }

pub less_is_confirmed : LessIsConfirmed
unfolding facts_with
less_is_confirmed = record { before = refl; quiet = refl; text = refl; flows = refl; held = refl }

pub an_answer_is_early : AnAnswerIsEarly
unfolding facts_with
an_answer_is_early = record { long = refl; text = refl; held = refl }
