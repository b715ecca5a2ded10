-- A pair of nodes that opens, and pairs in which a premise is not met, by computing.
use Rattle.std.proofs.Common.{◌≡◌, ℕ, zero, suc, true, false, None, Some, inl, ⊎_elim, sym, refl, ap, subst, ◌∙◌}
use Rattle.std.specs.Prelude.{slice_get}
use Rattle.std.specs.Fmt.{digits}
use Rattle.std.specs.Option.{unwrap_or}
use Rattle.rsvp_base.specs.declared.style.StyleKind.TheVariants.{Wild}
use Rattle.rsvp_base.specs.declared.style.Unit.TheVariants.{One}
use Rattle.rsvp_base.specs.Members.{In}
use Rattle.rsvp_base.specs.Table.{empty, get, has}
use Rattle.rsvp_base.specs.TokenBucket.{IsSound, TokenBucket}
use Rattle.rsvp_base.proofs.Counts.{found_in}
use Rattle.rsvp_base.proofs.Tables.{got_put_in}
use Rattle.value_texts.specs.Texts.{addr_text, flow_text, sender_text, session_text}
use Rattle.value_texts.specs.Reports.{entry_line, head_text}
use Rattle.router_rules.specs.Facts.{Facts, SenderKey, Want, WantKey, no_facts, no_resvs, sender_keys, want_keys}
use Rattle.tree_model.specs.declared.hops.LinkHop.{LinkHop}
use Rattle.tree_model.specs.Trees.{tree}
use Rattle.router_rules.specs.Inputs.{Spelt}
use Rattle.network_model.specs.RouterRules.Rule.{facts_with}
use Rattle.network_model.specs.ThreeRouters.{first, path, s1, session, usual}
use Rattle.network_model.specs.Locals.{IsLive}
use Rattle.network_model.specs.Worlds.{Item}
use Rattle.laws_network.specs.Example.{pair_net, quiet_world}
use Rattle.laws_network.proofs.Example.{a_pair_stays_within_bounds}
use Rattle.laws_network.proofs.Known.{of_some}
use Rattle.settle_paths.specs.Sure.{forth}
use Rattle.settle_paths.proofs.LiveSenders.{senders_found}
use Rattle.settle_passes.specs.Passes.{IsPathOver}
use Rattle.settle_senders.specs.Worked.{joined_world, waiting_world}
use Rattle.settle_senders.proofs.Worked.{a_receiver_waits}
use Rattle.settle_openings.specs.Fresh.{IsEmpty}
use Rattle.settle_openings.specs.Opening.{IsFirstPath, IsUntouched}
use Rattle.settle_openings.specs.Worked.{AConfirmationFlies, APairOpens, NothingLastsWithoutPasses, WhatDoesNotFitIsRefused}

-- ---- the pair, in which a receiver asked and a host began to send
abbrev facts_0 : Facts
facts_0 = unwrap_or (slice_get joined_world.nodes 0) no_facts

abbrev facts_1 : Facts
facts_1 = unwrap_or (slice_get joined_world.nodes 1) no_facts

no_paths : (n : ℕ) (f : Facts) → slice_get joined_world.nodes n ≡ Some f → f.paths ≡ empty
no_paths zero f at = ap (λ (z : Facts). z.paths) (sym (of_some facts_0 f at))
no_paths (suc zero) f at = ap (λ (z : Facts). z.paths) (sym (of_some facts_1 f at))
no_paths (suc (suc n)) f at = absurd (cc)

no_reservations : (n : ℕ) (f : Facts) → slice_get joined_world.nodes n ≡ Some f → f.resvs ≡ no_resvs
no_reservations zero f at = ap (λ (z : Facts). z.resvs) (sym (of_some facts_0 f at))
no_reservations (suc zero) f at = ap (λ (z : Facts). z.resvs) (sym (of_some facts_1 f at))
no_reservations (suc (suc n)) f at = absurd (cc)

no_walls : (n : ℕ) (f : Facts) → slice_get joined_world.nodes n ≡ Some f → f.walls ≡ empty
no_walls zero f at = ap (λ (z : Facts). z.walls) (sym (of_some facts_0 f at))
no_walls (suc zero) f at = ap (λ (z : Facts). z.walls) (sym (of_some facts_1 f at))
no_walls (suc (suc n)) f at = absurd (cc)

abbrev the_want : Want
the_want = record { style = Wild; part = record { senders = empty; flow = usual }; confirm = false }

unmarked : (n : ℕ) (f : Facts) (k : WantKey) (x : Want) → slice_get joined_world.nodes n ≡ Some f → get f.wants k ≡ Some x → x.confirm ≡ false
unmarked zero f k x at h = let bad : None ≡ Some x = ap (λ (z : Facts). get z.wants k) (of_some facts_0 f at) ∙ h in absurd (cc)
unmarked (suc zero) f k x at h =
    ⊎_elim (λ (e : (k, x) ≡ ((session, One), the_want)). ap (λ (z : WantKey × Want). z.1.confirm) e) (λ (never : ⊥). absurd never)
    (found_in want_keys facts_1.wants k x (ap (λ (z : Facts). get z.wants k) (of_some facts_1 f at) ∙ h))
unmarked (suc (suc n)) f k x at h = absurd (cc)

-- the Path that is in flight
abbrev the_item : Item
the_item = unwrap_or (slice_get joined_world.flight 0) (record { end = 0; dst = session.group; arrival = Spelt (path true s1 first usual); born = 0 })

sent : (y : Item) → In y joined_world.flight → IsFirstPath 7500 joined_world y
sent y i =
    ⊎_elim
    (λ (e : y ≡ the_item).
    subst (λ (z : Item). IsFirstPath 7500 joined_world z) (sym e)
    (record {
      node = 0;
      facts = facts_0;
      there = refl;
      path = _;
      spelt = refl;
      sender = first;
      tspec = usual;
      of = refl;
      sends = refl;
      end = 0;
      at = refl;
      leaves = inl refl;
      hop = refl;
      to = inl refl;
      dst = refl;
      period = refl;
    }))
    (λ (never : ⊥). absurd never) i

-- who is live sends as the first sender, from the first node
sender_is : (n : ℕ) (f : Facts) (k : SenderKey) (t : TokenBucket) → slice_get joined_world.nodes n ≡ Some f → get f.senders k ≡ Some t → (k ≡ (session, first)) × (t ≡ usual)
sender_is zero f k t e h =
    ⊎_elim (λ (here : (k ≡ (session, first)) × (t ≡ usual)). here) (λ (old : get no_facts.senders k ≡ Some t). absurd (cc))
    (got_put_in sender_keys no_facts.senders (session, first) usual k t (ap (λ (z : Facts). get z.senders k) (of_some facts_0 f e) ∙ h))
sender_is (suc zero) f k t e h = let bad : None ≡ Some t = ap (λ (z : Facts). get z.senders k) (of_some facts_1 f e) ∙ h in absurd (cc)
sender_is (suc (suc n)) f k t e h = absurd (cc)

over : IsPathOver joined_world (session, first) usual forth
over = record { item = the_item; flight = inl refl; end = refl; dst = refl; path = _; spelt = refl; session = refl; sender = refl }

all : (k : SenderKey) (t : TokenBucket) (h : LinkHop) → IsLive joined_world k t → In h (tree pair_net.hops k.0.group k.1.addr) → IsPathOver joined_world k t h
all k t h live there =
    let f = senders_found joined_world live.node live.senders live.at in
    let is = sender_is live.node f.0 k t f.1 (ap (λ (z : _). get z k) f.2 ∙ live.sends) in
    let one : h ≡ forth = ⊎_elim (λ (e : h ≡ forth). e) (λ (never : ⊥). absurd never) (subst (λ (z : SenderKey). In h (tree pair_net.hops z.0.group z.1.addr)) is.0 there) in
    subst (λ (z : SenderKey × TokenBucket × LinkHop). IsPathOver joined_world z.0 z.1 z.2) (λ j. (sym is.0 j, sym is.1 j, sym one j)) over

untouched : IsUntouched 7500 joined_world
untouched = record {
  bounds = (a_receiver_waits.following session).paths.bounds;
  hosts = a_receiver_waits.hosts;
  fit = a_receiver_waits.all_fit;
  paths = no_paths;
  resvs = no_reservations;
  walls = no_walls;
  unmarked = unmarked;
  sent = sent;
  all = λ k t h f live there at sends. all k t h live there;
}

-- ---- its calls, from a world of which nothing was asked yet
no_one : (n : ℕ) (f : Facts) → slice_get quiet_world.nodes n ≡ Some f → f ≡ no_facts
no_one zero f a = sym (of_some no_facts f a)
no_one (suc zero) f a = sym (of_some no_facts f a)
no_one (suc (suc n)) f a = absurd (cc)

nothing_yet : IsEmpty 7500 quiet_world
nothing_yet = record { bounds = a_pair_stays_within_bounds.quiet; nodes = no_one; flight = refl }

fit : IsSound usual
fit = a_receiver_waits.fit

lacks : (f : Facts) → slice_get waiting_world.nodes 0 ≡ Some f → has f.senders (session, first) ≡ false
lacks f at = ap (λ (z : Facts). has z.senders (session, first)) (sym (of_some (unwrap_or (slice_get waiting_world.nodes 0) no_facts) f at))

pub a_pair_opens : APairOpens
unfolding digits addr_text session_text sender_text flow_text entry_line head_text facts_with
a_pair_opens = record { nothing_yet = nothing_yet; asks = (tt, fit, refl); begins = (fit, refl, lacks); untouched = untouched; text = refl }

-- ---- where a premise is not met
pub nothing_lasts_without_passes : NothingLastsWithoutPasses
unfolding digits addr_text session_text sender_text flow_text entry_line head_text facts_with
nothing_lasts_without_passes = record { text = refl }

pub what_does_not_fit_is_refused : WhatDoesNotFitIsRefused
unfolding digits facts_with
what_does_not_fit_is_refused = record { text = refl }

pub a_confirmation_flies : AConfirmationFlies
unfolding facts_with
a_confirmation_flies = record { text = refl }
