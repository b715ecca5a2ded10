-- The first calls of a network: nobody advertises, and what is sent for a host that begins to send is a Path over each hop of its tree out of its node.
use Rattle.std.proofs.Common.{◌≡◌, ℕ, ◌+◌, ◌≤◌, List, [], ◌∷◌, ◌++◌, length, Bool, true, false, Option, None, Some, ◌⊎◌, inl, inr, ⊎_elim, arith, sym, refl, ap, subst, ◌∙◌}
use Rattle.std.specs.Prelude.{map as each, slice_get, sum_by}
use Rattle.std.specs.List.{flat_map}
use Rattle.std.proofs.lemmas.List.{length-append}
use Rattle.std.proofs.lemmas.List.Sums.{sum_by-append, sum_by-cons}
use Rattle.rsvp_base.specs.declared.session.Sender.{Sender}
use Rattle.rsvp_base.specs.declared.session.Session.{Session}
use Rattle.rsvp_base.specs.Members.{In}
use Rattle.rsvp_base.specs.Sets.{Set}
use Rattle.rsvp_base.specs.Table.{empty, get, has}
use Rattle.rsvp_base.specs.TokenBucket.{TokenBucket}
use Rattle.rsvp_base.proofs.Members.{in_append, in_each}
use Rattle.rsvp_messages.specs.declared.message.Message.TheVariants as message
use Rattle.rsvp_messages.specs.declared.message.PathMsg.{PathMsg}
use Rattle.laws_network.specs.Sources.{IsLocalOffer, IsPathOffer}
use Rattle.laws_steps.specs.SpeakingLaws.{IsOfOffer}
use Rattle.laws_steps.proofs.Speaking.{what_a_path_sent_says}
use Rattle.router_rules.specs.Calls.{advertised_with, call_refusal, unless}
use Rattle.router_rules.specs.Facts.{Facts, Paths, PathState, SenderKey, sender_keys}
use Rattle.router_rules.specs.Inputs.{AdvertAs, Call, DropAs, Local, QuitAll, SendAs, Spelt, WantAs}
use Rattle.router_rules.specs.NodeConfig.{NodeConfig}
use Rattle.router_rules.specs.Offers.{advert_by, own_advert}
use Rattle.router_rules.specs.Rule.{Outcome}
use Rattle.router_rules.specs.Steps.{facts_then, node_step}
use Rattle.tree_model.specs.declared.hops.LinkHop.{LinkHop}
use Rattle.tree_model.specs.Networks.{Net}
use Rattle.tree_model.specs.Trees.{goes_out_of, tree}
use Rattle.tree_model.specs.Wants.{Locals, live}
use Rattle.network_model.specs.Locals.{locals_of}
use Rattle.network_model.specs.Steps.{At, Step, machine, ms_of, outcome, sent, step, still}
use Rattle.calm_rounds.specs.Hold.{Visited}
use Rattle.calm_rounds.specs.Machine.{run}
use Rattle.calm_rounds.proofs.Holding.{visited_start}
use Rattle.network_model.specs.Worlds.{Item, World, config_of}
use Rattle.network_model.proofs.Stepping.{facts_after_found, facts_after_made}
use Rattle.settle_passes.proofs.Called.{IsCalled, called, sent_by_call}
use Rattle.settle_openings.specs.Fresh.{IsEmpty, IsFirstCall, IsFresh}
use Rattle.settle_openings.proofs.Beginning.{a_call_keeps_a_network_fresh}
use Rattle.settle_openings.specs.Waves.{AreWired, HasNoAdverts, call_price, paid_for, payers}
use Rattle.settle_openings.proofs.WaveCalls.{seen_from, send_pays, unless_same, want_sends_nothing}
use Rattle.settle_openings.proofs.WaveResvs.{pay}

-- ---- nobody advertises
pub an_empty_network_is_mute : (q : ℕ) (w : World) → IsEmpty q w → HasNoAdverts w
an_empty_network_is_mute q w start = record {
  own = λ n f k at. ap (λ (z : Facts). has z.advertised k) (start.nodes n f at);
  paths = λ n f k x at e. let bad : None ≡ Some x = sym (ap (λ (z : Facts). get z.paths k) (start.nodes n f at)) ∙ e in absurd (cc);
  items = λ y m i spelt. absurd (subst (λ (ys : List Item). In y ys) start.flight i);
}

keeps_adverts : (w : World) (n : ℕ) (l : Local) → IsFirstCall w n l → (a : Set sender_keys) → advertised_with l a ≡ a
keeps_adverts w n (SendAs s x t) call a = refl
keeps_adverts w n (WantAs s st names flow mark) call a = refl
keeps_adverts w n (DropAs s x) call a = absurd call
keeps_adverts w n (AdvertAs s x) call a = absurd call
keeps_adverts w n (QuitAll s) call a = absurd call

module _ (q n : ℕ) (l : Local) (w : World) (fresh : IsFresh q w) (call : IsFirstCall w n l) (mute : HasNoAdverts w) where
  abbrev next : World
  next = step q (At n l) w

  fresh' : IsFresh q next
  fresh' = a_call_keeps_a_network_fresh q n l w fresh call

  own_then : (m : ℕ) (g : Facts) (k : SenderKey) → slice_get next.nodes m ≡ Some g → has g.advertised k ≡ false
  own_then m g k at =
      let f = facts_after_found q (At n l) w m g at in
      ap (λ (z : Facts). has z.advertised k) f.2
      ∙ ⊎_elim
      (λ (z : outcome q (At n l) w m f.0 ≡ still f.0). ap (λ (o : Outcome). has o.facts.advertised k) z ∙ mute.own m f.0 k f.1)
      (λ (z : IsCalled q w n l m f.0).
      let r = call_refusal (config_of q w.net w.trees m) l f.0 in
      ap (λ (o : Outcome). has o.facts.advertised k) z.is
      ∙ ap (λ (a : Set sender_keys). has (unless r a f.0.advertised) k) (keeps_adverts w n l call f.0.advertised) ∙ ap (λ (a : Set sender_keys). has a k) (unless_same r f.0.advertised) ∙ mute.own m f.0 k f.1)
      (called q w n l m f.0)

  no_path : (m : ℕ) (g : Facts) (k : SenderKey) (x : PathState) → slice_get next.nodes m ≡ Some g → get g.paths k ≡ Some x → ⊥
  no_path m g k x at e = let bad : None ≡ Some x = sym (ap (λ (t : Paths). get t k) (fresh'.paths m g at)) ∙ e in cc

  pub a_first_call_is_mute : HasNoAdverts next
  a_first_call_is_mute = record {
    own = own_then;
    paths = λ m g k x at e. absurd (no_path m g k x at e);
    items = λ y m i spelt.
        ⊎_elim (λ (old : In y w.flight). mute.items y m old spelt)
        (λ (new : In y (each (λ (z : Item × Bool). z.0) (sent q (At n l) w))).
        let j = in_each (λ (z : Item × Bool). z.0) y (sent q (At n l) w) new in
        let r = sent_by_call q w n l y j.0.1 (message.Path m) (subst (λ (z : Item). In (z, j.0.1) (sent q (At n l) w)) (sym j.2) j.1) spelt in
        let p : NodeConfig = config_of q w.net w.trees r.node in
        let after : Facts = (outcome q (At n l) w r.node r.facts).facts in
        let there : slice_get next.nodes r.node ≡ Some after = facts_after_made q (At n l) w r.node r.facts r.there in
        let o : IsOfOffer p after r.send m =
        subst (λ (z : Outcome). IsOfOffer p z.facts r.send m) (sym r.by.is)
        (what_a_path_sent_says.says (node_step p p w.clock (w.clock + ms_of (At n l)) (Call l) r.facts) (fresh.bounds.facts r.node r.facts r.there) r.send m r.sent r.says) in
        let silent : advert_by (slice_get p.ifaces o.key.iface) o.offer.advert ≡ None =
        ⊎_elim
        (λ (x : IsLocalOffer after o.key o.offer).
        ap (advert_by (slice_get p.ifaces o.key.iface)) (x.advert ∙ ap own_advert (own_then r.node after (o.key.session, o.key.sender) there)))
        (λ (x : IsPathOffer after o.key o.offer). absurd (no_path r.node after (o.key.session, o.key.sender) x.path there x.there)) o.source in
        ap (λ (z : PathMsg). z.adspec) o.is ∙ silent)
        (in_append y w.flight (each (λ (z : Item × Bool). z.0) (sent q (At n l) w)) i);
  }

-- ---- what it puts in flight is paid for, by those who send when all have been made
sum_paid : (v : World) (xs : List (Item × Bool)) → paid_for v.net (locals_of v) (each (λ (z : Item × Bool). z.0) xs) ≡ length (flat_map (pay v) xs)
sum_paid v [] = refl
sum_paid v (x ∷ xs) =
    let rest = sum_paid v xs in
    let long = length-append (pay v x) (flat_map (pay v) xs) in
    omega (arith, rest, long, sum_by-cons (λ y. length (payers v.net (locals_of v) y)) x.0 (each (λ (z : Item × Bool). z.0) xs))

pub a_first_call_is_paid : (q n : ℕ) (l : Local) (o w : World) → IsFresh q w → AreWired w.net → IsFirstCall w n l
    → paid_for w.net (locals_of o) (step q (At n l) w).flight ≤ paid_for w.net (locals_of o) w.flight + call_price w.net (locals_of o) n l
a_first_call_is_paid q n l o w fresh wired call = by l call
  where
    split : (d : Local) → paid_for w.net (locals_of o) (step q (At n d) w).flight ≡ paid_for w.net (locals_of o) w.flight + length (flat_map (pay (seen_from o w)) (sent q (At n d) w))
    split d =
        let a = sum_by-append (λ y. length (payers w.net (locals_of o) y)) w.flight (each (λ (z : Item × Bool). z.0) (sent q (At n d) w)) in
        let b = sum_paid (seen_from o w) (sent q (At n d) w) in
        omega (arith, a, b)

    by : (d : Local) → IsFirstCall w n d → paid_for w.net (locals_of o) (step q (At n d) w).flight ≤ paid_for w.net (locals_of o) w.flight + call_price w.net (locals_of o) n d
    by (SendAs s x t) c = let a = split (SendAs s x t) in let b = send_pays q o w n s x t fresh.bounds.net wired (λ f at. fresh.paths n f at) in omega (arith, a, b)
    by (WantAs s st names flow mark) c = let a = split (WantAs s st names flow mark) in let b = want_sends_nothing q o w n s st names flow mark (λ f at. fresh.paths n f at) in omega (arith, a, b)
    by (DropAs s x) c = absurd c
    by (AdvertAs s x) c = absurd c
    by (QuitAll s) c = absurd c

-- ---- one after the other
abbrev pub call_step : ℕ × Local → Step
call_step c = At c.0 c.1

abbrev pub AreFirstCalls : ℕ → List (ℕ × Local) → World → Type 0
AreFirstCalls q [] w = Unit {0}
AreFirstCalls q (c ∷ cs) w = IsFirstCall w c.0 c.1 × AreFirstCalls q cs (step q (call_step c) w)

abbrev pub prices_of : Net → Locals → List (ℕ × Local) → ℕ
prices_of net l cs = sum_by (λ (c : ℕ × Local). call_price net l c.0 c.1) cs

-- behind the calls, and on the way
pub record IsCalledFirst (q : ℕ) (o : World) (cs : List (ℕ × Local)) (w u : World) : Type 0 where
  pub fresh : IsFresh q u
  pub mute : HasNoAdverts u
  pub paid : paid_for u.net (locals_of o) u.flight ≤ paid_for w.net (locals_of o) w.flight + prices_of w.net (locals_of o) cs

pub first_calls : (q : ℕ) (o : World) (cs : List (ℕ × Local)) (w : World) → IsFresh q w → HasNoAdverts w → AreWired w.net → AreFirstCalls q cs w
    → IsCalledFirst q o cs w (run (machine q) (each call_step cs) w) × Visited (machine q) (λ v. length v.flight ≤ length (run (machine q) (each call_step cs) w).flight) (each call_step cs) w
first_calls q o [] w fresh mute wired calls = (record { fresh = fresh; mute = mute; paid = omega arith }, omega arith)
first_calls q o (c ∷ cs) w fresh mute wired calls =
    let next : World = step q (call_step c) w in
    let last : World = run (machine q) (each call_step cs) next in
    let r = first_calls q o cs next (a_call_keeps_a_network_fresh q c.0 c.1 w fresh calls.0) (a_first_call_is_mute q c.0 c.1 w fresh calls.0 mute) wired calls.1 in
    let a = a_first_call_is_paid q c.0 c.1 o w fresh wired calls.0 in
    let b = r.0.paid in
    let grows = length-append w.flight (each (λ (z : Item × Bool). z.0) (sent q (call_step c) w)) in
    let after = visited_start (machine q) (λ v. length v.flight ≤ length last.flight) (each call_step cs) next r.1 in (
      record { fresh = r.0.fresh; mute = r.0.mute; paid = omega (arith, a, b, sum_by-cons (λ (d : ℕ × Local). call_price w.net (locals_of o) d.0 d.1) c cs) },
      (omega (arith, grows, after), r.1),
    )
