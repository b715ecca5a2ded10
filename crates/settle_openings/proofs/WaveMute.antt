-- Where nobody advertises, nobody does after a quiet step.
use Rattle.std.proofs.Common.{◌≡◌, ℕ, ◌+◌, Bool, true, false, None, Some, ⊎_elim, sym, ap, subst, ◌∙◌}
use Rattle.std.specs.Prelude.{slice_get}
use Rattle.std.specs.Option.{option_map}
use Rattle.rsvp_base.specs.Members.{In}
use Rattle.rsvp_base.specs.Sets.{Set}
use Rattle.rsvp_base.specs.Table.{get, has}
use Rattle.rsvp_messages.specs.declared.message.Message.TheVariants as message
use Rattle.rsvp_messages.specs.declared.message.PathMsg.{PathMsg}
use Rattle.laws_network.specs.Sources.{IsLocalOffer, IsPathOffer}
use Rattle.laws_network.proofs.Known.{of_some, same_kept}
use Rattle.laws_network.proofs.Sends.{sent_by_rule}
use Rattle.laws_steps.specs.SpeakingLaws.{IsOfOffer}
use Rattle.laws_steps.proofs.Speaking.{what_a_path_sent_says}
use Rattle.router_rules.specs.Facts.{Facts, PathState, SenderKey, sender_keys}
use Rattle.router_rules.specs.NodeConfig.{NodeConfig}
use Rattle.router_rules.specs.Offers.{advert_by, advert_of, own_advert}
use Rattle.router_rules.specs.Rule.{Outcome}
use Rattle.router_rules.specs.Steps.{node_step}
use Rattle.network_model.specs.Bounds.{AreBounds}
use Rattle.network_model.specs.Steps.{Step, is_quiet, ms_of, outcome, sent, step}
use Rattle.network_model.specs.Worlds.{World, config_of}
use Rattle.network_model.proofs.Machines.{in_arrived, in_flight_after}
use Rattle.network_model.proofs.Stepping.{facts_after_found, facts_after_made}
use Rattle.settle_paths.proofs.SoftPaths.{IsBrought, path_found, path_made, path_source}
use Rattle.settle_paths.specs.SoftPaths.{path_at}
use Rattle.settle_passes.proofs.Deliveries.{known_self}
use Rattle.settle_openings.specs.Waves.{HasNoAdverts}

module _ (q : ℕ) (s : Step) (u : World) (quiet : is_quiet s ≡ true) (bounds : AreBounds q u) (mute : HasNoAdverts u) where
  abbrev next : World
  next = step q s u

  own_then : (n : ℕ) (g : Facts) (k : SenderKey) → slice_get next.nodes n ≡ Some g → has g.advertised k ≡ false
  own_then n g k at =
      let f = facts_after_found q s u n g at in
      let same = (same_kept q s u quiet bounds u (known_self q u bounds).same).advertised n in
      let is : g.advertised ≡ f.0.advertised =
      of_some g.advertised f.0.advertised (sym (ap (option_map (λ (z : Facts). z.advertised)) at) ∙ same ∙ ap (option_map (λ (z : Facts). z.advertised)) f.1) in
      ap (λ (z : Set sender_keys). has z k) is ∙ mute.own n f.0 k f.1

  paths_then : (n : ℕ) (g : Facts) (k : SenderKey) (x : PathState) → slice_get next.nodes n ≡ Some g → get g.paths k ≡ Some x → x.adspec ≡ None
  paths_then n g k x at e =
      ⊎_elim
      (λ (old : path_at u n k ≡ Some x). let f = path_found u n k x old in mute.paths n f.0 k x f.1 f.2)
      (λ (new : IsBrought q u.net s u n k x). ap (λ (z : PathState). z.adspec) new.is ∙ mute.items new.item new.path (in_arrived s u new.item new.arrives) new.spelt)
      (path_source q s u quiet bounds n k x (path_made next n k x g at e))

  pub mute_then : HasNoAdverts next
  mute_then = record {
    own = own_then;
    paths = paths_then;
    items = λ y m i spelt.
        ⊎_elim (λ (old : In y u.flight). mute.items y m old spelt)
        (λ (new : (b : Bool) × In (y, b) (sent q s u)).
        let r = sent_by_rule q s u y new.0 (message.Path m) quiet new.1 spelt in
        let p : NodeConfig = config_of q u.net u.trees r.node in
        let after : Facts = (outcome q s u r.node r.facts).facts in
        let there = facts_after_made q s u r.node r.facts r.there in
        let o : IsOfOffer p after r.send m =
        subst (λ (z : Outcome). IsOfOffer p z.facts r.send m) (sym r.by.is)
        (what_a_path_sent_says.says (node_step p p u.clock (u.clock + ms_of s) r.by.input r.facts) (bounds.facts r.node r.facts r.there) r.send m r.sent r.says) in
        let silent : advert_by (slice_get p.ifaces o.key.iface) o.offer.advert ≡ None =
        ⊎_elim
        (λ (x : IsLocalOffer after o.key o.offer).
        ap (advert_by (slice_get p.ifaces o.key.iface)) (x.advert ∙ ap own_advert (own_then r.node after (o.key.session, o.key.sender) there)))
        (λ (x : IsPathOffer after o.key o.offer).
        ap (advert_by (slice_get p.ifaces o.key.iface)) (x.advert ∙ ap advert_of (paths_then r.node after (o.key.session, o.key.sender) x.path there x.there))) o.source in
        ap (λ (z : PathMsg). z.adspec) o.is ∙ silent)
        (in_flight_after q s u y quiet i);
  }
