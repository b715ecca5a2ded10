-- The ADSPEC of a path as soft state, of a sender at an end: how it comes and goes, by quiet steps of a network.
use Rattle.std.proofs.Common.{◌≡◌, ℕ, ◌<◌, length, Bool, true, false, cond, Option, None, Some, ◌⊎◌, inl, inr, ⊎_elim, arith, sym, refl, ap, subst, ◌∙◌}
use Rattle.std.specs.Prelude.{◌==◌}
use Rattle.rsvp_base.specs.TokenBucket.{TokenBucket}
use Rattle.rsvp_messages.specs.declared.message.Message.TheVariants as message
use Rattle.rsvp_messages.specs.declared.message.PathMsg.{PathMsg}
use Rattle.rsvp_messages.specs.RsvpObjects.declared.adspec.Adspec.{Adspec}
use Rattle.calm_rounds.specs.SoftStates.{KeepLaws, SoftState}
use Rattle.router_rules.specs.Facts.{PathState, SenderKey}
use Rattle.router_rules.specs.Inputs.{Spelt}
use Rattle.tree_model.specs.Networks.{Net, iface_of, node_of}
use Rattle.tree_model.specs.Trees.{inward}
use Rattle.tree_model.proofs.Following.{number_same, same_number}
use Rattle.network_model.specs.Steps.{Step, Track, machine}
use Rattle.network_model.specs.Worlds.{Item, World}
use Rattle.network_model.proofs.Machines.{quiet_of}
use Rattle.laws_network.specs.Known.{IsKnown}
use Rattle.laws_network.proofs.Standing.{same_end}
use Rattle.settle_paths.specs.SoftPaths.{SaysPath, path_at}
use Rattle.settle_paths.proofs.SoftPaths.{IsBrought, path_room, path_source}

-- what the path keeps, an ADSPEC or none, where it came by this interface; and when the path dies
abbrev pub adspec_by : ℕ → Option PathState → Option (Option Adspec × ℕ)
adspec_by i None = None
adspec_by i (Some x) = cond (x.iface == i) (Some (x.adspec, x.dies)) None

-- the item is a Path of the key with this ADSPEC that comes to the end, by which the sender's tree comes into its node
pub record CarriesAdspec (net : Net) (k : SenderKey) (e : ℕ) (y : Item) (a : Option Adspec) : Type 0 where
  pub end : y.end ≡ e
  pub path : PathMsg
  pub tspec : TokenBucket
  pub spelt : y.arrival ≡ Spelt (message.Path path)
  pub session : path.session ≡ k.0
  pub sender : path.sender ≡ Some (k.1, tspec)
  pub adspec : a ≡ path.adspec
  pub inward : inward net (node_of net.ends e) k.0.group k.1.addr ≡ Some e

-- so it says a path there
pub says_path : (net : Net) (k : SenderKey) (e : ℕ) (y : Item) (a : Option Adspec) (c : CarriesAdspec net k e y a) → SaysPath net k e y (c.path.hop.addr, c.tspec)
says_path net k e y a c = record { end = c.end; path = c.path; spelt = c.spelt; session = c.session; sender = c.sender; hop = refl; inward = c.inward }

abbrev pub soft_adspec : ℕ → World → SenderKey → ℕ → SoftState World Step Item Track (Option Adspec)
soft_adspec q w k e = record {
  sane = IsKnown q w;
  kept = λ u. adspec_by (iface_of w.net.ends e) (path_at u (node_of w.net.ends e) k);
  says = CarriesAdspec w.net k e;
  letter = λ y. false;
  life = λ y. 0;
  below = λ a b. a ≡ b;
  due = λ u. None;
  fires = λ s u. ⊥;
  track = None;
}

-- ---- look-up
pub adspec_found : (i : ℕ) (o : Option PathState) (a : Option Adspec) (d : ℕ) → adspec_by i o ≡ Some (a, d) → (x : PathState) × (o ≡ Some x) × (x.iface ≡ i) × (a ≡ x.adspec) × (d ≡ x.dies)
adspec_found i None a d e = absurd (cc)
adspec_found i (Some x) a d e = by (x.iface == i) refl e
  where
    by : (b : Bool) → (x.iface == i) ≡ b → ◌≡◌ {A = Option (Option Adspec × ℕ)} (cond b (Some (x.adspec, x.dies)) None) (Some (a, d))
        → (y : PathState) × (Some x ≡ Some y) × (y.iface ≡ i) × (a ≡ y.adspec) × (d ≡ y.dies)
    by true t h =
        let same : ◌≡◌ {A = Option Adspec × ℕ} (x.adspec, x.dies) (a, d) = cc in
        (x, refl, same_number x.iface i t, sym (ap (λ (z : Option Adspec × ℕ). z.0) same), sym (ap (λ (z : Option Adspec × ℕ). z.1) same))
    by false t h = absurd (cc)

pub adspec_made : (i : ℕ) (o : Option PathState) (x : PathState) → o ≡ Some x → x.iface ≡ i → adspec_by i o ≡ Some (x.adspec, x.dies)
adspec_made i o x e at = ap (adspec_by i) e ∙ ap (λ (b : Bool). cond {A = Option (Option Adspec × ℕ)} b (Some (x.adspec, x.dies)) None) (number_same x.iface i at)

-- ---- the soft state
pub adspec_keeps : (q : ℕ) (w : World) (k : SenderKey) (e : ℕ) → e < length w.net.ends → KeepLaws (machine q) (soft_adspec q w k e)
adspec_keeps q w k e lt = record {
  set = λ s u a d quiet known known' h.
      let n : ℕ = node_of w.net.ends e in
      let x = adspec_found (iface_of w.net.ends e) (path_at ((machine q).step s u) n k) a d h in
      ⊎_elim
      (λ (old : path_at u n k ≡ Some x.0).
      inl (a, adspec_made (iface_of w.net.ends e) (path_at u n k) x.0 old x.2 ∙ (λ i. Some (sym x.3 i, sym x.4 i)), refl))
      (λ (new : IsBrought q u.net s u n k x.0).
      let b : IsBrought q w.net s u n k x.0 = subst (λ (z : Net). IsBrought q z s u n k x.0) known.same.net new in
      let end : b.item.end ≡ e = same_end w.net b.item.end e b.there lt b.node (sym (ap (λ (z : PathState). z.iface) b.is) ∙ x.2) in
      inr (
        b.item,
        a,
        b.arrives,
        record {
          end = end;
          path = b.path;
          tspec = b.tspec;
          spelt = b.spelt;
          session = b.session;
          sender = b.sender;
          adspec = x.3 ∙ ap (λ (z : PathState). z.adspec) b.is;
          inward = b.inward ∙ ap Some end;
        },
        refl,
      ))
      (path_source q s u (quiet_of q s quiet) known.bounds n k x.0 x.1);
  room = λ u a d known h.
      let x = adspec_found (iface_of w.net.ends e) (path_at u (node_of w.net.ends e) k) a d h in
      let r = path_room q u (node_of w.net.ends e) k x.0 known.bounds x.1 in
      (omega (arith, r.0, x.4), omega (arith, r.1, x.4));
}
