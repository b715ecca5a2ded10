-- What is asked of a grown network is little, so it fits.
use Rattle.std.proofs.Common.{◌≡◌, ℕ, ◌≤◌, [], ◌∷◌, sym, subst, ⊎_elim, arith}
use Rattle.std.specs.Prelude.{map as each}
use Rattle.std.specs.List.{range_with_len}
use Rattle.rsvp_base.specs.Members.{In}
use Rattle.rsvp_base.proofs.Members.{in_flat_map, to_each}
use Rattle.rsvp_base.specs.declared.session.Session.{Session}
use Rattle.script_words.specs.Addresses.{of_bytes}
use Rattle.tree_model.specs.declared.hops.End.{End}
use Rattle.grown_network.specs.Grown.{asked, grown_net}
use Rattle.grown_network.specs.Hosts.{session_of, styles}
use Rattle.grown_network.specs.Nodes.{above, end_of, ends_of_link, ends_up_to}
use Rattle.grown_network.proofs.Senders.{twelve}
use Rattle.grown_network.specs.GrownDemands.{GrownDemandsFit}
use Rattle.grown_network.specs.Modest.{IsModest}
use Rattle.grown_network.proofs.WantsAsked.{is_asked, one_style}
use Rattle.grown_network.proofs.FewHops.{few_out, got_in}
use Rattle.grown_network.proofs.Modest.{fits}

-- ---- ends
pub record IsWide (x : End) : Type 0 where
  pub capacity : 16000000 ≤ x.iface.capacity
  pub mtu : 1500 ≤ x.iface.mtu

pub wide_end : (n : ℕ) (x : End) → In x (ends_up_to n) → IsWide x
unfolding ends_up_to
wide_end n x i =
    let k = in_flat_map ends_of_link x (range_with_len 1 n) i in
    ⊎_elim (λ (e : x ≡ end_of (above k.0) (of_bytes 10 1 k.0 1)). subst IsWide (sym e) (record { capacity = omega arith; mtu = omega arith }))
    (λ (j : In x (end_of k.0 (of_bytes 10 1 k.0 2) ∷ [])). ⊎_elim (λ (e : x ≡ end_of k.0 (of_bytes 10 1 k.0 2)). subst IsWide (sym e) (record { capacity = omega arith; mtu = omega arith }))
    (λ (none : ⊥). absurd none) j) k.2

pub modest : (seed : ℕ) → IsModest (grown_net seed) (asked seed)
modest seed = record {
  sessions = each session_of styles;
  few_sessions = omega arith;
  of_them = λ w i. let a = is_asked seed w i in subst (λ (s : Session). In s (each session_of styles)) (sym a.session) (to_each session_of w.style styles a.listed);
  one_style = one_style seed;
  small = λ w i. (is_asked seed w i).small;
  one_sender = λ w i. (is_asked seed w i).one_sender;
  few_senders = let e = twelve seed in omega (arith, e);
  few_hops = λ n g. few_out seed g n;
  wide = λ e x at. (wide_end 63 x (got_in (ends_up_to 63) e x at)).capacity;
  mtu = λ e x at. (wide_end 63 x (got_in (ends_up_to 63) e x at)).mtu;
}

pub grown_demands_fit : GrownDemandsFit
grown_demands_fit seed = fits (grown_net seed) (asked seed) (modest seed)
