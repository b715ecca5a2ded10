-- The lines of paths are those of the model.
use Rattle.std.proofs.Common.{◌≡◌, ℕ, ◌+◌, ◌≤◌, List, [], ◌++◌, None, Some, length, drop, refl, sym, ap, ◌∙◌, add-one}
use Rattle.std.specs.Prelude.{slice_get}
use Rattle.std.specs.List.{flat_map}
use Rattle.rsvp_messages.specs.RsvpObjects.declared.adspec.Adspec.{Adspec}
use Rattle.router_rules.specs.Adverts.{adverts_of}
use Rattle.router_rules.specs.Facts.{Facts, SenderKey}
use Rattle.router_rules.specs.NodeConfig.{NodeConfig}
use Rattle.tree_model.specs.declared.hops.End.{End}
use Rattle.network_flight.specs.Runs.{adverts_report}
use Rattle.network_flight.specs.Texts.{advert_text}
use Rattle.network_replay.proofs.Reports.{drop_all, drop_get, drop_past}

-- ---- the paths from a place on
module _ (name : List ℕ) (xs : List (SenderKey × Adspec)) where
  abbrev pub offers_behind : ℕ → List ℕ
  offers_behind k = flat_map (advert_text name) (drop k xs)

  pub one_offer : (k : ℕ) (e : SenderKey × Adspec) → slice_get xs k ≡ Some e → offers_behind k ≡ advert_text name e ++ offers_behind (k + 1)
  one_offer k e at = ap (λ (ys : List (SenderKey × Adspec)). flat_map (advert_text name) ys) (drop_get xs k e at) ∙ ap (λ m. advert_text name e ++ offers_behind m) (sym (add-one k))

  pub no_offer : (k : ℕ) → slice_get xs k ≡ None → offers_behind k ≡ []
  no_offer k at = ap (λ (ys : List (SenderKey × Adspec)). flat_map (advert_text name) ys) (drop_past xs k at)

  pub all_offered : (k : ℕ) → length xs ≤ k → offers_behind k ≡ []
  all_offered k le = ap (λ (ys : List (SenderKey × Adspec)). flat_map (advert_text name) ys) (drop_all xs k le)

-- ---- those of an interface
pub offers_are : (p : NodeConfig) (name : List ℕ) (e : End) (iface : ℕ) (f : Facts) → flat_map (advert_text name) (adverts_of f iface) ≡ adverts_report p name e iface f
unfolding adverts_of
offers_are p name e iface f = refl
